use Rattle.image_format.proofs.Told.{places_rise}
use Rattle.image_format.proofs.image.Image.place_told.Goals as goal

pub told-requires : goal.told-requires
told-requires c = rw c.as_slice.ensures (places_rise c.self.inside.version _ c.self.inside.places c.self.invariant.places)
