use Rattle.image_linker.proofs.Bounded.{images_keep_bounds}
use Rattle.image_linker.proofs.laws.images_keep_bounds.Goals as goal

pub returns : goal.returns
returns c = images_keep_bounds
