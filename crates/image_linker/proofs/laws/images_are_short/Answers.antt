use Rattle.image_linker.proofs.Short.{images_are_short}
use Rattle.image_linker.proofs.laws.images_are_short.Goals as goal

pub returns : goal.returns
returns c = images_are_short
