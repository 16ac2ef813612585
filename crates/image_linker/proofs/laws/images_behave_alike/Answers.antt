use Rattle.image_linker.proofs.Modules.{images_behave_alike}
use Rattle.image_linker.proofs.laws.images_behave_alike.Goals as goal

pub returns : goal.returns
returns c = images_behave_alike
