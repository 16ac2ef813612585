use Rattle.image_format.proofs.Sizes.{spelling_size}
use Rattle.image_format.proofs.laws.spellings_have_sizes.Goals as goal

pub returns : goal.returns
returns c = spelling_size
