use Rattle.section_reader.proofs.Outlining.{outline_of_whole, outline_apart}
use Rattle.section_reader.proofs.laws.outlines_have_the_items.Goals as goal

pub returns : goal.returns
returns c = record { whole = outline_of_whole; apart = outline_apart }
