use Rattle.rv_isa.proofs.SoundLaws.{steps_stay_sound, runs_stay_sound}
use Rattle.rv_isa.proofs.laws.range_law.Goals as goal

pub returns : goal.returns
returns c = record { step = steps_stay_sound; run = runs_stay_sound }
