use Rattle.rules.proofs.Invariants.{always_sound, always_fits}
use Rattle.rules.proofs.adapter_stays_sound.Goals as goal

pub returns : goal.returns
returns c = record { sound = always_sound; fits = always_fits }
