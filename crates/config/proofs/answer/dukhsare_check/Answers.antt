use Rattle.config.proofs.Bounds.{small_answer}
use Rattle.config.proofs.answer.dukhsare_check.Goals as goal

pub pack-requires : goal.pack-requires
pack-requires c = small_answer _ _ c.in-Err.ensures
