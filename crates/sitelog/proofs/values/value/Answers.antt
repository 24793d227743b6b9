use Rattle.std.proofs.Common.{◌+◌, ◌-◌, ◌*◌, ◌^◌, slice_index_or, drop, sym, ◌∙◌, arith}
use Rattle.config.specs.Text.{written, written_after}
use Rattle.sitelog.proofs.Digits.{written_step, written_grows, too_large}
use Rattle.sitelog.proofs.values.value.Goals as goal

pub returns-in_err-checked_mul : goal.returns-in_err-checked_mul
returns-in_err-checked_mul c =
    let w = c.args.word.now in
    let i = c.loop-b.b-index in
    let n = c.loop-b.n in
    let more = n * 10 + (slice_index_or w i 0 - 48) in
    c.from_residual.ensures
    ∙ sym (too_large (2 ^ 64) (written w) (written_after more (drop (i + 1) w)) (c.loop-b.invariant.1 ∙ written_step w i c.loop-b-test.true n) (omega (arith, written_grows more (drop (i + 1) w), c.in_err-checked_mul.ensures)))

pub returns-in_err-n : goal.returns-in_err-n
returns-in_err-n c =
    let w = c.args.word.now in
    let i = c.loop-b.b-index in
    let n = c.loop-b.n in
    let more = n * 10 + (slice_index_or w i 0 - 48) in
    c.from_residual-in_err-n.ensures
    ∙ sym (too_large (2 ^ 64) (written w) (written_after more (drop (i + 1) w)) (c.loop-b.invariant.1 ∙ written_step w i c.loop-b-test.true n)
    (omega (arith, written_grows more (drop (i + 1) w), c.in_err-n.ensures, c.in_ok-checked_mul.ensures.1, c.from.ensures)))
