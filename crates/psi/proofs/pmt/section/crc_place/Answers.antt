use Rattle.std.proofs.Common.{◌-◌, ap, ◌∙◌, arith}
use Rattle.std.proofs.lemmas.Bool.{ltb-true}
use Rattle.psi.proofs.Shapes.{Fixed, fixed_from, fixed_not}
use Rattle.psi.proofs.pmt.section.crc_place.Goals as goal

pub returns-in_default : goal.returns-in_default
returns-in_default c = fixed_not c.args.bytes.now (λ f. omega (arith, ltb-true))

pub returns-in_default-2 : goal.returns-in_default-2
returns-in_default-2 c = fixed_not c.args.bytes.now (λ f. omega arith)

pub returns-in_default-3 : goal.returns-in_default-3
returns-in_default-3 c = fixed_not c.args.bytes.now (λ f. omega arith)

pub returns-in_default-4 : goal.returns-in_default-4
returns-in_default-4 c = fixed_not c.args.bytes.now (λ f. omega arith)

pub returns-then-high-lt128 : goal.returns-then-high-lt128
returns-then-high-lt128 c = fixed_not c.args.bytes.now (λ f. grind arith)

pub returns-then-from-length : goal.returns-then-from-length
returns-then-from-length c = fixed_not c.args.bytes.now (λ f. omega arith)

pub returns : goal.returns
returns c =
    let fixed : Fixed c.args.bytes.now =
    record { table = omega arith; syntax = omega arith; least = omega arith; most = omega arith; whole = omega arith; first = omega arith; last = omega arith; room = omega arith } in
    (fixed_from c.args.bytes.now fixed, ap (λ n. n - 1) (c.from-length.ensures ∙ c.number_in.ensures), omega arith)
