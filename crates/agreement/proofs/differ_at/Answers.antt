use Rattle.std.proofs.Common.{◌≡◌, ◌/◌, subst₂, rules}
use Rattle.std.specs.Option.{option_map}
use Rattle.agreement.specs.Agreement.{FirstDifference}
use Rattle.agreement.proofs.Slots.{slot_of_parts}
use Rattle.agreement.proofs.differ_at.Goals as goal

pub returns : goal.returns
returns c =
    let is : c.map.result ≡ option_map (λ i. i / 188) c.parts_at.result = search rules in
    rw is (subst₂ (λ x y. FirstDifference x y (option_map (λ i. i / 188) c.parts_at.result)) c.deref.ensures.value c.deref-2.ensures.value (slot_of_parts _ _ c.parts_at.result c.parts_at.ensures))
