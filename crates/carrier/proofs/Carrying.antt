-- Puts one after another, and when one is not refused: for code over any carrier.
use Rattle.std.proofs.Common.{◌≡◌, ℕ, ◌<◌, List, [], ◌++◌, Some, None, sym, refl, ap, ◌∙◌, append_assoc, arith, length-append}
use Rattle.std.proofs.lemmas.List.{append-nil}
use Rattle.std.proofs.lemmas.Bool.{and_from, eq-eqb, ne_eqb, cond-true, cond-false}
use Rattle.psi.specs.Packet.{Bytes, Framed}
use Rattle.carrier.specs.Meaning.{Meaning, Carried, refusal}

pub carried_none : (m : Meaning) → Carried [] m m
carried_none m = record { packets = sym (append-nil m.packets); capacity = refl; at_most = omega arith; no_more = omega arith }

pub carried_more : {ps qs : List Bytes} {a b d : Meaning} → Carried ps a b → Carried qs b d → Carried (ps ++ qs) a d
carried_more {ps} {qs} {a} {b} {d} first second =
    record {
      packets = second.packets ∙ ap (λ l. l ++ qs) first.packets ∙ append_assoc a.packets ps qs;
      capacity = second.capacity ∙ first.capacity;
      at_most = omega (arith, length-append ps qs);
      no_more = omega arith;
    }

-- a packet is not refused where a place is free
pub not_refused : (x : Bytes) (free number : ℕ) → Framed x → 0 < free → Some number ≡ refusal x free → ⊥
not_refused x free number good some refused =
    let taken : refusal x free ≡ None =
    cond-true _ _ _ (and_from _ _ (eq-eqb _ _ good.long) (eq-eqb _ _ good.sync)) ∙ cond-false _ _ _ (ne_eqb free 0 (λ none. omega arith))
    in
    let never : Some number ≡ None = refused ∙ taken in
    grind arith
