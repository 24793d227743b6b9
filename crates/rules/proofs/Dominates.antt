-- The doubt dominates every backlog, so where it is 0 they are equal.
use Rattle.std.proofs.Common.{◌≡◌, ℕ, ◌+◌, ◌-◌, ◌≤◌, min, true, eqb, ltb, List, [], ◌∷◌, ◌++◌, length, sym, refl, ap, ◌∙◌, ⊎_elim, arith}
use Rattle.std.proofs.lemmas.Bool.{ltb-true, ltb-false, eqb-true, cond_both, or_cases, false≢true}
use Rattle.std.proofs.lemmas.List.{length_push}
use Rattle.rules.specs.Entries.{Entry}
use Rattle.rules.specs.Slots.{Turn, Use, pat, payload, join, joins, choose, stays, turn_waits, waiting, lowered, turn_doubt, doubt, reaches_zero}

join_bound : (q : ℕ) (b : List Entry) (e : Entry) (d : ℕ) → length b ≤ d → length b ≤ q → length (join q b e) ≤ min q (d + 1)
join_bound q b e d h k =
    cond_both (ltb (length b) q) (b ++ e ∷ []) b (λ l. length l ≤ min q (d + 1))
    (λ t. omega (arith, ltb-true _ _ t, length_push b e))
    (λ t. omega (arith, ltb-false _ _ t))

joins_bound : (q : ℕ) (b es : List Entry) (d : ℕ) → length b ≤ d → length b ≤ q → length (joins q b es) ≤ min q (d + length es)
joins_bound q b [] d h k = omega arith
joins_bound q b (e ∷ es) d h k =
    let one = join_bound q b e d h k in
    let rest = joins_bound q (join q b e) es (d + 1) (omega arith) (omega arith) in
    omega arith

-- a data slot takes one packet if one waits
choose_one : (b : List Entry) → length (choose b).1 ≡ length b - 1
choose_one [] = refl
choose_one (e ∷ b) = omega arith

turn_bound : (q : ℕ) (t : Turn) (b : List Entry) (d : ℕ) → length b ≤ d → length b ≤ q → length (turn_waits q t b) ≤ min q (turn_doubt q t d)
turn_bound q t b d h k = by t.use_is
  where
    all : length (joins q b t.admits) ≤ min q (d + length t.admits)
    all = joins_bound q b t.admits d h k

    by : (x : Use) → length (stays x (joins q b t.admits)) ≤ min q (lowered x (min q (d + length t.admits)))
    by (pat i) = omega (arith, all)
    by payload = omega (arith, all, choose_one (joins q b t.admits))

empty : (b : List Entry) → length b ≤ 0 → b ≡ []
empty [] h = refl
empty (e ∷ b) h = absurd (omega arith)

-- Two backlogs that the doubt bounds are equal after turns in which it was 0 once.
pub agrees : (q : ℕ) (ts : List Turn) (b₁ b₂ : List Entry) (d : ℕ) → length b₁ ≤ d → length b₂ ≤ d → length b₁ ≤ q → length b₂ ≤ q → reaches_zero q ts d ≡ true → waiting q ts b₁ ≡ waiting q ts b₂
agrees q [] b₁ b₂ d h₁ h₂ k₁ k₂ z = absurd (false≢true z)
agrees q (t ∷ ts) b₁ b₂ d h₁ h₂ k₁ k₂ z =
    let n₁ = turn_bound q t b₁ d h₁ k₁ in
    let n₂ = turn_bound q t b₂ d h₂ k₂ in
    ⊎_elim
    (λ here.
    let none = eqb-true _ _ here in
    ap (waiting q ts) (empty (turn_waits q t b₁) (omega arith) ∙ sym (empty (turn_waits q t b₂) (omega arith))))
    (λ later. agrees q ts (turn_waits q t b₁) (turn_waits q t b₂) (turn_doubt q t d) (omega arith) (omega arith) (omega arith) (omega arith) later)
    (or_cases (eqb (turn_doubt q t d) 0) (reaches_zero q ts (turn_doubt q t d)) z)

pub bound : (q : ℕ) (ts : List Turn) (b : List Entry) (d : ℕ) → length b ≤ d → length b ≤ q → (length (waiting q ts b) ≤ doubt q ts d) × (length (waiting q ts b) ≤ q)
bound q [] b d h k = (h, k)
bound q (t ∷ ts) b d h k =
    let n = turn_bound q t b d h k in
    bound q ts (turn_waits q t b) (turn_doubt q t d) (omega arith) (omega arith)
