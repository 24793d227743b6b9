-- Parents that all have an anchor.
use Rattle.std.proofs.Common.{◌≡◌, ℕ, suc, ◌<◌, ◌≤◌, max, leb, true, false, ◌&&◌, List, [], ◌∷◌, map, length, get_or, take, Some, None, Option, sym, refl, ap, ◌∙◌, inl, inr, ⊎_elim, arith}
use Rattle.std.specs.List.{list_all}
use Rattle.std.proofs.lemmas.Bool.{cases_lt, leb-true, le-leb, and_parts}
use Rattle.adapter.proofs.Keeping.{never}
use Rattle.rules.specs.Entries.{Entry}
use Rattle.rules.specs.Calls.{let_go, Reach, ShortOf}
use Rattle.rules.specs.Entries.{from_on}
use Rattle.rules.specs.State.{Hearing, latest}
use Rattle.rules.specs.Times.{stamped}
use Rattle.adapter.specs.Parents.{stamp_of, parent_of, parents_by, hearings, moved, latest_of, reaches}
use Rattle.adapter.specs.declared.times.Times.{Times}

abbrev pub Known : List (Option Times) → ℕ → Type 0
Known ts n = (p : ℕ) → p < n → get_or ts p None ≡ None → ⊥

pub length_parents : (ts : List (Option Times)) (ls : List (List Entry)) → length ls ≤ length ts → length (parents_by ts ls) ≡ length ls
length_parents ts [] fit = refl
length_parents [] (l ∷ ls) fit = absurd (omega arith)
length_parents (t ∷ ts) (l ∷ ls) fit = ap suc (length_parents ts ls (omega arith))

pub all_heard : (ts : List (Option Times)) (ls : List (List Entry)) → length ls ≤ length ts → Known ts (length ls) → parents_by ts ls ≡ map Some (hearings ts ls)
all_heard ts [] fit known = refl
all_heard [] (l ∷ ls) fit known = absurd (omega arith)
all_heard (None ∷ ts) (l ∷ ls) fit known = absurd (known 0 (omega arith) refl)
all_heard (Some t ∷ ts) (l ∷ ls) fit known = ap (λ ps. Some (stamped (stamp_of t) l) ∷ ps) (all_heard ts ls (omega arith) (λ p k e. known (suc p) (omega arith) e))

pub lines_heard : (ts : List (Option Times)) (ls : List (List Entry)) → length ls ≤ length ts → Known ts (length ls) → map (λ (h : Hearing). h.line) (hearings ts ls) ≡ ls
lines_heard ts [] fit known = refl
lines_heard [] (l ∷ ls) fit known = absurd (omega arith)
lines_heard (None ∷ ts) (l ∷ ls) fit known = absurd (known 0 (omega arith) refl)
lines_heard (Some t ∷ ts) (l ∷ ls) fit known = ap (λ ps. l ∷ ps) (lines_heard ts ls (omega arith) (λ p k e. known (suc p) (omega arith) e))

-- every from-time is m, and what arrived before m was let go
pub restarted_heard : (m : ℕ) (ts ts' : List (Option Times)) (ls : List (List Entry)) → length ls ≤ length ts → length ts' ≡ length ts → Known ts (length ls)
    → ((p : ℕ) (l : List Entry) → p < length ls → parent_of (get_or ts' p None) l ≡ moved m (parent_of (get_or ts p None) l))
    → parents_by ts' (map (from_on m) ls) ≡ map (λ h. Some (let_go m h)) (hearings ts ls)
restarted_heard m ts ts' [] fit same known h = refl
restarted_heard m [] ts' (l ∷ ls) fit same known h = absurd (omega arith)
restarted_heard m (t ∷ ts) [] (l ∷ ls) fit same known h = absurd (omega arith)
restarted_heard m (None ∷ ts) (t' ∷ ts') (l ∷ ls) fit same known h = absurd (known 0 (omega arith) refl)
restarted_heard m (Some t ∷ ts) (t' ∷ ts') (l ∷ ls) fit same known h =
    let first : parent_of t' (from_on m l) ≡ Some (let_go m (stamped (stamp_of t) l)) = h 0 (from_on m l) (omega arith) in
    let others = restarted_heard m ts ts' ls (omega arith) (omega arith) (λ p k e. known (suc p) (omega arith) e) (λ p l k. h (suc p) l (omega arith)) in
    cc

latest_cons : (h : Hearing) (hs : List Hearing) → latest (h ∷ hs) ≡ max h.from (latest hs)
latest_cons h [] = omega arith
latest_cons h (g ∷ hs) = refl

pub latest_heard : (ts : List (Option Times)) (ls : List (List Entry)) → length ls ≤ length ts → Known ts (length ls) → latest_of (take (length ls) ts) ≡ latest (hearings ts ls)
latest_heard ts [] fit known = refl
latest_heard [] (l ∷ ls) fit known = absurd (omega arith)
latest_heard (None ∷ ts) (l ∷ ls) fit known = absurd (known 0 (omega arith) refl)
latest_heard (Some t ∷ ts) (l ∷ ls) fit known =
    ap (max t.from) (latest_heard ts ls (omega arith) (λ p k e. known (suc p) (omega arith) e)) ∙ sym (latest_cons (stamped (stamp_of t) l) (hearings ts ls))

-- the parents that have a line were heard up to e, or one was not
pub reach_heard : (e : ℕ) (ts : List (Option Times)) (ls : List (List Entry)) → list_all (reaches e) (take (length ls) ts) ≡ true → Reach e (hearings ts ls)
reach_heard e ts [] h = tt
reach_heard e [] (l ∷ ls) h = tt
reach_heard e (None ∷ ts) (l ∷ ls) h = reach_heard e ts ls h
reach_heard e (Some t ∷ ts) (l ∷ ls) h = let both = and_parts (leb e t.heard_to) (list_all (reaches e) (take (length ls) ts)) h in (leb-true _ _ both.0, reach_heard e ts ls both.1)

pub short_heard : (e : ℕ) (ts : List (Option Times)) (ls : List (List Entry)) → list_all (reaches e) (take (length ls) ts) ≡ false → ShortOf e (hearings ts ls)
short_heard e ts [] h = never true refl h
short_heard e [] (l ∷ ls) h = never true refl h
short_heard e (None ∷ ts) (l ∷ ls) h = short_heard e ts ls h
short_heard e (Some t ∷ ts) (l ∷ ls) h =
    ⊎_elim
    (λ (early : t.heard_to < e). inl early)
    (λ (late : e ≤ t.heard_to). inr (short_heard e ts ls (sym (ap (λ b. b && list_all (reaches e) (take (length ls) ts)) (le-leb _ _ late)) ∙ h)))
    (cases_lt t.heard_to e)
