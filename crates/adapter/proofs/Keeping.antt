-- What every call keeps of the adapter's invariants.
use Rattle.std.proofs.Common.{◌≡◌, ℕ, ◌<◌, ◌≤◌, Bool, true, false, cond, ◌&&◌, ltb, ◌≢◌, List, [], ◌∷◌, ◌++◌, length, get_or, set, Some, None, Option, sym, refl, ap, ◌∙◌, subst, ⊎_elim, arith}
use Rattle.std.proofs.lemmas.List.{get_or-set_other, get_or-set_same, get_or_past, length-set}
use Rattle.std.proofs.lemmas.Bool.{cases_eq, cases_lt, ltb-true, ltb-false}
use Rattle.config.specs.Setup.{Setup}
use Rattle.memory.specs.Memory.{line_in, lines_in, SameShares, OnlyLines}
use Rattle.memory.specs.declared.Memory.{Memory}
use Rattle.rules.specs.Entries.{Entry}
use Rattle.rules.specs.Slots.{Frame}
use Rattle.rules.specs.Calls.{queued, refused_record, Records, eight, queues, InRange, Follows}
use Rattle.rules.specs.State.{State, Roomy, line_of}
use Rattle.adapter.specs.Parents.{parent_of}
use Rattle.adapter.specs.declared.times.Times.{Times}
use Rattle.adapter.proofs.Views.{state-≡}

pub never : {A : Type 0} (b : Bool) → b ≡ true → b ≡ false → A
never b p q = let z : ◌≡◌ {A = ℕ} 0 1 = cc in absurd (omega arith)

pub and_right : (a b : Bool) → true ≡ (a && b) → b ≡ true
and_right true b e = sym e
and_right false b e = never false (sym e) refl

pub and_right_false : (a b : Bool) → a ≡ true → false ≡ (a && b) → b ≡ false
and_right_false true b h e = sym e
and_right_false false b h e = never false h refl

pub same_then : (m m' m'' : Memory Entry) → SameShares m m' → SameShares m' m'' → SameShares m m''
same_then m m' m'' s t =
    record { entries = t.entries ∙ s.entries; size = t.size ∙ s.size; parents = t.parents ∙ s.parents; room = t.room ∙ s.room }

pub unchanged : (m : Memory Entry) → OnlyLines m m
unchanged m = record { backlog = refl; shares = record { entries = refl; size = refl; parents = refl; room = refl } }

-- Nothing waits in the line of a parent without anchor.
abbrev pub Quiet : List (Option Times) → Memory Entry → Type 0
Quiet heard m = (p : ℕ) → get_or heard p None ≡ None → length (line_in m p) ≡ 0

pub quiet_same : (heard : List (Option Times)) (m m' : Memory Entry) → lines_in m' ≡ lines_in m → Quiet heard m → Quiet heard m'
unfolding line_in
quiet_same heard m m' e h = λ p silent. ap (λ l. length (get_or l p [])) e ∙ h p silent

-- one parent's times and line change
pub quiet_set : (heard : List (Option Times)) (m m' : Memory Entry) (p : ℕ) (t : Option Times) (l : List Entry)
    → p < length heard → lines_in m' ≡ set (lines_in m) p l → (t ≡ None → length l ≡ 0) → Quiet heard m → Quiet (set heard p t) m'
unfolding line_in
quiet_set heard m m' p t l within e here h =
    λ q silent.
    ap (λ ls. length (get_or ls q [])) e
    ∙ ⊎_elim
    (λ (same : q ≡ p).
    let gone : t ≡ None = sym (get_or-set_same heard p t None within) ∙ subst (λ k. get_or (set heard p t) k None ≡ None) same silent in
    subst (λ k. length (get_or (set (lines_in m) p l) k []) ≡ 0) (sym same)
    (⊎_elim
    (λ (low : p < length (lines_in m)). ap length (get_or-set_same (lines_in m) p l [] low) ∙ here gone)
    (λ (high : length (lines_in m) ≤ p). ap length (get_or_past (set (lines_in m) p l) p [] (omega (arith, length-set (lines_in m) p l))))
    (cases_lt p (length (lines_in m)))))
    (λ (other : q ≢ p). ap length (get_or-set_other (lines_in m) p q l [] other) ∙ h q (sym (get_or-set_other heard p q t None other) ∙ silent))
    (cases_eq q p)

-- what waits in a parent's line, by the rules and in memory
pub line_kept : (t : Option Times) (l : List Entry) → (t ≡ None → length l ≡ 0) → line_of (parent_of t l) ≡ l
line_kept (Some t) l h = refl
line_kept None [] h = refl
line_kept None (e ∷ l) h = absurd (omega (arith, h refl))

-- A record that follows: queued, or refused where eight wait.
pub queue_rule : (c : Setup) (n : ℕ) (s : State) (f : Frame) (b : Bool) (rs : List Frame) (last : Option Frame)
    → Roomy c n → InRange c f → Follows c s.last f
    → b ≡ ltb (length s.records) 8 → rs ≡ cond b (s.records ++ f ∷ []) s.records → last ≡ cond b (Some f) s.last
    → Records c n s f (cond b queued (refused_record 11)) (record { parents = s.parents; records = rs; last = last; backlog = s.backlog; step = s.step })
queue_rule c n s f true rs last roomy range follows test waits is =
    queues roomy range follows (ltb-true _ _ (sym test)) refl (state-≡ refl waits is refl refl)
queue_rule c n s f false rs last roomy range follows test waits is =
    eight roomy range follows (ltb-false _ _ (sym test)) refl (state-≡ refl waits is refl refl)
