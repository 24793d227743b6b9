-- Parents and states put together from their parts.
use Rattle.std.proofs.Common.{◌≡◌, ℕ, zero, suc, ◌<◌, ◌≤◌, List, [], ◌∷◌, length, get_or, set, replicate, None, Option, sym, refl, ap, subst, arith}
use mathlib.Core.Logic.{∥∥₁_map}
use Rattle.config.specs.Setup.{Setup}
use Rattle.rules.specs.Entries.{Entry}
use Rattle.rules.specs.Slots.{Frame}
use Rattle.rules.specs.Log.{Log, Leads, next, Event, Took}
use Rattle.rules.specs.State.{State, Step, Parent}
use Rattle.adapter.specs.Fields.{Reached}
use Rattle.adapter.specs.Parents.{parent_of, parents_by}
use Rattle.adapter.specs.declared.times.Times.{Times}

pub parents_set : (ts : List (Option Times)) (ls : List (List Entry)) (p : ℕ) (t : Option Times) (l : List Entry)
    → parents_by (set ts p t) (set ls p l) ≡ set (parents_by ts ls) p (parent_of t l)
parents_set ts [] p t l = refl
parents_set [] (k ∷ ls) zero t l = refl
parents_set [] (k ∷ ls) (suc p) t l = refl
parents_set (x ∷ ts) (k ∷ ls) zero t l = refl
parents_set (x ∷ ts) (k ∷ ls) (suc p) t l = ap (λ ps. parent_of x k ∷ ps) (parents_set ts ls p t l)

pub parents_get_or : (ts : List (Option Times)) (ls : List (List Entry)) (p : ℕ) → p < length ls → length ls ≤ length ts
    → get_or (parents_by ts ls) p None ≡ parent_of (get_or ts p None) (get_or ls p [])
parents_get_or ts [] p h fit = absurd (omega arith)
parents_get_or [] (k ∷ ls) p h fit = absurd (omega arith)
parents_get_or (x ∷ ts) (k ∷ ls) zero h fit = refl
parents_get_or (x ∷ ts) (k ∷ ls) (suc p) h fit = parents_get_or ts ls p (omega arith) (omega arith)

pub parents_none : (k n : ℕ) → n ≤ k → parents_by (replicate k None) (replicate n []) ≡ replicate n None
parents_none k zero h = refl
parents_none zero (suc n) h = absurd (omega arith)
parents_none (suc k) (suc n) h = ap (λ ps. None ∷ ps) (parents_none k n (omega arith))

-- equal parts make equal states
pub state-≡ : {ps ps' : List Parent} {rs rs' : List Frame} {l l' : Option Frame} {b b' : List Entry} {s s' : Step}
    → ps ≡ ps' → rs ≡ rs' → l ≡ l' → b ≡ b' → s ≡ s'
    → ◌≡◌ {A = State} (record { parents = ps; records = rs; last = l; backlog = b; step = s }) (record { parents = ps'; records = rs'; last = l'; backlog = b'; step = s' })
state-≡ p r l b s = cc

-- one more event
pub reached_by : {c : Setup} {entries entries' : ℕ} {s s' : State} (e : Event) → entries' ≡ entries → Took c entries s e s' → Reached c entries s → Reached c entries' s'
reached_by {c = c} {entries = entries} {s = s} {s' = s'} e same took h =
    subst (λ n. Reached c n s') (sym same) (∥∥₁_map h (λ (l : (log : Log) × Leads c entries log s). (e ∷ l.0, next l.1 e took)))
