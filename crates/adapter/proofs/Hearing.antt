-- From what became of a packet that was taken to the rule of `hear`.
use Rattle.std.proofs.Common.{◌≡◌, ℕ, ◌<◌, ◌≤◌, Bool, true, false, cond, List, [], ◌∷◌, ◌++◌, length, get_or, set, Some, None, Ok, Err, vec_items, Option, sym, refl, ap, ◌∙◌, subst, inl, inr, ⊎_elim, arith}
use Rattle.std.proofs.lemmas.List.{get_or_default, set-get_or}
use Rattle.config.specs.Setup.{Setup}
use Rattle.memory.proofs.Shares.{length_lines}
use Rattle.memory.specs.Memory.{line_in, lines_in, backlog_in}
use Rattle.memory.specs.declared.Memory.{Memory}
use Rattle.psi.specs.Packet.{Bytes, good_packet}
use Rattle.psi.specs.Delivery.{Delivery, deliverable, deliver}
use Rattle.rules.specs.Entries.{Entry}
use Rattle.rules.specs.Calls.{refused_hear, Listed, Arrives, Wanted, Hears, unwanted, unpatched, full, holds}
use Rattle.rules.specs.State.{State, parent_at, line_of, line_room, know}
use Rattle.rules.specs.Times.{Stamp, Stamps, stamped}
use Rattle.adapter.specs.Answers.{hear_answer}
use Rattle.adapter.specs.Fields.{state_from}
use Rattle.adapter.specs.Keeping as keeping
use Rattle.adapter.specs.Parents.{parent_of, parents_by, stamp_of}
use Rattle.adapter.specs.View.{view, setup_of, entries_of}
use Rattle.adapter.specs.declared.answer.Heard.{Heard}
use Rattle.adapter.specs.declared.answer.Heard.TheVariants.{PassedOver, Dropped, Held}
use Rattle.adapter.specs.declared.answer.Refusal.{Refusal}
use Rattle.adapter.specs.declared.state.Adapter.{Adapter}
use Rattle.adapter.specs.declared.times.Times.{Times}
use Rattle.adapter.proofs.Keeping.{line_kept}
use Rattle.adapter.proofs.Views.{parents_get_or, parents_set, state-≡}

-- a packet that was delivered was good
pub delivered_good : (b : Bool) (d d' : Delivery) → Some d ≡ cond b (Some d') None → (b ≡ true) × (d ≡ d')
delivered_good true d d' e = (refl, cc)
delivered_good false d d' e = let z : ◌≡◌ {A = ℕ} 0 1 = cc in absurd (omega arith)

not_nine : {A : Type 0} (h : Heard) → hear_answer (Ok h) ≡ refused_hear 9 → A
not_nine PassedOver e = let z : ◌≡◌ {A = ℕ} 0 1 = cc in absurd (omega arith)
not_nine Dropped e = let z : ◌≡◌ {A = ℕ} 0 1 = cc in absurd (omega arith)
not_nine Held e = let z : ◌≡◌ {A = ℕ} 0 1 = cc in absurd (omega arith)

-- where the answer is a refusal the line was full, and stays
pub full_stays : {σ : Stamp} {d : Delivery} {room : ℕ} {line line' : List Entry} (e : Refusal)
    → keeping.Keeps σ d room line (hear_answer (Err e)) line' → line' ≡ line
full_stays e (keeping.passes h r l) = l
full_stays e (keeping.drops h k r l) = l
full_stays e (keeping.fills x h k a f r l) = l
full_stays e (keeping.holds x h k a f r l) = let z : ◌≡◌ {A = ℕ} 0 1 = cc in absurd (omega arith)

module _ (c : Setup) (n : ℕ) (s : State) (p : ℕ) (x : Bytes) (t : Option ℕ) (σ : Stamp) (d : Delivery) (room : ℕ) (line line' : List Entry)
    (arrives : Arrives c n s p x t σ) (maps : d ≡ deliver c p x) (roomed : room ≡ line_room c n) (waits : line ≡ line_of (parent_at s p)) where
  taken : (s' : State) → s' ≡ know p (stamped σ line') s → line' ≡ line → s' ≡ know p (stamped σ (line_of (parent_at s p))) s
  taken s' is same = is ∙ ap (λ l. know p (stamped σ l) s) (same ∙ waits)

  wanted : (e : Entry) → σ.from ≤ σ.arrival → d ≡ deliverable e.row e.bytes → e.arrival ≡ σ.arrival → Wanted c p x σ e
  wanted e h k a = record { in_time = h; maps = sym maps ∙ k; arrives = a }

  pub heard_taken : (h : Heard) (s' : State) → keeping.Keeps σ d room line (hear_answer (Ok h)) line' → s' ≡ know p (stamped σ line') s
      → Hears c n s p x t (hear_answer (Ok h)) s'
  heard_taken h s' (keeping.passes k r l) is = unwanted σ arrives (⊎_elim (λ u. inl (sym maps ∙ u)) inr k) r (taken s' is l)
  heard_taken h s' (keeping.drops k u r l) is = unpatched σ arrives k (sym maps ∙ u) r (taken s' is l)
  heard_taken h s' (keeping.fills e k u a f r l) is = not_nine h r
  heard_taken h s' (keeping.holds e k u a f r l) is =
      holds σ e arrives (wanted e k u a) (omega (arith, ap length waits, roomed)) r
      (is ∙ ap (λ l. know p (stamped σ l) s) (l ∙ ap (λ l. l ++ e ∷ []) waits))

  pub heard_full : (e : Refusal) (s' : State) → keeping.Keeps σ d room line (hear_answer (Err e)) line' → s' ≡ s
      → Hears c n s p x t (hear_answer (Err e)) s'
  heard_full e s' (keeping.passes k r l) is = let z : ◌≡◌ {A = ℕ} 0 1 = cc in absurd (omega arith)
  heard_full e s' (keeping.drops k u r l) is = let z : ◌≡◌ {A = ℕ} 0 1 = cc in absurd (omega arith)
  heard_full e s' (keeping.fills x k u a f r l) is =
      full σ x arrives (wanted x k u a) (omega (arith, ap length waits, roomed)) r is
  heard_full e s' (keeping.holds x k u a f r l) is = let z : ◌≡◌ {A = ℕ} 0 1 = cc in absurd (omega arith)

-- A listed parent of an adapter.
module _ (a : Adapter) (p : ℕ) (listed : Listed (setup_of a) (entries_of a) p) where
  pub has_line : p < length (lines_in a.memory)
  has_line =
      let low : p < length (vec_items a.config.rates) = listed.listed in
      omega (arith, length_lines a.memory, a.parents, a.config.rates.ok.0)

  pub has_place : p < length a.heard
  has_place =
      let low : p < length (vec_items a.config.rates) = listed.listed in
      omega (arith, a.config.parents.0, a.places)

  places_suffice : length (lines_in a.memory) ≤ length a.heard
  places_suffice = omega (arith, length_lines a.memory, a.parents, a.config.rates.ok.0, a.config.parents.0, a.places)

  pub parent_is : (r : Option Times) → parent_at (view a) p ≡ parent_of (get_or a.heard p r) (line_in a.memory p)
  unfolding line_in
  parent_is r =
      parents_get_or a.heard (lines_in a.memory) p has_line places_suffice
      ∙ ap (λ t. parent_of t (get_or (lines_in a.memory) p [])) (get_or_default a.heard p None r has_place)

  pub line_is : line_in a.memory p ≡ line_of (parent_at (view a) p)
  line_is = sym (ap line_of (parent_is None) ∙ line_kept (get_or a.heard p None) (line_in a.memory p) (a.quiet p))

  pub arrives_by : (x : Bytes) (t : Option ℕ) (r : Option Times) (rates : List ℕ) (times : Times) → good_packet x ≡ true → rates ≡ (setup_of a).rates
      → ((line : List Entry) → Stamps (get_or rates p 0) (parent_of (get_or a.heard p r) line) t (stamp_of times))
      → Arrives (setup_of a) (entries_of a) (view a) p x t (stamp_of times)
  arrives_by x t r rates times good same stamps =
      record {
        packet = record { known = listed; good = good };
        stamps =
            subst (λ k. Stamps k (parent_at (view a) p) t (stamp_of times)) (ap (λ l. get_or l p 0) same)
            (subst (λ P. Stamps (get_or rates p 0) P t (stamp_of times)) (sym (parent_is r)) (stamps (line_in a.memory p)));
      }

  -- the state after its times and its line changed
  pub known_by : (m : Memory Entry) (times : Times) → lines_in m ≡ set (lines_in a.memory) p (line_in m p) → backlog_in m ≡ backlog_in a.memory
      → state_from m (set a.heard p (Some times)) a.records a.step ≡ know p (stamped (stamp_of times) (line_in m p)) (view a)
  known_by m times lines backlog =
      state-≡ (ap (parents_by (set a.heard p (Some times))) lines ∙ parents_set a.heard (lines_in a.memory) p (Some times) (line_in m p)) refl refl backlog refl

  -- a full line: nothing changed
  pub same_lines : (m : Memory Entry) → lines_in m ≡ set (lines_in a.memory) p (line_in m p) → line_in m p ≡ line_in a.memory p → lines_in m ≡ lines_in a.memory
  unfolding line_in
  same_lines m lines stays = lines ∙ ap (set (lines_in a.memory) p) stays ∙ set-get_or (lines_in a.memory) p []

  pub same_state : (m : Memory Entry) → lines_in m ≡ set (lines_in a.memory) p (line_in m p) → line_in m p ≡ line_in a.memory p → backlog_in m ≡ backlog_in a.memory
      → state_from m a.heard a.records a.step ≡ view a
  same_state m lines stays backlog = state-≡ (ap (parents_by a.heard) (same_lines m lines stays)) refl refl backlog refl
