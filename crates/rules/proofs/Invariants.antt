-- The invariants follow from what every complete log keeps.
use Rattle.std.proofs.Common.{◌≡◌, ℕ, ◌<◌, ◌≤◌, ltb, List, [], ◌∷◌, length, Some, Option, sym, ap, ◌∙◌, subst, arith}
use Rattle.std.proofs.lemmas.Bool.{ltb-false, cond_both}
use Rattle.config.specs.Setup.{Setup}
use Rattle.rules.specs.Entries.{Entry, from_on}
use Rattle.rules.specs.Slots.{Frame}
use Rattle.rules.specs.State.{Hearing, State, Step, out, following, in_step, parents_of, rate_of, parent_at}
use Rattle.rules.specs.Log.{tracked, held, Placed, Tally, tally, run, backlog_after}
use Rattle.rules.specs.Invariants.{InOrder, AllWithin, Consecutive, next_start, FromTimes, Steady, AlwaysSound, AlwaysFits}
use Rattle.rules.proofs.Ordered.{Above, Rises, Atmost}
use Rattle.rules.proofs.Kept.{Heard, quiet, known, ParentOk, Chain, Coming, Going, Kept}
use Rattle.rules.proofs.Hearing.{no_way}
use Rattle.rules.proofs.Clear.{keeps}
use Rattle.rules.proofs.Fits.{Fits, fits}
use Rattle.rules.proofs.Equal.{small}

in_order : (l : List Entry) → Rises l → InOrder l
in_order [] h = tt
in_order (e ∷ []) h = tt
in_order (e ∷ d ∷ l) h = (h.0.0, in_order (d ∷ l) h.1)

rises_from : (m : ℕ) (l : List Entry) → Rises l → Rises (from_on m l)
rises_from m [] h = tt
rises_from m (e ∷ l) h = cond_both (ltb e.arrival m) _ _ Rises (λ t. rises_from m l h.1) (λ t. h)

-- all arrive after a moment, and no later than another
all_above : (low a high : ℕ) (l : List Entry) → low ≤ a → Above a l → Atmost high l → AllWithin low high l
all_above low a high [] h up top = tt
all_above low a high (e ∷ l) h up top = (omega (arith, up.0), top.0, all_above low a high l h up.1 top.1)

within_from : (m high : ℕ) (l : List Entry) → Rises l → Atmost high l → AllWithin m high (from_on m l)
within_from m high [] h top = tt
within_from m high (e ∷ l) h top =
    cond_both (ltb e.arrival m) _ _ (AllWithin m high)
    (λ t. within_from m high l h.1 top.1)
    (λ t. let late = ltb-false _ _ t in (late, top.0, all_above m e.arrival high l late h.0 top.1))

consecutive : (c : Setup) (look : ℕ → Option Frame) (l : Option Frame) (fs : List Frame) → Chain c look l fs → Consecutive c fs
consecutive c look l [] h = tt
consecutive c look l (f ∷ []) h = tt
consecutive c look l (f ∷ g ∷ rest) h = ((h.1, h.2), consecutive c look l (g ∷ rest) h.3)

starts_at : (c : Setup) (l : Option Frame) (g e : ℕ) (fs : List Frame) → Coming c l g e fs → e ≡ next_start c fs l
starts_at c l g e [] h = sym h.3 ∙ ap (next_start c []) (sym h.1)
starts_at c l g e (f ∷ rest) h = sym h.1

going_steady : (c : Setup) (t : Tally) (l : List Placed) (s : State) (st : Step) → Going c t l s st → Steady c s st × (s.backlog ≡ backlog_after c.backlog l)
going_steady c t l s out g = (tt, g.2 ∙ sym (ap (backlog_after c.backlog) g.1))
going_steady c t l s (following d) g = (subst (FromTimes c s) (starts_at c s.last g.1 g.2 s.records g.3.coming) g.3.froms, g.3.waits)
going_steady c t l s in_step g = (subst (FromTimes c s) (starts_at c s.last g.1 g.2 s.records g.3.coming) g.3.froms, g.3.waits)

pub always_fits : AlwaysFits
always_fits c m log s leads = (fits c m leads).rooms

pub always_sound : AlwaysSound
always_sound c m log s sound leads = record {
  size = kept.size;
  few = stays.few;
  doubt = stays.small_doubt;
  ordered = λ p h k e. subst InOrder (sym (line_is p h k e).line) (in_order _ (rises_from h.from _ (line_is p h k e).rises));
  bounded = λ p h k e. subst (AllWithin h.from h.heard_to) (sym (line_is p h k e).line) (within_from h.from h.heard_to _ (line_is p h k e).rises (line_is p h k e).top);
  backlog = subst (λ y. length y ≤ c.backlog) (sym steady.1) (small c.backlog (run c log));
  records = consecutive c _ s.last s.records kept.chain;
  steady = steady.0;
}
  where
    stays : Fits c m s
    stays = fits c m leads

    kept : Kept c log s
    kept = keeps c sound m leads

    steady : Steady c s s.step × (s.backlog ≡ backlog_after c.backlog (run c log))
    steady = going_steady c (tally c log) (run c log) s s.step kept.going

    line_is : (p : ℕ) (h : Hearing) → p < parents_of c → parent_at s p ≡ Some h → Heard (rate_of c p) (tracked c p log) (held c p log) h
    line_is p h k e = by (kept.heard p k)
      where
        by : ParentOk c log p (parent_at s p) → Heard (rate_of c p) (tracked c p log) (held c p log) h
        by (quiet pn kn ln) = no_way (cc)
        by (known h₀ p₀ ok) = let same : h₀ ≡ h = cc in subst (Heard (rate_of c p) (tracked c p log) (held c p log)) same ok
