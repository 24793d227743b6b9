-- hear keeps it
use Rattle.std.proofs.Common.{◌≡◌, ℕ, ◌+◌, ◌*◌, ◌/◌, ◌<◌, ◌≤◌, true, false, List, [], ◌∷◌, ◌++◌, length, get_or, set, Some, None, Option, sym, refl, ap, ◌∙◌, subst, ⊎_elim, mul-le-mul_right, add-mul, one-mul, zero-mul, arith}
use native.Mathlib.Nat.{add-div_right, zero-div}
use lib.Ieee.Nearest.{div_mono}
use Rattle.std.proofs.lemmas.Bool.{eq-eqb, ne_eqb, cases_eq, cond-true, cond-false}
use Rattle.std.proofs.lemmas.List.{get_or-set_same, get_or-set_other, length-set}
use Rattle.config.specs.Setup.{Setup}
use Rattle.psi.specs.Packet.{Bytes}
use Rattle.psi.specs.Delivery.{deliver}
use Rattle.rules.specs.Entries.{Entry, from_on}
use Rattle.rules.specs.State.{Checked, Hearing, Parent, State, Step, out, following, in_step, parents_of, rate_of, parent_at, line_of, lose, know}
use Rattle.rules.specs.Times.{after, AfterRises, Stamp, stamped, Stamps, first_anchor, later_anchor, counted}
use Rattle.rules.specs.Calls.{HearAnswer, passed_over, dropped_it, held_it, refused_hear, LossAnswer, Wanted, Hears, bad, untimely, unanchored, unwanted, unpatched, full, holds}
use Rattle.rules.specs.Log.{Event, hear, loss, Log, News, nothing, gone, took, hear_news, loss_news, news, Tracked, tracked, tracked_on, arrival, held, delivered, Placed, news_effect, run, run_by, Tally, tally, tally_by}
use Rattle.rules.proofs.Ordered.{Rises, Atmost, rises_push, atmost_push, atmost_more, from_on_push}
use Rattle.rules.proofs.Kept.{Heard, Ok, quiet, known, ParentOk, OkAfter, Ongoing, Going, Kept}

pub no_way : {X : Type 0} → ◌≡◌ {A = ℕ} 0 1 → X
no_way e = absurd (omega arith)

-- the k-th packet after an anchor arrives after the one before it
pub after_zero : (rate : ℕ) → after rate 0 ≡ 0
unfolding after
after_zero rate = ap (λ n. n / rate) (zero-mul 40608000000) ∙ zero-div rate

-- floors of multiples of n / rate rise where n is not below rate
floor_rises : (n rate k : ℕ) → 1 ≤ rate → rate ≤ n → k * n / rate < (k + 1) * n / rate
floor_rises n rate k some more =
    let up : (k * n + rate) / rate ≤ ((k + 1) * n) / rate = div_mono _ _ _ _ some (omega arith) (mul-le-mul_right rate (omega (arith, add-mul k 1 n, one-mul n))) in
    omega (arith, add-div_right (k * n) {k = rate} some)

pub after_rises : AfterRises
unfolding after
after_rises rate k h u = floor_rises _ rate k (omega arith) (omega arith)

-- to parent q an event is this, and to each other parent it is nothing
pub record Of (q : ℕ) (e : Event) (n : News) : Type 0 where
  pub here : news q e ≡ n
  pub elsewhere : (p : ℕ) → (q ≡ p → ⊥) → news p e ≡ nothing

pub of_hear : (q : ℕ) (x : Bytes) (t : Option ℕ) (r : HearAnswer) → Of q (hear q x t r) (hear_news x t r)
of_hear q x t r = record { here = cond-true _ _ _ (eq-eqb q q refl); elsewhere = λ p ne. cond-false _ _ _ (ne_eqb q p ne) }

pub of_loss : (q : ℕ) (r : LossAnswer) → Of q (loss q r) (loss_news r)
of_loss q r = record { here = cond-true _ _ _ (eq-eqb q q refl); elsewhere = λ p ne. cond-false _ _ _ (ne_eqb q p ne) }

-- what hear finds out about a packet's time, and what was known of its parent
pub record Found (rate : ℕ) (k : Option Tracked) (l : List Entry) (P : Parent) (t : Option ℕ) (σ : Stamp) : Type 0 where
  pub tracks : tracked_on rate t k ≡ Some (record { anchor = σ.anchor; count = σ.count; heard_to = σ.arrival })
  pub counts : σ.arrival ≡ σ.anchor + after rate σ.count
  pub arrives : arrival rate k t ≡ σ.arrival
  pub line : line_of P ≡ from_on σ.from l
  pub rises : Rises l
  pub top : Atmost σ.arrival l
  pub push : (e : Entry) → e.arrival ≡ σ.arrival → Rises (l ++ e ∷ [])

module _ (rate : ℕ) (h₁ : 100_000 ≤ rate) (h₂ : rate ≤ 100_000_000) where
  pub found : (k : Option Tracked) (l : List Entry) (P : Parent) (t : Option ℕ) (σ : Stamp) → Ok rate k l P → Stamps rate P t σ → Found rate k l P t σ
  found k l P t σ (quiet pn kn ln) (first_anchor a p te small is) = subst (Found rate k l P t) (sym is) (record {
    tracks = ap (λ u. tracked_on rate u k) te;
    counts = omega (arith, after_zero rate);
    arrives = ap (arrival rate k) te;
    line = ap line_of pn ∙ sym (ap (from_on a) ln);
    rises = subst Rises (sym ln) tt;
    top = subst (Atmost a) (sym ln) tt;
    push = λ e ea. subst (λ y. Rises (y ++ e ∷ [])) (sym ln) (tt, tt);
  })
  found k l P t σ (quiet pn kn ln) (later_anchor h a p te small up is) = no_way (cc)
  found k l P t σ (quiet pn kn ln) (counted h p te few is) = no_way (cc)
  found k l P t σ (known h p ok) (first_anchor a pn te small is) = no_way (cc)
  found k l P t σ (known h p ok) (later_anchor h' a p' te small up is) =
      let one : h' ≡ h = cc in
      let until : h'.heard_to ≡ h.heard_to = ap (λ x. x.heard_to) one in
      subst (Found rate k l P t) (sym is) (record {
        tracks = ap (λ u. tracked_on rate u k) te;
        counts = omega (arith, after_zero rate);
        arrives = ap (arrival rate k) te;
        line = ap line_of p ∙ ok.line ∙ ap (λ y. from_on y.from l) (sym one);
        rises = ok.rises;
        top = atmost_more h.heard_to a l (omega arith) ok.top;
        push = λ e ea. rises_push l e h.heard_to ok.rises ok.top (omega arith);
      })
  found k l P t σ (known h p ok) (counted h' p' te few is) =
      let one : h ≡ h' = cc in
      let past : h.heard_to < h.anchor + after rate (h.count + 1) = omega (arith, ok.counts, after_rises rate h.count h₁ h₂) in
      subst (Found rate k l P t) (sym is) (subst (λ y. Found rate k l P t (record { arrival = y.anchor + after rate (y.count + 1); anchor = y.anchor; count = y.count + 1; from = y.from })) one (record {
        tracks = λ i. tracked_on rate (te i) (ok.tracks i);
        counts = refl;
        arrives = λ i. arrival rate (ok.tracks i) (te i);
        line = ap line_of p ∙ ok.line;
        rises = ok.rises;
        top = atmost_more h.heard_to _ l (omega arith) ok.top;
        push = λ e ea. rises_push l e h.heard_to ok.rises ok.top (omega arith);
      }))

-- what goes on stays so when more is known of a parent, unless its from-time changes
going_know : (c : Setup) (t : Tally) (l : List Placed) (s : State) (q : ℕ) (h : Hearing) → length s.parents ≡ parents_of c → q < parents_of c → ((h₀ : Hearing) → parent_at s q ≡ Some h₀ → h.from ≡ h₀.from) → (st : Step) → Going c t l s st → Going c t l (know q h s) st
going_know c t l s q h size k same = by
  where
    ongoing : (g e : ℕ) → Ongoing c l s g e → Ongoing c l (know q h s) g e
    ongoing g e o = record {
      newest = o.newest;
      waits = o.waits;
      froms = λ p j.
          ⊎_elim
          (λ i.
          let was = o.froms q k in
          (h, ap (λ n. get_or (set s.parents q (Some h)) n None) (sym i) ∙ get_or-set_same s.parents q (Some h) None (omega arith), same was.0 was.1 ∙ was.2))
          (λ ne. let was = o.froms p j in (was.0, get_or-set_other s.parents q p (Some h) None (λ i. ne (sym i)) ∙ was.1, was.2))
          (cases_eq q p);
      coming = o.coming;
    }

    by : (st : Step) → Going c t l s st → Going c t l (know q h s) st
    by out g = g
    by (following d) g = (g.0, g.1, g.2, ongoing g.1 g.2 g.3)
    by in_step g = (g.0, g.1, g.2, ongoing g.1 g.2 g.3)

module _ (c : Setup) (log : Log) (s : State) (kept : Kept c log s) where
  -- at parent q something is new: the others stay
  pub others : (q : ℕ) (P : Parent) (e : Event) (n : News) → Of q e n → q < parents_of c → OkAfter c log q n P → (p : ℕ) → p < parents_of c → ParentOk c (e ∷ log) p (get_or (set s.parents q P) p None)
  others q P e n of h new p k =
      ⊎_elim
      (λ i. subst (λ j. ParentOk c (e ∷ log) j (get_or (set s.parents q P) j None)) i (subst (ParentOk c (e ∷ log) q) (sym (get_or-set_same s.parents q P None (omega (arith, kept.size)))) (subst (λ y. OkAfter c log q y P) (sym of.here) new)))
      (λ ne. subst (ParentOk c (e ∷ log) p) (sym (get_or-set_other s.parents q p P None (λ i. ne (sym i)))) (subst (λ y. OkAfter c log p y (parent_at s p)) (sym (of.elsewhere p ne)) (kept.heard p k)))
      (cases_eq q p)

  -- nothing becomes of any parent
  pub unchanged : (q : ℕ) (e : Event) (n : News) → Of q e n → (q < parents_of c → OkAfter c log q n (parent_at s q)) → (p : ℕ) → p < parents_of c → ParentOk c (e ∷ log) p (parent_at s p)
  unchanged q e n of new p k =
      ⊎_elim
      (λ i. subst (λ j. ParentOk c (e ∷ log) j (parent_at s j)) i (subst (λ y. OkAfter c log q y (parent_at s q)) (sym of.here) (new (subst (λ j. j < parents_of c) (sym i) k))))
      (λ ne. subst (λ y. OkAfter c log p y (parent_at s p)) (sym (of.elsewhere p ne)) (kept.heard p k))
      (cases_eq q p)

module _ (c : Setup) (sound : Checked c) (m : ℕ) (log : Log) (s : State) (kept : Kept c log s) (q : ℕ) (x : Bytes) (t : Option ℕ) where
  -- refused with 7 or 8
  lost_so : (r : HearAnswer) → hear_news x t r ≡ gone → q < parents_of c → Kept c (hear q x t r ∷ log) (lose q s)
  lost_so r is h = record {
    size = length-set s.parents q None ∙ kept.size;
    heard = others c log s kept q None _ gone (subst (Of q (hear q x t r)) is (of_hear q x t r)) h (quiet refl refl refl);
    last = kept.last;
    chain = kept.chain;
    going = subst (λ y. Going c (tally_by c (news_effect y) log (tally c log)) (run_by c (news_effect y) log (run c log)) (lose q s) out) (sym is) (refl, refl, refl);
  }

  -- refused with 5, 6 or 9
  refused_so : (r : HearAnswer) → hear_news x t r ≡ nothing → Kept c (hear q x t r ∷ log) s
  refused_so r is = record {
    size = kept.size;
    heard = unchanged c log s kept q _ nothing (subst (Of q (hear q x t r)) is (of_hear q x t r)) (kept.heard q);
    last = kept.last;
    chain = kept.chain;
    going = subst (λ y. Going c (tally_by c (news_effect y) log (tally c log)) (run_by c (news_effect y) log (run c log)) s s.step) (sym is) kept.going;
  }

  unanchored_so : parent_at s q ≡ None → t ≡ None → Kept c (hear q x t passed_over ∷ log) s
  unanchored_so none untimed = record { size = kept.size; heard = unchanged c log s kept q _ _ (of_hear q x t passed_over) (λ h. by (kept.heard q h)); last = kept.last; chain = kept.chain; going = kept.going }
    where
      by : ParentOk c log q (parent_at s q) → OkAfter c log q (took x t false) (parent_at s q)
      by (quiet pn kn ln) = quiet pn (λ i. tracked_on (rate_of c q) (untimed i) (kn i)) ln
      by (known h' p ok) = no_way (cc)

  module _ (h : q < parents_of c) (σ : Stamp) (stamps : Stamps (rate_of c q) (parent_at s q) t σ) where
    pub finds : Found (rate_of c q) (tracked c q log) (held c q log) (parent_at s q) t σ
    finds = let in_range = sound.parents.1 q h in found (rate_of c q) in_range.0 in_range.1 _ _ _ t σ (kept.heard q h) stamps

    same_from : (h₀ : Hearing) → parent_at s q ≡ Some h₀ → σ.from ≡ h₀.from
    same_from h₀ e = by stamps
      where
        by : Stamps (rate_of c q) (parent_at s q) t σ → σ.from ≡ h₀.from
        by (first_anchor a p te small is) = no_way (cc)
        by (later_anchor h' a p te small up is) = let one : h' ≡ h₀ = cc in ap (λ y. y.from) is ∙ ap (λ y. y.from) one
        by (counted h' p te few is) = let one : h' ≡ h₀ = cc in ap (λ y. y.from) is ∙ ap (λ y. y.from) one

    knows_more : (l : List Entry) → (st : Step) → Going c (tally c log) (run c log) s st → Going c (tally c log) (run c log) (know q (stamped σ l) s) st
    knows_more l = going_know c (tally c log) (run c log) s q (stamped σ l) kept.size h same_from

    -- passed over or dropped: only times change
    heard_only : OkAfter c log q (took x t false) (Some (stamped σ (line_of (parent_at s q))))
    heard_only = known _ refl (record { tracks = finds.tracks; counts = finds.counts; line = finds.line; rises = finds.rises; top = finds.top })

    passed_so : Kept c (hear q x t passed_over ∷ log) (know q (stamped σ (line_of (parent_at s q))) s)
    passed_so = record { size = length-set s.parents q _ ∙ kept.size; heard = others c log s kept q _ _ _ (of_hear q x t passed_over) h heard_only; last = kept.last; chain = kept.chain; going = knows_more _ s.step kept.going }

    dropped_so : Kept c (hear q x t dropped_it ∷ log) (know q (stamped σ (line_of (parent_at s q))) s)
    dropped_so = record { size = length-set s.parents q _ ∙ kept.size; heard = others c log s kept q _ _ _ (of_hear q x t dropped_it) h heard_only; last = kept.last; chain = kept.chain; going = knows_more _ s.step kept.going }

    module _ (e : Entry) (wants : Wanted c q x σ e) where
      one_more : delivered (deliver c q x) (arrival (rate_of c q) (tracked c q log) t) ≡ e ∷ []
      one_more = (λ i. delivered (wants.maps i) ((finds.arrives ∙ sym wants.arrives) i))

      heard_more : OkAfter c log q (took x t true) (Some (stamped σ (line_of (parent_at s q) ++ e ∷ [])))
      heard_more = known _ refl (subst (λ y. Heard (rate_of c q) (tracked_on (rate_of c q) t (tracked c q log)) (held c q log ++ y) (stamped σ (line_of (parent_at s q) ++ e ∷ []))) (sym one_more) (record {
        tracks = finds.tracks;
        counts = finds.counts;
        line = ap (λ y. y ++ e ∷ []) finds.line ∙ sym (from_on_push σ.from (held c q log) e (omega (arith, wants.in_time, wants.arrives)));
        rises = finds.push e wants.arrives;
        top = atmost_push σ.arrival (held c q log) e finds.top (omega (arith, wants.arrives));
      }))

      held_so : Kept c (hear q x t held_it ∷ log) (know q (stamped σ (line_of (parent_at s q) ++ e ∷ [])) s)
      held_so = record { size = length-set s.parents q _ ∙ kept.size; heard = others c log s kept q _ _ _ (of_hear q x t held_it) h heard_more; last = kept.last; chain = kept.chain; going = knows_more _ s.step kept.going }

  moved_to : {r r₀ : HearAnswer} {s' s₀ : State} → r ≡ r₀ → s' ≡ s₀ → Kept c (hear q x t r₀ ∷ log) s₀ → Kept c (hear q x t r ∷ log) s'
  moved_to {r} {r₀} {s'} {s₀} er es k = subst (λ y. Kept c (hear q x t y ∷ log) s') (sym er) (subst (λ y. Kept c (hear q x t r₀ ∷ log) y) (sym es) k)

  pub keeps_hear : (r : HearAnswer) (s' : State) → Hears c m s q x t r s' → Kept c (hear q x t r ∷ log) s'
  keeps_hear r s' (Hears.short e er es) = moved_to er es (refused_so (refused_hear 5) refl)
  keeps_hear r s' (Hears.unknown e h er es) = moved_to er es (refused_so (refused_hear 6) refl)
  keeps_hear r s' (bad l g er es) = moved_to er es (lost_so (refused_hear 7) refl l.listed)
  keeps_hear r s' (untimely g u er es) = moved_to er es (lost_so (refused_hear 8) refl g.known.listed)
  keeps_hear r s' (unanchored g pn tn er es) = moved_to er es (unanchored_so pn tn)
  keeps_hear r s' (unwanted σ a why er es) = moved_to er es (passed_so a.packet.known.listed σ a.stamps)
  keeps_hear r s' (unpatched σ a wa dl er es) = moved_to er es (dropped_so a.packet.known.listed σ a.stamps)
  keeps_hear r s' (full σ e a wants fl er es) = moved_to er es (refused_so (refused_hear 9) refl)
  keeps_hear r s' (holds σ e a wants fl er es) = moved_to er es (held_so a.packet.known.listed σ a.stamps e wants)
