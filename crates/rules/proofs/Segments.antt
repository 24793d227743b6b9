-- What a log holds of a parent comes from the packets taken since its last loss.
use Rattle.std.proofs.Common.{◌≡◌, ℕ, ◌+◌, ◌<◌, ◌≤◌, true, false, ltb, ◌⊎◌, List, [], ◌∷◌, ◌++◌, get_or, set, Some, None, Option, sym, refl, ap, ◌∙◌, subst, ⊎_elim, append_assoc, append-nil, arith}
use Rattle.std.proofs.lemmas.Bool.{cases_eq, cond-true, lt-ltb}
use Rattle.std.proofs.lemmas.List.{get_or-set_same, get_or-set_other}
use Rattle.config.specs.Setup.{Setup}
use Rattle.psi.specs.Packet.{Bytes}
use Rattle.psi.specs.Delivery.{unmapped, unpatchable, deliver}
use Rattle.rules.specs.Entries.{Entry}
use Rattle.rules.specs.State.{Checked, Hearing, Parent, State, parents_of, rate_of, parent_at}
use Rattle.rules.specs.Times.{after, most_counted, Stamp, stamped, Stamps, first_anchor, later_anchor, counted}
use Rattle.rules.specs.Calls.{HearAnswer, passed_over, dropped_it, held_it, refused_hear, Hears, bad, untimely, unanchored, unwanted, unpatched, full, holds}
use Rattle.rules.specs.Log.{Event, hear, Log, News, nothing, gone, took, tracked, arrival, held, held_by, delivered, within}
use Rattle.rules.specs.Laws.{Stream, Anchor, stamp, onward, taken, taken_by}
use Rattle.rules.proofs.Streams.{offer, offered, anchored, anchored_append, offered_append, within_append, offer_early, Ends, at_anchor, at_packet}
use Rattle.rules.proofs.Kept.{quiet, known, ParentOk, Kept}
use Rattle.rules.proofs.Hearing.{no_way, Of, of_hear, finds}

abbrev pub begun : ℕ → Option Anchor
begun z = Some (record { time = z; count = 0 })

-- the packets taken: from some anchor on they bring all that is held and arrives from the from-time on
pub record Segment (c : Setup) (p : ℕ) (tk : Stream) (hl : List Entry) (h : Hearing) : Type 0 where
  pub us : Stream
  pub x : Bytes
  pub z : ℕ
  pub vs : Stream
  pub split : tk ≡ us ++ ((x, Some z) ∷ vs)
  pub anchors : anchored (begun z) vs ≡ Some (record { time = h.anchor; count = h.count })
  pub ends : Ends (rate_of c p) z vs h.heard_to
  pub low : z ≤ h.from
  pub offers : (b e : ℕ) → h.from ≤ b → within b e hl ≡ within b e (offer c p (Some z) x ++ offered c p (begun z) vs)

pub data TakenOk (c : Setup) (p : ℕ) (tk : Stream) (hl : List Entry) (P : Parent) : Type 0 where
  unheard : P ≡ None → TakenOk c p tk hl P
  heard : (h : Hearing) → P ≡ Some h → Segment c p tk hl h → TakenOk c p tk hl P

-- one packet more, which arrives at a: what joins what is held is what it brings from w on
abbrev Brings : Setup → ℕ → Bytes → ℕ → ℕ → List Entry → List Entry → Type 0
Brings c p x a w hl hl' = (b e : ℕ) → w ≤ b → within b e hl' ≡ within b e hl ++ within b e (offer c p (Some a) x)

-- what was known of the parent as an anchor
abbrev at_anchor_of : Hearing → Option Anchor
at_anchor_of h = Some (record { time = h.anchor; count = h.count })

module _ (c : Setup) (p : ℕ) (tk : Stream) (hl hl' : List Entry) (P : Parent) (ok : TakenOk c p tk hl P) (x : Bytes) (t : Option ℕ) where
  longer : (σ : Stamp) (l : List Entry) → Brings c p x σ.arrival σ.from hl hl' → (h : Hearing) → Segment c p tk hl h → σ.from ≡ h.from → stamp (rate_of c p) (at_anchor_of h) t ≡ Some σ.arrival → onward (at_anchor_of h) t ≡ Some (record { time = σ.anchor; count = σ.count }) → Segment c p (tk ++ (x, t) ∷ []) hl' (stamped σ l)
  longer σ l brings h g wf at on = record {
    us = g.us;
    x = g.x;
    z = g.z;
    vs = g.vs ++ (x, t) ∷ [];
    split = ap (λ y. y ++ (x, t) ∷ []) g.split ∙ append_assoc g.us ((g.x, Some g.z) ∷ g.vs) ((x, t) ∷ []);
    anchors = anchored_append (begun g.z) g.vs ((x, t) ∷ []) ∙ ap (λ y. onward y t) g.anchors ∙ on;
    ends = at_packet g.vs (x, t) refl (ap (λ y. stamp (rate_of c p) y t) g.anchors ∙ at);
    low = omega (arith, g.low);
    offers = λ b e h'.
        brings b e h'
        ∙ ap (λ y. y ++ within b e (offer c p (Some σ.arrival) x)) (g.offers b e (omega arith))
        ∙ sym (within_append b e (offer c p (Some g.z) g.x ++ offered c p (begun g.z) g.vs) (offer c p (Some σ.arrival) x))
        ∙ ap (within b e) (append_assoc (offer c p (Some g.z) g.x) (offered c p (begun g.z) g.vs) (offer c p (Some σ.arrival) x))
        ∙ ap (λ y. within b e (offer c p (Some g.z) g.x ++ y)) (sym (offered_append c p (begun g.z) g.vs ((x, t) ∷ []) ∙ ap (λ y. offered c p (begun g.z) g.vs ++ y) (append-nil _ ∙ ap (λ y. offer c p y x) (ap (λ y. stamp (rate_of c p) y t) g.anchors ∙ at))));
  }

  -- P is what was known, and quiet parents hold nothing
  more : (σ : Stamp) (l : List Entry) → Brings c p x σ.arrival σ.from hl hl' → (P ≡ None → hl ≡ []) → Stamps (rate_of c p) P t σ → TakenOk c p (tk ++ (x, t) ∷ []) hl' (Some (stamped σ l))
  more σ l brings empty (first_anchor a pn te small is) =
      let brings-so : Brings c p x a a hl hl' = subst (λ y. Brings c p x y.arrival y.from hl hl') is brings in
      subst (λ y. TakenOk c p (tk ++ (x, t) ∷ []) hl' (Some (stamped y l))) (sym is) (heard _ refl (record {
        us = tk;
        x = x;
        z = a;
        vs = [];
        split = ap (λ y. tk ++ (x, y) ∷ []) te;
        anchors = refl;
        ends = at_anchor refl refl;
        low = omega arith;
        offers = λ b e h'. brings-so b e h' ∙ ap (λ y. within b e y ++ within b e (offer c p (Some a) x)) (empty pn) ∙ ap (within b e) (sym (append-nil (offer c p (Some a) x)));
      }))
  more σ l brings empty (later_anchor h a p' te small up is) = by ok
    where
      by : TakenOk c p tk hl P → TakenOk c p (tk ++ (x, t) ∷ []) hl' (Some (stamped σ l))
      by (unheard pn) = no_way (cc)
      by (heard h₀ p₀ g) =
          let same : h ≡ h₀ = cc in
          heard _ refl (longer σ l brings h₀ g (ap (λ y. y.from) is ∙ ap (λ y. y.from) same)
          (ap (stamp (rate_of c p) (at_anchor_of h₀)) te ∙ ap (λ y. Some y.arrival) (sym is))
          (ap (onward (at_anchor_of h₀)) te ∙ ap (λ (y : Stamp). Some (record { time = y.anchor; count = y.count })) (sym is)))
  more σ l brings empty (counted h p' te few is) = by ok
    where
      by : TakenOk c p tk hl P → TakenOk c p (tk ++ (x, t) ∷ []) hl' (Some (stamped σ l))
      by (unheard pn) = no_way (cc)
      by (heard h₀ p₀ g) =
          let same : h ≡ h₀ = cc in
          let is₀ = is ∙ ap (λ y. record { arrival = y.anchor + after (rate_of c p) (y.count + 1); anchor = y.anchor; count = y.count + 1; from = y.from }) same in
          let in_time : ltb h₀.count most_counted ≡ true = lt-ltb _ _ (omega (arith, ap (λ y. y.count) same)) in
          heard _ refl (longer σ l brings h₀ g (ap (λ y. y.from) is₀)
          (ap (stamp (rate_of c p) (at_anchor_of h₀)) te ∙ cond-true _ _ _ in_time ∙ ap (λ y. Some y.arrival) (sym is₀))
          (ap (onward (at_anchor_of h₀)) te ∙ cond-true _ _ _ in_time ∙ ap (λ (y : Stamp). Some (record { time = y.anchor; count = y.count })) (sym is₀)))

abbrev pub TakenAll : Setup → Log → State → Type 0
TakenAll c log s = (p : ℕ) → p < parents_of c → TakenOk c p (taken p log) (held c p log) (parent_at s p)

-- the same of one parent after one more event that is this to it
abbrev pub TakenAfter : Setup → Log → ℕ → News → Parent → Type 0
TakenAfter c log p n P = TakenOk c p (taken_by n (taken p log)) (held_by c p n (tracked c p log) (held c p log)) P

module _ (c : Setup) (log : Log) (s : State) (kept : Kept c log s) (was : TakenAll c log s) where
  pub new_at : (q : ℕ) (P : Parent) (e : Event) (n : News) → Of q e n → q < parents_of c → TakenAfter c log q n P → (p : ℕ) → p < parents_of c → TakenOk c p (taken p (e ∷ log)) (held c p (e ∷ log)) (get_or (set s.parents q P) p None)
  new_at q P e n of h new p k =
      ⊎_elim
      (λ i. subst (λ j. TakenOk c j (taken j (e ∷ log)) (held c j (e ∷ log)) (get_or (set s.parents q P) j None)) i (subst (TakenOk c q (taken q (e ∷ log)) (held c q (e ∷ log))) (sym (get_or-set_same s.parents q P None (omega (arith, kept.size)))) (subst (λ y. TakenAfter c log q y P) (sym of.here) new)))
      (λ ne. subst (TakenOk c p (taken p (e ∷ log)) (held c p (e ∷ log))) (sym (get_or-set_other s.parents q p P None (λ i. ne (sym i)))) (subst (λ y. TakenAfter c log p y (parent_at s p)) (sym (of.elsewhere p ne)) (was p k)))
      (cases_eq q p)

  pub none_new : (q : ℕ) (e : Event) (n : News) → Of q e n → (q < parents_of c → TakenAfter c log q n (parent_at s q)) → TakenAll c (e ∷ log) s
  none_new q e n of new p k =
      ⊎_elim
      (λ i. subst (λ j. TakenOk c j (taken j (e ∷ log)) (held c j (e ∷ log)) (parent_at s j)) i (subst (λ y. TakenAfter c log q y (parent_at s q)) (sym of.here) (new (subst (λ j. j < parents_of c) (sym i) k))))
      (λ ne. subst (λ y. TakenAfter c log p y (parent_at s p)) (sym (of.elsewhere p ne)) (was p k))
      (cases_eq q p)

  silent_empty : (q : ℕ) → q < parents_of c → parent_at s q ≡ None → held c q log ≡ []
  silent_empty q h e = by (kept.heard q h)
    where
      by : ParentOk c log q (parent_at s q) → held c q log ≡ []
      by (quiet pn kn ln) = ln
      by (known h' p ok) = no_way (cc)

  module _ (sound : Checked c) (m q : ℕ) (x : Bytes) (t : Option ℕ) where
    module _ (h : q < parents_of c) (σ : Stamp) (stamps : Stamps (rate_of c q) (parent_at s q) t σ) where
      unmapped_brings : (deliver c q x ≡ unmapped) ⊎ (σ.arrival < σ.from) → Brings c q x σ.arrival σ.from (held c q log) (held c q log)
      unmapped_brings why b e wb = sym (append-nil _) ∙ ap (λ y. within b e (held c q log) ++ y) (sym (⊎_elim (λ d. ap (λ y. within b e (delivered y σ.arrival)) d) (λ lt. offer_early c q b e σ.arrival x (omega arith)) why))

      unpatched_brings : deliver c q x ≡ unpatchable → Brings c q x σ.arrival σ.from (held c q log) (held c q log)
      unpatched_brings d b e wb = sym (append-nil _) ∙ ap (λ y. within b e (held c q log) ++ y) (sym (ap (λ y. within b e (delivered y σ.arrival)) d))

      held_brings : Brings c q x σ.arrival σ.from (held c q log) (held c q log ++ delivered (deliver c q x) (arrival (rate_of c q) (tracked c q log) t))
      held_brings b e wb = within_append b e (held c q log) _ ∙ ap (λ y. within b e (held c q log) ++ within b e (delivered (deliver c q x) y)) (finds c sound m log s kept q x t h σ stamps).arrives

      one_more : (hl' l : List Entry) → Brings c q x σ.arrival σ.from (held c q log) hl' → TakenOk c q (taken q log ++ (x, t) ∷ []) hl' (Some (stamped σ l))
      one_more hl' l brings = more c q (taken q log) (held c q log) hl' (parent_at s q) (was q h) x t σ l brings (silent_empty q h) stamps

    moved_to : {r r₀ : HearAnswer} {s' s₀ : State} → r ≡ r₀ → s' ≡ s₀ → TakenAll c (hear q x t r₀ ∷ log) s₀ → TakenAll c (hear q x t r ∷ log) s'
    moved_to {r} {r₀} {s'} {s₀} er es k = subst (λ y. TakenAll c (hear q x t y ∷ log) s') (sym er) (subst (λ y. TakenAll c (hear q x t r₀ ∷ log) y) (sym es) k)

    pub taken_hear : (r : HearAnswer) (s' : State) → Hears c m s q x t r s' → TakenAll c (hear q x t r ∷ log) s'
    taken_hear r s' (Hears.short e er es) = moved_to er es (none_new q _ nothing (of_hear q x t (refused_hear 5)) (was q))
    taken_hear r s' (Hears.unknown e h er es) = moved_to er es (none_new q _ nothing (of_hear q x t (refused_hear 6)) (was q))
    taken_hear r s' (bad l g er es) = moved_to er es (new_at q None _ gone (of_hear q x t (refused_hear 7)) l.listed (unheard refl))
    taken_hear r s' (untimely g u er es) = moved_to er es (new_at q None _ gone (of_hear q x t (refused_hear 8)) g.known.listed (unheard refl))
    taken_hear r s' (unanchored g pn tn er es) = moved_to er es (none_new q _ _ (of_hear q x t passed_over) (λ k. unheard pn))
    taken_hear r s' (unwanted σ a why er es) = let h = a.packet.known.listed in moved_to er es (new_at q _ _ (took x t false) (of_hear q x t passed_over) h (one_more h σ a.stamps (held c q log) _ (unmapped_brings h σ a.stamps why)))
    taken_hear r s' (unpatched σ a wa dl er es) = let h = a.packet.known.listed in moved_to er es (new_at q _ _ (took x t false) (of_hear q x t dropped_it) h (one_more h σ a.stamps (held c q log) _ (unpatched_brings h σ a.stamps dl)))
    taken_hear r s' (full σ e a wants fl er es) = moved_to er es (none_new q _ nothing (of_hear q x t (refused_hear 9)) (was q))
    taken_hear r s' (holds σ e a wants fl er es) = let h = a.packet.known.listed in moved_to er es (new_at q _ _ (took x t true) (of_hear q x t held_it) h (one_more h σ a.stamps _ _ (held_brings h σ a.stamps)))
