-- What was held is what the streams deliver.
use Rattle.std.proofs.Common.{◌≡◌, ℕ, suc, ◌+◌, ◌<◌, ◌≤◌, Bool, true, false, cond, ◌&&◌, ltb, leb, List, [], ◌∷◌, ◌++◌, length, get_or, Some, None, Option, sym, refl, ap, ◌∙◌, subst, append_assoc, append-nil, arith}
use Rattle.std.proofs.lemmas.Bool.{cond-false, lt-leb, le-ltb, and_left, and_right}
use Rattle.std.proofs.lemmas.List.{get_or_append_left, get_or_at, get_or-append-add}
use Rattle.config.specs.Setup.{Setup}
use Rattle.psi.specs.Packet.{Bytes}
use Rattle.psi.specs.Delivery.{Delivery, unmapped, unpatchable, deliverable, deliver}
use Rattle.rules.specs.Entries.{Entry}
use Rattle.rules.specs.State.{rate_of}
use Rattle.rules.specs.Log.{within, delivered}
use Rattle.rules.specs.Laws.{Handed, Stream, Anchor, stamp, onward, times, Rising}

-- what a packet that arrives then brings, and what a stream brings in all
abbrev pub offer : Setup → ℕ → Option ℕ → Bytes → List Entry
offer c p None x = []
offer c p (Some a) x = delivered (deliver c p x) a

abbrev pub offered : Setup → ℕ → Option Anchor → Stream → List Entry
offered c p k [] = []
offered c p k (h ∷ hs) = offer c p (stamp (rate_of c p) k h.1) h.0 ++ offered c p (onward k h.1) hs

abbrev pub anchored : Option Anchor → Stream → Option Anchor
anchored k [] = k
anchored k (h ∷ hs) = anchored (onward k h.1) hs

pub anchored_append : (k : Option Anchor) (l r : Stream) → anchored k (l ++ r) ≡ anchored (anchored k l) r
anchored_append k [] r = refl
anchored_append k (h ∷ l) r = anchored_append (onward k h.1) l r

pub offered_append : (c : Setup) (p : ℕ) (k : Option Anchor) (l r : Stream) → offered c p k (l ++ r) ≡ offered c p k l ++ offered c p (anchored k l) r
offered_append c p k [] r = refl
offered_append c p k (h ∷ l) r = ap (λ y. offer c p (stamp (rate_of c p) k h.1) h.0 ++ y) (offered_append c p (onward k h.1) l r) ∙ sym (append_assoc (offer c p (stamp (rate_of c p) k h.1) h.0) (offered c p (onward k h.1) l) (offered c p (anchored (onward k h.1) l) r))

pub times_append : (rate : ℕ) (k : Option Anchor) (l r : Stream) → times rate k (l ++ r) ≡ times rate k l ++ times rate (anchored k l) r
times_append rate k [] r = refl
times_append rate k (h ∷ l) r = ap (λ y. stamp rate k h.1 ∷ y) (times_append rate (onward k h.1) l r)

-- times before z, and after z
abbrev pub Early : ℕ → List (Option ℕ) → Type 0
Early z [] = Unit {0}
Early z (None ∷ ts) = Early z ts
Early z (Some a ∷ ts) = (a < z) × Early z ts

abbrev pub Late : ℕ → List (Option ℕ) → Type 0
Late z [] = Unit {0}
Late z (None ∷ ts) = Late z ts
Late z (Some a ∷ ts) = (z < a) × Late z ts

early_from : (z : ℕ) (ts : List (Option ℕ)) → ((i a : ℕ) → i < length ts → get_or ts i None ≡ Some a → a < z) → Early z ts
early_from z [] each = tt
early_from z (None ∷ ts) each = early_from z ts (λ i a k e. each (suc i) a (omega arith) e)
early_from z (Some a ∷ ts) each = (each 0 a (omega arith) refl, early_from z ts (λ i a k e. each (suc i) a (omega arith) e))

late_from : (z : ℕ) (ts : List (Option ℕ)) → ((i a : ℕ) → get_or ts i None ≡ Some a → z < a) → Late z ts
late_from z [] each = tt
late_from z (None ∷ ts) each = late_from z ts (λ i a e. each (suc i) a e)
late_from z (Some a ∷ ts) each = (each 0 a refl, late_from z ts (λ i a e. each (suc i) a e))

pub within_append : (b e : ℕ) (l r : List Entry) → within b e (l ++ r) ≡ within b e l ++ within b e r
within_append b e [] r = refl
within_append b e (x ∷ l) r = by (leb b x.arrival && ltb x.arrival e) (within_append b e l r)
  where
    by : (t : Bool) → within b e (l ++ r) ≡ within b e l ++ within b e r → cond t (x ∷ within b e (l ++ r)) (within b e (l ++ r)) ≡ cond t (x ∷ within b e l) (within b e l) ++ within b e r
    by true ih = ap (λ y. x ∷ y) ih
    by false ih = ih

-- one packet's entry, outside
pub offer_early : (c : Setup) (p b e a : ℕ) (x : Bytes) → a < b → within b e (offer c p (Some a) x) ≡ []
offer_early c p b e a x h = by (deliver c p x)
  where
    by : (d : Delivery) → within b e (delivered d a) ≡ []
    by unmapped = refl
    by unpatchable = refl
    by (deliverable row bytes) = cond-false _ _ _ (and_left _ _ (lt-leb b a h))

offer_late : (c : Setup) (p b e a : ℕ) (x : Bytes) → e ≤ a → within b e (offer c p (Some a) x) ≡ []
offer_late c p b e a x h = by (deliver c p x)
  where
    by : (d : Delivery) → within b e (delivered d a) ≡ []
    by unmapped = refl
    by unpatchable = refl
    by (deliverable row bytes) = cond-false _ _ _ (and_right _ _ (le-ltb a e h))

none_early : (c : Setup) (p b e z : ℕ) (k : Option Anchor) (l : Stream) → z ≤ b → Early z (times (rate_of c p) k l) → within b e (offered c p k l) ≡ []
none_early c p b e z k [] h t = refl
none_early c p b e z k (y ∷ l) h t =
    within_append b e (offer c p (stamp (rate_of c p) k y.1) y.0) (offered c p (onward k y.1) l)
    ∙ by (stamp (rate_of c p) k y.1) (λ u. none_early c p b e z (onward k y.1) l h u) t
  where
    by : (o : Option ℕ) → (Early z (times (rate_of c p) (onward k y.1) l) → within b e (offered c p (onward k y.1) l) ≡ []) → Early z (o ∷ times (rate_of c p) (onward k y.1) l) → within b e (offer c p o y.0) ++ within b e (offered c p (onward k y.1) l) ≡ []
    by None ih u = ih u
    by (Some a) ih u = λ i. (offer_early c p b e a y.0 (omega (arith, u.0)) i) ++ (ih u.1 i)

none_late : (c : Setup) (p b e z : ℕ) (k : Option Anchor) (l : Stream) → e ≤ z → Late z (times (rate_of c p) k l) → within b e (offered c p k l) ≡ []
none_late c p b e z k [] h t = refl
none_late c p b e z k (y ∷ l) h t =
    within_append b e (offer c p (stamp (rate_of c p) k y.1) y.0) (offered c p (onward k y.1) l)
    ∙ by (stamp (rate_of c p) k y.1) (λ u. none_late c p b e z (onward k y.1) l h u) t
  where
    by : (o : Option ℕ) → (Late z (times (rate_of c p) (onward k y.1) l) → within b e (offered c p (onward k y.1) l) ≡ []) → Late z (o ∷ times (rate_of c p) (onward k y.1) l) → within b e (offer c p o y.0) ++ within b e (offered c p (onward k y.1) l) ≡ []
    by None ih u = ih u
    by (Some a) ih u = λ i. (offer_late c p b e a y.0 (omega (arith, u.0)) i) ++ (ih u.1 i)

-- where the heard part ends: at its anchor, or at its last packet
pub data Ends (rate z : ℕ) (vs : Stream) (a : ℕ) : Type 0 where
  at_anchor : vs ≡ [] → a ≡ z → Ends rate z vs a
  at_packet : (ws : Stream) (y : Handed) → vs ≡ ws ++ y ∷ [] → stamp rate (anchored (Some (record { time = z; count = 0 })) ws) y.1 ≡ Some a → Ends rate z vs a

abbrev RisesOn : List (Option ℕ) → Type 0
RisesOn ts = (i j a b : ℕ) → i < j → get_or ts i None ≡ Some a → get_or ts j None ≡ Some b → a < b

split_early : (l r : List (Option ℕ)) (z : ℕ) → RisesOn (l ++ Some z ∷ r) → Early z l
split_early l r z up = early_from z l (λ i a k e. up i (length l) a z k (get_or_append_left l (Some z ∷ r) None i k ∙ e) (get_or_at l (Some z) r None (length l) refl))

split_late : (l r : List (Option ℕ)) (z : ℕ) → RisesOn (l ++ Some z ∷ r) → Late z r
split_late l r z up = late_from z r (λ i a e. up (length l) (length l + suc i) z a (omega arith) (get_or_at l (Some z) r None (length l) refl) (get_or-append-add l (Some z ∷ r) (suc i) None ∙ e))

module _ (c : Setup) (p : ℕ) (pre us vs post : Stream) (x : Bytes) (z a : ℕ) where
  abbrev start_at : Option Anchor
  start_at = Some (record { time = z; count = 0 })

  abbrev rate : ℕ
  rate = rate_of c p

  abbrev whole : Stream
  whole = pre ++ us

  pub laid : (tk st : Stream) → st ≡ pre ++ (tk ++ post) → tk ≡ us ++ ((x, Some z) ∷ vs) → st ≡ whole ++ ((x, Some z) ∷ (vs ++ post))
  laid tk st is split = is ∙ ap (λ y. pre ++ (y ++ post)) split ∙ ap (λ y. pre ++ y) (append_assoc us ((x, Some z) ∷ vs) post) ∙ sym (append_assoc pre us ((x, Some z) ∷ (vs ++ post)))

  module _ (st : Stream) (is : st ≡ whole ++ ((x, Some z) ∷ (vs ++ post))) (up : Rising rate st) (ends : Ends rate z vs a) where
    times_are : times rate None st ≡ times rate None whole ++ (Some z ∷ (times rate start_at vs ++ times rate (anchored start_at vs) post))
    times_are = ap (times rate None) is ∙ times_append rate None whole ((x, Some z) ∷ (vs ++ post)) ∙ ap (λ y. times rate None whole ++ (Some z ∷ y)) (times_append rate start_at vs post)

    rises_so : RisesOn (times rate None whole ++ (Some z ∷ (times rate start_at vs ++ times rate (anchored start_at vs) post)))
    rises_so = subst RisesOn times_are up

    early : Early z (times rate None whole)
    early = split_early _ _ z rises_so

    late : Late a (times rate (anchored start_at vs) post)
    late = by ends
      where
        by : Ends rate z vs a → Late a (times rate (anchored start_at vs) post)
        by (at_anchor none same) =
            let tail = split_late (times rate None whole) _ z rises_so in
            subst (λ y. Late y (times rate (anchored start_at vs) post)) (sym same) (subst (λ y. Late z (times rate start_at y ++ times rate (anchored start_at vs) post)) none tail)
        by (at_packet ws y is-so at) =
            let cut : times rate start_at vs ≡ times rate start_at ws ++ Some a ∷ [] = ap (times rate start_at) is-so ∙ times_append rate start_at ws (y ∷ []) ∙ ap (λ o. times rate start_at ws ++ o ∷ []) at in
            let join : times rate None whole ++ (Some z ∷ (times rate start_at vs ++ times rate (anchored start_at vs) post)) ≡ (times rate None whole ++ Some z ∷ times rate start_at ws) ++ Some a ∷ times rate (anchored start_at vs) post =
            ap (λ o. times rate None whole ++ (Some z ∷ (o ++ times rate (anchored start_at vs) post))) cut
            ∙ ap (λ o. times rate None whole ++ (Some z ∷ o)) (append_assoc (times rate start_at ws) (Some a ∷ []) (times rate (anchored start_at vs) post))
            ∙ sym (append_assoc (times rate None whole) (Some z ∷ times rate start_at ws) (Some a ∷ times rate (anchored start_at vs) post)) in
            split_late (times rate None whole ++ Some z ∷ times rate start_at ws) _ a (subst RisesOn join rises_so)

    offered_are : offered c p None st ≡ offered c p None whole ++ ((offer c p (Some z) x ++ offered c p start_at vs) ++ offered c p (anchored start_at vs) post)
    offered_are =
        ap (offered c p None) is ∙ offered_append c p None whole ((x, Some z) ∷ (vs ++ post))
        ∙ ap (λ y. offered c p None whole ++ (offer c p (Some z) x ++ y)) (offered_append c p start_at vs post)
        ∙ ap (λ y. offered c p None whole ++ y) (sym (append_assoc (offer c p (Some z) x) (offered c p start_at vs) (offered c p (anchored start_at vs) post)))

    -- between the anchor and the last packet heard, the stream brings what the heard part brings
    pub delivers : (b e : ℕ) → z ≤ b → e ≤ a → within b e (offered c p None st) ≡ within b e (offer c p (Some z) x ++ offered c p start_at vs)
    delivers b e zb ea =
        ap (within b e) offered_are
        ∙ within_append b e (offered c p None whole) _
        ∙ ap (λ y. y ++ within b e ((offer c p (Some z) x ++ offered c p start_at vs) ++ offered c p (anchored start_at vs) post)) (none_early c p b e z None whole zb early)
        ∙ within_append b e (offer c p (Some z) x ++ offered c p start_at vs) (offered c p (anchored start_at vs) post)
        ∙ ap (λ y. within b e (offer c p (Some z) x ++ offered c p start_at vs) ++ y) (none_late c p b e a (anchored start_at vs) post ea late)
        ∙ append-nil _
