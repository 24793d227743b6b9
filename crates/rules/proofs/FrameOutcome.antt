-- What a frame call comes to, as a function: the relation holds of that outcome, and of no other but for the carrier's free places.
use Rattle.std.proofs.Common.{◌≡◌, ℕ, zero, suc, ◌+◌, ◌<◌, ◌≤◌, Bool, true, false, cond, ◌&&◌, ltb, leb, ◌⊎◌, List, [], ◌∷◌, ◌++◌, map, length, get_or, Some, None, Option, sym, refl, ap, ◌∙◌, subst, inl, inr, ⊎_elim, append-nil, arith}
use Rattle.std.proofs.lemmas.Bool.{cases_lt, cond-true, cond-false, le-leb, lt-leb, lt-ltb, le-ltb, and_left, and_right, and_from}
use Rattle.std.specs.Option.{option_map}
use Rattle.config.specs.Setup.{Setup}
use Rattle.psi.specs.Packet.{Bytes}
use Rattle.carrier.specs.Meaning.{Meaning, Carried}
use Rattle.rules.specs.Slots.{Frame, end_of, played, dropped}
use Rattle.rules.specs.State.{Hearing, latest, Parent, State, Step, out, following, in_step, parents_of}
use Rattle.rules.specs.Calls.{FrameAnswer, skipped, followed, added, refused_frame, Frames, none, silent, skips, unheard, crowded, follows, adds, Called, Due, Reach, ShortOf, frame_turns, followed_to, NotInStep, placed, skipping}
use Rattle.rules.specs.Determined.{FrameHasOne}
use Rattle.rules.proofs.Outcomes.{has_room, short_of}

-- what is known of the parents, if each has an anchor
abbrev pub hearings : List Parent → Option (List Hearing)
hearings [] = Some []
hearings (None ∷ ps) = None
hearings (Some h ∷ ps) = option_map (λ hs. h ∷ hs) (hearings ps)

hearings_all : (hs : List Hearing) → hearings (map Some hs) ≡ Some hs
hearings_all [] = refl
hearings_all (h ∷ hs) = ap (option_map (λ hs. h ∷ hs)) (hearings_all hs)

hearings_none : (ps : List Parent) (p : ℕ) → p < length ps → get_or ps p None ≡ None → hearings ps ≡ None
hearings_none [] p k e = absurd (omega arith)
hearings_none (None ∷ ps) p k e = refl
hearings_none (Some h ∷ ps) zero k e = let no_way : ◌≡◌ {A = ℕ} 0 1 = cc in absurd (omega arith)
hearings_none (Some h ∷ ps) (suc p) k e = ap (option_map (λ hs. h ∷ hs)) (hearings_none ps p (omega arith) e)

-- one parent is silent, or all are heard
hearings_cases : (ps : List Parent) → ((p : ℕ) × (p < length ps) × (get_or ps p None ≡ None)) ⊎ ((hs : List Hearing) × (ps ≡ map Some hs))
hearings_cases [] = inr ([], refl)
hearings_cases (None ∷ ps) = inl (0, omega arith, refl)
hearings_cases (Some h ∷ ps) = ⊎_elim (λ one. inl (suc one.0, omega (arith, one.1), one.2)) (λ all. inr (h ∷ all.0, ap (λ y. Some h ∷ y) all.1)) (hearings_cases ps)

abbrev pub reach : ℕ → List Hearing → Bool
reach e [] = true
reach e (h ∷ hs) = leb e h.heard_to && reach e hs

reach_true : (e : ℕ) (hs : List Hearing) → Reach e hs → reach e hs ≡ true
reach_true e [] r = refl
reach_true e (h ∷ hs) r = and_from _ _ (le-leb _ _ r.0) (reach_true e hs r.1)

reach_false : (e : ℕ) (hs : List Hearing) → ShortOf e hs → reach e hs ≡ false
reach_false e [] r = absurd r
reach_false e (h ∷ hs) r = ⊎_elim (λ here. and_left _ _ (lt-leb _ _ here)) (λ later. and_right (leb e h.heard_to) _ (reach_false e hs later)) r

reach_cases : (e : ℕ) (hs : List Hearing) → Reach e hs ⊎ ShortOf e hs
reach_cases e [] = inl tt
reach_cases e (h ∷ hs) = ⊎_elim (λ short. inr (inl short)) (λ far. ⊎_elim (λ r. inl (far, r)) (λ r. inr (inr r)) (reach_cases e hs)) (cases_lt h.heard_to e)

-- the answer, the next state, and the packets for the carrier
abbrev pub Outcome : Type 0
Outcome = FrameAnswer × State × List Bytes

module _ (c : Setup) (m : ℕ) (s : State) (k : Meaning) where
  abbrev pub refuses : ℕ → Outcome
  refuses n = (refused_frame n, s, [])

  abbrev pub drops_of : Frame → List Hearing → ℕ
  drops_of f hs = dropped c.backlog (frame_turns c s f hs) s.backlog

  abbrev pub following_it : Frame → List Frame → List Hearing → Outcome
  following_it f rest hs = (followed f.number (drops_of f hs), placed c s f rest hs (followed_to c s (frame_turns c s f hs)), [])

  abbrev pub adding_it : Frame → List Frame → List Hearing → Outcome
  adding_it f rest hs = (added f.number (drops_of f hs), placed c s f rest hs in_step, played c f.number (frame_turns c s f hs) s.backlog)

  abbrev pub by_step : Frame → List Frame → List Hearing → Step → Outcome
  by_step f rest hs out = following_it f rest hs
  by_step f rest hs (following d) = following_it f rest hs
  by_step f rest hs in_step = cond (leb f.slots k.free) (adding_it f rest hs) (refuses 14)

  abbrev pub by_parents : Frame → List Frame → Option (List Hearing) → Outcome
  by_parents f rest None = refuses 13
  by_parents f rest (Some hs) = cond (ltb f.start (latest hs)) (skipped f.number, skipping s hs, []) (cond (reach (end_of c f) hs) (by_step f rest hs s.step) (refuses 13))

  abbrev pub by_records : List Frame → Outcome
  by_records [] = refuses 12
  by_records (f ∷ rest) = by_parents f rest (hearings s.parents)

  abbrev pub frame_does : Outcome
  frame_does = cond (has_room c m) (by_records s.records) (refuses 5)

  called_does : (f : Frame) (rest : List Frame) (hs : List Hearing) → Called c m s f rest hs → frame_does ≡ by_parents f rest (Some hs)
  called_does f rest hs called = cond-true _ _ _ (le-leb _ _ called.roomy) ∙ ap by_records called.oldest ∙ ap (by_parents f rest) (ap hearings called.anchored ∙ hearings_all hs)

  due_does : (f : Frame) (rest : List Frame) (hs : List Hearing) → Due c m s f rest hs → frame_does ≡ by_step f rest hs s.step
  due_does f rest hs due = called_does f rest hs due.called ∙ cond-false _ _ _ (le-ltb _ _ due.not_early) ∙ cond-true _ _ _ (reach_true _ hs due.heard)

  -- the call came to this
  record Is (r : FrameAnswer) (s' : State) (k' : Meaning) : Type 0 where
    answer : r ≡ frame_does.0
    state : s' ≡ frame_does.1
    packets : k'.packets ≡ k.packets ++ frame_does.2
    capacity : k'.capacity ≡ k.capacity

  without : {r : FrameAnswer} {s' : State} {k' : Meaning} (r₀ : FrameAnswer) (s₀ : State) → r ≡ r₀ → s' ≡ s₀ → k' ≡ k → frame_does ≡ (r₀, s₀, []) → Is r s' k'
  without r₀ s₀ er es ek e = record {
    answer = er ∙ sym (ap (λ y. y.0) e);
    state = es ∙ sym (ap (λ y. y.1) e);
    packets = ap (λ y. y.packets) ek ∙ sym (append-nil k.packets) ∙ ap (λ y. k.packets ++ y.2) (sym e);
    capacity = ap (λ y. y.capacity) ek;
  }

  not_in_step : (f : Frame) (rest : List Frame) (hs : List Hearing) (st : Step) → NotInStep st → by_step f rest hs st ≡ following_it f rest hs
  not_in_step f rest hs out h = refl
  not_in_step f rest hs (following d) h = refl
  not_in_step f rest hs in_step h = absurd h

  frame_is : (r : FrameAnswer) (s' : State) (k' : Meaning) → Frames c m s k r s' k' → Is r s' k'
  frame_is r s' k' (Frames.short little er es ek) = without (refused_frame 5) s er es ek (cond-false _ _ _ (short_of c m little))
  frame_is r s' k' (none room empty er es ek) = without (refused_frame 12) s er es ek (cond-true _ _ _ (le-leb _ _ room) ∙ ap by_records empty)
  frame_is r s' k' (silent room f rest first quiet er es ek) = without (refused_frame 13) s er es ek (cond-true _ _ _ (le-leb _ _ room) ∙ ap by_records first ∙ ap (by_parents f rest) (hearings_none s.parents quiet.parent quiet.listed quiet.silent))
  frame_is r s' k' (skips f rest hs called low er es ek) = without (skipped f.number) (skipping s hs) er es ek (called_does f rest hs called ∙ cond-true _ _ _ (lt-ltb _ _ low))
  frame_is r s' k' (unheard f rest hs called low u er es ek) = without (refused_frame 13) s er es ek (called_does f rest hs called ∙ cond-false _ _ _ (le-ltb _ _ low) ∙ cond-false _ _ _ (reach_false _ hs u))
  frame_is r s' k' (crowded f rest hs due is fr er es ek) = without (refused_frame 14) s er es ek (due_does f rest hs due ∙ ap (by_step f rest hs) is ∙ cond-false _ _ _ (lt-leb _ _ fr))
  frame_is r s' k' (follows f rest hs due nis er es ek) = without (followed f.number (drops_of f hs)) (placed c s f rest hs (followed_to c s (frame_turns c s f hs))) er es ek (due_does f rest hs due ∙ not_in_step f rest hs s.step nis)
  frame_is r s' k' (adds f rest hs due is fr er es carried) =
      let e : frame_does ≡ adding_it f rest hs = due_does f rest hs due ∙ ap (by_step f rest hs) is ∙ cond-true _ _ _ (le-leb _ _ fr) in
      record {
        answer = er ∙ sym (ap (λ y. y.0) e);
        state = es ∙ sym (ap (λ y. y.1) e);
        packets = carried.packets ∙ ap (λ y. k.packets ++ y.2) (sym e);
        capacity = carried.capacity;
      }

  -- a carrier after the packets, of which none took a place
  abbrev with_packets : List Bytes → Meaning
  with_packets ps = record { packets = k.packets ++ ps; free = k.free; capacity = k.capacity }

  abbrev SomeFrame : Type 0
  SomeFrame = (r : FrameAnswer) × (s' : State) × (k' : Meaning) × Frames c m s k r s' k'

  placed_answered : (f : Frame) (rest : List Frame) (hs : List Hearing) → Due c m s f rest hs → (st : Step) → s.step ≡ st → SomeFrame
  placed_answered f rest hs due out e = (_, _, _, follows f rest hs due (subst NotInStep (sym e) tt) refl refl refl)
  placed_answered f rest hs due (following d) e = (_, _, _, follows f rest hs due (subst NotInStep (sym e) tt) refl refl refl)
  placed_answered f rest hs due in_step e =
      ⊎_elim
      (λ few. (_, _, _, crowded f rest hs due e few refl refl refl))
      (λ room. (_, _, with_packets (played c f.number (frame_turns c s f hs) s.backlog), adds f rest hs due e room refl refl (record { packets = refl; capacity = refl; at_most = omega arith; no_more = omega arith })))
      (cases_lt k.free f.slots)

  called_answered : (f : Frame) (rest : List Frame) (hs : List Hearing) → Called c m s f rest hs → SomeFrame
  called_answered f rest hs called =
      ⊎_elim
      (λ low. (_, _, _, skips f rest hs called low refl refl refl))
      (λ up.
      ⊎_elim
      (λ far. placed_answered f rest hs (record { called = called; not_early = up; heard = far }) s.step refl)
      (λ short. (_, _, _, unheard f rest hs called up short refl refl refl))
      (reach_cases (end_of c f) hs))
      (cases_lt f.start (latest hs))

  frame_answered : SomeFrame
  frame_answered =
      ⊎_elim
      (λ little. (_, _, _, Frames.short (λ room. absurd (omega arith)) refl refl refl))
      (λ room. by_queue room s.records refl)
      (cases_lt m (c.backlog + parents_of c))
    where
      by_queue : c.backlog + parents_of c ≤ m → (fs : List Frame) → s.records ≡ fs → SomeFrame
      by_queue room [] e = (_, _, _, none room e refl refl refl)
      by_queue room (f ∷ rest) e =
          ⊎_elim
          (λ one. (_, _, _, silent room f rest e (record { parent = one.0; listed = one.1; silent = one.2 }) refl refl refl))
          (λ all. called_answered f rest all.0 (record { roomy = room; oldest = e; anchored = all.1 }))
          (hearings_cases s.parents)

pub frame_has_one : FrameHasOne
frame_has_one c m s k = record {
  answered = frame_answered c m s k;
  determined = λ r₁ r₂ s₁ s₂ k₁ k₂ h₁ h₂.
      let a = frame_is c m s k r₁ s₁ k₁ h₁ in
      let b = frame_is c m s k r₂ s₂ k₂ h₂ in
      (a.answer ∙ sym b.answer, a.state ∙ sym b.state, record { packets = a.packets ∙ sym b.packets; capacity = a.capacity ∙ sym b.capacity });
}

-- what becomes of the carrier: it takes the packets of a frame that is added, and is left alone otherwise
abbrev pub Left : FrameAnswer → List Bytes → Meaning → Meaning → Type 0
Left (added f n) ps k k' = Carried ps k k'
Left (skipped f) ps k k' = k' ≡ k
Left (followed f n) ps k k' = k' ≡ k
Left (refused_frame n) ps k k' = k' ≡ k

module _ (c : Setup) (m : ℕ) (s : State) (k k' : Meaning) where
  left : {r r₀ : FrameAnswer} → r ≡ r₀ → Left r (frame_does c m s k).2 k k' → Left r₀ (frame_does c m s k).2 k k'
  left er l = subst (λ y. Left y (frame_does c m s k).2 k k') er l

  with_carrier : (r : FrameAnswer) (s' : State) (k₀ : Meaning) → Frames c m s k r s' k₀ → Left r (frame_does c m s k).2 k k' → Frames c m s k r s' k'
  with_carrier r s' k₀ (Frames.short little er es ek) l = Frames.short little er es (left er l)
  with_carrier r s' k₀ (none room empty er es ek) l = none room empty er es (left er l)
  with_carrier r s' k₀ (silent room f rest first quiet er es ek) l = silent room f rest first quiet er es (left er l)
  with_carrier r s' k₀ (skips f rest hs called low er es ek) l = skips f rest hs called low er es (left er l)
  with_carrier r s' k₀ (unheard f rest hs called low u er es ek) l = unheard f rest hs called low u er es (left er l)
  with_carrier r s' k₀ (crowded f rest hs due is fr er es ek) l = crowded f rest hs due is fr er es (left er l)
  with_carrier r s' k₀ (follows f rest hs due nis er es ek) l = follows f rest hs due nis er es (left er l)
  with_carrier r s' k₀ (adds f rest hs due is fr er es carried) l =
      let e : frame_does c m s k ≡ adding_it c m s k f rest hs = due_does c m s k f rest hs due ∙ ap (by_step c m s k f rest hs) is ∙ cond-true _ _ _ (le-leb _ _ fr) in
      adds f rest hs due is fr er es (subst (λ ps. Carried ps k k') (ap (λ y. y.2) e) (left er l))

  pub frame_takes : Left (frame_does c m s k).0 (frame_does c m s k).2 k k' → Frames c m s k (frame_does c m s k).0 (frame_does c m s k).1 k'
  frame_takes l =
      let has = frame_answered c m s k in
      let is = frame_is c m s k has.0 has.1 has.2 has.3 in
      with_carrier _ _ has.2 (subst (λ y. Frames c m s k y (frame_does c m s k).1 has.2) is.answer (subst (λ y. Frames c m s k has.0 y has.2) is.state has.3)) l
