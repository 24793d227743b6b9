-- What each call comes to, as functions: each relation holds of that outcome and of no other.
use Rattle.std.proofs.Common.{◌≡◌, ℕ, ◌+◌, ◌<◌, ◌≤◌, Bool, true, false, cond, ◌&&◌, eqb, ltb, leb, ◌⊎◌, List, [], ◌∷◌, ◌++◌, length, Some, None, Option, sym, refl, ap, ◌∙◌, subst, inl, inr, ⊎_elim, arith}
use Rattle.std.proofs.lemmas.Bool.{eq-eqb, ne_eqb, cases_eq, cases_lt, cases_Bool, cond-true, cond-false, le-leb, lt-leb, lt-ltb, le-ltb, and_left, and_right, and_from}
use Rattle.config.specs.Setup.{Setup}
use Rattle.psi.specs.Packet.{Bytes, good_packet}
use Rattle.psi.specs.Delivery.{Delivery, unmapped, unpatchable, deliverable, deliver}
use Rattle.rules.specs.Entries.{Entry}
use Rattle.rules.specs.Slots.{Frame, end_of}
use Rattle.rules.specs.State.{Hearing, Parent, State, out, parents_of, rate_of, parent_at, line_of, line_room, Roomy, lose, know}
use Rattle.rules.specs.Times.{after, latest_time, most_counted, Stamp, stamped, Stamps, first_anchor, later_anchor, counted, Untimely, too_late, not_after, too_many}
use Rattle.rules.specs.Calls.{Listed, Good, Arrives, Wanted, HearAnswer, passed_over, dropped_it, held_it, refused_hear, Hears, bad, untimely, unanchored, unwanted, unpatched, full, holds, LossAnswer, lost, refused_loss, Loses, loses, RecordAnswer, anew, queued, refused_record, Records, InRange, Follows, most_records, outside, eight, queues, starts}
use Rattle.rules.specs.Determined.{Answered, OneAnswer, HearHasOne, LossHasOne, RecordHasOne}

-- a relation that holds of one outcome has one answer
one_answer : {A : Type 0} (R : A → State → Type 0) (o : A × State) → Answered R → ((r : A) (s' : State) → R r s' → (r ≡ o.0) × (s' ≡ o.1)) → OneAnswer R
one_answer R o has is = record { answered = has; determined = λ r₁ r₂ s₁ s₂ h₁ h₂. ((is r₁ s₁ h₁).0 ∙ sym (is r₂ s₂ h₂).0, (is r₁ s₁ h₁).1 ∙ sym (is r₂ s₂ h₂).1) }

-- and it holds of that outcome
holds_of : {A : Type 0} (R : A → State → Type 0) (o : A × State) → Answered R → ((r : A) (s' : State) → R r s' → (r ≡ o.0) × (s' ≡ o.1)) → R o.0 o.1
holds_of R o has is = let e = is has.0 has.1 has.2 in subst (λ y. R y o.1) e.0 (subst (λ y. R has.0 y) e.1 has.2)

-- an outcome, told as what a function comes to
came_to : {A : Type 0} {r : A} {s' : State} {does : A × State} (o : A × State) → r ≡ o.0 → s' ≡ o.1 → does ≡ o → (r ≡ does.0) × (s' ≡ does.1)
came_to o er es e = (er ∙ sym (ap (λ y. y.0) e), es ∙ sym (ap (λ y. y.1) e))

abbrev pub has_room : Setup → ℕ → Bool
has_room c m = leb (c.backlog + parents_of c) m

pub short_of : (c : Setup) (m : ℕ) → (Roomy c m → ⊥) → has_room c m ≡ false
short_of c m little = lt-leb _ _ (⊎_elim (λ lt. lt) (λ ge. absurd (little ge)) (cases_lt m (c.backlog + parents_of c)))

-- HEAR

pub data Timing : Type 0 where
  no_anchor : Timing
  no_time : Timing
  at : Stamp → Timing

abbrev pub anchored_at : ℕ → ℕ → Stamp
anchored_at a from = record { arrival = a; anchor = a; count = 0; from = from }

abbrev pub counted_at : ℕ → Hearing → Stamp
counted_at rate h = record { arrival = h.anchor + after rate (h.count + 1); anchor = h.anchor; count = h.count + 1; from = h.from }

abbrev pub timing : ℕ → Parent → Option ℕ → Timing
timing rate None None = no_anchor
timing rate None (Some a) = cond (leb a latest_time) (at (anchored_at a a)) no_time
timing rate (Some h) (Some a) = cond (leb a latest_time && ltb h.heard_to a) (at (anchored_at a h.from)) no_time
timing rate (Some h) None = cond (ltb h.count most_counted) (at (counted_at rate h)) no_time

timing_stamps : (rate : ℕ) (P : Parent) (t : Option ℕ) (σ : Stamp) → Stamps rate P t σ → timing rate P t ≡ at σ
timing_stamps rate P t σ (first_anchor a p te small is) = (λ i. timing rate (p i) (te i)) ∙ cond-true _ _ _ (le-leb a latest_time small) ∙ ap at (sym is)
timing_stamps rate P t σ (later_anchor h a p te small up is) = (λ i. timing rate (p i) (te i)) ∙ cond-true _ _ _ (and_from _ _ (le-leb a latest_time small) (lt-ltb h.heard_to a up)) ∙ ap at (sym is)
timing_stamps rate P t σ (counted h p te few is) = (λ i. timing rate (p i) (te i)) ∙ cond-true _ _ _ (lt-ltb h.count most_counted few) ∙ ap at (sym is)

timing_untimely : (rate : ℕ) (P : Parent) (t : Option ℕ) → Untimely P t → timing rate P t ≡ no_time
timing_untimely rate P t (too_late a te big) = ap (timing rate P) te ∙ by P
  where
    by : (P : Parent) → timing rate P (Some a) ≡ no_time
    by None = cond-false _ _ _ (lt-leb a latest_time big)
    by (Some h) = cond-false _ _ _ (and_left _ _ (lt-leb a latest_time big))
timing_untimely rate P t (not_after h a p te low) = (λ i. timing rate (p i) (te i)) ∙ cond-false _ _ _ (and_right _ _ (le-ltb h.heard_to a low))
timing_untimely rate P t (too_many h p te many) = (λ i. timing rate (p i) (te i)) ∙ cond-false _ _ _ (le-ltb h.count most_counted many)

-- a packet has no anchor, no time, or a stamp
data Timed (rate : ℕ) (P : Parent) (t : Option ℕ) : Type 0 where
  without : P ≡ None → t ≡ None → Timed rate P t
  never : Untimely P t → Timed rate P t
  now : (σ : Stamp) → Stamps rate P t σ → Timed rate P t

timed : (rate : ℕ) (P : Parent) (t : Option ℕ) → Timed rate P t
timed rate None None = without refl refl
timed rate None (Some a) = ⊎_elim (λ big. never (too_late a refl big)) (λ small. now _ (first_anchor a refl refl small refl)) (cases_lt latest_time a)
timed rate (Some h) (Some a) = ⊎_elim (λ big. never (too_late a refl big)) (λ small. ⊎_elim (λ up. now _ (later_anchor h a refl refl small up refl)) (λ low. never (not_after h a refl refl low)) (cases_lt h.heard_to a)) (cases_lt latest_time a)
timed rate (Some h) None = ⊎_elim (λ few. now _ (counted h refl refl few refl)) (λ many. never (too_many h refl refl many)) (cases_lt h.count most_counted)

module _ (c : Setup) (m : ℕ) (s : State) (p : ℕ) (x : Bytes) (t : Option ℕ) where
  abbrev pub line : List Entry
  line = line_of (parent_at s p)

  abbrev pub passes : Stamp → HearAnswer → HearAnswer × State
  passes σ r = (r, know p (stamped σ line) s)

  abbrev pub by_delivery : Stamp → Delivery → HearAnswer × State
  by_delivery σ unmapped = passes σ passed_over
  by_delivery σ unpatchable = passes σ dropped_it
  by_delivery σ (deliverable row bytes) = cond (ltb (length line) (line_room c m)) (held_it, know p (stamped σ (line ++ record { arrival = σ.arrival; row = row; bytes = bytes } ∷ [])) s) (refused_hear 9, s)

  abbrev pub by_timing : Timing → HearAnswer × State
  by_timing no_anchor = (passed_over, s)
  by_timing no_time = (refused_hear 8, lose p s)
  by_timing (at σ) = cond (ltb σ.arrival σ.from) (passes σ passed_over) (by_delivery σ (deliver c p x))

  abbrev pub hear_does : HearAnswer × State
  hear_does = cond (has_room c m) (cond (ltb p (parents_of c)) (cond (good_packet x) (by_timing (timing (rate_of c p) (parent_at s p) t)) (refused_hear 7, lose p s)) (refused_hear 6, s)) (refused_hear 5, s)

  listed_does : Roomy c m → p < parents_of c → hear_does ≡ cond (good_packet x) (by_timing (timing (rate_of c p) (parent_at s p) t)) (refused_hear 7, lose p s)
  listed_does room low = cond-true _ _ _ (le-leb _ _ room) ∙ cond-true _ _ _ (lt-ltb p _ low)

  good_does : Roomy c m → p < parents_of c → good_packet x ≡ true → hear_does ≡ by_timing (timing (rate_of c p) (parent_at s p) t)
  good_does room low good = listed_does room low ∙ cond-true _ _ _ good

  stamped_does : (σ : Stamp) → Roomy c m → p < parents_of c → good_packet x ≡ true → Stamps (rate_of c p) (parent_at s p) t σ → hear_does ≡ cond (ltb σ.arrival σ.from) (passes σ passed_over) (by_delivery σ (deliver c p x))
  stamped_does σ room low good stamps = good_does room low good ∙ ap by_timing (timing_stamps (rate_of c p) (parent_at s p) t σ stamps)

  unwanted_does : (σ : Stamp) → (deliver c p x ≡ unmapped) ⊎ (σ.arrival < σ.from) → cond (ltb σ.arrival σ.from) (passes σ passed_over) (by_delivery σ (deliver c p x)) ≡ passes σ passed_over
  unwanted_does σ (inl e) = ap (λ d. cond (ltb σ.arrival σ.from) (passes σ passed_over) (by_delivery σ d)) e ∙ either (ltb σ.arrival σ.from)
    where
      either : (b : Bool) → cond b (passes σ passed_over) (passes σ passed_over) ≡ passes σ passed_over
      either true = refl
      either false = refl
  unwanted_does σ (inr early) = cond-true _ _ _ (lt-ltb _ _ early)

  -- one row, one entry
  entry_does : (σ : Stamp) (e : Entry) → e.arrival ≡ σ.arrival → deliver c p x ≡ deliverable e.row e.bytes → by_delivery σ (deliver c p x) ≡ cond (ltb (length line) (line_room c m)) (held_it, know p (stamped σ (line ++ e ∷ [])) s) (refused_hear 9, s)
  entry_does σ e at-then maps = ap (by_delivery σ) maps ∙ (λ i. cond (ltb (length line) (line_room c m)) (held_it, know p (stamped σ (line ++ record { arrival = sym at-then i; row = e.row; bytes = e.bytes } ∷ [])) s) (refused_hear 9, s))

  hear_is : (r : HearAnswer) (s' : State) → Hears c m s p x t r s' → (r ≡ hear_does.0) × (s' ≡ hear_does.1)
  hear_is r s' (Hears.short little er es) = came_to (refused_hear 5, s) er es (cond-false _ _ _ (short_of c m little))
  hear_is r s' (Hears.unknown room high er es) = came_to (refused_hear 6, s) er es (cond-true _ _ _ (le-leb _ _ room) ∙ cond-false _ _ _ (le-ltb p _ high))
  hear_is r s' (bad l g er es) = came_to (refused_hear 7, lose p s) er es (listed_does l.roomy l.listed ∙ cond-false _ _ _ g)
  hear_is r s' (untimely g u er es) = came_to (refused_hear 8, lose p s) er es (good_does g.known.roomy g.known.listed g.good ∙ ap by_timing (timing_untimely (rate_of c p) (parent_at s p) t u))
  hear_is r s' (unanchored g pn tn er es) = came_to (passed_over, s) er es (good_does g.known.roomy g.known.listed g.good ∙ (λ i. by_timing (timing (rate_of c p) (pn i) (tn i))))
  hear_is r s' (unwanted σ a why er es) = came_to (passes σ passed_over) er es (stamped_does σ a.packet.known.roomy a.packet.known.listed a.packet.good a.stamps ∙ unwanted_does σ why)
  hear_is r s' (unpatched σ a wa dl er es) = came_to (passes σ dropped_it) er es (stamped_does σ a.packet.known.roomy a.packet.known.listed a.packet.good a.stamps ∙ cond-false _ _ _ (le-ltb _ _ wa) ∙ ap (by_delivery σ) dl)
  hear_is r s' (full σ e a wants fl er es) = came_to (refused_hear 9, s) er es (stamped_does σ a.packet.known.roomy a.packet.known.listed a.packet.good a.stamps ∙ cond-false _ _ _ (le-ltb _ _ wants.in_time) ∙ entry_does σ e wants.arrives wants.maps ∙ cond-false _ _ _ (le-ltb _ _ fl))
  hear_is r s' (holds σ e a wants fl er es) = came_to (held_it, know p (stamped σ (line ++ e ∷ [])) s) er es (stamped_does σ a.packet.known.roomy a.packet.known.listed a.packet.good a.stamps ∙ cond-false _ _ _ (le-ltb _ _ wants.in_time) ∙ entry_does σ e wants.arrives wants.maps ∙ cond-true _ _ _ (lt-ltb _ _ fl))

  hear_stamped : (σ : Stamp) → Arrives c m s p x t σ → σ.from ≤ σ.arrival → (d : Delivery) → deliver c p x ≡ d → Answered (Hears c m s p x t)
  hear_stamped σ a late unmapped e = (_, _, unwanted σ a (inl e) refl refl)
  hear_stamped σ a late unpatchable e = (_, _, unpatched σ a late e refl refl)
  hear_stamped σ a late (deliverable row bytes) e =
      let entry : Entry = record { arrival = σ.arrival; row = row; bytes = bytes } in
      let wants : Wanted c p x σ entry = record { in_time = late; maps = e; arrives = refl } in
      ⊎_elim
      (λ fits. (_, _, holds σ entry a wants fits refl refl))
      (λ not. (_, _, full σ entry a wants not refl refl))
      (cases_lt (length line) (line_room c m))

  hear_timed : (g : Good c m p x) → Timed (rate_of c p) (parent_at s p) t → Answered (Hears c m s p x t)
  hear_timed g (without pn tn) = (_, _, unanchored g pn tn refl refl)
  hear_timed g (never u) = (_, _, untimely g u refl refl)
  hear_timed g (now σ stamps) =
      let a : Arrives c m s p x t σ = record { packet = g; stamps = stamps } in
      ⊎_elim
      (λ early. (_, _, unwanted σ a (inr early) refl refl))
      (λ late. hear_stamped σ a late (deliver c p x) refl)
      (cases_lt σ.arrival σ.from)

  hear_answered : Answered (Hears c m s p x t)
  hear_answered =
      ⊎_elim
      (λ little. (_, _, Hears.short (λ room. absurd (omega arith)) refl refl))
      (λ room.
      ⊎_elim
      (λ low.
      let l : Listed c m p = record { roomy = room; listed = low } in
      ⊎_elim
      (λ good. hear_timed (record { known = l; good = good }) (timed (rate_of c p) (parent_at s p) t))
      (λ ill. (_, _, bad l ill refl refl))
      (cases_Bool (good_packet x)))
      (λ high. (_, _, Hears.unknown room high refl refl))
      (cases_lt p (parents_of c)))
      (cases_lt m (c.backlog + parents_of c))

pub hear_has_one : HearHasOne
hear_has_one c m s p x t = one_answer (Hears c m s p x t) (hear_does c m s p x t) (hear_answered c m s p x t) (hear_is c m s p x t)

pub hear_takes : (c : Setup) (m : ℕ) (s : State) (p : ℕ) (x : Bytes) (t : Option ℕ) → Hears c m s p x t (hear_does c m s p x t).0 (hear_does c m s p x t).1
hear_takes c m s p x t = holds_of (Hears c m s p x t) (hear_does c m s p x t) (hear_answered c m s p x t) (hear_is c m s p x t)

-- LOSS

module _ (c : Setup) (m : ℕ) (s : State) (p : ℕ) where
  abbrev pub loss_does : LossAnswer × State
  loss_does = cond (has_room c m) (cond (ltb p (parents_of c)) (lost, lose p s) (refused_loss 6, s)) (refused_loss 5, s)

  loss_is : (r : LossAnswer) (s' : State) → Loses c m s p r s' → (r ≡ loss_does.0) × (s' ≡ loss_does.1)
  loss_is r s' (Loses.short little er es) = came_to (refused_loss 5, s) er es (cond-false _ _ _ (short_of c m little))
  loss_is r s' (Loses.unknown room high er es) = came_to (refused_loss 6, s) er es (cond-true _ _ _ (le-leb _ _ room) ∙ cond-false _ _ _ (le-ltb p _ high))
  loss_is r s' (loses l er es) = came_to (lost, lose p s) er es (cond-true _ _ _ (le-leb _ _ l.roomy) ∙ cond-true _ _ _ (lt-ltb p _ l.listed))

  loss_answered : Answered (Loses c m s p)
  loss_answered =
      ⊎_elim
      (λ little. (_, _, Loses.short (λ room. absurd (omega arith)) refl refl))
      (λ room.
      ⊎_elim
      (λ low. (_, _, loses (record { roomy = room; listed = low }) refl refl))
      (λ high. (_, _, Loses.unknown room high refl refl))
      (cases_lt p (parents_of c)))
      (cases_lt m (c.backlog + parents_of c))

pub loss_has_one : LossHasOne
loss_has_one c m s p = one_answer (Loses c m s p) (loss_does c m s p) (loss_answered c m s p) (loss_is c m s p)

pub loss_takes : (c : Setup) (m : ℕ) (s : State) (p : ℕ) → Loses c m s p (loss_does c m s p).0 (loss_does c m s p).1
loss_takes c m s p = holds_of (Loses c m s p) (loss_does c m s p) (loss_answered c m s p) (loss_is c m s p)

-- RECORD

abbrev pub in_range : Setup → Frame → Bool
in_range c f = leb c.copies f.slots && (leb f.slots 4_096 && leb f.start latest_time)

range_true : (c : Setup) (f : Frame) → InRange c f → in_range c f ≡ true
range_true c f i = and_from _ _ (le-leb _ _ i.enough) (and_from _ _ (le-leb _ _ i.not_more) (le-leb _ _ i.not_later))

range_cases : (c : Setup) (f : Frame) → InRange c f ⊎ ((InRange c f → ⊥) × (in_range c f ≡ false))
range_cases c f =
    ⊎_elim
    (λ few. inr ((λ i. absurd (omega (arith, i.enough))), and_left _ _ (lt-leb _ _ few)))
    (λ enough.
    ⊎_elim
    (λ many. inr ((λ i. absurd (omega (arith, i.not_more))), and_right _ _ (and_left _ _ (lt-leb _ _ many))))
    (λ not_more.
    ⊎_elim
    (λ late. inr ((λ i. absurd (omega (arith, i.not_later))), and_right (leb c.copies f.slots) _ (and_right (leb f.slots 4_096) _ (lt-leb _ _ late))))
    (λ not_later. inl (record { enough = enough; not_more = not_more; not_later = not_later }))
    (cases_lt latest_time f.start))
    (cases_lt 4_096 f.slots))
    (cases_lt f.slots c.copies)

abbrev pub follows_it : Setup → Option Frame → Frame → Bool
follows_it c None f = false
follows_it c (Some l) f = eqb f.number (l.number + 1) && eqb f.start (end_of c l)

follows_true : (c : Setup) (l : Option Frame) (f : Frame) → Follows c l f → follows_it c l f ≡ true
follows_true c None f h = absurd h
follows_true c (Some l) f h = and_from _ _ (eq-eqb _ _ h.0) (eq-eqb _ _ h.1)

follows_cases : (c : Setup) (l : Option Frame) (f : Frame) → Follows c l f ⊎ ((Follows c l f → ⊥) × (follows_it c l f ≡ false))
follows_cases c None f = inr ((λ h. h), refl)
follows_cases c (Some l) f =
    ⊎_elim
    (λ number. ⊎_elim (λ start. inl (number, start)) (λ no_start. inr ((λ h. no_start h.1), and_right _ _ (ne_eqb _ _ no_start))) (cases_eq f.start (end_of c l)))
    (λ no_number. inr ((λ h. no_number h.0), and_left _ _ (ne_eqb _ _ no_number)))
    (cases_eq f.number (l.number + 1))

module _ (c : Setup) (m : ℕ) (s : State) (f : Frame) where
  abbrev pub in_queue : State
  in_queue = record { parents = s.parents; records = s.records ++ f ∷ []; last = Some f; backlog = s.backlog; step = s.step }

  abbrev pub started : State
  started = record { parents = s.parents; records = f ∷ []; last = Some f; backlog = []; step = out }

  abbrev pub record_does : RecordAnswer × State
  record_does = cond (has_room c m) (cond (in_range c f) (cond (follows_it c s.last f) (cond (ltb (length s.records) most_records) (queued, in_queue) (refused_record 11, s)) (anew, started)) (refused_record 10, s)) (refused_record 5, s)

  record_is : (r : RecordAnswer) (s' : State) → Records c m s f r s' → (r ≡ record_does.0) × (s' ≡ record_does.1)
  record_is r s' (Records.short little er es) = came_to (refused_record 5, s) er es (cond-false _ _ _ (short_of c m little))
  record_is r s' (outside room no-range er es) = came_to (refused_record 10, s) er es (cond-true _ _ _ (le-leb _ _ room) ∙ cond-false _ _ _ (⊎_elim (λ i. absurd (no-range i)) (λ o. o.1) (range_cases c f)))
  record_is r s' (eight room i fo n er es) = came_to (refused_record 11, s) er es (cond-true _ _ _ (le-leb _ _ room) ∙ cond-true _ _ _ (range_true c f i) ∙ cond-true _ _ _ (follows_true c s.last f fo) ∙ cond-false _ _ _ (le-ltb _ _ n))
  record_is r s' (queues room i fo n er es) = came_to (queued, in_queue) er es (cond-true _ _ _ (le-leb _ _ room) ∙ cond-true _ _ _ (range_true c f i) ∙ cond-true _ _ _ (follows_true c s.last f fo) ∙ cond-true _ _ _ (lt-ltb _ _ n))
  record_is r s' (starts room i nf er es) = came_to (anew, started) er es (cond-true _ _ _ (le-leb _ _ room) ∙ cond-true _ _ _ (range_true c f i) ∙ cond-false _ _ _ (⊎_elim (λ fo. absurd (nf fo)) (λ o. o.1) (follows_cases c s.last f)))

  record_answered : Answered (Records c m s f)
  record_answered =
      ⊎_elim
      (λ little. (_, _, Records.short (λ room. absurd (omega arith)) refl refl))
      (λ room.
      ⊎_elim
      (λ i.
      ⊎_elim
      (λ fo.
      ⊎_elim
      (λ few. (_, _, queues room i fo few refl refl))
      (λ many. (_, _, eight room i fo many refl refl))
      (cases_lt (length s.records) most_records))
      (λ nf. (_, _, starts room i nf.0 refl refl))
      (follows_cases c s.last f))
      (λ o. (_, _, outside room o.0 refl refl))
      (range_cases c f))
      (cases_lt m (c.backlog + parents_of c))

pub record_has_one : RecordHasOne
record_has_one c m s f = one_answer (Records c m s f) (record_does c m s f) (record_answered c m s f) (record_is c m s f)

pub record_takes : (c : Setup) (m : ℕ) (s : State) (f : Frame) → Records c m s f (record_does c m s f).0 (record_does c m s f).1
record_takes c m s f = holds_of (Records c m s f) (record_does c m s f) (record_answered c m s f) (record_is c m s f)
