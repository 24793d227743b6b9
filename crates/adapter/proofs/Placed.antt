-- A frame that was placed, by the rule of `frame`.
use Rattle.std.proofs.Common.{◌≡◌, ℕ, ◌≤◌, Bool, true, false, List, [], ◌∷◌, map, length, Some, Option, sym, refl, ap, ◌∙◌, subst}
use Rattle.std.proofs.lemmas.List.{length-map}
use Rattle.config.specs.Setup.{Setup}
use Rattle.carrier.specs.Meaning.{Meaning}
use Rattle.memory.specs.Memory.{lines_in, backlog_in}
use Rattle.memory.specs.declared.Memory.{Memory}
use Rattle.rules.proofs.Clear.{only_from_clear}
use Rattle.rules.proofs.Equal.{equal_frames}
use Rattle.rules.proofs.Placing.{frame_turns_are, lines_placed, rising_started, started}
use Rattle.rules.proofs.Merging.{Rising}
use Rattle.rules.specs.Entries.{Entry}
use Rattle.rules.specs.Slots.{Frame}
use Rattle.rules.specs.Calls as calls
use Rattle.rules.specs.Calls.{FrameAnswer, refused_frame, skipped, Frames, Due, Called, placed, frame_turns, followed_to, doubt_at, let_go, step_after}
use Rattle.rules.specs.Entries.{from_on}
use Rattle.rules.specs.Log.{framed, next}
use Rattle.carrier.specs.Meaning.{Meaning}
use Rattle.rules.specs.Slots.{end_of, played, dropped, doubt, reaches_zero}
use Rattle.rules.specs.State.{Hearing, State, Parent, in_step}
use Rattle.adapter.specs.Laws.{ClearAfter, EqualAfter}
use Rattle.adapter.specs.Parents.{parents_by, Restarted}
use Rattle.adapter.specs.Placing.{Goes, placed_answer, begun, turns_of_lines}
use Rattle.adapter.specs.Steps.{step_of, step_by, adds_in}
use Rattle.adapter.specs.View.{view, setup_of, entries_of, hearings_in, HeldUp, Skippable}
use Rattle.adapter.specs.View as views
use Rattle.adapter.specs.declared.state.Adapter.{Adapter}
use Rattle.adapter.specs.declared.step.Step.{Step}
use Rattle.adapter.specs.declared.step.Step.TheVariants.{Out, Following, InStep}
use Rattle.adapter.specs.declared.step.StepEvent.TheVariants.{Placed}
use Rattle.adapter.specs.declared.times.Times.{Times}
use Rattle.adapter.proofs.Anchored.{lines_heard, restarted_heard}
use Rattle.adapter.proofs.Keeping.{never}
use Rattle.adapter.proofs.Sounds.{rise, begun_lines}
use Rattle.adapter.proofs.Standing.{checked, places_suffice, known_all}

-- the laws of a frame call that kept its rule
pub clear_holds : (a : Adapter) (k k' : Meaning) (r : FrameAnswer) (s' : State) → Frames (setup_of a) (entries_of a) (view a) k r s' k' → ClearAfter (setup_of a) (entries_of a) (view a) k r k'
clear_holds a k k' r s' rule = λ log leads. only_from_clear (setup_of a) (entries_of a) log s' k k' r (checked a) (next leads (framed k r k') rule)

pub equal_holds : (a : Adapter) (k k' : Meaning) (r : FrameAnswer) (s' : State) → Frames (setup_of a) (entries_of a) (view a) k r s' k' → EqualAfter (setup_of a) (entries_of a) (view a) k r k'
equal_holds a k k' r s' rule =
    λ log second n s₂ streams first others alike f ps qs shows also.
    equal_frames (setup_of a) (entries_of a) n (framed k r k' ∷ log) second s' s₂ streams (checked a) (next first (framed k r k') rule) others alike f ps qs shows also

pub held_up : (a : Adapter) (k : Meaning) (number : ℕ) → HeldUp a number → Frames (setup_of a) (entries_of a) (view a) k (refused_frame number) (view a) k
held_up a k number (views.HeldUp.short x e) = calls.Frames.short x (ap refused_frame e) refl refl
held_up a k number (views.HeldUp.none x y e) = calls.Frames.none x y (ap refused_frame e) refl refl
held_up a k number (views.HeldUp.silent x f rest y z e) = calls.Frames.silent x f rest y z (ap refused_frame e) refl refl
held_up a k number (views.HeldUp.unheard f rest x y z e) = calls.Frames.unheard f rest (hearings_in a) x y z (ap refused_frame e) refl refl

pub skips_so : (a : Adapter) (k : Meaning) (number since : ℕ) (s' : State) → (h : Skippable a since) → number ≡ h.frame.number → s' ≡ calls.skipping (view a) (hearings_in a)
    → Frames (setup_of a) (entries_of a) (view a) k (skipped number) s' k
skips_so a k number since s' h numbered e = calls.Frames.skips h.frame h.rest (hearings_in a) h.called h.early (ap skipped numbered) e refl

pub in_step_is : (s : Step) → adds_in s ≡ true → step_of s ≡ in_step
in_step_is Out e = never false e refl
in_step_is (Following d) e = never false e refl
in_step_is InStep e = refl

abbrev at_step : List Parent → List Frame → Option Frame → List Entry → Step → State
at_step ps rs last b step = record { parents = ps; records = rs; last = last; backlog = b; step = step_of step }

-- by the state of step
placed_by : (c : Setup) (n : ℕ) (ps : List Parent) (rs : List Frame) (last : Option Frame) (b : List Entry) (step : Step) (f : Frame) (rest : List Frame) (hs : List Hearing) (s' : State) (k k' : Meaning) (x d : ℕ) (z : Bool)
    → Due c n (at_step ps rs last b step) f rest hs
    → (adds_in step ≡ true → f.slots ≤ k.free)
    → x ≡ dropped c.backlog (frame_turns c (at_step ps rs last b step) f hs) b
    → d ≡ doubt c.backlog (frame_turns c (at_step ps rs last b step) f hs) (doubt_at c (step_of step))
    → z ≡ reaches_zero c.backlog (frame_turns c (at_step ps rs last b step) f hs) (doubt_at c (step_of step))
    → Goes (λ (y : Meaning). y) (adds_in step) (played c f.number (frame_turns c (at_step ps rs last b step) f hs) b) k k'
    → s' ≡ placed c (at_step ps rs last b step) f rest hs (step_by step (Placed d z))
    → Frames c n (at_step ps rs last b step) k (placed_answer (adds_in step) f.number x) s' k'
placed_by c n ps rs last b Out f rest hs s' k k' x d z due room drops doubts zeros goes is =
    calls.Frames.follows f rest hs due tt (ap (calls.followed f.number) drops)
    (is ∙ ap (placed c (at_step ps rs last b Out) f rest hs) (ap (λ y. step_after y d) zeros ∙ ap (step_after _) doubts))
    goes
placed_by c n ps rs last b (Following e) f rest hs s' k k' x d z due room drops doubts zeros goes is =
    calls.Frames.follows f rest hs due tt (ap (calls.followed f.number) drops)
    (is ∙ ap (placed c (at_step ps rs last b (Following e)) f rest hs) (ap (λ y. step_after y d) zeros ∙ ap (step_after _) doubts))
    goes
placed_by c n ps rs last b InStep f rest hs s' k k' x d z due room drops doubts zeros goes is =
    calls.Frames.adds f rest hs due refl (room refl) (ap (calls.added f.number) drops) is goes

cut_lines : (m : ℕ) (hs : List Hearing) (ls : List (List Entry)) → map (λ (h : Hearing). h.line) hs ≡ ls → map (λ h. from_on m h.line) hs ≡ map (from_on m) ls
cut_lines m hs ls e = each hs ∙ ap (map (from_on m)) e
  where
    each : (hs : List Hearing) → map (λ h. from_on m h.line) hs ≡ map (from_on m) (map (λ (h : Hearing). h.line) hs)
    each [] = refl
    each (h ∷ hs) = ap (λ y. from_on m h.line ∷ y) (each hs)

-- A frame is placed from memory m₁, where placing begins, and leaves m₂.
module _ (a : Adapter) (f : Frame) (rest : List Frame) (due : Due (setup_of a) (entries_of a) (view a) f rest (hearings_in a)) (m₁ m₂ : Memory Entry)
    (begins : lines_in m₁ ≡ map (begun f (view a).step) (lines_in a.memory)) where
  heard_lines : map (λ (h : Hearing). h.line) (hearings_in a) ≡ lines_in a.memory
  heard_lines = lines_heard a.heard (lines_in a.memory) (places_suffice a) (known_all a (hearings_in a) due.called.anchored)

  lines_begun : lines_in m₁ ≡ map (λ h. started f (view a).step h.line) (hearings_in a)
  lines_begun = begins ∙ begun_lines f (view a).step (hearings_in a) (lines_in a.memory) heard_lines

  pub rising_begun : Rising (lines_in m₁)
  rising_begun = subst Rising (sym lines_begun) (rising_started f (view a).step (hearings_in a) (rise a (hearings_in a) due.called.anchored))

  pub turns_are : turns_of_lines (setup_of a) f (lines_in m₁) ≡ frame_turns (setup_of a) (view a) f (hearings_in a)
  turns_are =
      ap (turns_of_lines (setup_of a) f) lines_begun
      ∙ sym (frame_turns_are (setup_of a) (view a) f (hearings_in a) (rise a (hearings_in a) due.called.anchored))

  lines_left : lines_in m₂ ≡ map (from_on (end_of (setup_of a) f)) (lines_in m₁) → lines_in m₂ ≡ map (from_on (end_of (setup_of a) f)) (lines_in a.memory)
  lines_left cut =
      cut ∙ ap (map (from_on (end_of (setup_of a) f))) lines_begun ∙ lines_placed (setup_of a) f (view a).step (hearings_in a)
      ∙ cut_lines (end_of (setup_of a) f) (hearings_in a) (lines_in a.memory) heard_lines

  pub parents_left : (heard : List (Option Times)) (e : ℕ) → e ≡ end_of (setup_of a) f → Restarted e a.heard heard
      → lines_in m₂ ≡ map (from_on (end_of (setup_of a) f)) (lines_in m₁)
      → parents_by heard (lines_in m₂) ≡ map (λ h. Some (let_go (end_of (setup_of a) f) h)) (hearings_in a)
  parents_left heard e at restarts cut =
      ap (parents_by heard) (lines_left cut)
      ∙ (let same : Restarted (end_of (setup_of a) f) a.heard heard = subst (λ m. Restarted m a.heard heard) at restarts in
      restarted_heard (end_of (setup_of a) f) a.heard heard (lines_in a.memory) (places_suffice a) same.many (known_all a (hearings_in a) due.called.anchored) (λ p l k. same.each p l))

  pub count_left : lines_in m₂ ≡ map (from_on (end_of (setup_of a) f)) (lines_in m₁) → length (lines_in m₂) ≡ length (lines_in a.memory)
  count_left cut = ap length (lines_left cut) ∙ length-map (lines_in a.memory) (from_on (end_of (setup_of a) f))

  pub placed_rule : (s' : State) (k k' : Meaning) (x d : ℕ) (z : Bool) (b₁ : List Entry) → b₁ ≡ backlog_in a.memory
      → (adds_in a.step ≡ true → f.slots ≤ k.free)
      → x ≡ dropped (setup_of a).backlog (turns_of_lines (setup_of a) f (lines_in m₁)) b₁
      → d ≡ doubt (setup_of a).backlog (turns_of_lines (setup_of a) f (lines_in m₁)) (doubt_at (setup_of a) (view a).step)
      → z ≡ reaches_zero (setup_of a).backlog (turns_of_lines (setup_of a) f (lines_in m₁)) (doubt_at (setup_of a) (view a).step)
      → Goes (λ (y : Meaning). y) (adds_in a.step) (played (setup_of a) f.number (turns_of_lines (setup_of a) f (lines_in m₁)) b₁) k k'
      → s' ≡ placed (setup_of a) (view a) f rest (hearings_in a) (step_by a.step (Placed d z))
      → Frames (setup_of a) (entries_of a) (view a) k (placed_answer (adds_in a.step) f.number x) s' k'
  placed_rule s' k k' x d z b₁ same room drops doubts zeros goes is =
      let q = (setup_of a).backlog in
      let d₀ = doubt_at (setup_of a) (view a).step in
      placed_by (setup_of a) (entries_of a) _ _ _ _ a.step f rest (hearings_in a) s' k k' x d z due room
      (drops ∙ ap (dropped q (turns_of_lines (setup_of a) f (lines_in m₁))) same ∙ ap (λ ts. dropped q ts (backlog_in a.memory)) turns_are)
      (doubts ∙ ap (λ ts. doubt q ts d₀) turns_are)
      (zeros ∙ ap (λ ts. reaches_zero q ts d₀) turns_are)
      (subst (λ ts. Goes (λ (y : Meaning). y) (adds_in a.step) (played (setup_of a) f.number ts (backlog_in a.memory)) k k') turns_are
      (subst (λ b. Goes (λ (y : Meaning). y) (adds_in a.step) (played (setup_of a) f.number (turns_of_lines (setup_of a) f (lines_in m₁)) b) k k') same goes))
      is
