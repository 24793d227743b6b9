-- frame keeps it
use Rattle.std.proofs.Common.{◌≡◌, ℕ, zero, suc, ◌+◌, ◌<◌, ◌≤◌, Bool, true, false, cond, ltb, List, [], ◌∷◌, map, length, get_or, Some, None, Option, sym, refl, ap, ◌∙◌, subst, add-zero, zero-add, add-one, arith}
use Rattle.std.proofs.lemmas.List.{length-map}
use Rattle.config.specs.Setup.{Setup}
use Rattle.carrier.specs.Meaning.{Meaning}
use Rattle.rules.specs.Entries.{Entry, before, from_on, merged}
use Rattle.rules.specs.Slots.{Frame, Turn, end_of, turns, waiting, doubt, reaches_zero}
use Rattle.rules.specs.State.{Hearing, latest, State, Step, out, following, in_step, parents_of, rate_of, parent_at}
use Rattle.rules.specs.Calls.{Reach, records_from, let_go, admitted, frame_turns, doubt_at, step_after, followed_to, NotInStep, Called, placed, skipping, FrameAnswer, skipped, followed, added, refused_frame, Frames, none, silent, skips, unheard, crowded, follows, adds}
use Rattle.rules.specs.Log.{framed, Log, Tracked, tracked, held, within, each_parent, log_turns, turns_of, Placed, run, Tally, count, clear, moved, settled, tally, record_of, backlog_after}
use Rattle.rules.proofs.Ordered.{within_is, from_on_twice}
use Rattle.rules.proofs.Kept.{Heard, quiet, known, ParentOk, Chain, Coming, Ongoing, Going, Kept}
use Rattle.rules.proofs.Hearing.{no_way}

pub some_same : {x y : Hearing} → ◌≡◌ {A = Option Hearing} (Some x) (Some y) → x ≡ y
some_same e = cc

-- the hearing of a parent, in the list of all hearings
pub record At (F : Hearing → Hearing) (hs : List Hearing) (p : ℕ) : Type 0 where
  pub h : Hearing
  pub was : get_or (map Some hs) p None ≡ Some h
  pub is : get_or (map (λ x. Some (F x)) hs) p None ≡ Some (F h)
  pub early : h.from ≤ latest hs
  pub reach : (e : ℕ) → Reach e hs → e ≤ h.heard_to

first_early : (h : Hearing) (hs : List Hearing) → h.from ≤ latest (h ∷ hs)
first_early h [] = omega arith
first_early h (g ∷ hs) = omega arith

later_early : (n : ℕ) (h : Hearing) (hs : List Hearing) → n ≤ latest hs → n ≤ latest (h ∷ hs)
later_early n h [] k = omega arith
later_early n h (g ∷ hs) k = omega arith

pub at : (F : Hearing → Hearing) (hs : List Hearing) (p : ℕ) → p < length hs → At F hs p
at F [] p k = absurd (omega arith)
at F (h ∷ hs) zero k = record { h = h; was = refl; is = refl; early = first_early h hs; reach = λ e r. r.0 }
at F (h ∷ hs) (suc p) k = let a = at F hs p (omega arith) in record { h = a.h; was = a.was; is = a.is; early = later_early _ h hs a.early; reach = λ e r. a.reach e r.1 }

let_go_ok : {rate : ℕ} {k : Option Tracked} {l : List Entry} {h : Hearing} (m : ℕ) → h.from ≤ m → Heard rate k l h → Heard rate k l (let_go m h)
let_go_ok {l = l} {h = h} m up ok = record { tracks = ok.tracks; counts = ok.counts; line = ap (from_on m) ok.line ∙ from_on_twice h.from m l up; rises = ok.rises; top = ok.top }

chain_tail : (c : Setup) (look : ℕ → Option Frame) (l : Option Frame) (r : Frame) (rs : List Frame) → Chain c look l (r ∷ rs) → Chain c look l rs
chain_tail c look l r [] h = tt
chain_tail c look l r (q ∷ rs) h = h.3

chain_from : (c : Setup) (look : ℕ → Option Frame) (l : Option Frame) (m : ℕ) (rs : List Frame) → Chain c look l rs → Chain c look l (records_from m rs)
chain_from c look l m [] h = tt
chain_from c look l m (r ∷ rs) h = by (ltb r.start m) (chain_from c look l m rs (chain_tail c look l r rs h))
  where
    by : (b : Bool) → Chain c look l (records_from m rs) → Chain c look l (cond b (records_from m rs) (r ∷ rs))
    by true t = t
    by false t = h

pub chain_head : (c : Setup) (look : ℕ → Option Frame) (l : Option Frame) (r : Frame) (rs : List Frame) → Chain c look l (r ∷ rs) → look r.number ≡ Some r
chain_head c look l r [] h = h.0
chain_head c look l r (q ∷ rs) h = h.0

chain_coming : (c : Setup) (look : ℕ → Option Frame) (l : Option Frame) (r : Frame) (rs : List Frame) → Chain c look l (r ∷ rs) → Coming c l r.number (end_of c r) rs
chain_coming c look l r [] h = (r, h.1, refl, refl)
chain_coming c look l r (q ∷ rs) h = (h.1, h.2)

lines_are : (c : Setup) (log : Log) (st : Step) (f : Frame) (rates : List ℕ) (hs : List Hearing) (q : ℕ) → length hs ≡ length rates → ((i : ℕ) (h : Hearing) → i < length hs → get_or (map Some hs) i None ≡ Some h → admitted c f st h.line ≡ within f.start (end_of c f) (held c (q + i) log)) → map (λ h. admitted c f st h.line) hs ≡ each_parent c f.start (end_of c f) log q rates
lines_are c log st f [] [] q n each = refl
lines_are c log st f (rate ∷ rates) [] q n each = absurd (omega arith)
lines_are c log st f [] (h ∷ hs) q n each = absurd (omega arith)
lines_are c log st f (rate ∷ rates) (h ∷ hs) q n each =
    let first : admitted c f st h.line ≡ within f.start (end_of c f) (held c q log) = each 0 h (omega arith) refl ∙ ap (λ y. within f.start (end_of c f) (held c y log)) (add-zero q) in
    let later = lines_are c log st f rates hs (q + 1) (omega arith) (λ i x k w. each (i + 1) x (omega arith) (ap (λ y. get_or (map Some (h ∷ hs)) y None) (add-one i) ∙ w) ∙ ap (λ y. within f.start (end_of c f) (held c y log)) (omega arith)) in
    λ i. first i ∷ later i

pub still_clear : (c : Setup) (s : State) (t : Tally) (l : List Placed) (st : Step) → st ≡ in_step → Going c t l s st → t ≡ clear
still_clear c s t l out e g = no_way (cc)
still_clear c s t l (following d) e g = no_way (cc)
still_clear c s t l in_step e g = g.0

module _ (c : Setup) (log : Log) (s : State) (kept : Kept c log s) (m : ℕ) (f : Frame) (rest : List Frame) (hs : List Hearing) (called : Called c m s f rest hs) where
  pub many : length hs ≡ parents_of c
  many = sym (length-map hs Some) ∙ ap length (sym called.anchored) ∙ kept.size

  pub the_chain : Chain c (λ n. record_of n log) s.last (f ∷ rest)
  the_chain = subst (Chain c (λ n. record_of n log) s.last) called.oldest kept.chain

  pub at_parent : (F : Hearing → Hearing) (p : ℕ) → p < parents_of c → At F hs p
  at_parent F p k = at F hs p (omega (arith, many))

  -- what is known of a parent in the list
  pub heard_at : (F : Hearing → Hearing) (p : ℕ) (k : p < parents_of c) → Heard (rate_of c p) (tracked c p log) (held c p log) (at_parent F p k).h
  heard_at F p k = by (kept.heard p k)
    where
      here : parent_at s p ≡ Some (at_parent F p k).h
      here = ap (λ y. get_or y p None) called.anchored ∙ (at_parent F p k).was

      by : ParentOk c log p (parent_at s p) → Heard (rate_of c p) (tracked c p log) (held c p log) (at_parent F p k).h
      by (quiet pn kn ln) = let e = here in no_way (cc)
      by (known h p' ok) = let same : h ≡ (at_parent F p k).h = some_same (sym p' ∙ here) in subst (Heard (rate_of c p) (tracked c p log) (held c p log)) same ok

  let_go_parents : (m : ℕ) → latest hs ≤ m → (p : ℕ) → p < parents_of c → ParentOk c log p (get_or (map (λ h. Some (let_go m h)) hs) p None)
  let_go_parents m up p k = known (let_go m (at_parent (let_go m) p k).h) (at_parent (let_go m) p k).is (let_go_ok m (omega (arith, (at_parent (let_go m) p k).early)) (heard_at (let_go m) p k))

  -- what a frame admits is what the log says
  admitted_is : latest hs ≤ f.start → (t : Tally) (l : List Placed) (st : Step) → Going c t l s st → (p : ℕ) (k : p < parents_of c) → admitted c f st (at_parent (λ x. x) p k).h.line ≡ within f.start (end_of c f) (held c p log)
  admitted_is low t l st go p k = by st go
    where
      ok : Heard (rate_of c p) (tracked c p log) (held c p log) (at_parent (λ x. x) p k).h
      ok = heard_at (λ x. x) p k

      here : parent_at s p ≡ Some (at_parent (λ x. x) p k).h
      here = ap (λ y. get_or y p None) called.anchored ∙ (at_parent (λ x. x) p k).was

      ongoing : (g e : ℕ) → Ongoing c l s g e → before (end_of c f) (at_parent (λ x. x) p k).h.line ≡ within f.start (end_of c f) (held c p log)
      ongoing g e o =
          let was = o.froms p k in
          let same : was.0 ≡ (at_parent (λ x. x) p k).h = some_same (sym was.1 ∙ here) in
          let begins : f.start ≡ e = (subst (Coming c s.last g e) called.oldest o.coming).1 in
          let at-start : (at_parent (λ x. x) p k).h.from ≡ f.start = ap (λ x. x.from) (sym same) ∙ was.2 ∙ sym begins in
          ap (before (end_of c f)) (ok.line ∙ ap (λ y. from_on y (held c p log)) at-start) ∙ sym (within_is f.start (end_of c f) (held c p log) ok.rises)

      by : (st : Step) → Going c t l s st → admitted c f st (at_parent (λ x. x) p k).h.line ≡ within f.start (end_of c f) (held c p log)
      by out g = ap (λ y. before (end_of c f) (from_on f.start y)) ok.line ∙ ap (before (end_of c f)) (from_on_twice (at_parent (λ x. x) p k).h.from f.start (held c p log) (omega (arith, (at_parent (λ x. x) p k).early))) ∙ sym (within_is f.start (end_of c f) (held c p log) ok.rises)
      by (following d) g = ongoing g.1 g.2 g.3
      by in_step g = ongoing g.1 g.2 g.3

  pub turns_are : latest hs ≤ f.start → frame_turns c s f hs ≡ log_turns c f log
  turns_are low = ap (λ y. turns c f (merged y)) (lines_are c log s.step f c.rates hs 0 many (λ i h k w.
      let k' : i < parents_of c = omega (arith, many) in
      let same : (at_parent (λ x. x) i k').h ≡ h = some_same (sym (at_parent (λ x. x) i k').was ∙ w) in
      ap (λ y. admitted c f s.step y.line) (sym same) ∙ admitted_is low (tally c log) (run c log) s.step kept.going i k' ∙ ap (λ y. within f.start (end_of c f) (held c y log)) (sym (zero-add i))))

  pub run_is : turns_of c (record_of f.number log) log ≡ log_turns c f log
  run_is = ap (λ y. turns_of c y log) (chain_head c (λ n. record_of n log) s.last f rest the_chain)

  pub backlog_was : (t : Tally) (l : List Placed) (st : Step) → Going c t l s st → s.backlog ≡ backlog_after c.backlog l
  backlog_was t l out g = g.2 ∙ sym (ap (backlog_after c.backlog) g.1)
  backlog_was t l (following d) g = g.3.waits
  backlog_was t l in_step g = g.3.waits

  -- the frame is placed
  abbrev after_it : List Placed
  after_it = record { number = f.number; played_so = turns_of c (record_of f.number log) log } ∷ run c log

  goes_on : latest hs ≤ f.start → (st : Step) → Ongoing c after_it (placed c s f rest hs st) f.number (end_of c f)
  goes_on low st = record {
    newest = refl;
    waits = (λ i. waiting c.backlog (turns_are low i) (backlog_was (tally c log) (run c log) s.step kept.going i)) ∙ ap (λ y. waiting c.backlog y (backlog_after c.backlog (run c log))) (sym run_is);
    froms = λ p k. (let_go (end_of c f) (at_parent (let_go (end_of c f)) p k).h, (at_parent (let_go (end_of c f)) p k).is, refl);
    coming = chain_coming c (λ n. record_of n log) s.last f rest the_chain;
  }

  going_step : (l : List Placed) (s' : State) (b : Bool) (d g e : ℕ) → Ongoing c l s' g e → Going c (cond b clear (count d)) l s' (step_after b d)
  going_step l s' true d g e o = (refl, g, e, o)
  going_step l s' false d g e o = (refl, g, e, o)

  moved_is : (ts : List Turn) (t : Tally) (l : List Placed) (st : Step) → NotInStep st → Going c t l s st → moved c.backlog ts t ≡ settled c.backlog ts (doubt_at c st)
  moved_is ts t l out nis g = ap (moved c.backlog ts) g.0
  moved_is ts t l (following d) nis g = ap (moved c.backlog ts) g.0
  moved_is ts t l in_step nis g = absurd nis

  placed_size : (e : ℕ) → length (map (λ h. Some (let_go e h)) hs) ≡ parents_of c
  placed_size e = length-map hs (λ h. Some (let_go e h)) ∙ many

  pub keeps_skip : (k k' : Meaning) → Kept c (framed k (skipped f.number) k' ∷ log) (skipping s hs)
  keeps_skip k k' = record {
    size = placed_size (latest hs);
    heard = let_go_parents (latest hs) (omega arith);
    last = kept.last;
    chain = chain_from c (λ n. record_of n log) s.last (latest hs) s.records kept.chain;
    going = (refl, refl, refl);
  }

  pub keeps_follow : (k k' : Meaning) (n : ℕ) → latest hs ≤ f.start → NotInStep s.step → Kept c (framed k (followed f.number n) k' ∷ log) (placed c s f rest hs (followed_to c s (frame_turns c s f hs)))
  keeps_follow k k' n low nis = record {
    size = placed_size (end_of c f);
    heard = let_go_parents (end_of c f) (omega arith);
    last = kept.last;
    chain = chain_tail c (λ n. record_of n log) s.last f rest the_chain;
    going =
        let ts : List Turn = frame_turns c s f hs in
        let same : turns_of c (record_of f.number log) log ≡ ts = run_is ∙ sym (turns_are low) in
        let told : moved c.backlog (turns_of c (record_of f.number log) log) (tally c log) ≡ settled c.backlog ts (doubt_at c s.step) = ap (λ y. moved c.backlog y (tally c log)) same ∙ moved_is ts (tally c log) (run c log) s.step nis kept.going in
        let st = followed_to c s ts in
        subst (λ y. Going c y after_it (placed c s f rest hs st) st) (sym told) (going_step after_it (placed c s f rest hs st) (reaches_zero c.backlog ts (doubt_at c s.step)) (doubt c.backlog ts (doubt_at c s.step)) f.number (end_of c f) (goes_on low st));
  }

  pub keeps_add : (k k' : Meaning) (n : ℕ) → latest hs ≤ f.start → s.step ≡ in_step → Kept c (framed k (added f.number n) k' ∷ log) (placed c s f rest hs in_step)
  keeps_add k k' n low is = record {
    size = placed_size (end_of c f);
    heard = let_go_parents (end_of c f) (omega arith);
    last = kept.last;
    chain = chain_tail c (λ n. record_of n log) s.last f rest the_chain;
    going = (still_clear c s (tally c log) (run c log) s.step is kept.going, f.number, end_of c f, goes_on low in_step);
  }

module _ (c : Setup) (m : ℕ) (log : Log) (s : State) (kept : Kept c log s) (k k' : Meaning) where
  as_it_stands : (n : ℕ) → Kept c (framed k (refused_frame n) k' ∷ log) s
  as_it_stands n = record { size = kept.size; heard = kept.heard; last = kept.last; chain = kept.chain; going = kept.going }

  moved_frame : {r r₀ : FrameAnswer} {s' s₀ : State} → r ≡ r₀ → s' ≡ s₀ → Kept c (framed k r₀ k' ∷ log) s₀ → Kept c (framed k r k' ∷ log) s'
  moved_frame {r} {r₀} {s'} {s₀} er es h = subst (λ y. Kept c (framed k y k' ∷ log) s') (sym er) (subst (λ y. Kept c (framed k r₀ k' ∷ log) y) (sym es) h)

  pub keeps_frame : (r : FrameAnswer) (s' : State) → Frames c m s k r s' k' → Kept c (framed k r k' ∷ log) s'
  keeps_frame r s' (Frames.short e er es ek) = moved_frame er es (as_it_stands 5)
  keeps_frame r s' (none e n er es ek) = moved_frame er es (as_it_stands 12)
  keeps_frame r s' (silent e f rest first n er es ek) = moved_frame er es (as_it_stands 13)
  keeps_frame r s' (skips f rest hs called low er es ek) = moved_frame er es (keeps_skip c log s kept m f rest hs called k k')
  keeps_frame r s' (unheard f rest hs called low u er es ek) = moved_frame er es (as_it_stands 13)
  keeps_frame r s' (crowded f rest hs due is fr er es ek) = moved_frame er es (as_it_stands 14)
  keeps_frame r s' (follows f rest hs due nis er es ek) = moved_frame er es (keeps_follow c log s kept m f rest hs due.called k k' _ due.not_early nis)
  keeps_frame r s' (adds f rest hs due is fr er es ek) = moved_frame er es (keeps_add c log s kept m f rest hs due.called k k' _ due.not_early is)
