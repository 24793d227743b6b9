-- Two logs over the same streams add equal frames.
use Rattle.std.proofs.Common.{◌≡◌, ℕ, ◌+◌, ◌≤◌, true, List, [], ◌∷◌, ◌++◌, length, Some, sym, refl, ap, ◌∙◌, subst, inl, inr, ⊎_elim, arith}
use Rattle.std.proofs.lemmas.Bool.{or_cases, false≢true}
use Rattle.std.proofs.lemmas.List.{append_cancel_left}
use Rattle.config.specs.Setup.{Setup}
use Rattle.psi.specs.Packet.{Bytes}
use Rattle.carrier.specs.Meaning.{Meaning}
use Rattle.rules.specs.Slots.{Frame, played, waiting, doubt, reaches_zero}
use Rattle.rules.specs.State.{Checked, State}
use Rattle.rules.specs.Calls.{skipped, followed, added, refused_frame, frame_turns, Frames, none, silent, skips, unheard, crowded, follows, adds}
use Rattle.rules.specs.Log.{Event, hear, loss, recorded, framed, Log, Took, Leads, begins, next, log_turns, record_of, Placed, run, clear, tally, backlog_after, backlog_of, placement}
use Rattle.rules.specs.Laws.{Stream, StreamsRise, FromStreams, Accepted, OneRecordEach, Put, Shows, EqualFrames}
use Rattle.rules.proofs.Dominates.{agrees, bound}
use Rattle.rules.proofs.Kept.{Coming, newest_of}
use Rattle.rules.proofs.Hearing.{no_way}
use Rattle.rules.proofs.Framing.{chain_head, the_chain, turns_are, still_clear}
use Rattle.rules.proofs.Clear.{keeps, in_step_then}
use Rattle.rules.proofs.Admitted.{stream_turns, admits_stream}
use Rattle.rules.proofs.Runs.{ComesAfter, RunOk, run_doubt, run_zero, Told, record_found, accepted_more, run_kept}

-- two runs, read backwards, admit the same as far as both go
abbrev Aligned : List Placed → List Placed → Type 0
Aligned [] l = Unit {0}
Aligned (p ∷ k) [] = Unit {0}
Aligned (p ∷ k) (q ∷ l) = (p.played_so ≡ q.played_so) × Aligned k l

pub small : (q : ℕ) (l : List Placed) → length (backlog_after q l) ≤ q
small q [] = omega arith
small q (p ∷ l) = (bound q p.played_so (backlog_after q l) q (small q l) (small q l)).1

-- the doubt of one run dominates the backlog of the other
dominates : (q : ℕ) (k l : List Placed) → Aligned k l → length (backlog_after q l) ≤ run_doubt q k
dominates q [] l h = small q l
dominates q (p ∷ k) [] h = omega arith
dominates q (p ∷ k) (r ∷ l) h = subst (λ ts. length (waiting q ts (backlog_after q l)) ≤ doubt q p.played_so (run_doubt q k)) h.0 (bound q p.played_so (backlog_after q l) (run_doubt q k) (dominates q k l h.1) (small q l)).0

aligned_self : (k : List Placed) → Aligned k k
aligned_self [] = tt
aligned_self (p ∷ k) = (refl, aligned_self k)

aligned_back : (k l : List Placed) → Aligned k l → Aligned l k
aligned_back [] [] h = tt
aligned_back [] (q ∷ l) h = tt
aligned_back (p ∷ k) [] h = tt
aligned_back (p ∷ k) (q ∷ l) h = (sym h.0, aligned_back k l h.1)

same_backlogs : (q : ℕ) (k l : List Placed) → Aligned k l → run_zero q k ≡ true → run_zero q l ≡ true → backlog_after q k ≡ backlog_after q l
same_backlogs q [] l h zk zl = absurd (false≢true zk)
same_backlogs q (p ∷ k) [] h zk zl = absurd (false≢true zl)
same_backlogs q (p ∷ k) (r ∷ l) h zk zl =
    ⊎_elim
    (λ bk.
    ⊎_elim
    (λ bl. λ i. waiting q (h.0 i) (same_backlogs q k l h.1 bk bl i))
    (λ al. agrees q p.played_so (backlog_after q k) (backlog_after q l) (run_doubt q l) (dominates q l k (aligned_back k l h.1)) (dominates q l l (aligned_self l)) (small q k) (small q l) (ap (λ ts. reaches_zero q ts (run_doubt q l)) h.0 ∙ al) ∙ ap (λ ts. waiting q ts (backlog_after q l)) h.0)
    (or_cases _ _ zl))
    (λ ak. agrees q p.played_so (backlog_after q k) (backlog_after q l) (run_doubt q k) (dominates q k k (aligned_self k)) (dominates q k l h.1) (small q k) (small q l) ak ∙ ap (λ ts. waiting q ts (backlog_after q l)) h.0)
    (or_cases _ _ zk)

aligned_runs : (c : Setup) (ss : List Stream) (A B : Log) → OneRecordEach A B → (k l : List Placed) → RunOk c ss A k → RunOk c ss B l → ((n : ℕ) → newest_of k ≡ Some n → (n' : ℕ) → newest_of l ≡ Some n' → n ≡ n') → Aligned k l
aligned_runs c ss A B one [] l hk hl e = tt
aligned_runs c ss A B one (p ∷ k) [] hk hl e = tt
aligned_runs c ss A B one (p ∷ k) (q ∷ l) hk hl e =
    let number : p.number ≡ q.number = e p.number refl q.number refl in
    let f = hk.0 in
    let g = hl.0 in
    let frame : f.0 ≡ g.0 = one f.0 g.0 (inl f.1) (inr g.1) (f.2 ∙ number ∙ sym g.2) in
    (f.3 ∙ ap (stream_turns c ss) frame ∙ sym g.3, aligned_runs c ss A B one k l hk.2 hl.2 (λ n en n' en'. tails k l hk.1 hl.1 n en n' en' number))
  where
    tails : (k l : List Placed) → ComesAfter p.number k → ComesAfter q.number l → (n : ℕ) → newest_of k ≡ Some n → (n' : ℕ) → newest_of l ≡ Some n' → p.number ≡ q.number → n ≡ n'
    tails [] l hk hl n en n' en' number = no_way (cc)
    tails (u ∷ k) [] hk hl n en n' en' number = no_way (cc)
    tails (u ∷ k) (v ∷ l) hk hl n en n' en' number = let a : u.number ≡ n = cc in let b : v.number ≡ n' = cc in omega arith

-- what an added frame is, by its log
record Added (c : Setup) (ss : List Stream) (log : Log) (k k' : Meaning) (n : ℕ) : Type 0 where
  g : ℕ
  f : Frame
  newest : newest_of (run c log) ≡ Some g
  is_next : n ≡ g + 1
  accepted_so : Accepted f log
  number : f.number ≡ n
  turns_so : log_turns c f log ≡ stream_turns c ss f
  zeroed : run_zero c.backlog (run c log) ≡ true
  put : k'.packets ≡ k.packets ++ placement c log f

module _ (c : Setup) (sound : Checked c) (m : ℕ) (ss : List Stream) (rising : StreamsRise c ss) (log : Log) (s s' : State) (k k' : Meaning) (n d : ℕ) (leads : Leads c m log s) (from : FromStreams c ss log) where
  added_is : Frames c m s k (added n d) s' k' → Added c ss log k k' n
  added_is (Frames.short x er es ek) = no_way (cc)
  added_is (none x y er es ek) = no_way (cc)
  added_is (silent x f rest first y er es ek) = no_way (cc)
  added_is (skips f rest hs called low er es ek) = no_way (cc)
  added_is (unheard f rest hs called low u er es ek) = no_way (cc)
  added_is (crowded f rest hs due is fr er es ek) = no_way (cc)
  added_is (follows f rest hs due nis er es ek) = no_way (cc)
  added_is (adds f rest hs due is fr er es carried) =
      let kept = keeps c sound m leads in
      let clears : tally c log ≡ clear = still_clear c s (tally c log) (run c log) s.step is kept.going in
      let on = in_step_then c (tally c log) (run c log) s s.step kept.going clears in
      let head = chain_head c (λ n. record_of n log) s.last f rest (the_chain c log s kept m f rest hs due.called) in
      let number_is : n ≡ f.number = cc in
      let told : frame_turns c s f hs ≡ log_turns c f log = turns_are c log s kept m f rest hs due.called due.not_early in
      record {
        g = on.1;
        f = f;
        newest = on.3.newest;
        is_next = number_is ∙ (subst (Coming c s.last on.1 on.2) due.called.oldest on.3.coming).0;
        accepted_so = (record_found f.number log f head).0;
        number = sym number_is;
        turns_so = admits_stream c sound m ss rising log s leads from f rest hs due;
        zeroed = subst (λ t. Told c.backlog t (run c log)) clears (run_kept c sound m ss rising leads from).1;
        put = carried.packets ∙ (λ i. k.packets ++ played c f.number (told i) (on.3.waits i));
      }

same_placement : (c : Setup) (ss : List Stream) (A B : Log) (b₁ d₁ b₂ d₂ : Meaning) (n : ℕ) (x : Added c ss A b₁ d₁ n) (y : Added c ss B b₂ d₂ n) → RunOk c ss A (run c A) → RunOk c ss B (run c B) → OneRecordEach A B → placement c A x.f ≡ placement c B y.f
same_placement c ss A B b₁ d₁ b₂ d₂ n x y okA okB one =
    let frame : x.f ≡ y.f = one x.f y.f (inl x.accepted_so) (inr y.accepted_so) (x.number ∙ sym y.number) in
    let turns_same : log_turns c x.f A ≡ log_turns c y.f B = x.turns_so ∙ ap (stream_turns c ss) frame ∙ sym y.turns_so in
    let line-up = aligned_runs c ss A B one (run c A) (run c B) okA okB (λ u eu v ev. meet u eu v ev x.g y.g x.newest y.newest x.is_next y.is_next) in
    let waits-same : backlog_of c A ≡ backlog_of c B = same_backlogs c.backlog (run c A) (run c B) line-up x.zeroed y.zeroed in
    λ i. played c (frame i).number (turns_same i) (waits-same i)
  where
    meet : (u : ℕ) → newest_of (run c A) ≡ Some u → (v : ℕ) → newest_of (run c B) ≡ Some v → (g h : ℕ) → newest_of (run c A) ≡ Some g → newest_of (run c B) ≡ Some h → n ≡ g + 1 → n ≡ h + 1 → u ≡ v
    meet u eu v ev g h eg eh ng nh = let a : u ≡ g = cc in let b : v ≡ h = cc in omega arith

-- where a log shows an added frame: the log before that call
record Shown (c : Setup) (ss : List Stream) (log : Log) (f : ℕ) (ps : List Bytes) : Type 0 where
  past : Log
  b : Meaning
  d : Meaning
  added_so : Added c ss past b d f
  put : d.packets ≡ b.packets ++ ps
  ok : RunOk c ss past (run c past)
  part : (g : Frame) → Accepted g past → Accepted g log

module _ (c : Setup) (sound : Checked c) (m : ℕ) (ss : List Stream) (rising : StreamsRise c ss) where
  shown_here : (log : Log) (s s' : State) (f : ℕ) (ps : List Bytes) → Leads c m log s → FromStreams c ss log → (e : Event) → Took c m s e s' → Put e f ps → Shown c ss (e ∷ log) f ps
  shown_here log s s' f ps l from (hear p x t r) took put = absurd put
  shown_here log s s' f ps l from (loss p r) took put = absurd put
  shown_here log s s' f ps l from (recorded g r) took put = absurd put
  shown_here log s s' f ps l from (framed k (skipped g) k') took put = absurd put
  shown_here log s s' f ps l from (framed k (followed g n) k') took put = absurd put
  shown_here log s s' f ps l from (framed k (refused_frame n) k') took put = absurd put
  shown_here log s s' f ps l from (framed b (added g n) d) took put = record {
    past = log;
    b = b;
    d = d;
    added_so = subst (Added c ss log b d) put.0 (added_is c sound m ss rising log s s' b d g n l from took);
    put = put.1;
    ok = (run_kept c sound m ss rising l from).0;
    part = λ x h. accepted_more x (framed b (added g n) d) log h;
  }

  shown : {log : Log} {s : State} → Leads c m log s → FromStreams c ss log → (f : ℕ) (ps : List Bytes) → Shows log f ps → Shown c ss log f ps
  shown begins from f ps h = absurd h
  shown (next {log} {s} {s'} l e took) from f ps h =
      ⊎_elim
      (λ put. shown_here log s s' f ps l from.0 e took put)
      (λ before. let w = shown l from.0 f ps before in record { past = w.past; b = w.b; d = w.d; added_so = w.added_so; put = w.put; ok = w.ok; part = λ x k. accepted_more x e log (w.part x k) })
      h

pub equal_frames : EqualFrames
equal_frames c m₁ m₂ A B s₁ s₂ ss sound l₁ l₂ alike f ps qs hA hB =
    let x = shown c sound m₁ ss alike.rise l₁ alike.first_hears f ps hA in
    let y = shown c sound m₂ ss alike.rise l₂ alike.second_hears f qs hB in
    let one : OneRecordEach x.past y.past = λ u v hu hv e. alike.records u v (⊎_elim (λ k. inl (x.part u k)) (λ k. inr (y.part u k)) hu) (⊎_elim (λ k. inl (x.part v k)) (λ k. inr (y.part v k)) hv) e in
    let same-so = same_placement c ss x.past y.past x.b x.d y.b y.d f x.added_so y.added_so x.ok y.ok one in
    append_cancel_left x.b.packets ps (placement c x.past x.added_so.f) (sym x.put ∙ x.added_so.put)
    ∙ same-so
    ∙ sym (append_cancel_left y.b.packets qs (placement c y.past y.added_so.f) (sym y.put ∙ y.added_so.put))
