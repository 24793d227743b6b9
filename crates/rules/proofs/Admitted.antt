-- What a placed frame admits is a function of the streams and its record alone.
use Rattle.std.proofs.Common.{◌≡◌, ℕ, ◌+◌, ◌<◌, ◌≤◌, List, [], ◌∷◌, length, get_or, Some, None, sym, refl, ap, ◌∙◌, subst, add-zero, zero-add, arith}
use Rattle.config.specs.Setup.{Setup}
use Rattle.rules.specs.Entries.{Entry, merged}
use Rattle.rules.specs.Slots.{Frame, Turn, end_of, turns}
use Rattle.rules.specs.State.{Checked, Hearing, State, parents_of, parent_at}
use Rattle.rules.specs.Calls.{Due}
use Rattle.rules.specs.Log.{Log, Leads, held, within, each_parent, log_turns}
use Rattle.rules.specs.Laws.{Stream, StreamsRise, InStream, taken, FromStreams}
use Rattle.rules.proofs.Hearing.{no_way}
use Rattle.rules.proofs.Framing.{at_parent, some_same}
use Rattle.rules.proofs.Clear.{keeps}
use Rattle.rules.proofs.Streams.{offered, delivers, laid}
use Rattle.rules.proofs.Segments.{TakenOk, heard}
use Rattle.rules.proofs.Taken.{takes}

in_stream : (c : Setup) (ss : List Stream) (log : Log) → FromStreams c ss log → (p : ℕ) → p < parents_of c → InStream (taken p log) (get_or ss p [])
in_stream c ss [] h p k = ([], get_or ss p [], refl)
in_stream c ss (e ∷ past) h p k = h.1 p k

abbrev pub each_stream : Setup → ℕ → ℕ → List Stream → ℕ → List ℕ → List (List Entry)
each_stream c b e ss p [] = []
each_stream c b e ss p (rate ∷ rates) = within b e (offered c p None (get_or ss p [])) ∷ each_stream c b e ss (p + 1) rates

-- what a frame admits, by the streams alone
abbrev pub stream_turns : Setup → List Stream → Frame → List Turn
stream_turns c ss f = turns c f (merged (each_stream c f.start (end_of c f) ss 0 c.rates))

each_same : (c : Setup) (b e : ℕ) (ss : List Stream) (log : Log) (rates : List ℕ) (q : ℕ) → ((i : ℕ) → i < length rates → within b e (held c (q + i) log) ≡ within b e (offered c (q + i) None (get_or ss (q + i) []))) → each_parent c b e log q rates ≡ each_stream c b e ss q rates
each_same c b e ss log [] q each = refl
each_same c b e ss log (rate ∷ rates) q each =
    let first : within b e (held c q log) ≡ within b e (offered c q None (get_or ss q [])) = subst (λ y. within b e (held c y log) ≡ within b e (offered c y None (get_or ss y []))) (add-zero q) (each 0 (omega arith)) in
    let later = each_same c b e ss log rates (q + 1) (λ i k. let n : q + (i + 1) ≡ q + 1 + i = omega arith in subst (λ y. within b e (held c y log) ≡ within b e (offered c y None (get_or ss y []))) n (each (i + 1) (omega arith))) in
    λ i. first i ∷ later i

module _ (c : Setup) (sound : Checked c) (m : ℕ) (ss : List Stream) (rising : StreamsRise c ss) (log : Log) (s : State) (leads : Leads c m log s) (from : FromStreams c ss log) where
  held_is : (p : ℕ) → p < parents_of c → (h : Hearing) → parent_at s p ≡ Some h → (b e : ℕ) → h.from ≤ b → e ≤ h.heard_to → within b e (held c p log) ≡ within b e (offered c p None (get_or ss p []))
  held_is p k h here b e low far = by (takes c sound m leads p k)
    where
      by : TakenOk c p (taken p log) (held c p log) (parent_at s p) → within b e (held c p log) ≡ within b e (offered c p None (get_or ss p []))
      by (TakenOk.unheard pn) = no_way (cc)
      by (heard h₀ p₀ g) =
          let one : h₀ ≡ h = some_same (sym p₀ ∙ here) in
          let lies = in_stream c ss log from p k in
          g.offers b e (omega (arith, ap (λ y. y.from) one))
          ∙ sym (delivers c p lies.0 g.us g.vs lies.1 g.x g.z h₀.heard_to (get_or ss p []) (laid c p lies.0 g.us g.vs lies.1 g.x g.z h₀.heard_to (taken p log) (get_or ss p []) lies.2 g.split) (rising p k) g.ends b e (omega (arith, g.low, ap (λ y. y.from) one)) (omega (arith, ap (λ y. y.heard_to) one)))

  -- when a frame is placed, it admits what the streams bring
  pub admits_stream : (f : Frame) (rest : List Frame) (hs : List Hearing) → Due c m s f rest hs → log_turns c f log ≡ stream_turns c ss f
  admits_stream f rest hs due = ap (λ y. turns c f (merged y)) (each_same c f.start (end_of c f) ss log c.rates 0 (λ i k.
      let a = at_parent c log s (keeps c sound m leads) m f rest hs due.called (λ x. x) i k in
      let z : i ≡ 0 + i = sym (zero-add i) in
      subst (λ y. within f.start (end_of c f) (held c y log) ≡ within f.start (end_of c f) (offered c y None (get_or ss y []))) z
      (held_is i k a.h (ap (λ y. get_or y i None) due.called.anchored ∙ a.was) f.start (end_of c f) (omega (arith, a.early, due.not_early)) (a.reach (end_of c f) due.heard))))
