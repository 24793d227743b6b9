-- The two sites of the example meet all premises of the second law, and both add frame 4.
use Rattle.std.proofs.Common.{◌≡◌, ℕ, zero, suc, ◌<◌, ◌≤◌, List, [], ◌∷◌, ◌++◌, map, get_or, take, drop, Some, None, sym, refl, ap, ◌∙◌, inl, ⊎_elim, arith, take-append-drop}
use Rattle.psi.specs.Packet.{good_packet}
use Rattle.psi.specs.Delivery.{deliver, deliver_by}
use Rattle.carrier.specs.Meaning.{Carried}
use Rattle.rules.specs.Slots.{Frame, turns}
use Rattle.rules.specs.State.{Checked}
use Rattle.rules.specs.Times.{after}
use Rattle.rules.specs.Calls.{held_it, lost, anew, queued, skipped, followed, added, refused_frame}
use Rattle.rules.specs.Log.{hear, loss, recorded, framed, Log}
use Rattle.rules.specs.Laws.{Stream, Rising, taken, InStream, FromStreams, Accepted, OneRecordEach}
use Rattle.rules.specs.Sites.{site, packet, frame, stream, frame_four, small, large, lost_memory, late_memory, lost_log, late_log, TwoSites}
use Rattle.rules.proofs.Hearing.{no_way}
use Rattle.rules.proofs.Running.{Site, on, hears, loses, records, frames}

-- there is but one parent
only_parent : (P : ℕ → Type 0) → P 0 → (p : ℕ) → p < 1 → P p
only_parent P here zero k = here
only_parent P here (suc p) k = absurd (omega arith)

checked : Checked site
checked = record {
  settings = ((omega arith, omega arith), (omega arith, omega arith), (omega arith, omega arith), (omega arith, omega arith));
  parents = ((omega arith, omega arith), only_parent (λ p. (100_000 ≤ get_or site.rates p 0) × (get_or site.rates p 0 ≤ 100_000_000)) (omega arith, omega arith));
}

small_takes : Carried frame_four (small [] 3) (small frame_four 0)
small_takes = record { packets = refl; capacity = refl; at_most = omega arith; no_more = omega arith }

large_takes : Carried frame_four (large [] 9) (large frame_four 8)
large_takes = record { packets = refl; capacity = refl; at_most = omega arith; no_more = omega arith }

-- the logs, call by call

lost_leads : Site site lost_memory lost_log
unfolding deliver deliver_by good_packet turns after
lost_leads =
    let a1 = hears (on {c = site} {m = lost_memory}) 0 (packet 1) (Some 9_000) held_it refl in
    let a2 = records a1 (frame 1) anew refl in
    let a3 = hears a2 0 (packet 2) (Some 15_000) held_it refl in
    let a4 = hears a3 0 (packet 3) (Some 21_000) held_it refl in
    let a5 = frames a4 (small [] 3) (followed 1 0) (small [] 3) refl refl in
    let a6 = records a5 (frame 2) queued refl in
    let a7 = loses a6 0 lost refl in
    let a8 = hears a7 0 (packet 4) (Some 27_000) held_it refl in
    let a9 = records a8 (frame 3) queued refl in
    let b1 = hears a9 0 (packet 5) (Some 33_000) held_it refl in
    let b2 = frames b1 (small [] 3) (skipped 2) (small [] 3) refl refl in
    let b3 = frames b2 (small [] 3) (refused_frame 13) (small [] 3) refl refl in
    let b4 = hears b3 0 (packet 6) (Some 41_000) held_it refl in
    let b5 = frames b4 (small [] 3) (followed 3 0) (small [] 3) refl refl in
    let b6 = records b5 (frame 4) queued refl in
    let b7 = hears b6 0 (packet 7) None held_it refl in
    let b8 = hears b7 0 (packet 8) (Some 52_000) held_it refl in
    frames b8 (small [] 3) (added 4 1) (small frame_four 0) refl small_takes

late_leads : Site site late_memory late_log
unfolding deliver deliver_by good_packet turns after
late_leads =
    let a1 = records (on {c = site} {m = late_memory}) (frame 3) anew refl in
    let a2 = hears a1 0 (packet 4) (Some 27_000) held_it refl in
    let a3 = hears a2 0 (packet 5) (Some 33_000) held_it refl in
    let a4 = hears a3 0 (packet 6) (Some 41_000) held_it refl in
    let a5 = frames a4 (large [] 9) (followed 3 0) (large [] 9) refl refl in
    let a6 = records a5 (frame 4) queued refl in
    let a7 = hears a6 0 (packet 7) None held_it refl in
    let a8 = hears a7 0 (packet 8) (Some 52_000) held_it refl in
    frames a8 (large [] 9) (added 4 1) (large frame_four 8) refl large_takes

-- the stream's times rise

abbrev Up : ℕ → List ℕ → Type 0
Up z [] = Unit {0}
Up z (t ∷ ts) = (z < t) × Up t ts

up_all : (z : ℕ) (ts : List ℕ) → Up z ts → (j b : ℕ) → get_or (map Some ts) j None ≡ Some b → z < b
up_all z [] h j b e = no_way (cc)
up_all z (t ∷ ts) h zero b e = let is : t ≡ b = cc in omega (arith, h.0)
up_all z (t ∷ ts) h (suc j) b e = let later = up_all t ts h.1 j b e in omega (arith, h.0)

up_two : (z : ℕ) (ts : List ℕ) → Up z ts → (i j a b : ℕ) → i < j → get_or (map Some ts) i None ≡ Some a → get_or (map Some ts) j None ≡ Some b → a < b
up_two z [] h i j a b k ea eb = no_way (cc)
up_two z (t ∷ ts) h i zero a b k ea eb = absurd (omega arith)
up_two z (t ∷ ts) h zero (suc j) a b k ea eb = let is : t ≡ a = cc in let later = up_all t ts h.1 j b eb in omega arith
up_two z (t ∷ ts) h (suc i) (suc j) a b k ea eb = up_two t ts h.1 i j a b (omega arith) ea eb

rises : Rising 100_000_000 stream
unfolding after
rises = up_two 0 (9_000 ∷ 15_000 ∷ 21_000 ∷ 27_000 ∷ 33_000 ∷ 41_000 ∷ 41_406 ∷ 52_000 ∷ []) (omega arith, (omega arith, (omega arith, (omega arith, (omega arith, (omega arith, (omega arith, (omega arith, tt))))))))

-- every record is the one planned under its number

abbrev Planned : Log → Type 0
Planned [] = Unit {0}
Planned (hear p x t r ∷ past) = Planned past
Planned (loss p r ∷ past) = Planned past
Planned (recorded f r ∷ past) = (f ≡ frame f.number) × Planned past
Planned (framed k r k' ∷ past) = Planned past

planned : (log : Log) → Planned log → (f : Frame) → Accepted f log → f ≡ frame f.number
planned [] h f a = absurd a
planned (hear p x t r ∷ past) h f a = planned past h f a
planned (loss p r ∷ past) h f a = planned past h f a
planned (recorded g r ∷ past) h f a = ⊎_elim (λ here. here.1 ∙ h.0 ∙ ap (λ y. frame y.number) (sym here.1)) (λ before. planned past h.1 f before) a
planned (framed k r k' ∷ past) h f a = planned past h f a

one_each : (A B : Log) → Planned A → Planned B → OneRecordEach A B
one_each A B hA hB f g af ag e = ⊎_elim (planned A hA f) (planned B hB f) af ∙ ap frame e ∙ sym (⊎_elim (planned A hA g) (planned B hB g) ag)

-- the packets taken follow one another in the stream

-- so many packets of the stream behind so many others
abbrev part : ℕ × ℕ → Stream
part cut = take cut.1 (drop cut.0 stream)

-- at each point of the log, the newest first
abbrev Cuts : List (ℕ × ℕ) → Log → Type 0
Cuts cuts [] = Unit {0}
Cuts [] (e ∷ past) = ⊥
Cuts (cut ∷ cuts) (e ∷ past) = (taken 0 (e ∷ past) ≡ part cut) × Cuts cuts past

cut_so : (cut : ℕ × ℕ) (l : Stream) → l ≡ part cut → InStream l stream
cut_so cut l e =
    let post : Stream = drop cut.1 (drop cut.0 stream) in
    (take cut.0 stream, post, sym (take-append-drop cut.0 stream) ∙ ap (λ y. take cut.0 stream ++ y) (sym (take-append-drop cut.1 (drop cut.0 stream)) ∙ ap (λ y. y ++ post) (sym e)))

from_cuts : (cuts : List (ℕ × ℕ)) (log : Log) → Cuts cuts log → FromStreams site (stream ∷ []) log
from_cuts cuts [] h = tt
from_cuts [] (e ∷ past) h = absurd h
from_cuts (cut ∷ cuts) (e ∷ past) h = (from_cuts cuts past h.1, only_parent (λ p. InStream (taken p (e ∷ past)) (get_or (stream ∷ []) p [])) (cut_so cut _ h.0))

lost_hears : FromStreams site (stream ∷ []) lost_log
lost_hears =
    from_cuts
    ((3, 5) ∷ (3, 5) ∷ (3, 4) ∷ (3, 3) ∷ (3, 3) ∷ (3, 3) ∷ (3, 2) ∷ (3, 2) ∷ (3, 2) ∷ (3, 1) ∷ (3, 1) ∷ (0, 0) ∷ (0, 3) ∷ (0, 3) ∷ (0, 3) ∷ (0, 2) ∷ (0, 1) ∷ (0, 1) ∷ [])
    lost_log
    (refl, (refl, (refl, (refl, (refl, (refl, (refl, (refl, (refl, (refl, (refl, (refl, (refl, (refl, (refl, (refl, (refl, (refl, tt))))))))))))))))))

late_hears : FromStreams site (stream ∷ []) late_log
late_hears =
    from_cuts
    ((3, 5) ∷ (3, 5) ∷ (3, 4) ∷ (3, 3) ∷ (3, 3) ∷ (3, 3) ∷ (3, 2) ∷ (3, 1) ∷ (0, 0) ∷ [])
    late_log
    (refl, (refl, (refl, (refl, (refl, (refl, (refl, (refl, (refl, tt)))))))))

pub two_sites : TwoSites
two_sites = record {
  checked = checked;
  lost_leads = lost_leads;
  late_leads = late_leads;
  alike = record {
    rise = only_parent (λ p. Rising (get_or site.rates p 0) (get_or (stream ∷ []) p [])) rises;
    first_hears = lost_hears;
    second_hears = late_hears;
    records = one_each lost_log late_log (refl, (refl, (refl, (refl, tt)))) (refl, (refl, tt));
  };
  lost_adds = inl (refl, refl);
  late_adds = inl (refl, refl);
}
