-- A frame placed slot by slot over the whole lines: what was put so far, and what the slots to come will make of the rest.
use Rattle.std.proofs.Common.{◌≡◌, ℕ, zero, suc, ◌+◌, ◌-◌, ◌*◌, ◌/◌, ◌<◌, ◌≤◌, min, Bool, true, false, cond, ◌||◌, eqb, ltb, ◌⊎◌, List, [], ◌∷◌, ◌++◌, map, length, get_or, set, Some, None, sym, refl, ap, ◌∙◌, subst, ap₂, ⊎_elim, le_trans, mul-le-mul_right, le-div_iff_mul-le, div-mul-le_self, arith}
use native.Mathlib.Nat.{div-zero, mul-div_cancel_left}
use Rattle.std.proofs.lemmas.List.{append_assoc, append-nil, length-map}
use Rattle.std.proofs.lemmas.Bool.{lt-ltb, le-ltb, cases_lt, cond-true, cond-false}
use Rattle.config.specs.Setup.{Setup}
use Rattle.psi.specs.Packet.{Bytes, stuffing}
use Rattle.psi.specs.Pat.{pat_copy}
use Rattle.rules.specs.Entries.{Entry, before, from_on, merged}
use Rattle.rules.specs.Slots.{Frame, end_of, Use, pat, payload, use_of, limit, Turn, turns_from, turns, join, joins, drops, leaves, stays, played, waiting, dropped, lowered, doubt, reaches_zero}
use Rattle.rules.specs.State.{Hearing, Step, out, following, in_step, State, parents_of}
use Rattle.rules.specs.Calls.{AllHeard, admitted, frame_turns}
use Rattle.rules.specs.Invariants.{InOrder, Sound}
use Rattle.rules.proofs.Ordered.{Rises, from_on_twice}
use Rattle.rules.proofs.Merging.{Rising, NoneBefore, Earliest, before_first, from_on_first, before_none, from_on_all, merged_first, before_merged, before_merged_none, from_on_merged_all, lines_left, in_order_rises}

-- Inside a slot with limit m.

-- Admission went on from backlog b₀, x₀ dropped, doubt d₀ and es₀ to come, to b, x, d and es: what is still admitted leads to the same.
pub record Admitting (q m : ℕ) (b₀ : List Entry) (x₀ d₀ : ℕ) (es₀ b : List Entry) (x d : ℕ) (es : List Entry) : Type 0 where
  pub backlog : joins q b (before m es) ≡ joins q b₀ (before m es₀)
  pub lost : x + drops q b (before m es) ≡ x₀ + drops q b₀ (before m es₀)
  pub later : from_on m es ≡ from_on m es₀
  pub raised : min q (d + length (before m es)) ≡ min q (d₀ + length (before m es₀))
  pub low : d ≤ q

-- Nothing more arrives before m.
pub record Settled (m : ℕ) (es : List Entry) : Type 0 where
  pub none : before m es ≡ []
  pub all : from_on m es ≡ es

pub settled : (m : ℕ) (ls : List (List Entry)) → Rising ls → NoneBefore m (length ls) ls → Settled m (merged ls)
settled m ls r h = record { none = before_merged_none m ls r h; all = from_on_merged_all m ls r h }

-- one admission
admits : (q m : ℕ) (b₀ : List Entry) (x₀ d₀ : ℕ) (es₀ b : List Entry) (x d : ℕ) (e : Entry) (es : List Entry) (d' : ℕ)
    → Admitting q m b₀ x₀ d₀ es₀ b x d (e ∷ es) → e.arrival < m → d' ≡ min q (d + 1)
    → Admitting q m b₀ x₀ d₀ es₀ (join q b e) (x + cond (ltb (length b) q) 0 1) d' es
admits q m b₀ x₀ d₀ es₀ b x d e es d' h k up =
    record {
      backlog = ap (joins q b) (sym first) ∙ h.backlog;
      lost =
          let here : drops q b (before m (e ∷ es)) ≡ cond (ltb (length b) q) 0 1 + drops q (join q b e) (before m es) = ap (drops q b) first in
          omega (arith, h.lost);
      later = sym (from_on_first m e es k) ∙ h.later;
      raised =
          let here : length (before m (e ∷ es)) ≡ suc (length (before m es)) = ap length first in
          omega (arith, h.raised);
      low = omega arith;
    }
  where
    first : before m (e ∷ es) ≡ e ∷ before m es
    first = before_first m e es k

module _ (q m : ℕ) (b₀ : List Entry) (x₀ d₀ : ℕ) (es₀ : List Entry) where
  pub admitting_start : d₀ ≤ q → Admitting q m b₀ x₀ d₀ es₀ b₀ x₀ d₀ es₀
  admitting_start h = record { backlog = refl; lost = refl; later = refl; raised = refl; low = h }

  -- the earliest first entry joins the backlog
  pub admitting_joins : (b : List Entry) (x d : ℕ) (ls : List (List Entry)) (p : ℕ) (e : Entry) (rest : List Entry) (d' : ℕ)
      → Admitting q m b₀ x₀ d₀ es₀ b x d (merged ls)
      → Rising ls → Earliest (length ls) ls p e rest → e.arrival < m
      → length b < q → d' ≡ min q (d + 1)
      → Admitting q m b₀ x₀ d₀ es₀ (b ++ e ∷ []) x d' (merged (set ls p rest))
  admitting_joins b x d ls p e rest d' h r first k room up =
      let t : ltb (length b) q ≡ true = lt-ltb _ _ room in
      let same : x + cond (ltb (length b) q) 0 1 ≡ x = ap (λ y. x + cond y 0 1) t ∙ omega arith in
      subst (λ y. Admitting q m b₀ x₀ d₀ es₀ y x d' (merged (set ls p rest))) (cond-true _ _ _ t)
      (subst (λ y. Admitting q m b₀ x₀ d₀ es₀ (join q b e) y d' (merged (set ls p rest))) same
      (admits q m b₀ x₀ d₀ es₀ b x d e (merged (set ls p rest)) d' (subst (Admitting q m b₀ x₀ d₀ es₀ b x d) (merged_first ls p e rest r first) h) k up))

  -- the earliest first entry is dropped: q wait already
  pub admitting_drops : (b : List Entry) (x d : ℕ) (ls : List (List Entry)) (p : ℕ) (e : Entry) (rest : List Entry) (d' : ℕ)
      → Admitting q m b₀ x₀ d₀ es₀ b x d (merged ls)
      → Rising ls → Earliest (length ls) ls p e rest → e.arrival < m
      → q ≤ length b → d' ≡ min q (d + 1)
      → Admitting q m b₀ x₀ d₀ es₀ b (x + 1) d' (merged (set ls p rest))
  admitting_drops b x d ls p e rest d' h r first k full up =
      let t : ltb (length b) q ≡ false = le-ltb _ _ full in
      subst (λ y. Admitting q m b₀ x₀ d₀ es₀ y (x + 1) d' (merged (set ls p rest))) (cond-false _ _ _ t)
      (subst (λ y. Admitting q m b₀ x₀ d₀ es₀ (join q b e) y d' (merged (set ls p rest))) (ap (λ y. x + cond y 0 1) t)
      (admits q m b₀ x₀ d₀ es₀ b x d e (merged (set ls p rest)) d' (subst (Admitting q m b₀ x₀ d₀ es₀ b x d) (merged_first ls p e rest r first) h) k up))

-- What admission came to when nothing more arrives before the limit.
pub record AdmittedAll (q m : ℕ) (b₀ : List Entry) (x₀ d₀ : ℕ) (es₀ b : List Entry) (x d : ℕ) (es : List Entry) : Type 0 where
  pub backlog : b ≡ joins q b₀ (before m es₀)
  pub lost : x ≡ x₀ + drops q b₀ (before m es₀)
  pub later : es ≡ from_on m es₀
  pub raised : d ≡ min q (d₀ + length (before m es₀))

pub admitting_end : (q m : ℕ) (b₀ : List Entry) (x₀ d₀ : ℕ) (es₀ b : List Entry) (x d : ℕ) (es : List Entry)
    → Admitting q m b₀ x₀ d₀ es₀ b x d es → Settled m es → AdmittedAll q m b₀ x₀ d₀ es₀ b x d es
admitting_end q m b₀ x₀ d₀ es₀ b x d es h s =
    record {
      backlog = ap (joins q b) (sym s.none) ∙ h.backlog;
      lost = let here : drops q b (before m es) ≡ 0 = ap (drops q b) s.none in omega (arith, h.lost);
      later = sym s.all ∙ h.later;
      raised = let here : length (before m es) ≡ 0 = ap length s.none in omega (arith, h.raised, h.low);
    }

-- The slots of a frame.

-- With `left` slots to come from slot k on, the packets put, the backlog b, x dropped, the doubt d and whether it was 0 so far
-- lead to what the turns ts make of backlog b₀ and doubt d₀.
pub record Placing (c : Setup) (f : Frame) (ts : List Turn) (b₀ : List Entry) (d₀ left k : ℕ) (es : List Entry) (put : List Bytes) (b : List Entry) (x d : ℕ) (z : Bool) : Type 0 where
  pub packets : put ++ played c f.number (turns_from c f left k es) b ≡ played c f.number ts b₀
  pub backlog : waiting c.backlog (turns_from c f left k es) b ≡ waiting c.backlog ts b₀
  pub lost : x + dropped c.backlog (turns_from c f left k es) b ≡ dropped c.backlog ts b₀
  pub doubts : doubt c.backlog (turns_from c f left k es) d ≡ doubt c.backlog ts d₀
  pub reached : (z || reaches_zero c.backlog (turns_from c f left k es) d) ≡ reaches_zero c.backlog ts d₀
  pub low : d ≤ c.backlog

-- The frame is placed.
pub record Done (c : Setup) (f : Frame) (ts : List Turn) (b₀ : List Entry) (d₀ : ℕ) (put : List Bytes) (b : List Entry) (x d : ℕ) (z : Bool) : Type 0 where
  pub packets : put ≡ played c f.number ts b₀
  pub backlog : b ≡ waiting c.backlog ts b₀
  pub lost : x ≡ dropped c.backlog ts b₀
  pub doubts : d ≡ doubt c.backlog ts d₀
  pub reached : z ≡ reaches_zero c.backlog ts d₀

or_nothing : (z : Bool) → (z || false) ≡ z
or_nothing true = refl
or_nothing false = refl

or_regroup : (a b r : Bool) → ((a || b) || r) ≡ (a || (b || r))
or_regroup true b r = refl
or_regroup false b r = refl

module _ (c : Setup) (f : Frame) (ts : List Turn) (b₀ : List Entry) (d₀ : ℕ) where
  pub placing_start : (es : List Entry) → ts ≡ turns_from c f f.slots 0 es → d₀ ≤ c.backlog → Placing c f ts b₀ d₀ f.slots 0 es [] b₀ 0 d₀ false
  placing_start es same h =
      record {
        packets = ap (λ y. played c f.number y b₀) (sym same);
        backlog = ap (λ y. waiting c.backlog y b₀) (sym same);
        lost =
            let here : dropped c.backlog ts b₀ ≡ dropped c.backlog (turns_from c f f.slots 0 es) b₀ = ap (λ y. dropped c.backlog y b₀) same in
            omega arith;
        doubts = ap (λ y. doubt c.backlog y d₀) (sym same);
        reached = ap (λ y. reaches_zero c.backlog y d₀) (sym same);
        low = h;
      }

  -- admissions inside slot k
  pub placing_admits : (left k : ℕ) (es : List Entry) (put : List Bytes) (b : List Entry) (x d : ℕ) (z : Bool) (es' b' : List Entry) (x' d' : ℕ)
      → Placing c f ts b₀ d₀ (suc left) k es put b x d z
      → Admitting c.backlog (limit c f k) b x d es b' x' d' es'
      → Placing c f ts b₀ d₀ (suc left) k es' put b' x' d' z
  placing_admits left k es put b x d z es' b' x' d' h a =
      let u : Use = use_of c f k in
      let q : ℕ = c.backlog in
      record {
        packets =
            ap₂ (λ j l. put ++ leaves c f.number u j ∷ played c f.number (turns_from c f left (k + 1) l) (stays u j)) a.backlog a.later ∙ h.packets;
        backlog = ap₂ (λ j l. waiting q (turns_from c f left (k + 1) l) (stays u j)) a.backlog a.later ∙ h.backlog;
        lost =
            let rest : dropped q (turns_from c f left (k + 1) (from_on (limit c f k) es')) (stays u (joins q b' (before (limit c f k) es')))
            ≡ dropped q (turns_from c f left (k + 1) (from_on (limit c f k) es)) (stays u (joins q b (before (limit c f k) es)))
            = ap₂ (λ j l. dropped q (turns_from c f left (k + 1) l) (stays u j)) a.backlog a.later in
            omega (arith, h.lost, a.lost);
        doubts = ap₂ (λ j l. doubt q (turns_from c f left (k + 1) l) (lowered u j)) a.raised a.later ∙ h.doubts;
        reached =
            ap₂ (λ j l. z || (eqb (lowered u j) 0 || reaches_zero q (turns_from c f left (k + 1) l) (lowered u j))) a.raised a.later ∙ h.reached;
        low = a.low;
      }

  -- the earliest first entry joins the backlog in slot k, or is dropped
  pub placing_joins : (left k : ℕ) (ls : List (List Entry)) (put : List Bytes) (b : List Entry) (x d : ℕ) (z : Bool) (p : ℕ) (e : Entry) (rest : List Entry) (d' : ℕ)
      → Placing c f ts b₀ d₀ (suc left) k (merged ls) put b x d z
      → Rising ls → Earliest (length ls) ls p e rest → e.arrival < limit c f k
      → length b < c.backlog → d' ≡ min c.backlog (d + 1)
      → Placing c f ts b₀ d₀ (suc left) k (merged (set ls p rest)) put (b ++ e ∷ []) x d' z
  placing_joins left k ls put b x d z p e rest d' h r first m room up =
      placing_admits left k (merged ls) put b x d z (merged (set ls p rest)) (b ++ e ∷ []) x d' h
      (admitting_joins c.backlog (limit c f k) b x d (merged ls) b x d ls p e rest d'
      (admitting_start c.backlog (limit c f k) b x d (merged ls) h.low) r first m room up)

  pub placing_drops : (left k : ℕ) (ls : List (List Entry)) (put : List Bytes) (b : List Entry) (x d : ℕ) (z : Bool) (p : ℕ) (e : Entry) (rest : List Entry) (d' : ℕ)
      → Placing c f ts b₀ d₀ (suc left) k (merged ls) put b x d z
      → Rising ls → Earliest (length ls) ls p e rest → e.arrival < limit c f k
      → c.backlog ≤ length b → d' ≡ min c.backlog (d + 1)
      → Placing c f ts b₀ d₀ (suc left) k (merged (set ls p rest)) put b (x + 1) d' z
  placing_drops left k ls put b x d z p e rest d' h r first m full up =
      placing_admits left k (merged ls) put b x d z (merged (set ls p rest)) b (x + 1) d' h
      (admitting_drops c.backlog (limit c f k) b x d (merged ls) b x d ls p e rest d'
      (admitting_start c.backlog (limit c f k) b x d (merged ls) h.low) r first m full up)

  -- slot k itself, when nothing more is admitted in it
  pub placing_slot : (left k : ℕ) (es : List Entry) (put : List Bytes) (b : List Entry) (x d : ℕ) (z : Bool)
      → Placing c f ts b₀ d₀ (suc left) k es put b x d z
      → Settled (limit c f k) es
      → Placing c f ts b₀ d₀ left (k + 1) es
      (put ++ leaves c f.number (use_of c f k) b ∷ []) (stays (use_of c f k) b)
      x (lowered (use_of c f k) d) (z || eqb (lowered (use_of c f k) d) 0)
  placing_slot left k es put b x d z h s =
      let u : Use = use_of c f k in
      let q : ℕ = c.backlog in
      let j : b ≡ joins q b (before (limit c f k) es) = ap (joins q b) (sym s.none) in
      let l : es ≡ from_on (limit c f k) es = sym s.all in
      let n : length (before (limit c f k) es) ≡ 0 = ap length s.none in
      let r : d ≡ min q (d + length (before (limit c f k) es)) = omega (arith, h.low) in
      record {
        packets =
            append_assoc put (leaves c f.number u b ∷ []) (played c f.number (turns_from c f left (k + 1) es) (stays u b))
            ∙ ap₂ (λ j l. put ++ leaves c f.number u j ∷ played c f.number (turns_from c f left (k + 1) l) (stays u j)) j l ∙ h.packets;
        backlog = ap₂ (λ j l. waiting q (turns_from c f left (k + 1) l) (stays u j)) j l ∙ h.backlog;
        lost =
            let rest : dropped q (turns_from c f left (k + 1) es) (stays u b)
            ≡ dropped q (turns_from c f left (k + 1) (from_on (limit c f k) es)) (stays u (joins q b (before (limit c f k) es)))
            = ap₂ (λ j l. dropped q (turns_from c f left (k + 1) l) (stays u j)) j l in
            let here : drops q b (before (limit c f k) es) ≡ 0 = ap (drops q b) s.none in
            omega (arith, h.lost);
        doubts = ap₂ (λ j l. doubt q (turns_from c f left (k + 1) l) (lowered u j)) r l ∙ h.doubts;
        reached =
            or_regroup z (eqb (lowered u d) 0) (reaches_zero q (turns_from c f left (k + 1) es) (lowered u d))
            ∙ ap₂ (λ j l. z || (eqb (lowered u j) 0 || reaches_zero q (turns_from c f left (k + 1) l) (lowered u j))) r l ∙ h.reached;
        low = lowered_low u h.low;
      }
    where
      lowered_low : (u : Use) → d ≤ c.backlog → lowered u d ≤ c.backlog
      lowered_low (pat i) t = t
      lowered_low payload t = omega arith

  -- by what the slot is for: a PAT copy, the first that waits, or stuffing
  pub placing_pat : (left k : ℕ) (es : List Entry) (put : List Bytes) (b : List Entry) (x d : ℕ) (z : Bool) (i : ℕ)
      → Placing c f ts b₀ d₀ (suc left) k es put b x d z → Settled (limit c f k) es → use_of c f k ≡ pat i
      → Placing c f ts b₀ d₀ left (k + 1) es (put ++ pat_copy c f.number i ∷ []) b x d (z || eqb d 0)
  placing_pat left k es put b x d z i h s u =
      subst (λ y. Placing c f ts b₀ d₀ left (k + 1) es (put ++ leaves c f.number y b ∷ []) (stays y b) x (lowered y d) (z || eqb (lowered y d) 0)) u
      (placing_slot left k es put b x d z h s)

  pub placing_first : (left k : ℕ) (es : List Entry) (put : List Bytes) (e : Entry) (b : List Entry) (x d : ℕ) (z : Bool)
      → Placing c f ts b₀ d₀ (suc left) k es put (e ∷ b) x d z → Settled (limit c f k) es → use_of c f k ≡ payload
      → Placing c f ts b₀ d₀ left (k + 1) es (put ++ e.bytes ∷ []) b x (d - 1) (z || eqb (d - 1) 0)
  placing_first left k es put e b x d z h s u =
      subst (λ y. Placing c f ts b₀ d₀ left (k + 1) es (put ++ leaves c f.number y (e ∷ b) ∷ []) (stays y (e ∷ b)) x (lowered y d) (z || eqb (lowered y d) 0)) u
      (placing_slot left k es put (e ∷ b) x d z h s)

  pub placing_stuffing : (left k : ℕ) (es : List Entry) (put : List Bytes) (x d : ℕ) (z : Bool)
      → Placing c f ts b₀ d₀ (suc left) k es put [] x d z → Settled (limit c f k) es → use_of c f k ≡ payload
      → Placing c f ts b₀ d₀ left (k + 1) es (put ++ stuffing ∷ []) [] x (d - 1) (z || eqb (d - 1) 0)
  placing_stuffing left k es put x d z h s u =
      subst (λ y. Placing c f ts b₀ d₀ left (k + 1) es (put ++ leaves c f.number y [] ∷ []) (stays y []) x (lowered y d) (z || eqb (lowered y d) 0)) u
      (placing_slot left k es put [] x d z h s)

  pub placing_end : (k : ℕ) (es : List Entry) (put : List Bytes) (b : List Entry) (x d : ℕ) (z : Bool)
      → Placing c f ts b₀ d₀ 0 k es put b x d z → Done c f ts b₀ d₀ put b x d z
  placing_end k es put b x d z h =
      record {
        packets = sym (append-nil put) ∙ h.packets;
        backlog = h.backlog;
        lost = omega (arith, h.lost);
        doubts = h.doubts;
        reached = sym (or_nothing z) ∙ h.reached;
      }

-- The limits of a frame's slots.

div_more : (a b n : ℕ) → a ≤ b → a / n ≤ b / n
div_more a b zero h = omega (arith, div-zero a)
div_more a b (suc n) h = (le-div_iff_mul-le (omega arith)).1 (le_trans (div-mul-le_self a (suc n)) h)

pub limit_more : (c : Setup) (f : Frame) (j k : ℕ) → j ≤ k → limit c f j ≤ limit c f k
limit_more c f j k h =
    let up : (j + 1) * c.ticks / f.slots ≤ (k + 1) * c.ticks / f.slots = div_more _ _ f.slots (mul-le-mul_right c.ticks (omega arith)) in
    omega arith

-- the last slot's limit is the frame's end
pub limit_last : (c : Setup) (f : Frame) (k : ℕ) → k + 1 ≡ f.slots → limit c f k ≡ end_of c f
limit_last c f k h =
    ap (λ y. f.start + y * c.ticks / f.slots) h ∙ ap (λ y. f.start + y) (mul-div_cancel_left c.ticks (omega arith))

pub limit_within : (c : Setup) (f : Frame) (k : ℕ) → k < f.slots → limit c f k ≤ end_of c f
limit_within c f k h =
    let last : limit c f (f.slots - 1) ≡ end_of c f = limit_last c f (f.slots - 1) (omega arith) in
    let up : limit c f k ≤ limit c f (f.slots - 1) = limit_more c f k (f.slots - 1) (omega arith) in
    subst (λ y. limit c f k ≤ y) last up

-- The lines need not be cut at the frame's end first.

before_twice : (a b : ℕ) (es : List Entry) → a ≤ b → before a (before b es) ≡ before a es
before_twice a b [] h = refl
before_twice a b (e ∷ es) h =
    ⊎_elim
    (λ lt.
    ap (before a) (before_first b e es (omega arith)) ∙ before_first a e (before b es) lt ∙ ap (λ y. e ∷ y) (before_twice a b es h)
    ∙ sym (before_first a e es lt))
    (λ ge. late ge (cases_lt e.arrival b))
    (cases_lt e.arrival a)
  where
    late : a ≤ e.arrival → (e.arrival < b) ⊎ (b ≤ e.arrival) → before a (before b (e ∷ es)) ≡ before a (e ∷ es)
    late ge =
        ⊎_elim
        (λ lt. ap (before a) (before_first b e es lt) ∙ before_none a (e ∷ before b es) ge ∙ sym (before_none a (e ∷ es) ge))
        (λ over. ap (before a) (before_none b (e ∷ es) over) ∙ sym (before_none a (e ∷ es) ge))

from_on_before : (a b : ℕ) (es : List Entry) → a ≤ b → from_on a (before b es) ≡ before b (from_on a es)
from_on_before a b [] h = refl
from_on_before a b (e ∷ es) h =
    ⊎_elim
    (λ lt.
    ap (from_on a) (before_first b e es (omega arith)) ∙ from_on_first a e (before b es) lt ∙ from_on_before a b es h
    ∙ ap (before b) (sym (from_on_first a e es lt)))
    (λ ge. late ge (cases_lt e.arrival b))
    (cases_lt e.arrival a)
  where
    late : a ≤ e.arrival → (e.arrival < b) ⊎ (b ≤ e.arrival) → from_on a (before b (e ∷ es)) ≡ before b (from_on a (e ∷ es))
    late ge =
        ⊎_elim
        (λ lt.
        ap (from_on a) (before_first b e es lt) ∙ from_on_all a (e ∷ before b es) ge ∙ sym (before_first b e es lt)
        ∙ ap (before b) (sym (from_on_all a (e ∷ es) ge)))
        (λ over. ap (from_on a) (before_none b (e ∷ es) over) ∙ sym (before_none b (e ∷ es) over) ∙ ap (before b) (sym (from_on_all a (e ∷ es) ge)))

pub turns_from_cut : (c : Setup) (f : Frame) (m left k : ℕ) (es : List Entry)
    → ((j : ℕ) → k ≤ j → j < k + left → limit c f j ≤ m)
    → turns_from c f left k (before m es) ≡ turns_from c f left k es
turns_from_cut c f m zero k es h = refl
turns_from_cut c f m (suc left) k es h =
    ap₂ (λ a t. record { admits = a; use_is = use_of c f k } ∷ t)
    (before_twice (limit c f k) m es (h k (omega arith) (omega arith)))
    (ap (turns_from c f left (k + 1)) (from_on_before (limit c f k) m es (h k (omega arith) (omega arith)))
    ∙ turns_from_cut c f m left (k + 1) (from_on (limit c f k) es) (λ j lo hi. h j (omega arith) (omega arith)))

pub turns_from_lines : (c : Setup) (f : Frame) (m left k : ℕ) (ls : List (List Entry))
    → Rising ls → ((j : ℕ) → k ≤ j → j < k + left → limit c f j ≤ m)
    → turns_from c f left k (merged (map (before m) ls)) ≡ turns_from c f left k (merged ls)
turns_from_lines c f m left k ls r h = ap (turns_from c f left k) (before_merged m ls r) ∙ turns_from_cut c f m left k (merged ls) h

pub turns_whole : (c : Setup) (f : Frame) (ls : List (List Entry))
    → Rising ls → turns c f (merged (map (before (end_of c f)) ls)) ≡ turns_from c f f.slots 0 (merged ls)
unfolding turns
turns_whole c f ls r = turns_from_lines c f (end_of c f) f.slots 0 ls r (λ j lo hi. limit_within c f j (omega arith))

-- The lines when placing begins: out of step, what arrived before the frame's start is let go.
abbrev pub started : Frame → Step → List Entry → List Entry
started f out l = from_on f.start l
started f (following d) l = l
started f in_step l = l

-- each of them rises
abbrev pub LinesRise : List Hearing → Type 0
LinesRise [] = Unit {0}
LinesRise (h ∷ hs) = Rises h.line × LinesRise hs

lines_rise_by : (hs : List Hearing) → ((p : ℕ) (h : Hearing) → p < length hs → get_or (map Some hs) p None ≡ Some h → InOrder h.line) → LinesRise hs
lines_rise_by [] r = tt
lines_rise_by (h ∷ hs) r =
    (in_order_rises h.line (r 0 h (omega arith) refl), lines_rise_by hs (λ p g k w. r (suc p) g (omega arith) w))

-- in a sound adapter they do
pub lines_rise : (c : Setup) (s : State) (hs : List Hearing) → Sound c s → AllHeard s hs → LinesRise hs
lines_rise c s hs sound heard =
    let many : length hs ≡ parents_of c = sym (length-map hs Some) ∙ ap length (sym heard) ∙ sound.size in
    lines_rise_by hs (λ p h k w. sound.ordered p h (omega arith) (ap (λ y. get_or y p None) heard ∙ w))

pub rises_from_on : (m : ℕ) (l : List Entry) → Rises l → Rises (from_on m l)
rises_from_on m [] r = tt
rises_from_on m (e ∷ es) r =
    ⊎_elim
    (λ lt. subst Rises (sym (from_on_first m e es lt)) (rises_from_on m es r.1))
    (λ ge. subst Rises (sym (from_on_all m (e ∷ es) ge)) r)
    (cases_lt e.arrival m)

started_rises : (f : Frame) (s : Step) (l : List Entry) → Rises l → Rises (started f s l)
started_rises f out l r = rises_from_on f.start l r
started_rises f (following d) l r = r
started_rises f in_step l r = r

pub rising_started : (f : Frame) (s : Step) (hs : List Hearing) → LinesRise hs → Rising (map (λ h. started f s h.line) hs)
rising_started f s [] r = tt
rising_started f s (h ∷ hs) r = (started_rises f s h.line r.0, rising_started f s hs r.1)

admitted_is : (c : Setup) (f : Frame) (s : Step) (l : List Entry) → admitted c f s l ≡ before (end_of c f) (started f s l)
admitted_is c f out l = refl
admitted_is c f (following d) l = refl
admitted_is c f in_step l = refl

admitted_lines : (c : Setup) (f : Frame) (s : Step) (hs : List Hearing)
    → map (λ h. admitted c f s h.line) hs ≡ map (before (end_of c f)) (map (λ h. started f s h.line) hs)
admitted_lines c f s [] = refl
admitted_lines c f s (h ∷ hs) = ap₂ ◌∷◌ (admitted_is c f s h.line) (admitted_lines c f s hs)

-- the frame's turns, from the lines as they stand when placing begins
pub frame_turns_are : (c : Setup) (s : State) (f : Frame) (hs : List Hearing)
    → LinesRise hs → frame_turns c s f hs ≡ turns_from c f f.slots 0 (merged (map (λ h. started f s.step h.line) hs))
frame_turns_are c s f hs r =
    ap (λ y. turns c f (merged y)) (admitted_lines c f s.step hs)
    ∙ turns_whole c f (map (λ h. started f s.step h.line) hs) (rising_started f s.step hs r)

-- What is left of the lines after the last slot: with nothing before m in front, they are what they were from m on.
pub lines_after : (m : ℕ) (ls₀ ls : List (List Entry)) → map (from_on m) ls ≡ map (from_on m) ls₀ → NoneBefore m (length ls) ls → ls ≡ map (from_on m) ls₀
lines_after m ls₀ ls h none = sym (lines_left m ls none) ∙ h

pub lines_placed : (c : Setup) (f : Frame) (s : Step) (hs : List Hearing)
    → map (from_on (end_of c f)) (map (λ h. started f s h.line) hs) ≡ map (λ h. from_on (end_of c f) h.line) hs
lines_placed c f s [] = refl
lines_placed c f s (h ∷ hs) = ap₂ ◌∷◌ (one s) (lines_placed c f s hs)
  where
    one : (t : Step) → from_on (end_of c f) (started f t h.line) ≡ from_on (end_of c f) h.line
    one out = from_on_twice f.start (end_of c f) h.line (omega arith)
    one (following d) = refl
    one in_step = refl
