-- One slot of a frame, for the loop that places it.
use Rattle.std.proofs.Common.{◌≡◌, ℕ, suc, ◌+◌, ◌-◌, ◌<◌, ◌≤◌, min, Bool, true, false, cond, ◌||◌, eqb, ltb, List, [], ◌∷◌, ◌++◌, map, length, get_or, sym, refl, ap, ◌∙◌, subst, ⊎_elim, append_assoc, arith, length-append}
use Rattle.std.proofs.lemmas.Bool.{cases_lt}
use Rattle.config.specs.Setup.{Setup}
use Rattle.carrier.specs.Meaning.{Meaning}
use Rattle.carrier.proofs.Carrying.{carried_none, carried_more}
use Rattle.memory.specs.Memory.{lines_in, backlog_in, size_in, SameShares}
use Rattle.memory.specs.declared.Memory.{Memory}
use Rattle.psi.specs.Packet.{Bytes}
use Rattle.rules.proofs.Merging.{Rising, from_on_merged, in_order_rises, rising_at, rising_by}
use Rattle.rules.proofs.Ordered.{Rises, from_on_twice}
use Rattle.rules.proofs.Placing.{Placing, placing_start, placing_end, rises_from_on, limit_more, limit_last}
use Rattle.rules.specs.Entries.{Entry}
use Rattle.rules.specs.Slots.{Frame}
use Rattle.rules.specs.Entries.{before, from_on, merged}
use Rattle.rules.specs.Invariants.{InOrder}
use Rattle.rules.specs.Slots.{Use, pat, payload, Turn, limit, end_of, joins, drops, leaves, stays, lowered, use_of, played}
use Rattle.adapter.specs.Placing.{LinesInOrder, Admitted, Filled, AllWhole, Goes, turns_of_lines, PlacedSo}
use Rattle.adapter.specs.declared.place.Course.{Course}
use Rattle.adapter.proofs.Keeping.{never, same_then}

rises_in_order : (l : List Entry) → Rises l → InOrder l
rises_in_order [] r = tt
rises_in_order (e ∷ []) r = tt
rises_in_order (e ∷ d ∷ es) r = (r.0.0, rises_in_order (d ∷ es) r.1)

pub lines_in_order : (ls : List (List Entry)) → Rising ls → LinesInOrder ls
lines_in_order ls r = λ q. rises_in_order (get_or ls q []) (rising_at ls q r)

pub rising_on : (m : ℕ) (ls : List (List Entry)) → Rising ls → Rising (map (from_on m) ls)
rising_on m [] r = tt
rising_on m (l ∷ ls) r = (rises_from_on m l r.0, rising_on m ls r.1)

pub cut_twice : (a b : ℕ) (ls : List (List Entry)) → a ≤ b → map (from_on b) (map (from_on a) ls) ≡ map (from_on b) ls
cut_twice a b [] h = refl
cut_twice a b (l ∷ ls) h = let x = from_on_twice a b l h in let y = cut_twice a b ls h in cc

-- what the lines are after the first k slots
abbrev pub Cut : Setup → Frame → ℕ → List (List Entry) → List (List Entry) → Type 0
Cut c f k ls₀ ls = (k ≡ 0 → ls ≡ ls₀) × (0 < k → ls ≡ map (from_on (limit c f (k - 1))) ls₀)

pub cut_more : (c : Setup) (f : Frame) (k : ℕ) (ls₀ ls ls' : List (List Entry)) → Cut c f k ls₀ ls → ls' ≡ map (from_on (limit c f k)) ls → Cut c f (k + 1) ls₀ ls'
cut_more c f k ls₀ ls ls' h e = (
  (λ z. absurd (omega arith)),
  (λ _.
      let at : k + 1 - 1 ≡ k = omega arith in
      subst (λ j. ls' ≡ map (from_on (limit c f j)) ls₀) (sym at)
      (e ∙ ⊎_elim
      (λ (some : 0 < k). ap (map (from_on (limit c f k))) (h.1 some) ∙ cut_twice (limit c f (k - 1)) (limit c f k) ls₀ (limit_more c f (k - 1) k (omega arith)))
      (λ (none : k ≤ 0). ap (map (from_on (limit c f k))) (h.0 (omega arith)))
      (cases_lt 0 k))),
)

pub cut_end : (c : Setup) (f : Frame) (ls₀ ls : List (List Entry)) (k : ℕ) → k ≡ f.slots → 0 < f.slots → Cut c f k ls₀ ls → ls ≡ map (from_on (end_of c f)) ls₀
cut_end c f ls₀ ls k all some h =
    let low : 0 < k = omega arith in
    h.1 low ∙ ap (λ m. map (from_on m) ls₀) (limit_last c f (k - 1) (omega arith))

-- what can go to a carrier
pub whole_before : (m : ℕ) (es : List Entry) → AllWhole es → AllWhole (before m es)
whole_before m [] h = tt
whole_before m (e ∷ es) h = elim (ltb e.arrival m) as (λ b. AllWhole (cond b (e ∷ before m es) [])) [ true ↦ (h.0, whole_before m es h.1) | false ↦ tt ]

pub whole_from_on : (m : ℕ) (es : List Entry) → AllWhole es → AllWhole (from_on m es)
whole_from_on m [] h = tt
whole_from_on m (e ∷ es) h = elim (ltb e.arrival m) as (λ b. AllWhole (cond b (from_on m es) (e ∷ es))) [ true ↦ whole_from_on m es h.1 | false ↦ h ]

pub whole_append : (xs ys : List Entry) → AllWhole xs → AllWhole ys → AllWhole (xs ++ ys)
whole_append [] ys h k = k
whole_append (x ∷ xs) ys h k = (h.0, whole_append xs ys h.1 k)

pub whole_joins : (q : ℕ) (b es : List Entry) → AllWhole b → AllWhole es → AllWhole (joins q b es)
whole_joins q b [] h k = h
whole_joins q b (e ∷ es) h k =
    whole_joins q (cond (ltb (length b) q) (b ++ e ∷ []) b) es
    (elim (ltb (length b) q) as (λ t. AllWhole (cond t (b ++ e ∷ []) b)) [ true ↦ whole_append b (e ∷ []) h (k.0, tt) | false ↦ h ])
    k.1

pub whole_stays : (u : Use) (b : List Entry) → AllWhole b → AllWhole (stays u b)
whole_stays (pat i) b h = h
whole_stays payload [] h = tt
whole_stays payload (e ∷ b) h = h.1

or_regroup : (a b r : Bool) → ((a || b) || r) ≡ (a || (b || r))
or_regroup true b r = refl
or_regroup false b r = refl

lowered_low : (q d : ℕ) (u : Use) → d ≤ q → lowered u d ≤ q
lowered_low q d (pat i) h = h
lowered_low q d payload h = omega arith

-- one slot
turn : (c : Setup) (f : Frame) (ts : List Turn) (b₀ : List Entry) (d₀ left k : ℕ) (es : List Entry) (put : List Bytes) (b : List Entry) (x d : ℕ) (z : Bool)
    → Placing c f ts b₀ d₀ (suc left) k es put b x d z
    → Placing c f ts b₀ d₀ left (k + 1) (from_on (limit c f k) es)
    (put ++ leaves c f.number (use_of c f k) (joins c.backlog b (before (limit c f k) es)) ∷ [])
    (stays (use_of c f k) (joins c.backlog b (before (limit c f k) es)))
    (x + drops c.backlog b (before (limit c f k) es))
    (lowered (use_of c f k) (min c.backlog (d + length (before (limit c f k) es))))
    (z || eqb (lowered (use_of c f k) (min c.backlog (d + length (before (limit c f k) es)))) 0)
turn c f ts b₀ d₀ left k es put b x d z h =
    record {
      packets = append_assoc put _ _ ∙ h.packets;
      backlog = h.backlog;
      lost = omega (arith, h.lost);
      doubts = h.doubts;
      reached = or_regroup z _ _ ∙ h.reached;
      low = lowered_low c.backlog _ (use_of c f k) (omega arith);
    }

placing_at : (c : Setup) (f : Frame) (ts : List Turn) (b₀ : List Entry) (d₀ left k : ℕ) {es es' : List Entry} {put put' : List Bytes} {b b' : List Entry} {x x' d d' : ℕ} {z z' : Bool}
    → es' ≡ es → put' ≡ put → b' ≡ b → x' ≡ x → d' ≡ d → z' ≡ z
    → Placing c f ts b₀ d₀ left k es put b x d z → Placing c f ts b₀ d₀ left k es' put' b' x' d' z'
placing_at c f ts b₀ d₀ left k {es = es} {es' = es'} {put = put} {put' = put'} {b = b} {b' = b'} {x = x} {x' = x'} {d = d} {d' = d'} {z = z} {z' = z'} e p eb ex ed ez h =
    subst (λ y. Placing c f ts b₀ d₀ left k y put' b' x' d' z') (sym e)
    (subst (λ y. Placing c f ts b₀ d₀ left k es y b' x' d' z') (sym p)
    (subst (λ y. Placing c f ts b₀ d₀ left k es put y x' d' z') (sym eb)
    (subst (λ y. Placing c f ts b₀ d₀ left k es put b y d' z') (sym ex)
    (subst (λ y. Placing c f ts b₀ d₀ left k es put b x y z') (sym ed)
    (subst (λ y. Placing c f ts b₀ d₀ left k es put b x d y) (sym ez) h)))))

pub one_slot : (c : Setup) (f : Frame) (ts : List Turn) (b₀ : List Entry) (d₀ left k : ℕ) (put : List Bytes) (m m₁ m₂ : Memory Entry) (s s₁ s₂ : Course)
    → size_in m ≡ c.backlog → Rising (lines_in m)
    → Admitted (limit c f k) m m₁ s s₁ → Filled c f k m₁ m₂ s₁ s₂
    → Placing c f ts b₀ d₀ (suc left) k (merged (lines_in m)) put (backlog_in m) s.drops s.doubt s.zero
    → Placing c f ts b₀ d₀ left (k + 1) (merged (lines_in m₂)) (put ++ leaves c f.number (use_of c f k) (backlog_in m₁) ∷ []) (backlog_in m₂) s₂.drops s₂.doubt s₂.zero
one_slot c f ts b₀ d₀ left k put m m₁ m₂ s s₁ s₂ size rises a l h =
    let lim = limit c f k in
    let u = use_of c f k in
    let es = merged (lines_in m) in
    let later : merged (lines_in m₂) ≡ from_on lim es = ap merged (l.lines ∙ a.lines) ∙ from_on_merged lim (lines_in m) rises in
    let waits : backlog_in m₁ ≡ joins c.backlog (backlog_in m) (before lim es) = a.backlog ∙ ap (λ q. joins q (backlog_in m) (before lim es)) size in
    let raised : s₁.doubt ≡ min c.backlog (s.doubt + length (before lim es)) = a.doubts ∙ ap (λ q. min q (s.doubt + length (before lim es))) size in
    let fell : s₂.doubt ≡ lowered u (min c.backlog (s.doubt + length (before lim es))) = l.doubts ∙ ap (lowered u) raised in
    placing_at c f ts b₀ d₀ left (k + 1)
    later
    (ap (λ y. put ++ leaves c f.number u y ∷ []) waits)
    (l.backlog ∙ ap (stays u) waits)
    (l.counts ∙ a.counts ∙ ap (λ q. s.drops + drops q (backlog_in m) (before lim es)) size)
    fell
    (l.zero ∙ ap (λ y. y || eqb s₂.doubt 0) a.zero ∙ ap (λ y. s.zero || eqb y 0) fell)
    (turn c f ts b₀ d₀ left k es put (backlog_in m) s.drops s.doubt s.zero h)

-- what goes to the carrier
pub goes_means : {C : Type 0} (meaning : C → Meaning) (adding : Bool) (put : List Bytes) (k k' : C) → Goes meaning adding put k k' → Goes (λ (y : Meaning). y) adding put (meaning k) (meaning k')
goes_means meaning true put k k' g = g
goes_means meaning false put k k' g = ap meaning g

module _ {C : Type 0} (meaning : C → Meaning) where
  goes_none : (adding : Bool) (k : C) → Goes meaning adding [] k k
  goes_none true k = carried_none (meaning k)
  goes_none false k = refl

  pub goes_more : (adding : Bool) (put : List Bytes) (packet : Bytes) (k₀ k k' : C) → Goes meaning adding put k₀ k → Goes meaning adding (packet ∷ []) k k' → Goes meaning adding (put ++ packet ∷ []) k₀ k'
  goes_more true put packet k₀ k k' g t = carried_more g t
  goes_more false put packet k₀ k k' g t = t ∙ g

  pub has_place : (adding : Bool) (put : List Bytes) (k₀ k : C) → adding ≡ true → Goes meaning adding put k₀ k → length put < (meaning k₀).free → 0 < (meaning k).free
  has_place true put k₀ k e g low = omega (arith, g.at_most)
  has_place false put k₀ k e g low = never false e refl

  -- A frame is placed up to a slot, from memory m₀ and carrier k₀.
  pub record Going (c : Setup) (f : Frame) (d₀ : ℕ) (adding : Bool) (m₀ m : Memory Entry) (k₀ k : C) (s : Course) (slot : ℕ) : Type 0 where
    pub put : List Bytes
    pub placing : Placing c f (turns_of_lines c f (lines_in m₀)) (backlog_in m₀) d₀ (f.slots - slot) slot (merged (lines_in m)) put (backlog_in m) s.drops s.doubt s.zero
    pub many : length put ≡ slot
    pub goes : Goes meaning adding put k₀ k
    pub rises : Rising (lines_in m)
    pub cut : Cut c f slot (lines_in m₀) (lines_in m)
    pub fits : s.drops + length (merged (lines_in m)) ≤ length (merged (lines_in m₀))
    pub shares : SameShares m₀ m
    pub whole_lines : AllWhole (merged (lines_in m))
    pub whole_backlog : AllWhole (backlog_in m)

  pub going_start : (c : Setup) (f : Frame) (d₀ : ℕ) (adding : Bool) (m : Memory Entry) (k : C)
      → LinesInOrder (lines_in m) → AllWhole (merged (lines_in m)) → AllWhole (backlog_in m) → d₀ ≤ c.backlog
      → Going c f d₀ adding m m k k (record { drops = 0; doubt = d₀; zero = false }) 0
  going_start c f d₀ adding m k order lines backlog low =
      let all : f.slots ≡ f.slots - 0 = omega arith in
      record {
        put = [];
        placing =
            subst (λ left. Placing c f (turns_of_lines c f (lines_in m)) (backlog_in m) d₀ left 0 (merged (lines_in m)) [] (backlog_in m) 0 d₀ false) all
            (placing_start c f (turns_of_lines c f (lines_in m)) (backlog_in m) d₀ (merged (lines_in m)) refl low);
        many = refl;
        goes = goes_none adding k;
        rises = rising_by (lines_in m) (λ q h. in_order_rises (get_or (lines_in m) q []) (order q));
        cut = ((λ _. refl), (λ z. absurd (omega arith)));
        fits = omega arith;
        shares = record { entries = refl; size = refl; parents = refl; room = refl };
        whole_lines = lines;
        whole_backlog = backlog;
      }

  pub going_more : (c : Setup) (f : Frame) (d₀ : ℕ) (adding : Bool) (m₀ m m₁ m₂ : Memory Entry) (k₀ k k' : C) (s s₁ s₂ : Course) (slot : ℕ)
      → size_in m₀ ≡ c.backlog → slot < f.slots
      → (h : Going c f d₀ adding m₀ m k₀ k s slot)
      → Admitted (limit c f slot) m m₁ s s₁ → Filled c f slot m₁ m₂ s₁ s₂
      → Goes meaning adding (leaves c f.number (use_of c f slot) (backlog_in m₁) ∷ []) k k'
      → Going c f d₀ adding m₀ m₂ k₀ k' s₂ (slot + 1)
  going_more c f d₀ adding m₀ m m₁ m₂ k₀ k k' s s₁ s₂ slot size within h a l goes =
      let lim = limit c f slot in
      let ts = turns_of_lines c f (lines_in m₀) in
      let same = h.shares.size ∙ size in
      let packet = leaves c f.number (use_of c f slot) (backlog_in m₁) in
      let left : f.slots - slot ≡ suc (f.slots - (slot + 1)) = omega arith in
      let lines : lines_in m₂ ≡ map (from_on lim) (lines_in m) = l.lines ∙ a.lines in
      record {
        put = h.put ++ packet ∷ [];
        placing =
            one_slot c f ts (backlog_in m₀) d₀ (f.slots - (slot + 1)) slot h.put m m₁ m₂ s s₁ s₂ same h.rises a l
            (subst (λ n. Placing c f ts (backlog_in m₀) d₀ n slot (merged (lines_in m)) h.put (backlog_in m) s.drops s.doubt s.zero) left h.placing);
        many = length-append h.put (packet ∷ []) ∙ omega (arith, h.many);
        goes = goes_more adding h.put packet k₀ k k' h.goes goes;
        rises = subst Rising (sym lines) (rising_on lim (lines_in m) h.rises);
        cut = cut_more c f slot (lines_in m₀) (lines_in m) (lines_in m₂) h.cut lines;
        fits = let same_lines : length (merged (lines_in m₂)) ≡ length (merged (lines_in m₁)) = ap (λ ls. length (merged ls)) l.lines in omega (arith, h.fits, a.fits, l.counts);
        shares = same_then _ _ _ h.shares (same_then _ _ _ a.shares l.shares);
        whole_lines = subst AllWhole (sym (ap merged lines ∙ from_on_merged lim (lines_in m) h.rises)) (whole_from_on lim (merged (lines_in m)) h.whole_lines);
        whole_backlog =
            subst AllWhole (sym (l.backlog ∙ ap (stays (use_of c f slot)) a.backlog))
            (whole_stays (use_of c f slot) _ (whole_joins (size_in m) (backlog_in m) _ h.whole_backlog (whole_before lim (merged (lines_in m)) h.whole_lines)));
      }

  pub going_end : (c : Setup) (f : Frame) (d₀ : ℕ) (adding : Bool) (m₀ m : Memory Entry) (k₀ k : C) (s : Course) (slot : ℕ)
      → slot ≡ f.slots → 0 < f.slots → Going c f d₀ adding m₀ m k₀ k s slot
      → PlacedSo c f d₀ m₀ m s × Goes meaning adding (played c f.number (turns_of_lines c f (lines_in m₀)) (backlog_in m₀)) k₀ k
  going_end c f d₀ adding m₀ m k₀ k s slot all some h =
      let ts = turns_of_lines c f (lines_in m₀) in
      let none : f.slots - slot ≡ 0 = omega arith in
      let done = placing_end c f ts (backlog_in m₀) d₀ slot _ _ _ _ _ _
      (subst (λ n. Placing c f ts (backlog_in m₀) d₀ n slot (merged (lines_in m)) h.put (backlog_in m) s.drops s.doubt s.zero) none h.placing) in (
        record {
          lines = cut_end c f (lines_in m₀) (lines_in m) slot all some h.cut;
          backlog = done.backlog;
          counts = done.lost;
          doubts = done.doubts;
          zero = done.reached;
          shares = h.shares;
        },
        subst (λ ps. Goes meaning adding ps k₀ k) done.packets h.goes,
      )
