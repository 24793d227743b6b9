-- Lines merged in order of arrival, one first entry after the other.
use Rattle.std.proofs.Common.{◌≡◌, ℕ, zero, suc, ◌+◌, ◌<◌, ◌≤◌, cond, ltb, ◌⊎◌, List, [], ◌∷◌, map, length, get_or, set, sym, refl, ap, ◌∙◌, subst, ap₂, inl, inr, ⊎_elim, add-one, arith}
use Rattle.std.proofs.lemmas.List.{get_or_past}
use Rattle.std.proofs.lemmas.Bool.{lt-ltb, le-ltb, le-leb, lt-leb, cases_lt, cond-true, cond-false}
use Rattle.rules.specs.Entries.{Entry, before, from_on, into, merge, merged}
use Rattle.rules.specs.Invariants.{InOrder}
use Rattle.rules.proofs.Ordered.{Above, Rises}

-- What is said of a line.

-- the first entry, if there is one, does not arrive before m
abbrev pub NotBefore : ℕ → List Entry → Type 0
NotBefore m [] = Unit {0}
NotBefore m (e ∷ es) = m ≤ e.arrival

-- each entry arrives from m on
abbrev pub From : ℕ → List Entry → Type 0
From m [] = Unit {0}
From m (e ∷ es) = (m ≤ e.arrival) × From m es

-- no entry arrives before the one in front of it
abbrev pub Climbs : List Entry → Type 0
Climbs [] = Unit {0}
Climbs (e ∷ es) = From e.arrival es × Climbs es

above_from : (a m : ℕ) (l : List Entry) → m ≤ suc a → Above a l → From m l
above_from a m [] h t = tt
above_from a m (e ∷ es) h t = (omega (arith, t.0), above_from a m es h t.1)

pub rises_from : (m : ℕ) (l : List Entry) → Rises l → NotBefore m l → From m l
rises_from m [] r h = tt
rises_from m (e ∷ es) r h = (h, above_from e.arrival m es (omega arith) r.0)

from_above : (a : ℕ) (l : List Entry) → From (suc a) l → Above a l
from_above a [] t = tt
from_above a (e ∷ es) t = (omega (arith, t.0), from_above a es t.1)

from_less : (a m : ℕ) (l : List Entry) → a ≤ m → From m l → From a l
from_less a m [] h t = tt
from_less a m (e ∷ es) h t = (omega (arith, t.0), from_less a m es h t.1)

above_more : (a b : ℕ) (l : List Entry) → a ≤ b → Above b l → Above a l
above_more a b [] h t = tt
above_more a b (e ∷ es) h t = (omega (arith, t.0), above_more a b es h t.1)

-- a line in order rises
pub in_order_rises : (l : List Entry) → InOrder l → Rises l
in_order_rises [] h = tt
in_order_rises (e ∷ []) h = (tt, tt)
in_order_rises (e ∷ d ∷ es) h =
    let r : Rises (d ∷ es) = in_order_rises (d ∷ es) h.1 in
    ((h.0, above_more e.arrival d.arrival es (omega (arith, h.0)) r.0), r)

-- What arrives from m on is not cut by `before`, and nothing of it is let go.

pub before_none : (m : ℕ) (l : List Entry) → NotBefore m l → before m l ≡ []
before_none m [] h = refl
before_none m (e ∷ es) h = cond-false _ _ _ (le-ltb _ _ h)

pub from_on_all : (m : ℕ) (l : List Entry) → NotBefore m l → from_on m l ≡ l
from_on_all m [] h = refl
from_on_all m (e ∷ es) h = cond-false _ _ _ (le-ltb _ _ h)

pub before_first : (m : ℕ) (e : Entry) (es : List Entry) → e.arrival < m → before m (e ∷ es) ≡ e ∷ before m es
before_first m e es h = cond-true _ _ _ (lt-ltb _ _ h)

pub from_on_first : (m : ℕ) (e : Entry) (es : List Entry) → e.arrival < m → from_on m (e ∷ es) ≡ from_on m es
from_on_first m e es h = cond-true _ _ _ (lt-ltb _ _ h)

not_before_from : (m : ℕ) (l : List Entry) → From m l → NotBefore m l
not_before_from m [] t = tt
not_before_from m (e ∷ es) t = t.0

above_not_before : (a m : ℕ) (l : List Entry) → m ≤ a → Above a l → NotBefore m l
above_not_before a m [] h t = tt
above_not_before a m (e ∷ es) h t = omega (arith, t.0)

-- One entry put in its place.

into_first : (e d : Entry) (ds : List Entry) → e.arrival ≤ d.arrival → into e (d ∷ ds) ≡ e ∷ d ∷ ds
into_first e d ds h = cond-true _ _ _ (le-leb _ _ h)

into_past : (e d : Entry) (ds : List Entry) → d.arrival < e.arrival → into e (d ∷ ds) ≡ d ∷ into e ds
into_past e d ds h = cond-false _ _ _ (lt-leb _ _ h)

into_front : (e : Entry) (ds : List Entry) → From e.arrival ds → into e ds ≡ e ∷ ds
into_front e [] t = refl
into_front e (d ∷ ds) t = into_first e d ds t.0

cases_le : (a b : ℕ) → (a ≤ b) ⊎ (b < a)
cases_le a b = ⊎_elim (λ l. inr l) (λ g. inl g) (cases_lt b a)

from_into : (m : ℕ) (e : Entry) (ds : List Entry) → m ≤ e.arrival → From m ds → From m (into e ds)
from_into m e [] h t = (h, tt)
from_into m e (d ∷ ds) h t =
    ⊎_elim
    (λ le. subst (From m) (sym (into_first e d ds le)) (h, (t.0, t.1)))
    (λ gt. subst (From m) (sym (into_past e d ds gt)) (t.0, from_into m e ds h t.1))
    (cases_le e.arrival d.arrival)

climbs_into : (e : Entry) (ds : List Entry) → Climbs ds → Climbs (into e ds)
climbs_into e [] r = (tt, tt)
climbs_into e (d ∷ ds) r =
    ⊎_elim
    (λ le. subst Climbs (sym (into_first e d ds le)) ((le, from_less e.arrival d.arrival ds le r.0), r))
    (λ gt. subst Climbs (sym (into_past e d ds gt)) (from_into d.arrival e ds (omega arith) r.0, climbs_into e ds r.1))
    (cases_le e.arrival d.arrival)

before_into : (m : ℕ) (e : Entry) (ds : List Entry) → e.arrival < m → before m (into e ds) ≡ into e (before m ds)
before_into m e [] h = before_first m e [] h
before_into m e (d ∷ ds) h =
    ⊎_elim
    (λ le. ap (before m) (into_first e d ds le) ∙ before_first m e (d ∷ ds) h ∙ under le (cases_lt d.arrival m))
    (λ gt.
    ap (before m) (into_past e d ds gt) ∙ before_first m d (into e ds) (omega arith) ∙ ap (λ y. d ∷ y) (before_into m e ds h)
    ∙ sym (into_past e d (before m ds) gt) ∙ ap (into e) (sym (before_first m d ds (omega arith))))
    (cases_le e.arrival d.arrival)
  where
    under : e.arrival ≤ d.arrival → (d.arrival < m) ⊎ (m ≤ d.arrival) → e ∷ before m (d ∷ ds) ≡ into e (before m (d ∷ ds))
    under le =
        ⊎_elim
        (λ lt. ap (λ y. e ∷ y) (before_first m d ds lt) ∙ sym (into_first e d (before m ds) le) ∙ ap (into e) (sym (before_first m d ds lt)))
        (λ ge. ap (λ y. e ∷ y) (before_none m (d ∷ ds) ge) ∙ ap (into e) (sym (before_none m (d ∷ ds) ge)))

before_into_late : (m : ℕ) (e : Entry) (ds : List Entry) → m ≤ e.arrival → before m (into e ds) ≡ before m ds
before_into_late m e [] h = before_none m (e ∷ []) h
before_into_late m e (d ∷ ds) h =
    ⊎_elim
    (λ le. ap (before m) (into_first e d ds le) ∙ before_none m (e ∷ d ∷ ds) h ∙ sym (before_none m (d ∷ ds) (omega arith)))
    (λ gt. ap (before m) (into_past e d ds gt) ∙ ap (λ y. cond (ltb d.arrival m) (d ∷ y) []) (before_into_late m e ds h))
    (cases_le e.arrival d.arrival)

from_on_into : (m : ℕ) (e : Entry) (ds : List Entry) → e.arrival < m → from_on m (into e ds) ≡ from_on m ds
from_on_into m e [] h = from_on_first m e [] h
from_on_into m e (d ∷ ds) h =
    ⊎_elim
    (λ le. ap (from_on m) (into_first e d ds le) ∙ from_on_first m e (d ∷ ds) h)
    (λ gt. ap (from_on m) (into_past e d ds gt) ∙ from_on_first m d (into e ds) (omega arith) ∙ from_on_into m e ds h ∙ sym (from_on_first m d ds (omega arith)))
    (cases_le e.arrival d.arrival)

from_on_into_late : (m : ℕ) (e : Entry) (ds : List Entry) → m ≤ e.arrival → from_on m (into e ds) ≡ into e (from_on m ds)
from_on_into_late m e [] h = from_on_all m (e ∷ []) h
from_on_into_late m e (d ∷ ds) h =
    ⊎_elim
    (λ le.
    ap (from_on m) (into_first e d ds le) ∙ from_on_all m (e ∷ d ∷ ds) h ∙ sym (into_first e d ds le)
    ∙ ap (into e) (sym (from_on_all m (d ∷ ds) (omega arith))))
    (λ gt. ap (from_on m) (into_past e d ds gt) ∙ over gt (from_on_into_late m e ds h) (cases_lt d.arrival m))
    (cases_le e.arrival d.arrival)
  where
    over : d.arrival < e.arrival → from_on m (into e ds) ≡ into e (from_on m ds) → (d.arrival < m) ⊎ (m ≤ d.arrival) → from_on m (d ∷ into e ds) ≡ into e (from_on m (d ∷ ds))
    over gt ih =
        ⊎_elim
        (λ lt. from_on_first m d (into e ds) lt ∙ ih ∙ ap (into e) (sym (from_on_first m d ds lt)))
        (λ ge. from_on_all m (d ∷ into e ds) ge ∙ sym (into_past e d ds gt) ∙ ap (into e) (sym (from_on_all m (d ∷ ds) ge)))

length_into : (e : Entry) (ds : List Entry) → length (into e ds) ≡ suc (length ds)
length_into e [] = refl
length_into e (d ∷ ds) =
    ⊎_elim
    (λ le. ap length (into_first e d ds le))
    (λ gt. ap length (into_past e d ds gt) ∙ ap suc (length_into e ds))
    (cases_le e.arrival d.arrival)

-- Two lines.

from_merge : (m : ℕ) (l ds : List Entry) → From m l → From m ds → From m (merge l ds)
from_merge m [] ds h t = t
from_merge m (e ∷ l) ds h t = from_into m e (merge l ds) h.0 (from_merge m l ds h.1 t)

climbs_merge : (l ds : List Entry) → Climbs ds → Climbs (merge l ds)
climbs_merge [] ds r = r
climbs_merge (e ∷ l) ds r = climbs_into e (merge l ds) (climbs_merge l ds r)

merge_past : (l : List Entry) (e : Entry) (ds : List Entry) → Above e.arrival l → merge l (e ∷ ds) ≡ e ∷ merge l ds
merge_past [] e ds t = refl
merge_past (x ∷ l) e ds t = ap (into x) (merge_past l e ds t.1) ∙ into_past x e (merge l ds) t.0

before_merge : (m : ℕ) (l ds : List Entry) → Rises l → before m (merge l ds) ≡ merge (before m l) (before m ds)
before_merge m [] ds r = refl
before_merge m (e ∷ l) ds r =
    ⊎_elim
    (λ lt. before_into m e (merge l ds) lt ∙ ap (into e) (before_merge m l ds r.1) ∙ ap (λ y. merge y (before m ds)) (sym (before_first m e l lt)))
    (λ ge.
    before_into_late m e (merge l ds) ge ∙ before_merge m l ds r.1
    ∙ ap (λ y. merge y (before m ds)) (before_none m l (above_not_before e.arrival m l ge r.0) ∙ sym (before_none m (e ∷ l) ge)))
    (cases_lt e.arrival m)

from_on_merge : (m : ℕ) (l ds : List Entry) → Rises l → from_on m (merge l ds) ≡ merge (from_on m l) (from_on m ds)
from_on_merge m [] ds r = refl
from_on_merge m (e ∷ l) ds r =
    ⊎_elim
    (λ lt. from_on_into m e (merge l ds) lt ∙ from_on_merge m l ds r.1 ∙ ap (λ y. merge y (from_on m ds)) (sym (from_on_first m e l lt)))
    (λ ge.
    from_on_into_late m e (merge l ds) ge ∙ ap (into e) (from_on_merge m l ds r.1)
    ∙ ap (λ y. into e (merge y (from_on m ds))) (from_on_all m l (above_not_before e.arrival m l ge r.0))
    ∙ ap (λ y. merge y (from_on m ds)) (sym (from_on_all m (e ∷ l) ge)))
    (cases_lt e.arrival m)

-- All lines.

-- each line rises
abbrev pub Rising : List (List Entry) → Type 0
Rising [] = Unit {0}
Rising (l ∷ ls) = Rises l × Rising ls

-- of the first n lines, none has a first entry that arrives before m
abbrev pub NoneBefore : ℕ → ℕ → List (List Entry) → Type 0
NoneBefore m n ls = (q : ℕ) → q < n → NotBefore m (get_or ls q [])

-- Line p begins with e, and of the first n lines none has a first entry that comes before it in the one order.
pub record Earliest (n : ℕ) (ls : List (List Entry)) (p : ℕ) (e : Entry) (rest : List Entry) : Type 0 where
  pub line : get_or ls p [] ≡ e ∷ rest
  pub lower : NoneBefore (suc e.arrival) p ls
  pub others : NoneBefore e.arrival n ls

pub rising_by : (ls : List (List Entry)) → ((q : ℕ) → q < length ls → Rises (get_or ls q [])) → Rising ls
rising_by [] h = tt
rising_by (l ∷ ls) h = (h 0 (omega arith), rising_by ls (λ q k. h (suc q) (omega arith)))

pub rising_at : (ls : List (List Entry)) (q : ℕ) → Rising ls → Rises (get_or ls q [])
rising_at [] q r = tt
rising_at (l ∷ ls) zero r = r.0
rising_at (l ∷ ls) (suc q) r = rising_at ls q r.1

pub rising_set : (ls : List (List Entry)) (p : ℕ) (l : List Entry) → Rising ls → Rises l → Rising (set ls p l)
rising_set [] p l r h = tt
rising_set (x ∷ ls) zero l r h = (h, r.1)
rising_set (x ∷ ls) (suc p) l r h = (r.0, rising_set ls p l r.1 h)

-- what is left of the lines rises too
pub rising_rest : (ls : List (List Entry)) (p : ℕ) (e : Entry) (rest : List Entry) → Rising ls → get_or ls p [] ≡ e ∷ rest → Rising (set ls p rest)
rising_rest ls p e rest r h = rising_set ls p rest r (subst Rises h (rising_at ls p r)).1

-- merged lines are in order
pub climbs_merged : (ls : List (List Entry)) → Climbs (merged ls)
climbs_merged [] = tt
climbs_merged (l ∷ ls) = climbs_merge l (merged ls) (climbs_merged ls)

-- none is left exactly if every line is empty
pub merged_none : (ls : List (List Entry)) → ((q : ℕ) → q < length ls → get_or ls q [] ≡ []) → merged ls ≡ []
merged_none [] h = refl
merged_none (l ∷ ls) h =
    ap (λ y. merge y (merged ls)) (h 0 (omega arith)) ∙ merged_none ls (λ q k. h (suc q) (omega arith))

merge_nil : (l ds : List Entry) → merge l ds ≡ [] → (l ≡ []) × (ds ≡ [])
merge_nil [] ds h = (refl, h)
merge_nil (e ∷ l) ds h =
    let z : ◌≡◌ {A = ℕ} (suc (length (merge l ds))) 0 = sym (length_into e (merge l ds)) ∙ ap length h in
    absurd (omega arith)

pub lines_none : (ls : List (List Entry)) (q : ℕ) → merged ls ≡ [] → get_or ls q [] ≡ []
lines_none [] q h = refl
lines_none (l ∷ ls) zero h = (merge_nil l (merged ls) h).0
lines_none (l ∷ ls) (suc q) h = lines_none ls q (merge_nil l (merged ls) h).1

from_merged : (m : ℕ) (ls : List (List Entry)) → Rising ls → NoneBefore m (length ls) ls → From m (merged ls)
from_merged m [] r h = tt
from_merged m (l ∷ ls) r h =
    from_merge m l (merged ls) (rises_from m l r.0 (h 0 (omega arith))) (from_merged m ls r.1 (λ q k. h (suc q) (omega arith)))

-- the earliest first entry comes first, and behind it the other entries in order
pub merged_first : (ls : List (List Entry)) (p : ℕ) (e : Entry) (rest : List Entry) → Rising ls → Earliest (length ls) ls p e rest
    → merged ls ≡ e ∷ merged (set ls p rest)
merged_first [] p e rest r h = let z : ◌≡◌ {A = ℕ} 0 1 = cc h.line in absurd (omega arith)
merged_first (l ∷ ls) zero e rest r h =
    ap (λ y. merge y (merged ls)) h.line
    ∙ into_front e (merge rest (merged ls))
    (from_merge e.arrival rest (merged ls)
    (above_from e.arrival e.arrival rest (omega arith) (subst Rises h.line r.0).0)
    (from_merged e.arrival ls r.1 (λ q k. h.others (suc q) (omega arith))))
merged_first (l ∷ ls) (suc p) e rest r h =
    ap (merge l)
    (merged_first ls p e rest r.1
    (record { line = h.line; lower = λ q k. h.lower (suc q) (omega arith); others = λ q k. h.others (suc q) (omega arith) }))
    ∙ merge_past l e (merged (set ls p rest)) (from_above e.arrival l (rises_from (suc e.arrival) l r.0 (h.lower 0 (omega arith))))

pub before_merged : (m : ℕ) (ls : List (List Entry)) → Rising ls → merged (map (before m) ls) ≡ before m (merged ls)
before_merged m [] r = refl
before_merged m (l ∷ ls) r = ap (merge (before m l)) (before_merged m ls r.1) ∙ sym (before_merge m l (merged ls) r.0)

pub from_on_merged : (m : ℕ) (ls : List (List Entry)) → Rising ls → merged (map (from_on m) ls) ≡ from_on m (merged ls)
from_on_merged m [] r = refl
from_on_merged m (l ∷ ls) r = ap (merge (from_on m l)) (from_on_merged m ls r.1) ∙ sym (from_on_merge m l (merged ls) r.0)

-- if no line has a first entry before m, nothing arrives before m
pub before_merged_none : (m : ℕ) (ls : List (List Entry)) → Rising ls → NoneBefore m (length ls) ls → before m (merged ls) ≡ []
before_merged_none m ls r h = before_none m (merged ls) (not_before_from m (merged ls) (from_merged m ls r h))

pub from_on_merged_all : (m : ℕ) (ls : List (List Entry)) → Rising ls → NoneBefore m (length ls) ls → from_on m (merged ls) ≡ merged ls
from_on_merged_all m ls r h = from_on_all m (merged ls) (not_before_from m (merged ls) (from_merged m ls r h))

-- One admission: of merged lines whose earliest first entry arrives before m, it is admitted next.

pub before_merged_first : (m : ℕ) (ls : List (List Entry)) (p : ℕ) (e : Entry) (rest : List Entry)
    → Rising ls → Earliest (length ls) ls p e rest → e.arrival < m
    → before m (merged ls) ≡ e ∷ before m (merged (set ls p rest))
before_merged_first m ls p e rest r h k = ap (before m) (merged_first ls p e rest r h) ∙ before_first m e (merged (set ls p rest)) k

pub from_on_merged_first : (m : ℕ) (ls : List (List Entry)) (p : ℕ) (e : Entry) (rest : List Entry)
    → Rising ls → Earliest (length ls) ls p e rest → e.arrival < m
    → from_on m (merged ls) ≡ from_on m (merged (set ls p rest))
from_on_merged_first m ls p e rest r h k = ap (from_on m) (merged_first ls p e rest r h) ∙ from_on_first m e (merged (set ls p rest)) k

-- one entry fewer is left
pub length_merged_first : (ls : List (List Entry)) (p : ℕ) (e : Entry) (rest : List Entry)
    → Rising ls → Earliest (length ls) ls p e rest
    → length (merged ls) ≡ length (merged (set ls p rest)) + 1
length_merged_first ls p e rest r h = ap length (merged_first ls p e rest r h) ∙ sym (add-one (length (merged (set ls p rest))))

-- line p is one of the lines
pub earliest_within : (n : ℕ) (ls : List (List Entry)) (p : ℕ) (e : Entry) (rest : List Entry) → Earliest n ls p e rest → p < length ls
earliest_within n ls p e rest h =
    ⊎_elim
    (λ lt. lt)
    (λ past. let z : ◌≡◌ {A = ℕ} 0 (suc (length rest)) = ap length (sym (get_or_past ls p [] past) ∙ h.line) in absurd (omega arith))
    (cases_lt p (length ls))

-- The earliest is found by a look at each line's first entry.

pub none_before_start : (m : ℕ) (ls : List (List Entry)) → NoneBefore m 0 ls
none_before_start m ls q k = absurd (omega arith)

pub none_before_more : (m n : ℕ) (ls : List (List Entry)) → NoneBefore m n ls → NotBefore m (get_or ls n []) → NoneBefore m (n + 1) ls
none_before_more m n ls h here q k =
    ⊎_elim
    (λ lt. h q lt)
    (λ ge. let same : q ≡ n = omega arith in subst (λ y. NotBefore m (get_or ls y [])) (sym same) here)
    (cases_lt q n)

pub none_before_less : (a m n : ℕ) (ls : List (List Entry)) → a ≤ m → NoneBefore m n ls → NoneBefore a n ls
none_before_less a m n ls le h q k = less (get_or ls q []) (h q k)
  where
    less : (l : List Entry) → NotBefore m l → NotBefore a l
    less [] t = tt
    less (e ∷ es) t = omega arith

-- the first line that has an entry
pub earliest_start : (n : ℕ) (ls : List (List Entry)) (e : Entry) (rest : List Entry)
    → ((q : ℕ) → q < n → get_or ls q [] ≡ []) → get_or ls n [] ≡ e ∷ rest → Earliest (n + 1) ls n e rest
earliest_start n ls e rest h k =
    record {
      line = k;
      lower = λ q lt. subst (NotBefore (suc e.arrival)) (sym (h q lt)) tt;
      others = none_before_more e.arrival n ls (λ q lt. subst (NotBefore e.arrival) (sym (h q lt)) tt) (subst (NotBefore e.arrival) (sym k) (omega arith));
    }

-- the next line is empty, or its first entry arrives no earlier
pub earliest_stays : (n : ℕ) (ls : List (List Entry)) (p : ℕ) (e : Entry) (rest : List Entry)
    → Earliest n ls p e rest → NotBefore e.arrival (get_or ls n []) → Earliest (n + 1) ls p e rest
earliest_stays n ls p e rest h k = record { line = h.line; lower = h.lower; others = none_before_more e.arrival n ls h.others k }

-- the next line's first entry arrives earlier
pub earliest_changes : (n : ℕ) (ls : List (List Entry)) (p : ℕ) (e : Entry) (rest : List Entry) (d : Entry) (ds : List Entry)
    → Earliest n ls p e rest → get_or ls n [] ≡ d ∷ ds → d.arrival < e.arrival → Earliest (n + 1) ls n d ds
earliest_changes n ls p e rest d ds h k lt =
    record {
      line = k;
      lower = none_before_less (suc d.arrival) e.arrival n ls lt h.others;
      others = none_before_more d.arrival n ls (none_before_less d.arrival e.arrival n ls (omega arith) h.others) (subst (NotBefore d.arrival) (sym k) (omega arith));
    }

-- if the earliest does not arrive before m, none does
pub earliest_none_before : (m n : ℕ) (ls : List (List Entry)) (p : ℕ) (e : Entry) (rest : List Entry) → Earliest n ls p e rest → m ≤ e.arrival → NoneBefore m n ls
earliest_none_before m n ls p e rest h k = none_before_less m e.arrival n ls k h.others

-- The lines themselves: from a moment on nothing of them changes when an entry before it is taken, and in the end nothing else is left.

pub lines_start_at : (m : ℕ) (ls : List (List Entry)) (p : ℕ) (e : Entry) (rest : List Entry)
    → get_or ls p [] ≡ e ∷ rest → e.arrival < m → map (from_on m) (set ls p rest) ≡ map (from_on m) ls
lines_start_at m [] p e rest h k = refl
lines_start_at m (l ∷ ls) zero e rest h k = ap (λ y. y ∷ map (from_on m) ls) (sym (ap (from_on m) h ∙ from_on_first m e rest k))
lines_start_at m (l ∷ ls) (suc p) e rest h k = ap (λ y. from_on m l ∷ y) (lines_start_at m ls p e rest h k)

pub lines_left : (m : ℕ) (ls : List (List Entry)) → NoneBefore m (length ls) ls → map (from_on m) ls ≡ ls
lines_left m [] h = refl
lines_left m (l ∷ ls) h = ap₂ ◌∷◌ (from_on_all m l (h 0 (omega arith))) (lines_left m ls (λ q k. h (suc q) (omega arith)))
