-- The next entry among the lines, found by a look at each line.
use Rattle.std.proofs.Common.{◌≡◌, ℕ, ◌+◌, ◌<◌, ◌≤◌, List, [], ◌∷◌, length, get_or, Some, None, Option, refl, ap, subst, ⊎_elim, add-one, arith}
use Rattle.std.proofs.lemmas.Bool.{cases_lt}
use Rattle.waiting.specs.Waiting.{oldest}
use Rattle.rules.proofs.Merging.{NotBefore, NoneBefore, Earliest}
use Rattle.rules.specs.Entries.{Entry}
use Rattle.adapter.specs.Placing.{first_of, NoneEarlier, First-in}

pub none_earlier_more : (m n : ℕ) (ls : List (List Entry)) → NoneEarlier m n ls → ((d : Entry) → first_of ls n ≡ Some d → m ≤ d.arrival) → NoneEarlier m (n + 1) ls
none_earlier_more m n ls h here =
    λ q d k e.
    ⊎_elim
    (λ (lt : q < n). h q d lt e)
    (λ (ge : n ≤ q). let same : q ≡ n = omega arith in here d (subst (λ i. first_of ls i ≡ Some d) same e))
    (cases_lt q n)

pub none_earlier_less : (a m n : ℕ) (ls : List (List Entry)) → a ≤ m → NoneEarlier m n ls → NoneEarlier a n ls
none_earlier_less a m n ls le h = λ q d k e. omega (arith, h q d k e)

-- What the search has found among the first n lines: the bound is the limit, or when the next entry arrives.
abbrev pub Best : ℕ → ℕ → List (List Entry) → ℕ → Option ℕ → Type 0
Best limit n ls bound None = (bound ≡ limit) × NoneEarlier limit n ls
Best limit n ls bound (Some p) = (e : Entry) × (bound ≡ e.arrival) × First-in limit n ls p e

never_some : {A : Type 0} {o : Option Entry} {d : Entry} → o ≡ None → o ≡ Some d → A
never_some p q = let z : ◌≡◌ {A = ℕ} 0 1 = cc in absurd (omega arith)

-- line n is empty
pub best_empty : (limit n : ℕ) (ls : List (List Entry)) (bound : ℕ) (o : Option ℕ) → Best limit n ls bound o → first_of ls n ≡ None → Best limit (n + 1) ls bound o
best_empty limit n ls bound None h e = (h.0, none_earlier_more limit n ls h.1 (λ d k. never_some e k))
best_empty limit n ls bound (Some p) h e =
    let f = h.2 in
    (h.0, h.1, record { within = omega (arith, f.within); first = f.first; early = f.early; lower = f.lower; others = none_earlier_more h.0.arrival n ls f.others (λ d k. never_some e k) })

same_first : {o : Option Entry} {d x : Entry} → o ≡ Some x → o ≡ Some d → x.arrival ≡ d.arrival
same_first {d = d} {x = x} p q = let e : x ≡ d = cc in ap (λ (y : Entry). y.arrival) e

-- its first entry is not before the bound
pub best_stays : (limit n : ℕ) (ls : List (List Entry)) (bound : ℕ) (o : Option ℕ) (x : Entry) → Best limit n ls bound o → first_of ls n ≡ Some x → bound ≤ x.arrival → Best limit (n + 1) ls bound o
best_stays limit n ls bound None x h e le = (h.0, none_earlier_more limit n ls h.1 (λ d k. omega (arith, h.0, same_first e k)))
best_stays limit n ls bound (Some p) x h e le =
    let f = h.2 in (
      h.0,
      h.1,
      record { within = omega (arith, f.within); first = f.first; early = f.early; lower = f.lower; others = none_earlier_more h.0.arrival n ls f.others (λ d k. omega (arith, h.1, same_first e k)) },
    )

bounded : (limit n : ℕ) (ls : List (List Entry)) (bound : ℕ) (o : Option ℕ) → Best limit n ls bound o → NoneEarlier bound n ls
bounded limit n ls bound None h = λ q d k e. omega (arith, h.0, h.1 q d k e)
bounded limit n ls bound (Some p) h = λ q d k e. omega (arith, h.1, h.2.others q d k e)

low : (limit n : ℕ) (ls : List (List Entry)) (bound : ℕ) (o : Option ℕ) → Best limit n ls bound o → bound ≤ limit
low limit n ls bound None h = omega (arith, h.0)
low limit n ls bound (Some p) h = omega (arith, h.1, h.2.early)

-- its first entry is before the bound
pub best_changes : (limit n : ℕ) (ls : List (List Entry)) (bound : ℕ) (o : Option ℕ) (x : Entry) → Best limit n ls bound o → first_of ls n ≡ Some x → x.arrival < bound → Best limit (n + 1) ls x.arrival (Some n)
best_changes limit n ls bound o x h e lt =
    let below = bounded limit n ls bound o h in (
      x,
      refl,
      record {
        within = omega arith;
        first = e;
        early = omega (arith, low limit n ls bound o h);
        lower = none_earlier_less (x.arrival + 1) bound n ls (omega arith) below;
        others = none_earlier_more x.arrival n ls (none_earlier_less x.arrival bound n ls (omega arith) below) (λ d k. omega (arith, same_first e k));
      },
    )

-- the same as the rules' proofs have it
not_before : (m : ℕ) (l : List Entry) → ((d : Entry) → oldest l ≡ Some d → m ≤ d.arrival) → NotBefore m l
not_before m [] h = tt
not_before m (e ∷ l) h = h e refl

pub none_before : (m n : ℕ) (ls : List (List Entry)) → NoneEarlier m n ls → NoneBefore m n ls
none_before m n ls h = λ q k. not_before m (get_or ls q []) (λ d e. h q d k e)

pub front : (l : List Entry) (e : Entry) → oldest l ≡ Some e → (rest : List Entry) × (l ≡ e ∷ rest)
front [] e h = let z : ◌≡◌ {A = ℕ} 0 1 = cc in absurd (omega arith)
front (x ∷ l) e h = (l, let same : x ≡ e = cc in ap (λ y. y ∷ l) same)

pub earliest : (limit : ℕ) (ls : List (List Entry)) (p : ℕ) (e : Entry) (rest : List Entry) → First-in limit (length ls) ls p e → get_or ls p [] ≡ e ∷ rest → Earliest (length ls) ls p e rest
earliest limit ls p e rest h line =
    record {
      line = line;
      lower = subst (λ m. NoneBefore m p ls) (add-one e.arrival) (none_before (e.arrival + 1) p ls h.lower);
      others = none_before e.arrival (length ls) ls h.others;
    }
