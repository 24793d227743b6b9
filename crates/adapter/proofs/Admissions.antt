-- One admission, and one slot's use, for the loops that place a frame.
use Rattle.std.proofs.Common.{◌≡◌, ℕ, zero, suc, ◌+◌, ◌-◌, ◌*◌, ◌/◌, ◌<◌, ◌≤◌, min, Bool, true, false, cond, ltb, List, [], ◌∷◌, ◌++◌, map, length, get_or, sym, refl, ap, ◌∙◌, subst, ⊎_elim, arith}
use Rattle.std.proofs.lemmas.Bool.{cases_lt, lt-ltb, le-ltb, ne_eqb}
use Rattle.memory.specs.Memory.{lines_in, backlog_in, size_in}
use Rattle.memory.specs.declared.Memory.{Memory}
use Rattle.rules.proofs.Merging.{Rising, rising_rest, lines_start_at, length_merged_first}
use Rattle.rules.proofs.Placing.{Admitting, admitting_joins, admitting_drops}
use Rattle.rules.specs.Entries.{Entry}
use Rattle.rules.specs.Entries.{from_on, merged}
use Rattle.rules.specs.Slots.{join, pat, use_among}
use Rattle.adapter.specs.Placing.{First-in, AdmittedOne}
use Rattle.adapter.specs.declared.place.Course.{Course}
use Rattle.adapter.proofs.Nexts.{earliest}

-- one copy further down in the search for a slot's use
pub use_no : (n copies slot i : ℕ) → 0 < i → ((i - 1) * n / copies ≡ slot → ⊥) → use_among n copies slot i ≡ use_among n copies slot (i - 1)
use_no n copies slot zero h other = absurd (omega arith)
use_no n copies slot (suc j) h other =
    let down : j ≡ suc j - 1 = omega arith in
    subst (λ k. use_among n copies slot (suc j) ≡ use_among n copies slot k) down
    (ap (λ b. cond b (pat j) (use_among n copies slot j)) (ne_eqb (j * n / copies) slot (λ e. other (subst (λ k. k * n / copies ≡ slot) down e))))

-- equals in the place of equals
admitting_at : (q lim : ℕ) (b₀ : List Entry) (x₀ d₀ : ℕ) (es₀ : List Entry) {b b' : List Entry} {x x' d d' : ℕ} {es es' : List Entry}
    → b' ≡ b → x' ≡ x → d' ≡ d → es' ≡ es → Admitting q lim b₀ x₀ d₀ es₀ b x d es → Admitting q lim b₀ x₀ d₀ es₀ b' x' d' es'
admitting_at q lim b₀ x₀ d₀ es₀ {b = b} {b' = b'} {x = x} {x' = x'} {d = d} {d' = d'} {es = es} {es' = es'} eb ex ed ees h =
    subst (λ y. Admitting q lim b₀ x₀ d₀ es₀ y x' d' es') (sym eb)
    (subst (λ y. Admitting q lim b₀ x₀ d₀ es₀ b y d' es') (sym ex)
    (subst (λ y. Admitting q lim b₀ x₀ d₀ es₀ b x y es') (sym ed)
    (subst (λ y. Admitting q lim b₀ x₀ d₀ es₀ b x d y) (sym ees) h)))

pub at_most_one : (b : Bool) → cond b 0 1 ≤ 1
at_most_one true = omega arith
at_most_one false = omega arith

module _ (lim : ℕ) (m m' : Memory Entry) (k k' : Course) (p : ℕ) (e : Entry) (rest : List Entry)
    (rises : Rising (lines_in m)) (first : First-in lim (length (lines_in m)) (lines_in m) p e) (line : get_or (lines_in m) p [] ≡ e ∷ rest) (one : AdmittedOne p e rest m m' k k') where
  pub admit_step : (q : ℕ) (b₀ : List Entry) (x₀ d₀ : ℕ) (es₀ : List Entry) → size_in m ≡ q
      → Admitting q lim b₀ x₀ d₀ es₀ (backlog_in m) k.drops k.doubt (merged (lines_in m))
      → Admitting q lim b₀ x₀ d₀ es₀ (backlog_in m') k'.drops k'.doubt (merged (lines_in m'))
  admit_step q b₀ x₀ d₀ es₀ size h =
      let next = earliest lim (lines_in m) p e rest first line in
      let up : k'.doubt ≡ min q (k.doubt + 1) = subst (λ n. k'.doubt ≡ min n (k.doubt + 1)) size one.doubts in
      let joined : backlog_in m' ≡ join q (backlog_in m) e = subst (λ n. backlog_in m' ≡ join n (backlog_in m) e) size one.backlog in
      let counted : k'.drops ≡ k.drops + cond (ltb (length (backlog_in m)) q) 0 1 = subst (λ n. k'.drops ≡ k.drops + cond (ltb (length (backlog_in m)) n) 0 1) size one.counts in
      ⊎_elim
      (λ (room : length (backlog_in m) < q).
      let t = lt-ltb _ _ room in
      admitting_at q lim b₀ x₀ d₀ es₀
      (joined ∙ ap (λ b. cond b (backlog_in m ++ e ∷ []) (backlog_in m)) t)
      (counted ∙ ap (λ b. k.drops + cond b 0 1) t ∙ omega arith)
      refl
      (ap merged one.lines)
      (admitting_joins q lim b₀ x₀ d₀ es₀ (backlog_in m) k.drops k.doubt (lines_in m) p e rest k'.doubt h rises next first.early room up))
      (λ (full : q ≤ length (backlog_in m)).
      let t = le-ltb _ _ full in
      admitting_at q lim b₀ x₀ d₀ es₀
      (joined ∙ ap (λ b. cond b (backlog_in m ++ e ∷ []) (backlog_in m)) t)
      (counted ∙ ap (λ b. k.drops + cond b 0 1) t)
      refl
      (ap merged one.lines)
      (admitting_drops q lim b₀ x₀ d₀ es₀ (backlog_in m) k.drops k.doubt (lines_in m) p e rest k'.doubt h rises next first.early full up))
      (cases_lt (length (backlog_in m)) q)

  pub rises_on : Rising (lines_in m')
  rises_on = subst Rising (sym one.lines) (rising_rest (lines_in m) p e rest rises line)

  pub later_stay : map (from_on lim) (lines_in m') ≡ map (from_on lim) (lines_in m)
  later_stay = ap (map (from_on lim)) one.lines ∙ lines_start_at lim (lines_in m) p e rest line first.early

  pub one_fewer : length (merged (lines_in m)) ≡ length (merged (lines_in m')) + 1
  one_fewer =
      length_merged_first (lines_in m) p e rest rises (earliest lim (lines_in m) p e rest first line)
      ∙ ap (λ ls. length (merged ls) + 1) (sym one.lines)

  pub drops_fit : k'.drops + length (merged (lines_in m')) ≤ k.drops + length (merged (lines_in m))
  drops_fit = omega (arith, one.counts, at_most_one (ltb (length (backlog_in m)) (size_in m)), one_fewer)
