-- How a memory is shared out, and what a change to one share leaves. Assumes nothing.
use Rattle.std.proofs.Common.{◌≡◌, ℕ, suc, ◌+◌, ◌-◌, ◌*◌, ◌/◌, ◌<◌, ◌≤◌, Bool, true, false, cond, ◌≢◌, List, [], length, get_or, take, drop, set, replicate, vec_items, vec_len, Vec, sym, refl, ap, ◌∙◌, ap₂, inl, inr, ⊎_elim, mul-le-mul_right, suc-mul, mul-le-mul_left, arith}
use native.Mathlib.Nat.{mul-div-le}
use Rattle.std.proofs.lemmas.List.{set_past, set-get_or, drop-drop, ext_get_or, get_or_past, get_or-set_other, get_or-set_same, get_or-take, length-drop, length-set, length-take, take-replicate}
use Rattle.std.proofs.lemmas.Bool.{cases_eq, cases_lt, cases_order}
use Rattle.std.specs.declared.alloc.Global.{Global}
use Rattle.waiting.proofs.Rounds.{length_waits}
use Rattle.waiting.specs.Waiting.{waits}
use Rattle.waiting.specs.declared.Line.{Line}
use Rattle.memory.proofs.Regions.{Apart, side_none, length_side, get_or_side, written, written_here, written_apart, written_behind, rest_is}
use Rattle.memory.specs.Memory.{entries_in, size_in, parents_in, room_in, start_in, side_by_side, lines_in, line_in, backlog_in, Region, SameShares, OnlyLines, OnlyBacklog}
use Rattle.memory.specs.declared.Memory.{Memory}

module _ {T : Type 0} (m : Memory T) where
  pub size_fits : size_in m ≤ entries_in m
  unfolding size_in entries_in
  size_fits = omega arith

  pub parents_fit : parents_in m ≤ length m.lines
  unfolding parents_in
  parents_fit = omega arith

  -- the shares of all lines lie behind the backlog's, and within the memory
  pub shares_fit : size_in m + parents_in m * room_in m ≤ entries_in m
  unfolding room_in
  shares_fit =
      let e = entries_in m - size_in m in
      let n = parents_in m in
      omega (arith, size_fits, mul-div-le e n, mul-le-mul_left {m = room_in m} {n = e / n} n (omega arith))

  -- those of line p too
  pub line_fits : (p : ℕ) → p < parents_in m → start_in m p + room_in m ≤ entries_in m
  unfolding start_in
  line_fits p within = omega (arith, shares_fit, suc-mul p (room_in m), mul-le-mul_right {m = suc p} {n = parents_in m} (room_in m) (omega arith))

  -- the shares of two lines do not meet
  pub lines_apart : (p k : ℕ) → k ≢ p → Apart (start_in m p) (room_in m) (start_in m k) (room_in m)
  unfolding start_in
  lines_apart p k other =
      let before : k < p → start_in m k + room_in m ≤ start_in m p =
      λ less. omega (arith, suc-mul k (room_in m), mul-le-mul_right {m = suc k} {n = p} (room_in m) (omega arith)) in
      let behind : p < k → start_in m p + room_in m ≤ start_in m k =
      λ less. omega (arith, suc-mul p (room_in m), mul-le-mul_right {m = suc p} {n = k} (room_in m) (omega arith)) in
      ⊎_elim (λ same. absurd (other same)) (⊎_elim (λ less. inl (before less)) (λ less. inr (behind less))) (cases_order k p)

  -- there are as many lines as parents
  pub length_lines : length (lines_in m) ≡ parents_in m
  unfolding lines_in parents_in
  length_lines = length_side (room_in m) (take (parents_in m) m.lines) _ ∙ length-take (parents_in m) m.lines ∙ omega arith

  -- the slots of line p
  pub region : ℕ → List T → List T
  region p slots = take (room_in m) (drop (start_in m p) slots)

  -- what waits in line p
  pub line_is : (p : ℕ) (d : Line T) → p < parents_in m → line_in m p ≡ waits (get_or m.lines p d) (region p (vec_items m.slots))
  unfolding line_in lines_in start_in region
  line_is p d within =
      let lines = take (parents_in m) m.lines in
      let short : p < length lines = omega (arith, length_lines, length_side (room_in m) lines (drop (size_in m) (vec_items m.slots))) in
      get_or_side (room_in m) lines (drop (size_in m) (vec_items m.slots)) p d short
      ∙ ap₂ waits (get_or-take (parents_in m) m.lines p d within) (ap (take (room_in m)) (drop-drop (p * room_in m) (size_in m) (vec_items m.slots)))

  -- nothing waits where there is no line
  pub no_line : (p : ℕ) → parents_in m ≤ p → line_in m p ≡ []
  unfolding line_in
  no_line p past = get_or_past (lines_in m) p [] (omega (arith, length_lines))

  pub length_region : (p : ℕ) → p < parents_in m → length (region p (vec_items m.slots)) ≡ room_in m
  unfolding region entries_in
  length_region p within = simp (length-take, length-drop) (omega (arith, line_fits p within, m.slots.ok.0))

  -- the slots of line p as the code cuts them out
  pub cut_out : (p from to : ℕ) (xs : List T) → Region m p from to → take (to - from) (drop from xs) ≡ region p xs
  unfolding region
  cut_out p from to xs here = let room : to - from ≡ room_in m = omega (arith, here.ends) in let begins = here.begins in cc

  -- what waits in line p, as the code reads it
  pub seen : (p from to : ℕ) (d : Line T) (xs : List T) → Region m p from to → xs ≡ vec_items m.slots → waits (get_or m.lines p d) (take (to - from) (drop from xs)) ≡ line_in m p
  seen p from to d xs here all = sym (line_is p d here.line ∙ ap (waits (get_or m.lines p d)) (ap (region p) (sym all) ∙ sym (cut_out p from to xs here)))

  pub length_seen : (p from to : ℕ) (xs : List T) → Region m p from to → xs ≡ vec_items m.slots → length (take (to - from) (drop from xs)) ≡ room_in m
  length_seen p from to xs here all = ap length (cut_out p from to xs here ∙ ap (region p) all) ∙ length_region p here.line

  -- a change to a line that there is not is none
  pub set_no_line : (p : ℕ) (ws : List T) → parents_in m ≤ p → lines_in m ≡ set (lines_in m) p ws
  set_no_line p ws past = sym (set_past (lines_in m) p ws (omega (arith, length_lines)))

  pub unchanged : OnlyLines m m
  unchanged = record { backlog = refl; shares = record { entries = refl; size = refl; parents = refl; room = refl } }

  -- a refused change is none
  pub set_if : (p : ℕ) (b : Bool) (ws : List T) → set (lines_in m) p (cond b ws (line_in m p)) ≡ cond b (set (lines_in m) p ws) (lines_in m)
  unfolding line_in
  set_if p true ws = refl
  set_if p false ws = set-get_or (lines_in m) p []

  -- line p after a change to it
  pub line_after : (m' : Memory T) (p : ℕ) (ws : List T) → p < parents_in m → lines_in m' ≡ set (lines_in m) p ws → line_in m' p ≡ ws
  unfolding line_in
  line_after m' p ws within is = ap (λ l. get_or l p []) is ∙ get_or-set_same (lines_in m) p ws [] (omega (arith, length_lines))

  -- what waits in the backlog, and its slots, as the code cuts them out
  pub backlog_seen : (n : ℕ) (xs : List T) → n ≡ size_in m → xs ≡ vec_items m.slots → waits m.backlog (take n xs) ≡ backlog_in m
  unfolding backlog_in
  backlog_seen n xs size all = cc

  pub length_backlog_seen : (n : ℕ) (xs : List T) → n ≡ size_in m → xs ≡ vec_items m.slots → length (take n xs) ≡ size_in m
  unfolding entries_in
  length_backlog_seen n xs size all = length-take n xs ∙ omega (arith, size_fits, m.slots.ok.0, ap length all)

  -- no more wait in a line than there is room for
  pub line_bound : (p : ℕ) → length (line_in m p) ≤ room_in m
  line_bound p =
      ⊎_elim
      (λ (within : p < parents_in m).
      omega (arith, ap length (line_is p m.backlog within), length_waits (get_or m.lines p m.backlog) (region p (vec_items m.slots)), length_region p within))
      (λ (past : parents_in m ≤ p). omega (arith, ap length (no_line p past)))
      (cases_lt p (parents_in m))

  -- nor in the backlog
  pub backlog_bound : length (backlog_in m) ≤ size_in m
  unfolding backlog_in
  backlog_bound = omega (arith, length_waits m.backlog (take (size_in m) (vec_items m.slots)), length-take (size_in m) (vec_items m.slots))

-- where as many slots, lines and parents are left, and the backlog has as many slots, all is shared out as it was
pub shares_from : {T : Type 0} (m m' : Memory T) → vec_len m'.slots ≡ vec_len m.slots → m'.size ≡ m.size → m'.parents ≡ m.parents → length m'.lines ≡ length m.lines → SameShares m m'
unfolding entries_in size_in parents_in room_in
shares_from m m' long size parents lines = record { entries = long; size = cc; parents = cc; room = cc }

module _ {T : Type 0} (m : Memory T) (line : Line T) (v : Vec T Global) (long : vec_len v ≡ vec_len m.slots) where
  module _ (p : ℕ) where
    -- the memory with another line p, and other slots
    abbrev pub with_line : Memory T
    with_line = record { slots = v; size = m.size; parents = m.parents; backlog = m.backlog; lines = set m.lines p line }

    with_line_shares : SameShares m with_line
    with_line_shares = shares_from m with_line long refl refl (length-set m.lines p line)

    same_region : (k : ℕ) (slots : List T) → region with_line k slots ≡ region m k slots
    unfolding region start_in
    same_region k slots = let same = with_line_shares in cc

    module _ (outside : (b n : ℕ) → Apart (start_in m p) (room_in m) b n → take n (drop b (vec_items v)) ≡ take n (drop b (vec_items m.slots))) where
      pub only_lines : OnlyLines m with_line
      unfolding backlog_in start_in
      only_lines =
          record {
            backlog = ap (waits m.backlog) (ap (λ n. take n (vec_items v)) with_line_shares.size ∙ outside 0 (size_in m) (inl (omega arith)));
            shares = with_line_shares;
          }

      same_line : (k : ℕ) → k ≢ p → k < parents_in m → line_in with_line k ≡ line_in m k
      unfolding region
      same_line k other within =
          line_is with_line k line (omega (arith, with_line_shares.parents))
          ∙ ap₂ waits (get_or-set_other m.lines p k line line other) (same_region k (vec_items v) ∙ outside (start_in m k) (room_in m) (lines_apart m p k other))
          ∙ sym (line_is m k line within)

      pub with_line_lines : p < parents_in m → lines_in with_line ≡ set (lines_in m) p (waits line (region m p (vec_items v)))
      unfolding line_in
      with_line_lines within =
          let ws = waits line (region m p (vec_items v)) in
          let inside : p < length m.lines = omega (arith, parents_fit m) in
          let here : line_in with_line p ≡ ws =
          line_is with_line p line (omega (arith, with_line_shares.parents))
          ∙ ap₂ waits (get_or-set_same m.lines p line line inside) (same_region p (vec_items v)) in
          ext_get_or [] (lines_in with_line) (set (lines_in m) p ws)
          (simp length-set (omega (arith, length_lines with_line, length_lines m, with_line_shares.parents)))
          (λ k below.
          let low : k < parents_in m = omega (arith, length_lines with_line, with_line_shares.parents) in
          ⊎_elim
          (λ (is : k ≡ p). rw is (here ∙ sym (get_or-set_same (lines_in m) p ws [] (omega (arith, length_lines m)))))
          (λ (other : k ≢ p). same_line k other low ∙ sym (get_or-set_other (lines_in m) p k ws [] other))
          (cases_eq k p))

  -- the memory with another backlog, and other slots
  abbrev pub with_backlog : Memory T
  with_backlog = record { slots = v; size = m.size; parents = m.parents; backlog = line; lines = m.lines }

  pub only_backlog : drop (size_in m) (vec_items v) ≡ drop (size_in m) (vec_items m.slots) → OnlyBacklog m with_backlog
  unfolding lines_in
  only_backlog behind =
      let same : SameShares m with_backlog = shares_from m with_backlog long refl refl refl in
      record { lines = (let s = same.size in let r = same.room in let n = same.parents in cc); shares = same }

module _ {T : Type 0} (m : Memory T) (line : Line T) (p : ℕ) where
  -- line p after a change to nothing but where it stands
  pub moved_lines : p < parents_in m → lines_in (with_line m line m.slots refl p) ≡ set (lines_in m) p (waits line (region m p (vec_items m.slots)))
  moved_lines within = with_line_lines m line m.slots refl p (λ b n apart. refl) within

  pub moved_only : OnlyLines m (with_line m line m.slots refl p)
  moved_only = only_lines m line m.slots refl p (λ b n apart. refl)

  -- line p where the code has its slots
  pub moved_seen : (from to : ℕ) (xs : List T) → Region m p from to → xs ≡ vec_items m.slots → lines_in (with_line m line m.slots refl p) ≡ set (lines_in m) p (waits line (take (to - from) (drop from xs)))
  moved_seen from to xs here all =
      moved_lines here.line ∙ ap (λ slots. set (lines_in m) p (waits line slots)) (ap (region m p) (sym all) ∙ sym (cut_out m p from to xs here))

  pub line_moved : (from to : ℕ) (xs : List T) → Region m p from to → xs ≡ vec_items m.slots → line_in (with_line m line m.slots refl p) p ≡ waits line (take (to - from) (drop from xs))
  line_moved from to xs here all = line_after m (with_line m line m.slots refl p) p _ here.line (moved_seen from to xs here all)

module _ {T : Type 0} (m : Memory T) (p from to : ℕ) (line : Line T) (here : Region m p from to) where
  -- line p after a write to its slots, which are now ys
  module _ (xs ys : List T) (all : xs ≡ vec_items m.slots) (same : length ys ≡ length (take (to - from) (drop from xs))) where
    long : length ys ≡ to - from
    long = omega (arith, same, length_seen m p from to xs here all, here.ends)

    inside : from + (to - from) ≤ vec_len m.slots
    inside = omega (arith, here.ends, here.within)

    apart : (b n : ℕ) → Apart (start_in m p) (room_in m) b n → take n (drop b (vec_items (written m.slots from (to - from) xs ys))) ≡ take n (drop b (vec_items m.slots))
    apart b n off =
        let off' : Apart from (to - from) b n =
        ⊎_elim (λ before. inl (omega (arith, here.begins))) (λ behind. inr (omega (arith, here.begins, here.ends))) off in
        written_apart m.slots from (to - from) xs ys all inside long b n off'

    pub written_lines : lines_in (with_line m line (written m.slots from (to - from) xs ys) refl p) ≡ set (lines_in m) p (waits line ys)
    written_lines =
        let v = written m.slots from (to - from) xs ys in
        with_line_lines m line v refl p apart here.line
        ∙ ap (λ slots. set (lines_in m) p (waits line slots)) (sym (cut_out m p from to (vec_items v) here) ∙ written_here m.slots from (to - from) xs ys all inside long)

    pub written_only : OnlyLines m (with_line m line (written m.slots from (to - from) xs ys) refl p)
    written_only = only_lines m line (written m.slots from (to - from) xs ys) refl p apart

module _ {T : Type 0} (m : Memory T) (line : Line T) where
  -- the backlog after a change to nothing but where it stands
  pub moved_backlog : backlog_in (with_backlog m line m.slots refl) ≡ waits line (take (size_in m) (vec_items m.slots))
  unfolding backlog_in size_in
  moved_backlog = refl

  pub moved_only_backlog : OnlyBacklog m (with_backlog m line m.slots refl)
  moved_only_backlog = only_backlog m line m.slots refl refl

  -- the backlog after a write to its slots, which are now ys
  module _ (size : ℕ) (xs ys : List T) (is : size ≡ size_in m) (all : xs ≡ vec_items m.slots) (same : length ys ≡ length (take size xs)) where
    full : length ys ≡ size
    full = omega (arith, same, length_backlog_seen m size xs is all, is)

    within : 0 + size ≤ vec_len m.slots
    unfolding entries_in
    within = omega (arith, size_fits m)

    pub written_backlog : backlog_in (with_backlog m line (written m.slots 0 size xs ys) refl) ≡ waits line ys
    unfolding backlog_in size_in
    written_backlog =
        let v = written m.slots 0 size xs ys in
        ap (waits line) (ap (λ k. take k (vec_items v)) (sym is) ∙ written_here m.slots 0 size xs ys all within full)

    pub written_only_backlog : OnlyBacklog m (with_backlog m line (written m.slots 0 size xs ys) refl)
    written_only_backlog =
        let v = written m.slots 0 size xs ys in
        only_backlog m line v refl (written_behind m.slots 0 size xs ys all within full (size_in m) (omega arith))

-- where nobody waits in any of n lines
pub none_wait : {T : Type 0} (room n : ℕ) (line : Line T) (slots : List T) → n ≤ 4 → ((xs : List T) → waits line xs ≡ []) → side_by_side room (take n (replicate 4 line)) slots ≡ replicate n []
none_wait room n line slots few none = ap (λ l. side_by_side room l slots) (take-replicate n 4 line few) ∙ side_none room n line slots none

-- what a call on a line knows of what waits there, before and after
pub ruleset of_a_line = (seen, length_seen, no_line, set_no_line, line_bound, moved_lines, moved_seen, line_moved, written_lines, set_if, rest_is)

-- and a call on the backlog
pub ruleset of_the_backlog = (backlog_seen, length_backlog_seen, backlog_bound, moved_backlog, written_backlog, rest_is)
