-- The slots as they come round, and what a line counts of them. Assumes nothing.
use Rattle.std.proofs.Common.{◌≡◌, ℕ, zero, suc, ◌+◌, ◌-◌, ◌<◌, ◌≤◌, min, List, [], ◌∷◌, ◌++◌, length, get_or, take, drop, set, Some, sym, refl, ap, ◌∙◌, ap₂, ⊎_elim, arith}
use lib.Seq.{take-set-lt}
use Rattle.std.proofs.lemmas.List.{append-nil, length-set, append_assoc, length-append, length-drop, length-take, drop_all, take_all, drop_more, take_more, take_more_set, take-append-le, take-set-le, drop-set-lt, drop-set-add, set-append_left, set-append_right}
use Rattle.std.proofs.lemmas.Bool.{cases_lt}
use Rattle.waiting.specs.Waiting.{turned, waits, one_more, oldest}
use Rattle.waiting.specs.declared.Line.{Line}

module _ {T : Type 0} where
  length_turned : (k : ℕ) (xs : List T) → length (turned k xs) ≡ length xs
  unfolding turned
  length_turned k xs = simp (length-append, length-drop, length-take) (omega arith)

  pub length_waits : (line : Line T) (xs : List T) → length (waits line xs) ≡ min line.count (length xs)
  unfolding waits
  length_waits line xs = simp (length-take, length_turned)

  -- where an element is the oldest, one waits
  pub oldest_some : (ws : List T) (x : T) → Some x ≡ oldest ws → 0 < length ws
  oldest_some [] x e = let no_way : ◌≡◌ {A = ℕ} 0 1 = cc in omega arith
  oldest_some (w ∷ ws) x e = omega arith

  -- a number that no slot has begins the round at slot 0
  pub turned_past : (k : ℕ) (xs : List T) → length xs ≤ k → turned 0 xs ≡ turned k xs
  unfolding turned
  turned_past k xs past = append-nil xs ∙ sym (ap₂ ◌++◌ (drop_all k xs past) (take_all k xs past))

  -- the round without its first slot
  others : ℕ → List T → List T
  others k xs = drop (k + 1) xs ++ take k xs

  length_others : (k : ℕ) (xs : List T) → k < length xs → length (others k xs) + 1 ≡ length xs
  unfolding others
  length_others k xs within = simp (length-append, length-drop, length-take) (omega arith)

  turned_here : (k : ℕ) (xs : List T) (d : T) → k < length xs → turned k xs ≡ get_or xs k d ∷ others k xs
  unfolding turned others
  turned_here k xs d within = ap (λ l. l ++ take k xs) (drop_more xs k d within)

  turned_next : (k : ℕ) (xs : List T) (d : T) → k < length xs → turned (k + 1) xs ≡ others k xs ++ get_or xs k d ∷ []
  unfolding turned others
  turned_next k xs d within =
      ap (λ l. drop (k + 1) xs ++ l) (take_more xs k d within) ∙ sym (append_assoc (drop (k + 1) xs) (take k xs) (get_or xs k d ∷ []))

  -- a write at the place i of the round
  pub turned_set_on : (k i : ℕ) (xs : List T) (x : T) → k + i < length xs → turned k (set xs (k + i) x) ≡ set (turned k xs) i x
  unfolding turned
  turned_set_on k i xs x within =
      let inside : i < length (drop k xs) = simp length-drop (omega arith) in
      ap₂ ◌++◌ (drop-set-add k xs i x) (take-set-le k xs (k + i) x (omega arith)) ∙ sym (set-append_left (drop k xs) (take k xs) i x inside)

  -- the same past the last slot
  pub turned_set_round : (k i : ℕ) (xs : List T) (x : T) → k < length xs → length xs - k ≤ i → i < length xs → turned k (set xs (i - (length xs - k)) x) ≡ set (turned k xs) i x
  unfolding turned
  turned_set_round k i xs x within round below =
      let before : i - (length xs - k) < k = omega arith in
      ap₂ ◌++◌ (drop-set-lt k xs (i - (length xs - k)) x before) (take-set-lt k xs (i - (length xs - k)) x before)
      ∙ sym (set-append_right (drop k xs) (take k xs) (length xs - k) i x (length-drop k xs) round)

  take_cons : (n : ℕ) (x : T) (xs : List T) → 0 < n → take n (x ∷ xs) ≡ x ∷ take (n - 1) xs
  take_cons zero x xs some = absurd (omega arith)
  take_cons (suc n) x xs some = ap (λ m. x ∷ take m xs) (omega arith)

  -- as many as there are is all of them
  take_within : (n : ℕ) (xs : List T) → take (n - 1) xs ≡ take (min n (length xs + 1) - 1) xs
  take_within n xs =
      ⊎_elim
      (λ few. ap (λ m. take m xs) (omega arith))
      (λ all. take_all (n - 1) xs (omega arith) ∙ sym (take_all (min n (length xs + 1) - 1) xs (omega arith)))
      (cases_lt n (length xs + 1))

  -- the line over n slots whose oldest, in slot k, has gone
  abbrev pub one_gone : ℕ → ℕ → Line T → Line T
  one_gone k n line = record { first = k + 1; count = min line.count n - 1; kind = line.kind }

  pub waits_cons : (line : Line T) (xs : List T) (k : ℕ) (d : T) → 0 < line.count → k < length xs → turned k xs ≡ turned line.first xs → waits line xs ≡ get_or xs k d ∷ waits (one_gone k (length xs) line) xs
  unfolding waits
  waits_cons line xs k d some within round =
      let n = line.count in
      let rest = others k xs in
      let long : length rest + 1 ≡ length xs = length_others k xs within in
      let m = min n (length xs) - 1 in
      let left : take (n - 1) rest ≡ take m rest = rw (← long) (take_within n rest) in
      let kept : take m (turned (k + 1) xs) ≡ take m rest =
      ap (take m) (turned_next k xs d within) ∙ take-append-le m rest (get_or xs k d ∷ []) (omega arith) in
      ap (take n) (sym round ∙ turned_here k xs d within) ∙ take_cons n (get_or xs k d) rest some ∙ ap (λ l. get_or xs k d ∷ l) (left ∙ sym kept)

  -- the element x in slot k, at which the round begins, is the oldest
  pub oldest_is : (line : Line T) (xs : List T) (k : ℕ) (x : T) → 0 < line.count → k < length xs → turned k xs ≡ turned line.first xs → x ≡ get_or xs k x → Some x ≡ oldest (waits line xs)
  oldest_is line xs k x some within round read = ap Some read ∙ sym (ap oldest (waits_cons line xs k x some within round))

  pub waits_joins : (line : Line T) (xs : List T) (k r : ℕ) (x : T) → line.count < length xs → ((ys : List T) → length ys ≡ length xs → turned k ys ≡ turned line.first ys) → turned k (set xs r x) ≡ set (turned k xs) line.count x → waits (one_more line) (set xs r x) ≡ waits line xs ++ x ∷ []
  unfolding waits
  waits_joins line xs k r x room round written =
      let n = line.count in
      let inside : n < length (turned k xs) = simp length_turned (omega arith) in
      ap (take (n + 1)) (sym (round (set xs r x) (length-set xs r x)) ∙ written)
      ∙ take_more_set (turned k xs) n x inside ∙ ap (λ l. take n l ++ x ∷ []) (round xs refl)

  -- the line after a write to slot k + i, where so many wait, or to the slot that it is past the last
  pub joins_on : (line : Line T) (xs : List T) (k : ℕ) (x : T) → ((ys : List T) → length ys ≡ length xs → turned k ys ≡ turned line.first ys) → k + line.count < length xs → waits (one_more line) (set xs (k + line.count) x) ≡ waits line xs ++ x ∷ []
  joins_on line xs k x round below = waits_joins line xs k _ x (omega arith) round (turned_set_on k line.count xs x below)

  pub joins_round : (line : Line T) (xs : List T) (k : ℕ) (x : T) → ((ys : List T) → length ys ≡ length xs → turned k ys ≡ turned line.first ys) → k < length xs → line.count < length xs → length xs - k ≤ line.count → waits (one_more line) (set xs (line.count - (length xs - k)) x) ≡ waits line xs ++ x ∷ []
  joins_round line xs k x round within room past = waits_joins line xs k _ x room round (turned_set_round k line.count xs x within past room)

  -- the line once x, its oldest, has gone from slot k
  pub taken : (line : Line T) (xs : List T) (k n : ℕ) (x : T) → k < length xs → turned k xs ≡ turned line.first xs → n ≡ length (waits line xs) → Some x ≡ oldest (waits line xs) → x ∷ waits (record { first = k + 1; count = n - 1; kind = line.kind }) xs ≡ waits line xs
  taken line xs k n x within round many is =
      let some : 0 < line.count = omega (arith, oldest_some _ _ is, length_waits line xs) in
      let front = waits_cons line xs k x some within round in
      let here : x ≡ get_or xs k x = let e = ap oldest front in cc in
      let left : n ≡ min line.count (length xs) = many ∙ length_waits line xs in
      sym (front ∙ ap₂ (λ y m. y ∷ waits (record { first = k + 1; count = m - 1; kind = line.kind }) xs) (sym here) (sym left))
