-- A memory ms in two parts, before the cut and from it on: m is where they meet. Assumes nothing.
use Rattle.std.proofs.Common.{◌≡◌, ℕ, ◌-◌, ◌<◌, ◌≤◌, min, List, ◌++◌, length, take, drop, vec_items, vec_len, sym, ap, ◌∙◌, ⊎_elim, arith}
use Rattle.std.proofs.lemmas.List.{append-nil, length-append, length-drop, length-take, take_all, drop_all, take_at, drop_at, nil_from_length, with_items_is}
use Rattle.std.specs.Vec.{with_items}
use Rattle.std.proofs.lemmas.Bool.{cases_lt}
use Rattle.std.proofs.lemmas.Slice.{between_to_end}
use Rattle.waiting.specs.Waiting.{waits}
use Rattle.waiting.specs.declared.Line.{Line}
use Rattle.waiting_tests.specs.Hall.{front_seats, back_seats, in_front, at_back}
use Rattle.waiting_tests.specs.declared.elements.Packet.{Packet}
use Rattle.waiting_tests.specs.declared.hall.Hall.{Hall}

module _ {X : Type 0} (ms : List X) (cut m : ℕ) (is-min : m ≡ min cut (length ms)) where
  pub front_part : take m ms ≡ take cut ms
  front_part =
      ⊎_elim
      (λ few. ap (λ n. take n ms) (omega arith))
      (λ all. take_all m ms (omega arith) ∙ sym (take_all cut ms (omega arith)))
      (cases_lt cut (length ms))

  pub back_part : drop m ms ≡ drop cut ms
  back_part =
      ⊎_elim
      (λ few. ap (λ n. drop n ms) (omega arith))
      (λ all. drop_all m ms (omega arith) ∙ sym (drop_all cut ms (omega arith)))
      (cases_lt cut (length ms))

  -- after ys was written to the front part
  module _ (ys : List X) (long : length ys ≡ m) where
    pub front_after_front : take cut (ys ++ drop m ms) ≡ ys
    front_after_front =
        ⊎_elim
        (λ few. take_at ys (drop m ms) cut (omega arith))
        (λ all. ap (λ l. take cut (ys ++ l)) (drop_all m ms (omega arith)) ∙ rw append-nil (take_all cut ys (omega arith)))
        (cases_lt cut (length ms))

    pub back_after_front : drop cut (ys ++ drop m ms) ≡ drop cut ms
    back_after_front =
        ⊎_elim
        (λ few. drop_at ys (drop m ms) cut (omega arith) ∙ back_part)
        (λ (all : length ms ≤ cut). drop_all cut (ys ++ drop m ms) (simp (length-append, length-drop) (omega arith)) ∙ sym (drop_all cut ms (omega arith)))
        (cases_lt cut (length ms))

  -- after ys was written to the back part, behind which nothing stands
  module _ (ys rest : List X) (long : length ys ≡ length ms - m) (last : length rest ≡ 0) where
    none_behind : take m ms ++ (ys ++ rest) ≡ take m ms ++ ys
    none_behind = rw (nil_from_length rest last, append-nil)

    pub front_after_back : take cut (take m ms ++ (ys ++ rest)) ≡ take cut ms
    front_after_back =
        ap (take cut) none_behind
        ∙ ⊎_elim
        (λ (few : cut < length ms). take_at (take m ms) ys cut (simp length-take (omega arith)) ∙ front_part)
        (λ (all : length ms ≤ cut). rw (nil_from_length ys (omega arith), append-nil) (take_all cut (take m ms) (simp length-take (omega arith)) ∙ front_part))
        (cases_lt cut (length ms))

    pub back_after_back : drop cut (take m ms ++ (ys ++ rest)) ≡ ys
    back_after_back =
        ap (drop cut) none_behind
        ∙ ⊎_elim
        (λ (few : cut < length ms). drop_at (take m ms) ys cut (simp length-take (omega arith)))
        (λ (all : length ms ≤ cut). drop_all cut (take m ms ++ ys) (simp (length-append, length-take) (omega arith)) ∙ sym (nil_from_length ys (omega arith)))
        (cases_lt cut (length ms))

module _ (hall : Hall) (m : ℕ) (ms : List Packet) (is-min : m ≡ min hall.cut (vec_len hall.memory)) (is-ms : ms ≡ vec_items hall.memory) where
  as_many : m ≡ min hall.cut (length ms)
  as_many = omega (arith, ap length is-ms, hall.memory.ok.0)

  -- who waits in front, as the code reads it
  pub front_seen : waits hall.front (take m ms) ≡ in_front hall
  front_seen = ap (waits hall.front) (front_part ms hall.cut m as_many ∙ ap (take hall.cut) is-ms)

  pub front_seats_seen : length (take m ms) ≡ length (front_seats hall)
  front_seats_seen = ap length (front_part ms hall.cut m as_many ∙ ap (take hall.cut) is-ms)

  -- and at the back, up to the last seat
  module _ (n : ℕ) (all : length ms ≤ n) where
    back_here : take (n - m) (drop m ms) ≡ back_seats hall
    back_here = between_to_end ms m n all ∙ back_part ms hall.cut m as_many ∙ ap (drop hall.cut) is-ms

    pub back_seen : waits hall.back (take (n - m) (drop m ms)) ≡ at_back hall
    back_seen = ap (waits hall.back) back_here

    pub back_seats_seen : length (take (n - m) (drop m ms)) ≡ length (back_seats hall)
    back_seats_seen = ap length back_here

  -- after a packet sat down in front, whose seats now hold ys
  module _ (ys : List Packet) (same : length ys ≡ length (take m ms)) where
    long : length ys ≡ m
    long = omega (arith, as_many, simp length-take at same)

    front_stored : vec_items (with_items hall.memory (ys ++ drop m ms)) ≡ ys ++ drop m ms
    front_stored = with_items_is hall.memory (ys ++ drop m ms) (simp (length-append, length-drop) (omega (arith, as_many, long, ap length is-ms, hall.memory.ok.0)))

    pub front_joined : (line : Line Packet) → waits line (take hall.cut (vec_items (with_items hall.memory (ys ++ drop m ms)))) ≡ waits line ys
    front_joined line = ap (waits line) (ap (take hall.cut) front_stored ∙ front_after_front ms hall.cut m as_many ys long)

    pub back_stays : waits hall.back (drop hall.cut (vec_items (with_items hall.memory (ys ++ drop m ms)))) ≡ at_back hall
    back_stays = ap (waits hall.back) (ap (drop hall.cut) front_stored ∙ back_after_front ms hall.cut m as_many ys long ∙ ap (drop hall.cut) is-ms)

  -- after one sat down at the back
  module _ (n : ℕ) (all : length ms ≤ n) (ys : List Packet) (same : length ys ≡ length (take (n - m) (drop m ms))) where
    rest : List Packet
    rest = drop (n - m) (drop m ms)

    last : length rest ≡ 0
    unfolding rest
    last = simp length-drop (omega (arith, all))

    full : length ys ≡ length ms - m
    full = omega (arith, as_many, all, simp (length-take, length-drop) at same)

    back_stored : vec_items (with_items hall.memory (take m ms ++ (ys ++ rest))) ≡ take m ms ++ (ys ++ rest)
    back_stored = with_items_is hall.memory (take m ms ++ (ys ++ rest)) (simp (length-append, length-take, last) (omega (arith, as_many, full, ap length is-ms)))

    pub front_stays : waits hall.front (take hall.cut (vec_items (with_items hall.memory (take m ms ++ (ys ++ drop (n - m) (drop m ms)))))) ≡ in_front hall
    unfolding rest
    front_stays = ap (waits hall.front) (ap (take hall.cut) back_stored ∙ front_after_back ms hall.cut m as_many ys rest full last ∙ ap (take hall.cut) is-ms)

    pub back_joined : (line : Line Packet) → waits line (drop hall.cut (vec_items (with_items hall.memory (take m ms ++ (ys ++ drop (n - m) (drop m ms)))))) ≡ waits line ys
    unfolding rest
    back_joined line = ap (waits line) (ap (drop hall.cut) back_stored ∙ back_after_back ms hall.cut m as_many ys rest full last)

-- what a call in front knows of both lines, before and after
pub ruleset of_the_front = (front_seen, front_seats_seen, front_joined, back_stays)

-- and a call at the back
pub ruleset of_the_back = (back_seen, back_seats_seen, back_joined, front_stays)
