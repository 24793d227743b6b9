-- What folds stand for: none of them, the first, and one more at the end.
use Rattle.std.proofs.Common.{◌≡◌, ℕ, ◌+◌, ◌-◌, ◌%◌, ◌<◌, ◌≤◌, true, ltb, List, [], ◌∷◌, ◌++◌, length, get_or, take, drop, replicate, sym, ap, ◌∙◌, add-zero, arith, lit<, length-append, length-drop}
use native.Mathlib.Nat.{div-eq_of_lt}
use lib.ListN.{length-replicate}
use Rattle.std.specs.List.{flat_map}
use Rattle.std.proofs.lemmas.List.{append_assoc, append-nil, flat_map_more, take_at, drop_at, drop-drop, get_or_at, get_or-drop, get_or-replicate, get_or_append_left, replicate_more, length_push}
use Rattle.std.proofs.lemmas.Bool.{lt-ltb}
use Rattle.psi.specs.Packet.{Bytes, byte, stuffing}
use Rattle.std.specs.Simd.{first_chunks}
use Rattle.carrier.specs.Pieces.{cut}
use Rattle.carrier.specs.Folds.{opened, unfolded, with_pending}
use Rattle.carrier.proofs.Cuts.{cut_push, cut_first}

unfolded_none : (bs : Bytes) → length bs < 189 → unfolded bs ≡ []
unfolding unfolded cut
unfolded_none bs short = ap (λ k. flat_map opened (first_chunks 189 k bs)) (div-eq_of_lt short)

unfolded_first : (fold rest : Bytes) → length fold ≡ 189 → unfolded (fold ++ rest) ≡ opened fold ++ unfolded rest
unfolding unfolded
unfolded_first fold rest long =
    let within : 189 ≤ length (fold ++ rest) = simp length-append (omega arith) in
    ap (flat_map opened) (cut_first 189 (lit< tt) (fold ++ rest) within)
    ∙ (λ i. opened (take_at fold rest 189 long i) ++ flat_map opened (cut 189 (drop_at fold rest 189 long i)))

-- a packet that is kept, with its count behind it
opened_fold : (x : Bytes) (count : ℕ) → length x ≡ 188 → opened (x ++ count ∷ []) ≡ replicate count stuffing ++ x ∷ []
opened_fold x count long = λ i. replicate (get_or_at x count [] 0 188 long i) stuffing ++ take_at x (count ∷ []) 188 long i ∷ []

-- stuffing that was pending is counted in the fold
pub kept_more : (bs x : Bytes) (pending : ℕ) → length bs % 189 ≡ 0 → length x ≡ 188 → with_pending (bs ++ (x ++ pending ∷ [])) 0 ≡ with_pending bs pending ++ x ∷ []
unfolding unfolded
kept_more bs x pending whole long =
    append-nil (unfolded (bs ++ (x ++ pending ∷ [])))
    ∙ ap (flat_map opened) (cut_push 189 (lit< tt) bs (x ++ pending ∷ []) whole (length_push x pending ∙ ap (λ n. n + 1) long))
    ∙ sym (flat_map_more opened [] (cut 189 bs) (x ++ pending ∷ []))
    ∙ ap (λ l. unfolded bs ++ l) (opened_fold x pending long)
    ∙ sym (append_assoc (unfolded bs) (replicate pending stuffing) (x ∷ []))

-- one stuffing packet more is pending
pub left_out_more : (bs x : Bytes) (pending : ℕ) → x ≡ stuffing → with_pending bs (pending + 1) ≡ with_pending bs pending ++ x ∷ []
left_out_more bs x pending is =
    ap (λ l. unfolded bs ++ l) (sym (replicate_more pending stuffing))
    ∙ sym (append_assoc (unfolded bs) (replicate pending stuffing) (stuffing ∷ []))
    ∙ ap (λ y. with_pending bs pending ++ y ∷ []) (sym is)

pub none_pending : (bs : Bytes) → bs ≡ [] → with_pending bs 0 ≡ []
none_pending bs none = append-nil (unfolded bs) ∙ ap unfolded none ∙ unfolded_none [] (lit< tt)

-- the packets of the first fold, and then those behind it
pending_first : (fold rest : Bytes) (p : ℕ) → length fold ≡ 189 → with_pending (fold ++ rest) p ≡ opened fold ++ with_pending rest p
pending_first fold rest p long = ap (λ l. l ++ replicate p stuffing) (unfolded_first fold rest long) ∙ append_assoc (opened fold) (unfolded rest) (replicate p stuffing)

length_opened : (fold : Bytes) → length (opened fold) ≡ byte fold 188 + 1
length_opened fold = length_push (replicate (byte fold 188) stuffing) (take 188 fold) ∙ ap (λ n. n + 1) (length-replicate (byte fold 188) stuffing)

-- What a read of packet i leaves in the place, where it is one of xs.
pub record Found (xs : List Bytes) (i : ℕ) (place z : Bytes) : Type 0 where
  pub test : true ≡ ltb i (length xs)
  pub after : z ≡ get_or xs i place

-- Two walks that come to the same rest of a list find one packet there.
at_rest : (xs ys : List Bytes) (a i : ℕ) (d : Bytes) → drop a xs ≡ drop i ys → get_or xs a d ≡ get_or ys i d
at_rest xs ys a i d same =
    ap (λ n. get_or xs n d) (sym (add-zero a)) ∙ sym (get_or-drop a xs 0 d) ∙ ap (λ l. get_or l 0 d) same ∙ get_or-drop i ys 0 d ∙ ap (λ n. get_or ys n d) (add-zero i)

rests_long : (xs ys : List Bytes) (a i : ℕ) → drop a xs ≡ drop i ys → length xs - a ≡ length ys - i
rests_long xs ys a i same = sym (length-drop a xs) ∙ ap length same ∙ length-drop i ys

found_at : (xs ys : List Bytes) (a i : ℕ) (d z : Bytes) → drop a xs ≡ drop i ys → a < length xs → get_or xs a d ≡ z → Found ys i d z
found_at xs ys a i d z same within is =
    record { test = sym (lt-ltb i (length ys) (omega (arith, rests_long xs ys a i same))); after = sym is ∙ at_rest xs ys a i d same }

-- The walk is at a fold, with so many packets to pass from there on to packet i of ys.
pub record AtFold (ys : List Bytes) (i p a : ℕ) (bs fold rest : Bytes) : Type 0 where
  pub long : length fold ≡ 189
  pub is : bs ≡ fold ++ rest
  pub same : drop a (with_pending bs p) ≡ drop i ys

module _ {ys : List Bytes} {i p a : ℕ} {bs fold rest : Bytes} (w : AtFold ys i p a bs fold rest) where
  here : with_pending bs p ≡ opened fold ++ with_pending rest p
  here = ap (λ l. with_pending l p) w.is ∙ pending_first fold rest p w.long

  reaches : a ≤ byte fold 188 → a < length (with_pending bs p)
  reaches within = omega (arith, ap length here, length-append (opened fold) (with_pending rest p), length_opened fold)

  in_fold : (d : Bytes) → a ≤ byte fold 188 → get_or (with_pending bs p) a d ≡ get_or (opened fold) a d
  in_fold d within = ap (λ l. get_or l a d) here ∙ get_or_append_left (opened fold) (with_pending rest p) d a (omega (arith, length_opened fold))

  pub found_before : (d : Bytes) → a < byte fold 188 → Found ys i d stuffing
  found_before d below =
      found_at _ ys a i d stuffing w.same (reaches (omega arith))
      (in_fold d (omega arith)
      ∙ get_or_append_left (replicate (byte fold 188) stuffing) (take 188 fold ∷ []) d a (omega (arith, length-replicate (byte fold 188) stuffing))
      ∙ get_or-replicate (byte fold 188) a stuffing d below)

  pub found_kept : (d : Bytes) → a ≡ byte fold 188 → Found ys i d (take 188 fold)
  found_kept d at =
      found_at _ ys a i d _ w.same (reaches (omega arith))
      (in_fold d (omega arith) ∙ get_or_at (replicate (byte fold 188) stuffing) (take 188 fold) [] d a (length-replicate (byte fold 188) stuffing ∙ sym at))

  pub passed : byte fold 188 < a → drop (a - (byte fold 188 + 1)) (with_pending rest p) ≡ drop i ys
  passed above =
      let n = byte fold 188 + 1 in
      let all : n + (a - n) ≡ a = omega arith in
      ap (drop (a - n)) (sym (drop_at (opened fold) (with_pending rest p) n (length_opened fold)))
      ∙ drop-drop (a - n) n (opened fold ++ with_pending rest p)
      ∙ (λ j. drop (all j) (sym here j))
      ∙ w.same

-- The walk is behind the last fold.
pub record AtEnd (ys : List Bytes) (i p a : ℕ) (bs : Bytes) : Type 0 where
  pub short : length bs < 189
  pub same : drop a (with_pending bs p) ≡ drop i ys

module _ {ys : List Bytes} {i p a : ℕ} {bs : Bytes} (w : AtEnd ys i p a bs) where
  behind : with_pending bs p ≡ replicate p stuffing
  behind = ap (λ l. l ++ replicate p stuffing) (unfolded_none bs w.short)

  long_behind : length (with_pending bs p) ≡ p
  long_behind = ap length behind ∙ length-replicate p stuffing

  pub found_pending : (d : Bytes) → a < p → Found ys i d stuffing
  found_pending d below =
      found_at _ ys a i d stuffing w.same (omega (arith, long_behind)) (ap (λ l. get_or l a d) behind ∙ get_or-replicate p a stuffing d below)

  pub past_all : p ≤ a → length ys ≤ i
  past_all above = omega (arith, long_behind, rests_long _ ys a i w.same)
