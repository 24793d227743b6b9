-- A map without a clash keeps its rows apart.
use Rattle.std.proofs.Common.{◌≡◌, ℕ, zero, suc, ◌+◌, ◌-◌, ◌<◌, ◌≤◌, Bool, true, false, cond, ◌&&◌, ◌||◌, eqb, leb, List, [], ◌∷◌, length, get_or, take, Some, None, sym, refl, ap, ◌∙◌, subst, subst₂, inl, inr, arith}
use Rattle.std.proofs.lemmas.List.{get_or-take, length-take-le}
use Rattle.std.proofs.lemmas.Option.{slice_get-get_or}
use Rattle.std.proofs.lemmas.Bool.{eq-eqb, lt-ltb, leb-false, and_from, or_left, or_right, or_parts, or_from, both_ways, cond-true, cond-false, le-leb, lt-leb}
use Rattle.config.specs.declared.row.Row.{Row}
use Rattle.config.specs.Rows.{Shares, NoneShares, AllListed}
use Rattle.config.specs.Verdict.{first, shares, any_shares, clash_of, clash_at, first_clash}
use Rattle.config.proofs.Firsts.{none_all, first_here, first_step}

shares_true : (r s : Row) → Shares r s → shares r s ≡ true
shares_true r s (inl pair) = or_left _ _ (and_from _ _ (eq-eqb _ _ pair.0) (eq-eqb _ _ pair.1))
shares_true r s (inr (inl out)) = or_right _ _ (or_left _ _ (eq-eqb _ _ out))
shares_true r s (inr (inr service)) =
    or_right (eqb r.parent s.parent && eqb r.pid s.pid) _ (or_right (eqb r.out s.out) _ (and_from _ _ (lt-ltb _ _ service.0) (eq-eqb _ _ service.1)))

any_true : (r : Row) (ss : List Row) (k : ℕ) (d : Row) → k < length ss → shares r (get_or ss k d) ≡ true → any_shares r ss ≡ true
any_true r [] k d lt is = absurd (omega arith)
any_true r (s ∷ ss) zero d lt is = or_left _ _ is
any_true r (s ∷ ss) (suc k) d lt is = or_right _ _ (any_true r ss k d (omega arith) is)

-- sharing goes both ways
other_way : (r s : Row) → Shares r s → Shares s r
other_way r s (inl pair) = inl (sym pair.0, sym pair.1)
other_way r s (inr (inl out)) = inr (inl (sym out))
other_way r s (inr (inr service)) = inr (inr (subst (λ n. 0 < n) service.1 service.0, sym service.1))

module _ (listed : ℕ) (rows : List Row) (none : first_clash listed rows ≡ None) where
  no_clash : (i : ℕ) (d : Row) → i < length rows → ((get_or rows i d).parent < listed) × (any_shares (get_or rows i d) (take i rows) ≡ false)
  unfolding first_clash clash_at
  no_clash i d lt =
      let here : clash_of listed rows i (Some (get_or rows i d)) ≡ None = ap (clash_of listed rows i) (sym (slice_get-get_or rows i d lt)) ∙ none_all (clash_at listed rows) (length rows) none i lt in
      by (leb listed (get_or rows i d).parent || any_shares (get_or rows i d) (take i rows)) refl here
    where
      by : (b : Bool) → (leb listed (get_or rows i d).parent || any_shares (get_or rows i d) (take i rows)) ≡ b → cond b (Some i) None ≡ None → ((get_or rows i d).parent < listed) × (any_shares (get_or rows i d) (take i rows) ≡ false)
      by true is e = let z : ◌≡◌ {A = ℕ} 0 1 = cc in absurd (omega arith)
      by false is e = let parts = or_parts _ _ is in (leb-false _ _ parts.0, parts.1)

  pub all_listed : AllListed listed rows
  all_listed r has =
      subst (λ (x : Row). x.parent < listed) (has.2 r) (no_clash has.0 r has.1).0

  pub none_shares : NoneShares rows
  none_shares r s before shared =
      let i = before.first in
      let j = before.second in
      let sharing : shares (get_or rows j r) (get_or (take j rows) i r) ≡ true =
      shares_true (get_or rows j r) (get_or (take j rows) i r)
      (subst₂ Shares (sym (before.at_second r)) (sym (get_or-take j rows i r before.order ∙ before.at_first r)) (other_way r s shared))
      in
      let long : length (take j rows) ≡ j = length-take-le j rows (omega (arith, before.within)) in
      both_ways _
      (no_clash j r before.within).1
      (any_true (get_or rows j r) (take j rows) i r (omega (arith, long, before.order)) sharing)

-- the loop that looks for a clash, one row further
module _ (listed : ℕ) (rows : List Row) (i : ℕ) (d : Row) (within : i < length rows) where
  one_more : length rows - i ≡ suc (length rows - (i + 1))
  one_more = omega arith

  clash_is : clash_at listed rows i ≡ cond (leb listed (get_or rows i d).parent || any_shares (get_or rows i d) (take i rows)) (Some i) None
  unfolding clash_at
  clash_is = ap (clash_of listed rows i) (slice_get-get_or rows i d within)

  clash_if : (leb listed (get_or rows i d).parent || any_shares (get_or rows i d) (take i rows)) ≡ true → first (clash_at listed rows) i (length rows - i) ≡ Some i
  clash_if is =
      ap (first (clash_at listed rows) i) one_more ∙ first_here (clash_at listed rows) i _ i (clash_is ∙ cond-true _ _ _ is)

  pub unlisted_here : listed ≤ (get_or rows i d).parent → first (clash_at listed rows) i (length rows - i) ≡ Some i
  unlisted_here far = clash_if (or_left _ _ (le-leb listed _ far))

  pub sharing_here : any_shares (get_or rows i d) (take i rows) ≡ true → first (clash_at listed rows) i (length rows - i) ≡ Some i
  sharing_here is = clash_if (or_right _ _ is)

  pub clash_past : (get_or rows i d).parent < listed → any_shares (get_or rows i d) (take i rows) ≡ false → first (clash_at listed rows) i (length rows - i) ≡ first (clash_at listed rows) (i + 1) (length rows - (i + 1))
  clash_past near apart =
      ap (first (clash_at listed rows) i) one_more
      ∙ first_step (clash_at listed rows) i _ (clash_is ∙ cond-false _ _ _ (or_from _ _ (lt-leb listed _ near) apart))
