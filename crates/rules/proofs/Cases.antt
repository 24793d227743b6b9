-- The worked cases.
use Rattle.std.proofs.Common.{◌≡◌, ℕ, ◌<◌, [], ◌∷◌, ◌++◌, length, replicate, Some, None, sym, refl, ap, ◌∙◌, subst, arith}
use Rattle.config.specs.Setup.{Setup}
use Rattle.psi.specs.Packet.{Bytes, good_packet, stuffing, filled, with_pid}
use Rattle.psi.specs.Pat.{pat_copy, pat_packet}
use Rattle.psi.specs.Delivery.{deliver, deliver_by}
use Rattle.rules.specs.Slots.{turns}
use Rattle.rules.specs.State.{Hearing, State, rate_of, parent_at, line_of, line_room}
use Rattle.rules.specs.Times.{after, Untimely, too_late, not_after, too_many, Stamp, Stamps, first_anchor, later_anchor, counted}
use Rattle.rules.specs.Calls.{HearAnswer, passed_over, refused_hear, Good, Hears, bad, untimely, unanchored, unwanted, unpatched, full, holds, anew, queued, followed, added}
use Rattle.rules.specs.Cases.{example, frame_of, four_places, four_taken, unmapped_packet, quiet_log, Taken, folded_by, packet_512, WorkedCases}
use Rattle.rules.proofs.Hearing.{no_way}
use Rattle.rules.proofs.Running.{Site, on, hears, records, frames}

module _ (c : Setup) (m : ℕ) (s s' : State) (p : ℕ) (x : Bytes) (h : Hearing) (r : HearAnswer) (good : Good c m p x) (here : parent_at s p ≡ Some h) where
  in_time : h.count ≡ 99_999 → Untimely (parent_at s p) None → ⊥
  in_time n (too_late a te big) = no_way (cc)
  in_time n (not_after h₀ a p₀ te low) = no_way (cc)
  in_time n (too_many h₀ p₀ te many) = let same : h₀ ≡ h = cc in absurd (omega (arith, ap (λ y. y.count) same))

  last_counted : h.count ≡ 99_999 → length h.line < line_room c m → Hears c m s p x None r s' → Taken r
  last_counted n room (Hears.short little er es) = absurd (little good.known.roomy)
  last_counted n room (Hears.unknown e high er es) = absurd (omega (arith, good.known.listed))
  last_counted n room (bad l ill er es) = let fine = good.good in no_way (cc)
  last_counted n room (untimely g u er es) = absurd (in_time n u)
  last_counted n room (unanchored g pn tn er es) = no_way (cc)
  last_counted n room (unwanted σ a why er es) = subst Taken (sym er) tt
  last_counted n room (unpatched σ a late dl er es) = subst Taken (sym er) tt
  last_counted n room (full σ e a wants fl er es) = absurd (omega (arith, ap (λ y. length (line_of y)) here))
  last_counted n room (holds σ e a wants fl er es) = subst Taken (sym er) tt

  no_stamp : h.count ≡ 100_000 → (rate : ℕ) (σ : Stamp) → Stamps rate (parent_at s p) None σ → ⊥
  no_stamp n rate σ (first_anchor a p₀ te small is) = no_way (cc)
  no_stamp n rate σ (later_anchor h₀ a p₀ te small up is) = no_way (cc)
  no_stamp n rate σ (counted h₀ p₀ te few is) = let same : h₀ ≡ h = cc in absurd (omega (arith, ap (λ y. y.count) same))

  one_too_many : h.count ≡ 100_000 → Hears c m s p x None r s' → r ≡ refused_hear 8
  one_too_many n (Hears.short little er es) = absurd (little good.known.roomy)
  one_too_many n (Hears.unknown e high er es) = absurd (omega (arith, good.known.listed))
  one_too_many n (bad l ill er es) = let fine = good.good in no_way (cc)
  one_too_many n (untimely g u er es) = er
  one_too_many n (unanchored g pn tn er es) = no_way (cc)
  one_too_many n (unwanted σ a why er es) = absurd (no_stamp n (rate_of c p) σ a.stamps)
  one_too_many n (unpatched σ a late dl er es) = absurd (no_stamp n (rate_of c p) σ a.stamps)
  one_too_many n (full σ e a wants fl er es) = absurd (no_stamp n (rate_of c p) σ a.stamps)
  one_too_many n (holds σ e a wants fl er es) = absurd (no_stamp n (rate_of c p) σ a.stamps)

quiet : Site (example 2_700_000 2 1) 3 (quiet_log unmapped_packet four_places four_taken)
unfolding deliver deliver_by good_packet stuffing turns
quiet =
    frames
    (frames
    (hears
    (records
    (records
    (hears on 0 unmapped_packet (Some 0) passed_over refl)
    (frame_of 1 0 4) anew refl)
    (frame_of 2 2_700_000 4) queued refl)
    0 unmapped_packet (Some 5_400_000) passed_over refl)
    four_places (followed 1 0) four_places refl refl)
    four_places (added 2 0) four_taken refl (record { packets = refl; capacity = refl; at_most = omega arith; no_more = omega arith })

folds_so : folded_by 0 (replicate 256 stuffing ++ packet_512 ∷ []) ≡ (stuffing ++ 255 ∷ []) ++ (packet_512 ++ 0 ∷ [])
unfolding stuffing with_pid
folds_so = refl

folds_to : length ((stuffing ++ 255 ∷ []) ++ (packet_512 ++ 0 ∷ [])) ≡ 378
unfolding stuffing with_pid
folds_to = refl

pub worked_cases : WorkedCases
unfolding after turns pat_copy pat_packet filled
worked_cases = record {
  first_arrives = refl;
  fifth_arrives = refl;
  last_counted = λ c m s s' p x h r good here. last_counted c m s s' p x h r good here;
  one_too_many = λ c m s s' p x h r good here. one_too_many c m s s' p x h r good here;
  first_limit = refl;
  last_limit = refl;
  at_limit = λ x y. refl;
  pat_slots = refl;
  counters_in_5 = refl;
  counters_in_8 = refl;
  doubt_falls = refl;
  next_added = quiet;
  doubt_stays = λ x y z. refl;
  goes_on = λ x y z. refl;
  earliest_goes = λ x y z. refl;
  two_dropped = λ x y z. refl;
  folds_so = folds_so;
  folds_to = ap length folds_so ∙ folds_to;
}
