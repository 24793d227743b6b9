use Rattle.std.proofs.Common.{◌≡◌, ℕ, None, Some, Ok, Err, Option, Result, sym, subst}
use Rattle.std.specs.Result.{MatchResult, IsOkAnd}
use Rattle.rules.specs.State.{Parent}
use Rattle.adapter.specs.Parents.{parent_of, TakenSo, StampedSo}
use Rattle.adapter.specs.declared.times.Times.{Times}
use Rattle.adapter.specs.declared.times.stamp.Untimely.{Untimely}
use Rattle.adapter.proofs.times.stamp.stamp.Goals as goal

-- times that are taken, as the result of a packet that may be neither taken nor refused
taken : (rate : ℕ) (P : Parent) (t : Option ℕ) (r : Result Times Untimely) (r' : Result (Option Times) Untimely)
    → MatchResult r (λ x. IsOkAnd r' (λ y. y ≡ Some x)) (λ e. r' ≡ Err e) → TakenSo rate P t r → StampedSo rate P t r'
taken rate P t (Ok x) (Ok y) is h = subst (λ o. StampedSo rate P t (Ok o)) (sym is) h
taken rate P t (Ok x) (Err e) is h = absurd is
taken rate P t (Err e) r' is h = subst (StampedSo rate P t) (sym is) h

pub returns-in-None-Some : goal.returns-in-None-Some
returns-in-None-Some c =
    λ line. rw (c.in-None-Some.is-0, c.in-None-Some.is-1) (taken c.args.rate None (Some c.in-None-Some.at) c.first_anchor.result c.map.result c.map.ensures.cases (c.first_anchor.ensures c.args.rate))

pub returns-in-Some-None : goal.returns-in-Some-None
returns-in-Some-None c =
    λ line. rw (c.in-Some-None.is-0, c.in-Some-None.is-1)
    (taken c.args.rate (parent_of (Some c.in-Some-None.times) line) None c.count_on.result c.map-in-Some-None.result c.map-in-Some-None.ensures.cases (c.count_on.ensures line))

pub returns-in-Some-Some : goal.returns-in-Some-Some
returns-in-Some-Some c =
    λ line. rw (c.in-Some-Some.is-0, c.in-Some-Some.is-1)
    (taken c.args.rate (parent_of (Some c.in-Some-Some.times) line) (Some c.in-Some-Some.at) c.later_anchor.result c.map-in-Some-Some.result c.map-in-Some-Some.ensures.cases (c.later_anchor.ensures c.args.rate line))
