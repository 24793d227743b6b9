-- The framing records of a run.
use Rattle.std.specs.Prelude.{ℕ, ◌+◌, ◌*◌, ◌^◌, cond, ◌&&◌, Some, None, Option, nat_le, nat_lt}
use Rattle.rules.specs.Slots.{Frame}
use Rattle.rules.specs.Times.{latest_time}
use Rattle.feed.specs.declared.plan.Plan.{Plan}

-- when frame n starts
abbrev pub start_of : Plan → ℕ → ℕ
start_of p n = p.start + n * p.ticks

-- The record of frame n. None has a number of more than 32 bits or starts after the latest time.
abbrev pub frame_of : Plan → ℕ → Option Frame
frame_of p n =
    cond (nat_lt n (2 ^ 32) && nat_le (start_of p n) latest_time) (Some (record { number = n; start = start_of p n; slots = p.slots })) None
