-- What is counted in a run, and how it is told.
use Rattle.std.specs.Prelude.{ℕ, ◌+◌, Bool, true, false, cond, List, ◌++◌, Ok, Err, codes, decimal, Result, ◌==◌}
use Rattle.adapter.specs.Answers.{number_of}
use Rattle.adapter.specs.declared.answer.Framed.{Framed}
use Rattle.adapter.specs.declared.answer.Framed.TheVariants.{Skipped, Followed, Added}
use Rattle.adapter.specs.declared.answer.Heard.{Heard}
use Rattle.adapter.specs.declared.answer.Heard.TheVariants.{PassedOver, Dropped, Held}
use Rattle.adapter.specs.declared.answer.Refusal.{Refusal}
use Rattle.feed.specs.Times.{capped}
use Rattle.feed.specs.declared.counters.Counters.{Counters}
use Rattle.feed.specs.declared.counters.Frames.{Frames}
use Rattle.feed.specs.declared.counters.Hears.{Hears}
use Rattle.feed.specs.declared.counters.Refusals.{Refusals}

-- a counter, one more where this is so; it stops at the largest number of 64 bits
abbrev pub one_more_if : Bool → ℕ → ℕ
one_more_if so n = cond so (capped (n + 1)) n

-- Nothing is counted yet.
abbrev pub no_refusals : Refusals
no_refusals = record { bad = 0; untimely = 0; full = 0 }

abbrev pub no_hears : Hears
no_hears = record { heard = 0; passed = 0; unpatchable = 0; held = 0; refused = no_refusals }

abbrev pub no_frames : Frames
no_frames = record { skipped = 0; followed = 0; added = 0; put = 0; stuffing = 0; dropped = 0 }

-- one packet more that was refused: 7, 8 and 9 are counted
abbrev pub refused_by : Refusal → Refusals → Refusals
refused_by refusal r =
    record {
      bad = one_more_if (number_of refusal == 7) r.bad;
      untimely = one_more_if (number_of refusal == 8) r.untimely;
      full = one_more_if (number_of refusal == 9) r.full;
    }

-- Which packets are passed over, which are not patchable, which are held.
abbrev pub is_passed : Heard → Bool
is_passed PassedOver = true
is_passed Dropped = false
is_passed Held = false

abbrev pub is_unpatchable : Heard → Bool
is_unpatchable PassedOver = false
is_unpatchable Dropped = true
is_unpatchable Held = false

abbrev pub is_held : Heard → Bool
is_held PassedOver = false
is_held Dropped = false
is_held Held = true

-- one packet more, with this answer
abbrev pub heard_by : Result Heard Refusal → Hears → Hears
heard_by (Ok heard) h =
    record {
      heard = capped (h.heard + 1);
      passed = one_more_if (is_passed heard) h.passed;
      unpatchable = one_more_if (is_unpatchable heard) h.unpatchable;
      held = one_more_if (is_held heard) h.held;
      refused = h.refused;
    }
heard_by (Err refusal) h =
    record {
      heard = capped (h.heard + 1);
      passed = h.passed;
      unpatchable = h.unpatchable;
      held = h.held;
      refused = refused_by refusal h.refused;
    }

-- Which frames are skipped, followed, added, and how many packets were dropped in one.
abbrev pub is_skipped : Framed → Bool
is_skipped (Skipped number) = true
is_skipped (Followed number drops) = false
is_skipped (Added number drops) = false

abbrev pub is_followed : Framed → Bool
is_followed (Skipped number) = false
is_followed (Followed number drops) = true
is_followed (Added number drops) = false

abbrev pub is_added : Framed → Bool
is_added (Skipped number) = false
is_added (Followed number drops) = false
is_added (Added number drops) = true

abbrev pub drops_in : Framed → ℕ
drops_in (Skipped number) = 0
drops_in (Followed number drops) = drops
drops_in (Added number drops) = drops

-- one frame more, with this answer, so many packets put and so many of them stuffing
abbrev pub framed_by : Framed → ℕ → ℕ → Frames → Frames
framed_by answer put stuffing f =
    record {
      skipped = one_more_if (is_skipped answer) f.skipped;
      followed = one_more_if (is_followed answer) f.followed;
      added = one_more_if (is_added answer) f.added;
      put = capped (f.put + put);
      stuffing = capped (f.stuffing + stuffing);
      dropped = capped (f.dropped + drops_in answer);
    }

-- how often a parent was lost: by each packet refused
abbrev pub losses : Refusals → ℕ
losses r = capped (capped (r.bad + r.untimely) + r.full)

-- The line of counters: words, and a number behind each.
abbrev pub told : List ℕ → ℕ → List ℕ
told word n = word ++ decimal n

abbrev pub refusals_line : Refusals → List ℕ
refusals_line r =
    told (codes "refused ") r.bad ++ (told (codes " ") r.untimely ++ (told (codes " ") r.full ++ told (codes " lost ") (losses r)))

abbrev pub hears_line : Hears → List ℕ
hears_line h =
    told (codes "heard ") h.heard
    ++ (told (codes " passed ") h.passed
    ++ (told (codes " unpatchable ") h.unpatchable ++ (told (codes " held ") h.held ++ (codes " " ++ refusals_line h.refused))))

abbrev pub frames_line : Frames → List ℕ
frames_line f =
    told (codes "skipped ") f.skipped
    ++ (told (codes " followed ") f.followed
    ++ (told (codes " added ") f.added
    ++ (told (codes " put ") f.put ++ (told (codes " stuffing ") f.stuffing ++ told (codes " dropped ") f.dropped))))

abbrev pub counters_line : Counters → List ℕ
counters_line c = hears_line c.hears ++ (codes " " ++ frames_line c.frames)
