use Rattle.std.proofs.Common.{◌≡◌, ℕ, ◌+◌, ◌<◌, ◌≤◌, length, get_or}
use Rattle.std.specs.Option.{option_map}
use Rattle.psi.specs.Pmt.{streams_of}
use Rattle.psi.specs.Places.{written}
use Rattle.psi.proofs.Entries.{adds}
use Rattle.psi.proofs.pmt.streams.put_streams.Given as goal

-- what is left of the bytes brings the rest of the streams
abbrev pub invariant-loop-rest : goal.invariant-loop-rest
invariant-loop-rest l =
    (l.initial.place.len ≤ l.place.len)
    × (l.place.len + length l.rest ≤ l.initial.place.len + length l.bytes)
    × ((i : ℕ) → get_or l.rest i 0 < 0x100)
    × (option_map (adds l.rows l.parent (written l.place)) (streams_of l.rest) ≡ option_map (adds l.rows l.parent (written l.initial.place)) (streams_of l.bytes))

abbrev pub decreases-loop-rest : goal.decreases-loop-rest
decreases-loop-rest l = length l.rest
