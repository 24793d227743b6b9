-- What is known of a parent from its packets that were taken.
use Rattle.std.specs.Prelude.{◌≡◌, ℕ, ◌+◌, ◌^◌, ◌<◌, List, Some, None, Option}
use Rattle.rules.specs.Entries.{Entry}
use Rattle.rules.specs.State.{Parent}
use Rattle.rules.specs.Times.{after, Stamp, Stamps, stamped}
use Rattle.feed.specs.Times.{capped}
use Rattle.feed.specs.declared.known.Known.{Known}

-- an anchor at this time, of a parent with this from-time
abbrev pub anchored : ℕ → ℕ → Known
anchored at from = record { anchor = at; count = 0; from = from; heard_to = at }

-- the next packet after an anchor
abbrev pub counted : ℕ → Known → Known
counted rate k =
    record {
      anchor = k.anchor;
      count = capped (k.count + 1);
      from = k.from;
      heard_to = capped (k.anchor + after rate (capped (k.count + 1)));
    }

-- what is known after a packet was taken that was handed with a time, or with none
abbrev pub taken : ℕ → Option Known → Option ℕ → Option Known
taken rate None None = None
taken rate None (Some at) = Some (anchored at at)
taken rate (Some k) (Some at) = Some (anchored at k.from)
taken rate (Some k) None = Some (counted rate k)

-- The same as the adapter's rules have it: the stamp of the last packet taken, and a parent with any line.
abbrev pub stamp_of : Known → Stamp
stamp_of k = record { arrival = k.heard_to; anchor = k.anchor; count = k.count; from = k.from }

abbrev pub parent_of : Option Known → List Entry → Parent
parent_of None line = None
parent_of (Some k) line = Some (stamped (stamp_of k) line)

-- Where an adapter that knows the same stamps the packet, it knows the same afterwards.
abbrev pub KeptByRule : ℕ → Option Known → Option ℕ → Option Known → Type 0
KeptByRule rate known time r =
    (line : List Entry) (σ : Stamp) → Stamps rate (parent_of known line) time σ → σ.arrival < 2 ^ 64 → parent_of r line ≡ Some (stamped σ line)
