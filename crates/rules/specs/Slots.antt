-- How a frame is placed, slot by slot: what each slot admits and takes, the backlog and the doubt.
-- The backlog knows nothing of times, and the doubt nothing of packets.
use Rattle.std.specs.Prelude.{ℕ, zero, suc, ◌+◌, ◌-◌, ◌*◌, ◌/◌, min, Bool, false, cond, ◌||◌, List, [], ◌∷◌, ◌++◌, length, Some, None, Option, ◌==◌, nat_lt}
use Rattle.config.specs.Setup.{Setup}
use Rattle.psi.specs.Packet.{Bytes, stuffing}
use Rattle.psi.specs.Pat.{pat_copy}
use Rattle.rules.specs.Entries.{Entry, before, from_on}

-- A framing record: a frame's number, its start and how many slots it has.
pub record Frame : Type 0 where
  pub number : ℕ
  pub start : ℕ
  pub slots : ℕ

-- when the frame ends and the next one starts
abbrev pub end_of : Setup → Frame → ℕ
end_of c f = f.start + c.ticks

-- What a slot is for: a PAT copy, or data.
pub data Use : Type 0 where
  pat : ℕ → Use
  payload : Use

-- Of n slots, slot floor(i × n / copies) is for PAT copy i; each other slot is a data slot. (Looked for among the first i copies.)
abbrev pub use_among : ℕ → ℕ → ℕ → ℕ → Use
use_among n copies slot zero = payload
use_among n copies slot (suc i) = cond (i * n / copies == slot) (pat i) (use_among n copies slot i)

abbrev pub use_of : Setup → Frame → ℕ → Use
use_of c f slot = use_among f.slots c.copies slot c.copies

-- A slot admits what arrives before its limit: start + floor((slot + 1) × frame length / slots).
abbrev pub limit : Setup → Frame → ℕ → ℕ
limit c f slot = f.start + (slot + 1) * c.ticks / f.slots

-- A turn: a slot as it comes up, with what it admits first and what it is for.
pub record Turn : Type 0 where
  pub admits : List Entry
  pub use_is : Use

-- so many slots from this one on, when these packets have yet to be admitted
abbrev pub turns_from : Setup → Frame → ℕ → ℕ → List Entry → List Turn
turns_from c f zero slot es = []
turns_from c f (suc left) slot es =
    record { admits = before (limit c f slot) es; use_is = use_of c f slot }
    ∷ turns_from c f left (slot + 1) (from_on (limit c f slot) es)

-- The turns of a frame during which these packets arrive.
unfoldable pub turns : Setup → Frame → List Entry → List Turn
turns c f es = turns_from c f f.slots 0 es

-- The backlog: a packet that is admitted joins it, or is dropped if q wait already.
abbrev pub join : ℕ → List Entry → Entry → List Entry
join q b e = cond (nat_lt (length b) q) (b ++ e ∷ []) b

abbrev pub joins : ℕ → List Entry → List Entry → List Entry
joins q b [] = b
joins q b (e ∷ es) = joins q (join q b e) es

abbrev pub drops : ℕ → List Entry → List Entry → ℕ
drops q b [] = 0
drops q b (e ∷ es) = cond (nat_lt (length b) q) 0 1 + drops q (join q b e) es

-- The choice of a data slot: which packet of the backlog it takes, if one waits, and what waits on. It takes the first.
abbrev pub choose : List Entry → Option Entry × List Entry
choose [] = (None, [])
choose (e ∷ es) = (Some e, es)

abbrev pub or_stuffing : Option Entry → Bytes
or_stuffing None = stuffing
or_stuffing (Some e) = e.bytes

-- One slot: the packet that leaves in it, and what waits after it.
abbrev pub leaves : Setup → ℕ → Use → List Entry → Bytes
leaves c number (pat i) b = pat_copy c number i
leaves c number payload b = or_stuffing (choose b).0

abbrev pub stays : Use → List Entry → List Entry
stays (pat i) b = b
stays payload b = (choose b).1

abbrev pub turn_waits : ℕ → Turn → List Entry → List Entry
turn_waits q t b = stays t.use_is (joins q b t.admits)

-- A frame: its packets in slot order, what waits after it, and how many packets were dropped in it.
abbrev pub played : Setup → ℕ → List Turn → List Entry → List Bytes
played c number [] b = []
played c number (t ∷ ts) b =
    leaves c number t.use_is (joins c.backlog b t.admits) ∷ played c number ts (turn_waits c.backlog t b)

abbrev pub waiting : ℕ → List Turn → List Entry → List Entry
waiting q [] b = b
waiting q (t ∷ ts) b = waiting q ts (turn_waits q t b)

abbrev pub dropped : ℕ → List Turn → List Entry → ℕ
dropped q [] b = 0
dropped q (t ∷ ts) b = drops q b t.admits + dropped q ts (turn_waits q t b)

-- The doubt: how many packets might wait at most, whatever waited when following began.
-- Each admission raises it by one, never above q; a data slot lowers it by one unless it is 0.
abbrev pub lowered : Use → ℕ → ℕ
lowered (pat i) d = d
lowered payload d = d - 1

abbrev pub turn_doubt : ℕ → Turn → ℕ → ℕ
turn_doubt q t d = lowered t.use_is (min q (d + length t.admits))

abbrev pub doubt : ℕ → List Turn → ℕ → ℕ
doubt q [] d = d
doubt q (t ∷ ts) d = doubt q ts (turn_doubt q t d)

-- the doubt was 0 after some slot
abbrev pub reaches_zero : ℕ → List Turn → ℕ → Bool
reaches_zero q [] d = false
reaches_zero q (t ∷ ts) d = turn_doubt q t d == 0 || reaches_zero q ts (turn_doubt q t d)
