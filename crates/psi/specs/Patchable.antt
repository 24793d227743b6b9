-- Which packets are patchable, said by how a PMT is written, and that a patched packet is patchable again.
use Rattle.std.specs.Prelude.{◌≡◌, ℕ, ◌+◌, ◌<◌, ◌≤◌, List, [], ◌∷◌, ◌++◌, length, Some, None, Option, MatchOption}
use Rattle.config.specs.declared.row.Row.{Row}
use Rattle.config.specs.Rows.{RowInRange, RowsInRange}
use Rattle.psi.specs.Lookup.{out_of}
use Rattle.psi.specs.Packet.{Bytes, filled}
use Rattle.psi.specs.Pmt.{Stream, Section, Pmt, section_body, pmt_bytes, patch_pmt, patched, no_pcr}

-- each field of a stream fits its bits
pub record SoundStream (e : Stream) : Type 0 where
  pub type : e.type < 0x100
  pub pid_flags : e.pid_flags < 0x08
  pub pid : e.pid < 0x2000
  pub info_flags : e.info_flags < 0x10
  pub info : length e.info < 0x1000

abbrev pub SoundStreams : List Stream → Type 0
SoundStreams [] = Unit {0}
SoundStreams (e ∷ es) = SoundStream e × SoundStreams es

-- each field of a section fits its bits, section_syntax_indicator is 1, and section_length is at most 180
pub record SoundSection (s : Section) : Type 0 where
  pub flags : s.flags < 0x10
  pub syntax : 0x08 ≤ s.flags
  pub program : s.program < 0x10000
  pub version : s.version < 0x100
  pub pcr_flags : s.pcr_flags < 0x08
  pub pcr : s.pcr < 0x2000
  pub info_flags : s.info_flags < 0x10
  pub fits : length (section_body s) + 4 ≤ 180
  pub streams : SoundStreams s.streams

pub record Sound (p : Pmt) : Type 0 where
  pub priority : p.priority < 2
  pub pid : p.pid < 0x2000
  pub counter : p.counter < 0x10
  pub section : SoundSection p.section

-- A patchable packet: it has 188 bytes, and they are those of a sound PMT with some others behind its section.
pub record Holds (x : Bytes) (p : Pmt) : Type 0 where
  pub long : length x ≡ 188
  pub sound : Sound p
  pub behind : Bytes
  pub is : x ≡ pmt_bytes p ++ behind

-- Nothing is answered exactly for a packet that is not patchable; for any other the packet of the patched shape.
abbrev pub Patches : List Row → Row → Bytes → Option Bytes → Type 0
Patches rows row x answer =
    MatchOption answer ((p : Pmt) → Holds x p → ⊥) (λ y. (p : Pmt) × Holds x p × (y ≡ filled (pmt_bytes (patch_pmt rows row p))))

-- A row table keeps the PIDs that another lets out: a packet that comes with one leaves with it. It has no row for 8,191.
abbrev pub Keeps : List Row → ℕ → List Row → ℕ → Type 0
Keeps rows parent rows' parent' =
    ((pid out : ℕ) → out_of rows parent pid ≡ Some out → out_of rows' parent' out ≡ Some out) × (out_of rows' parent' no_pcr ≡ None)

-- A packet that was patched under a row is patchable again, and stays as it is, under a row of the same service and out in a table that keeps its PIDs.
abbrev pub PatchedAgain : List Row → Row → Bytes → Type 0
PatchedAgain rows row y =
    RowsInRange rows → RowInRange row → (rows' : List Row) (row' : Row)
    → Keeps rows row.parent rows' row'.parent → row'.out ≡ row.out → row'.service ≡ row.service → patched rows' row' y ≡ Some y
