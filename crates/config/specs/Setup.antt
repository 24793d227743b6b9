-- A checked configuration as plain lists and numbers.
use Rattle.std.specs.Prelude.{ℕ, List, vec_items}
use Rattle.config.specs.declared.row.Row.{Row}
use Rattle.config.specs.declared.row.Settings.{Settings}
use Rattle.config.specs.declared.table.Config.{Config}

pub record Setup : Type 0 where
  -- frame length in 27 MHz ticks
  pub ticks : ℕ
  -- how many packets the backlog holds
  pub backlog : ℕ
  -- PAT copies in a frame
  pub copies : ℕ
  -- transport_stream_id of the multiplex
  pub tsid : ℕ
  -- bits per second of each parent
  pub rates : List ℕ
  -- the map
  pub rows : List Row

abbrev pub setup_from : Settings → List ℕ → List Row → Setup
setup_from s rates rows = record { ticks = s.ticks; backlog = s.backlog; copies = s.copies; tsid = s.tsid; rates = rates; rows = rows }

abbrev pub setup : Config → Setup
setup c = setup_from c.settings (vec_items c.rates) (vec_items c.rows)
