-- A checked configuration is one that the laws speak of.
use Rattle.config.specs.declared.table.Config.{Config}
use Rattle.config.specs.Setup.{setup}
use Rattle.rules.specs.State.{Checked}

pub checked : (config : Config) → Checked (setup config)
checked config = record { settings = config.in_range; parents = config.parents }
