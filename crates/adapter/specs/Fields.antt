-- The parts of an adapter as one state of the rules.
use Rattle.std.specs.Prelude.{ℕ, List, Option}
use Rattle.config.specs.Setup.{Setup}
use Rattle.memory.specs.Memory.{lines_in, backlog_in}
use Rattle.memory.specs.declared.Memory.{Memory}
use Rattle.rules.specs.Entries.{Entry}
use Rattle.rules.specs.Log.{Log, Leads}
use Rattle.rules.specs.State.{State}
use Rattle.adapter.specs.Parents.{parents_by}
use Rattle.adapter.specs.Queue.{waiting_in}
use Rattle.adapter.specs.Steps.{step_of}
use Rattle.adapter.specs.declared.times.Times.{Times}
use Rattle.adapter.specs.declared.records.Records.{Records}
use Rattle.adapter.specs.declared.step.Step.{Step}

abbrev pub state_from : Memory Entry → List (Option Times) → Records → Step → State
state_from memory heard records step =
    record {
      parents = parents_by heard (lines_in memory);
      records = waiting_in records;
      last = records.last;
      backlog = backlog_in memory;
      step = step_of step;
    }

-- Some complete log leads to this state.
abbrev pub Reached : Setup → ℕ → State → Type 0
Reached c entries s = ∥ ((log : Log) × Leads c entries log s) ∥₁
