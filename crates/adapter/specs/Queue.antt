-- The framing records that wait.
use Rattle.std.specs.Prelude.{List}
use Rattle.waiting.specs.Waiting.{waits}
use Rattle.rules.specs.Slots.{Frame}
use Rattle.adapter.specs.declared.records.Records.{Records}

-- the oldest first
unfoldable pub waiting_in : Records → List Frame
waiting_in r = waits r.line r.frames
