use Rattle.adapter.proofs.Letting.{Restarted-below}
use Rattle.adapter.proofs.state.lines.restart.Given as goal

abbrev pub invariant-loop-known : goal.invariant-loop-known
invariant-loop-known l = Restarted-below l.since l.known-index l.initial.heard l.heard
