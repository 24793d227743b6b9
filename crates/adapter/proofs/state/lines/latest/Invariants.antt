use Rattle.adapter.proofs.Letting.{Latest-below}
use Rattle.adapter.proofs.state.lines.latest.Given as goal

abbrev pub invariant-loop-known : goal.invariant-loop-known
invariant-loop-known l = Latest-below l.heard l.known-index l.latest
