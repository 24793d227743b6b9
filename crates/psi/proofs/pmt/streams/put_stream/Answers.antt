use Rattle.std.proofs.Common.{append_assoc, arith}
use Rattle.std.proofs.lemmas.List.{take_rest}
use Rattle.std.proofs.lemmas.Grind.{common_steps}
use Rattle.psi.specs.Places.{written}
use Rattle.psi.proofs.Entries.{with_pid_front}
use Rattle.psi.proofs.pmt.streams.put_stream.Goals as goal

pub returns-clause-written : goal.returns-clause-written
returns-clause-written c =
    let m = with_pid_front c.args.stream.now c.args.pid (omega (arith, c.requires.0)) in
    grind (arith, common_steps, take_rest c.args.stream.now 3, append_assoc (written c.args.place.now))
