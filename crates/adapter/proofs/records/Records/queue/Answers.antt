use Rattle.std.proofs.Common.{◌≡◌, length, arith}
use Rattle.adapter.specs.Queue.{waiting_in}
use Rattle.adapter.proofs.records.Records.queue.Goals as goal

pub returns-then-is_ok-clause-test : goal.returns-then-is_ok-clause-test
unfolding waiting_in
returns-then-is_ok-clause-test c = let places : length c.args.self.now.frames ≡ 8 = omega arith in cc

pub returns-then-is_ok-clause-waits : goal.returns-then-is_ok-clause-waits
unfolding waiting_in
returns-then-is_ok-clause-waits c = c.join-joined.ensures.after

pub returns-else-is_ok-clause-test : goal.returns-else-is_ok-clause-test
unfolding waiting_in
returns-else-is_ok-clause-test c = let places : length c.args.self.now.frames ≡ 8 = omega arith in cc
