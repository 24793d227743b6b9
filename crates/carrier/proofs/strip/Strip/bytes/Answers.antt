use Rattle.std.proofs.Common.{sym, ◌∙◌, lit<}
use Rattle.carrier.proofs.Cuts.{joined_cut}
use Rattle.carrier.proofs.Stored.{whole_written}
use Rattle.carrier.proofs.strip.Strip.bytes.Goals as goal

pub returns-clause-end_to_end : goal.returns-clause-end_to_end
returns-clause-end_to_end c =
    let s = c.args.self.now in
    c.written.ensures.value ∙ sym (joined_cut 188 (lit< tt) _ (whole_written 188 s.store s.whole))
