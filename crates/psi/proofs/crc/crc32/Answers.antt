use Rattle.std.proofs.Common.{◌≡◌, ◌++◌, ap, ◌∙◌, rules}
use Rattle.psi.specs.Crc.{crc_of, four_bytes, sealed}
use Rattle.psi.proofs.Crcs.{crc_sealed}
use Rattle.psi.proofs.crc.crc32.Goals as goal

pub returns-clause-own : goal.returns-clause-own
unfolding crc_of sealed
returns-clause-own c =
    let value : c.fold.result ≡ crc_of c.args.bytes.now = search rules in
    ap (λ r. crc_of (c.args.bytes.now ++ four_bytes r)) value ∙ crc_sealed c.args.bytes.now
