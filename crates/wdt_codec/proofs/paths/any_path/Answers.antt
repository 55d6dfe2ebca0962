use Rattle.std.proofs.Common.{arith}
use Rattle.wdt_codec.proofs.Field.{AreBytes-from_index}
use Rattle.wdt_codec.proofs.PathField.{path-read_lawful}
use Rattle.wdt_codec.proofs.paths.any_path.Goals as goal

pub returns-clause-lawful : goal.returns-clause-lawful
returns-clause-lawful c =
    rw c.split_at.ensures.front
    (path-read_lawful c.args.count c.args.bytes.now _ _ c.requires.some c.requires.most (AreBytes-from_index c.args.bytes.now (λ i. omega (arith, c.type_inv.bytes i))) c.in_ok-scan_path.ensures.reads)
