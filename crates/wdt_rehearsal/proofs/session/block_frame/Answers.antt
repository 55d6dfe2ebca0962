use Rattle.std.proofs.Common.{arith}
use Rattle.wdt_rehearsal.proofs.Fronts.{header-fits}
use Rattle.wdt_rehearsal.proofs.session.block_frame.Goals as goal

pub returns-clause-fits : goal.returns-clause-fits
returns-clause-fits c = header-fits (record { path = c.args.path; size = c.args.size; stamp = c.args.stamp }) c.args.offset c.args.count c.requires.lawful (omega arith) c.requires.end c.requires.some c.requires.most
