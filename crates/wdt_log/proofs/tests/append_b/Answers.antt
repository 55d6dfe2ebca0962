use Rattle.wdt_log.proofs.Worked.{b_continues, b_small}
use Rattle.wdt_log.proofs.tests.append_b.Goals as goal

pub append-requires-clause-small : goal.append-requires-clause-small
append-requires-clause-small g c = b_small c.in_ok-path.path c.in_ok-path.ensures.value

pub append-requires-clause-continues : goal.append-requires-clause-continues
append-requires-clause-continues g c = b_continues c.in_ok-path.path c.args.log.now.meaning.files c.in_ok-path.ensures.value c.requires.files
