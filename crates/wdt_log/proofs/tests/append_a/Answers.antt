use Rattle.wdt_log.proofs.Worked.{a_continues, a_left, a_small}
use Rattle.wdt_log.proofs.tests.append_a.Goals as goal

pub append-requires-clause-small : goal.append-requires-clause-small
append-requires-clause-small g c = a_small c.in_ok-path.path c.in_ok-path.ensures.value

pub append-requires-clause-continues : goal.append-requires-clause-continues
append-requires-clause-continues g c = a_continues c.in_ok-path.path c.args.log.now.meaning.files c.in_ok-path.ensures.value c.requires.files

pub returns-clause-files : goal.returns-clause-files
returns-clause-files g c = a_left c.append.result c.in_ok-path.path c.args.log.now.meaning.files c.append.new.self.meaning.files c.in_ok-path.ensures.value c.requires.files c.append.ensures.files
