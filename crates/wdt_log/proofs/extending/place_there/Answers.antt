use Rattle.wdt_log.proofs.Numbered.{at_within, there_at}
use Rattle.wdt_log.proofs.extending.place_there.Goals as goal

pub returns-clause-at : goal.returns-clause-at
returns-clause-at c = there_at c.args.number c.place.result c.args.files.now c.place.ensures.place c.requires.rising c.requires.there

pub returns-clause-within : goal.returns-clause-within
returns-clause-within c = at_within c.args.number c.place.result c.args.files.now (there_at c.args.number c.place.result c.args.files.now c.place.ensures.place c.requires.rising c.requires.there)
