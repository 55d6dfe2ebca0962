use Rattle.std.proofs.Common.{rules}
use Rattle.wdt_log.proofs.Numbered.{end_none, found_at, other_none}
use Rattle.wdt_log.proofs.extending.find.Goals as goal

pub returns-then-at-files-clause-none : goal.returns-then-at-files-clause-none
returns-then-at-files-clause-none c = end_none c.args.number c.place-at.result c.args.files.now c.place-at.ensures.place c.if-at-files.true

pub returns-then-files-at-clause-none : goal.returns-then-files-at-clause-none
returns-then-files-at-clause-none c =
    other_none c.args.number c.place-at.result c.args.files.now c.index-files-at.result c.place-at.ensures.place c.requires (search rules) c.if-files-at.true

pub returns-clause-found : goal.returns-clause-found
returns-clause-found c =
    found_at c.args.number c.place-at.result c.args.files.now c.index-files-at.result c.place-at.ensures.place (search rules) c.if-files-at.false
