use Rattle.wdt_ranges.specs.Spans.{plain_span}
use Rattle.wdt_logfmt.proofs.ForCallers.{with_span-is}
use Rattle.wdt_log.proofs.Adding.{have_is}
use Rattle.wdt_log.proofs.extending.cover_file.Goals as goal

pub returns-in-Ok-clause-have : goal.returns-in-Ok-clause-have
returns-in-Ok-clause-have c =
    have_is c.args.file.now.have.path c.args.file.now.have.size c.args.file.now.have.stamp _ _ (plain_span c.args.span)
    (with_span-is c.args.file.now.have.spans _ (plain_span c.args.span) c.requires.apart c.know_apart.ensures c.requires.span c.in-Ok.ensures.none_shared c.in-Ok.ensures.positions)
