use Rattle.std.proofs.Common.{◌∙◌, Some, ap, sym}
use Rattle.wdt_units.specs.Have.{HaveFile}
use Rattle.wdt_log.proofs.Numbered.{at_numbered}
use Rattle.wdt_log.proofs.extending.copy_of.Goals as goal

pub returns-clause-have : goal.returns-clause-have
returns-clause-have c =
    (at_numbered c.args.number c.place_there-at.result c.args.files.now c.index-files-at.result c.place_there-at.ensures.at).0 ∙ ap (λ (h : HaveFile). Some h) (sym c.in_ok-have.ensures)
