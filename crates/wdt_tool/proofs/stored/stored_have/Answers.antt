use Rattle.std.proofs.Common.{Option, subst}
use Rattle.std.specs.Prelude.{option_map}
use Rattle.wdt_depot.specs.Disk.{seen_of}
use Rattle.wdt_depot.specs.Moments.{IfTold}
use Rattle.wdt_logfmt.specs.View.{meaning_of}
use Rattle.wdt_logfmt.specs.declared.view.LogView.{LogView}
use Rattle.wdt_good.specs.Good.{log_path}
use Rattle.wdt_tool.specs.Stored.{IsFound}
use Rattle.wdt_tool.proofs.Found.{held-none, held-some}
use Rattle.wdt_tool.proofs.stored.stored_have.Goals as goal

pub returns-in-Ok-have-clause-held : goal.returns-in-Ok-have-clause-held
returns-in-Ok-have-clause-held g c =
    let told = (g.D.Depot.state c.args.depot.now).told in
    let found = subst (λ (o : Option LogView). IfTold (λ t. IsFound (seen_of t.now log_path) (option_map meaning_of o)) told) c.in-Some.is c.in-Ok.ensures.found in
    held-some told (meaning_of c.in-Some.view) c.in-Ok-have.have found c.in-Ok-have.ensures.have

pub returns-in-Ok-clause-held : goal.returns-in-Ok-clause-held
returns-in-Ok-clause-held g c =
    let told = (g.D.Depot.state c.args.depot.now).told in
    let found = subst (λ (o : Option LogView). IfTold (λ t. IsFound (seen_of t.now log_path) (option_map meaning_of o)) told) c.in-None.is c.in-Ok.ensures.found in
    held-none told c.none.result found c.none.ensures
