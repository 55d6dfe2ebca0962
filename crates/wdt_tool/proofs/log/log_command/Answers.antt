use Rattle.std.proofs.Common.{Option, Some, subst}
use Rattle.std.specs.Prelude.{option_map}
use Rattle.wdt_depot.specs.Disk.{seen_of}
use Rattle.wdt_depot.specs.Moments.{IfTold}
use Rattle.wdt_logfmt.specs.View.{meaning_of}
use Rattle.wdt_logfmt.specs.declared.view.LogView.{LogView}
use Rattle.wdt_good.specs.Good.{log_path}
use Rattle.wdt_tool.specs.Stored.{IsFound}
use Rattle.wdt_tool.proofs.log.log_command.Goals as goal

pub returns-in-Ok-log_text-clause-shown : goal.returns-in-Ok-log_text-clause-shown
returns-in-Ok-log_text-clause-shown g c = record {
  found = Some (meaning_of c.in-Some.view);
  there = subst (λ (o : Option LogView). IfTold (λ t. IsFound (seen_of t.now log_path) (option_map meaning_of o)) (g.D.Depot.state c.args.depot.now).told) c.in-Some.is c.in-Ok.ensures.found;
  is = c.in-Ok-log_text.ensures;
}
