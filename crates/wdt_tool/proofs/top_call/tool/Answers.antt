use Rattle.std.proofs.Common.{Vec, ℕ, Global, sym, ◌∙◌}
use Rattle.wdt_units.specs.Counts.{Stands}
use Rattle.wdt_tool.proofs.Refused.{command-refuses}
use Rattle.wdt_tool.proofs.top_call.tool.Goals as goal

pub returns-in-Err-clause-refuses : goal.returns-in-Err-clause-refuses
returns-in-Err-clause-refuses g c =
    let source = Stands (g.S.Source.faults c.args.source.now) (g.S.Source.faults c.run.new.source) in
    let depot = Stands (g.D.Depot.state c.args.depot).faults (g.D.Depot.state c.run.new.depot).faults in
    command-refuses (Vec ℕ Global) _ c.in-Some.command (g.S.Source.listing c.args.source.now) (g.D.Depot.state c.args.depot).told source depot c.run.result c.in-Err.failure c.end_failed-status.result
    (sym c.command_of.ensures.value ∙ c.in-Some.is) c.in-Err.is c.end_failed-status.ensures.end c.run.ensures.refuses
