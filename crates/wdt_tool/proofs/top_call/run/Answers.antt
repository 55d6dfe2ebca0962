use Rattle.std.proofs.Common.{sym, subst}
use Rattle.wdt_words.specs.declared.command.Command.{Command}
use Rattle.wdt_units.specs.Counts.{Stands}
use Rattle.wdt_tool.specs.Causes.{RefusesCommand}
use Rattle.wdt_tool.specs.Refusing.{Refuses}
use Rattle.wdt_tool.proofs.Refused.{log-refuses, plan-refuses}
use Rattle.wdt_tool.proofs.Untouched.{looked-untouched}
use Rattle.wdt_tool.proofs.top_call.run.Goals as goal

pub returns-in-Plan-clause-refuses : goal.returns-in-Plan-clause-refuses
returns-in-Plan-clause-refuses g c =
    let listing = g.S.Source.listing c.args.source.now in
    let told = (g.D.Depot.state c.args.depot.now).told in
    let before = g.S.Source.faults c.args.source.now in
    let after = g.S.Source.faults c.plan_command.new.source in
    let before2 = (g.D.Depot.state c.args.depot.now).faults in
    let after2 = (g.D.Depot.state c.plan_command.new.depot).faults in
    let result = c.plan_command.result in
    subst (λ (command : Command). Refuses command listing told (Stands before after) (Stands before2 after2) (RefusesCommand result)) (sym c.in-Plan.is)
    (plan-refuses c.in-Plan.block listing told before after before2 after2 result c.plan_command.ensures.plan c.plan_command.ensures.refused c.plan_command.ensures.cause c.plan_command.ensures.counts.rose c.plan_command.ensures.accepted)

pub returns-in-Log-clause-refuses : goal.returns-in-Log-clause-refuses
returns-in-Log-clause-refuses g c =
    let listing = g.S.Source.listing c.args.source.now in
    let told = (g.D.Depot.state c.args.depot.now).told in
    let before = g.S.Source.faults c.args.source.now in
    let before2 = (g.D.Depot.state c.args.depot.now).faults in
    let after2 = (g.D.Depot.state c.log_command.new.depot).faults in
    let result = c.log_command.result in
    subst (λ (command : Command). Refuses command listing told (Stands before before) (Stands before2 after2) (RefusesCommand result)) (sym c.in-Log.is)
    (log-refuses told before2 after2 result c.log_command.ensures.shown c.log_command.ensures.refused c.log_command.ensures.counts.rose)

pub returns-in-Plan-clause-untouched : goal.returns-in-Plan-clause-untouched
returns-in-Plan-clause-untouched g c =
    looked-untouched _ c.plan_command.result (g.D.Depot.state c.args.depot.now) (g.D.Depot.state c.plan_command.new.depot) c.plan_command.ensures.looks c.requires.spots c.plan_command.ensures.spots c.plan_command.ensures.counts c.plan_command.ensures.depot_slips

pub returns-in-Log-clause-untouched : goal.returns-in-Log-clause-untouched
returns-in-Log-clause-untouched g c =
    looked-untouched _ c.log_command.result (g.D.Depot.state c.args.depot.now) (g.D.Depot.state c.log_command.new.depot) c.log_command.ensures.looks c.requires.spots c.log_command.ensures.spots c.log_command.ensures.counts c.log_command.ensures.slips
