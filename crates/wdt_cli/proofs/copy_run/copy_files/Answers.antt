use Rattle.std.proofs.Common.{◌≡◌, inr, subst}
use Rattle.wdt_units.specs.Counts.{Rises}
use Rattle.wdt_tool.specs.Refusals.{IsLogCause}
use Rattle.wdt_tool.specs.declared.status.Status.{Status}
use Rattle.wdt_tool.specs.declared.status.Status.TheVariants.{Done, DiskFault, OutFault, Refused, Usage}
use Rattle.wdt_sending.specs.Causes.{BothEnded}
use Rattle.wdt_sending.proofs.ForCallers.{EndsFor, early_histories, ended_put, put_as, put_histories, put_links, put_sources}
use Rattle.wdt_cli.proofs.Depots.{depot_left}
use Rattle.wdt_cli.proofs.Early.{early_depot, unopened_for, unopened_keeps}
use Rattle.wdt_cli.proofs.Ends.{both_or, ends_of, not_out, not_usage}
use Rattle.wdt_cli.proofs.Left.{histories_left, links_left, sources_left}
use Rattle.wdt_cli.proofs.Puts.{put_depot}
use Rattle.wdt_cli.proofs.Refusals.{refused_left}
use Rattle.wdt_cli.proofs.copy_run.copy_files.Goals as goal

-- ---- both ends ran

pub put_report-requires : goal.put_report-requires
put_report-requires g c = let ran = c.in-Ok.ensures.ran in λ is. not_out (ends_of ran.sent ran.received ran.judged) is

pub returns-in-Ok-clause-sources : goal.returns-in-Ok-clause-sources
returns-in-Ok-clause-sources g c =
    let ran = c.in-Ok.ensures.ran in
    rw c.put_report.ensures.sources
    (put_sources c.put_report.result.status (g.O.Sink.faults c.args.out.now) (g.O.Sink.faults c.put_report.new.out) c.put_report.ensures.status
    (sources_left g.S.Source.told g.S.Source.faults g.S.Source.slips c.args.parts.sources.items c.in-Ok.carried.sources.items ran.sent.sources_back ran.sent.lost_by
    (ends_of ran.sent ran.received ran.judged)))

pub returns-in-Ok-clause-depot : goal.returns-in-Ok-clause-depot
returns-in-Ok-clause-depot g c =
    let ran = c.in-Ok.ensures.ran in
    rw c.put_report.ensures.depot
    (put_depot c.put_report.result.status (g.O.Sink.faults c.args.out.now) (g.O.Sink.faults c.put_report.new.out) c.put_report.ensures.status
    (depot_left g.D.Depot.state g.N.Run.told (g.D.Depot.state c.args.parts.depot) c.in-Ok.carried.depot c.a_finished_tree_has_arrived.ensures ran.received.ended
    (ends_of ran.sent ran.received ran.judged)))

pub returns-in-Ok-clause-links : goal.returns-in-Ok-clause-links
returns-in-Ok-clause-links g c =
    let ran = c.in-Ok.ensures.ran in
    rw (c.put_report.ensures.dialers, c.put_report.ensures.acceptors)
    (put_links c.put_report.result.status (g.O.Sink.faults c.args.out.now) (g.O.Sink.faults c.put_report.new.out) c.put_report.ensures.status
    (links_left g.C.Dial.faults g.C.Dial.alarms g.A.Accept.faults g.A.Accept.alarms c.args.parts.dialers.items c.in-Ok.carried.dialers.items c.args.parts.acceptors.items
    c.in-Ok.carried.acceptors.items
    ran.sent.cut_by ran.sent.alarmed_by ran.received.cut_by ran.received.alarmed_by (ends_of ran.sent ran.received ran.judged)))

pub returns-in-Ok-clause-dialers : goal.returns-in-Ok-clause-dialers
returns-in-Ok-clause-dialers g c = rw c.put_report.ensures.dialers c.in-Ok.ensures.ran.sent.dialers_back

pub returns-in-Ok-clause-acceptors : goal.returns-in-Ok-clause-acceptors
returns-in-Ok-clause-acceptors g c = rw c.put_report.ensures.acceptors c.in-Ok.ensures.ran.received.acceptors_back

pub returns-in-Ok-clause-histories : goal.returns-in-Ok-clause-histories
returns-in-Ok-clause-histories g c =
    let ran = c.in-Ok.ensures.ran in
    rw (c.put_report.ensures.sender, c.put_report.ensures.receiver)
    (put_histories c.put_report.result.status (g.O.Sink.faults c.args.out.now) (g.O.Sink.faults c.put_report.new.out) c.put_report.ensures.status
    (histories_left c.in-Ok.carried.sender.items c.in-Ok.carried.receiver.items (λ s kind is. (c.answers_have_their_causes.ensures.peer s kind is).0)
    (λ s code is. (c.answers_have_their_causes.ensures.aborted s code is).0)
    ran.sent.legal ran.received.legal (ends_of ran.sent ran.received ran.judged)))

pub returns-in-Ok-clause-ended : goal.returns-in-Ok-clause-ended
returns-in-Ok-clause-ended g c =
    let ran = c.in-Ok.ensures.ran in
    inr record {
      files = c.count-files.result;
      ended = rw (c.put_report.ensures.sender, c.put_report.ensures.receiver)
          (ended_put (λ (s : Status). BothEnded g.N.Run.told c.count-files.result c.in-Ok.carried.sender.items c.in-Ok.carried.receiver.items s) c.in-Ok.carried.status c.put_report.result.status
          (g.O.Sink.faults c.args.out.now) (g.O.Sink.faults c.put_report.new.out) c.put_report.ensures.status
          (both_or c.count-files.result c.count-files.ensures.count (ends_of ran.sent ran.received ran.judged)));
      prints = c.put_report.ensures.prints;
    }

pub returns-in-Ok-clause-refused : goal.returns-in-Ok-clause-refused
returns-in-Ok-clause-refused g c =
    let ran = c.in-Ok.ensures.ran in
    λ kind is. inr (refused_left c.args.opening.manifest c.args.opening.block (ends_of ran.sent ran.received ran.judged) kind
    (put_as c.in-Ok.carried.status c.put_report.result.status (g.O.Sink.faults c.args.out.now) (g.O.Sink.faults c.put_report.new.out) (Refused kind) c.put_report.ensures.status is))

pub returns-in-Ok-clause-used : goal.returns-in-Ok-clause-used
returns-in-Ok-clause-used g c =
    let ran = c.in-Ok.ensures.ran in
    λ is. not_usage (ends_of ran.sent ran.received ran.judged)
    (put_as c.in-Ok.carried.status c.put_report.result.status (g.O.Sink.faults c.args.out.now) (g.O.Sink.faults c.put_report.new.out) Usage c.put_report.ensures.status is)

-- ---- an end wasn't opened

pub returns-in-Err-clause-depot : goal.returns-in-Err-clause-depot
returns-in-Err-clause-depot g c =
    let before = g.D.Depot.state c.args.parts.depot in
    let after = g.D.Depot.state c.in-Err.parts.depot in
    let back = c.in-Err.ensures.unopened in
    let end : EndsFor ⊥ (Rises before.faults after.faults) (IsLogCause before.told) c.unrun.result.status = rw c.unrun.ensures.status
    (unopened_for c.in-Err.failure c.end_failed.result before after c.end_failed.ensures.end back.cause) in
    let known : (s : Status) → c.unrun.result.status ≡ s → EndsFor ⊥ (Rises before.faults after.faults) (IsLogCause before.told) s = λ s is. subst
    (EndsFor ⊥ (Rises before.faults after.faults) (IsLogCause before.told)) is end in
    early_depot g.D.Depot.state g.N.Run.told before c.in-Err.parts.depot c.unrun.result.status c.unrun.result.depot c.unrun.ensures.depot
    (unopened_keeps g.D.Depot.state g.N.Run.told before c.in-Err.parts.depot c.in-Err.failure c.requires.opening.given back) (known Done) (known OutFault) (known DiskFault)

pub returns-in-Err-clause-histories : goal.returns-in-Err-clause-histories
returns-in-Err-clause-histories g c =
    let before = g.D.Depot.state c.args.parts.depot in
    let after = g.D.Depot.state c.in-Err.parts.depot in
    early_histories ⊥ (Rises before.faults after.faults) (IsLogCause before.told) c.unrun.result.status c.unrun.result.sender.items c.unrun.result.receiver.items
    (rw c.unrun.ensures.status (unopened_for c.in-Err.failure c.end_failed.result before after c.end_failed.ensures.end c.in-Err.ensures.unopened.cause)) c.unrun.ensures.sender
    c.unrun.ensures.receiver
