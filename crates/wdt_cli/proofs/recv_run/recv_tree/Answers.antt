use Rattle.std.proofs.Common.{◌≡◌, inr, sym, ap, ◌∙◌, subst}
use Rattle.wdt_units.specs.Counts.{Rises}
use Rattle.wdt_tool.specs.Refusals.{IsLogCause}
use Rattle.wdt_tool.specs.declared.status.Status.{Status}
use Rattle.wdt_tool.specs.declared.status.Status.TheVariants.{Done, DiskFault, OutFault, Refused, SourceFault, Usage}
use Rattle.wdt_sending.specs.Causes.{ReceiverRan}
use Rattle.wdt_sending.proofs.ForCallers.{EndsFor, early_histories, ended_put, put_as, put_histories, put_links}
use Rattle.wdt_cli.proofs.Early.{early_depot, unopened_for, unopened_keeps}
use Rattle.wdt_cli.proofs.Puts.{put_depot}
use Rattle.wdt_cli.proofs.ReceivedAlone.{depot_received, histories_received, links_received, no_out_received, no_refusal_received, no_source_received, no_usage_received, received_or}
use Rattle.wdt_cli.proofs.recv_run.recv_tree.Goals as goal

-- ---- the end ran

pub put_report-requires : goal.put_report-requires
put_report-requires g c = λ is. no_out_received c.in-Ok.ensures.ran.ended (sym c.received_alone-carried.ensures.status ∙ is)

pub returns-in-Ok-clause-sourceless : goal.returns-in-Ok-clause-sourceless
returns-in-Ok-clause-sourceless g c =
    λ is. no_source_received c.in-Ok.ensures.ran.ended
    (sym c.received_alone-carried.ensures.status ∙ put_as c.received_alone-carried.result.status c.put_report.result.status (g.O.Sink.faults c.args.out.now) (g.O.Sink.faults c.put_report.new.out) SourceFault
    c.put_report.ensures.status is)

pub returns-in-Ok-clause-depot : goal.returns-in-Ok-clause-depot
returns-in-Ok-clause-depot g c =
    rw (c.put_report.ensures.depot, c.received_alone-carried.ensures.depot)
    (put_depot c.put_report.result.status (g.O.Sink.faults c.args.out.now) (g.O.Sink.faults c.put_report.new.out) c.put_report.ensures.status
    (rw c.received_alone-carried.ensures.status
    (depot_received g.D.Depot.state g.N.Run.told (g.D.Depot.state c.args.parts.depot) c.in-Ok.received.depot c.a_finished_tree_has_arrived.ensures c.in-Ok.ensures.ran.ended)))

pub returns-in-Ok-clause-links : goal.returns-in-Ok-clause-links
returns-in-Ok-clause-links g c =
    let ran = c.in-Ok.ensures.ran in
    rw (c.put_report.ensures.dialers, c.received_alone-carried.ensures.dialers, c.put_report.ensures.acceptors, c.received_alone-carried.ensures.acceptors)
    (put_links c.put_report.result.status (g.O.Sink.faults c.args.out.now) (g.O.Sink.faults c.put_report.new.out) c.put_report.ensures.status
    (rw c.received_alone-carried.ensures.status
    (links_received g.C.Dial.faults g.C.Dial.alarms g.A.Accept.faults g.A.Accept.alarms c.args.parts.dialers.items c.args.parts.acceptors.items c.in-Ok.received.acceptors.items ran.cut_by ran.alarmed_by
    ran.ended)))

pub returns-in-Ok-clause-acceptors : goal.returns-in-Ok-clause-acceptors
returns-in-Ok-clause-acceptors g c = rw (c.put_report.ensures.acceptors, c.received_alone-carried.ensures.acceptors) c.in-Ok.ensures.ran.acceptors_back

pub returns-in-Ok-clause-histories : goal.returns-in-Ok-clause-histories
returns-in-Ok-clause-histories g c =
    let ran = c.in-Ok.ensures.ran in
    rw (c.put_report.ensures.sender, c.put_report.ensures.receiver, c.received_alone-carried.ensures.receiver)
    (put_histories c.put_report.result.status (g.O.Sink.faults c.args.out.now) (g.O.Sink.faults c.put_report.new.out) c.put_report.ensures.status
    (rw c.received_alone-carried.ensures.status (histories_received c.received_alone-carried.result.sender.items c.in-Ok.received.history.items c.received_alone-carried.ensures.sender ran.legal ran.ended)))

pub returns-in-Ok-clause-ended : goal.returns-in-Ok-clause-ended
returns-in-Ok-clause-ended g c =
    inr record {
      files = 0;
      ended = rw (c.put_report.ensures.receiver, c.received_alone-carried.ensures.receiver)
          (ended_put (λ (s : Status). ReceiverRan c.in-Ok.received.history.items s) c.received_alone-carried.result.status c.put_report.result.status
          (g.O.Sink.faults c.args.out.now) (g.O.Sink.faults c.put_report.new.out) c.put_report.ensures.status
          (rw c.received_alone-carried.ensures.status (received_or c.in-Ok.ensures.ran.ended)));
      prints = c.put_report.ensures.prints;
    }

pub returns-in-Ok-clause-refused : goal.returns-in-Ok-clause-refused
returns-in-Ok-clause-refused g c =
    λ kind is. absurd
    (no_refusal_received c.in-Ok.ensures.ran.ended kind
    (sym c.received_alone-carried.ensures.status ∙ put_as c.received_alone-carried.result.status c.put_report.result.status (g.O.Sink.faults c.args.out.now) (g.O.Sink.faults c.put_report.new.out) (Refused kind)
    c.put_report.ensures.status is))

pub returns-in-Ok-clause-used : goal.returns-in-Ok-clause-used
returns-in-Ok-clause-used g c =
    λ is. no_usage_received c.in-Ok.ensures.ran.ended
    (sym c.received_alone-carried.ensures.status ∙ put_as c.received_alone-carried.result.status c.put_report.result.status (g.O.Sink.faults c.args.out.now) (g.O.Sink.faults c.put_report.new.out) Usage
    c.put_report.ensures.status is)

-- ---- it wasn't opened

pub returns-in-Err-clause-depot : goal.returns-in-Err-clause-depot
returns-in-Err-clause-depot g c =
    let before = g.D.Depot.state c.args.parts.depot in
    let after = g.D.Depot.state c.in-Err.depot in
    let back = c.in-Err.ensures.unopened in
    let end : EndsFor ⊥ (Rises before.faults after.faults) (IsLogCause before.told) c.unrun.result.status = rw c.unrun.ensures.status
    (unopened_for c.in-Err.failure c.end_failed.result before after c.end_failed.ensures.end back.cause) in
    let known : (s : Status) → c.unrun.result.status ≡ s → EndsFor ⊥ (Rises before.faults after.faults) (IsLogCause before.told) s = λ s is. subst
    (EndsFor ⊥ (Rises before.faults after.faults) (IsLogCause before.told)) is end in
    early_depot g.D.Depot.state g.N.Run.told before c.in-Err.depot c.unrun.result.status c.unrun.result.depot c.unrun.ensures.depot
    (unopened_keeps g.D.Depot.state g.N.Run.told before c.in-Err.depot c.in-Err.failure c.requires.disk back) (known Done) (known OutFault) (known DiskFault)

pub returns-in-Err-clause-histories : goal.returns-in-Err-clause-histories
returns-in-Err-clause-histories g c =
    let before = g.D.Depot.state c.args.parts.depot in
    let after = g.D.Depot.state c.in-Err.depot in
    early_histories ⊥ (Rises before.faults after.faults) (IsLogCause before.told) c.unrun.result.status c.unrun.result.sender.items c.unrun.result.receiver.items
    (rw c.unrun.ensures.status (unopened_for c.in-Err.failure c.end_failed.result before after c.end_failed.ensures.end c.in-Err.ensures.unopened.cause)) c.unrun.ensures.sender
    c.unrun.ensures.receiver
