use Rattle.std.proofs.Common.{◌≡◌, sym, ap, ◌∙◌, subst}
use Rattle.wdt_tool.specs.declared.status.Status.{Status}
use Rattle.wdt_tool.specs.declared.status.Status.TheVariants.{DiskFault, Refused, Usage}
use Rattle.wdt_sending.specs.Causes.{SenderRan}
use Rattle.wdt_sending.proofs.Puts.{ended_put, put_as, put_histories, put_links, put_sources}
use Rattle.wdt_sending.proofs.SentAlone.{histories_sent, links_sent, no_disk_sent, no_out_sent, no_usage_sent, refused_sent, sent_or, sources_sent}
use Rattle.wdt_sending.proofs.send_run.send_files.Goals as goal

pub put_report-requires : goal.put_report-requires
put_report-requires g c = λ is. no_out_sent c.send_all-sent.ensures.ended (sym c.sent_alone-carried.ensures.status ∙ is)

pub returns-clause-sources : goal.returns-clause-sources
returns-clause-sources g c =
    let left = c.send_all-sent.ensures in
    rw (c.put_report.ensures.sources, c.sent_alone-carried.ensures.sources)
    (put_sources c.put_report.result.status (g.O.Sink.faults c.args.out.now) (g.O.Sink.faults c.put_report.new.out) c.put_report.ensures.status
    (rw c.sent_alone-carried.ensures.status
    (sources_sent g.S.Source.told g.S.Source.faults g.S.Source.slips c.args.parts.sources.items c.send_all-sent.result.sources.items left.sources_back left.lost_by left.ended)))

pub returns-clause-diskless : goal.returns-clause-diskless
returns-clause-diskless g c =
    λ is. no_disk_sent c.send_all-sent.ensures.ended
    (sym c.sent_alone-carried.ensures.status ∙ put_as c.sent_alone-carried.result.status c.put_report.result.status (g.O.Sink.faults c.args.out.now) (g.O.Sink.faults c.put_report.new.out) DiskFault
    c.put_report.ensures.status is)

pub returns-clause-links : goal.returns-clause-links
returns-clause-links g c =
    let left = c.send_all-sent.ensures in
    rw (c.put_report.ensures.dialers, c.sent_alone-carried.ensures.dialers, c.put_report.ensures.acceptors, c.sent_alone-carried.ensures.acceptors)
    (put_links c.put_report.result.status (g.O.Sink.faults c.args.out.now) (g.O.Sink.faults c.put_report.new.out) c.put_report.ensures.status
    (rw c.sent_alone-carried.ensures.status
    (links_sent g.C.Dial.faults g.C.Dial.alarms g.A.Accept.faults g.A.Accept.alarms c.args.parts.dialers.items c.send_all-sent.result.dialers.items c.args.parts.acceptors.items left.cut_by left.alarmed_by
    left.ended)))

pub returns-clause-dialers : goal.returns-clause-dialers
returns-clause-dialers g c = rw (c.put_report.ensures.dialers, c.sent_alone-carried.ensures.dialers) c.send_all-sent.ensures.dialers_back

pub returns-clause-histories : goal.returns-clause-histories
returns-clause-histories g c =
    let left = c.send_all-sent.ensures in
    rw (c.put_report.ensures.sender, c.put_report.ensures.receiver, c.sent_alone-carried.ensures.sender)
    (put_histories c.put_report.result.status (g.O.Sink.faults c.args.out.now) (g.O.Sink.faults c.put_report.new.out) c.put_report.ensures.status
    (rw c.sent_alone-carried.ensures.status
    (histories_sent c.send_all-sent.result.history.items c.sent_alone-carried.result.receiver.items (λ s kind is. (c.answers_have_their_causes.ensures.peer s kind is).0)
    (λ s code is. (c.answers_have_their_causes.ensures.aborted s code is).0) left.legal c.sent_alone-carried.ensures.receiver left.ended)))

pub returns-clause-ended : goal.returns-clause-ended
returns-clause-ended g c =
    record {
      files = c.count-files.result;
      ended = rw (c.put_report.ensures.sender, c.sent_alone-carried.ensures.sender)
          (ended_put (λ (s : Status). SenderRan g.N.Run.told c.count-files.result c.send_all-sent.result.history.items s) c.sent_alone-carried.result.status c.put_report.result.status
          (g.O.Sink.faults c.args.out.now) (g.O.Sink.faults c.put_report.new.out) c.put_report.ensures.status
          (rw c.sent_alone-carried.ensures.status (sent_or c.count-files.result c.count-files.ensures.count c.send_all-sent.ensures.ended)));
      prints = c.put_report.ensures.prints;
    }

pub returns-clause-refused : goal.returns-clause-refused
returns-clause-refused g c =
    λ kind is. refused_sent c.args.sending.manifest c.args.sending.block c.send_all-sent.ensures.ended kind
    (sym c.sent_alone-carried.ensures.status ∙ put_as c.sent_alone-carried.result.status c.put_report.result.status (g.O.Sink.faults c.args.out.now) (g.O.Sink.faults c.put_report.new.out) (Refused kind)
    c.put_report.ensures.status is)

pub returns-clause-used : goal.returns-clause-used
returns-clause-used g c =
    λ is. no_usage_sent c.send_all-sent.ensures.ended
    (sym c.sent_alone-carried.ensures.status ∙ put_as c.sent_alone-carried.result.status c.put_report.result.status (g.O.Sink.faults c.args.out.now) (g.O.Sink.faults c.put_report.new.out) Usage
    c.put_report.ensures.status is)
