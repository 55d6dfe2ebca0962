use Rattle.wdt_units.specs.Counts.{capped}
use Rattle.wdt_sending.proofs.Meeting.{met_by}
use Rattle.wdt_sending.proofs.sender_side.run_sender.Goals as goal

pub returns : goal.returns
returns g c =
    record {
      sources_back = c.send_end-hub.ensures.sources;
      dialers_back = c.send_end-hub.ensures.dialers;
      legal = c.take-history.ensures.legal;
      lost = c.send_end-hub.result.lost;
      cut = c.send_end-hub.result.cut;
      alarmed = c.send_end-hub.result.alarmed;
      ended = c.take-history.ensures.ends;
      lost_by = met_by g.S.Source.faults _ c.send_end-hub.result.lost c.args.side.sources.items c.send_end-hub.result.sources.items c.requires.as_many c.send_end-hub.ensures.lost_among c.send_end-hub.ensures.lost;
      cut_by = met_by (λ dialer. capped (g.C.Dial.faults dialer)) _ c.send_end-hub.result.cut c.args.side.dialers.items c.send_end-hub.result.dialers.items c.requires.as_many_too c.send_end-hub.ensures.cut_among c.send_end-hub.ensures.cut;
      alarmed_by = met_by (λ dialer. capped (g.C.Dial.alarms dialer)) _ c.send_end-hub.result.alarmed c.args.side.dialers.items c.send_end-hub.result.dialers.items c.requires.as_many_too c.send_end-hub.ensures.alarmed_among c.send_end-hub.ensures.alarmed;
    }
