use Rattle.wdt_units.specs.Counts.{capped}
use Rattle.wdt_sending.proofs.ForCallers.{met_by}
use Rattle.wdt_cli.proofs.receiver_side.run_receiver.Goals as goal

pub returns : goal.returns
returns g c =
    record {
      acceptors_back = c.recv_end-hub.ensures.acceptors;
      legal = c.take-depot.ensures.legal;
      cut = c.recv_end-hub.result.cut;
      alarmed = c.recv_end-hub.result.alarmed;
      ended = c.take-depot.ensures.ends;
      cut_by = met_by (λ acceptor. capped (g.A.Accept.faults acceptor)) _ c.recv_end-hub.result.cut c.args.side.acceptors.items c.recv_end-hub.result.acceptors.items
          c.requires.as_many c.recv_end-hub.ensures.cut_among c.recv_end-hub.ensures.cut;
      alarmed_by = met_by (λ acceptor. capped (g.A.Accept.alarms acceptor)) _ c.recv_end-hub.result.alarmed c.args.side.acceptors.items c.recv_end-hub.result.acceptors.items
          c.requires.as_many c.recv_end-hub.ensures.alarmed_among c.recv_end-hub.ensures.alarmed;
    }
