use Rattle.std.proofs.Common.{inr, [], refl, sym, subst}
use Rattle.wdt_receiver_fsm.specs.Legal.{IsLegal-none, Terms}
use Rattle.wdt_recv_lanes.specs.Kept.{IsKept}
use Rattle.wdt_sending.specs.Judging.{has_some}
use Rattle.wdt_sending.specs.Leaves.{IsLegalBySome}
use Rattle.wdt_sending.proofs.ForCallers.{judged_unlost}
use Rattle.wdt_cli.proofs.receiver_side.take.Goals as goal

pub returns-in-Ok-clause-ends : goal.returns-in-Ok-clause-ends
returns-in-Ok-clause-ends g c =
    let r = c.into_dock.result.plain in let e = c.close-depot.ensures in
    inr record {
      received = r;
      is_receiver = e.receiver;
      batched = e.batched;
      done = e.done;
      heard = e.heard;
      over = c.close-depot.result.0;
      back = refl;
      kept = subst (λ depot. IsKept g.N.Run.told g.J.Start.started r (g.D.Depot.state depot)) (sym e.depot) c.into_dock.ensures.kept;
      rests = e.rests;
      spots = e.spots;
      noted = e.history;
      judged = judged_unlost (has_some c.args.cut) (has_some c.args.alarmed) c.empty.result c.close-depot.result.2 r.answer c.status_of.result c.status_of.ensures c.empty.ensures e.answer;
    }

pub returns-clause-legal : goal.returns-clause-legal
returns-clause-legal g c =
    let terms : Terms = record { lanes = 0; opening = []; known = []; conns = [] } in
    let none : IsLegalBySome [] = (terms, IsLegal-none terms) in
    subst IsLegalBySome (sym c.new.ensures.items) none
