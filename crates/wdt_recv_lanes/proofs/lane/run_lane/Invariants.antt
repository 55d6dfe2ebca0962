use Rattle.std.proofs.Common.{◌≡◌}
use Rattle.wdt_units.specs.Counts.{along}
use Rattle.wdt_lanes.specs.Held.{IsHeld, RoseFor}
use Rattle.wdt_lanes.specs.Seats.{SamePass}
use Rattle.wdt_recv_lanes.proofs.lane.run_lane.Given as goal

abbrev pub invariant-loop : goal.invariant-loop
invariant-loop g l =
    (goal.iterator-loop g).can_next l.iterator' × (goal.iterator-loop g).is_finite l.iterator'
    × SamePass g.H.Hub.has g.H.Hub.lane l.hub l.initial.seat.pass l.seat.pass
    × IsHeld g.A.Accept.mark g.A.Accept.out g.A.L.Link.mark l.seat.acceptor l.link
    × (g.A.Accept.mark l.seat.acceptor ≡ g.A.Accept.mark l.initial.seat.acceptor)
    × RoseFor l.seat.cut (along g.A.Accept.faults g.A.L.Link.faults l.initial.seat.acceptor l.initial.link) (along g.A.Accept.faults g.A.L.Link.faults l.seat.acceptor l.link)
    × RoseFor l.seat.alarmed (along g.A.Accept.alarms g.A.L.Link.alarms l.initial.seat.acceptor l.initial.link) (along g.A.Accept.alarms g.A.L.Link.alarms l.seat.acceptor l.link)
