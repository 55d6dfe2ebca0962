use Rattle.std.proofs.Common.{◌≡◌, Some}
use Rattle.std.specs.Prelude.{IfSome}
use Rattle.wdt_units.specs.Counts.{along}
use Rattle.wdt_lanes.specs.Held.{IsHeld, RoseFor}
use Rattle.wdt_lanes.specs.Seats.{SamePass, SameSource}
use Rattle.wdt_lanes.proofs.lane.run_lane.Given as goal

abbrev pub invariant-loop : goal.invariant-loop
invariant-loop g l =
    (goal.iterator-loop g).can_next l.iterator' × (goal.iterator-loop g).is_finite l.iterator'
    × SamePass g.H.Hub.has g.H.Hub.lane l.hub l.initial.seat.pass l.seat.pass
    × SameSource g.S.Source.told g.S.Source.slips g.N.Run.told l.initial.seat.source l.seat.source
    × IsHeld g.C.Dial.mark g.C.Dial.out g.C.L.Link.mark l.seat.dialer l.link
    × (g.C.Dial.mark l.seat.dialer ≡ g.C.Dial.mark l.initial.seat.dialer)
    × RoseFor l.seat.lost (g.S.Source.faults l.initial.seat.source) (g.S.Source.faults l.seat.source)
    × RoseFor l.seat.cut (along g.C.Dial.faults g.C.L.Link.faults l.initial.seat.dialer l.initial.link) (along g.C.Dial.faults g.C.L.Link.faults l.seat.dialer l.link)
    × RoseFor l.seat.alarmed (along g.C.Dial.alarms g.C.L.Link.alarms l.initial.seat.dialer l.initial.link) (along g.C.Dial.alarms g.C.L.Link.alarms l.seat.dialer l.link)
    × IfSome g.N.Run.told (λ run. g.S.Source.told l.seat.source ≡ Some run.tree)
