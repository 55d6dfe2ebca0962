use Rattle.std.proofs.Common.{◌-◌, ◌≡◌, ◌≤◌}
use Rattle.std.specs.Prelude.{IfSome}
use Rattle.wdt_link.specs.Traffic.{Tells}
use Rattle.wdt_lanes.specs.Performing.{PutsSome}
use Rattle.wdt_lanes.proofs.block.send_rest.Given as goal

abbrev pub invariant-loop-at : goal.invariant-loop-at
invariant-loop-at g l =
    (l.first ≤ l.at) × (l.at ≤ l.length)
    × Tells (PutsSome (l.at - l.first)) (g.L.Link.told l.initial.link) (g.L.Link.told l.link)
    × (g.L.Link.faults l.link ≡ g.L.Link.faults l.initial.link)
    × (g.L.Link.alarms l.link ≡ g.L.Link.alarms l.initial.link)
    × (g.L.Link.slips l.link ≡ g.L.Link.slips l.initial.link)
    × (g.L.Link.owing l.link ≡ g.L.Link.owing l.initial.link)
    × (g.L.Link.mark l.link ≡ g.L.Link.mark l.initial.link)
    × (g.S.Source.faults l.source ≡ g.S.Source.faults l.initial.source)
    × (g.S.Source.told l.source ≡ g.S.Source.told l.initial.source)
    × IfSome g.N.Run.told (λ run. g.S.Source.slips l.source ≡ g.S.Source.slips l.initial.source)

abbrev pub decreases-loop-at : goal.decreases-loop-at
decreases-loop-at g l = l.length - l.at
