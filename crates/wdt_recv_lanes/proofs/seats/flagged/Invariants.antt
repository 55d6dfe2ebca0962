use Rattle.std.proofs.Common.{map, take}
use Rattle.wdt_lanes.specs.LaneLists.{HasFlags}
use Rattle.wdt_recv_lanes.proofs.seats.flagged.Given as goal

abbrev pub invariant-loop-number : goal.invariant-loop-number
invariant-loop-number g l = HasFlags l.cut (map (λ s. s.cut) (take l.number l.seats)) × HasFlags l.alarmed (map (λ s. s.alarmed) (take l.number l.seats))
