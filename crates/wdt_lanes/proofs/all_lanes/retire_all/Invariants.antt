use Rattle.std.proofs.Common.{◌≡◌, ℕ, ◌<◌, ◌≤◌, get_or}
use Rattle.wdt_lanes.specs.Seats.{IsBack}
use Rattle.wdt_lanes.proofs.all_lanes.retire_all.Given as goal

abbrev pub invariant-loop-dialer : goal.invariant-loop-dialer
invariant-loop-dialer g l =
    ((k : ℕ) (d : g.row.C.Denot) → k < l.dialer-index
    → IsBack g.C.Dial.out g.C.Dial.mark (get_or l.initial.dialers k d) (get_or l.dialers k d)
    × (g.C.Dial.faults (get_or l.dialers k d) ≡ g.C.Dial.faults (get_or l.initial.dialers k d))
    × (g.C.Dial.alarms (get_or l.dialers k d) ≡ g.C.Dial.alarms (get_or l.initial.dialers k d)))
    × ((k : ℕ) (d : g.row.C.Denot) → l.dialer-index ≤ k → get_or l.dialers k d ≡ get_or l.initial.dialers k d)
