use Rattle.std.proofs.Common.{◌≡◌, ℕ, ◌<◌, ◌≤◌, get_or}
use Rattle.wdt_lanes.specs.Seats.{IsBack}
use Rattle.wdt_recv_lanes.proofs.all_lanes.retire_all.Given as goal

abbrev pub invariant-loop-acceptor : goal.invariant-loop-acceptor
invariant-loop-acceptor g l =
    ((k : ℕ) (d : g.row.A.Denot) → k < l.acceptor-index
    → IsBack g.A.Accept.out g.A.Accept.mark (get_or l.initial.acceptors k d) (get_or l.acceptors k d)
    × (g.A.Accept.faults (get_or l.acceptors k d) ≡ g.A.Accept.faults (get_or l.initial.acceptors k d))
    × (g.A.Accept.alarms (get_or l.acceptors k d) ≡ g.A.Accept.alarms (get_or l.initial.acceptors k d)))
    × ((k : ℕ) (d : g.row.A.Denot) → l.acceptor-index ≤ k → get_or l.acceptors k d ≡ get_or l.initial.acceptors k d)
