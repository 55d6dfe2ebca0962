use Rattle.std.proofs.Common.{◌≡◌, ◌+◌, ◌≤◌, ◌++◌, map, reverse, vec_len}
use Rattle.std.specs.Prelude.{vec_capacity}
use Rattle.wdt_recv_lanes.proofs.seats.seat_all.Given as goal

abbrev pub invariant-loop-lane : goal.invariant-loop-lane
invariant-loop-lane g l =
    (vec_len l.passes + l.lane ≡ l.count) × (vec_len l.acceptors + l.lane ≡ l.count) × (vec_len l.seats ≡ l.lane) × (l.count ≤ vec_capacity l.seats)
    × (vec_capacity l.passes ≡ vec_capacity l.initial.passes) × (vec_capacity l.acceptors ≡ vec_capacity l.initial.acceptors)
    × (l.passes.items ++ map (λ s. s.pass) (reverse l.seats.items) ≡ l.initial.passes.items)
    × (l.acceptors.items ++ map (λ s. s.acceptor) (reverse l.seats.items) ≡ l.initial.acceptors.items)
