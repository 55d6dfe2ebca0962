use Rattle.std.proofs.Common.{◌≡◌, ◌+◌, ◌≤◌, ◌++◌, map, reverse, vec_len}
use Rattle.std.specs.Prelude.{vec_capacity}
use Rattle.wdt_recv_lanes.proofs.seats.unseat_all.Given as goal

abbrev pub invariant-loop-lane : goal.invariant-loop-lane
invariant-loop-lane g l =
    (vec_len l.seats + l.lane ≡ l.count) × (vec_len l.passes ≡ l.lane) × (vec_len l.acceptors ≡ l.lane)
    × (l.count ≤ vec_capacity l.passes) × (l.count ≤ vec_capacity l.acceptors)
    × (l.passes.items ++ map (λ s. s.pass) (reverse l.seats.items) ≡ map (λ s. s.pass) (reverse l.initial.seats.items))
    × (l.acceptors.items ++ map (λ s. s.acceptor) (reverse l.seats.items) ≡ map (λ s. s.acceptor) (reverse l.initial.seats.items))
