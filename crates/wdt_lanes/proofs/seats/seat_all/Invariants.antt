use Rattle.std.proofs.Common.{◌≡◌, ◌+◌, ◌≤◌, ◌++◌, map, reverse, vec_len}
use Rattle.std.specs.Prelude.{vec_capacity}
use Rattle.wdt_lanes.proofs.seats.seat_all.Given as goal

abbrev pub invariant-loop-lane : goal.invariant-loop-lane
invariant-loop-lane g l =
    (vec_len l.passes + l.lane ≡ l.count) × (vec_len l.sources + l.lane ≡ l.count) × (vec_len l.dialers + l.lane ≡ l.count) × (vec_len l.seats ≡ l.lane) × (l.count ≤ vec_capacity l.seats)
    × (vec_capacity l.passes ≡ vec_capacity l.initial.passes) × (vec_capacity l.sources ≡ vec_capacity l.initial.sources) × (vec_capacity l.dialers ≡ vec_capacity l.initial.dialers)
    × (l.passes.items ++ map (λ s. s.pass) (reverse l.seats.items) ≡ l.initial.passes.items)
    × (l.sources.items ++ map (λ s. s.source) (reverse l.seats.items) ≡ l.initial.sources.items)
    × (l.dialers.items ++ map (λ s. s.dialer) (reverse l.seats.items) ≡ l.initial.dialers.items)
