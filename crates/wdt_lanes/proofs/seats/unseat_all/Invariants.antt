use Rattle.std.proofs.Common.{◌≡◌, ◌+◌, ◌≤◌, ◌++◌, map, reverse, vec_len}
use Rattle.std.specs.Prelude.{vec_capacity}
use Rattle.wdt_lanes.proofs.seats.unseat_all.Given as goal

abbrev pub invariant-loop-lane : goal.invariant-loop-lane
invariant-loop-lane g l =
    (vec_len l.seats + l.lane ≡ l.count) × (vec_len l.passes ≡ l.lane) × (vec_len l.sources ≡ l.lane) × (vec_len l.dialers ≡ l.lane)
    × (l.count ≤ vec_capacity l.passes) × (l.count ≤ vec_capacity l.sources) × (l.count ≤ vec_capacity l.dialers)
    × (l.passes.items ++ map (λ s. s.pass) (reverse l.seats.items) ≡ map (λ s. s.pass) (reverse l.initial.seats.items))
    × (l.sources.items ++ map (λ s. s.source) (reverse l.seats.items) ≡ map (λ s. s.source) (reverse l.initial.seats.items))
    × (l.dialers.items ++ map (λ s. s.dialer) (reverse l.seats.items) ≡ map (λ s. s.dialer) (reverse l.initial.seats.items))
