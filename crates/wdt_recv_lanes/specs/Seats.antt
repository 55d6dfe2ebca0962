-- What a receiver's lane works with, and what running it leaves of that.
use Rattle.std.specs.Prelude.{◌≡◌, ℕ}
use Rattle.wdt_lanes.specs.Seats.{IsBack, RoseAtRest, SamePass}
use Rattle.wdt_recv_lanes.specs.declared.seats.Seat.{Seat}

-- the pass is the hub's, and no connection is out
pub record MayRun {U P A : Type 0} (has : U → P → Type 0) (out : A → ℕ) (hub : U) (seat : Seat P A) : Type 0 where
  pub pass : has hub seat.pass
  pub none_out : out seat.acceptor ≡ 0

-- what a lane leaves of its seat: no connection is out, and each flag comes with a count that rose
pub record Ran {U P A : Type 0} (has : U → P → Type 0) (lane : P → ℕ) (faults alarms out mark : A → ℕ) (hub : U) (old new : Seat P A) : Type 0 where
  pub pass : SamePass has lane hub old.pass new.pass
  pub acceptor : IsBack out mark old.acceptor new.acceptor
  pub cut : RoseAtRest new.cut faults old.acceptor new.acceptor
  pub alarmed : RoseAtRest new.alarmed alarms old.acceptor new.acceptor
