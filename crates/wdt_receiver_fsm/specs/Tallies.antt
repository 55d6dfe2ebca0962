-- What is kept of a lane, read off its past.
use Rattle.std.specs.Prelude.{ℕ, ◌+◌, ◌≤◌, true, false, length, Option, Some, None}
use Rattle.wdt_units.specs.declared.blocks.Block.{Block}
use Rattle.wdt_units.specs.declared.limits.TheConstants.{MAX_BLOCKS, MAX_CONNECTIONS, MAX_TRIES}
use Rattle.wdt_receiver_fsm.specs.declared.events.RecvEvent.{RecvEvent}
use Rattle.wdt_receiver_fsm.specs.declared.events.RecvEvent.TheVariants.{Take, NoLink, Begin, Land, Dropped, Acked, Close}
use Rattle.wdt_receiver_fsm.specs.ReceiverHistory.{RecvPast}
use Rattle.wdt_receiver_fsm.specs.declared.tally.Tally.{Tally}

-- a lane on which nothing has happened
abbrev pub no_tally : Tally
no_tally = record { landed = 0; begun = None; takes = 0; failed_tries = 0; is_acked = false; is_closed = false }

-- what is kept of a lane with this past
abbrev pub tally_of : RecvPast → Tally
tally_of past =
    record {
      landed = length past.landed;
      begun = past.begun;
      takes = past.takes;
      failed_tries = past.failed_tries;
      is_acked = past.is_acked;
      is_closed = past.is_closed;
    }

-- 1 where a block is begun
abbrev pub one_begun : Option Block → ℕ
one_begun None = 0
one_begun (Some b) = 1

-- what is kept of a lane behind one more entry of it
abbrev pub counted : Tally → RecvEvent → Tally
counted t (Take l c) = record t { takes = t.takes + 1 }
counted t (NoLink l) = record t { failed_tries = t.failed_tries + 1 }
counted t (Begin l b) = record t { begun = Some b }
counted t (Land l) = record t { landed = t.landed + one_begun t.begun; begun = None }
counted t (Dropped l) = record t { begun = None }
counted t (Acked l) = record t { is_acked = true }
counted t (Close l) = record t { is_closed = true }
counted t _ = t

-- what is counted stays within the limits of a transfer, the block that is begun included
pub record IsTally (t : Tally) : Type 0 where
  pub landed : t.landed + one_begun t.begun ≤ MAX_BLOCKS
  pub takes : t.takes ≤ MAX_CONNECTIONS
  pub failed_tries : t.failed_tries ≤ MAX_TRIES
