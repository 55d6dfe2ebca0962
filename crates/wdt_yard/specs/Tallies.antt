-- What is kept of each lane, read off the history.
use Rattle.std.specs.Prelude.{ℕ, false, List}
use Rattle.wdt_sender_fsm.specs.declared.events.SendEvent.{SendEvent}
use Rattle.wdt_sender_fsm.specs.Places.{tabulate}
use Rattle.wdt_sender_fsm.specs.SenderHistory.{LanePast, past_of}
use Rattle.wdt_yard.specs.declared.tally.Tally.{Tally}

-- a lane that begins
abbrev pub no_tally : Tally
no_tally = record { connections = 0; failed_tries = 0; acknowledged = false }

-- the tally of a lane with this past
abbrev pub tally_of : LanePast → Tally
tally_of past = record { connections = past.connections; failed_tries = past.failed_tries; acknowledged = past.is_acked }

-- the tallies of n lanes
abbrev pub tallies_of : ℕ → List SendEvent → List Tally
tallies_of n h = tabulate n (λ l. tally_of (past_of h l))
