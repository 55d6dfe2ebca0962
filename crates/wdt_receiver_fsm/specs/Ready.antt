-- Which closed lanes are confirmed, of which a lane has still to tell, and when the finish is ready:
-- read off the history alone.
use Rattle.std.specs.Prelude.{ℕ, ◌&&◌, ◌||◌, not, Bool, List, filter}
use Rattle.wdt_sender_fsm.specs.Rules.{every}
use Rattle.wdt_receiver_fsm.specs.declared.events.RecvEvent.{RecvEvent}
use Rattle.wdt_receiver_fsm.specs.ReceiverHistory.{confirm_of, past_of}
use Rattle.wdt_receiver_fsm.specs.Sets.{has, numbers}

-- the sender said on the lane that nothing more is to come, and nothing was told since
abbrev pub is_idle : List RecvEvent → ℕ → Bool
is_idle g l = (past_of g l).is_idle

-- the lane was given up before the finish
abbrev pub is_closed : List RecvEvent → ℕ → Bool
is_closed g l = (past_of g l).is_closed

-- a lane that told of this one was idle again, on the same connection
abbrev pub is_confirmed : List RecvEvent → ℕ → Bool
is_confirmed g c = (confirm_of g c).is_confirmed

-- a lane has still to tell of a closed one: it isn't confirmed, and the lane's connection carried no
-- word of it
abbrev pub is_untold : List RecvEvent → ℕ → ℕ → Bool
is_untold g l c = is_closed g c && not (is_confirmed g c) && not (has (past_of g l).told c)

-- of n lanes those, rising
abbrev pub untold : ℕ → List RecvEvent → ℕ → List ℕ
untold n g l = filter (is_untold g l) (numbers n)

-- the lane is idle or closed
abbrev pub rests : List RecvEvent → ℕ → Bool
rests g l = is_idle g l || is_closed g l

-- the lane isn't idle
abbrev pub is_busy : List RecvEvent → ℕ → Bool
is_busy g l = not (is_idle g l)

-- the lane is open, or the sender knows that it is closed
abbrev pub is_known_closed : List RecvEvent → ℕ → Bool
is_known_closed g l = not (is_closed g l) || is_confirmed g l

-- each of n lanes is idle or closed, one is idle, and each closed lane is confirmed
abbrev pub is_ready : ℕ → List RecvEvent → Bool
is_ready n g = every n (rests g) && not (every n (is_busy g)) && every n (is_known_closed g)
