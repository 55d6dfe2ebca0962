-- When a lane is told to do nothing more.
use Rattle.std.specs.Prelude.{ℕ, ◌&&◌, ◌||◌, Bool, true, false, not}
use Rattle.wdt_codec.specs.declared.frames.Frame.TheVariants as frames
use Rattle.wdt_sender_fsm.specs.declared.acts.SendAct.{SendAct}
use Rattle.wdt_sender_fsm.specs.declared.acts.SendAct.TheVariants as acts
use Rattle.wdt_sender_fsm.specs.declared.inputs.SendIn.{SendIn}
use Rattle.wdt_sender_fsm.specs.declared.inputs.SendIn.TheVariants as inputs
use Rattle.wdt_sender_fsm.specs.declared.states.SendState.{SendState}
use Rattle.wdt_sender_fsm.specs.declared.states.SendState.TheVariants as states
use Rattle.wdt_sender_fsm.specs.PlainSender.{PlainSender, past_at, is_closed}
use Rattle.wdt_sender_fsm.specs.Rows.{is_allowed}
use Rattle.wdt_sender_fsm.specs.Sender.{is_over}

-- the act is Stop
abbrev pub is_stop : SendAct → Bool
is_stop acts.Stop = true
is_stop _ = false

-- the lane is closed, given up or acknowledged
abbrev pub is_through : PlainSender → ℕ → Bool
is_through s l = is_closed s l || is_over (past_at s l)

-- a lane has no connection in this state, or with this input
abbrev pub has_no_link : SendState → SendIn → Bool
has_no_link states.Connect _ = true
has_no_link states.Ended _ = true
has_no_link _ inputs.Lost = true
has_no_link _ _ = false

-- that the end has failed was written or lost, or it was read of the other end
abbrev pub is_told : SendState → SendIn → Bool
is_told states.SendAbort inputs.Wrote = true
is_told states.SendAbort inputs.Lost = true
is_told _ (inputs.Got (frames.Abort code)) = true
is_told _ _ = false

-- a block may stand half written on the connection
abbrev pub may_be_half : SendState → SendIn → Bool
may_be_half _ (inputs.SourceLost unwritten) = not unwritten
may_be_half states.SendBlocks inputs.Starved = true
may_be_half _ _ = false

-- memory ran out while it was written that the end has failed
abbrev pub is_starved_again : SendState → SendIn → Bool
is_starved_again states.SendAbort inputs.Starved = true
is_starved_again _ _ = false

-- on a failed end a lane in this state, with this input, can tell nothing more
abbrev pub is_silent : SendState → SendIn → Bool
is_silent state input = has_no_link state input || is_told state input || may_be_half state input || is_starved_again state input

-- a lane in this state, with this input, does nothing more where the input doesn't belong to the state,
-- where it is through, and where the end has failed and it can tell nothing more
abbrev pub stops : SendState → SendIn → Bool → Bool → Bool
stops state input through has_failed = not (is_allowed state input) || through || (has_failed && is_silent state input)
