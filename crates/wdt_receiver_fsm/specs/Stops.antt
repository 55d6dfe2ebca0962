-- When a lane is told to do nothing more, and when it is told to wait.
use Rattle.std.specs.Prelude.{◌≡◌, ℕ, ◌&&◌, ◌||◌, Bool, true, false, not, []}
use Rattle.wdt_units.specs.declared.numbers.Lane.{Lane}
use Rattle.wdt_codec.specs.declared.frames.Frame.TheVariants as frames
use Rattle.wdt_sender_fsm.specs.Rules.{is_failure}
use Rattle.wdt_receiver_fsm.specs.declared.acts.RecvAct.{RecvAct}
use Rattle.wdt_receiver_fsm.specs.declared.acts.RecvAct.TheVariants as acts
use Rattle.wdt_receiver_fsm.specs.declared.inputs.RecvIn.TheVariants as inputs
use Rattle.wdt_receiver_fsm.specs.declared.states.RecvState.{RecvState}
use Rattle.wdt_receiver_fsm.specs.declared.states.RecvState.TheVariants as states
use Rattle.wdt_receiver_fsm.specs.PlainReceiver.{PlainReceiver, can_finish, has_finish, lane_at, past_at, state_at, untold_at}
use Rattle.wdt_receiver_fsm.specs.Ready.{is_idle}
use Rattle.wdt_receiver_fsm.specs.Rows.{is_allowed}
use Rattle.wdt_receiver_fsm.specs.Turn.{Bytes, Given, Put}

-- what is handed in belongs to the lane's state
abbrev pub belongs : RecvState → Put → Bool
belongs state (Given input) = is_allowed state input
belongs states.TakeBlock (Bytes bytes) = true
belongs state (Bytes bytes) = false

-- ---- a lane that does nothing more

-- the act is Stop
abbrev pub is_stop : RecvAct → Bool
is_stop acts.Stop = true
is_stop _ = false

-- the lane is closed, given up or acknowledged
abbrev pub is_through : PlainReceiver → ℕ → Bool
is_through r l = (past_at r l).is_closed || (past_at r l).has_quit || (past_at r l).is_acked

-- a lane has no connection in this state, or with what it hands in
abbrev pub has_no_link : RecvState → Put → Bool
has_no_link states.Listen _ = true
has_no_link states.Ended _ = true
has_no_link _ (Given inputs.Lost) = true
has_no_link _ _ = false

-- that the end has failed was written or lost, or it was read of the sender
abbrev pub is_told : RecvState → Put → Bool
is_told states.SendAbort (Given inputs.Wrote) = true
is_told states.SendAbort (Given inputs.Lost) = true
is_told _ (Given (inputs.Got (frames.Abort code))) = true
is_told _ _ = false

-- memory ran out while it was written that the end has failed
abbrev pub is_starved_again : RecvState → Put → Bool
is_starved_again states.SendAbort (Given inputs.Starved) = true
is_starved_again _ _ = false

-- on a failed end a lane in this state, with this, can tell nothing more
abbrev pub is_silent : RecvState → Put → Bool
is_silent state put = has_no_link state put || is_told state put || is_starved_again state put

-- a lane in this state, with this, does nothing more where it doesn't belong to the state, where the lane is
-- through, and where the end has failed and the lane can tell nothing more
abbrev pub stops : RecvState → Put → Bool → Bool → Bool
stops state put through has_failed = not (belongs state put) || through || (has_failed && is_silent state put)

-- ---- a lane that waits

-- the sender was told to wait: that is written now, or it was before the lane was woken
abbrev pub is_waiting : RecvState → Bool → Put → Bool
is_waiting states.SendWait waited (Given inputs.Wrote) = true
is_waiting states.WaitForFinish waited (Given inputs.Woken) = waited
is_waiting _ _ _ = false

-- The input belongs to the lane's state, the lane is idle, and the sender was told to wait. The end hasn't failed,
-- the finish hasn't come and isn't ready, and the lane has no closed lane to tell of.
pub record Parks (r : PlainReceiver) (l : Lane) (put : Put) : Type 0 where
  pub allowed : belongs (state_at r l.0) put ≡ true
  pub idle : is_idle r.history l.0 ≡ true
  pub waited : is_waiting (state_at r l.0) (lane_at r l.0).has_waited put ≡ true
  pub sound : is_failure r.answer ≡ false
  pub first : has_finish r ≡ false
  pub unready : can_finish r ≡ false
  pub told : untold_at r l.0 ≡ []
