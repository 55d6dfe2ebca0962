-- What one turn of a lane may do, by its history and the lane's stand alone.
use Rattle.std.specs.Prelude.{◌≡◌, ℕ, ◌+◌, ◌||◌, Bool, true, false, List, ◌++◌, length, if◌then◌else◌}
use Rattle.wdt_units.specs.declared.blocks.Block.{Block}
use Rattle.wdt_units.specs.declared.numbers.Lane.{Lane}
use Rattle.wdt_sender_fsm.specs.declared.acts.SendAct.{SendAct}
use Rattle.wdt_sender_fsm.specs.declared.events.SendEvent.{SendEvent}
use Rattle.wdt_sender_fsm.specs.declared.inputs.SendIn.{SendIn}
use Rattle.wdt_sender_fsm.specs.declared.states.SendLane.{SendLane}
use Rattle.wdt_sender_fsm.specs.Legal.{IsLegal}
use Rattle.wdt_sender_fsm.specs.PlainSender.{PlainSender, is_closed, lane_at}
use Rattle.wdt_sender_fsm.specs.Rows.{Row, Over, Starved, Stray, SourceLost, SettingsWritten, Waits, AbortWritten}
use Rattle.wdt_sender_fsm.specs.Rules.{is_failure}
use Rattle.wdt_sender_fsm.specs.Turn.{send_turn}

-- a history that is legal for some number of lanes and some plan
pub record IsLegalOfSome (h : List SendEvent) : Type 0 where
  pub lanes : ℕ
  pub planned : List Block
  pub legal : IsLegal lanes planned h

-- one step of a lane of some plain sender that has this history and this stand of the lane
pub record IsTurn (lane : ℕ) (put : SendIn) (h : List SendEvent) (before : SendLane) (act : SendAct) (more : List SendEvent) (after : SendLane) : Type 0 where
  pub of : Lane
  pub number : of.0 ≡ lane
  pub sender : PlainSender
  pub behind : PlainSender
  pub history : sender.history ≡ h
  pub stands : lane_at sender lane ≡ before
  pub step : send_turn sender of put ≡ (act, behind)
  pub noted : behind.history ≡ h ++ more
  pub stays : lane_at behind lane ≡ after

-- how much happened: one for each entry, and one more once the end has failed
abbrev pub count_of : PlainSender → ℕ
count_of s = length s.history + (if is_failure s.answer then 1 else 0)

-- a row that notes nothing, whatever the blocks and the counts are
abbrev pub notes_nothing : Row → Bool
notes_nothing Over = true
notes_nothing (Starved mute) = true
notes_nothing Stray = true
notes_nothing (SourceLost unwritten) = true
notes_nothing SettingsWritten = true
notes_nothing Waits = true
notes_nothing AbortWritten = true
notes_nothing _ = false

-- such a step takes no memory: the lane is closed, the end has failed, or the row notes nothing
abbrev pub takes_no_memory : PlainSender → ℕ → Row → Bool
takes_no_memory s l row = is_closed s l || is_failure s.answer || notes_nothing row
