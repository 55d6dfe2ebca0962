-- What one turn of a lane may do, with what the lane heard.
use Rattle.std.specs.Prelude.{◌≡◌, ℕ, ◌+◌, ◌==◌, ◌&&◌, Bool, true, false, List, [], ◌++◌, length, Option, Some, None, Result, Ok, Err, IfSome, if◌then◌else◌}
use Rattle.std.specs.Str.{bytes_eq}
use Rattle.wdt_units.specs.declared.numbers.Lane.{Lane}
use Rattle.wdt_tree.specs.Told.{ToldRun}
use Rattle.wdt_depot.specs.Moments.{IfTold}
use Rattle.wdt_depot.specs.State.{Counts, State}
use Rattle.wdt_good.specs.Logged.{GoodSince}
use Rattle.wdt_sender_fsm.specs.Rules.{is_failure}
use Rattle.wdt_receiver_fsm.specs.declared.acts.RecvAct.{RecvAct}
use Rattle.wdt_receiver_fsm.specs.declared.events.RecvEvent.{RecvEvent}
use Rattle.wdt_receiver_fsm.specs.declared.inputs.RecvIn.{RecvIn}
use Rattle.wdt_receiver_fsm.specs.declared.inputs.RecvIn.TheVariants as inputs
use Rattle.wdt_receiver_fsm.specs.declared.states.RecvLane.{RecvLane}
use Rattle.wdt_receiver_fsm.specs.Legal.{IsLegal, Terms}
use Rattle.wdt_receiver_fsm.specs.Plan.{EndsIn}
use Rattle.wdt_receiver_fsm.specs.PlainReceiver.{PlainReceiver, lane_at}
use Rattle.wdt_receiver_fsm.specs.Receiver.{IsReceiver}
use Rattle.wdt_receiver_fsm.specs.Turn.{Bytes, Given, Put, turn_plan}
use Rattle.wdt_link.specs.Saying.{IsFrameSaid, Part, PlainSaid, Whole}
use Rattle.wdt_dock.specs.Dock.{wanted}
use Rattle.wdt_dock.specs.DockView.{LosesDisk}
use Rattle.wdt_dock.specs.Sparing.{Between, IsOther, LeavesOthers}
use Rattle.wdt_recv_lanes.specs.declared.heard.Heard.{Heard}
use Rattle.wdt_recv_lanes.specs.declared.heard.Heard.TheVariants as heard
use Rattle.wdt_recv_lanes.specs.Kept.{GoodFor}

-- ---- what is handed in

-- the piece has the path, the place and the length of what the lane wants
abbrev pub is_wanted_by : Option (List ℕ × ℕ × ℕ) → List ℕ → ℕ → List ℕ → Bool
is_wanted_by None path offset bytes = false
is_wanted_by (Some (of, place, count)) path offset bytes = bytes_eq path of && offset == place && length bytes == count

-- the same of what was received
abbrev pub is_wanted : Option (List ℕ × ℕ × ℕ) → PlainSaid → Bool
is_wanted want (Whole frame) = false
is_wanted want (Part path offset bytes) = is_wanted_by want path offset bytes

-- bytes are handed in where they are wanted; else what came is odd
abbrev pub bytes_put : Bool → PlainSaid → Put
bytes_put true (Part path offset bytes) = Bytes bytes
bytes_put _ said = Given inputs.Odd

-- a frame is handed in as read, and a piece is odd there
abbrev pub frame_put : PlainSaid → Put
frame_put (Whole frame) = Given (inputs.Got frame)
frame_put (Part path offset bytes) = Given inputs.Odd

-- an input is handed in, and a frame of no known origin is odd
abbrev pub input_put : RecvIn → Put
input_put (inputs.Got frame) = Given inputs.Odd
input_put input = Given input

-- what a lane's end is handed, by what the lane heard
abbrev pub put_of : {N : Type 0} → PlainReceiver → ℕ → Heard N → Put
put_of r l (heard.Put input) = input_put input
put_of r l (heard.Frame said) = frame_put said
put_of r l (heard.Piece said) = bytes_put (is_wanted (wanted r l) said) said

-- a frame that is handed in is in the grammar and of the run
abbrev pub IsInputSaid : Option ToldRun → RecvIn → Type 0
IsInputSaid run (inputs.Got frame) = IsFrameSaid run frame
IsInputSaid run input = Unit {0}

-- the same of whatever is handed in
abbrev pub IsPutSaid : Option ToldRun → Put → Type 0
IsPutSaid run (Given input) = IsInputSaid run input
IsPutSaid run (Bytes bytes) = Unit {0}

-- ---- a turn of a machine

-- a history that is legal by some terms
pub record IsLegalOfSome (h : List RecvEvent) : Type 0 where
  pub terms : Terms
  pub legal : IsLegal terms h

-- one step of a lane of some plain receiver that has this history and this stand of the lane, whatever its disk
-- did
pub record IsTurn {N : Type 0} (lane : ℕ) (put : Heard N) (h : List RecvEvent) (before : RecvLane) (act : RecvAct) (more : List RecvEvent) (after : RecvLane) : Type 0 where
  pub of : Lane
  pub number : of.0 ≡ lane
  pub receiver : PlainReceiver
  pub behind : PlainReceiver
  pub history : receiver.history ≡ h
  pub stands : lane_at receiver lane ≡ before
  pub step : EndsIn (Unit {0}) (turn_plan receiver of (put_of receiver lane put)) (act, behind)
  pub noted : behind.history ≡ h ++ more
  pub stays : lane_at behind lane ≡ after

-- how much happened: one for each entry, and one more once the end has failed
abbrev pub count_of : PlainReceiver → ℕ
count_of r = length r.history + (if is_failure r.answer then 1 else 0)

-- ---- a turn of a dock

-- the step is the definition's; where memory ran out, the end is as it was
abbrev pub CameTo : {E : Type 0} → PlainReceiver → Lane → Put → Result RecvAct E → PlainReceiver → Type 0
CameTo r l put (Ok act) t = EndsIn (Unit {0}) (turn_plan r l put) (act, t)
CameTo r l put (Err e) t = t ≡ r

-- what a turn leaves of the disk: where it was good for the run's tree it stays so at each moment, and no slip
-- comes; other files read as before; on a failed end it isn't touched; and it is lost only where a fault was
-- counted
pub record Leaves (run : Option ToldRun) (r : PlainReceiver) (put : Put) (t : PlainReceiver) (old new : State) : Type 0 where
  pub since : GoodFor run r old → IfSome run (λ told. GoodSince told.tree [] old.told new.told)
  pub good : GoodFor run r old → GoodFor run t new
  pub slips : GoodFor run r old → IfSome run (λ told. IfTold (λ u. new.slips ≡ old.slips) old.told)
  pub others : Between (LeavesOthers (IsOther r.known put)) old.told new.told
  pub untouched : is_failure r.answer ≡ true → new ≡ old
  pub counts : Counts (LosesDisk r.answer t.answer) old new

-- a turn of a receiver's lane with what it handed in, over a disk
pub record Turned {E : Type 0} (run : Option ToldRun) (r : PlainReceiver) (l : Lane) (put : Put) (result : Result RecvAct E) (t : PlainReceiver) (old new : State) : Type 0 where
  pub was : IsReceiver r
  pub said : IsPutSaid run put
  pub came : CameTo r l put result t
  pub leaves : Leaves run r put t old new
