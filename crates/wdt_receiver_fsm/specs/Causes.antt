-- Why an end fails in a step.
use Rattle.std.specs.Prelude.{◌≡◌, ◌⊎◌, ℕ, true, false, [], ◌∷◌, ◌++◌, Some}
use Rattle.wdt_units.specs.declared.numbers.Lane.{Lane}
use Rattle.wdt_codec.specs.declared.frames.Frame.TheVariants as frames
use Rattle.wdt_sender_fsm.specs.declared.answers.EndAnswer.{EndAnswer}
use Rattle.wdt_sender_fsm.specs.declared.answers.EndAnswer.TheVariants as answers
use Rattle.wdt_sender_fsm.specs.declared.peers.PeerKind.{PeerKind}
use Rattle.wdt_sender_fsm.specs.Rules.{is_failure}
use Rattle.wdt_receiver_fsm.specs.declared.events.RecvEvent.TheVariants as events
use Rattle.wdt_receiver_fsm.specs.declared.inputs.RecvIn.TheVariants as inputs
use Rattle.wdt_receiver_fsm.specs.declared.states.RecvState.{RecvState}
use Rattle.wdt_receiver_fsm.specs.Outcomes.{Fails, Finishes, Mistakes, Serves, short_after}
use Rattle.wdt_receiver_fsm.specs.PlainReceiver.{PlainReceiver, failed}
use Rattle.wdt_receiver_fsm.specs.Rows.{is_reading}
use Rattle.wdt_receiver_fsm.specs.Turn.{Put, Given, tells_failure}

-- the sender said on the lane what it may not say, by the values that were read
pub record Misspeaks (r : PlainReceiver) (l : Lane) (put : Put) (kind : PeerKind) : Type 0 where
  pub state : RecvState
  pub serves : Serves r l state
  pub reads : is_reading state ≡ true
  pub said : Mistakes r l state put kind

-- the finish is ready with the lane idle, and something else is there than was to be sent
pub record FallsShort (r : PlainReceiver) (l : Lane) (put : Put) (kind : PeerKind) : Type 0 where
  pub idle : PlainReceiver
  pub finishes : Finishes r l put idle
  pub short : short_after idle ≡ Some kind

-- what the sender did wrong
abbrev pub IsWrong : PlainReceiver → Lane → Put → PeerKind → Type 0
IsWrong r l put kind = Misspeaks r l put kind ⊎ FallsShort r l put kind

-- the lane reads that the sender has failed
pub record HearsAbort (r : PlainReceiver) (l : Lane) (put : Put) (code : ℕ) : Type 0 where
  pub state : RecvState
  pub serves : Serves r l state
  pub reads : is_reading state ≡ true
  pub said : put ≡ Given (inputs.Got (frames.Abort code))

-- a call on the disk failed: what was noted before it stands, and the lane tells the sender
pub record DiskFails (r : PlainReceiver) (l : Lane) (put : Put) (t : PlainReceiver) : Type 0 where
  pub stands : PlainReceiver
  pub fails : Fails r l put stands answers.Disk false
  pub behind : t ≡ (tells_failure (failed stands answers.Disk) l).1

-- what stands behind each answer with which an end may fail in a step that leads to this receiver; no step of
-- a receiver fails for a source or by a refusal
abbrev pub IsCause : PlainReceiver → Lane → Put → PlainReceiver → EndAnswer → Type 0
IsCause r l put t answers.Source = ⊥
IsCause r l put t answers.Disk = DiskFails r l put t
IsCause r l put t (answers.Peer kind) = IsWrong r l put kind × (t.history ≡ r.history ++ events.Peer l kind ∷ [])
IsCause r l put t (answers.Aborted code) = HearsAbort r l put code × (t.history ≡ r.history ++ events.Abort l code ∷ [])
IsCause r l put t (answers.Refused kind) = ⊥
IsCause r l put t answers.NoMemory = (put ≡ Given inputs.Starved) × (r.answer ≡ answers.Going) × (t.history ≡ r.history)
IsCause r l put t _ = Unit {0}

-- on a failed end nothing but the lane changes; a new failure has its cause
pub record Follows (r : PlainReceiver) (l : Lane) (put : Put) (t : PlainReceiver) : Type 0 where
  pub still : is_failure r.answer ≡ true → t ≡ record r { lanes = t.lanes }
  pub caused : is_failure r.answer ≡ false → IsCause r l put t t.answer
