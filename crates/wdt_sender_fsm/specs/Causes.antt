-- Why an end has its answer behind a step.
use Rattle.std.specs.Prelude.{◌≡◌, ◌↔◌, ℕ, Bool, true, false, List, [], ◌∷◌, ◌++◌, Some, None, ◌&&◌}
use Rattle.wdt_units.specs.Have.{HaveFile}
use Rattle.wdt_units.specs.declared.numbers.Lane.{Lane}
use Rattle.wdt_codec.specs.declared.frames.Frame.TheVariants as frames
use Rattle.wdt_sender_fsm.specs.declared.answers.EndAnswer.{EndAnswer}
use Rattle.wdt_sender_fsm.specs.declared.answers.EndAnswer.TheVariants as answers
use Rattle.wdt_sender_fsm.specs.declared.answers.RefusedKind.{RefusedKind}
use Rattle.wdt_sender_fsm.specs.declared.events.SendEvent.{SendEvent}
use Rattle.wdt_sender_fsm.specs.declared.events.SendEvent.TheVariants as events
use Rattle.wdt_sender_fsm.specs.declared.inputs.SendIn.{SendIn}
use Rattle.wdt_sender_fsm.specs.declared.inputs.SendIn.TheVariants as inputs
use Rattle.wdt_sender_fsm.specs.declared.states.SendState.TheVariants as states
use Rattle.wdt_sender_fsm.specs.Chunks.{unordered_at, refusal}
use Rattle.wdt_sender_fsm.specs.PlainSender.{PlainSender, is_closed, state_at, every_lane, is_done_with, is_out}
use Rattle.wdt_sender_fsm.specs.SenderHistory.{end_of}
use Rattle.wdt_sender_fsm.specs.Rules.{is_failure}

-- the source failed
abbrev pub is_source_lost : SendIn → Bool
is_source_lost (inputs.SourceLost unwritten) = true
is_source_lost _ = false

-- the lane is the first that reads what the destination has, which is told in order, and the tree isn't
-- sent to such a destination for this reason
pub record Refuses (s : PlainSender) (l : ℕ) (input : SendIn) (kind : RefusedKind) : Type 0 where
  pub here : state_at s l ≡ states.ReadFileChunks
  pub have : List HaveFile
  pub read : input ≡ inputs.Got (frames.Chunks have)
  pub first : s.have ≡ None
  pub ordered : unordered_at have ≡ None
  pub refused : refusal s.manifest have s.block ≡ Some kind

-- what stands behind each answer with which an end may fail in a step, by the input and the history
-- behind the step; no step of a sender fails with Disk
abbrev pub IsCause : PlainSender → Lane → SendIn → List SendEvent → EndAnswer → Type 0
IsCause s l input h answers.Source = is_source_lost input ≡ true
IsCause s l input h answers.Disk = ⊥
IsCause s l input h (answers.Peer kind) = h ≡ s.history ++ events.Peer l kind ∷ []
IsCause s l input h (answers.Aborted code) = (input ≡ inputs.Got (frames.Abort code)) × (h ≡ s.history ++ events.Abort l code ∷ [])
IsCause s l input h (answers.Refused kind) = Refuses s l.0 input kind
IsCause s l input h answers.NoMemory = input ≡ inputs.Starved
IsCause s l input h _ = Unit {0}

-- on a failed end nothing more is noted and the answer stays; a new failure has its cause
pub record Follows (s : PlainSender) (l : Lane) (input : SendIn) (t : PlainSender) : Type 0 where
  pub stays : is_failure s.answer ≡ true → t.answer ≡ s.answer
  pub still : is_failure s.answer ≡ true → t.history ≡ s.history
  pub caused : is_failure s.answer ≡ false → IsCause s l input t.history t.answer

-- on an end that hasn't failed a step of a lane that isn't closed refuses the tree exactly where the lane
-- is the first that reads what the destination has, and for the reason that it has
pub record RefusesRightly (s : PlainSender) (l : Lane) (input : SendIn) (t : PlainSender) : Type 0 where
  pub exactly : (kind : RefusedKind) → is_failure s.answer ≡ false → is_closed s l.0 ≡ false → (t.answer ≡ answers.Refused kind) ↔ Refuses s l.0 input kind

-- ---- the answers of an end that hasn't failed

-- a lane read the receiver's last word, and each lane is acknowledged or closed
abbrev pub has_all_done : PlainSender → Bool
has_all_done s = (end_of s.history).has_finish && every_lane s is_done_with

-- it hasn't failed, that isn't so, and each lane has ended or is closed
pub record HasNoLane (s : PlainSender) : Type 0 where
  pub sound : is_failure s.answer ≡ false
  pub undone : has_all_done s ≡ false
  pub out : every_lane s is_out ≡ true
