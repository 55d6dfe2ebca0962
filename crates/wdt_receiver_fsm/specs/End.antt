-- What a receiver's end is seen as without its files and its disk.
use Rattle.std.specs.Prelude.{◌≡◌, ℕ, ◌-◌, ◌&&◌, Bool, List, [], ◌∷◌, ◌++◌, length, replicate, slice_get, slice_set, Option}
use Rattle.wdt_units.specs.declared.blocks.Block.{Block}
use Rattle.wdt_logfmt.specs.Beginning.{KnownFile}
use Rattle.wdt_logfmt.specs.View.{Meaning, NamedFile}
use Rattle.wdt_sender_fsm.specs.declared.answers.EndAnswer.{EndAnswer}
use Rattle.wdt_sender_fsm.specs.declared.answers.EndAnswer.TheVariants.{Going}
use Rattle.wdt_sender_fsm.specs.Rules.{every, judged}
use Rattle.wdt_receiver_fsm.specs.declared.events.RecvEvent.{RecvEvent}
use Rattle.wdt_receiver_fsm.specs.declared.states.RecvLane.{RecvLane}
use Rattle.wdt_receiver_fsm.specs.PlainReceiver.{PlainReceiver, is_ended, lane_or_ended, new_lane}
use Rattle.wdt_receiver_fsm.specs.ReceiverHistory.{end_of}
use Rattle.wdt_receiver_fsm.specs.View.{is_done_in}

-- the lanes, the history and the answer, and what is fixed from the beginning
pub record EndView : Type 0 where
  -- what the log named and covered as it was opened
  pub opening : List NamedFile
  -- from so many bytes on what landed is logged
  pub batch : ℕ
  pub lanes : List RecvLane
  pub history : List RecvEvent
  pub answer : EndAnswer
  -- how many more entries can be noted without memory
  pub room : ℕ

-- an end that begins
abbrev pub new_end : List NamedFile → ℕ → ℕ → EndView
new_end opening batch lanes =
    record {
      opening = opening;
      batch = batch;
      lanes = replicate lanes new_lane;
      history = [];
      answer = Going;
      room = 0;
    }

-- what is kept of the files: those that are known, what the log says, and which blocks landed since
pub record Books : Type 0 where
  pub known : List (Option KnownFile)
  pub log : Meaning
  pub unlogged : List Block

-- the plain receiver of an end and its books
abbrev pub plain_with : EndView → Books → PlainReceiver
plain_with e books =
    record {
      opening = e.opening;
      known = books.known;
      log = books.log;
      unlogged = books.unlogged;
      batch = e.batch;
      lanes = e.lanes;
      history = e.history;
      answer = e.answer;
    }

-- the same end, with other room
pub record IsSameEnd (e f : EndView) : Type 0 where
  pub opening : f.opening ≡ e.opening
  pub batch : f.batch ≡ e.batch
  pub lanes : f.lanes ≡ e.lanes
  pub history : f.history ≡ e.history
  pub answer : f.answer ≡ e.answer

-- how a lane stands
abbrev pub lane_in : EndView → ℕ → RecvLane
lane_in e l = lane_or_ended (slice_get e.lanes l)

-- the lane has ended
abbrev pub is_out_in : List RecvLane → ℕ → Bool
is_out_in lanes l = is_ended (lane_or_ended (slice_get lanes l)).state

-- the answer that follows from the lanes
abbrev pub answer_in : EndAnswer → List RecvEvent → List RecvLane → EndAnswer
answer_in answer history lanes =
    judged answer ((end_of history).has_finish && every (length lanes) (is_done_in history)) (every (length lanes) (is_out_in lanes))

-- the lane stands so now, and the answer follows
abbrev pub stands : EndView → ℕ → RecvLane → EndView
stands e l lane =
    record e { lanes = slice_set e.lanes l lane; answer = answer_in e.answer e.history (slice_set e.lanes l lane) }

-- one more entry is noted
abbrev pub with_note : EndView → RecvEvent → EndView
with_note e entry = record e { history = e.history ++ entry ∷ []; room = e.room - 1 }
