-- Worked steps.
use Rattle.std.specs.Prelude.{ℕ, true, false, List, [], ◌∷◌, ◌++◌, Some}
use Rattle.wdt_units.specs.declared.limits.TheConstants.{DEFAULT_BATCH}
use Rattle.wdt_units.specs.Have.{PlainSpan}
use Rattle.wdt_units.specs.declared.blocks.Block.{Block}
use Rattle.wdt_units.specs.declared.blocks.Header.{Header}
use Rattle.wdt_units.specs.declared.numbers.Conn.{Conn}
use Rattle.wdt_units.specs.declared.numbers.Lane.{Lane}
use Rattle.wdt_codec.specs.declared.frames.Frame.TheVariants as frames
use Rattle.wdt_codec.specs.declared.frames.Mark.{Mark}
use Rattle.wdt_codec.specs.declared.frames.Settings.{Settings}
use Rattle.wdt_depot.specs.Programs.{run_make}
use Rattle.wdt_logfmt.specs.declared.entry.LogEntry.TheVariants.{Covered}
use Rattle.wdt_logfmt.specs.Adding.{span_at}
use Rattle.wdt_logfmt.specs.Spelling.{closed_batch}
use Rattle.wdt_logfmt.specs.View.{NamedFile}
use Rattle.wdt_sender_fsm.specs.declared.answers.EndAnswer.TheVariants as answers
use Rattle.wdt_sender_fsm.specs.declared.peers.PeerKind.{PeerKind}
use Rattle.wdt_receiver_fsm.specs.declared.acts.RecvAct.TheVariants as acts
use Rattle.wdt_receiver_fsm.specs.declared.events.RecvEvent.{RecvEvent}
use Rattle.wdt_receiver_fsm.specs.declared.events.RecvEvent.TheVariants as events
use Rattle.wdt_receiver_fsm.specs.declared.states.RecvLane.{RecvLane}
use Rattle.wdt_receiver_fsm.specs.declared.states.RecvState.{RecvState}
use Rattle.wdt_receiver_fsm.specs.declared.states.RecvState.TheVariants as states
use Rattle.wdt_good.specs.Calls.{run_flush, run_piece}
use Rattle.wdt_receiver_fsm.specs.Plan.{Plan, calls, ends}
use Rattle.wdt_receiver_fsm.specs.PlainReceiver.{PlainReceiver, opened}
use Rattle.wdt_receiver_fsm.specs.Turn.{Step}

-- a lane
abbrev pub lane : ℕ → Lane
lane l = record { 0 = l }

-- a connection's number
abbrev pub conn : ℕ → Conn
conn c = record { 0 = c }

-- a count of a lane
abbrev pub mark : ℕ → ℕ → Mark
mark l n = record { lane = lane l; count = n }

-- the path `a`
abbrev pub path : List ℕ
path = 97 ∷ []

-- a lane on whose connection the totals were read
abbrev pub sized : RecvState → ℕ → RecvLane
sized state left = record { state = state; ask = true; is_sized = true; has_waited = false; left = left; conn = 1 }

-- what a sender of so many lanes says of itself
abbrev pub settings : ℕ → ℕ → Settings
settings lanes l = record { version = 1; session = 7; lane = lane l; lanes = lanes; conn = conn 1; block = 4; ask = true }

-- the header of the file's one block, where the file is told to have such a size
abbrev pub header : ℕ → Header
header size = record { path = path; size = size; stamp = 0; offset = 0; length = 2 }

-- the one block of the file
abbrev pub block : Block
block = record { file = 0; offset = 0; length = 2 }

-- an end with a new log
abbrev pub end_with : List RecvLane → List RecvEvent → PlainReceiver
end_with lanes history = record (opened (record { files = []; end = 6 }) DEFAULT_BATCH lanes) { history = history }

-- ---- one file of two bytes, over one lane

-- what the one lane read before any block
abbrev pub one_met : List RecvEvent
one_met = events.Take (lane 0) (conn 1) ∷ events.Met (lane 0) (settings 1 0) ∷ events.Sized (lane 0) 1 2 ∷ []

-- it reads what comes next
abbrev pub one_lane : PlainReceiver
one_lane = end_with (sized states.ReadNextCmd 0 ∷ []) one_met

-- its block has begun
abbrev pub one_begun : PlainReceiver
one_begun =
    record (end_with (sized states.TakeBlock 2 ∷ []) (one_met ++ events.Begin (lane 0) block ∷ [])) {
      known = Some (record { path = path; size = 2; stamp = 0 }) ∷ [];
    }

-- and has landed
abbrev pub one_landed : PlainReceiver
one_landed =
    record one_begun {
      lanes = sized states.ReadNextCmd 0 ∷ [];
      history = (one_met ++ events.Begin (lane 0) block ∷ []) ++ events.Land (lane 0) ∷ [];
      unlogged = block ∷ [];
    }

-- the end fails with its disk, and the lane tells it
abbrev pub disk_failed : PlainReceiver → RecvLane → Step
disk_failed r lane = (acts.Write (frames.Abort 3), record r { lanes = lane ∷ []; answer = answers.Disk })

-- the block's header: its file is made, and its bytes are taken
abbrev pub makes_the_file : Plan Step
makes_the_file = calls (run_make path) (disk_failed one_lane (sized states.SendAbort 0)) (ends (acts.TakePiece 2, one_begun))

-- its bytes: they are written, and the block has landed
abbrev pub writes_the_bytes : Plan Step
writes_the_bytes = calls (run_piece path 0 (104 ∷ 105 ∷ [])) (disk_failed one_begun (sized states.SendAbort 2)) (ends (acts.Read, one_landed))

-- the file as the log names it, with these spans covered
abbrev pub logged : List PlainSpan → NamedFile
logged spans = record { number = 0; have = record { path = path; size = 2; stamp = 0; spans = spans } }

-- the same, where the log named the file as it was opened and covered nothing of it
abbrev pub named_landed : PlainReceiver
named_landed = record one_landed { opening = logged [] ∷ []; log = record { files = logged [] ∷ []; end = 35 } }

-- nothing more is to come
abbrev pub named_idle : PlainReceiver
named_idle = record named_landed { history = named_landed.history ++ events.Idle (lane 0) ∷ [] }

-- everything has landed
abbrev pub named_finished : PlainReceiver
named_finished =
    record named_idle {
      lanes = sized states.SendDone 0 ∷ [];
      history = named_idle.history ++ events.Finish ∷ [];
      log = record { files = logged (span_at 0 2 ∷ []) ∷ []; end = 57 };
      unlogged = [];
    }

-- nothing more is to come: the file is synced, the batch is appended, and the last word is written
abbrev pub finishes : Plan Step
finishes =
    calls (run_flush (path ∷ []) 35 (closed_batch (Covered 0 0 2 ∷ []))) (disk_failed named_idle (sized states.SendAbort 0))
    (ends (acts.Write frames.Done, named_finished))

-- ---- two lanes

-- what two lanes read before any block
abbrev pub two_met : List RecvEvent
two_met =
    events.Take (lane 0) (conn 1) ∷ events.Met (lane 0) (settings 2 0) ∷ events.Sized (lane 0) 1 2
    ∷ events.Take (lane 1) (conn 1) ∷ []

-- the first has begun the block
abbrev pub two_lanes : PlainReceiver
two_lanes =
    record (end_with (sized states.TakeBlock 2 ∷ sized states.ReadNextCmd 0 ∷ []) (two_met ++ events.Begin (lane 0) block ∷ [])) {
      known = Some (record { path = path; size = 2; stamp = 0 }) ∷ [];
    }

-- the second meets a fault of the sender
abbrev pub two_faulted : PeerKind → Plan Step
two_faulted kind =
    ends (
      acts.Write (frames.Abort 5),
      record two_lanes {
        lanes = sized states.TakeBlock 2 ∷ sized states.SendAbort 0 ∷ [];
        history = two_lanes.history ++ events.Peer (lane 1) kind ∷ [];
        answer = answers.Peer kind;
      },
    )

-- the first was lost while it took the block, and no other connection came eight times
abbrev pub half_closed : PlainReceiver
half_closed =
    record two_lanes {
      lanes = record (sized states.Ended 0) { is_sized = false } ∷ sized states.ReadNextCmd 0 ∷ [];
      history = two_lanes.history ++ events.Dropped (lane 0) ∷ events.Close (lane 0) ∷ [];
    }

-- nothing more is to come on the second: it tells that the first is closed with no block landed
abbrev pub tells : Plan Step
tells =
    ends (
      acts.Write (frames.ErrMarks (mark 0 0 ∷ [])),
      record half_closed {
        lanes = record (sized states.Ended 0) { is_sized = false } ∷ sized states.SendGlobalCheckpoint 0 ∷ [];
        history = (half_closed.history ++ events.Idle (lane 1) ∷ []) ++ events.Told (lane 1) (record { 0 = 1 }) ∷ [];
      },
    )

-- the first still takes its block
abbrev pub two_waiting : PlainReceiver
two_waiting = record two_lanes { lanes = sized states.TakeBlock 2 ∷ sized states.SendWait 0 ∷ []; history = two_lanes.history ++ events.Idle (lane 1) ∷ [] }

-- nothing more is to come on the second: it has the sender wait, and then waits
abbrev pub waits : Plan Step
waits = ends (acts.Write frames.Wait, two_waiting)

-- the lane waits
abbrev pub parks : Plan Step
parks =
    ends (
      acts.Park,
      record two_waiting { lanes = sized states.TakeBlock 2 ∷ record (sized states.WaitForFinish 0) { has_waited = true } ∷ [] },
    )
