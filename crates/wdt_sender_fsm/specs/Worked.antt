-- Worked steps.
use Rattle.std.specs.Prelude.{ℕ, true, List, [], ◌∷◌, ◌++◌, Some, None}
use Rattle.wdt_units.specs.declared.blocks.Block.{Block}
use Rattle.wdt_units.specs.declared.numbers.Conn.{Conn}
use Rattle.wdt_units.specs.declared.numbers.Lane.{Lane}
use Rattle.wdt_codec.specs.declared.frames.Frame.TheVariants as frames
use Rattle.wdt_codec.specs.declared.frames.Mark.{Mark}
use Rattle.wdt_tree.specs.declared.entry.Entry.{Entry}
use Rattle.wdt_sender_fsm.specs.declared.acts.SendAct.TheVariants as acts
use Rattle.wdt_sender_fsm.specs.declared.answers.EndAnswer.TheVariants as answers
use Rattle.wdt_sender_fsm.specs.declared.events.SendEvent.TheVariants as events
use Rattle.wdt_sender_fsm.specs.declared.peers.PeerKind.TheVariants as peers
use Rattle.wdt_sender_fsm.specs.declared.states.SendLane.{SendLane}
use Rattle.wdt_sender_fsm.specs.declared.states.SendState.{SendState}
use Rattle.wdt_sender_fsm.specs.declared.states.SendState.TheVariants as states
use Rattle.wdt_sender_fsm.specs.PlainSender.{PlainSender, opened}
use Rattle.wdt_sender_fsm.specs.Turn.{Step}

-- lane l
abbrev pub lane : ℕ → Lane
lane l = record { 0 = l }

-- connection c
abbrev pub conn : ℕ → Conn
conn c = record { 0 = c }

-- so many blocks of lane l
abbrev pub mark : ℕ → ℕ → Mark
mark l n = record { lane = lane l; count = n }

-- a lane in a state, that didn't ask
abbrev pub stands : SendState → SendLane
stands state = record { state = state; ask = true }

-- a tree of one file `a` of two bytes
abbrev pub tree : List Entry
tree = record { path = 97 ∷ []; size = 2; stamp = 0 } ∷ []

-- the file's one block
abbrev pub block : Block
block = record { file = 0; offset = 0; length = 2 }

-- an end of one lane that wrote its first settings
abbrev pub one_lane : PlainSender
one_lane = record (opened tree 4 1 (stands states.ReadLocalCheckpoint ∷ [])) { history = events.Linked (lane 0) (conn 1) ∷ [] }

-- it is told of a block that it never claimed
abbrev pub wrongly_greeted : Step
wrongly_greeted = (
  acts.Write (frames.Abort 5),
  record one_lane {
    lanes = stands states.SendAbort ∷ [];
    history = one_lane.history ++ events.Peer (lane 0) (peers.BadCheckpoint 1 0 0) ∷ [];
    answer = answers.Peer (peers.BadCheckpoint 1 0 0);
  },
)

-- it is told that none of its blocks is there
abbrev pub rightly_greeted : Step
rightly_greeted = (
  acts.Read,
  record one_lane {
    lanes = stands states.ReadFileChunks ∷ [];
    history = one_lane.history ++ events.Greet (lane 0) 0 ∷ [];
  },
)

-- an end of two lanes: the first holds the block, the second wrote its settings
abbrev pub two_lanes : PlainSender
two_lanes =
    record (opened tree 4 1 (stands states.SendBlocks ∷ stands states.ReadLocalCheckpoint ∷ [])) {
      have = Some [];
      planned = Some (block ∷ []);
      history = events.Linked (lane 0) (conn 1) ∷ events.Linked (lane 1) (conn 1) ∷ events.Greet (lane 0) 0 ∷ events.Chunks (lane 0) ∷ events.Claim (lane 0) block ∷ [];
    }

-- the second is told that everything has landed
abbrev pub done_early : Step
done_early = (
  acts.Write (frames.Abort 5),
  record two_lanes {
    lanes = stands states.SendBlocks ∷ stands states.SendAbort ∷ [];
    history = two_lanes.history ++ events.Peer (lane 1) (peers.EarlyDone 1) ∷ [];
    answer = answers.Peer (peers.EarlyDone 1);
  },
)

-- the same, where nothing was planned yet
abbrev pub two_unlisted : PlainSender
two_unlisted = record two_lanes { have = None; planned = None; history = events.Linked (lane 1) (conn 1) ∷ [] }

-- and the step that it comes to
abbrev pub done_before_a_plan : Step
done_before_a_plan = (
  acts.Write (frames.Abort 5),
  record two_unlisted {
    lanes = stands states.SendBlocks ∷ stands states.SendAbort ∷ [];
    history = two_unlisted.history ++ events.Peer (lane 1) (peers.Unexpected 2 76) ∷ [];
    answer = answers.Peer (peers.Unexpected 2 76);
  },
)

-- of two lanes the first was lost while it held the block, and couldn't be made again eight times; the
-- second said that nothing more is to come
abbrev pub half_lost : PlainSender
half_lost =
    record (opened tree 4 1 (stands states.Ended ∷ stands states.ReadReceiverCmd ∷ [])) {
      have = Some [];
      planned = Some (block ∷ []);
      history = events.Linked (lane 0) (conn 1) ∷ events.Linked (lane 1) (conn 1) ∷ events.Greet (lane 0) 0 ∷ events.Chunks (lane 0) ∷ events.Claim (lane 0) block ∷ events.Greet (lane 1) 0 ∷ events.Chunks (lane 1) ∷ events.Lost (lane 0) ∷ events.Done (lane 1) ∷ [];
    }

-- the second is told that the first is closed with none of its blocks there: it takes the block over
abbrev pub taken_over : Step
taken_over = (
  acts.SendBlock record { path = 97 ∷ []; size = 2; stamp = 0; offset = 0; length = 2 },
  record half_lost {
    lanes = stands states.Ended ∷ stands states.SendBlocks ∷ [];
    history = (half_lost.history ++ events.Global (lane 1) (lane 0) 0 ∷ []) ++ events.Claim (lane 1) block ∷ [];
  },
)
