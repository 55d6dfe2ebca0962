-- The act that a lane holds: it follows from the plain sender and the lane alone.
use Rattle.std.specs.Prelude.{◌≡◌, ◌⊎◌, Bool, true, false, List, [], ◌∷◌, Option, Some, None}
use Rattle.wdt_units.specs.declared.blocks.Block.{Block}
use Rattle.wdt_units.specs.declared.numbers.Conn.{Conn}
use Rattle.wdt_units.specs.declared.numbers.Lane.{Lane}
use Rattle.wdt_codec.specs.declared.frames.Frame.TheVariants as frames
use Rattle.wdt_sender_fsm.specs.declared.acts.SendAct.{SendAct}
use Rattle.wdt_sender_fsm.specs.declared.acts.SendAct.TheVariants as acts
use Rattle.wdt_sender_fsm.specs.declared.inputs.SendIn.{SendIn}
use Rattle.wdt_sender_fsm.specs.declared.inputs.SendIn.TheVariants as inputs
use Rattle.wdt_sender_fsm.specs.declared.states.SendState.{SendState}
use Rattle.wdt_sender_fsm.specs.declared.states.SendState.TheVariants as states
use Rattle.wdt_sender_fsm.specs.PlainSender.{PlainSender, lane_at, state_at, past_at, settings_of, size_of_tree, header_of}
use Rattle.wdt_sender_fsm.specs.Rows.{is_allowed}
use Rattle.wdt_sender_fsm.specs.Rules.{code_of}
use Rattle.wdt_sender_fsm.specs.Turn.{Step, next_conn, rests}

-- the last of some blocks
abbrev pub last_of : List Block → Option Block
last_of [] = None
last_of (b ∷ []) = Some b
last_of (b ∷ c ∷ bs) = last_of (c ∷ bs)

-- the number of the lane's connection, the last that it had
abbrev pub conn_of : PlainSender → Lane → Conn
conn_of s l = record { 0 = (past_at s l.0).connections }

-- a block is written; there is one wherever a lane writes it
abbrev pub block_act : PlainSender → Option Block → SendAct
block_act s None = acts.Stop
block_act s (Some b) = acts.SendBlock (header_of s b)

-- the act that belongs to a lane's state, where the lane asked what the destination has or didn't
abbrev pub act_in : PlainSender → Lane → Bool → SendState → SendAct
act_in s l ask states.Connect = acts.Dial (next_conn s l)
act_in s l ask states.SendSettings = acts.Write (settings_of s l (conn_of s l) ask)
act_in s l ask states.ReadLocalCheckpoint = acts.Read
act_in s l ask states.ReadFileChunks = acts.Read
act_in s l ask states.SendSize = acts.Write (size_of_tree s)
act_in s l ask states.SendBlocks = block_act s (last_of (past_at s l.0).claims.kept)
act_in s l ask states.SendDone = acts.Write frames.Done
act_in s l ask states.ReadReceiverCmd = acts.Read
act_in s l ask states.AnswerDone = acts.Write frames.Done
act_in s l ask states.SendAbort = acts.Write (frames.Abort (code_of s.answer))
act_in s l ask states.Ended = acts.Stop

-- the act of a lane that stands so
abbrev pub act_of : PlainSender → Lane → SendAct
act_of s l = act_in s l (lane_at s l.0).ask (state_at s l.0)

-- what may become of an act: memory may run out in each, and behind Stop nothing comes
abbrev pub is_answer : SendAct → SendIn → Bool
is_answer acts.Stop _ = false
is_answer _ inputs.Starved = true
is_answer (acts.Dial conn) inputs.Linked = true
is_answer (acts.Dial conn) inputs.NoLink = true
is_answer (acts.Write frame) inputs.Wrote = true
is_answer (acts.Write frame) inputs.Lost = true
is_answer (acts.SendBlock header) inputs.Wrote = true
is_answer (acts.SendBlock header) inputs.Lost = true
is_answer (acts.SendBlock header) (inputs.SourceLost unwritten) = true
is_answer acts.Read (inputs.Got frame) = true
is_answer acts.Read (inputs.Bad at) = true
is_answer acts.Read inputs.Lost = true
is_answer _ _ = false

-- the act of a step is that of its lane as it stands behind it; but where the input doesn't belong to the
-- lane's state the lane does nothing more, and nothing changes
abbrev pub IsActOf : PlainSender → Lane → SendIn → Step → Type 0
IsActOf s l input step = (step.0 ≡ act_of step.1 l) ⊎ ((is_allowed (state_at s l.0) input ≡ false) × (step ≡ rests s))
