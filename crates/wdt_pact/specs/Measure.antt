-- A number that falls at every step that changes a world.
use Rattle.std.specs.Prelude.{ℕ, zero, suc, ◌+◌, ◌-◌, ◌*◌, not, Bool, true, false, List, [], ◌∷◌, length, is_some, sum_by, Option, Some, None}
use Rattle.wdt_units.specs.declared.limits.TheConstants.{MAX_CONNECTIONS, MAX_TRIES}
use Rattle.wdt_units.specs.declared.blocks.Block.{Block}
use Rattle.wdt_codec.specs.declared.frames.Frame.{Frame}
use Rattle.wdt_codec.specs.declared.frames.Frame.TheVariants as frames
use Rattle.wdt_rest.specs.RestOf.{rest_of}
use Rattle.wdt_sender_fsm.specs.declared.acts.SendAct.TheVariants as acts
use Rattle.wdt_sender_fsm.specs.declared.inputs.SendIn.TheVariants as inputs
use Rattle.wdt_sender_fsm.specs.declared.states.SendState.{SendState}
use Rattle.wdt_sender_fsm.specs.declared.states.SendState.TheVariants as states
use Rattle.wdt_sender_fsm.specs.Phases.{Message, pieces_in}
use Rattle.wdt_sender_fsm.specs.PlainSender.{past_at, state_at, waiting_blocks}
use Rattle.wdt_sender_fsm.specs.SenderHistory.{LanePast}
use Rattle.wdt_receiver_fsm.specs.declared.inputs.RecvIn.TheVariants as recv_inputs
use Rattle.wdt_receiver_fsm.specs.declared.states.RecvLane.{RecvLane}
use Rattle.wdt_receiver_fsm.specs.declared.states.RecvState.{RecvState}
use Rattle.wdt_receiver_fsm.specs.declared.states.RecvState.TheVariants as recv_states
use Rattle.wdt_receiver_fsm.specs.PlainReceiver as recv
use Rattle.wdt_receiver_fsm.specs.ReceiverHistory.{RecvPast}
use Rattle.wdt_receiver_fsm.specs.Sets.{has}
use Rattle.wdt_pact.specs.Links.{Link, has_room, less, size_down, size_up}
use Rattle.wdt_pact.specs.Pairs.{SendHold, SendDoes, SendHas, RecvHold, RecvDoes, RecvHas, RecvTook, Pair}
use Rattle.wdt_pact.specs.World.{PlainWorld, pair_at}

-- ---- what is on its way and can still be taken whole

-- a message and those behind it, where it can be taken whole
abbrev pub weigh_by : Bool → ℕ → ℕ → ℕ
weigh_by true m rest = m + rest
weigh_by false m rest = 0

-- the messages that can be taken whole
abbrev pub weigh : {M : Type 0} → (M → ℕ) → (M → ℕ) → List M → Option ℕ → ℕ
weigh cost size [] room = 0
weigh cost size (m ∷ ms) room = weigh_by (has_room room (size m)) (cost m) (weigh cost size ms (less room (size m)))

-- a message of the sender
abbrev pub cost_down : Message → ℕ
cost_down m = 3

-- a frame of the receiver: one that tells of closed lanes lets the sender go on
abbrev pub cost_up : Frame → ℕ
cost_up (frames.ErrMarks ms) = 25
cost_up frame = 3

-- what is on its way on a connection
abbrev pub flight : Link → ℕ
flight k = weigh cost_down size_down k.down.sent k.down.room + weigh cost_up size_up k.up.sent k.up.room

-- the same, where there is one
abbrev pub flight_by : Option Link → ℕ
flight_by None = 0
flight_by (Some k) = flight k

-- ---- what each lane has still to do on its connection

-- a block of so many bytes
abbrev pub block_cost : ℕ → ℕ
block_cost n = 3 + 3 * pieces_in n

-- a block that waits
abbrev pub queued_cost : Block → ℕ
queued_cost b = 2 + block_cost b.length

-- the sender's lane, with its act
abbrev pub send_act_rank : SendState → ℕ
send_act_rank states.Connect = 3
send_act_rank states.SendSettings = 42
send_act_rank states.ReadLocalCheckpoint = 36
send_act_rank states.ReadFileChunks = 35
send_act_rank states.SendSize = 30
send_act_rank states.SendBlocks = 26
send_act_rank states.SendDone = 20
send_act_rank states.ReadReceiverCmd = 14
send_act_rank states.AnswerDone = 12
send_act_rank states.SendAbort = 6
send_act_rank states.Ended = 0

-- a frame that the sender's lane has read
abbrev pub got_rank : Frame → ℕ
got_rank (frames.ErrMarks ms) = 24
got_rank frame = 2

-- the sender's lane, with what it holds
abbrev pub send_rank : SendState → SendHold → ℕ
send_rank states.Ended held = 0
send_rank states.Connect (SendHas input) = 2
send_rank states.SendAbort (SendHas input) = 2
send_rank state (SendDoes (acts.SendBlock h)) = 23 + block_cost h.length
send_rank state (SendDoes act) = send_act_rank state
send_rank state (SendHas inputs.Wrote) = send_act_rank state - 4
send_rank state (SendHas (inputs.Got frame)) = send_act_rank state + got_rank frame
send_rank state (SendHas input) = 8

-- the receiver's lane, with its act
abbrev pub recv_act_rank : RecvState → ℕ
recv_act_rank recv_states.Listen = 3
recv_act_rank recv_states.ReadSettings = 60
recv_act_rank recv_states.SendLocalCheckpoint = 54
recv_act_rank recv_states.SendFileChunks = 48
recv_act_rank recv_states.ReadNextCmd = 42
recv_act_rank recv_states.TakeBlock = 43
recv_act_rank recv_states.SendWait = 24
recv_act_rank recv_states.WaitForFinish = 18
recv_act_rank recv_states.SendGlobalCheckpoint = 80
recv_act_rank recv_states.SendDone = 15
recv_act_rank recv_states.ReadAck = 10
recv_act_rank recv_states.SendAbort = 6
recv_act_rank recv_states.Ended = 0

-- the receiver's lane, with what it holds
abbrev pub recv_rank : RecvState → RecvHold → ℕ
recv_rank recv_states.Ended held = 0
recv_rank recv_states.Listen (RecvHas input) = 2
recv_rank recv_states.SendAbort (RecvHas input) = 2
recv_rank recv_states.SendGlobalCheckpoint (RecvHas recv_inputs.Wrote) = 54
recv_rank state (RecvDoes act) = recv_act_rank state
recv_rank state (RecvTook n) = recv_act_rank state + 2
recv_rank state (RecvHas recv_inputs.Wrote) = recv_act_rank state - 4
recv_rank state (RecvHas (recv_inputs.Got frame)) = recv_act_rank state + 2
recv_rank state (RecvHas input) = 8

-- a lane that waits for the others without having told the sender so may still tell it
abbrev pub wait_by : RecvState → Bool → ℕ
wait_by recv_states.WaitForFinish false = 8
wait_by state told = 0

-- by how the lane stands
abbrev pub wait_rank : RecvLane → ℕ
wait_rank lane = wait_by lane.state lane.has_waited

-- ---- sums over the lanes

-- f over the numbers below n
abbrev pub sum_to : ℕ → (ℕ → ℕ) → ℕ
sum_to zero f = 0
sum_to (suc n) f = sum_to n f + f n

-- both ends of a lane, and what is on its way between them
abbrev pub lane_low : SendState → RecvState → Pair → ℕ
lane_low s r p = send_rank s p.send + (recv_rank r p.recv + (flight_by p.taken + (sum_by flight p.between + flight_by p.newest)))

-- lane l
abbrev pub low_at : PlainWorld → ℕ → ℕ
low_at w l = lane_low (state_at w.sender l) (recv.state_at w.receiver l) (pair_at w l) + wait_rank (recv.lane_at w.receiver l)

-- the lanes below n
abbrev pub lows : ℕ → PlainWorld → ℕ
lows n w = sum_to n (low_at w)

-- what is still to be done on the connections as they stand
abbrev pub low : PlainWorld → ℕ
low w = sum_by queued_cost (waiting_blocks w.sender) + lows (length w.pairs) w

-- one, where it is so
abbrev pub one_if : Bool → ℕ
one_if true = 1
one_if false = 0

-- what a lane, of n, may do again: each is paid by what can be done no more
abbrev pub lane_high : ℕ → LanePast → RecvPast → ℕ
lane_high n s r =
    (2 * (MAX_CONNECTIONS - s.connections) + (MAX_TRIES - s.failed_tries))
    + (((n + 1) * (MAX_CONNECTIONS - r.takes) + (MAX_TRIES - r.failed_tries))
    + (one_if (not s.is_greeted) + (one_if (not (is_some s.claims.closed)) + sum_to n (λ q. one_if (not (has r.told q))))))

-- what n lanes may do again, and the plan
abbrev pub highs : ℕ → PlainWorld → ℕ
highs n w = one_if (not (is_some w.sender.planned)) + sum_to n (λ l. lane_high n (past_at w.sender l) (recv.past_at w.receiver l))

-- what a world may do again
abbrev pub high : PlainWorld → ℕ
high w = highs (length w.pairs) w

-- what doing it again may cost: the blocks of the plan wait again
abbrev pub weight : PlainWorld → ℕ
weight w = 100 + sum_by queued_cost (rest_of w.sender.manifest (recv.have_now w.receiver.opening w.receiver.history) w.sender.block)

-- the number
abbrev pub measure : PlainWorld → ℕ
measure w = weight w * high w + low w
