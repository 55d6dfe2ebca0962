-- A world of two plain ends and their connections, by messages, and what each event makes of it. Whether the
-- source fails in a block, and which program of calls on the disk fails, is said with the event.
use Rattle.std.specs.Prelude.{ℕ, zero, suc, List, [], ◌∷◌, length, replicate, slice_get, slice_set, Option, Some, None}
use Rattle.wdt_units.specs.declared.numbers.Conn.{Conn}
use Rattle.wdt_units.specs.declared.numbers.Lane.{Lane}
use Rattle.wdt_logfmt.specs.View.{Meaning}
use Rattle.wdt_tree.specs.declared.entry.Entry.{Entry}
use Rattle.wdt_sender_fsm.specs.declared.acts.SendAct.TheVariants as acts
use Rattle.wdt_sender_fsm.specs.declared.inputs.SendIn.{SendIn}
use Rattle.wdt_sender_fsm.specs.PlainSender.{PlainSender, new_lane, opened, past_at}
use Rattle.wdt_sender_fsm.specs.Turn.{send_turn, Step as SendStep}
use Rattle.wdt_receiver_fsm.specs.declared.acts.RecvAct.TheVariants as recv_acts
use Rattle.wdt_receiver_fsm.specs.declared.inputs.RecvIn.TheVariants as recv_inputs
use Rattle.wdt_receiver_fsm.specs.Plan.{Plan, calls, ends}
use Rattle.wdt_receiver_fsm.specs.PlainReceiver as recv
use Rattle.wdt_receiver_fsm.specs.PlainReceiver.{PlainReceiver}
use Rattle.wdt_receiver_fsm.specs.Turn.{Put, Given, Bytes, turn_plan, Step as RecvStep}
use Rattle.wdt_pact.specs.Pairs.{Pair, SendHold, SendDoes, SendHas, RecvHold, RecvDoes, RecvHas, RecvTook, cuts_by, recv_does, recv_gets, send_does, send_takes, top}

-- a world: both ends, and each lane of them
pub record PlainWorld : Type 0 where
  pub sender : PlainSender
  pub receiver : PlainReceiver
  pub pairs : List Pair

-- ---- its lanes

-- a lane that isn't there: both ends have stopped
abbrev pub no_pair : Pair
no_pair =
    record { send = SendDoes acts.Stop; recv = RecvDoes recv_acts.Stop; taken = None; between = []; newest = None; denies = 0; refusals = 0 }

-- a lane, or that of none
abbrev pub pair_or : Option Pair → Pair
pair_or None = no_pair
pair_or (Some p) = p

-- lane l
abbrev pub pair_at : PlainWorld → ℕ → Pair
pair_at w l = pair_or (slice_get w.pairs l)

-- lane l stands so now
abbrev pub with_pair : PlainWorld → ℕ → Pair → PlainWorld
with_pair w l p = record w { pairs = slice_set w.pairs l p }

-- a lane by its number
abbrev pub number : ℕ → Lane
number l = record { 0 = l }

-- ---- a step of the sender's lane

-- the lane handed in an input, which came to a step
abbrev pub send_turned : PlainWorld → ℕ → SendIn → SendStep → PlainWorld
send_turned w l input step =
    record (with_pair w l (send_takes (pair_at w l) input (past_at step.1 l).is_greeted step.0)) { sender = step.1 }

-- by what the lane holds
abbrev pub send_steps_by : PlainWorld → ℕ → Option ℕ → SendHold → PlainWorld
send_steps_by w l lost (SendDoes act) = with_pair w l (send_does (pair_at w l) lost act)
send_steps_by w l lost (SendHas input) = send_turned w l input (send_turn w.sender (number l) input)

-- the sender's lane performs its act, or hands its input in; the source may fail behind so many pieces
abbrev pub send_steps : PlainWorld → ℕ → Option ℕ → PlainWorld
send_steps w l lost = send_steps_by w l lost (pair_at w l).send

-- ---- a step of the receiver's lane

-- what a plan ends in, where the program of this place fails, from 0, or none does
abbrev pub ended : {S : Type 0} → Plan S → Option ℕ → S
ended (ends s) broken = s
ended (calls f s next) None = ended next None
ended (calls f s next) (Some zero) = s
ended (calls f s next) (Some (suc n)) = ended next (Some n)

-- bytes of a piece; what they are makes no difference to the act and the plain receiver behind a step
abbrev pub some_bytes : ℕ → List ℕ
some_bytes n = replicate n 0

-- the step of a lane that hands something in
abbrev pub recv_turn : PlainReceiver → ℕ → Put → Option ℕ → RecvStep
recv_turn r l put broken = ended (turn_plan r (number l) put) broken

-- the lane handed in what it held, which came to a step
abbrev pub recv_turned : PlainWorld → ℕ → RecvStep → PlainWorld
recv_turned w l step = record (with_pair w l (recv_gets (pair_at w l) step.0)) { receiver = step.1 }

-- a lane that waits and is to wait on has changed nothing
abbrev pub recv_woken : PlainWorld → ℕ → RecvStep → PlainWorld
recv_woken w l (recv_acts.Park, r) = w
recv_woken w l step = recv_turned w l step

-- by what the lane holds
abbrev pub recv_steps_by : PlainWorld → ℕ → Option ℕ → RecvHold → PlainWorld
recv_steps_by w l broken (RecvDoes recv_acts.Park) = recv_woken w l (recv_turn w.receiver l (Given recv_inputs.Woken) broken)
recv_steps_by w l broken (RecvDoes act) = with_pair w l (recv_does (pair_at w l) act)
recv_steps_by w l broken (RecvHas input) = recv_turned w l (recv_turn w.receiver l (Given input) broken)
recv_steps_by w l broken (RecvTook n) = recv_turned w l (recv_turn w.receiver l (Bytes (some_bytes n)) broken)

-- the receiver's lane performs its act, or hands in what it holds; one program of its calls on the disk may fail
abbrev pub recv_steps : PlainWorld → ℕ → Option ℕ → PlainWorld
recv_steps w l broken = recv_steps_by w l broken (pair_at w l).recv

-- ---- events

-- what may happen to a world, each time on one lane
pub data WorldEvent : Type 0 where
  -- the sender's lane takes a step; the source may fail in its block, behind so many pieces
  Sends : ℕ → Option ℕ → WorldEvent
  -- the receiver's lane takes a step; one program of its calls may fail
  Receives : ℕ → Option ℕ → WorldEvent
  -- the sender's connection is cut: so many bytes can still be taken down and up
  Cut : ℕ → ℕ → ℕ → WorldEvent
  -- one more try to make a connection fails
  Deny : ℕ → WorldEvent
  -- one more try to take a connection fails
  Refuse : ℕ → WorldEvent

-- the world behind an event
abbrev pub happens : PlainWorld → WorldEvent → PlainWorld
happens w (Sends l lost) = send_steps w l lost
happens w (Receives l broken) = recv_steps w l broken
happens w (Cut l down up) = let p = pair_at w l in with_pair w l (cuts_by p down up (top p))
happens w (Deny l) = let p = pair_at w l in with_pair w l record p { denies = suc p.denies }
happens w (Refuse l) = let p = pair_at w l in with_pair w l record p { refusals = suc p.refusals }

-- the world behind some events, one after the other
abbrev pub all_happen : PlainWorld → List WorldEvent → PlainWorld
all_happen w [] = w
all_happen w (e ∷ es) = all_happen (happens w e) es

-- ---- a world that begins

-- both ends of a lane hold their first act, and there is no connection
abbrev pub first_pair : Conn → Pair
first_pair conn =
    record { send = SendDoes (acts.Dial conn); recv = RecvDoes recv_acts.Accept; taken = None; between = []; newest = None; denies = 0; refusals = 0 }

-- a sender of this tree and a receiver that opened this log, with n lanes, each of which is to make its first connection
abbrev pub first_world : List Entry → (block session : ℕ) → Meaning → (batch n : ℕ) → Conn → PlainWorld
first_world manifest block session log batch n conn =
    record {
      sender = opened manifest block session (replicate n new_lane);
      receiver = recv.opened log batch (replicate n recv.new_lane);
      pairs = replicate n (first_pair conn);
    }

-- ---- settling

-- the lanes below n take a step each, the receiver's first
abbrev pub round_to : ℕ → PlainWorld → PlainWorld
round_to zero w = w
round_to (suc l) w = let v = round_to l w in send_steps (recv_steps v l None) l None

-- a round: each lane takes a step
abbrev pub round_of : PlainWorld → PlainWorld
round_of w = round_to (length w.pairs) w

-- so many rounds
abbrev pub rounds : ℕ → PlainWorld → PlainWorld
rounds zero w = w
rounds (suc n) w = rounds n (round_of w)
