-- Which lanes can move, and what is needed for it: readers listen in phases in which the other end has the word,
-- what is written is a move, and what was left behind is cut.
use Rattle.std.specs.Prelude.{◌≡◌, ◌⊎◌, ℕ, ◌||◌, nat_lt, Bool, true, false, List, [], ◌∷◌, is_some, Option, Some, None}
use Rattle.wdt_sender_fsm.specs.declared.acts.SendAct.TheVariants as acts
use Rattle.wdt_sender_fsm.specs.declared.inputs.SendIn.TheVariants as inputs
use Rattle.wdt_sender_fsm.specs.declared.states.SendState.{SendState}
use Rattle.wdt_sender_fsm.specs.declared.states.SendState.TheVariants as states
use Rattle.wdt_sender_fsm.specs.Phases.{Phase, Open, Met, Listing, Told, Sending, Mid, Asked, Bye, Framed, down, up, is_abort}
use Rattle.wdt_receiver_fsm.specs.declared.acts.RecvAct.TheVariants as recv_acts
use Rattle.wdt_receiver_fsm.specs.declared.inputs.RecvIn.TheVariants as recv_inputs
use Rattle.wdt_receiver_fsm.specs.declared.states.RecvState.{RecvState}
use Rattle.wdt_receiver_fsm.specs.declared.states.RecvState.TheVariants as recv_states
use Rattle.wdt_receiver_fsm.specs.Turn.{Given}
use Rattle.wdt_pact.specs.Each.{Each}
use Rattle.wdt_pact.specs.Links.{Link, front, is_cut, size_down, size_up}
use Rattle.wdt_pact.specs.Pairs.{SendHold, SendDoes, SendHas, RecvHold, RecvDoes, RecvHas, RecvTook, Pair, recv_stops, send_left, send_stops, top_by}
use Rattle.wdt_pact.specs.Stances.{Stance, Talks, Aborts, Silent}
use Rattle.wdt_pact.specs.World.{PlainWorld, pair_at, recv_turn}

-- ---- which end can move

-- the sender's reader finds something on this connection, or nothing more can come
abbrev pub up_gives : Option Link → RecvHold → Bool
up_gives None r = false
up_gives (Some k) r = is_some (front size_up k.up) || (is_cut k.up || recv_stops r)

-- the receiver's reader does
abbrev pub down_gives : Option Link → Option Link → SendHold → Bool
down_gives newest None s = false
down_gives newest (Some k) s = is_some (front size_down k.down) || (is_cut k.down || send_left newest s)

-- the sender's lane can move, where its reader finds something or doesn't
abbrev pub send_moves_by : SendHold → Bool → Bool
send_moves_by (SendHas input) gives = true
send_moves_by (SendDoes acts.Stop) gives = false
send_moves_by (SendDoes acts.Read) gives = gives
send_moves_by (SendDoes act) gives = true

-- the sender's lane can move
abbrev pub send_moves : Pair → Bool
send_moves p = send_moves_by p.send (up_gives (top_by p.newest p.taken) p.recv)

-- a list isn't empty
abbrev pub has_some : {A : Type 0} → List A → Bool
has_some [] = false
has_some (x ∷ xs) = true

-- the receiver's lane can move, where a try to take a connection comes to something or doesn't, and its reader
-- finds something or doesn't
abbrev pub recv_moves_by : RecvHold → (accepts gives : Bool) → Bool
recv_moves_by (RecvHas input) accepts gives = true
recv_moves_by (RecvTook n) accepts gives = true
recv_moves_by (RecvDoes recv_acts.Accept) accepts gives = accepts
recv_moves_by (RecvDoes recv_acts.Read) accepts gives = gives
recv_moves_by (RecvDoes (recv_acts.TakePiece n)) accepts gives = gives
recv_moves_by (RecvDoes recv_acts.Stop) accepts gives = false
recv_moves_by (RecvDoes recv_acts.Park) accepts gives = false
recv_moves_by (RecvDoes act) accepts gives = true

-- the receiver's lane can move
abbrev pub recv_moves : Pair → Bool
recv_moves p = recv_moves_by p.recv (nat_lt 0 p.refusals || (has_some p.between || (is_some p.newest || send_stops p.send))) (down_gives p.newest p.taken p.send)

-- the receiver's lane waits for other lanes
abbrev pub is_parked : RecvHold → Bool
is_parked (RecvDoes recv_acts.Park) = true
is_parked _ = false

-- an end of the lane can move, or its receiver waits for other lanes, or both ends have stopped
abbrev pub Moves : Pair → Type 0
Moves p = (send_moves p ≡ true) ⊎ ((recv_moves p ≡ true) ⊎ ((is_parked p.recv ≡ true) ⊎ ((send_stops p.send ≡ true) × (recv_stops p.recv ≡ true))))

-- ---- what is needed

-- the sender reads in this phase
abbrev pub send_listens : Phase → Bool
send_listens (Met ask) = true
send_listens Listing = true
send_listens Asked = true
send_listens _ = false

-- the receiver does
abbrev pub recv_listens : Phase → Bool
recv_listens Open = true
recv_listens Told = true
recv_listens Sending = true
recv_listens (Mid left) = true
recv_listens Bye = true
recv_listens _ = false

-- an end that reads talks, in a phase in which it listens
abbrev pub Listens : (Phase → Bool) → Stance → Type 0
Listens f (Talks q) = f q ≡ true
Listens f _ = ⊥

-- the sender's lane reads where it listens
abbrev pub SendReads : SendHold → Stance → Type 0
SendReads (SendDoes acts.Read) st = Listens send_listens st
SendReads _ st = Unit {0}

-- the receiver's lane does
abbrev pub RecvReads : RecvHold → Stance → Type 0
RecvReads (RecvDoes recv_acts.Read) st = Listens recv_listens st
RecvReads (RecvDoes (recv_acts.TakePiece n)) st = Listens recv_listens st
RecvReads _ st = Unit {0}

-- what the sender's lane is about to write is a move of its phase, or it tells of a failure
abbrev pub SendWrites : SendHold → Stance → Type 0
SendWrites (SendDoes (acts.Write frame)) (Talks p) = (q : Phase) × (down p (Framed frame) ≡ Some q)
SendWrites (SendDoes (acts.Write frame)) Aborts = is_abort frame ≡ true
SendWrites (SendDoes (acts.Write frame)) Silent = ⊥
SendWrites _ st = Unit {0}

-- what the receiver's lane is about to write is one
abbrev pub RecvWrites : RecvHold → Stance → Type 0
RecvWrites (RecvDoes (recv_acts.Write frame)) (Talks p) = (q : Phase) × (up p frame ≡ Some q)
RecvWrites (RecvDoes (recv_acts.Write frame)) Aborts = is_abort frame ≡ true
RecvWrites (RecvDoes (recv_acts.Write frame)) Silent = ⊥
RecvWrites _ st = Unit {0}

-- ---- what was left behind

-- nothing more can come on a connection, but what was written before a cut
abbrev pub IsCut : Link → Type 0
IsCut k = (is_cut k.down ≡ true) × (is_cut k.up ≡ true)

-- the same, where there is one
abbrev pub IsCutBy : Option Link → Type 0
IsCutBy None = Unit {0}
IsCutBy (Some k) = IsCut k

-- the sender's lane has no connection any more, or none yet
abbrev pub is_send_off : SendHold → SendState → Bool
is_send_off (SendHas inputs.Lost) state = true
is_send_off (SendHas inputs.Linked) state = false
is_send_off (SendHas inputs.Starved) state = false
is_send_off held states.Connect = true
is_send_off held _ = false

-- the receiver's lane has none
abbrev pub is_recv_off : RecvHold → RecvState → Bool
is_recv_off (RecvHas recv_inputs.Lost) state = true
is_recv_off (RecvHas recv_inputs.Linked) state = false
is_recv_off (RecvHas recv_inputs.Starved) state = false
is_recv_off held recv_states.Listen = true
is_recv_off held _ = false

-- What an end has left behind is cut: where a newer connection waits, all that were made before it; the sender's,
-- where its lane has none or the receiver has stopped; and the taken one, where the receiver's lane has none, the
-- sender has stopped or a newer one waits.
pub record AreCut (send : SendState) (recv : RecvState) (p : Pair) : Type 0 where
  pub older : (p.newest ≡ None → ⊥) → IsCutBy p.taken × Each IsCut p.between
  pub sender : is_send_off p.send send ≡ true → IsCutBy (top_by p.newest p.taken) ⊎ (recv_stops p.recv ≡ true)
  pub receiver : is_recv_off p.recv recv ≡ true → IsCutBy p.taken ⊎ (send_left p.newest p.send ≡ true)

-- ---- both directions

-- both directions of a connection are cut, or neither is
abbrev pub IsEven : Link → Type 0
IsEven k = is_cut k.down ≡ is_cut k.up

-- the same, where there is one
abbrev pub IsEvenBy : Option Link → Type 0
IsEvenBy None = Unit {0}
IsEvenBy (Some k) = IsEven k

-- the same of all connections of a lane
pub record AreEven (p : Pair) : Type 0 where
  pub taken : IsEvenBy p.taken
  pub between : Each IsEven p.between
  pub newest : IsEvenBy p.newest

-- ---- a lane

-- its readers listen, what it writes are moves, a lane that takes a connection has none, and what was left
-- behind is cut
pub record Holds (ss rs : Stance) (send : SendState) (recv : RecvState) (p : Pair) : Type 0 where
  pub send_reads : SendReads p.send ss
  pub recv_reads : RecvReads p.recv rs
  pub send_writes : SendWrites p.send ss
  pub recv_writes : RecvWrites p.recv rs
  pub accepts : p.recv ≡ RecvDoes recv_acts.Accept → recv ≡ recv_states.Listen
  pub cut : AreCut send recv p

-- ---- a world

-- once woken, the receiver's lane doesn't wait on, whichever program of its calls on the disk fails
abbrev pub Wakes : PlainWorld → ℕ → Type 0
Wakes w l = (broken : Option ℕ) → is_parked (RecvDoes (recv_turn w.receiver l (Given recv_inputs.Woken) broken).0) ≡ false

-- an end of the lane can move, or its receiver waits for other lanes, and doesn't wait on once woken
abbrev pub GoesOn : PlainWorld → ℕ → Type 0
GoesOn w l = (send_moves (pair_at w l) ≡ true) ⊎ ((recv_moves (pair_at w l) ≡ true) ⊎ ((is_parked (pair_at w l).recv ≡ true) × Wakes w l))

-- both ends of the lane have stopped
abbrev pub HasStopped : PlainWorld → ℕ → Type 0
HasStopped w l = (send_stops (pair_at w l).send ≡ true) × (recv_stops (pair_at w l).recv ≡ true)
