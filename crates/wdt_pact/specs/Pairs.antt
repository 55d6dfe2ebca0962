-- A lane of both ends: what each holds, the connections between them, and what performing an act makes of it.
use Rattle.std.specs.Prelude.{ℕ, zero, suc, nat_le, Bool, true, false, ◌&&◌, ◌||◌, not, if◌then◌else◌, List, [], ◌∷◌, ◌++◌, take, Option, Some, None, option_map}
use Rattle.wdt_units.specs.declared.blocks.Header.{Header}
use Rattle.wdt_codec.specs.declared.frames.Frame.{Frame}
use Rattle.wdt_sender_fsm.specs.declared.acts.SendAct.{SendAct}
use Rattle.wdt_sender_fsm.specs.declared.acts.SendAct.TheVariants as acts
use Rattle.wdt_sender_fsm.specs.declared.inputs.SendIn.{SendIn}
use Rattle.wdt_sender_fsm.specs.declared.inputs.SendIn.TheVariants as inputs
use Rattle.wdt_sender_fsm.specs.Phases.{Message, Framed, Piece, pieces_in, written_by}
use Rattle.wdt_receiver_fsm.specs.declared.acts.RecvAct.{RecvAct}
use Rattle.wdt_receiver_fsm.specs.declared.acts.RecvAct.TheVariants as recv_acts
use Rattle.wdt_receiver_fsm.specs.declared.inputs.RecvIn.{RecvIn}
use Rattle.wdt_receiver_fsm.specs.declared.inputs.RecvIn.TheVariants as recv_inputs
use Rattle.wdt_pact.specs.Links.{Link, Way, cut_link, front, is_cut, new_link, note_greeted, size_down, size_up, with_sent}

-- ---- what is held

-- what the sender's lane holds: an act that is to be performed, or an input that is to be handed in
pub data SendHold : Type 0 where
  SendDoes : SendAct → SendHold
  SendHas : SendIn → SendHold

-- what the receiver's lane holds: an act, an input, or a piece of so many bytes
pub data RecvHold : Type 0 where
  RecvDoes : RecvAct → RecvHold
  RecvHas : RecvIn → RecvHold
  RecvTook : ℕ → RecvHold

-- the sender's lane does nothing more
abbrev pub send_stops : SendHold → Bool
send_stops (SendDoes acts.Stop) = true
send_stops _ = false

-- the receiver's lane does nothing more
abbrev pub recv_stops : RecvHold → Bool
recv_stops (RecvDoes recv_acts.Stop) = true
recv_stops _ = false

-- ---- a lane

-- A lane of both ends. The receiver's lane took one connection last. Those that were made since wait for it:
-- the newest is the sender's, the others were made before it, the oldest first; and where none waits the
-- sender's is the one that was taken. Connections before the taken one are left out: nobody reads them again.
-- So many further tries to make one fail, and so many to take one.
pub record Pair : Type 0 where
  pub send : SendHold
  pub recv : RecvHold
  pub taken : Option Link
  pub between : List Link
  pub newest : Option Link
  pub denies : ℕ
  pub refusals : ℕ

-- the sender's connection: the newest that waits, or the one that was taken
abbrev pub top_by : Option Link → Option Link → Option Link
top_by None taken = taken
top_by (Some t) taken = Some t

-- a lane's connection at the sender
abbrev pub top : Pair → Option Link
top p = top_by p.newest p.taken

-- the taken connection, where the sender's stands so now
abbrev pub put_taken : Option Link → Option Link → Link → Option Link
put_taken None taken k = Some k
put_taken (Some t) taken k = taken

-- the newest that waits, where the sender's stands so now
abbrev pub put_newest : Option Link → Link → Option Link
put_newest None k = None
put_newest (Some t) k = Some k

-- the sender's connection stands so now
abbrev pub with_top : Pair → Link → Pair
with_top p k = record p { taken = put_taken p.newest p.taken k; newest = put_newest p.newest k }

-- a connection that waits, as a list
abbrev pub waits : Option Link → List Link
waits None = []
waits (Some k) = k ∷ []

-- the sender's connection is cut
abbrev pub cuts_by : Pair → ℕ → ℕ → Option Link → Pair
cuts_by p down up None = p
cuts_by p down up (Some k) = with_top p (cut_link down up k)

-- ---- what the sender's lane does

-- a write went well, or the connection is lost
abbrev pub wrote_or_lost : Bool → SendIn
wrote_or_lost true = inputs.Wrote
wrote_or_lost false = inputs.Lost

-- messages are written: that goes well on a connection that isn't cut and whose other end is there
abbrev pub send_writes : Pair → List Message → Option Link → Pair
send_writes p ms None = p
send_writes p ms (Some k) =
    record (with_top p record k { down = with_sent k.down ms }) { send = SendHas (wrote_or_lost (not (is_cut k.down) && not (recv_stops p.recv))) }

-- messages are written, and then the source fails
abbrev pub send_loses : Pair → Option Link → List Message → Bool → Pair
send_loses p None ms unwritten = p
send_loses p (Some k) ms unwritten =
    record (with_top p record k { down = with_sent k.down ms }) { send = SendHas (inputs.SourceLost unwritten) }

-- a block is written, whole or until the source fails, behind so many pieces
abbrev pub send_sends : Pair → Header → Option ℕ → Pair
send_sends p h None = send_writes p (written_by (acts.SendBlock h)) (top p)
send_sends p h (Some zero) =
    if nat_le (pieces_in h.length) 0 then send_writes p (written_by (acts.SendBlock h)) (top p) else send_loses p (top p) [] true
send_sends p h (Some (suc k)) =
    if nat_le (pieces_in h.length) (suc k) then send_writes p (written_by (acts.SendBlock h)) (top p)
    else send_loses p (top p) (take (suc (suc k)) (written_by (acts.SendBlock h))) false

-- what is at the front is read; where nothing is there, the connection is lost or nothing changes
abbrev pub send_reads_by : Pair → Link → Option (Frame × Way Frame) → Pair
send_reads_by p k (Some x) = record (with_top p record k { up = x.1 }) { send = SendHas (inputs.Got x.0) }
send_reads_by p k None = if is_cut k.up || recv_stops p.recv then record p { send = SendHas inputs.Lost } else p

-- a frame is read
abbrev pub send_reads : Pair → Option Link → Pair
send_reads p None = p
send_reads p (Some k) = send_reads_by p k (front size_up k.up)

-- a connection is made: not where a try is to fail, or the receiver's lane has stopped
abbrev pub send_dials : Pair → ℕ → Bool → Pair
send_dials p (suc n) stopped = record p { send = SendHas inputs.NoLink; denies = n }
send_dials p zero true = record p { send = SendHas inputs.NoLink }
send_dials p zero false =
    record p { send = SendHas inputs.Linked; between = p.between ++ waits p.newest; newest = Some new_link }

-- the sender's lane performs an act; the source may fail in its block, behind so many pieces
abbrev pub send_does : Pair → Option ℕ → SendAct → Pair
send_does p lost (acts.Dial c) = send_dials p p.denies (recv_stops p.recv)
send_does p lost (acts.Write frame) = send_writes p (Framed frame ∷ []) (top p)
send_does p lost (acts.SendBlock h) = send_sends p h lost
send_does p lost acts.Read = send_reads p (top p)
send_does p lost acts.Stop = p

-- ---- what the receiver's lane does

-- a write went well, or the connection is lost
abbrev pub recv_wrote_or_lost : Bool → RecvIn
recv_wrote_or_lost true = recv_inputs.Wrote
recv_wrote_or_lost false = recv_inputs.Lost

-- the sender has left the taken connection: it stopped, or made a newer one
abbrev pub send_left : Option Link → SendHold → Bool
send_left None held = send_stops held
send_left (Some t) held = true

-- a frame is written
abbrev pub recv_writes : Pair → Frame → Option Link → Pair
recv_writes p frame None = p
recv_writes p frame (Some k) =
    record p { taken = Some record k { up = with_sent k.up (frame ∷ []) }; recv = RecvHas (recv_wrote_or_lost (not (is_cut k.up) && not (send_left p.newest p.send))) }

-- nothing is there that can be taken whole
abbrev pub recv_nothing : Pair → Link → Pair
recv_nothing p k = if is_cut k.down || send_left p.newest p.send then record p { recv = RecvHas recv_inputs.Lost } else p

-- a frame at the front is read
abbrev pub recv_reads_by : Pair → Link → Option (Message × Way Message) → Pair
recv_reads_by p k (Some (Framed frame, rest)) = record p { taken = Some record k { down = rest }; recv = RecvHas (recv_inputs.Got frame) }
recv_reads_by p k (Some (Piece n, rest)) = p
recv_reads_by p k None = recv_nothing p k

-- a piece at the front is taken
abbrev pub recv_takes_by : Pair → Link → Option (Message × Way Message) → Pair
recv_takes_by p k (Some (Piece n, rest)) = record p { taken = Some record k { down = rest }; recv = RecvTook n }
recv_takes_by p k (Some (Framed frame, rest)) = p
recv_takes_by p k None = recv_nothing p k

-- a frame is read
abbrev pub recv_reads : Pair → Option Link → Pair
recv_reads p None = p
recv_reads p (Some k) = recv_reads_by p k (front size_down k.down)

-- a piece is taken
abbrev pub recv_takes : Pair → Option Link → Pair
recv_takes p None = p
recv_takes p (Some k) = recv_takes_by p k (front size_down k.down)

-- the connection that has waited longest is taken; where none waits the sender may have stopped
abbrev pub recv_accepts_by : Pair → List Link → Option Link → Pair
recv_accepts_by p (k ∷ ks) newest = record p { taken = Some k; between = ks; recv = RecvHas recv_inputs.Linked }
recv_accepts_by p [] (Some k) = record p { taken = Some k; newest = None; recv = RecvHas recv_inputs.Linked }
recv_accepts_by p [] None = if send_stops p.send then record p { recv = RecvHas recv_inputs.NoLink } else p

-- a connection is taken, unless a try is to fail
abbrev pub recv_accepts : Pair → ℕ → Pair
recv_accepts p (suc n) = record p { recv = RecvHas recv_inputs.NoLink; refusals = n }
recv_accepts p zero = recv_accepts_by p p.between p.newest

-- the receiver's lane performs an act
abbrev pub recv_does : Pair → RecvAct → Pair
recv_does p recv_acts.Accept = recv_accepts p p.refusals
recv_does p (recv_acts.Write frame) = recv_writes p frame p.taken
recv_does p recv_acts.Read = recv_reads p p.taken
recv_does p (recv_acts.TakePiece n) = recv_takes p p.taken
recv_does p recv_acts.Park = p
recv_does p recv_acts.Stop = p

-- ---- what an end gives its lane

-- the taken connection, where it is the sender's, with the note whether the sender was told its count there
abbrev pub noted_below : Option Link → Bool → Option Link → Option Link
noted_below None greeted taken = option_map (note_greeted greeted) taken
noted_below (Some t) greeted taken = taken

-- the taken connection behind an input of the sender's lane
abbrev pub noted_taken : SendIn → Bool → Option Link → Option Link → Option Link
noted_taken (inputs.Got frame) greeted newest taken = noted_below newest greeted taken
noted_taken _ greeted newest taken = taken

-- the newest that waits behind an input of the sender's lane
abbrev pub noted_newest : SendIn → Bool → Option Link → Option Link
noted_newest (inputs.Got frame) greeted newest = option_map (note_greeted greeted) newest
noted_newest _ greeted newest = newest

-- the sender's lane handed in an input and holds this act; whether it was told its count is noted
abbrev pub send_takes : Pair → SendIn → Bool → SendAct → Pair
send_takes p input greeted act =
    record p { send = SendDoes act; taken = noted_taken input greeted p.newest p.taken; newest = noted_newest input greeted p.newest }

-- the receiver's lane handed in what it held, and holds this act
abbrev pub recv_gets : Pair → RecvAct → Pair
recv_gets p act = record p { recv = RecvDoes act }
