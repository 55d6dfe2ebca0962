-- What a lane does fits its phase, and what may be said to it has a row.
use Rattle.std.proofs.Common.{◌≡◌, inl, inr, ℕ, ◌-◌, ◌==◌, min, Bool, true, false, if◌then◌else◌, Some, None, sym, ap, ◌∙◌, refl, eqb-true}
use Rattle.wdt_units.specs.declared.numbers.Lane.{Lane}
use Rattle.wdt_codec.specs.declared.frames.Frame.{Frame}
use Rattle.wdt_codec.specs.declared.frames.Frame.TheVariants as frames
use Rattle.wdt_sender_fsm.specs.Phases.{Asked, Bye, Framed, Listing, Met, Phase, Piece, Sending, Told, piece_from, piece_most, told, with_left}
use Rattle.wdt_receiver_fsm.specs.declared.inputs.RecvIn.TheVariants as inputs
use Rattle.wdt_receiver_fsm.specs.declared.states.RecvLane.{RecvLane}
use Rattle.wdt_receiver_fsm.specs.declared.states.RecvState.{RecvState}
use Rattle.wdt_receiver_fsm.specs.declared.states.RecvState.TheVariants as states
use Rattle.wdt_receiver_fsm.specs.Acts.{act_in, act_of}
use Rattle.wdt_receiver_fsm.specs.Phases.{AsksPiece, FitsLane, Leads, asked_by, is_named, phase_by, phase_heard, sized_by}
use Rattle.wdt_receiver_fsm.specs.PlainReceiver.{PlainReceiver, lane_at, past_at, state_at}
use Rattle.wdt_receiver_fsm.specs.ReceiverHistory.{RecvPast}
use Rattle.wdt_receiver_fsm.specs.Rows.{row_of}

-- ---- what a lane does

last_word : (idle ask : Bool) → Leads frames.Done (Some (asked_by idle ask)) (Some Bye)
last_word true ask = record { from = Asked; to = Bye; before = refl; moves = refl; after = refl }
last_word false ask = record { from = Met ask; to = Bye; before = refl; moves = refl; after = refl }

fits_in : (r : PlainReceiver) (l : Lane) (lane : RecvLane) (past : RecvPast) (state : RecvState) → lane.state ≡ state → FitsLane record lane { state = state } past (act_in r l lane state)
fits_in r l lane past states.Listen is = refl
fits_in r l lane past states.ReadSettings is = refl
fits_in r l lane past states.SendLocalCheckpoint is = inr record { from = Met lane.ask; to = told lane.ask; before = refl; moves = refl; after = refl }
fits_in r l lane past states.SendFileChunks is = inr record { from = Listing; to = Told; before = refl; moves = refl; after = refl }
fits_in r l lane past states.ReadNextCmd is = refl
fits_in r l lane past states.TakeBlock is = record { at = refl; next = refl }
fits_in r l lane past states.SendWait is = inr record { from = Asked; to = Asked; before = refl; moves = refl; after = refl }
fits_in r l lane past states.WaitForFinish is = refl
fits_in r l lane past states.SendGlobalCheckpoint is = inr record { from = Asked; to = Sending; before = refl; moves = refl; after = refl }
fits_in r l lane past states.SendDone is = inr (last_word past.is_idle lane.ask)
fits_in r l lane past states.ReadAck is = refl
fits_in r l lane past states.SendAbort is = inl (refl, refl)
fits_in r l lane past states.Ended is = refl

pub act_fits : (r : PlainReceiver) (l : Lane) → FitsLane (lane_at r l.0) (past_at r l.0) (act_of r l)
act_fits r l = fits_in r l (lane_at r l.0) (past_at r l.0) (state_at r l.0) refl

-- ---- what is said to it

no_some : {A B : Type 0} (x : A) → None ≡ Some x → B
no_some x e = absurd (cc)

unasked : (idle ask : Bool) (frame : Frame) (q : Phase) → phase_heard (Framed frame) (Some (asked_by idle ask)) ≡ Some q → ⊥
unasked true ask frame q h = no_some q h
unasked false ask frame q h = no_some q h

named_settings : (sized : Bool) (frame : Frame) (q : Phase) → phase_heard (Framed frame) (Some Rattle.wdt_sender_fsm.specs.Phases.Open) ≡ Some q → is_named (row_of sized states.ReadSettings (inputs.Got frame)) ≡ true
named_settings sized (frames.Settings s) q h = refl
named_settings sized (frames.Abort code) q h = no_some q h
named_settings sized frame q h = no_some q h

named_command : (sized : Bool) (frame : Frame) (q : Phase) → phase_heard (Framed frame) (Some (sized_by sized)) ≡ Some q → is_named (row_of sized states.ReadNextCmd (inputs.Got frame)) ≡ true
named_command false (frames.Size files bytes) q h = refl
named_command true (frames.Block header) q h = refl
named_command true frames.Done q h = refl
named_command false (frames.Abort code) q h = no_some q h
named_command true (frames.Abort code) q h = no_some q h
named_command false frame q h = no_some q h
named_command true frame q h = no_some q h

named_answer : (sized : Bool) (frame : Frame) (q : Phase) → phase_heard (Framed frame) (Some Bye) ≡ Some q → is_named (row_of sized states.ReadAck (inputs.Got frame)) ≡ true
named_answer sized frames.Done q h = refl
named_answer sized (frames.Abort code) q h = no_some q h
named_answer sized frame q h = no_some q h

over_named : (sized acked : Bool) (frame : Frame) (q : Phase) → phase_heard (Framed frame) (Rattle.wdt_sender_fsm.specs.Phases.over_if acked) ≡ Some q → is_named (row_of sized states.Ended (inputs.Got frame)) ≡ true
over_named sized true frame q h = no_some q h
over_named sized false frame q h = no_some q h

pub heard_named : (lane : RecvLane) (idle acked : Bool) (state : RecvState) (frame : Frame) (q : Phase) → phase_heard (Framed frame) (phase_by lane idle acked state) ≡ Some q → is_named (row_of lane.is_sized state (inputs.Got frame)) ≡ true
heard_named lane idle acked states.ReadSettings frame q h = named_settings lane.is_sized frame q h
heard_named lane idle acked states.ReadNextCmd frame q h = named_command lane.is_sized frame q h
heard_named lane idle acked states.ReadAck frame q h = named_answer lane.is_sized frame q h
heard_named lane idle acked states.SendDone frame q h = absurd (unasked idle lane.ask frame q h)
heard_named lane idle acked states.Ended frame q h = over_named lane.is_sized acked frame q h
heard_named lane idle acked state frame q h = no_some q h

piece_is : (left n : ℕ) (q : Phase) → piece_from left n ≡ Some q → n ≡ min left piece_most
piece_is left n q h = go (n == min left piece_most) refl
  where
    go : (b : Bool) → (n == min left piece_most) ≡ b → n ≡ min left piece_most
    go true is = eqb-true n (min left piece_most) is
    go false is = no_some q (sym (ap (λ (b : Bool). if b then Some (with_left (left - n)) else None) is) ∙ h)

no_piece : {A : Type 0} (sized : Bool) (n : ℕ) (q : Phase) → phase_heard (Piece n) (Some (sized_by sized)) ≡ Some q → A
no_piece true n q h = no_some q h
no_piece false n q h = no_some q h

pub piece_asked : (lane : RecvLane) (state : RecvState) (count : ℕ) (q : Phase) → lane.state ≡ state → phase_heard (Piece count) (phase_by lane false false state) ≡ Some q → AsksPiece lane count
piece_asked lane states.TakeBlock count q is h = record { at = is; next = piece_is lane.left count q h }
piece_asked lane states.ReadNextCmd count q is h = no_piece lane.is_sized count q h
piece_asked lane state count q is h = no_some q h
