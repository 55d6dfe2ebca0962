-- What a sender's lane has read is true, and so what the sender read of the destination is what that had.
use Rattle.std.proofs.Common.{◌≡◌, ℕ, ◌<◌, ◌||◌, Bool, true, false, List, ◌∷◌, ◌++◌, length, Option, Some, None, subst, sym, ap, ◌∙◌, refl}
use Rattle.std.proofs.lemmas.Option.{same_Some}
use Rattle.wdt_units.specs.Have.{HaveFile}
use Rattle.wdt_codec.specs.declared.frames.Frame.{Frame}
use Rattle.wdt_codec.specs.declared.frames.Frame.TheVariants as frames
use Rattle.wdt_logfmt.specs.View.{NamedFile}
use Rattle.wdt_sender_fsm.specs.declared.inputs.SendIn.{SendIn}
use Rattle.wdt_sender_fsm.specs.declared.inputs.SendIn.TheVariants as inputs
use Rattle.wdt_sender_fsm.specs.declared.states.SendState.{SendState}
use Rattle.wdt_sender_fsm.specs.declared.states.SendState.TheVariants as states
use Rattle.wdt_sender_fsm.specs.Phases.{Phase, is_abort, phase_by, phase_heard}
use Rattle.wdt_sender_fsm.specs.PlainSender.{lane_at, past_at, state_at}
use Rattle.wdt_sender_fsm.specs.Rows.{is_reading}
use Rattle.wdt_sender_fsm.specs.Touches.{AsBefore, Anew, Plans}
use Rattle.wdt_sender_fsm.specs.Turn.{send_turn}
use Rattle.wdt_receiver_fsm.specs.PlainReceiver.{have_now}
use Rattle.wdt_receiver_fsm.specs.Turn.{turn_plan}
use Rattle.wdt_receiver_fsm.proofs.ForCallers.{turn_touches}
use Rattle.wdt_pact.specs.Belongs.{SendBelongs}
use Rattle.wdt_pact.specs.Conversation.{AllTell, HeardUp, IsWord, Tells, common, is_send_out, receiving, said_there, to_say, up_sent, upward_by}
use Rattle.wdt_pact.specs.Finishing.{Finishing}
use Rattle.wdt_pact.specs.Fitting.{IsSound, lane_of}
use Rattle.wdt_pact.specs.Pairs.{SendHold, SendHas, top_by}
use Rattle.wdt_pact.specs.Stances.{Stance, Talks, send_stance, stand}
use Rattle.wdt_pact.specs.World.{PlainWorld, WorldEvent, Sends, Receives, Cut, Deny, Refuse, happens, number, pair_at, recv_turn}
use Rattle.wdt_pact.proofs.Confirming.{SenderTouches}
use Rattle.wdt_pact.proofs.Events.{recv_cases, send_cases}
use Rattle.wdt_pact.proofs.RecvRows.{ends_in, have_stays}

-- ---- what was read is true

some_word : (o : Option Phase) (free : Bool) → IsWord o free → free ≡ false → (q : Phase) × (stand false o ≡ Talks q)
some_word (Some q) free w e = (q, refl)
some_word None true w e = cc
some_word None false w e = absurd w

reading_in : (st : SendState) → is_reading st ≡ true → is_send_out st ≡ false
reading_in states.ReadLocalCheckpoint e = refl
reading_in states.ReadFileChunks e = refl
reading_in states.ReadReceiverCmd e = refl
reading_in st e = cc

or_both : (a b : Bool) → a ≡ false → b ≡ false → (a || b) ≡ false
or_both a b x y = ap (λ (c : Bool). c || b) x ∙ y

first_told : (st : Stance) (q : Phase) (P : Frame → Type 0) (u : Frame) (us : List Frame) → st ≡ Talks q → AllTell st P (u ∷ us) → P u
first_told st q P u us is all = (subst (λ (x : Stance). AllTell x P (u ∷ us)) is all).0

pub told_true : (w : PlainWorld) (l : ℕ) (frame : Frame) → IsSound w → l < length w.pairs → (pair_at w l).send ≡ SendHas (inputs.Got frame)
    → is_abort frame ≡ false
    → Tells (common w.receiver) l (receiving w.receiver l).landed frame
told_true w l frame s within holds calm =
    let at = s.talk.lanes l within in
    let reads = subst (λ (h : SendHold). SendBelongs h (lane_at w.sender l)) holds (s.belongs.send l within) in
    let heard = subst (λ (h : SendHold). HeardUp h (lane_at w.sender l)) holds at.heard_up in
    let q = some_word (phase_heard frame (phase_by (lane_at w.sender l).ask false (state_at w.sender l))) (is_send_out (state_at w.sender l) || is_abort frame) heard
    (or_both (is_send_out (state_at w.sender l)) (is_abort frame) (reading_in (state_at w.sender l) reads) calm) in
    let told = subst (λ (h : SendHold). AllTell (send_stance (lane_at w.sender l) (past_at w.sender l).is_acked h) (Tells (common w.receiver) l (receiving w.receiver l).landed)
    (upward_by (pair_at w l).newest (pair_at w l).taken h (pair_at w l).recv)) holds at.upward in
    first_told (send_stance (lane_at w.sender l) (past_at w.sender l).is_acked (SendHas (inputs.Got frame))) q.0
    (Tells (common w.receiver) l (receiving w.receiver l).landed) frame
    (up_sent (top_by (pair_at w l).newest (pair_at w l).taken) ++ said_there (pair_at w l).newest (to_say (pair_at w l).recv)) q.1 told

-- ---- what the destination had

-- that stays what it was
pub have_after : (w : PlainWorld) (e : WorldEvent) → (common (happens w e).receiver).have ≡ (common w.receiver).have
have_after w (Sends l lost) = send_cases (λ (v : PlainWorld). (common v.receiver).have ≡ (common w.receiver).have) w l lost (λ act is. refl) (λ input is. refl)
have_after w (Receives l broken) =
    recv_cases (λ (v : PlainWorld). (common v.receiver).have ≡ (common w.receiver).have) w l broken refl (λ act is. refl) (λ put hands.
    let step = recv_turn w.receiver l put broken in
    ap (λ (o : List NamedFile). have_now o step.1.history)
    (turn_touches w.receiver (number l) put step (ends_in (turn_plan w.receiver (number l) put) broken)).opening
    ∙ have_stays w.receiver.opening step.1.history w.receiver.history)
have_after w (Cut l down up) = refl
have_after w (Deny l) = refl
have_after w (Refuse l) = refl

module _ (touches : SenderTouches) where
  turn_list : (w : PlainWorld) (l : ℕ) (input : SendIn) → IsSound w → Finishing w → l < length w.pairs → (pair_at w l).send ≡ SendHas input
      → (have : List HaveFile)
      → (send_turn w.sender (number l) input).1.have ≡ Some have → have ≡ (common w.receiver).have
  turn_list w l input s f within holds have is = go (touches w.sender (number l) input).plan where
    go : Plans w.sender input (send_turn w.sender (number l) input).1 → have ≡ (common w.receiver).have
    go (AsBefore same plan) = f.list have (sym same ∙ is)
    go (Anew files given none new plan) =
        sym (same_Some files have (sym new ∙ is)) ∙ told_true w l (frames.Chunks files) s within (holds ∙ ap SendHas given) refl

  list_at : (w : PlainWorld) (e : WorldEvent) → IsSound w → Finishing w → lane_of e < length w.pairs → (have : List HaveFile)
      → (happens w e).sender.have ≡ Some have → have ≡ (common w.receiver).have
  list_at w (Sends l lost) s f within have =
      send_cases (λ (v : PlainWorld). v.sender.have ≡ Some have → have ≡ (common w.receiver).have) w l lost (λ act is. f.list have)
      (λ input is. turn_list w l input s f within is have)
  list_at w (Receives l broken) s f within have =
      recv_cases (λ (v : PlainWorld). v.sender.have ≡ Some have → have ≡ (common w.receiver).have) w l broken (f.list have) (λ act is. f.list have)
      (λ put hands. f.list have)
  list_at w (Cut l down up) s f within have = f.list have
  list_at w (Deny l) s f within have = f.list have
  list_at w (Refuse l) s f within have = f.list have

  pub list_after : (w : PlainWorld) (e : WorldEvent) → IsSound w → Finishing w → lane_of e < length w.pairs → (have : List HaveFile)
      → (happens w e).sender.have ≡ Some have → have ≡ (common (happens w e).receiver).have
  list_after w e s f within have is = list_at w e s f within have is ∙ sym (have_after w e)
