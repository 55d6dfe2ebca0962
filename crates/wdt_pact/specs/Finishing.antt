-- What holds of the lanes together: who takes the blocks that wait, and which closed lanes the sender knows of.
use Rattle.std.specs.Prelude.{◌≡◌, ◌⊎◌, ℕ, ◌<◌, ◌==◌, ◌||◌, Bool, true, false, List, [], ◌++◌, length, is_some, Option, Some, None}
use Rattle.std.specs.List.{list_any}
use Rattle.wdt_units.specs.Have.{HaveFile}
use Rattle.wdt_codec.specs.declared.frames.Frame.{Frame}
use Rattle.wdt_codec.specs.declared.frames.Frame.TheVariants as frames
use Rattle.wdt_codec.specs.declared.frames.Mark.{Mark}
use Rattle.wdt_sender_fsm.specs.declared.acts.SendAct.TheVariants as acts
use Rattle.wdt_sender_fsm.specs.Phases.{Message, Framed}
use Rattle.wdt_sender_fsm.specs.PlainSender.{is_closed, waiting_blocks}
use Rattle.wdt_sender_fsm.specs.Rules.{is_failure}
use Rattle.wdt_sender_fsm.specs.SenderHistory.{end_of as sender_end}
use Rattle.wdt_receiver_fsm.specs.PlainReceiver as recv
use Rattle.wdt_receiver_fsm.specs.PlainReceiver.{have_now}
use Rattle.wdt_receiver_fsm.specs.Ready.{is_confirmed}
use Rattle.wdt_receiver_fsm.specs.ReceiverHistory.{end_of}
use Rattle.wdt_receiver_fsm.specs.Sets.{has}
use Rattle.wdt_pact.specs.Fitting.{GoesDown}
use Rattle.wdt_pact.specs.Links.{Link}
use Rattle.wdt_pact.specs.Pairs.{SendHold, SendDoes}
use Rattle.wdt_pact.specs.World.{PlainWorld, pair_at}
use Rattle.wdt_pact.specs.Stances.{Stance, Talks, IsTalking}
use Rattle.wdt_pact.specs.Lists.{has_done, in_hand}
use Rattle.wdt_pact.specs.Conversation.{receives, receiving, send_in_hand, sending, sends, to_say, up_sent}

-- how the sender's lane l stands
abbrev pub sends_at : PlainWorld → ℕ → Stance
sends_at w l = sends (sending w.sender l) (pair_at w l)

-- how the receiver's lane l stands
abbrev pub receives_at : PlainWorld → ℕ → Stance
receives_at w l = receives (receiving w.receiver l) (pair_at w l)

-- ---- a last word that is coming

-- the sender's lane is about to say that nothing more is to come, on the taken connection
abbrev pub says_done : Option Link → SendHold → Bool
says_done None (SendDoes (acts.Write frames.Done)) = true
says_done _ _ = false

-- the word comes to a lane that listens
abbrev pub coming_on : Stance → List Message → Bool → Bool
coming_on (Talks q) ds says = has_done ds || says
coming_on _ ds says = false

-- what goes down on a connection
abbrev pub down_sent : Option Link → List Message
down_sent None = []
down_sent (Some k) = k.down.sent

-- the sender's word that nothing more is to come on lane l was read and not stepped, is on its way, or is about
-- to be written
abbrev pub is_coming : PlainWorld → ℕ → Bool
is_coming w l = coming_on (receives_at w l) (in_hand (pair_at w l).recv ++ down_sent (pair_at w l).taken) (says_done (pair_at w l).newest (pair_at w l).send)

-- ---- a lane that may still take blocks

-- the closed lanes of which lane l told since it was idle last
abbrev pub telling : PlainWorld → ℕ → List ℕ
telling w l = (recv.past_at w.receiver l).telling

-- an open lane that asks for the end neither now nor soon; a closed lane that isn't confirmed, nor soon
abbrev pub BusyBy : Bool → PlainWorld → ℕ → Type 0
BusyBy false w l = ((recv.past_at w.receiver l).is_idle ≡ false) × (is_coming w l ≡ false)
BusyBy true w l = (is_confirmed w.receiver.history l ≡ false) × ((k : ℕ) → k < length w.pairs → has (telling w k) l ≡ true → is_coming w k ≡ false)

-- lane l may still take blocks, or its blocks will go to one that may
abbrev pub IsBusy : PlainWorld → ℕ → Type 0
IsBusy w l = BusyBy (recv.past_at w.receiver l).is_closed w l

-- ---- a lane that was told to another

-- a frame tells of a closed lane
abbrev pub marks_lane : ℕ → Frame → Bool
marks_lane q (frames.ErrMarks ms) = list_any (λ (m : Mark). m.lane.0 == q) ms
marks_lane q frame = false

-- some frame does
abbrev pub marked_in : ℕ → List Frame → Bool
marked_in q us = list_any (marks_lane q) us

-- Lane l told of lane q since it was idle last: the sender knows it as closed, or the mark is about to be
-- written, or is on its way to a sender that listens, or the sender says nothing more there and its last word
-- isn't on its way.
abbrev pub IsTelling : PlainWorld → ℕ → ℕ → Type 0
IsTelling w l q =
    (is_closed w.sender q ≡ true)
    ⊎ ((marked_in q (to_say (pair_at w l).recv) ≡ true)
    ⊎ (((pair_at w l).newest ≡ None) × IsTalking (sends_at w l) × (marked_in q (send_in_hand (pair_at w l).send ++ up_sent (pair_at w l).taken) ≡ true)
    ⊎ ((((pair_at w l).newest ≡ None) → IsTalking (sends_at w l) → ⊥) × (has_done (in_hand (pair_at w l).recv ++ down_sent (pair_at w l).taken) ≡ false))))

-- ---- a plan

-- what is sent in all is told by a sender that has a plan
abbrev pub ComesOfPlan : Bool → Message → Type 0
ComesOfPlan planned (Framed (frames.Size files bytes)) = planned ≡ true
ComesOfPlan planned message = Unit {0}

-- ---- all lanes together

pub record Finishing (w : PlainWorld) : Type 0 where
  -- of a closed lane that a lane with a phase tells of, the sender knows or will know, or it is past asking
  pub tellings : (l q : ℕ) → l < length w.pairs → IsTalking (receives_at w l) → has (telling w l) q ≡ true → IsTelling w l q
  -- a confirmed lane is closed at the sender
  pub confirmed : (q : ℕ) → is_confirmed w.receiver.history q ≡ true → is_closed w.sender q ≡ true
  -- as long as blocks wait, some lane may still take them
  pub witness : is_failure w.receiver.answer ≡ false → (waiting_blocks w.sender ≡ [] → ⊥) → (l : ℕ) × (l < length w.pairs) × IsBusy w l
  -- a finish that is ready has come
  pub ready : is_failure w.receiver.answer ≡ false → recv.can_finish w.receiver ≡ true → recv.has_finish w.receiver ≡ true
  -- what is sent in all is told, and was read, only where the sender has a plan
  pub tells : (l : ℕ) → l < length w.pairs → GoesDown (ComesOfPlan (is_some w.sender.have)) (pair_at w l)
  pub sized : ((end_of w.receiver.history).sized ≡ None → ⊥) → is_some w.sender.have ≡ true
  -- what the sender read of the destination is what that had
  pub list : (have : List HaveFile) → w.sender.have ≡ Some have → have ≡ have_now w.receiver.opening w.receiver.history
  -- the sender has read the last word only where the finish has come
  pub finished : (sender_end w.sender.history).has_finish ≡ true → recv.has_finish w.receiver ≡ true
  -- behind the finish no block waits, and the sender has a plan
  pub empty : recv.has_finish w.receiver ≡ true → waiting_blocks w.sender ≡ []
  pub planned : recv.has_finish w.receiver ≡ true → is_some w.sender.have ≡ true
