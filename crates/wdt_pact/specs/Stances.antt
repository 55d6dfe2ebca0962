-- How each end stands on a connection, and what is on its way there.
use Rattle.std.specs.Prelude.{◌≡◌, ◌⊎◌, Bool, true, false, List, [], ◌∷◌, ◌++◌, Option, Some, None}
use Rattle.wdt_codec.specs.declared.frames.Frame.{Frame}
use Rattle.wdt_sender_fsm.specs.declared.inputs.SendIn.TheVariants as inputs
use Rattle.wdt_sender_fsm.specs.declared.states.SendLane.{SendLane}
use Rattle.wdt_sender_fsm.specs.declared.states.SendState.{SendState}
use Rattle.wdt_sender_fsm.specs.declared.states.SendState.TheVariants as states
use Rattle.wdt_sender_fsm.specs.Phases.{Phase, Open, Mid, Asked, Bye, Over, Message, Framed, down, up, phase_of, phase_holding, is_abort}
use Rattle.wdt_sender_fsm.specs.Talk.{Talk, moved}
use Rattle.wdt_receiver_fsm.specs.declared.states.RecvLane.{RecvLane}
use Rattle.wdt_receiver_fsm.specs.declared.states.RecvState.{RecvState}
use Rattle.wdt_receiver_fsm.specs.declared.states.RecvState.TheVariants as recv_states
use Rattle.wdt_receiver_fsm.specs.Phases as recv
use Rattle.wdt_pact.specs.Each.{Each}
use Rattle.wdt_pact.specs.Links.{Link}
use Rattle.wdt_pact.specs.Pairs.{SendHold, SendDoes, SendHas, RecvHold, RecvDoes, RecvHas, RecvTook}

-- an end on a connection: it talks, what it holds counted as said or heard; it is about to say that it
-- failed; or it says nothing more
pub data Stance : Type 0 where
  Talks : Phase → Stance
  Aborts : Stance
  Silent : Stance

-- the stance of a lane that has a phase, or is about to say that its end failed, or neither
abbrev pub stand : Bool → Option Phase → Stance
stand aborts (Some p) = Talks p
stand true None = Aborts
stand false None = Silent

-- the sender's lane is about to say that its end failed
abbrev pub send_aborts : SendState → Bool
send_aborts states.SendAbort = true
send_aborts _ = false

-- the sender's lane has a connection, and isn't about to say so
abbrev pub has_link : SendState → Bool
has_link states.Connect = false
has_link states.SendAbort = false
has_link states.Ended = false
has_link _ = true

-- how the sender's lane stands; where the source failed before anything of a block was written, it is to say so
abbrev pub send_stance : SendLane → Bool → SendHold → Stance
send_stance lane acked (SendDoes act) = stand (send_aborts lane.state) (phase_of lane acked)
send_stance lane acked (SendHas (inputs.SourceLost true)) = Aborts
send_stance lane acked (SendHas input) = stand false (phase_holding lane input)

-- the receiver's lane is about to say that its end failed
abbrev pub recv_aborts : RecvState → Bool
recv_aborts recv_states.SendAbort = true
recv_aborts _ = false

-- how the receiver's lane stands
abbrev pub recv_stance : RecvLane → Bool → Bool → RecvHold → Stance
recv_stance lane idle acked (RecvDoes act) = stand (recv_aborts lane.state) (recv.phase_by lane idle acked lane.state)
recv_stance lane idle acked (RecvHas input) = stand false (recv.phase_holding lane idle input)
recv_stance lane idle acked (RecvTook n) = stand false (recv.phase_taking lane n)

-- ---- what is on its way to an end that listens

-- all of it has its move
pub record Follows {M : Type 0} (move : Phase → M → Option Phase) (p : Phase) (ms : List M) : Type 0 where
  pub at : Phase
  pub moves : moved move ms p ≡ Some at

-- all of it has its move, and a failure may be told behind it
pub record Rests {M : Type 0} (move : Phase → M → Option Phase) (calm : Phase → Bool) (p : Phase) (ms : List M) : Type 0 where
  pub at : Phase
  pub moves : moved move ms p ≡ Some at
  pub calm_at : calm at ≡ true

-- some messages, and one that tells of a failure
pub record Fails {M : Type 0} (move : Phase → M → Option Phase) (calm : Phase → Bool) (fails : M → Bool) (p : Phase) (ms : List M) : Type 0 where
  pub before : List M
  pub last : M
  pub all : ms ≡ before ++ last ∷ []
  pub failure : fails last ≡ true
  pub rests : Rests move calm p before

-- all of it has its move, but for a failure that is told last
abbrev pub Hears : {M : Type 0} → (Phase → M → Option Phase) → (Phase → Bool) → (M → Bool) → Phase → List M → Type 0
Hears {M} move calm fails p ms = Follows move p ms ⊎ Fails move calm fails p ms

-- ---- a connection between two stances

-- what one end says is ds by down, what the other says is us by up; a failure is told only in a calm phase
abbrev pub Between : {D U : Type 0} → (Phase → D → Option Phase) → (Phase → U → Option Phase) → (D → Bool) → (U → Bool) → (Phase → Bool) → (Phase → Bool)
    → Stance → Stance → List D → List U → Type 0
Between down up fd fu cd cu (Talks s) (Talks r) ds us = Talk down up s r ds us
Between down up fd fu cd cu (Talks s) Aborts ds us = Rests up cu s us
Between down up fd fu cd cu (Talks s) Silent ds us = Hears up cu fu s us
Between down up fd fu cd cu Aborts (Talks r) ds us = Rests down cd r ds
Between down up fd fu cd cu Silent (Talks r) ds us = Hears down cd fd r ds
Between down up fd fu cd cu _ _ ds us = Unit {0}

-- the sender may tell of a failure: no block is half written
abbrev pub is_calm : Phase → Bool
is_calm (Mid left) = false
is_calm _ = true

-- the receiver may tell of one in any phase
abbrev pub is_any : Phase → Bool
is_any p = true

-- the sender has said that nothing more is to come
abbrev pub is_late : Phase → Bool
is_late Asked = true
is_late Bye = true
is_late Over = true
is_late _ = false

-- an end that talks is past that word
abbrev pub IsLate : Stance → Type 0
IsLate (Talks p) = is_late p ≡ true
IsLate _ = Unit {0}

-- an end talks
abbrev pub IsTalking : Stance → Type 0
IsTalking (Talks p) = Unit {0}
IsTalking _ = ⊥

-- a message tells that the sender has failed
abbrev pub is_abort_down : Message → Bool
is_abort_down (Framed frame) = is_abort frame
is_abort_down _ = false

-- what is on its way between the sender and the receiver fits their stances
abbrev pub OnLink : Stance → Stance → List Message → List Frame → Type 0
OnLink = Between down up is_abort_down is_abort is_calm is_any

-- the ends' stances fit a connection
abbrev pub Agree : Stance → Stance → Link → Type 0
Agree s r k = OnLink s r k.down.sent k.up.sent

-- the sender's stance on the connection that the receiver took: none where a newer one waits
abbrev pub send_there : Option Link → Stance → Stance
send_there None s = s
send_there (Some t) s = Silent

-- the ends' stances fit the taken connection: without one neither says anything
abbrev pub AgreeOn : Stance → Stance → Option Link → Type 0
AgreeOn s r None = (s ≡ Silent) × (r ≡ Silent)
AgreeOn s r (Some k) = Agree s r k

-- on a connection that waits the receiver will listen from the start
abbrev pub AgreeWaiting : Stance → Option Link → Type 0
AgreeWaiting s None = Unit {0}
AgreeWaiting s (Some t) = Agree s (Talks Open) t

-- the ends' stances fit all their connections: on those between, the sender says nothing more
pub record Agrees (s r : Stance) (taken : Option Link) (between : List Link) (newest : Option Link) : Type 0 where
  pub on_taken : AgreeOn (send_there newest s) r taken
  pub waiting : Each (Agree Silent (Talks Open)) between
  pub on_newest : AgreeWaiting s newest
