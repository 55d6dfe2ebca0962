-- What a step of the sender's lane comes to, as the lanes together see it.
use Rattle.std.proofs.Common.{◌≡◌, ℕ, true, false, [], Option}
use Rattle.wdt_sender_fsm.specs.declared.inputs.SendIn.{SendIn}
use Rattle.wdt_sender_fsm.specs.Phases.{Phase}
use Rattle.wdt_sender_fsm.specs.PlainSender.{is_closed, lane_at, past_at, waiting_blocks}
use Rattle.wdt_sender_fsm.specs.Turn.{Step}
use Rattle.wdt_pact.specs.Conversation.{common, send_in_hand}
use Rattle.wdt_pact.specs.Finishing.{marked_in, says_done, sends_at}
use Rattle.wdt_pact.specs.Links.{Link}
use Rattle.wdt_pact.specs.Pairs.{SendDoes, SendHas}
use Rattle.wdt_pact.specs.Stances.{IsTalking, Stance, Talks, is_late, send_stance}
use Rattle.wdt_pact.specs.World.{PlainWorld}
use Rattle.wdt_pact.proofs.Busy.{IsEarly}
use Rattle.wdt_pact.proofs.Links.{is_first}

-- ---- what a step comes to

-- how the lane stands behind its step
abbrev pub stands_behind : ℕ → Step → Stance
stands_behind l step = send_stance (lane_at step.1 l) (past_at step.1 l).is_acked (SendDoes step.0)

-- the lanes of which it handed in marks it knows as closed
abbrev pub KnowsMarks : SendIn → Step → Type 0
KnowsMarks input step = (q : ℕ) → marked_in q (send_in_hand (SendHas input)) ≡ true → is_closed step.1 q ≡ true

-- it isn't about to say that nothing more is to come
abbrev pub NoWord : Step → Type 0
NoWord step = (newest : Option Link) → says_done newest (SendDoes step.0) ≡ false

-- it sends, or is to send what is sent in all: it isn't closed, and on the taken connection; behind the finish no block waits
pub record SendsOn (w : PlainWorld) (l : ℕ) (step : Step) : Type 0 where
  pub phase : Phase
  pub stands : stands_behind l step ≡ Talks phase
  pub early : IsEarly phase
  pub late : is_late phase ≡ false
  pub first : is_first phase ≡ false
  pub word : NoWord step
  pub opens : is_closed step.1 l ≡ false
  pub empty : (common w.receiver).finish ≡ true → waiting_blocks step.1 ≡ []

-- what the lanes see of a step of the sender's lane
pub data Seen (w : PlainWorld) (l : ℕ) (input : SendIn) (step : Step) : Type 0 where
  -- it says nothing more, or that its end has failed
  Hushes : (IsTalking (stands_behind l step) → ⊥) → waiting_blocks step.1 ≡ waiting_blocks w.sender → NoWord step → Seen w l input step
  -- it talks on, and the same blocks wait
  Talks-on : IsTalking (sends_at w l) → KnowsMarks input step → waiting_blocks step.1 ≡ waiting_blocks w.sender → NoWord step → Seen w l input step
  -- no block waits
  Empties : IsTalking (sends_at w l) → KnowsMarks input step → waiting_blocks step.1 ≡ [] → Seen w l input step
  -- blocks may wait that didn't
  Frees : IsTalking (sends_at w l) → KnowsMarks input step → SendsOn w l step → Seen w l input step
