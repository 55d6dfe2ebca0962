-- What the rules before the table make of a step, and that the table has every other one.
use Rattle.std.proofs.Common.{◌≡◌, ◌≢◌, ◌⊎◌, inl, inr, ◌||◌, List, Bool, true, false, subst, sym, ap, ◌∙◌, refl}
use Rattle.std.proofs.lemmas.Bool.{both_ways}
use Rattle.wdt_units.specs.declared.numbers.Lane.{Lane}
use Rattle.wdt_sender_fsm.specs.declared.answers.EndAnswer.{EndAnswer}
use Rattle.wdt_sender_fsm.specs.declared.answers.EndAnswer.TheVariants as answers
use Rattle.wdt_sender_fsm.specs.declared.events.SendEvent.{SendEvent}
use Rattle.wdt_sender_fsm.specs.declared.inputs.SendIn.{SendIn}
use Rattle.wdt_sender_fsm.specs.declared.inputs.SendIn.TheVariants as inputs
use Rattle.wdt_sender_fsm.specs.declared.states.SendState.{SendState}
use Rattle.wdt_sender_fsm.specs.declared.states.SendState.TheVariants as states
use Rattle.wdt_sender_fsm.specs.Outcomes.{Outcome, Rested, Waited, Left, Warned, Failed, GivenUp, Redialed, Introduced, Presented, Greeted, Listed, Planned, Claimed, Emptied, Concluded, Finished, Acknowledged, came_to}
use Rattle.wdt_sender_fsm.specs.Reasons.{Serves, Fails, OfMemory, OfReceiver, OfSource, OfPlan, OfPeer, Dials, AtFirst, ByNoLink, ByLoss, Frees, BySize, ByBlock, ByMarks, Ends, Behind, AtOnce, ComesOf, GivesUp, LeavesClosed}
use Rattle.wdt_sender_fsm.specs.PlainSender.{PlainSender, state_at, is_closed, is_ended, failed}
use Rattle.wdt_sender_fsm.specs.Rows.{is_mute_at, row_of}
use Rattle.wdt_sender_fsm.specs.Rules.{is_failure, by_voice}
use Rattle.wdt_sender_fsm.specs.Turn.{Step, leaves, tells_failure, turn_row, ruled, send_turn}
use Rattle.wdt_sender_fsm.proofs.lemmas.Comes.{turn_comes, fed, other_row, lives_on, is_memory}
use Rattle.wdt_sender_fsm.proofs.lemmas.Steps.{served}

-- ---- outcomes of the table

-- the lane of an outcome of the table isn't closed, and its end hadn't failed
record IsOpen (s : PlainSender) (l : Lane) : Type 0 where
  pub is_open : is_closed s l.0 ≡ false
  pub sound : is_failure s.answer ≡ false

open_of : (s : PlainSender) (l : Lane) (state : SendState) → Serves s l state → IsOpen s l
open_of s l state at = record { is_open = at.is_open; sound = at.sound }

dials_open : (s : PlainSender) (l : Lane) (input : SendIn) (es : List SendEvent) → Dials s l input es → IsOpen s l
dials_open s l input es (AtFirst at e) = open_of s l states.Connect at
dials_open s l input es (ByNoLink at e) = open_of s l states.Connect at
dials_open s l input es (ByLoss state at linked e) = open_of s l state at

frees_open : (s : PlainSender) (l : Lane) (input : SendIn) (es : List SendEvent) → Frees s l input es → IsOpen s l
frees_open s l input es (BySize at e) = open_of s l states.SendSize at
frees_open s l input es (ByBlock at e) = open_of s l states.SendBlocks at
frees_open s l input es (ByMarks ms at e known right) = open_of s l states.ReadReceiverCmd at

ends_open : (s : PlainSender) (l : Lane) → Ends s l → IsOpen s l
ends_open s l (Behind at) = open_of s l states.ReadReceiverCmd at
ends_open s l (AtOnce at planned) = open_of s l states.ReadLocalCheckpoint at

-- a new failure is of memory, or of an open lane
fails_open : (s : PlainSender) (l : Lane) (input : SendIn) (a : EndAnswer) (mute : Bool) → Fails s l input a mute → IsOpen s l ⊎ ((s.answer ≡ answers.Going) × (a ≡ answers.NoMemory) × (mute ≡ (is_closed s l.0 || is_mute_at (state_at s l.0))))
fails_open s l input a mute (OfMemory m going e lives is) = inr (going, refl, is)
fails_open s l input a mute (OfReceiver state code at reads e) = inl (open_of s l state at)
fails_open s l input a mute (OfSource unwritten at e) = inl (open_of s l states.SendBlocks at)
fails_open s l input a mute (OfPlan kind at refuses) = inl (open_of s l states.ReadFileChunks at)
fails_open s l input a mute (OfPeer state kind at reads wrong) = inl (open_of s l state at)

-- the outcomes of the rules
abbrev is_ruled : Outcome → Bool
is_ruled Rested = true
is_ruled Left = true
is_ruled Warned = true
is_ruled (Failed a mute) = true
is_ruled o = false

table_open : (s : PlainSender) (l : Lane) (input : SendIn) (o : Outcome) → is_ruled o ≡ false → ComesOf s l input o → IsOpen s l
table_open s l input Rested e of = cc
table_open s l input Left e of = cc
table_open s l input Warned e of = cc
table_open s l input (Failed a mute) e of = cc
table_open s l input Waited e of = open_of s l states.ReadReceiverCmd of.0
table_open s l input (GivenUp es) e of = dials_open s l input es of.0
table_open s l input (Redialed es) e of = dials_open s l input es of.0
table_open s l input Introduced e of = open_of s l states.Connect of.0
table_open s l input Presented e of = open_of s l states.SendSettings of.0
table_open s l input (Greeted count) e of = open_of s l states.ReadLocalCheckpoint of.0
table_open s l input Listed e of = open_of s l states.ReadFileChunks of.1.serves
table_open s l input (Planned have) e of = open_of s l states.ReadFileChunks of.0.serves
table_open s l input (Claimed es b) e of = frees_open s l input es of.0
table_open s l input (Emptied es) e of = frees_open s l input es of.0
table_open s l input Concluded e of = open_of s l states.SendDone of.0
table_open s l input Finished e of = ends_open s l of.0
table_open s l input Acknowledged e of = open_of s l states.AnswerDone of.0

-- ---- a failed end

came_failed : (s : PlainSender) (l : Lane) (input : SendIn) (o : Outcome) → is_failure s.answer ≡ true → ComesOf s l input o → GivesUp s l (came_to s l o)
came_failed s l input Rested fails of = inl refl
came_failed s l input Left fails of = inr (inl refl)
came_failed s l input Warned fails of = inr (inr refl)
came_failed s l input (Failed a mute) fails of = go (fails_open s l input a mute of) where
  go : IsOpen s l ⊎ ((s.answer ≡ answers.Going) × (a ≡ answers.NoMemory) × (mute ≡ (is_closed s l.0 || is_mute_at (state_at s l.0)))) → GivesUp s l (came_to s l (Failed a mute))
  go (inl at) = absurd (both_ways (is_failure s.answer) at.sound fails)
  go (inr x) = absurd (both_ways (is_failure s.answer) (ap is_failure x.0) fails)
came_failed s l input o fails of = absurd (both_ways (is_failure s.answer) (table_open s l input o refl of).sound fails)

pub turn_failed : (s : PlainSender) (l : Lane) (input : SendIn) → is_failure s.answer ≡ true → GivesUp s l (send_turn s l input)
turn_failed s l input fails =
    let c = turn_comes s l input in
    subst (λ (step : Step). GivesUp s l step) (sym c.is) (came_failed s l input c.outcome fails c.of)

-- ---- a closed lane

came_closed : (s : PlainSender) (l : Lane) (input : SendIn) (o : Outcome) → is_closed s l.0 ≡ true → ComesOf s l input o → LeavesClosed s l (came_to s l o)
came_closed s l input Rested closed of = inl refl
came_closed s l input Left closed of = inr (inl refl)
came_closed s l input Warned closed of = absurd (both_ways (is_closed s l.0) of.1.is_open closed)
came_closed s l input (Failed a mute) closed of = go (fails_open s l input a mute of) where
  go : IsOpen s l ⊎ ((s.answer ≡ answers.Going) × (a ≡ answers.NoMemory) × (mute ≡ (is_closed s l.0 || is_mute_at (state_at s l.0)))) → LeavesClosed s l (came_to s l (Failed a mute))
  go (inl at) = absurd (both_ways (is_closed s l.0) at.is_open closed)
  go (inr x) = inr (inr (
      ap (λ (b : EndAnswer). came_to s l (Failed b mute)) x.1
      ∙ ap (λ (m : Bool). by_voice m (leaves (failed s answers.NoMemory) l) (tells_failure (failed s answers.NoMemory) l)) (x.2 ∙ ap (λ (b : Bool). b || is_mute_at (state_at s l.0)) closed)))
came_closed s l input o closed of = absurd (both_ways (is_closed s l.0) (table_open s l input o refl of).is_open closed)

pub turn_closed : (s : PlainSender) (l : Lane) (input : SendIn) → is_closed s l.0 ≡ true → LeavesClosed s l (send_turn s l input)
turn_closed s l input closed =
    let c = turn_comes s l input in
    subst (λ (step : Step). LeavesClosed s l step) (sym c.is) (came_closed s l input c.outcome closed c.of)

-- ---- the table

no_memory : (input : SendIn) → input ≢ inputs.Starved → is_memory input ≡ false
no_memory inputs.Starved some = absurd (some refl)
no_memory input some = refl

-- an open lane of an end that hasn't failed has its row's step
pub row_turn : (s : PlainSender) (l : Lane) (input : SendIn) → is_closed s l.0 ≡ false → is_failure s.answer ≡ false → is_ended (state_at s l.0) ≡ false → input ≢ inputs.Starved → send_turn s l input ≡ turn_row s l (row_of (state_at s l.0) input)
unfolding send_turn
row_turn s l input opens sound lives some =
    ap (λ (t : PlainSender). ruled t l (row_of (state_at s l.0) input)) (fed s l (row_of (state_at s l.0) input) (other_row s l (state_at s l.0) input (no_memory input some)))
    ∙ served s l (row_of (state_at s l.0) input) (lives_on s l (state_at s l.0) input lives) opens sound
