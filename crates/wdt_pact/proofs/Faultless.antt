-- A sender never finds fault with its receiver.
use Rattle.std.proofs.Common.{◌≡◌, ℕ, ◌<◌, ◌==◌, not, Bool, true, false, List, [], ◌∷◌, length, Option, Some, None, is_some, subst, sym, ap, ◌∙◌, refl, eq-eqb}
use Rattle.std.proofs.lemmas.Bool.{both_ways}
use Rattle.wdt_units.specs.Have.{HaveFile}
use Rattle.wdt_codec.specs.declared.frames.Frame.{Frame}
use Rattle.wdt_codec.specs.declared.frames.Frame.TheVariants as frames
use Rattle.wdt_codec.specs.declared.frames.Mark.{Mark}
use Rattle.wdt_sender_fsm.specs.declared.answers.EndAnswer.{EndAnswer}
use Rattle.wdt_sender_fsm.specs.declared.answers.EndAnswer.TheVariants as answers
use Rattle.wdt_sender_fsm.specs.declared.events.SendEvent.TheVariants as events
use Rattle.wdt_sender_fsm.specs.declared.inputs.SendIn.{SendIn}
use Rattle.wdt_sender_fsm.specs.declared.inputs.SendIn.TheVariants as inputs
use Rattle.wdt_sender_fsm.specs.declared.peers.PeerKind.{PeerKind}
use Rattle.wdt_sender_fsm.specs.declared.states.SendState.{SendState}
use Rattle.wdt_sender_fsm.specs.declared.states.SendState.TheVariants as states
use Rattle.wdt_sender_fsm.specs.Chunks.{different_at, unordered_at}
use Rattle.wdt_sender_fsm.specs.Faults.{count_fault, has_stranger, is_unexpected, marks_fault}
use Rattle.wdt_sender_fsm.specs.Outcomes.{Outcome, Rested, Waited, Failed, Greeted, came_to}
use Rattle.wdt_sender_fsm.specs.Phases.{Phase, is_abort, is_named, phase_by, phase_heard}
use Rattle.wdt_sender_fsm.specs.PlainSender.{PlainSender, lane_at, noted, past_at, state_at, unfinished_blocks}
use Rattle.wdt_sender_fsm.specs.Reasons as reasons
use Rattle.wdt_sender_fsm.specs.Rows.{is_reading, row_of}
use Rattle.wdt_sender_fsm.specs.Rules.{judged}
use Rattle.wdt_sender_fsm.specs.Turn.{greeted_by, send_turn}
use Rattle.wdt_pact.specs.Belongs.{SendBelongs}
use Rattle.wdt_pact.specs.Conversation.{common}
use Rattle.wdt_pact.specs.Finishing.{Finishing}
use Rattle.wdt_pact.specs.Fitting.{AreOfLanes, IsSound, lane_of}
use Rattle.wdt_pact.specs.Pairs.{SendHold, SendHas}
use Rattle.wdt_pact.specs.World.{PlainWorld, WorldEvent, Sends, Receives, Cut, Deny, Refuse, all_happen, happens, number, pair_at}
use Rattle.wdt_pact.proofs.Agreeing.{have_after, told_true}
use Rattle.wdt_pact.proofs.Beginning.{sends_named}
use Rattle.wdt_pact.proofs.Confirming.{SoundLanes}
use Rattle.wdt_pact.proofs.Counting.{greeting_right, marks_right}
use Rattle.wdt_pact.proofs.Events.{recv_cases, send_cases}
use Rattle.wdt_pact.proofs.SendSeen as send_seen
use Rattle.wdt_pact.proofs.TellingAll.{SenderComes}
use Rattle.wdt_pact.proofs.Worlds.{many_stay, never_early, word_finished}

-- ---- answers

-- no answer becomes a fault of the receiver by what the lanes are at
judged_keeps : (answer : EndAnswer) (a b : Bool) (kind : PeerKind) → judged answer a b ≡ answers.Peer kind → answer ≡ answers.Peer kind
judged_keeps answers.Going true b kind e = cc
judged_keeps answers.Going false true kind e = cc
judged_keeps answers.Going false false kind e = cc
judged_keeps answers.Done true b kind e = cc
judged_keeps answers.Done false true kind e = cc
judged_keeps answers.Done false false kind e = cc
judged_keeps answers.Link true b kind e = cc
judged_keeps answers.Link false true kind e = cc
judged_keeps answers.Link false false kind e = cc
judged_keeps answer a b kind e = e

greeted_keeps : (t : PlainSender) (l : ℕ) (ask : Bool) (kind : PeerKind) → (greeted_by t (number l) ask).1.answer ≡ answers.Peer kind
    → t.answer ≡ answers.Peer kind
greeted_keeps t l true kind e = judged_keeps t.answer _ _ kind e
greeted_keeps t l false kind e = judged_keeps t.answer _ _ kind e

-- ---- frames that may not come

data Odd (n l : ℕ) (known : Bool) (st : SendState) (f : Frame) : Type 0 where
  OtherLane : (m : Mark) → f ≡ frames.Greeting m → st ≡ states.ReadLocalCheckpoint → not (m.lane.0 == l) ≡ true → Odd n l known st f
  NoPlan : f ≡ frames.Done → not known ≡ true → Odd n l known st f
  Strangers : (ms : List Mark) → f ≡ frames.ErrMarks ms → st ≡ states.ReadReceiverCmd → has_stranger n l ms ≡ true → Odd n l known st f

odd_frame : (n l : ℕ) (known : Bool) (st : SendState) (f : Frame) → is_reading st ≡ true → (is_abort f ≡ false → is_named (row_of st (inputs.Got f)) ≡ true)
    → is_unexpected n l known (row_of st (inputs.Got f)) ≡ true → Odd n l known st f
odd_frame n l known states.ReadLocalCheckpoint (frames.Abort code) r named u = cc
odd_frame n l known states.ReadFileChunks (frames.Abort code) r named u = cc
odd_frame n l known states.ReadReceiverCmd (frames.Abort code) r named u = cc
odd_frame n l known states.ReadLocalCheckpoint (frames.Greeting m) r named u = OtherLane m refl refl u
odd_frame n l known states.ReadLocalCheckpoint frames.Done r named u = NoPlan refl u
odd_frame n l known states.ReadReceiverCmd (frames.ErrMarks ms) r named u = Strangers ms refl refl u
odd_frame n l known st (frames.Abort code) r named u = cc
odd_frame n l known st f r named u = let x = named refl in cc

-- ---- a turn of the sender's lane

module _ (sounds : SoundLanes) (comes : SenderComes)
    (hears : (state : SendState) (ask acked : Bool) (frame : Frame) (q : Phase) → phase_heard frame (phase_by ask acked state) ≡ Some q → is_named (row_of state (inputs.Got frame)) ≡ true)
    (same : (first later : List HaveFile) → first ≡ later → different_at first later ≡ None) where
  module _ (w : PlainWorld) (l : ℕ) (input : SendIn) (s : IsSound w) (f : Finishing w) (ordered : unordered_at (common w.receiver).have ≡ None)
      (within : l < length w.pairs) (holds : (pair_at w l).send ≡ SendHas input) where
    belongs : SendBelongs (SendHas input) (lane_at w.sender l)
    belongs = subst (λ (h : SendHold). SendBelongs h (lane_at w.sender l)) holds (s.belongs.send l within)

    has : (i : SendIn) → input ≡ i → (pair_at w l).send ≡ SendHas i
    has i given = holds ∙ ap SendHas given

    none_some : {A : Type 0} {P : Type 0} (o : Option A) (x : A) → o ≡ None → o ≡ Some x → P
    none_some o x e y = let z : None ≡ Some x = sym e ∙ y in cc

    odd_not : (st : SendState) (fr : Frame) → state_at w.sender l ≡ st → input ≡ inputs.Got fr → Odd (length w.sender.lanes) l (is_some w.sender.have) st fr → ⊥
    odd_not st fr here given (OtherLane m is at other) =
        both_ways true
        (sym other ∙ ap not (eq-eqb m.lane.0 l (greeting_right sounds w s.talk l m within (here ∙ at) (has (inputs.Got (frames.Greeting m)) (given ∙ ap inputs.Got is))).0)) refl
    odd_not st fr here given (NoPlan is none) =
        both_ways true (sym none ∙ ap not (f.planned (word_finished w l s within (has (inputs.Got frames.Done) (given ∙ ap inputs.Got is))))) refl
    odd_not st fr here given (Strangers ms is at strange) =
        both_ways (has_stranger (length w.sender.lanes) l ms)
        (marks_right sounds w s.talk l ms within (here ∙ at) (has (inputs.Got (frames.ErrMarks ms)) (given ∙ ap inputs.Got is))).0 strange

    mistake_not : (st : SendState) (kind : PeerKind) → state_at w.sender l ≡ st → is_reading st ≡ true → reasons.Mistakes w.sender (number l) st input kind → ⊥
    mistake_not st kind here reads (reasons.NoFrame at given is) =
        send_seen.hands_not comes w l input s.talk f.empty f.planned within holds belongs (inputs.Bad at) given (λ b. b)
    mistake_not st kind here reads (reasons.NoPlace fr given unexpected is) =
        odd_not st fr here given (odd_frame (length w.sender.lanes) l (is_some w.sender.have) st fr reads
        (λ calm. subst (λ (x : SendState). is_named (row_of x (inputs.Got fr)) ≡ true) here (sends_named hears w l fr s within (has (inputs.Got fr) given) calm))
        (subst (λ (i : SendIn). is_unexpected (length w.sender.lanes) l (is_some w.sender.have) (row_of st i) ≡ true) given unexpected))
    mistake_not st kind here reads (reasons.WrongCount m given at own fault) =
        none_some (count_fault (past_at w.sender l).claims m.count) kind
        (greeting_right sounds w s.talk l m within (here ∙ at) (has (inputs.Got (frames.Greeting m)) given)).1 fault
    mistake_not st kind here reads (reasons.WrongMarks ms given at known fault) =
        none_some (marks_fault w.sender.history ms) kind
        (marks_right sounds w s.talk l ms within (here ∙ at) (has (inputs.Got (frames.ErrMarks ms)) given)).1 fault
    mistake_not st kind here reads (reasons.WrongOrder have at given is fault kinds) =
        none_some (unordered_at have) at
        (ap unordered_at (told_true w l (frames.Chunks have) s within (has (inputs.Got (frames.Chunks have)) given) refl) ∙ ordered) fault
    mistake_not st kind here reads (reasons.OtherList have first at given is order listed fault kinds) =
        none_some (different_at first have) at
        (same first have (f.list first listed ∙ sym (told_true w l (frames.Chunks have) s within (has (inputs.Got (frames.Chunks have)) given) refl))) fault
    mistake_not st kind here reads (reasons.TooEarly given known early kinds) =
        both_ways (unfinished_blocks w.sender == 0) early (ap (λ (n : ℕ). n == 0) (never_early w l s f within (has (inputs.Got frames.Done) given)))

    failing : (answer : EndAnswer) (mute : Bool) (kind : PeerKind) → reasons.Fails w.sender (number l) input answer mute
        → (came_to w.sender (number l) (Failed answer mute)).1.answer ≡ answers.Peer kind → w.sender.answer ≡ answers.Peer kind
    failing answer mute kind (reasons.OfMemory m going given here is) e =
        send_seen.hands_not comes w l input s.talk f.empty f.planned within holds belongs inputs.Starved given (λ b. b)
    failing answer mute kind (reasons.OfReceiver st code serves reads given) e = cc
    failing answer mute kind (reasons.OfSource true serves given) e = cc
    failing answer mute kind (reasons.OfSource false serves given) e = cc
    failing answer mute kind (reasons.OfPlan refused serves refuses) e = cc
    failing answer mute kind (reasons.OfPeer st found serves reads mistake) e = absurd (mistake_not st found serves.here reads mistake)

    outcome_keeps : (o : Outcome) (kind : PeerKind) → reasons.ComesOf w.sender (number l) input o
        → (came_to w.sender (number l) o).1.answer ≡ answers.Peer kind → w.sender.answer ≡ answers.Peer kind
    outcome_keeps Rested kind of e = e
    outcome_keeps Waited kind of e = e
    outcome_keeps (Failed answer mute) kind of e = failing answer mute kind of e
    outcome_keeps (Greeted count) kind of e = greeted_keeps (noted w.sender (events.Greet (number l) count ∷ [])) l (lane_at w.sender l).ask kind e
    outcome_keeps o kind of e = judged_keeps w.sender.answer _ _ kind e

    turn_keeps : (kind : PeerKind) → (send_turn w.sender (number l) input).1.answer ≡ answers.Peer kind → w.sender.answer ≡ answers.Peer kind
    turn_keeps kind e = let x = comes w.sender (number l) input in outcome_keeps x.outcome kind x.of (ap (λ (y : _). y.1.answer) (sym x.is) ∙ e)

  -- ---- whatever happens

  pub faultless_after : (w : PlainWorld) (e : WorldEvent) (kind : PeerKind) → IsSound w → Finishing w → unordered_at (common w.receiver).have ≡ None
      → lane_of e < length w.pairs → (happens w e).sender.answer ≡ answers.Peer kind → w.sender.answer ≡ answers.Peer kind
  faultless_after w (Sends l lost) kind s f ordered within =
      send_cases (λ (v : PlainWorld). v.sender.answer ≡ answers.Peer kind → w.sender.answer ≡ answers.Peer kind) w l lost (λ act is e. e)
      (λ input is. turn_keeps w l input s f ordered within is kind)
  faultless_after w (Receives l broken) kind s f ordered within =
      recv_cases (λ (v : PlainWorld). v.sender.answer ≡ answers.Peer kind → w.sender.answer ≡ answers.Peer kind) w l broken (λ e. e) (λ act is e. e)
      (λ put hands e. e)
  faultless_after w (Cut l down up) kind s f ordered within = λ e. e
  faultless_after w (Deny l) kind s f ordered within = λ e. e
  faultless_after w (Refuse l) kind s f ordered within = λ e. e

-- ---- worlds behind many events

pub all_faultless : (good : PlainWorld → Type 0) → ((w : PlainWorld) → good w → IsSound w × Finishing w)
    → ((w : PlainWorld) (e : WorldEvent) → good w → lane_of e < length w.pairs → good (happens w e))
    →
    ((w : PlainWorld) (e : WorldEvent) (kind : PeerKind) → IsSound w → Finishing w → unordered_at (common w.receiver).have ≡ None → lane_of e < length w.pairs → (happens w e).sender.answer ≡ answers.Peer kind
    → w.sender.answer ≡ answers.Peer kind)
    → (es : List WorldEvent) (w : PlainWorld) (kind : PeerKind) → good w → unordered_at (common w.receiver).have ≡ None → AreOfLanes (length w.pairs) es →
    (all_happen w es).sender.answer ≡ answers.Peer kind → w.sender.answer ≡ answers.Peer kind
all_faultless good parts keeps one [] w kind g ordered of e = e
all_faultless good parts keeps one (d ∷ es) w kind g ordered of e =
    let p = parts w g in
    one w d kind p.0 p.1 ordered of.0
    (all_faultless good parts keeps one es (happens w d) kind (keeps w d g of.0) (ap unordered_at (have_after w d) ∙ ordered) (subst (λ (n : ℕ). AreOfLanes n es) (sym (many_stay w d)) of.1) e)

-- an end that begins has found none
pub none_first : {P : Type 0} (kind : PeerKind) → answers.Going ≡ answers.Peer kind → P
none_first kind e = cc
