-- The sender has read the receiver's last word only where the finish has come: so where it is done, all has landed.
use Rattle.std.proofs.Common.{◌≡◌, ◌⊎◌, inl, inr, ℕ, ◌<◌, ◌&&◌, Bool, true, false, List, [], ◌∷◌, ◌++◌, length, subst, sym, ap, ◌∙◌, refl, append-nil}
use Rattle.std.proofs.lemmas.Bool.{and_parts}
use Rattle.wdt_units.specs.declared.numbers.Lane.{Lane}
use Rattle.wdt_codec.specs.declared.frames.Frame.TheVariants as frames
use Rattle.wdt_codec.specs.declared.frames.Mark.{Mark}
use Rattle.wdt_sender_fsm.specs.declared.answers.EndAnswer.{EndAnswer}
use Rattle.wdt_sender_fsm.specs.declared.answers.EndAnswer.TheVariants as answers
use Rattle.wdt_sender_fsm.specs.declared.events.SendEvent.{SendEvent}
use Rattle.wdt_sender_fsm.specs.declared.events.SendEvent.TheVariants as events
use Rattle.wdt_sender_fsm.specs.declared.inputs.SendIn.{SendIn}
use Rattle.wdt_sender_fsm.specs.declared.inputs.SendIn.TheVariants as inputs
use Rattle.wdt_sender_fsm.specs.Outcomes.{Makes, Outcome, Failed, GivenUp, Redialed, Claimed, Emptied, Finished, came_to, entries_of, failure_entries}
use Rattle.wdt_sender_fsm.specs.PlainSender.{PlainSender, every_lane, is_done_with, is_out}
use Rattle.wdt_sender_fsm.specs.Reasons as reasons
use Rattle.wdt_sender_fsm.specs.Rules.{judged, standing}
use Rattle.wdt_sender_fsm.specs.SenderHistory.{EndPast, end_from, end_of}
use Rattle.wdt_sender_fsm.specs.Turn.{Step, globals, send_turn}
use Rattle.wdt_receiver_fsm.specs.PlainReceiver.{has_finish}
use Rattle.wdt_receiver_fsm.specs.declared.events.RecvEvent.{RecvEvent}
use Rattle.wdt_receiver_fsm.specs.declared.events.RecvEvent.TheVariants as recv_events
use Rattle.wdt_receiver_fsm.specs.ReceiverHistory as recv_history
use Rattle.wdt_receiver_fsm.specs.Turn.{turn_plan}
use Rattle.wdt_receiver_fsm.proofs.ForCallers.{turn_touches}
use Rattle.wdt_pact.specs.Finishing.{Finishing}
use Rattle.wdt_pact.specs.Fitting.{IsSound, lane_of}
use Rattle.wdt_pact.specs.Pairs.{SendHas}
use Rattle.wdt_pact.specs.World.{PlainWorld, WorldEvent, Sends, Receives, Cut, Deny, Refuse, happens, number, pair_at, recv_turn}
use Rattle.wdt_pact.proofs.Agreeing.{told_true}
use Rattle.wdt_pact.proofs.Events.{recv_cases, send_cases}
use Rattle.wdt_pact.proofs.RecvRows.{ends_in}
use Rattle.wdt_pact.proofs.TellingAll.{SenderComes}

abbrev pub SenderMakes : Type 0
SenderMakes = (s : PlainSender) (l : Lane) (o : Outcome) → Makes s l o (came_to s l o).1

-- ---- entries that aren't the last word

globals_finish : (p : EndPast) (l : Lane) (ms : List Mark) (tail : List SendEvent)
    → (end_from p (globals l ms ++ tail)).has_finish ≡ (end_from p tail).has_finish
globals_finish p l [] tail = refl
globals_finish p l (m ∷ ms) tail = globals_finish p l ms tail

failure_finish : (p : EndPast) (l : Lane) (answer : EndAnswer) → (end_from p (failure_entries l answer)).has_finish ≡ p.has_finish
failure_finish p l (answers.Aborted code) = refl
failure_finish p l (answers.Peer kind) = refl
failure_finish p l answer = refl

dials_finish : (s : PlainSender) (l : ℕ) (input : SendIn) (p : EndPast) (es tail : List SendEvent) → reasons.Dials s (number l) input es
    → (end_from p tail).has_finish ≡ p.has_finish → (end_from p (es ++ tail)).has_finish ≡ p.has_finish
dials_finish s l input p es tail (reasons.AtFirst serves given) e = e
dials_finish s l input p es tail (reasons.ByNoLink serves given) e = e
dials_finish s l input p es tail (reasons.ByLoss st serves allowed given) e = e

frees_finish : (s : PlainSender) (l : ℕ) (input : SendIn) (p : EndPast) (es tail : List SendEvent) → reasons.Frees s (number l) input es
    → (end_from p tail).has_finish ≡ p.has_finish → (end_from p (es ++ tail)).has_finish ≡ p.has_finish
frees_finish s l input p es tail (reasons.BySize serves given) e = e
frees_finish s l input p es tail (reasons.ByBlock serves given) e = e
frees_finish s l input p es tail (reasons.ByMarks ms serves given strangers fault) e = globals_finish p (number l) ms tail ∙ e

-- ---- a turn of the sender's lane

module _ (comes : SenderComes) (makes : SenderMakes) where
  -- either the last word was in hand, or nothing is noted of it
  noted_finish : (s : PlainSender) (l : ℕ) (input : SendIn) (o : Outcome) → reasons.ComesOf s (number l) input o
      → (input ≡ inputs.Got frames.Done) ⊎ ((end_from (end_of s.history) (entries_of s (number l) o)).has_finish ≡ (end_of s.history).has_finish)
  noted_finish s l input (Failed answer mute) of = inr (failure_finish (end_of s.history) (number l) answer)
  noted_finish s l input (GivenUp es) of = inr (dials_finish s l input (end_of s.history) es (events.Quit (number l) ∷ []) of.0 refl)
  noted_finish s l input (Redialed es) of =
      inr
      (subst (λ (xs : List SendEvent). (end_from (end_of s.history) xs).has_finish ≡ (end_of s.history).has_finish) (append-nil es) (dials_finish s l input (end_of s.history) es [] of.0 refl))
  noted_finish s l input (Claimed es b) of = inr (frees_finish s l input (end_of s.history) es (events.Claim (number l) b ∷ []) of.0 refl)
  noted_finish s l input (Emptied es) of =
      inr
      (subst (λ (xs : List SendEvent). (end_from (end_of s.history) xs).has_finish ≡ (end_of s.history).has_finish) (append-nil es) (frees_finish s l input (end_of s.history) es [] of.0 refl))
  noted_finish s l input Finished of = inl of.1
  noted_finish s l input o of = inr refl

  turn_finished : (w : PlainWorld) (l : ℕ) (input : SendIn) → IsSound w → Finishing w → l < length w.pairs → (pair_at w l).send ≡ SendHas input
      → (end_of (send_turn w.sender (number l) input).1.history).has_finish ≡ true → has_finish w.receiver ≡ true
  turn_finished w l input s f within holds e =
      let x = comes w.sender (number l) input in
      let m = makes w.sender (number l) x.outcome in
      elim (noted_finish w.sender l input x.outcome x.of) [
        | inl given ↦ told_true w l frames.Done s within (holds ∙ ap SendHas given) refl
        | inr same ↦ f.finished (sym (ap (λ (p : EndPast). p.has_finish) m.end ∙ same) ∙ (ap (λ (y : Step). (end_of y.1.history).has_finish) (sym x.is) ∙ e))
      ]

  -- ---- whatever happens

  pub finished_after : ((w : PlainWorld) (e : WorldEvent) → has_finish w.receiver ≡ true → has_finish (happens w e).receiver ≡ true)
      → (w : PlainWorld) (e : WorldEvent) → IsSound w → Finishing w → lane_of e < length w.pairs →
      (end_of (happens w e).sender.history).has_finish ≡ true → has_finish (happens w e).receiver ≡ true
  finished_after stays w e s f within x = stays w e (at w e s f within x) where
    at : (w : PlainWorld) (e : WorldEvent) → IsSound w → Finishing w → lane_of e < length w.pairs → (end_of (happens w e).sender.history).has_finish ≡ true
        → has_finish w.receiver ≡ true
    at w (Sends l lost) s f within =
        send_cases (λ (v : PlainWorld). (end_of v.sender.history).has_finish ≡ true → has_finish w.receiver ≡ true) w l lost (λ act is. f.finished)
        (λ input is. turn_finished w l input s f within is)
    at w (Receives l broken) s f within =
        recv_cases (λ (v : PlainWorld). (end_of v.sender.history).has_finish ≡ true → has_finish w.receiver ≡ true) w l broken f.finished
        (λ act is. f.finished) (λ put hands. f.finished)
    at w (Cut l down up) s f within = f.finished
    at w (Deny l) s f within = f.finished
    at w (Refuse l) s f within = f.finished

-- ---- a finish that has come stays

finish_from : (p : recv_history.EndPast) (es : List RecvEvent) → p.has_finish ≡ true → (recv_history.end_from p es).has_finish ≡ true
finish_from p [] e = e
finish_from p (x ∷ es) e = finish_from (recv_history.end_after p x) es (one x) where
  one : (x : RecvEvent) → recv_history.has_finish_after p.has_finish x ≡ true
  one recv_events.Finish = refl
  one x = e

pub finish_stays : (w : PlainWorld) (e : WorldEvent) → has_finish w.receiver ≡ true → has_finish (happens w e).receiver ≡ true
finish_stays w (Sends l lost) come = send_cases (λ (v : PlainWorld). has_finish v.receiver ≡ true) w l lost (λ act is. come) (λ input is. come)
finish_stays w (Receives l broken) come =
    recv_cases (λ (v : PlainWorld). has_finish v.receiver ≡ true) w l broken come (λ act is. come) (λ put hands.
    let step = recv_turn w.receiver l put broken in
    let touched = turn_touches w.receiver (number l) put step (ends_in (turn_plan w.receiver (number l) put) broken) in
    ap (λ (g : List RecvEvent). (recv_history.end_of g).has_finish) touched.history.behind
    ∙ (ap (λ (p : recv_history.EndPast). p.has_finish) (recv_history.end_of-append w.receiver.history touched.history.entries)
    ∙ finish_from (recv_history.end_of w.receiver.history) touched.history.entries come))
finish_stays w (Cut l down up) come = come
finish_stays w (Deny l) come = come
finish_stays w (Refuse l) come = come

-- ---- a sender that is done

standing_done : (a b : Bool) → standing a b ≡ answers.Done → a ≡ true
standing_done true b e = refl
standing_done false true e = cc
standing_done false false e = cc

pub done_finished : (w : PlainWorld) → IsSound w → Finishing w → w.sender.answer ≡ answers.Done → has_finish w.receiver ≡ true
done_finished w s f is =
    let over : Bool = every_lane w.sender is_out in
    let all : Bool = (end_of w.sender.history).has_finish && every_lane w.sender is_done_with in
    f.finished (and_parts (end_of w.sender.history).has_finish (every_lane w.sender is_done_with)
    (standing_done all over (ap (λ (a : EndAnswer). judged a all over) (sym is) ∙ (sym s.talk.sender.answer.follows ∙ is)))).0
