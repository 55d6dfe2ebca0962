-- What each outcome makes of a plain sender.
use Rattle.std.proofs.Common.{◌≡◌, ℕ, ◌<◌, List, [], ◌∷◌, ◌++◌, length, slice_get, Bool, true, false, Option, None, IfSome, subst, sym, ap, ◌∙◌, refl, is_some, append-nil}
use Rattle.wdt_units.specs.declared.numbers.Lane.{Lane}
use Rattle.wdt_sender_fsm.specs.declared.answers.EndAnswer.{EndAnswer}
use Rattle.wdt_sender_fsm.specs.declared.answers.EndAnswer.TheVariants as answers
use Rattle.wdt_sender_fsm.specs.declared.events.SendEvent.{SendEvent}
use Rattle.wdt_sender_fsm.specs.declared.events.SendEvent.TheVariants as events
use Rattle.wdt_sender_fsm.specs.declared.states.SendLane.{SendLane}
use Rattle.wdt_sender_fsm.specs.declared.states.SendState.TheVariants as states
use Rattle.wdt_sender_fsm.specs.Outcomes.{Outcome, Rested, Waited, Left, Warned, Failed, GivenUp, Redialed, Introduced, Presented, Greeted, Listed, Planned, Claimed, Emptied, Concluded, Finished, Acknowledged, came_to, failing, entries_of, failure_entries, failed_state, greeted_state, in_state, have_behind, planned_behind, lane_behind, failure_by, Makes}
use Rattle.wdt_sender_fsm.specs.PlainSender.{PlainSender, lane_at, past_at, noted, with_lane}
use Rattle.wdt_sender_fsm.specs.Rules.{is_failure, by_voice}
use Rattle.wdt_sender_fsm.specs.SenderHistory.{past_of, end_of}
use Rattle.wdt_sender_fsm.specs.Turn.{next_conn, leaves, tells_failure, with_plan, greeted_by}
use Rattle.wdt_sender_fsm.proofs.lemmas.Behind.{past_behind, end_behind}
use Rattle.wdt_sender_fsm.proofs.lemmas.Endings.{put_answer}
use Rattle.wdt_sender_fsm.proofs.lemmas.Steps.{lane_set}

module _ (s : PlainSender) (l : Lane) where
  -- the history, the plan and the lane, from which the rest follows
  made : (o : Outcome) (t : PlainSender) → t.history ≡ s.history ++ entries_of s l o → t.have ≡ have_behind s o → t.planned ≡ planned_behind s o
      → (l.0 < length s.lanes → lane_at t l.0 ≡ lane_behind (is_some s.have) (lane_at s l.0) o) → IfSome (failure_by o) (λ answer. is_failure answer ≡ true → t.answer ≡ answer) → Makes s l o t
  made o t history have planned lane fails =
      record {
        history = history;
        pasts = λ k. ap (λ (h : List SendEvent). past_of h k) history ∙ past_behind s.history (entries_of s l o) k;
        end = ap end_of history ∙ end_behind s.history (entries_of s l o);
        have = have;
        planned = planned;
        lane = lane;
        fails = fails;
      }

  -- a lane that was put, on an end that has no new failure
  put : (o : Outcome) (t : PlainSender) → t.history ≡ s.history ++ entries_of s l o → t.have ≡ have_behind s o → t.planned ≡ planned_behind s o → t.lanes ≡ s.lanes → failure_by o ≡ None → Makes s l o (with_lane t l (lane_behind (is_some s.have) (lane_at s l.0) o))
  put o t history have planned lanes fails =
      made o (with_lane t l (lane_behind (is_some s.have) (lane_at s l.0) o)) history have planned
      (λ within. lane_set t l (lane_behind (is_some s.have) (lane_at s l.0) o) (subst (λ (xs : List SendLane). l.0 < length xs) (sym lanes) within))
      (subst (λ (x : Option EndAnswer). IfSome x (λ answer. is_failure answer ≡ true → (with_lane t l (lane_behind (is_some s.have) (lane_at s l.0) o)).answer ≡ answer)) (sym fails) tt)

  nothing : s.history ≡ s.history ++ []
  nothing = sym (append-nil s.history)

  failing_history : (a : EndAnswer) → (failing s l a).history ≡ s.history ++ failure_entries l a
  failing_history (answers.Aborted code) = refl
  failing_history (answers.Peer kind) = refl
  failing_history a = sym (append-nil s.history)

  failing_have : (a : EndAnswer) → (failing s l a).have ≡ s.have
  failing_have (answers.Aborted code) = refl
  failing_have (answers.Peer kind) = refl
  failing_have a = refl

  failing_planned : (a : EndAnswer) → (failing s l a).planned ≡ s.planned
  failing_planned (answers.Aborted code) = refl
  failing_planned (answers.Peer kind) = refl
  failing_planned a = refl

  failing_lanes : (a : EndAnswer) → (failing s l a).lanes ≡ s.lanes
  failing_lanes (answers.Aborted code) = refl
  failing_lanes (answers.Peer kind) = refl
  failing_lanes a = refl

  failing_answer : (a : EndAnswer) → (failing s l a).answer ≡ a
  failing_answer (answers.Aborted code) = refl
  failing_answer (answers.Peer kind) = refl
  failing_answer a = refl

  put_failed : (a : EndAnswer) (mute : Bool) (lane : SendLane) → lane ≡ in_state (lane_at s l.0) (failed_state mute) → Makes s l (Failed a mute) (with_lane (failing s l a) l lane)
  put_failed a mute lane is =
      made (Failed a mute) (with_lane (failing s l a) l lane) (failing_history a) (failing_have a) (failing_planned a)
      (λ within. lane_set (failing s l a) l lane (subst (λ (xs : List SendLane). l.0 < length xs) (sym (failing_lanes a)) within) ∙ is)
      (λ fails. put_answer (failing s l a) l lane (ap is_failure (failing_answer a) ∙ fails) ∙ failing_answer a)

  failed_lane : (a : EndAnswer) → lane_at (failing s l a) l.0 ≡ lane_at s l.0
  failed_lane a = ap (λ (xs : List SendLane). Rattle.wdt_sender_fsm.specs.PlainSender.lane_or_ended (slice_get xs l.0)) (failing_lanes a)

  makes_failed : (a : EndAnswer) (mute : Bool) → Makes s l (Failed a mute) (by_voice mute (leaves (failing s l a) l) (tells_failure (failing s l a) l)).1
  makes_failed a true = put_failed a true (in_state (lane_at (failing s l a) l.0) states.Ended) (ap (λ (x : SendLane). in_state x states.Ended) (failed_lane a))
  makes_failed a false = put_failed a false (in_state (lane_at (failing s l a) l.0) states.SendAbort) (ap (λ (x : SendLane). in_state x states.SendAbort) (failed_lane a))

  makes_greeted : (count : ℕ) (ask : Bool) → (lane_at s l.0).ask ≡ ask → Makes s l (Greeted count) (greeted_by (noted s (events.Greet l count ∷ [])) l ask).1
  makes_greeted count true is =
      made (Greeted count) (with_lane (noted s (events.Greet l count ∷ [])) l (in_state (lane_at s l.0) states.ReadFileChunks)) refl refl refl
      (λ within. lane_set (noted s (events.Greet l count ∷ [])) l (in_state (lane_at s l.0) states.ReadFileChunks) within ∙ ap (λ (b : Bool). in_state (lane_at s l.0) (greeted_state b)) (sym is)) tt
  makes_greeted count false is =
      made (Greeted count) (with_lane (noted s (events.Greet l count ∷ [])) l (in_state (lane_at s l.0) states.SendSize)) refl refl refl
      (λ within. lane_set (noted s (events.Greet l count ∷ [])) l (in_state (lane_at s l.0) states.SendSize) within ∙ ap (λ (b : Bool). in_state (lane_at s l.0) (greeted_state b)) (sym is)) tt

  pub outcome_makes : (o : Outcome) → Makes s l o (came_to s l o).1
  outcome_makes Rested = made Rested s nothing refl refl (λ within. refl) tt
  outcome_makes Waited = made Waited s nothing refl refl (λ within. refl) tt
  outcome_makes Left = put Left s nothing refl refl refl refl
  outcome_makes Warned = put Warned s nothing refl refl refl refl
  outcome_makes (Failed a mute) = makes_failed a mute
  outcome_makes (GivenUp es) = put (GivenUp es) (noted s (es ++ events.Quit l ∷ [])) refl refl refl refl refl
  outcome_makes (Redialed es) = put (Redialed es) (noted s es) refl refl refl refl refl
  outcome_makes Introduced = put Introduced (noted s (events.Linked l (next_conn s l) ∷ [])) refl refl refl refl refl
  outcome_makes Presented = put Presented s nothing refl refl refl refl
  outcome_makes (Greeted count) = makes_greeted count (lane_at s l.0).ask refl
  outcome_makes Listed = put Listed (noted s (events.Chunks l ∷ [])) refl refl refl refl refl
  outcome_makes (Planned have) = put (Planned have) (noted (with_plan s have) (events.Chunks l ∷ [])) refl refl refl refl refl
  outcome_makes (Claimed es b) = put (Claimed es b) (noted s (es ++ events.Claim l b ∷ [])) refl refl refl refl refl
  outcome_makes (Emptied es) = put (Emptied es) (noted s es) refl refl refl refl refl
  outcome_makes Concluded = put Concluded (noted s (events.Done l ∷ [])) refl refl refl refl refl
  outcome_makes Finished = put Finished (noted s (events.Finish l ∷ [])) refl refl refl refl refl
  outcome_makes Acknowledged = put Acknowledged (noted s (events.Acked l ∷ [])) refl refl refl refl refl
