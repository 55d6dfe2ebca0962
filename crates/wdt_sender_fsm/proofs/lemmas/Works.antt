-- A plain sender in the midst of a lane's step, and how the step ends.
use Rattle.std.proofs.Common.{◌≡◌, ◌≢◌, ℕ, zero, suc, ◌<◌, ◌≤◌, ◌==◌, List, [], ◌∷◌, length, slice_get, slice_set, Bool, true, false, ◌&&◌, None, subst, sym, ap, ◌∙◌, arith, refl, eq-eqb, eqb-true, ◌⊎◌, inl, inr, is_some}
use Rattle.std.proofs.lemmas.Bool.{both_ways, or_from, cases_lt, and_left, and_right}
use Rattle.std.proofs.lemmas.List.{length-set}
use Rattle.wdt_units.specs.declared.numbers.Lane.{Lane}
use Rattle.wdt_sender_fsm.specs.declared.answers.EndAnswer.{EndAnswer}
use Rattle.wdt_sender_fsm.specs.declared.answers.EndAnswer.TheVariants as answers
use Rattle.wdt_sender_fsm.specs.declared.states.SendLane.{SendLane}
use Rattle.wdt_sender_fsm.specs.declared.states.SendState.{SendState}
use Rattle.wdt_sender_fsm.specs.declared.states.SendState.TheVariants as states
use Rattle.wdt_sender_fsm.specs.Legal.{IsLegal}
use Rattle.wdt_sender_fsm.specs.PlainSender.{PlainSender, lane_or_ended, lane_at, state_at, past_at, blocks_of, with_lane, every_lane, is_done_with, is_out, failed}
use Rattle.wdt_sender_fsm.specs.Rules.{is_failure, code_of, standing, judged, every}
use Rattle.wdt_sender_fsm.specs.Sender.{Fares, FaresAt, IsPlanned, IsAnswered, IsSender, failure_in, noted_failure, is_over}
use Rattle.wdt_sender_fsm.specs.SenderHistory.{LanePast, EndPast, end_of}
use Rattle.wdt_sender_fsm.proofs.lemmas.Steps.{lane_set}

-- the lane in another state
abbrev pub in_state : PlainSender → Lane → SendState → SendLane
in_state s l state = record { state = state; ask = (lane_at s l.0).ask }

-- the other lanes stand as their states say
abbrev pub Others : PlainSender → ℕ → Type 0
Others s l = (j : ℕ) → j < length s.lanes → j ≢ l → (past_at s j).claims.closed ≡ None → FaresAt s j

-- those of them that were given up or acknowledged have ended
abbrev pub OthersEnded : PlainSender → ℕ → Type 0
OthersEnded s l = (j : ℕ) → j < length s.lanes → j ≢ l → is_over (past_at s j) ≡ true → state_at s j ≡ states.Ended

-- all but the lane itself, and that the answer follows, is as a sender has it
pub record Stays (s : PlainSender) (l : Lane) : Type 0 where
  pub within : l.0 < length s.lanes
  pub legal : IsLegal (length s.lanes) (blocks_of s) s.history
  pub plan : IsPlanned s
  pub noted : noted_failure s.answer ≡ failure_in s.history
  pub code : code_of s.answer ≤ 255
  pub unfinished : is_failure s.answer ≡ true → every_lane s is_done_with ≡ false
  pub faultless : is_failure s.answer ≡ false → (end_of s.history).has_fault ≡ false
  pub others : Others s l.0
  pub ended : OthersEnded s l.0

-- and the end hasn't failed, and the lane goes on
pub record Works (s : PlainSender) (l : Lane) : Type 0 where
  pub stays : Stays s l
  pub sound : is_failure s.answer ≡ false
  pub is_open : (past_at s l.0).claims.closed ≡ None
  pub quit : (past_at s l.0).has_quit ≡ false
  pub acked : (past_at s l.0).is_acked ≡ false

-- ---- the answer

pub judged_again : (a : EndAnswer) (x y : Bool) → judged (judged a x y) x y ≡ judged a x y
judged_again answers.Going true y = refl
judged_again answers.Going false true = refl
judged_again answers.Going false false = refl
judged_again answers.Done true y = refl
judged_again answers.Done false true = refl
judged_again answers.Done false false = refl
judged_again answers.Link true y = refl
judged_again answers.Link false true = refl
judged_again answers.Link false false = refl
judged_again a x y = refl

-- what doesn't tell apart the answers of an end that hasn't failed is the same behind a step
pub judged_same : {X : Type 0} (f : EndAnswer → X) → f answers.Done ≡ f answers.Going → f answers.Link ≡ f answers.Going → (a : EndAnswer) (x y : Bool) → f (judged a x y) ≡ f a
judged_same f d l answers.Going true y = d
judged_same f d l answers.Going false true = l
judged_same f d l answers.Going false false = refl
judged_same f d l answers.Done true y = refl
judged_same f d l answers.Done false true = l ∙ sym d
judged_same f d l answers.Done false false = sym d
judged_same f d l answers.Link true y = d ∙ sym l
judged_same f d l answers.Link false true = refl
judged_same f d l answers.Link false false = sym l
judged_same f d l a x y = refl

-- an end that hasn't failed has an answer for which no entry stands, and a code of one byte
pub sound_noted : (a : EndAnswer) → is_failure a ≡ false → noted_failure a ≡ None
sound_noted (answers.Aborted code) is = cc
sound_noted (answers.Peer kind) is = cc
sound_noted a is = refl

pub sound_code : (a : EndAnswer) → is_failure a ≡ false → code_of a ≤ 255
sound_code answers.Going is = omega arith
sound_code answers.Done is = omega arith
sound_code answers.Link is = omega arith
sound_code a is = cc

standing_code : (x y : Bool) → code_of (standing x y) ≤ 255
standing_code true y = omega arith
standing_code false true = omega arith
standing_code false false = omega arith

judged_code : (a : EndAnswer) (x y : Bool) → code_of a ≤ 255 → code_of (judged a x y) ≤ 255
judged_code answers.Going x y most = standing_code x y
judged_code answers.Done x y most = standing_code x y
judged_code answers.Link x y most = standing_code x y
judged_code a x y most = most

abbrev done_answer : PlainSender → Bool
done_answer s = (end_of s.history).has_finish && every_lane s is_done_with

settles : (s : PlainSender) (l : Lane) (lane : SendLane) → noted_failure s.answer ≡ failure_in s.history → code_of s.answer ≤ 255 → (is_failure s.answer ≡ true → every_lane s is_done_with ≡ false) → IsAnswered (with_lane s l lane)
settles s l lane noted code unfinished =
    let r : PlainSender = record s { lanes = slice_set s.lanes l.0 lane } in
    record {
      follows = sym (judged_again s.answer (done_answer r) (every_lane r is_out));
      noted = judged_same noted_failure refl refl s.answer (done_answer r) (every_lane r is_out) ∙ noted;
      code = judged_code s.answer (done_answer r) (every_lane r is_out) code;
      unfinished = λ f. subst (λ (n : ℕ). every n (is_done_with s) ≡ false) (sym (length-set s.lanes l.0 lane))
          (unfinished (sym (judged_same is_failure refl refl s.answer (done_answer r) (every_lane r is_out)) ∙ f));
    }

-- ---- how a step ends

pub set_other : {X : Type 0} (xs : List X) (i j : ℕ) (x : X) → j ≢ i → slice_get (slice_set xs i x) j ≡ slice_get xs j
set_other [] i j x ne = refl
set_other (y ∷ ys) zero zero x ne = absurd (ne refl)
set_other (y ∷ ys) zero (suc j) x ne = refl
set_other (y ∷ ys) (suc i) zero x ne = refl
set_other (y ∷ ys) (suc i) (suc j) x ne = set_other ys i j x (λ e. ne (ap suc e))

pub going_over : (p : LanePast) → p.has_quit ≡ false → p.is_acked ≡ false → is_over p ≡ true → ⊥
going_over p quit acked over = both_ways (is_over p) (or_from p.has_quit p.is_acked quit acked) over

-- the lane as it was put stands as its state says
abbrev pub FaresThere : SendLane → PlainSender → ℕ → Type 0
FaresThere lane s j = Fares (is_failure s.answer) lane.state lane.ask (past_at s j) (end_of s.history)

-- what holds of the lane as it was put, and of the others as they stood, holds of all
pub each_lane : (Has : SendLane → ℕ → Type 0) (s : PlainSender) (l : Lane) (lane : SendLane) → l.0 < length s.lanes → Has lane l.0 → ((j : ℕ) → j ≢ l.0 → Has (lane_at s j) j) → (j : ℕ) → Has (lane_at (with_lane s l lane) j) j
each_lane Has s l lane within own others j = go (j == l.0) refl where
  go : (b : Bool) → (j == l.0) ≡ b → Has (lane_at (with_lane s l lane) j) j
  go true is =
      subst (λ (i : ℕ). Has (lane_at (with_lane s l lane) i) i) (sym (eqb-true j l.0 is))
      (subst (λ (x : SendLane). Has x l.0) (sym (lane_set s l lane within)) own)
  go false is =
      let ne : j ≢ l.0 = λ e. both_ways (j == l.0) is (eq-eqb j l.0 e) in
      subst (λ (x : SendLane). Has x j) (sym (ap lane_or_ended (set_other s.lanes l.0 j lane ne))) (others j ne)

same_length : (s : PlainSender) (l : Lane) (lane : SendLane) (j : ℕ) → j < length (slice_set s.lanes l.0 lane) → j < length s.lanes
same_length s l lane j within = subst (λ (n : ℕ). j < n) (length-set s.lanes l.0 lane) within

-- a lane that was given up or acknowledged stands in no other state
pub fares_over : (f : Bool) (state : SendState) (ask : Bool) (p : LanePast) (end : EndPast) → Fares f state ask p end → is_over p ≡ true → state ≡ states.Ended
fares_over f states.Ended ask p end is over = refl
fares_over f states.SendAbort ask p end is over = absurd (going_over p is.goes_on.quit is.goes_on.acked over)
fares_over f states.Connect ask p end is over = absurd (going_over p is.goes_on.quit is.goes_on.acked over)
fares_over f states.SendSettings ask p end is over = absurd (going_over p is.goes_on.quit is.goes_on.acked over)
fares_over f states.ReadLocalCheckpoint ask p end is over = absurd (going_over p is.goes_on.quit is.goes_on.acked over)
fares_over f states.ReadFileChunks ask p end is over = absurd (going_over p is.goes_on.quit is.goes_on.acked over)
fares_over f states.SendSize ask p end is over = absurd (going_over p is.goes_on.quit is.goes_on.acked over)
fares_over f states.SendBlocks ask p end is over = absurd (going_over p is.goes_on.quit is.goes_on.acked over)
fares_over f states.SendDone ask p end is over = absurd (going_over p is.goes_on.quit is.goes_on.acked over)
fares_over f states.ReadReceiverCmd ask p end is over = absurd (going_over p is.goes_on.quit is.goes_on.acked over)
fares_over f states.AnswerDone ask p end is over = absurd (going_over p is.goes_on.quit is.goes_on.acked over)

pub same_failure : (s : PlainSender) (l : Lane) (lane : SendLane) → is_failure (with_lane s l lane).answer ≡ is_failure s.answer
same_failure s l lane = let r : PlainSender = record s { lanes = slice_set s.lanes l.0 lane } in judged_same is_failure refl refl s.answer (done_answer r) (every_lane r is_out)

put_by : (s : PlainSender) (l : Lane) (lane : SendLane) → Stays s l → ((past_at s l.0).claims.closed ≡ None → FaresThere lane s l.0) → (is_over (past_at s l.0) ≡ true → lane.state ≡ states.Ended) → IsSender (with_lane s l lane)
put_by s l lane stays own over =
    record {
      legal = subst (λ (n : ℕ). IsLegal n (blocks_of s) s.history) (sym (length-set s.lanes l.0 lane)) stays.legal;
      plan = record { listed = stays.plan.listed; planned = stays.plan.planned; accepted = stays.plan.accepted };
      answer = settles s l lane stays.noted stays.code stays.unfinished;
      lanes = λ j within opens.
          subst (λ (f : Bool). Fares f (lane_at (with_lane s l lane) j).state (lane_at (with_lane s l lane) j).ask (past_at s j) (end_of s.history)) (sym (same_failure s l lane))
          (each_lane (λ (x : SendLane) (i : ℕ). i < length s.lanes → (past_at s i).claims.closed ≡ None → FaresThere x s i) s l lane stays.within (λ w o. own o) (λ i ne w o. stays.others i w ne o) j
          (same_length s l lane j within) opens);
      ended = λ j within has.
          each_lane (λ (x : SendLane) (i : ℕ). i < length s.lanes → is_over (past_at s i) ≡ true → x.state ≡ states.Ended) s l lane stays.within (λ w. over) (λ i ne w. stays.ended i w ne) j
          (same_length s l lane j within) has;
      faultless = λ x. stays.faultless (sym (same_failure s l lane) ∙ x);
    }

-- the lane stands so now, as its state says: a sender as steps leave it
pub put : (s : PlainSender) (l : Lane) (lane : SendLane) → Stays s l → FaresThere lane s l.0 → IsSender (with_lane s l lane)
put s l lane stays own = put_by s l lane stays (λ x. own) (fares_over (is_failure s.answer) lane.state lane.ask (past_at s l.0) (end_of s.history) own)

-- a closed lane has ended now
pub put_closed : (s : PlainSender) (l : Lane) → Stays s l → ((past_at s l.0).claims.closed ≡ None → ⊥) → IsSender (with_lane s l (in_state s l states.Ended))
put_closed s l stays closed = put_by s l (in_state s l states.Ended) stays (λ x. absurd (closed x)) (λ over. refl)

-- ---- the end fails

pub fares_fails : (f : Bool) (state : SendState) (ask : Bool) (p : LanePast) (end : EndPast) → Fares f state ask p end → Fares true state ask p end
fares_fails f states.Ended ask p end is = inl refl
fares_fails f states.SendAbort ask p end is = record { goes_on = is.goes_on; failed = refl }
fares_fails f states.Connect ask p end is = is
fares_fails f states.SendSettings ask p end is = is
fares_fails f states.ReadLocalCheckpoint ask p end is = is
fares_fails f states.ReadFileChunks ask p end is = is
fares_fails f states.SendSize ask p end is = is
fares_fails f states.SendBlocks ask p end is = is
fares_fails f states.SendDone ask p end is = is
fares_fails f states.ReadReceiverCmd ask p end is = is
fares_fails f states.AnswerDone ask p end is = is

-- with this answer the end has failed, and all else is as before
pub stays_failed : (s : PlainSender) (l : Lane) (a : EndAnswer) → is_failure a ≡ true → noted_failure a ≡ failure_in s.history → code_of a ≤ 255 → every_lane s is_done_with ≡ false → l.0 < length s.lanes → IsLegal (length s.lanes) (blocks_of s) s.history → IsPlanned s → Others s l.0 → OthersEnded s l.0 → Stays (failed s a) l
stays_failed s l a fails noted code unfinished within legal plan others ended =
    record {
      within = within;
      legal = legal;
      plan = record { listed = plan.listed; planned = plan.planned; accepted = plan.accepted };
      noted = noted;
      code = code;
      unfinished = λ f. unfinished;
      faultless = λ x. absurd (both_ways (is_failure a) x fails);
      others = λ j w ne o. subst (λ (f : Bool). Fares f (state_at s j) (lane_at s j).ask (past_at s j) (end_of s.history)) (sym fails) (fares_fails (is_failure s.answer) (state_at s j) (lane_at s j).ask (past_at s j) (end_of s.history) (others j w ne o));
      ended = ended;
    }

-- ---- a lane that goes on isn't done with

pub every_false : (n : ℕ) (f : ℕ → Bool) (l : ℕ) → l < n → f l ≡ false → every n f ≡ false
every_false zero f l within e = absurd (omega (arith, within))
every_false (suc n) f l within e = go (every_false n f l) (cases_lt l n) where
  go : (l < n → f l ≡ false → every n f ≡ false) → (l < n) ⊎ (n ≤ l) → (every n f && f n) ≡ false
  go before (inl x) = and_left (every n f) (f n) (before x e)
  go before (inr x) = and_right (every n f) (f n) (subst (λ (k : ℕ). f k ≡ false) (omega (arith, x, within)) e)

pub works_unfinished : (s : PlainSender) (l : Lane) → Works s l → every_lane s is_done_with ≡ false
works_unfinished s l w = every_false (length s.lanes) (is_done_with s) l.0 w.stays.within (or_from (past_at s l.0).is_acked (is_some (past_at s l.0).claims.closed) w.acked (ap is_some w.is_open))

-- a sound end has no failure in its history
pub no_failure : (s : PlainSender) (l : Lane) → Works s l → failure_in s.history ≡ None
no_failure s l w = sym w.stays.noted ∙ sound_noted s.answer w.sound

-- what only a failed end needs
pub not_failed : {X : Type 0} (s : PlainSender) (l : Lane) → Works s l → is_failure s.answer ≡ true → X
not_failed s l w f = absurd (both_ways (is_failure s.answer) w.sound f)
