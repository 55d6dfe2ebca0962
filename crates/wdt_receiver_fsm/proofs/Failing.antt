-- Why an end fails in a step.
use Rattle.std.proofs.Common.{◌≡◌, inl, inr, ℕ, zero, suc, List, [], ◌∷◌, Bool, true, false, is_some, subst, sym, ap, ◌∙◌, refl}
use Rattle.std.proofs.lemmas.Bool.{both_ways}
use Rattle.wdt_units.specs.declared.blocks.Block.{Block}
use Rattle.wdt_units.specs.declared.numbers.Lane.{Lane}
use Rattle.wdt_sender_fsm.specs.declared.answers.EndAnswer.{EndAnswer}
use Rattle.wdt_sender_fsm.specs.declared.answers.EndAnswer.TheVariants as answers
use Rattle.wdt_sender_fsm.specs.Rules.{is_failure, by_voice, judged}
use Rattle.wdt_receiver_fsm.specs.declared.states.RecvLane.{RecvLane}
use Rattle.wdt_receiver_fsm.specs.Causes.{Follows, IsCause}
use Rattle.wdt_receiver_fsm.specs.Logging.{all_logged_by}
use Rattle.wdt_receiver_fsm.specs.Outcomes.{Outcome, Rested, Left, Warned, Failed, GivenUp, Listened, Linked, Greeted, Listed, ReadOn, Sized, Begun, Taken, Concluded, Told, Waited, Ended, Acknowledged, came_to, ComesOf, Idles, ByDone, ByWait, ByWaking, Fails, OfMemory, OfSender, OfPeer, OfShort, OfMake, OfWrite, OfLog, OfFinish, Listens, AtFirst, ByNoLink, ByLoss, ReadsOn, ByGreeting, ByChunks, ByMarks, ByLanding, ByLogging, Concludes, WasFinished, IsFinished, Begins, OfKnown, OfNew, landed_by}
use Rattle.wdt_receiver_fsm.specs.Plan.{EndsIn, Plan}
use Rattle.wdt_receiver_fsm.specs.PlainReceiver.{PlainReceiver, failed, has_finish}
use Rattle.wdt_receiver_fsm.specs.ReceiverHistory.{end_of}
use Rattle.wdt_receiver_fsm.specs.Rows.{Over, Row, is_mute}
use Rattle.wdt_receiver_fsm.specs.Turn.{Put, Step, begins_by, greets_by, leaves, meets, met_by, row_at, sized_by, tells_failure, turn_plan, waits_by}
use Rattle.wdt_receiver_fsm.proofs.Comes.{end_comes}
use Rattle.wdt_receiver_fsm.proofs.HeldActs.{fails_here, judged_failure}
use Rattle.wdt_receiver_fsm.proofs.Keeping.{judged_fails}
use Rattle.wdt_receiver_fsm.proofs.RowSteps.{failed_step, over_step}

module _ (r : PlainReceiver) (l : Lane) (put : Put) where
  voiced_history : (t : PlainReceiver) (mute : Bool) → (by_voice mute (leaves t l) (tells_failure t l)).1.history ≡ t.history
  voiced_history t true = refl
  voiced_history t false = refl

  -- the receiver behind a failure
  abbrev behind : PlainReceiver → EndAnswer → Bool → PlainReceiver
  behind t a mute = (by_voice mute (leaves (failed t a) l) (tells_failure (failed t a) l)).1

  -- a new failure has its cause
  fails_cause : (t : PlainReceiver) (a : EndAnswer) (mute : Bool) → Fails r l put t a mute → IsCause r l put (behind t a mute) a
  fails_cause t a mute (OfMemory m going given lives is) = (given, going, voiced_history (failed r answers.NoMemory) m)
  fails_cause t a mute (OfSender state code at reads given) = (record { state = state; serves = at; reads = reads; said = given }, refl)
  fails_cause t a mute (OfPeer state kind at reads wrong) = (inl record { state = state; serves = at; reads = reads; said = wrong }, refl)
  fails_cause t a mute (OfShort i kind why short) = (inr record { idle = i; finishes = why; short = short }, refl)
  fails_cause t a mute (OfMake h at sized given right new) = record { stands = r; fails = OfMake h at sized given right new; behind = refl }
  fails_cause t a mute (OfWrite bytes b at given begun) = record { stands = r; fails = OfWrite bytes b at given begun; behind = refl }
  fails_cause t a mute (OfLog b lands full) = record { stands = t; fails = OfLog b lands full; behind = refl }
  fails_cause t a mute (OfFinish i why) = record { stands = t; fails = OfFinish i why; behind = refl }

  pub voiced_answer : (t : PlainReceiver) (mute : Bool) → is_failure t.answer ≡ true → (by_voice mute (leaves t l) (tells_failure t l)).1.answer ≡ t.answer
  voiced_answer t true fails = judged_failure t.answer _ _ fails
  voiced_answer t false fails = judged_failure t.answer _ _ fails

  no_cause : (t : PlainReceiver) (a : EndAnswer) → is_failure a ≡ false → IsCause r l put t a
  no_cause t answers.Going sound = tt
  no_cause t answers.Done sound = tt
  no_cause t answers.Link sound = tt
  no_cause t a sound = absurd (cc)

  -- what a step goes on from hasn't failed
  module _ (sound : is_failure r.answer ≡ false) where
    abbrev Sound : PlainReceiver → Type 0
    Sound t = is_failure t.answer ≡ false

    idles_sound : (t : PlainReceiver) → Idles r l put t → Sound t
    idles_sound t (ByDone at sized given is) = ap (λ (x : PlainReceiver). is_failure x.answer) is ∙ (judged_fails r.answer _ _ ∙ sound)
    idles_sound t (ByWait at given is) = ap (λ (x : PlainReceiver). is_failure x.answer) is ∙ (judged_fails r.answer _ _ ∙ sound)
    idles_sound t (ByWaking at given is) = ap (λ (x : PlainReceiver). is_failure x.answer) is ∙ sound

    listens_sound : (t : PlainReceiver) → Listens r l put t → Sound t
    listens_sound t (AtFirst at given) = sound
    listens_sound t (ByNoLink at given) = sound
    listens_sound t (ByLoss state at linked given) = judged_fails r.answer _ _ ∙ sound

    logged_sound : (t : PlainReceiver) (bs : List Block) → Sound t → Sound (all_logged_by t bs)
    logged_sound t [] calm = calm
    logged_sound t (b ∷ bs) calm = calm

    reads_sound : (t : PlainReceiver) → ReadsOn r l put t → Sound t
    reads_sound t (ByGreeting at given asked) = sound
    reads_sound t (ByChunks at given) = sound
    reads_sound t (ByMarks at given) = sound
    reads_sound t (ByLanding b lands full) = judged_fails r.answer _ _ ∙ sound
    reads_sound t (ByLogging b lands full) = logged_sound (landed_by r l b) (landed_by r l b).unlogged (judged_fails r.answer _ _ ∙ sound)

    concludes_sound : (t : PlainReceiver) → Concludes r l put t → Sound t
    concludes_sound t (WasFinished u idles come) = idles_sound u idles
    concludes_sound t (IsFinished u why whole) = logged_sound u u.unlogged (idles_sound u why.idles)

    begins_sound : (t : PlainReceiver) (b : Block) → Begins r l put t b → Sound t
    begins_sound t b (OfKnown h at sized given right new) = sound
    begins_sound t b (OfNew h at sized given right new) = sound

    meets_sound : (s : _) (b : Bool) → Sound (met_by r l s b)
    meets_sound s true = sound
    meets_sound s false = sound

    sized_sound : (files bytes : ℕ) (b : Bool) → Sound (sized_by r l files bytes b)
    sized_sound files bytes true = sound
    sized_sound files bytes false = sound

    greets_sound : (t : PlainReceiver) (s : _) (come : Bool) → Sound t → Sound (greets_by t l s come).1
    greets_sound t s true calm = judged_fails t.answer _ _ ∙ calm
    greets_sound t s false calm = judged_fails t.answer _ _ ∙ calm

    begun_sound : (t : PlainReceiver) (b : Block) (left : ℕ) → Sound t → Sound (begins_by t l b left).1
    begun_sound t b zero calm = judged_fails t.answer _ _ ∙ calm
    begun_sound t b (suc left) calm = judged_fails t.answer _ _ ∙ calm

    waits_sound : (t : PlainReceiver) (again : Bool) → Sound t → Sound (waits_by t l again).1
    waits_sound t true calm = judged_fails t.answer _ _ ∙ calm
    waits_sound t false calm = judged_fails t.answer _ _ ∙ calm

    -- the outcome is that the end fails
    abbrev pub is_failed : Outcome → Bool
    is_failed (Failed t a mute) = true
    is_failed o = false

    -- no other makes it fail
    pub outcome_sound : (o : Outcome) → is_failed o ≡ false → ComesOf r l put o → Sound (came_to r l o).1
    outcome_sound Rested other of = sound
    outcome_sound Left other of = judged_fails r.answer _ _ ∙ sound
    outcome_sound Warned other of = absurd (both_ways _ sound of.1.failed)
    outcome_sound (Failed t a mute) other of = absurd (cc)
    outcome_sound (GivenUp t) other of = judged_fails t.answer _ _ ∙ listens_sound t of.0
    outcome_sound (Listened t) other of = judged_fails t.answer _ _ ∙ listens_sound t of.0
    outcome_sound Linked other of = judged_fails r.answer _ _ ∙ sound
    outcome_sound (Greeted s) other of = greets_sound (meets r l s) s (has_finish r) (meets_sound s (is_some (end_of r.history).met))
    outcome_sound Listed other of = judged_fails r.answer _ _ ∙ sound
    outcome_sound (ReadOn t) other of = judged_fails t.answer _ _ ∙ reads_sound t of
    outcome_sound (Sized files bytes) other of = judged_fails (sized_by r l files bytes (is_some (end_of r.history).sized)).answer _ _ ∙ sized_sound files bytes (is_some (end_of r.history).sized)
    outcome_sound (Begun t b) other of = begun_sound t b b.length (begins_sound t b of)
    outcome_sound (Taken left) other of = judged_fails r.answer _ _ ∙ sound
    outcome_sound (Concluded t) other of = judged_fails t.answer _ _ ∙ concludes_sound t of
    outcome_sound (Told t q qs) other of = judged_fails t.answer _ _ ∙ idles_sound t of.idles
    outcome_sound (Waited t again) other of = waits_sound t again (idles_sound t of.0.idles)
    outcome_sound Ended other of = judged_fails r.answer _ _ ∙ sound
    outcome_sound Acknowledged other of = judged_fails r.answer _ _ ∙ sound

    abbrev Caused : Step → Type 0
    Caused step = IsCause r l put step.1 step.1.answer

    still_sound : (step : Step) → Sound step.1 → Caused step
    still_sound step calm = no_cause step.1 step.1.answer calm

    put_sound : (step : Step) (a : EndAnswer) (x y : Bool) → is_failure a ≡ false → step.1.answer ≡ judged a x y → Caused step
    put_sound step a x y calm is = still_sound step (ap is_failure is ∙ (judged_fails a x y ∙ calm))

    failed_caused : (t : PlainReceiver) (a : EndAnswer) (mute : Bool) → Fails r l put t a mute → Caused (by_voice mute (leaves (failed t a) l) (tells_failure (failed t a) l))
    failed_caused t a mute why =
        subst (λ (x : EndAnswer). IsCause r l put (behind t a mute) x) (sym (voiced_answer (failed t a) mute (fails_here r t l put a mute why).1)) (fails_cause t a mute why)

    outcome_caused : (o : Outcome) → ComesOf r l put o → Caused (came_to r l o)
    outcome_caused Rested of = still_sound (came_to r l Rested) sound
    outcome_caused Left of = put_sound (came_to r l Left) r.answer _ _ sound refl
    outcome_caused Warned of = absurd (both_ways _ sound of.1.failed)
    outcome_caused (Failed t a mute) of = failed_caused t a mute of
    outcome_caused (GivenUp t) of = put_sound (came_to r l (GivenUp t)) t.answer _ _ (listens_sound t of.0) refl
    outcome_caused (Listened t) of = put_sound (came_to r l (Listened t)) t.answer _ _ (listens_sound t of.0) refl
    outcome_caused Linked of = put_sound (came_to r l Linked) r.answer _ _ sound refl
    outcome_caused (Greeted s) of = still_sound (came_to r l (Greeted s)) (greets_sound (meets r l s) s (has_finish r) (meets_sound s (is_some (end_of r.history).met)))
    outcome_caused Listed of = put_sound (came_to r l Listed) r.answer _ _ sound refl
    outcome_caused (ReadOn t) of = put_sound (came_to r l (ReadOn t)) t.answer _ _ (reads_sound t of) refl
    outcome_caused (Sized files bytes) of = put_sound (came_to r l (Sized files bytes)) (sized_by r l files bytes (is_some (end_of r.history).sized)).answer _ _ (sized_sound files bytes (is_some (end_of r.history).sized)) refl
    outcome_caused (Begun t b) of = still_sound (came_to r l (Begun t b)) (begun_sound t b b.length (begins_sound t b of))
    outcome_caused (Taken left) of = put_sound (came_to r l (Taken left)) r.answer _ _ sound refl
    outcome_caused (Concluded t) of = put_sound (came_to r l (Concluded t)) t.answer _ _ (concludes_sound t of) refl
    outcome_caused (Told t q qs) of = put_sound (came_to r l (Told t q qs)) t.answer _ _ (idles_sound t of.idles) refl
    outcome_caused (Waited t again) of = still_sound (came_to r l (Waited t again)) (waits_sound t again (idles_sound t of.0.idles))
    outcome_caused Ended of = put_sound (came_to r l Ended) r.answer _ _ sound refl
    outcome_caused Acknowledged of = put_sound (came_to r l Acknowledged) r.answer _ _ sound refl

-- on a failed end
module _ (r : PlainReceiver) (l : Lane) (put : Put) (fails : is_failure r.answer ≡ true) where
  abbrev Still : Step → Type 0
  Still step = step.1 ≡ record r { lanes = step.1.lanes }

  lane_still : (lanes : List RecvLane) (x y : Bool) → record r { lanes = lanes; answer = judged r.answer x y } ≡ record r { lanes = lanes }
  lane_still lanes x y = ap (λ (a : EndAnswer). record r { lanes = lanes; answer = a }) (judged_failure r.answer x y fails)

  voiced_still : (mute : Bool) → Still (by_voice mute (leaves r l) (tells_failure r l))
  voiced_still true = lane_still _ _ _
  voiced_still false = lane_still _ _ _

  pub failed_still : (Why : Type 0) (step : Step) → EndsIn Why (turn_plan r l put) step → Still step
  failed_still Why step ends_in = go (row_at r l put) refl
    where
      go : (row : Row) → row_at r l put ≡ row → Still step
      go Over is = subst Still (sym (subst (λ (plan : Plan Step). EndsIn Why plan step) (over_step r l put is) ends_in)) refl
      go row is = subst Still (sym (subst (λ (plan : Plan Step). EndsIn Why plan step) (failed_step r l put row is fails refl) ends_in)) (voiced_still (is_mute row))

pub turn_follows : (r : PlainReceiver) (l : Lane) (put : Put) (step : Step) → EndsIn (Unit {0}) (turn_plan r l put) step → Follows r l put step.1
turn_follows r l put step ends_in =
    let c = end_comes r l put (Unit {0}) step ends_in in
    record {
      still = λ fails. failed_still r l put fails (Unit {0}) step ends_in;
      caused = λ sound. subst (λ (x : Step). IsCause r l put x.1 x.1.answer) (sym c.is) (outcome_caused r l put sound c.outcome c.of);
    }
