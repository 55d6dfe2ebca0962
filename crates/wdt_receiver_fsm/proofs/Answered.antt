-- The answer of an end follows from its lanes, behind each step.
use Rattle.std.proofs.Common.{◌≡◌, ℕ, zero, suc, ◌<◌, ◌≤◌, ◌&&◌, Bool, true, false, List, [], ◌∷◌, length, replicate, is_some, Option, Some, refl, sym, ap, ◌∙◌, subst, arith}
use Rattle.std.specs.Prelude.{◌↔◌, slice_get}
use Rattle.std.specs.List.{Contains}
use Rattle.std.proofs.lemmas.Bool.{both_ways, or_from}
use Rattle.std.proofs.lemmas.List.Elements.{Contains-push}
use Rattle.std.proofs.lemmas.List.{length-set}
use Rattle.wdt_units.specs.declared.blocks.Block.{Block}
use Rattle.wdt_units.specs.declared.numbers.Lane.{Lane}
use Rattle.wdt_codec.specs.declared.frames.Settings.{Settings}
use Rattle.wdt_logfmt.specs.View.{Meaning}
use Rattle.wdt_sender_fsm.specs.declared.answers.EndAnswer.{EndAnswer}
use Rattle.wdt_sender_fsm.specs.declared.answers.EndAnswer.TheVariants as answers
use Rattle.wdt_sender_fsm.specs.Rules.{by_voice, every, is_failure, judged, standing}
use Rattle.wdt_receiver_fsm.specs.declared.events.RecvEvent.{RecvEvent}
use Rattle.wdt_receiver_fsm.specs.declared.events.RecvEvent.TheVariants as events
use Rattle.wdt_receiver_fsm.specs.declared.states.RecvLane.{RecvLane}
use Rattle.wdt_receiver_fsm.specs.declared.states.RecvState.{RecvState}
use Rattle.wdt_receiver_fsm.specs.declared.states.RecvState.TheVariants as states
use Rattle.wdt_receiver_fsm.specs.Answered.{HasNoLane, IsAnswered, IsHeard, has_all_done}
use Rattle.wdt_receiver_fsm.specs.Causes.{IsCause}
use Rattle.wdt_receiver_fsm.specs.Logging.{all_logged, all_logged_by}
use Rattle.wdt_receiver_fsm.specs.Outcomes.{Acknowledged, Begun, Comes, ComesOf, Concluded, Ended, Failed, Fails, GivenUp, Greeted, Left, Linked, Listed, Listened, OfMemory, OfSender, Outcome, ReadOn, Rested, Serves, Sized, Taken, Told, Waited, Warned, came_to}
use Rattle.wdt_receiver_fsm.specs.Plan.{EndsIn}
use Rattle.wdt_receiver_fsm.specs.PlainReceiver.{PlainReceiver, answer_of, every_lane, failed, has_finish, is_done_with, is_ended, is_out, lane_at, lane_or_ended, new_lane, noted, opened, past_at, state_at, with_lane}
use Rattle.wdt_receiver_fsm.specs.Receiver.{IsReceiver}
use Rattle.wdt_receiver_fsm.specs.ReceiverHistory.{EndPast, RecvPast, end_of, end_of-none}
use Rattle.wdt_receiver_fsm.specs.Rows.{is_reading}
use Rattle.wdt_receiver_fsm.specs.Sets.{set_of}
use Rattle.wdt_receiver_fsm.specs.Turn.{Put, Step, begins_by, given_up, greets_by, lands, leaves, meets, next_take, sized_by, tells_failure, turn_plan, waits_by}
use Rattle.wdt_receiver_fsm.proofs.Comes.{end_comes}
use Rattle.wdt_receiver_fsm.proofs.Entries.{abort_past}
use Rattle.wdt_receiver_fsm.proofs.Failing.{failed_still, outcome_sound, turn_follows}
use Rattle.wdt_receiver_fsm.proofs.HeldActs.{fails_here, lane_set}
use Rattle.wdt_receiver_fsm.proofs.Keeps.{every_false}
use Rattle.wdt_receiver_fsm.proofs.Living.{live_lane}
use Rattle.wdt_receiver_fsm.proofs.Receiving.{turn_keeps}
use Rattle.wdt_receiver_fsm.proofs.Touching.{turn_touches}

-- ---- a lane is put

standing_again : (done out : Bool) → judged (standing done out) done out ≡ standing done out
standing_again true out = refl
standing_again false true = refl
standing_again false false = refl

judged_again : (a : EndAnswer) (done out : Bool) → judged a done out ≡ judged (judged a done out) done out
judged_again answers.Going done out = sym (standing_again done out)
judged_again answers.Done done out = sym (standing_again done out)
judged_again answers.Link done out = sym (standing_again done out)
judged_again a done out = refl

abbrev Follows : PlainReceiver → Type 0
Follows r = r.answer ≡ answer_of r

put_answered : (t : PlainReceiver) (l : ℕ) (lane : RecvLane) → Follows (with_lane t l lane)
put_answered t l lane = judged_again t.answer _ _

-- ---- each outcome

voice_answered : (t : PlainReceiver) (l : Lane) (mute : Bool) → Follows (by_voice mute (leaves t l) (tells_failure t l)).1
voice_answered t l true = put_answered t l.0 _
voice_answered t l false = put_answered t l.0 _

greets_answered : (t : PlainReceiver) (l : Lane) (s : Settings) (come : Bool) → Follows (greets_by t l s come).1
greets_answered t l s true = put_answered t l.0 _
greets_answered t l s false = put_answered t l.0 _

begins_answered : (t : PlainReceiver) (l : Lane) (b : Block) (left : ℕ) → Follows (begins_by t l b left).1
begins_answered t l b zero = (let u : PlainReceiver = lands (noted t (events.Begin l b ∷ [])) l b in put_answered u l.0 record (lane_at u l.0) { state = states.ReadNextCmd })
begins_answered t l b (suc left) = (let u : PlainReceiver = noted t (events.Begin l b ∷ []) in put_answered u l.0 record (lane_at u l.0) { state = states.TakeBlock; left = suc left })

waits_answered : (t : PlainReceiver) (l : Lane) (again : Bool) → Follows (waits_by t l again).1
waits_answered t l true = put_answered t l.0 _
waits_answered t l false = put_answered t l.0 _

outcome_answered : (r : PlainReceiver) (l : Lane) (o : Outcome) → Follows r → Follows (came_to r l o).1
outcome_answered r l Rested is = is
outcome_answered r l Left is = put_answered r l.0 _
outcome_answered r l Warned is = put_answered r l.0 _
outcome_answered r l (Failed t a mute) is = voice_answered (failed t a) l mute
outcome_answered r l (GivenUp t) is = put_answered (noted t (given_up l (has_finish t) ∷ [])) l.0 _
outcome_answered r l (Listened t) is = put_answered t l.0 _
outcome_answered r l Linked is = put_answered (noted r (events.Take l (next_take r l) ∷ [])) l.0 _
outcome_answered r l (Greeted s) is = greets_answered (meets r l s) l s (has_finish r)
outcome_answered r l Listed is = put_answered r l.0 _
outcome_answered r l (ReadOn t) is = put_answered t l.0 _
outcome_answered r l (Sized files bytes) is = put_answered (sized_by r l files bytes (is_some (end_of r.history).sized)) l.0 _
outcome_answered r l (Begun t b) is = begins_answered t l b b.length
outcome_answered r l (Taken left) is = put_answered r l.0 _
outcome_answered r l (Concluded t) is = put_answered t l.0 _
outcome_answered r l (Told t q qs) is = put_answered (noted t (events.Told l (set_of (q ∷ qs)) ∷ [])) l.0 _
outcome_answered r l (Waited t again) is = waits_answered t l again
outcome_answered r l Ended is = put_answered r l.0 _
outcome_answered r l Acknowledged is = put_answered (noted r (events.Acked l ∷ [])) l.0 _

-- ---- a lane that isn't through

-- where a lane is neither acknowledged nor closed, not all is done
undone_by : (t : PlainReceiver) (l : ℕ) → l < length t.lanes → (past_at t l).is_acked ≡ false → (past_at t l).is_closed ≡ false → has_all_done t ≡ false
undone_by t l within acked closed =
    both (has_finish t) (every_lane t is_done_with) (sym (every_false (length t.lanes) l (is_done_with t) within (or_from (past_at t l).is_acked (past_at t l).is_closed acked closed)))
  where
    both : (a b : Bool) → b ≡ false → (a && b) ≡ false
    both true b x = x
    both false b x = refl

-- such a lane
abbrev IsLive : PlainReceiver → ℕ → Type 0
IsLive r l = ((past_at r l).is_closed ≡ false) × ((past_at r l).has_quit ≡ false) × ((past_at r l).is_acked ≡ false)

module _ (r : PlainReceiver) (l : Lane) (put : Put) (is : IsReceiver r) (within : l.0 < length r.lanes) where
  serves_live : (at : RecvState) → is_ended at ≡ false → Serves r l at → IsLive r l.0
  serves_live at lives serves = live_lane r l.0 (is.lanes l.0 within) (ap is_ended serves.here ∙ lives)

  reading_live : (at : RecvState) → is_reading at ≡ true → is_ended at ≡ false
  reading_live states.ReadSettings reads = refl
  reading_live states.ReadNextCmd reads = refl
  reading_live states.ReadAck reads = refl
  reading_live at reads = absurd (cc)

  -- a lane that tells of the failure
  told_undone : (t : PlainReceiver) (a : EndAnswer) → IsReceiver (tells_failure (failed t a) l).1 → length t.lanes ≡ length r.lanes → has_all_done (tells_failure (failed t a) l).1 ≡ false
  told_undone t a new many =
      let there : l.0 < length t.lanes = subst (λ (k : ℕ). l.0 < k) (sym many) within in
      let below : l.0 < length (tells_failure (failed t a) l).1.lanes = subst (λ (k : ℕ). l.0 < k) (sym (length-set t.lanes l.0 record (lane_at t l.0) { state = states.SendAbort })) there in
      let stands : is_ended (state_at (tells_failure (failed t a) l).1 l.0) ≡ false = ap (λ (x : RecvLane). is_ended x.state) (lane_set (failed t a) l.0 record (lane_at t l.0) { state = states.SendAbort } there) in
      let live = live_lane (tells_failure (failed t a) l).1 l.0 (new.lanes l.0 below) stands in
      undone_by (tells_failure (failed t a) l).1 l.0 below live.2 live.0

  -- and one that ends, with no further entry that makes it through
  left_undone : (t : PlainReceiver) (a : EndAnswer) → past_at t l.0 ≡ past_at r l.0 → length t.lanes ≡ length r.lanes → IsLive r l.0 → has_all_done (leaves (failed t a) l).1 ≡ false
  left_undone t a same many live =
      undone_by (leaves (failed t a) l).1 l.0 (subst (λ (k : ℕ). l.0 < k) (sym (length-set t.lanes l.0 record (lane_at t l.0) { state = states.Ended } ∙ many)) within)
      (ap (λ (p : RecvPast). p.is_acked) same ∙ live.2) (ap (λ (p : RecvPast). p.is_closed) same ∙ live.0)

  failed_undone : (t : PlainReceiver) (a : EndAnswer) (mute : Bool) → IsReceiver (by_voice mute (leaves (failed t a) l) (tells_failure (failed t a) l)).1 → Fails r l put t a mute → has_all_done (by_voice mute (leaves (failed t a) l) (tells_failure (failed t a) l)).1 ≡ false
  failed_undone t a false new fails = told_undone t a new (fails_here r t l put a false fails).0
  failed_undone t a true new (OfMemory m going given lives same) = left_undone r answers.NoMemory refl refl (live_lane r l.0 (is.lanes l.0 within) lives)
  failed_undone t a true new (OfSender at code serves reads given) =
      left_undone (noted r (events.Abort l code ∷ [])) (answers.Aborted code) (abort_past r.history l code l.0) refl (serves_live at (reading_live at reads) serves)

  sound_now : (o : Outcome) → is_failure r.answer ≡ false → IsReceiver (came_to r l o).1 → ComesOf r l put o → is_failure (came_to r l o).1.answer ≡ true → has_all_done (came_to r l o).1 ≡ false
  sound_now (Failed t a mute) sound new of fails = failed_undone t a mute new of
  sound_now o sound new of fails = absurd (both_ways (is_failure (came_to r l o).1.answer) (outcome_sound r l put sound o refl of) fails)

-- with other lanes, as many
same_done : (r t : PlainReceiver) → t ≡ record r { lanes = t.lanes } → length t.lanes ≡ length r.lanes → has_all_done t ≡ has_all_done r
same_done r t is many = ap has_all_done is ∙ ap (λ (n : ℕ). has_finish r && every n (is_done_with r)) many

-- what was heard was noted
heard_by : (r : PlainReceiver) (l : Lane) (put : Put) (t : PlainReceiver) (a : EndAnswer) → IsCause r l put t a → IsHeard a t.history
heard_by r l put t answers.Source cause = cause
heard_by r l put t (answers.Peer kind) cause = (l, subst (λ (h : List RecvEvent). Contains h (events.Peer l kind)) (sym cause.1) (Contains-push r.history (events.Peer l kind)))
heard_by r l put t (answers.Aborted code) cause = (l, subst (λ (h : List RecvEvent). Contains h (events.Abort l code)) (sym cause.1) (Contains-push r.history (events.Abort l code)))
heard_by r l put t (answers.Refused kind) cause = cause
heard_by r l put t _ cause = tt

pub turn_answered : (r : PlainReceiver) (l : Lane) (put : Put) (step : Step) → IsReceiver r → l.0 < length r.lanes → IsAnswered r → EndsIn (Unit {0}) (turn_plan r l put) step → IsAnswered step.1
turn_answered r l put step is within answered ends = record {
  follows = subst (λ (x : Step). Follows x.1) (sym c.is) (outcome_answered r l c.outcome answered.follows);
  unfinished = go (is_failure r.answer) refl;
  heard = heard_now (is_failure r.answer) refl;
}
  where
    heard_now : (b : Bool) → is_failure r.answer ≡ b → IsHeard step.1.answer step.1.history
    heard_now true fails = subst (λ (x : PlainReceiver). IsHeard x.answer x.history) (sym ((turn_follows r l put step ends).still fails)) answered.heard
    heard_now false sound = heard_by r l put step.1 step.1.answer ((turn_follows r l put step ends).caused sound)

    c : Comes r l put step
    c = end_comes r l put (Unit {0}) step ends

    go : (b : Bool) → is_failure r.answer ≡ b → is_failure step.1.answer ≡ true → has_all_done step.1 ≡ false
    go true fails still = same_done r step.1 (failed_still r l put fails (Unit {0}) step ends) (turn_touches r l put step ends).lanes ∙ answered.unfinished fails
    go false sound fails =
        subst (λ (x : Step). has_all_done x.1 ≡ false) (sym c.is)
        (sound_now r l put is within c.outcome sound (subst (λ (x : Step). IsReceiver x.1) c.is (turn_keeps r l put step is within ends)) c.of (subst (λ (x : Step). is_failure x.1.answer ≡ true) c.is fails))

-- ---- what is logged, and a disk that fails, between steps

pub logged_answered : (r : PlainReceiver) → IsAnswered r → IsAnswered (all_logged r)
logged_answered r is = go r.unlogged
  where
    go : (bs : List Block) → IsAnswered (all_logged_by r bs)
    go [] = is
    go (b ∷ bs) = record { follows = is.follows; unfinished = is.unfinished; heard = is.heard }

pub lost_answered : (r : PlainReceiver) → has_finish r ≡ false → IsAnswered (failed r answers.Disk)
lost_answered r first = record { follows = refl; unfinished = λ fails. none (has_finish r) (every_lane r is_done_with) first; heard = tt }
  where
    none : (a b : Bool) → a ≡ false → (a && b) ≡ false
    none true b x = absurd (cc)
    none false b x = refl

-- ---- an end that begins

first_there : (n : ℕ) → 0 < n → slice_get (replicate n new_lane) 0 ≡ Some new_lane
first_there zero some = absurd (omega (arith, some))
first_there (suc n) some = refl

all_long : (n : ℕ) → length (replicate n new_lane) ≡ n
all_long zero = refl
all_long (suc n) = ap suc (all_long n)

module _ (log : Meaning) (batch n : ℕ) (some : 1 ≤ n) where
  abbrev began : PlainReceiver
  began = opened log batch (replicate n new_lane)

  -- its lanes stand
  none_out : every_lane began is_out ≡ false
  none_out =
      sym (every_false (length (replicate n new_lane)) 0 (is_out began) (subst (λ (k : ℕ). 0 < k) (sym (all_long n)) (omega (arith, some)))
      (ap (λ (o : Option RecvLane). is_ended (lane_or_ended o).state) (first_there n (omega (arith, some)))))

  going : (finish done out : Bool) → finish ≡ false → out ≡ false → answers.Going ≡ judged answers.Going (finish && done) out
  going false done false x y = refl
  going true done out x y = absurd (cc)
  going false done true x y = absurd (cc)

  pub opened_answered : IsAnswered (opened log batch (replicate n new_lane))
  opened_answered = record {
    follows = going (has_finish began) (every_lane began is_done_with) (every_lane began is_out) (ap (λ (e : EndPast). e.has_finish) end_of-none) none_out;
    unfinished = λ fails. absurd (both_ways false refl fails);
    heard = tt;
  }

-- ---- what an answer says

done_by : (a : EndAnswer) (done out : Bool) → a ≡ judged a done out → (is_failure a ≡ true → done ≡ false) → (a ≡ answers.Done) ↔ (done ≡ true)
done_by answers.Going true out is undone = absurd (cc)
done_by answers.Going false out is undone = (λ e. absurd (cc), λ e. absurd (both_ways false refl e))
done_by answers.Done true out is undone = (λ e. refl, λ e. refl)
done_by answers.Done false true is undone = absurd (cc)
done_by answers.Done false false is undone = absurd (cc)
done_by answers.Link true out is undone = absurd (cc)
done_by answers.Link false out is undone = (λ e. absurd (cc), λ e. absurd (both_ways false refl e))
done_by a done out is undone = (λ e. absurd (cc), λ e. absurd (both_ways done (undone refl) e))

pub answered_done : (r : PlainReceiver) → IsAnswered r → (r.answer ≡ answers.Done) ↔ (has_all_done r ≡ true)
answered_done r is = done_by r.answer (has_all_done r) (every_lane r is_out) is.follows is.unfinished

link_by : (a : EndAnswer) (done out : Bool) → a ≡ judged a done out → (a ≡ answers.Link) ↔ ((is_failure a ≡ false) × (done ≡ false) × (out ≡ true))
link_by answers.Going true out is = absurd (cc)
link_by answers.Going false true is = absurd (cc)
link_by answers.Going false false is = (λ e. absurd (cc), λ e. absurd (both_ways false refl e.2))
link_by answers.Done true out is = (λ e. absurd (cc), λ e. absurd (both_ways true e.1 refl))
link_by answers.Done false true is = absurd (cc)
link_by answers.Done false false is = absurd (cc)
link_by answers.Link true out is = absurd (cc)
link_by answers.Link false true is = (λ e. (refl, refl, refl), λ e. refl)
link_by answers.Link false false is = absurd (cc)
link_by a done out is = (λ e. absurd (cc), λ e. absurd (both_ways true e.0 refl))

pub answered_link : (r : PlainReceiver) → IsAnswered r → (r.answer ≡ answers.Link) ↔ HasNoLane r
answered_link r is =
    let both = link_by r.answer (has_all_done r) (every_lane r is_out) is.follows in
    (λ e. (let h = both.0 e in record { sound = h.0; undone = h.1; out = h.2 }), λ h. both.1 (h.sound, h.undone, h.out))
