-- The act of a step is that of its lane as it stands behind it.
use Rattle.std.proofs.Common.{◌≡◌, inl, inr, ℕ, zero, suc, ◌<◌, ◌≤◌, List, [], ◌∷◌, ◌++◌, length, map, Bool, true, false, Some, is_some, slice_get, slice_set, subst, sym, ap, ◌∙◌, refl, arith, eq-eqb}
use Rattle.std.proofs.lemmas.List.{length-set}
use Rattle.wdt_units.specs.declared.blocks.Block.{Block}
use Rattle.wdt_units.specs.declared.numbers.Lane.{Lane}
use Rattle.wdt_units.specs.declared.numbers.LaneSet.{LaneSet}
use Rattle.wdt_codec.specs.declared.frames.Frame.TheVariants as frames
use Rattle.wdt_codec.specs.declared.frames.Mark.{Mark}
use Rattle.wdt_codec.specs.declared.frames.Settings.{Settings}
use Rattle.wdt_sender_fsm.specs.declared.answers.EndAnswer.{EndAnswer}
use Rattle.wdt_sender_fsm.specs.declared.answers.EndAnswer.TheVariants as answers
use Rattle.wdt_sender_fsm.specs.Rules.{code_of, is_failure, judged, by_voice}
use Rattle.wdt_receiver_fsm.specs.declared.acts.RecvAct.TheVariants as acts
use Rattle.wdt_receiver_fsm.specs.declared.events.RecvEvent.{RecvEvent}
use Rattle.wdt_receiver_fsm.specs.declared.events.RecvEvent.TheVariants as events
use Rattle.wdt_receiver_fsm.specs.declared.states.RecvLane.{RecvLane}
use Rattle.wdt_receiver_fsm.specs.declared.states.RecvState.{RecvState}
use Rattle.wdt_receiver_fsm.specs.declared.states.RecvState.TheVariants as states
use Rattle.wdt_receiver_fsm.specs.Acts.{IsActOf, act_in, act_of}
use Rattle.wdt_receiver_fsm.specs.Logging.{all_logged_by}
use Rattle.wdt_receiver_fsm.specs.Outcomes.{Outcome, Rested, Left, Warned, Failed, GivenUp, Listened, Linked, Greeted, Listed, ReadOn, Sized, Begun, Taken, Concluded, Told, Waited, Ended, Acknowledged, came_to, ComesOf, landed_by, Idles, ByDone, ByWait, ByWaking, Fails, OfMemory, OfSender, OfPeer, OfShort, OfMake, OfWrite, OfLog, OfFinish, Listens, AtFirst, ByNoLink, ByLoss, ReadsOn, ByGreeting, ByChunks, ByMarks, ByLanding, ByLogging, Concludes, WasFinished, IsFinished, Begins, OfKnown, OfNew}
use Rattle.wdt_receiver_fsm.specs.Plan.{EndsIn}
use Rattle.wdt_receiver_fsm.specs.PlainReceiver.{PlainReceiver, failed, has_finish, lane_at, lane_or_ended, mark_of, noted, state_at, untold_at, with_lane}
use Rattle.wdt_receiver_fsm.specs.Ready.{is_untold}
use Rattle.wdt_receiver_fsm.specs.ReceiverHistory.{RecvPast, end_of, past_of, past_of-append}
use Rattle.wdt_receiver_fsm.specs.Sets.{lanes_of, set_of}
use Rattle.wdt_receiver_fsm.specs.Turn.{Put, Step, begins_by, given_up, greets_by, lands, leaves, meets, met_by, next_take, reads, sized_by, tells_by, tells_failure, turn_plan, waits_by}
use Rattle.wdt_receiver_fsm.proofs.Comes.{end_comes}
use Rattle.wdt_receiver_fsm.proofs.LaneLists.{lanes_of_some}

get_set : {A : Type 0} (xs : List A) (i : ℕ) (x : A) → i < length xs → slice_get (slice_set xs i x) i ≡ Some x
get_set [] i x within = absurd (omega (arith, within))
get_set (y ∷ ys) zero x within = refl
get_set (y ∷ ys) (suc i) x within = get_set ys i x (omega (arith, within))

-- the lane stands as it was put
pub lane_set : (r : PlainReceiver) (l : ℕ) (lane : RecvLane) → l < length r.lanes → lane_at (with_lane r l lane) l ≡ lane
lane_set r l lane within = ap lane_or_ended (get_set r.lanes l lane within)

-- the act is that of the lane behind the step
abbrev pub Holds : Lane → Step → Type 0
Holds l step = step.0 ≡ act_of step.1 l

-- the act of a lane that was put so
put_act : (t : PlainReceiver) (l : Lane) (lane : RecvLane) → l.0 < length t.lanes → act_in (with_lane t l.0 lane) l lane lane.state ≡ act_of (with_lane t l.0 lane) l
put_act t l lane within = ap (λ (x : RecvLane). act_in (with_lane t l.0 lane) l x x.state) (sym (lane_set t l.0 lane within))

-- a failure stays
pub judged_failure : (a : EndAnswer) (x y : Bool) → is_failure a ≡ true → judged a x y ≡ a
judged_failure answers.Going x y fails = cc
judged_failure answers.Done x y fails = cc
judged_failure answers.Link x y fails = cc
judged_failure a x y fails = refl

warns_so : (t : PlainReceiver) (l : Lane) → is_failure t.answer ≡ true → l.0 < length t.lanes → Holds l (tells_failure t l)
warns_so t l fails within = ap (λ (a : EndAnswer). acts.Write (frames.Abort (code_of a))) (sym (judged_failure t.answer _ _ fails)) ∙ put_act t l record (lane_at t l.0) { state = states.SendAbort } within

fails_so : (t : PlainReceiver) (l : Lane) (a : EndAnswer) (mute : Bool) → is_failure a ≡ true → l.0 < length t.lanes → Holds l (by_voice mute (leaves (failed t a) l) (tells_failure (failed t a) l))
fails_so t l a true fails within = put_act (failed t a) l record (lane_at t l.0) { state = states.Ended } within
fails_so t l a false fails within = warns_so (failed t a) l fails within

greets_so : (t : PlainReceiver) (l : Lane) (s : Settings) (come : Bool) → l.0 < length t.lanes → Holds l (greets_by t l s come)
greets_so t l s true within = put_act t l record (lane_at t l.0) { state = states.SendDone; ask = s.ask; conn = s.conn.0 } within
greets_so t l s false within = put_act t l record (lane_at t l.0) { state = states.SendLocalCheckpoint; ask = s.ask; conn = s.conn.0 } within

begins_so : (t : PlainReceiver) (l : Lane) (b : Block) (left : ℕ) → l.0 < length t.lanes → Holds l (begins_by t l b left)
begins_so t l b zero within = put_act (lands (noted t (events.Begin l b ∷ [])) l b) l record (lane_at (lands (noted t (events.Begin l b ∷ [])) l b) l.0) { state = states.ReadNextCmd } within
begins_so t l b (suc left) within = put_act (noted t (events.Begin l b ∷ [])) l record (lane_at (noted t (events.Begin l b ∷ [])) l.0) { state = states.TakeBlock; left = suc left } within

waits_so : (t : PlainReceiver) (l : Lane) (again : Bool) → l.0 < length t.lanes → Holds l (waits_by t l again)
waits_so t l true within = put_act t l record (lane_at t l.0) { state = states.WaitForFinish } within
waits_so t l false within = put_act t l record (lane_at t l.0) { state = states.SendWait } within

-- what is told of lanes doesn't change what has landed
told_marks : (g : List RecvEvent) (l : Lane) (set : LaneSet) (q : ℕ) → mark_of (g ++ events.Told l set ∷ []) q ≡ mark_of g q
unfolding mark_of
told_marks g l set q = ap (λ (p : RecvPast). record { lane = record { 0 = q }; count = length p.landed }) (past_of-append g (events.Told l set ∷ []) q)

marks_stay : (g : List RecvEvent) (l : Lane) (set : LaneSet) (qs : List ℕ) → map (mark_of (g ++ events.Told l set ∷ [])) qs ≡ map (mark_of g) qs
marks_stay g l set [] = refl
marks_stay g l set (q ∷ qs) = ap (λ (m : Mark). m ∷ map (mark_of (g ++ events.Told l set ∷ [])) qs) (told_marks g l set q) ∙ ap (λ (ms : List Mark). mark_of g q ∷ ms) (marks_stay g l set qs)

telling_is : (g : List RecvEvent) (l : Lane) (set : LaneSet) → (past_of (g ++ events.Told l set ∷ []) l.0).telling ≡ lanes_of set
telling_is g l set = ap (λ (p : RecvPast). p.telling) (past_of-append g (events.Told l set ∷ []) l.0) ∙ rw (eq-eqb l.0 l.0 refl) refl

pub told_lanes : (t : PlainReceiver) (l : Lane) (qs : List ℕ) → length t.lanes ≤ 16 → untold_at t l.0 ≡ qs → lanes_of (set_of qs) ≡ qs
told_lanes t l qs few is = subst (λ (xs : List ℕ). lanes_of (set_of xs) ≡ xs) is (lanes_of_some (is_untold t.history l.0) (length t.lanes) few)

tells_so : (t : PlainReceiver) (l : Lane) (q : ℕ) (qs : List ℕ) → length t.lanes ≤ 16 → untold_at t l.0 ≡ q ∷ qs → l.0 < length t.lanes → Holds l (tells_by t l (q ∷ qs))
tells_so t l q qs few is within =
    ap (λ (ms : List Mark). acts.Write (frames.ErrMarks ms))
    (sym (marks_stay t.history l (set_of (q ∷ qs)) (q ∷ qs))
    ∙ ap (λ (xs : List ℕ). map (mark_of (t.history ++ events.Told l (set_of (q ∷ qs)) ∷ [])) xs) (sym (telling_is t.history l (set_of (q ∷ qs)) ∙ told_lanes t l (q ∷ qs) few is)))
    ∙ put_act (noted t (events.Told l (set_of (q ∷ qs)) ∷ [])) l record (lane_at t l.0) { state = states.SendGlobalCheckpoint } within

-- ---- what a step goes on from has as many lanes

pub idles_many : (r t : PlainReceiver) (l : Lane) (put : Put) → Idles r l put t → length t.lanes ≡ length r.lanes
idles_many r t l put (ByDone at sized given is) = ap (λ (x : PlainReceiver). length x.lanes) is ∙ length-set r.lanes l.0 record (lane_at r l.0) { has_waited = false }
idles_many r t l put (ByWait at given is) = ap (λ (x : PlainReceiver). length x.lanes) is ∙ length-set r.lanes l.0 record (lane_at r l.0) { has_waited = true }
idles_many r t l put (ByWaking at given is) = ap (λ (x : PlainReceiver). length x.lanes) is

logged_many : (t : PlainReceiver) (bs : List Block) → length (all_logged_by t bs).lanes ≡ length t.lanes
logged_many t [] = refl
logged_many t (b ∷ bs) = refl

pub listens_many : (r t : PlainReceiver) (l : Lane) (put : Put) → Listens r l put t → length t.lanes ≡ length r.lanes
listens_many r t l put (AtFirst at given) = refl
listens_many r t l put (ByNoLink at given) = refl
listens_many r t l put (ByLoss state at linked given) = length-set r.lanes l.0 record (lane_at r l.0) { is_sized = false; has_waited = false; left = 0 }

landed_many : (r : PlainReceiver) (l : Lane) (b : Block) → length (landed_by r l b).lanes ≡ length r.lanes
landed_many r l b = length-set r.lanes l.0 record (lane_at r l.0) { left = 0 }

pub reads_many : (r t : PlainReceiver) (l : Lane) (put : Put) → ReadsOn r l put t → length t.lanes ≡ length r.lanes
reads_many r t l put (ByGreeting at given asked) = refl
reads_many r t l put (ByChunks at given) = refl
reads_many r t l put (ByMarks at given) = refl
reads_many r t l put (ByLanding b lands full) = landed_many r l b
reads_many r t l put (ByLogging b lands full) = logged_many (landed_by r l b) (landed_by r l b).unlogged ∙ landed_many r l b

pub concludes_many : (r t : PlainReceiver) (l : Lane) (put : Put) → Concludes r l put t → length t.lanes ≡ length r.lanes
concludes_many r t l put (WasFinished u idles come) = idles_many r u l put idles
concludes_many r t l put (IsFinished u why whole) = logged_many u u.unlogged ∙ idles_many r u l put why.idles

pub begins_many : (r t : PlainReceiver) (l : Lane) (put : Put) (b : Block) → Begins r l put t b → length t.lanes ≡ length r.lanes
begins_many r t l put b (OfKnown h at sized given right new) = refl
begins_many r t l put b (OfNew h at sized given right new) = refl

pub meets_many : (r : PlainReceiver) (l : Lane) (s : Settings) (b : Bool) → length (met_by r l s b).lanes ≡ length r.lanes
meets_many r l s true = refl
meets_many r l s false = refl

pub fails_here : (r t : PlainReceiver) (l : Lane) (put : Put) (a : EndAnswer) (mute : Bool) → Fails r l put t a mute → (length t.lanes ≡ length r.lanes) × (is_failure a ≡ true)
fails_here r t l put a mute (OfMemory m going given lives is) = (refl, refl)
fails_here r t l put a mute (OfSender state code at reads given) = (refl, refl)
fails_here r t l put a mute (OfPeer state kind at reads wrong) = (refl, refl)
fails_here r t l put a mute (OfShort u kind why short) = (logged_many u u.unlogged ∙ idles_many r u l put why.idles, refl)
fails_here r t l put a mute (OfMake h at sized given right new) = (refl, refl)
fails_here r t l put a mute (OfWrite bytes b at given begun) = (refl, refl)
fails_here r t l put a mute (OfLog b lands full) = (landed_many r l b, refl)
fails_here r t l put a mute (OfFinish u why) = (idles_many r u l put why.idles, refl)

sized_so : (r : PlainReceiver) (l : Lane) (files bytes : ℕ) (b : Bool) → state_at r l.0 ≡ states.ReadNextCmd → l.0 < length r.lanes → Holds l (reads (with_lane (sized_by r l files bytes b) l.0 record (lane_at r l.0) { is_sized = true }))
sized_so r l files bytes true here within = ap (λ (x : RecvState). act_in (with_lane r l.0 record (lane_at r l.0) { is_sized = true }) l record (lane_at r l.0) { is_sized = true } x) (sym here) ∙ put_act r l record (lane_at r l.0) { is_sized = true } within
sized_so r l files bytes false here within =
    ap (λ (x : RecvState). act_in (with_lane (noted r (events.Sized l files bytes ∷ [])) l.0 record (lane_at r l.0) { is_sized = true }) l record (lane_at r l.0) { is_sized = true } x) (sym here)
    ∙ put_act (noted r (events.Sized l files bytes ∷ [])) l record (lane_at r l.0) { is_sized = true } within

-- the lane is one of as many
pub still : (r t : PlainReceiver) (l : Lane) → length t.lanes ≡ length r.lanes → l.0 < length r.lanes → l.0 < length t.lanes
still r t l many within = subst (λ (n : ℕ). l.0 < n) (sym many) within

abbrev pub is_rest : Outcome → Bool
is_rest Rested = true
is_rest o = false

pub outcome_holds : (r : PlainReceiver) (l : Lane) (put : Put) (o : Outcome) → is_rest o ≡ false → ComesOf r l put o → length r.lanes ≤ 16 → l.0 < length r.lanes → Holds l (came_to r l o)
outcome_holds r l put Rested acts_on of few within = cc
outcome_holds r l put Left acts_on of few within = put_act r l record (lane_at r l.0) { state = states.Ended } within
outcome_holds r l put Warned acts_on of few within = warns_so r l of.1.failed within
outcome_holds r l put (Failed t a mute) acts_on of few within = let here = fails_here r t l put a mute of in fails_so t l a mute here.1 (still r t l here.0 within)
outcome_holds r l put (GivenUp t) acts_on of few within = put_act (noted t (given_up l (has_finish t) ∷ [])) l record (lane_at t l.0) { state = states.Ended } (still r t l (listens_many r t l put of.0) within)
outcome_holds r l put (Listened t) acts_on of few within = put_act t l record (lane_at t l.0) { state = states.Listen } (still r t l (listens_many r t l put of.0) within)
outcome_holds r l put Linked acts_on of few within = put_act (noted r (events.Take l (next_take r l) ∷ [])) l record (lane_at r l.0) { state = states.ReadSettings; is_sized = false; has_waited = false } within
outcome_holds r l put (Greeted s) acts_on of few within = greets_so (meets r l s) l s (has_finish r) (still r (meets r l s) l (meets_many r l s (is_some (end_of r.history).met)) within)
outcome_holds r l put Listed acts_on of few within = put_act r l record (lane_at r l.0) { state = states.SendFileChunks } within
outcome_holds r l put (ReadOn t) acts_on of few within = put_act t l record (lane_at t l.0) { state = states.ReadNextCmd } (still r t l (reads_many r t l put of) within)
outcome_holds r l put (Sized files bytes) acts_on of few within = sized_so r l files bytes (is_some (end_of r.history).sized) of.0.here within
outcome_holds r l put (Begun t b) acts_on of few within = begins_so t l b b.length (still r t l (begins_many r t l put b of) within)
outcome_holds r l put (Taken left) acts_on of few within = put_act r l record (lane_at r l.0) { state = states.TakeBlock; left = left } within
outcome_holds r l put (Concluded t) acts_on of few within = put_act t l record (lane_at t l.0) { state = states.SendDone } (still r t l (concludes_many r t l put of) within)
outcome_holds r l put (Told t q qs) acts_on of few within = tells_so t l q qs (subst (λ (n : ℕ). n ≤ 16) (sym (idles_many r t l put of.idles)) few) of.told (still r t l (idles_many r t l put of.idles) within)
outcome_holds r l put (Waited t again) acts_on of few within = waits_so t l again (still r t l (idles_many r t l put of.0.idles) within)
outcome_holds r l put Ended acts_on of few within = put_act r l record (lane_at r l.0) { state = states.ReadAck } within
outcome_holds r l put Acknowledged acts_on of few within = put_act (noted r (events.Acked l ∷ [])) l record (lane_at r l.0) { state = states.Ended } within

came_so : (r : PlainReceiver) (l : Lane) (put : Put) (o : Outcome) → ComesOf r l put o → length r.lanes ≤ 16 → l.0 < length r.lanes → IsActOf r l (came_to r l o)
came_so r l put Rested of few within = inr refl
came_so r l put o of few within = inl (outcome_holds r l put o refl of few within)

pub turn_acts : (r : PlainReceiver) (l : Lane) (put : Put) (step : Step) → length r.lanes ≤ 16 → l.0 < length r.lanes → EndsIn (Unit {0}) (turn_plan r l put) step → IsActOf r l step
turn_acts r l put step few within ends =
    let c = end_comes r l put (Unit {0}) step ends in
    subst (λ (x : Step). IsActOf r l x) (sym c.is) (came_so r l put c.outcome c.of few within)
