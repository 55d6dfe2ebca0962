-- A step leaves room for what isn't logged in a batch, unless the disk fails.
use Rattle.std.proofs.Common.{◌≡◌, ◌⊎◌, inl, inr, ℕ, zero, suc, ◌≤◌, Bool, true, false, List, [], ◌∷◌, length, refl, sym, ap, subst, arith}
use Rattle.std.specs.Prelude.{filter, if◌then◌else◌, is_some}
use Rattle.wdt_units.specs.declared.limits.TheConstants.{MAX_BLOCKS}
use Rattle.wdt_units.specs.declared.blocks.Block.{Block}
use Rattle.wdt_units.specs.declared.numbers.Lane.{Lane}
use Rattle.wdt_codec.specs.declared.frames.Settings.{Settings}
use Rattle.wdt_sender_fsm.specs.declared.answers.EndAnswer.{EndAnswer}
use Rattle.wdt_sender_fsm.specs.declared.answers.EndAnswer.TheVariants as answers
use Rattle.wdt_sender_fsm.specs.Rules.{by_voice, is_failure, judged, standing}
use Rattle.wdt_receiver_fsm.specs.declared.events.RecvEvent.TheVariants as events
use Rattle.wdt_receiver_fsm.specs.declared.states.RecvLane.{RecvLane}
use Rattle.wdt_receiver_fsm.specs.declared.states.RecvState.TheVariants as states
use Rattle.wdt_receiver_fsm.specs.Batched.{IsBatched, is_filled}
use Rattle.wdt_receiver_fsm.specs.Causes.{Follows}
use Rattle.wdt_receiver_fsm.specs.Logging.{all_logged_by}
use Rattle.wdt_receiver_fsm.specs.Outcomes.{Acknowledged, AtFirst, Begins, Begun, ByChunks, ByDone, ByGreeting, ByLanding, ByLogging, ByLoss, ByMarks, ByNoLink, ByWait, ByWaking, Comes, ComesOf, Concluded, Concludes, Ended, Failed, Fails, GivenUp, Greeted, Idles, IsFinished, Left, Linked, Listed, Listened, Listens, OfFinish, OfKnown, OfLog, OfMake, OfMemory, OfNew, OfPeer, OfSender, OfShort, OfWrite, Outcome, ReadOn, ReadsOn, landed_by, Rested, Sized, Taken, Told, Waited, Warned, WasFinished, came_to}
use Rattle.wdt_receiver_fsm.specs.PlainReceiver.{PlainReceiver, failed, has_finish, lane_at, noted, with_lane}
use Rattle.wdt_receiver_fsm.specs.ReceiverHistory.{end_of}
use Rattle.wdt_receiver_fsm.specs.Sets.{set_of}
use Rattle.wdt_receiver_fsm.specs.Turn.{Put, Step, begins_by, given_up, greets_by, lands, leaves, meets, met_by, next_take, sized_by, tells_failure, waits_by}
use Rattle.wdt_dock.specs.DockView.{HasLostDisk}

-- unless the disk failed, there is room for what isn't logged
abbrev pub IsFew : PlainReceiver → Type 0
IsFew r = (HasLostDisk r.answer → ⊥) → length (filter is_filled r.unlogged) ≤ MAX_BLOCKS

-- the end hasn't failed
abbrev IsFine : PlainReceiver → Type 0
IsFine r = is_failure r.answer ≡ false

-- ---- a lane

fine_lane : (r : PlainReceiver) (l : ℕ) (lane : RecvLane) → IsFine r → IsFine (with_lane r l lane)
fine_lane r l lane fine = judged_fine r.answer _ _ fine
  where
    stood : (x y : Bool) → is_failure (standing x y) ≡ false
    stood true y = refl
    stood false true = refl
    stood false false = refl

    judged_fine : (a : EndAnswer) (done over : Bool) → is_failure a ≡ false → is_failure (judged a done over) ≡ false
    judged_fine a done over fine = go (is_failure a) fine
      where
        go : (c : Bool) → c ≡ false → is_failure (if c then a else standing done over) ≡ false
        go true e = absurd (cc)
        go false e = stood done over

judged_lost : (a : EndAnswer) (done over : Bool) → HasLostDisk a → HasLostDisk (judged a done over)
judged_lost answers.Disk done over lost = tt
judged_lost answers.Going done over lost = absurd lost
judged_lost answers.Done done over lost = absurd lost
judged_lost answers.Link done over lost = absurd lost
judged_lost answers.Source done over lost = absurd lost
judged_lost (answers.Peer kind) done over lost = absurd lost
judged_lost (answers.Aborted code) done over lost = absurd lost
judged_lost (answers.Refused kind) done over lost = absurd lost
judged_lost answers.NoMemory done over lost = absurd lost

few_lane : (r : PlainReceiver) (l : ℕ) (lane : RecvLane) → IsFew r → IsFew (with_lane r l lane)
few_lane r l lane few kept = few (λ lost. kept (judged_lost r.answer _ _ lost))

-- ---- the outcomes on a sound end

not_lost_as : (a b : EndAnswer) → a ≡ b → (HasLostDisk b → ⊥) → HasLostDisk a → ⊥
not_lost_as a b same none lost = none (subst HasLostDisk same lost)

fine_not_lost : (a : EndAnswer) → is_failure a ≡ false → HasLostDisk a → ⊥
fine_not_lost answers.Disk fine lost = (cc)
fine_not_lost answers.Going fine lost = lost
fine_not_lost answers.Done fine lost = lost
fine_not_lost answers.Link fine lost = lost
fine_not_lost answers.Source fine lost = lost
fine_not_lost (answers.Peer kind) fine lost = lost
fine_not_lost (answers.Aborted code) fine lost = lost
fine_not_lost (answers.Refused kind) fine lost = lost
fine_not_lost answers.NoMemory fine lost = lost

none_logged : (t : PlainReceiver) (bs : List Block) → t.unlogged ≡ bs → (all_logged_by t bs).unlogged ≡ []
none_logged t [] is = is
none_logged t (b ∷ bs) is = refl

-- what stands where an end fails
few_failing : (u : PlainReceiver) (l : Lane) (mute : Bool) → IsFew u → IsFew (by_voice mute (leaves u l) (tells_failure u l)).1
few_failing u l true few = few_lane u l.0 record (lane_at u l.0) { state = states.Ended } few
few_failing u l false few = few_lane u l.0 record (lane_at u l.0) { state = states.SendAbort } few

module _ (r : PlainReceiver) (l : Lane) (put : Put) (few : IsFew r) (fine : IsFine r) where
  few_here : length (filter is_filled r.unlogged) ≤ MAX_BLOCKS
  few_here = few (fine_not_lost r.answer fine)

  fails_few : (t : PlainReceiver) (answer : EndAnswer) (mute : Bool) → Fails r l put t answer mute → IsFew (failed t answer)
  fails_few t answer mute (OfMemory m going put_is ended is_mute) kept = few_here
  fails_few t answer mute (OfSender state code serves reading put_is) kept = few_here
  fails_few t answer mute (OfPeer state kind serves reading wrong) kept = few_here
  fails_few t answer mute (OfShort u kind finishes short) kept = omega (arith, ap (λ (bs : List Block). length (filter is_filled bs)) (none_logged u u.unlogged refl))
  fails_few t answer mute (OfMake h serves sized put_is right new) kept = absurd (kept tt)
  fails_few t answer mute (OfWrite bytes b serves put_is begun) kept = absurd (kept tt)
  fails_few t answer mute (OfLog b done full) kept = absurd (kept tt)
  fails_few t answer mute (OfFinish u finishes) kept = absurd (kept tt)

  fine_listens : (t : PlainReceiver) → Listens r l put t → IsFine t
  fine_listens t (AtFirst at given) = fine
  fine_listens t (ByNoLink at given) = fine
  fine_listens t (ByLoss state at linked given) = fine_lane (noted r (events.Dropped l ∷ [])) l.0 record (lane_at r l.0) { is_sized = false; has_waited = false; left = 0 } fine

  fine_logged : (t : PlainReceiver) (bs : List Block) → IsFine t → IsFine (all_logged_by t bs)
  fine_logged t [] f = f
  fine_logged t (b ∷ bs) f = f

  fine_left : IsFine (with_lane r l.0 record (lane_at r l.0) { left = 0 })
  fine_left = fine_lane r l.0 record (lane_at r l.0) { left = 0 } fine

  fine_reads : (t : PlainReceiver) → ReadsOn r l put t → IsFine t
  fine_reads t (ByGreeting at given asked) = fine
  fine_reads t (ByChunks at given) = fine
  fine_reads t (ByMarks at given) = fine
  fine_reads t (ByLanding b done full) = fine_left
  fine_reads t (ByLogging b done full) = fine_logged (landed_by r l b) (landed_by r l b).unlogged fine_left

  fine_begins : (t : PlainReceiver) (b : Block) → Begins r l put t b → IsFine t
  fine_begins t b (OfKnown h at sized given right new) = fine
  fine_begins t b (OfNew h at sized given right new) = fine

  fine_idles : (t : PlainReceiver) → Idles r l put t → IsFine t
  fine_idles t (ByDone at sized given is) = subst IsFine (sym is) (fine_lane (noted r (events.Idle l ∷ [])) l.0 record (lane_at r l.0) { has_waited = false } fine)
  fine_idles t (ByWait at given is) = subst IsFine (sym is) (fine_lane r l.0 record (lane_at r l.0) { has_waited = true } fine)
  fine_idles t (ByWaking at given is) = subst IsFine (sym is) fine

  fine_concludes : (t : PlainReceiver) → Concludes r l put t → IsFine t
  fine_concludes t (WasFinished u idles come) = fine_idles u idles
  fine_concludes t (IsFinished u finishes whole) = fine_logged u u.unlogged (fine_idles u finishes.idles)

  fine_meets : (s : Settings) (b : Bool) → IsFine (met_by r l s b)
  fine_meets s true = fine
  fine_meets s false = fine

  fine_greets : (t : PlainReceiver) (s : Settings) (come : Bool) → IsFine t → IsFine (greets_by t l s come).1
  fine_greets t s true f = fine_lane t l.0 record (lane_at t l.0) { state = states.SendDone; ask = s.ask; conn = s.conn.0 } f
  fine_greets t s false f = fine_lane t l.0 record (lane_at t l.0) { state = states.SendLocalCheckpoint; ask = s.ask; conn = s.conn.0 } f

  fine_sized : (files bytes : ℕ) (b : Bool) → IsFine (sized_by r l files bytes b)
  fine_sized files bytes true = fine
  fine_sized files bytes false = fine

  fine_begun : (t : PlainReceiver) (b : Block) (left : ℕ) → IsFine t → IsFine (begins_by t l b left).1
  fine_begun t b zero f = fine_lane (lands (noted t (events.Begin l b ∷ [])) l b) l.0 record (lane_at t l.0) { state = states.ReadNextCmd } f
  fine_begun t b (suc left) f = fine_lane (noted t (events.Begin l b ∷ [])) l.0 record (lane_at t l.0) { state = states.TakeBlock; left = suc left } f

  fine_waits : (t : PlainReceiver) (again : Bool) → IsFine t → IsFine (waits_by t l again).1
  fine_waits t true f = fine_lane t l.0 record (lane_at t l.0) { state = states.WaitForFinish } f
  fine_waits t false f = fine_lane t l.0 record (lane_at t l.0) { state = states.SendWait } f

  -- the end is sound behind the step, or there is room
  comes_few : (o : Outcome) → ComesOf r l put o → IsFine (came_to r l o).1 ⊎ IsFew (came_to r l o).1
  comes_few Rested why = inl fine
  comes_few Left why = inl (fine_lane r l.0 record (lane_at r l.0) { state = states.Ended } fine)
  comes_few Warned why = inl (fine_lane r l.0 record (lane_at r l.0) { state = states.SendAbort } fine)
  comes_few (Failed t answer mute) why = inr (few_failing (failed t answer) l mute (fails_few t answer mute why))
  comes_few (GivenUp t) why = inl (fine_lane (noted t (given_up l (has_finish t) ∷ [])) l.0 record (lane_at t l.0) { state = states.Ended } (fine_listens t why.0))
  comes_few (Listened t) why = inl (fine_lane t l.0 record (lane_at t l.0) { state = states.Listen } (fine_listens t why.0))
  comes_few Linked why = inl (fine_lane (noted r (events.Take l (next_take r l) ∷ [])) l.0 record (lane_at r l.0) { state = states.ReadSettings; is_sized = false; has_waited = false } fine)
  comes_few (Greeted settings) why = inl (fine_greets (meets r l settings) settings (has_finish r) (fine_meets settings (is_some (end_of r.history).met)))
  comes_few Listed why = inl (fine_lane r l.0 record (lane_at r l.0) { state = states.SendFileChunks } fine)
  comes_few (ReadOn t) why = inl (fine_lane t l.0 record (lane_at t l.0) { state = states.ReadNextCmd } (fine_reads t why))
  comes_few (Sized files bytes) why = inl (fine_lane (sized_by r l files bytes (is_some (end_of r.history).sized)) l.0 record (lane_at r l.0) { is_sized = true } (fine_sized files bytes (is_some (end_of r.history).sized)))
  comes_few (Begun t b) why = inl (fine_begun t b b.length (fine_begins t b why))
  comes_few (Taken left) why = inl (fine_lane r l.0 record (lane_at r l.0) { state = states.TakeBlock; left = left } fine)
  comes_few (Concluded t) why = inl (fine_lane t l.0 record (lane_at t l.0) { state = states.SendDone } (fine_concludes t why))
  comes_few (Told t q qs) why = inl (fine_lane (noted t (events.Told l (set_of (q ∷ qs)) ∷ [])) l.0 record (lane_at t l.0) { state = states.SendGlobalCheckpoint } (fine_idles t why.idles))
  comes_few (Waited t again) why = inl (fine_waits t again (fine_idles t (why.0).idles))
  comes_few Ended why = inl (fine_lane r l.0 record (lane_at r l.0) { state = states.ReadAck } fine)
  comes_few Acknowledged why = inl (fine_lane (noted r (events.Acked l ∷ [])) l.0 record (lane_at r l.0) { state = states.Ended } fine)

-- ---- a step

few_fine : (t : PlainReceiver) → IsBatched t → IsFine t → IsFew t
few_fine t batched fine kept = (let below = batched.below fine in omega (arith, below.blocks))

pub few_stays : (r : PlainReceiver) (l : Lane) (put : Put) (step : Step) → IsFew r → IsBatched step.1 → Follows r l put step.1 → Comes r l put step → IsFew step.1
few_stays r l put step few batched follows comes = go (is_failure r.answer) refl
  where
    go : (c : Bool) → is_failure r.answer ≡ c → IsFew step.1
    go true e = subst IsFew (sym (follows.still e)) few
    go false e = elim (comes_few r l put few e comes.outcome comes.of) [
      | inl fine ↦ few_fine step.1 batched (subst (λ (s : Step). IsFine s.1) (sym comes.is) fine)
      | inr still ↦ subst (λ (s : Step). IsFew s.1) (sym comes.is) still
    ]
