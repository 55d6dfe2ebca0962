-- A step leaves what isn't its lane's.
use Rattle.std.proofs.Common.{◌≡◌, ◌≢◌, ℕ, zero, suc, List, [], ◌∷◌, ◌++◌, Bool, true, false, Option, Some, None, is_some, slice_get, slice_set, subst, sym, ap, ◌∙◌, refl, append_assoc, append-nil}
use Rattle.std.proofs.lemmas.List.{length-set}
use Rattle.wdt_units.specs.Lanes.{AllOf}
use Rattle.wdt_units.specs.declared.blocks.Block.{Block}
use Rattle.wdt_units.specs.declared.blocks.Header.{Header}
use Rattle.wdt_units.specs.declared.numbers.Lane.{Lane}
use Rattle.wdt_codec.specs.declared.frames.Settings.{Settings}
use Rattle.wdt_logfmt.specs.Beginning.{KnownFile, with_known}
use Rattle.wdt_sender_fsm.specs.declared.answers.EndAnswer.{EndAnswer}
use Rattle.wdt_sender_fsm.specs.Rules.{by_voice}
use Rattle.wdt_receiver_fsm.specs.declared.events.RecvEvent.{RecvEvent}
use Rattle.wdt_receiver_fsm.specs.declared.events.RecvEvent.TheVariants as events
use Rattle.wdt_receiver_fsm.specs.declared.states.RecvLane.{RecvLane}
use Rattle.wdt_receiver_fsm.specs.declared.states.RecvState.TheVariants as states
use Rattle.wdt_receiver_fsm.specs.Logging.{all_logged, all_logged_by}
use Rattle.wdt_receiver_fsm.specs.Outcomes.{Outcome, Rested, Left, Warned, Failed, GivenUp, Listened, Linked, Greeted, Listed, ReadOn, Sized, Begun, Taken, Concluded, Told, Waited, Ended, Acknowledged, came_to, ComesOf, landed_by, Idles, ByDone, ByWait, ByWaking, Fails, OfMemory, OfSender, OfPeer, OfShort, OfMake, OfWrite, OfLog, OfFinish, Listens, AtFirst, ByNoLink, ByLoss, ReadsOn, ByGreeting, ByChunks, ByMarks, ByLanding, ByLogging, Concludes, WasFinished, IsFinished, Begins, OfKnown, OfNew}
use Rattle.wdt_receiver_fsm.specs.Plan.{EndsIn}
use Rattle.wdt_receiver_fsm.specs.PlainReceiver.{PlainReceiver, failed, has_finish, lane_at, lane_or_ended, noted, with_lane}
use Rattle.wdt_receiver_fsm.specs.ReceiverHistory.{end_of, lane_of}
use Rattle.wdt_receiver_fsm.specs.Sets.{set_of}
use Rattle.wdt_receiver_fsm.specs.Touches.{Keeps, Touches}
use Rattle.wdt_receiver_fsm.specs.Turn.{Put, Step, begins_by, file_of_header, given_up, greets_by, knows, lands, leaves, meets, met_by, next_take, sized_by, tells_failure, turn_plan, waits_by}
use Rattle.wdt_receiver_fsm.proofs.Comes.{end_comes}

-- ---- entries

all_of-append : (l : ℕ) (es ds : List RecvEvent) → AllOf lane_of l es → AllOf lane_of l ds → AllOf lane_of l (es ++ ds)
all_of-append l [] ds own more = more
all_of-append l (e ∷ es) ds own more = (own.0, all_of-append l es ds own.1 more)

-- ---- a receiver behind others

touches_none : (r : PlainReceiver) (l : Lane) → Touches r l r
touches_none r l = record {
  opening = refl;
  batch = refl;
  lanes = refl;
  others = λ j ne. refl;
  history = record { entries = []; behind = sym (append-nil r.history); own = tt };
  known = λ number file is. is;
}

touches_both : (r s t : PlainReceiver) (l : Lane) → Touches r l s → Touches s l t → Touches r l t
touches_both r s t l a b = record {
  opening = b.opening ∙ a.opening;
  batch = b.batch ∙ a.batch;
  lanes = b.lanes ∙ a.lanes;
  others = λ j ne. b.others j ne ∙ a.others j ne;
  history = record {
    entries = a.history.entries ++ b.history.entries;
    behind = b.history.behind ∙ ap (λ (h : List RecvEvent). h ++ b.history.entries) a.history.behind ∙ append_assoc r.history a.history.entries b.history.entries;
    own = all_of-append l.0 a.history.entries b.history.entries a.history.own b.history.own;
  };
  known = λ number file is. b.known number file (a.known number file is);
}

-- ---- what a step does

notes : (r : PlainReceiver) (l : Lane) (es : List RecvEvent) → AllOf lane_of l.0 es → Touches r l (noted r es)
notes r l es own = record {
  opening = refl;
  batch = refl;
  lanes = refl;
  others = λ j ne. refl;
  history = record { entries = es; behind = refl; own = own };
  known = λ number file is. is;
}

pub set_other : {A : Type 0} (xs : List A) (i j : ℕ) (x : A) → j ≢ i → slice_get (slice_set xs i x) j ≡ slice_get xs j
set_other [] i j x ne = refl
set_other (y ∷ ys) zero zero x ne = absurd (ne refl)
set_other (y ∷ ys) zero (suc j) x ne = refl
set_other (y ∷ ys) (suc i) zero x ne = refl
set_other (y ∷ ys) (suc i) (suc j) x ne = set_other ys i j x (λ e. ne (ap (λ (n : ℕ). suc n) e))

puts : (r : PlainReceiver) (l : Lane) (lane : RecvLane) → Touches r l (with_lane r l.0 lane)
puts r l lane = record {
  opening = refl;
  batch = refl;
  lanes = length-set r.lanes l.0 lane;
  others = λ j ne. ap lane_or_ended (set_other r.lanes l.0 j lane ne);
  history = record { entries = []; behind = sym (append-nil r.history); own = tt };
  known = λ number file is. is;
}

fails : (r : PlainReceiver) (l : Lane) (a : EndAnswer) → Touches r l (failed r a)
fails r l a = record {
  opening = refl;
  batch = refl;
  lanes = refl;
  others = λ j ne. refl;
  history = record { entries = []; behind = sym (append-nil r.history); own = tt };
  known = λ number file is. is;
}

logs : (r : PlainReceiver) (l : Lane) (bs : List Block) → Touches r l (all_logged_by r bs)
logs r l [] = touches_none r l
logs r l (b ∷ bs) = record {
  opening = refl;
  batch = refl;
  lanes = refl;
  others = λ j ne. refl;
  history = record { entries = []; behind = sym (append-nil r.history); own = tt };
  known = λ number file is. is;
}

-- a file more leaves the others at their numbers
known_kept : (known : List (Option KnownFile)) (more : KnownFile) → Keeps known (with_known known more)
known_kept [] more number file is = absurd (cc)
known_kept (None ∷ slots) more zero file is = absurd (cc)
known_kept (None ∷ slots) more (suc number) file is = is
known_kept (Some other ∷ slots) more zero file is = is
known_kept (Some other ∷ slots) more (suc number) file is = known_kept slots more number file is

learns : (r : PlainReceiver) (l : Lane) (h : Header) → Touches r l (knows r h)
learns r l h = record {
  opening = refl;
  batch = refl;
  lanes = refl;
  others = λ j ne. refl;
  history = record { entries = []; behind = sym (append-nil r.history); own = tt };
  known = known_kept r.known (file_of_header h);
}

landing : (r : PlainReceiver) (l : Lane) (b : Block) → Touches r l (lands r l b)
landing r l b = record {
  opening = refl;
  batch = refl;
  lanes = refl;
  others = λ j ne. refl;
  history = record { entries = events.Land l ∷ []; behind = refl; own = (refl, tt) };
  known = λ number file is. is;
}

-- without what the step noted
unnoted : (r t : PlainReceiver) (l : Lane) → Touches r l t → Touches r l (record t { history = r.history })
unnoted r t l a = record {
  opening = a.opening;
  batch = a.batch;
  lanes = a.lanes;
  others = a.others;
  history = record { entries = []; behind = sym (append-nil r.history); own = tt };
  known = a.known;
}

-- ---- what a step goes on from

idles_touch : (r t : PlainReceiver) (l : Lane) (put : Put) → Idles r l put t → Touches r l t
idles_touch r t l put (ByDone at sized given is) =
    subst (λ (x : PlainReceiver). Touches r l x) (sym is) (touches_both r (noted r (events.Idle l ∷ [])) _ l (notes r l (events.Idle l ∷ []) (refl, tt)) (puts (noted r (events.Idle l ∷ [])) l record (lane_at r l.0) { has_waited = false }))
idles_touch r t l put (ByWait at given is) = subst (λ (x : PlainReceiver). Touches r l x) (sym is) (puts r l record (lane_at r l.0) { has_waited = true })
idles_touch r t l put (ByWaking at given is) = subst (λ (x : PlainReceiver). Touches r l x) (sym is) (touches_none r l)

listens_touch : (r t : PlainReceiver) (l : Lane) (put : Put) → Listens r l put t → Touches r l t
listens_touch r t l put (AtFirst at given) = touches_none r l
listens_touch r t l put (ByNoLink at given) = notes r l (events.NoLink l ∷ []) (refl, tt)
listens_touch r t l put (ByLoss state at linked given) = touches_both r (noted r (events.Dropped l ∷ [])) _ l (notes r l (events.Dropped l ∷ []) (refl, tt)) (puts (noted r (events.Dropped l ∷ [])) l record (lane_at r l.0) { is_sized = false; has_waited = false; left = 0 })

landed_touch : (r : PlainReceiver) (l : Lane) (b : Block) → Touches r l (landed_by r l b)
landed_touch r l b = touches_both r (with_lane r l.0 record (lane_at r l.0) { left = 0 }) _ l (puts r l record (lane_at r l.0) { left = 0 }) (landing (with_lane r l.0 record (lane_at r l.0) { left = 0 }) l b)

logged_touch : (r t : PlainReceiver) (l : Lane) → Touches r l t → Touches r l (all_logged t)
logged_touch r t l a = touches_both r t (all_logged t) l a (logs t l t.unlogged)

reads_touch : (r t : PlainReceiver) (l : Lane) (put : Put) → ReadsOn r l put t → Touches r l t
reads_touch r t l put (ByGreeting at given asked) = touches_none r l
reads_touch r t l put (ByChunks at given) = touches_none r l
reads_touch r t l put (ByMarks at given) = touches_none r l
reads_touch r t l put (ByLanding b lands full) = landed_touch r l b
reads_touch r t l put (ByLogging b lands full) = logged_touch r (landed_by r l b) l (landed_touch r l b)

concludes_touch : (r t : PlainReceiver) (l : Lane) (put : Put) → Concludes r l put t → Touches r l t
concludes_touch r t l put (WasFinished u idles come) = idles_touch r u l put idles
concludes_touch r t l put (IsFinished u why whole) = touches_both r (all_logged u) _ l (logged_touch r u l (idles_touch r u l put why.idles)) (notes (all_logged u) l (events.Finish ∷ []) (tt, tt))

begins_touch : (r t : PlainReceiver) (l : Lane) (put : Put) (b : Block) → Begins r l put t b → Touches r l t
begins_touch r t l put b (OfKnown h at sized given right new) = touches_none r l
begins_touch r t l put b (OfNew h at sized given right new) = learns r l h

fails_touch : (r t : PlainReceiver) (l : Lane) (put : Put) (a : EndAnswer) (mute : Bool) → Fails r l put t a mute → Touches r l t
fails_touch r t l put a mute (OfMemory m going given lives is) = touches_none r l
fails_touch r t l put a mute (OfSender state code at reads given) = notes r l (events.Abort l code ∷ []) (refl, tt)
fails_touch r t l put a mute (OfPeer state kind at reads wrong) = notes r l (events.Peer l kind ∷ []) (refl, tt)
fails_touch r t l put a mute (OfShort u kind why short) =
    let calm : PlainReceiver = record (all_logged u) { history = r.history } in
    touches_both r (record (all_logged u) { history = r.history }) _ l (unnoted r (all_logged u) l (logged_touch r u l (idles_touch r u l put why.idles)))
    (notes (record (all_logged u) { history = r.history }) l (events.Peer l kind ∷ []) (refl, tt))
fails_touch r t l put a mute (OfMake h at sized given right new) = touches_none r l
fails_touch r t l put a mute (OfWrite bytes b at given begun) = touches_none r l
fails_touch r t l put a mute (OfLog b lands full) = landed_touch r l b
fails_touch r t l put a mute (OfFinish u why) = idles_touch r u l put why.idles

-- ---- the outcomes

voiced_touch : (r t : PlainReceiver) (l : Lane) (mute : Bool) → Touches r l t → Touches r l (by_voice mute (leaves t l) (tells_failure t l)).1
voiced_touch r t l true a = touches_both r t _ l a (puts t l record (lane_at t l.0) { state = states.Ended })
voiced_touch r t l false a = touches_both r t _ l a (puts t l record (lane_at t l.0) { state = states.SendAbort })

given_own : (l : Lane) (come : Bool) → AllOf lane_of l.0 (given_up l come ∷ [])
given_own l true = (refl, tt)
given_own l false = (refl, tt)

then_puts : (r t : PlainReceiver) (l : Lane) (lane : RecvLane) → Touches r l t → Touches r l (with_lane t l.0 lane)
then_puts r t l lane a = touches_both r t (with_lane t l.0 lane) l a (puts t l lane)

then_notes : (r t : PlainReceiver) (l : Lane) (es : List RecvEvent) → AllOf lane_of l.0 es → Touches r l t → Touches r l (noted t es)
then_notes r t l es own a = touches_both r t (noted t es) l a (notes t l es own)

meets_touch : (r : PlainReceiver) (l : Lane) (s : Settings) (b : Bool) → Touches r l (met_by r l s b)
meets_touch r l s true = touches_none r l
meets_touch r l s false = notes r l (events.Met l s ∷ []) (refl, tt)

greets_touch : (r t : PlainReceiver) (l : Lane) (s : Settings) (come : Bool) → Touches r l t → Touches r l (greets_by t l s come).1
greets_touch r t l s true a = then_puts r t l record (lane_at t l.0) { state = states.SendDone; ask = s.ask; conn = s.conn.0 } a
greets_touch r t l s false a = then_puts r t l record (lane_at t l.0) { state = states.SendLocalCheckpoint; ask = s.ask; conn = s.conn.0 } a

sized_touch : (r : PlainReceiver) (l : Lane) (files bytes : ℕ) (b : Bool) → Touches r l (sized_by r l files bytes b)
sized_touch r l files bytes true = touches_none r l
sized_touch r l files bytes false = notes r l (events.Sized l files bytes ∷ []) (refl, tt)

begun_touch : (r t : PlainReceiver) (l : Lane) (b : Block) (left : ℕ) → Touches r l t → Touches r l (begins_by t l b left).1
begun_touch r t l b zero a =
    then_puts r (lands (noted t (events.Begin l b ∷ [])) l b) l record (lane_at (lands (noted t (events.Begin l b ∷ [])) l b) l.0) { state = states.ReadNextCmd }
    (touches_both r (noted t (events.Begin l b ∷ [])) _ l (then_notes r t l (events.Begin l b ∷ []) (refl, tt) a) (landing (noted t (events.Begin l b ∷ [])) l b))
begun_touch r t l b (suc left) a = then_puts r (noted t (events.Begin l b ∷ [])) l record (lane_at t l.0) { state = states.TakeBlock; left = suc left } (then_notes r t l (events.Begin l b ∷ []) (refl, tt) a)

waits_touch : (r t : PlainReceiver) (l : Lane) (again : Bool) → Touches r l t → Touches r l (waits_by t l again).1
waits_touch r t l true a = then_puts r t l record (lane_at t l.0) { state = states.WaitForFinish } a
waits_touch r t l false a = then_puts r t l record (lane_at t l.0) { state = states.SendWait } a

outcome_touches : (r : PlainReceiver) (l : Lane) (put : Put) (o : Outcome) → ComesOf r l put o → Touches r l (came_to r l o).1
outcome_touches r l put Rested of = touches_none r l
outcome_touches r l put Left of = puts r l record (lane_at r l.0) { state = states.Ended }
outcome_touches r l put Warned of = puts r l record (lane_at r l.0) { state = states.SendAbort }
outcome_touches r l put (Failed t a mute) of = voiced_touch r (failed t a) l mute (touches_both r t (failed t a) l (fails_touch r t l put a mute of) (fails t l a))
outcome_touches r l put (GivenUp t) of = then_puts r (noted t (given_up l (has_finish t) ∷ [])) l record (lane_at t l.0) { state = states.Ended } (then_notes r t l (given_up l (has_finish t) ∷ []) (given_own l (has_finish t)) (listens_touch r t l put of.0))
outcome_touches r l put (Listened t) of = then_puts r t l record (lane_at t l.0) { state = states.Listen } (listens_touch r t l put of.0)
outcome_touches r l put Linked of = then_puts r (noted r (events.Take l (next_take r l) ∷ [])) l record (lane_at r l.0) { state = states.ReadSettings; is_sized = false; has_waited = false } (notes r l (events.Take l (next_take r l) ∷ []) (refl, tt))
outcome_touches r l put (Greeted s) of = greets_touch r (meets r l s) l s (has_finish r) (meets_touch r l s (is_some (end_of r.history).met))
outcome_touches r l put Listed of = puts r l record (lane_at r l.0) { state = states.SendFileChunks }
outcome_touches r l put (ReadOn t) of = then_puts r t l record (lane_at t l.0) { state = states.ReadNextCmd } (reads_touch r t l put of)
outcome_touches r l put (Sized files bytes) of = then_puts r (sized_by r l files bytes (is_some (end_of r.history).sized)) l record (lane_at r l.0) { is_sized = true } (sized_touch r l files bytes (is_some (end_of r.history).sized))
outcome_touches r l put (Begun t b) of = begun_touch r t l b b.length (begins_touch r t l put b of)
outcome_touches r l put (Taken left) of = puts r l record (lane_at r l.0) { state = states.TakeBlock; left = left }
outcome_touches r l put (Concluded t) of = then_puts r t l record (lane_at t l.0) { state = states.SendDone } (concludes_touch r t l put of)
outcome_touches r l put (Told t q qs) of = then_puts r (noted t (events.Told l (set_of (q ∷ qs)) ∷ [])) l record (lane_at t l.0) { state = states.SendGlobalCheckpoint } (then_notes r t l (events.Told l (set_of (q ∷ qs)) ∷ []) (refl, tt) (idles_touch r t l put of.idles))
outcome_touches r l put (Waited t again) of = waits_touch r t l again (idles_touch r t l put of.0.idles)
outcome_touches r l put Ended of = puts r l record (lane_at r l.0) { state = states.ReadAck }
outcome_touches r l put Acknowledged of = then_puts r (noted r (events.Acked l ∷ [])) l record (lane_at r l.0) { state = states.Ended } (notes r l (events.Acked l ∷ []) (refl, tt))

pub turn_touches : (r : PlainReceiver) (l : Lane) (put : Put) (step : Step) → EndsIn (Unit {0}) (turn_plan r l put) step → Touches r l step.1
turn_touches r l put step ends =
    let c = end_comes r l put (Unit {0}) step ends in
    subst (λ (x : Step). Touches r l x.1) (sym c.is) (outcome_touches r l put c.outcome c.of)
