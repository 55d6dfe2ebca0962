-- The totals that an end keeps are those that it read.
use Rattle.std.proofs.Common.{◌≡◌, ◌⊎◌, inl, inr, ℕ, zero, suc, Bool, true, false, List, [], ◌∷◌, ◌++◌, Option, Some, None, is_some, refl, sym, ap, ◌∙◌, subst}
use Rattle.wdt_units.specs.declared.blocks.Block.{Block}
use Rattle.wdt_units.specs.declared.numbers.Lane.{Lane}
use Rattle.wdt_codec.specs.declared.frames.Frame.TheVariants as frames
use Rattle.wdt_codec.specs.declared.frames.Settings.{Settings}
use Rattle.wdt_sender_fsm.specs.declared.answers.EndAnswer.{EndAnswer}
use Rattle.wdt_sender_fsm.specs.Rules.{by_voice}
use Rattle.wdt_receiver_fsm.specs.declared.events.RecvEvent.{RecvEvent}
use Rattle.wdt_receiver_fsm.specs.declared.events.RecvEvent.TheVariants as events
use Rattle.wdt_receiver_fsm.specs.declared.inputs.RecvIn.TheVariants as inputs
use Rattle.wdt_receiver_fsm.specs.Logging.{all_logged, all_logged_by}
use Rattle.wdt_receiver_fsm.specs.Outcomes.{Outcome, Rested, Left, Warned, Failed, GivenUp, Listened, Linked, Greeted, Listed, ReadOn, Sized, Begun, Taken, Concluded, Told, Waited, Ended, Acknowledged, came_to, ComesOf, landed_by, Idles, ByDone, ByWait, ByWaking, Fails, OfMemory, OfSender, OfPeer, OfShort, OfMake, OfWrite, OfLog, OfFinish, Listens, AtFirst, ByNoLink, ByLoss, ReadsOn, ByGreeting, ByChunks, ByMarks, ByLanding, ByLogging, Concludes, WasFinished, IsFinished, Begins, OfKnown, OfNew}
use Rattle.wdt_receiver_fsm.specs.Plan.{EndsIn}
use Rattle.wdt_receiver_fsm.specs.PlainReceiver.{PlainReceiver, failed, has_finish}
use Rattle.wdt_receiver_fsm.specs.ReceiverHistory.{EndPast, end_of, end_of-append, sized_after}
use Rattle.wdt_receiver_fsm.specs.Sets.{set_of}
use Rattle.wdt_receiver_fsm.specs.Turn.{Put, Given, Step, begins_by, given_up, greets_by, leaves, met_by, next_take, sized_by, tells_failure, turn_plan, waits_by}
use Rattle.wdt_receiver_fsm.proofs.ForCallers.{end_comes}

-- what was first read of the totals
abbrev totals : List RecvEvent → Option (ℕ × ℕ)
totals g = (end_of g).sized

-- behind this input the totals are what they were, or what was read now
abbrev pub AreRead : Put → Option (ℕ × ℕ) → Option (ℕ × ℕ) → Type 0
AreRead put old new = (new ≡ old) ⊎ ((files : ℕ) × (bytes : ℕ) × (put ≡ Given (inputs.Got (frames.Size files bytes))) × (new ≡ Some (files, bytes)))

-- one more entry
more : (g : List RecvEvent) (e : RecvEvent) → totals (g ++ e ∷ []) ≡ sized_after (totals g) e
more g e = ap (λ (p : EndPast). p.sized) (end_of-append g (e ∷ []))

idles : (r t : PlainReceiver) (l : Lane) (put : Put) → Idles r l put t → totals t.history ≡ totals r.history
idles r t l put (ByDone at sized given is) = ap (λ (x : PlainReceiver). totals x.history) is ∙ more r.history (events.Idle l)
idles r t l put (ByWait at given is) = ap (λ (x : PlainReceiver). totals x.history) is
idles r t l put (ByWaking at given is) = ap (λ (x : PlainReceiver). totals x.history) is

listens : (r t : PlainReceiver) (l : Lane) (put : Put) → Listens r l put t → totals t.history ≡ totals r.history
listens r t l put (AtFirst at given) = refl
listens r t l put (ByNoLink at given) = more r.history (events.NoLink l)
listens r t l put (ByLoss state at linked given) = more r.history (events.Dropped l)

landed : (r : PlainReceiver) (l : Lane) (b : Block) → totals (landed_by r l b).history ≡ totals r.history
landed r l b = more r.history (events.Land l)

logged_by : (t : PlainReceiver) (bs : List Block) → totals (all_logged_by t bs).history ≡ totals t.history
logged_by t [] = refl
logged_by t (b ∷ bs) = refl

logged : (t : PlainReceiver) → totals (all_logged t).history ≡ totals t.history
logged t = logged_by t t.unlogged

reads : (r t : PlainReceiver) (l : Lane) (put : Put) → ReadsOn r l put t → totals t.history ≡ totals r.history
reads r t l put (ByGreeting at given asked) = refl
reads r t l put (ByChunks at given) = refl
reads r t l put (ByMarks at given) = refl
reads r t l put (ByLanding b lands full) = landed r l b
reads r t l put (ByLogging b lands full) = logged (landed_by r l b) ∙ landed r l b

concludes : (r t : PlainReceiver) (l : Lane) (put : Put) → Concludes r l put t → totals t.history ≡ totals r.history
concludes r t l put (WasFinished u idle come) = idles r u l put idle
concludes r t l put (IsFinished u why whole) = more (all_logged u).history events.Finish ∙ logged u ∙ idles r u l put why.idles

begins : (r t : PlainReceiver) (l : Lane) (put : Put) (b : Block) → Begins r l put t b → totals t.history ≡ totals r.history
begins r t l put b (OfKnown h at sized given right new) = refl
begins r t l put b (OfNew h at sized given right new) = refl

fails : (r t : PlainReceiver) (l : Lane) (put : Put) (a : EndAnswer) (mute : Bool) → Fails r l put t a mute → totals t.history ≡ totals r.history
fails r t l put a mute (OfMemory m going given lives is) = refl
fails r t l put a mute (OfSender state code at reading given) = more r.history (events.Abort l code)
fails r t l put a mute (OfPeer state kind at reading wrong) = more r.history (events.Peer l kind)
fails r t l put a mute (OfShort u kind why short) = more r.history (events.Peer l kind)
fails r t l put a mute (OfMake h at sized given right new) = refl
fails r t l put a mute (OfWrite bytes b at given begun) = refl
fails r t l put a mute (OfLog b lands full) = landed r l b
fails r t l put a mute (OfFinish u why) = idles r u l put why.idles

voiced : (t : PlainReceiver) (l : Lane) (mute : Bool) → totals (by_voice mute (leaves t l) (tells_failure t l)).1.history ≡ totals t.history
voiced t l true = refl
voiced t l false = refl

given : (g : List RecvEvent) (l : Lane) (come : Bool) → totals (g ++ given_up l come ∷ []) ≡ totals g
given g l true = more g (events.Quit l)
given g l false = more g (events.Close l)

met : (r : PlainReceiver) (l : Lane) (s : Settings) (b : Bool) → totals (met_by r l s b).history ≡ totals r.history
met r l s true = refl
met r l s false = more r.history (events.Met l s)

greeted : (t : PlainReceiver) (l : Lane) (s : Settings) (come : Bool) → totals (greets_by t l s come).1.history ≡ totals t.history
greeted t l s true = refl
greeted t l s false = refl

begun : (t : PlainReceiver) (l : Lane) (b : Block) (left : ℕ) → totals (begins_by t l b left).1.history ≡ totals t.history
begun t l b zero = more (t.history ++ events.Begin l b ∷ []) (events.Land l) ∙ more t.history (events.Begin l b)
begun t l b (suc left) = more t.history (events.Begin l b)

waited : (t : PlainReceiver) (l : Lane) (again : Bool) → totals (waits_by t l again).1.history ≡ totals t.history
waited t l true = refl
waited t l false = refl

-- totals that are read are kept where they are the first
sized : (r : PlainReceiver) (l : Lane) (put : Put) (files bytes : ℕ) (old : Option (ℕ × ℕ)) → put ≡ Given (inputs.Got (frames.Size files bytes)) → totals r.history ≡ old → AreRead put (totals r.history) (totals (sized_by r l files bytes (is_some old)).history)
sized r l put files bytes None read is = inr (files, bytes, read, more r.history (events.Sized l files bytes) ∙ ap (λ (o : Option (ℕ × ℕ)). sized_after o (events.Sized l files bytes)) is)
sized r l put files bytes (Some first) read is = inl refl

outcome_reads : (r : PlainReceiver) (l : Lane) (put : Put) (o : Outcome) → ComesOf r l put o → AreRead put (totals r.history) (totals (came_to r l o).1.history)
outcome_reads r l put Rested of = inl refl
outcome_reads r l put Left of = inl refl
outcome_reads r l put Warned of = inl refl
outcome_reads r l put (Failed t a mute) of = inl (voiced (failed t a) l mute ∙ fails r t l put a mute of)
outcome_reads r l put (GivenUp t) of = inl (given t.history l (has_finish t) ∙ listens r t l put of.0)
outcome_reads r l put (Listened t) of = inl (listens r t l put of.0)
outcome_reads r l put Linked of = inl (more r.history (events.Take l (next_take r l)))
outcome_reads r l put (Greeted s) of = inl (greeted (met_by r l s (is_some (end_of r.history).met)) l s (has_finish r) ∙ met r l s (is_some (end_of r.history).met))
outcome_reads r l put Listed of = inl refl
outcome_reads r l put (ReadOn t) of = inl (reads r t l put of)
outcome_reads r l put (Sized files bytes) of = sized r l put files bytes (totals r.history) of.2 refl
outcome_reads r l put (Begun t b) of = inl (begun t l b b.length ∙ begins r t l put b of)
outcome_reads r l put (Taken left) of = inl refl
outcome_reads r l put (Concluded t) of = inl (concludes r t l put of)
outcome_reads r l put (Told t q qs) of = inl (more t.history (events.Told l (set_of (q ∷ qs))) ∙ idles r t l put of.idles)
outcome_reads r l put (Waited t again) of = inl (waited t l again ∙ idles r t l put of.0.idles)
outcome_reads r l put Ended of = inl refl
outcome_reads r l put Acknowledged of = inl (more r.history (events.Acked l))

-- the totals behind a step are what they were, or what was read in it
pub turn_reads : (r : PlainReceiver) (l : Lane) (put : Put) (step : Step) → EndsIn (Unit {0}) (turn_plan r l put) step → AreRead put (totals r.history) (totals step.1.history)
turn_reads r l put step ending =
    let c = end_comes r l put (Unit {0}) step ending in
    subst (λ (x : Step). AreRead put (totals r.history) (totals x.1.history)) (sym c.is) (outcome_reads r l put c.outcome c.of)
