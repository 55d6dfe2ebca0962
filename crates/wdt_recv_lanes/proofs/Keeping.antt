-- A turn of a receiver's end that is of its run: what it gives is the run's, and it stays of the run.
use Rattle.std.proofs.Common.{◌≡◌, ◌≢◌, inl, inr, ℕ, ◌+◌, ◌<◌, ◌≤◌, Bool, true, false, List, [], ◌∷◌, ◌++◌, length, Option, Some, None, Result, Ok, Err, if◌then◌else◌, refl, sym, ap, ◌∙◌, subst, arith}
use Rattle.std.specs.Prelude.{IfOk, IfSome, sum_by}
use Rattle.std.specs.Str.{bytes_eq}
use Rattle.std.proofs.lemmas.Bool.{cases_Bool}
use Rattle.std.proofs.lemmas.List.{length-append}
use Rattle.std.proofs.lemmas.Slice.Eq.{bytes_eq-Decides}
use Rattle.wdt_units.specs.Counts.{Rises}
use Rattle.wdt_units.specs.Have.{HaveFile}
use Rattle.wdt_units.specs.Headers.{IsOfFile}
use Rattle.wdt_units.specs.Lanes.{AllOf}
use Rattle.wdt_units.specs.Tree.{File, file_of, length_of}
use Rattle.wdt_units.specs.declared.numbers.Lane.{Lane}
use Rattle.wdt_codec.specs.declared.frames.Frame.TheVariants as frames
use Rattle.wdt_codec.specs.Chunks.{FitsChunks}
use Rattle.wdt_tree.specs.Told.{ToldRun}
use Rattle.wdt_depot.specs.Disk.{Disk, Image, seen_of}
use Rattle.wdt_depot.specs.Moments.{IfTold, Since, Told}
use Rattle.wdt_depot.specs.State.{Counts, State}
use Rattle.wdt_logfmt.specs.Beginning.{KnownFile, number_from}
use Rattle.wdt_logfmt.specs.View.{NamedFile}
use Rattle.wdt_good.specs.Good.{Each}
use Rattle.wdt_good.specs.Logged.{GoodSince}
use Rattle.wdt_good.proofs.ForCallers.{join_good}
use Rattle.wdt_sender_fsm.specs.declared.answers.EndAnswer.{EndAnswer}
use Rattle.wdt_sender_fsm.specs.declared.answers.EndAnswer.TheVariants as answers
use Rattle.wdt_sender_fsm.specs.Rules.{is_failure}
use Rattle.wdt_receiver_fsm.specs.declared.acts.RecvAct.{RecvAct}
use Rattle.wdt_receiver_fsm.specs.declared.events.RecvEvent.{RecvEvent}
use Rattle.wdt_receiver_fsm.specs.declared.inputs.RecvIn.TheVariants as inputs
use Rattle.wdt_receiver_fsm.specs.declared.states.RecvLane.{RecvLane}
use Rattle.wdt_receiver_fsm.specs.declared.states.RecvState.{RecvState}
use Rattle.wdt_receiver_fsm.specs.declared.states.RecvState.TheVariants as states
use Rattle.wdt_receiver_fsm.specs.Acts.{IsActOf, act_in}
use Rattle.wdt_receiver_fsm.specs.Plan.{EndsIn}
use Rattle.wdt_receiver_fsm.specs.PlainReceiver.{PlainReceiver, have_now, lane_at, state_at}
use Rattle.wdt_receiver_fsm.specs.Receiver.{IsReceiver, terms_of}
use Rattle.wdt_receiver_fsm.specs.ReceiverHistory.{end_of, lane_of}
use Rattle.wdt_receiver_fsm.specs.Turn.{Bytes, Given, Put, Step, turn_plan}
use Rattle.wdt_receiver_fsm.specs.Writes.{CanTell, FitsAct, FitsPut}
use Rattle.wdt_receiver_fsm.proofs.ForCallers.{act_written, codes_keep, turn_acts, turn_follows, turn_keeps, turn_touches}
use Rattle.wdt_dock.specs.DockGood.{DockGood, IfKnown, IsTrees}
use Rattle.wdt_dock.specs.DockView.{HasLostDisk, LosesDisk}
use Rattle.wdt_dock.specs.Sparing.{Between, IsOther, IsUnasked, LeavesOthers}
use Rattle.wdt_recv_lanes.specs.declared.heard.Heard.{Heard}
use Rattle.wdt_recv_lanes.specs.Acts.{IsActSaid}
use Rattle.wdt_recv_lanes.specs.Kept.{GoodFor, HadOf, HasTotals, ImagesGood, IsBeside, IsKept, NoSlips, OthersRead, Started, files_of}
use Rattle.wdt_recv_lanes.specs.Turns.{CameTo, IsLegalOfSome, IsPutSaid, IsTurn, Leaves, Turned, count_of, put_of}
use Rattle.wdt_recv_lanes.proofs.Totals.{AreRead, turn_reads}

-- ---- what is given

-- what says nothing of the tree or the have is said of every run
any_run : (run : Option ToldRun) → IfSome run (λ told. Unit {0})
any_run None = tt
any_run (Some told) = tt

-- an act of a lane that stands so is said of the run
said_in : (run : Option ToldRun) (r : PlainReceiver) (l : Lane) (lane : RecvLane) (state : RecvState) → HadOf run r → FitsAct (act_in r l lane state) → IsActSaid run (act_in r l lane state)
said_in run r l lane states.SendLocalCheckpoint had f = (f.0, any_run run)
said_in run r l lane states.SendFileChunks had f = (f.0, had)
said_in run r l lane states.SendWait had f = (f.0, any_run run)
said_in run r l lane states.SendGlobalCheckpoint had f = (f.0, any_run run)
said_in run r l lane states.SendDone had f = (f.0, any_run run)
said_in run r l lane states.SendAbort had f = (f.0, any_run run)
said_in run r l lane state had f = tt

-- the act of a step is said of the run
act_said : (run : Option ToldRun) (r t : PlainReceiver) (l : Lane) (act : RecvAct) → IsReceiver t → l.0 < length t.lanes → CanTell t → HadOf run t → IsActOf r l (act, t) → IsActSaid run act
act_said run r t l act is within tells had (inl e) =
    let P : RecvAct → Type 0 = λ x. IsActSaid run x in
    subst P (sym e) (said_in run t l (lane_at t l.0) (state_at t l.0) had (act_written t l is within tells))
act_said run r t l act is within tells had (inr e) =
    let P : RecvAct → Type 0 = λ x. IsActSaid run x in
    subst P (sym (ap (λ (step : Step). step.0) e)) tt

-- ---- what stays

-- what the destination had doesn't hang on what happened since
have_stays : (opening : List NamedFile) (g h : List RecvEvent) → have_now opening g ≡ have_now opening h
unfolding have_now
have_stays opening g h = refl

-- what an end that began with the same files had
same_have : (r t : PlainReceiver) → t.opening ≡ r.opening → have_now t.opening t.history ≡ have_now r.opening r.history
same_have r t same = ap (λ (o : List NamedFile). have_now o t.history) same ∙ have_stays r.opening t.history r.history

had_behind : (run : Option ToldRun) (r t : PlainReceiver) → t.opening ≡ r.opening → HadOf run r → HadOf run t
had_behind None r t same had = tt
had_behind (Some told) r t same had = same_have r t same ∙ had

-- where it was lost before, and where it is lost now
lost_by : (a b : EndAnswer) (n : ℕ) (s0 s1 : State) → Counts (LosesDisk a b) s0 s1 → (HasLostDisk a → Rises n s0.faults) → n ≤ s0.faults → HasLostDisk b → Rises n s1.faults
lost_by answers.Disk b n s0 s1 counts was later now = let r = was tt in record { later = omega (arith, r.later, counts.faults); more = λ h. grind (arith, h, r.more, counts.faults) }
lost_by a b n s0 s1 counts was later now = let r = counts.rose ((λ x. x), now) in record { later = omega (arith, later, r.later); more = λ h. grind (arith, h, later, r.later, r.more) }

-- as many slips were counted as before, and so as at first
slips_on : (P : Disk → Type 0) (old new : Option Told) (n m k : ℕ) → Since P old new → IfTold (λ u. m ≡ n) old → IfTold (λ t. n ≡ k) old → IfTold (λ t. m ≡ k) new
slips_on P None None n m k since e f = tt
slips_on P None (Some u) n m k since e f = absurd since
slips_on P (Some t) None n m k since e f = absurd since
slips_on P (Some t) (Some u) n m k since e f = e ∙ f

no_slips : (run : Option ToldRun) (start : ℕ) (r t : PlainReceiver) (put : Put) (s0 s1 : State) → Leaves run r put t s0 s1 → GoodFor run r s0 → NoSlips run start s0 → NoSlips run start s1
no_slips None start r t put s0 s1 leaves good none = tt
no_slips (Some told) start r t put s0 s1 leaves good none = slips_on _ s0.told s1.told s0.slips s1.slips start (leaves.since good) (leaves.slips good) none

-- images that are good since the depot was handed in, and then in a turn
images_on : (run : Option ToldRun) (before : Option Told) (s0 s1 : State) → ImagesGood run before s0 → IfSome run (λ told. GoodSince told.tree [] s0.told s1.told) → ImagesGood run before s1
images_on None before s0 s1 since on = tt
images_on (Some told) before s0 s1 since on = join_good told.tree [] [] before s0.told s1.told since on

-- ---- other files

-- a file of the tree is at another path than one that isn't the tree's
apart : (T : List File) (path of : List ℕ) (size stamp : ℕ) → file_of T path ≡ None → IsOfFile T of size stamp → bytes_eq of path ≡ false
apart T path of size stamp none file =
    elim (cases_Bool (bytes_eq of path)) [
      | inl e ↦ let found : file_of T path ≡ Some file.file = subst (λ (p : List ℕ). file_of T p ≡ Some file.file) ((bytes_eq-Decides of path).0 e) file.found in cc
      | inr e ↦ e
    ]

-- where the known files are the tree's, a path that isn't the tree's is known of none
unknown : (T : List File) (path : List ℕ) (n : ℕ) (known : List (Option KnownFile)) → file_of T path ≡ None → Each (IfKnown (IsTrees T)) known → number_from n known path ≡ None
unknown T path n [] none all = refl
unknown T path n (None ∷ known) none all = unknown T path (n + 1) known none all.1
unknown T path n (Some file ∷ known) none all = rw (apart T path file.path file.size file.stamp none all.0) (unknown T path (n + 1) known none all.1)

-- a header that is handed in is of a file of the tree
unasked : (told : ToldRun) (put : Put) (path : List ℕ) → file_of told.tree path ≡ None → IsPutSaid (Some told) put → IsUnasked put path
unasked told (Given (inputs.Got (frames.Block header))) path none said = apart told.tree path header.path header.size header.stamp none said.1
unasked told (Given (inputs.Got frame)) path none said = tt
unasked told (Given input) path none said = tt
unasked told (Bytes bytes) path none said = tt

-- what is beside the tree is beside all that a turn has to do with
is_other : (told : ToldRun) (r : PlainReceiver) (put : Put) (d : Disk) (path : List ℕ) → (HasLostDisk r.answer → ⊥) → DockGood told.tree r d → IsPutSaid (Some told) put → IsBeside told.tree path → IsOther r.known put path
is_other told r put d path stands good said beside = record {
  beside = record { unknown = unknown told.tree path 0 r.known beside.unlisted (good.reads stands).known; log = beside.log; new_log = beside.new_log };
  unasked = unasked told put path beside.unlisted said;
}

-- where the disk wasn't lost
others_told : (told : ToldRun) (before : Image) (r : PlainReceiver) (put : Put) (old new : Option Told) → (HasLostDisk r.answer → ⊥) → IsPutSaid (Some told) put → Between (LeavesOthers (IsOther r.known put)) old new → IfTold (λ t. DockGood told.tree r t.now) old
    → IfTold (λ t. (path : List ℕ) → IsBeside told.tree path → seen_of t.now path ≡ before path) old → IfTold (λ t. (path : List ℕ) → IsBeside told.tree path → seen_of t.now path ≡ before path) new
others_told told before r put None None stands said leaves good h = tt
others_told told before r put None (Some u) stands said leaves good h = absurd leaves
others_told told before r put (Some t) None stands said leaves good h = absurd leaves
others_told told before r put (Some t) (Some u) stands said leaves good h = λ path beside. leaves path (is_other told r put t.now path stands good said beside) ∙ h path beside

-- by the answer before: where the disk was lost, it isn't touched
others_by : (told : ToldRun) (before : Image) (a : EndAnswer) (r t : PlainReceiver) (put : Put) (s0 s1 : State) → r.answer ≡ a → IsPutSaid (Some told) put → Leaves (Some told) r put t s0 s1 → GoodFor (Some told) r s0 → OthersRead (Some told) (Some before) s0 → OthersRead (Some told) (Some before) s1
others_by told before answers.Disk r t put s0 s1 is said leaves good h =
    subst (λ (s : State). OthersRead (Some told) (Some before) s) (sym (leaves.untouched (ap is_failure is))) h
others_by told before a r t put s0 s1 is said leaves good h =
    others_told told before r put s0.told s1.told (λ lost. subst HasLostDisk is lost) said leaves.others good h

others_behind : (run : Option ToldRun) (files : Option Image) (r t : PlainReceiver) (put : Put) (s0 s1 : State) → IsPutSaid run put → Leaves run r put t s0 s1 → GoodFor run r s0 → OthersRead run files s0 → OthersRead run files s1
others_behind None files r t put s0 s1 said leaves good h = tt
others_behind (Some told) None r t put s0 s1 said leaves good h = tt
others_behind (Some told) (Some before) r t put s0 s1 said leaves good h = others_by told before r.answer r t put s0 s1 refl said leaves good h

-- what is kept of the run behind a step
tells_behind : (r t : PlainReceiver) (l : Lane) (put : Put) (act : RecvAct) → FitsPut put → EndsIn (Unit {0}) (turn_plan r l put) (act, t) → CanTell r → CanTell t
tells_behind r t l put act fits ending tells =
    let touches = turn_touches r l put (act, t) ending in
    record {
      have = subst (λ (h : List HaveFile). FitsChunks h) (sym (same_have r t touches.opening)) tells.have;
      code = codes_keep r l put (act, t) fits tells.code ending;
    }

-- what is said of a run lies in the grammar's ranges
fits_put : (run : Option ToldRun) (put : Put) → IsPutSaid run put → FitsPut put
fits_put run (Given (inputs.Got frame)) h = h.0
fits_put run (Given input) h = tt
fits_put run (Bytes bytes) h = tt

-- the totals behind a step are the tree's
sized_behind : (run : Option ToldRun) (r t : PlainReceiver) (put : Put) → IsPutSaid run put → AreRead put (end_of r.history).sized (end_of t.history).sized → HasTotals run r → HasTotals run t
sized_behind None r t put said reads h = tt
sized_behind (Some told) r t put said (inl e) h =
    let P : Option (ℕ × ℕ) → Type 0 = λ o. IfSome o (λ totals. totals ≡ (length told.tree, sum_by length_of told.tree)) in
    subst P (sym e) h
sized_behind (Some told) r t put said (inr (files, bytes, is, e)) h =
    let P : Option (ℕ × ℕ) → Type 0 = λ o. IfSome o (λ totals. totals ≡ (length told.tree, sum_by length_of told.tree)) in
    let Q : Put → Type 0 = λ x. IsPutSaid (Some told) x in
    let these = (subst Q is said).1 in
    let both : (files, bytes) ≡ (length told.tree, sum_by length_of told.tree) = ap (λ (n : ℕ). (n, bytes)) these.0 ∙ ap (λ (n : ℕ). (length told.tree, n)) these.1 in
    subst P (sym e) both

-- what an end keeps of its run beside the disk
pub record Said (run : Option ToldRun) (r : PlainReceiver) : Type 0 where
  pub tells : CanTell r
  pub had : HadOf run r
  pub sized : HasTotals run r

said_behind : {E : Type 0} (run : Option ToldRun) (r t : PlainReceiver) (l : Lane) (put : Put) (result : Result RecvAct E) → IsPutSaid run put → CameTo r l put result t → Said run r → Said run t
said_behind run r t l put (Ok act) is came said =
    record {
      tells = tells_behind r t l put act (fits_put run put is) came said.tells;
      had = had_behind run r t (turn_touches r l put (act, t) came).opening said.had;
      sized = sized_behind run r t put is (turn_reads r l put (act, t) came) said.sized;
    }
said_behind run r t l put (Err e) is came said = subst (λ (x : PlainReceiver). Said run x) (sym came) said

-- a turn leaves an end of its run
pub kept_turn : {E : Type 0} (run : Option ToldRun) (start : Started) (r t : PlainReceiver) (l : Lane) (put : Put) (result : Result RecvAct E) (s0 s1 : State) → Turned run r l put result t s0 s1 → IsKept run start r s0 → IsKept run start t s1
kept_turn run start r t l put result s0 s1 turned kept =
    let said = said_behind run r t l put result turned.said turned.came record { tells = kept.tells; had = kept.had; sized = kept.sized } in
    record {
      tells = said.tells;
      had = said.had;
      sized = said.sized;
      good = turned.leaves.good kept.good;
      images = images_on run start.told s0 s1 kept.images (turned.leaves.since kept.good);
      others = others_behind run (files_of start) r t put s0 s1 turned.said turned.leaves kept.good kept.others;
      slips = no_slips run start.slips r t put s0 s1 turned.leaves kept.good kept.slips;
      later = omega (arith, kept.later, turned.leaves.counts.faults);
      lost = lost_by r.answer t.answer start.faults s0 s1 turned.leaves.counts kept.lost kept.later;
    }

-- a turn's act is said of the run
pub owned : {E : Type 0} (run : Option ToldRun) (start : Started) (r t : PlainReceiver) (l : Lane) (put : Put) (result : Result RecvAct E) (s0 s1 : State) → l.0 < length r.lanes → Turned run r l put result t s0 s1 → IsKept run start r s0 → IfOk result (λ act. IsActSaid run act)
owned run start r t l put (Ok act) s0 s1 within turned kept =
    let ending = turned.came in
    let behind = kept_turn run start r t l put (Ok act) s0 s1 turned kept in
    let many = (turn_touches r l put (act, t) ending).lanes in
    act_said run r t l act (turn_keeps r l put (act, t) turned.was within ending) (subst (λ (n : ℕ). l.0 < n) (sym many) within) behind.tells behind.had (turn_acts r l put (act, t) turned.was.few within ending)
owned run start r t l put (Err e) s0 s1 within turned kept = tt

-- ---- a turn of a machine

counted : (a b : Bool) (n m k : ℕ) → (a ≡ true → b ≡ true) → k ≡ n + m → n + (if a then 1 else 0) + m ≤ k + (if b then 1 else 0)
counted true b n m k stays e = rw (stays refl) (omega (arith, e))
counted false true n m k stays e = omega (arith, e)
counted false false n m k stays e = omega (arith, e)

-- a failure stays
stays_failed : (r t : PlainReceiver) (l : Lane) (put : Put) (act : RecvAct) → EndsIn (Unit {0}) (turn_plan r l put) (act, t) → is_failure r.answer ≡ true → is_failure t.answer ≡ true
stays_failed r t l put act ending failed = ap (λ (x : PlainReceiver). is_failure x.answer) ((turn_follows r l put (act, t) ending).still failed) ∙ failed

-- what a turn does, by the history and the lane's stand
abbrev TurnsSo : {N : Type 0} → PlainReceiver → PlainReceiver → Lane → Heard N → RecvAct → Type 0
TurnsSo r t l put act =
    (more : List RecvEvent) × (t.history ≡ r.history ++ more) × AllOf lane_of l.0 more × (count_of r + length more ≤ count_of t) × IsTurn l.0 put r.history (lane_at r l.0) act more (lane_at t l.0)

turned_so : {N : Type 0} (r t : PlainReceiver) (l : Lane) (put : Heard N) (act : RecvAct) → EndsIn (Unit {0}) (turn_plan r l (put_of r l.0 put)) (act, t) → TurnsSo r t l put act
turned_so r t l put act ending =
    let adds = (turn_touches r l (put_of r l.0 put) (act, t) ending).history in
    let more = adds.entries in (
      more,
      adds.behind,
      adds.own,
      counted (is_failure r.answer) (is_failure t.answer) (length r.history) (length more) (length t.history) (stays_failed r t l (put_of r l.0 put) act ending) (ap length adds.behind ∙ length-append r.history more),
      record { of = l; number = refl; receiver = r; behind = t; history = refl; stands = refl; step = ending; noted = adds.behind; stays = refl },
    )

by_result : {N E : Type 0} (r t : PlainReceiver) (l : Lane) (put : Heard N) (result : Result RecvAct E) → CameTo r l (put_of r l.0 put) result t → IfOk result (λ act. TurnsSo r t l put act)
by_result r t l put (Ok act) came = turned_so r t l put act came
by_result r t l put (Err e) came = tt

module _ (r r' t : PlainReceiver) (l : Lane) (same : r ≡ r') where
  -- the same of what a call answers, by equal things
  pub turned_ok : {N E : Type 0} (put : Heard N) (result result' : Result RecvAct E) → result' ≡ result → CameTo r l (put_of r l.0 put) result t → IfOk result' (λ act. TurnsSo r' t l put act)
  turned_ok put result result' is came =
      subst (λ x. IfOk x (λ act. TurnsSo r' t l put act)) (sym is) (subst (λ (x : PlainReceiver). IfOk result (λ act. TurnsSo x t l put act)) same (by_result r t l put result came))

  -- the other lanes stand as they did
  pub others_so : {E : Type 0} (put : Put) (result : Result RecvAct E) → CameTo r l put result t → (other : ℕ) → other ≢ l.0 → lane_at t other ≡ lane_at r' other
  others_so put (Ok act) came other apart = (turn_touches r l put (act, t) came).others other apart ∙ ap (λ (x : PlainReceiver). lane_at x other) same
  others_so put (Err e) came other apart = ap (λ (x : PlainReceiver). lane_at x other) (came ∙ same)

  -- there are as many lanes
  pub lanes_so : {E : Type 0} (put : Put) (result : Result RecvAct E) → CameTo r l put result t → Some (length t.lanes) ≡ Some (length r'.lanes)
  lanes_so put (Ok act) came = ap (λ (n : ℕ). Some n) ((turn_touches r l put (act, t) came).lanes ∙ ap (λ (x : PlainReceiver). length x.lanes) same)
  lanes_so put (Err e) came = ap (λ (x : PlainReceiver). Some (length x.lanes)) (came ∙ same)

legal_of_some : (r : PlainReceiver) → IsReceiver r → IsLegalOfSome r.history
legal_of_some r is = record { terms = terms_of r; legal = is.legal }

-- the history stays legal
pub legal_so : {E : Type 0} (r t : PlainReceiver) (l : Lane) (put : Put) (result : Result RecvAct E) → l.0 < length r.lanes → IsReceiver r → CameTo r l put result t → IsLegalOfSome t.history
legal_so r t l put (Ok act) within is came = legal_of_some t (turn_keeps r l put (act, t) is within came)
legal_so r t l put (Err e) within is came = subst (λ (x : PlainReceiver). IsLegalOfSome x.history) (sym came) (legal_of_some r is)
