-- What a copy leaves of its depot.
use Rattle.std.proofs.Common.{◌≡◌, ◌⊎◌, inl, inr, ◌↔◌, ℕ, Bool, true, false, ◌&&◌, List, [], ◌++◌, length, sum_by, Option, Some, None, IfSome, refl, sym, ap, ◌∙◌, subst}
use Rattle.std.specs.Option.{option_map}
use Rattle.std.specs.Str.{bytes_eq}
use Rattle.wdt_units.specs.Counts.{Rises}
use Rattle.wdt_units.specs.Tree.{File}
use Rattle.wdt_units.specs.declared.numbers.LaneSet.{LaneSet}
use Rattle.wdt_tree.specs.Told.{ToldRun}
use Rattle.wdt_depot.specs.Disk.{Disk, DiskFile, Image, seen_of}
use Rattle.wdt_depot.specs.Moments.{IfTold, Since, Told, moments}
use Rattle.wdt_depot.specs.State.{State}
use Rattle.wdt_good.specs.Good.{GoodFiles}
use Rattle.wdt_good.specs.LogState.{LogOf}
use Rattle.wdt_good.specs.Logged.{AllFit, AllGood, GoodSince}
use Rattle.wdt_log.specs.Others.{OthersStand}
use Rattle.wdt_logfmt.specs.Spelling.{written_version}
use Rattle.wdt_sender_fsm.specs.declared.answers.EndAnswer.{EndAnswer}
use Rattle.wdt_sender_fsm.specs.declared.answers.EndAnswer.TheVariants as answers
use Rattle.wdt_sender_fsm.specs.declared.events.SendEvent.{SendEvent}
use Rattle.wdt_receiver_fsm.specs.declared.events.RecvEvent.{RecvEvent}
use Rattle.wdt_receiver_fsm.specs.Answered.{has_all_done}
use Rattle.wdt_receiver_fsm.specs.Batched.{IsBatched}
use Rattle.wdt_receiver_fsm.specs.Logging.{log_after}
use Rattle.wdt_receiver_fsm.specs.PlainReceiver.{PlainReceiver, every_lane, has_finish, is_done_with}
use Rattle.wdt_receiver_fsm.specs.Receiver.{IsReceiver}
use Rattle.wdt_receiver_fsm.specs.ReceiverHistory.{end_of}
use Rattle.wdt_dock.specs.DockGood.{DockGood, IsGoodFor}
use Rattle.wdt_dock.specs.DockView.{HasLostDisk}
use Rattle.wdt_dock.specs.Dock.{LogRests}
use Rattle.wdt_arrival.specs.Arrival.{HasArrived, totals_of}
use Rattle.wdt_lanes.specs.Kept.{Begun}
use Rattle.wdt_recv_lanes.specs.Kept.{GoodFor, HasTotals, ImagesGood, IsBeside, IsKept, NoSlips, OthersRead, files_of, started_of}
use Rattle.wdt_tool.specs.declared.status.Status.{Status}
use Rattle.wdt_tool.specs.declared.status.Status.TheVariants.{Done, DiskFault, OutFault, NoMemory}
use Rattle.wdt_cli.specs.Carried.{DepotRose, IsGivenTo, KeepsOthers, LandsIn, ReadsOthers, StaysGood}
use Rattle.wdt_cli.specs.Copied.{IsUnopened}
use Rattle.wdt_cli.specs.Leaves.{LeavesDepot}
use Rattle.wdt_cli.specs.Sides.{ReceiverEnds, ReceiverTaken}
use Rattle.wdt_cli.proofs.Ends.{Ends, EndsOr, answer_behind, not_out, receiver_done}

-- ---- a tree that has arrived

-- what stands at the destination once a receiver has finished
abbrev pub Arrives : Type 0
Arrives = (T : List File) (r : PlainReceiver) (d : Disk) → IsReceiver r → IsBatched r → has_finish r ≡ true → IfSome (end_of r.history).sized (λ sized. sized ≡ totals_of T)
    → LogOf written_version r.log.files r.log.end d → AllFit T d → GoodFiles T (seen_of d) (log_after r).files → HasArrived T d

first_holds : (a b : Bool) → (a && b) ≡ true → a ≡ true
first_holds true b is = refl
first_holds false b is = is

not_lost : (answer : EndAnswer) → answer ≡ answers.Done → HasLostDisk answer → ⊥
not_lost answer is lost = subst HasLostDisk is lost

-- a receiver that is done has the run's tree on its disk
pub landed_at : {D : Type 0} {state : D → State} {run : Option ToldRun} (before : State) {cut alarmed : LaneSet} {depot : Option D} {g : List RecvEvent} {status : Status} → Arrives
    → (taken : ReceiverTaken state run (started_of before) cut alarmed depot g status) → taken.received.answer ≡ answers.Done → IfSome run (λ r. LandsIn state r.tree (Some taken.over))
landed_at {state = state} {run = run} before arrives taken is = go run taken.kept.good taken.kept.sized where
  finish : has_finish taken.received ≡ true
  finish = first_holds (has_finish taken.received) (every_lane taken.received is_done_with) (taken.done.0 is)

  go : (run : Option ToldRun) → GoodFor run taken.received (state taken.over) → HasTotals run taken.received → IfSome run (λ x. LandsIn state x.tree (Some taken.over))
  go None good sized = tt
  go (Some x) good sized = at (state taken.over).told good (taken.rests (not_lost taken.received.answer is)) where
    at : (o : Option Told) → IfTold (λ t. DockGood x.tree taken.received t.now) o → IfTold (λ t. LogOf written_version taken.received.log.files taken.received.log.end t.now) o → IfTold
        (λ t. HasArrived x.tree t.now) o
    at None good rests = tt
    at (Some t) good rests = arrives x.tree taken.received t.now taken.is_receiver taken.batched finish sized rests good.fit (good.reads (not_lost taken.received.answer is)).landed

-- ---- what a receiver keeps

good_told : (T : List File) (r : PlainReceiver) (o : Option Told) → IfTold (λ t. DockGood T r t.now) o → IfTold (λ t. AllFit T t.now) o
good_told T r None good = tt
good_told T r (Some t) good = good.fit

others_told : (T : List File) (o u : Option Told) → IfSome (option_map (λ (t : Told). seen_of t.now) o)
    (λ (before : Image). IfTold (λ t. (path : List ℕ) → IsBeside T path → seen_of t.now path ≡ before path) u) → GoodSince T [] o u
    → IfTold (λ t. ReadsOthers T t.now u) o
others_told T None u reads since = tt
others_told T (Some t) None reads since = absurd since
others_told T (Some t) (Some v) reads since = reads

slips_told : (T : List File) (m n : ℕ) (o u : Option Told) → IfTold (λ t. m ≡ n) u → GoodSince T [] o u → IfTold (λ t. m ≡ n) o
slips_told T m n None u same since = tt
slips_told T m n (Some t) None same since = absurd since
slips_told T m n (Some t) (Some v) same since = same

-- what is said of a depot that came back, but for how the copy ended
pub record Keeps {D : Type 0} (state : D → State) (run : Option ToldRun) (before : State) (depot : Option D) : Type 0 where
  pub good : IfSome run (λ r. StaysGood state r.tree depot)
  pub images : IfSome run (λ r. IfSome depot (λ d. GoodSince r.tree [] before.told (state d).told))
  pub others : IfSome run (λ r. KeepsOthers state r.tree before.told depot)
  pub slips : IfSome run (λ r. IfSome depot (λ d. IfTold (λ t. (state d).slips ≡ before.slips) before.told))
  pub spots : IfSome depot (λ d. (state d).spots ≡ [])

kept_over : {D : Type 0} (state : D → State) (run : Option ToldRun) (before : State) (r : PlainReceiver) (over : D) → IsKept run (started_of before) r (state over) → (state over).spots ≡ []
    → Keeps state run before (Some over)
kept_over state None before r over kept spots = record { good = tt; images = tt; others = tt; slips = tt; spots = spots }
kept_over state (Some x) before r over kept spots =
    record {
      good = good_told x.tree r (state over).told kept.good;
      images = kept.images;
      others = others_told x.tree before.told (state over).told kept.others kept.images;
      slips = slips_told x.tree (state over).slips before.slips before.told (state over).told kept.slips kept.images;
      spots = spots;
    }

kept_none : {D : Type 0} (state : D → State) (run : Option ToldRun) (before : State) → Keeps state run before None
kept_none state None before = record { good = tt; images = tt; others = tt; slips = tt; spots = tt }
kept_none state (Some x) before = record { good = tt; images = tt; others = tt; slips = tt; spots = tt }

pub keeps_of : {D : Type 0} (state : D → State) (run : Option ToldRun) (before : State) (cut alarmed : LaneSet) (depot : Option D) (g : List RecvEvent) (status : Status)
    → ReceiverEnds state run (started_of before) cut alarmed depot g status → Keeps state run before depot
keeps_of {D} state run before cut alarmed depot g status (inl none) = subst (λ (x : Option D). Keeps state run before x) (sym none.2) (kept_none state run before)
keeps_of {D} state run before cut alarmed depot g status (inr taken) =
    subst (λ (x : Option D). Keeps state run before x) (sym taken.back) (kept_over state run before taken.received taken.over taken.kept taken.spots)

-- ---- where both ends ran

pub depot_left : {D : Type 0} (state : D → State) (run : Option ToldRun) {begun : Begun} (before : State) {lost cut alarmed far_cut far_alarmed : LaneSet} {h : List SendEvent} (depot : Option D)
    {g : List RecvEvent}
    {far status : Status} → Arrives → ReceiverEnds state run (started_of before) far_cut far_alarmed depot g far → EndsOr state run begun
    (started_of before) lost cut alarmed far_cut far_alarmed h depot g status
    → LeavesDepot state run before status depot
depot_left {D} state run {begun = begun} before {lost = lost} {cut = cut} {alarmed = alarmed} {far_cut = far_cut} {far_alarmed = far_alarmed} {h = h} depot {g = g} {far = far}
    {status = status} arrives ended ends =
    record {
      landed = λ is. landed ends is;
      unwritten = λ is. absurd (not_out ends is);
      good = keeps.good;
      images = keeps.images;
      others = keeps.others;
      slips = keeps.slips;
      spots = keeps.spots;
      fault = λ is. fault ends is;
    }
  where
    keeps : Keeps state run before depot
    keeps = keeps_of state run before far_cut far_alarmed depot g far ended

    landed : EndsOr state run begun (started_of before) lost cut alarmed far_cut far_alarmed h depot g status → status ≡ Done → IfSome run (λ r. LandsIn state r.tree depot)
    landed (inl starved) is = absurd (cc)
    landed (inr e) is = subst (λ (x : Option D). IfSome run (λ r. LandsIn state r.tree x)) (sym e.received.back) (landed_at before arrives e.received (receiver_done e is))

    fault : EndsOr state run begun (started_of before) lost cut alarmed far_cut far_alarmed h depot g status → status ≡ DiskFault → DepotRose state before depot
    fault (inl starved) is = absurd (cc)
    fault (inr e) is = lost_at (answer_behind e DiskFault is) where
      lost_at : (e.sent.sent.answer ≡ answers.Disk) ⊎ (e.received.received.answer ≡ answers.Disk) → DepotRose state before depot
      lost_at (inl near) = absurd (e.sent.diskless near)
      lost_at (inr far) = subst (λ (x : Option D). DepotRose state before x) (sym e.received.back) (e.received.kept.lost (subst HasLostDisk (sym far) tt))

-- ---- where it has no use

-- a depot of a send
pub unused_depot : {D : Type 0} (state : D → State) (depot : D) (status : Status) (after : Option D) → after ≡ Some depot → (state depot).spots ≡ [] → (status ≡ DiskFault → ⊥)
    → LeavesDepot state None (state depot) status after
unused_depot {D} state depot status after is spots never =
    subst (λ (x : Option D). LeavesDepot state None (state depot) status x) (sym is) record {
      landed = λ done. tt;
      unwritten = λ out. tt;
      good = tt;
      images = tt;
      others = tt;
      slips = tt;
      spots = spots;
      fault = λ e. absurd (never e);
    }
