-- What a transfer leaves of its depot where a receiving end isn't opened.
use Rattle.std.proofs.Common.{◌≡◌, ◌⊎◌, inl, inr, ℕ, ◌<◌, ◌≤◌, false, List, [], ◌∷◌, ◌++◌, length, Option, Some, None, IfSome, Result, Err, refl, sym, ap, ◌∙◌, subst}
use Rattle.std.specs.Option.{option_map}
use Rattle.std.proofs.lemmas.List.{append-nil}
use Rattle.wdt_units.specs.Counts.{Rises}
use Rattle.wdt_units.specs.Tree.{File}
use Rattle.wdt_tree.specs.Told.{ToldRun}
use Rattle.wdt_depot.specs.Disk.{Disk, DiskFile, seen_of}
use Rattle.wdt_depot.specs.Moments.{IfTold, Told, moments}
use Rattle.wdt_depot.specs.State.{State}
use Rattle.wdt_good.specs.Logged.{AllFit, GoodSince}
use Rattle.wdt_log.specs.Others.{OthersStand}
use Rattle.wdt_recv_lanes.specs.Kept.{IsBeside}
use Rattle.wdt_tool.specs.Causes.{IsFailureEnd}
use Rattle.wdt_tool.specs.Refusals.{IsLogCause}
use Rattle.wdt_tool.specs.declared.fail.CommandFail.{CommandFail}
use Rattle.wdt_tool.specs.declared.fail.CommandFail.TheVariants as fails
use Rattle.wdt_tool.specs.declared.status.Status.{Status}
use Rattle.wdt_tool.specs.declared.status.Status.TheVariants.{Done, DiskFault, OutFault}
use Rattle.wdt_sending.specs.Leaves.{IsLegalBySome, LeavesHistories}
use Rattle.wdt_sending.proofs.ForCallers.{EndsFor, refused_for}
use Rattle.wdt_cli.specs.Carried.{DepotRose, IsGivenTo, KeepsOthers, ReadsOthers, StaysGood}
use Rattle.wdt_cli.specs.Copied.{IsOpeningCause, IsUnopened}
use Rattle.wdt_cli.specs.Leaves.{LeavesDepot}
use Rattle.wdt_cli.proofs.Depots.{Keeps}

-- ---- how it ends

-- an end that isn't opened
pub unopened_for : (failure : CommandFail) (status : Status) (old new : State) → IsFailureEnd failure status → IsOpeningCause failure old new → EndsFor ⊥ (Rises old.faults new.faults)
    (IsLogCause old.told) status
unopened_for fails.Source status old new end cause = absurd cause
unopened_for fails.Disk status old new end cause = subst (EndsFor ⊥ (Rises old.faults new.faults) (IsLogCause old.told)) (sym end) cause
unopened_for (fails.Refused kind) status old new end cause = refused_for ⊥ (Rises old.faults new.faults) (IsLogCause old.told) kind status end cause
unopened_for fails.NoMemory status old new end cause = subst (EndsFor ⊥ (Rises old.faults new.faults) (IsLogCause old.told)) (sym end) tt

-- ---- the depot

given_fits : (r : ToldRun) (told : Option Told) → IsGivenTo r told → IfTold (λ t. AllFit r.tree t.now) told
given_fits r None given = tt
given_fits r (Some t) given = given.0

others_read : (T : List File) (o u : Option Told) → OthersStand o u → IfTold (λ t. ReadsOthers T t.now u) o
others_read T None u stand = tt
others_read T (Some t) None stand = absurd stand
others_read T (Some t) (Some v) stand = λ path beside. ap (λ (f : Option DiskFile). option_map (λ (x : DiskFile). x.seen) f) (stand path beside.log beside.new_log)

-- a depot that is handed back where an end isn't opened
pub unopened_keeps : {D : Type 0} (state : D → State) (run : Option ToldRun) (before : State) (over : D) (failure : CommandFail) → IfSome run (λ r. IsGivenTo r before.told)
    → IsUnopened failure before (state over) → Keeps state run before (Some over)
unopened_keeps state None before over failure given back = record { good = tt; images = tt; others = tt; slips = tt; spots = back.spots }
unopened_keeps state (Some x) before over failure given back =
    record {
      good = back.good x.tree (given_fits x before.told given);
      images = back.images x.tree (given_fits x before.told given);
      others = others_read x.tree before.told (state over).told back.others;
      slips = back.slips;
      spots = back.spots;
    }

since_now : (T : List File) (o : Option Told) → GoodSince T [] o o
since_now T None = tt
since_now T (Some t) = ([], sym (append-nil (moments t)), tt)

others_now : (T : List File) (o : Option Told) → IfTold (λ t. ReadsOthers T t.now o) o
others_now T None = tt
others_now T (Some t) = λ path beside. refl

slips_now : (n : ℕ) (o : Option Told) → IfTold (λ t. n ≡ n) o
slips_now n None = tt
slips_now n (Some t) = refl

-- a depot that wasn't touched
pub untouched_keeps : {D : Type 0} (state : D → State) (run : Option ToldRun) (over : D) → IfSome run (λ r. IsGivenTo r (state over).told) → (state over).spots ≡ [] → Keeps state run (state over)
    (Some over)
untouched_keeps state None over given spots = record { good = tt; images = tt; others = tt; slips = tt; spots = spots }
untouched_keeps state (Some x) over given spots =
    record {
      good = given_fits x (state over).told given;
      images = since_now x.tree (state over).told;
      others = others_now x.tree (state over).told;
      slips = slips_now (state over).slips (state over).told;
      spots = spots;
    }

-- such a depot, by a status that isn't that of a copy which is done
pub early_depot : {D : Type 0} (state : D → State) (run : Option ToldRun) (before : State) (over : D) (status : Status) (depot : Option D) → depot ≡ Some over → Keeps state run before (Some over)
    → (status ≡ Done → ⊥) → (status ≡ OutFault → ⊥) → (status ≡ DiskFault → Rises before.faults (state over).faults) → LeavesDepot state run before status depot
early_depot {D} state run before over status depot is keeps undone written fault =
    subst (λ (x : Option D). LeavesDepot state run before status x) (sym is) record {
      landed = λ done. absurd (undone done);
      unwritten = λ out. absurd (written out);
      good = keeps.good;
      images = keeps.images;
      others = keeps.others;
      slips = keeps.slips;
      spots = keeps.spots;
      fault = fault;
    }
