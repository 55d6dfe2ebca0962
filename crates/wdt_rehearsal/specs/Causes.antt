-- Why a run ended early.
use Rattle.std.specs.Prelude.{◌≡◌, ◌≢◌, ℕ, ◌<◌, List, [], length, Result, Ok, Err, Option, IfSome}
use Rattle.wdt_units.specs.Counts.{Rises}
use Rattle.wdt_units.specs.declared.blocks.Block.{Block}
use Rattle.wdt_units.specs.declared.limits.TheConstants.{DEFAULT_BLOCK, MAX_BLOCKS}
use Rattle.wdt_tree.specs.declared.entry.Entry.{Entry}
use Rattle.wdt_tree.specs.declared.manifest.ManifestFail.{ManifestFail}
use Rattle.wdt_tree.specs.declared.manifest.ManifestFail.TheVariants as checks
use Rattle.wdt_tree.specs.Listing.{IsAccepted, IsRefused, Orders}
use Rattle.wdt_tree.specs.Rest.{IsRest}
use Rattle.wdt_depot.specs.State.{State}
use Rattle.wdt_discover.specs.declared.fail.PlanFail.{PlanFail}
use Rattle.wdt_discover.specs.declared.fail.PlanFail.TheVariants as plans
use Rattle.wdt_rehearsal.specs.declared.fail.RehearseFail.{RehearseFail}
use Rattle.wdt_rehearsal.specs.declared.fail.RehearseFail.TheVariants.{Source, Disk, Listing, Plan, NoMemory}

-- a listing is a tree's, and what is to be sent of it are so many blocks, which are too many
pub record HasTooManyBlocks (listing : List Entry) (count : ℕ) : Type 0 where
  pub accepted : IsAccepted listing
  pub entries : List Entry
  pub order : Orders listing entries
  pub blocks : List Block
  pub rest : IsRest entries [] DEFAULT_BLOCK blocks
  pub long : count ≡ length blocks
  pub over : MAX_BLOCKS < count

-- a listing isn't planned for this: for too many blocks alone, since the receiver has no file that could be stale
abbrev pub IsUnplanned : List Entry → PlanFail → Type 0
IsUnplanned listing (plans.TooManyBlocks count) = HasTooManyBlocks listing count
IsUnplanned listing (plans.Stale path logged found) = ⊥
IsUnplanned listing plans.NoMemory = ⊥

-- a listing is refused for this: as no tree's, else for too many blocks
abbrev pub IsRefusedFor : List Entry → RehearseFail → Type 0
IsRefusedFor listing (Listing fail) = IsRefused listing fail
IsRefusedFor listing (Plan fail) = IsUnplanned listing fail
IsRefusedFor listing Source = ⊥
IsRefusedFor listing Disk = ⊥
IsRefusedFor listing NoMemory = ⊥

-- a listing, where it is told, is no tree's for this, which is no want of memory
abbrev pub IsCheckCause : Option (List Entry) → ManifestFail → Type 0
IsCheckCause listing fail = (fail ≢ checks.NoMemory) × IfSome listing (λ entries. IsRefused entries fail)

-- there are too many blocks, of the listing where it is told, and no file is stale
abbrev pub IsPlanCause : Option (List Entry) → PlanFail → Type 0
IsPlanCause listing (plans.TooManyBlocks count) = IfSome listing (λ entries. HasTooManyBlocks entries count)
IsPlanCause listing (plans.Stale path logged found) = ⊥
IsPlanCause listing plans.NoMemory = ⊥

-- a failure of a run for its cause: that of the source by its count, and that of the disk as is given
abbrev pub IsCause : Option (List Entry) → ℕ → ℕ → Type 0 → RehearseFail → Type 0
IsCause listing before after disk Source = Rises before after
IsCause listing before after disk Disk = disk
IsCause listing before after disk (Listing fail) = IsCheckCause listing fail
IsCause listing before after disk (Plan fail) = IsPlanCause listing fail
IsCause listing before after disk NoMemory = Unit {0}

-- a source that fails and a tree that is refused leave a depot as it was
abbrev pub IsUntouched : State → State → RehearseFail → Type 0
IsUntouched old new Source = new ≡ old
IsUntouched old new Disk = Unit {0}
IsUntouched old new (Listing fail) = new ≡ old
IsUntouched old new (Plan fail) = new ≡ old
IsUntouched old new NoMemory = Unit {0}

-- a run was refused for this, or memory ran out
abbrev pub RefusesRun : {A : Type 0} → Result A RehearseFail → RehearseFail → Type 0
RefusesRun (Ok run) fail = ⊥
RefusesRun (Err Source) fail = ⊥
RefusesRun (Err Disk) fail = ⊥
RefusesRun (Err (Listing refused)) fail = Listing refused ≡ fail
RefusesRun (Err (Plan refused)) fail = Plan refused ≡ fail
RefusesRun (Err NoMemory) fail = Unit {0}
