-- What a changing call leaves.
use Rattle.std.specs.Prelude.{◌≡◌, ℕ, Bool, None, OnOk, Result, IsErrOf}
use Rattle.wdt_depot.specs.Disk.{Disk}
use Rattle.wdt_depot.specs.Moments.{OneStep, MayDo}
use Rattle.wdt_depot.specs.Programs.{Ran, changing, looking}
use Rattle.wdt_depot.specs.State.{ByNumber, Counts, CountsSlip, IsCounted, IsKept, OnlyLooks, OnlyWhere, State}
use Rattle.wdt_depot.specs.declared.failure.DepotFail.{DepotFail}
use Rattle.wdt_depot.specs.declared.failure.DepotFail.TheVariants.{Failed}

-- a changing call, by whether it can't be done and is a slip, and by what it does where it is done and
-- where it is struck
pub record Outcome (cant slip : Bool) (done : Disk → Disk) (torn : ℕ → Disk → Disk) (result : Result (Unit {0}) DepotFail) (old new : State) : Type 0 where
  pub step : OneStep (MayDo done result) old.told new.told
  pub exact : Ran (changing done torn) result old new
  pub memory : IsKept result old new
  pub stop : IsCounted result old new
  pub up : OnOk result (new.stop.struck ≡ None)
  pub slips : CountsSlip slip result (IsErrOf result Failed) old new
  pub counts : Counts (IsErrOf result Failed) old new
  pub number : ByNumber (λ d. cant) result old new

-- a call that looks, by whether it can't be done, which is a slip
pub record Look {T : Type 0} (slip : Bool) (result : Result T DepotFail) (old new : State) : Type 0 where
  pub looks : OnlyLooks old new
  pub exact : Ran looking result old new
  pub memory : IsKept result old new
  pub up : OnOk result (new.stop.struck ≡ None)
  pub slips : CountsSlip slip result (IsErrOf result Failed) old new
  pub counts : Counts (IsErrOf result Failed) old new
  pub fails : OnlyWhere (λ d. slip) result old new
