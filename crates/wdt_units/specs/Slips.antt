-- A count by a test, as that of slips: what no caller may ask for.
use Rattle.std.specs.Prelude.{◌≡◌, ℕ, Bool, true, false}
use Rattle.wdt_units.specs.Counts.{Rises}

-- it rose where this says so, and stayed elsewhere
pub record RisesIf (test : Bool) (old new : ℕ) : Type 0 where
  pub stays : test ≡ false → new ≡ old
  pub rose : test ≡ true → Rises old new
