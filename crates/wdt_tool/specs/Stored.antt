-- What is read of a destination's log.
use Rattle.std.specs.Prelude.{◌≡◌, ℕ, List, Option, Some, None, Ok}
use Rattle.wdt_units.specs.Have.{HaveFile}
use Rattle.wdt_depot.specs.Disk.{seen_of}
use Rattle.wdt_depot.specs.Moments.{IfTold, Told}
use Rattle.wdt_logfmt.specs.Meaning.{log_meaning}
use Rattle.wdt_logfmt.specs.View.{Meaning, have_of}
use Rattle.wdt_good.specs.Good.{log_of, log_path}
use Rattle.wdt_tool.specs.LogLines.{log_text}

-- this is what the bytes of a log mean; where there is no log, there is no meaning
abbrev pub IsFound : Option (List ℕ) → Option Meaning → Type 0
IsFound None None = Unit {0}
IsFound None (Some m) = ⊥
IsFound (Some bytes) None = ⊥
IsFound (Some bytes) (Some m) = log_meaning bytes ≡ Ok m

-- a destination has this by its log, which has this meaning, where the disk is told
pub record IsHeld (told : Option Told) (have : List HaveFile) : Type 0 where
  pub meaning : Meaning
  pub means : IfTold (λ t. log_of (seen_of t.now) ≡ Ok meaning) told
  pub is : have ≡ have_of meaning.files

-- the text shows a log, which is that of the destination, where the disk is told, or that there is none
pub record IsShown (told : Option Told) (text : List ℕ) : Type 0 where
  pub found : Option Meaning
  pub there : IfTold (λ t. IsFound (seen_of t.now log_path) found) told
  pub is : text ≡ log_text found
