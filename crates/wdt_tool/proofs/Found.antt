-- A log that was found, as what the disk's log means.
use Rattle.std.proofs.Common.{◌≡◌, List, ℕ, [], Option, Some, None, Ok, refl}
use Rattle.wdt_units.specs.Have.{HaveFile}
use Rattle.wdt_depot.specs.Disk.{seen_of}
use Rattle.wdt_depot.specs.Moments.{IfTold, Told}
use Rattle.wdt_logfmt.specs.View.{Meaning, have_of}
use Rattle.wdt_good.specs.Good.{log_path, meaning_in}
use Rattle.wdt_tool.specs.Stored.{IsFound, IsHeld}

some-means : (bytes : Option (List ℕ)) (m : Meaning) → IsFound bytes (Some m) → meaning_in bytes ≡ Ok m
some-means None m h = absurd h
some-means (Some bytes) m h = h

none-means : (bytes : Option (List ℕ)) → IsFound bytes None → meaning_in bytes ≡ Ok (record { files = []; end = 0 })
none-means None h = refl
none-means (Some bytes) h = absurd h

pub found-means : (bytes : Option (List ℕ)) (found : Option Meaning) → IsFound bytes found → (m : Meaning) × (meaning_in bytes ≡ Ok m)
found-means bytes (Some m) h = (m, some-means bytes m h)
found-means bytes None h = (record { files = []; end = 0 }, none-means bytes h)

pub held-some : (told : Option Told) (m : Meaning) (have : List HaveFile) → IfTold (λ t. IsFound (seen_of t.now log_path) (Some m)) told → have ≡ have_of m.files → IsHeld told have
held-some None m have h is = record { meaning = m; means = tt; is = is }
held-some (Some t) m have h is = record { meaning = m; means = some-means (seen_of t.now log_path) m h; is = is }

pub held-none : (told : Option Told) (have : List HaveFile) → IfTold (λ t. IsFound (seen_of t.now log_path) None) told → have ≡ [] → IsHeld told have
held-none None have h is = record { meaning = record { files = []; end = 0 }; means = tt; is = is }
held-none (Some t) have h is = record { meaning = record { files = []; end = 0 }; means = none-means (seen_of t.now log_path) h; is = is }
