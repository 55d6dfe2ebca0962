-- What was logged on a disk, and disks all of whose images are good for it.
use Rattle.std.specs.Prelude.{◌≡◌, ℕ, false, List, Option, Ok, IsTrue}
use Rattle.std.specs.List.{list_any}
use Rattle.std.specs.Str.{bytes_eq}
use Rattle.wdt_units.specs.Tree.{File}
use Rattle.wdt_depot.specs.Disk.{Disk, Image, IsImage}
use Rattle.wdt_depot.specs.Moments.{IfTold, Since, Told}
use Rattle.wdt_logfmt.specs.View.{Meaning, names}
use Rattle.wdt_good.specs.Good.{IsGood, covers, log_of}

-- the image's log has a meaning that names the file
abbrev pub NamesIn : Image → List ℕ → Type 0
NamesIn i path = (m : Meaning) × (log_of i ≡ Ok m) × IsTrue (names m.files path)

-- the image's log has a meaning that covers the position of the file
abbrev pub CoversIn : Image → List ℕ → ℕ → Type 0
CoversIn i path k = (m : Meaning) × (log_of i ≡ Ok m) × IsTrue (covers m.files path k)

-- the logs of all images name the file
abbrev pub LoggedName : Disk → List ℕ → Type 0
LoggedName d path = (i : Image) → IsImage d i → NamesIn i path

-- the logs of all images cover the position of the file
abbrev pub LoggedAt : Disk → List ℕ → ℕ → Type 0
LoggedAt d path k = (i : Image) → IsImage d i → CoversIn i path k

-- the path is none of those that may be forgotten
abbrev pub IsRemembered : List (List ℕ) → List ℕ → Type 0
IsRemembered forgotten path = list_any (bytes_eq path) forgotten ≡ false

-- Each image of the disk is good for the tree and for what an earlier disk had logged, but for the
-- files that may be forgotten.
abbrev pub AllGood : List File → List (List ℕ) → Disk → Disk → Type 0
AllGood T forgotten before d =
    (i : Image) → IsImage d i → IsGood T (λ path. IsRemembered forgotten path × LoggedName before path) (λ path. λ k. IsRemembered forgotten path × LoggedAt before path k) i

-- each image is good for the tree, and nothing is asked of its log
abbrev pub AllFit : List File → Disk → Type 0
AllFit T d = (i : Image) → IsImage d i → IsGood T (λ path. ⊥) (λ path. λ k. ⊥) i

-- at each moment since then, inside each write too, each image is good for the tree and for what was
-- logged then
abbrev pub GoodSince : List File → List (List ℕ) → Option Told → Option Told → Type 0
GoodSince T forgotten old new = Since (λ d. IfTold (λ t. AllGood T forgotten t.now d) old) old new
