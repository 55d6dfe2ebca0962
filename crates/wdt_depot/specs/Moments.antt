-- A disk through its moments. A crash inside a call leaves what a crash at some moment of it may
-- leave, and one moment a call is enough: what a write leaves half done is among the images of the
-- disk after it, what a sync leaves half done is among those before it, and the other changing calls
-- are done whole or not at all.
use Rattle.std.specs.Prelude.{◌≡◌, ◌⊎◌, List, [], ◌∷◌, ◌++◌, Option, Some, None, Result, MatchResult}
use Rattle.wdt_depot.specs.Disk.{Disk}

-- what a depot tells: the disks of the moments so far, and the disk now
pub record Told : Type 0 where
  pub past : List Disk
  pub now : Disk

-- all disks that are told, in their order; the disk now is the last
abbrev pub moments : Told → List Disk
moments t = t.past ++ t.now ∷ []

-- said of what is told, where it is
abbrev pub IfTold : (Told → Type 0) → Option Told → Type 0
IfTold P None = Unit {0}
IfTold P (Some t) = P t

-- A call went from one disk to another by R, and made at most one new moment. It doesn't change
-- whether the disk is told.
abbrev pub OneStep : (Disk → Disk → Type 0) → Option Told → Option Told → Type 0
OneStep R None None = Unit {0}
OneStep R None (Some u) = ⊥
OneStep R (Some t) None = ⊥
OneStep R (Some t) (Some u) = R t.now u.now × ((u ≡ t) ⊎ (u.past ≡ moments t))

-- a changing call is done at Ok, and at a failure done or not
abbrev pub MayDo : {T E : Type 0} → (Disk → Disk) → Result T E → Disk → Disk → Type 0
MayDo done result d e = MatchResult result (λ _. e ≡ done d) (λ _. (e ≡ d) ⊎ (e ≡ done d))

-- each of the disks has P
abbrev pub Holds : (Disk → Type 0) → List Disk → Type 0
Holds P [] = Unit {0}
Holds P (d ∷ ds) = P d × Holds P ds

-- each moment since then has P, and none of before was forgotten
abbrev pub Since : (Disk → Type 0) → Option Told → Option Told → Type 0
Since P None None = Unit {0}
Since P None (Some u) = ⊥
Since P (Some t) None = ⊥
Since P (Some t) (Some u) = (ds : List Disk) × (moments u ≡ moments t ++ ds) × Holds P ds

-- from the first disk on, each moment since has P, and the last disk has Q
abbrev pub Run : (P Q : Disk → Disk → Type 0) → Option Told → Option Told → Type 0
Run P Q None None = Unit {0}
Run P Q None (Some u) = ⊥
Run P Q (Some t) None = ⊥
Run P Q (Some t) (Some u) = Since (P t.now) (Some t) (Some u) × Q t.now u.now
