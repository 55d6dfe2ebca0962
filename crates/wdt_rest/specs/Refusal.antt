-- Why a tree isn't sent to a destination that has some of it: the first of its files that isn't the
-- tree's, else too many blocks. Each kind of answer tells it in its own variants, which are handed in: of
-- a file its path, its size and stamp, and those of the tree's file of that path, where there is one; of
-- blocks how many there would be.
use Rattle.std.specs.Prelude.{ℕ, nat_lt, if◌then◌else◌, List, length, Option, Some, None}
use Rattle.std.specs.Option.{option_map}
use Rattle.wdt_units.specs.Have.{HaveFile}
use Rattle.wdt_units.specs.declared.limits.TheConstants.{MAX_BLOCKS}
use Rattle.wdt_tree.specs.declared.entry.Entry.{Entry}
use Rattle.wdt_rest.specs.Fitting.{found_in, first_unfit}
use Rattle.wdt_rest.specs.RestOf.{rest_of}

-- how a file that isn't the tree's is told
abbrev pub StaleIn : Type 0 → Type 0
StaleIn Kind = List ℕ → ℕ × ℕ → Option (ℕ × ℕ) → Kind

-- what is said of a file that isn't the tree's
abbrev pub stale_as : {Kind : Type 0} → StaleIn Kind → List Entry → HaveFile → Kind
stale_as stale entries file = stale file.path (file.size, file.stamp) (found_in entries file.path)

-- what is said of more blocks than a plan may have
abbrev pub too_many_as : {Kind : Type 0} → (ℕ → Kind) → ℕ → Option Kind
too_many_as many count = if nat_lt MAX_BLOCKS count then Some (many count) else None

-- a file that isn't the tree's, else too many blocks
abbrev pub refusal_after_as : {Kind : Type 0} → (ℕ → Kind) → List Entry → List HaveFile → ℕ → Option Kind → Option Kind
refusal_after_as many entries have most (Some stale) = Some stale
refusal_after_as many entries have most None = too_many_as many (length (rest_of entries have most))

-- the one thing for which the tree isn't sent, if any
abbrev pub refusal_as : {Kind : Type 0} → StaleIn Kind → (ℕ → Kind) → List Entry → List HaveFile → ℕ → Option Kind
refusal_as stale many entries have most = refusal_after_as many entries have most (option_map (stale_as stale entries) (first_unfit entries have))
