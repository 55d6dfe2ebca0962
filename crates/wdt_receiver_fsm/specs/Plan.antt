-- A turn that calls the disk: what it comes to where all goes well, and where a call fails.
use Rattle.std.specs.Prelude.{◌≡◌, ◌⊎◌, Bool, true, false, Option, option_map}
use Rattle.wdt_depot.specs.Programs.{Drive}

-- A turn ends in something; or it runs a program of calls, with what it ends in where one of them
-- fails, and how it goes on where none does.
pub data Plan (S : Type 0) : Type 0 where
  ends : S → Plan S
  calls : (Drive → Bool × Drive) → S → Plan S → Plan S

-- whatever a disk does, the turn ends in one of these: in what stands behind a failed call only where
-- Fails holds
abbrev pub EndsIn : {S : Type 0} → Type 0 → Plan S → S → Type 0
EndsIn Fails (ends s) x = x ≡ s
EndsIn Fails (calls f broken next) x = (Fails × (x ≡ broken)) ⊎ EndsIn Fails next x

-- behind a program: it goes on, or ends
abbrev pub went : {S : Type 0} → S → (Drive → S × Drive) → Bool → Drive → S × Drive
went broken next true p = next p
went broken next false p = (broken, p)

-- what the turn ends in, and what it leaves of a disk that keeps its model
abbrev pub run_plan : {S : Type 0} → Plan S → Drive → S × Drive
run_plan (ends s) = λ p. (s, p)
run_plan (calls f broken next) = λ p. went broken (run_plan next) (f p).0 (f p).1

-- the turn ended in this, and left this of a disk, where it is told
abbrev pub PlanRan : {S : Type 0} → Plan S → S → Option Drive → Option Drive → Type 0
PlanRan plan s before after = option_map (run_plan plan) before ≡ option_map (λ p. (s, p)) after
