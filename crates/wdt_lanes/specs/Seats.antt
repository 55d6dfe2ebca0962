-- What a sender's lane works with, and what running it leaves of that.
use Rattle.std.specs.Prelude.{◌≡◌, ℕ, Bool, List, Option, Some, IfSome}
use Rattle.wdt_units.specs.Counts.{capped}
use Rattle.wdt_units.specs.Tree.{File}
use Rattle.wdt_tree.specs.Told.{ToldRun}
use Rattle.wdt_lanes.specs.declared.seats.Seat.{Seat}
use Rattle.wdt_lanes.specs.Held.{RoseFor}

-- the pass is the hub's, no connection is out, and the source tells the run's tree, where that is told
pub record MayRun {U P S C : Type 0} (has : U → P → Type 0) (told : S → Option (List File)) (out : C → ℕ) (run : Option ToldRun) (hub : U) (seat : Seat P S C) : Type 0 where
  pub pass : has hub seat.pass
  pub none_out : out seat.dialer ≡ 0
  pub tree : IfSome run (λ r. told seat.source ≡ Some r.tree)

-- the pass is the hub's and its lane's still
pub record SamePass {U P : Type 0} (has : U → P → Type 0) (lane : P → ℕ) (hub : U) (old new : P) : Type 0 where
  pub pass : has hub new
  pub number : lane new ≡ lane old

-- the source tells what it told, and where a run is told it was asked for its own bytes alone
pub record SameSource {S : Type 0} (told : S → Option (List File)) (slips : S → ℕ) (run : Option ToldRun) (old new : S) : Type 0 where
  pub tree : told new ≡ told old
  pub within : IfSome run (λ r. slips new ≡ slips old)

-- no connection is out, and the dialer's links are known by what they were
pub record IsBack {C : Type 0} (out mark : C → ℕ) (old new : C) : Type 0 where
  pub none_out : out new ≡ 0
  pub marked : mark new ≡ mark old

-- a count, as a dialer and its connections tell it together, doesn't fall, and rose where this came
abbrev pub RoseAtRest : {C : Type 0} → Bool → (C → ℕ) → C → C → Type 0
RoseAtRest came count old new = RoseFor came (capped (count old)) (capped (count new))

-- what a lane leaves of its seat: no connection is out, and each flag comes with a count that rose
pub record Ran {U P S C : Type 0} (has : U → P → Type 0) (lane : P → ℕ) (told : S → Option (List File)) (source_faults source_slips : S → ℕ) (faults alarms out mark : C → ℕ) (run : Option ToldRun) (hub : U)
    (old new : Seat P S C) : Type 0 where
  pub pass : SamePass has lane hub old.pass new.pass
  pub source : SameSource told source_slips run old.source new.source
  pub dialer : IsBack out mark old.dialer new.dialer
  pub lost : RoseFor new.lost (source_faults old.source) (source_faults new.source)
  pub cut : RoseAtRest new.cut faults old.dialer new.dialer
  pub alarmed : RoseAtRest new.alarmed alarms old.dialer new.dialer
