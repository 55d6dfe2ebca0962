-- Sources of which the first was listed.
use Rattle.std.proofs.Common.{◌≡◌, ℕ, ◌-◌, ◌^◌, ◌<◌, ◌≤◌, nat_lt, Bool, true, false, List, [], ◌∷◌, length, slice_index_or, Option, Some, None, IfSome, All, refl, sym, ap, ◌∙◌, subst, arith}
use Rattle.std.proofs.lemmas.Bool.{ltb-false, ltb-true}
use Rattle.wdt_units.specs.Counts.{Rises}
use Rattle.wdt_units.specs.Tree.{File}
use Rattle.wdt_tree.specs.Told.{ToldRun}
use Rattle.wdt_lanes.specs.LaneLists.{EachLane}
use Rattle.wdt_lanes.specs.Seats.{SameSource}
use Rattle.wdt_tool.specs.declared.status.Status.{Status}
use Rattle.wdt_sending.specs.Counted.{SomeRose}
use Rattle.wdt_sending.specs.Leaves.{LeavesSources}

-- each tells what it told and wasn't asked for what it doesn't have
abbrev pub EachAsked : {S : Type 0} → (S → Option (List File)) → (S → ℕ) → List S → List S → Type 0
EachAsked told slips old new = EachLane (λ lane a b. (told b ≡ told a) × (slips b ≡ slips a)) old new

-- no count fell
abbrev pub EachLater : {S : Type 0} → (S → ℕ) → List S → List S → Type 0
EachLater faults old new = EachLane (λ lane a b. faults a ≤ faults b) old new

within_run : {S : Type 0} (slips : S → ℕ) (run : Option ToldRun) (a b : S) → slips b ≡ slips a → IfSome run (λ r. slips b ≡ slips a)
within_run slips None a b same = tt
within_run slips (Some r) a b same = same

more_within : (run : Option ToldRun) (i j k : ℕ) → j ≡ i → IfSome run (λ r. k ≡ j) → IfSome run (λ r. k ≡ i)
more_within None i j k first then_ = tt
more_within (Some r) i j k first then_ = then_ ∙ first

-- a listed source is the same
pub asked_back : {S : Type 0} (told : S → Option (List File)) (slips : S → ℕ) (run : Option ToldRun) (old new : List S) → EachAsked told slips old new → EachLane
    (λ lane a b. SameSource told slips run a b) old new
asked_back told slips run old new asked =
    record {
      same = asked.same;
      at = λ lane d within. record
          { tree = (asked.at lane d within).0; within = within_run slips run (slice_index_or old lane d) (slice_index_or new lane d) (asked.at lane d within).1 };
    }

rises_behind : (a b c : ℕ) → a ≤ b → Rises b c → Rises a c
rises_behind a b c first rose = record { later = omega (arith, first, rose.later); more = λ below. go (nat_lt b (2 ^ 64 - 1)) refl below } where
  go : (t : Bool) → nat_lt b (2 ^ 64 - 1) ≡ t → a < 2 ^ 64 - 1 → a < c
  go true is below = let rises = rose.more (ltb-true b (2 ^ 64 - 1) is) in omega (arith, first, rises)
  go false is below = let ends = ltb-false b (2 ^ 64 - 1) is in omega (arith, below, ends, rose.later)

-- what copying leaves of them is left of the sources that were handed in
pub left_behind : {S : Type 0} {told : S → Option (List File)} {faults slips : S → ℕ} {run : Option ToldRun} {status : Status} (old : List S) {mid new : List S} → EachAsked told slips old mid
    → EachLater faults old mid
    → LeavesSources told faults slips run status mid new → LeavesSources told faults slips run status old new
left_behind {S} {told = told} {faults = faults} {slips = slips} {run = run} {status = status} old {mid = mid} {new = new} asked later left =
    record {
      back = record { same = left.back.same ∙ asked.same; at = λ lane d within. same lane d within };
      fault = λ is. rose (left.fault is);
    }
  where
    behind : (lane : ℕ) → lane < length old → lane < length mid
    behind lane within = omega (arith, within, asked.same)

    same : (lane : ℕ) (d : S) → lane < length old → SameSource told slips run (slice_index_or old lane d) (slice_index_or new lane d)
    same lane d within = record {
      tree = (left.back.at lane d (behind lane within)).tree ∙ (asked.at lane d within).0;
      within = more_within run (slips (slice_index_or old lane d)) (slips (slice_index_or mid lane d)) (slips (slice_index_or new lane d)) (asked.at lane d within).1
          (left.back.at lane d (behind lane within)).within;
    }

    rose : SomeRose faults mid new → SomeRose faults old new
    rose some =
        let within : some.at < length old = omega (arith, some.within, asked.same) in
        record {
          at = some.at;
          within = within;
          rose = λ d. rises_behind (faults (slice_index_or old some.at d)) (faults (slice_index_or mid some.at d)) (faults (slice_index_or new some.at d))
              (later.at some.at d within) (some.rose d);
        }

-- sources that tell a tree tell it still
told_at : {S : Type 0} (told : S → Option (List File)) (slips : S → ℕ) (tree : List File) (old new : List S) → EachAsked told slips old new → All (λ s. told s ≡ Some tree) old → All
    (λ s. told s ≡ Some tree) new
told_at told slips tree old new asked all = λ lane d within. let before : lane < length old = omega (arith, within, asked.same) in (asked.at lane d before).0 ∙ all lane d before

pub trees_told : {S : Type 0} (told : S → Option (List File)) (slips : S → ℕ) (run : Option ToldRun) (old new : List S) → EachAsked told slips old new → IfSome run
    (λ r. All (λ s. told s ≡ Some r.tree) old) → IfSome run (λ r. All (λ s. told s ≡ Some r.tree) new)
trees_told told slips None old new asked all = tt
trees_told told slips (Some r) old new asked all = told_at told slips r.tree old new asked all
