-- What a sending end is opened with is what its words say and its first source lists.
use Rattle.std.proofs.Common.{◌≡◌, ℕ, ◌<◌, ◌≤◌, true, List, [], ◌∷◌, length, map, Option, Some, None, IfSome, All, refl, sym, ap, ◌∙◌, subst, arith}
use Rattle.wdt_units.specs.Tree.{File, is_tree}
use Rattle.wdt_units.specs.declared.limits.TheConstants.{MAX_BLOCK, MAX_LANES}
use Rattle.wdt_tree.specs.Shown.{entry_of_file}
use Rattle.wdt_tree.specs.Told.{ToldRun}
use Rattle.wdt_tree.specs.declared.entry.Entry.{Entry}
use Rattle.wdt_lanes.specs.Kept.{Lists}
use Rattle.wdt_words.specs.Numbers.{IsWithin}
use Rattle.wdt_sending.specs.Sending.{MayBegin, MaySendOver}
use Rattle.wdt_sending.specs.Told.{first_told}
use Rattle.wdt_sending.proofs.Sources.{EachAsked, trees_told}

-- the listing of the first source is the run's
pub lists_of : {S : Type 0} (told : S → Option (List File)) (run : Option ToldRun) (sources : List S) (manifest : List Entry) → 0 < length sources → IfSome run
    (λ r. All (λ s. told s ≡ Some r.tree) sources)
    → IfSome (first_told told sources) (λ tree. (is_tree tree ≡ true) × (manifest ≡ map entry_of_file tree)) → Lists run manifest
lists_of told None sources manifest some all listed = tt
lists_of told (Some r) [] manifest some all listed = absurd (omega (arith, some))
lists_of told (Some r) (s ∷ sources) manifest some all listed =
    subst (λ (o : Option (List File)). IfSome o (λ tree. (is_tree tree ≡ true) × (manifest ≡ map entry_of_file tree))) (all 0 s (omega arith)) listed

-- there is a source for some lane
pub some_source : (lanes sources : ℕ) → 1 ≤ lanes → sources ≡ lanes → 0 < sources
some_source lanes sources some is = omega (arith, some, is)

pub may_begin : {S : Type 0} (told : S → Option (List File)) (run : Option ToldRun) (lanes block : ℕ) (sources : List S) (manifest : List Entry) → IsWithin 1 MAX_LANES lanes → IsWithin 1 MAX_BLOCK block
    → length sources ≡ lanes → IfSome run (λ r. All (λ x. told x ≡ Some r.tree) sources)
    → IfSome (first_told told sources) (λ tree. (is_tree tree ≡ true) × (manifest ≡ map entry_of_file tree)) → MayBegin run manifest lanes block
may_begin told run lanes block sources manifest few limit served all listed =
    record {
      some_lanes = few.least;
      few_lanes = few.greatest;
      some_block = limit.least;
      block_limit = limit.greatest;
      lists = lists_of told run sources manifest (some_source lanes (length sources) few.least served) all listed;
    }

pub may_send : {S C : Type 0} (told : S → Option (List File)) (slips : S → ℕ) (dialed : C → ℕ) (run : Option ToldRun) (lanes : ℕ) (sources listed : List S) (dialers : List C)
    → (length sources ≡ lanes) × (length dialers ≡ lanes) → EachAsked told slips sources listed → IfSome run (λ r. All (λ x. told x ≡ Some r.tree) sources)
    → All (λ x. dialed x ≡ 0) dialers → MaySendOver told dialed run lanes listed dialers
may_send told slips dialed run lanes sources listed dialers served asked all home =
    record {
      as_many_sources = asked.same ∙ served.0;
      as_many_dialers = served.1;
      tree = trees_told told slips run sources listed asked all;
      home = home;
    }
