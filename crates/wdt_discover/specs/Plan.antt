-- Why there is no plan: the least file of a have that doesn't fit the tree, or too many blocks.
use Rattle.std.specs.Prelude.{ℕ, List, Option}
use Rattle.std.specs.Option.{option_map}
use Rattle.wdt_units.specs.Have.{HaveFile}
use Rattle.wdt_tree.specs.declared.entry.Entry.{Entry}
use Rattle.wdt_rest.specs.Fitting.{first_unfit}
use Rattle.wdt_rest.specs.Refusal.{refusal_after_as, refusal_as, stale_as, too_many_as}
use Rattle.wdt_discover.specs.declared.fail.PlanFail.{PlanFail}
use Rattle.wdt_discover.specs.declared.fail.PlanFail.TheVariants.{Stale, TooManyBlocks}

-- what is said of a file that doesn't fit
abbrev pub stale_of : List Entry → HaveFile → PlanFail
stale_of = stale_as Stale

-- the first file that doesn't fit
abbrev pub first_stale : List Entry → List HaveFile → Option PlanFail
first_stale entries have = option_map (stale_of entries) (first_unfit entries have)

-- more blocks than a plan may have are too many
abbrev pub too_many : ℕ → Option PlanFail
too_many = too_many_as TooManyBlocks

-- the one thing for which there is no plan, if any: a file that doesn't fit, else too many blocks
abbrev pub refusal_after : List Entry → List HaveFile → ℕ → Option PlanFail → Option PlanFail
refusal_after = refusal_after_as TooManyBlocks

-- the same of a tree and a have
abbrev pub refusal : List Entry → List HaveFile → ℕ → Option PlanFail
refusal = refusal_as Stale TooManyBlocks
