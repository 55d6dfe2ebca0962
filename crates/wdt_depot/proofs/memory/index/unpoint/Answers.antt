use Rattle.std.proofs.Common.{subst, List, ℕ, None}
use Rattle.std.specs.BTreeMap.{UpdatesBy}
use Rattle.std.specs.Cmp.Lexicographic.{slice_cmp}
use Rattle.std.specs.Ordering.{nat_cmp}
use Rattle.std.specs.String.{string_bytes, string_cmp}
use Rattle.wdt_depot.proofs.Paths.{index_updates}
use Rattle.wdt_depot.proofs.memory.index.unpoint.Goals as goal

pub returns : goal.returns
returns c =
    index_updates c.args.path.now c.args.index.now c.remove.new.self None
    (subst (λ (p : List ℕ). UpdatesBy string_cmp (λ k. slice_cmp nat_cmp p (string_bytes k)) c.args.index.now c.remove.new.self None) c.text.ensures c.remove.ensures.updates)
