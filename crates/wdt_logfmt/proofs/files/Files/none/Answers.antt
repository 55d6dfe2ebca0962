use Rattle.std.proofs.Common.{ap}
use Rattle.std.specs.List.{list_any}
use Rattle.wdt_logfmt.proofs.Keeping.{kept_none}
use Rattle.wdt_logfmt.proofs.files.Files.none.Goals as goal

pub invariant_of-result : goal.invariant_of-result
invariant_of-result c = kept_none _ _ c.new.ensures.items (λ path. ap (list_any _) c.new-2.ensures.empty)
