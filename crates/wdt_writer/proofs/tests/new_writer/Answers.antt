use Rattle.std.proofs.Common.{◌≡◌, true, sym, subst}
use Rattle.wdt_logfmt.specs.View.{is_view, named_files}
use Rattle.wdt_logfmt.proofs.ForCallers.{view_none}
use Rattle.wdt_writer.proofs.tests.new_writer.Goals as goal

pub of-requires-clause-view : goal.of-requires-clause-view
of-requires-clause-view c = subst (λ fs. is_view (named_files fs) ≡ true) (sym c.new.ensures.items) view_none
