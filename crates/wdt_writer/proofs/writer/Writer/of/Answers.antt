use Rattle.std.proofs.Common.{◌≡◌, true, arith}
use Rattle.std.specs.Prelude.{is_ok}
use Rattle.std.proofs.lemmas.Grind.{common_steps}
use Rattle.wdt_writer.proofs.Keeping.{opened_with, resized}
use Rattle.wdt_writer.proofs.writer.Writer.of.Goals as goal

pub invariant_of-result : goal.invariant_of-result
invariant_of-result c =
    let done : is_ok c.resize.result ≡ true = grind (arith, common_steps) in
    opened_with c.in_ok-files.files c.new-2.result.items c.resize.new.self.items c.args.lanes c.requires.lanes c.in_ok-files.ensures.sound c.new-2.ensures.items
    (resized (is_ok c.resize.result) c.new-parts.result.items c.resize.new.self.items c.args.lanes _ done c.new-parts.ensures.items c.new-parts.ensures.len c.resize.ensures.items)
