use Rattle.std.proofs.Common.{◌≡◌, true, sym, ap, subst, ◌∙◌}
use Rattle.std.specs.List.{list_all}
use Rattle.wdt_logfmt.specs.Batches.{is_known, numbers_of}
use Rattle.wdt_writer.proofs.Landed.{known_numbers}
use Rattle.wdt_writer.proofs.writer.Writer.dirty.Goals as goal

pub paths_of-requires : goal.paths_of-requires
paths_of-requires c =
    let i = c.self.inside in
    subst (λ ns. list_all (is_known i.files.known) ns ≡ true) (sym (c.deref-2.ensures.value ∙ c.in_ok-numbers.ensures ∙ ap numbers_of c.deref.ensures.value)) (known_numbers i.files.known i.unlogged.items c.self.invariant.known)
