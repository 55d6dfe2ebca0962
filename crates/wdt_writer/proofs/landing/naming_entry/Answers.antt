use Rattle.std.proofs.Common.{◌∷◌, [], List, ℕ, sym, ap, ◌∙◌}
use Rattle.wdt_logfmt.specs.declared.entry.LogEntry.TheVariants.{File}
use Rattle.wdt_writer.proofs.Laying.{entry_named, entry_new}
use Rattle.wdt_writer.proofs.landing.naming_entry.Goals as goal

pub returns-then-is_named : goal.returns-then-is_named
returns-then-is_named c = entry_named c.args.files.now c.args.number (sym c.is_named.ensures ∙ c.if-is_named.true)

pub returns : goal.returns
returns c =
    ap (λ (path : List ℕ). File c.args.number path c.file-size.result.1 c.file-size.result.2 ∷ []) c.in_ok-path.ensures
    ∙ entry_new c.args.files.now c.args.number _ (sym c.is_named.ensures ∙ c.if-is_named.false) c.file-size.ensures
