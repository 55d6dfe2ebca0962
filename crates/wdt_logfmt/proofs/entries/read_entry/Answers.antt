use Rattle.std.proofs.Common.{ap, ◌∙◌}
use Rattle.std.proofs.lemmas.List.{take_rest}
use Rattle.wdt_logfmt.specs.Parts.{with_rest}
use Rattle.wdt_logfmt.proofs.EntryReading.{covered-first, file-first, unknown-first}
use Rattle.wdt_logfmt.proofs.entries.read_entry.Goals as goal

pub returns-then-kind-eq-FILE-clause-entry : goal.returns-then-kind-eq-FILE-clause-entry
returns-then-kind-eq-FILE-clause-entry c =
    ap (with_rest c.args.bytes.now) c.behind_kind.ensures ∙ file-first c.args.files c.args.bytes.now c.in_ok-read_file.field-0 c.requires c.if-kind-eq-FILE.true (simp take_rest at c.in_ok-read_file.ensures.entry)

pub returns-then-kind-eq-COVERED-clause-entry : goal.returns-then-kind-eq-COVERED-clause-entry
returns-then-kind-eq-COVERED-clause-entry c =
    ap (with_rest c.args.bytes.now) c.behind_kind-then-kind-eq-COVERED.ensures
    ∙ covered-first c.args.files c.args.bytes.now c.in_ok-read_covered.field-0 c.requires c.if-kind-eq-COVERED.true (simp take_rest at c.in_ok-read_covered.ensures.entry)

pub returns-clause-entry : goal.returns-clause-entry
returns-clause-entry c = unknown-first c.args.files c.args.bytes.now c.requires c.if-kind-eq-FILE.false c.if-kind-eq-COVERED.false
