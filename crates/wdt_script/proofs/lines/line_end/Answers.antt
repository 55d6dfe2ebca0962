use Rattle.std.proofs.Common.{ap, ◌∙◌}
use Rattle.std.specs.List.{position_or_len}
use Rattle.std.proofs.lemmas.List.{take_rest}
use Rattle.wdt_script.specs.Lines.{ends_line}
use Rattle.wdt_script.proofs.Parts.{line-from}
use Rattle.wdt_script.proofs.lines.line_end.Goals as goal

pub returns-clause-line : goal.returns-clause-line
returns-clause-line c =
    line-from c.args.bytes.now c.args.start c.part_len.result c.requires (c.part_len.ensures.value ∙ ap (position_or_len ends_line) (take_rest c.args.bytes.now c.args.start))
