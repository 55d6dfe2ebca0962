use Rattle.std.proofs.Common.{map, drop, sym, ap, ◌∙◌}
use Rattle.std.proofs.lemmas.List.{drop-map, take_rest}
use Rattle.wdt_ranges.specs.Spans.{plain_span}
use Rattle.wdt_ranges.proofs.chunk.Chunk.from.Goals as goal

pub returns-in-Ok : goal.returns-in-Ok
returns-in-Ok c =
    ap (map plain_span) (c.in-Ok.ensures.items ∙ take_rest c.deref.result.now c.args.at ∙ ap (drop c.args.at) c.deref.ensures.value)
    ∙ sym (drop-map plain_span c.args.at c.self.inside.spans.items) ∙ ap (drop c.args.at) c.self.view_is
