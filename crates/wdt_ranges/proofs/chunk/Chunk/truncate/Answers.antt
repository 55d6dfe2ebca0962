use Rattle.std.proofs.Common.{map, take, sym, ap, ◌∙◌}
use Rattle.std.proofs.lemmas.List.{take-map}
use Rattle.wdt_ranges.specs.Spans.{plain_span}
use Rattle.wdt_ranges.proofs.chunk.Chunk.truncate.Goals as goal

pub returns : goal.returns
returns c = ap (map plain_span) c.truncate.ensures.items ∙ sym (take-map plain_span c.args.at c.self.inside.spans.items) ∙ ap (take c.args.at) c.self.view_is
