use Rattle.std.proofs.Common.{List, ◌++◌, ◌∷◌, map, take, drop, ap, ◌∙◌}
use Rattle.wdt_units.specs.Have.{PlainSpan}
use Rattle.wdt_ranges.specs.Spans.{plain_span}
use Rattle.wdt_ranges.proofs.Joins.{map_parts}
use Rattle.wdt_ranges.proofs.chunk.Chunk.insert.Goals as goal
use Rattle.wdt_ranges.proofs.chunk.Chunk.insert.Goals.{in-Ok, in-Err}

pub returns-clause-inserted : goal.returns-clause-inserted
returns-clause-inserted c = elim c.match-insert.branch [
  | in-Ok w ↦ rw w.result-is
      (ap (map plain_span) w.in-Ok.ensures.items ∙ map_parts c.self.inside.spans.items c.args.at c.args.at c.args.span
      ∙ ap (λ (ss : List PlainSpan). take c.args.at ss ++ plain_span c.args.span ∷ drop c.args.at ss) c.self.view_is)
  | in-Err w ↦ rw w.result-is tt
]
