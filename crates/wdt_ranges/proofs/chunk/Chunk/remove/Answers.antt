use Rattle.std.proofs.Common.{List, ◌++◌, suc, ◌+◌, map, take, drop, sym, ap, ◌∙◌, add-one}
use Rattle.std.proofs.lemmas.List.{take-map, drop-map, map-append}
use Rattle.wdt_units.specs.Have.{PlainSpan}
use Rattle.wdt_ranges.specs.Spans.{plain_span}
use Rattle.wdt_ranges.proofs.chunk.Chunk.remove.Goals as goal

pub returns : goal.returns
returns c =
    ap (map plain_span) c.remove.ensures.items
    ∙ map-append plain_span (take c.args.at c.self.inside.spans.items) (drop (suc c.args.at) c.self.inside.spans.items)
    ∙ ap (λ w. w ++ map plain_span (drop (suc c.args.at) c.self.inside.spans.items)) (sym (take-map plain_span c.args.at c.self.inside.spans.items))
    ∙ ap (λ w. take c.args.at (map plain_span c.self.inside.spans.items) ++ w) (sym (drop-map plain_span (suc c.args.at) c.self.inside.spans.items))
    ∙ ap (λ n. take c.args.at (map plain_span c.self.inside.spans.items) ++ drop n (map plain_span c.self.inside.spans.items)) (sym (add-one c.args.at))
    ∙ ap (λ (ss : List PlainSpan). take c.args.at ss ++ drop (c.args.at + 1) ss) c.self.view_is
