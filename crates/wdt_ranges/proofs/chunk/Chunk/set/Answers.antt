use Rattle.std.proofs.Common.{List, ◌++◌, ◌∷◌, ◌<◌, suc, ◌+◌, length, set, map, take, drop, sym, ap, ◌∙◌, add-one, arith}
use Rattle.std.proofs.lemmas.List.{set_split, map-set, length-map}
use Rattle.wdt_units.specs.Have.{PlainSpan}
use Rattle.wdt_ranges.specs.Spans.{plain_span}
use Rattle.wdt_ranges.proofs.chunk.Chunk.set.Goals as goal

pub returns : goal.returns
returns c =
    let lt : c.args.at < length (map plain_span c.self.inside.spans.items) = omega (arith, ap length c.self.view_is) in
    map-set plain_span c.self.inside.spans.items c.args.at c.args.span
    ∙ set_split (map plain_span c.self.inside.spans.items) c.args.at (plain_span c.args.span) lt
    ∙ ap (λ n. take c.args.at (map plain_span c.self.inside.spans.items) ++ plain_span c.args.span ∷ drop n (map plain_span c.self.inside.spans.items)) (sym (add-one c.args.at))
    ∙ ap (λ (ss : List PlainSpan). take c.args.at ss ++ plain_span c.args.span ∷ drop (c.args.at + 1) ss) c.self.view_is
