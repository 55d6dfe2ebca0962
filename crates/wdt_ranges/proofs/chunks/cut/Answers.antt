use Rattle.std.proofs.Common.{◌≡◌, List, ◌+◌, ◌++◌, ◌∷◌, suc, take, drop, set, get_or, sym, ap, ◌∙◌, add-one, arith}
use Rattle.std.proofs.lemmas.Grind.{common_steps}
use Rattle.wdt_units.specs.Have.{PlainSpan}
use Rattle.wdt_ranges.specs.Chunks.{chunk_at}
use Rattle.wdt_ranges.proofs.Chunked.{halved_by, inserted_here, read_chunk}
use Rattle.wdt_ranges.proofs.chunks.cut.Goals as goal

pub returns-clause-halved : goal.returns-clause-halved
returns-clause-halved c =
    let cs = c.args.chunks.now.items in
    let at = c.args.at in
    let upper = c.in_ok-upper.upper in
    let put : c.insert.new.self.items ≡ take (at + 1) cs ++ upper ∷ drop (at + 1) cs = grind (arith, common_steps) in
    let items : c.insert.new.self.items ≡ take (suc at) cs ++ upper ∷ drop (suc at) cs = put ∙ ap (λ n. take n cs ++ upper ∷ drop n cs) (add-one at) in
    let low : c.truncate.new.self ≡ take c.args.half (chunk_at cs at) =
    c.truncate.ensures ∙ ap (take c.args.half) (c.index_mut.ensures.value ∙ ap (λ (xs : List (List PlainSpan)). get_or xs at c.index_mut.result.now) items ∙ inserted_here cs at upper c.index_mut.result.now c.requires.chunk) in
    let high : upper ≡ drop c.args.half (chunk_at cs at) = c.in_ok-upper.ensures ∙ ap (drop c.args.half) (read_chunk cs at c.index.result.now c.requires.chunk c.index.ensures) in
    ap (λ (xs : List (List PlainSpan)). set xs at c.truncate.new.self) items
    ∙ halved_by cs at c.truncate.new.self upper c.requires.chunk
    ∙ ap (λ w. take at cs ++ (w ∷ (upper ∷ drop (suc at) cs))) low
    ∙ ap (λ w. take at cs ++ (take c.args.half (chunk_at cs at) ∷ (w ∷ drop (suc at) cs))) high
