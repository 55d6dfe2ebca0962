use Rattle.std.proofs.Common.{◌≡◌, true, List, ◌∷◌, sym, ap, ◌∙◌, arith, rules, reverse}
use Rattle.std.specs.List.{insert}
use Rattle.std.proofs.lemmas.List.Sorted.{IsPartitionPoint-from_clause}
use Rattle.wdt_units.specs.declared.blocks.Block.{Block}
use Rattle.wdt_claims.specs.Blocks.{precedes, are_rising, count_of}
use Rattle.wdt_queue.specs.Waiting.{Waiting}
use Rattle.wdt_queue.proofs.Places.{greater_first, put_rising, put_same}
use Rattle.wdt_queue.proofs.queue.Queue.put_back.Goals as goal

items : (c : goal.After-unwrap) → c.insert.new.self.items ≡ insert c.self.inside.blocks.items c.partition_point-place.result c.args.block
items c = rw c.unwrap.ensures at c.insert.ensures.items

rising : (c : goal.After-unwrap) → are_rising (reverse c.insert.new.self.items) ≡ true
rising c =
    let whole : c.deref.result.now ≡ c.self.inside.blocks.items = c.deref.ensures.value in
    let up : are_rising (reverse c.deref.result.now) ≡ true = ap (λ (xs : List Block). are_rising (reverse xs)) whole ∙ c.self.invariant.rising in
    let seen : reverse c.deref.result.now ≡ c.args.self.now.waiting = ap reverse whole ∙ ap (λ (w : Waiting). w.waiting) c.self.view_is in
    let point = IsPartitionPoint-from_clause (precedes c.args.block) c.deref.result.now c.partition_point-place.result c.partition_point-place.ensures.partitioned (greater_first c.deref.result.now c.args.block up) (λ a r f' k. search rules) in
    ap (λ (xs : List Block). are_rising (reverse xs)) (items c ∙ ap (λ (xs : List Block). insert xs c.partition_point-place.result c.args.block) (sym whole))
    ∙ put_rising c.deref.result.now c.partition_point-place.result c.args.block up (ap (count_of c.args.block) seen ∙ c.requires.absent) c.partition_point-place.ensures.bound point

pub invariant_of-self : goal.invariant_of-self
invariant_of-self c = record {
  rising = rising c;
  within = omega (arith, rw c.unwrap.ensures at c.insert.ensures.len, ap (λ (w : Waiting). w.room) c.self.view_is, c.requires.room);
  room = omega (arith, c.self.invariant.room, c.insert.ensures.capacity);
  few = c.self.invariant.few;
}

pub returns-clause-rising : goal.returns-clause-rising
returns-clause-rising c = rising c

pub returns-clause-blocks : goal.returns-clause-blocks
returns-clause-blocks c = λ x. ap (λ (xs : List Block). count_of x (reverse xs)) (items c) ∙ put_same c.self.inside.blocks.items c.partition_point-place.result c.args.block x ∙ ap (λ (w : Waiting). count_of x (c.args.block ∷ w.waiting)) c.self.view_is
