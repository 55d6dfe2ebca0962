use Rattle.std.proofs.Common.{ℕ, List, [], ◌∷◌, ◌++◌, arith, sym, ap, ◌∙◌, refl}
use Rattle.wdt_gate.specs.Passes.{IsFresh}
use Rattle.wdt_gate.proofs.lemmas.Numbers.{upto_next, map_more, all_more}
use Rattle.wdt_gate.proofs.mutex.passes_of.Goals as goal

pub loop-lane-preserved : goal.loop-lane-preserved
loop-lane-preserved g c =
    let i = c.loop-lane.invariant in
    let new = c.in_ok-push.ensures.items in (
      omega (arith, i.0, c.split_off-share.ensures.parts_left),
      omega (arith, i.1, c.split_off-share.ensures.amount_left),
      rw new (all_more (IsFresh c.args.seen) _ _ i.2 (record { seen_is = refl; turns_are = c.split_off-share.ensures.amount })),
      rw new (map_more _ _ _ ∙ ap (λ (t : List ℕ). t ++ c.loop-lane.lane ∷ []) i.3 ∙ sym (upto_next c.loop-lane.lane)),
    )
