use Rattle.std.proofs.Common.{◌≡◌, ◌+◌, ◌-◌, ◌++◌, ◌∷◌, [], Some, None, true, length, ap, sym, ◌∙◌, arith}
use Rattle.wdt_files.specs.Slots.{blanks}
use Rattle.wdt_files.proofs.Opened.{blanks_more}
use Rattle.std.proofs.lemmas.List.{append-nil, length-append}
use Rattle.wdt_files.proofs.opening.push_at.Goals as goal

pub loop-init : goal.loop-init
loop-init c = record {
  items = sym (ap (λ k. c.args.slots.now.items ++ blanks k) (let none : c.len-counter.result - length c.args.slots.now.items ≡ 0 = omega arith in none) ∙ append-nil c.args.slots.now.items);
  count = omega arith;
}

pub loop-preserved : goal.loop-preserved
loop-preserved c = record {
  items = c.in_ok-push.ensures.items ∙ blanks_more c.args.slots.now.items c.loop.slots.items (c.loop.counter - length c.args.slots.now.items) (c.loop.counter + 1 - length c.args.slots.now.items) (omega arith) c.loop.invariant.items;
  count = ap length c.in_ok-push.ensures.items ∙ omega (arith, length-append c.loop.slots.items (None ∷ []), c.loop.invariant.count);
}

pub returns : goal.returns
returns c =
    let at : c.loop.counter ≡ c.args.number = omega arith in
    c.in_ok-push-2.ensures.items ∙ ap (λ ss. ss ++ Some (record { file = c.args.file; is_named = true }) ∷ []) (c.loop.invariant.items ∙ ap (λ k. c.args.slots.now.items ++ blanks (k - length c.args.slots.now.items)) at)
