use Rattle.std.proofs.Common.{arith, length, sym, ◌∙◌, ◌≤◌, ◌<◌}
use Rattle.wdt_logfmt.proofs.Slots.{set_past, slot-at, slot-past}
use Rattle.wdt_logfmt.proofs.files.take_file.Goals as goal

pub returns-then-number-len-clause-file : goal.returns-then-number-len-clause-file
returns-then-number-len-clause-file c = let le : length c.args.slots.now.items ≤ c.args.number = omega arith in slot-past c.args.slots.now.items c.args.number le

pub returns-then-number-len-clause-taken : goal.returns-then-number-len-clause-taken
returns-then-number-len-clause-taken c = let le : length c.args.slots.now.items ≤ c.args.number = omega arith in sym (set_past c.args.slots.now.items c.args.number _ le)

pub returns-clause-file : goal.returns-clause-file
returns-clause-file c =
    let lt : c.args.number < length c.args.slots.now.items = omega arith in
    c.take.ensures.value ∙ slot-at c.args.slots.now.items c.args.number c.index_mut.result.now lt c.index_mut.ensures.value
