use Rattle.std.proofs.Common.{◌≡◌, ◌-◌, ◌++◌, length}
use Rattle.wdt_files.specs.Slots.{blanks}
use Rattle.wdt_files.proofs.opening.push_at.Given as goal

abbrev pub invariant-loop : goal.invariant-loop
invariant-loop l = record {
  items : l.slots.items ≡ l.initial.slots.items ++ blanks (l.counter - length l.initial.slots.items);
  count : length l.slots.items ≡ l.counter;
}
