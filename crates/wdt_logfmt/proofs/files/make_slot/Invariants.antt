use Rattle.std.proofs.Common.{◌≡◌, ◌≤◌, length}
use Rattle.wdt_logfmt.specs.Slots.{files_in}
use Rattle.wdt_logfmt.proofs.files.make_slot.Given as goal

abbrev pub invariant-loop : goal.invariant-loop
invariant-loop l = record {
  same : files_in 0 l.slots.items ≡ files_in 0 l.initial.slots.items;
  count : length l.slots.items ≡ l.counter;
  few : length l.slots.items ≤ 262144;
}
