use Rattle.std.proofs.Common.{◌≡◌, ◌⊎◌, ℕ, ◌+◌, ◌<◌, ◌≤◌, max, get_or}
use Rattle.std.specs.Prelude.{◌%◌}
use Rattle.wdt_depot.proofs.memory.bytes.fill.Given as goal

abbrev pub invariant-loop-o : goal.invariant-loop-o
invariant-loop-o l = record {
  end : l.o ≤ max l.from l.to;
  within : (k : ℕ) → l.from ≤ k → k < l.o → get_or l.bytes k 0 ≡ (l.pick + k) % 256;
  others : (k : ℕ) → (k < l.from) ⊎ (l.o ≤ k) → get_or l.bytes k 0 ≡ get_or l.initial.bytes k 0;
}
