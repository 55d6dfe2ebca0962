use Rattle.std.proofs.Common.{arith, length, ap}
use Rattle.wdt_logfmt.proofs.Appending.{path-short}
use Rattle.wdt_logfmt.proofs.writing.entry_length.Goals as goal

pub overflow_cast-result : goal.overflow_cast-result
overflow_cast-result c = omega (arith, path-short c.in-File.path c.bytes.ensures.lawful, ap length c.bytes.ensures.value)

pub overflow_add-result : goal.overflow_add-result
overflow_add-result c = omega (arith, path-short c.in-File.path c.bytes.ensures.lawful, ap length c.bytes.ensures.value)
