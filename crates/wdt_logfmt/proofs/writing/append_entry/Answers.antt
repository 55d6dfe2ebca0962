use Rattle.std.proofs.Common.{ap, length, arith}
use Rattle.wdt_logfmt.proofs.Appending.{path-short}
use Rattle.wdt_logfmt.proofs.writing.append_entry.Goals as goal

pub returns-in-Covered-clause-spelled : goal.returns-in-Covered-clause-spelled
returns-in-Covered-clause-spelled c = rw (c.in-Covered.is, ← c.covered_text.ensures) c.append.ensures.spelled

pub append_file-requires : goal.append_file-requires
append_file-requires c = omega (arith, path-short c.in-File.path c.bytes.ensures.lawful, ap length c.bytes.ensures.value)
