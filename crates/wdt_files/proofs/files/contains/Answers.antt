use Rattle.std.proofs.Common.{sym, arith}
use Rattle.wdt_files.proofs.Marks.{has_past}
use Rattle.wdt_files.proofs.files.contains.Goals as goal

pub returns-then-position-ge-MAX_FILE_SIZE : goal.returns-then-position-ge-MAX_FILE_SIZE
returns-then-position-ge-MAX_FILE_SIZE c = sym (has_past c.args.spans.now c.args.position 0 (omega arith) c.requires)
