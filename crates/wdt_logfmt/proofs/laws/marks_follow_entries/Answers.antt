use Rattle.wdt_logfmt.proofs.Blocks.{block_marked, blocks_marked}
use Rattle.wdt_logfmt.proofs.laws.marks_follow_entries.Goals as goal

pub returns : goal.returns
returns c = record { one = block_marked; all = blocks_marked }
