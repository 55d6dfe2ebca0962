use Rattle.std.proofs.Common.{[]}
use Rattle.wdt_logfmt.specs.Beginning.{KnownFile, with_known}
use Rattle.wdt_logfmt.proofs.Blocks.{entries_kept}
use Rattle.wdt_logfmt.proofs.Known.{known_stays, new_slot}
use Rattle.wdt_logfmt.proofs.laws.a_new_file_gets_a_free_number.Goals as goal

pub returns : goal.returns
returns c = record {
  free = λ known. (new_slot known none).free;
  few = λ known. (new_slot known none).few;
  there = λ known file. (new_slot known file).there;
  others = λ known file. (new_slot known file).others;
  stays = known_stays;
  count = λ known file. (new_slot known file).count;
  entries = λ known file files blocks. entries_kept known (with_known known file) files blocks (known_stays known file);
}
  where
    none : KnownFile
    none = record { path = []; size = 0; stamp = 0 }
