use Rattle.std.proofs.Common.{◌≡◌, ◌+◌, ◌≤◌, true, length, vec_capacity, vec_len}
use Rattle.std.specs.Vec.Iter.{into_iter_items, into_iter_len}
use Rattle.wdt_logfmt.specs.View.{is_rising, named_files}
use Rattle.wdt_log.specs.Touched.{SameFiles, laid}
use Rattle.wdt_log.proofs.extending.lay_all.Given as goal

abbrev pub invariant-loop-file : goal.invariant-loop-file
invariant-loop-file l = record {
  rising : is_rising (named_files l.files.items) ≡ true;
  rest : is_rising (named_files (into_iter_items l.file-iterator)) ≡ true;
  size : into_iter_len l.file-iterator ≡ length (into_iter_items l.file-iterator);
  room : vec_len l.files + into_iter_len l.file-iterator ≤ vec_capacity l.files;
  files : SameFiles (laid (named_files (into_iter_items l.initial.file-iterator)) (named_files l.initial.files.items)) (laid (named_files (into_iter_items l.file-iterator)) (named_files l.files.items));
}
