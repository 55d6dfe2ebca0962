-- The lemmas on known and named files for the proofs of other crates, which cite nothing else of this crate's proofs.

-- ---- known files

pub use Rattle.wdt_files.proofs.Known.{count_least, files_with, free_grows, free_least, free_within}
pub use Rattle.wdt_files.proofs.Opened.{IsAFile, a_file, each_file, log_files, one_path, path_named}
-- ---- marks

pub use Rattle.wdt_files.proofs.Marks.{IsFirst, bytes_summed, first_found, marked, spans_summed}
