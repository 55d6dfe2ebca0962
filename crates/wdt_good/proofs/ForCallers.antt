-- The laws of good images for the proofs of other crates, which cite nothing else of this crate's proofs.
-- `src/laws.rt` says most of them as contracts.

-- ---- images and moments

pub use Rattle.wdt_good.proofs.Images.{IsOther, fit_good, log_is_good, ok_files, ready_leads, view_others}
pub use Rattle.wdt_good.proofs.Moments.{call_good, fewer_covers, fewer_fit, fewer_good, fewer_names, fewer_ready, good_covers, good_fits, good_names, join_good, last_covers, last_fits, last_names}
-- ---- a log at rest

pub use Rattle.wdt_good.proofs.Resting.{fit_files, log_again, log_stays, logged_covers, logged_names, only_covers, only_names, rest_means}
-- ---- changes beside the log

pub use Rattle.wdt_good.proofs.Moving.{files_elsewhere, files_rewritten, make_keeps_reads, make_moves, moved_good, sync_moves, write_keeps_reads, write_moves}
pub use Rattle.wdt_good.proofs.Sweeping.{keeps_itself, keeps_more, reads_good, still_good, still_on, still_ready, swept_more, sync_keeps, sync_still}
pub use Rattle.wdt_good.proofs.Calling.{keeps_start, kept_since, sync_runs, write_rests, write_since}
-- ---- batches

pub use Rattle.wdt_good.proofs.Batches.{among_covers, among_names, batch_grows, batch_says, each_from, each_in, good_holds, holds_more}
pub use Rattle.wdt_good.proofs.Files.{batch_covers, batch_good, batch_names, each_with}
