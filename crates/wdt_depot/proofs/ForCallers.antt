-- The laws of disks, moments and programs for the proofs of other crates, which cite nothing else of
-- this crate's proofs. `src/laws.rt` says those on what a crash leaves as contracts.

-- ---- what a crash leaves

pub use Rattle.wdt_depot.proofs.Images.{with_file-other, with_file-same}
pub use Rattle.wdt_depot.proofs.Images.{clean_image, image_of_clean, seen_is_image, synced_is_image}
pub use Rattle.wdt_depot.proofs.Images.{images_keep, images_more, part_images, synced_image_here, synced_images, synced_reads}
pub use Rattle.wdt_depot.proofs.Images.{bytes_eq-same, not_in_is_outside, outside_is_not_in, settled_after_write, seen_outside_write}
pub use Rattle.wdt_depot.proofs.Writes.{length-spliced}
pub use Rattle.wdt_depot.proofs.Rewriting.{change_back, write_back, write_reads}
pub use Rattle.wdt_depot.proofs.Slips.{placed_none}
-- ---- moments

pub use Rattle.wdt_depot.proofs.Moments.{may_either, since-since, since_last, since_more, since_now, since_weaker, step_weaker}
pub use Rattle.wdt_depot.proofs.Moments.{run_as, run_ends, run_join, run_more, run_same, run_since, run_start}
-- ---- programs

pub use Rattle.wdt_depot.proofs.Programs.{calls_both, calls_first, quiet_parts}
-- ---- spots

pub use Rattle.wdt_depot.proofs.AtSpots.{at_needed, spot_stays}
