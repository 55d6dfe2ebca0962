-- The laws of logs for the proofs of other crates, which cite nothing else of this crate's proofs.
-- `src/laws.rt` says those on what the bytes of logs mean as contracts.

-- ---- what bytes mean

pub use Rattle.wdt_logfmt.proofs.Prefix.{ends}
pub use Rattle.wdt_logfmt.proofs.Reach.{means-closed, means-torn, reaches-batch, reaches-header}
-- ---- entries and batches

pub use Rattle.wdt_logfmt.proofs.Landing.{all_added-append, can_land, entry_leaves, entry_touches, length-beside, sum_covered}
pub use Rattle.wdt_logfmt.proofs.Lawful.{IsFreePath, batch-view, means-view, named-free}
pub use Rattle.wdt_logfmt.proofs.Reread.{first_added}
pub use Rattle.wdt_logfmt.proofs.Views.{CanCover, CanName, added-view, can_cover-parts, can_name-parts, room_above, taken_true}
-- ---- blocks

pub use Rattle.wdt_logfmt.proofs.Blocks.{block_marked, blocks_marked, entries-append, entries_kept}
pub use Rattle.wdt_logfmt.proofs.Known.{HasNumber, IsFreeSlot, known_stays, new_slot, number_found, number_new}
-- ---- files

pub use Rattle.wdt_logfmt.proofs.Views.{IsFile, IsView, eq_sym, file_parts, names_kept, names_put, rising_put, sum_same, view_none, view_parts}
pub use Rattle.wdt_logfmt.proofs.Spans.{length-with_span, none_overlap, total-with_span, with_has, with_span-is}
