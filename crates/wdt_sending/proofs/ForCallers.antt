-- What the proofs of other crates cite of this crate's: what a status tells of the answers that it comes of, that what
-- lanes met has its causes, what a listing leaves, and what stands behind the lines of a status.
pub use Rattle.wdt_sending.proofs.Early.{EndsFor, early_histories, none_received, none_sent, refused_for, unlisted_for}
pub use Rattle.wdt_sending.proofs.Entries.{NotesAborts, NotesPeers, received_entry, sent_entry}
pub use Rattle.wdt_sending.proofs.Handed.{lists_of, some_source}
pub use Rattle.wdt_sending.proofs.Judged.{IsAnswerOf, answer_of, both_done, either, first_starved, lost_for, never_for, peer_for, second_starved}
pub use Rattle.wdt_sending.proofs.Meeting.{judged_unlost, met_by, none_met}
pub use Rattle.wdt_sending.proofs.Puts.{ended_put, put_as, put_histories, put_links, put_sources}
pub use Rattle.wdt_sending.proofs.Refusals.{plan_cause}
pub use Rattle.wdt_sending.proofs.SentAlone.{sender_ran}
pub use Rattle.wdt_sending.proofs.Sources.{EachAsked, EachLater, asked_back, left_behind, trees_told}
