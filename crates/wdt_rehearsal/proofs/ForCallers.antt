-- The laws for the proofs of other crates, which cite nothing else of this crate's proofs.
pub use Rattle.wdt_rehearsal.proofs.Unique.{one-list, one-order}
