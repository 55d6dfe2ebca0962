-- The laws of a barrier and of histories for the proofs of other crates, which cite nothing else of this
-- crate's proofs.
pub use Rattle.wdt_funnel.proofs.Says.{goes_on, lanes_of, ready_of, says_of, untold_of}
pub use Rattle.wdt_funnel.proofs.Histories.{any-more, heard-more, stands-more}
