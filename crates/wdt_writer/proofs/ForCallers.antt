-- The laws of blocks on their way for the proofs of other crates, which cite nothing else of this crate's proofs.

pub use Rattle.wdt_writer.proofs.Begun.{begun_now}
pub use Rattle.wdt_writer.proofs.Named.{spans_of_file}
pub use Rattle.wdt_writer.proofs.Settling.{settles}
