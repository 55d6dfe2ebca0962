-- The laws of trees, listings and rests that other crates cite in proofs.
pub use Rattle.wdt_tree.proofs.lemmas.Cuts.{cuts_rest}
pub use Rattle.wdt_tree.proofs.lemmas.Files.{file_from_entry, file_of-at, rising}
pub use Rattle.wdt_tree.proofs.lemmas.Refusals.{accepts, refuses}
pub use Rattle.wdt_tree.proofs.lemmas.RestOnce.{rest_once}
