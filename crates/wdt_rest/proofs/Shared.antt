-- The law of the list that other crates cite in proofs.
pub use Rattle.wdt_rest.proofs.lemmas.Whole.{list_is_rest}
