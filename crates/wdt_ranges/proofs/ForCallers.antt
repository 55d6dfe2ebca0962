-- The lemmas on spans and on the order of files for the proofs of other crates, which cite nothing else of
-- this crate's proofs.
pub use Rattle.wdt_ranges.proofs.Apart.{IsSpanOf, apart_cons, apart_lower, apart_parts, has_before, in_here, in_parts, in_past, span_from, span_parts}
pub use Rattle.wdt_ranges.proofs.InOrder.{in_order_from, neighbours}
