-- The laws of blocks and their counts that other crates cite.
pub use Rattle.wdt_claims.proofs.lemmas.BlockCounts.{one_if_same, count_of-nil, count_of-cons, count_of-append, count_of-push, count_of-parts, count_of-insert, count_of-permutation, count_of-reverse, one_if-true, one_if-false, rising_distinct, rising_once, other_at, rising_from_sorted, rising_at, rising_insert}
pub use Rattle.wdt_claims.proofs.lemmas.BlockOrder.{one_block, same_itself, precedes_trans, precedes_back}
pub use Rattle.wdt_claims.proofs.lemmas.Found.{absent, among, among_first, among_last, counted_at, found, none_of, not_among, not_found, stands_at}
