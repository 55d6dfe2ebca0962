-- The laws of this crate's words that other crates cite.
pub use Rattle.wdt_units.proofs.lemmas.Counts.{rises_wider, added_later, added_left, added_right, capped-added, rose_more, rose_one}
pub use Rattle.wdt_units.proofs.lemmas.Each.{Each, each_from, each_at, each_of, each_moved, each_mapped, each_unmapped, each_both, each_passes, passes_each}
pub use Rattle.wdt_units.proofs.lemmas.Lawful.{lawful, lawful-is}
pub use Rattle.wdt_units.proofs.lemmas.Lists.{list_all-at, same_some, taken_true, get_set, if_has}
pub use Rattle.wdt_units.proofs.lemmas.PathBytes.{leaves_need, within_goes, within_stops, FitsByte, Ends}
pub use Rattle.wdt_units.proofs.lemmas.PathOrder.{less, before_both, before-one_way, before_differs, before_back}
pub use Rattle.wdt_units.proofs.lemmas.PathParts.{path-lawful}
pub use Rattle.wdt_units.proofs.lemmas.Rising.{IsTransitive, IsOneWay, all_before, rising_at, rising_from_pairs, rising_from_neighbours, not_rising, rising_insert, rising_parts, rising_once, rising_same}
