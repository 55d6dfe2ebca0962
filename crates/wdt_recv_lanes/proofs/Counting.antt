-- How many seats there are.
use Rattle.std.proofs.Common.{◌≡◌, ℕ, List, map, length, sym, ap, ◌∙◌}
use Rattle.std.proofs.lemmas.List.{length-map}
use Rattle.wdt_gate.specs.Told.{upto}
use Rattle.wdt_lanes.proofs.Ending.{counted}

-- there is a seat for each lane
pub seat_count : {A P : Type 0} (pass : A → P) (lane : P → ℕ) (seats : List A) (passes : List P) (lanes : ℕ) → map pass seats ≡ passes → map lane passes ≡ upto 0 lanes → length seats ≡ lanes
seat_count pass lane seats passes lanes same all = sym (length-map seats pass) ∙ ap length same ∙ counted lane passes lanes all
