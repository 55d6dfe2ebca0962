use Rattle.std.proofs.Common.{◌≤◌, length, map, arith}
use Rattle.std.proofs.lemmas.List.{length-map}
use Rattle.wdt_depot.specs.Spots.{entered_view}
use Rattle.wdt_depot.proofs.SpotLists.{all_taken}
use Rattle.wdt_depot.proofs.spots.free_number.Goals as goal

pub returns : goal.returns
returns c =
    let many : 32 ≤ length (map entered_view c.args.spots.now.items) = all_taken 32 (map entered_view c.args.spots.now.items) (λ k h. c.loop-number.invariant k (omega (arith, h, c.loop-number-test.false))) in
    absurd (omega (arith, many, length-map c.args.spots.now.items entered_view, c.requires))
