-- Which checkpoints are told wrongly, and which blocks go back to the queue.
use Rattle.std.specs.Prelude.{ℕ, nat_le, ◌==◌, ◌&&◌, if◌then◌else◌, List, [], length, drop, Option, Some, None}
use Rattle.wdt_units.specs.declared.blocks.Block.{Block}
use Rattle.wdt_claims.specs.LaneWords.{Claims}
use Rattle.wdt_claims.specs.declared.check.CheckFail.{CheckFail}
use Rattle.wdt_claims.specs.declared.check.CheckFail.TheVariants.{BadCheckpoint, Differs}

-- an open lane's count is from its sure blocks up to all of its list
abbrev pub open_fault : Claims → ℕ → Option CheckFail
open_fault claims n =
    if nat_le claims.sure n && nat_le n (length claims.kept) then None else Some (BadCheckpoint n claims.sure (length claims.kept))

-- a closed lane's count is the one that closed it
abbrev pub closed_fault : ℕ → ℕ → Option CheckFail
closed_fault before n = if n == before then None else Some (Differs n before)

-- the same by whether the lane is closed
abbrev pub fault_by : Option ℕ → Claims → ℕ → Option CheckFail
fault_by None claims n = open_fault claims n
fault_by (Some before) claims n = closed_fault before n

-- what is wrong with a count that is told of a lane
abbrev pub fault_of : Claims → ℕ → Option CheckFail
fault_of claims n = fault_by claims.closed claims n

-- the blocks that go back, by whether the lane is closed
abbrev pub back_by : Option ℕ → Claims → ℕ → List Block
back_by None claims n = drop n claims.kept
back_by (Some before) claims n = []

-- the blocks that a count sends back to the queue: those behind the first n, and none of a closed lane
abbrev pub goes_back : Claims → ℕ → List Block
goes_back claims n = back_by claims.closed claims n
