-- A count that isn't wrong, in the words of the history.
use Rattle.std.proofs.Common.{◌≡◌, ℕ, Option, Some, None, option_map, refl}
use Rattle.wdt_claims.specs.LaneWords.{Claims}
use Rattle.wdt_claims.specs.Checks.{fault_of}
use Rattle.wdt_claims.specs.declared.check.CheckFail.{CheckFail}
use Rattle.wdt_sender_fsm.specs.Faults.{count_fault, kind_of}

none_from : (o : Option CheckFail) → option_map kind_of o ≡ None → o ≡ None
none_from None e = refl
none_from (Some x) e = cc

pub right_count : (s : Claims) (n : ℕ) → count_fault s n ≡ None → fault_of s n ≡ None
right_count s n e = none_from (fault_of s n) e
