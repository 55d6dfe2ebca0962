-- When bytes are said to have no frame.
use Rattle.std.specs.Prelude.{Bool, true, false, Option, Some}
use Rattle.wdt_codec.specs.declared.fails.NextFail.{NextFail}
use Rattle.wdt_codec.specs.declared.fails.NextFail.TheVariants as nexts
use Rattle.wdt_codec.specs.Grammar.{IsBadAt}
use Rattle.wdt_link.specs.declared.fails.RecvFail.{RecvFail}
use Rattle.wdt_link.specs.declared.fails.RecvFail.TheVariants as fails
use Rattle.wdt_link.specs.declared.fails.StreamFail.{StreamFail}
use Rattle.wdt_link.specs.declared.fails.StreamFail.TheVariants as streams
use Rattle.wdt_link.specs.Traffic.{Traffic}

-- it says that the bytes have no frame
abbrev pub is_bad : RecvFail → Bool
is_bad (fails.Bad at) = true
is_bad _ = false

-- a Bad is of the bytes that come, where they are told
abbrev pub IsBadOf : RecvFail → Option Traffic → Type 0
IsBadOf (fails.Bad at) (Some traffic) = IsBadAt traffic.coming at
IsBadOf _ _ = Unit {0}

-- the same of a stream's failure
abbrev pub IsBadIn : StreamFail → Option Traffic → Type 0
IsBadIn (streams.Bad at) (Some traffic) = IsBadAt traffic.coming at
IsBadIn _ _ = Unit {0}

-- the same of a reader's failure
abbrev pub IsBadNext : NextFail → Option Traffic → Type 0
IsBadNext (nexts.Bad at) (Some traffic) = IsBadAt traffic.coming at
IsBadNext _ _ = Unit {0}

-- a stream's failure that doesn't say that the bytes have no frame
abbrev pub IsNeverBad : StreamFail → Type 0
IsNeverBad (streams.Bad at) = ⊥
IsNeverBad _ = Unit {0}
