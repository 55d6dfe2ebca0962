-- What the calls of a link count: faults, alarms and slips.
use Rattle.std.specs.Prelude.{◌≡◌, ℕ, ◌≤◌, Bool, true, false, Result, Ok, Err, IsErrOf}
use Rattle.wdt_units.specs.Counts.{Rises}
use Rattle.wdt_codec.specs.declared.frames.Frame.{Frame}
use Rattle.wdt_codec.specs.declared.frames.Frame.TheVariants as frames
use Rattle.wdt_link.specs.declared.fails.RecvFail.{RecvFail}
use Rattle.wdt_link.specs.declared.fails.RecvFail.TheVariants as fails
use Rattle.wdt_link.specs.Saying.{PlainSaid, Whole}

-- what a call answers, seen otherwise where it is Ok
abbrev pub map_ok : {T U E : Type 0} → (T → U) → Result T E → Result U E
map_ok f (Ok x) = Ok (f x)
map_ok f (Err e) = Err e

-- a count of faults doesn't fall; it rose where the call answers that failure, and stayed elsewhere
pub record HasFault {T E : Type 0} (failed : E) (result : Result T E) (old new : ℕ) : Type 0 where
  pub later : old ≤ new
  pub cause : IsErrOf result failed → Rises old new
  pub kept : (IsErrOf result failed → ⊥) → new ≡ old

-- a count of slips rises exactly where the call is one, and such a call answers that failure
pub record HasSlip {T E : Type 0} (failed : E) (slips : Bool) (result : Result T E) (old new : ℕ) : Type 0 where
  pub later : old ≤ new
  pub kept : slips ≡ false → new ≡ old
  pub rose : slips ≡ true → Rises old new × IsErrOf result failed

-- a count of alarms rises exactly where the other end was heard to fail
pub record HasAlarm (alarm : Bool) (old new : ℕ) : Type 0 where
  pub later : old ≤ new
  pub kept : alarm ≡ false → new ≡ old
  pub cause : alarm ≡ true → Rises old new

-- the frame says that the other end has failed
abbrev pub is_abort : Frame → Bool
is_abort (frames.Abort code) = true
is_abort _ = false

-- the other end was heard to fail: it said so, or its bytes have no frame
abbrev pub is_alarm : Result PlainSaid RecvFail → Bool
is_alarm (Ok (Whole frame)) = is_abort frame
is_alarm (Err (fails.Bad at)) = true
is_alarm _ = false
