-- A dock as contracts see it, and what a call of it comes to.
use Rattle.std.specs.Prelude.{Result, IfOk}
use Rattle.wdt_units.specs.Counts.{Rises}
use Rattle.wdt_depot.specs.Programs.{IsQuiet, drive_of}
use Rattle.wdt_depot.specs.State.{State}
use Rattle.wdt_sender_fsm.specs.declared.answers.EndAnswer.{EndAnswer}
use Rattle.wdt_sender_fsm.specs.declared.answers.EndAnswer.TheVariants as answers
use Rattle.wdt_receiver_fsm.specs.declared.acts.RecvAct.{RecvAct}
use Rattle.wdt_receiver_fsm.specs.Plan.{EndsIn, Plan, PlanRan}
use Rattle.wdt_receiver_fsm.specs.PlainReceiver.{PlainReceiver}
use Rattle.wdt_receiver_fsm.specs.Turn.{Step}

-- the receiver's end, and the depot that its files go to
pub record DockView (D : Type 0) : Type 0 where
  pub plain : PlainReceiver
  pub depot : D

-- the disk failed: a call of this dock on its depot did
abbrev pub HasLostDisk : EndAnswer → Type 0
HasLostDisk answers.Disk = Unit {0}
HasLostDisk answer = ⊥

-- the disk failed between the one answer and the other
abbrev pub LosesDisk : EndAnswer → EndAnswer → Type 0
LosesDisk before after = (HasLostDisk before → ⊥) × HasLostDisk after

-- The act and the receiver behind it are one of the plan's ends: one of those behind a failed call only
-- where a fault was counted.
abbrev pub Turns : {E : Type 0} → Plan Step → Result RecvAct E → PlainReceiver → State → State → Type 0
Turns plan result r old new = IfOk result (λ act. EndsIn (Rises old.faults new.faults) plan (act, r))

-- Where the depot tells its disk and no own fault of it came, the act, the receiver and the disk are the plan's.
abbrev pub TurnRan : {E : Type 0} → Plan Step → Result RecvAct E → PlainReceiver → State → State → Type 0
TurnRan plan result r old new = IfOk result (λ act. IsQuiet old new → PlanRan plan (act, r) (drive_of old) (drive_of new))
