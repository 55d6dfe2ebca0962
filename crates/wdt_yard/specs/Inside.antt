-- What a yard keeps true.
use Rattle.wdt_sender_fsm.specs.PlainSender.{PlainSender}
use Rattle.wdt_sender_fsm.specs.Sender.{IsSender}
use Rattle.wdt_sender_fsm.specs.Writes.{IsLawful}
use Rattle.wdt_yard.specs.Refused.{HasNoDisk, HasReason}

-- a plain sender as steps leave it, within the limits, that has a reason where it refuses the tree, and never
-- failed by a disk
pub record IsYard (s : PlainSender) : Type 0 where
  pub sender : IsSender s
  pub lawful : IsLawful s
  pub reason : HasReason s
  pub diskless : HasNoDisk s
