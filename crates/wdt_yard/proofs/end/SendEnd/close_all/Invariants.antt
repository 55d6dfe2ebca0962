use Rattle.std.proofs.Common.{◌≡◌, ◌+◌, take}
use Rattle.wdt_sender_fsm.specs.PlainSender.{noted}
use Rattle.wdt_sender_fsm.specs.Turn.{globals}
use Rattle.wdt_yard.proofs.end.SendEnd.close_all.Given as goal

abbrev pub invariant-loop-mark : goal.invariant-loop-mark
invariant-loop-mark l = record {
  plain : l.self.plain ≡ noted l.initial.self.plain (globals l.reader (take l.mark-index l.marks));
  spare : l.initial.self.spare ≡ l.self.spare + l.mark-index;
  ready : l.self.ready ≡ l.initial.self.ready;
}
