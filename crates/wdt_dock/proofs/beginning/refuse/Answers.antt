use Rattle.std.proofs.Common.{sym, subst}
use Rattle.wdt_writer.specs.declared.fail.WriteFail.{WriteFail}
use Rattle.wdt_dock.specs.Beginning.{IsRefused}
use Rattle.wdt_receiver_fsm.specs.End.{plain_with}
use Rattle.wdt_dock.proofs.beginning.refuse.Goals as goal

pub returns-in-Disk-clause-refused : goal.returns-in-Disk-clause-refused
returns-in-Disk-clause-refused c = λ books. subst (λ (fail : WriteFail). IsRefused (plain_with c.args.end.now books) c.args.lane fail (c.fail_with.result, plain_with c.fail_with.new.self books)) (sym c.in-Disk.is) (sym (c.fail_with.ensures books))

pub returns-in-SizeDiffers-clause-refused : goal.returns-in-SizeDiffers-clause-refused
returns-in-SizeDiffers-clause-refused c = λ books. subst (λ (fail : WriteFail). IsRefused (plain_with c.args.end.now books) c.args.lane fail (c.fault.result, plain_with c.fault.new.self books)) (sym c.in-SizeDiffers.is) (sym (c.fault.ensures books))

pub returns-in-Overlap-clause-refused : goal.returns-in-Overlap-clause-refused
returns-in-Overlap-clause-refused c = λ books. subst (λ (fail : WriteFail). IsRefused (plain_with c.args.end.now books) c.args.lane fail (c.fault-in-Overlap.result, plain_with c.fault-in-Overlap.new.self books)) (sym c.in-Overlap.is) (sym (c.fault-in-Overlap.ensures books))

pub returns-in-OverLimit-clause-refused : goal.returns-in-OverLimit-clause-refused
returns-in-OverLimit-clause-refused c = λ books. subst (λ (fail : WriteFail). IsRefused (plain_with c.args.end.now books) c.args.lane fail (c.fault-in-OverLimit.result, plain_with c.fault-in-OverLimit.new.self books)) (sym c.in-OverLimit.is) (sym (c.fault-in-OverLimit.ensures books))
