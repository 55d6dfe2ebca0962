use Rattle.std.proofs.Common.{sym, ◌∙◌, arith}
use Rattle.wdt_rehearsal.proofs.Receiving.{file-next, file-other, file-none}
use Rattle.wdt_rehearsal.proofs.receiver.file_for.Goals as goal

pub returns-then-is_next : goal.returns-then-is_next
returns-then-is_next c = λ raw.
    file-next _ c.last_of.new.landed.items c.in-Some.file c.args.header raw (omega arith) c.in-Some.ensures (sym c.is_next.ensures ∙ c.if-is_next.true)

pub returns-in-Some : goal.returns-in-Some
returns-in-Some c = λ raw.
    file-other _ c.last_of.new.landed.items c.in-Some.file c.args.header raw _ (omega arith) c.in-Some.ensures (sym c.is_next.ensures ∙ c.if-is_next.false)

pub returns : goal.returns
returns c = λ raw.
    file-none _ c.args.header raw _ (omega arith) c.in-None.ensures
