use Rattle.std.proofs.Common.{◌∙◌, ap}
use Rattle.std.specs.Option.{is_some}
use Rattle.wdt_logfmt.proofs.Slots.{slot-at, slot-past}
use Rattle.wdt_logfmt.proofs.files.is_taken.Goals as goal

pub returns-then-number-slots : goal.returns-then-number-slots
returns-then-number-slots c = ap is_some (slot-past c.args.slots.now c.args.number c.if-number-slots.true)

pub returns : goal.returns
returns c = c.is_some.ensures ∙ ap is_some (slot-at c.args.slots.now c.args.number c.index-slots-number.result c.if-number-slots.false c.index-slots-number.is)
