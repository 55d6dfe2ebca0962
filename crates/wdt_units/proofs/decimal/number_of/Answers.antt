use Rattle.std.proofs.Common.{sym, ◌∙◌}
use Rattle.wdt_units.proofs.lemmas.Decimal.{not_begun, parsed}
use Rattle.wdt_units.proofs.decimal.number_of.Goals as goal

pub returns-then-begins_number-clause-value : goal.returns-then-begins_number-clause-value
returns-then-begins_number-clause-value c = c.ok.ensures.value ∙ (parsed c.args.word.now c.parse.result (sym c.begins_number.ensures ∙ c.if-begins_number.true) c.parse.ensures.value.0).value

pub returns-then-begins_number-clause-spelled : goal.returns-then-begins_number-clause-spelled
returns-then-begins_number-clause-spelled c = rw c.ok.ensures.value ((parsed c.args.word.now c.parse.result (sym c.begins_number.ensures ∙ c.if-begins_number.true) c.parse.ensures.value.0).spelled)

pub returns-then-begins_number-clause-other : goal.returns-then-begins_number-clause-other
returns-then-begins_number-clause-other c = rw c.ok.ensures.value ((parsed c.args.word.now c.parse.result (sym c.begins_number.ensures ∙ c.if-begins_number.true) c.parse.ensures.value.0).other)

pub returns-else-begins_number-clause-value : goal.returns-else-begins_number-clause-value
returns-else-begins_number-clause-value c = (not_begun c.args.word.now (sym c.begins_number.ensures ∙ c.if-begins_number.false)).value

pub returns-else-begins_number-clause-other : goal.returns-else-begins_number-clause-other
returns-else-begins_number-clause-other c = (not_begun c.args.word.now (sym c.begins_number.ensures ∙ c.if-begins_number.false)).other
