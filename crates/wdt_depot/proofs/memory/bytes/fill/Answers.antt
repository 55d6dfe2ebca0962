use Rattle.std.proofs.Common.{inl, inr, arith}
use Rattle.std.proofs.lemmas.Bool.{cases_lt}
use Rattle.wdt_depot.proofs.memory.bytes.fill.Goals as goal

pub returns-clause-others : goal.returns-clause-others
returns-clause-others c k h =
    c.loop-o.invariant.others k (elim (cases_lt k c.args.from) [ inl g ↦ inl g | inr g ↦ elim h [ inl e ↦ inl e | inr e ↦ inr (omega (arith, g, e, c.loop-o.invariant.end)) ] ])
