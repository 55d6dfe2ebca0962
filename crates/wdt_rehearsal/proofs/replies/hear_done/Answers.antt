use Rattle.std.proofs.Common.{refl}
use Rattle.wdt_codec.specs.declared.frames.Frame.TheVariants as frames
use Rattle.wdt_rehearsal.proofs.Heard.{failed}
use Rattle.wdt_rehearsal.proofs.replies.hear_done.Goals as goal

pub returns-in-Done-clause-taken : goal.returns-in-Done-clause-taken
returns-in-Done-clause-taken c = λ rest spelled. (refl, (c.in-Ok.ensures.taken frames.Done rest (tt {0}, spelled)).1)

pub returns-in_default-clause-taken : goal.returns-in_default-clause-taken
returns-in_default-clause-taken c = λ rest spelled. absurd (c.in_default.not-Done (c.in-Ok.ensures.taken frames.Done rest (tt {0}, spelled)).0)

pub returns-in-Err-clause-taken : goal.returns-in-Err-clause-taken
returns-in-Err-clause-taken c = λ rest spelled. failed frames.Done (tt {0}) rest _ c.in-Err.fail (c.in-Err.ensures.taken frames.Done rest (tt {0}, spelled))
