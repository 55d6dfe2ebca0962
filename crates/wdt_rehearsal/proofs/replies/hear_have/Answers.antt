use Rattle.std.proofs.Common.{◌≡◌, ◌∙◌, sym, List}
use Rattle.wdt_units.specs.Have.{HaveFile}
use Rattle.wdt_codec.specs.declared.frames.Frame.TheVariants as frames
use Rattle.wdt_rehearsal.proofs.Heard.{failed}
use Rattle.wdt_rehearsal.proofs.replies.hear_have.Goals as goal

same_files : (a b : List HaveFile) → frames.Chunks a ≡ frames.Chunks b → a ≡ b
same_files a b e = cc

pub returns-in-Chunks-clause-taken : goal.returns-in-Chunks-clause-taken
returns-in-Chunks-clause-taken c = λ files rest fits spelled.
    let taken = c.in-Ok.ensures.taken (frames.Chunks files) rest (fits, spelled) in
    (same_files c.in-Chunks.have files (sym c.in-Chunks.is ∙ taken.0), taken.1)

pub returns-in_default-clause-taken : goal.returns-in_default-clause-taken
returns-in_default-clause-taken c = λ files rest fits spelled. absurd (c.in_default.not-Chunks files (c.in-Ok.ensures.taken (frames.Chunks files) rest (fits, spelled)).0)

pub returns-in-Err-clause-taken : goal.returns-in-Err-clause-taken
returns-in-Err-clause-taken c = λ files rest fits spelled. failed (frames.Chunks files) files rest _ c.in-Err.fail (c.in-Err.ensures.taken (frames.Chunks files) rest (fits, spelled))
