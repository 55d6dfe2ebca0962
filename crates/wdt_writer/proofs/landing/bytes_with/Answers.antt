use Rattle.std.proofs.Common.{map, arith, ap, subst}
use Rattle.wdt_logfmt.specs.Marks.{bytes_in, marked_of}
use Rattle.wdt_writer.specs.Kept.{CanBeLaid, laid}
use Rattle.wdt_writer.proofs.Laying.{bytes_laid}
use Rattle.wdt_writer.proofs.landing.bytes_with.Goals as goal

pub returns : goal.returns
returns c =
    let files = c.args.files.now in
    let b = c.in-Some.last.block in
    let e = bytes_laid files b c.requires.lawful (subst (CanBeLaid files) c.in-Some.is c.requires.lays) in
    let laid_now = ap (λ o. bytes_in (map marked_of (laid files o).named)) c.in-Some.is in
    omega (arith, e, laid_now)
