use Rattle.std.proofs.Common.{◌+◌, length, sym, ap, subst, ◌∙◌}
use Rattle.wdt_writer.specs.Kept.{CanBeLaid, laid}
use Rattle.wdt_writer.proofs.Laying.{files_more, files_same}
use Rattle.wdt_writer.proofs.landing.named_with.Goals as goal

pub returns-then-is_named : goal.returns-then-is_named
returns-then-is_named c =
    let files = c.args.files.now in
    let e = files_same files c.in-Some.last.block c.requires.lawful (subst (CanBeLaid files) c.in-Some.is c.requires.lays) (sym c.is_named.ensures ∙ c.if-is_named.true) in
    c.named-then-is_named.ensures.count ∙ sym e ∙ ap (λ o. length (laid files o).named) (sym c.in-Some.is)

pub returns : goal.returns
returns c =
    let files = c.args.files.now in
    let e = files_more files c.in-Some.last.block c.requires.lawful (subst (CanBeLaid files) c.in-Some.is c.requires.lays) (sym c.is_named.ensures ∙ c.if-is_named.false) in
    ap (λ n. n + 1) c.named-2.ensures.count ∙ sym e ∙ ap (λ o. length (laid files o).named) (sym c.in-Some.is)
