use Rattle.std.proofs.Common.{length, subst, ap, sym, ◌∙◌, arith}
use Rattle.wdt_codec.specs.Frames.{spell}
use Rattle.wdt_codec.specs.Grammar.{IsFrame, IsReason, IsFront, IsBadAt}
use Rattle.wdt_codec.proofs.Untaken.{lent-is, rest-is}
use Rattle.wdt_codec.proofs.reader.Reader.next.Goals as goal

pub returns-in-Ok-clause-found : goal.returns-in-Ok-clause-found
returns-in-Ok-clause-found c =
    let lent = lent-is c.args.self.now c.self.inside.bytes.items c.deref.result.now c.self.inside.start c.self.inside.owed c.self.view_is c.deref.ensures.value in
    let found = subst (λ w. IsFrame w c.in-Ok.frame c.in-Ok.rest.now) lent c.in-Ok.ensures.found in
    subst (λ w. IsFrame c.args.self.now.untaken c.in-Ok.frame w) (sym (rest-is c.args.self.now c.self.inside.bytes.items (spell c.in-Ok.frame) c.in-Ok.rest.now c.self.inside.start c.self.inside.owed c.len.result c.self.view_is (omega (arith, c.len.ensures, c.deref.ensures.len, ap length c.deref.ensures.value)) found.1)) found

pub returns-in-Ok-clause-frame : goal.returns-in-Ok-clause-frame
returns-in-Ok-clause-frame c f rest h =
    let lent = lent-is c.args.self.now c.self.inside.bytes.items c.deref.result.now c.self.inside.start c.self.inside.owed c.self.view_is c.deref.ensures.value in
    let found = subst (λ w. IsFrame w c.in-Ok.frame c.in-Ok.rest.now) lent c.in-Ok.ensures.found in
    let same = c.in-Ok.ensures.frame f rest (subst (λ w. IsFrame w f rest) (sym lent) h) in
    (same.0, rest-is c.args.self.now c.self.inside.bytes.items (spell c.in-Ok.frame) c.in-Ok.rest.now c.self.inside.start c.self.inside.owed c.len.result c.self.view_is (omega (arith, c.len.ensures, c.deref.ensures.len, ap length c.deref.ensures.value)) found.1 ∙ same.1)

pub returns-in-Ok-clause-not_yet : goal.returns-in-Ok-clause-not_yet
returns-in-Ok-clause-not_yet c h =
    let lent = lent-is c.args.self.now c.self.inside.bytes.items c.deref.result.now c.self.inside.start c.self.inside.owed c.self.view_is c.deref.ensures.value in
    c.in-Ok.ensures.not_yet (subst IsFront (sym lent) h)

pub returns-in-Ok-clause-bad : goal.returns-in-Ok-clause-bad
returns-in-Ok-clause-bad c i h =
    let lent = lent-is c.args.self.now c.self.inside.bytes.items c.deref.result.now c.self.inside.start c.self.inside.owed c.self.view_is c.deref.ensures.value in
    c.in-Ok.ensures.bad i (subst (λ w. IsBadAt w i) (sym lent) h)

pub returns-in-Err-clause-reason : goal.returns-in-Err-clause-reason
returns-in-Err-clause-reason c =
    let lent = lent-is c.args.self.now c.self.inside.bytes.items c.deref.result.now c.self.inside.start c.self.inside.owed c.self.view_is c.deref.ensures.value in
    subst (λ w. IsReason w c.in-Err.fail) lent c.in-Err.ensures.reason
