use Rattle.std.proofs.Common.{◌≡◌, List, map, sym, IfSome, IfErr, Option, Some, Ok, Result, subst, ◌∙◌}
use Rattle.wdt_units.specs.Tree.{File}
use Rattle.wdt_units.specs.Have.{HaveFile}
use Rattle.wdt_tree.specs.declared.entry.Entry.{Entry}
use Rattle.wdt_tree.specs.Listing.{entry_of}
use Rattle.wdt_tree.specs.Rest.{IsRest}
use Rattle.wdt_tree.specs.Shown.{entry_of_file}
use Rattle.wdt_discover.specs.declared.fail.PlanFail.TheVariants as plans
use Rattle.wdt_discover.specs.Plan.{refusal}
use Rattle.wdt_rehearsal.specs.declared.fail.RehearseFail.{RehearseFail}
use Rattle.wdt_rehearsal.specs.declared.rehearsal.Sent.{Sent}
use Rattle.wdt_rehearsal.specs.Causes.{IsCause}
use Rattle.wdt_rehearsal.specs.Failures.{of_planning}
use Rattle.wdt_rehearsal.proofs.Listed.{told-ordered}
use Rattle.wdt_rehearsal.proofs.Planned.{IsToldRun, handed_on, planned-cuts, plan-refused, none-refused, plan-cause}
use Rattle.wdt_rehearsal.proofs.rehearsal.send.Goals as goal

pub transfer-requires-clause-told : goal.transfer-requires-clause-told
transfer-requires-clause-told g c =
    let manifest = c.in_ok-manifest.manifest in
    let ordered = told-ordered (g.S.Source.told c.args.source.now) (g.S.Source.listing c.args.source.now) c.in_ok-raw.raw.items manifest (g.met.S.Source.told_is_tree c.args.source.now) (g.met.S.Source.told_is_listed c.args.source.now) c.in_ok-raw.ensures.listed c.in_ok-manifest.ensures.entries in
    subst (λ (t : Option (List File)). IfSome t (λ files. manifest ≡ map entry_of_file files)) (sym c.in_ok-raw.ensures.told) ordered

pub transfer-requires-clause-blocks : goal.transfer-requires-clause-blocks
transfer-requires-clause-blocks g c =
    let manifest = c.in_ok-manifest.manifest in
    let rest = subst (λ (have : List HaveFile). IsRest manifest have 16777216 c.in_ok-blocks.blocks.items) c.in_ok-begun.ensures.begun.nothing c.in_ok-blocks.ensures.rest in
    c.deref.ensures.value ∙ planned-cuts manifest c.in_ok-blocks.blocks.items rest

pub returns-in_err-blocks-clause-cause : goal.returns-in_err-blocks-clause-cause
returns-in_err-blocks-clause-cause g c =
    let listing = g.S.Source.listing c.args.source.now in
    let before = g.S.Source.faults c.args.source.now in
    let after = g.S.Source.faults c.list.new.self in
    let manifest = c.in_ok-manifest.manifest in
    let fail = c.in_err-blocks.field-0.0 in
    let refused = subst (λ (have : List HaveFile). (fail ≡ plans.NoMemory → ⊥) → refusal manifest have 16777216 ≡ Some fail) c.in_ok-begun.ensures.begun.nothing c.in_err-blocks.ensures.refused in
    handed_on {A = Sent} c.from_residual-in_err-blocks.result (of_planning fail) (λ (r : Result Sent RehearseFail). IfErr r (IsCause listing before after ⊥)) c.from_residual-in_err-blocks.ensures.1
    (plan-cause listing (map entry_of c.in_ok-raw.raw.items) manifest before after ⊥ fail c.in_ok-raw.ensures.listed c.in_ok-manifest.ensures.accepted c.in_ok-manifest.ensures.entries refused)

pub returns-in_err-blocks-clause-refuses : goal.returns-in_err-blocks-clause-refuses
returns-in_err-blocks-clause-refuses g c =
    let listing = g.S.Source.listing c.args.source.now in
    let before = g.S.Source.faults c.args.source.now in
    let after = g.S.Source.faults c.list.new.self in
    let manifest = c.in_ok-manifest.manifest in
    let fail = c.in_err-blocks.field-0.0 in
    let refused = subst (λ (have : List HaveFile). (fail ≡ plans.NoMemory → ⊥) → refusal manifest have 16777216 ≡ Some fail) c.in_ok-begun.ensures.begun.nothing c.in_err-blocks.ensures.refused in
    handed_on {A = Sent} c.from_residual-in_err-blocks.result (of_planning fail) (λ (r : Result Sent RehearseFail). IsToldRun {A = Sent} listing before after r) c.from_residual-in_err-blocks.ensures.1
    (plan-refused Sent (List Entry) manifest listing (map entry_of c.in_ok-raw.raw.items) manifest before after fail c.in_ok-raw.ensures.listed c.in_ok-manifest.ensures.refuses c.in_ok-manifest.ensures.entries refused)

pub returns-clause-refuses : goal.returns-clause-refuses
returns-clause-refuses g c =
    let manifest = c.in_ok-manifest.manifest in
    let moved = c.in_ok-moved.moved in
    let rest = subst (λ (have : List HaveFile). IsRest manifest have 16777216 c.in_ok-blocks.blocks.items) c.in_ok-begun.ensures.begun.nothing c.in_ok-blocks.ensures.rest in
    none-refused Sent (List Entry) manifest (g.S.Source.listing c.args.source.now) (map entry_of c.in_ok-raw.raw.items) manifest c.in_ok-blocks.blocks.items (g.S.Source.faults c.args.source.now) (g.S.Source.faults c.transfer.new.source)
    (Ok (record { landed = moved.landed; report = record { files = c.count.result; blocks = c.len.result; bytes = c.total.result }; down = moved.down; up = moved.up })) c.in_ok-raw.ensures.listed c.in_ok-manifest.ensures.refuses c.in_ok-manifest.ensures.entries rest c.in_ok-blocks.ensures.few
