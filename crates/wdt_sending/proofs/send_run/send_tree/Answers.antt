use Rattle.std.proofs.Common.{◌≡◌, inr, subst}
use Rattle.wdt_tool.specs.Refusals.{IsListingCause}
use Rattle.wdt_tool.specs.declared.status.Status.{Status}
use Rattle.wdt_tool.specs.declared.status.Status.TheVariants.{DiskFault}
use Rattle.wdt_sending.specs.Counted.{SomeRose}
use Rattle.wdt_sending.specs.Told.{first_told}
use Rattle.wdt_sending.proofs.Early.{EndsFor, early_histories, unlisted_for}
use Rattle.wdt_sending.proofs.Handed.{may_begin, may_send}
use Rattle.wdt_sending.proofs.Sources.{asked_back, left_behind}
use Rattle.wdt_sending.proofs.send_run.send_tree.Goals as goal

-- ---- the tree was listed

pub send_files-requires-clause-may : goal.send_files-requires-clause-may
send_files-requires-clause-may g c κs within =
    may_begin g.S.Source.told g.N.Run.told c.args.lanes c.args.block c.args.parts.sources.items c.in-Ok.manifest c.requires.lanes c.requires.block c.requires.served.0 c.requires.sources
    c.in-Ok.ensures.tree

pub send_files-requires-clause-over : goal.send_files-requires-clause-over
send_files-requires-clause-over g c κs within =
    may_send g.S.Source.told g.S.Source.slips g.C.Dial.out g.N.Run.told c.args.lanes c.args.parts.sources.items c.list_first.new.sources.items c.args.parts.dialers.items
    c.requires.served c.list_first.ensures.back c.requires.sources c.requires.dialers_home

pub returns-in-Ok-clause-sources : goal.returns-in-Ok-clause-sources
returns-in-Ok-clause-sources g c = left_behind c.args.parts.sources.items c.list_first.ensures.back c.list_first.ensures.later c.send_files.ensures.sources

pub returns-in-Ok-clause-refused : goal.returns-in-Ok-clause-refused
returns-in-Ok-clause-refused g c = λ kind is. inr (c.send_files.ensures.refused kind is)

-- ---- it wasn't

pub returns-in-Err-clause-sources : goal.returns-in-Err-clause-sources
returns-in-Err-clause-sources g c =
    let old = c.args.parts.sources.items in
    let new = c.list_first.new.sources.items in
    let rose = SomeRose g.S.Source.faults old new in
    let listing = first_told g.S.Source.listing old in
    let end : EndsFor rose ⊥ (IsListingCause listing) c.unrun.result.status =
    rw c.unrun.ensures.status
    (unlisted_for c.list_first.result c.in-Err.failure c.end_failed.result listing rose c.in-Err.is c.end_failed.ensures.end c.in-Err.ensures.refused c.list_first.ensures.cause) in
    rw c.unrun.ensures.sources record
    { back = asked_back g.S.Source.told g.S.Source.slips g.N.Run.told old new c.list_first.ensures.back; fault = λ is. subst (EndsFor rose ⊥ (IsListingCause listing)) is end }

pub returns-in-Err-clause-diskless : goal.returns-in-Err-clause-diskless
returns-in-Err-clause-diskless g c =
    let old = c.args.parts.sources.items in
    let rose = SomeRose g.S.Source.faults old c.list_first.new.sources.items in
    let listing = first_told g.S.Source.listing old in
    let end : EndsFor rose ⊥ (IsListingCause listing) c.unrun.result.status =
    rw c.unrun.ensures.status
    (unlisted_for c.list_first.result c.in-Err.failure c.end_failed.result listing rose c.in-Err.is c.end_failed.ensures.end c.in-Err.ensures.refused c.list_first.ensures.cause) in
    λ is. subst (EndsFor rose ⊥ (IsListingCause listing)) is end

pub returns-in-Err-clause-histories : goal.returns-in-Err-clause-histories
returns-in-Err-clause-histories g c =
    let old = c.args.parts.sources.items in
    let rose = SomeRose g.S.Source.faults old c.list_first.new.sources.items in
    let listing = first_told g.S.Source.listing old in
    early_histories rose ⊥ (IsListingCause listing) c.unrun.result.status c.unrun.result.sender.items c.unrun.result.receiver.items
    (rw c.unrun.ensures.status
    (unlisted_for c.list_first.result c.in-Err.failure c.end_failed.result listing rose c.in-Err.is c.end_failed.ensures.end c.in-Err.ensures.refused c.list_first.ensures.cause))
    c.unrun.ensures.sender c.unrun.ensures.receiver
