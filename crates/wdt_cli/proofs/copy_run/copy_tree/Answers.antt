use Rattle.std.proofs.Common.{◌≡◌, subst}
use Rattle.wdt_tool.specs.Refusals.{IsListingCause}
use Rattle.wdt_tool.specs.declared.status.Status.{Status}
use Rattle.wdt_tool.specs.declared.status.Status.TheVariants.{Done, DiskFault, OutFault, SourceFault}
use Rattle.wdt_sending.specs.Counted.{SomeRose}
use Rattle.wdt_sending.specs.Told.{first_told}
use Rattle.wdt_sending.proofs.ForCallers.{EndsFor, early_histories, unlisted_for, asked_back, left_behind}
use Rattle.wdt_cli.proofs.Early.{early_depot, untouched_keeps}
use Rattle.wdt_cli.proofs.Handed.{copy_cause, may_carry, may_open}
use Rattle.wdt_cli.proofs.copy_run.copy_tree.Goals as goal

-- ---- the tree was listed

pub copy_files-requires-clause-opening : goal.copy_files-requires-clause-opening
copy_files-requires-clause-opening g c κs within =
    may_open g.S.Source.told g.N.Run.told c.args.lanes c.args.block c.args.batch c.args.parts.sources.items c.in-Ok.manifest c.opening_of-opening.result
    (g.D.Depot.state c.args.parts.depot) c.opening_of-opening.ensures c.requires.limits c.requires.served.0 c.requires.sources
    c.in-Ok.ensures.tree c.requires.spots c.requires.disk

pub copy_files-requires-clause-parts : goal.copy_files-requires-clause-parts
copy_files-requires-clause-parts g c κs within =
    may_carry g.S.Source.told g.S.Source.slips g.C.Dial.out g.A.Accept.out g.N.Run.told c.args.lanes c.args.block c.args.batch c.in-Ok.manifest c.opening_of-opening.result c.args.parts.sources.items
    c.list_first.new.sources.items c.args.parts.dialers.items c.args.parts.acceptors.items
    c.opening_of-opening.ensures c.requires.served c.list_first.ensures.back c.requires.sources c.requires.dialers_home c.requires.acceptors_home

pub returns-in-Ok-clause-sources : goal.returns-in-Ok-clause-sources
returns-in-Ok-clause-sources g c = left_behind c.args.parts.sources.items c.list_first.ensures.back c.list_first.ensures.later c.copy_files.ensures.sources

pub returns-in-Ok-clause-refused : goal.returns-in-Ok-clause-refused
returns-in-Ok-clause-refused g c =
    λ kind is. copy_cause g.N.Run.told c.args.lanes c.args.block c.args.batch c.in-Ok.manifest c.opening_of-opening.result (first_told g.S.Source.listing c.args.parts.sources.items)
    (g.D.Depot.state c.args.parts.depot).told kind c.opening_of-opening.ensures
    c.in-Ok.ensures.accepted (c.copy_files.ensures.refused kind is)

-- ---- it wasn't

pub returns-in-Err-clause-sources : goal.returns-in-Err-clause-sources
returns-in-Err-clause-sources g c =
    let old = c.args.parts.sources.items in
    let new = c.list_first.new.sources.items in
    let rose = SomeRose g.S.Source.faults old new in
    let listing = first_told g.S.Source.listing old in
    let end : EndsFor rose ⊥ (IsListingCause listing) c.unrun.result.status =
    rw c.unrun.ensures.status
    (unlisted_for c.list_first.result c.in-Err.failure c.end_failed.result listing rose c.in-Err.is c.end_failed.ensures.end c.in-Err.ensures.refused c.list_first.ensures.cause) in
    rw c.unrun.ensures.sources record
    { back = asked_back g.S.Source.told g.S.Source.slips g.N.Run.told old new c.list_first.ensures.back; fault = λ is. subst (EndsFor rose ⊥ (IsListingCause listing)) is end }

pub returns-in-Err-clause-depot : goal.returns-in-Err-clause-depot
returns-in-Err-clause-depot g c =
    let old = c.args.parts.sources.items in
    let rose = SomeRose g.S.Source.faults old c.list_first.new.sources.items in
    let listing = first_told g.S.Source.listing old in
    let end : EndsFor rose ⊥ (IsListingCause listing) c.unrun.result.status =
    rw c.unrun.ensures.status
    (unlisted_for c.list_first.result c.in-Err.failure c.end_failed.result listing rose c.in-Err.is c.end_failed.ensures.end c.in-Err.ensures.refused c.list_first.ensures.cause) in
    let known : (s : Status) → c.unrun.result.status ≡ s → EndsFor rose ⊥ (IsListingCause listing) s = λ s is. subst (EndsFor rose ⊥ (IsListingCause listing)) is end in
    early_depot g.D.Depot.state g.N.Run.told (g.D.Depot.state c.args.parts.depot) c.args.parts.depot c.unrun.result.status c.unrun.result.depot c.unrun.ensures.depot
    (untouched_keeps g.D.Depot.state g.N.Run.told c.args.parts.depot c.requires.disk c.requires.spots) (known Done) (known OutFault) (λ is. absurd (known DiskFault is))

pub returns-in-Err-clause-histories : goal.returns-in-Err-clause-histories
returns-in-Err-clause-histories g c =
    let old = c.args.parts.sources.items in
    let rose = SomeRose g.S.Source.faults old c.list_first.new.sources.items in
    let listing = first_told g.S.Source.listing old in
    early_histories rose ⊥ (IsListingCause listing) c.unrun.result.status c.unrun.result.sender.items c.unrun.result.receiver.items
    (rw c.unrun.ensures.status
    (unlisted_for c.list_first.result c.in-Err.failure c.end_failed.result listing rose c.in-Err.is c.end_failed.ensures.end c.in-Err.ensures.refused c.list_first.ensures.cause))
    c.unrun.ensures.sender c.unrun.ensures.receiver
