use Rattle.std.proofs.Common.{◌≡◌, ℕ, List, [], length, Option, Some, IfSome, sym, ap, ◌∙◌, subst}
use Rattle.wdt_sender_fsm.specs.declared.answers.RefusedKind.{RefusedKind}
use Rattle.wdt_tool.specs.declared.status.Status.TheVariants.{DiskFault, SourceFault, Refused}
use Rattle.wdt_words.specs.declared.command.Transfer.{Transfer}
use Rattle.wdt_sending.specs.Causes.{IsTransferCause}
use Rattle.wdt_sending.specs.Told.{first_told}
use Rattle.wdt_cli.specs.Carried.{IsServed, KeepsApart, stored_run}
use Rattle.wdt_cli.specs.Leaves.{LeavesDepot}
use Rattle.wdt_cli.proofs.Causes.{completes}
use Rattle.wdt_cli.proofs.Depots.{unused_depot}
use Rattle.wdt_cli.proofs.ReceivedAlone.{no_sources, none_back}
use Rattle.wdt_cli.proofs.carry.run.Goals as goal

-- ---- a copy

pub returns-in-Copy-clause-aborted : goal.returns-in-Copy-clause-aborted
returns-in-Copy-clause-aborted g c = λ code is. (c.copy_tree.ensures.histories.aborted code is, c.copy_tree.ensures.links.aborted code is)

pub returns-in-Copy-clause-complete : goal.returns-in-Copy-clause-complete
returns-in-Copy-clause-complete g c =
    let e = c.copy_tree.ensures in
    let parts = c.args.parts in
    let left = c.copy_tree.result in
    let before = g.D.Depot.state parts.depot in
    let listing = first_told g.S.Source.listing parts.sources.items in
    let refused : (kind : RefusedKind) → left.status ≡ Refused kind → IfSome (Some c.args.transfer) (λ t. IsTransferCause g.N.Run.told t listing before.told kind) = λ kind is. subst
    (λ (t : Transfer). IfSome (Some t) (λ u. IsTransferCause g.N.Run.told u listing before.told kind)) (sym c.in-Copy.is) (e.refused kind is) in
    completes g.S.Source.faults g.D.Depot.state g.C.Dial.faults g.A.Accept.faults g.N.Run.told (Some c.args.transfer) listing before.told left.status parts.sources.items left.sources.items before left.depot
    parts.dialers.items left.dialers.items parts.acceptors.items left.acceptors.items left.sender.items left.receiver.items (g.O.Sink.faults c.args.out.now) (g.O.Sink.faults c.copy_tree.new.out)
    e.used e.sources.fault e.depot.fault e.links.link_fault e.histories refused e.out_fault

-- ---- a send

pub returns-in-Send-clause-depot : goal.returns-in-Send-clause-depot
returns-in-Send-clause-depot g c =
    let e = c.send_tree.ensures in
    let before = g.D.Depot.state c.args.parts.depot in
    subst (λ (t : Transfer). LeavesDepot g.D.Depot.state (stored_run (Some t) g.N.Run.told) before c.send_tree.result.status c.send_tree.result.depot) (sym c.in-Send.is)
    (unused_depot g.D.Depot.state c.args.parts.depot c.send_tree.result.status c.send_tree.result.depot e.depot c.requires.spots e.diskless)

pub returns-in-Send-clause-acceptors : goal.returns-in-Send-clause-acceptors
returns-in-Send-clause-acceptors g c =
    let parts = c.args.parts in
    let served = subst (λ (t : Transfer). IsServed t (length parts.sources.items) (length parts.dialers.items) (length parts.acceptors.items)) c.in-Send.is c.requires.served in
    none_back _ parts.acceptors.items c.send_tree.result.acceptors.items served.2 (ap (λ x. x.items) c.send_tree.ensures.acceptors)

pub returns-in-Send-clause-aborted : goal.returns-in-Send-clause-aborted
returns-in-Send-clause-aborted g c = λ code is. (c.send_tree.ensures.histories.aborted code is, c.send_tree.ensures.links.aborted code is)

pub returns-in-Send-clause-complete : goal.returns-in-Send-clause-complete
returns-in-Send-clause-complete g c =
    let e = c.send_tree.ensures in
    let parts = c.args.parts in
    let left = c.send_tree.result in
    let before = g.D.Depot.state parts.depot in
    let listing = first_told g.S.Source.listing parts.sources.items in
    let refused : (kind : RefusedKind) → left.status ≡ Refused kind → IfSome (Some c.args.transfer) (λ t. IsTransferCause g.N.Run.told t listing before.told kind) = λ kind is. subst
    (λ (t : Transfer). IfSome (Some t) (λ u. IsTransferCause g.N.Run.told u listing before.told kind)) (sym c.in-Send.is) (e.refused kind is) in
    completes g.S.Source.faults g.D.Depot.state g.C.Dial.faults g.A.Accept.faults g.N.Run.told (Some c.args.transfer) listing before.told left.status parts.sources.items left.sources.items before left.depot
    parts.dialers.items left.dialers.items parts.acceptors.items left.acceptors.items left.sender.items left.receiver.items (g.O.Sink.faults c.args.out.now) (g.O.Sink.faults c.send_tree.new.out)
    e.used e.sources.fault (λ is. absurd (e.diskless is)) e.links.link_fault e.histories refused e.out_fault

-- ---- a receiver

pub returns-in-Recv-clause-sources : goal.returns-in-Recv-clause-sources
returns-in-Recv-clause-sources g c =
    let parts = c.args.parts in
    let served = subst (λ (t : Transfer). IsServed t (length parts.sources.items) (length parts.dialers.items) (length parts.acceptors.items)) c.in-Recv.is c.requires.served in
    no_sources g.S.Source.told g.S.Source.faults g.S.Source.slips g.N.Run.told c.recv_tree.result.status parts.sources.items c.recv_tree.result.sources.items served.0
    (ap (λ x. x.items) c.recv_tree.ensures.sources) c.recv_tree.ensures.sourceless

pub returns-in-Recv-clause-dialers : goal.returns-in-Recv-clause-dialers
returns-in-Recv-clause-dialers g c =
    let parts = c.args.parts in
    let served = subst (λ (t : Transfer). IsServed t (length parts.sources.items) (length parts.dialers.items) (length parts.acceptors.items)) c.in-Recv.is c.requires.served in
    none_back _ parts.dialers.items c.recv_tree.result.dialers.items served.1 (ap (λ x. x.items) c.recv_tree.ensures.dialers)

pub returns-in-Recv-clause-aborted : goal.returns-in-Recv-clause-aborted
returns-in-Recv-clause-aborted g c = λ code is. (c.recv_tree.ensures.histories.aborted code is, c.recv_tree.ensures.links.aborted code is)

pub returns-in-Recv-clause-complete : goal.returns-in-Recv-clause-complete
returns-in-Recv-clause-complete g c =
    let e = c.recv_tree.ensures in
    let parts = c.args.parts in
    let left = c.recv_tree.result in
    let before = g.D.Depot.state parts.depot in
    let listing = first_told g.S.Source.listing parts.sources.items in
    let refused : (kind : RefusedKind) → left.status ≡ Refused kind → IfSome (Some c.args.transfer) (λ t. IsTransferCause g.N.Run.told t listing before.told kind) = λ kind is. subst
    (λ (t : Transfer). IfSome (Some t) (λ u. IsTransferCause g.N.Run.told u listing before.told kind)) (sym c.in-Recv.is) (e.refused kind is) in
    completes g.S.Source.faults g.D.Depot.state g.C.Dial.faults g.A.Accept.faults g.N.Run.told (Some c.args.transfer) listing before.told left.status parts.sources.items left.sources.items before left.depot
    parts.dialers.items left.dialers.items parts.acceptors.items left.acceptors.items left.sender.items left.receiver.items (g.O.Sink.faults c.args.out.now) (g.O.Sink.faults c.recv_tree.new.out)
    e.used (λ is. absurd (e.sourceless is)) e.depot.fault e.links.link_fault e.histories refused e.out_fault
