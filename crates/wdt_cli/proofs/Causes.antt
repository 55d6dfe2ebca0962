-- Why a transfer isn't done.
use Rattle.std.proofs.Common.{◌≡◌, ◌≢◌, ◌⊎◌, inl, inr, ℕ, ◌<◌, ◌≤◌, List, [], ◌∷◌, length, slice_index_or, Option, Some, None, IfSome, refl, sym, ap, ◌∙◌, subst, arith}
use Rattle.wdt_units.specs.Counts.{Rises, Stands, capped}
use Rattle.wdt_tree.specs.Told.{ToldRun}
use Rattle.wdt_tree.specs.declared.entry.Entry.{Entry}
use Rattle.wdt_depot.specs.Moments.{Told}
use Rattle.wdt_depot.specs.State.{State}
use Rattle.wdt_sender_fsm.specs.declared.answers.RefusedKind.{RefusedKind}
use Rattle.wdt_sender_fsm.specs.declared.events.SendEvent.{SendEvent}
use Rattle.wdt_sender_fsm.specs.declared.peers.PeerKind.{PeerKind}
use Rattle.wdt_receiver_fsm.specs.declared.events.RecvEvent.{RecvEvent}
use Rattle.wdt_tool.specs.Causes.{IsDoneOrStarved}
use Rattle.wdt_tool.specs.declared.status.Status.{Status}
use Rattle.wdt_tool.specs.declared.status.Status.TheVariants.{Done, Usage, SourceFault, DiskFault, LinkFault, Peer, Aborted, Refused, OutFault, NoMemory}
use Rattle.wdt_words.specs.declared.command.Transfer.{Transfer}
use Rattle.wdt_sending.specs.Causes.{HasAbort, HasPeer, HeardNothing, IsTransferCause, IsUnrefused}
use Rattle.wdt_sending.specs.Counted.{NoneRose, SomeRose}
use Rattle.wdt_sending.specs.Leaves.{LeavesHistories, LinkRose}
use Rattle.wdt_cli.specs.Carried.{DepotRose, DepotStands}

not_both : (old new : ℕ) → Rises old new → Stands old new → ⊥
not_both old new rose stood = omega (arith, rose.more stood.below, stood.same)

some_item : {A : Type 0} (xs : List A) (n : ℕ) → n < length xs → A
some_item [] n within = absurd (omega (arith, within))
some_item (x ∷ xs) n within = x

none_rose : {A : Type 0} (count : A → ℕ) (old new : List A) → SomeRose count old new → NoneRose count old new → ⊥
none_rose count old new some none =
    let d = some_item old some.at some.within in
    not_both (count (slice_index_or old some.at d)) (count (slice_index_or new some.at d)) (some.rose d) (none some.at d some.within)

depot_stood : {D : Type 0} (state : D → State) (before : State) (depot : Option D) → DepotRose state before depot → DepotStands state before depot → ⊥
depot_stood state before None rose stood = rose
depot_stood state before (Some d) rose stood = not_both before.faults (state d).faults rose stood

links_stood : {C A : Type 0} (near : C → ℕ) (far : A → ℕ) (dialers more_dialers : List C) (acceptors more_acceptors : List A) → LinkRose near far dialers more_dialers acceptors more_acceptors
    → NoneRose (λ (c : C). capped (near c)) dialers more_dialers → NoneRose (λ (a : A). capped (far a)) acceptors more_acceptors → ⊥
links_stood near far dialers more_dialers acceptors more_acceptors (inl rose) none far_none = none_rose (λ c. capped (near c)) dialers more_dialers rose none
links_stood near far dialers more_dialers acceptors more_acceptors (inr rose) none far_none = none_rose (λ a. capped (far a)) acceptors more_acceptors rose far_none

refused_stood : (run : Option ToldRun) (transfer : Option Transfer) (listing : Option (List Entry)) (told : Option Told) (status : Status) (kind : RefusedKind) → (transfer ≡ None → ⊥)
    → status ≡ Refused kind
    → IfSome transfer (λ t. IsTransferCause run t listing told kind) → IsUnrefused run transfer listing told status → ⊥
refused_stood run None listing told status kind some is cause unrefused = some refl
refused_stood run (Some t) listing told status kind some is cause unrefused = unrefused kind is cause

-- A copy whose status has no cause is done, or memory ran out: each other status has one.
pub done_without : (status : Status) → (status ≡ Usage → ⊥) → (status ≡ SourceFault → ⊥) → (status ≡ DiskFault → ⊥) → (status ≡ LinkFault → ⊥) → ((kind : PeerKind) → status ≡ Peer kind → ⊥)
    → ((code : ℕ) → status ≡ Aborted code → ⊥)
    → ((kind : RefusedKind) → status ≡ Refused kind → ⊥) → (status ≡ OutFault → ⊥) → IsDoneOrStarved status
done_without Done usage source disk link peer aborted refused out = tt
done_without Usage usage source disk link peer aborted refused out = absurd (usage refl)
done_without SourceFault usage source disk link peer aborted refused out = absurd (source refl)
done_without DiskFault usage source disk link peer aborted refused out = absurd (disk refl)
done_without LinkFault usage source disk link peer aborted refused out = absurd (link refl)
done_without (Peer kind) usage source disk link peer aborted refused out = absurd (peer kind refl)
done_without (Aborted code) usage source disk link peer aborted refused out = absurd (aborted code refl)
done_without (Refused kind) usage source disk link peer aborted refused out = absurd (refused kind refl)
done_without OutFault usage source disk link peer aborted refused out = absurd (out refl)
done_without NoMemory usage source disk link peer aborted refused out = tt

-- where no count rose and neither end heard a thing of the other, what has its cause in such isn't so
pub no_source : {S : Type 0} (faults : S → ℕ) (status : Status) (old new : List S) → (status ≡ SourceFault → SomeRose faults old new) → NoneRose faults old new → status ≡ SourceFault → ⊥
no_source faults status old new cause none is = none_rose faults old new (cause is) none

pub no_disk : {D : Type 0} (state : D → State) (status : Status) (before : State) (depot : Option D) → (status ≡ DiskFault → DepotRose state before depot) → DepotStands state before depot
    → status ≡ DiskFault → ⊥
no_disk state status before depot cause stood is = depot_stood state before depot (cause is) stood

pub no_link : {C A : Type 0} (near : C → ℕ) (far : A → ℕ) (status : Status) (dialers more_dialers : List C) (acceptors more_acceptors : List A)
    → (status ≡ LinkFault → LinkRose near far dialers more_dialers acceptors more_acceptors)
    → NoneRose (λ (c : C). capped (near c)) dialers more_dialers → NoneRose (λ (a : A). capped (far a)) acceptors more_acceptors → status ≡ LinkFault → ⊥
no_link near far status dialers more_dialers acceptors more_acceptors cause none far_none is = links_stood near far dialers more_dialers acceptors more_acceptors (cause is) none far_none

pub no_refusal : (run : Option ToldRun) (transfer : Option Transfer) (listing : Option (List Entry)) (told : Option Told) (status : Status) → (transfer ≡ None → ⊥)
    → ((kind : RefusedKind) → status ≡ Refused kind → IfSome transfer (λ t. IsTransferCause run t listing told kind)) → IsUnrefused run transfer listing told status → (kind : RefusedKind)
    → status ≡ Refused kind → ⊥
no_refusal run transfer listing told status some cause unrefused kind is = refused_stood run transfer listing told status kind some is (cause kind is) unrefused

pub no_out : (before after : ℕ) (status : Status) → (status ≡ OutFault → Rises before after) → Stands before after → status ≡ OutFault → ⊥
no_out before after status cause stood is = not_both before after (cause is) stood

-- ---- completeness

-- where none of the causes is, the transfer is done, or memory ran out
pub completes : {S D C A : Type 0} (faults : S → ℕ) (state : D → State) (near : C → ℕ) (far : A → ℕ) (run : Option ToldRun) (transfer : Option Transfer) (listing : Option (List Entry))
    (told : Option Told) (status : Status) (sources more_sources : List S) (before : State) (depot : Option D) (dialers more_dialers : List C) (acceptors more_acceptors : List A)
    (h : List SendEvent) (g : List RecvEvent) (out more_out : ℕ)
    → (status ≡ Usage → ⊥) → (status ≡ SourceFault → SomeRose faults sources more_sources) → (status ≡ DiskFault → DepotRose state before depot)
    → (status ≡ LinkFault → LinkRose near far dialers more_dialers acceptors more_acceptors) → LeavesHistories h g status
    → ((kind : RefusedKind) → status ≡ Refused kind → IfSome transfer (λ t. IsTransferCause run t listing told kind)) → (status ≡ OutFault → Rises out more_out)
    → transfer ≢ None → NoneRose faults sources more_sources → DepotStands state before depot → NoneRose (λ (c : C). capped (near c)) dialers more_dialers
    → NoneRose (λ (a : A). capped (far a)) acceptors more_acceptors → Stands out more_out → HeardNothing h g → IsUnrefused run transfer listing told status → IsDoneOrStarved status
completes faults state near far run transfer listing told status sources more_sources before depot dialers more_dialers acceptors more_acceptors h g out more_out used source disk link left refused written some none stood
    none_near none_far stands heard unrefused =
    done_without status used (no_source faults status sources more_sources source none) (no_disk state status before depot disk stood)
    (no_link near far status dialers more_dialers acceptors more_acceptors link none_near none_far)
    (λ kind is. heard.peer kind (left.peer kind is))
    (λ code is. heard.abort code (left.aborted code is))
    (no_refusal run transfer listing told status some refused unrefused)
    (no_out out more_out status written stands)
