-- What a transfer leaves where no lane runs.
use Rattle.std.proofs.Common.{◌≡◌, ℕ, List, [], Option, Result, Err, refl, sym, ap, ◌∙◌, subst}
use Rattle.std.specs.Result.{IsErrOf}
use Rattle.wdt_tree.specs.declared.entry.Entry.{Entry}
use Rattle.wdt_sender_fsm.specs.declared.answers.RefusedKind.{RefusedKind}
use Rattle.wdt_sender_fsm.specs.declared.events.SendEvent.{SendEvent}
use Rattle.wdt_sender_fsm.specs.Legal.{IsLegal-none as sent_none}
use Rattle.wdt_receiver_fsm.specs.declared.events.RecvEvent.{RecvEvent}
use Rattle.wdt_receiver_fsm.specs.Legal.{IsLegal-none as got_none, Terms}
use Rattle.wdt_yard.specs.Turns.{IsLegalOfSome}
use Rattle.wdt_tool.specs.Causes.{IsFailureEnd, IsListedFail, IsRefusalEnd}
use Rattle.wdt_tool.specs.Refusals.{IsListingCause}
use Rattle.wdt_tool.specs.declared.fail.CommandFail.{CommandFail}
use Rattle.wdt_tool.specs.declared.fail.CommandFail.TheVariants as fails
use Rattle.wdt_tool.specs.declared.status.Status.{Status}
use Rattle.wdt_tool.specs.declared.status.Status.TheVariants.{Done, Usage, SourceFault, DiskFault, LinkFault, Peer, Aborted, Refused, OutFault, NoMemory}
use Rattle.wdt_sending.specs.Leaves.{IsLegalBySome, LeavesHistories}

-- ---- how it ends

-- a status that stands for a failure: the source's, the disk's or a refusal, each with its cause, or want of memory
abbrev pub EndsFor : (source disk : Type 0) → (RefusedKind → Type 0) → Status → Type 0
EndsFor source disk refused SourceFault = source
EndsFor source disk refused DiskFault = disk
EndsFor source disk refused (Refused kind) = refused kind
EndsFor source disk refused NoMemory = Unit {0}
EndsFor source disk refused other = ⊥

pub refused_for : (source disk : Type 0) (refused : RefusedKind → Type 0) (kind : RefusedKind) (status : Status) → IsRefusalEnd kind status → refused kind → EndsFor source disk refused status
refused_for source disk refused kind Done end cause = absurd end
refused_for source disk refused kind Usage end cause = absurd end
refused_for source disk refused kind SourceFault end cause = absurd end
refused_for source disk refused kind DiskFault end cause = absurd end
refused_for source disk refused kind LinkFault end cause = absurd end
refused_for source disk refused kind (Peer peer) end cause = absurd end
refused_for source disk refused kind (Aborted code) end cause = absurd end
refused_for source disk refused kind (Refused other) end cause = subst refused (sym end) cause
refused_for source disk refused kind OutFault end cause = absurd end
refused_for source disk refused kind NoMemory end cause = tt

-- a listing that isn't taken, where the source failed for a reason
pub unlisted_for : {T : Type 0} (result : Result T CommandFail) (failure : CommandFail) (status : Status) (listing : Option (List Entry)) (source : Type 0) → result ≡ Err failure
    → IsFailureEnd failure status → IsListedFail listing failure
    → (IsErrOf result fails.Source → source) → EndsFor source ⊥ (IsListingCause listing) status
unlisted_for result fails.Source status listing source is end cause lost = subst (EndsFor source ⊥ (IsListingCause listing)) (sym end) (lost is)
unlisted_for result fails.Disk status listing source is end cause lost = absurd cause
unlisted_for result (fails.Refused kind) status listing source is end cause lost = refused_for source ⊥ (IsListingCause listing) kind status end cause
unlisted_for result fails.NoMemory status listing source is end cause lost = subst (EndsFor source ⊥ (IsListingCause listing)) (sym end) tt

-- ---- histories

-- one in which nothing happened is legal
pub none_sent : (h : List SendEvent) → h ≡ [] → IsLegalOfSome h
none_sent h is = let none : IsLegalOfSome [] = record { lanes = 0; planned = []; legal = sent_none 0 [] } in subst IsLegalOfSome (sym is) none

pub none_received : (g : List RecvEvent) → g ≡ [] → IsLegalBySome g
none_received g is = let terms : Terms = record { lanes = 0; opening = []; known = []; conns = [] } in subst IsLegalBySome (sym is) (terms, got_none terms)

-- nothing happened, by a status that is no word of the other end
pub early_histories : (source disk : Type 0) (refused : RefusedKind → Type 0) (status : Status) (h : List SendEvent) (g : List RecvEvent) → EndsFor source disk refused status → h ≡ [] → g ≡ []
    → LeavesHistories h g status
early_histories source disk refused status h g end is far =
    record {
      sent = none_sent h is;
      received = none_received g far;
      peer = λ kind e. absurd (subst (EndsFor source disk refused) e end);
      aborted = λ code e. absurd (subst (EndsFor source disk refused) e end);
    }
