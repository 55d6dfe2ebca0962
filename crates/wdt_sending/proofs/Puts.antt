-- What holds of a status holds of the status behind its lines.
use Rattle.std.proofs.Common.{◌≡◌, ◌⊎◌, inl, inr, ℕ, List, Option, refl, sym, ap, ◌∙◌, subst}
use Rattle.wdt_units.specs.Counts.{Rises}
use Rattle.wdt_units.specs.Tree.{File}
use Rattle.wdt_tree.specs.Told.{ToldRun}
use Rattle.wdt_sender_fsm.specs.declared.events.SendEvent.{SendEvent}
use Rattle.wdt_sender_fsm.specs.declared.peers.PeerKind.TheVariants.{BadFrame}
use Rattle.wdt_receiver_fsm.specs.declared.events.RecvEvent.{RecvEvent}
use Rattle.wdt_tool.specs.declared.status.Status.{Status}
use Rattle.wdt_tool.specs.declared.status.Status.TheVariants.{Done, Usage, SourceFault, DiskFault, LinkFault, Peer, Aborted, Refused, OutFault, NoMemory}
use Rattle.wdt_sending.specs.Leaves.{LeavesHistories, LeavesLinks, LeavesSources}
use Rattle.wdt_sending.specs.Printed.{IsPut, before_lines}

-- what was put behind a status that is known
pub put_as : (status more : Status) (before after : ℕ) (s : Status) → IsPut status more before after → more ≡ s → IsPut status s before after
put_as status more before after s put is = subst (λ (x : Status). IsPut status x before after) is put

pub put_sources : {S : Type 0} {told : S → Option (List File)} {faults slips : S → ℕ} {run : Option ToldRun} {status : Status} {old new : List S} (more : Status) (before after : ℕ)
    → IsPut status more before after
    → LeavesSources told faults slips run status old new → LeavesSources told faults slips run more old new
put_sources {status = status} more before after put left = record { back = left.back; fault = λ is. left.fault (put_as status more before after SourceFault put is) }

pub put_links : {C A : Type 0} {faults alarms : C → ℕ} {far_faults far_alarms : A → ℕ} {status : Status} {dialers more_dialers : List C} {acceptors more_acceptors : List A} (more : Status)
    (before after : ℕ) → IsPut status more before after
    → LeavesLinks faults alarms far_faults far_alarms status dialers more_dialers acceptors more_acceptors
    → LeavesLinks faults alarms far_faults far_alarms more dialers more_dialers acceptors more_acceptors
put_links {status = status} more before after put left =
    record {
      link_fault = λ is. left.link_fault (put_as status more before after LinkFault put is);
      bad_frame = λ at is. left.bad_frame at (put_as status more before after (Peer (BadFrame at)) put is);
      aborted = λ code is. left.aborted code (put_as status more before after (Aborted code) put is);
    }

pub put_histories : {h : List SendEvent} {g : List RecvEvent} {status : Status} (more : Status) (before after : ℕ) → IsPut status more before after → LeavesHistories h g status
    → LeavesHistories h g more
put_histories {status = status} more before after put left =
    record {
      sent = left.sent;
      received = left.received;
      peer = λ kind is. left.peer kind (put_as status more before after (Peer kind) put is);
      aborted = λ code is. left.aborted code (put_as status more before after (Aborted code) put is);
    }

-- the status before its lines, unless memory ran out
before_put : (status more : Status) (before after : ℕ) → IsPut status more before after → (more ≡ NoMemory) ⊎ (status ≡ before_lines more)
before_put status Done before after put = inr put
before_put status Usage before after put = inr put
before_put status SourceFault before after put = inr put
before_put status DiskFault before after put = inr put
before_put status LinkFault before after put = inr put
before_put status (Peer kind) before after put = inr put
before_put status (Aborted code) before after put = inr put
before_put status (Refused kind) before after put = inr put
before_put status OutFault before after put = inr put.0
before_put status NoMemory before after put = inl refl

starved_before : (more : Status) → before_lines more ≡ NoMemory → more ≡ NoMemory
starved_before Done is = cc
starved_before Usage is = is
starved_before SourceFault is = is
starved_before DiskFault is = is
starved_before LinkFault is = is
starved_before (Peer kind) is = is
starved_before (Aborted code) is = is
starved_before (Refused kind) is = is
starved_before OutFault is = cc
starved_before NoMemory is = is

-- what a status comes of, by the status behind its lines
pub ended_put : (ended : Status → Type 0) (status more : Status) (before after : ℕ) → IsPut status more before after → (status ≡ NoMemory) ⊎ ended status → (more ≡ NoMemory) ⊎ ended (before_lines more)
ended_put ended status more before after put ends = go (before_put status more before after put) ends where
  go : (more ≡ NoMemory) ⊎ (status ≡ before_lines more) → (status ≡ NoMemory) ⊎ ended status → (more ≡ NoMemory) ⊎ ended (before_lines more)
  go (inl starved) ends = inl starved
  go (inr is) (inl starved) = inl (starved_before more (sym is ∙ starved))
  go (inr is) (inr e) = inr (subst ended is e)
