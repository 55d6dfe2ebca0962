-- For what a copy is refused.
use Rattle.std.proofs.Common.{◌≡◌, ◌⊎◌, inl, inr, ℕ, false, List, Option, subst}
use Rattle.wdt_units.specs.declared.numbers.LaneSet.{LaneSet}
use Rattle.wdt_tree.specs.Told.{ToldRun}
use Rattle.wdt_tree.specs.declared.entry.Entry.{Entry}
use Rattle.wdt_depot.specs.State.{State}
use Rattle.wdt_sender_fsm.specs.declared.answers.EndAnswer.{EndAnswer}
use Rattle.wdt_sender_fsm.specs.declared.answers.RefusedKind.{RefusedKind}
use Rattle.wdt_sender_fsm.specs.declared.events.SendEvent.{SendEvent}
use Rattle.wdt_receiver_fsm.specs.declared.events.RecvEvent.{RecvEvent}
use Rattle.wdt_receiver_fsm.specs.Answered.{IsHeard}
use Rattle.wdt_recv_lanes.specs.Kept.{Started}
use Rattle.wdt_tool.specs.declared.status.Status.{Status}
use Rattle.wdt_tool.specs.declared.status.Status.TheVariants.{Refused, NoMemory}
use Rattle.wdt_sending.specs.Causes.{IsPlanCause}
use Rattle.wdt_sending.specs.Judging.{has_some}
use Rattle.wdt_sending.specs.Sending.{begun_of}
use Rattle.wdt_sending.proofs.ForCallers.{IsAnswerOf, plan_cause}
use Rattle.wdt_cli.proofs.Ends.{EndsOr, answer_behind}

pub refused_left : {D : Type 0} {state : D → State} {run : Option ToldRun} (manifest : List Entry) (block : ℕ) {start : Started} {lost cut alarmed far_cut far_alarmed : LaneSet}
    {h : List SendEvent} {depot : Option D} {g : List RecvEvent}
    {status : Status} → EndsOr state run (begun_of manifest block) start lost cut alarmed far_cut far_alarmed h depot g status → (kind : RefusedKind) → status ≡ Refused kind
    → IsPlanCause run block kind
refused_left manifest block (inl starved) kind is = absurd (cc)
refused_left {run = run} manifest block {lost = lost} {cut = cut} {alarmed = alarmed} {far_cut = far_cut} {far_alarmed = far_alarmed} (inr e) kind is = go (answer_behind e (Refused kind) is) where
  go : IsAnswerOf (has_some lost) (has_some cut) (has_some alarmed) e.sent.sent.answer (Refused kind) ⊎ IsAnswerOf false (has_some far_cut) (has_some far_alarmed) e.received.received.answer
      (Refused kind) → IsPlanCause run block kind
  go (inl near) = plan_cause manifest block e.sent kind near
  go (inr far) = absurd (subst (λ (x : EndAnswer). IsHeard x e.received.received.history) far e.received.heard)
