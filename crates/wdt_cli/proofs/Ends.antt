-- Both ends of a copy, and what of them a status comes of.
use Rattle.std.proofs.Common.{◌≡◌, ◌⊎◌, inl, inr, Bool, false, List, length, Option, Some, sym, ap, ◌∙◌, subst, ℕ}
use Rattle.wdt_units.specs.Tree.{File}
use Rattle.wdt_units.specs.declared.numbers.LaneSet.{LaneSet}
use Rattle.wdt_tree.specs.Told.{ToldRun}
use Rattle.wdt_depot.specs.State.{State}
use Rattle.wdt_sender_fsm.specs.declared.answers.EndAnswer.TheVariants as answers
use Rattle.wdt_sender_fsm.specs.declared.events.SendEvent.{SendEvent}
use Rattle.wdt_receiver_fsm.specs.declared.events.RecvEvent.{RecvEvent}
use Rattle.wdt_lanes.specs.Kept.{Begun}
use Rattle.wdt_recv_lanes.specs.Kept.{Started}
use Rattle.wdt_tool.specs.declared.status.Status.{Status}
use Rattle.wdt_tool.specs.declared.status.Status.TheVariants.{Done, Usage, OutFault, NoMemory}
use Rattle.wdt_sending.specs.Causes.{BothEnded, ReceiverRan, SenderRan}
use Rattle.wdt_sending.specs.Judging.{first_of, has_some, status_of}
use Rattle.wdt_sending.specs.Sending.{SenderEnds, SenderLeaves, SenderTaken}
use Rattle.wdt_sending.proofs.ForCallers.{IsAnswerOf, both_done, either, first_starved, never_for, second_starved, sender_ran}
use Rattle.wdt_cli.specs.Sides.{ReceiverEnds, ReceiverLeaves, ReceiverTaken}

-- both ends were taken, and the status is the first of what they come to
pub record Ends {D : Type 0} (state : D → State) (run : Option ToldRun) (begun : Begun) (start : Started) (lost cut alarmed far_cut far_alarmed : LaneSet)
    (h : List SendEvent) (depot : Option D) (g : List RecvEvent) (status : Status) : Type 0 where
  pub near : Status
  pub far : Status
  pub sent : SenderTaken run begun lost cut alarmed h near
  pub received : ReceiverTaken state run start far_cut far_alarmed depot g far
  pub judged : status ≡ first_of near far

-- they were, or memory ran out
abbrev pub EndsOr : {D : Type 0} → (D → State) → Option ToldRun → Begun → Started → (lost cut alarmed far_cut far_alarmed : LaneSet) → List SendEvent → Option D → List RecvEvent → Status → Type 0
EndsOr state run begun start lost cut alarmed far_cut far_alarmed h depot g status = (status ≡ NoMemory) ⊎ Ends state run begun start lost cut alarmed far_cut far_alarmed h depot g status

pub both_of : {D : Type 0} (state : D → State) (run : Option ToldRun) (begun : Begun) (start : Started) (lost cut alarmed far_cut far_alarmed : LaneSet) (h : List SendEvent) (depot : Option D)
    (g : List RecvEvent)
    (s t status : Status) → SenderEnds run begun lost cut alarmed h s → ReceiverEnds state run start far_cut far_alarmed depot g t → status ≡ first_of s t
    → EndsOr state run begun start lost cut alarmed far_cut far_alarmed h depot g status
both_of state run begun start lost cut alarmed far_cut far_alarmed h depot g s t status (inl none) received is = inl (is ∙ ap (λ (x : Status). first_of x t) none.0 ∙ first_starved t)
both_of state run begun start lost cut alarmed far_cut far_alarmed h depot g s t status (inr taken) (inl none) is = inl (is ∙ ap (λ (x : Status). first_of s x) none.0 ∙ second_starved s)
both_of state run begun start lost cut alarmed far_cut far_alarmed h depot g s t status (inr taken) (inr got) is = inr record { near = s; far = t; sent = taken; received = got; judged = is }

-- the same of what either left
pub ends_of : {S C D A : Type 0} {told : S → Option (List File)} {source_faults source_slips : S → ℕ} {faults alarms out mark : C → ℕ} {state : D → State}
    {far_faults far_alarms far_out far_mark : A → ℕ}
    {run : Option ToldRun} {begun : Begun} {start : Started} {sources more_sources : List S} {dialers more_dialers : List C} {acceptors more_acceptors : List A} {h : List SendEvent}
    {depot : Option D} {g : List RecvEvent}
    {s t status : Status} (sent : SenderLeaves told source_faults source_slips faults alarms out mark run begun sources more_sources dialers more_dialers h s)
    (received : ReceiverLeaves state far_faults far_alarms far_out far_mark run start acceptors more_acceptors depot g t) → status ≡ first_of s t
    → EndsOr state run begun start sent.lost sent.cut sent.alarmed received.cut received.alarmed h depot g status
ends_of {state = state} {run = run} {begun = begun} {start = start} {h = h} {depot = depot} {g = g} {s = s} {t = t} {status = status} sent received is =
    both_of state run begun start sent.lost sent.cut sent.alarmed received.cut received.alarmed h depot g s t status sent.ended received.ended is

-- the status is the first of what their answers come to
pub first_is : {D : Type 0} {state : D → State} {run : Option ToldRun} {begun : Begun} {start : Started} {lost cut alarmed far_cut far_alarmed : LaneSet} {h : List SendEvent} {depot : Option D}
    {g : List RecvEvent}
    {status : Status} (e : Ends state run begun start lost cut alarmed far_cut far_alarmed h depot g status)
    → status ≡ first_of (status_of (has_some lost) (has_some cut) (has_some alarmed) e.sent.sent.answer) (status_of false (has_some far_cut) (has_some far_alarmed) e.received.received.answer)
first_is {lost = lost} {cut = cut} {alarmed = alarmed} e =
    e.judged ∙ ap (λ (x : Status). first_of x e.far) e.sent.judged ∙ ap (λ (y : Status). first_of (status_of (has_some lost) (has_some cut) (has_some alarmed) e.sent.sent.answer) y) e.received.judged

-- the answer of one of them that the status comes of
pub answer_behind : {D : Type 0} {state : D → State} {run : Option ToldRun} {begun : Begun} {start : Started} {lost cut alarmed far_cut far_alarmed : LaneSet} {h : List SendEvent}
    {depot : Option D} {g : List RecvEvent}
    {status : Status} (e : Ends state run begun start lost cut alarmed far_cut far_alarmed h depot g status) (s : Status) → status ≡ s
    → IsAnswerOf (has_some lost) (has_some cut) (has_some alarmed) e.sent.sent.answer s ⊎ IsAnswerOf false (has_some far_cut) (has_some far_alarmed) e.received.received.answer s
answer_behind {lost = lost} {cut = cut} {alarmed = alarmed} {far_cut = far_cut} {far_alarmed = far_alarmed} e s is =
    either (has_some lost) (has_some cut) (has_some alarmed) e.sent.sent.answer false (has_some far_cut) (has_some far_alarmed) e.received.received.answer s (sym (first_is e) ∙ is)

-- a copy that is done is done at the receiver
pub receiver_done : {D : Type 0} {state : D → State} {run : Option ToldRun} {begun : Begun} {start : Started} {lost cut alarmed far_cut far_alarmed : LaneSet} {h : List SendEvent}
    {depot : Option D} {g : List RecvEvent}
    {status : Status} (e : Ends state run begun start lost cut alarmed far_cut far_alarmed h depot g status) → status ≡ Done → e.received.received.answer ≡ answers.Done
receiver_done {lost = lost} {cut = cut} {alarmed = alarmed} {far_cut = far_cut} {far_alarmed = far_alarmed} e is =
    (both_done (has_some lost) (has_some cut) (has_some alarmed) e.sent.sent.answer false (has_some far_cut) (has_some far_alarmed) e.received.received.answer (sym (first_is e) ∙ is)).1

-- what both ends come to is neither of these
pub not_usage : {D : Type 0} {state : D → State} {run : Option ToldRun} {begun : Begun} {start : Started} {lost cut alarmed far_cut far_alarmed : LaneSet} {h : List SendEvent} {depot : Option D}
    {g : List RecvEvent}
    {status : Status} → EndsOr state run begun start lost cut alarmed far_cut far_alarmed h depot g status → status ≡ Usage → ⊥
not_usage (inl starved) is = cc
not_usage {lost = lost} {cut = cut} {alarmed = alarmed} {far_cut = far_cut} {far_alarmed = far_alarmed} (inr e) is =
    never_for (has_some lost) (has_some cut) (has_some alarmed) e.sent.sent.answer false (has_some far_cut) (has_some far_alarmed) e.received.received.answer (inl (answer_behind e Usage is))

pub not_out : {D : Type 0} {state : D → State} {run : Option ToldRun} {begun : Begun} {start : Started} {lost cut alarmed far_cut far_alarmed : LaneSet} {h : List SendEvent} {depot : Option D}
    {g : List RecvEvent}
    {status : Status} → EndsOr state run begun start lost cut alarmed far_cut far_alarmed h depot g status → status ≡ OutFault → ⊥
not_out (inl starved) is = cc
not_out {lost = lost} {cut = cut} {alarmed = alarmed} {far_cut = far_cut} {far_alarmed = far_alarmed} (inr e) is =
    never_for (has_some lost) (has_some cut) (has_some alarmed) e.sent.sent.answer false (has_some far_cut) (has_some far_alarmed) e.received.received.answer (inr (answer_behind e OutFault is))

-- ---- how they ended

-- a receiving end
pub receiver_ran : {D : Type 0} {state : D → State} {run : Option ToldRun} {start : Started} {cut alarmed : LaneSet} {depot : Option D} {g : List RecvEvent} {status : Status}
    (t : ReceiverTaken state run start cut alarmed depot g status) → ReceiverRan g status
receiver_ran {cut = cut} {alarmed = alarmed} t =
    record {
      received = t.received;
      is_receiver = t.is_receiver;
      received_is = t.noted;
      done = t.done;
      heard = t.heard;
      met = record { lost = false; cut = has_some cut; alarmed = has_some alarmed };
      judged = t.judged;
    }

-- both, unless memory ran out
pub both_or : {D : Type 0} {state : D → State} {run : Option ToldRun} {begun : Begun} {start : Started} {lost cut alarmed far_cut far_alarmed : LaneSet} {h : List SendEvent} {depot : Option D}
    {g : List RecvEvent}
    {status : Status} (files : ℕ) → files ≡ length begun.manifest → EndsOr state run begun start lost cut alarmed far_cut far_alarmed h depot g status
    → (status ≡ NoMemory) ⊎ BothEnded run files h g status
both_or files counted (inl starved) = inl starved
both_or files counted (inr e) =
    inr record { near = e.near; far = e.far; sent = sender_ran e.sent files counted; received = receiver_ran e.received; judged = e.judged }
