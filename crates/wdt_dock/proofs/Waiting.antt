-- The choice of an idle lane: the last word, the finish, or closed lanes to tell of and to wait.
use Rattle.std.proofs.Common.{◌≡◌, ℕ, ◌<◌, Bool, true, false, List, [], ◌∷◌, length, Option, refl, sym, ap, ◌∙◌, subst, arith}
use Rattle.wdt_units.specs.declared.numbers.Lane.{Lane}
use Rattle.wdt_depot.specs.Programs.{Drive}
use Rattle.wdt_depot.specs.State.{Counts, State}
use Rattle.wdt_log.specs.OpenLog.{OpenLog}
use Rattle.wdt_writer.specs.PlainWriter.{PlainWriter}
use Rattle.wdt_receiver_fsm.specs.declared.acts.RecvAct.{RecvAct}
use Rattle.wdt_receiver_fsm.specs.declared.events.RecvEvent.{RecvEvent}
use Rattle.wdt_receiver_fsm.specs.declared.events.RecvEvent.TheVariants as events
use Rattle.wdt_receiver_fsm.specs.declared.states.RecvState.TheVariants as states
use Rattle.wdt_receiver_fsm.specs.Logging.{log_after}
use Rattle.wdt_receiver_fsm.specs.Plan.{EndsIn, PlanRan, ends}
use Rattle.wdt_receiver_fsm.specs.PlainReceiver.{PlainReceiver, can_finish, goes, has_finish, lane_at, noted, untold_at}
use Rattle.wdt_receiver_fsm.specs.Ready.{is_closed, is_ready}
use Rattle.wdt_receiver_fsm.specs.ReceiverHistory.{EndPast, RecvPast, end_of, end_of-append, past_of-append}
use Rattle.wdt_receiver_fsm.specs.Sets.{set_of}
use Rattle.wdt_receiver_fsm.specs.Turn.{Step, finish_plan, idle_by, says_done, tells_by, waits_by}
use Rattle.wdt_receiver_fsm.proofs.ForCallers.{ends_as, plan_as, plan_ends}
use Rattle.wdt_receiver_fsm.specs.declared.idling.Idling.{Idling}
use Rattle.wdt_receiver_fsm.specs.declared.idling.Idling.TheVariants as ways
use Rattle.wdt_dock.specs.Desk.{AreBooks, plain_of}
use Rattle.wdt_receiver_fsm.specs.End.{EndView}
use Rattle.wdt_receiver_fsm.specs.Idling.{choice_plan, idled, idled_history, row_of_way}
use Rattle.wdt_dock.proofs.Finishing.{idled_entries, idled_loses, idled_stays}
use Rattle.wdt_dock.proofs.Goodness.{files_behind_are}
use Rattle.wdt_dock.proofs.Keeping.{LosesNone, Stays, loses_lane, stays_going, stays_more, stays_noted}

-- ---- what the history says as the lane chooses

idled_finish : (way : Idling) (g : List RecvEvent) (l : Lane) → (end_of (idled_history way g l)).has_finish ≡ (end_of g).has_finish
idled_finish ways.Done g l = ap (λ (p : EndPast). p.has_finish) (end_of-append g (events.Idle l ∷ []))
idled_finish ways.WaitWritten g l = refl
idled_finish ways.Woken g l = refl

pub idled_closed : (way : Idling) (g : List RecvEvent) (l : Lane) (k : ℕ) → is_closed (idled_history way g l) k ≡ is_closed g k
idled_closed ways.Done g l k = ap (λ (p : RecvPast). p.is_closed) (past_of-append g (events.Idle l ∷ []) k)
idled_closed ways.WaitWritten g l k = refl
idled_closed ways.Woken g l k = refl

module _ (e : EndView) (log : OpenLog) (w : PlainWriter) (way : Idling) (l : Lane) (within : l.0 < length e.lanes) where
  abbrev chosen : PlainReceiver
  chosen = idled way (plain_of e log w) l

  finish_is : has_finish chosen ≡ (end_of e.history).has_finish
  finish_is = ap (λ (g : List RecvEvent). (end_of g).has_finish) (idled_entries way (plain_of e log w) l) ∙ idled_finish way e.history l

  ready_is : can_finish chosen ≡ is_ready (length e.lanes) (idled_history way e.history l)
  ready_is =
      ap (λ (n : ℕ). is_ready n chosen.history) (idled_stays way (plain_of e log w) l within).lanes
      ∙ ap (λ (g : List RecvEvent). is_ready (length e.lanes) g) (idled_entries way (plain_of e log w) l)

  -- the three choices
  pub plan_done : (end_of e.history).has_finish ≡ true → choice_plan way (plain_of e log w) l ≡ ends (says_done chosen l)
  plan_done come = ap (λ (b : Bool). idle_by e.history chosen l (row_of_way way) b (can_finish chosen)) (finish_is ∙ come)

  pub plan_finish : (end_of e.history).has_finish ≡ false → is_ready (length e.lanes) (idled_history way e.history l) ≡ true → choice_plan way (plain_of e log w) l ≡ finish_plan e.history chosen l (row_of_way way)
  plan_finish first ready =
      ap (λ (b : Bool). idle_by e.history chosen l (row_of_way way) b (can_finish chosen)) (finish_is ∙ first)
      ∙ ap (λ (b : Bool). idle_by e.history chosen l (row_of_way way) false b) (ready_is ∙ ready)

  pub plan_tells : (end_of e.history).has_finish ≡ false → is_ready (length e.lanes) (idled_history way e.history l) ≡ false → choice_plan way (plain_of e log w) l ≡ ends (tells_by chosen l (untold_at chosen l.0))
  plan_tells first unready =
      ap (λ (b : Bool). idle_by e.history chosen l (row_of_way way) b (can_finish chosen)) (finish_is ∙ first)
      ∙ ap (λ (b : Bool). idle_by e.history chosen l (row_of_way way) false b) (ready_is ∙ unready)

  -- ---- what stays

  done_stays : Stays (plain_of e log w) (says_done chosen l).1
  done_stays = (let one = idled_stays way (plain_of e log w) l within in stays_more (plain_of e log w) chosen (says_done chosen l).1 one (stays_going chosen l.0 states.SendDone (subst (λ (n : ℕ). l.0 < n) (sym one.lanes) within)))

  tells_stays : (us : List ℕ) → Stays (plain_of e log w) (tells_by chosen l us).1
  tells_stays us = (let one = idled_stays way (plain_of e log w) l within in stays_more (plain_of e log w) chosen (tells_by chosen l us).1 one (go us (subst (λ (n : ℕ). l.0 < n) (sym one.lanes) within)))
    where
      waits : (b : Bool) → l.0 < length chosen.lanes → Stays chosen (waits_by chosen l b).1
      waits true here = stays_going chosen l.0 states.WaitForFinish here
      waits false here = stays_going chosen l.0 states.SendWait here

      go : (us : List ℕ) → l.0 < length chosen.lanes → Stays chosen (tells_by chosen l us).1
      go [] here = waits (lane_at chosen l.0).has_waited here
      go (q ∷ qs) here = (let told = noted chosen (events.Told l (set_of (q ∷ qs)) ∷ []) in stays_more chosen told (goes told l.0 states.SendGlobalCheckpoint) (stays_noted chosen (events.Told l (set_of (q ∷ qs))) (λ k b. refl)) (stays_going told l.0 states.SendGlobalCheckpoint here))

  done_loses : LosesNone (plain_of e log w) (says_done chosen l).1
  done_loses = λ here. loses_lane chosen l.0 record (lane_at chosen l.0) { state = states.SendDone } (idled_loses way (plain_of e log w) l here)

  tells_loses : (us : List ℕ) → LosesNone (plain_of e log w) (tells_by chosen l us).1
  tells_loses us = λ here. go us (idled_loses way (plain_of e log w) l here)
    where
      waits : (b : Bool) → LosesNone chosen (waits_by chosen l b).1
      waits true = loses_lane chosen l.0 record (lane_at chosen l.0) { state = states.WaitForFinish }
      waits false = loses_lane chosen l.0 record (lane_at chosen l.0) { state = states.SendWait }

      go : (us : List ℕ) → LosesNone chosen (tells_by chosen l us).1
      go [] = waits (lane_at chosen l.0).has_waited
      go (q ∷ qs) = (let told = noted chosen (events.Told l (set_of (q ∷ qs)) ∷ []) in loses_lane told l.0 record (lane_at told l.0) { state = states.SendGlobalCheckpoint })

  -- ---- the last word

  module _ (f g : EndView) (act : RecvAct) (idle : chosen ≡ plain_of f log w) where
    module _ (come : (end_of e.history).has_finish ≡ true) (said : says_done (plain_of f log w) l ≡ (act, plain_of g log w)) where
      done_is : says_done chosen l ≡ (act, plain_of g log w)
      done_is = ap (λ (t : PlainReceiver). says_done t l) idle ∙ said

      pub done_turns : (Fails : Type 0) → EndsIn Fails (choice_plan way (plain_of e log w) l) (act, plain_of g log w)
      done_turns Fails = ends_as Fails (choice_plan way (plain_of e log w) l) (ends (says_done chosen l)) (act, plain_of g log w) (plan_done come) (sym done_is)

      pub done_ran : (a : Option Drive) → PlanRan (choice_plan way (plain_of e log w) l) (act, plain_of g log w) a a
      done_ran a = plan_as (choice_plan way (plain_of e log w) l) (ends (says_done chosen l)) (act, plain_of g log w) a a (plan_done come) (plan_ends (act, plain_of g log w) (says_done chosen l) a (sym done_is))

      pub done_kept : Stays (plain_of e log w) (plain_of g log w)
      done_kept = subst (λ (y : Step). Stays (plain_of e log w) y.1) done_is done_stays

      pub done_sound : LosesNone (plain_of e log w) (plain_of g log w)
      done_sound = subst (λ (y : Step). LosesNone (plain_of e log w) y.1) done_is done_loses

    module _ (first : (end_of e.history).has_finish ≡ false) (unready : is_ready (length e.lanes) (idled_history way e.history l) ≡ false) (said : tells_by (plain_of f log w) l (untold_at (plain_of f log w) l.0) ≡ (act, plain_of g log w)) where
      tells_is : tells_by chosen l (untold_at chosen l.0) ≡ (act, plain_of g log w)
      tells_is = ap (λ (t : PlainReceiver). tells_by t l (untold_at t l.0)) idle ∙ said

      pub tells_turns : (Fails : Type 0) → EndsIn Fails (choice_plan way (plain_of e log w) l) (act, plain_of g log w)
      tells_turns Fails = ends_as Fails (choice_plan way (plain_of e log w) l) (ends (tells_by chosen l (untold_at chosen l.0))) (act, plain_of g log w) (plan_tells first unready) (sym tells_is)

      pub tells_ran : (a : Option Drive) → PlanRan (choice_plan way (plain_of e log w) l) (act, plain_of g log w) a a
      tells_ran a =
          plan_as (choice_plan way (plain_of e log w) l) (ends (tells_by chosen l (untold_at chosen l.0))) (act, plain_of g log w) a a (plan_tells first unready)
          (plan_ends (act, plain_of g log w) (tells_by chosen l (untold_at chosen l.0)) a (sym tells_is))

      pub tells_kept : Stays (plain_of e log w) (plain_of g log w)
      tells_kept = subst (λ (y : Step). Stays (plain_of e log w) y.1) tells_is (tells_stays (untold_at chosen l.0))

      pub tells_sound : LosesNone (plain_of e log w) (plain_of g log w)
      tells_sound = subst (λ (y : Step). LosesNone (plain_of e log w) y.1) tells_is (tells_loses (untold_at chosen l.0))

-- nothing more is to be logged behind it
pub same_behind : (e g : EndView) (log : OpenLog) (w : PlainWriter) → AreBooks log w → (log_after (plain_of g log w)).files ≡ (log_after (plain_of e log w)).files
same_behind e g log w books = files_behind_are g log w books ∙ sym (files_behind_are e log w books)

-- no call was made
pub counts_same : (G : Type 0) (s : State) → (G → ⊥) → Counts G s s
counts_same G s none = record {
  faults = omega arith;
  own = omega arith;
  own_then = refl;
  slips = omega arith;
  rose = λ lost. absurd (none lost);
  cause = λ lost. absurd (none lost);
  struck = λ struck. refl;
  fine = λ fine. (refl, refl);
}
