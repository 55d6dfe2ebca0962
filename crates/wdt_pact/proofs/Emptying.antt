-- Behind the finish no block waits, and the sender has a plan, whatever happens.
use Rattle.std.proofs.Common.{◌≡◌, ℕ, ◌<◌, true, false, [], ◌∷◌, length, is_some, subst, sym, ap, ◌∙◌, refl}
use Rattle.wdt_codec.specs.declared.frames.Frame.TheVariants as frames
use Rattle.wdt_sender_fsm.specs.declared.inputs.SendIn.{SendIn}
use Rattle.wdt_sender_fsm.specs.PlainSender.{lane_at, waiting_blocks}
use Rattle.wdt_sender_fsm.specs.Rules.{is_failure}
use Rattle.wdt_sender_fsm.specs.Turn.{send_turn}
use Rattle.wdt_receiver_fsm.specs.declared.events.RecvEvent.TheVariants as events
use Rattle.wdt_receiver_fsm.specs.declared.inputs.RecvIn.TheVariants as inputs
use Rattle.wdt_receiver_fsm.specs.declared.states.RecvState.TheVariants as states
use Rattle.wdt_receiver_fsm.specs.Plan.{EndsIn}
use Rattle.wdt_receiver_fsm.specs.PlainReceiver.{PlainReceiver, can_finish, has_finish}
use Rattle.wdt_receiver_fsm.specs.Ready.{is_ready}
use Rattle.wdt_receiver_fsm.specs.ReceiverHistory.{EndPast, end_of-append}
use Rattle.wdt_receiver_fsm.specs.Sets.{set_of}
use Rattle.wdt_receiver_fsm.specs.Turn.{Put, Step, turn_plan}
use Rattle.wdt_pact.specs.Belongs.{RecvBelongsAt, SendBelongs}
use Rattle.wdt_pact.specs.Conversation.{Conversation}
use Rattle.wdt_pact.specs.Finishing.{Finishing}
use Rattle.wdt_pact.specs.Fitting.{IsSound, lane_of}
use Rattle.wdt_pact.specs.Pairs.{SendHold, SendHas}
use Rattle.wdt_pact.specs.World.{PlainWorld, WorldEvent, Sends, Receives, Cut, Deny, Refuse, happens, number, pair_at, recv_turn}
use Rattle.wdt_pact.proofs.Confirming.{SenderTouches, SoundLanes, point_finish, quiet_idle}
use Rattle.wdt_pact.proofs.Events.{recv_cases, send_cases}
use Rattle.wdt_pact.proofs.Finishing.{no_wait}
use Rattle.wdt_pact.proofs.Planning.{plan_stays}
use Rattle.wdt_pact.proofs.RecvHands.{Hands, holds_input}
use Rattle.wdt_pact.proofs.RecvRows.{ends_in, recv_fares}
use Rattle.wdt_pact.proofs.RecvSeen.{Asks, Closes, Drops, Ends, NowIdle, Point, Seen, Stays, Tells, WasIdle, turn_seen}
use Rattle.wdt_pact.proofs.SendSeen as send_seen
use Rattle.wdt_pact.proofs.SendSeen.{Empties, Frees, Hushes, Talks-on}
use Rattle.wdt_pact.proofs.TellingAll.{SenderComes}

-- ---- a turn of the receiver's lane

module _ (sounds : SoundLanes) (w : PlainWorld) (l : ℕ) (c : Conversation w) (f : Finishing w) (within : l < length w.pairs) (put : Put)
    (hands : Hands (pair_at w l).recv put) (belongs : RecvBelongsAt w l) where
  abbrev Ending : Step → Type 0
  Ending step = EndsIn (Unit {0}) (turn_plan w.receiver (number l) put) step

  -- what holds behind the finish holds where it comes, too
  behind : (P : Type 0) → (has_finish w.receiver ≡ true → P)
      → ((t : PlainReceiver) → is_failure w.receiver.answer ≡ false → Point w.receiver l put t.history → length t.lanes ≡ length w.receiver.lanes → can_finish t ≡ true → P)
      → (step : Step) → Ending step → has_finish step.1 ≡ true → P
  behind P before comes step ends e = go (turn_seen w l c within put hands belongs step ends) where
    go : Seen w.receiver l put step → P
    go (Stays s) = before (sym s.finish ∙ e)
    go (Drops o) = before (sym o.finish ∙ e)
    go (Closes come o) = before (sym o.finish ∙ e)
    go (Asks p why) = before (sym (point_finish w.receiver l put step.1.history (quiet_idle sounds w l c f within put hands belongs) p) ∙ e)
    go (Tells t k ks p many untold is) =
        before
        (sym (ap (λ (x : Step). has_finish x.1) is ∙ (ap (λ (x : EndPast). x.has_finish) (end_of-append t.history (events.Told (number l) (set_of (k ∷ ks)) ∷ [])) ∙ point_finish w.receiver l put t.history (quiet_idle sounds w l c f within put hands belongs) p)) ∙ e)
    go (Ends t sound p many first ready is) = comes t sound p many ready

  -- a lane that asked for the end before brings no finish
  was_ready : (t : PlainReceiver) → t.history ≡ w.receiver.history → length t.lanes ≡ length w.receiver.lanes → can_finish t ≡ true
      → can_finish w.receiver ≡ true
  was_ready t is many ready = sym (ap (λ (n : ℕ). is_ready n t.history) many ∙ ap (is_ready (length w.receiver.lanes)) is) ∙ ready

  pub recv_emptied : (step : Step) → Ending step → has_finish step.1 ≡ true → waiting_blocks w.sender ≡ []
  recv_emptied = behind (waiting_blocks w.sender ≡ []) f.empty go where
    go : (t : PlainReceiver) → is_failure w.receiver.answer ≡ false → Point w.receiver l put t.history → length t.lanes ≡ length w.receiver.lanes
        → can_finish t ≡ true → waiting_blocks w.sender ≡ []
    go t sound (WasIdle is idle) many ready = f.empty (f.ready sound (was_ready t is many ready))
    go t sound (NowIdle is here sized given well) many ready =
        no_wait sounds w l c f within here sized (holds_input (pair_at w l).recv put (inputs.Got frames.Done) hands given refl) sound
        (sym (ap (λ (n : ℕ). is_ready n t.history) many ∙ ap (is_ready (length w.receiver.lanes)) is) ∙ ready)

  pub recv_planned : (step : Step) → Ending step → has_finish step.1 ≡ true → is_some w.sender.have ≡ true
  recv_planned = behind (is_some w.sender.have ≡ true) f.planned go where
    go : (t : PlainReceiver) → is_failure w.receiver.answer ≡ false → Point w.receiver l put t.history → length t.lanes ≡ length w.receiver.lanes
        → can_finish t ≡ true → is_some w.sender.have ≡ true
    go t sound (WasIdle is idle) many ready = f.planned (f.ready sound (was_ready t is many ready))
    go t sound (NowIdle is here sized given well) many ready = f.sized ((recv_fares w l states.ReadNextCmd c within here).2 sized)

-- ---- whatever happens

module _ (sounds : SoundLanes) (touches : SenderTouches) (comes : SenderComes) where
  turn_emptied : (w : PlainWorld) (l : ℕ) (input : SendIn) → IsSound w → Finishing w → l < length w.pairs → (pair_at w l).send ≡ SendHas input
      → has_finish w.receiver ≡ true → waiting_blocks (send_turn w.sender (number l) input).1 ≡ []
  turn_emptied w l input s f within holds come =
      go (send_seen.turn_seen comes w l input s.talk f.empty f.planned within holds (subst (λ (h : SendHold). SendBelongs h (lane_at w.sender l)) holds (s.belongs.send l within))) where
        go : send_seen.Seen w l input (send_turn w.sender (number l) input) → waiting_blocks (send_turn w.sender (number l) input).1 ≡ []
        go (Hushes quiet same word) = same ∙ f.empty come
        go (Talks-on talks knows same word) = same ∙ f.empty come
        go (Empties talks knows none) = none
        go (Frees talks knows on) = on.empty come

  pub empty_after : (w : PlainWorld) (e : WorldEvent) → IsSound w → Finishing w → lane_of e < length w.pairs → has_finish (happens w e).receiver ≡ true
      → waiting_blocks (happens w e).sender ≡ []
  empty_after w (Sends l lost) s f within =
      send_cases (λ (v : PlainWorld). has_finish v.receiver ≡ true → waiting_blocks v.sender ≡ []) w l lost (λ act is. f.empty)
      (λ input is. turn_emptied w l input s f within is)
  empty_after w (Receives l broken) s f within =
      recv_cases (λ (v : PlainWorld). has_finish v.receiver ≡ true → waiting_blocks v.sender ≡ []) w l broken f.empty (λ act is. f.empty)
      (λ put hands. recv_emptied sounds w l s.talk f within put hands (s.belongs.recv l within) (recv_turn w.receiver l put broken) (ends_in (turn_plan w.receiver (number l) put) broken))
  empty_after w (Cut l down up) s f within = f.empty
  empty_after w (Deny l) s f within = f.empty
  empty_after w (Refuse l) s f within = f.empty

  pub planned_after : (w : PlainWorld) (e : WorldEvent) → IsSound w → Finishing w → lane_of e < length w.pairs → has_finish (happens w e).receiver ≡ true
      → is_some (happens w e).sender.have ≡ true
  planned_after w (Sends l lost) s f within =
      send_cases (λ (v : PlainWorld). has_finish v.receiver ≡ true → is_some v.sender.have ≡ true) w l lost (λ act is. f.planned)
      (λ input is come. plan_stays w.sender input (send_turn w.sender (number l) input).1 (touches w.sender (number l) input).plan (f.planned come))
  planned_after w (Receives l broken) s f within =
      recv_cases (λ (v : PlainWorld). has_finish v.receiver ≡ true → is_some v.sender.have ≡ true) w l broken f.planned (λ act is. f.planned)
      (λ put hands. recv_planned sounds w l s.talk f within put hands (s.belongs.recv l within) (recv_turn w.receiver l put broken) (ends_in (turn_plan w.receiver (number l) put) broken))
  planned_after w (Cut l down up) s f within = f.planned
  planned_after w (Deny l) s f within = f.planned
  planned_after w (Refuse l) s f within = f.planned
