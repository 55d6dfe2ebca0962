-- The finish comes: the receiver's lane that reads the sender's last word is the one that it was waiting for.
use Rattle.std.proofs.Common.{◌≡◌, inl, inr, ℕ, ◌<◌, Bool, true, false, List, [], ◌∷◌, ◌++◌, length, map, option_map, Option, Some, subst, sym, ap, ◌∙◌, refl, eq-eqb}
use Rattle.std.proofs.lemmas.Bool.{cases_eq}
use Rattle.std.proofs.lemmas.List.{length-set}
use Rattle.wdt_units.specs.declared.blocks.Block.{Block}
use Rattle.wdt_codec.specs.declared.frames.Frame.TheVariants as frames
use Rattle.wdt_logfmt.specs.Beginning.{KnownFile}
use Rattle.wdt_sender_fsm.specs.declared.events.SendEvent.{SendEvent}
use Rattle.wdt_sender_fsm.specs.Legal.{IsLegal, IsSound}
use Rattle.wdt_sender_fsm.specs.PlainSender as sender
use Rattle.wdt_sender_fsm.specs.Rules.{is_failure}
use Rattle.wdt_sender_fsm.specs.SenderHistory.{past_of as sent_past}
use Rattle.wdt_receiver_fsm.specs.declared.events.RecvEvent.TheVariants as recv_events
use Rattle.wdt_receiver_fsm.specs.declared.inputs.RecvIn.TheVariants as recv_inputs
use Rattle.wdt_receiver_fsm.specs.declared.states.RecvLane.{RecvLane}
use Rattle.wdt_receiver_fsm.specs.declared.states.RecvState.TheVariants as recv_states
use Rattle.wdt_receiver_fsm.specs.Logging.{all_logged}
use Rattle.wdt_receiver_fsm.specs.Plan.{EndsIn}
use Rattle.wdt_receiver_fsm.specs.PlainReceiver.{PlainReceiver, has_finish, is_ended, lane_at, lane_or_ended, noted, past_at, state_at}
use Rattle.wdt_receiver_fsm.specs.Ready.{is_ready}
use Rattle.wdt_receiver_fsm.specs.Receiver.{Fares}
use Rattle.wdt_receiver_fsm.specs.ReceiverHistory.{EndPast, RecvPast, end_of, end_of-append, past_from, past_of-append}
use Rattle.wdt_receiver_fsm.specs.Touches.{Touches}
use Rattle.wdt_receiver_fsm.specs.Turn.{Given, Put, Step, idles_lane, says_done, turn_plan}
use Rattle.wdt_receiver_fsm.proofs.ForCallers.{turn_keeps}
use Rattle.wdt_pact.specs.Lists.{Splits}
use Rattle.wdt_pact.specs.Pairs.{Pair, RecvHas, recv_gets}
use Rattle.wdt_pact.specs.World.{PlainWorld, number, pair_at, recv_turned}
use Rattle.wdt_pact.specs.Conversation.{Conversation, Converses, IsNamed, Receiving, common, known_header, receiving, receiving_of, sending}
use Rattle.wdt_pact.specs.Finishing.{Finishing}
use Rattle.wdt_pact.proofs.Below.{get_set}
use Rattle.wdt_pact.proofs.Ending.{finished_there, finishes_here}
use Rattle.wdt_pact.proofs.Finishing.{all_landed}
use Rattle.wdt_pact.proofs.Frame.{each_pair}
use Rattle.wdt_pact.proofs.RecvOwn.{Own, closed_behind, have_behind, others_side, own_logged, own_noted, own_put, own_self, touched}
use Rattle.wdt_pact.proofs.RecvRows.{recv_fares, recv_row_at}

module _ (sounds : (n : ℕ) (planned : List Block) (h : List SendEvent) (l : ℕ) → IsLegal n planned h → IsSound (sent_past h l)) (w : PlainWorld) (l : ℕ) (c : Conversation w) (f : Finishing w) (within : l < length w.pairs) (here : state_at w.receiver l ≡ recv_states.ReadNextCmd) (sized : (lane_at w.receiver l).is_sized ≡ true) (word : (pair_at w l).recv ≡ RecvHas (recv_inputs.Got frames.Done)) (sound : is_failure w.receiver.answer ≡ false) where
  abbrev lane : RecvLane
  lane = lane_at w.receiver l

  abbrev past : RecvPast
  past = past_at w.receiver l

  abbrev t : PlainReceiver
  t = idles_lane w.receiver (number l)

  -- behind the finish
  abbrev step : Step
  step = says_done (noted (all_logged t) (recv_events.Finish ∷ [])) (number l)

  abbrev after : RecvLane
  after = record lane { state = recv_states.SendDone; has_waited = false }

  abbrev later : RecvPast
  later = record past { is_idle = true; telling = [] }

  small : l < length w.receiver.lanes
  small = subst (λ (n : ℕ). l < n) (sym c.recv_lanes) within

  fares : Fares (is_failure w.receiver.answer) recv_states.ReadNextCmd (lane_at w.receiver l) (past_at w.receiver l) (end_of w.receiver.history)
  fares = recv_fares w l recv_states.ReadNextCmd c within here

  logged : Own w.receiver (all_logged t) l w.receiver.known (record lane { has_waited = false }) later
  logged =
      own_logged w.receiver t l w.receiver.known (record lane { has_waited = false }) later
      (own_put w.receiver (noted w.receiver (recv_events.Idle (number l) ∷ [])) l w.receiver.known lane later (record lane { has_waited = false }) small
      (own_noted w.receiver w.receiver l w.receiver.known lane past (recv_events.Idle (number l) ∷ []) later (rw (eq-eqb l l refl) refl) refl (own_self w.receiver l)))

  lane_is : lane_at step.1 l ≡ after
  lane_is =
      ap lane_or_ended (get_set (all_logged t).lanes l (record (lane_at (all_logged t) l) { state = recv_states.SendDone }) (subst (λ (n : ℕ). l < n) (sym logged.many) small))
      ∙ ap (λ (x : RecvLane). record x { state = recv_states.SendDone }) logged.lane

  past_is : past_at step.1 l ≡ later
  past_is = past_of-append (all_logged t).history (recv_events.Finish ∷ []) l ∙ ap (λ (p : RecvPast). past_from l p (recv_events.Finish ∷ [])) logged.past

  comes : has_finish step.1 ≡ true
  comes = ap (λ (e : EndPast). e.has_finish) (end_of-append (all_logged t).history (recv_events.Finish ∷ []))

  side_is : receiving step.1 l ≡ receiving_of w.receiver.known after later
  side_is =
      ap (λ (k : List (Option KnownFile)). receiving_of k (lane_at step.1 l) (past_at step.1 l)) logged.known
      ∙ (ap (λ (x : RecvLane). receiving_of w.receiver.known x (past_at step.1 l)) lane_is ∙ ap (receiving_of w.receiver.known after) past_is)

  named : IsNamed step.1.known (past_at step.1 l)
  named =
      subst (λ (k : List (Option KnownFile)). IsNamed k (past_at step.1 l)) (sym logged.known)
      (subst (IsNamed w.receiver.known) (sym past_is) record { landed = (c.named l within).landed; begun = (c.named l within).begun })

  -- all that was claimed has landed, on each lane, and the last word is said
  pub finish_keeps : is_ready (length w.receiver.lanes) (w.receiver.history ++ recv_events.Idle (number l) ∷ []) ≡ true → EndsIn (Unit {0}) (turn_plan w.receiver (number l) (Given (recv_inputs.Got frames.Done))) step → Conversation (recv_turned w l step)
  finish_keeps ready ends =
      record {
        sender = c.sender;
        receiver = turn_keeps w.receiver (number l) put step c.receiver small ends;
        send_lanes = c.send_lanes ∙ sym (length-set w.pairs l p);
        recv_lanes = touches.lanes ∙ (c.recv_lanes ∙ sym (length-set w.pairs l p));
        named = λ k below. name k (subst (λ (n : ℕ). k < n) (length-set w.pairs l p) below);
        lanes = λ k below.
            each_pair (λ i q. Converses (common step.1) i (sending w.sender i) (receiving step.1 i) q) w.pairs l p within own
            (λ i b ne. subst (λ (x : Receiving). Converses (common step.1) i (sending w.sender i) x (pair_at w i)) (sym (others_side w.receiver step.1 l i touches ne (c.named i b)).0)
            (finished_there (common w.receiver) (common step.1) i (sending w.sender i) (receiving w.receiver i) (pair_at w i) have comes closed (landed i b).0 (landed i b).1 (c.lanes i b))) k
            (subst (λ (n : ℕ). k < n) (length-set w.pairs l p) below);
      } where
        put : Put
        put = Given (recv_inputs.Got frames.Done)

        p : Pair
        p = recv_gets (pair_at w l) step.0

        lives : is_ended (state_at w.receiver l) ≡ false
        lives = ap is_ended here

        touches : Touches w.receiver (number l) step.1
        touches = touched w l put step c within ends lives

        have : (common step.1).have ≡ (common w.receiver).have
        have = have_behind w l put step c within ends lives

        closed : (q n : ℕ) → (common w.receiver).closed q ≡ Some n → (common step.1).closed q ≡ Some n
        closed = closed_behind w l put step c within ends lives

        landed : (k : ℕ) → k < length w.pairs → Splits (sending w.sender k).kept (receiving w.receiver k).landed [] × ((sender.past_at w.sender k).claims.held ≡ false)
        landed k below = all_landed sounds w l c f within here sized word sound ready k below

        name : (k : ℕ) → k < length w.pairs → IsNamed step.1.known (past_at step.1 k)
        name k below = elim (cases_eq k l) [
          | inl same ↦ subst (λ (i : ℕ). IsNamed step.1.known (past_at step.1 i)) (sym same) named
          | inr ne ↦ (others_side w.receiver step.1 l k touches ne (c.named k below)).1
        ]

        own : Converses (common step.1) l (sending w.sender l) (receiving step.1 l) p
        own =
            subst (λ (x : Receiving). Converses (common step.1) l (sending w.sender l) x p) (sym side_is)
            (subst (λ (x : Bool). Converses (common step.1) l (sending w.sender l) (receiving_of w.receiver.known (record after { is_sized = x }) later) p) (sym sized)
            (finishes_here (common w.receiver) (common step.1) l (sending w.sender l) lane past later (map (known_header w.receiver.known) past.landed) (option_map (known_header w.receiver.known) past.begun)
            (pair_at w l).send (pair_at w l).taken (pair_at w l).between (pair_at w l).newest (pair_at w l).denies (pair_at w l).refusals have comes closed refl (landed l within).0 (landed l within).1 fares.0.goes_on.closed
            (subst (λ (x : Bool). Converses (common w.receiver) l (sending w.sender l) (receiving_of w.receiver.known (record lane { state = recv_states.ReadNextCmd; is_sized = x }) past) (record (pair_at w l) { recv = RecvHas (recv_inputs.Got frames.Done) })) sized
            (recv_row_at w l recv_states.ReadNextCmd (RecvHas (recv_inputs.Got frames.Done)) c within here word))))
