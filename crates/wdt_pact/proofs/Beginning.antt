-- A world that begins is sound, and so is what is read in one.
use Rattle.std.proofs.Common.{inl, ◌≡◌, ℕ, zero, suc, ◌<◌, ◌≤◌, ◌-◌, ◌^◌, ◌||◌, ◌&&◌, not, Bool, true, false, List, [], length, take, replicate, slice_get, Option, Some, None, subst, sym, ap, ◌∙◌, refl, arith}
use Rattle.std.proofs.lemmas.Bool.{both_ways}
use Rattle.std.proofs.lemmas.List.{length-replicate, take_at}
use Rattle.wdt_units.specs.declared.blocks.Header.{Header}
use Rattle.wdt_units.specs.declared.numbers.Conn.{Conn}
use Rattle.wdt_codec.specs.Chunks.{FitsChunks}
use Rattle.wdt_codec.specs.declared.frames.Frame.{Frame}
use Rattle.wdt_logfmt.specs.View.{Meaning}
use Rattle.wdt_tree.specs.declared.entry.Entry.{Entry}
use Rattle.wdt_sender_fsm.specs.declared.inputs.SendIn.TheVariants as inputs
use Rattle.wdt_sender_fsm.specs.declared.states.SendState.{SendState}
use Rattle.wdt_sender_fsm.specs.declared.states.SendState.TheVariants as states
use Rattle.wdt_sender_fsm.specs.Phases as sends
use Rattle.wdt_sender_fsm.specs.Phases.{Phase, Framed, is_abort}
use Rattle.wdt_sender_fsm.specs.PlainSender as sender
use Rattle.wdt_sender_fsm.specs.PlainSender.{PlainSender, waiting_blocks}
use Rattle.wdt_sender_fsm.specs.Places.{claims_of, planned_now-is, queue_of}
use Rattle.wdt_sender_fsm.specs.Rules.{every}
use Rattle.wdt_sender_fsm.specs.declared.states.SendLane.{SendLane}
use Rattle.wdt_receiver_fsm.specs.declared.states.RecvLane.{RecvLane}
use Rattle.wdt_units.specs.declared.blocks.Block.{Block}
use Rattle.wdt_pact.specs.Finishing.{ComesOfPlan, Finishing, telling}
use Rattle.wdt_sender_fsm.specs.Rows as send_rows
use Rattle.wdt_sender_fsm.specs.Sender.{IsSender}
use Rattle.wdt_sender_fsm.specs.SenderHistory as sent
use Rattle.wdt_sender_fsm.specs.Writes.{IsLawful}
use Rattle.wdt_receiver_fsm.specs.declared.inputs.RecvIn.TheVariants as recv_inputs
use Rattle.wdt_receiver_fsm.specs.declared.states.RecvState.{RecvState}
use Rattle.wdt_receiver_fsm.specs.declared.states.RecvState.TheVariants as recv_states
use Rattle.wdt_receiver_fsm.specs.Phases as recv_phases
use Rattle.wdt_receiver_fsm.specs.PlainReceiver as recv
use Rattle.wdt_receiver_fsm.specs.PlainReceiver.{can_finish, have_now}
use Rattle.wdt_receiver_fsm.specs.Ready.{is_busy, is_confirmed, is_known_closed, is_ready, rests}
use Rattle.wdt_receiver_fsm.specs.Receiver.{IsReceiver}
use Rattle.wdt_receiver_fsm.specs.ReceiverHistory as received
use Rattle.wdt_receiver_fsm.specs.ReceiverHistory.{Confirm, EndPast, RecvPast}
use Rattle.wdt_receiver_fsm.specs.Sets.{has}
use Rattle.wdt_receiver_fsm.specs.Rows as recv_rows
use Rattle.wdt_receiver_fsm.proofs.ForCallers.{heard_named}
use Rattle.wdt_pact.specs.Belongs.{RecvBelongs, SendBelongs}
use Rattle.wdt_pact.specs.Fitting.{FitsDown, GoesDown, IsSound}
use Rattle.wdt_pact.specs.Lists.{Splits}
use Rattle.wdt_pact.specs.Pairs.{Pair, RecvHold, RecvHas, SendHold, SendHas}
use Rattle.wdt_pact.specs.Progress.{AreCut, AreEven}
use Rattle.wdt_pact.specs.World.{PlainWorld, first_pair, first_world, pair_at, pair_or}
use Rattle.wdt_pact.specs.Conversation.{Conversation, Converses, HeardDown, HeardUp, IsNamed, IsWord, Receiving, Sending, common, is_recv_out, is_send_out, receiving, receiving_of, sending, sending_of}
use Rattle.wdt_pact.proofs.Lists.{leads_of}
use Rattle.wdt_pact.proofs.Opening.{opens_here}

-- ---- what lands was claimed

splits_front : (kept landed rest : List Header) → Splits kept landed rest → take (length landed) kept ≡ landed
unfolding Splits
splits_front kept landed rest m = ap (take (length landed)) m ∙ take_at landed rest (length landed) refl

pub lands_in_order : (w : PlainWorld) (l : ℕ) → Conversation w → l < length w.pairs → take (length (receiving w.receiver l).landed) (sending w.sender l).kept ≡ (receiving w.receiver l).landed
lands_in_order w l c within =
    let x = leads_of _ (pair_at w l).taken (sending w.sender l).kept (receiving w.receiver l).landed (receiving w.receiver l).begun _ _ (c.lanes l within).lists in
    splits_front (sending w.sender l).kept (receiving w.receiver l).landed x.0 x.1

-- ---- what is read may come

some_phase : (o : Option Phase) (free : Bool) → IsWord o free → free ≡ false → (q : Phase) × (o ≡ Some q)
some_phase (Some q) free w e = (q, refl)
some_phase None true w e = cc
some_phase None false w e = absurd w

recv_in : (st : RecvState) → recv_rows.is_reading st ≡ true → is_recv_out st ≡ false
recv_in recv_states.ReadSettings e = refl
recv_in recv_states.ReadNextCmd e = refl
recv_in recv_states.ReadAck e = refl
recv_in st e = cc

send_in : (st : SendState) → send_rows.is_reading st ≡ true → is_send_out st ≡ false
send_in states.ReadLocalCheckpoint e = refl
send_in states.ReadFileChunks e = refl
send_in states.ReadReceiverCmd e = refl
send_in st e = cc

or_both : (a b : Bool) → a ≡ false → b ≡ false → (a || b) ≡ false
or_both a b x y = ap (λ (c : Bool). c || b) x ∙ y

pub receives_named : (w : PlainWorld) (l : ℕ) (frame : Frame) → IsSound w → l < length w.pairs → (pair_at w l).recv ≡ RecvHas (recv_inputs.Got frame) → is_abort frame ≡ false
    → recv_phases.is_named (recv_rows.row_of (recv.lane_at w.receiver l).is_sized (recv.state_at w.receiver l) (recv_inputs.Got frame)) ≡ true
receives_named w l frame s within holds calm =
    let heard = subst (λ (h : RecvHold). HeardDown h (recv.lane_at w.receiver l) (recv.past_at w.receiver l).is_idle) holds (s.talk.lanes l within).heard_down in
    let reads = subst (λ (h : RecvHold). RecvBelongs h (recv.lane_at w.receiver l) (recv.past_at w.receiver l)) holds (s.belongs.recv l within) in
    let x = some_phase (recv_phases.phase_heard (Framed frame) (recv_phases.phase_by (recv.lane_at w.receiver l) (recv.past_at w.receiver l).is_idle false (recv.state_at w.receiver l))) _ heard (or_both (is_recv_out (recv.state_at w.receiver l)) (is_abort frame) (recv_in (recv.state_at w.receiver l) reads) calm) in
    heard_named (recv.lane_at w.receiver l) (recv.past_at w.receiver l).is_idle false (recv.state_at w.receiver l) frame x.0 x.1

pub sends_named : ((state : SendState) (ask acked : Bool) (frame : Frame) (q : Phase) → sends.phase_heard frame (sends.phase_by ask acked state) ≡ Some q → sends.is_named (send_rows.row_of state (inputs.Got frame)) ≡ true)
    → (w : PlainWorld) (l : ℕ) (frame : Frame) → IsSound w → l < length w.pairs → (pair_at w l).send ≡ SendHas (inputs.Got frame) → is_abort frame ≡ false → sends.is_named (send_rows.row_of (sender.state_at w.sender l) (inputs.Got frame)) ≡ true
sends_named hears w l frame s within holds calm =
    let heard = subst (λ (h : SendHold). HeardUp h (sender.lane_at w.sender l)) holds (s.talk.lanes l within).heard_up in
    let reads = subst (λ (h : SendHold). SendBelongs h (sender.lane_at w.sender l)) holds (s.belongs.send l within) in
    let x = some_phase (sends.phase_heard frame (sends.phase_by (sender.lane_at w.sender l).ask false (sender.state_at w.sender l))) _ heard (or_both (is_send_out (sender.state_at w.sender l)) (is_abort frame) (send_in (sender.state_at w.sender l) reads) calm) in
    hears (sender.state_at w.sender l) (sender.lane_at w.sender l).ask false frame x.0 x.1

-- ---- a world that begins

pub get_same : {A : Type 0} (n k : ℕ) (x : A) → k < n → slice_get (replicate n x) k ≡ Some x
get_same zero k x within = absurd (omega (arith, within))
get_same (suc n) zero x within = refl
get_same (suc n) (suc k) x within = get_same n k x (omega (arith, within))

module _ (manifest : List Entry) (block session : ℕ) (log : Meaning) (batch n : ℕ) (conn : Conn) where
  abbrev w : PlainWorld
  w = first_world manifest block session log batch n conn

  many : {A : Type 0} (x : A) → length (replicate n x) ≡ n
  many x = length-replicate n x

  pub pair_is : (l : ℕ) → l < n → pair_at w l ≡ first_pair conn
  pair_is l within = ap pair_or (get_same n l (first_pair conn) within)

  sending_is : (l : ℕ) → l < n → sending w.sender l ≡ record { lane = sender.new_lane; past = sent.no_past; kept = [] }
  sending_is l within =
      ap (λ (x : SendLane). sending_of manifest x (sender.past_at w.sender l)) (ap sender.lane_or_ended (get_same n l sender.new_lane within))
      ∙ ap (sending_of manifest sender.new_lane) (sent.past_of-none l)

  receiving_is : (l : ℕ) → l < n → receiving w.receiver l ≡ record { lane = recv.new_lane; past = received.no_past; landed = []; begun = None }
  receiving_is l within =
      ap (λ (x : RecvLane). receiving_of w.receiver.known x (recv.past_at w.receiver l)) (ap recv.lane_or_ended (get_same n l recv.new_lane within))
      ∙ ap (receiving_of w.receiver.known recv.new_lane) (received.past_of-none l)

  unfinished : recv.has_finish w.receiver ≡ false
  unfinished = ap (λ (e : EndPast). e.has_finish) received.end_of-none

  past_is : (l : ℕ) → recv.past_at w.receiver l ≡ received.no_past
  past_is l = received.past_of-none l

  none_named : (l : ℕ) → IsNamed w.receiver.known (recv.past_at w.receiver l)
  none_named l = subst (IsNamed w.receiver.known) (sym (past_is l)) record { landed = tt; begun = λ b e. cc }

  pub in_pairs : (l : ℕ) → l < length w.pairs → l < n
  in_pairs l within = subst (λ (k : ℕ). l < k) (many (first_pair conn)) within

  pub sound_first : IsSender w.sender → IsReceiver w.receiver → IsLawful w.sender → ((file : ℕ) (entry : Entry) → slice_get manifest file ≡ Some entry → entry.stamp ≤ 2 ^ 64 - 1) → FitsChunks (have_now log.files []) → IsSound w
  sound_first is are lawful stamps have =
      record {
        talk = record {
          sender = is;
          receiver = are;
          send_lanes = many sender.new_lane ∙ sym (many (first_pair conn));
          recv_lanes = many recv.new_lane ∙ sym (many (first_pair conn));
          named = λ l within. none_named l;
          lanes = λ l within.
              subst (λ (p : Pair). Converses (common w.receiver) l (sending w.sender l) (receiving w.receiver l) p) (sym (pair_is l (in_pairs l within)))
              (subst (λ (r : Receiving). Converses (common w.receiver) l (sending w.sender l) r (first_pair conn)) (sym (receiving_is l (in_pairs l within)))
              (subst (λ (s : Sending). Converses (common w.receiver) l s record { lane = recv.new_lane; past = received.no_past; landed = []; begun = None } (first_pair conn)) (sym (sending_is l (in_pairs l within)))
              (opens_here (common w.receiver) l conn unfinished)));
        };
        belongs = record {
          send = λ l within. subst (λ (p : Pair). SendBelongs p.send (sender.lane_at w.sender l)) (sym (pair_is l (in_pairs l within))) (ap (λ (o : Option SendLane). (sender.lane_or_ended o).state) (get_same n l sender.new_lane (in_pairs l within)));
          recv = λ l within. subst (λ (p : Pair). RecvBelongs p.recv (recv.lane_at w.receiver l) (recv.past_at w.receiver l)) (sym (pair_is l (in_pairs l within))) (ap (λ (o : Option RecvLane). (recv.lane_or_ended o).state) (get_same n l recv.new_lane (in_pairs l within)));
        };
        fits = record {
          sender = lawful;
          stamps = stamps;
          receiver = record { have = have; code = omega arith };
          down = λ l within. subst FitsDown (sym (pair_is l (in_pairs l within))) record { hand = tt; says = tt; taken = tt; between = tt; newest = tt };
        };
        cut = λ l within. subst (AreCut (sender.state_at w.sender l) (recv.state_at w.receiver l)) (sym (pair_is l (in_pairs l within))) record { older = λ e. absurd (e refl); sender = λ e. inl tt; receiver = λ e. inl tt };
        even = λ l within. subst AreEven (sym (pair_is l (in_pairs l within))) record { taken = tt; between = tt; newest = tt };
      }

  -- ---- no lane told of another, and nothing waits

  tells_none : (l q : ℕ) → has (telling w l) q ≡ true → ⊥
  tells_none l q e = both_ways (has (telling w l) q) (ap (λ (p : RecvPast). has p.telling q) (past_is l)) e

  confirm_is : (q : ℕ) → received.confirm_of w.receiver.history q ≡ received.no_confirm
  confirm_is q = received.confirm_of-none q

  waits_none : waiting_blocks w.sender ≡ []
  waits_none = ap (λ (bs : List Block). queue_of bs (claims_of (length w.sender.lanes) [])) (planned_now-is [] [])

  unready : 1 ≤ n → can_finish w.receiver ≡ false
  unready some = go n some where
    no_and : (b : Bool) → (b && false) ≡ false
    no_and true = refl
    no_and false = refl

    busy : (m : ℕ) → every (suc m) (rests []) ≡ false
    busy m = ap (λ (p : RecvPast). every m (rests []) && (p.is_idle || p.is_closed)) (received.past_of-none m) ∙ no_and (every m (rests []))

    go : (m : ℕ) → 1 ≤ m → is_ready (length (replicate m recv.new_lane)) [] ≡ false
    go zero e = absurd (omega (arith, e))
    go (suc m) e = ap (λ (k : ℕ). is_ready k []) (length-replicate (suc m) recv.new_lane) ∙ ap (λ (b : Bool). b && not (every (suc m) (is_busy [])) && every (suc m) (is_known_closed [])) (busy m)

  pub finishing_first : 1 ≤ n → Finishing w
  finishing_first some =
      record {
        tellings = λ l q within talks told. absurd (tells_none l q told);
        confirmed = λ q e. absurd (both_ways (is_confirmed w.receiver.history q) (ap (λ (c : Confirm). c.is_confirmed) (confirm_is q)) e);
        witness = λ sound waits. absurd (waits waits_none);
        ready = λ sound e. absurd (both_ways (can_finish w.receiver) (unready some) e);
        tells = λ l within. subst (GoesDown (ComesOfPlan false)) (sym (pair_is l (in_pairs l within))) record { hand = tt; says = tt; taken = tt; between = tt; newest = tt };
        sized = λ n. absurd (n (ap (λ (e : EndPast). e.sized) received.end_of-none));
        list = λ have e. cc;
        finished = λ e. absurd (both_ways (sent.end_of []).has_finish (ap (λ (x : sent.EndPast). x.has_finish) sent.end_of-none) e);
        empty = λ e. absurd (both_ways (recv.has_finish w.receiver) unfinished e);
        planned = λ e. absurd (both_ways (recv.has_finish w.receiver) unfinished e);
      }
