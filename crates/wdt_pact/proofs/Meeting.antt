-- Whatever happens to a sound world, what the sender says stays so, and what the receiver knows of it is what it said.
use Rattle.std.proofs.Common.{◌≡◌, ◌⊎◌, inl, inr, ℕ, zero, suc, ◌<◌, ◌≤◌, not, true, is_some, List, [], ◌∷◌, ◌++◌, length, replicate, slice_get, slice_set, Option, Some, None, subst, sym, ap, ◌∙◌, refl, arith}
use Rattle.std.proofs.lemmas.Bool.{cases_eq}
use Rattle.std.proofs.lemmas.List.{length-set}
use Rattle.std.proofs.lemmas.Option.{same_Some}
use Rattle.wdt_units.specs.declared.blocks.Header.{Header}
use Rattle.wdt_units.specs.declared.numbers.Conn.{Conn}
use Rattle.wdt_units.specs.declared.numbers.Lane.{Lane}
use Rattle.wdt_codec.specs.Frames.{Fits}
use Rattle.wdt_codec.specs.declared.frames.Frame.{Frame}
use Rattle.wdt_codec.specs.declared.frames.Frame.TheVariants as frames
use Rattle.wdt_codec.specs.declared.frames.Settings.{Settings}
use Rattle.wdt_logfmt.specs.Beginning.{KnownFile, free_number, is_new, known_at, known_files, number_of, with_known}
use Rattle.wdt_logfmt.specs.View.{Meaning, NamedFile, is_view}
use Rattle.wdt_logfmt.proofs.ForCallers.{new_slot, number_new}
use Rattle.wdt_rest.specs.Fitting.{found_in}
use Rattle.wdt_tree.specs.declared.entry.Entry.{Entry}
use Rattle.wdt_sender_fsm.specs.declared.acts.SendAct.{SendAct}
use Rattle.wdt_sender_fsm.specs.declared.inputs.SendIn.{SendIn}
use Rattle.wdt_sender_fsm.specs.declared.inputs.SendIn.TheVariants as inputs
use Rattle.wdt_sender_fsm.specs.Phases.{Message, Framed, Piece}
use Rattle.wdt_sender_fsm.specs.PlainSender.{PlainSender, past_at}
use Rattle.wdt_sender_fsm.specs.PlainSender as sender
use Rattle.wdt_sender_fsm.specs.SenderHistory as sent
use Rattle.wdt_sender_fsm.specs.Sender.{FitsIn, IsSender}
use Rattle.wdt_sender_fsm.specs.Touches.{Touches}
use Rattle.wdt_sender_fsm.specs.Turn.{Step as SendStep, send_turn}
use Rattle.wdt_sender_fsm.specs.Writes.{FitsAct, IsLawful}
use Rattle.wdt_receiver_fsm.specs.declared.acts.RecvAct.{RecvAct}
use Rattle.wdt_receiver_fsm.specs.declared.inputs.RecvIn.TheVariants as recv_inputs
use Rattle.wdt_receiver_fsm.specs.declared.states.RecvLane.{RecvLane}
use Rattle.wdt_receiver_fsm.specs.PlainReceiver as recv
use Rattle.wdt_receiver_fsm.specs.ReceiverHistory.{EndPast, end_of, end_of-none}
use Rattle.wdt_receiver_fsm.specs.Turn.{Given, Put, Step as RecvStep, file_of_header, turn_plan}
use Rattle.wdt_receiver_fsm.proofs.ForCallers.{turn_touches}
use Rattle.wdt_pact.specs.Conversation.{Conversation, upward_by}
use Rattle.wdt_pact.specs.Each.{Each}
use Rattle.wdt_pact.specs.Fitting.{GoesDown, IsSound, SaysOf, lane_of}
use Rattle.wdt_pact.specs.Lists.{in_hand}
use Rattle.wdt_pact.specs.Meeting.{Climbs, IsKnownOf, IsOwn, IsTrueOf, Meeting, Transfer, conns_in, conns_of, totals_of, transfer_of}
use Rattle.wdt_pact.specs.Pairs.{Pair, RecvHold, RecvDoes, RecvHas, SendHold, SendDoes, SendHas, cuts_by, recv_does, recv_gets, send_does, send_takes, top, top_by}
use Rattle.wdt_pact.specs.World.{PlainWorld, WorldEvent, Sends, Receives, Cut, Deny, Refuse, first_pair, first_world, happens, number, pair_at, pair_or, recv_turn, recv_turned, send_turned, with_pair}
use Rattle.wdt_pact.proofs.Beginning.{get_same, in_pairs, pair_is}
use Rattle.wdt_pact.proofs.Conns.{conns_behind, cut_conns, drop_climbs, lower_climbs, raise_climbs, recv_does_climbs, same_climbs, send_does_conns, send_takes_conns}
use Rattle.wdt_pact.proofs.Confirming.{SenderTouches}
use Rattle.wdt_pact.proofs.Events.{recv_cases, send_cases}
use Rattle.wdt_pact.proofs.Fitting.{cuts_fit, recv_does_down, send_does_down, takes_fits, tops}
use Rattle.wdt_pact.proofs.Frame.{each_pair}
use Rattle.wdt_pact.proofs.Learning.{Learns, turn_learns}
use Rattle.wdt_pact.proofs.Opened.{once_opened}
use Rattle.wdt_pact.proofs.RecvHands.{Hands, holds_input}
use Rattle.wdt_pact.proofs.RecvRows.{ends_in}
use Rattle.wdt_pact.proofs.Saying.{Introduces, act_climbs, act_true, more_connections, same_transfer, turn_gives}
use Rattle.wdt_pact.proofs.TellingAll.{SenderComes}

piece_true : (t : Transfer) (l n : ℕ) → IsTrueOf t l (Piece n)
piece_true t l n = tt

-- ---- an act of either end, and a cut

-- the two parts that speak of a pair
abbrev pub MeetsAt : PlainWorld → ℕ → Pair → Type 0
MeetsAt w l p = GoesDown (IsTrueOf (transfer_of w.sender) l) p × Climbs (recv.lane_at w.receiver l).conn (conns_of p) (past_at w.sender l).connections

pair_meets : (w : PlainWorld) (l : ℕ) (p : Pair) → l < length w.pairs → Meeting w → MeetsAt w l p → Meeting (with_pair w l p)
pair_meets w l p within m own =
    record {
      says = λ k small.
          each_pair (λ (i : ℕ) (x : Pair). GoesDown (IsTrueOf (transfer_of w.sender) i) x) w.pairs l p within own.0 (λ i b ne. m.says i b) k (subst (λ (n : ℕ). k < n) (length-set w.pairs l p) small);
      conns = λ k small.
          each_pair (λ (i : ℕ) (x : Pair). Climbs (recv.lane_at w.receiver i).conn (conns_of x) (past_at w.sender i).connections) w.pairs l p within own.1 (λ i b ne. m.conns i b) k
          (subst (λ (n : ℕ). k < n) (length-set w.pairs l p) small);
      met = m.met;
      sized = m.sized;
      known = m.known;
      once = m.once;
      numbers = m.numbers;
    }

module _ (w : PlainWorld) (l : ℕ) (c : Conversation w) (m : Meeting w) (within : l < length w.pairs) where
  abbrev t : Transfer
  t = transfer_of w.sender

  in_order : (pair_at w l).newest ≡ None → (pair_at w l).between ≡ []
  in_order = (c.lanes l within).waits.order

  climbs_as : (p : Pair) → conns_of p ≡ conns_of (pair_at w l) → Climbs (recv.lane_at w.receiver l).conn (conns_of p) (past_at w.sender l).connections
  climbs_as p same = same_climbs (recv.lane_at w.receiver l).conn (past_at w.sender l).connections (conns_of (pair_at w l)) (conns_of p) same (m.conns l within)

  pub send_act_meets : (lost : Option ℕ) (act : SendAct) → (pair_at w l).send ≡ SendDoes act → MeetsAt w l (send_does (pair_at w l) lost act)
  send_act_meets lost act is = (
    send_does_down (IsTrueOf t l) (piece_true t l) (pair_at w l) lost act (subst (SaysOf (IsTrueOf t l)) is (m.says l within).says) (m.says l within),
    climbs_as (send_does (pair_at w l) lost act) (send_does_conns (pair_at w l) lost act is in_order),
  )

  pub cut_meets : (d u : ℕ) → MeetsAt w l (cuts_by (pair_at w l) d u (top (pair_at w l)))
  cut_meets d u =
      let p : Pair = pair_at w l in
      let x = m.says l within in (
        cuts_fit (IsTrueOf t l) (piece_true t l) p d u (top_by p.newest p.taken) (tops (IsTrueOf t l) (piece_true t l) p.newest p.taken x.newest x.taken) x,
        climbs_as (cuts_by p d u (top p)) (cut_conns p d u (top p) refl in_order),
      )

  pub tries_meet : (n k : ℕ) → MeetsAt w l (record (pair_at w l) { denies = n; refusals = k })
  tries_meet n k = let x = m.says l within in (record { hand = x.hand; says = x.says; taken = x.taken; between = x.between; newest = x.newest }, m.conns l within)

-- ---- a turn of the sender's lane

-- what the sender's own crate promises of what it writes
abbrev pub SenderWrites : Type 0
SenderWrites = (s : PlainSender) (k : Lane) (i : SendIn) → IsSender s → IsLawful s → k.0 < length s.lanes → FitsIn i → FitsAct s.manifest (send_turn s k i).0

module _ (touches : SenderTouches) (comes : SenderComes) (writes : SenderWrites) (w : PlainWorld) (l : ℕ) (input : SendIn) (s : IsSound w) (m : Meeting w)
    (within : l < length w.pairs) (holds : (pair_at w l).send ≡ SendHas input) where
  abbrev step : SendStep
  step = send_turn w.sender (number l) input

  x : Touches w.sender (number l) input step.1
  x = touches w.sender (number l) input

  abbrev p : Pair
  p = send_takes (pair_at w l) input (past_at step.1 l).is_greeted step.0

  same : transfer_of w.sender ≡ transfer_of step.1
  same = sym (same_transfer w.sender l input step.1 x)

  below : l < length w.sender.lanes
  below = subst (λ (n : ℕ). l < n) (sym s.talk.send_lanes) within

  -- what it read lies in the grammar's ranges
  in_range : (i : SendIn) → (pair_at w l).send ≡ SendHas i → FitsIn i
  in_range (inputs.Got f) is = (subst (λ (h : SendHold). Each Fits (upward_by (pair_at w l).newest (pair_at w l).taken h (pair_at w l).recv)) is (s.talk.lanes l within).fits).0
  in_range i is = tt

  gives : Introduces w.sender l (past_at w.sender l).connections (past_at step.1 l).connections step.0
  gives = turn_gives w.sender l comes input

  says_now : SaysOf (IsTrueOf (transfer_of w.sender) l) (SendDoes step.0)
  says_now =
      act_true w.sender l (past_at w.sender l).connections (past_at step.1 l).connections step.0 s.fits.sender.manifest
      (writes w.sender (number l) input s.talk.sender s.fits.sender below (in_range input holds)) gives

  goes_down : (k : ℕ) → k < length w.pairs → GoesDown (IsTrueOf (transfer_of step.1) k) (pair_or (slice_get (slice_set w.pairs l p) k))
  goes_down k small =
      subst (λ (t : Transfer). GoesDown (IsTrueOf t k) (pair_or (slice_get (slice_set w.pairs l p) k))) same
      (each_pair (λ (i : ℕ) (q : Pair). GoesDown (IsTrueOf (transfer_of w.sender) i) q) w.pairs l p within
      (takes_fits (IsTrueOf (transfer_of w.sender) l) (piece_true (transfer_of w.sender) l) (pair_at w l) input (past_at step.1 l).is_greeted step.0 says_now (m.says l within))
      (λ i b ne. m.says i b) k small)

  climbs : (k : ℕ) → k < length w.pairs → Climbs (recv.lane_at w.receiver k).conn (conns_of (pair_or (slice_get (slice_set w.pairs l p) k))) (past_at step.1 k).connections
  climbs k small =
      each_pair (λ (i : ℕ) (q : Pair). Climbs (recv.lane_at w.receiver i).conn (conns_of q) (past_at step.1 i).connections) w.pairs l p within
      (same_climbs (recv.lane_at w.receiver l).conn (past_at step.1 l).connections _ (conns_of p) (send_takes_conns (pair_at w l) input (past_at step.1 l).is_greeted step.0 holds)
      (act_climbs w.sender l (past_at w.sender l).connections (past_at step.1 l).connections step.0 (recv.lane_at w.receiver l).conn (conns_of (pair_at w l)) gives (more_connections w.sender l input step.1 x l) (m.conns l within)))
      (λ i b ne. raise_climbs (recv.lane_at w.receiver i).conn (conns_of (pair_at w i)) (past_at w.sender i).connections (past_at step.1 i).connections (more_connections w.sender l input step.1 x i) (m.conns i b)) k small

  pub send_turn_meets : Meeting (send_turned w l input step)
  send_turn_meets =
      record {
        says = λ k small. goes_down k (subst (λ (n : ℕ). k < n) (length-set w.pairs l p) small);
        conns = λ k small. climbs k (subst (λ (n : ℕ). k < n) (length-set w.pairs l p) small);
        met = λ y e. let a = m.met y e in (a.0 ∙ sym x.session, a.1 ∙ sym x.block);
        sized = λ y e. m.sized y e ∙ ap totals_of (sym x.manifest);
        known = λ n file e. subst (λ (tree : List Entry). IsKnownOf tree w.receiver.opening file) (sym x.manifest) (m.known n file e);
        once = m.once;
        numbers = m.numbers;
      }

-- ---- files that are known

module _ {P : Header → Type 0} (old new : List (Option KnownFile)) (changes : (new ≡ old) ⊎ ((y : (h : Header) × P h) × (is_new old y.0 ≡ true) × (new ≡ with_known old (file_of_header y.0)))) where
  -- one that is known was, or it is new
  known_behind : (n : ℕ) (file : KnownFile) → known_at new n ≡ Some file → (known_at old n ≡ Some file) ⊎ ((y : (h : Header) × P h) × (file ≡ file_of_header y.0) × (n ≡ free_number old) × (is_new old y.0 ≡ true))
  known_behind n file e = elim changes [
    | inl same ↦ inl (ap (λ (known : List (Option KnownFile)). known_at known n) (sym same) ∙ e)
    | inr c ↦
        let slot = new_slot old (file_of_header c.0.0) in
        let at : known_at (with_known old (file_of_header c.0.0)) n ≡ Some file = ap (λ (known : List (Option KnownFile)). known_at known n) (sym c.2) ∙ e in
        elim (cases_eq n (free_number old)) [
          | inl here ↦ inr (c.0, same_Some file (file_of_header c.0.0) (sym at ∙ (ap (known_at (with_known old (file_of_header c.0.0))) here ∙ slot.there)), here, c.1)
          | inr other ↦ inl (sym (slot.others n other) ∙ at)
        ]
  ]

  unknown : (h : Header) (n : ℕ) (file : KnownFile) → is_new old h ≡ true → known_at old n ≡ Some file → file.path ≡ h.path → ⊥
  unknown h n file new_one at same = number_new old h.path n file (none (number_of old h.path) new_one) at same where
    none : (o : Option ℕ) → not (is_some o) ≡ true → o ≡ None
    none None e = refl
    none (Some k) e = cc

  once_behind : ((i j : ℕ) (x y : KnownFile) → known_at old i ≡ Some x → known_at old j ≡ Some y → x.path ≡ y.path → i ≡ j) → (i j : ℕ) (x y : KnownFile) → known_at new i ≡ Some x → known_at new j ≡ Some y → x.path ≡ y.path → i ≡ j
  once_behind once i j x y a b same = elim (known_behind i x a) [
    | inl was ↦ elim (known_behind j y b) [
      | inl too ↦ once i j x y was too same
      | inr lately ↦ absurd (unknown lately.0.0 i x lately.3 was (same ∙ ap (λ (f : KnownFile). f.path) lately.1))
    ]
    | inr lately ↦ elim (known_behind j y b) [
      | inl too ↦ absurd (unknown lately.0.0 j y lately.3 too (sym same ∙ ap (λ (f : KnownFile). f.path) lately.1))
      | inr also ↦ lately.2 ∙ sym also.2
    ]
  ]

-- ---- a turn of the receiver's lane

module _ (w : PlainWorld) (l : ℕ) (c : Conversation w) (m : Meeting w) (within : l < length w.pairs) (put : Put) (hands : Hands (pair_at w l).recv put) (broken : Option ℕ) where
  abbrev turn : RecvStep
  turn = recv_turn w.receiver l put broken

  small_lane : l < length w.receiver.lanes
  small_lane = subst (λ (n : ℕ). l < n) (sym c.recv_lanes) within

  learns : Learns w.receiver l put turn.1
  learns = turn_learns w.receiver l put small_lane turn (ends_in (turn_plan w.receiver (number l) put) broken)

  -- a frame that it read is in its hand
  held : (f : Frame) → put ≡ Given (recv_inputs.Got f) → (pair_at w l).recv ≡ RecvHas (recv_inputs.Got f)
  held f given = holds_input (pair_at w l).recv put (recv_inputs.Got f) hands given refl

  pub read_true : (f : Frame) → put ≡ Given (recv_inputs.Got f) → IsTrueOf (transfer_of w.sender) l (Framed f)
  read_true f given = (subst (λ (h : RecvHold). Each (IsTrueOf (transfer_of w.sender) l) (in_hand h)) (held f given) (m.says l within).hand).0

  changes : (turn.1.known ≡ w.receiver.known) ⊎ ((y : (h : Header) × (put ≡ Given (recv_inputs.Got (frames.Block h)))) × (is_new w.receiver.known y.0 ≡ true) × (turn.1.known ≡ with_known w.receiver.known (file_of_header y.0)))
  changes = elim learns.known [ inl same ↦ inl same | inr y ↦ inr ((y.0, y.1), y.2, y.3) ]

  -- the number that was read last, and those behind
  climbs_behind : Climbs (recv.lane_at turn.1 l).conn (conns_behind (pair_at w l)) (past_at w.sender l).connections
  climbs_behind = elim learns.conn [
    | inl same ↦
        subst (λ (n : ℕ). Climbs n (conns_behind (pair_at w l)) (past_at w.sender l).connections) (sym same)
        (drop_climbs (conns_in (in_hand (pair_at w l).recv)) (conns_behind (pair_at w l)) (recv.lane_at w.receiver l).conn (past_at w.sender l).connections (m.conns l within))
    | inr y ↦
        subst (λ (n : ℕ). Climbs n (conns_behind (pair_at w l)) (past_at w.sender l).connections) (sym y.2)
        (subst (λ (h : RecvHold). Climbs (recv.lane_at w.receiver l).conn (conns_in (in_hand h) ++ conns_behind (pair_at w l)) (past_at w.sender l).connections) (held (frames.Settings y.0) y.1) (m.conns l within)).1
  ]

  pub recv_turn_meets : Meeting (recv_turned w l turn)
  recv_turn_meets =
      let x = turn_touches w.receiver (number l) put turn (ends_in (turn_plan w.receiver (number l) put) broken) in
      let d = m.says l within in
      record {
        says = λ k small.
            each_pair (λ (i : ℕ) (q : Pair). GoesDown (IsTrueOf (transfer_of w.sender) i) q) w.pairs l (recv_gets (pair_at w l) turn.0) within
            record { hand = tt; says = d.says; taken = d.taken; between = d.between; newest = d.newest } (λ i b ne. m.says i b) k
            (subst (λ (n : ℕ). k < n) (length-set w.pairs l (recv_gets (pair_at w l) turn.0)) small);
        conns = λ k small.
            each_pair (λ (i : ℕ) (q : Pair). Climbs (recv.lane_at turn.1 i).conn (conns_of q) (past_at w.sender i).connections) w.pairs l (recv_gets (pair_at w l) turn.0) within climbs_behind
            (λ i b ne. subst (λ (lane : RecvLane). Climbs lane.conn (conns_of (pair_at w i)) (past_at w.sender i).connections) (sym (x.others i ne)) (m.conns i b)) k
            (subst (λ (n : ℕ). k < n) (length-set w.pairs l (recv_gets (pair_at w l) turn.0)) small);
        met = λ y e. elim (learns.met y e) [
          | inl old ↦ m.met y old
          | inr given ↦ let own = read_true (frames.Settings y) given in (own.session, own.block)
        ];
        sized = λ y e. elim (learns.sized y e) [
          | inl old ↦ m.sized y old
          | inr given ↦ read_true (frames.Size y.0 y.1) given
        ];
        known = λ n file e. subst (λ (opening : List NamedFile). IsKnownOf w.sender.manifest opening file) (sym x.opening) (elim (known_behind w.receiver.known turn.1.known changes n file e) [
          | inl old ↦ m.known n file old
          | inr y ↦ inl (subst (λ (z : KnownFile). found_in w.sender.manifest z.path ≡ Some (z.size, z.stamp)) (sym y.1) (read_true (frames.Block y.0.0) y.0.1))
        ]);
        once = λ view. once_behind w.receiver.known turn.1.known changes (m.once (ap is_view (sym x.opening) ∙ view));
        numbers = λ n file e. x.known n file (m.numbers n file (ap (λ (opening : List NamedFile). known_at (known_files opening) n) (sym x.opening) ∙ e));
      }

-- ---- whatever happens

module _ (touches : SenderTouches) (comes : SenderComes) (writes : SenderWrites) where
  recv_act_meets : (w : PlainWorld) (l : ℕ) (act : RecvAct) → Meeting w → l < length w.pairs → (pair_at w l).recv ≡ RecvDoes act → MeetsAt w l (recv_does (pair_at w l) act)
  recv_act_meets w l act m within is = (
    recv_does_down (IsTrueOf (transfer_of w.sender) l) (piece_true (transfer_of w.sender) l) (pair_at w l) act (m.says l within),
    recv_does_climbs (recv.lane_at w.receiver l).conn (past_at w.sender l).connections (pair_at w l) act is (m.conns l within),
  )

  pub meeting_after : (w : PlainWorld) (e : WorldEvent) → IsSound w → Meeting w → lane_of e < length w.pairs → Meeting (happens w e)
  meeting_after w (Sends l lost) s m within =
      send_cases Meeting w l lost (λ act is. pair_meets w l (send_does (pair_at w l) lost act) within m (send_act_meets w l s.talk m within lost act is))
      (λ input is. send_turn_meets touches comes writes w l input s m within is)
  meeting_after w (Receives l broken) s m within =
      recv_cases Meeting w l broken m (λ act is. pair_meets w l (recv_does (pair_at w l) act) within m (recv_act_meets w l act m within is))
      (λ put hands. recv_turn_meets w l s.talk m within put hands broken)
  meeting_after w (Cut l down up) s m within = pair_meets w l (cuts_by (pair_at w l) down up (top (pair_at w l))) within m (cut_meets w l s.talk m within down up)
  meeting_after w (Deny l) s m within =
      pair_meets w l (record (pair_at w l) { denies = suc (pair_at w l).denies }) within m (tries_meet w l s.talk m within (suc (pair_at w l).denies) (pair_at w l).refusals)
  meeting_after w (Refuse l) s m within =
      pair_meets w l (record (pair_at w l) { refusals = suc (pair_at w l).refusals }) within m (tries_meet w l s.talk m within (pair_at w l).denies (suc (pair_at w l).refusals))

-- ---- a world that begins

module _ (manifest : List Entry) (block session : ℕ) (log : Meaning) (batch n : ℕ) (conn : Conn) where
  abbrev first : PlainWorld
  first = first_world manifest block session log batch n conn

  first_lane : (l : ℕ) → l < n → recv.lane_at first.receiver l ≡ recv.new_lane
  first_lane l within = ap recv.lane_or_ended (get_same n l recv.new_lane within)

  pub meeting_first : Meeting first
  meeting_first =
      record {
        says = λ l within.
            subst (λ (p : Pair). GoesDown (IsTrueOf (transfer_of first.sender) l) p) (sym (pair_is manifest block session log batch n conn l (in_pairs manifest block session log batch n conn l within)))
            record { hand = tt; says = tt; taken = tt; between = tt; newest = tt };
        conns = λ l within.
            let small = in_pairs manifest block session log batch n conn l within in
            subst (λ (p : Pair). Climbs (recv.lane_at first.receiver l).conn (conns_of p) (past_at first.sender l).connections) (sym (pair_is manifest block session log batch n conn l small))
            (subst (λ (lane : RecvLane). lane.conn ≤ (past_at first.sender l).connections) (sym (first_lane l small)) (omega arith));
        met = λ s e. none_met (end_of first.receiver.history).met s (ap (λ (x : EndPast). x.met) end_of-none) e;
        sized = λ x e. none_met (end_of first.receiver.history).sized x (ap (λ (y : EndPast). y.sized) end_of-none) e;
        known = λ number file e. inr (number, e);
        once = λ view i j x y. once_opened log.files view i j x y;
        numbers = λ number file e. e;
      } where
        none_met : {A : Type 0} {P : Type 0} (o : Option A) (x : A) → o ≡ None → o ≡ Some x → P
        none_met o x none some = let e : None ≡ Some x = sym none ∙ some in cc
