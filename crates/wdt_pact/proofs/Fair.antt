-- A receiver finds no fault with its sender: not with what it tells of itself, of all that is sent and of its files, and with no block.
use Rattle.std.proofs.Common.{◌≡◌, ◌⊎◌, inl, inr, ℕ, ◌<◌, ◌≤◌, ◌+◌, ◌==◌, ◌&&◌, not, nat_le, nat_lt, Bool, true, false, List, [], ◌∷◌, ◌++◌, length, Option, Some, None, IfSome, is_some, subst, sym, ap, ◌∙◌, refl, arith, eq-eqb}
use Rattle.std.specs.Prelude.{if◌then◌else◌}
use Rattle.std.specs.Option.{option_map}
use Rattle.std.proofs.lemmas.Bool.{both_ways, lt-leb}
use Rattle.std.proofs.lemmas.Option.{same_Some}
use Rattle.wdt_units.specs.Have.{HaveFile}
use Rattle.wdt_units.specs.declared.limits.TheConstants.{MAX_FILES, MAX_SPANS, MAX_TOTAL}
use Rattle.wdt_units.specs.declared.blocks.Block.{Block}
use Rattle.wdt_units.specs.declared.blocks.Header.{Header}
use Rattle.wdt_codec.specs.declared.frames.Frame.{Frame}
use Rattle.wdt_codec.specs.declared.frames.Frame.TheVariants as frames
use Rattle.wdt_codec.specs.declared.frames.Settings.{Settings}
use Rattle.wdt_logfmt.specs.Beginning.{BeginFault, OverLimit, Overlap, KnownFile, block_of, begin_fault, bytes_with, files_with, first_taken, is_new, known_at, limit_fault, or_else, over, overlap_fault, overlap_fault_by, size_fault as known_fault, spans_with}
use Rattle.wdt_logfmt.specs.Marks.{Marked}
use Rattle.wdt_logfmt.specs.View.{NamedFile, is_view}
use Rattle.wdt_rest.specs.Fitting.{first_unfit, found_in}
use Rattle.wdt_sender_fsm.specs.declared.answers.EndAnswer.{EndAnswer}
use Rattle.wdt_sender_fsm.specs.declared.answers.EndAnswer.TheVariants as answers
use Rattle.wdt_sender_fsm.specs.declared.peers.PeerKind.{PeerKind}
use Rattle.wdt_sender_fsm.specs.declared.peers.PeerKind.TheVariants as peers
use Rattle.wdt_sender_fsm.specs.Phases.{is_abort}
use Rattle.wdt_sender_fsm.specs.PlainSender.{past_at}
use Rattle.wdt_sender_fsm.specs.Rules.{is_failure}
use Rattle.wdt_sender_fsm.specs.Sender.{IsAccepted}
use Rattle.wdt_receiver_fsm.specs.declared.inputs.RecvIn.{RecvIn}
use Rattle.wdt_receiver_fsm.specs.declared.inputs.RecvIn.TheVariants as inputs
use Rattle.wdt_receiver_fsm.specs.declared.states.RecvState.{RecvState}
use Rattle.wdt_receiver_fsm.specs.declared.states.RecvState.TheVariants as states
use Rattle.wdt_receiver_fsm.specs.Causes.{FallsShort, Follows, IsCause, Misspeaks}
use Rattle.wdt_receiver_fsm.specs.Frames.{block_by, block_fault, kind_of, most_landed, session_by, settings_fault, size_fault}
use Rattle.wdt_receiver_fsm.specs.Outcomes.{ByDone, ByWait, ByWaking, Idles, Mistakes, NoFrame, NoPlace, WrongSettings, OtherSize, WrongBlock}
use Rattle.wdt_receiver_fsm.specs.Phases.{is_named}
use Rattle.wdt_receiver_fsm.specs.Plan.{EndsIn}
use Rattle.wdt_receiver_fsm.specs.PlainReceiver as recv
use Rattle.wdt_receiver_fsm.specs.PlainReceiver.{PlainReceiver}
use Rattle.wdt_receiver_fsm.specs.ReceiverHistory.{end_of}
use Rattle.wdt_receiver_fsm.specs.Rows.{Unexpected, is_reading, place_of, row_of}
use Rattle.wdt_receiver_fsm.specs.Turn.{Given, Put, Step, turn_plan}
use Rattle.wdt_receiver_fsm.proofs.ForCallers.{turn_follows, turn_touches}
use Rattle.wdt_pact.specs.Each.{Each}
use Rattle.wdt_pact.specs.Finishing.{Finishing}
use Rattle.wdt_pact.specs.Fitting.{AreOfLanes, IsSound, lane_of}
use Rattle.wdt_pact.specs.Lists.{in_hand}
use Rattle.wdt_pact.specs.Meeting.{Climbs, IsOwn, IsTrueOf, Meeting, conns_in, totals_of, transfer_of}
use Rattle.wdt_pact.specs.Pairs.{RecvHold, RecvHas}
use Rattle.wdt_pact.specs.World.{PlainWorld, WorldEvent, Sends, Receives, Cut, Deny, Refuse, all_happen, happens, number, pair_at, recv_turn}
use Rattle.wdt_pact.proofs.Beginning.{receives_named}
use Rattle.wdt_pact.proofs.Conns.{conns_behind}
use Rattle.wdt_pact.proofs.Events.{recv_cases, send_cases}
use Rattle.wdt_pact.proofs.Confirming.{SoundLanes}
use Rattle.wdt_pact.proofs.FilesIn.{files_in_limit}
use Rattle.wdt_pact.proofs.KnownFiles.{known_found, size_right, unrefused}
use Rattle.wdt_pact.proofs.Meeting.{read_true}
use Rattle.wdt_pact.proofs.NextBlocks.{AreByOne, AreOnce, ArePlanned, Empties, IsTheRest, Positions, behind, has_plan, next_apart, next_missing}
use Rattle.wdt_pact.proofs.NeverShort.{falls_not}
use Rattle.wdt_pact.proofs.NoOverlap.{none_taken}
use Rattle.wdt_pact.proofs.RecvHands.{Hands, holds_input}
use Rattle.wdt_pact.proofs.RecvRows.{ends_in, recv_fares}
use Rattle.wdt_pact.proofs.RecvSeen as recv_seen
use Rattle.wdt_pact.proofs.SpansIn.{spans_in_limit}
use Rattle.wdt_pact.proofs.Within.{AreOrdered, ArePlaced, bytes_in_limit, few_landed}
use Rattle.wdt_pact.proofs.Worlds.{many_stay}

-- ---- what is told right

some_none : {A : Type 0} (x : A) → None ≡ Some x → ⊥
some_none x e = cc

test_true : (n : ℕ) → (n == n) ≡ true
test_true n = eq-eqb n n refl

-- the settings of a transfer are those that were read first, and their connection is a later one
settings_right : (n : ℕ) (met : Option Settings) (l conn : ℕ) (s : Settings) → s.version ≡ 1 → s.lane.0 ≡ l → s.lanes ≡ n → conn < s.conn.0
    → ((x : Settings) → met ≡ Some x → (s.session ≡ x.session) × (s.block ≡ x.block)) → settings_fault n met l conn s ≡ None
settings_right n None l conn s version lane lanes later same =
    rw (eq-eqb s.version 1 version, test_true s.session, eq-eqb s.lane.0 l lane, eq-eqb s.lanes n lanes, lt-leb s.conn.0 conn later, test_true s.block) refl
settings_right n (Some x) l conn s version lane lanes later same =
    let e = same x refl in
    rw (eq-eqb s.version 1 version, eq-eqb s.session x.session e.0, eq-eqb s.lane.0 l lane, eq-eqb s.lanes n lanes, lt-leb s.conn.0 conn later, eq-eqb s.block x.block e.1) refl

-- the totals are those that were read first
sizes_right : (sized : Option (ℕ × ℕ)) (files bytes : ℕ) → ((x : ℕ × ℕ) → sized ≡ Some x → (files, bytes) ≡ x) → size_fault sized files bytes ≡ None
sizes_right None files bytes same = refl
sizes_right (Some x) files bytes same =
    let e = same x refl in
    let few : x.0 ≡ files = ap (λ (y : ℕ × ℕ). y.0) (sym e) in
    let many : x.1 ≡ bytes = ap (λ (y : ℕ × ℕ). y.1) (sym e) in
    rw (eq-eqb x.0 files few, eq-eqb x.1 bytes many) refl

-- ---- a block may begin

may_begin : (known : List (Option KnownFile)) (ms : List Marked) (begun : List Block) (h : Header) → known_fault known h ≡ None → first_taken ms begun (block_of known h) ≡ None → over MAX_FILES (files_with known (is_new known h)) ≡ None
    → over MAX_SPANS (spans_with ms (block_of known h ∷ begun)) ≡ None → over MAX_TOTAL (bytes_with ms (block_of known h ∷ begun)) ≡ None → begin_fault known ms begun h ≡ None
may_begin known ms begun h right free files spans bytes =
    ap (λ (o : Option BeginFault). or_else o (or_else (overlap_fault ms begun (block_of known h)) (limit_fault known ms begun (is_new known h) (block_of known h)))) right
    ∙ (ap (λ (o : Option ℕ). or_else (overlap_fault_by o) (limit_fault known ms begun (is_new known h) (block_of known h))) free
    ∙ (ap (λ (o : Option BeginFault). or_else o (or_else (over MAX_SPANS (spans_with ms (block_of known h ∷ begun))) (over MAX_TOTAL (bytes_with ms (block_of known h ∷ begun))))) files
    ∙ (ap (λ (o : Option BeginFault). or_else o (over MAX_TOTAL (bytes_with ms (block_of known h ∷ begun)))) spans ∙ bytes)))

none_wrong : (known : List (Option KnownFile)) (ms : List Marked) (begun : List Block) (landed : ℕ) (h : Header) → nat_le most_landed landed ≡ false → begin_fault known ms begun h ≡ None → block_fault known ms begun landed h ≡ None
none_wrong known ms begun landed h few none =
    ap (λ (b : Bool). if b then Some (peers.OverLimit (landed + 1)) else option_map kind_of (begin_fault known ms begun h)) few ∙ ap (option_map kind_of) none

-- ---- a frame that tells of a failure has its row

abort_row : (sized : Bool) (st : RecvState) (f : Frame) (a b : ℕ) → is_reading st ≡ true → is_abort f ≡ true → row_of sized st (inputs.Got f) ≡ Unexpected a b → ⊥
abort_row sized states.ReadSettings (frames.Abort code) a b reads aborts e = cc
abort_row sized states.ReadNextCmd (frames.Abort code) a b reads aborts e = cc
abort_row sized states.ReadAck (frames.Abort code) a b reads aborts e = cc
abort_row sized st (frames.Abort code) a b reads aborts e = cc
abort_row sized st f a b reads aborts e = cc

-- ---- a turn of the receiver's lane

module _ (positions : Positions) (planned : ArePlanned) (once : AreOnce) (by_one : AreByOne) (empties : Empties) (rests : IsTheRest) (sounds : SoundLanes) (places : ArePlaced) (orders : AreOrdered) where
  module _ (w : PlainWorld) (l : ℕ) (s : IsSound w) (f : Finishing w) (m : Meeting w) (view : is_view w.receiver.opening ≡ true) (within : l < length w.pairs) (put : Put) (hands : Hands (pair_at w l).recv put) where
    many : length w.sender.lanes ≡ length w.receiver.lanes
    many = s.talk.send_lanes ∙ sym s.talk.recv_lanes

    -- the number that it reads now is above that which it read last
    later : (x : Settings) → put ≡ Given (inputs.Got (frames.Settings x)) → (recv.lane_at w.receiver l).conn < x.conn.0
    later x given =
        (subst (λ (h : RecvHold). Climbs (recv.lane_at w.receiver l).conn (conns_in (in_hand h) ++ conns_behind (pair_at w l)) (past_at w.sender l).connections)
        (holds_input (pair_at w l).recv put (inputs.Got (frames.Settings x)) hands given refl) (m.conns l within)).0

    -- where blocks are read, the sender has a plan, and so the destination has no stale file
    fresh : (recv.lane_at w.receiver l).is_sized ≡ true → recv.state_at w.receiver l ≡ states.ReadNextCmd → first_unfit w.sender.manifest (recv.have_now w.receiver.opening w.receiver.history) ≡ None
    fresh sized here = go w.sender.have refl (f.sized ((recv_fares w l states.ReadNextCmd s.talk within here).2 sized)) s.talk.sender.plan.accepted where
      go : (o : Option (List HaveFile)) → w.sender.have ≡ o → is_some o ≡ true → IfSome o (IsAccepted w.sender.manifest w.sender.block) → first_unfit w.sender.manifest (recv.have_now w.receiver.opening w.receiver.history) ≡ None
      go None is some a = cc
      go (Some have) is some a = ap (first_unfit w.sender.manifest) (sym (f.list have is)) ∙ unrefused w.sender.manifest have w.sender.block a.sent

    mistake_not : (st : RecvState) (kind : PeerKind) → recv.state_at w.receiver l ≡ st → is_reading st ≡ true → Mistakes w.receiver (number l) st put kind → ⊥
    mistake_not st kind here reads (NoFrame at given is) = recv_seen.hands_not w l s.talk within put hands (s.belongs.recv l within) (inputs.Bad at) given refl (λ b. b)
    mistake_not st kind here reads (NoPlace frame command given row is) = go (is_abort frame) refl where
      go : (b : Bool) → is_abort frame ≡ b → ⊥
      go true aborts = abort_row (recv.lane_at w.receiver l).is_sized st frame (place_of st) command reads aborts row
      go false calm =
          both_ways (is_named (row_of (recv.lane_at w.receiver l).is_sized st (inputs.Got frame))) (ap is_named row)
          (subst (λ (x : RecvState). is_named (row_of (recv.lane_at w.receiver l).is_sized x (inputs.Got frame)) ≡ true) here
          (receives_named w l frame s within (holds_input (pair_at w l).recv put (inputs.Got frame) hands given refl) calm))
    mistake_not st kind here reads (WrongSettings x field given at fault is) =
        let own : IsOwn (transfer_of w.sender) l x = read_true w l s.talk m within put hands None (frames.Settings x) given in
        some_none field
        (sym (settings_right (length w.receiver.lanes) (end_of w.receiver.history).met l (recv.lane_at w.receiver l).conn x own.version own.lane (own.lanes ∙ many) (later x given)
        (λ y e. let first = m.met y e in (own.session ∙ sym first.0, own.block ∙ sym first.1))) ∙ fault)
    mistake_not st kind here reads (OtherSize files bytes given at sized fault) =
        some_none kind
        (sym (sizes_right (end_of w.receiver.history).sized files bytes (λ x e. read_true w l s.talk m within put hands None (frames.Size files bytes) given ∙ sym (m.sized x e))) ∙ fault)
    mistake_not st kind here reads (WrongBlock h given at sized fault) =
        let holds = holds_input (pair_at w l).recv put (inputs.Got (frames.Block h)) hands given refl in
        let new = fresh sized (here ∙ at) in
        let p = has_plan positions planned once by_one empties rests w s l h within (here ∙ at) holds in
        let next = behind positions planned once by_one empties rests w s l h within (here ∙ at) holds in
        let true_file = read_true w l s.talk m within put hands None (frames.Block h) given in
        some_none kind
        (sym (none_wrong w.receiver.known (recv.marks_at w.receiver) (recv.begun_blocks w.receiver) (length (recv.past_at w.receiver l).landed) h (few_landed places w s l h within next f view orders p.have p.known)
        (may_begin w.receiver.known (recv.marks_at w.receiver) (recv.begun_blocks w.receiver) h
        (size_right w.receiver.known w.sender.manifest h (λ n file e. known_found w.sender.manifest w.receiver.opening w.receiver.history file new (m.known n file e)) true_file)
        (none_taken w s m view h (next_missing positions planned once by_one empties rests w s l h within (here ∙ at) holds f) (next_apart positions planned once by_one empties rests w s l h within (here ∙ at) holds))
        (files_in_limit w s m view new h true_file) (spans_in_limit places w s m view new l h within next f orders p.have p.known) (bytes_in_limit places w s l h within next f view orders p.have p.known))) ∙ fault)

    -- what is idle has read the totals, so the sender has a plan
    planned_at : (t : PlainReceiver) → Idles w.receiver (number l) put t → is_some w.sender.have ≡ true
    planned_at t (ByDone serves sized given is) = f.sized ((recv_fares w l states.ReadNextCmd s.talk within serves.here).2 sized)
    planned_at t (ByWait serves given is) = f.sized (recv_fares w l states.SendWait s.talk within serves.here).0.sized
    planned_at t (ByWaking serves given is) = f.sized (recv_fares w l states.WaitForFinish s.talk within serves.here).0.sized

    short_not : (kind : PeerKind) → FallsShort w.receiver (number l) put kind → ⊥
    short_not kind x = go w.sender.have refl (planned_at x.idle x.finishes.idles) s.talk.sender.plan.accepted where
      go : (o : Option (List HaveFile)) → w.sender.have ≡ o → is_some o ≡ true → IfSome o (IsAccepted w.sender.manifest w.sender.block) → ⊥
      go None is e a = cc
      go (Some have) is e a =
          falls_not sounds places orders w l s f m view within (ap (first_unfit w.sender.manifest) (sym (f.list have is)) ∙ unrefused w.sender.manifest have w.sender.block a.sent) have is put hands kind x

    -- an answer that names a fault was there
    turn_fair : (step : Step) (kind : PeerKind) → EndsIn (Unit {0}) (turn_plan w.receiver (number l) put) step → step.1.answer ≡ answers.Peer kind → w.receiver.answer ≡ answers.Peer kind
    turn_fair step kind ends e = go (is_failure w.receiver.answer) refl where
      x : Follows w.receiver (number l) put step.1
      x = turn_follows w.receiver (number l) put step ends

      go : (b : Bool) → is_failure w.receiver.answer ≡ b → w.receiver.answer ≡ answers.Peer kind
      go true fails = sym (ap (λ (r : PlainReceiver). r.answer) (x.still fails)) ∙ e
      go false sound = elim (subst (IsCause w.receiver (number l) put step.1) e (x.caused sound)).0 [
        | inl wrong ↦ absurd (mistake_not wrong.state kind wrong.serves.here wrong.reads wrong.said)
        | inr short ↦ absurd (short_not kind short)
      ]

  -- ---- whatever happens

  pub fair_after : (w : PlainWorld) (e : WorldEvent) (kind : PeerKind) → IsSound w → Finishing w → Meeting w → is_view w.receiver.opening ≡ true → lane_of e < length w.pairs → (happens w e).receiver.answer ≡ answers.Peer kind
      → w.receiver.answer ≡ answers.Peer kind
  fair_after w (Sends l lost) kind s f m view within =
      send_cases (λ (v : PlainWorld). v.receiver.answer ≡ answers.Peer kind → w.receiver.answer ≡ answers.Peer kind) w l lost (λ act is e. e) (λ input is e. e)
  fair_after w (Receives l broken) kind s f m view within =
      recv_cases (λ (v : PlainWorld). v.receiver.answer ≡ answers.Peer kind → w.receiver.answer ≡ answers.Peer kind) w l broken (λ e. e) (λ act is e. e)
      (λ put hands e. turn_fair w l s f m view within put hands (recv_turn w.receiver l put broken) kind (ends_in (turn_plan w.receiver (number l) put) broken) e)
  fair_after w (Cut l down up) kind s f m view within = λ e. e
  fair_after w (Deny l) kind s f m view within = λ e. e
  fair_after w (Refuse l) kind s f m view within = λ e. e

-- ---- worlds behind many events

pub all_fair : (good : PlainWorld → Type 0) → ((w : PlainWorld) (e : WorldEvent) → good w → lane_of e < length w.pairs → good (happens w e))
    → ((w : PlainWorld) (e : WorldEvent) (kind : PeerKind) → good w → lane_of e < length w.pairs → (happens w e).receiver.answer ≡ answers.Peer kind → w.receiver.answer ≡ answers.Peer kind)
    → (es : List WorldEvent) (w : PlainWorld) (kind : PeerKind) → good w → AreOfLanes (length w.pairs) es → (all_happen w es).receiver.answer ≡ answers.Peer kind → w.receiver.answer ≡ answers.Peer kind
all_fair good keeps one [] w kind g of e = e
all_fair good keeps one (d ∷ es) w kind g of e =
    one w d kind g of.0 (all_fair good keeps one es (happens w d) kind (keeps w d g of.0) (subst (λ (n : ℕ). AreOfLanes n es) (sym (many_stay w d)) of.1) e)

-- an end that begins has found none
pub fair_first : (kind : PeerKind) → answers.Going ≡ answers.Peer kind → ⊥
fair_first kind e = cc

-- what the log said as it was opened stays
pub opening_after : (w : PlainWorld) (e : WorldEvent) → (happens w e).receiver.opening ≡ w.receiver.opening
opening_after w (Sends l lost) = send_cases (λ (v : PlainWorld). v.receiver.opening ≡ w.receiver.opening) w l lost (λ act is. refl) (λ input is. refl)
opening_after w (Receives l broken) =
    recv_cases (λ (v : PlainWorld). v.receiver.opening ≡ w.receiver.opening) w l broken refl (λ act is. refl)
    (λ put hands. (turn_touches w.receiver (number l) put (recv_turn w.receiver l put broken) (ends_in (turn_plan w.receiver (number l) put) broken)).opening)
opening_after w (Cut l down up) = refl
opening_after w (Deny l) = refl
opening_after w (Refuse l) = refl
