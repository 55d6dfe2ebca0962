-- The steps of the receiver's lane with a block: it begins, goes on, and lands.
use Rattle.std.proofs.Common.{◌≡◌, ℕ, ◌+◌, ◌-◌, ◌<◌, ◌&&◌, ◌==◌, min, not, nat_le, Bool, true, false, if◌then◌else◌, List, [], ◌∷◌, ◌++◌, length, map, option_map, is_some, Option, Some, None, subst, sym, ap, ◌∙◌, refl, eq-eqb, eqb-true, arith}
use Rattle.std.proofs.lemmas.Bool.{and_parts, both_ways, ne_eqb}
use Rattle.std.proofs.lemmas.List.{length-replicate, map-append}
use Rattle.wdt_units.specs.declared.blocks.Block.{Block}
use Rattle.wdt_units.specs.declared.blocks.Header.{Header}
use Rattle.wdt_codec.specs.declared.frames.Frame.TheVariants as frames
use Rattle.wdt_logfmt.specs.Beginning.{BeginFault, KnownFile, SizeDiffers, begin_fault, block_of, is_new, known_at, number_by, number_of, or_else, size_fault, size_fault_by, with_known}
use Rattle.wdt_logfmt.specs.Marks.{Marked}
use Rattle.wdt_logfmt.proofs.ForCallers.{new_slot, number_found}
use Rattle.wdt_sender_fsm.specs.Phases.{Mid, Sending as SendingPhase, piece_from, piece_most, with_left}
use Rattle.wdt_sender_fsm.specs.declared.answers.EndAnswer.TheVariants as answers
use Rattle.wdt_sender_fsm.specs.declared.peers.PeerKind.TheVariants as peers
use Rattle.wdt_sender_fsm.specs.Rules.{is_failure}
use Rattle.wdt_receiver_fsm.specs.declared.acts.RecvAct.TheVariants as recv_acts
use Rattle.wdt_receiver_fsm.specs.declared.events.RecvEvent.TheVariants as recv_events
use Rattle.wdt_receiver_fsm.specs.declared.states.RecvLane.{RecvLane}
use Rattle.wdt_receiver_fsm.specs.declared.states.RecvState.TheVariants as recv_states
use Rattle.wdt_receiver_fsm.specs.Frames.{block_fault, kind_of, most_landed}
use Rattle.wdt_receiver_fsm.specs.Logging.{all_logged}
use Rattle.wdt_receiver_fsm.specs.Outcomes.{landed_by}
use Rattle.wdt_receiver_fsm.specs.Phases.{sized_by}
use Rattle.wdt_receiver_fsm.specs.Plan.{EndsIn}
use Rattle.wdt_receiver_fsm.specs.PlainReceiver.{PlainReceiver, failed, goes, is_ended, lane_at, past_at, state_at, with_lane}
use Rattle.wdt_receiver_fsm.specs.Receiver.{Fares}
use Rattle.wdt_receiver_fsm.specs.ReceiverHistory.{RecvPast, end_of}
use Rattle.wdt_receiver_fsm.specs.Turn.{Bytes, Put, Step, file_of_header, reads, takes_piece, tells_failure, turn_plan}
use Rattle.wdt_receiver_fsm.specs.Writes.{CanTell}
use Rattle.wdt_pact.specs.Pairs.{RecvDoes, RecvTook}
use Rattle.wdt_pact.specs.World.{PlainWorld, number, pair_at, recv_turned, some_bytes}
use Rattle.wdt_pact.specs.Stances.{Talks, stand}
use Rattle.wdt_pact.specs.Conversation.{Conversation, Converses, IsNamed, Receiving, common, header_from, known_header, receiving_of, sending}
use Rattle.wdt_pact.proofs.Grows.{converses_on}
use Rattle.wdt_pact.proofs.Landing.{lands_here}
use Rattle.wdt_pact.proofs.Lists.{Each-append}
use Rattle.wdt_pact.proofs.RecvMoves.{warns_here}
use Rattle.wdt_pact.proofs.RecvOwn.{Own, own_failed, own_goes, own_logged, own_noted, own_put, own_self}
use Rattle.wdt_pact.proofs.RecvRows.{recv_fares, recv_row_at}
use Rattle.wdt_pact.proofs.RecvSteps.{own_keeps, still_keeps}

-- ---- more of the block is to come

mid_left : (left n rest : ℕ) → n ≡ min left piece_most → left - n ≡ rest → (rest ≡ 0 → ⊥) → piece_from left n ≡ Some (Mid rest)
mid_left left n rest is more some =
    ap (λ (b : Bool). if b then Some (with_left (left - n)) else None) (eq-eqb n (min left piece_most) is)
    ∙ (ap (λ (k : ℕ). Some (with_left k)) more ∙ ap (λ (b : Bool). Some (if b then SendingPhase else Mid rest)) (ne_eqb rest 0 some))

module _ (w : PlainWorld) (l : ℕ) (c : Conversation w) (within : l < length w.pairs) (tells : CanTell w.receiver) where
  abbrev Ends : Put → Step → Type 0
  Ends put step = EndsIn (Unit {0}) (turn_plan w.receiver (number l) put) step

  abbrev lane : RecvLane
  lane = lane_at w.receiver l

  abbrev past : RecvPast
  past = past_at w.receiver l

  small : l < length w.receiver.lanes
  small = subst (λ (n : ℕ). l < n) (sym c.recv_lanes) within

  pub taken_keeps : (n left : ℕ) → Ends (Bytes (some_bytes n)) (takes_piece w.receiver (number l) left) → state_at w.receiver l ≡ recv_states.TakeBlock → (pair_at w l).recv ≡ RecvTook n
      → lane.left - length (some_bytes n) ≡ left → (left ≡ 0 → ⊥) → Conversation (recv_turned w l (takes_piece w.receiver (number l) left))
  taken_keeps n left ends here holds rest more =
      still_keeps w l c within tells (Bytes (some_bytes n)) (takes_piece w.receiver (number l) left) recv_states.TakeBlock (RecvTook n) (record lane { state = recv_states.TakeBlock; left = left }) past tt ends here holds refl
      (own_put w.receiver w.receiver l w.receiver.known lane past (record lane { state = recv_states.TakeBlock; left = left }) small (own_self w.receiver l))
      refl refl refl
      (sym (ap (stand false) (mid_left lane.left n left (recv_row_at w l recv_states.TakeBlock (RecvTook n) c within here holds).pieces (sym (ap (λ (k : ℕ). lane.left - k) (length-replicate n 0)) ∙ rest) more)))
      (λ ds. refl) (λ ds e. e) (λ grows. tt) refl (λ e. e) tt refl

  -- ---- it lands

  -- behind a landed block the lane stands so
  abbrev landed_past : Block → RecvPast
  landed_past b = record past { landed = past.landed ++ b ∷ []; begun = None }

  abbrev landed_side : Block → Receiving
  landed_side b = record { lane = record lane { state = recv_states.ReadNextCmd; left = 0 }; past = landed_past b; landed = map (known_header w.receiver.known) past.landed ++ known_header w.receiver.known b ∷ []; begun = None }

  own_landed : (b : Block) → past.begun ≡ Some b → Own w.receiver (landed_by w.receiver (number l) b) l w.receiver.known (record lane { left = 0 }) (landed_past b)
  own_landed b begun =
      let o =
      own_noted w.receiver (with_lane w.receiver l (record lane { left = 0 })) l w.receiver.known (record lane { left = 0 }) past (recv_events.Land (number l) ∷ []) (landed_past b) (rw (eq-eqb l l refl, begun) refl) refl
      (own_put w.receiver w.receiver l w.receiver.known lane past (record lane { left = 0 }) small (own_self w.receiver l)) in
      record { many = o.many; known = o.known; lane = o.lane; past = o.past; finish = o.finish }

  landed_named : (b : Block) → past.begun ≡ Some b → IsNamed w.receiver.known (landed_past b)
  landed_named b begun = record { landed = Each-append _ past.landed (b ∷ []) (c.named l within).landed ((c.named l within).begun b begun, tt); begun = λ x e. cc }

  landed_headers : (st : RecvLane) (b : Block) → receiving_of w.receiver.known st (landed_past b) ≡ record { lane = st; past = landed_past b; landed = map (known_header w.receiver.known) past.landed ++ known_header w.receiver.known b ∷ []; begun = None }
  landed_headers st b = ap (λ (hs : List Header). record { lane = st; past = landed_past b; landed = hs; begun = None }) (map-append (known_header w.receiver.known) past.landed (b ∷ []))

  lands_part : (n : ℕ) (b : Block) → state_at w.receiver l ≡ recv_states.TakeBlock → (pair_at w l).recv ≡ RecvTook n → past.begun ≡ Some b → lane.left - length (some_bytes n) ≡ 0
      → Converses (common w.receiver) l (sending w.sender l) (landed_side b) (record (pair_at w l) { recv = RecvDoes recv_acts.Read })
  lands_part n b here holds begun last =
      let fares : Fares (is_failure w.receiver.answer) recv_states.TakeBlock lane past (end_of w.receiver.history) = recv_fares w l recv_states.TakeBlock c within here in
      lands_here (common w.receiver) l (sending w.sender l) lane past (landed_past b) (map (known_header w.receiver.known) past.landed) (option_map (known_header w.receiver.known) past.begun) (known_header w.receiver.known b) b n
      (pair_at w l).send (pair_at w l).taken (pair_at w l).between (pair_at w l).newest (pair_at w l).denies (pair_at w l).refusals fares.0.idle fares.0.goes_on.closed (λ e. both_ways (common w.receiver).finish fares.0.finish e) fares.2
      (sym (ap (λ (k : ℕ). lane.left - k) (length-replicate n 0)) ∙ last) (ap (option_map (known_header w.receiver.known)) begun) refl
      (recv_row_at w l recv_states.TakeBlock (RecvTook n) c within here holds)

  -- behind a landed block the lane reads on, logged or not
  lands_so : (n : ℕ) (b : Block) (t : PlainReceiver) → Own w.receiver t l w.receiver.known (record lane { left = 0 }) (landed_past b) → Ends (Bytes (some_bytes n)) (reads (goes t l recv_states.ReadNextCmd))
      → state_at w.receiver l ≡ recv_states.TakeBlock → (pair_at w l).recv ≡ RecvTook n → past.begun ≡ Some b → lane.left - length (some_bytes n) ≡ 0 → Conversation (recv_turned w l (reads (goes t l recv_states.ReadNextCmd)))
  lands_so n b t own ends here holds begun last =
      own_keeps w l (Bytes (some_bytes n)) (reads (goes t l recv_states.ReadNextCmd)) w.receiver.known (record lane { state = recv_states.ReadNextCmd; left = 0 }) (landed_past b) c within ends (ap is_ended here)
      (own_goes w.receiver t l w.receiver.known (record lane { left = 0 }) (landed_past b) recv_states.ReadNextCmd small own) (landed_named b begun)
      (λ grows.
      subst (λ (x : Receiving). Converses (common (goes t l recv_states.ReadNextCmd)) l (sending w.sender l) x (record (pair_at w l) { recv = RecvDoes recv_acts.Read })) (sym (landed_headers (record lane { state = recv_states.ReadNextCmd; left = 0 }) b))
      (converses_on (common w.receiver) (common (goes t l recv_states.ReadNextCmd)) l (sending w.sender l) (landed_side b) (record (pair_at w l) { recv = RecvDoes recv_acts.Read }) grows (lands_part n b here holds begun last)))

  pub landed_keeps : (n : ℕ) (b : Block) → Ends (Bytes (some_bytes n)) (reads (goes (landed_by w.receiver (number l) b) l recv_states.ReadNextCmd))
      → state_at w.receiver l ≡ recv_states.TakeBlock → (pair_at w l).recv ≡ RecvTook n → past.begun ≡ Some b → lane.left - length (some_bytes n) ≡ 0 → Conversation (recv_turned w l (reads (goes (landed_by w.receiver (number l) b) l recv_states.ReadNextCmd)))
  landed_keeps n b ends here holds begun last = lands_so n b (landed_by w.receiver (number l) b) (own_landed b begun) ends here holds begun last

  pub logged_keeps : (n : ℕ) (b : Block) → Ends (Bytes (some_bytes n)) (reads (goes (all_logged (landed_by w.receiver (number l) b)) l recv_states.ReadNextCmd))
      → state_at w.receiver l ≡ recv_states.TakeBlock → (pair_at w l).recv ≡ RecvTook n → past.begun ≡ Some b → lane.left - length (some_bytes n) ≡ 0 → Conversation (recv_turned w l (reads (goes (all_logged (landed_by w.receiver (number l) b)) l recv_states.ReadNextCmd)))
  logged_keeps n b ends here holds begun last =
      lands_so n b (all_logged (landed_by w.receiver (number l) b)) (own_logged w.receiver (landed_by w.receiver (number l) b) l w.receiver.known (record lane { left = 0 }) (landed_past b) (own_landed b begun)) ends here holds begun last

  -- it landed, and couldn't be logged
  pub unlogged_keeps : (n : ℕ) (b : Block) → Ends (Bytes (some_bytes n)) (tells_failure (failed (landed_by w.receiver (number l) b) answers.Disk) (number l))
      → state_at w.receiver l ≡ recv_states.TakeBlock → (pair_at w l).recv ≡ RecvTook n → past.begun ≡ Some b → lane.left - length (some_bytes n) ≡ 0 → Conversation (recv_turned w l (tells_failure (failed (landed_by w.receiver (number l) b) answers.Disk) (number l)))
  unlogged_keeps n b ends here holds begun last =
      let fares : Fares (is_failure w.receiver.answer) recv_states.TakeBlock lane past (end_of w.receiver.history) = recv_fares w l recv_states.TakeBlock c within here in
      let sized : Talks (sized_by lane.is_sized) ≡ Talks SendingPhase = ap (λ (x : Bool). Talks (sized_by x)) fares.2 in
      own_keeps w l (Bytes (some_bytes n)) (tells_failure (failed (landed_by w.receiver (number l) b) answers.Disk) (number l)) w.receiver.known (record lane { state = recv_states.SendAbort; left = 0 }) (landed_past b) c within ends (ap is_ended here)
      (own_goes w.receiver (failed (landed_by w.receiver (number l) b) answers.Disk) l w.receiver.known (record lane { left = 0 }) (landed_past b) recv_states.SendAbort small
      (own_failed w.receiver (landed_by w.receiver (number l) b) l w.receiver.known (record lane { left = 0 }) (landed_past b) answers.Disk (own_landed b begun))) (landed_named b begun)
      (λ grows.
      subst (λ (x : Receiving). Converses (common (tells_failure (failed (landed_by w.receiver (number l) b) answers.Disk) (number l)).1) l (sending w.sender l) x (record (pair_at w l) { recv = RecvDoes (recv_acts.Write (frames.Abort 3)) })) (sym (landed_headers (record lane { state = recv_states.SendAbort; left = 0 }) b))
      (warns_here (common w.receiver) (common (tells_failure (failed (landed_by w.receiver (number l) b) answers.Disk) (number l)).1) l grows (sending w.sender l) (landed_side b).landed (pair_at w l).send (pair_at w l).taken (pair_at w l).between (pair_at w l).newest (pair_at w l).denies (pair_at w l).refusals (RecvDoes recv_acts.Read) 3
      (landed_side b).lane (record lane { state = recv_states.SendAbort; left = 0 }) (landed_past b) (landed_past b) None SendingPhase refl sized refl (omega arith) (λ e. absurd (both_ways past.is_idle fares.0.idle e)) refl (lands_part n b here holds begun last)))

-- ---- a block begins

-- no fault is the first of two
first_none : (a b : Option BeginFault) → or_else a b ≡ None → a ≡ None
first_none None b e = refl
first_none (Some f) b e = cc

kind_none : (o : Option BeginFault) → option_map kind_of o ≡ None → o ≡ None
kind_none None e = refl
kind_none (Some f) e = cc

-- so the file is known as the header tells it
pub unfaulted : (known : List (Option KnownFile)) (ms : List Marked) (begun : List Block) (landed : ℕ) (h : Header) → block_fault known ms begun landed h ≡ None → size_fault known h ≡ None
unfaulted known ms begun landed h e = go (nat_le most_landed landed) e where
  go : (b : Bool) → (if b then Some (peers.OverLimit (landed + 1)) else option_map kind_of (begin_fault known ms begun h)) ≡ None → size_fault known h ≡ None
  go true e = cc
  go false e = first_none (size_fault known h) _ (kind_none (begin_fault known ms begun h) e)

same_by : (file : KnownFile) (h : Header) → size_fault_by (Some file) h ≡ None → (file.size ≡ h.size) × (file.stamp ≡ h.stamp)
same_by file h e = go (file.size == h.size && file.stamp == h.stamp) refl e where
  go : (b : Bool) → (file.size == h.size && file.stamp == h.stamp) ≡ b → (if b then None else Some (SizeDiffers file.size file.stamp h.size h.stamp)) ≡ None → (file.size ≡ h.size) × (file.stamp ≡ h.stamp)
  go true is e = let x = and_parts (file.size == h.size) (file.stamp == h.stamp) is in (eqb-true file.size h.size x.0, eqb-true file.stamp h.stamp x.1)
  go false is e = cc

header_is : (file : KnownFile) (h : Header) → file.path ≡ h.path → file.size ≡ h.size → file.stamp ≡ h.stamp → record { path = file.path; size = file.size; stamp = file.stamp; offset = h.offset; length = h.length } ≡ h
header_is file h path size stamp =
    ap (λ (x : List ℕ). record { path = x; size = file.size; stamp = file.stamp; offset = h.offset; length = h.length }) path
    ∙ (ap (λ (x : ℕ). record { path = h.path; size = x; stamp = file.stamp; offset = h.offset; length = h.length }) size
    ∙ ap (λ (x : ℕ). record { path = h.path; size = h.size; stamp = x; offset = h.offset; length = h.length }) stamp)

-- the block of a header is told of by that header, and its file is known
pub record Begun (known : List (Option KnownFile)) (b : Block) (h : Header) : Type 0 where
  pub header : known_header known b ≡ h
  pub named : is_some (known_at known b.file) ≡ true

pub begun_known : (known : List (Option KnownFile)) (h : Header) → is_new known h ≡ false → size_fault known h ≡ None → Begun known (block_of known h) h
begun_known known h old sound = go (number_of known h.path) refl old where
  go : (o : Option ℕ) → number_of known h.path ≡ o → not (is_some o) ≡ false → Begun known (block_of known h) h
  go None is e = cc
  go (Some n) is e =
      let x = number_found known h.path n is in
      let at : known_at known (number_by known (number_of known h.path)) ≡ Some x.file = ap (λ (o : Option ℕ). known_at known (number_by known o)) is ∙ x.there in
      let same = same_by x.file h (ap (λ (o : Option KnownFile). size_fault_by o h) (sym at) ∙ sound) in
      record { header = ap (λ (o : Option KnownFile). header_from o (block_of known h)) at ∙ header_is x.file h x.path_is same.0 same.1; named = ap is_some at }

pub begun_new : (known : List (Option KnownFile)) (h : Header) → is_new known h ≡ true → Begun (with_known known (file_of_header h)) (block_of known h) h
begun_new known h new = go (number_of known h.path) refl new where
  go : (o : Option ℕ) → number_of known h.path ≡ o → not (is_some o) ≡ true → Begun (with_known known (file_of_header h)) (block_of known h) h
  go (Some n) is e = cc
  go None is e =
      let x = new_slot known (file_of_header h) in
      let at : known_at (with_known known (file_of_header h)) (number_by known (number_of known h.path)) ≡ Some (file_of_header h) = ap (λ (o : Option ℕ). known_at (with_known known (file_of_header h)) (number_by known o)) is ∙ x.there in
      record { header = ap (λ (o : Option KnownFile). header_from o (block_of known h)) at; named = ap is_some at }
