-- A count that the sender's lane has read is right.
use Rattle.std.proofs.Common.{◌≡◌, ℕ, ◌<◌, ◌≤◌, ◌==◌, ◌&&◌, nat_le, Bool, true, false, if◌then◌else◌, List, [], ◌∷◌, length, Option, Some, None, is_some, subst, sym, ap, ◌∙◌, refl, arith, eq-eqb, option_map}
use Rattle.std.proofs.lemmas.Bool.{ne_eqb, or_from, or_parts}
use Rattle.std.proofs.lemmas.Bool.Decides.{nat_tests}
use Rattle.std.proofs.lemmas.List.{length-map}
use Rattle.wdt_units.specs.declared.blocks.Block.{Block}
use Rattle.wdt_claims.specs.Checks.{fault_by}
use Rattle.wdt_claims.specs.declared.check.CheckFail.TheVariants.{BadCheckpoint, Differs}
use Rattle.wdt_codec.specs.declared.frames.Frame.{Frame}
use Rattle.wdt_codec.specs.declared.frames.Frame.TheVariants as frames
use Rattle.wdt_codec.specs.declared.frames.Mark.{Mark}
use Rattle.wdt_sender_fsm.specs.declared.events.SendEvent.{SendEvent}
use Rattle.wdt_sender_fsm.specs.declared.inputs.SendIn.TheVariants as inputs
use Rattle.wdt_sender_fsm.specs.declared.peers.PeerKind.{PeerKind}
use Rattle.wdt_sender_fsm.specs.declared.states.SendState.TheVariants as states
use Rattle.wdt_sender_fsm.specs.Faults.{count_fault, has_stranger, is_stranger, kind_of, marks_fault, or_else}
use Rattle.wdt_sender_fsm.specs.Legal.{IsLegal, IsSound}
use Rattle.wdt_sender_fsm.specs.PlainSender.{blocks_of, lane_at, past_at, state_at}
use Rattle.wdt_sender_fsm.specs.SenderHistory.{past_of}
use Rattle.wdt_pact.specs.Each.{Each}
use Rattle.wdt_pact.specs.Pairs.{SendHas}
use Rattle.wdt_pact.specs.World.{PlainWorld, pair_at}
use Rattle.wdt_pact.specs.Stances.{Talks}
use Rattle.wdt_sender_fsm.specs.Phases.{told as told_phase}
use Rattle.wdt_pact.specs.Conversation.{AllTell, Conversation, Marks, Tells, common, receiving, sending, sent_header}
use Rattle.wdt_pact.proofs.Lists.{landed_few}
use Rattle.wdt_pact.proofs.Rows.{row_at}
use Rattle.wdt_pact.proofs.SendMoves.{splits_all}
use Rattle.wdt_pact.proofs.SendPoints.{closed_as}
use Rattle.wdt_pact.proofs.ToldLanes.{closed_there}

le_so : (a b : ℕ) → a ≤ b → nat_le a b ≡ true
le_so a b h = grind (arith, nat_tests)

le_not : (a b : ℕ) → nat_le a b ≡ false → b < a
le_not a b h = grind (arith, nat_tests)

not_le : (a b : ℕ) → b < a → nat_le a b ≡ false
not_le a b h = grind (arith, nat_tests)

module _ (sounds : (n : ℕ) (planned : List Block) (h : List SendEvent) (l : ℕ) → IsLegal n planned h → IsSound (past_of h l)) (w : PlainWorld) (c : Conversation w) where
  -- as many blocks as have landed on a lane may be told of it
  right_count : (k n : ℕ) → k < length w.pairs → n ≡ length (receiving w.receiver k).landed → count_fault (past_at w.sender k).claims n ≡ None
  right_count k n within is = ap (option_map kind_of) (by (past_at w.sender k).claims.closed refl) where
    long : length (past_at w.sender k).claims.kept ≡ length (sending w.sender k).kept
    long = sym (length-map (past_at w.sender k).claims.kept (sent_header w.sender.manifest))

    few : length (receiving w.receiver k).landed ≤ length (sending w.sender k).kept
    few = landed_few _ (pair_at w k).taken (sending w.sender k).kept (receiving w.receiver k).landed (receiving w.receiver k).begun _ _ (c.lanes k within).lists

    sure : (past_at w.sender k).claims.sure ≤ length (receiving w.receiver k).landed
    sure = (c.lanes k within).sure

    by : (o : Option ℕ) → (past_at w.sender k).claims.closed ≡ o → fault_by (past_at w.sender k).claims.closed (past_at w.sender k).claims n ≡ None
    by None open_ =
        ap (λ (o : Option ℕ). fault_by o (past_at w.sender k).claims n) open_
        ∙ ap (λ (b : Bool). if b then None else Some (BadCheckpoint n (past_at w.sender k).claims.sure (length (past_at w.sender k).claims.kept)))
        (ap (λ (b : Bool). b && nat_le n (length (past_at w.sender k).claims.kept)) (le_so (past_at w.sender k).claims.sure n (omega (arith, is, sure))) ∙ le_so n (length (past_at w.sender k).claims.kept) (omega (arith, is, long, few)))
    by (Some before) shut =
        let sound = sounds (length w.sender.lanes) (blocks_of w.sender) w.sender.history k c.sender.legal in
        let all = splits_all (sending w.sender k).kept (receiving w.receiver k).landed ((c.lanes k within).closed (ap is_some shut)).same in
        ap (λ (o : Option ℕ). fault_by o (past_at w.sender k).claims n) shut
        ∙ ap (λ (b : Bool). if b then None else Some (Differs n before)) (eq-eqb n before (let x = (sound.closed before shut).1 in omega (arith, is, x, long, all)))

  -- that of its own lane
  pub greeting_right : (l : ℕ) (m : Mark) → l < length w.pairs → state_at w.sender l ≡ states.ReadLocalCheckpoint → (pair_at w l).send ≡ SendHas (inputs.Got (frames.Greeting m)) → (m.lane.0 ≡ l) × (count_fault (past_at w.sender l).claims m.count ≡ None)
  greeting_right l m within here holds =
      let told = (row_at w l states.ReadLocalCheckpoint (inputs.Got (frames.Greeting m)) c within here holds).upward in
      let own = told_so (lane_at w.sender l).ask _ told in
      (own.0, right_count l m.count within own.1) where
        told_so : (b : Bool) (us : List Frame) → AllTell (Talks (told_phase b)) (Tells (common w.receiver) l (receiving w.receiver l).landed) (frames.Greeting m ∷ us) → (m.lane.0 ≡ l) × (m.count ≡ length (receiving w.receiver l).landed)
        told_so b us t = t.0

  each_right : (l : ℕ) (ms : List Mark) → Each (Marks (common w.receiver) l) ms → has_stranger (length w.pairs) l ms ≡ false → marks_fault w.sender.history ms ≡ None
  each_right l [] told none = refl
  each_right l (m ∷ ms) told none =
      let parts = or_parts (is_stranger (length w.pairs) l m) (has_stranger (length w.pairs) l ms) none in
      let below = le_not (length w.pairs) m.lane.0 (or_parts (nat_le (length w.pairs) m.lane.0) (m.lane.0 == l) parts.0).0 in
      ap (λ (o : Option PeerKind). or_else o (marks_fault w.sender.history ms)) (right_count m.lane.0 m.count below (closed_as w m.lane.0 m.count told.0.0).1) ∙ each_right l ms told.1 parts.1

  -- they are of lanes that are there, and of others
  no_strangers : (l : ℕ) (ms : List Mark) → Each (Marks (common w.receiver) l) ms → has_stranger (length w.pairs) l ms ≡ false
  no_strangers l [] told = refl
  no_strangers l (m ∷ ms) told =
      or_from (is_stranger (length w.pairs) l m) (has_stranger (length w.pairs) l ms)
      (or_from (nat_le (length w.pairs) m.lane.0) (m.lane.0 == l) (not_le (length w.pairs) m.lane.0 (subst (λ (n : ℕ). m.lane.0 < n) c.recv_lanes there)) (ne_eqb m.lane.0 l told.0.1)) (no_strangers l ms told.1) where
        there : m.lane.0 < length w.receiver.lanes
        there = closed_there w.receiver m.lane.0 c.receiver (closed_as w m.lane.0 m.count told.0.0).0

  -- and those of closed lanes
  pub marks_right : (l : ℕ) (ms : List Mark) → l < length w.pairs → state_at w.sender l ≡ states.ReadReceiverCmd → (pair_at w l).send ≡ SendHas (inputs.Got (frames.ErrMarks ms)) → (has_stranger (length w.sender.lanes) l ms ≡ false) × (marks_fault w.sender.history ms ≡ None)
  marks_right l ms within here holds =
      let told = (row_at w l states.ReadReceiverCmd (inputs.Got (frames.ErrMarks ms)) c within here holds).upward.0 in
      let none = no_strangers l ms told in
      (ap (λ (n : ℕ). has_stranger n l ms) c.send_lanes ∙ none, each_right l ms told none)
