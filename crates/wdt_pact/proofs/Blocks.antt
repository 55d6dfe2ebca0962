-- A sender's lane writes a block, or loses it in the midst.
use Rattle.std.proofs.Common.{◌≡◌, ◌⊎◌, inl, inr, ℕ, zero, suc, ◌<◌, nat_le, not, ◌&&◌, Bool, true, false, List, [], ◌∷◌, ◌++◌, length, take, Option, Some, None, is_some, subst, sym, ap, ◌∙◌, refl}
use Rattle.wdt_units.specs.declared.blocks.Header.{Header}
use Rattle.wdt_codec.specs.Frames.{Fits}
use Rattle.wdt_codec.specs.declared.frames.Frame.{Frame}
use Rattle.wdt_sender_fsm.specs.declared.acts.SendAct.TheVariants as acts
use Rattle.wdt_sender_fsm.specs.declared.inputs.SendIn.{SendIn}
use Rattle.wdt_sender_fsm.specs.declared.inputs.SendIn.TheVariants as inputs
use Rattle.wdt_sender_fsm.specs.declared.states.SendState.TheVariants as states
use Rattle.wdt_sender_fsm.specs.Phases.{Phase, Sending, Message, down, pieces_of, pieces_in, written_by, is_abort, up}
use Rattle.wdt_sender_fsm.specs.SenderHistory.{LanePast}
use Rattle.wdt_sender_fsm.specs.Talk.{moved}
use Rattle.wdt_pact.proofs.Below.{one_talker, pieces_lead, moved-first, if_has}
use Rattle.wdt_pact.specs.Links.{Link, with_sent, is_cut}
use Rattle.wdt_pact.specs.Pairs.{SendDoes, SendHas, RecvHold, Pair, SendHold, send_does, send_writes, send_loses, wrote_or_lost, recv_stops}
use Rattle.wdt_pact.specs.World.{PlainWorld, pair_at, send_steps, send_steps_by}
use Rattle.wdt_pact.specs.Stances.{Stance, Talks, Silent, OnLink, recv_stance, send_stance, is_any, is_calm, is_abort_down}
use Rattle.wdt_pact.specs.Lists.{in_hand, blocks_in, has_done, UnsentBy}
use Rattle.wdt_pact.specs.Conversation.{Common, Sending as Side, Receiving, Converses, Conversation, Tells, AllTell, HeardUp, send_in_hand, to_say, common, sending, receiving}
use Rattle.wdt_pact.specs.Each.{Each}
use Rattle.std.specs.Option.{option_and_then}
use Rattle.wdt_sender_fsm.specs.declared.states.SendState.{SendState}
use Rattle.wdt_sender_fsm.specs.PlainSender.{state_at, lane_at, past_at}
use Rattle.wdt_pact.proofs.Links.{says_all, falls_silent, fails_soon, up_calms, waits_not, any_stays}
use Rattle.wdt_pact.proofs.Frame.{pair_keeps}
use Rattle.wdt_pact.proofs.Rows.{fares_in}
use Rattle.wdt_pact.proofs.Lists.{no_blocks, no_done, are_pieces, Each-take, lists_written, asked_written, IsPiece}

pub says_down : (ms : List Message) (s t : Phase) (r : Stance) (ds : List Message) (us : List Frame) → OnLink (Talks s) r ds us → moved down ms s ≡ Some t → OnLink (Talks t) r (ds ++ ms) us
says_down ms s t r ds us a e = says_all down up is_abort_down is_abort is_calm is_any one_talker any_stays ms s t r ds us a e

-- a front of what can be said can be said
front_moves : {M : Type 0} (move : Phase → M → Option Phase) (n : ℕ) (ms : List M) (s t : Phase) → moved move ms s ≡ Some t → (u : Phase) × (moved move (take n ms) s ≡ Some u)
front_moves move zero ms s t e = (s, refl)
front_moves move (suc n) [] s t e = (s, refl)
front_moves {M} move (suc n) (m ∷ ms) s t e =
    let f = moved-first move s t m ms e in
    let g = front_moves move n ms f.0 t f.2 in
    (g.0, subst (λ (o : Option Phase). option_and_then (moved move (take n ms)) o ≡ Some g.0) (sym f.1) g.1)

abbrev block_side : Bool → LanePast → List Header → Side
block_side ask past kept = record { lane = record { state = states.SendBlocks; ask = ask }; past = past; kept = kept }

abbrev block_pair : Header → RecvHold → Option Link → List Link → Option Link → ℕ → ℕ → Pair
block_pair h hold taken between newest denies refusals = record { send = SendDoes (acts.SendBlock h); recv = hold; taken = taken; between = between; newest = newest; denies = denies; refusals = refusals }

-- an open lane was told its count and holds a block; of a closed one the receiver says nothing
known_here : (g : Common) (l : ℕ) (ask : Bool) (past : LanePast) (kept : List Header) (r : Receiving) (h : Header) (hold : RecvHold) (k : Link) (between : List Link) (denies refusals : ℕ) → (past.claims.closed ≡ None → (past.is_greeted ≡ true) × (past.claims.held ≡ true)) → (o : Option ℕ) → past.claims.closed ≡ o
    → Converses g l (block_side ask past kept) r (block_pair h hold (Some k) between None denies refusals)
    → (recv_stance r.lane r.past.is_idle r.past.is_acked hold ≡ Silent) ⊎ ((k.greeted ≡ true) × (past.claims.held ≡ true))
known_here g l ask past kept r h hold k between denies refusals stands None is c = let s = stands is in inr (c.notes ∙ s.0, s.1)
known_here g l ask past kept r h hold k between denies refusals stands (Some n) is c = inl (c.shut (c.closed (ap is_some is)).there).silent

first_of : {A B C : Type 0} → A ⊎ (B × C) → A ⊎ B
first_of (inl a) = inl a
first_of (inr b) = inr b.0

second_of : {A B C : Type 0} → A ⊎ (B × C) → A ⊎ C
second_of (inl a) = inl a
second_of (inr b) = inr b.1

pub silent : (t : Phase) (r : Stance) (ds : List Message) (us : List Frame) → OnLink (Talks t) r ds us → OnLink Silent r ds us
silent t r ds us a = falls_silent down up is_abort_down is_abort is_calm is_any one_talker t r ds us a

-- messages of the block are written: it is whole and was written, it is lost, or the source is
pub writes_here : (g : Common) (l : ℕ) (ask : Bool) (past : LanePast) (kept : List Header) (r : Receiving) (h : Header) (hold : RecvHold) (k : Link) (between : List Link) (denies refusals : ℕ) (ms : List Message) (t : Phase) (new : List Header) (input : SendIn)
    → (past.claims.closed ≡ None → (past.is_greeted ≡ true) × (past.claims.held ≡ true)) → HeardUp (SendHas input) record { state = states.SendBlocks; ask = ask } → (Each Fits (k.up.sent ++ to_say hold) → Each Fits (send_in_hand (SendHas input) ++ (k.up.sent ++ to_say hold)))
    → moved down ms Sending ≡ Some t → h ∷ [] ≡ blocks_in ms ++ new → has_done ms ≡ false
    → ((OnLink (Talks t) (recv_stance r.lane r.past.is_idle r.past.is_acked hold) (k.down.sent ++ ms) k.up.sent) → OnLink (send_stance record { state = states.SendBlocks; ask = ask } past.is_acked (SendHas input)) (recv_stance r.lane r.past.is_idle r.past.is_acked hold) (k.down.sent ++ ms) k.up.sent)
    → UnsentBy None states.SendBlocks (SendHas input) new
    → (Each (Tells g l r.landed) (k.up.sent ++ to_say hold) → AllTell (send_stance record { state = states.SendBlocks; ask = ask } past.is_acked (SendHas input)) (Tells g l r.landed) (send_in_hand (SendHas input) ++ (k.up.sent ++ to_say hold)))
    → Converses g l (block_side ask past kept) r (block_pair h hold (Some k) between None denies refusals)
    → Converses g l (block_side ask past kept) r (record (block_pair h hold (Some record k { down = with_sent k.down ms }) between None denies refusals) { send = SendHas input })
writes_here g l ask past kept r h hold k between denies refusals ms t new input stands heard quiet moves split none goes rest still c =
    let rs : Stance = recv_stance r.lane r.past.is_idle r.past.is_acked hold in
    let how = known_here g l ask past kept r h hold k between denies refusals stands past.claims.closed refl c in
    record {
      agrees = record { on_taken = goes (says_down ms Sending t rs k.down.sent k.up.sent c.agrees.on_taken moves); waiting = c.agrees.waiting; on_newest = tt };
      lists = lists_written rs k ms kept r.landed (h ∷ []) new r.begun (in_hand hold) (UnsentBy None states.SendBlocks (SendHas input)) (first_of how) split rest c.lists;
      sure = c.sure;
      upward = still c.upward;
      fits = quiet c.fits;
      notes = c.notes;
      closed = c.closed;
      asked = asked_written rs k ms kept r.landed r.begun (in_hand hold) past.claims.held (second_of how) none c.asked;
      finished = λ e. let f = c.finished e in record { same = f.same; holds = f.holds };
      pieces = c.pieces;
      waits = c.waits;
      idle = λ e. let x = (c.idle e).late refl in cc;
      shut = c.shut;
      heard_up = heard;
      heard_down = c.heard_down;
    }

-- ---- the step

module _ (g : Common) (l : ℕ) (ask : Bool) (past : LanePast) (kept : List Header) (r : Receiving) (h : Header) (hold : RecvHold) (between : List Link) (denies refusals : ℕ) (stands : past.claims.closed ≡ None → (past.is_greeted ≡ true) × (past.claims.held ≡ true)) where
  abbrev After : Pair → Type 0
  After = Converses g l (block_side ask past kept) r

  abbrev before : Option Link → Option Link → Pair
  before taken newest = block_pair h hold taken between newest denies refusals

  whole : moved down (written_by (acts.SendBlock h)) Sending ≡ Some Sending
  whole = pieces_lead h.length

  pieces : Each IsPiece (pieces_of h.length)
  pieces = are_pieces h.length (pieces_in h.length)

  -- all of it
  writes_all : (k : Link) (b : Bool) → After (before (Some k) None) → After (record (before (Some record k { down = with_sent k.down (written_by (acts.SendBlock h)) }) None) { send = SendHas (wrote_or_lost b) })
  writes_all k true c =
      writes_here g l ask past kept r h hold k between denies refusals (written_by (acts.SendBlock h)) Sending [] inputs.Wrote stands tt (λ u. u) whole
      (ap (λ (hs : List Header). h ∷ (hs ++ [])) (sym (no_blocks (pieces_of h.length) pieces))) (no_done (pieces_of h.length) pieces) (λ a. a) refl (λ u. u) c
  writes_all k false c =
      writes_here g l ask past kept r h hold k between denies refusals (written_by (acts.SendBlock h)) Sending [] inputs.Lost stands tt (λ u. u) whole
      (ap (λ (hs : List Header). h ∷ (hs ++ [])) (sym (no_blocks (pieces_of h.length) pieces))) (no_done (pieces_of h.length) pieces)
      (silent Sending (recv_stance r.lane r.past.is_idle r.past.is_acked hold) (k.down.sent ++ written_by (acts.SendBlock h)) k.up.sent) refl (λ u. tt) c

  -- nothing of it
  loses_all : (k : Link) → After (before (Some k) None) → After (record (before (Some record k { down = with_sent k.down [] }) None) { send = SendHas (inputs.SourceLost true) })
  loses_all k c =
      writes_here g l ask past kept r h hold k between denies refusals [] Sending (h ∷ []) (inputs.SourceLost true) stands tt (λ u. u) refl refl refl
      (fails_soon down up is_abort_down is_abort is_calm is_any one_talker up_calms Sending (recv_stance r.lane r.past.is_idle r.past.is_acked hold) (k.down.sent ++ []) k.up.sent refl) tt (λ u. tt) c

  -- some of it
  loses_some : (k : Link) (n : ℕ) → After (before (Some k) None) → After (record (before (Some record k { down = with_sent k.down (take (suc n) (written_by (acts.SendBlock h))) }) None) { send = SendHas (inputs.SourceLost false) })
  loses_some k n c =
      let f = front_moves down (suc n) (written_by (acts.SendBlock h)) Sending Sending whole in
      let few : Each IsPiece (take n (pieces_of h.length)) = Each-take IsPiece n (pieces_of h.length) pieces in
      writes_here g l ask past kept r h hold k between denies refusals (take (suc n) (written_by (acts.SendBlock h))) f.0 [] (inputs.SourceLost false) stands tt (λ u. u) f.1
      (ap (λ (hs : List Header). h ∷ (hs ++ [])) (sym (no_blocks (take n (pieces_of h.length)) few))) (no_done (take n (pieces_of h.length)) few)
      (silent f.0 (recv_stance r.lane r.past.is_idle r.past.is_acked hold) (k.down.sent ++ take (suc n) (written_by (acts.SendBlock h))) k.up.sent) tt (λ u. tt) c

  sends_here : (taken newest : Option Link) (lost : Option ℕ) → After (before taken newest) → After (send_does (before taken newest) lost (acts.SendBlock h))
  sends_here None None lost c = let x = c.agrees.on_taken.0 in cc
  sends_here taken (Some t) lost c = waits_not Sending t.down.sent t.up.sent c.agrees.on_newest refl
  sends_here (Some k) None None c = writes_all k (not (is_cut k.down) && not (recv_stops hold)) c
  sends_here (Some k) None (Some zero) c =
      if_has After (nat_le (pieces_in h.length) 0) (send_writes (before (Some k) None) (written_by (acts.SendBlock h)) (Some k)) (send_loses (before (Some k) None) (Some k) [] true)
      (writes_all k (not (is_cut k.down) && not (recv_stops hold)) c) (loses_all k c)
  sends_here (Some k) None (Some (suc n)) c =
      if_has After (nat_le (pieces_in h.length) (suc n)) (send_writes (before (Some k) None) (written_by (acts.SendBlock h)) (Some k)) (send_loses (before (Some k) None) (Some k) (take (suc (suc n)) (written_by (acts.SendBlock h))) false)
      (writes_all k (not (is_cut k.down) && not (recv_stops hold)) c) (loses_some k (suc n) c)

pub block_keeps : (w : PlainWorld) (l : ℕ) (lost : Option ℕ) (h : Header) → Conversation w → l < length w.pairs → state_at w.sender l ≡ states.SendBlocks → (pair_at w l).send ≡ SendDoes (acts.SendBlock h) → Conversation (send_steps w l lost)
block_keeps w l lost h c within here holds =
    let p : Pair = pair_at w l in
    let ask : Bool = (lane_at w.sender l).ask in
    let past : LanePast = past_at w.sender l in
    let kept : List Header = (sending w.sender l).kept in
    subst (λ (x : SendHold). Conversation (send_steps_by w l lost x)) (sym holds)
    (pair_keeps w l (send_does p lost (acts.SendBlock h)) c within
    (subst (λ (x : SendState). Converses (common w.receiver) l (record (sending w.sender l) { lane = record { state = x; ask = ask } }) (receiving w.receiver l) (send_does p lost (acts.SendBlock h))) (sym here)
    (subst (λ (x : SendHold). Converses (common w.receiver) l (block_side ask past kept) (receiving w.receiver l) (send_does (record p { send = x }) lost (acts.SendBlock h))) (sym holds)
    (sends_here (common w.receiver) l ask past kept (receiving w.receiver l) h p.recv p.between p.denies p.refusals (λ opens. let f = fares_in w l states.SendBlocks c within here opens in (f.greeted, f.held)) p.taken p.newest lost
    (subst (λ (x : SendState). Converses (common w.receiver) l (record (sending w.sender l) { lane = record { state = x; ask = ask } }) (receiving w.receiver l) record p { send = SendDoes (acts.SendBlock h) }) here
    (subst (λ (x : SendHold). Converses (common w.receiver) l (sending w.sender l) (receiving w.receiver l) record p { send = x }) holds (c.lanes l within)))))))
