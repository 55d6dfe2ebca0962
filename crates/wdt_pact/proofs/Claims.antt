-- A sender's lane takes a block.
use Rattle.std.proofs.Common.{◌≡◌, ◌≢◌, ℕ, ◌<◌, ◌≤◌, Bool, true, false, List, [], ◌∷◌, ◌++◌, length, map, Option, Some, None, is_some, subst, sym, ap, ◌∙◌, refl, eq-eqb, append_assoc}
use Rattle.std.proofs.lemmas.Bool.{both_ways, ne_eqb, false_from_ne_true, or_from}
use Rattle.std.proofs.lemmas.List.{map-append}
use Rattle.wdt_claims.specs.LaneWords.{Claims, claimed}
use Rattle.wdt_units.specs.declared.blocks.Block.{Block}
use Rattle.wdt_units.specs.declared.blocks.Header.{Header}
use Rattle.wdt_sender_fsm.specs.declared.acts.SendAct.TheVariants as acts
use Rattle.wdt_sender_fsm.specs.declared.events.SendEvent.{SendEvent}
use Rattle.wdt_sender_fsm.specs.declared.events.SendEvent.TheVariants as events
use Rattle.wdt_sender_fsm.specs.declared.inputs.SendIn.TheVariants as inputs
use Rattle.wdt_sender_fsm.specs.declared.states.SendLane.{SendLane}
use Rattle.wdt_sender_fsm.specs.declared.states.SendState.{SendState}
use Rattle.wdt_sender_fsm.specs.declared.states.SendState.TheVariants as states
use Rattle.wdt_sender_fsm.specs.Phases.{Sending, Message}
use Rattle.wdt_sender_fsm.specs.PlainSender.{PlainSender, lane_at, state_at, past_at, is_closed, least_queued, header_of, noted, with_lane}
use Rattle.wdt_sender_fsm.specs.Rules.{is_failure}
use Rattle.wdt_sender_fsm.specs.SenderHistory.{LanePast, past_after}
use Rattle.wdt_sender_fsm.specs.Turn.{send_turn, next_by}
use Rattle.wdt_sender_fsm.specs.Rows.{SizeWritten, row_of}
use Rattle.wdt_receiver_fsm.specs.declared.states.RecvLane.{RecvLane}
use Rattle.wdt_pact.specs.Links.{Link}
use Rattle.wdt_pact.specs.Pairs.{SendHas, RecvHold, Pair, send_takes}
use Rattle.wdt_pact.specs.World.{PlainWorld, pair_at, number, send_steps}
use Rattle.wdt_pact.specs.Stances.{Stance, Talks, Aborts, Silent, OnLink, is_late, recv_stance}
use Rattle.wdt_pact.specs.Lists.{begun_heads, Splits-claim, Splits-same, Parts, ListsBy, AskedBy, flying, in_hand, has_done}
use Rattle.wdt_pact.specs.Conversation.{Common, Sending as Side, Receiving, Converses, Conversation, sent_header, common, sending, receiving}
use Rattle.wdt_pact.proofs.Links.{waits_not, sending_talk, held_late}
use Rattle.wdt_pact.proofs.Lists.{has_done-append}
use Rattle.wdt_pact.proofs.Frame.{row_turn}
use Rattle.wdt_pact.proofs.Promised.{SenderKeeps}
use Rattle.wdt_pact.proofs.Rows.{entry_keeps, fares_in}

more_claimed : (greeted : Bool) (kept landed fly : List Header) (h : Header) → Parts greeted kept landed fly (λ rest. Unit {0}) → Parts greeted (kept ++ h ∷ []) landed fly (λ rest. Unit {0})
more_claimed greeted kept landed fly h x =
    record {
      rest = x.rest ++ h ∷ [];
      same = Splits-same (kept ++ h ∷ []) landed ((fly ++ x.rest) ++ h ∷ []) (fly ++ (x.rest ++ h ∷ [])) (Splits-claim kept landed (fly ++ x.rest) h x.same) (append_assoc fly x.rest (h ∷ []));
      live = λ e. tt;
      dead = x.dead;
    }

lists_claim : (rs : Stance) (k : Link) (h : Header) (kept landed : List Header) (begun : Option Header) (hand : List Message) → k.greeted ≡ true → ListsBy rs (Some k) kept landed begun hand (λ rest. rest ≡ []) → ListsBy rs (Some k) (kept ++ h ∷ []) landed begun hand (λ rest. rest ≡ h ∷ [])
lists_claim (Talks q) k h kept landed begun hand live x =
    record {
      rest = h ∷ [];
      same = Splits-same (kept ++ h ∷ []) landed ((flying begun hand k.down.sent ++ x.rest) ++ h ∷ []) (flying begun hand k.down.sent ++ h ∷ []) (Splits-claim kept landed (flying begun hand k.down.sent ++ x.rest) h x.same)
          (append_assoc (flying begun hand k.down.sent) x.rest (h ∷ []) ∙ ap (λ (xs : List Header). flying begun hand k.down.sent ++ (xs ++ h ∷ [])) (x.live live));
      live = λ e. refl;
      dead = x.dead;
    }
lists_claim Aborts k h kept landed begun hand live x = more_claimed k.greeted kept landed (begun_heads begun) h x
lists_claim Silent k h kept landed begun hand live x = more_claimed k.greeted kept landed (begun_heads begun) h x

-- while blocks are sent no last word is on its way
asked_not : (lane : RecvLane) (idle acked : Bool) (hold : RecvHold) (rs : Stance) (k : Link) (kept landed : List Header) (begun : Option Header) (held : Bool) → recv_stance lane idle acked hold ≡ rs → OnLink (Talks Sending) rs k.down.sent k.up.sent → AskedBy rs (Some k) kept landed begun (in_hand hold) held
asked_not lane idle acked hold (Talks q) k kept landed begun held is a =
    let t = sending_talk q k.down.sent k.up.sent a in
    let no_hand : has_done (in_hand hold) ≡ false = false_from_ne_true (has_done (in_hand hold)) (λ e. both_ways (is_late q) t.0 (held_late lane idle acked hold q is e)) in
    let no_way : has_done (in_hand hold ++ k.down.sent) ≡ false = has_done-append (in_hand hold) k.down.sent ∙ or_from (has_done (in_hand hold)) (has_done k.down.sent) no_hand t.1 in
    λ e. absurd (both_ways (has_done (in_hand hold ++ k.down.sent)) no_way e)
asked_not lane idle acked hold Aborts k kept landed begun held is a = tt
asked_not lane idle acked hold Silent k kept landed begun held is a = tt

abbrev sizing : Bool → LanePast → List Header → Side
sizing ask past kept = record { lane = record { state = states.SendSize; ask = ask }; past = past; kept = kept }

abbrev wrote : RecvHold → Option Link → List Link → Option Link → ℕ → ℕ → Pair
wrote hold taken between newest denies refusals = record { send = SendHas inputs.Wrote; recv = hold; taken = taken; between = between; newest = newest; denies = denies; refusals = refusals }

pub claims_here : (g : Common) (l : ℕ) (ask : Bool) (past after : LanePast) (kept : List Header) (r : Receiving) (h : Header) (hold : RecvHold) (taken : Option Link) (between : List Link) (newest : Option Link) (denies refusals : ℕ) (b : Bool)
    → past.is_greeted ≡ true → (g.finish ≡ true → ⊥)
    → after.is_greeted ≡ past.is_greeted → after.claims.sure ≡ past.claims.sure → after.claims.held ≡ true → after.claims.closed ≡ None
    → Converses g l (sizing ask past kept) r (wrote hold taken between newest denies refusals)
    → Converses g l record { lane = record { state = states.SendBlocks; ask = ask }; past = after; kept = kept ++ h ∷ [] } r (send_takes (wrote hold taken between newest denies refusals) inputs.Wrote b (acts.SendBlock h))
claims_here g l ask past after kept r h hold None between None denies refusals b was unfinished greeted sure held opens c = let x = c.agrees.on_taken.0 in cc
claims_here g l ask past after kept r h hold taken between (Some t) denies refusals b was unfinished greeted sure held opens c = waits_not Sending t.down.sent t.up.sent c.agrees.on_newest refl
claims_here g l ask past after kept r h hold (Some k) between None denies refusals b was unfinished greeted sure held opens c =
    let rs : Stance = recv_stance r.lane r.past.is_idle r.past.is_acked hold in
    record {
      agrees = record { on_taken = c.agrees.on_taken; waiting = c.agrees.waiting; on_newest = tt };
      lists = lists_claim rs k h kept r.landed r.begun (in_hand hold) (c.notes ∙ was) c.lists;
      sure = subst (λ (n : ℕ). n ≤ length r.landed) (sym sure) c.sure;
      upward = c.upward;
      fits = c.fits;
      notes = c.notes ∙ sym greeted;
      closed = λ e. absurd (both_ways (is_some after.claims.closed) (ap is_some opens) e);
      asked = asked_not r.lane r.past.is_idle r.past.is_acked hold rs k (kept ++ h ∷ []) r.landed r.begun after.claims.held refl c.agrees.on_taken;
      finished = λ e. absurd (unfinished e);
      pieces = c.pieces;
      waits = c.waits;
      idle = λ e. let x = (c.idle e).late refl in cc;
      shut = c.shut;
      heard_up = tt;
      heard_down = c.heard_down;
    }

-- ---- the step

turn_is : (s : PlainSender) (l : ℕ) (b : Block) → state_at s l ≡ states.SendSize → is_closed s l ≡ false → is_failure s.answer ≡ false → least_queued s ≡ Some b
    → send_turn s (number l) inputs.Wrote ≡ (acts.SendBlock (header_of s b), with_lane (noted s (events.Claim (number l) b ∷ [])) (number l) record { state = states.SendBlocks; ask = (lane_at s l).ask })
turn_is s l b here opens sound least =
    row_turn s l inputs.Wrote SizeWritten (ap (λ (x : SendState). row_of x inputs.Wrote) here) refl refl opens sound
    ∙ ap (next_by s (number l)) least

quiet_claim : (k l : ℕ) (b : Block) (p : LanePast) → k ≢ l → past_after k p (events.Claim (number l) b) ≡ p
quiet_claim k l b p ne = rw (ne_eqb l k (λ e. ne (sym e))) refl

claims_there : (l : ℕ) (b : Block) (p : LanePast) → (past_after l p (events.Claim (number l) b)).claims ≡ claimed b p.claims
claims_there l b p = rw (eq-eqb l l refl) refl

pub claim_keeps : SenderKeeps → (w : PlainWorld) (l : ℕ) (lost : Option ℕ) (b : Block) → Conversation w → l < length w.pairs → state_at w.sender l ≡ states.SendSize → (past_at w.sender l).claims.closed ≡ None → is_failure w.sender.answer ≡ false
    → (pair_at w l).send ≡ SendHas inputs.Wrote → least_queued w.sender ≡ Some b → ((common w.receiver).finish ≡ true → ⊥) → Conversation (send_steps w l lost)
claim_keeps keeps w l lost b c within here opens sound holds least unfinished =
    entry_keeps keeps w l lost states.SendSize inputs.Wrote e (acts.SendBlock (header_of w.sender b)) new c within here holds tt
    (turn_is w.sender l b here (ap is_some opens) sound least)
    (λ k p ne. quiet_claim k l b p ne)
    (λ lane. subst (λ (xs : List Header). Converses (common w.receiver) l record { lane = new; past = after; kept = xs } (receiving w.receiver l) (send_takes (record p { send = SendHas inputs.Wrote }) inputs.Wrote after.is_greeted (acts.SendBlock (header_of w.sender b)))) (sym own)
    (claims_here (common w.receiver) l ask past after kept (receiving w.receiver l) (header_of w.sender b) p.recv p.taken p.between p.newest p.denies p.refusals after.is_greeted
    (fares_in w l states.SendSize c within here opens).greeted unfinished refl (ap (λ (x : Claims). x.sure) claims) (ap (λ (x : Claims). x.held) claims) (ap (λ (x : Claims). x.closed) claims ∙ opens) lane)) where
      p : Pair
      p = pair_at w l

      ask : Bool
      ask = (lane_at w.sender l).ask

      past : LanePast
      past = past_at w.sender l

      kept : List Header
      kept = (sending w.sender l).kept

      e : SendEvent
      e = events.Claim (number l) b

      new : SendLane
      new = record { state = states.SendBlocks; ask = ask }

      after : LanePast
      after = past_after l past e

      claims : after.claims ≡ claimed b past.claims
      claims = claims_there l b past

      own : map (sent_header w.sender.manifest) after.claims.kept ≡ kept ++ header_of w.sender b ∷ []
      own = ap (λ (x : Claims). map (sent_header w.sender.manifest) x.kept) claims ∙ map-append (sent_header w.sender.manifest) past.claims.kept (b ∷ [])
