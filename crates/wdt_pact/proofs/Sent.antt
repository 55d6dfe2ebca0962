-- A sender's lane has written its block, and takes the next one.
use Rattle.std.proofs.Common.{◌≡◌, ◌≢◌, ℕ, ◌<◌, Bool, true, false, List, [], ◌∷◌, ◌++◌, length, map, Option, Some, None, is_some, subst, sym, ap, ◌∙◌, refl, eq-eqb, append_assoc}
use Rattle.std.proofs.lemmas.Bool.{ne_eqb}
use Rattle.std.proofs.lemmas.List.{length-set, map-append}
use Rattle.wdt_units.specs.declared.blocks.Block.{Block}
use Rattle.wdt_units.specs.declared.blocks.Header.{Header}
use Rattle.wdt_claims.specs.LaneWords.{Claims, claimed, sent}
use Rattle.wdt_sender_fsm.specs.declared.acts.SendAct.TheVariants as acts
use Rattle.wdt_sender_fsm.specs.declared.events.SendEvent.{SendEvent}
use Rattle.wdt_sender_fsm.specs.declared.events.SendEvent.TheVariants as events
use Rattle.wdt_sender_fsm.specs.declared.inputs.SendIn.TheVariants as inputs
use Rattle.wdt_sender_fsm.specs.declared.states.SendLane.{SendLane}
use Rattle.wdt_sender_fsm.specs.declared.states.SendState.{SendState}
use Rattle.wdt_sender_fsm.specs.declared.states.SendState.TheVariants as states
use Rattle.wdt_sender_fsm.specs.Phases.{Message}
use Rattle.wdt_sender_fsm.specs.PlainSender.{PlainSender, goes, header_of, lane_at, lane_or_ended, least_queued, noted, past_at, state_at}
use Rattle.wdt_sender_fsm.specs.Rows.{BlockWritten, row_of}
use Rattle.wdt_sender_fsm.specs.Rules.{is_failure}
use Rattle.wdt_sender_fsm.specs.SenderHistory.{LanePast, past_from}
use Rattle.wdt_sender_fsm.specs.Turn.{next_by}
use Rattle.wdt_pact.specs.Links.{Link}
use Rattle.wdt_pact.specs.Pairs.{SendHas, RecvHold, Pair, send_takes}
use Rattle.wdt_pact.specs.World.{PlainWorld, number, pair_at, send_steps}
use Rattle.wdt_pact.specs.Stances.{Stance, Talks, Aborts, Silent, recv_stance}
use Rattle.wdt_pact.specs.Lists.{AskedBy, in_hand}
use Rattle.wdt_pact.specs.Conversation.{Common, Conversation, Converses, Receiving, Sending, common, receiving, sending, sent_header}
use Rattle.wdt_pact.proofs.Below.{get_set, set_other}
use Rattle.wdt_pact.proofs.Claims.{claims_here}
use Rattle.wdt_pact.proofs.Frame.{row_turn}
use Rattle.wdt_pact.proofs.Promised.{SenderKeeps}
use Rattle.wdt_pact.proofs.Rows.{fares_in, turn_keeps}

asked_free : (rs : Stance) (k : Option Link) (kept landed : List Header) (begun : Option Header) (hand : List Message) (held : Bool) → AskedBy rs k kept landed begun hand held → AskedBy rs k kept landed begun hand false
asked_free (Talks q) (Some k) kept landed begun hand held x = λ e. ((x e).0, refl)
asked_free Aborts (Some k) kept landed begun hand held x = tt
asked_free Silent (Some k) kept landed begun hand held x = tt
asked_free rs None kept landed begun hand held x = tt

abbrev at_state : SendState → Bool → LanePast → List Header → Sending
at_state st ask past kept = record { lane = record { state = st; ask = ask }; past = past; kept = kept }

abbrev wrote : RecvHold → Option Link → List Link → Option Link → ℕ → ℕ → Pair
wrote hold taken between newest denies refusals = record { send = SendHas inputs.Wrote; recv = hold; taken = taken; between = between; newest = newest; denies = denies; refusals = refusals }

-- a lane whose block is written stands as one that wrote what is sent in all
pub sent_here : (g : Common) (l : ℕ) (ask : Bool) (past after : LanePast) (kept : List Header) (r : Receiving) (hold : RecvHold) (taken : Option Link) (between : List Link) (newest : Option Link) (denies refusals : ℕ)
    → after ≡ record past { claims = sent past.claims }
    → Converses g l (at_state states.SendBlocks ask past kept) r (wrote hold taken between newest denies refusals)
    → Converses g l (at_state states.SendSize ask after kept) r (wrote hold taken between newest denies refusals)
sent_here g l ask past after kept r hold taken between newest denies refusals is c =
    subst (λ (x : LanePast). Converses g l (at_state states.SendSize ask x kept) r (wrote hold taken between newest denies refusals)) (sym is)
    record {
      agrees = c.agrees;
      lists = c.lists;
      sure = c.sure;
      upward = c.upward;
      fits = c.fits;
      notes = c.notes;
      closed = c.closed;
      asked = asked_free (recv_stance r.lane r.past.is_idle r.past.is_acked hold) taken kept r.landed r.begun (in_hand hold) past.claims.held c.asked;
      finished = λ e. let x = c.finished e in record { same = x.same; holds = refl };
      pieces = c.pieces;
      waits = c.waits;
      idle = λ e. let x = c.idle e in record { same = x.same; holds = refl; late = x.late; quiet = x.quiet };
      shut = c.shut;
      heard_up = tt;
      heard_down = c.heard_down;
    }

sent_there : (l : ℕ) (p : LanePast) → past_from l p (events.Sent (number l) ∷ []) ≡ record p { claims = sent p.claims }
sent_there l p = rw (eq-eqb l l refl) refl

claims_there : (l : ℕ) (b : Block) (p : LanePast) → (past_from l p (events.Claim (number l) b ∷ [])).claims ≡ claimed b p.claims
claims_there l b p = rw (eq-eqb l l refl) refl

quiet_sent : (k l : ℕ) (b : Block) (p : LanePast) → k ≢ l → past_from k p (events.Sent (number l) ∷ events.Claim (number l) b ∷ []) ≡ p
quiet_sent k l b p ne = rw (ne_eqb l k (λ e. ne (sym e))) refl

pub next_keeps : SenderKeeps → (w : PlainWorld) (l : ℕ) (lost : Option ℕ) (b : Block) → Conversation w → l < length w.pairs → state_at w.sender l ≡ states.SendBlocks → (past_at w.sender l).claims.closed ≡ None → is_failure w.sender.answer ≡ false
    → (pair_at w l).send ≡ SendHas inputs.Wrote → least_queued (noted w.sender (events.Sent (number l) ∷ [])) ≡ Some b → ((common w.receiver).finish ≡ true → ⊥) → Conversation (send_steps w l lost)
next_keeps keeps w l lost b c within here opens sound holds least unfinished =
    turn_keeps keeps w l lost states.SendBlocks inputs.Wrote es (acts.SendBlock h) (goes (noted mid (events.Claim (number l) b ∷ [])) (number l) states.SendBlocks) new c within here holds tt
    (row_turn w.sender l inputs.Wrote BlockWritten (ap (λ (x : SendState). row_of x inputs.Wrote) here) refl refl (ap is_some opens) sound ∙ ap (next_by mid (number l)) least)
    record { manifest = refl; history = append_assoc w.sender.history (events.Sent (number l) ∷ []) (events.Claim (number l) b ∷ []); lanes = length-set w.sender.lanes l new; own = ap lane_or_ended (get_set w.sender.lanes l new below); others = λ j ne. ap lane_or_ended (set_other w.sender.lanes l j new ne) }
    (λ k q ne. quiet_sent k l b q ne)
    (λ at. subst (λ (xs : List Header). Converses (common w.receiver) l record { lane = new; past = after; kept = xs } (receiving w.receiver l) (send_takes (record p { send = SendHas inputs.Wrote }) inputs.Wrote after.is_greeted (acts.SendBlock h))) (sym own)
    (claims_here (common w.receiver) l ask first after kept (receiving w.receiver l) h p.recv p.taken p.between p.newest p.denies p.refusals after.is_greeted
    (ap (λ (x : LanePast). x.is_greeted) was ∙ (fares_in w l states.SendBlocks c within here opens).greeted) unfinished refl (ap (λ (x : Claims). x.sure) claims) (ap (λ (x : Claims). x.held) claims) (ap (λ (x : Claims). x.closed) claims ∙ (ap (λ (x : LanePast). x.claims.closed) was ∙ opens))
    (sent_here (common w.receiver) l ask past first kept (receiving w.receiver l) p.recv p.taken p.between p.newest p.denies p.refusals was at))) where
      p : Pair
      p = pair_at w l

      ask : Bool
      ask = (lane_at w.sender l).ask

      past : LanePast
      past = past_at w.sender l

      kept : List Header
      kept = (sending w.sender l).kept

      mid : PlainSender
      mid = noted w.sender (events.Sent (number l) ∷ [])

      h : Header
      h = header_of w.sender b

      es : List SendEvent
      es = events.Sent (number l) ∷ events.Claim (number l) b ∷ []

      new : SendLane
      new = record { state = states.SendBlocks; ask = ask }

      below : l < length w.sender.lanes
      below = subst (λ (n : ℕ). l < n) (sym c.send_lanes) within

      first : LanePast
      first = past_from l past (events.Sent (number l) ∷ [])

      after : LanePast
      after = past_from l first (events.Claim (number l) b ∷ [])

      was : first ≡ record past { claims = sent past.claims }
      was = sent_there l past

      claims : after.claims ≡ claimed b first.claims
      claims = claims_there l b first

      own : map (sent_header w.sender.manifest) after.claims.kept ≡ kept ++ h ∷ []
      own = ap (λ (x : Claims). map (sent_header w.sender.manifest) x.kept) claims
          ∙ (map-append (sent_header w.sender.manifest) first.claims.kept (b ∷ [])
          ∙ ap (λ (x : LanePast). map (sent_header w.sender.manifest) x.claims.kept ++ h ∷ []) was)
