-- One wrapper for each row of the sender's table that notes one entry of its own lane.
use Rattle.std.proofs.Common.{◌≡◌, ◌≢◌, ℕ, ◌<◌, List, [], ◌∷◌, ◌++◌, length, false, Option, None, is_some, subst, sym, ap, ◌∙◌, refl, append_assoc, append-nil}
use Rattle.std.proofs.lemmas.List.{length-set}
use Rattle.wdt_tree.specs.declared.entry.Entry.{Entry}
use Rattle.wdt_sender_fsm.specs.declared.acts.SendAct.{SendAct}
use Rattle.wdt_sender_fsm.specs.declared.acts.SendAct.TheVariants as acts
use Rattle.wdt_sender_fsm.specs.declared.events.SendEvent.{SendEvent}
use Rattle.wdt_sender_fsm.specs.declared.events.SendEvent.TheVariants as events
use Rattle.wdt_sender_fsm.specs.declared.inputs.SendIn.{SendIn}
use Rattle.wdt_sender_fsm.specs.declared.inputs.SendIn.TheVariants as inputs
use Rattle.wdt_sender_fsm.specs.declared.states.SendLane.{SendLane}
use Rattle.wdt_sender_fsm.specs.declared.states.SendState.{SendState}
use Rattle.wdt_sender_fsm.specs.declared.states.SendState.TheVariants as states
use Rattle.wdt_sender_fsm.specs.PlainSender.{PlainSender, lane_at, lane_or_ended, past_at, state_at, noted, with_lane}
use Rattle.wdt_sender_fsm.specs.Rows.{DoneWritten, row_of}
use Rattle.wdt_sender_fsm.specs.Rules.{is_failure}
use Rattle.wdt_sender_fsm.specs.Sender.{Fares, FitsIn, IsSender}
use Rattle.wdt_sender_fsm.specs.SenderHistory.{LanePast, end_of, past_after, past_from, past_of, past_of-more}
use Rattle.wdt_sender_fsm.specs.Turn.{Step, send_turn}
use Rattle.wdt_pact.specs.Pairs.{SendHold, SendHas, send_takes}
use Rattle.wdt_pact.specs.World.{PlainWorld, number, pair_at, send_steps, send_steps_by, send_turned}
use Rattle.wdt_pact.specs.Conversation.{Conversation, Converses, Sending, common, receiving, sending, sending_of}
use Rattle.wdt_pact.proofs.Below.{get_set, set_other}
use Rattle.wdt_pact.proofs.Frame.{row_turn, send_turn_keeps}
use Rattle.wdt_pact.proofs.Promised.{SenderKeeps}

-- the lane's side in a state
abbrev pub stands_in : PlainSender → ℕ → SendState → Sending
stands_in s l st = sending_of s.manifest record { state = st; ask = (lane_at s l).ask } (past_at s l)

-- the lane's side behind a row: its past is one entry longer
abbrev pub stands_after : PlainSender → ℕ → SendLane → SendEvent → Sending
stands_after s l new e = sending_of s.manifest new (past_after l (past_at s l) e)

-- a lane that isn't closed stands as its state says
pub fares_in : (w : PlainWorld) (l : ℕ) (st : SendState) → Conversation w → l < length w.pairs → state_at w.sender l ≡ st → (past_at w.sender l).claims.closed ≡ None
    → Fares (is_failure w.sender.answer) st (lane_at w.sender l).ask (past_at w.sender l) (end_of w.sender.history)
fares_in w l st c within here opens =
    subst (λ (x : SendState). Fares (is_failure w.sender.answer) x (lane_at w.sender l).ask (past_at w.sender l) (end_of w.sender.history)) here
    (c.sender.lanes l (subst (λ (n : ℕ). l < n) (sym c.send_lanes) within) opens)

-- the lane's part, with its state and what it holds written out
pub row_at : (w : PlainWorld) (l : ℕ) (st : SendState) (input : SendIn) → Conversation w → l < length w.pairs → state_at w.sender l ≡ st → (pair_at w l).send ≡ SendHas input
    → Converses (common w.receiver) l (stands_in w.sender l st) (receiving w.receiver l) (record (pair_at w l) { send = SendHas input })
row_at w l st input c within here holds =
    subst (λ (x : SendState). Converses (common w.receiver) l (stands_in w.sender l x) (receiving w.receiver l) (record (pair_at w l) { send = SendHas input })) here
    (subst (λ (x : SendHold). Converses (common w.receiver) l (sending w.sender l) (receiving w.receiver l) (record (pair_at w l) { send = x })) holds (c.lanes l within))

-- a sender behind these entries of a lane, which stands so: the others stand as they did
pub record Behind (s t : PlainSender) (l : ℕ) (lane : SendLane) (es : List SendEvent) : Type 0 where
  pub manifest : t.manifest ≡ s.manifest
  pub history : t.history ≡ s.history ++ es
  pub lanes : length t.lanes ≡ length s.lanes
  pub own : lane_at t l ≡ lane
  pub others : (j : ℕ) → j ≢ l → lane_at t j ≡ lane_at s j

-- a history that grows by some entries
pub past_of-append : (h es : List SendEvent) (l : ℕ) → past_of (h ++ es) l ≡ past_from l (past_of h l) es
past_of-append h [] l = ap (λ (g : List SendEvent). past_of g l) (append-nil h)
past_of-append h (e ∷ es) l =
    ap (λ (g : List SendEvent). past_of g l) (sym (append_assoc h (e ∷ []) es))
    ∙ (past_of-append (h ++ e ∷ []) es l ∙ ap (λ (p : LanePast). past_from l p es) (past_of-more h e l))

module _ (s t : PlainSender) (l : ℕ) (lane : SendLane) (es : List SendEvent) (b : Behind s t l lane es) where
  past_behind : (k : ℕ) → past_at t k ≡ past_from k (past_at s k) es
  past_behind k = ap (λ (g : List SendEvent). past_of g k) b.history ∙ past_of-append s.history es k

  own_behind : sending t l ≡ sending_of s.manifest lane (past_from l (past_at s l) es)
  own_behind =
      ap (λ (x : List Entry). sending_of x (lane_at t l) (past_at t l)) b.manifest
      ∙ (ap (λ (x : SendLane). sending_of s.manifest x (past_at t l)) b.own
      ∙ ap (sending_of s.manifest lane) (past_behind l))

  other_behind : (k : ℕ) → k ≢ l → past_from k (past_at s k) es ≡ past_at s k → sending t k ≡ sending s k
  other_behind k ne quiet =
      ap (λ (x : List Entry). sending_of x (lane_at t k) (past_at t k)) b.manifest
      ∙ (ap (λ (x : SendLane). sending_of s.manifest x (past_at t k)) (b.others k ne)
      ∙ ap (sending_of s.manifest (lane_at s k)) (past_behind k ∙ quiet))

-- a sender whose lane was put so, behind these entries
pub put_behind : (s : PlainSender) (l : ℕ) (new : SendLane) (es : List SendEvent) → l < length s.lanes → Behind s (with_lane (noted s es) (number l) new) l new es
put_behind s l new es within =
    record {
      manifest = refl;
      history = refl;
      lanes = length-set s.lanes l new;
      own = ap lane_or_ended (get_set s.lanes l new within);
      others = λ j ne. ap lane_or_ended (set_other s.lanes l j new ne);
    }

-- the same where nothing is noted
pub put_still : (s : PlainSender) (l : ℕ) (new : SendLane) → l < length s.lanes → Behind s (with_lane s (number l) new) l new []
put_still s l new within =
    record {
      manifest = refl;
      history = sym (append-nil s.history);
      lanes = length-set s.lanes l new;
      own = ap lane_or_ended (get_set s.lanes l new within);
      others = λ j ne. ap lane_or_ended (set_other s.lanes l j new ne);
    }

-- a turn of a lane that hands in an input
pub turn_keeps : SenderKeeps → (w : PlainWorld) (l : ℕ) (lost : Option ℕ) (st : SendState) (input : SendIn) (es : List SendEvent) (act : SendAct) (t : PlainSender) (new : SendLane) → Conversation w → l < length w.pairs → state_at w.sender l ≡ st → (pair_at w l).send ≡ SendHas input → FitsIn input
    → send_turn w.sender (number l) input ≡ (act, t)
    → Behind w.sender t l new es
    → ((k : ℕ) (p : LanePast) → k ≢ l → past_from k p es ≡ p)
    → (Converses (common w.receiver) l (stands_in w.sender l st) (receiving w.receiver l) (record (pair_at w l) { send = SendHas input })
    → Converses (common w.receiver) l (sending_of w.sender.manifest new (past_from l (past_at w.sender l) es)) (receiving w.receiver l) (send_takes (pair_at w l) input (past_from l (past_at w.sender l) es).is_greeted act))
    → Conversation (send_steps w l lost)
turn_keeps keeps w l lost st input es act t new c within here holds fits is b quiet own =
    let below : l < length w.sender.lanes = subst (λ (n : ℕ). l < n) (sym c.send_lanes) within in
    subst (λ (x : SendHold). Conversation (send_steps_by w l lost x)) (sym holds)
    (subst (λ (x : Step). Conversation (send_turned w l input x)) (sym is)
    (send_turn_keeps w l input act t c within
    (subst (λ (x : Step). IsSender x.1) is (keeps w.sender (number l) input c.sender below fits))
    b.lanes
    (λ k ne. other_behind w.sender t l new es b k ne (quiet k (past_at w.sender k) ne))
    (subst (λ (x : Sending). Converses (common w.receiver) l x (receiving w.receiver l) (send_takes (pair_at w l) input x.past.is_greeted act)) (sym (own_behind w.sender t l new es b)) (own (row_at w l st input c within here holds)))))

-- one that notes one entry
pub entry_keeps : SenderKeeps → (w : PlainWorld) (l : ℕ) (lost : Option ℕ) (st : SendState) (input : SendIn) (e : SendEvent) (act : SendAct) (new : SendLane) → Conversation w → l < length w.pairs → state_at w.sender l ≡ st → (pair_at w l).send ≡ SendHas input → FitsIn input
    → send_turn w.sender (number l) input ≡ (act, with_lane (noted w.sender (e ∷ [])) (number l) new)
    → ((k : ℕ) (p : LanePast) → k ≢ l → past_after k p e ≡ p)
    → (Converses (common w.receiver) l (stands_in w.sender l st) (receiving w.receiver l) (record (pair_at w l) { send = SendHas input })
    → Converses (common w.receiver) l (stands_after w.sender l new e) (receiving w.receiver l) (send_takes (pair_at w l) input (past_after l (past_at w.sender l) e).is_greeted act))
    → Conversation (send_steps w l lost)
entry_keeps keeps w l lost st input e act new c within here holds fits is quiet own =
    turn_keeps keeps w l lost st input (e ∷ []) act (with_lane (noted w.sender (e ∷ [])) (number l) new) new c within here holds fits is
    (put_behind w.sender l new (e ∷ []) (subst (λ (n : ℕ). l < n) (sym c.send_lanes) within)) quiet own

-- ---- the last word is written

pub done_keeps : SenderKeeps → (w : PlainWorld) (l : ℕ) (lost : Option ℕ) → Conversation w → l < length w.pairs → state_at w.sender l ≡ states.SendDone → (past_at w.sender l).claims.closed ≡ None → is_failure w.sender.answer ≡ false → (pair_at w l).send ≡ SendHas inputs.Wrote
    → Conversation (send_steps w l lost)
done_keeps keeps w l lost c within here opens sound holds =
    entry_keeps keeps w l lost states.SendDone inputs.Wrote (events.Done (number l)) acts.Read record { state = states.ReadReceiverCmd; ask = (lane_at w.sender l).ask } c within here holds tt
    (row_turn w.sender l inputs.Wrote DoneWritten (ap (λ (x : SendState). row_of x inputs.Wrote) here) refl refl (ap is_some opens) sound)
    (λ k p ne. refl)
    (λ at. record {
      agrees = at.agrees;
      lists = at.lists;
      sure = at.sure;
      upward = at.upward;
      fits = at.fits;
      notes = at.notes;
      closed = λ x. let f = at.closed x in record { there = f.there; same = f.same };
      asked = at.asked;
      finished = λ x. let f = at.finished x in record { same = f.same; holds = f.holds };
      pieces = at.pieces;
      waits = at.waits;
      idle = at.idle;
      shut = at.shut;
      heard_up = tt;
      heard_down = at.heard_down;
    })
