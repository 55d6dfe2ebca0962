-- What a step of one lane leaves of the others.
use Rattle.std.proofs.Common.{◌≡◌, ◌≢◌, ℕ, ◌<◌, ◌==◌, List, [], ◌∷◌, ◌++◌, length, slice_get, slice_set, Bool, true, false, subst, sym, ap, ◌∙◌, refl, eqb-true}
use Rattle.std.proofs.lemmas.Bool.{eqb-false}
use Rattle.std.proofs.lemmas.List.{length-set}
use Rattle.wdt_sender_fsm.specs.declared.acts.SendAct.{SendAct}
use Rattle.wdt_sender_fsm.specs.declared.inputs.SendIn.{SendIn}
use Rattle.wdt_sender_fsm.specs.declared.events.SendEvent.{SendEvent}
use Rattle.wdt_sender_fsm.specs.declared.states.SendLane.{SendLane}
use Rattle.wdt_sender_fsm.specs.Rows.{Row, Starved, row_of}
use Rattle.wdt_sender_fsm.specs.Rules.{is_failure}
use Rattle.wdt_sender_fsm.specs.Turn.{send_turn, turned, ruled, turn_row, after_starving, is_over}
use Rattle.wdt_sender_fsm.specs.PlainSender.{PlainSender, state_at, is_closed, past_at, lane_at, lane_or_ended, with_lane, noted}
use Rattle.wdt_sender_fsm.specs.SenderHistory.{past_after, past_of, past_of-more}
use Rattle.wdt_sender_fsm.specs.Sender.{IsSender}
use Rattle.wdt_pact.specs.Pairs.{Pair, send_takes}
use Rattle.wdt_pact.specs.World.{PlainWorld, pair_or, pair_at, with_pair, send_turned, number}
use Rattle.wdt_pact.specs.Conversation.{Sending, sending_of, sending, receiving, common, Converses, Conversation}
use Rattle.wdt_pact.proofs.Below.{get_set, lane_set, served, set_other}

-- what holds of lane l with its new pair, and of the others with theirs, holds of all
pub each_pair : (Has : ℕ → Pair → Type 0) (ps : List Pair) (l : ℕ) (p : Pair) → l < length ps → Has l p → ((k : ℕ) → k < length ps → k ≢ l → Has k (pair_or (slice_get ps k)))
    → (k : ℕ) → k < length ps → Has k (pair_or (slice_get (slice_set ps l p) k))
each_pair Has ps l p within own others k below = go (k == l) refl where
  go : (b : Bool) → (k == l) ≡ b → Has k (pair_or (slice_get (slice_set ps l p) k))
  go true is =
      subst (λ (i : ℕ). Has i (pair_or (slice_get (slice_set ps l p) i))) (sym (eqb-true k l is))
      (subst (λ (x : Pair). Has l x) (sym (ap pair_or (get_set ps l p within))) own)
  go false is =
      let ne : k ≢ l = eqb-false k l is in
      subst (λ (x : Pair). Has k x) (sym (ap pair_or (set_other ps l k p ne))) (others k below ne)

-- a step that leaves both ends as they are, and changes one pair
pub pair_keeps : (w : PlainWorld) (l : ℕ) (p : Pair) → Conversation w → l < length w.pairs → Converses (common w.receiver) l (sending w.sender l) (receiving w.receiver l) p → Conversation (with_pair w l p)
pair_keeps w l p c within own =
    record {
      sender = c.sender;
      receiver = c.receiver;
      send_lanes = c.send_lanes ∙ sym (length-set w.pairs l p);
      recv_lanes = c.recv_lanes ∙ sym (length-set w.pairs l p);
      named = λ k below. c.named k (subst (λ (n : ℕ). k < n) (length-set w.pairs l p) below);
      lanes = λ k below.
          each_pair (λ i q. Converses (common w.receiver) i (sending w.sender i) (receiving w.receiver i) q) w.pairs l p within own (λ i b ne. c.lanes i b) k
          (subst (λ (n : ℕ). k < n) (length-set w.pairs l p) below);
    }

-- a turn of the sender's lane that leaves what is the other lanes'
pub send_turn_keeps : (w : PlainWorld) (l : ℕ) (input : SendIn) (act : SendAct) (s : PlainSender) → Conversation w → l < length w.pairs → IsSender s → length s.lanes ≡ length w.sender.lanes
    → ((k : ℕ) → k ≢ l → sending s k ≡ sending w.sender k)
    → Converses (common w.receiver) l (sending s l) (receiving w.receiver l) (send_takes (pair_at w l) input (past_at s l).is_greeted act)
    → Conversation (send_turned w l input (act, s))
send_turn_keeps w l input act s c within is lanes others own =
    let p : Pair = send_takes (pair_at w l) input (past_at s l).is_greeted act in
    record {
      sender = is;
      receiver = c.receiver;
      send_lanes = lanes ∙ (c.send_lanes ∙ sym (length-set w.pairs l p));
      recv_lanes = c.recv_lanes ∙ sym (length-set w.pairs l p);
      named = λ k below. c.named k (subst (λ (n : ℕ). k < n) (length-set w.pairs l p) below);
      lanes = λ k below.
          each_pair (λ i q. Converses (common w.receiver) i (sending s i) (receiving w.receiver i) q) w.pairs l p within own
          (λ i b ne. subst (λ (x : Sending). Converses (common w.receiver) i x (receiving w.receiver i) (pair_at w i)) (sym (others i ne)) (c.lanes i b)) k
          (subst (λ (n : ℕ). k < n) (length-set w.pairs l p) below);
    }

-- ---- the sender's side behind a step that notes one entry

-- of its own lane
pub sending_own : (s : PlainSender) (l : ℕ) (lane : SendLane) (e : SendEvent) → l < length s.lanes → sending (with_lane (noted s (e ∷ [])) (number l) lane) l ≡ sending_of s.manifest lane (past_after l (past_of s.history l) e)
sending_own s l lane e within =
    ap (λ (x : SendLane). sending_of s.manifest x (past_of (s.history ++ e ∷ []) l)) (lane_set (noted s (e ∷ [])) (number l) lane within)
    ∙ ap (sending_of s.manifest lane) (past_of-more s.history e l)

-- of another lane, whose past the entry leaves
pub sending_other : (s : PlainSender) (l k : ℕ) (lane : SendLane) (e : SendEvent) → k ≢ l → past_after k (past_of s.history k) e ≡ past_of s.history k → sending (with_lane (noted s (e ∷ [])) (number l) lane) k ≡ sending s k
sending_other s l k lane e ne quiet =
    ap (λ (x : SendLane). sending_of s.manifest x (past_of (s.history ++ e ∷ []) k)) (ap lane_or_ended (set_other s.lanes l k lane ne))
    ∙ ap (sending_of s.manifest (lane_at s k)) (past_of-more s.history e k ∙ quiet)

-- the same of a step that notes nothing
pub sending_own_still : (s : PlainSender) (l : ℕ) (lane : SendLane) → l < length s.lanes → sending (with_lane s (number l) lane) l ≡ record (sending s l) { lane = lane }
sending_own_still s l lane within = ap (λ (x : SendLane). sending_of s.manifest x (past_of s.history l)) (lane_set s (number l) lane within)

pub sending_other_still : (s : PlainSender) (l k : ℕ) (lane : SendLane) → k ≢ l → sending (with_lane s (number l) lane) k ≡ sending s k
sending_other_still s l k lane ne = ap (λ (x : SendLane). sending_of s.manifest x (past_of s.history k)) (ap lane_or_ended (set_other s.lanes l k lane ne))

-- ---- the turn that a row is

abbrev pub is_starved : Row → Bool
is_starved (Starved mute) = true
is_starved _ = false

not_starved : (s : PlainSender) (row : Row) → is_starved row ≡ false → after_starving s row ≡ s
not_starved s (Starved mute) e = cc
not_starved s row e = refl

-- of an open lane of an end that hasn't failed
pub row_turn : (s : PlainSender) (l : ℕ) (input : SendIn) (row : Row) → row_of (state_at s l) input ≡ row → is_starved row ≡ false → is_over row ≡ false → is_closed s l ≡ false → is_failure s.answer ≡ false → send_turn s (number l) input ≡ turn_row s (number l) row
unfolding send_turn
row_turn s l input row is starved over opens sound =
    ap (turned s (number l)) is
    ∙ (ap (λ (x : PlainSender). ruled x (number l) row) (not_starved s row starved)
    ∙ served s (number l) row over opens sound)
