-- The sender's lane is free for the next block: it takes it, or says that nothing more is to come. What it noted before
-- may close other lanes.
use Rattle.std.proofs.Common.{◌≡◌, ◌≢◌, ℕ, zero, suc, ◌<◌, ◌||◌, not, Bool, true, false, if◌then◌else◌, List, [], ◌∷◌, ◌++◌, length, map, filter, Option, Some, None, subst, sym, ap, ◌∙◌, refl, arith, eq-eqb}
use Rattle.std.proofs.lemmas.Bool.{ne_eqb}
use Rattle.std.proofs.lemmas.List.{length-set, map-append}
use Rattle.std.specs.List.{list_any}
use Rattle.wdt_units.specs.declared.blocks.Block.{Block}
use Rattle.wdt_units.specs.declared.blocks.Header.{Header}
use Rattle.wdt_claims.specs.LaneWords.{Claims, claimed}
use Rattle.wdt_claims.specs.Places.{is_queued, keeps}
use Rattle.wdt_codec.specs.declared.frames.Frame.TheVariants as frames
use Rattle.wdt_sender_fsm.specs.declared.acts.SendAct.{SendAct}
use Rattle.wdt_sender_fsm.specs.declared.acts.SendAct.TheVariants as acts
use Rattle.wdt_sender_fsm.specs.declared.events.SendEvent.{SendEvent}
use Rattle.wdt_sender_fsm.specs.declared.events.SendEvent.TheVariants as events
use Rattle.wdt_sender_fsm.specs.declared.inputs.SendIn.{SendIn}
use Rattle.wdt_sender_fsm.specs.declared.inputs.SendIn.TheVariants as inputs
use Rattle.wdt_sender_fsm.specs.declared.states.SendLane.{SendLane}
use Rattle.wdt_sender_fsm.specs.declared.states.SendState.{SendState}
use Rattle.wdt_sender_fsm.specs.declared.states.SendState.TheVariants as states
use Rattle.wdt_sender_fsm.specs.Places.{claims_of, least_of, planned_now, planned_now-is, queue_of, queued, tabulate}
use Rattle.wdt_sender_fsm.specs.PlainSender.{blocks_of, goes, header_of, lane_at, lane_or_ended, least_queued, noted, past_at, waiting_blocks}
use Rattle.wdt_sender_fsm.specs.Sender.{IsSender}
use Rattle.wdt_sender_fsm.specs.SenderHistory.{LanePast, past_after, past_from, past_of}
use Rattle.wdt_sender_fsm.specs.Turn.{Step, writes}
use Rattle.wdt_pact.specs.Links.{Link}
use Rattle.wdt_pact.specs.Pairs.{Pair, SendDoes, SendHas, send_takes}
use Rattle.wdt_pact.specs.World.{PlainWorld, number, pair_at, send_turned}
use Rattle.wdt_pact.specs.Conversation.{Conversation, Converses, NotesBy, Sending, common, receiving, sending, sending_of, sent_header}
use Rattle.wdt_pact.proofs.Below.{get_set, set_other}
use Rattle.wdt_pact.proofs.Claims.{claims_here}
use Rattle.wdt_pact.proofs.Frame.{each_pair}
use Rattle.wdt_pact.proofs.Rows.{past_of-append}
use Rattle.wdt_pact.proofs.SendMoves.{steps_here}

-- ---- a turn that changes other lanes' sides, too

pub turned_keeps : (w : PlainWorld) (l : ℕ) (input : SendIn) (step : Step) → Conversation w → l < length w.pairs → IsSender step.1 → length step.1.lanes ≡ length w.sender.lanes
    → ((k : ℕ) → k < length w.pairs → k ≢ l → Converses (common w.receiver) k (sending step.1 k) (receiving w.receiver k) (pair_at w k))
    → Converses (common w.receiver) l (sending step.1 l) (receiving w.receiver l) (send_takes (pair_at w l) input (past_at step.1 l).is_greeted step.0)
    → Conversation (send_turned w l input step)
turned_keeps w l input step c within is lanes others own =
    let p : Pair = send_takes (pair_at w l) input (past_at step.1 l).is_greeted step.0 in
    record {
      sender = is;
      receiver = c.receiver;
      send_lanes = lanes ∙ (c.send_lanes ∙ sym (length-set w.pairs l p));
      recv_lanes = c.recv_lanes ∙ sym (length-set w.pairs l p);
      named = λ k below. c.named k (subst (λ (n : ℕ). k < n) (length-set w.pairs l p) below);
      lanes = λ k below.
          each_pair (λ i q. Converses (common w.receiver) i (sending step.1 i) (receiving w.receiver i) q) w.pairs l p within own others k
          (subst (λ (n : ℕ). k < n) (length-set w.pairs l p) below);
    }

-- ---- what waits

any_more : (p : Claims → Bool) (xs : List Claims) (x : Claims) → list_any p (xs ++ x ∷ []) ≡ (list_any p xs || (p x || false))
any_more p [] x = refl
any_more p (y ∷ xs) x = go (p y) (any_more p xs x) where
  go : (b : Bool) → list_any p (xs ++ x ∷ []) ≡ (list_any p xs || (p x || false)) → (b || list_any p (xs ++ x ∷ [])) ≡ ((b || list_any p xs) || (p x || false))
  go true e = refl
  go false e = e

any_kept : (b : Block) (n : ℕ) (f g : ℕ → Claims) → ((k : ℕ) → k < n → (g k).kept ≡ (f k).kept) → list_any (keeps b) (tabulate n g) ≡ list_any (keeps b) (tabulate n f)
any_kept b zero f g same = refl
any_kept b (suc n) f g same =
    any_more (keeps b) (tabulate n g) (g n)
    ∙ (ap (λ (x : Bool). x || (keeps b (g n) || false)) (any_kept b n f g (λ k below. same k (omega (arith, below))))
    ∙ (ap (λ (ks : List Block). list_any (keeps b) (tabulate n f) || (keeps b (record (f n) { kept = ks }) || false)) (same n (omega arith))
    ∙ sym (any_more (keeps b) (tabulate n f) (f n))))

filter_same : (p q : Block → Bool) → ((b : Block) → p b ≡ q b) → (bs : List Block) → filter p bs ≡ filter q bs
filter_same p q same [] = refl
filter_same p q same (b ∷ bs) = ap (λ (x : Bool). if x then b ∷ filter p bs else filter p bs) (same b) ∙ ap (λ (xs : List Block). if q b then b ∷ xs else xs) (filter_same p q same bs)

-- where no lane's list changes, the same blocks wait
pub same_waiting : (n : ℕ) (planned : List Block) (g h : List SendEvent) → ((k : ℕ) → k < n → (past_of g k).claims.kept ≡ (past_of h k).claims.kept) → queued n planned g ≡ queued n planned h
same_waiting n planned g h same =
    ap (λ (bs : List Block). queue_of bs (claims_of n g)) (planned_now-is planned g ∙ sym (planned_now-is planned h))
    ∙ filter_same (is_queued (claims_of n g)) (is_queued (claims_of n h)) (λ b. ap not (any_kept b n (λ k. (past_of h k).claims) (λ k. (past_of g k).claims) same)) (planned_now planned h)

-- ---- a lane that is free

pub past_from-append : (l : ℕ) (p : LanePast) (xs ys : List SendEvent) → past_from l p (xs ++ ys) ≡ past_from l (past_from l p xs) ys
past_from-append l p [] ys = refl
past_from-append l p (x ∷ xs) ys = past_from-append l (past_after l p x) xs ys

-- behind these entries the lane is free, as one that has written what is sent in all
pub record IsFree (w : PlainWorld) (l : ℕ) (input : SendIn) (es : List SendEvent) : Type 0 where
  pub own : Converses (common w.receiver) l (sending_of w.sender.manifest record { state = states.SendSize; ask = (lane_at w.sender l).ask } (past_from l (past_at w.sender l) es)) (receiving w.receiver l) (record (pair_at w l) { send = SendHas inputs.Wrote })
  pub others : (k : ℕ) → k < length w.pairs → k ≢ l → Converses (common w.receiver) k (sending_of w.sender.manifest (lane_at w.sender k) (past_from k (past_at w.sender k) es)) (receiving w.receiver k) (pair_at w k)
  pub greeted : (past_from l (past_at w.sender l) es).is_greeted ≡ true
  pub opens : (past_from l (past_at w.sender l) es).claims.closed ≡ None
  pub still : (act : SendAct) → record (pair_at w l) { send = SendDoes act } ≡ send_takes (pair_at w l) input true act
  pub kept : (common w.receiver).finish ≡ true → (k : ℕ) → k < length w.pairs → (past_from k (past_at w.sender k) es).claims.kept ≡ (past_at w.sender k).claims.kept

module _ (w : PlainWorld) (l : ℕ) (input : SendIn) (c : Conversation w) (within : l < length w.pairs) (es : List SendEvent) (free : IsFree w l input es) (empty : (common w.receiver).finish ≡ true → waiting_blocks w.sender ≡ []) where
  below : l < length w.sender.lanes
  below = subst (λ (n : ℕ). l < n) (sym c.send_lanes) within

  abbrev first : LanePast
  first = past_from l (past_at w.sender l) es

  -- behind the finish nothing waits
  unfinished : (b : Block) → least_queued (noted w.sender es) ≡ Some b → (common w.receiver).finish ≡ true → ⊥
  unfinished b least come =
      let none : waiting_blocks (noted w.sender es) ≡ [] =
      same_waiting (length w.sender.lanes) (blocks_of w.sender) (w.sender.history ++ es) w.sender.history (λ k small. ap (λ (p : LanePast). p.claims.kept) (past_of-append w.sender.history es k) ∙ free.kept come k (subst (λ (n : ℕ). k < n) c.send_lanes small))
      ∙ empty come in
      some_not b (sym (ap least_of none) ∙ least) where
        some_not : (b : Block) → None ≡ Some b → ⊥
        some_not b e = cc

  -- the sides of the lanes behind entries
  side_own : (tail : List SendEvent) (st : SendState) → sending (goes (noted w.sender (es ++ tail)) (number l) st) l ≡ sending_of w.sender.manifest record { state = st; ask = (lane_at w.sender l).ask } (past_from l first tail)
  side_own tail st =
      ap (λ (x : SendLane). sending_of w.sender.manifest x (past_of (w.sender.history ++ (es ++ tail)) l)) (ap lane_or_ended (get_set w.sender.lanes l record { state = st; ask = (lane_at w.sender l).ask } below))
      ∙ ap (sending_of w.sender.manifest record { state = st; ask = (lane_at w.sender l).ask }) (past_of-append w.sender.history (es ++ tail) l ∙ past_from-append l (past_at w.sender l) es tail)

  side_other : (tail : List SendEvent) (st : SendState) (k : ℕ) → k ≢ l → past_from k (past_from k (past_at w.sender k) es) tail ≡ past_from k (past_at w.sender k) es
      → sending (goes (noted w.sender (es ++ tail)) (number l) st) k ≡ sending_of w.sender.manifest (lane_at w.sender k) (past_from k (past_at w.sender k) es)
  side_other tail st k ne quiet =
      ap (λ (x : SendLane). sending_of w.sender.manifest x (past_of (w.sender.history ++ (es ++ tail)) k)) (ap lane_or_ended (set_other w.sender.lanes l k record { state = st; ask = (lane_at w.sender l).ask } ne))
      ∙ ap (sending_of w.sender.manifest (lane_at w.sender k)) (past_of-append w.sender.history (es ++ tail) k ∙ (past_from-append k (past_at w.sender k) es tail ∙ quiet))

  -- it takes the next block
  pub claims_keeps : (b : Block) → least_queued (noted w.sender es) ≡ Some b → IsSender (goes (noted w.sender (es ++ events.Claim (number l) b ∷ [])) (number l) states.SendBlocks)
      → Conversation (send_turned w l input (acts.SendBlock (header_of w.sender b), goes (noted w.sender (es ++ events.Claim (number l) b ∷ [])) (number l) states.SendBlocks))
  claims_keeps b least is =
      turned_keeps w l input (acts.SendBlock h, goes (noted w.sender (es ++ tail)) (number l) states.SendBlocks) c within is (length-set w.sender.lanes l new)
      (λ k small ne. subst (λ (x : Sending). Converses (common w.receiver) k x (receiving w.receiver k) (pair_at w k)) (sym (side_other tail states.SendBlocks k ne (rw (ne_eqb l k (λ e. ne (sym e))) refl))) (free.others k small ne))
      (subst (λ (x : Sending). Converses (common w.receiver) l x (receiving w.receiver l) (send_takes (pair_at w l) input x.past.is_greeted (acts.SendBlock h))) (sym (side_own tail states.SendBlocks))
      (subst (λ (x : Bool). Converses (common w.receiver) l (sending_of w.sender.manifest new after) (receiving w.receiver l) (send_takes (pair_at w l) input x (acts.SendBlock h))) (sym free.greeted)
      (subst (Converses (common w.receiver) l (sending_of w.sender.manifest new after) (receiving w.receiver l)) (free.still (acts.SendBlock h))
      (subst (λ (xs : List Header). Converses (common w.receiver) l record { lane = new; past = after; kept = xs } (receiving w.receiver l) (record (pair_at w l) { send = SendDoes (acts.SendBlock h) })) (sym kept)
      (claims_here (common w.receiver) l (lane_at w.sender l).ask first after (map (sent_header w.sender.manifest) first.claims.kept) (receiving w.receiver l) h (pair_at w l).recv (pair_at w l).taken (pair_at w l).between (pair_at w l).newest (pair_at w l).denies (pair_at w l).refusals true
      free.greeted (unfinished b least) refl (ap (λ (x : Claims). x.sure) claims) (ap (λ (x : Claims). x.held) claims) (ap (λ (x : Claims). x.closed) claims ∙ free.opens) free.own))))) where
        h : Header
        h = header_of w.sender b

        tail : List SendEvent
        tail = events.Claim (number l) b ∷ []

        new : SendLane
        new = record { state = states.SendBlocks; ask = (lane_at w.sender l).ask }

        after : LanePast
        after = past_from l first tail

        claims : after.claims ≡ claimed b first.claims
        claims = rw (eq-eqb l l refl) refl

        kept : map (sent_header w.sender.manifest) after.claims.kept ≡ map (sent_header w.sender.manifest) first.claims.kept ++ h ∷ []
        kept = ap (λ (x : Claims). map (sent_header w.sender.manifest) x.kept) claims ∙ map-append (sent_header w.sender.manifest) first.claims.kept (b ∷ [])

  -- no block waits, and the last word is to be written
  pub empties_keeps : IsSender (goes (noted w.sender es) (number l) states.SendDone) → Conversation (send_turned w l input (writes (goes (noted w.sender es) (number l) states.SendDone) frames.Done))
  empties_keeps is =
      turned_keeps w l input (writes (goes (noted w.sender es) (number l) states.SendDone) frames.Done) c within is (length-set w.sender.lanes l new)
      (λ k small ne. subst (λ (x : Sending). Converses (common w.receiver) k x (receiving w.receiver k) (pair_at w k)) (sym (other k ne)) (free.others k small ne))
      (subst (λ (x : Sending). Converses (common w.receiver) l x (receiving w.receiver l) (send_takes (pair_at w l) input x.past.is_greeted (acts.Write frames.Done))) (sym own)
      (subst (λ (x : Bool). Converses (common w.receiver) l (sending_of w.sender.manifest new first) (receiving w.receiver l) (send_takes (pair_at w l) input x (acts.Write frames.Done))) (sym free.greeted)
      (subst (Converses (common w.receiver) l (sending_of w.sender.manifest new first) (receiving w.receiver l)) (free.still (acts.Write frames.Done))
      (steps_here (common w.receiver) l record { state = states.SendSize; ask = (lane_at w.sender l).ask } new first first (map (sent_header w.sender.manifest) first.claims.kept) (receiving w.receiver l) (pair_at w l).recv (pair_at w l).taken (pair_at w l).between (pair_at w l).newest (pair_at w l).denies (pair_at w l).refusals inputs.Wrote (acts.Write frames.Done)
      refl refl (λ rest e. e) notes free.own)))) where
        new : SendLane
        new = record { state = states.SendDone; ask = (lane_at w.sender l).ask }

        notes : (o : Option Link) → NotesBy states.SendSize (SendHas inputs.Wrote) first o → NotesBy states.SendDone (SendDoes (acts.Write frames.Done)) first o
        notes None n = n
        notes (Some k) n = n

        own : sending (goes (noted w.sender es) (number l) states.SendDone) l ≡ sending_of w.sender.manifest new first
        own =
            ap (λ (x : SendLane). sending_of w.sender.manifest x (past_of (w.sender.history ++ es) l)) (ap lane_or_ended (get_set w.sender.lanes l new below))
            ∙ ap (sending_of w.sender.manifest new) (past_of-append w.sender.history es l)

        other : (k : ℕ) → k ≢ l → sending (goes (noted w.sender es) (number l) states.SendDone) k ≡ sending_of w.sender.manifest (lane_at w.sender k) (past_from k (past_at w.sender k) es)
        other k ne =
            ap (λ (x : SendLane). sending_of w.sender.manifest x (past_of (w.sender.history ++ es) k)) (ap lane_or_ended (set_other w.sender.lanes l k new ne))
            ∙ ap (sending_of w.sender.manifest (lane_at w.sender k)) (past_of-append w.sender.history es k)
