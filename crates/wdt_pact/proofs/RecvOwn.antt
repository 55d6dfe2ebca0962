-- The receiver's own lane behind a step, part by part; and one wrapper for each step that brings no finish.
use Rattle.std.proofs.Common.{◌≡◌, ◌≢◌, inl, inr, ℕ, ◌<◌, List, [], ◌∷◌, ◌++◌, length, Bool, true, false, if◌then◌else◌, Option, Some, None, is_some, map, option_map, subst, sym, ap, ◌∙◌, refl, append-nil}
use Rattle.std.proofs.lemmas.Bool.{both_ways, cases_eq}
use Rattle.std.proofs.lemmas.List.{length-set}
use Rattle.wdt_units.specs.Lanes.{AllOf}
use Rattle.wdt_units.specs.declared.blocks.Block.{Block}
use Rattle.wdt_units.specs.declared.blocks.Header.{Header}
use Rattle.wdt_logfmt.specs.Beginning.{KnownFile, known_at}
use Rattle.wdt_logfmt.specs.View.{NamedFile}
use Rattle.wdt_sender_fsm.specs.declared.answers.EndAnswer.{EndAnswer}
use Rattle.wdt_receiver_fsm.specs.declared.events.RecvEvent.{RecvEvent}
use Rattle.wdt_receiver_fsm.specs.declared.states.RecvLane.{RecvLane}
use Rattle.wdt_receiver_fsm.specs.declared.states.RecvState.{RecvState}
use Rattle.wdt_receiver_fsm.specs.Logging.{all_logged, all_logged_by}
use Rattle.wdt_receiver_fsm.specs.Plan.{EndsIn}
use Rattle.wdt_receiver_fsm.specs.PlainReceiver.{PlainReceiver, failed, goes, has_finish, have_now, is_ended, lane_at, lane_or_ended, noted, past_at, state_at, with_lane}
use Rattle.wdt_receiver_fsm.specs.ReceiverHistory.{EndPast, RecvPast, end_from, end_of, end_of-append, lane_of, past_from, past_of, past_of-append}
use Rattle.wdt_receiver_fsm.specs.Touches.{Keeps, Touches}
use Rattle.wdt_receiver_fsm.specs.Turn.{Put, Step, turn_plan}
use Rattle.wdt_receiver_fsm.proofs.ForCallers.{closed_is_out, other_past, turn_keeps, turn_touches}
use Rattle.wdt_pact.specs.Each.{Each}
use Rattle.wdt_pact.specs.Pairs.{recv_gets}
use Rattle.wdt_pact.specs.World.{PlainWorld, number, pair_at, recv_turned}
use Rattle.wdt_pact.specs.Conversation.{Conversation, Converses, Grows, IsNamed, Receiving, closed_by, common, header_from, known_header, receiving, receiving_of, sending}
use Rattle.wdt_pact.proofs.Below.{get_set}
use Rattle.wdt_pact.proofs.Grows.{recv_turn_keeps}
use Rattle.wdt_pact.proofs.RecvRows.{have_stays}

-- ---- a lane's own part

-- behind a step the lane stands so, with such a past, where these files are known; the finish hasn't come with it
pub record Own (r t : PlainReceiver) (l : ℕ) (files : List (Option KnownFile)) (stands : RecvLane) (was : RecvPast) : Type 0 where
  pub many : length t.lanes ≡ length r.lanes
  pub known : t.known ≡ files
  pub lane : lane_at t l ≡ stands
  pub past : past_at t l ≡ was
  pub finish : has_finish t ≡ has_finish r

pub own_self : (r : PlainReceiver) (l : ℕ) → Own r r l r.known (lane_at r l) (past_at r l)
own_self r l = record { many = refl; known = refl; lane = refl; past = refl; finish = refl }

module _ (r t : PlainReceiver) (l : ℕ) (known : List (Option KnownFile)) (lane : RecvLane) (past : RecvPast) where
  pub own_side : Own r t l known lane past → receiving t l ≡ receiving_of known lane past
  own_side o = ap (λ (x : List (Option KnownFile)). receiving_of x (lane_at t l) (past_at t l)) o.known ∙ (ap (λ (x : RecvLane). receiving_of known x (past_at t l)) o.lane ∙ ap (receiving_of known lane) o.past)

  -- entries that say nothing of the finish
  pub own_noted : (es : List RecvEvent) (later : RecvPast) → past_from l past es ≡ later → (end_from (end_of t.history) es).has_finish ≡ has_finish t → Own r t l known lane past → Own r (noted t es) l known lane later
  own_noted es later is finish o =
      record {
        many = o.many;
        known = o.known;
        lane = o.lane;
        past = past_of-append t.history es l ∙ (ap (λ (p : RecvPast). past_from l p es) o.past ∙ is);
        finish = ap (λ (e : EndPast). e.has_finish) (end_of-append t.history es) ∙ (finish ∙ o.finish);
      }

  pub own_put : (after : RecvLane) → l < length r.lanes → Own r t l known lane past → Own r (with_lane t l after) l known after past
  own_put after within o =
      record {
        many = length-set t.lanes l after ∙ o.many;
        known = o.known;
        lane = ap lane_or_ended (get_set t.lanes l after (subst (λ (n : ℕ). l < n) (sym o.many) within));
        past = o.past;
        finish = o.finish;
      }

  pub own_goes : (st : RecvState) → l < length r.lanes → Own r t l known lane past → Own r (goes t l st) l known (record lane { state = st }) past
  own_goes st within o =
      record {
        many = length-set t.lanes l (record (lane_at t l) { state = st }) ∙ o.many;
        known = o.known;
        lane = ap lane_or_ended (get_set t.lanes l (record (lane_at t l) { state = st }) (subst (λ (n : ℕ). l < n) (sym o.many) within)) ∙ ap (λ (x : RecvLane). record x { state = st }) o.lane;
        past = o.past;
        finish = o.finish;
      }

  pub own_failed : (answer : EndAnswer) → Own r t l known lane past → Own r (failed t answer) l known lane past
  own_failed answer o = record { many = o.many; known = o.known; lane = o.lane; past = o.past; finish = o.finish }

  own_logged_by : (bs : List Block) → Own r t l known lane past → Own r (all_logged_by t bs) l known lane past
  own_logged_by [] o = o
  own_logged_by (b ∷ bs) o = record { many = o.many; known = o.known; lane = o.lane; past = o.past; finish = o.finish }

  pub own_logged : Own r t l known lane past → Own r (all_logged t) l known lane past
  own_logged o = own_logged_by t.unlogged o

-- ---- the other lanes

-- another lane's past is as it was
pub others_past : (g : List RecvEvent) (es : List RecvEvent) (l k : ℕ) → AllOf lane_of l es → k ≢ l → past_of (g ++ es) k ≡ past_of g k
others_past g [] l k own ne = ap (λ (h : List RecvEvent). past_of h k) (append-nil g)
others_past g (e ∷ es) l k own ne =
    past_of-append g (e ∷ es) k
    ∙ (ap (λ (p : RecvPast). past_from k p es) (sym (past_of-append g (e ∷ []) k) ∙ other_past g e l k (own.0, tt) ne)
    ∙ (sym (past_of-append g es k) ∙ others_past g es l k own.1 ne))

header_keeps : (before after : List (Option KnownFile)) → Keeps before after → (b : Block) → is_some (known_at before b.file) ≡ true → known_header after b ≡ known_header before b
header_keeps before after keeps b named = go (known_at before b.file) refl named where
  go : (o : Option KnownFile) → known_at before b.file ≡ o → is_some o ≡ true → known_header after b ≡ known_header before b
  go None is e = cc
  go (Some file) is e = ap (λ (x : Option KnownFile). header_from x b) (keeps b.file file is ∙ sym is)

some_keeps : (before after : List (Option KnownFile)) → Keeps before after → (n : ℕ) → is_some (known_at before n) ≡ true → is_some (known_at after n) ≡ true
some_keeps before after keeps n named = go (known_at before n) refl named where
  go : (o : Option KnownFile) → known_at before n ≡ o → is_some o ≡ true → is_some (known_at after n) ≡ true
  go None is e = cc
  go (Some file) is e = ap is_some (keeps n file is)

-- files that are known stay known
pub named_keeps : (before after : List (Option KnownFile)) (past : RecvPast) → Keeps before after → IsNamed before past → IsNamed after past
named_keeps before after past keeps n = record { landed = each past.landed n.landed; begun = λ b is. some_keeps before after keeps b.file (n.begun b is) } where
  each : (bs : List Block) → Each (λ (b : Block). is_some (known_at before b.file) ≡ true) bs → Each (λ (b : Block). is_some (known_at after b.file) ≡ true) bs
  each [] e = tt
  each (b ∷ bs) e = (some_keeps before after keeps b.file e.0, each bs e.1)

-- and what was told of blocks of theirs stays the same
pub side_keeps : (before after : List (Option KnownFile)) (lane : RecvLane) (past : RecvPast) → Keeps before after → IsNamed before past → receiving_of after lane past ≡ receiving_of before lane past
side_keeps before after lane past keeps n =
    ap (λ (hs : List Header). record { lane = lane; past = past; landed = hs; begun = option_map (known_header after) past.begun }) (each past.landed n.landed)
    ∙ ap (λ (o : Option Header). record { lane = lane; past = past; landed = map (known_header before) past.landed; begun = o }) (begun past.begun n.begun) where
      each : (bs : List Block) → Each (λ (b : Block). is_some (known_at before b.file) ≡ true) bs → map (known_header after) bs ≡ map (known_header before) bs
      each [] e = refl
      each (b ∷ bs) e = ap (λ (h : Header). h ∷ map (known_header after) bs) (header_keeps before after keeps b e.0) ∙ ap (λ (hs : List Header). known_header before b ∷ hs) (each bs e.1)

      begun : (o : Option Block) → ((b : Block) → o ≡ Some b → is_some (known_at before b.file) ≡ true) → option_map (known_header after) o ≡ option_map (known_header before) o
      begun None e = refl
      begun (Some b) e = ap Some (header_keeps before after keeps b (e b refl))

-- ---- the step

-- what another lane was, it is
pub others_side : (r t : PlainReceiver) (l k : ℕ) → Touches r (number l) t → k ≢ l → IsNamed r.known (past_at r k) → (receiving t k ≡ receiving r k) × IsNamed t.known (past_at t k)
others_side r t l k touches ne named =
    let past : past_at t k ≡ past_at r k = ap (λ (g : List RecvEvent). past_of g k) touches.history.behind ∙ others_past r.history touches.history.entries l k touches.history.own ne in (
      ap (λ (x : RecvLane). receiving_of t.known x (past_at t k)) (touches.others k ne) ∙ (ap (receiving_of t.known (lane_at r k)) past ∙ side_keeps r.known t.known (lane_at r k) (past_at r k) touches.known named),
      subst (IsNamed t.known) (sym past) (named_keeps r.known t.known (past_at r k) touches.known named),
    )

-- what all know, behind any step of a lane that hasn't ended
module _ (w : PlainWorld) (l : ℕ) (put : Put) (step : Step) (c : Conversation w) (within : l < length w.pairs) (ends : EndsIn (Unit {0}) (turn_plan w.receiver (number l) put) step) (goes_on : is_ended (state_at w.receiver l) ≡ false) where
  pub touched : Touches w.receiver (number l) step.1
  touched = turn_touches w.receiver (number l) put step ends

  pub have_behind : (common step.1).have ≡ (common w.receiver).have
  have_behind = ap (λ (o : List NamedFile). have_now o step.1.history) touched.opening ∙ have_stays w.receiver.opening step.1.history w.receiver.history

  closed_not : (n : ℕ) → closed_by (past_at w.receiver l) ≡ Some n → ⊥
  closed_not n e = go (past_at w.receiver l).is_closed refl e where
    go : (b : Bool) → (past_at w.receiver l).is_closed ≡ b → (if b then Some (length (past_at w.receiver l).landed) else None) ≡ Some n → ⊥
    go true is e = both_ways (is_ended (state_at w.receiver l)) goes_on (ap is_ended (closed_is_out w.receiver l c.receiver (subst (λ (n : ℕ). l < n) (sym c.recv_lanes) within) is).0)
    go false is e = cc

  pub closed_behind : (k n : ℕ) → closed_by (past_at w.receiver k) ≡ Some n → closed_by (past_at step.1 k) ≡ Some n
  closed_behind k n e = elim (cases_eq k l) [
    | inl same ↦ absurd (closed_not n (subst (λ (i : ℕ). closed_by (past_at w.receiver i) ≡ Some n) same e))
    | inr ne ↦ ap closed_by (ap (λ (g : List RecvEvent). past_of g k) touched.history.behind ∙ others_past w.receiver.history touched.history.entries l k touched.history.own ne) ∙ e
  ]

pub turned_keeps : (w : PlainWorld) (l : ℕ) (put : Put) (step : Step) (x : Receiving) → Conversation w → l < length w.pairs → EndsIn (Unit {0}) (turn_plan w.receiver (number l) put) step → is_ended (state_at w.receiver l) ≡ false
    → has_finish step.1 ≡ has_finish w.receiver → IsNamed step.1.known (past_at step.1 l) → receiving step.1 l ≡ x
    → (Grows (common w.receiver) (common step.1) → Converses (common step.1) l (sending w.sender l) x (recv_gets (pair_at w l) step.0))
    → Conversation (recv_turned w l step)
turned_keeps w l put step x c within ends goes_on finish named own part =
    recv_turn_keeps w l step.0 step.1 c within (turn_keeps w.receiver (number l) put step c.receiver below ends) touches.lanes grows
    (λ k small. elim (cases_eq k l) [
      | inl same ↦ subst (λ (i : ℕ). IsNamed step.1.known (past_at step.1 i)) (sym same) named
      | inr ne ↦ (others_side w.receiver step.1 l k touches ne (c.named k small)).1
    ])
    (λ k small ne. (others_side w.receiver step.1 l k touches ne (c.named k small)).0)
    (subst (λ (y : Receiving). Converses (common step.1) l (sending w.sender l) y (recv_gets (pair_at w l) step.0)) (sym own) (part grows)) where
      below : l < length w.receiver.lanes
      below = subst (λ (n : ℕ). l < n) (sym c.recv_lanes) within

      touches : Touches w.receiver (number l) step.1
      touches = touched w l put step c within ends goes_on

      grows : Grows (common w.receiver) (common step.1)
      grows = record { have = have_behind w l put step c within ends goes_on; finish = finish; closed = closed_behind w l put step c within ends goes_on }
