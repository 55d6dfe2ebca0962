-- A turn of the receiver's lane leaves the other lanes' part.
use Rattle.std.proofs.Common.{◌≡◌, ◌≢◌, ℕ, ◌<◌, List, [], ◌∷◌, ◌++◌, length, Bool, true, false, subst, sym, ap, ◌∙◌, refl}
use Rattle.std.proofs.lemmas.List.{length-set}
use Rattle.wdt_units.specs.declared.blocks.Header.{Header}
use Rattle.wdt_codec.specs.declared.frames.Frame.{Frame}
use Rattle.wdt_codec.specs.declared.frames.Frame.TheVariants as frames
use Rattle.wdt_codec.specs.declared.frames.Mark.{Mark}
use Rattle.wdt_sender_fsm.specs.Rules.{is_failure}
use Rattle.wdt_receiver_fsm.specs.declared.acts.RecvAct.{RecvAct}
use Rattle.wdt_receiver_fsm.specs.declared.events.RecvEvent.{RecvEvent}
use Rattle.wdt_receiver_fsm.specs.declared.states.RecvLane.{RecvLane}
use Rattle.wdt_receiver_fsm.specs.PlainReceiver.{PlainReceiver, lane_at, lane_or_ended, noted, past_at, with_lane}
use Rattle.wdt_receiver_fsm.specs.Receiver.{IsReceiver}
use Rattle.wdt_receiver_fsm.specs.ReceiverHistory.{past_from, past_of, past_of-append}
use Rattle.wdt_receiver_fsm.specs.Rows.{Row, Starved}
use Rattle.wdt_receiver_fsm.specs.Turn.{Put, after_starving, is_over, row_at, ruled, turn_plan, turn_row, turned}
use Rattle.wdt_pact.specs.Each.{Each}
use Rattle.wdt_pact.specs.Stances.{Stance, Talks, Aborts, Silent}
use Rattle.wdt_pact.specs.Pairs.{Pair, recv_gets}
use Rattle.wdt_pact.specs.World.{PlainWorld, number, pair_at, recv_turned}
use Rattle.wdt_pact.specs.Conversation.{Common, Grows, IsNamed, Sending, Receiving, Converses, Conversation, Marks, Tells, AllTell, common, receiving_of, sending, receiving}
use Rattle.wdt_pact.proofs.Below.{get_set, set_other}
use Rattle.wdt_pact.proofs.Frame.{each_pair}

marks_grow : (g new : Common) (l : ℕ) → Grows g new → (ms : List Mark) → Each (Marks g l) ms → Each (Marks new l) ms
marks_grow g new l grows [] e = tt
marks_grow g new l grows (m ∷ ms) e = ((grows.closed m.lane.0 m.count e.0.0, e.0.1), marks_grow g new l grows ms e.1)

pub tells_grow : (g new : Common) (l : ℕ) (landed : List Header) → Grows g new → (f : Frame) → Tells g l landed f → Tells new l landed f
tells_grow g new l landed grows (frames.ErrMarks ms) t = marks_grow g new l grows ms t
tells_grow g new l landed grows (frames.Chunks have) t = t ∙ sym grows.have
tells_grow g new l landed grows frames.Done t = grows.finish ∙ t
tells_grow g new l landed grows f t = t

pub each_map : {A : Type 0} (P Q : A → Type 0) → ((x : A) → P x → Q x) → (xs : List A) → Each P xs → Each Q xs
each_map P Q f [] e = tt
each_map P Q f (x ∷ xs) e = (f x e.0, each_map P Q f xs e.1)

all_tell : (s : Stance) (P Q : Frame → Type 0) → ((f : Frame) → P f → Q f) → (us : List Frame) → AllTell s P us → AllTell s Q us
all_tell (Talks p) P Q f us a = each_map P Q f us a
all_tell Aborts P Q f us a = tt
all_tell Silent P Q f us a = tt

-- a lane's part, where what all know has grown
pub converses_on : (g new : Common) (l : ℕ) (s : Sending) (r : Receiving) (p : Pair) → Grows g new → Converses g l s r p → Converses new l s r p
converses_on g new l s r p grows c =
    record {
      agrees = c.agrees;
      lists = c.lists;
      sure = c.sure;
      upward = all_tell _ _ _ (tells_grow g new l r.landed grows) _ c.upward;
      fits = c.fits;
      notes = c.notes;
      closed = c.closed;
      asked = c.asked;
      finished = λ e. c.finished (sym grows.finish ∙ e);
      pieces = c.pieces;
      waits = c.waits;
      idle = c.idle;
      shut = c.shut;
      heard_up = c.heard_up;
      heard_down = c.heard_down;
    }

pub recv_turn_keeps : (w : PlainWorld) (l : ℕ) (act : RecvAct) (r : PlainReceiver) → Conversation w → l < length w.pairs → IsReceiver r → length r.lanes ≡ length w.receiver.lanes
    → Grows (common w.receiver) (common r)
    → ((k : ℕ) → k < length w.pairs → IsNamed r.known (past_at r k))
    → ((k : ℕ) → k < length w.pairs → k ≢ l → receiving r k ≡ receiving w.receiver k)
    → Converses (common r) l (sending w.sender l) (receiving r l) (recv_gets (pair_at w l) act)
    → Conversation (recv_turned w l (act, r))
recv_turn_keeps w l act r c within is lanes grows named others own =
    let p : Pair = recv_gets (pair_at w l) act in
    record {
      sender = c.sender;
      receiver = is;
      send_lanes = c.send_lanes ∙ sym (length-set w.pairs l p);
      recv_lanes = lanes ∙ (c.recv_lanes ∙ sym (length-set w.pairs l p));
      named = λ k below. named k (subst (λ (n : ℕ). k < n) (length-set w.pairs l p) below);
      lanes = λ k below.
          each_pair (λ i q. Converses (common r) i (sending w.sender i) (receiving r i) q) w.pairs l p within own
          (λ i b ne. subst (λ (x : Receiving). Converses (common r) i (sending w.sender i) x (pair_at w i)) (sym (others i b ne))
          (converses_on (common w.receiver) (common r) i (sending w.sender i) (receiving w.receiver i) (pair_at w i) grows (c.lanes i b))) k
          (subst (λ (n : ℕ). k < n) (length-set w.pairs l p) below);
    }

-- ---- the receiver's side behind a step that notes some entries, and knows no more files

pub receiving_own : (r : PlainReceiver) (l : ℕ) (lane : RecvLane) (es : List RecvEvent) → l < length r.lanes → receiving (with_lane (noted r es) l lane) l ≡ receiving_of r.known lane (past_from l (past_of r.history l) es)
receiving_own r l lane es within =
    ap (λ (x : RecvLane). receiving_of r.known x (past_of (r.history ++ es) l)) (ap lane_or_ended (get_set r.lanes l lane within))
    ∙ ap (receiving_of r.known lane) (past_of-append r.history es l)

pub receiving_other : (r : PlainReceiver) (l k : ℕ) (lane : RecvLane) (es : List RecvEvent) → k ≢ l → past_from k (past_of r.history k) es ≡ past_of r.history k → receiving (with_lane (noted r es) l lane) k ≡ receiving r k
receiving_other r l k lane es ne quiet =
    ap (λ (x : RecvLane). receiving_of r.known x (past_of (r.history ++ es) k)) (ap lane_or_ended (set_other r.lanes l k lane ne))
    ∙ ap (receiving_of r.known (lane_at r k)) (past_of-append r.history es k ∙ quiet)

-- ---- the turn that a row is

abbrev pub is_starved : Row → Bool
is_starved (Starved mute) = true
is_starved _ = false

not_starved : (r : PlainReceiver) (row : Row) → is_starved row ≡ false → after_starving r row ≡ r
not_starved r (Starved mute) e = cc
not_starved r row e = refl

served : (r : PlainReceiver) (l : ℕ) (row : Row) → is_over row ≡ false → is_failure r.answer ≡ false → ruled r (number l) row ≡ turn_row r (number l) row
served r l row over sound = rw (over, sound) refl

-- of a lane of an end that hasn't failed
pub row_turn : (r : PlainReceiver) (l : ℕ) (put : Put) (row : Row) → row_at r (number l) put ≡ row → is_starved row ≡ false → is_over row ≡ false → is_failure r.answer ≡ false → turn_plan r (number l) put ≡ turn_row r (number l) row
unfolding turn_plan
row_turn r l put row is starved over sound =
    ap (turned r (number l)) is
    ∙ (ap (λ (x : PlainReceiver). ruled x (number l) row) (not_starved r row starved)
    ∙ served r l row over sound)
