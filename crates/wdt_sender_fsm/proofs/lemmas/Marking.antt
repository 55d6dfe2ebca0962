-- Steps of a lane that reads of lanes that the receiver has closed.
use Rattle.std.proofs.Common.{◌≡◌, ◌≢◌, inl, ℕ, ◌+◌, ◌<◌, ◌≤◌, ◌==◌, nat_le, List, [], ◌∷◌, ◌++◌, length, Bool, true, false, Option, Some, None, subst, sym, ap, ◌∙◌, refl, arith, append_assoc, append-nil}
use Rattle.std.proofs.lemmas.Bool.{or_parts, leb-false, eqb-false, ne_eqb}
use Rattle.std.proofs.lemmas.Option.{same_Some}
use Rattle.wdt_claims.specs.LaneWords.{Claims}
use Rattle.wdt_units.specs.declared.blocks.Block.{Block}
use Rattle.wdt_units.specs.declared.numbers.Lane.{Lane}
use Rattle.wdt_codec.specs.Frames.{FitMarks, FitsMarks}
use Rattle.wdt_codec.specs.declared.frames.Frame.TheVariants as frames
use Rattle.wdt_codec.specs.declared.frames.Mark.{Mark}
use Rattle.wdt_sender_fsm.specs.declared.events.SendEvent.{SendEvent}
use Rattle.wdt_sender_fsm.specs.declared.peers.PeerKind.{PeerKind}
use Rattle.wdt_sender_fsm.specs.declared.states.SendState.TheVariants as states
use Rattle.wdt_sender_fsm.specs.Faults.{count_fault, or_else, marks_fault, is_stranger, has_stranger}
use Rattle.wdt_sender_fsm.specs.Legal.{IsFault}
use Rattle.wdt_sender_fsm.specs.PlainSender.{PlainSender, past_at, blocks_of, noted}
use Rattle.wdt_sender_fsm.specs.Rows.{Marked}
use Rattle.wdt_sender_fsm.specs.Sender.{Sends}
use Rattle.wdt_sender_fsm.specs.SenderHistory.{LanePast, past_of, past_of-more, end_of}
use Rattle.wdt_sender_fsm.specs.Turn.{global, globals, marked_with, marked_for, turn_row}
use Rattle.wdt_sender_fsm.proofs.lemmas.Tellings.{wrong}
use Rattle.wdt_sender_fsm.proofs.lemmas.Failing.{Keeps, fault_keeps, unexpected_keeps}
use Rattle.wdt_sender_fsm.proofs.lemmas.Notes.{works_more, behind}
use Rattle.wdt_sender_fsm.proofs.lemmas.Sending.{SendsAt, takes}
use Rattle.wdt_sender_fsm.proofs.lemmas.Works.{Works}

-- a lane that is there, and isn't the one that reads
known_lane : (n l : ℕ) (m : Mark) → is_stranger n l m ≡ false → (m.lane.0 < n) × (m.lane.0 ≢ l)
known_lane n l m is = let both = or_parts (nat_le n m.lane.0) (m.lane.0 == l) is in (leb-false n m.lane.0 both.0, eqb-false m.lane.0 l both.1)

pub or_none : (a b : Option PeerKind) → or_else a b ≡ None → (a ≡ None) × (b ≡ None)
or_none None b e = (refl, e)
or_none (Some k) b e = cc

-- ---- a wrong count among them

wrong_mark : (n : ℕ) (planned : List Block) (h : List SendEvent) (l : ℕ) (kind : PeerKind) (ms : List Mark) → has_stranger n l ms ≡ false → marks_fault h ms ≡ Some kind → IsFault n planned h l kind
wrong_mark n planned h l kind [] known e = cc
wrong_mark n planned h l kind (m ∷ ms) known e =
    let both = or_parts (is_stranger n l m) (has_stranger n l ms) known in
    go (count_fault (past_of h m.lane.0).claims m.count) refl (known_lane n l m both.0) (wrong_mark n planned h l kind ms both.1) e where
      go : (o : Option PeerKind) → count_fault (past_of h m.lane.0).claims m.count ≡ o → (m.lane.0 < n) × (m.lane.0 ≢ l) → (marks_fault h ms ≡ Some kind → IsFault n planned h l kind) → or_else o (marks_fault h ms) ≡ Some kind → IsFault n planned h l kind
      go None is there later x = later x
      go (Some first) is there later x =
          subst (λ (k : PeerKind). IsFault n planned h l k) (same_Some first kind x) (wrong n planned h l m.lane.0 m.count first there.0 (inl there.1) is)

-- ---- all of them stand in the history

-- what was closed is of a lane before the ones that follow
closed_before : (h : List SendEvent) (l : Lane) (m : Mark) (low : ℕ) (ms : List Mark) → m.lane.0 < low → FitMarks low ms → marks_fault (h ++ global l m ∷ []) ms ≡ marks_fault h ms
closed_before h l m low [] below fit = refl
closed_before h l m low (d ∷ ms) below fit =
    let above : low ≤ d.lane.0 = fit.1 in
    let same : (past_of (h ++ global l m ∷ []) d.lane.0).claims ≡ (past_of h d.lane.0).claims =
    ap (λ (p : LanePast). p.claims) (past_of-more h (global l m) d.lane.0) ∙ rw (ne_eqb m.lane.0 d.lane.0 (λ e. omega (arith, e, above, below))) refl in
    ap (λ (c : Claims). or_else (count_fault c d.count) (marks_fault (h ++ global l m ∷ []) ms)) same
    ∙ ap (λ (o : Option PeerKind). or_else (count_fault (past_of h d.lane.0).claims d.count) o) (closed_before h l m (d.lane.0 + 1) ms (omega (arith, above, below)) fit.2)

-- the lane works on behind these entries, and holds no block
abbrev WorksBehind : PlainSender → Lane → List SendEvent → Type 0
WorksBehind s l h = Works (record s { history = h }) l × Sends (past_of h l.0) (end_of h) false

one_closed : (s : PlainSender) (l : Lane) (m : Mark) → Works s l → SendsAt s l false → is_stranger (length s.lanes) l.0 m ≡ false → count_fault (past_at s m.lane.0).claims m.count ≡ None → WorksBehind s l (s.history ++ global l m ∷ [])
one_closed s l m w sends known right =
    let there = known_lane (length s.lanes) l.0 m known in
    let other : l.0 ≢ m.lane.0 = λ e. there.1 (sym e) in (
      works_more s l (global l m) w refl refl other refl sends.goes_on.link (other, there.0, right),
      behind (λ p end. Sends p end false) s.history (global l m) l.0 record {
        goes_on = record { quit = w.quit; acked = w.acked; link = sends.goes_on.link };
        greeted = sends.greeted;
        held = rw (ne_eqb m.lane.0 l.0 there.1) sends.held;
        known = sends.known;
      },
    )

all_closed : (ms : List Mark) (low : ℕ) (s : PlainSender) (l : Lane) → Works s l → SendsAt s l false → has_stranger (length s.lanes) l.0 ms ≡ false → FitMarks low ms → marks_fault s.history ms ≡ None → WorksBehind s l (s.history ++ globals l ms)
all_closed [] low s l w sends known fit right = subst (λ (h : List SendEvent). WorksBehind s l h) (sym (append-nil s.history)) (w, sends)
all_closed (m ∷ ms) low s l w sends known fit right =
    let both = or_parts (is_stranger (length s.lanes) l.0 m) (has_stranger (length s.lanes) l.0 ms) known in
    let none = or_none (count_fault (past_at s m.lane.0).claims m.count) (marks_fault s.history ms) right in
    let one : WorksBehind s l (s.history ++ global l m ∷ []) = one_closed s l m w sends both.0 none.0 in
    subst (λ (h : List SendEvent). WorksBehind s l h) (append_assoc s.history (global l m ∷ []) (globals l ms))
    (all_closed ms (m.lane.0 + 1) (noted s (global l m ∷ [])) l one.0 one.1 both.1 fit.2
    (closed_before s.history l m (m.lane.0 + 1) ms (omega arith) fit.2 ∙ none.1))

marks_with : (s : PlainSender) (l : Lane) (ms : List Mark) (o : Option PeerKind) → marks_fault s.history ms ≡ o → has_stranger (length s.lanes) l.0 ms ≡ false → FitsMarks ms → Works s l → SendsAt s l false → Keeps (marked_with s l ms o)
marks_with s l ms (Some kind) is known fit w sends =
    fault_keeps s l (Marked ms) kind w sends.goes_on.link (wrong_mark (length s.lanes) (blocks_of s) s.history l.0 kind ms known is)
marks_with s l ms None is known fit w sends =
    let all : WorksBehind s l (s.history ++ globals l ms) = all_closed ms 0 s l w sends known fit.rise is in
    takes (noted s (globals l ms)) l all.0 all.1

marks_for : (s : PlainSender) (l : Lane) (ms : List Mark) (b : Bool) → has_stranger (length s.lanes) l.0 ms ≡ b → FitsMarks ms → Works s l → SendsAt s l false → Keeps (marked_for s l ms b)
marks_for s l ms true is fit w sends = unexpected_keeps s l (Marked ms) states.ReadReceiverCmd (frames.ErrMarks ms) w sends.goes_on.link sends.greeted is
marks_for s l ms false is fit w sends = marks_with s l ms (marks_fault s.history ms) refl is fit w sends

pub marks : (s : PlainSender) (l : Lane) (ms : List Mark) → FitsMarks ms → Works s l → SendsAt s l false → Keeps (turn_row s l (Marked ms))
marks s l ms fit w sends = marks_for s l ms (has_stranger (length s.lanes) l.0 ms) refl fit w sends
