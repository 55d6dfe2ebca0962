-- Lanes that are told closed, one after another.
use Rattle.std.proofs.Common.{◌≡◌, ℕ, zero, suc, ◌+◌, ◌<◌, ◌==◌, ◌||◌, Bool, true, false, List, [], ◌∷◌, ◌++◌, length, get_or, take, drop, Option, Some, None, if◌then◌else◌, refl, sym, ap, ◌∙◌, arith}
use Rattle.std.specs.Prelude.{nat_le}
use Rattle.std.proofs.lemmas.Bool.{false≢true}
use Rattle.std.proofs.lemmas.List.{append_assoc, append-nil, drop_more, map_more}
use Rattle.wdt_claims.specs.LaneWords.{Claims}
use Rattle.wdt_units.specs.declared.numbers.Lane.{Lane}
use Rattle.wdt_codec.specs.declared.frames.Mark.{Mark}
use Rattle.wdt_sender_fsm.specs.declared.events.SendEvent.{SendEvent}
use Rattle.wdt_sender_fsm.specs.declared.peers.PeerKind.{PeerKind}
use Rattle.wdt_sender_fsm.specs.Faults.{count_fault, has_stranger, is_stranger, marks_fault, or_else}
use Rattle.wdt_sender_fsm.specs.PlainSender.{PlainSender, noted}
use Rattle.wdt_sender_fsm.proofs.Shared.{or_none}
use Rattle.wdt_sender_fsm.specs.SenderHistory.{LanePast, past_of, past_of-more, close_by}
use Rattle.wdt_sender_fsm.specs.Turn.{global, globals}

-- ---- what is wrong with the counts

pub marks_here : (h : List SendEvent) (ms : List Mark) (i : ℕ) (d : Mark) (kind : PeerKind) → i < length ms → Some kind ≡ count_fault (past_of h (get_or ms i d).lane.0).claims (get_or ms i d).count → Some kind ≡ marks_fault h (drop i ms)
marks_here h ms i d kind lt e =
    ap (λ (o : Option PeerKind). or_else o (marks_fault h (drop (i + 1) ms))) e ∙ sym (ap (marks_fault h) (drop_more ms i d lt))

pub marks_on : (h : List SendEvent) (ms : List Mark) (i : ℕ) (d : Mark) → i < length ms → None ≡ count_fault (past_of h (get_or ms i d).lane.0).claims (get_or ms i d).count → marks_fault h (drop i ms) ≡ marks_fault h (drop (i + 1) ms)
marks_on h ms i d lt e =
    ap (marks_fault h) (drop_more ms i d lt) ∙ sym (ap (λ (o : Option PeerKind). or_else o (marks_fault h (drop (i + 1) ms))) e)

pub mark_right : (h : List SendEvent) (ms : List Mark) (i : ℕ) (d : Mark) → marks_fault h ms ≡ None → i < length ms → count_fault (past_of h (get_or ms i d).lane.0).claims (get_or ms i d).count ≡ None
mark_right h [] i d e lt = absurd (omega (arith, lt))
mark_right h (m ∷ ms) zero d e lt = (or_none (count_fault (past_of h m.lane.0).claims m.count) (marks_fault h ms) e).0
mark_right h (m ∷ ms) (suc i) d e lt = mark_right h ms i d (or_none (count_fault (past_of h m.lane.0).claims m.count) (marks_fault h ms) e).1 (omega (arith, lt))

-- ---- what they change

claims_behind : (h : List SendEvent) (l : Lane) (m : Mark) (k : ℕ) → (past_of (h ++ global l m ∷ []) k).claims ≡ (if m.lane.0 == k then close_by (past_of h k).claims.closed m.count (past_of h k).claims else (past_of h k).claims)
claims_behind h l m k = ap (λ (p : LanePast). p.claims) (past_of-more h (global l m) k)

other_lane : (h : List SendEvent) (l : Lane) (m : Mark) (k : ℕ) → (m.lane.0 == k) ≡ false → (past_of (h ++ global l m ∷ []) k).claims ≡ (past_of h k).claims
other_lane h l m k e = claims_behind h l m k ∙ (rw e refl)

by_open : (o : Option ℕ) (n : ℕ) (s : Claims) → s.closed ≡ o → (close_by o n s).closed ≡ None → close_by o n s ≡ s
by_open None n s e f = cc
by_open (Some m) n s e f = refl

still : (b : Bool) (n : ℕ) (s : Claims) → (if b then close_by s.closed n s else s).closed ≡ None → (if b then close_by s.closed n s else s) ≡ s
still true n s e = by_open s.closed n s refl e
still false n s e = refl

one_open : (h : List SendEvent) (l : Lane) (m : Mark) (k : ℕ) → (past_of (h ++ global l m ∷ []) k).claims.closed ≡ None → (past_of (h ++ global l m ∷ []) k).claims ≡ (past_of h k).claims
one_open h l m k e =
    claims_behind h l m k ∙ still (m.lane.0 == k) m.count (past_of h k).claims (ap (λ (s : Claims). s.closed) (sym (claims_behind h l m k)) ∙ e)

-- the marks behind the first
moved_on : (h : List SendEvent) (l : Lane) (m : Mark) (ms : List Mark) → h ++ globals l (m ∷ ms) ≡ (h ++ global l m ∷ []) ++ globals l ms
moved_on h l m ms = sym (append_assoc h (global l m ∷ []) (globals l ms))

-- a lane that isn't closed behind them is as it was
pub open_still : (h : List SendEvent) (l : Lane) (ms : List Mark) (k : ℕ) → (past_of (h ++ globals l ms) k).claims.closed ≡ None → (past_of (h ++ globals l ms) k).claims ≡ (past_of h k).claims
open_still h l [] k e = ap (λ (x : List SendEvent). (past_of x k).claims) (append-nil h)
open_still h l (m ∷ ms) k e =
    let shift = ap (λ (x : List SendEvent). (past_of x k).claims) (moved_on h l m ms) in
    let later = open_still (h ++ global l m ∷ []) l ms k (ap (λ (s : Claims). s.closed) (sym shift) ∙ e) in
    shift ∙ later ∙ one_open h l m k (ap (λ (s : Claims). s.closed) (sym later) ∙ ap (λ (s : Claims). s.closed) (sym shift) ∙ e)

neither : (a b : Bool) → (a || b) ≡ false → (a ≡ false) × (b ≡ false)
neither true b e = absurd (false≢true (sym e))
neither false b e = (refl, e)

-- the lane that reads them is as it was, where none is of it
pub reader_still : (n : ℕ) (h : List SendEvent) (l : Lane) (ms : List Mark) → has_stranger n l.0 ms ≡ false → (past_of (h ++ globals l ms) l.0).claims ≡ (past_of h l.0).claims
reader_still n h l [] e = ap (λ (x : List SendEvent). (past_of x l.0).claims) (append-nil h)
reader_still n h l (m ∷ ms) e =
    let parts = neither (is_stranger n l.0 m) (has_stranger n l.0 ms) e in
    ap (λ (x : List SendEvent). (past_of x l.0).claims) (moved_on h l m ms)
    ∙ reader_still n (h ++ global l m ∷ []) l ms parts.1
    ∙ other_lane h l m l.0 (neither (nat_le n m.lane.0) (m.lane.0 == l.0) parts.0).1

-- ---- the loop

pub noted_none : (s : PlainSender) (l : Lane) → s ≡ noted s (globals l [])
noted_none s l = ap (λ (h : List SendEvent). record s { history = h }) (sym (append-nil s.history))

pub noted_more : (s : PlainSender) (l : Lane) (ms : List Mark) (i : ℕ) (d : Mark) → i < length ms → noted (noted s (globals l (take i ms))) (global l (get_or ms i d) ∷ []) ≡ noted s (globals l (take (i + 1) ms))
noted_more s l ms i d lt =
    ap (λ (h : List SendEvent). record s { history = h }) (append_assoc s.history (globals l (take i ms)) (global l (get_or ms i d) ∷ []) ∙ ap (λ (x : List SendEvent). s.history ++ x) (sym (map_more (global l) ms i d lt)))
