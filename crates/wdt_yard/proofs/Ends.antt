-- What an end keeps of its parts.
use Rattle.std.proofs.Common.{◌≡◌, ◌≢◌, ℕ, ◌≤◌, ◌<◌, ◌==◌, ◌&&◌, not, zero, suc, Bool, true, false, List, [], ◌∷◌, ◌++◌, length, set, slice_get, Option, Some, None, Result, Ok, Err, OnOk, OnErr, IfSome, MatchOption, is_some, if◌then◌else◌, replicate, refl, sym, ap, ◌∙◌, subst, inl, inr, arith}
use Rattle.std.proofs.lemmas.Bool.{cases_eq, ne_eqb}
use Rattle.std.proofs.lemmas.List.{length-replicate, length-set}
use Rattle.wdt_claims.specs.Blocks.{count_of}
use Rattle.wdt_units.specs.declared.limits.TheConstants.{MAX_BLOCK}
use Rattle.wdt_units.specs.Have.{HaveFile}
use Rattle.wdt_claims.specs.LaneWords.{Claims, sent}
use Rattle.wdt_claims.proofs.Shared.{count_of-nil}
use Rattle.wdt_units.specs.declared.blocks.Block.{Block}
use Rattle.wdt_units.specs.declared.numbers.Conn.{Conn}
use Rattle.wdt_units.specs.declared.numbers.Lane.{Lane}
use Rattle.wdt_tree.specs.declared.entry.Entry.{Entry}
use Rattle.wdt_codec.specs.declared.frames.Frame.TheVariants as frames
use Rattle.wdt_sender_fsm.specs.declared.acts.SendAct.TheVariants as acts
use Rattle.wdt_sender_fsm.specs.declared.answers.EndAnswer.{EndAnswer}
use Rattle.wdt_sender_fsm.specs.declared.events.SendEvent.{SendEvent}
use Rattle.wdt_sender_fsm.specs.declared.events.SendEvent.TheVariants as events
use Rattle.wdt_sender_fsm.specs.declared.peers.PeerKind.{PeerKind}
use Rattle.wdt_sender_fsm.specs.declared.states.SendLane.{SendLane}
use Rattle.wdt_sender_fsm.specs.declared.states.SendState.TheVariants.{Connect}
use Rattle.wdt_sender_fsm.specs.declared.states.SendState.TheVariants as states
use Rattle.wdt_sender_fsm.proofs.Shared.{get_set}
use Rattle.wdt_sender_fsm.specs.PlainSender.{PlainSender, answer_of, lane_or_ended, listed_blocks, new_lane}
use Rattle.wdt_sender_fsm.specs.Places.{least_of, queued}
use Rattle.wdt_sender_fsm.specs.Turn.{introduces, next_conn}
use Rattle.wdt_sender_fsm.specs.Rules.{every, judged}
use Rattle.wdt_sender_fsm.specs.SenderHistory.{LanePast, past_of, past_of-more, past_of-none, past_after, end_of}
use Rattle.wdt_yard.specs.End.{AreOf, EndView, IsEnd, MayDial, is_done_in, is_out_in}
use Rattle.wdt_yard.specs.Ledger.{Ledger, is_quiet, with_entry}
use Rattle.wdt_yard.specs.declared.tally.Tally.{Tally}
use Rattle.wdt_yard.proofs.Entries.{quiet_tally}
use Rattle.wdt_yard.proofs.Queues.{least_of_queued}

pub quiet_connections : (e : SendEvent) → is_quiet e ≡ true → (l : ℕ) (past : LanePast) → (past_after l past e).connections ≡ past.connections
quiet_connections e quiet l past = ap (λ (t : Tally). t.connections) (quiet_tally e quiet l past)

dials_on : (lanes : List SendLane) (h : List SendEvent) (e : SendEvent) → ((l : ℕ) (past : LanePast) → (past_after l past e).connections ≡ past.connections) → MayDial lanes h → MayDial lanes (h ++ e ∷ [])
dials_on lanes h e stay may l here = omega (arith, may l here, ap (λ (p : LanePast). p.connections) (past_of-more h e l), stay l (past_of h l))

-- an entry that makes no connection
pub end_noted : {m : List Entry} {b : ℕ} {have : Option (List HaveFile)} {j : Ledger} {lanes : List SendLane} (e : SendEvent) → ((l : ℕ) (past : LanePast) → (past_after l past e).connections ≡ past.connections) → IsEnd m b have j lanes → IsEnd m b have (with_entry j e) lanes
end_noted {m} {b} {have} {j} {lanes} e stay is = record {
  same = is.same;
  block_size = is.block_size;
  listed = is.listed;
  files = is.files;
  dialing = dials_on lanes j.history e stay is.dialing;
}

-- and one after which no lane is ready
pub end_claimed : {m : List Entry} {b : ℕ} {have : Option (List HaveFile)} {j : Ledger} {lanes : List SendLane} (l : Lane) (block : Block) → IsEnd m b have j lanes → IsEnd m b have (record (with_entry j (events.Claim l block)) { ready = None }) lanes
end_claimed {m} {b} {have} {j} {lanes} l block is = record {
  same = is.same;
  block_size = is.block_size;
  listed = is.listed;
  files = is.files;
  dialing = dials_on lanes j.history (events.Claim l block) (λ k past. refl) is.dialing;
}

slice_set_other : (xs : List SendLane) (i k : ℕ) (x : SendLane) → k ≢ i → slice_get (set xs i x) k ≡ slice_get xs k
slice_set_other [] i k x o = refl
slice_set_other (y ∷ ys) zero zero x o = absurd (o refl)
slice_set_other (y ∷ ys) zero (suc k) x o = refl
slice_set_other (y ∷ ys) (suc i) zero x o = refl
slice_set_other (y ∷ ys) (suc i) (suc k) x o = slice_set_other ys i k x (λ e. o (ap (λ n. suc n) e))

-- a lane whose connection was made stands in another state
pub dials_linked : (lanes : List SendLane) (h : List SendEvent) (l : Lane) (c : Conn) (x : SendLane) → l.0 < length lanes → (x.state ≡ Connect → ⊥) → MayDial lanes h → MayDial (set lanes l.0 x) (h ++ events.Linked l c ∷ [])
dials_linked lanes h l c x within elsewhere may k here =
    elim (cases_eq k l.0) [
      | inl e ↦ absurd (elsewhere (sym (ap (λ o. (lane_or_ended o).state) (ap (slice_get (set lanes l.0 x)) e ∙ get_set lanes l.0 x within)) ∙ here))
      | inr o ↦ omega (arith, may k (sym (ap (λ y. (lane_or_ended y).state) (slice_set_other lanes l.0 k x o)) ∙ here), ap (λ (p : LanePast). p.connections) (past_of-more h (events.Linked l c) k), others k o)
    ]
  where
    others : (j : ℕ) → j ≢ l.0 → (past_after j (past_of h j) (events.Linked l c)).connections ≡ (past_of h j).connections
    others j o = rw (ne_eqb l.0 j (λ e. o (sym e))) refl

-- ---- the answer

-- the answer by the number of lanes
pub answer_is : (s : PlainSender) (n : ℕ) → n ≡ length s.lanes → judged s.answer ((end_of s.history).has_finish && every n (is_done_in s.history)) (every n (is_out_in s.history s.lanes)) ≡ answer_of s
answer_is s n e = ap (λ m. judged s.answer ((end_of s.history).has_finish && every m (is_done_in s.history)) (every m (is_out_in s.history s.lanes))) e

pub every_false : (n i : ℕ) (f : ℕ → Bool) → i < n → f i ≡ false → false ≡ every n f
every_false zero i f lt no_i = absurd (omega (arith, lt))
every_false (suc n) i f lt no_i =
    elim (cases_eq i n) [
      | inl e ↦ sym (and_false (every n f) (f n) (ap f (sym e) ∙ no_i))
      | inr o ↦ sym (false_and (every n f) (f n) (sym (every_false n i f (omega (arith, lt, o)) no_i)))
    ]
  where
    and_false : (a b : Bool) → b ≡ false → (a && b) ≡ false
    and_false true b e = e
    and_false false b e = refl

    false_and : (a b : Bool) → a ≡ false → (a && b) ≡ false
    false_and a b e = rw e refl

-- ---- what a call of the journal made of an end

pub end_claimed_by : {m : List Entry} {b : ℕ} {have : Option (List HaveFile)} {j : Ledger} {lanes : List SendLane} (l : Lane) (r : Option Block) (k : Ledger)
    → MatchOption r (k ≡ j) (λ block. k ≡ record (with_entry j (events.Claim l block)) { ready = None }) → IsEnd m b have j lanes → IsEnd m b have k lanes
end_claimed_by {m} {b} {have} {j} {lanes} l None k e is = subst (λ (x : Ledger). IsEnd m b have x lanes) (sym e) is
end_claimed_by {m} {b} {have} {j} {lanes} l (Some block) k e is = subst (λ (x : Ledger). IsEnd m b have x lanes) (sym e) (end_claimed l block is)

pub end_greeted_by : {m : List Entry} {b : ℕ} {have : Option (List HaveFile)} {j : Ledger} {lanes : List SendLane} (l : Lane) (n : ℕ) (r : Result (Unit {0}) PeerKind) (k : Ledger)
    → OnOk r (k ≡ with_entry j (events.Greet l n)) → OnErr r (k ≡ j) → IsEnd m b have j lanes → IsEnd m b have k lanes
end_greeted_by {m} {b} {have} {j} {lanes} l n (Ok u) k e f is = subst (λ (x : Ledger). IsEnd m b have x lanes) (sym e) (end_noted (events.Greet l n) (λ i past. refl) is)
end_greeted_by {m} {b} {have} {j} {lanes} l n (Err x) k e f is = subst (λ (x : Ledger). IsEnd m b have x lanes) (sym f) is

pub end_linked : {m : List Entry} {b : ℕ} {have : Option (List HaveFile)} {j : Ledger} {lanes : List SendLane} (l : Lane) (c : Conn) (x : SendLane) → l.0 < length lanes → (x.state ≡ Connect → ⊥)
    → IsEnd m b have j lanes → IsEnd m b have (with_entry j (events.Linked l c)) (set lanes l.0 x)
end_linked {m} {b} {have} {j} {lanes} l c x within elsewhere is = record {
  same = length-set lanes l.0 x ∙ is.same;
  block_size = is.block_size;
  listed = is.listed;
  files = is.files;
  dialing = dials_linked lanes j.history l c x within elsewhere is.dialing;
}

-- the file of the least block that waits
pub least_file : (m n : ℕ) (planned : List Block) (h : List SendEvent) (r : Option Block) → r ≡ least_of (queued n planned h) → AreOf m planned → IfSome r (λ (b : Block). b.file < m)
least_file m n planned h None e of = tt
least_file m n planned h (Some b) e of = of b (least_of_queued n planned h b (sym e))

-- an end that begins
pub end_starts : (m : List Entry) (b n : ℕ) (j : Ledger) (lanes : List SendLane) → 1 ≤ b → b ≤ MAX_BLOCK → lanes ≡ replicate n new_lane → j.lanes ≡ n → j.planned ≡ None → j.history ≡ [] → IsEnd m b None j lanes
end_starts m b n j lanes some most lanes_are count unplanned unnoted = record {
  same = ap (λ (xs : List SendLane). length xs) lanes_are ∙ length-replicate n new_lane ∙ sym count;
  block_size = (some, most);
  listed = ap is_some (sym unplanned);
  files = λ x in_it. absurd (omega (arith, in_it, ap (λ o. count_of x (listed_blocks o)) unplanned, count_of-nil x));
  dialing = λ l here. omega (arith, ap (λ h. (past_of h l).connections) unnoted, ap (λ (p : LanePast). p.connections) (past_of-none l));
}

-- ---- claims that other entries leave alone

if_sent : (b : Bool) (s : Claims) → (if b then sent s else s).closed ≡ s.closed
if_sent true s = refl
if_sent false s = refl

pub closed_sent : (h : List SendEvent) (l : Lane) (k : ℕ) → (past_of (h ++ events.Sent l ∷ []) k).claims.closed ≡ (past_of h k).claims.closed
closed_sent h l k = ap (λ (p : LanePast). p.claims.closed) (past_of-more h (events.Sent l) k) ∙ if_sent (l.0 == k) (past_of h k).claims

-- ---- a connection stands

pub introduced : (s : PlainSender) (l : Lane) (conn : Conn) (ask : Bool) (n : ℕ) (planned : Option (List Block)) (h : List SendEvent) (a : EndAnswer)
    → a ≡ answer_of (record s { planned = planned; lanes = set s.lanes l.0 (record { state = states.SendSettings; ask = ask }); history = h })
    → planned ≡ s.planned → h ≡ s.history ++ events.Linked l conn ∷ [] → n ≡ length s.lanes → ask ≡ not (is_some s.have) → conn ≡ next_conn s l
    → introduces s l ≡ (acts.Write (frames.Settings record { version = 1; session = s.session; lane = l; lanes = n; conn = conn; block = s.block; ask = ask }), record s { planned = planned; lanes = set s.lanes l.0 (record { state = states.SendSettings; ask = ask }); history = h; answer = a })
introduced s l conn ask n planned h a ea ep eh en eq ec = rw (ea, ep, eh, en, eq, ec) refl

-- an end whose lanes and answer are others
abbrev pub answered_so : EndView → List SendLane → EndAnswer → EndView
answered_so view lanes answer = record view { plain = record view.plain { lanes = lanes; answer = answer } }
