-- Steps of a lane that reads the receiver's last word.
use Rattle.std.proofs.Common.{◌≡◌, ◌≢◌, ◌⊎◌, inl, inr, ℕ, zero, suc, ◌+◌, ◌<◌, ◌≤◌, ◌==◌, cond, List, [], ◌∷◌, ◌++◌, length, Bool, true, false, None, subst, sym, ap, ◌∙◌, refl, arith, eq-eqb, is_some, count_by}
use Rattle.std.proofs.lemmas.Bool.{both_ways, cases_lt, cond_both, eqb-true, eqb-false, ne_eqb, not_from_false}
use Rattle.std.proofs.lemmas.List.Sums.{sum_by-append, sum_by-cons}
use Rattle.wdt_claims.specs.LaneWords.{Claims, finished as finished_claims}
use Rattle.wdt_units.specs.declared.blocks.Block.{Block}
use Rattle.wdt_units.specs.declared.numbers.Lane.{Lane}
use Rattle.wdt_codec.specs.declared.frames.Frame.TheVariants as frames
use Rattle.wdt_sender_fsm.specs.declared.events.SendEvent.{SendEvent}
use Rattle.wdt_sender_fsm.specs.declared.events.SendEvent.TheVariants as events
use Rattle.wdt_sender_fsm.specs.declared.peers.PeerKind.TheVariants as peers
use Rattle.wdt_sender_fsm.specs.declared.states.SendState.{SendState}
use Rattle.wdt_sender_fsm.specs.declared.states.SendState.TheVariants as states
use Rattle.wdt_claims.specs.Claimed.{is_held}
use Rattle.wdt_sender_fsm.specs.Places.{tabulate, claims_of, holding, queued}
use Rattle.wdt_sender_fsm.specs.PlainSender.{PlainSender, lane_at, state_at, past_at, blocks_of, unfinished_blocks, noted, goes}
use Rattle.wdt_sender_fsm.specs.Rows.{Row, DoneAtOnce}
use Rattle.wdt_sender_fsm.specs.Rules.{is_failure}
use Rattle.wdt_sender_fsm.specs.Sender.{Fares, FaresAt, Asks, Answers, failure_in-more}
use Rattle.wdt_sender_fsm.specs.SenderHistory.{LanePast, EndPast, past_of, past_of-more, past_after, end_of, end_of-more, end_after}
use Rattle.wdt_sender_fsm.specs.Turn.{faults, writes, finished, finished_at_once, turn_row}
use Rattle.wdt_sender_fsm.proofs.lemmas.Failing.{Keeps, fault_keeps, unexpected_keeps}
use Rattle.wdt_sender_fsm.proofs.lemmas.Notes.{legal_more, ended_more, behind}
use Rattle.wdt_sender_fsm.proofs.lemmas.Pasts.{later, fares_on}
use Rattle.wdt_sender_fsm.proofs.lemmas.Works.{Others, Stays, Works, put, in_state, not_failed}

-- ---- nothing is being written

is_empty : (xs : List Block) → length xs ≡ 0 → xs ≡ []
is_empty [] e = refl
is_empty (x ∷ xs) e = absurd (omega (arith, e))

abbrev one_if : Claims → ℕ
one_if c = cond (is_held c) 1 0

counted : (n : ℕ) (f : ℕ → Claims) → count_by is_held (tabulate (suc n) f) ≡ count_by is_held (tabulate n f) + one_if (f n)
counted n f = sum_by-append one_if (tabulate n f) (f n ∷ []) ∙ ap (λ (c : ℕ). count_by is_held (tabulate n f) + c) (sum_by-cons one_if (f n) [] ∙ omega arith)

not_held : (b : Bool) → cond {A = ℕ} b 1 0 ≡ 0 → b ≡ false
not_held true e = absurd (omega (arith, e))
not_held false e = refl

pub none_held : (n : ℕ) (f : ℕ → Claims) → count_by is_held (tabulate n f) ≡ 0 → (j : ℕ) → j < n → (f j).held ≡ false
none_held zero f none j within = absurd (omega (arith, within))
none_held (suc n) f none j within = go (none_held n f (omega (arith, none, counted n f)) j) (cases_lt j n) where
  go : (j < n → (f j).held ≡ false) → (j < n) ⊎ (n ≤ j) → (f j).held ≡ false
  go before (inl x) = before x
  go before (inr x) =
      let same : j ≡ n = omega (arith, x, within) in
      ap (λ (i : ℕ). (f i).held) same ∙ not_held (f n).held (omega (arith, none, counted n f))

-- ---- what the finish leaves of the other lanes

abbrev with_finish : LanePast → LanePast
with_finish p = record p { claims = finished_claims p.claims }

finish_past : (l : Lane) (j : ℕ) (p : LanePast) → j ≢ l.0 → past_after j p (events.Finish l) ≡ with_finish p
finish_past l j p ne = rw (ne_eqb l.0 j (λ e. ne (sym e))) refl

finish_fares : (x : Bool) (state : SendState) (ask : Bool) (p : LanePast) (end : EndPast) → p.claims.held ≡ false → Fares x state ask p end → Fares x state ask (with_finish p) end
finish_fares x states.Connect ask p end none f = record { goes_on = record { quit = f.goes_on.quit; acked = f.goes_on.acked; link = f.goes_on.link }; connections = f.connections; failed_tries = f.failed_tries }
finish_fares x states.SendSettings ask p end none f = record { goes_on = record { quit = f.goes_on.quit; acked = f.goes_on.acked; link = f.goes_on.link }; greeted = f.greeted; known = f.known }
finish_fares x states.ReadLocalCheckpoint ask p end none f = record { goes_on = record { quit = f.goes_on.quit; acked = f.goes_on.acked; link = f.goes_on.link }; greeted = f.greeted; known = f.known }
finish_fares x states.ReadFileChunks ask p end none f = record { goes_on = record { quit = f.goes_on.quit; acked = f.goes_on.acked; link = f.goes_on.link }; greeted = f.greeted; held = refl }
finish_fares x states.SendSize ask p end none f = record { goes_on = record { quit = f.goes_on.quit; acked = f.goes_on.acked; link = f.goes_on.link }; greeted = f.greeted; held = refl; known = f.known }
finish_fares x states.SendBlocks ask p end none f = absurd (both_ways p.claims.held none f.held)
finish_fares x states.SendDone ask p end none f = record { goes_on = record { quit = f.goes_on.quit; acked = f.goes_on.acked; link = f.goes_on.link }; greeted = f.greeted; held = refl; known = f.known }
finish_fares x states.ReadReceiverCmd ask p end none f = record { goes_on = record { quit = f.goes_on.quit; acked = f.goes_on.acked; link = f.goes_on.link }; greeted = f.greeted; held = refl; known = f.known }
finish_fares x states.AnswerDone ask p end none f = record { goes_on = record { quit = f.goes_on.quit; acked = f.goes_on.acked; link = f.goes_on.link }; held = refl; finish = f.finish; end_finish = f.end_finish }
finish_fares x states.SendAbort ask p end none f = record { goes_on = record { quit = f.goes_on.quit; acked = f.goes_on.acked; link = f.goes_on.link }; failed = f.failed }
finish_fares x states.Ended ask p end none f = f

finish_others : (s : PlainSender) (l : Lane) → holding (claims_of (length s.lanes) s.history) ≡ 0 → Others s l.0 → Others (noted s (events.Finish l ∷ [])) l.0
finish_others s l none others j within ne is_open =
    let e : SendEvent = events.Finish l in
    let past : past_of (s.history ++ events.Finish l ∷ []) j ≡ with_finish (past_of s.history j) = past_of-more s.history (events.Finish l) j ∙ finish_past l j (past_of s.history j) ne in
    let before : FaresAt s j = others j within ne (subst (λ (p : LanePast). p.claims.closed ≡ None) past is_open) in
    let free : (past_of s.history j).claims.held ≡ false = none_held (length s.lanes) (λ k. (past_of s.history k).claims) none j within in
    subst (λ (p : LanePast). Fares (is_failure s.answer) (state_at s j) (lane_at s j).ask p (end_of (s.history ++ events.Finish l ∷ []))) (sym past)
    (subst (λ (x : EndPast). Fares (is_failure s.answer) (state_at s j) (lane_at s j).ask (with_finish (past_of s.history j)) x) (sym (end_of-more s.history (events.Finish l)))
    (fares_on (is_failure s.answer) (state_at s j) (lane_at s j).ask (with_finish (past_of s.history j)) (end_of s.history) (end_after (end_of s.history) (events.Finish l)) (later (end_of s.history) (events.Finish l))
    (finish_fares (is_failure s.answer) (state_at s j) (lane_at s j).ask (past_of s.history j) (end_of s.history) free before)))

finish_stays : (s : PlainSender) (l : Lane) → Works s l → (past_at s l.0).is_up ≡ true → (end_of s.history).is_listed ≡ true → unfinished_blocks s ≡ 0 → Stays (noted s (events.Finish l ∷ [])) l
finish_stays s l w up listed done =
    let none : holding (claims_of (length s.lanes) s.history) ≡ 0 = omega (arith, done) in
    let empty : queued (length s.lanes) (blocks_of s) s.history ≡ [] = is_empty (queued (length s.lanes) (blocks_of s) s.history) (omega (arith, done)) in
    record {
      within = w.stays.within;
      legal = legal_more s l (events.Finish l) w refl up (listed, empty, none);
      plan = record {
        listed = w.stays.plan.listed ∙ sym (ap (λ (x : EndPast). x.is_listed) (end_of-more s.history (events.Finish l)));
        planned = w.stays.plan.planned;
        accepted = w.stays.plan.accepted;
      };
      noted = w.stays.noted ∙ sym (failure_in-more s.history (events.Finish l));
      code = w.stays.code;
      unfinished = λ f. not_failed s l w f;
      faultless = λ x. ap (λ (x : EndPast). x.has_fault) (end_of-more s.history (events.Finish l)) ∙ w.stays.faultless x;
      others = finish_others s l none w.stays.others;
      ended = ended_more s l.0 (events.Finish l) refl w.stays.ended;
    }

-- ---- the step

pub finishes : (s : PlainSender) (l : Lane) (row : Row) → Works s l → (past_at s l.0).is_up ≡ true → (end_of s.history).is_listed ≡ true → Keeps (finished s l row)
finishes s l row w up listed =
    cond_both (unfinished_blocks s == 0) (writes (goes (noted s (events.Finish l ∷ [])) l states.AnswerDone) frames.Done) (faults s l row (peers.EarlyDone (unfinished_blocks s))) Keeps
    (λ e. put (noted s (events.Finish l ∷ [])) l (in_state s l states.AnswerDone) (finish_stays s l w up listed (eqb-true (unfinished_blocks s) 0 e))
    (behind (λ p end. Answers p end) s.history (events.Finish l) l.0 record {
      goes_on = record { quit = w.quit; acked = w.acked; link = up };
      held = refl;
      finish = rw (eq-eqb l.0 l.0 refl) refl;
      end_finish = refl;
    }))
    (λ e. let some : unfinished_blocks s ≢ 0 = eqb-false (unfinished_blocks s) 0 e in
    fault_keeps s l row (peers.EarlyDone (unfinished_blocks s)) w up (listed, refl, more (unfinished_blocks s) some)) where
      more : (n : ℕ) → n ≢ 0 → 1 ≤ n
      more n some = omega (arith, some)

at_once : (s : PlainSender) (l : Lane) (b : Bool) → is_some s.have ≡ b → Works s l → Asks (lane_at s l.0).ask (past_at s l.0) (end_of s.history) → Keeps (finished_at_once s l b)
at_once s l true is w asks = finishes s l DoneAtOnce w asks.goes_on.link (sym w.stays.plan.listed ∙ is)
at_once s l false is w asks =
    unexpected_keeps s l DoneAtOnce states.ReadLocalCheckpoint frames.Done w asks.goes_on.link (not_from_false (past_at s l.0).is_greeted asks.greeted)
    (not_from_false (end_of s.history).is_listed (sym w.stays.plan.listed ∙ is))

-- the last word for the settings
pub finishes_at_once : (s : PlainSender) (l : Lane) → Works s l → Asks (lane_at s l.0).ask (past_at s l.0) (end_of s.history) → Keeps (turn_row s l DoneAtOnce)
finishes_at_once s l w asks = at_once s l (is_some s.have) refl w asks
