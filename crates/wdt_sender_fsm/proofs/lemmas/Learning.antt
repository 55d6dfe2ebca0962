-- Steps of a lane that is told its count and what the destination has.
use Rattle.std.specs.Prelude.{IfSome}
use Rattle.std.proofs.Common.{◌≡◌, inr, ℕ, ◌+◌, ◌<◌, ◌≤◌, ◌==◌, List, [], ◌∷◌, ◌++◌, length, Bool, true, false, if◌then◌else◌, Option, Some, None, subst, sym, ap, ◌∙◌, refl, is_some, eq-eqb, arith}
use Rattle.std.proofs.lemmas.Bool.{not_from_false}
use Rattle.std.proofs.lemmas.Option.{same_Some}
use Rattle.wdt_units.specs.Have.{HaveFile}
use Rattle.wdt_units.specs.Tree.{is_before}
use Rattle.wdt_units.specs.declared.blocks.Block.{Block}
use Rattle.wdt_units.specs.declared.numbers.Lane.{Lane}
use Rattle.wdt_codec.specs.Chunks.{FitsChunks}
use Rattle.wdt_codec.specs.declared.frames.Frame.TheVariants as frames
use Rattle.wdt_codec.specs.declared.frames.Mark.{Mark}
use Rattle.wdt_rest.specs.RestOf.{rest_of}
use Rattle.wdt_sender_fsm.specs.declared.answers.RefusedKind.{RefusedKind}
use Rattle.wdt_sender_fsm.specs.declared.events.SendEvent.{SendEvent}
use Rattle.wdt_sender_fsm.specs.declared.events.SendEvent.TheVariants as events
use Rattle.wdt_sender_fsm.specs.declared.peers.PeerKind.{PeerKind}
use Rattle.wdt_sender_fsm.specs.declared.peers.PeerKind.TheVariants as peers
use Rattle.wdt_sender_fsm.specs.declared.states.SendState.TheVariants as states
use Rattle.wdt_sender_fsm.specs.Chunks.{unordered_from, unordered_at, different_from, different_at, is_same_file, refusal}
use Rattle.wdt_sender_fsm.specs.Faults.{count_fault}
use Rattle.wdt_sender_fsm.specs.Legal.{IsLegal-more}
use Rattle.wdt_sender_fsm.specs.PlainSender.{PlainSender, lane_at, past_at, blocks_of, noted}
use Rattle.wdt_sender_fsm.specs.Rows.{SettingsWritten, Greeted, Listed}
use Rattle.wdt_sender_fsm.specs.Sender.{Asks, Learns, Sends, IsAccepted, failure_in-more}
use Rattle.wdt_sender_fsm.specs.SenderHistory.{EndPast, past_of, end_of, end_of-more}
use Rattle.wdt_sender_fsm.specs.Turn.{greeted_by, greeted_with, greeted_for, listed_again, with_plan, planned_by, listed_after, listed_in, turn_row}
use Rattle.wdt_sender_fsm.proofs.lemmas.Tellings.{wrong}
use Rattle.wdt_sender_fsm.proofs.lemmas.Failing.{Keeps, fault_keeps, unexpected_keeps, refused_keeps}
use Rattle.wdt_sender_fsm.proofs.lemmas.Notes.{allowed, legal_more, stays_more, others_more, ended_more, behind}
use Rattle.wdt_sender_fsm.proofs.lemmas.Replans.{replans}
use Rattle.wdt_sender_fsm.proofs.lemmas.Works.{Stays, Works, put, in_state, not_failed}

pub introduced : (s : PlainSender) (l : Lane) → Works s l → Asks (lane_at s l.0).ask (past_at s l.0) (end_of s.history) → Keeps (turn_row s l SettingsWritten)
introduced s l w asks = put s l (in_state s l states.ReadLocalCheckpoint) w.stays asks

-- ---- its count

greets_by : (s : PlainSender) (l : Lane) (m : Mark) (ask : Bool) → Works s l → (past_at s l.0).is_up ≡ true → count_fault (past_at s l.0).claims m.count ≡ None → (ask ≡ false → (end_of s.history).is_listed ≡ true) → Keeps (greeted_by (noted s (events.Greet l m.count ∷ [])) l ask)
greets_by s l m true w up within known =
    put (noted s (events.Greet l m.count ∷ [])) l (in_state s l states.ReadFileChunks) (stays_more s l (events.Greet l m.count) w refl refl up within)
    (behind (λ p end. Learns p) s.history (events.Greet l m.count) l.0 record {
      goes_on = record { quit = w.quit; acked = w.acked; link = up };
      greeted = rw (eq-eqb l.0 l.0 refl) refl;
      held = rw (eq-eqb l.0 l.0 refl) refl;
    })
greets_by s l m false w up within known =
    put (noted s (events.Greet l m.count ∷ [])) l (in_state s l states.SendSize) (stays_more s l (events.Greet l m.count) w refl refl up within)
    (behind (λ p end. Sends p end false) s.history (events.Greet l m.count) l.0 record {
      goes_on = record { quit = w.quit; acked = w.acked; link = up };
      greeted = rw (eq-eqb l.0 l.0 refl) refl;
      held = rw (eq-eqb l.0 l.0 refl) refl;
      known = known refl;
    })

greets_with : (s : PlainSender) (l : Lane) (m : Mark) (o : Option PeerKind) → count_fault (past_at s l.0).claims m.count ≡ o → Works s l → Asks (lane_at s l.0).ask (past_at s l.0) (end_of s.history) → Keeps (greeted_with s l m o)
greets_with s l m (Some kind) is w asks =
    fault_keeps s l (Greeted m) kind w asks.goes_on.link (wrong (length s.lanes) (blocks_of s) s.history l.0 l.0 m.count kind w.stays.within (inr w.is_open) is)
greets_with s l m None is w asks =
    greets_by s l m (lane_at s l.0).ask w asks.goes_on.link
    is asks.known

greets_for : (s : PlainSender) (l : Lane) (m : Mark) (b : Bool) → (m.lane.0 == l.0) ≡ b → Works s l → Asks (lane_at s l.0).ask (past_at s l.0) (end_of s.history) → Keeps (greeted_for s l m b)
greets_for s l m true is w asks = greets_with s l m (count_fault (past_at s l.0).claims m.count) refl w asks
greets_for s l m false is w asks =
    unexpected_keeps s l (Greeted m) states.ReadLocalCheckpoint (frames.Greeting m) w asks.goes_on.link (not_from_false (past_at s l.0).is_greeted asks.greeted) (not_from_false (m.lane.0 == l.0) is)

pub greets : (s : PlainSender) (l : Lane) (m : Mark) → Works s l → Asks (lane_at s l.0).ask (past_at s l.0) (end_of s.history) → Keeps (turn_row s l (Greeted m))
greets s l m w asks = greets_for s l m (m.lane.0 == l.0) refl w asks

-- ---- what the destination has

-- a place that is out of order is behind the first
out_behind : (k : ℕ) (path : List ℕ) (files : List HaveFile) (at : ℕ) → unordered_from k path files ≡ Some at → k ≤ at
out_behind k path [] at e = cc
out_behind k path (file ∷ files) at e = go (is_before path file.path) (out_behind (k + 1) file.path files at) e where
  go : (b : Bool) → (unordered_from (k + 1) file.path files ≡ Some at → k + 1 ≤ at) → (if b then unordered_from (k + 1) file.path files else Some k) ≡ Some at → k ≤ at
  go true later x = let more : k + 1 ≤ at = later x in omega (arith, more)
  go false later x = let same : k ≡ at = same_Some k at x in omega (arith, same)

out_of_order : (have : List HaveFile) (at : ℕ) → unordered_at have ≡ Some at → 1 ≤ at
out_of_order [] at e = cc
out_of_order (file ∷ files) at e = out_behind 1 file.path files at e

-- and one of the list
out_within : (k : ℕ) (path : List ℕ) (files : List HaveFile) (at : ℕ) → unordered_from k path files ≡ Some at → at < k + length files
out_within k path [] at e = cc
out_within k path (file ∷ files) at e = go (is_before path file.path) (out_within (k + 1) file.path files at) e where
  go : (b : Bool) → (unordered_from (k + 1) file.path files ≡ Some at → at < k + 1 + length files) → (if b then unordered_from (k + 1) file.path files else Some k) ≡ Some at → at < k + length (file ∷ files)
  go true later x = let more : at < k + 1 + length files = later x in omega (arith, more)
  go false later x = let same : k ≡ at = same_Some k at x in omega (arith, same)

out_of_list : (have : List HaveFile) (at : ℕ) → unordered_at have ≡ Some at → at < length have
out_of_list [] at e = cc
out_of_list (file ∷ files) at e = let within : at < 1 + length files = out_within 1 file.path files at e in omega (arith, within)

-- lists differ at most where the first ends
differs_within : (k : ℕ) (first later : List HaveFile) (at : ℕ) → different_from k first later ≡ Some at → at ≤ k + length first
differs_within k [] [] at e = cc
differs_within k (a ∷ xs) (b ∷ ys) at e = go (is_same_file a b) (differs_within (k + 1) xs ys at) e where
  go : (same : Bool) → (different_from (k + 1) xs ys ≡ Some at → at ≤ k + 1 + length xs) → (if same then different_from (k + 1) xs ys else Some k) ≡ Some at → at ≤ k + length (a ∷ xs)
  go true later x = let more : at ≤ k + 1 + length xs = later x in omega (arith, more)
  go false later x = let same : k ≡ at = same_Some k at x in omega (arith, same)
differs_within k [] (b ∷ ys) at e = let same : k ≡ at = same_Some k at e in omega (arith, same)
differs_within k (a ∷ xs) [] at e = let same : k ≡ at = same_Some k at e in omega (arith, same)

first_few : (s : PlainSender) (first : List HaveFile) → s.have ≡ Some first → IfSome s.have (IsAccepted s.manifest s.block) → length first ≤ 262144
first_few s first has accepted = (subst (λ (o : Option (List HaveFile)). IfSome o (IsAccepted s.manifest s.block)) has accepted).fits.few

-- the size of the tree is written behind the entry
sizes : (s t : PlainSender) (l : Lane) → Learns (past_at s l.0) → Stays t l → t.history ≡ s.history ++ events.Chunks l ∷ [] → Sends (past_at t l.0) (end_of t.history) false
sizes s t l learns stays is =
    subst (λ (h : List SendEvent). Sends (past_of h l.0) (end_of h) false) (sym is)
    (behind (λ p end. Sends p end false) s.history (events.Chunks l) l.0 record { goes_on = learns.goes_on; greeted = learns.greeted; held = learns.held; known = refl })

again_stays : (s : PlainSender) (l : Lane) → is_some s.have ≡ true → Works s l → Learns (past_at s l.0) → Stays (noted s (events.Chunks l ∷ [])) l
again_stays s l has w learns =
    record {
      within = w.stays.within;
      legal = legal_more s l (events.Chunks l) w refl learns.goes_on.link learns.greeted;
      plan = record {
        listed = has ∙ sym (ap (λ (x : EndPast). x.is_listed) (end_of-more s.history (events.Chunks l)));
        planned = w.stays.plan.planned;
        accepted = w.stays.plan.accepted;
      };
      noted = w.stays.noted ∙ sym (failure_in-more s.history (events.Chunks l));
      code = w.stays.code;
      unfinished = λ f. not_failed s l w f;
      faultless = λ x. ap (λ (x : EndPast). x.has_fault) (end_of-more s.history (events.Chunks l)) ∙ w.stays.faultless x;
      others = others_more s l.0 (events.Chunks l) refl refl w.stays.others;
      ended = ended_more s l.0 (events.Chunks l) refl w.stays.ended;
    }

first_stays : (s : PlainSender) (l : Lane) (have : List HaveFile) → FitsChunks have → s.have ≡ None → unordered_at have ≡ None → refusal s.manifest have s.block ≡ None → Works s l → Learns (past_at s l.0) → Stays (noted (with_plan s have) (events.Chunks l ∷ [])) l
first_stays s l have fit none ordered sent w learns =
    let blocks : List Block = rest_of s.manifest have s.block in
    let unlisted : (end_of s.history).is_listed ≡ false = sym w.stays.plan.listed ∙ ap is_some none in
    record {
      within = w.stays.within;
      legal = IsLegal-more (length s.lanes) (rest_of s.manifest have s.block) s.history (events.Chunks l)
          (replans (length s.lanes) (blocks_of s) (rest_of s.manifest have s.block) s.history unlisted w.stays.legal)
          (allowed s l (rest_of s.manifest have s.block) (events.Chunks l) w refl learns.goes_on.link learns.greeted);
      plan = record {
        listed = sym (ap (λ (x : EndPast). x.is_listed) (end_of-more s.history (events.Chunks l)));
        planned = refl;
        accepted = record { fits = fit; ordered = ordered; sent = sent };
      };
      noted = w.stays.noted ∙ sym (failure_in-more s.history (events.Chunks l));
      code = w.stays.code;
      unfinished = λ f. not_failed s l w f;
      faultless = λ x. ap (λ (x : EndPast). x.has_fault) (end_of-more s.history (events.Chunks l)) ∙ w.stays.faultless x;
      others = others_more s l.0 (events.Chunks l) refl refl w.stays.others;
      ended = ended_more s l.0 (events.Chunks l) refl w.stays.ended;
    }

lists_again : (s : PlainSender) (l : Lane) (have first : List HaveFile) (o : Option ℕ) → different_at first have ≡ o → s.have ≡ Some first → Works s l → Learns (past_at s l.0) → Keeps (listed_again s l have o)
lists_again s l have first (Some at) differs has w learns =
    let within : at ≤ 0 + length first = differs_within 0 first have at differs in
    let few : length first ≤ 262144 = first_few s first has w.stays.plan.accepted in
    fault_keeps s l (Listed have) (peers.ChunksDiffer at) w learns.goes_on.link (learns.greeted, sym w.stays.plan.listed ∙ ap is_some has, omega (arith, within, few))
lists_again s l have first None differs has w learns =
    let stays = again_stays s l (ap is_some has) w learns in
    put (noted s (events.Chunks l ∷ [])) l (in_state s l states.SendSize) stays (sizes s (noted s (events.Chunks l ∷ [])) l learns stays refl)

plans : (s : PlainSender) (l : Lane) (have : List HaveFile) (o : Option RefusedKind) → FitsChunks have → s.have ≡ None → unordered_at have ≡ None → refusal s.manifest have s.block ≡ o → Works s l → Learns (past_at s l.0) → Keeps (planned_by s l have o)
plans s l have (Some kind) fit none ordered is w learns = refused_keeps s l (Listed have) kind w learns.goes_on.link
plans s l have None fit none ordered is w learns =
    let stays = first_stays s l have fit none ordered is w learns in
    put (noted (with_plan s have) (events.Chunks l ∷ [])) l (in_state s l states.SendSize) stays (sizes s (noted (with_plan s have) (events.Chunks l ∷ [])) l learns stays refl)

lists_after : (s : PlainSender) (l : Lane) (have : List HaveFile) (o : Option (List HaveFile)) → FitsChunks have → s.have ≡ o → unordered_at have ≡ None → Works s l → Learns (past_at s l.0) → Keeps (listed_after s l have o)
lists_after s l have (Some first) fit has ordered w learns = lists_again s l have first (different_at first have) refl has w learns
lists_after s l have None fit has ordered w learns = plans s l have (refusal s.manifest have s.block) fit has ordered refl w learns

lists_in : (s : PlainSender) (l : Lane) (have : List HaveFile) (o : Option ℕ) → FitsChunks have → unordered_at have ≡ o → Works s l → Learns (past_at s l.0) → Keeps (listed_in s l have o)
lists_in s l have (Some at) fit is w learns =
    let inside : at < length have = out_of_list have at is in
    let below : at < 262144 = omega (arith, inside, fit.few) in
    fault_keeps s l (Listed have) (peers.BadChunks at) w learns.goes_on.link (learns.greeted, out_of_order have at is, below)
lists_in s l have None fit is w learns = lists_after s l have s.have fit refl is w learns

pub lists : (s : PlainSender) (l : Lane) (have : List HaveFile) → FitsChunks have → Works s l → Learns (past_at s l.0) → Keeps (turn_row s l (Listed have))
lists s l have fit w learns = lists_in s l have (unordered_at have) fit refl w learns
