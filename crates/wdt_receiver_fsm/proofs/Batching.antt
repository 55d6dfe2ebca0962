-- What has landed adds up behind each end of a step.
use Rattle.std.proofs.Common.{◌≡◌, ℕ, zero, suc, ◌+◌, ◌==◌, ◌<◌, ◌||◌, nat_le, not, List, [], ◌∷◌, ◌++◌, length, filter, map, sum_by, replicate, Bool, true, false, if◌then◌else◌, Option, Some, None, is_some, subst, sym, ap, ◌∙◌, refl, arith, append_assoc, append-nil}
use Rattle.std.proofs.lemmas.Bool.{both_ways}
use Rattle.std.proofs.lemmas.Bool.Decides.{nat_tests}
use Rattle.std.proofs.lemmas.List.Elements.{filter-append}
use Rattle.std.proofs.lemmas.List.Sums.{count_by-le-length, length-filter, sum_by_push}
use Rattle.wdt_units.specs.declared.blocks.Block.{Block}
use Rattle.wdt_units.specs.declared.limits.TheConstants.{MAX_BLOCKS}
use Rattle.wdt_units.specs.declared.numbers.Lane.{Lane}
use Rattle.wdt_codec.specs.declared.frames.Settings.{Settings}
use Rattle.wdt_logfmt.specs.Adding.{all_added}
use Rattle.wdt_logfmt.specs.Batches.{entries_of, files_behind, files_or}
use Rattle.wdt_logfmt.specs.Beginning.{KnownFile, length_of}
use Rattle.wdt_logfmt.specs.Marks.{Marked, mark_block, marked_of, marks_from, marks_of}
use Rattle.wdt_logfmt.specs.Spelling.{written_version}
use Rattle.wdt_logfmt.specs.View.{Meaning, NamedFile, is_view}
use Rattle.wdt_logfmt.proofs.ForCallers.{batch-view, blocks_marked}
use Rattle.wdt_sender_fsm.specs.declared.answers.EndAnswer.{EndAnswer}
use Rattle.wdt_sender_fsm.specs.Rules.{is_failure, by_voice}
use Rattle.wdt_receiver_fsm.specs.declared.events.RecvEvent.{RecvEvent}
use Rattle.wdt_receiver_fsm.specs.declared.events.RecvEvent.TheVariants as events
use Rattle.wdt_receiver_fsm.specs.Batched.{AddsUp, CanLog, Continues, IsBatched, IsBelowBatch, is_filled}
use Rattle.wdt_receiver_fsm.specs.Logging.{all_logged, all_logged_by, log_after}
use Rattle.wdt_receiver_fsm.specs.Outcomes.{Outcome, Rested, Left, Warned, Failed, GivenUp, Listened, Linked, Greeted, Listed, ReadOn, Sized, Begun, Taken, Concluded, Told, Waited, Ended, Acknowledged, came_to, ComesOf, Lands, landed_by, Idles, ByDone, ByWait, ByWaking, Fails, OfMemory, OfSender, OfPeer, OfShort, OfMake, OfWrite, OfLog, OfFinish, Listens, AtFirst, ByNoLink, ByLoss, ReadsOn, ByGreeting, ByChunks, ByMarks, ByLanding, ByLogging, Concludes, WasFinished, IsFinished, Begins, OfKnown, OfNew}
use Rattle.wdt_receiver_fsm.specs.Plan.{EndsIn}
use Rattle.wdt_receiver_fsm.specs.PlainReceiver.{PlainReceiver, bytes_of, failed, has_finish, is_batch_full, lane_at, marks_at, new_lane, noted, opened, past_at, with_lane}
use Rattle.wdt_receiver_fsm.specs.ReceiverHistory.{RecvPast, begun_list, end_of, landed_from, landed_of, lands_none, no_past, past_after, past_from, past_of, with_begun_at}
use Rattle.wdt_receiver_fsm.specs.Sets.{set_of}
use Rattle.wdt_receiver_fsm.specs.Turn.{Put, Step, begins_by, given_up, greets_by, lands, leaves, meets, met_by, next_take, sized_by, tells_failure, turn_plan, waits_by}
use Rattle.wdt_receiver_fsm.proofs.Comes.{end_comes}
use Rattle.wdt_receiver_fsm.proofs.Entries.{began}
use Rattle.wdt_receiver_fsm.proofs.Failing.{failed_still, voiced_answer}
use Rattle.wdt_receiver_fsm.proofs.HeldActs.{fails_here}
use Rattle.wdt_receiver_fsm.proofs.Touching.{turn_touches}

-- ---- what has landed, behind one more entry

begun_from : (ℕ → Option Block) → List RecvEvent → ℕ → Option Block
begun_from begun [] = begun
begun_from begun (events.Begin k b ∷ es) = begun_from (with_begun_at begun k.0 (Some b)) es
begun_from begun (events.Dropped k ∷ es) = begun_from (with_begun_at begun k.0 None) es
begun_from begun (events.Land k ∷ es) = begun_from (with_begun_at begun k.0 None) es
begun_from begun (e ∷ es) = begun_from begun es

landed_parts : (begun : ℕ → Option Block) (g es : List RecvEvent) → landed_from begun (g ++ es) ≡ landed_from begun g ++ landed_from (begun_from begun g) es
unfolding begun_from
landed_parts begun [] es = refl
landed_parts begun (events.Begin k b ∷ g) es = landed_parts (with_begun_at begun k.0 (Some b)) g es
landed_parts begun (events.Dropped k ∷ g) es = landed_parts (with_begun_at begun k.0 None) g es
landed_parts begun (events.Land k ∷ g) es =
    ap (λ (bs : List Block). begun_list (begun k.0) ++ bs) (landed_parts (with_begun_at begun k.0 None) g es)
    ∙ sym (append_assoc (begun_list (begun k.0)) (landed_from (with_begun_at begun k.0 None) g) (landed_from (begun_from (with_begun_at begun k.0 None) g) es))
landed_parts begun (e ∷ g) es = landed_parts begun g es

same_test : (j k : ℕ) → (k == j) ≡ (j == k)
same_test j k = grind (arith, nat_tests)

put_same : (begun : ℕ → Option Block) (j k : ℕ) (b o : Option Block) → begun k ≡ o → with_begun_at begun j b k ≡ (if j == k then b else o)
put_same begun j k b o is = ap (λ (t : Bool). if t then b else begun k) (same_test j k) ∙ ap (λ (x : Option Block). if j == k then b else x) is

begun_is : (begun : ℕ → Option Block) (g : List RecvEvent) (k : ℕ) (p : RecvPast) → begun k ≡ p.begun → begun_from begun g k ≡ (past_from k p g).begun
unfolding begun_from
begun_is begun [] k p is = is
begun_is begun (events.Begin j b ∷ g) k p is = begun_is (with_begun_at begun j.0 (Some b)) g k (past_after k p (events.Begin j b)) (put_same begun j.0 k (Some b) p.begun is)
begun_is begun (events.Dropped j ∷ g) k p is = begun_is (with_begun_at begun j.0 None) g k (past_after k p (events.Dropped j)) (put_same begun j.0 k None p.begun is)
begun_is begun (events.Land j ∷ g) k p is = begun_is (with_begun_at begun j.0 None) g k (past_after k p (events.Land j)) (put_same begun j.0 k None p.begun is)
begun_is begun (e ∷ g) k p is = begun_is begun g k (past_after k p e) is

pub landed_more : (g : List RecvEvent) (l : Lane) → landed_of (g ++ events.Land l ∷ []) ≡ landed_of g ++ begun_list (past_of g l.0).begun
unfolding landed_of past_of
landed_more g l =
    landed_parts (λ k. None) g (events.Land l ∷ [])
    ∙ ap (λ (bs : List Block). landed_from (λ k. None) g ++ bs) (append-nil (begun_list (begun_from (λ k. None) g l.0)) ∙ ap begun_list (begun_is (λ k. None) g l.0 no_past refl))

-- an entry that lands no block leaves what has landed
pub landed_same : (g : List RecvEvent) (e : RecvEvent) → lands_none e ≡ true → landed_of (g ++ e ∷ []) ≡ landed_of g
unfolding landed_of
landed_same g e none = landed_parts (λ k. None) g (e ∷ []) ∙ ap (λ (bs : List Block). landed_from (λ k. None) g ++ bs) (nothing (begun_from (λ k. None) g) e none) ∙ append-nil (landed_from (λ k. None) g)
  where
    nothing : (begun : ℕ → Option Block) (e : RecvEvent) → lands_none e ≡ true → landed_from begun (e ∷ []) ≡ []
    nothing begun (events.Land l) none = cc
    nothing begun (events.Begin l b) none = refl
    nothing begun (events.Dropped l) none = refl
    nothing begun e none = refl

-- ---- what landed adds up

marks_parts : (ms : List Marked) (xs ys : List Block) → marks_from ms (xs ++ ys) ≡ marks_from (marks_from ms xs) ys
marks_parts ms [] ys = refl
marks_parts ms (b ∷ xs) ys = marks_parts (mark_block ms b) xs ys

marks_on : (fs : List NamedFile) (xs ys : List Block) → marks_of fs (xs ++ ys) ≡ marks_from (marks_of fs xs) ys
unfolding marks_of
marks_on fs xs ys = marks_parts (map marked_of fs) xs ys

marks_start : (fs : List NamedFile) (bs : List Block) → marks_of fs bs ≡ marks_from (map marked_of fs) bs
unfolding marks_of
marks_start fs bs = refl

-- the files that a log says behind blocks that can be logged: they are a view, and their marks are those of before
-- with the blocks
record Leads (known : List (Option KnownFile)) (files : List NamedFile) (blocks : List Block) : Type 0 where
  view : is_view (files_behind files (entries_of known files blocks)) ≡ true
  marks : marks_from (map marked_of files) blocks ≡ map marked_of (files_behind files (entries_of known files blocks))

leads : (known : List (Option KnownFile)) (files : List NamedFile) (blocks : List Block) → is_view files ≡ true → Continues known files blocks → Leads known files blocks
leads known files blocks view on = go (all_added written_version files (entries_of known files blocks)) refl
  where
    so : (more : List NamedFile) → all_added written_version files (entries_of known files blocks) ≡ Some more → files_behind files (entries_of known files blocks) ≡ more
    so more is = ap (files_or files) is

    go : (o : Option (List NamedFile)) → all_added written_version files (entries_of known files blocks) ≡ o → Leads known files blocks
    go None is = absurd (on.added is)
    go (Some more) is = record {
      view = ap is_view (so more is) ∙ batch-view written_version files more (entries_of known files blocks) view is;
      marks = sym (marks_start files blocks) ∙ sym (blocks_marked known files more blocks view on.known_files is) ∙ ap (map marked_of) (sym (so more is));
    }

-- an entry that lands no block
adds_note : (opening files : List NamedFile) (unlogged : List Block) (g : List RecvEvent) (e : RecvEvent) → lands_none e ≡ true → AddsUp opening files unlogged g → AddsUp opening files unlogged (g ++ e ∷ [])
adds_note opening files unlogged g e none a = record { logged = a.logged; landed = landed_same g e none ∙ a.landed; marks = a.marks; view = a.view }

-- a begun block lands
adds_land : (opening files : List NamedFile) (unlogged : List Block) (g : List RecvEvent) (l : Lane) (b : Block) → (past_of g l.0).begun ≡ Some b → AddsUp opening files unlogged g → AddsUp opening files (unlogged ++ b ∷ []) (g ++ events.Land l ∷ [])
adds_land opening files unlogged g l b begun a = record {
  logged = a.logged;
  landed = landed_more g l ∙ ap (λ (o : Option Block). landed_of g ++ begun_list o) begun ∙ ap (λ (bs : List Block). bs ++ b ∷ []) a.landed ∙ append_assoc a.logged unlogged (b ∷ []);
  marks = a.marks;
  view = a.view;
}

-- all that landed is logged
adds_log : (known : List (Option KnownFile)) (opening files : List NamedFile) (unlogged : List Block) (g : List RecvEvent) → Continues known files unlogged → AddsUp opening files unlogged g → AddsUp opening (files_behind files (entries_of known files unlogged)) [] g
adds_log known opening files unlogged g on a =
    let lead = leads known files unlogged a.view on in
    record {
      logged = a.logged ++ unlogged;
      landed = a.landed ∙ sym (append-nil (a.logged ++ unlogged));
      marks = marks_on opening a.logged unlogged ∙ ap (λ (ms : List Marked). marks_from ms unlogged) a.marks ∙ lead.marks;
      view = lead.view;
    }

-- ---- a receiver's

abbrev A : PlainReceiver → Type 0
A t = AddsUp t.opening t.log.files t.unlogged t.history

abbrev Logs : PlainReceiver → Type 0
Logs t = Continues t.known t.log.files t.unlogged

notes : (t : PlainReceiver) (e : RecvEvent) → lands_none e ≡ true → A t → A (noted t (e ∷ []))
notes t e none a = adds_note t.opening t.log.files t.unlogged t.history e none a

lands_so : (t : PlainReceiver) (l : Lane) (b : Block) → (past_at t l.0).begun ≡ Some b → A t → A (lands t l b)
lands_so t l b begun a = adds_land t.opening t.log.files t.unlogged t.history l b begun a

-- behind a flush, whatever the history
flushes : (t : PlainReceiver) (bs : List Block) (g : List RecvEvent) → t.unlogged ≡ bs → Logs t → AddsUp t.opening t.log.files t.unlogged g → AddsUp (all_logged_by t bs).opening (all_logged_by t bs).log.files (all_logged_by t bs).unlogged g
flushes t [] g is on a = a
flushes t (b ∷ bs) g is on a = adds_log t.known t.opening t.log.files t.unlogged g on a

same_history : (t : PlainReceiver) (bs : List Block) → (all_logged_by t bs).history ≡ t.history
same_history t [] = refl
same_history t (b ∷ bs) = refl

logs_so : (t : PlainReceiver) → Logs t → A t → A (all_logged t)
logs_so t on a = subst (λ (g : List RecvEvent). AddsUp (all_logged t).opening (all_logged t).log.files (all_logged t).unlogged g) (sym (same_history t t.unlogged)) (flushes t t.unlogged t.history refl on a)

module _ (r : PlainReceiver) (l : Lane) (put : Put) (a : A r) (can : CanLog r l put) where
  voiced : (t : PlainReceiver) (mute : Bool) → A t → A (by_voice mute (leaves t l) (tells_failure t l)).1
  voiced t true h = h
  voiced t false h = h

  landing : (b : Block) → Lands r l put b → A (landed_by r l b)
  landing b lands = lands_so (with_lane r l.0 record (lane_at r l.0) { left = 0 }) l b lands.begun a

  -- what landed can be logged behind the last piece, too
  can_land : (b : Block) → Lands r l put b → Logs (landed_by r l b)
  can_land b lands = can.next b lands

  -- an idle lane
  record Chose (t : PlainReceiver) : Type 0 where
    adds : A t
    before : AddsUp t.opening t.log.files t.unlogged r.history
    logs : Logs t

  chose : (t : PlainReceiver) → Idles r l put t → Chose t
  chose t (ByDone at sized given is) = subst Chose (sym is) record { adds = notes r (events.Idle l) refl a; before = a; logs = record { known_files = can.now.known_files; added = can.now.added } }
  chose t (ByWait at given is) = subst Chose (sym is) record { adds = a; before = a; logs = record { known_files = can.now.known_files; added = can.now.added } }
  chose t (ByWaking at given is) = subst Chose (sym is) record { adds = a; before = a; logs = can.now }

  listens_so : (t : PlainReceiver) → Listens r l put t → A t
  listens_so t (AtFirst at given) = a
  listens_so t (ByNoLink at given) = notes r (events.NoLink l) refl a
  listens_so t (ByLoss state at linked given) = notes r (events.Dropped l) refl a

  fails_so : (t : PlainReceiver) (answer : EndAnswer) (mute : Bool) → Fails r l put t answer mute → A t
  fails_so t answer mute (OfMemory m going given lives is) = a
  fails_so t answer mute (OfSender state code at reads given) = notes r (events.Abort l code) refl a
  fails_so t answer mute (OfPeer state kind at reads wrong) = notes r (events.Peer l kind) refl a
  fails_so t answer mute (OfShort u kind why short) =
      notes (record (all_logged u) { history = r.history }) (events.Peer l kind) refl (flushes u u.unlogged r.history refl (chose u why.idles).logs (chose u why.idles).before)
  fails_so t answer mute (OfMake h at sized given right new) = a
  fails_so t answer mute (OfWrite bytes b at given begun) = a
  fails_so t answer mute (OfLog b lands full) = landing b lands
  fails_so t answer mute (OfFinish u why) = (chose u why.idles).adds

  reads_so : (t : PlainReceiver) → ReadsOn r l put t → A t
  reads_so t (ByGreeting at given asked) = a
  reads_so t (ByChunks at given) = a
  reads_so t (ByMarks at given) = a
  reads_so t (ByLanding b lands full) = landing b lands
  reads_so t (ByLogging b lands full) = logs_so (landed_by r l b) (can_land b lands) (landing b lands)

  begins_so : (t : PlainReceiver) (b : Block) → Begins r l put t b → A t
  begins_so t b (OfKnown h at sized given right new) = a
  begins_so t b (OfNew h at sized given right new) = a

  begun_so : (t : PlainReceiver) (b : Block) (left : ℕ) → A t → A (begins_by t l b left).1
  begun_so t b zero h = lands_so (noted t (events.Begin l b ∷ [])) l b (ap (λ (p : RecvPast). p.begun) (began t.history l b)) (notes t (events.Begin l b) refl h)
  begun_so t b (suc left) h = notes t (events.Begin l b) refl h

  concludes_so : (t : PlainReceiver) → Concludes r l put t → A t
  concludes_so t (WasFinished u idles come) = (chose u idles).adds
  concludes_so t (IsFinished u why whole) = notes (all_logged u) events.Finish refl (logs_so u (chose u why.idles).logs (chose u why.idles).adds)

  given_so : (t : PlainReceiver) (come : Bool) → A t → A (noted t (given_up l come ∷ []))
  given_so t true h = notes t (events.Quit l) refl h
  given_so t false h = notes t (events.Close l) refl h

  meets_so : (s : Settings) (b : Bool) → A (met_by r l s b)
  meets_so s true = a
  meets_so s false = notes r (events.Met l s) refl a

  greets_so : (t : PlainReceiver) (s : Settings) (come : Bool) → A t → A (greets_by t l s come).1
  greets_so t s true h = h
  greets_so t s false h = h

  sized_so : (files bytes : ℕ) (b : Bool) → A (sized_by r l files bytes b)
  sized_so files bytes true = a
  sized_so files bytes false = notes r (events.Sized l files bytes) refl a

  waits_so : (t : PlainReceiver) (again : Bool) → A t → A (waits_by t l again).1
  waits_so t true h = h
  waits_so t false h = h

  outcome_adds : (o : Outcome) → ComesOf r l put o → A (came_to r l o).1
  outcome_adds Rested of = a
  outcome_adds Left of = a
  outcome_adds Warned of = a
  outcome_adds (Failed t answer mute) of = voiced (failed t answer) mute (fails_so t answer mute of)
  outcome_adds (GivenUp t) of = given_so t (has_finish t) (listens_so t of.0)
  outcome_adds (Listened t) of = listens_so t of.0
  outcome_adds Linked of = notes r (events.Take l (next_take r l)) refl a
  outcome_adds (Greeted s) of = greets_so (meets r l s) s (has_finish r) (meets_so s (is_some (end_of r.history).met))
  outcome_adds Listed of = a
  outcome_adds (ReadOn t) of = reads_so t of
  outcome_adds (Sized files bytes) of = sized_so files bytes (is_some (end_of r.history).sized)
  outcome_adds (Begun t b) of = begun_so t b b.length (begins_so t b of)
  outcome_adds (Taken left) of = a
  outcome_adds (Concluded t) of = concludes_so t of
  outcome_adds (Told t q qs) of = notes t (events.Told l (set_of (q ∷ qs))) refl (chose t of.idles).adds
  outcome_adds (Waited t again) of = waits_so t again (chose t of.0.idles).adds
  outcome_adds Ended of = a
  outcome_adds Acknowledged of = notes r (events.Acked l) refl a

-- ---- less than a batch isn't logged

le_false : (a b : ℕ) → nat_le a b ≡ false → b < a
le_false a b h = grind (arith, nat_tests)

neither : (a b : Bool) → (a || b) ≡ false → (a ≡ false) × (b ≡ false)
neither true b h = absurd (cc)
neither false b h = (refl, h)

abbrev B : PlainReceiver → Type 0
B t = IsBelowBatch t.batch t.unlogged

below_room : (t : PlainReceiver) → is_batch_full t ≡ false → B t
below_room t room =
    let parts = neither (nat_le t.batch (bytes_of t.unlogged)) (nat_le MAX_BLOCKS (length t.unlogged)) room in
    record {
      bytes = le_false t.batch (bytes_of t.unlogged) parts.0;
      blocks = omega (arith, le_false MAX_BLOCKS (length t.unlogged) parts.1, length-filter is_filled t.unlogged, count_by-le-length is_filled t.unlogged);
    }

below_none : (batch : ℕ) → 0 < batch → IsBelowBatch batch []
below_none batch some = record { bytes = some; blocks = omega arith }

below_logged : (t : PlainReceiver) (bs : List Block) → t.unlogged ≡ bs → 0 < t.batch → B (all_logged_by t bs)
below_logged t [] is some = subst (λ (xs : List Block). IsBelowBatch t.batch xs) (sym is) (below_none t.batch some)
below_logged t (b ∷ bs) is some = below_none t.batch some

-- an empty block more
below_empty : (batch : ℕ) (bs : List Block) (b : Block) → b.length ≡ 0 → IsBelowBatch batch bs → IsBelowBatch batch (bs ++ b ∷ [])
below_empty batch bs b empty below = record {
  bytes = subst (λ (n : ℕ). n < batch) (sym (sum_by_push length_of bs b ∙ ap (λ (n : ℕ). sum_by length_of bs + n) empty)) (omega (arith, below.bytes));
  blocks = subst (λ (xs : List Block). length xs < MAX_BLOCKS) (sym (filter-append is_filled bs (b ∷ []) ∙ ap (λ (n : ℕ). filter is_filled bs ++ (if not (n == 0) then b ∷ [] else [])) empty ∙ append-nil (filter is_filled bs))) below.blocks;
}

module _ (r : PlainReceiver) (l : Lane) (put : Put) (some : 0 < r.batch) (below : B r) where
  idles_below : (t : PlainReceiver) → Idles r l put t → (0 < t.batch) × B t
  idles_below t (ByDone at sized given is) = subst (λ (x : PlainReceiver). (0 < x.batch) × B x) (sym is) (some, below)
  idles_below t (ByWait at given is) = subst (λ (x : PlainReceiver). (0 < x.batch) × B x) (sym is) (some, below)
  idles_below t (ByWaking at given is) = subst (λ (x : PlainReceiver). (0 < x.batch) × B x) (sym is) (some, below)

  listens_below : (t : PlainReceiver) → Listens r l put t → B t
  listens_below t (AtFirst at given) = below
  listens_below t (ByNoLink at given) = below
  listens_below t (ByLoss state at linked given) = below

  reads_below : (t : PlainReceiver) → ReadsOn r l put t → B t
  reads_below t (ByGreeting at given asked) = below
  reads_below t (ByChunks at given) = below
  reads_below t (ByMarks at given) = below
  reads_below t (ByLanding b lands full) = below_room (landed_by r l b) full
  reads_below t (ByLogging b lands full) = below_logged (landed_by r l b) (landed_by r l b).unlogged refl some

  begins_below : (t : PlainReceiver) (b : Block) → Begins r l put t b → B t
  begins_below t b (OfKnown h at sized given right new) = below
  begins_below t b (OfNew h at sized given right new) = below

  begun_below : (t : PlainReceiver) (b : Block) (left : ℕ) → b.length ≡ left → B t → B (begins_by t l b left).1
  begun_below t b zero long h = below_empty t.batch t.unlogged b long h
  begun_below t b (suc left) long h = h

  concludes_below : (t : PlainReceiver) → Concludes r l put t → B t
  concludes_below t (WasFinished u idles come) = (idles_below u idles).1
  concludes_below t (IsFinished u why whole) = below_logged u u.unlogged refl (idles_below u why.idles).0

  meets_below : (s : Settings) (b : Bool) → B (met_by r l s b)
  meets_below s true = below
  meets_below s false = below

  greets_below : (t : PlainReceiver) (s : Settings) (come : Bool) → B t → B (greets_by t l s come).1
  greets_below t s true h = h
  greets_below t s false h = h

  sized_below : (files bytes : ℕ) (b : Bool) → B (sized_by r l files bytes b)
  sized_below files bytes true = below
  sized_below files bytes false = below

  waits_below : (t : PlainReceiver) (again : Bool) → B t → B (waits_by t l again).1
  waits_below t true h = h
  waits_below t false h = h

  given_below : (t : PlainReceiver) (come : Bool) → B t → B (noted t (given_up l come ∷ []))
  given_below t come h = h

  failing : (t : PlainReceiver) (answer : EndAnswer) (mute : Bool) → Fails r l put t answer mute → is_failure (by_voice mute (leaves (failed t answer) l) (tells_failure (failed t answer) l)).1.answer ≡ true
  failing t answer mute of = let fails = (fails_here r t l put answer mute of).1 in ap is_failure (voiced_answer r l put (failed t answer) mute fails) ∙ fails

  outcome_below : (o : Outcome) → ComesOf r l put o → is_failure (came_to r l o).1.answer ≡ false → B (came_to r l o).1
  outcome_below Rested of calm = below
  outcome_below Left of calm = below
  outcome_below Warned of calm = below
  outcome_below (Failed t answer mute) of calm = absurd (both_ways _ calm (failing t answer mute of))
  outcome_below (GivenUp t) of calm = listens_below t of.0
  outcome_below (Listened t) of calm = listens_below t of.0
  outcome_below Linked of calm = below
  outcome_below (Greeted s) of calm = greets_below (meets r l s) s (has_finish r) (meets_below s (is_some (end_of r.history).met))
  outcome_below Listed of calm = below
  outcome_below (ReadOn t) of calm = reads_below t of
  outcome_below (Sized files bytes) of calm = sized_below files bytes (is_some (end_of r.history).sized)
  outcome_below (Begun t b) of calm = begun_below t b b.length refl (begins_below t b of)
  outcome_below (Taken left) of calm = below
  outcome_below (Concluded t) of calm = concludes_below t of
  outcome_below (Told t q qs) of calm = (idles_below t of.idles).1
  outcome_below (Waited t again) of calm = waits_below t again (idles_below t of.0.idles).1
  outcome_below Ended of calm = below
  outcome_below Acknowledged of calm = below

-- ---- a receiver

pub opened_batched : (log : Meaning) (batch n : ℕ) → is_view log.files ≡ true → 0 < batch → IsBatched (opened log batch (replicate n new_lane))
unfolding landed_of
opened_batched log batch n view some = record {
  batch = some;
  adds_up = record { logged = []; landed = refl; marks = marks_start log.files []; view = view };
  below = λ calm. below_none batch some;
}

pub turn_batched : (r : PlainReceiver) (l : Lane) (put : Put) (step : Step) → IsBatched r → CanLog r l put → EndsIn (Unit {0}) (turn_plan r l put) step → IsBatched step.1
turn_batched r l put step is can ends_in =
    let c = end_comes r l put (Unit {0}) step ends_in in
    record {
      batch = subst (λ (n : ℕ). 0 < n) (sym (turn_touches r l put step ends_in).batch) is.batch;
      adds_up = subst (λ (x : Step). A x.1) (sym c.is) (outcome_adds r l put is.adds_up can c.outcome c.of);
      below = λ calm. below_so (is_failure r.answer) refl calm;
    }
  where
    below_so : (b : Bool) → is_failure r.answer ≡ b → is_failure step.1.answer ≡ false → B step.1
    below_so true fails calm = absurd (both_ways _ (ap (λ (x : PlainReceiver). is_failure x.answer) (sym (failed_still r l put fails (Unit {0}) step ends_in)) ∙ calm) fails)
    below_so false sound calm =
        let c = end_comes r l put (Unit {0}) step ends_in in
        subst (λ (x : Step). B x.1) (sym c.is) (outcome_below r l put is.batch (is.below sound) c.outcome c.of (ap (λ (x : Step). is_failure x.1.answer) (sym c.is) ∙ calm))

-- a flush that isn't part of a step
pub flush_batched : (r : PlainReceiver) → IsBatched r → Logs r → IsBatched (all_logged r)
flush_batched r is on = record {
  batch = same_batch r.unlogged;
  adds_up = logs_so r on is.adds_up;
  below = λ calm. below_logged r r.unlogged refl is.batch;
}
  where
    same_batch : (bs : List Block) → 0 < (all_logged_by r bs).batch
    same_batch [] = is.batch
    same_batch (b ∷ bs) = is.batch

-- what is there is what the log says once all that landed is logged
pub marks_follow : (r : PlainReceiver) → IsBatched r → Logs r → marks_at r ≡ map marked_of (log_after r).files
marks_follow r is on =
    ap (λ (bs : List Block). marks_of r.opening bs) is.adds_up.landed ∙ marks_on r.opening is.adds_up.logged r.unlogged
    ∙ ap (λ (ms : List Marked). marks_from ms r.unlogged) is.adds_up.marks ∙ (leads r.known r.log.files r.unlogged is.adds_up.view on).marks

-- where all is logged, what is there is what the log says
pub marks_logged : (r : PlainReceiver) → IsBatched r → r.unlogged ≡ [] → marks_at r ≡ map marked_of r.log.files
marks_logged r is none =
    ap (λ (bs : List Block). marks_of r.opening bs) (is.adds_up.landed ∙ ap (λ (bs : List Block). is.adds_up.logged ++ bs) none ∙ append-nil is.adds_up.logged) ∙ is.adds_up.marks
