-- The landing of a lane's block, call by call.
use Rattle.std.proofs.Common.{◌≡◌, inl, inr, ℕ, ◌+◌, ◌<◌, ◌≤◌, Bool, true, List, [], ◌∷◌, length, Option, Some, None, refl, sym, ap, ◌∙◌, subst, arith}
use Rattle.std.specs.Prelude.{◌≢◌, IfSome, slice_set}
use Rattle.std.proofs.lemmas.Bool.{cases_eq}
use Rattle.std.proofs.lemmas.List.{length-set}
use Rattle.wdt_units.specs.declared.blocks.Block.{Block}
use Rattle.wdt_units.specs.declared.numbers.Lane.{Lane}
use Rattle.wdt_units.specs.Tree.{File}
use Rattle.wdt_depot.specs.Moments.{IfTold}
use Rattle.wdt_depot.specs.Programs.{Calls, Drive}
use Rattle.wdt_depot.specs.State.{State}
use Rattle.wdt_sender_fsm.specs.declared.answers.EndAnswer.TheVariants as answers
use Rattle.wdt_logfmt.specs.Adding.{all_added}
use Rattle.wdt_logfmt.specs.Batches.{entries_of, have_known_files}
use Rattle.wdt_logfmt.specs.Beginning.{KnownFile}
use Rattle.wdt_logfmt.specs.Spelling.{written_version}
use Rattle.wdt_logfmt.specs.View.{Meaning}
use Rattle.wdt_log.specs.OpenLog.{OpenLog, RestsIn}
use Rattle.wdt_writer.specs.OnWay.{AreSound}
use Rattle.wdt_writer.specs.declared.parts.Part.{Part}
use Rattle.wdt_writer.specs.Answers.{IsSameOrSettled}
use Rattle.wdt_writer.specs.PlainWriter.{PlainWriter, begun_at, gives_back, lands as landed_in, part_of, part_or, taken_back, with_more}
use Rattle.wdt_receiver_fsm.specs.declared.acts.RecvAct.{RecvAct}
use Rattle.wdt_receiver_fsm.specs.declared.events.RecvEvent.TheVariants as events
use Rattle.wdt_receiver_fsm.specs.declared.states.RecvState.TheVariants as states
use Rattle.wdt_receiver_fsm.specs.Logging.{all_logged, all_logged_by, flush_calls}
use Rattle.wdt_receiver_fsm.specs.Outcomes.{landed_by}
use Rattle.wdt_receiver_fsm.specs.PlainReceiver.{PlainReceiver, failed, goes, is_batch_full, noted, with_lane}
use Rattle.wdt_receiver_fsm.specs.ReceiverHistory.{past_of}
use Rattle.wdt_receiver_fsm.specs.Turn.{Step, reads, tells_failure}
use Rattle.wdt_dock.specs.Booked.{IsBooked}
use Rattle.wdt_dock.specs.Desk.{AreBooks, IsDesk, IsWritten, books_of, part_by, part_in, plain_of}
use Rattle.wdt_dock.specs.DockView.{HasLostDisk}
use Rattle.wdt_receiver_fsm.specs.End.{Books, EndView, lane_in, plain_with}
use Rattle.wdt_dock.specs.Landing.{IsWholeOf}
use Rattle.wdt_dock.proofs.Choices.{kept_plain, logged_stays, lost_answer}
use Rattle.wdt_dock.proofs.Keeping.{LosesNone, loses_lane, stays_failed, stays_going, stays_more}
use Rattle.wdt_dock.proofs.LandedBlock.{books_landed}
use Rattle.wdt_dock.proofs.Landings.{booked_now, landed_drops, landed_loses, part_beside, part_here}
use Rattle.wdt_dock.proofs.Parting.{Drops, drops_on}
use Rattle.wdt_dock.proofs.Taken.{some_of, sound_with}

logged_answer : (r : PlainReceiver) → (HasLostDisk r.answer → ⊥) → HasLostDisk (all_logged r).answer → ⊥
logged_answer r here = go r.unlogged
  where
    go : (bs : List Block) → HasLostDisk (all_logged_by r bs).answer → ⊥
    go [] = here
    go (b ∷ bs) = here

-- the ties stand over another log that says the same
pub desk_on : (e : EndView) (log log2 : OpenLog) (w : PlainWriter) → IsDesk e log w → log2.meaning ≡ log.meaning → log2.version ≡ written_version → IsDesk e log2 w
desk_on e log log2 w desk is version = record {
  books = record {
    version = version;
    sound = desk.books.sound;
    known = desk.books.known;
    pending = subst (λ (m : Meaning). w.pending ≡ entries_of w.known m.files w.unlogged) (sym is) desk.books.pending;
    adds = subst (λ (m : Meaning). all_added written_version m.files w.pending ≡ Some w.files) (sym is) desk.books.adds;
  };
  lanes = desk.lanes;
  parts = desk.parts;
}

module _ (e : EndView) (log : OpenLog) (w : PlainWriter) (l : Lane) (count : ℕ) (within : l.0 < length e.lanes) (desk : IsWritten e log w l.0 count) (some : (past_of e.history l.0).begun ≢ None) where
  abbrev pub block : Block
  block = (some_of (past_of e.history l.0).begun some).0

  pub begun : (past_of e.history l.0).begun ≡ Some block
  begun = (some_of (past_of e.history l.0).begun some).1

  abbrev pub part : Part
  part = record { block = block; left = 0 }

  pub there : part_of w.parts l.0 ≡ Some part
  there = desk.here ∙ ap (λ (o : Option Block). part_by o 0) begun

  pub begun_is : begun_at w l.0 ≡ part
  begun_is = ap part_or there

  abbrev pub before : PlainReceiver
  before = plain_of e log w

  -- the receiver as the block has landed
  abbrev pub landed : PlainReceiver
  landed = landed_by before l block

  landed_within : l.0 < length landed.lanes
  landed_within = subst (λ (n : ℕ). l.0 < n) (sym (landed_drops before l block).lanes) within

  -- ---- taken back

  -- the lane's block has so many bytes to come again
  given_back : (w2 : PlainWriter) → w2 ≡ gives_back w l.0 count → count ≤ block.length → IsDesk e log w2
  given_back w2 is short =
      let more : Part = record { block = block; left = count } in
      let parts : w2.parts ≡ slice_set w.parts l.0 (Some more) = ap (λ (x : PlainWriter). x.parts) is ∙ ap (λ (q : Part). slice_set w.parts l.0 (Some (with_more q count))) begun_is ∙ ap (λ (n : ℕ). slice_set w.parts l.0 (Some (record { block = block; left = n }))) (omega arith) in
      let stands : AreBooks log w = desk.books in
      record {
        books = record {
          version = stands.version;
          sound = subst (λ (x : PlainWriter). AreSound x.known x.files w2.parts) (sym is) (subst (λ (ps : List (Option Part)). AreSound w.known w.files ps) (sym parts) (sound_with w.known w.files w.parts l.0 part more there refl short stands.sound));
          known = subst (λ (x : PlainWriter). have_known_files x.known x.unlogged ≡ true) (sym is) stands.known;
          pending = subst (λ (x : PlainWriter). x.pending ≡ entries_of x.known log.meaning.files x.unlogged) (sym is) stands.pending;
          adds = subst (λ (x : PlainWriter). all_added written_version log.meaning.files x.pending ≡ Some x.files) (sym is) stands.adds;
        };
        lanes = ap (λ (ps : List (Option Part)). length ps) parts ∙ length-set w.parts l.0 (Some more) ∙ desk.lanes;
        parts = λ k below. ap (λ (ps : List (Option Part)). part_of ps k) parts ∙ (elim (cases_eq k l.0) [
          | inl same ↦ subst (λ (j : ℕ). part_of (slice_set w.parts l.0 (Some more)) j ≡ part_in e j) (sym same)
              (part_here w.parts l.0 (Some more) (subst (λ (n : ℕ). l.0 < n) (sym desk.lanes) within) ∙ ap (λ (n : ℕ). part_by (Some block) n) (sym desk.left) ∙ ap (λ (o : Option Block). part_by o (lane_in e l.0).left) (sym begun))
          | inr ne ↦ part_beside w.parts l.0 k (Some more) ne ∙ desk.others k below ne
        ]);
      }

  pub back : (w1 w2 : PlainWriter) → IsSameOrSettled w w1 → w2 ≡ gives_back w1 l.0 count → count ≤ block.length → IsDesk e log w2
  back w1 w2 (inl is) gives short = given_back w2 (gives ∙ ap (λ (x : PlainWriter). gives_back x l.0 count) is) short
  back w1 w2 (inr is) gives short = given_back w2 (gives ∙ ap (λ (x : PlainWriter). gives_back x l.0 count) is) short

  -- the receiver is as it was
  pub same_plain : (log2 : OpenLog) (w2 : PlainWriter) → log2.meaning ≡ log.meaning → (w1 : PlainWriter) → IsSameOrSettled w w1 → w2 ≡ gives_back w1 l.0 count → plain_of e log2 w2 ≡ before
  same_plain log2 w2 meaning w1 so gives = kept_books log2 w2 meaning (ap (λ (x : PlainWriter). x.known) gives ∙ known so) (ap (λ (x : PlainWriter). x.unlogged) gives ∙ unlogged so)
    where
      known : {w1 : PlainWriter} → IsSameOrSettled w w1 → w1.known ≡ w.known
      known (inl is) = ap (λ (x : PlainWriter). x.known) is
      known (inr is) = ap (λ (x : PlainWriter). x.known) is

      unlogged : {w1 : PlainWriter} → IsSameOrSettled w w1 → w1.unlogged ≡ w.unlogged
      unlogged (inl is) = ap (λ (x : PlainWriter). x.unlogged) is
      unlogged (inr is) = ap (λ (x : PlainWriter). x.unlogged) is

      kept_books : (log2 : OpenLog) (w2 : PlainWriter) → log2.meaning ≡ log.meaning → w2.known ≡ w.known → w2.unlogged ≡ w.unlogged → plain_of e log2 w2 ≡ before
      kept_books log2 w2 meaning known_same unlogged_same =
          ap (λ (m : Meaning). plain_with e (record { known = w2.known; log = m; unlogged = w2.unlogged })) meaning
          ∙ ap (λ (ks : List (Option KnownFile)). plain_with e (record { known = ks; log = log.meaning; unlogged = w2.unlogged })) known_same
          ∙ ap (λ (bs : List Block). plain_with e (record { known = w.known; log = log.meaning; unlogged = bs })) unlogged_same

  pub short_is : IfSome (past_of e.history l.0).begun (λ b. count ≤ b.length) → count ≤ block.length
  short_is short = subst (λ (o : Option Block). IfSome o (λ b. count ≤ b.length)) begun short

  may_give : (w1 : PlainWriter) → w1.parts ≡ w.parts → count ≤ block.length → (begun_at w1 l.0).left + count ≤ (begun_at w1 l.0).block.length
  may_give w1 same short = subst (λ (q : Part). q.left + count ≤ q.block.length) (sym (ap (λ (ps : List (Option Part)). part_or (part_of ps l.0)) same ∙ begun_is)) (omega (arith, short))

  pub gives : (w1 : PlainWriter) → IsSameOrSettled w w1 → count ≤ block.length → (begun_at w1 l.0).left + count ≤ (begun_at w1 l.0).block.length
  gives w1 (inl is) short = may_give w1 (ap (λ (x : PlainWriter). x.parts) is) short
  gives w1 (inr is) short = may_give w1 (ap (λ (x : PlainWriter). x.parts) is) short

  -- ---- landed

  module _ (w1 : PlainWriter) (lands_is : w1 ≡ landed_in w l.0 (begun_at w l.0).block) where
    pub writer_is : w1 ≡ landed_in w l.0 block
    writer_is = lands_is ∙ ap (λ (q : Part). landed_in w l.0 q.block) begun_is

    -- a landing that is taken back
    pub back_is : (w2 w3 : PlainWriter) → w2 ≡ w1 → w3 ≡ taken_back w2 → IsSameOrSettled w w3
    back_is w2 w3 kept back = inr (back ∙ ap taken_back (kept ∙ writer_is))

    -- it may be logged
    pub booked_so : (T : List File) (s : State) → (HasLostDisk e.answer → ⊥) → RestsIn log s → IfTold (λ t. IsWholeOf T before l.0 t.now) s.told → IfTold (λ t. IsBooked T log w1 t.now) s.told
    booked_so T s sound rests whole = subst (λ (x : PlainWriter). IfTold (λ t. IsBooked T log x t.now) s.told) (sym writer_is) (booked_now e log w l desk.books part there begun T s sound rests whole)

    pub books_now : AreBooks log w1
    books_now = subst (λ (x : PlainWriter). AreBooks log x) (sym writer_is) (books_landed log w desk.books l.0 part there)

    pub parts_now : w1.parts ≡ slice_set w.parts l.0 None
    parts_now = ap (λ (x : PlainWriter). x.parts) writer_is

    pub known_now : w1.known ≡ w.known
    known_now = ap (λ (x : PlainWriter). x.known) writer_is

    pub files_now : w1.files ≡ (landed_in w l.0 block).files
    files_now = ap (λ (x : PlainWriter). x.files) writer_is

    pub full_is : (b : Bool) (c : Bool) → c ≡ is_batch_full (plain_of e log w1) → c ≡ b → is_batch_full landed ≡ b
    full_is b c is at = sym (ap (λ (x : PlainWriter). is_batch_full (plain_of e log x)) writer_is) ∙ sym is ∙ at

    pub unlogged_now : landed.unlogged ≡ [] → w1.unlogged ≡ []
    unlogged_now none = ap (λ (x : PlainWriter). x.unlogged) writer_is ∙ none

    module _ (e1 : EndView) (stood : (books : Books) → noted (with_lane (plain_with e books) l.0 record (lane_in e l.0) { left = 0 }) (events.Land l ∷ []) ≡ plain_with e1 books) where
      pub landed_is : plain_of e1 log w1 ≡ landed
      landed_is = sym (stood (books_of log w1)) ∙ ap (λ (x : PlainWriter). noted (with_lane (plain_with e (books_of log x)) l.0 record (lane_in e l.0) { left = 0 }) (events.Land l ∷ [])) writer_is

      pub calls_are : (ok : Bool) (a c : Option Drive) → Calls (flush_calls (plain_of e1 log w1)) ok a c → Calls (flush_calls landed) ok a c
      calls_are ok a c called = subst (λ (r : PlainReceiver). Calls (flush_calls r) ok a c) landed_is called

      module _ (e2 : EndView) (act : RecvAct) (said : (books : Books) → reads (goes (plain_with e1 books) l.0 states.ReadNextCmd) ≡ (act, plain_with e2 books)) where
        pub reads_is : reads (goes landed l.0 states.ReadNextCmd) ≡ (act, plain_of e2 log w1)
        reads_is = ap (λ (t : PlainReceiver). reads (goes t l.0 states.ReadNextCmd)) (sym landed_is) ∙ said (books_of log w1)

        pub reads_drops : Drops before (plain_of e2 log w1) l.0
        reads_drops = subst (λ (y : Step). Drops before y.1 l.0) reads_is (drops_on before landed (goes landed l.0 states.ReadNextCmd) l.0 (landed_drops before l block) (stays_going landed l.0 states.ReadNextCmd landed_within))

        pub reads_loses : (HasLostDisk e.answer → ⊥) → HasLostDisk e2.answer → ⊥
        reads_loses = subst (λ (y : Step). LosesNone before y.1) reads_is (λ here. loses_lane landed l.0 _ (landed_loses before l block here))

        -- what landed is logged
        module _ (log2 : OpenLog) (w2 : PlainWriter) (logged : (f : EndView) → plain_of f log2 w2 ≡ all_logged (plain_of f log w1)) where
          logged_is : plain_of e1 log2 w2 ≡ all_logged landed
          logged_is = logged e1 ∙ ap all_logged landed_is

          pub logs_is : reads (goes (all_logged landed) l.0 states.ReadNextCmd) ≡ (act, plain_of e2 log2 w2)
          logs_is = ap (λ (t : PlainReceiver). reads (goes t l.0 states.ReadNextCmd)) (sym logged_is) ∙ said (books_of log2 w2)

          pub logs_drops : Drops before (plain_of e2 log2 w2) l.0
          logs_drops =
              subst (λ (y : Step). Drops before y.1 l.0) logs_is
              (drops_on before (all_logged landed) (goes (all_logged landed) l.0 states.ReadNextCmd) l.0 (drops_on before landed (all_logged landed) l.0 (landed_drops before l block) (logged_stays landed))
              (stays_going (all_logged landed) l.0 states.ReadNextCmd (subst (λ (n : ℕ). l.0 < n) (sym (logged_stays landed).lanes) landed_within)))

          pub logs_loses : (HasLostDisk e.answer → ⊥) → HasLostDisk e2.answer → ⊥
          logs_loses = subst (λ (y : Step). LosesNone before y.1) logs_is (λ here. loses_lane (all_logged landed) l.0 _ (logged_answer landed (landed_loses before l block here)))

      -- a call of the flush failed
      module _ (e2 : EndView) (act : RecvAct) (said : (books : Books) → tells_failure (failed (plain_with e1 books) answers.Disk) l ≡ (act, plain_with e2 books)) (log2 : OpenLog) (w2 : PlainWriter) (meaning : log2.meaning ≡ log.meaning) (kept : w2 ≡ w1) where
        pub fails_is : tells_failure (failed landed answers.Disk) l ≡ (act, plain_of e2 log2 w2)
        fails_is = ap (λ (t : PlainReceiver). tells_failure (failed t answers.Disk) l) (sym (kept_plain e1 log log2 w1 w2 meaning kept ∙ landed_is)) ∙ said (books_of log2 w2)

        pub fails_drops : Drops before (plain_of e2 log2 w2) l.0
        fails_drops =
            subst (λ (y : Step). Drops before y.1 l.0) fails_is
            (drops_on before landed (goes (failed landed answers.Disk) l.0 states.SendAbort) l.0 (landed_drops before l block)
            (stays_more landed (failed landed answers.Disk) (goes (failed landed answers.Disk) l.0 states.SendAbort) (stays_failed landed answers.Disk) (stays_going (failed landed answers.Disk) l.0 states.SendAbort landed_within)))

        pub fails_lost : HasLostDisk e2.answer
        fails_lost = lost_answer e2.answer (ap (λ (y : Step). y.1.answer) (sym fails_is))
