-- Bytes of a lane's block are taken, call by call.
use Rattle.std.proofs.Common.{◌≡◌, inl, inr, ℕ, zero, suc, ◌+◌, ◌-◌, ◌<◌, ◌≤◌, Bool, true, false, List, [], length, Option, Some, None, Result, Ok, Err, refl, sym, ap, ◌∙◌, subst, arith}
use Rattle.std.specs.Prelude.{◌≢◌, IfSome, IsErrOf, IsSome, slice_set}
use Rattle.std.proofs.lemmas.Bool.{cases_eq}
use Rattle.std.proofs.lemmas.List.{length-set}
use Rattle.wdt_units.specs.declared.blocks.Block.{Block}
use Rattle.wdt_units.specs.declared.numbers.Lane.{Lane}
use Rattle.wdt_units.specs.Tree.{File}
use Rattle.wdt_depot.specs.Disk.{Disk, DiskFile, wrote}
use Rattle.wdt_depot.specs.Moments.{IfTold, OneStep, Told}
use Rattle.wdt_depot.specs.Programs.{Calls, Drive}
use Rattle.wdt_depot.specs.State.{State}
use Rattle.wdt_logfmt.specs.Batches.{path_at, path_by}
use Rattle.wdt_logfmt.specs.Beginning.{KnownFile}
use Rattle.wdt_good.specs.Calls.{run_piece}
use Rattle.wdt_good.specs.Logged.{AllFit, GoodSince}
use Rattle.wdt_good.proofs.ForCallers.{join_good, last_fits}
use Rattle.wdt_sender_fsm.specs.declared.answers.EndAnswer.TheVariants as answers
use Rattle.wdt_log.specs.OpenLog.{OpenLog, RestsIn}
use Rattle.wdt_writer.specs.declared.fail.WriteFail.{WriteFail}
use Rattle.wdt_writer.specs.declared.fail.WriteFail.TheVariants.{Disk as DiskFail, NoMemory}
use Rattle.wdt_writer.specs.declared.parts.Part.{Part}
use Rattle.wdt_writer.specs.Calls.{CanWrite, UsesDisk, path_begun, place_begun}
use Rattle.wdt_writer.specs.PlainWriter.{PlainWriter, begun_at, part_of, place_of, takes, with_less}
use Rattle.wdt_receiver_fsm.specs.declared.acts.RecvAct.{RecvAct}
use Rattle.wdt_receiver_fsm.specs.declared.states.RecvLane.{RecvLane}
use Rattle.wdt_receiver_fsm.specs.declared.states.RecvState.TheVariants as states
use Rattle.wdt_receiver_fsm.specs.PlainReceiver.{PlainReceiver, failed, goes, lane_at, past_at, with_lane}
use Rattle.wdt_receiver_fsm.specs.ReceiverHistory.{past_of}
use Rattle.wdt_receiver_fsm.specs.Plan.{EndsIn, PlanRan}
use Rattle.wdt_receiver_fsm.specs.Turn.{Step, next_place, piece_of, piece_plan, takes_piece, tells_failure}
use Rattle.wdt_receiver_fsm.proofs.ForCallers.{ends_as, piece_broken, piece_end_broken, piece_end_taken, piece_taken, plan_as}
use Rattle.wdt_dock.specs.Desk.{AreBooks, IsDesk, IsWritten, books_of, part_by, part_in, plain_of}
use Rattle.wdt_dock.specs.DockGood.{DockGood, GoodReads, HasPart, HasPartOf, IsPieceOf, StandsWithin}
use Rattle.wdt_dock.specs.DockView.{HasLostDisk}
use Rattle.wdt_receiver_fsm.specs.End.{Books, EndView, lane_in, plain_with}
use Rattle.wdt_dock.specs.Landing.{IsWholeOf}
use Rattle.wdt_dock.specs.Sparing.{Between, IsBeside, Spares}
use Rattle.wdt_dock.proofs.Choices.{desk_after, lost_answer}
use Rattle.wdt_dock.proofs.Keeping.{LosesNone, Stays, lane_here, lane_other, loses_lane, stays_failed, stays_going, stays_more}
use Rattle.wdt_dock.proofs.Landings.{part_beside, part_here}
use Rattle.wdt_dock.proofs.Sparing.{spares_done, wrote_spares}
use Rattle.wdt_dock.proofs.Taken.{begun_is, books_with, can_write, on_way, part_wrote, reads_wrote, some_of}
use Rattle.wdt_dock.proofs.Written.{known_file}

fit_told : (T : List File) (r : PlainReceiver) (a : Option Told) → IfTold (λ t. DockGood T r t.now) a → IfTold (λ t. AllFit T t.now) a
fit_told T r None good = tt
fit_told T r (Some t) good = good.fit

-- each image stays good for the tree, call by call
pub joined : (T : List File) (a b c : Option Told) → GoodSince T [] a b → GoodSince T [] b c → GoodSince T [] a c
joined T a b c = join_good T [] [] a b c

-- ---- answers

pub wrote_well : {R : Type 0} (x : R) → IsErrOf {E = WriteFail} (Ok x) DiskFail → ⊥
wrote_well x is = cc

pub wrote_kept : {R : Type 0} (x : R) → IsErrOf {E = WriteFail} (Ok x) NoMemory → ⊥
wrote_kept x is = cc

pub wrote_badly : {R : Type 0} (x : WriteFail) → x ≡ DiskFail → IsErrOf {T = R} (Err x) DiskFail
wrote_badly x is = ap Err is

pub badly_only : {R : Type 0} (x : WriteFail) → x ≡ DiskFail → IsErrOf {T = R} (Err x) NoMemory → ⊥
badly_only x is memory = cc

-- ---- the plan

module _ (r : PlainReceiver) (l : Lane) (bytes : List ℕ) (b : Block) (begun : (past_at r l.0).begun ≡ Some b) (x : Step) where
  plan_is : piece_plan r l bytes (past_at r l.0).begun ≡ piece_of r l bytes b
  plan_is = ap (λ (o : Option Block). piece_plan r l bytes o) begun

  abbrev piece_calls : Drive → Bool × Drive
  piece_calls = run_piece (path_at r.known b.file) (next_place b (lane_at r l.0).left) bytes

  pub more_turns : (Fails : Type 0) (more : ℕ) → (more ≡ 0 → ⊥) → more + length bytes ≡ (lane_at r l.0).left → takes_piece r l more ≡ x → EndsIn Fails (piece_plan r l bytes (past_at r l.0).begun) x
  more_turns Fails zero some is said = absurd (some refl)
  more_turns Fails (suc more) some is said =
      subst (λ (y : Step). EndsIn Fails (piece_plan r l bytes (past_at r l.0).begun) y) said (ends_as Fails (piece_plan r l bytes (past_at r l.0).begun) (piece_of r l bytes b) (takes_piece r l (suc more)) plan_is (piece_end_taken r l bytes b Fails more (omega (arith, is))))

  pub more_ran : (more : ℕ) (a c : Option Drive) → (more ≡ 0 → ⊥) → more + length bytes ≡ (lane_at r l.0).left → Calls piece_calls true a c → takes_piece r l more ≡ x → PlanRan (piece_plan r l bytes (past_at r l.0).begun) x a c
  more_ran zero a c some is called said = absurd (some refl)
  more_ran (suc more) a c some is called said =
      subst (λ (y : Step). PlanRan (piece_plan r l bytes (past_at r l.0).begun) y a c) said (plan_as (piece_plan r l bytes (past_at r l.0).begun) (piece_of r l bytes b) (takes_piece r l (suc more)) a c plan_is (piece_taken r l bytes b more a c (omega (arith, is)) called))

  pub broken_turns : (Fails : Type 0) → Fails → tells_failure (failed r answers.Disk) l ≡ x → EndsIn Fails (piece_plan r l bytes (past_at r l.0).begun) x
  broken_turns Fails why said = subst (λ (y : Step). EndsIn Fails (piece_plan r l bytes (past_at r l.0).begun) y) said (ends_as Fails (piece_plan r l bytes (past_at r l.0).begun) (piece_of r l bytes b) _ plan_is (piece_end_broken r l bytes b Fails why))

  pub broken_ran : (a c : Option Drive) → Calls piece_calls false a c → tells_failure (failed r answers.Disk) l ≡ x → PlanRan (piece_plan r l bytes (past_at r l.0).begun) x a c
  broken_ran a c called said = subst (λ (y : Step). PlanRan (piece_plan r l bytes (past_at r l.0).begun) y a c) said (plan_as (piece_plan r l bytes (past_at r l.0).begun) (piece_of r l bytes b) _ a c plan_is (piece_broken r l bytes b a c called))

-- ---- the bytes

module _ (e : EndView) (log : OpenLog) (w : PlainWriter) (l : Lane) (bytes : List ℕ) (within : l.0 < length e.lanes) (desk : IsDesk e log w) (fits : length bytes ≤ (lane_in e l.0).left) (some : (past_of e.history l.0).begun ≢ None) where
  abbrev pub block : Block
  block = (some_of (past_of e.history l.0).begun some).0

  pub begun : (past_of e.history l.0).begun ≡ Some block
  begun = (some_of (past_of e.history l.0).begun some).1

  abbrev left : ℕ
  left = (lane_in e l.0).left

  abbrev pub before : PlainReceiver
  before = plain_of e log w

  abbrev part : Part
  part = record { block = block; left = left }

  abbrev part_now : Part
  part_now = record { block = block; left = left - length bytes }

  part_is : begun_at w l.0 ≡ part
  part_is = begun_is e log w l within desk block begun

  long : left ≤ block.length
  long = (on_way e log w l within desk block begun).left

  pub short_now : IfSome (past_of e.history l.0).begun (λ b. length bytes ≤ b.length)
  short_now = subst (λ (o : Option Block). IfSome o (λ b. length bytes ≤ b.length)) (sym begun) (omega (arith, long, fits))

  pub left_of : (n : ℕ) → n + length bytes ≡ (begun_at w l.0).left → n + length bytes ≡ left
  left_of n is = is ∙ ap (λ (q : Part). q.left) part_is

  -- ---- the disk

  abbrev path : List ℕ
  path = path_at w.known block.file

  abbrev place : ℕ
  place = place_of part

  pub uses : {R : Type 0} (result : Result R WriteFail) (s0 s1 : State) → UsesDisk (CanWrite (path_begun w l.0) (place_begun w l.0) (length bytes)) (wrote (path_begun w l.0) (place_begun w l.0) bytes) (run_piece (path_begun w l.0) (place_begun w l.0) bytes) result s0 s1
      → UsesDisk (CanWrite path place (length bytes)) (wrote path place bytes) (run_piece path place bytes) result s0 s1
  uses result s0 s1 = subst (λ (q : Part). UsesDisk (CanWrite (path_at w.known q.block.file) (place_of q) (length bytes)) (wrote (path_at w.known q.block.file) (place_of q) bytes) (run_piece (path_at w.known q.block.file) (place_of q) bytes) result s0 s1) part_is

  module _ {R : Type 0} (result : Result R WriteFail) (s0 s1 : State) (disk : UsesDisk (CanWrite (path_begun w l.0) (place_begun w l.0) (length bytes)) (wrote (path_begun w l.0) (place_begun w l.0) bytes) (run_piece (path_begun w l.0) (place_begun w l.0) bytes) result s0 s1) where
    pub since : (T : List File) → (HasLostDisk e.answer → ⊥) → RestsIn log s0 → IfTold (λ t. DockGood T before t.now) s0.told → GoodSince T [] s0.told s1.told
    since T sound rests good = (uses result s0 s1 disk).images log.version T log.meaning.files log.meaning.end rests (fit_told T before s0.told good) (can_write e log w l within desk block begun bytes fits T s0.told sound rests good)

    pub rests_now : RestsIn log s0 → RestsIn log s1
    rests_now rests = (uses result s0 s1 disk).log log.version log.meaning.files log.meaning.end rests

    -- all else that is read stays
    pub spares_now : Between (Spares (IsBeside w.known) w.files) s0.told s1.told
    spares_now =
        spares_done (IsBeside w.known) w.files (wrote path place bytes) result s0.told s1.told
        (wrote_spares w.known w.files desk.books.sound.are_files desk.books.sound.are_named part (on_way e log w l within desk block begun) bytes fits) (uses result s0 s1 disk).step

  -- the block's file stands
  stands_here : (T : List File) (d : Disk) → GoodReads T before d → IsSome (d (path_begun w l.0))
  stands_here T d good =
      let way = on_way e log w l within desk block begun in
      let stood = known_file (StandsWithin d) w.known block.file way.file good.stands way.known_as in
      subst (λ (q : Part). IsSome (d (path_at w.known q.block.file))) (sym part_is) (subst (λ (o : Option KnownFile). IsSome (d (path_by o))) (sym way.known_as) (subst (λ (o : Option DiskFile). IsSome o) (sym stood.there) refl))

  pub slips_only : (T : List File) (m n : ℕ) (a : Option Told) → (HasLostDisk e.answer → ⊥) → IfTold (λ t. IsSome (t.now (path_begun w l.0)) → n ≡ m) a → IfTold (λ t. DockGood T before t.now → n ≡ m) a
  slips_only T m n None sound same = tt
  slips_only T m n (Some t) sound same = λ good. same (stands_here T t.now (good.reads sound))

  -- ---- written

  module _ (w1 : PlainWriter) (takes_is : w1 ≡ takes w l.0 (length bytes)) where
    taken_is : w1 ≡ record w { parts = slice_set w.parts l.0 (Some part_now); before = None }
    taken_is = takes_is ∙ ap (λ (q : Part). record w { parts = slice_set w.parts l.0 (Some (with_less q (length bytes))); before = None }) part_is

    pub books_now : AreBooks log w1
    books_now = books_with e log w l within desk block begun (left - length bytes) (omega (arith, long)) w1 taken_is

    pub same_plain : (f : EndView) → plain_of f log w1 ≡ plain_of f log w
    same_plain f = ap (λ (x : PlainWriter). plain_of f log x) takes_is

    parts_is : w1.parts ≡ slice_set w.parts l.0 (Some part_now)
    parts_is = ap (λ (x : PlainWriter). x.parts) taken_is

    parts_long : length w1.parts ≡ length e.lanes
    parts_long = ap (λ (ps : List (Option Part)). length ps) parts_is ∙ length-set w.parts l.0 (Some part_now) ∙ desk.lanes

    at_now : part_of w1.parts l.0 ≡ Some part_now
    at_now = ap (λ (ps : List (Option Part)). part_of ps l.0) parts_is ∙ part_here w.parts l.0 (Some part_now) (subst (λ (n : ℕ). l.0 < n) (sym desk.lanes) within)

    at_others : (k : ℕ) → k < length e.lanes → k ≢ l.0 → part_of w1.parts k ≡ part_in e k
    at_others k below ne = ap (λ (ps : List (Option Part)). part_of ps k) parts_is ∙ part_beside w.parts l.0 k (Some part_now) ne ∙ desk.parts k below

    -- all of the block is
    pub written : 0 + length bytes ≡ (begun_at w l.0).left → IsWritten e log w1 l.0 (length bytes)
    written last = record {
      books = books_now;
      lanes = parts_long;
      others = at_others;
      here = at_now ∙ ap (λ (n : ℕ). Some (record { block = block; left = n })) (omega (arith, left_of 0 last)) ∙ ap (λ (o : Option Block). part_by o 0) (sym begun);
      left = omega (arith, left_of 0 last);
    }

    -- it is good on the disk
    pub reads_now : (T : List File) (d : Disk) → GoodReads T before d → GoodReads T (plain_of e log w1) (wrote path place bytes d)
    reads_now T d good = subst (λ (r : PlainReceiver). GoodReads T r (wrote path place bytes d)) (sym (same_plain e)) (reads_wrote e log w l within desk block begun bytes fits T d good)

    good_at : (T : List File) (t u : Told) → u.now ≡ wrote path place bytes t.now → GoodSince T [] (Some t) (Some u) → DockGood T before t.now → DockGood T (plain_of e log w1) u.now
    good_at T t u is moments good = record {
      fit = last_fits T [] (Some t) (Some u) good.fit moments;
      reads = λ here. subst (λ (d : Disk). GoodReads T (plain_of e log w1) d) (sym is) (reads_now T t.now (good.reads here));
    }

    pub good_now : (T : List File) (a b : Option Told) → OneStep (λ d f. f ≡ wrote path place bytes d) a b → GoodSince T [] a b → IfTold (λ t. DockGood T before t.now) a → IfTold (λ u. DockGood T (plain_of e log w1) u.now) b
    good_now T None None step moments good = tt
    good_now T None (Some u) step moments good = absurd step
    good_now T (Some t) None step moments good = absurd step
    good_now T (Some t) (Some u) step moments good = good_at T t u step.0 moments good

    pub slips_landed : (T : List File) (m n o : ℕ) (a b : Option Told) → (HasLostDisk e.answer → ⊥) → OneStep (λ d f. f ≡ wrote path place bytes d) a b → (IfTold (λ t. DockGood T before t.now) a → GoodSince T [] a b)
        → IfTold (λ t. IsSome (t.now (path_begun w l.0)) → n ≡ m) a → IfTold (λ u. DockGood T (plain_of e log w1) u.now → o ≡ n) b → IfTold (λ t. DockGood T before t.now → o ≡ m) a
    slips_landed T m n o None b sound step moments one two = tt
    slips_landed T m n o (Some t) None sound step moments one two = absurd step
    slips_landed T m n o (Some t) (Some u) sound step moments one two = λ good. two (good_at T t u step.0 (moments good) good) ∙ one (stands_here T t.now (good.reads sound))

    pub whole_now : (T : List File) (a b : Option Told) → (HasLostDisk e.answer → ⊥) → 0 + length bytes ≡ (begun_at w l.0).left → IsPieceOf T before l bytes → OneStep (λ d f. f ≡ wrote path place bytes d) a b → GoodSince T [] a b → IfTold (λ t. DockGood T before t.now) a → IfTold (λ u. IsWholeOf T (plain_of e log w1) l.0 u.now) b
    whole_now T None None sound last piece step moments good = tt
    whole_now T None (Some u) sound last piece step moments good = absurd step
    whole_now T (Some t) None sound last piece step moments good = absurd step
    whole_now T (Some t) (Some u) sound last piece step moments good = record {
      good = good_at T t u step.0 moments good;
      whole =
          subst (λ (o : Option Block). IfSome o (HasPart T w1.known u.now 0)) (sym begun)
          (subst (λ (d : Disk). HasPart T w1.known d 0 block) (sym step.0)
          (subst (λ (x : PlainWriter). HasPart T x.known (wrote path place bytes t.now) 0 block) (sym takes_is)
          (subst (λ (n : ℕ). HasPart T w.known (wrote path place bytes t.now) n block) (omega (arith, left_of 0 last)) (part_wrote e log w l within desk block begun bytes fits T t.now piece (good.reads sound)))));
    }

    -- more of it comes
    module _ (more : ℕ) (more_is : more + length bytes ≡ (begun_at w l.0).left) (e2 : EndView) (act : RecvAct) (said : (books : Books) → takes_piece (plain_with e books) l more ≡ (act, plain_with e2 books)) where
      pub takes_said : takes_piece before l more ≡ (act, plain_of e2 log w1)
      takes_said = said (books_of log w) ∙ ap (λ (r : PlainReceiver). (act, r)) (sym (same_plain e2))

      abbrev stands : RecvLane
      stands = record (lane_at before l.0) { state = states.TakeBlock; left = more }

      -- as the writer's parts have it
      record Agrees (t : PlainReceiver) : Type 0 where
        lanes : length t.lanes ≡ length e.lanes
        parts : (k : ℕ) → k < length e.lanes → part_of w1.parts k ≡ part_by (past_at t k).begun (lane_at t k).left

      agrees : Agrees (plain_of e2 log w1)
      agrees = subst (λ (y : Step). Agrees y.1) takes_said record {
        lanes = length-set e.lanes l.0 stands;
        parts = λ k below. elim (cases_eq k l.0) [
          | inl is ↦ subst (λ (j : ℕ). part_of w1.parts j ≡ part_by (past_at before j).begun (lane_at (with_lane before l.0 stands) j).left) (sym is)
              (at_now ∙ ap (λ (n : ℕ). Some (record { block = block; left = n })) (omega (arith, left_of more more_is)) ∙ ap (λ (o : Option Block). part_by o more) (sym begun)
              ∙ ap (λ (x : RecvLane). part_by (past_at before l.0).begun x.left) (sym (lane_here before l.0 stands within)))
          | inr ne ↦ at_others k below ne ∙ ap (λ (x : RecvLane). part_by (past_at before k).begun x.left) (sym (lane_other before l.0 k stands ne))
        ];
      }

      pub desk_more : IsDesk e2 log w1
      desk_more = record { books = books_now; lanes = parts_long ∙ sym agrees.lanes; parts = λ k below. agrees.parts k (subst (λ (n : ℕ). k < n) agrees.lanes below) }

      pub loses_more : (HasLostDisk e.answer → ⊥) → HasLostDisk e2.answer → ⊥
      loses_more = subst (λ (y : Step). LosesNone before y.1) takes_said (loses_lane before l.0 stands)

      reads_more : (T : List File) (d : Disk) → IsPieceOf T before l bytes → GoodReads T before d → GoodReads T (plain_of e2 log w1) (wrote path place bytes d)
      reads_more T d piece good =
          let r = reads_wrote e log w l within desk block begun bytes fits T d good in
          subst (λ (y : Step). GoodReads T y.1 (wrote path place bytes d)) takes_said record {
            known = r.known;
            stands = r.stands;
            landed = r.landed;
            parts = λ k below. elim (cases_eq k l.0) [
              | inl is ↦ subst (λ (j : ℕ). HasPartOf T (with_lane before l.0 stands) (wrote path place bytes d) j) (sym is)
                  (subst (λ (x : RecvLane). IfSome (past_at before l.0).begun (HasPart T w.known (wrote path place bytes d) x.left)) (sym (lane_here before l.0 stands within))
                  (subst (λ (o : Option Block). IfSome o (HasPart T w.known (wrote path place bytes d) more)) (sym begun)
                  (subst (λ (n : ℕ). HasPart T w.known (wrote path place bytes d) n block) (omega (arith, left_of more more_is)) (part_wrote e log w l within desk block begun bytes fits T d piece good))))
              | inr ne ↦ subst (λ (x : RecvLane). IfSome (past_at before k).begun (HasPart T w.known (wrote path place bytes d) x.left)) (sym (lane_other before l.0 k stands ne)) (r.parts k (subst (λ (n : ℕ). k < n) (length-set e.lanes l.0 stands) below))
            ];
          }

      pub good_more : (T : List File) (a b : Option Told) → (HasLostDisk e.answer → ⊥) → IsPieceOf T before l bytes → OneStep (λ d f. f ≡ wrote path place bytes d) a b → GoodSince T [] a b → IfTold (λ t. DockGood T before t.now) a → IfTold (λ u. DockGood T (plain_of e2 log w1) u.now) b
      good_more T None None sound piece step moments good = tt
      good_more T None (Some u) sound piece step moments good = absurd step
      good_more T (Some t) None sound piece step moments good = absurd step
      good_more T (Some t) (Some u) sound piece step moments good = record {
        fit = last_fits T [] (Some t) (Some u) good.fit moments;
        reads = λ here. subst (λ (d : Disk). GoodReads T (plain_of e2 log w1) d) (sym step.0) (reads_more T t.now piece (good.reads sound));
      }

  -- ---- it couldn't be

  module _ (w1 : PlainWriter) (unchanged : w1 ≡ w) (e2 : EndView) (act : RecvAct) (said : (books : Books) → tells_failure (failed (plain_with e books) answers.Disk) l ≡ (act, plain_with e2 books)) where
    pub fails_said : tells_failure (failed before answers.Disk) l ≡ (act, plain_of e2 log w1)
    fails_said = said (books_of log w) ∙ ap (λ (x : PlainWriter). (act, plain_of e2 log x)) (sym unchanged)

    pub fails_lost : HasLostDisk e2.answer
    fails_lost = lost_answer e2.answer (ap (λ (y : Step). y.1.answer) (sym fails_said))

    pub desk_fails : IsDesk e2 log w1
    desk_fails =
        desk_after e e2 log log w w1 desk (subst (λ (x : PlainWriter). AreBooks log x) (sym unchanged) desk.books) (ap (λ (x : PlainWriter). x.parts) unchanged)
        (subst (λ (y : Step). Stays before y.1) fails_said (stays_more before (failed before answers.Disk) (goes (failed before answers.Disk) l.0 states.SendAbort) (stays_failed before answers.Disk) (stays_going (failed before answers.Disk) l.0 states.SendAbort within)))
