-- What stands behind a landing, with or without the flush behind it.
use Rattle.std.proofs.Common.{◌≡◌, inl, inr, ℕ, zero, suc, ◌<◌, Bool, true, false, List, [], ◌∷◌, length, Option, Some, None, refl, sym, ap, ◌∙◌, subst, arith}
use Rattle.std.specs.Prelude.{IfSome, if◌then◌else◌, slice_set}
use Rattle.std.proofs.lemmas.Bool.{cases_eq, eq-eqb, ne_eqb}
use Rattle.std.proofs.lemmas.List.{length-set}
use Rattle.wdt_units.specs.declared.blocks.Block.{Block}
use Rattle.wdt_units.specs.declared.numbers.Lane.{Lane}
use Rattle.wdt_units.specs.Tree.{File}
use Rattle.wdt_depot.specs.Disk.{Disk, seen_of}
use Rattle.wdt_depot.specs.Moments.{IfTold, Told}
use Rattle.wdt_depot.specs.Programs.{Calls, Drive}
use Rattle.wdt_depot.specs.State.{State}
use Rattle.wdt_logfmt.specs.Beginning.{KnownFile}
use Rattle.wdt_logfmt.specs.View.{NamedFile}
use Rattle.wdt_good.specs.Good.{Each, GoodFiles}
use Rattle.wdt_good.specs.Logged.{GoodSince}
use Rattle.wdt_good.proofs.ForCallers.{last_fits}
use Rattle.wdt_sender_fsm.specs.declared.answers.EndAnswer.TheVariants as answers
use Rattle.wdt_log.specs.Flushing.{ReadsStand}
use Rattle.wdt_log.specs.OpenLog.{OpenLog, Rests, RestsIn}
use Rattle.wdt_writer.specs.declared.parts.Part.{Part}
use Rattle.wdt_writer.specs.PlainWriter.{PlainWriter, lands as landed_in, part_of}
use Rattle.wdt_receiver_fsm.specs.declared.events.RecvEvent.TheVariants as events
use Rattle.wdt_receiver_fsm.specs.declared.states.RecvLane.{RecvLane}
use Rattle.wdt_receiver_fsm.specs.declared.states.RecvState.TheVariants as states
use Rattle.wdt_receiver_fsm.specs.Logging.{all_logged, flush_calls, log_after}
use Rattle.wdt_receiver_fsm.specs.Outcomes.{landed_by}
use Rattle.wdt_receiver_fsm.specs.Plan.{EndsIn, PlanRan}
use Rattle.wdt_receiver_fsm.specs.PlainReceiver.{PlainReceiver, failed, goes, is_batch_full, lane_at, past_at, with_lane}
use Rattle.wdt_receiver_fsm.specs.ReceiverHistory.{RecvPast, past_of, past_of-append}
use Rattle.wdt_receiver_fsm.specs.Rows.{Piece}
use Rattle.wdt_receiver_fsm.specs.Turn.{Step, logs, reads, tells_failure}
use Rattle.wdt_receiver_fsm.proofs.ForCallers.{ends_as, logs_broken, logs_end_broken, logs_end_none, logs_end_well, logs_none, logs_well, plan_as}
use Rattle.wdt_dock.specs.Booked.{IsBooked}
use Rattle.wdt_dock.specs.Desk.{AreBooks, IsDesk, IsWritten, part_by, plain_of}
use Rattle.wdt_dock.specs.DockGood.{DockGood, GoodReads, HasPart, HasPartOf, IfKnown, IsTrees, StandsWithin}
use Rattle.wdt_dock.specs.DockView.{HasLostDisk}
use Rattle.wdt_receiver_fsm.specs.End.{EndView, lane_in}
use Rattle.wdt_dock.specs.Landing.{IsWholeOf, land_plan}
use Rattle.wdt_dock.proofs.Goodness.{files_behind_are, reads_after}
use Rattle.wdt_dock.proofs.Keeping.{LosesNone, lane_other, loses_lane}
use Rattle.wdt_dock.proofs.LandedBlock.{files_landed}
use Rattle.wdt_dock.proofs.Parting.{Drops, part_gone, part_other, parts_long}

-- ---- the receiver

pub landed_drops : (r : PlainReceiver) (l : Lane) (b : Block) → Drops r (landed_by r l b) l.0
landed_drops r l b =
    let t = with_lane r l.0 record (lane_at r l.0) { left = 0 } in
    record {
      lanes = length-set r.lanes l.0 _;
      none = ap (λ (p : RecvPast). p.begun) (past_of-append r.history (events.Land l ∷ []) l.0) ∙ ap (λ (c : Bool). if c then None else (past_at r l.0).begun) (eq-eqb l.0 l.0 refl);
      begun = λ k ne. ap (λ (p : RecvPast). p.begun) (past_of-append r.history (events.Land l ∷ []) k) ∙ ap (λ (c : Bool). if c then None else (past_at r k).begun) (ne_eqb l.0 k (λ same. ne (sym same)));
      left = λ k ne. ap (λ (x : RecvLane). x.left) (lane_other r l.0 k record (lane_at r l.0) { left = 0 } ne);
    }

pub landed_loses : (r : PlainReceiver) (l : Lane) (b : Block) → LosesNone r (landed_by r l b)
landed_loses r l b = loses_lane r l.0 record (lane_at r l.0) { left = 0 }

-- ---- the ties

pub desk_landed : (e f : EndView) (log log2 : OpenLog) (w w2 : PlainWriter) (l count : ℕ) → IsWritten e log w l count → AreBooks log2 w2 → w2.parts ≡ slice_set w.parts l None → Drops (plain_of e log w) (plain_of f log2 w2) l → IsDesk f log2 w2
desk_landed e f log log2 w w2 l count desk books is drops = record {
  books = books;
  lanes = ap (λ (ps : List (Option Part)). length ps) is ∙ parts_long w.parts l ∙ desk.lanes ∙ sym drops.lanes;
  parts = λ k within. ap (λ (ps : List (Option Part)). part_of ps k) is ∙ (elim (cases_eq k l) [
    | inl same ↦ subst (λ (j : ℕ). part_of (slice_set w.parts l None) j ≡ part_by (past_of f.history j).begun (lane_in f j).left) (sym same) (part_gone w.parts l ∙ ap (λ (o : Option Block). part_by o (lane_in f l).left) (sym drops.none))
    | inr ne ↦ part_other w.parts l k ne ∙ desk.others k (subst (λ (n : ℕ). k < n) drops.lanes within) ne
        ∙ ap (λ (o : Option Block). part_by o (lane_in e k).left) (sym (drops.begun k ne)) ∙ ap (λ (n : ℕ). part_by (past_of f.history k).begun n) (sym (drops.left k ne))
  ]);
}

pub part_here : (parts : List (Option Part)) (l : ℕ) (o : Option Part) → l < length parts → part_of (slice_set parts l o) l ≡ o
part_here [] l o within = absurd (omega (arith, within))
part_here (p ∷ parts) zero o within = refl
part_here (p ∷ parts) (suc l) o within = part_here parts l o (omega (arith, within))

pub part_beside : (parts : List (Option Part)) (l k : ℕ) (o : Option Part) → (k ≡ l → ⊥) → part_of (slice_set parts l o) k ≡ part_of parts k
part_beside [] l k o ne = refl
part_beside (p ∷ parts) zero zero o ne = absurd (ne refl)
part_beside (p ∷ parts) zero (suc k) o ne = refl
part_beside (p ∷ parts) (suc l) zero o ne = refl
part_beside (p ∷ parts) (suc l) (suc k) o ne = part_beside parts l k o (λ same. ne (ap suc same))

-- ---- the tree

pub reads_landed : (T : List File) (r t : PlainReceiver) (d : Disk) (l : ℕ) → Drops r t l → t.known ≡ r.known → GoodFiles T (seen_of d) (log_after t).files → GoodReads T r d → GoodReads T t d
reads_landed T r t d l drops known files good = record {
  known = subst (λ (ks : List (Option KnownFile)). Each (IfKnown (IsTrees T)) ks) (sym known) good.known;
  stands = subst (λ (ks : List (Option KnownFile)). Each (IfKnown (StandsWithin d)) ks) (sym known) good.stands;
  landed = files;
  parts = part;
}
  where
    part : (k : ℕ) → k < length t.lanes → HasPartOf T t d k
    part k within = elim (cases_eq k l) [
      | inl same ↦ subst (λ (o : Option Block). IfSome o (HasPart T t.known d (lane_at t k).left)) (sym (ap (λ (j : ℕ). (past_at t j).begun) same ∙ drops.none)) tt
      | inr ne ↦ subst (λ (o : Option Block). IfSome o (HasPart T t.known d (lane_at t k).left)) (sym (drops.begun k ne))
          (subst (λ (n : ℕ). IfSome (past_at r k).begun (HasPart T t.known d n)) (sym (drops.left k ne))
          (subst (λ (ks : List (Option KnownFile)). IfSome (past_at r k).begun (HasPart T ks d (lane_at r k).left)) (sym known) (good.parts k (subst (λ (n : ℕ). k < n) drops.lanes within))))
    ]

module _ (e : EndView) (log : OpenLog) (w : PlainWriter) (l : Lane) (books : AreBooks log w) (p : Part) (there : part_of w.parts l.0 ≡ Some p) (begun : (past_of e.history l.0).begun ≡ Some p.block) where
  abbrev before : PlainReceiver
  before = plain_of e log w

  abbrev w1 : PlainWriter
  w1 = landed_in w l.0 p.block

  -- what landed is the tree's
  files_now : (T : List File) (d : Disk) → (HasLostDisk e.answer → ⊥) → IsWholeOf T before l.0 d → GoodFiles T (seen_of d) w1.files
  files_now T d sound whole =
      let reads = whole.good.reads sound in
      files_landed log w books l.0 p there T d reads.known reads.stands (subst (λ (o : Option Block). IfSome o (HasPart T w.known d 0)) begun whole.whole) (subst (λ (fs : List NamedFile). GoodFiles T (seen_of d) fs) (files_behind_are e log w books) reads.landed)

  pub booked_now : (T : List File) (s : State) → (HasLostDisk e.answer → ⊥) → RestsIn log s → IfTold (λ t. IsWholeOf T before l.0 t.now) s.told → IfTold (λ t. IsBooked T log w1 t.now) s.told
  booked_now T s sound rests whole = go s.told rests whole
    where
      go : (a : Option Told) → IfTold (λ t. Rests log t.now) a → IfTold (λ t. IsWholeOf T before l.0 t.now) a → IfTold (λ t. IsBooked T log w1 t.now) a
      go None rest all = tt
      go (Some t) rest all = record { fit = all.good.fit; rests = rest; reads = files_now T t.now sound all }

  -- it stands on the same disk
  pub good_now : (T : List File) (t : PlainReceiver) (a : Option Told) → (HasLostDisk e.answer → ⊥) → Drops before t l.0 → t.known ≡ w.known → (log_after t).files ≡ w1.files → IfTold (λ u. IsWholeOf T before l.0 u.now) a → IfTold (λ u. DockGood T t u.now) a
  good_now T t None sound drops known files whole = tt
  good_now T t (Some u) sound drops known files whole = record {
    fit = whole.good.fit;
    reads = λ here. reads_landed T before t u.now l.0 drops known (subst (λ (fs : List NamedFile). GoodFiles T (seen_of u.now) fs) (sym files) (files_now T u.now sound whole)) (whole.good.reads sound);
  }

  -- and on one on which all is read as before but the log
  pub good_later : (T : List File) (f : EndView) (log2 : OpenLog) (w2 : PlainWriter) (a b : Option Told) → (HasLostDisk e.answer → ⊥) → IsDesk f log2 w2 → Drops before (plain_of f log2 w2) l.0 → w2.known ≡ w.known → w2.files ≡ w1.files → ReadsStand a b → GoodSince T [] a b
      → IfTold (λ u. IsWholeOf T before l.0 u.now) a → IfTold (λ u. DockGood T (plain_of f log2 w2) u.now) b
  good_later T f log2 w2 None None sound desk drops known files reads_on since whole = tt
  good_later T f log2 w2 None (Some v) sound desk drops known files reads_on since whole = absurd reads_on
  good_later T f log2 w2 (Some u) None sound desk drops known files reads_on since whole = absurd reads_on
  good_later T f log2 w2 (Some u) (Some v) sound desk drops known files reads_on since whole = record {
    fit = last_fits T [] (Some u) (Some v) whole.good.fit since;
    reads = λ here.
        reads_after T f log2 w2 desk u.now v.now reads_on
        (reads_landed T before (plain_of f log2 w2) u.now l.0 drops known (subst (λ (fs : List NamedFile). GoodFiles T (seen_of u.now) fs) (sym (files_behind_are f log2 w2 desk.books ∙ files)) (files_now T u.now sound whole)) (whole.good.reads sound));
  }

-- of an end that is good as before, whatever more was written
pub whole_is_good : (T : List File) (r : PlainReceiver) (l : ℕ) (a : Option Told) → IfTold (λ u. IsWholeOf T r l u.now) a → IfTold (λ u. DockGood T r u.now) a
whole_is_good T r l None whole = tt
whole_is_good T r l (Some u) whole = whole.good

-- ---- the plan

module _ (r : PlainReceiver) (l : Lane) (bytes : List ℕ) (b : Block) (begun : (past_at r l.0).begun ≡ Some b) where
  plan_is : land_plan r l bytes (past_at r l.0).begun ≡ logs (landed_by r l b) l (Piece bytes)
  plan_is = ap (λ (o : Option Block). land_plan r l bytes o) begun

  module _ (x : Step) where
    pub land_turns : (Fails : Type 0) → is_batch_full (landed_by r l b) ≡ false → reads (goes (landed_by r l b) l.0 states.ReadNextCmd) ≡ x → EndsIn Fails (land_plan r l bytes (past_at r l.0).begun) x
    land_turns Fails room is = subst (λ (y : Step). EndsIn Fails (land_plan r l bytes (past_at r l.0).begun) y) is (ends_as Fails (land_plan r l bytes (past_at r l.0).begun) (logs (landed_by r l b) l (Piece bytes)) _ plan_is (logs_end_none (landed_by r l b) l (Piece bytes) Fails room))

    pub land_ran : (a : Option Drive) → is_batch_full (landed_by r l b) ≡ false → reads (goes (landed_by r l b) l.0 states.ReadNextCmd) ≡ x → PlanRan (land_plan r l bytes (past_at r l.0).begun) x a a
    land_ran a room is = subst (λ (y : Step). PlanRan (land_plan r l bytes (past_at r l.0).begun) y a a) is (plan_as (land_plan r l bytes (past_at r l.0).begun) (logs (landed_by r l b) l (Piece bytes)) _ a a plan_is (logs_none (landed_by r l b) l (Piece bytes) a room))

    pub log_turns : (Fails : Type 0) → is_batch_full (landed_by r l b) ≡ true → reads (goes (all_logged (landed_by r l b)) l.0 states.ReadNextCmd) ≡ x → EndsIn Fails (land_plan r l bytes (past_at r l.0).begun) x
    log_turns Fails full is = subst (λ (y : Step). EndsIn Fails (land_plan r l bytes (past_at r l.0).begun) y) is (ends_as Fails (land_plan r l bytes (past_at r l.0).begun) (logs (landed_by r l b) l (Piece bytes)) _ plan_is (logs_end_well (landed_by r l b) l (Piece bytes) Fails full))

    pub log_ran : (a c : Option Drive) → is_batch_full (landed_by r l b) ≡ true → Calls (flush_calls (landed_by r l b)) true a c → reads (goes (all_logged (landed_by r l b)) l.0 states.ReadNextCmd) ≡ x → PlanRan (land_plan r l bytes (past_at r l.0).begun) x a c
    log_ran a c full called is = subst (λ (y : Step). PlanRan (land_plan r l bytes (past_at r l.0).begun) y a c) is (plan_as (land_plan r l bytes (past_at r l.0).begun) (logs (landed_by r l b) l (Piece bytes)) _ a c plan_is (logs_well (landed_by r l b) l (Piece bytes) a c full called))

    pub lose_turns : (Fails : Type 0) → Fails → is_batch_full (landed_by r l b) ≡ true → ((landed_by r l b).unlogged ≡ [] → ⊥) → tells_failure (failed (landed_by r l b) answers.Disk) l ≡ x → EndsIn Fails (land_plan r l bytes (past_at r l.0).begun) x
    lose_turns Fails why full some is = subst (λ (y : Step). EndsIn Fails (land_plan r l bytes (past_at r l.0).begun) y) is (ends_as Fails (land_plan r l bytes (past_at r l.0).begun) (logs (landed_by r l b) l (Piece bytes)) _ plan_is (logs_end_broken (landed_by r l b) l (Piece bytes) Fails why full some))

    pub lose_ran : (a c : Option Drive) → is_batch_full (landed_by r l b) ≡ true → Calls (flush_calls (landed_by r l b)) false a c → tells_failure (failed (landed_by r l b) answers.Disk) l ≡ x → PlanRan (land_plan r l bytes (past_at r l.0).begun) x a c
    lose_ran a c full called is = subst (λ (y : Step). PlanRan (land_plan r l bytes (past_at r l.0).begun) y a c) is (plan_as (land_plan r l bytes (past_at r l.0).begun) (logs (landed_by r l b) l (Piece bytes)) _ a c plan_is (logs_broken (landed_by r l b) l (Piece bytes) a c full called))
