-- What a dock's steps say of a turn with what a lane heard.
use Rattle.std.proofs.Common.{◌≡◌, ℕ, ◌<◌, ◌≤◌, true, List, [], length, Option, Some, None, Result, Ok, Err, refl, sym, ap, ◌∙◌, subst, arith}
use Rattle.std.specs.Prelude.{IfErr, IfSome, OnErr, min, ◌&&◌, ◌==◌}
use Rattle.std.specs.Str.{bytes_eq}
use Rattle.std.proofs.lemmas.Bool.{and_parts, eqb-true}
use Rattle.std.proofs.lemmas.Option.{same_Some}
use Rattle.std.proofs.lemmas.Slice.Eq.{bytes_eq-Decides}
use Rattle.wdt_units.specs.Counts.{Rises}
use Rattle.wdt_units.specs.Tree.{File, IsRead}
use Rattle.wdt_units.specs.declared.blocks.Block.{Block}
use Rattle.wdt_units.specs.declared.limits.TheConstants.{PIECE}
use Rattle.wdt_units.specs.declared.numbers.Lane.{Lane}
use Rattle.wdt_codec.specs.declared.frames.Frame.{Frame}
use Rattle.wdt_codec.specs.declared.frames.Frame.TheVariants as frames
use Rattle.wdt_tree.specs.Told.{ToldRun}
use Rattle.wdt_depot.specs.Moments.{IfTold, Told}
use Rattle.wdt_depot.specs.State.{Counts, State}
use Rattle.wdt_good.specs.Logged.{GoodSince}
use Rattle.wdt_logfmt.specs.Batches.{path_at}
use Rattle.wdt_sender_fsm.specs.Rules.{is_failure}
use Rattle.wdt_receiver_fsm.specs.declared.acts.RecvAct.{RecvAct}
use Rattle.wdt_receiver_fsm.specs.declared.inputs.RecvIn.{RecvIn}
use Rattle.wdt_receiver_fsm.specs.declared.inputs.RecvIn.TheVariants as inputs
use Rattle.wdt_receiver_fsm.specs.declared.states.RecvState.{RecvState}
use Rattle.wdt_receiver_fsm.specs.declared.states.RecvState.TheVariants as states
use Rattle.wdt_receiver_fsm.specs.PlainReceiver.{PlainReceiver, lane_at, past_at, state_at}
use Rattle.wdt_receiver_fsm.specs.Turn.{Bytes, Given, Put, next_place, turn_plan}
use Rattle.wdt_receiver_fsm.proofs.ForCallers.{ends_weaker}
use Rattle.wdt_link.specs.Saying.{IsFrameOf, IsSaid, Part, PlainSaid, Whole, piece_in}
use Rattle.wdt_dock.specs.Dock.{wanted, wanted_in, wanted_of}
use Rattle.wdt_dock.specs.DockGood.{DockGood, IsGoodFor, PutOf}
use Rattle.wdt_dock.specs.DockView.{LosesDisk, Turns}
use Rattle.wdt_dock.specs.Sparing.{Between, IsOther, LeavesOthers}
use Rattle.wdt_recv_lanes.specs.Turns.{CameTo, IsInputSaid, Leaves, bytes_put, is_wanted, is_wanted_by}

-- ---- what is handed in

of_frame : (told : ToldRun) (r : PlainReceiver) (l : Lane) (frame : Frame) → IsFrameOf told frame → PutOf told.tree r l (Given (inputs.Got frame))
of_frame told r l (frames.Block header) h = h
of_frame told r l frame h = tt

of_input : (told : ToldRun) (r : PlainReceiver) (l : Lane) (input : RecvIn) → IsInputSaid (Some told) input → PutOf told.tree r l (Given input)
of_input told r l (inputs.Got frame) h = of_frame told r l frame h.1
of_input told r l input h = tt

-- an input that is said of the run is of its tree
pub put_said : (run : Option ToldRun) (r : PlainReceiver) (l : Lane) (input : RecvIn) → IsInputSaid run input → IfSome run (λ told. PutOf told.tree r l (Given input))
put_said None r l input h = tt
put_said (Some told) r l input h = of_input told r l input h

-- ---- a step

-- what a dock's call answers is a step of the definition's
pub came_of : {E : Type 0} (r t : PlainReceiver) (l : Lane) (put : Put) (result : Result RecvAct E) (s0 s1 : State) → Turns (turn_plan r l put) result t s0 s1 → OnErr result (t ≡ r) → CameTo r l put result t
came_of r t l put (Ok act) s0 s1 turns same = ends_weaker (Rises s0.faults s1.faults) (Unit {0}) (turn_plan r l put) (act, t) (λ rose. tt) turns
came_of r t l put (Err e) s0 s1 turns same = same

pub err_same : {E : Type 0} (result : Result RecvAct E) (P : E → Type 0) (Q : Type 0) → IfErr result (λ back. P back × Q) → OnErr result Q
err_same (Ok act) P Q h = tt
err_same (Err e) P Q h = h.1

on_told : (P Q : Told → Type 0) (old : Option Told) → IfTold (λ t. P t → Q t) old → IfTold P old → IfTold Q old
on_told P Q None f h = tt
on_told P Q (Some t) f h = f h

module _ (r t : PlainReceiver) (l : Lane) (put : Put) (s0 s1 : State) where
  -- what a dock's call leaves of its disk, for each tree
  pub record ForTree (T : List File) : Type 0 where
    pub images : PutOf T r l put → IsGoodFor T r s0 → GoodSince T [] s0.told s1.told
    pub good : PutOf T r l put → IsGoodFor T r s0 → IsGoodFor T t s1
    pub slips : IfTold (λ u. DockGood T r u.now → s1.slips ≡ s0.slips) s0.told

  -- and of all else
  pub record ForAll : Type 0 where
    pub others : Between (LeavesOthers (IsOther r.known put)) s0.told s1.told
    pub untouched : is_failure r.answer ≡ true → s1 ≡ s0
    pub counts : Counts (LosesDisk r.answer t.answer) s0 s1

  pub leaves_of : (run : Option ToldRun) → IfSome run (λ told. PutOf told.tree r l put) → ((T : List File) → ForTree T) → ForAll → Leaves run r put t s0 s1
  leaves_of None of for all = record { since = λ g. tt; good = λ g. tt; slips = λ g. tt; others = all.others; untouched = all.untouched; counts = all.counts }
  leaves_of (Some told) of for all =
      let here = for told.tree in
      record {
        since = λ g. here.images of g;
        good = λ g. here.good of g;
        slips = λ g. on_told (λ u. DockGood told.tree r u.now) (λ u. s1.slips ≡ s0.slips) s0.told here.slips g;
        others = all.others;
        untouched = all.untouched;
        counts = all.counts;
      }

-- ---- a piece

-- what a lane wants is the next part of the block that is begun on it
pub record Wants (r : PlainReceiver) (l : ℕ) (path : List ℕ) (place count : ℕ) : Type 0 where
  pub block : Block
  pub takes : state_at r l ≡ states.TakeBlock
  pub begun : (past_at r l).begun ≡ Some block
  pub path_is : path_at r.known block.file ≡ path
  pub place_is : next_place block (lane_at r l).left ≡ place
  pub count_is : min (lane_at r l).left PIECE ≡ count

wants_of : (r : PlainReceiver) (l : ℕ) (begun : Option Block) (path : List ℕ) (place count : ℕ) → state_at r l ≡ states.TakeBlock → (past_at r l).begun ≡ begun → wanted_of r begun (lane_at r l).left ≡ Some (path, place, count) → Wants r l path place count
wants_of r l None path place count takes begun is = cc
wants_of r l (Some b) path place count takes begun is =
    let same = same_Some _ _ is in
    record {
      block = b;
      takes = takes;
      begun = begun;
      path_is = ap (λ (w : List ℕ × ℕ × ℕ). w.0) same;
      place_is = ap (λ (w : List ℕ × ℕ × ℕ). w.1) same;
      count_is = ap (λ (w : List ℕ × ℕ × ℕ). w.2) same;
    }

wants_in : (r : PlainReceiver) (l : ℕ) (state : RecvState) (path : List ℕ) (place count : ℕ) → state_at r l ≡ state → wanted_in r l state ≡ Some (path, place, count) → Wants r l path place count
wants_in r l states.TakeBlock path place count at is = wants_of r l (past_at r l).begun path place count at refl is
wants_in r l state path place count at is = cc

pub wants : (r : PlainReceiver) (l : ℕ) (path : List ℕ) (place count : ℕ) → wanted r l ≡ Some (path, place, count) → Wants r l path place count
wants r l path place count is = wants_in r l (state_at r l) path place count refl is

-- the piece is what the lane wants: it may be taken, and is of the tree where the run is told
pub record Takes (run : Option ToldRun) (r : PlainReceiver) (l : Lane) (said : PlainSaid) (bytes : List ℕ) : Type 0 where
  pub takes : state_at r l.0 ≡ states.TakeBlock
  pub some : 0 < length bytes
  pub most : length bytes ≤ PIECE
  pub within : length bytes ≤ (lane_at r l.0).left
  pub of : IfSome run (λ told. PutOf told.tree r l (Bytes bytes))
  pub put : bytes_put true said ≡ Bytes bytes

read_at : (T : List File) (p q : List ℕ) (m n : ℕ) (bytes : List ℕ) → p ≡ q → m ≡ n → IsRead T q n bytes → IsRead T p m bytes
read_at T p q m n bytes e f h = subst (λ x. IsRead T x m bytes) (sym e) (subst (λ x. IsRead T q x bytes) (sym f) h)

piece_of : (run : Option ToldRun) (r : PlainReceiver) (l : Lane) (b : Block) (path : List ℕ) (offset : ℕ) (bytes : List ℕ) → (past_at r l.0).begun ≡ Some b → path_at r.known b.file ≡ path → next_place b (lane_at r l.0).left ≡ offset
    → IfSome run (λ told. IsRead told.tree path offset bytes) → IfSome run (λ told. PutOf told.tree r l (Bytes bytes))
piece_of None r l b path offset bytes begun e f h = tt
piece_of (Some told) r l b path offset bytes begun e f h =
    subst (λ (o : Option Block). IfSome o (λ (x : Block). IsRead told.tree (path_at r.known x.file) (next_place x (lane_at r l.0).left) bytes)) (sym begun)
    (read_at told.tree (path_at r.known b.file) path (next_place b (lane_at r l.0).left) offset bytes e f h)

wanted_by : (run : Option ToldRun) (r : PlainReceiver) (l : Lane) (want : Option (List ℕ × ℕ × ℕ)) (path : List ℕ) (offset : ℕ) (bytes : List ℕ) → wanted r l.0 ≡ want → is_wanted_by want path offset bytes ≡ true → IsSaid run (Part path offset bytes) → Takes run r l (Part path offset bytes) bytes
wanted_by run r l None path offset bytes is test said = cc
wanted_by run r l (Some (of, place, count)) path offset bytes is test said =
    let w = wants r l.0 of place count is in
    let three = and_parts (bytes_eq path of && offset == place) (length bytes == count) test in
    let two = and_parts (bytes_eq path of) (offset == place) three.0 in
    let path_is : path ≡ of = (bytes_eq-Decides path of).0 two.0 in
    let place_is : offset ≡ place = eqb-true offset place two.1 in
    let count_is : length bytes ≡ count = eqb-true (length bytes) count three.1 in
    record {
      takes = w.takes;
      some = omega (arith, said.0.some);
      most = said.0.most;
      within = omega (arith, count_is, w.count_is);
      of = piece_of run r l w.block path offset bytes w.begun (w.path_is ∙ sym path_is) (w.place_is ∙ sym place_is) said.1;
      put = refl;
    }

pub wanted_piece : (run : Option ToldRun) (r : PlainReceiver) (l : Lane) (said : PlainSaid) (bytes : List ℕ) → is_wanted (wanted r l.0) said ≡ true → Some bytes ≡ piece_in said → IsSaid run said → Takes run r l said bytes
wanted_piece run r l (Whole frame) bytes test is said = cc
wanted_piece run r l (Part path offset bs) bytes test is said =
    subst (λ x. Takes run r l (Part path offset bs) x) (sym (same_Some _ _ is)) (wanted_by run r l (wanted r l.0) path offset bs refl test said)
