-- Which end of its plan a block's header comes to.
use Rattle.std.proofs.Common.{◌≡◌, inl, inr, ℕ, zero, suc, ◌+◌, ◌<◌, ◌≤◌, Bool, true, false, nat_le, List, [], ◌∷◌, ◌++◌, length, map, Option, Some, None, Err, refl, sym, ap, ◌∙◌, subst, arith}
use Rattle.std.specs.Prelude.{IsErrOf, IsSome, if◌then◌else◌, option_map}
use Rattle.std.specs.List.{flat_map}
use Rattle.std.proofs.lemmas.Bool.{le-leb, lt-leb}
use Rattle.std.proofs.lemmas.Option.{same_Some}
use Rattle.wdt_units.specs.declared.limits.TheConstants.{MAX_BLOCKS}
use Rattle.wdt_units.specs.declared.blocks.Block.{Block}
use Rattle.wdt_units.specs.declared.blocks.Header.{Header}
use Rattle.wdt_units.specs.declared.numbers.Lane.{Lane}
use Rattle.wdt_depot.specs.Programs.{Calls, Drive, IsQuiet, drive_of, run_make}
use Rattle.wdt_depot.specs.State.{State}
use Rattle.wdt_logfmt.specs.Beginning.{BeginFault, OverLimit, Overlap, SizeDiffers, block_of, is_new}
use Rattle.wdt_logfmt.specs.Marks.{Marked, marked_of}
use Rattle.wdt_sender_fsm.specs.Places.{tabulate}
use Rattle.wdt_sender_fsm.specs.declared.peers.PeerKind.TheVariants as peers
use Rattle.wdt_log.specs.OpenLog.{OpenLog}
use Rattle.wdt_writer.specs.declared.fail.WriteFail.{WriteFail}
use Rattle.wdt_writer.specs.declared.fail.WriteFail.TheVariants as fails
use Rattle.wdt_writer.specs.declared.parts.Part.{Part}
use Rattle.wdt_writer.specs.Answers.{IsAnswered, RanWrite, fault_at, of_fault}
use Rattle.wdt_writer.specs.PlainWriter.{PlainWriter, blocks_of, known_by, known_with, make_by, part_of, run_begin}
use Rattle.wdt_receiver_fsm.specs.Batched.{IsBatched}
use Rattle.wdt_receiver_fsm.specs.Frames.{block_fault, kind_of}
use Rattle.wdt_receiver_fsm.specs.Plan.{EndsIn, PlanRan, ends}
use Rattle.wdt_receiver_fsm.specs.PlainReceiver.{PlainReceiver, begun_at, begun_blocks, marks_at}
use Rattle.wdt_receiver_fsm.specs.ReceiverHistory.{begun_list, past_of}
use Rattle.wdt_receiver_fsm.specs.Rows.{Block as BlockRead}
use Rattle.wdt_receiver_fsm.specs.Turn.{Step, begins, block_plan, block_with, disk_fails, knows, makes_by}
use Rattle.wdt_receiver_fsm.proofs.ForCallers.{ends_as, plan_as, plan_broken, plan_ends, plan_well}
use Rattle.wdt_dock.specs.Beginning.{IsRefused, told_fault}
use Rattle.wdt_dock.specs.Desk.{IsDesk, part_by, plain_of}
use Rattle.wdt_receiver_fsm.specs.End.{EndView, lane_in}
use Rattle.wdt_dock.proofs.Finishing.{marks_are}

-- ---- the blocks on their way

-- a list by its first place
first_place : {X : Type 0} (n : ℕ) (f : ℕ → X) → tabulate (suc n) f ≡ f 0 ∷ tabulate n (λ k. f (suc k))
first_place zero f = refl
first_place (suc n) f = ap (λ (xs : List _). xs ++ f (suc n) ∷ []) (first_place n f)

part_list : Option Part → List Block
part_list None = []
part_list (Some p) = p.block ∷ []

one_part : (p : Option Part) (parts : List (Option Part)) → part_list p ++ blocks_of parts ≡ blocks_of (p ∷ parts)
unfolding part_list
one_part None parts = refl
one_part (Some p) parts = refl

blocks_are : (parts : List (Option Part)) (f : ℕ → List Block) (g : ℕ → ℕ) → ((k : ℕ) → k < length parts → f (g k) ≡ part_list (part_of parts k)) → flat_map f (tabulate (length parts) g) ≡ blocks_of parts
blocks_are [] f g same = refl
blocks_are (p ∷ parts) f g same =
    ap (flat_map f) (first_place (length parts) g)
    ∙ ap (λ (bs : List Block). bs ++ flat_map f (tabulate (length parts) (λ k. g (suc k)))) (same 0 (omega arith))
    ∙ ap (λ (bs : List Block). part_list p ++ bs) (blocks_are parts f (λ k. g (suc k)) (λ k within. same (suc k) (omega (arith, within))))
    ∙ one_part p parts

list_of : (b : Option Block) (left : ℕ) → begun_list b ≡ part_list (part_by b left)
unfolding part_list
list_of None left = refl
list_of (Some b) left = refl

-- ---- ends of the plan

told_as : (r : PlainReceiver) (l : Lane) (y : Step) (fault : BeginFault) → IsRefused r l (of_fault fault) y → y ≡ told_fault r l (kind_of fault)
told_as r l y (SizeDiffers a b c d) is = is
told_as r l y (Overlap a) is = is
told_as r l y (OverLimit a) is = is

same_fail : (f g : WriteFail) → IsErrOf {T = Block} (Err f) g → f ≡ g
same_fail f g e = cc

told_by : (r : PlainReceiver) (l : Lane) (fail : WriteFail) (y : Step) (fault : BeginFault) → IsAnswered {T = Block} (Some fault) (Err fail) → IsRefused r l fail y → y ≡ told_fault r l (kind_of fault)
told_by r l fail y fault (inl is) refused = told_as r l y fault (subst (λ (f : WriteFail). IsRefused r l f y) (same_fail fail (of_fault fault) is) refused)
told_by r l fail y fault (inr is) refused = absurd (subst (λ (f : WriteFail). IsRefused r l f y) (same_fail fail fails.NoMemory is) refused)

refused_by : (r : PlainReceiver) (l : Lane) (h : Header) (fail : WriteFail) (y : Step) (o : Option BeginFault) → IsAnswered {T = Block} o (Err fail) → IsRefused r l fail y
    → (Fails : Type 0) → (fail ≡ fails.Disk → Fails) → (is_new r.known h ≡ false → fail ≡ fails.Disk → ⊥) → EndsIn Fails (block_with r l h (option_map kind_of o)) y
refused_by r l h fails.Disk y None answered refused Fails why never = go (is_new r.known h) refl
  where
    go : (c : Bool) → is_new r.known h ≡ c → EndsIn Fails (makes_by r l h c) y
    go true new = inl (why refl, refused)
    go false old = absurd (never old refl)
refused_by r l h fails.NoMemory y None answered refused Fails why never = absurd refused
refused_by r l h (fails.SizeDiffers a b c d) y None answered refused Fails why never = absurd answered
refused_by r l h (fails.Overlap a) y None answered refused Fails why never = absurd answered
refused_by r l h (fails.OverLimit a) y None answered refused Fails why never = absurd answered
refused_by r l h fail y (Some fault) answered refused Fails why never = told_by r l fail y fault answered refused

not_memory : IsErrOf {T = Block} (Err fails.Disk) fails.NoMemory → ⊥
not_memory e = cc

refused_ran_by : (r : PlainReceiver) (l : Lane) (h : Header) (fail : WriteFail) (y : Step) (o : Option BeginFault) → IsAnswered {T = Block} o (Err fail) → IsRefused r l fail y
    → (s0 s1 : State) → (fail ≡ fails.Disk → is_new r.known h ≡ true) → (IsSome o → s1 ≡ s0)
    → (o ≡ None → (IsErrOf {T = Block} (Err fail) fails.NoMemory → ⊥) → Calls (run_begin r.known h) false (drive_of s0) (drive_of s1)) → PlanRan (block_with r l h (option_map kind_of o)) y (drive_of s0) (drive_of s1)
refused_ran_by r l h fails.Disk y None answered refused s0 s1 new same ran =
    plan_as (makes_by r l h (is_new r.known h)) (makes_by r l h true) y (drive_of s0) (drive_of s1) (ap (makes_by r l h) (new refl))
    (subst (λ (z : Step). PlanRan (makes_by r l h true) z (drive_of s0) (drive_of s1)) (sym refused)
    (plan_broken (run_make h.path) (disk_fails r l (BlockRead h)) (ends (begins (knows r h) l (block_of r.known h))) (drive_of s0) (drive_of s1)
    (subst (λ (c : Bool). Calls (make_by h.path c) false (drive_of s0) (drive_of s1)) (new refl) (ran refl not_memory))))
refused_ran_by r l h fails.NoMemory y None answered refused s0 s1 new same ran = absurd refused
refused_ran_by r l h (fails.SizeDiffers a b c d) y None answered refused s0 s1 new same ran = absurd answered
refused_ran_by r l h (fails.Overlap a) y None answered refused s0 s1 new same ran = absurd answered
refused_ran_by r l h (fails.OverLimit a) y None answered refused s0 s1 new same ran = absurd answered
refused_ran_by r l h fail y (Some fault) answered refused s0 s1 new same ran =
    subst (λ (s : State). PlanRan (block_with r l h (Some (kind_of fault))) y (drive_of s0) (drive_of s)) (sym (same refl))
    (plan_ends y (told_fault r l (kind_of fault)) (drive_of s0) (told_by r l fail y fault answered refused))

makes_end : (r : PlainReceiver) (l : Lane) (h : Header) (y : Step) (Fails : Type 0) (c : Bool) → begins (record r { known = known_by r.known h c }) l (block_of r.known h) ≡ y → EndsIn Fails (makes_by r l h c) y
makes_end r l h y Fails true is = inr (sym is)
makes_end r l h y Fails false is = sym is

idle_same : (a b : Option Drive) → Calls (λ p. (true, p)) true a b → a ≡ b
idle_same None None e = refl
idle_same None (Some y) e = cc
idle_same (Some x) None e = cc
idle_same (Some x) (Some y) e = ap (λ (r : Bool × Drive). Some r.1) (same_Some _ _ e)

makes_ran : (r : PlainReceiver) (l : Lane) (h : Header) (y : Step) (a b : Option Drive) (c : Bool) → begins (record r { known = known_by r.known h c }) l (block_of r.known h) ≡ y → Calls (make_by h.path c) true a b → PlanRan (makes_by r l h c) y a b
makes_ran r l h y a b true is called =
    plan_well (run_make h.path) (disk_fails r l (BlockRead h)) y (ends (begins (knows r h) l (block_of r.known h))) a b b called (plan_ends y (begins (knows r h) l (block_of r.known h)) b (sym is))
makes_ran r l h y a b false is called = subst (λ (o : Option Drive). PlanRan (makes_by r l h false) y a o) (idle_same a b called) (plan_ends y (begins r l (block_of r.known h)) a (sym is))

module _ (e : EndView) (log : OpenLog) (w : PlainWriter) (desk : IsDesk e log w) where
  begun_are : begun_blocks (plain_of e log w) ≡ blocks_of w.parts
  begun_are =
      ap (λ (n : ℕ). flat_map (begun_at (plain_of e log w)) (tabulate n (λ k. k))) (sym desk.lanes)
      ∙ blocks_are w.parts (begun_at (plain_of e log w)) (λ k. k) (λ k within.
      list_of (past_of e.history k).begun (lane_in e k).left ∙ ap part_list (sym (desk.parts k (subst (λ (n : ℕ). k < n) desk.lanes within))))

  -- what stands in the way of a block, as the writer says it
  fault_is : IsBatched (plain_of e log w) → (n : ℕ) (h : Header) → block_fault w.known (marks_at (plain_of e log w)) (begun_blocks (plain_of e log w)) n h ≡ block_fault w.known (map marked_of w.files) (blocks_of w.parts) n h
  fault_is batched n h =
      ap (λ (ms : List Marked). block_fault w.known ms (begun_blocks (plain_of e log w)) n h) (marks_are e log w desk.books batched)
      ∙ ap (λ (bs : List Block). block_fault w.known (map marked_of w.files) bs n h) begun_are

  module _ (batched : IsBatched (plain_of e log w)) (l : Lane) (h : Header) (n : ℕ) (landed : n ≡ length (past_of e.history l.0).landed) where
    abbrev r : PlainReceiver
    r = plain_of e log w

    -- the plan, by whether as many blocks have landed as may
    plan_by : (c : Bool) → nat_le MAX_BLOCKS n ≡ c → block_plan r l h ≡ block_with r l h (if c then Some (peers.OverLimit (n + 1)) else option_map kind_of (fault_at w h))
    plan_by c is =
        ap (block_with r l h) (fault_is batched (length (past_of e.history l.0).landed) h)
        ∙ ap (λ (m : ℕ). block_with r l h (block_fault w.known (map marked_of w.files) (blocks_of w.parts) m h)) (sym landed)
        ∙ ap (λ (b : Bool). block_with r l h (if b then Some (peers.OverLimit (n + 1)) else option_map kind_of (fault_at w h))) is

    -- no more blocks may land on the lane
    module _ (many : MAX_BLOCKS ≤ n) (y : Step) (said : told_fault r l (peers.OverLimit (n + 1)) ≡ y) where
      pub limit_turns : (Fails : Type 0) → EndsIn Fails (block_plan r l h) y
      limit_turns Fails = ends_as Fails (block_plan r l h) (ends (told_fault r l (peers.OverLimit (n + 1)))) y (plan_by true (le-leb MAX_BLOCKS n many)) (sym said)

      pub limit_ran : (a : Option Drive) → PlanRan (block_plan r l h) y a a
      limit_ran a = plan_as (block_plan r l h) (ends (told_fault r l (peers.OverLimit (n + 1)))) y a a (plan_by true (le-leb MAX_BLOCKS n many)) (plan_ends y (told_fault r l (peers.OverLimit (n + 1))) a (sym said))

    module _ (few : n < MAX_BLOCKS) where
      plan_is : block_plan r l h ≡ block_with r l h (option_map kind_of (fault_at w h))
      plan_is = plan_by false (lt-leb MAX_BLOCKS n few)

      -- the block was refused, or the disk failed
      module _ (fail : WriteFail) (answered : IsAnswered {T = Block} (fault_at w h) (Err fail)) (y : Step) (refused : IsRefused r l fail y) where
        pub refused_turns : (Fails : Type 0) → (fail ≡ fails.Disk → Fails) → (is_new w.known h ≡ false → fail ≡ fails.Disk → ⊥) → EndsIn Fails (block_plan r l h) y
        refused_turns Fails why never = ends_as Fails (block_plan r l h) (block_with r l h (option_map kind_of (fault_at w h))) y plan_is (refused_by (plain_of e log w) l h fail y (fault_at w h) answered refused Fails why never)

        pub refused_ran : (s0 s1 : State) → (fail ≡ fails.Disk → is_new w.known h ≡ true) → (IsSome (fault_at w h) → s1 ≡ s0) → (fault_at w h ≡ None → RanWrite {T = Block} (run_begin w.known h) (Err fail) s0 s1) → IsQuiet s0 s1
            → PlanRan (block_plan r l h) y (drive_of s0) (drive_of s1)
        refused_ran s0 s1 new same ran quiet =
            plan_as (block_plan r l h) (block_with r l h (option_map kind_of (fault_at w h))) y (drive_of s0) (drive_of s1) plan_is
            (refused_ran_by (plain_of e log w) l h fail y (fault_at w h) answered refused s0 s1 new same (λ none memory. ran none memory quiet))

      -- the block began
      module _ (none : fault_at w h ≡ None) (y : Step) (begun : begins (record r { known = known_with w.known h }) l (block_of w.known h) ≡ y) where
        begun_plan : block_plan r l h ≡ makes_by r l h (is_new w.known h)
        begun_plan = plan_is ∙ ap (λ (o : Option BeginFault). block_with r l h (option_map kind_of o)) none

        pub begun_turns : (Fails : Type 0) → EndsIn Fails (block_plan r l h) y
        begun_turns Fails = ends_as Fails (block_plan r l h) (makes_by r l h (is_new w.known h)) y begun_plan (makes_end (plain_of e log w) l h y Fails (is_new w.known h) begun)

        pub begun_ran : (a b : Option Drive) → Calls (run_begin w.known h) true a b → PlanRan (block_plan r l h) y a b
        begun_ran a b called = plan_as (block_plan r l h) (makes_by r l h (is_new w.known h)) y a b begun_plan (makes_ran (plain_of e log w) l h y a b (is_new w.known h) begun called)
