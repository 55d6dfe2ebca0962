-- Paths at which no call changes anything.
use Rattle.std.proofs.Common.{◌≡◌, ℕ, Bool, true, false, cond, List, [], ◌∷◌, ◌++◌, Option, Some, None, Result, refl, sym, ap, ◌∙◌, subst, append_assoc, inl, inr}
use Rattle.std.specs.Prelude.{option_map}
use Rattle.std.specs.Str.{bytes_eq}
use Rattle.wdt_units.specs.Tree.{File, file_of}
use Rattle.wdt_depot.specs.Disk.{Disk, clean, made, synced_at, write_file, wrote}
use Rattle.wdt_depot.specs.Moments.{IfTold, MayDo, OneStep, Told}
use Rattle.wdt_depot.proofs.ForCallers.{may_either, run_join, run_more, run_same, run_start, with_file-other}
use Rattle.wdt_rehearsal.specs.Destination.{KeepsOthers, LeavesOthers}
use Rattle.wdt_rehearsal.specs.Storing.{KeepsBeside, LeavesBeside}

-- ---- one call

-- a call that is done or not, and touches a path alone
kept : {T E : Type 0} (r : Result T E) (path : List ℕ) (done : Disk → Disk) → ((d : Disk) → KeepsBeside path d (done d)) → (x y : Disk) → MayDo done r x y → KeepsBeside path x y
kept r path done alone x y does = elim (may_either done r x y does) [
  | inl e ↦ λ other differs. ap (λ (d : Disk). d other) e
  | inr e ↦ λ other differs. ap (λ (d : Disk). d other) e ∙ alone x other differs
]

both : (path : List ℕ) (d x y : Disk) → KeepsBeside path d x → KeepsBeside path x y → KeepsBeside path d y
both path d x y h k = λ other differs. k other differs ∙ h other differs

pub beside-start : (path : List ℕ) (a : Option Told) → LeavesBeside path a a
beside-start path a = run_start (KeepsBeside path) (KeepsBeside path) a (go a)
  where
    go : (t : Option Told) → IfTold (λ u. KeepsBeside path u.now u.now) t
    go None = tt
    go (Some u) = λ other differs. refl

beside-more : {T E : Type 0} (r : Result T E) (path : List ℕ) (done : Disk → Disk) (a b c : Option Told) → ((d : Disk) → KeepsBeside path d (done d)) → LeavesBeside path a b → OneStep (MayDo done r) b c → LeavesBeside path a c
beside-more r path done a b c alone run step =
    run_more (KeepsBeside path) (KeepsBeside path) (KeepsBeside path) (MayDo done r) a b c run step
    (λ d x y h does. let k : KeepsBeside path d y = both path d x y h (kept r path done alone x y does) in (k, k))

pub beside-made : {T E : Type 0} (r : Result T E) (path : List ℕ) (a b : Option Told) → OneStep (MayDo (made path) r) a b → LeavesBeside path a b
beside-made r path a b step = beside-more r path (made path) a a b (λ d other differs. with_file-other path other (Some (clean [])) d differs) (beside-start path a) step

pub beside-wrote : {T E : Type 0} (r : Result T E) (path at : List ℕ) (offset : ℕ) (piece : List ℕ) (a b c : Option Told) → at ≡ path → LeavesBeside path a b → OneStep (MayDo (wrote at offset piece) r) b c → LeavesBeside path a c
beside-wrote r path at offset piece a b c is run step =
    beside-more r path (wrote path offset piece) a b c (λ d other differs. with_file-other path other (option_map (write_file offset piece) (d path)) d differs) run
    (subst (λ (p : List ℕ). OneStep (MayDo (wrote p offset piece) r) b c) is step)

pub beside-synced : {T E : Type 0} (r : Result T E) (path at : List ℕ) (a b c : Option Told) → at ≡ path → LeavesBeside path a b → OneStep (MayDo (synced_at at) r) b c → LeavesBeside path a c
beside-synced r path at a b c is run step =
    beside-more r path (synced_at path) a b c (λ d other differs. with_file-other path other (option_map (λ f. clean f.seen) (d path)) d differs) run
    (subst (λ (p : List ℕ). OneStep (MayDo (synced_at p) r) b c) is step)

-- ---- calls one behind the other

pub beside-both : (path at : List ℕ) (a b c d e : Option Told) → LeavesBeside path a b → c ≡ b → at ≡ path → LeavesBeside at c d → e ≡ d → LeavesBeside path a e
beside-both path at a b c d e one same is two left =
    run_same (KeepsBeside path) (KeepsBeside path) a d e
    (run_join (KeepsBeside path) (KeepsBeside path) (KeepsBeside path) (KeepsBeside path) (KeepsBeside path) (KeepsBeside path) a c d
    (run_same (KeepsBeside path) (KeepsBeside path) a b c one same) (subst (λ (p : List ℕ). LeavesBeside p c d) is two)
    (λ x y h. h) (both path) (both path)) left

pub beside-same : (path : List ℕ) (a b c : Option Told) → LeavesBeside path a b → c ≡ b → LeavesBeside path a c
beside-same path a b c run same = run_same (KeepsBeside path) (KeepsBeside path) a b c run same

-- ---- files

-- a path that no file has isn't that of one of them
absent : (front back : List File) (file : File) (path : List ℕ) → file_of (front ++ file ∷ back) path ≡ None → bytes_eq file.path path ≡ false
unfolding file_of
absent [] back file path none = here (bytes_eq file.path path) refl none
  where
    here : (b : Bool) → bytes_eq file.path path ≡ b → cond b (Some file) (file_of back path) ≡ None → bytes_eq file.path path ≡ false
    here true is h = absurd (let s : Some file ≡ None = h in cc)
    here false is h = is
absent (x ∷ front) back file path none = absent front back file path (behind (bytes_eq x.path path) none)
  where
    behind : (b : Bool) → cond b (Some x) (file_of (front ++ file ∷ back) path) ≡ None → file_of (front ++ file ∷ back) path ≡ None
    behind true h = absurd (let s : Some x ≡ None = h in cc)
    behind false h = h

pub others-start : (files : List File) (a : Option Told) → LeavesOthers files a a
others-start files a = run_start (KeepsOthers files) (KeepsOthers files) a (go a)
  where
    go : (t : Option Told) → IfTold (λ u. KeepsOthers files u.now u.now) t
    go None = tt
    go (Some u) = λ path none. refl

-- one of the files is stored
pub others-more : (all left rest landed : List File) (file : File) (a b c : Option Told) → LeavesOthers all a b → all ≡ left ++ landed → left ≡ rest ++ file ∷ [] → LeavesBeside file.path b c → LeavesOthers all a c
others-more all left rest landed file a b c one whole last two =
    run_join (KeepsOthers all) (KeepsOthers all) (KeepsBeside file.path) (KeepsBeside file.path) (KeepsOthers all) (KeepsOthers all) a b c one two (λ x y h. h) further further
  where
    split : all ≡ rest ++ file ∷ landed
    split = whole ∙ ap (λ (fs : List File). fs ++ landed) last ∙ append_assoc rest (file ∷ []) landed

    further : (d x y : Disk) → KeepsOthers all d x → KeepsBeside file.path x y → KeepsOthers all d y
    further d x y h k = λ path none. k path (absent rest landed file path (ap (λ (fs : List File). file_of fs path) (sym split) ∙ none)) ∙ h path none
