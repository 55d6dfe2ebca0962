-- What the log's calls leave alone: other files, and the count of slips.
use Rattle.std.proofs.Common.{◌≡◌, inl, inr, ℕ, ◌+◌, List, [], ◌∷◌, ◌++◌, Option, Some, None, Result, Ok, Err, refl, sym, ap, ◌∙◌, subst, arith, length-append}
use Rattle.std.specs.Prelude.{IsErrOf, is_none}
use Rattle.wdt_depot.specs.Disk.{Disk, DiskFile, clean, made, place_file, with_file}
use Rattle.wdt_depot.specs.Moments.{IfTold, MayDo, OneStep, Run, Told}
use Rattle.wdt_depot.specs.State.{CountsSlip, SlipsWhere, State, lacks}
use Rattle.wdt_depot.specs.declared.failure.DepotFail.{DepotFail}
use Rattle.wdt_depot.specs.declared.failure.DepotFail.TheVariants.{Failed}
use Rattle.wdt_units.specs.declared.numbers.Spot.{Spot}
use Rattle.wdt_depot.proofs.ForCallers.{placed_none, with_file-other, with_file-same}
use Rattle.wdt_good.specs.Good.{log_path, new_log_path}
use Rattle.wdt_good.specs.LogState.{LogOf}
use Rattle.wdt_logfmt.specs.View.{NamedFile}
use Rattle.wdt_log.specs.declared.fail.LogFail.{LogFail}
use Rattle.wdt_log.specs.declared.fail.LogFail.TheVariants.{Disk as DiskFail, BadLog, Shut, NoMemory}
use Rattle.wdt_log.specs.Opening.{IsMaking, IsSyncing, Makes, made_new, placed_new, synced_new, written_new}
use Rattle.wdt_log.specs.Others.{IsLong, KeepsOthers, OthersStand, SlipsStand, SlipsStandAt}
use Rattle.wdt_log.specs.Stages.{IsStage, Leaves, opened, opening, staged, written}

-- ---- other files

same_keeps : (d x : Disk) → x ≡ d → KeepsOthers d x
same_keeps d x is path one two = ap (λ (z : Disk). z path) is

-- a change of the log, or of a new one
log_keeps : (d e : Disk) (o : Option DiskFile) → KeepsOthers d e → KeepsOthers d (with_file log_path o e)
log_keeps d e o keeps path one two = with_file-other log_path path o e one ∙ keeps path one two

new_keeps : (d e : Disk) (o : Option DiskFile) → KeepsOthers d e → KeepsOthers d (with_file new_log_path o e)
new_keeps d e o keeps path one two = with_file-other new_log_path path o e two ∙ keeps path one two

module _ (end : ℕ) (batch : List ℕ) (d : Disk) where
  written_keeps : KeepsOthers d (written end batch d)
  written_keeps = log_keeps d d _ (same_keeps d d refl)

  staged_keeps : KeepsOthers d (staged end batch d)
  staged_keeps = log_keeps d (written end batch d) _ written_keeps

  opening_keeps : KeepsOthers d (opening end batch d)
  opening_keeps = log_keeps d (staged end batch d) _ staged_keeps

  opened_keeps : KeepsOthers d (opened end batch d)
  opened_keeps = log_keeps d (opening end batch d) _ opening_keeps

  keeps_at : (x y : Disk) → x ≡ y → KeepsOthers d y → KeepsOthers d x
  keeps_at x y is keeps = subst (λ (z : Disk). KeepsOthers d z) (sym is) keeps

  stage_keeps : (x : Disk) → IsStage end batch d x → KeepsOthers d x
  stage_keeps x (inl is) = same_keeps d x is
  stage_keeps x (inr (inl is)) = keeps_at x (written end batch d) is written_keeps
  stage_keeps x (inr (inr (inl is))) = keeps_at x (staged end batch d) is staged_keeps
  stage_keeps x (inr (inr (inr (inl is)))) = keeps_at x (opening end batch d) is opening_keeps
  stage_keeps x (inr (inr (inr (inr is)))) = keeps_at x (opened end batch d) is opened_keeps

  leaves_keeps : (r : Result (Unit {0}) LogFail) (x : Disk) → Leaves r end batch d x → KeepsOthers d x
  leaves_keeps (Ok done) x is = keeps_at x (opened end batch d) is opened_keeps
  leaves_keeps (Err NoMemory) x (inl is) = same_keeps d x is
  leaves_keeps (Err NoMemory) x (inr is) = keeps_at x (staged end batch d) is staged_keeps
  leaves_keeps (Err DiskFail) x at = stage_keeps x at
  leaves_keeps (Err Shut) x at = absurd at
  leaves_keeps (Err (BadLog n)) x at = absurd at

module _ (d : Disk) where
  syncing_keeps : (x : Disk) → IsSyncing d x → KeepsOthers d x
  syncing_keeps x (inl is) = same_keeps d x is
  syncing_keeps x (inr is) = subst (λ (z : Disk). KeepsOthers d z) (sym is) (log_keeps d d _ (same_keeps d d refl))

  made_keeps : KeepsOthers d (made_new d)
  made_keeps = new_keeps d d _ (same_keeps d d refl)

  wrote_keeps : KeepsOthers d (written_new d)
  wrote_keeps = new_keeps d (made_new d) _ made_keeps

  synced_keeps : KeepsOthers d (synced_new d)
  synced_keeps = new_keeps d (written_new d) _ wrote_keeps

  placed_keeps : (o : Option DiskFile) → synced_new d new_log_path ≡ o → KeepsOthers d (placed_new d)
  placed_keeps None is = subst (λ (z : Disk). KeepsOthers d z) (sym (placed_none new_log_path log_path (synced_new d) is)) synced_keeps
  placed_keeps (Some f) is =
      subst (λ (z : Disk). KeepsOthers d z) (sym (ap (λ (o : Option DiskFile). place_file new_log_path log_path o (synced_new d)) is))
      (log_keeps d (with_file new_log_path None (synced_new d)) (Some f) (new_keeps d (synced_new d) None synced_keeps))

  making_keeps : (x : Disk) → IsMaking d x → KeepsOthers d x
  making_keeps x (inl is) = same_keeps d x is
  making_keeps x (inr (inl is)) = subst (λ (z : Disk). KeepsOthers d z) (sym is) made_keeps
  making_keeps x (inr (inr (inl is))) = subst (λ (z : Disk). KeepsOthers d z) (sym is) wrote_keeps
  making_keeps x (inr (inr (inr (inl is)))) = subst (λ (z : Disk). KeepsOthers d z) (sym is) synced_keeps
  making_keeps x (inr (inr (inr (inr is)))) = subst (λ (z : Disk). KeepsOthers d z) (sym is) (placed_keeps (synced_new d new_log_path) refl)

-- ---- told

run_stands : (P Q : Disk → Disk → Type 0) (a b : Option Told) → Run P Q a b → ((d x : Disk) → Q d x → KeepsOthers d x) → OthersStand a b
run_stands P Q None None run keeps = tt
run_stands P Q None (Some u) run keeps = run
run_stands P Q (Some t) None run keeps = run
run_stands P Q (Some t) (Some u) run keeps = keeps t.now u.now run.1

pub append_stands : (r : Result (Unit {0}) LogFail) (end : ℕ) (batch : List ℕ) (a b : Option Told) → Run (IsStage end batch) (Leaves r end batch) a b → OthersStand a b
append_stands r end batch a b run = run_stands (IsStage end batch) (Leaves r end batch) a b run (λ d x at. leaves_keeps end batch d r x at)

pub syncing_stands : (a b : Option Told) → Run IsSyncing IsSyncing a b → OthersStand a b
syncing_stands a b run = run_stands IsSyncing IsSyncing a b run syncing_keeps

pub making_stands : {T : Type 0} (r : Result T LogFail) (a b : Option Told) → Run IsMaking (Makes r) a b → OthersStand a b
making_stands (Ok x) a b run = run_stands IsMaking (λ d y. y ≡ placed_new d) a b run (λ d y is. making_keeps d y (inr (inr (inr (inr is)))))
making_stands (Err e) a b run = run_stands IsMaking IsMaking a b run making_keeps

-- ---- slips

pub log_long : (version : ℕ) (fs : List NamedFile) (end : ℕ) (d : Disk) → LogOf version fs end d → IsLong log_path (end + 1) d
unfolding clean
log_long version fs end d log = (clean (log.front ++ log.gate ∷ log.behind), log.file, (let place = log.place in omega (arith, place, length-append log.front (log.gate ∷ log.behind))))

stand_at : (version n m : ℕ) (fs : List NamedFile) (end : ℕ) (a : Option Told) → IfTold (λ t. LogOf version fs end t.now) a → IfTold (λ t. IsLong log_path (end + 1) t.now → n ≡ m) a → IfTold (λ t. n ≡ m) a
stand_at version n m fs end None log long = tt
stand_at version n m fs end (Some t) log long = long (log_long version fs end t.now log)

-- where the log stands
pub slips_stand : (version : ℕ) (fs : List NamedFile) (end : ℕ) (s t : State) → IfTold (λ u. LogOf version fs end u.now) s.told → SlipsStandAt log_path (end + 1) s t → SlipsStand s t
slips_stand version fs end s t log long = stand_at version t.slips s.slips fs end s.told log long

needed : (path : List ℕ) (x : Unit {0}) (r : Result Spot DepotFail) (s1 s2 : State) (n : ℕ) (a b : Option Told) → OneStep (MayDo {E = DepotFail} (made path) (Ok x)) a b → s1.slips ≡ n → IfTold (λ t. CountsSlip (lacks path t.now) r (IsErrOf r Failed) s1 s2) b
    → IfTold (λ t. s2.slips ≡ n) a
needed path x r s1 s2 n None b step same slips = tt
needed path x r s1 s2 n (Some t) None step same slips = absurd step
needed path x r s1 s2 n (Some t) (Some u) step same slips =
    slips.none (ap (λ (d : Disk). lacks path d) step.0 ∙ ap is_none (with_file-same path (Some (clean [])) t.now)) ∙ same

-- a file that was just made is there
pub needed_stands : (path : List ℕ) (x : Unit {0}) (r : Result Spot DepotFail) (s0 s1 s2 : State) → OneStep (MayDo {E = DepotFail} (made path) (Ok x)) s0.told s1.told → s1.slips ≡ s0.slips → SlipsWhere (lacks path) r (IsErrOf r Failed) s1 s2 → SlipsStand s0 s2
needed_stands path x r s0 s1 s2 step same slips = needed path x r s1 s2 s0.slips s0.told s1.told step same slips
