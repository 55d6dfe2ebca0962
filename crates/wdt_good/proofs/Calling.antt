-- Calls on files beside the log, one behind the other.
use Rattle.std.proofs.Common.{◌≡◌, ◌⊎◌, inl, inr, ℕ, false, List, [], length, Option, Some, None, Result, Ok, Err, refl, sym, subst}
use Rattle.std.specs.Prelude.{option_map}
use Rattle.std.specs.Result.{IsErrAnd}
use Rattle.std.specs.Str.{bytes_eq}
use Rattle.wdt_units.specs.Tree.{File}
use Rattle.wdt_units.specs.declared.failures.Failed.{Failed}
use Rattle.wdt_depot.specs.Disk.{Disk, IsSoundDisk, clean, made, synced_at, write_file, wrote}
use Rattle.wdt_depot.specs.Moments.{IfTold, MayDo, OneStep, Run, Told}
use Rattle.wdt_depot.specs.State.{State}
use Rattle.wdt_depot.specs.declared.failure.DepotFail.{DepotFail}
use Rattle.wdt_depot.proofs.ForCallers.{may_either, run_start, since_more, since_now, since_weaker, with_file-other}
use Rattle.wdt_logfmt.specs.View.{NamedFile, names}
use Rattle.wdt_good.specs.Changing.{MayWrite}
use Rattle.wdt_good.specs.Good.{log_path}
use Rattle.wdt_good.specs.LogState.{LogOf}
use Rattle.wdt_good.specs.Logged.{AllFit, AllGood, GoodSince}
use Rattle.wdt_good.specs.Sweeping.{IsStill, Keeps, Syncs}
use Rattle.wdt_good.proofs.Images.{fit_good}
use Rattle.wdt_good.proofs.Moments.{call_good, fewer_good}
use Rattle.wdt_good.proofs.Moving.{make_moves, moved_good, write_moves}
use Rattle.wdt_good.proofs.Resting.{log_stays}
use Rattle.wdt_good.proofs.Sweeping.{keeps_itself, sync_keeps, sync_still}

-- ---- a write

-- a call that wasn't made
pub not_made : (f : Disk → Disk) (r : Result (Unit {0}) DepotFail) (P : DepotFail → Type 0) (a b : Option Told) → IsErrAnd r P → b ≡ a → OneStep (MayDo f r) a b
not_made f (Ok x) P a b h same = absurd h
not_made f (Err x) P a b h same = subst (λ (o : Option Told). OneStep (MayDo {T = Unit {0}} f (Err x)) a o) (sym same) (go a)
  where
    go : (t : Option Told) → OneStep (MayDo {T = Unit {0}} f (Err x)) t t
    go None = tt
    go (Some t) = (inl refl, inl refl)

-- a file was entered for it, and left
pub written : (path q : List ℕ) (offset : ℕ) (bytes : List ℕ) (r : Result (Unit {0}) DepotFail) (es : List (ℕ × List ℕ)) (s0 s1 s2 s3 : State) → q ≡ path → s1.told ≡ s0.told → OneStep (MayDo (wrote q offset bytes) r) s1.told s2.told → s3 ≡ record s2 { spots = es }
    → OneStep (MayDo (wrote path offset bytes) r) s0.told s3.told
written path q offset bytes r es s0 s1 s2 s3 same looks step left =
    subst (λ (s : State). OneStep (MayDo (wrote path offset bytes) r) s0.told s.told) (sym left)
    (subst (λ (t : Option Told). OneStep (MayDo (wrote path offset bytes) r) t s2.told) looks
    (subst (λ (p : List ℕ). OneStep (MayDo (wrote p offset bytes) r) s1.told s2.told) same step))

module _ (version : ℕ) (fs : List NamedFile) (end : ℕ) (path : List ℕ) (offset : ℕ) (bytes : List ℕ) (r : Result (Unit {0}) DepotFail) where
  pub write_since : (T : List File) (size : ℕ) (a b : Option Told) → IfTold (λ t. IsSoundDisk t.now) a → IfTold (λ t. LogOf version fs end t.now) a → IfTold (λ t. AllFit T t.now) a → IfTold (λ t. MayWrite path size offset (length bytes) fs t.now) a
      → OneStep (MayDo (wrote path offset bytes) r) a b → GoodSince T [] a b
  write_since T size a b sound log fit may step = call_good T [] (wrote path offset bytes) r a b fit (go a sound log fit may) step
    where
      go : (o : Option Told) → IfTold (λ t. IsSoundDisk t.now) o → IfTold (λ t. LogOf version fs end t.now) o → IfTold (λ t. AllFit T t.now) o → IfTold (λ t. MayWrite path size offset (length bytes) fs t.now) o
          → IfTold (λ t. AllGood T [] t.now (wrote path offset bytes t.now)) o
      go None s l f m = tt
      go (Some t) s l f m = moved_good version T [] fs end t.now (wrote path offset bytes t.now) l f (write_moves path size offset bytes fs t.now m T s)

  pub write_rests : (a b : Option Told) → bytes_eq path log_path ≡ false → OneStep (MayDo (wrote path offset bytes) r) a b → IfTold (λ t. LogOf version fs end t.now) a → IfTold (λ t. LogOf version fs end t.now) b
  write_rests None None other step log = tt
  write_rests None (Some u) other step log = absurd step
  write_rests (Some t) None other step log = absurd step
  write_rests (Some t) (Some u) other step log = elim (may_either (wrote path offset bytes) r t.now u.now step.0) [
    | inl is ↦ subst (LogOf version fs end) (sym is) log
    | inr is ↦ subst (LogOf version fs end) (sym is) (log_stays version fs end t.now log (wrote path offset bytes t.now) (with_file-other path log_path (option_map (write_file offset bytes) (t.now path)) t.now other))
  ]

-- ---- a make

module _ (version : ℕ) (fs : List NamedFile) (end : ℕ) (path : List ℕ) (r : Result (Unit {0}) DepotFail) where
  pub make_since : (T : List File) (a b : Option Told) → IfTold (λ t. IsSoundDisk t.now) a → bytes_eq path log_path ≡ false → names fs path ≡ false → IfTold (λ t. LogOf version fs end t.now) a → IfTold (λ t. AllFit T t.now) a
      → OneStep (MayDo (made path) r) a b → GoodSince T [] a b
  make_since T a b sound other none log fit step = call_good T [] (made path) r a b fit (go a sound log fit) step
    where
      go : (o : Option Told) → IfTold (λ t. IsSoundDisk t.now) o → IfTold (λ t. LogOf version fs end t.now) o → IfTold (λ t. AllFit T t.now) o → IfTold (λ t. AllGood T [] t.now (made path t.now)) o
      go None s l f = tt
      go (Some t) s l f = moved_good version T [] fs end t.now (made path t.now) l f (make_moves path fs t.now none T s other)

  pub make_rests : (a b : Option Told) → bytes_eq path log_path ≡ false → OneStep (MayDo (made path) r) a b → IfTold (λ t. LogOf version fs end t.now) a → IfTold (λ t. LogOf version fs end t.now) b
  make_rests None None other step log = tt
  make_rests None (Some u) other step log = absurd step
  make_rests (Some t) None other step log = absurd step
  make_rests (Some t) (Some u) other step log = elim (may_either (made path) r t.now u.now step.0) [
    | inl is ↦ subst (LogOf version fs end) (sym is) log
    | inr is ↦ subst (LogOf version fs end) (sym is) (log_stays version fs end t.now log (made path t.now) (with_file-other path log_path (Some (clean [])) t.now other))
  ]

-- ---- a sync

pub keeps_start : (a : Option Told) → Run Keeps Keeps a a
keeps_start a = run_start Keeps Keeps a (go a)
  where
    go : (b : Option Told) → IfTold (λ t. Keeps t.now t.now) b
    go None = tt
    go (Some t) = keeps_itself t.now

either_keeps : (path : List ℕ) (d e : Disk) → bytes_eq path log_path ≡ false → IsSoundDisk d → (e ≡ d) ⊎ (e ≡ synced_at path d) → Keeps d e
either_keeps path d e other sound (inl is) = subst (Keeps d) (sym is) (keeps_itself d)
either_keeps path d e other sound (inr is) = subst (Keeps d) (sym is) (sync_keeps path d other sound)

synced_left : (path : List ℕ) (r : Result (Unit {0}) Failed) (d e : Disk) → bytes_eq path log_path ≡ false → IsSoundDisk d → MayDo (synced_at path) r d e → Syncs r path d e
synced_left path (Ok x) d e other sound done = (subst (Keeps d) (sym done) (sync_keeps path d other sound), subst (λ (z : Disk). IsStill z path) (sym done) (sync_still path d))
synced_left path (Err x) d e other sound either = either_keeps path d e other sound either

-- one call: each moment is as before it or as behind it
pub sync_runs : (path : List ℕ) (r : Result (Unit {0}) Failed) (a b : Option Told) → bytes_eq path log_path ≡ false → IfTold (λ t. IsSoundDisk t.now) a → OneStep (MayDo (synced_at path) r) a b → Run Keeps (Syncs r path) a b
sync_runs path r None None other sound step = tt
sync_runs path r None (Some u) other sound step = absurd step
sync_runs path r (Some t) None other sound step = absurd step
sync_runs path r (Some t) (Some u) other sound step = (
  since_more (Keeps t.now) (MayDo (synced_at path) r) (Some t) (Some t) (Some u) (since_now (Keeps t.now) (Some t)) step (λ e may. either_keeps path t.now e other sound (may_either (synced_at path) r t.now e may)),
  synced_left path r t.now u.now other sound step.0,
)

-- a file was entered for it, and left
pub synced : (path q : List ℕ) (r : Result (Unit {0}) Failed) (es : List (ℕ × List ℕ)) (s0 s1 s2 s3 : State) → bytes_eq path log_path ≡ false → q ≡ path → s1.told ≡ s0.told → IfTold (λ t. IsSoundDisk t.now) s0.told
    → OneStep (MayDo (synced_at q) r) s1.told s2.told → s3 ≡ record s2 { spots = es } → Run Keeps (Syncs r path) s0.told s3.told
synced path q r es s0 s1 s2 s3 other same looks sound step left =
    subst (λ (s : State). Run Keeps (Syncs r path) s0.told s.told) (sym left)
    (sync_runs path r s0.told s2.told other sound (subst (λ (t : Option Told). OneStep (MayDo (synced_at path) r) t s2.told) looks (subst (λ (p : List ℕ). OneStep (MayDo (synced_at p) r) s1.told s2.told) same step)))

-- the file wasn't entered
pub not_synced : (path : List ℕ) (r : Result (Unit {0}) DepotFail) (P : DepotFail → Type 0) (a b : Option Told) → IsErrAnd r P → b ≡ a → Run Keeps (Syncs r path) a b
not_synced path (Ok x) P a b h same = absurd h
not_synced path (Err x) P a b h same = subst (λ (o : Option Told). Run Keeps Keeps a o) (sym same) (keeps_start a)

-- where each moment keeps all, each is good
pub kept_since : (T : List File) (forgotten : List (List ℕ)) (a b : Option Told) → IfTold (λ t. AllFit T t.now) a → Run Keeps Keeps a b → GoodSince T forgotten a b
kept_since T forgotten None None fit run = tt
kept_since T forgotten None (Some u) fit run = absurd run
kept_since T forgotten (Some t) None fit run = absurd run
kept_since T forgotten (Some t) (Some u) fit run =
    since_weaker (Keeps t.now) (AllGood T forgotten t.now) (Some t) (Some u) (λ d keeps. fewer_good T forgotten t.now t.now d keeps.images (fit_good T forgotten t.now fit)) run.0
