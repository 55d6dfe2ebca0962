-- What a writer's calls do on the disk, from what the depot's calls say.
use Rattle.std.proofs.Common.{◌≡◌, inr, ℕ, Bool, true, false, ◌||◌, List, [], length, Option, Some, None, Result, Ok, Err, refl, ap}
use Rattle.std.specs.Prelude.{IsErrOf}
use Rattle.std.specs.Result.{IsErrAnd}
use Rattle.wdt_units.specs.Tree.{File}
use Rattle.wdt_depot.specs.Disk.{Disk, made, wrote}
use Rattle.wdt_depot.specs.Moments.{IfTold, MayDo, OneStep, Told}
use Rattle.wdt_depot.specs.Programs.{Drive, Ran, run_make}
use Rattle.wdt_depot.specs.State.{Counts, State}
use Rattle.wdt_depot.specs.declared.failure.DepotFail.{DepotFail}
use Rattle.wdt_depot.specs.declared.failure.DepotFail.TheVariants as depot
use Rattle.wdt_logfmt.specs.View.{NamedFile}
use Rattle.wdt_good.specs.Calls.{run_piece}
use Rattle.wdt_good.specs.Changing.{MayWrite}
use Rattle.wdt_good.specs.LogState.{LogOf}
use Rattle.wdt_good.specs.Logged.{AllFit, GoodSince}
use Rattle.wdt_writer.specs.declared.fail.WriteFail.{WriteFail}
use Rattle.wdt_writer.specs.declared.fail.WriteFail.TheVariants.{Disk as DiskFail, NoMemory}
use Rattle.wdt_writer.specs.Answers.{of_depot}
use Rattle.wdt_writer.specs.Calls.{CanWrite, UsesDisk}
use Rattle.wdt_writer.specs.PlainWriter.{made_by, make_by}

-- the counts say the same of another failure that comes exactly with the first
counts_as : (P Q : Type 0) (s0 s1 : State) → (Q → P) → (P → Q) → Counts P s0 s1 → Counts Q s0 s1
counts_as P Q s0 s1 f g counts =
    record {
      faults = counts.faults;
      own = counts.own;
      own_then = counts.own_then;
      slips = counts.slips;
      rose = λ q. counts.rose (f q);
      cause = λ q. counts.cause (f q);
      struck = counts.struck;
      fine = λ fine. counts.fine (λ p. fine (g p));
    }

-- what a call of the depot says that changes the disk at most once
pub record Says (allowed : List NamedFile → Disk → Type 0) (done : Disk → Disk) (program : Drive → Bool × Drive) (result : Result (Unit {0}) DepotFail) (old new : State) : Type 0 where
  pub images : (version : ℕ) (T : List File) (fs : List NamedFile) (end : ℕ) → IfTold (λ t. LogOf version fs end t.now) old.told → IfTold (λ t. AllFit T t.now) old.told → IfTold (λ t. allowed fs t.now) old.told
      → GoodSince T [] old.told new.told
  pub log : (version : ℕ) (fs : List NamedFile) (end : ℕ) → IfTold (λ t. LogOf version fs end t.now) old.told → IfTold (λ t. LogOf version fs end t.now) new.told
  pub step : OneStep (MayDo done result) old.told new.told
  pub exact : Ran program result old new
  pub spots : new.spots ≡ []
  pub counts : Counts (IsErrOf result depot.Failed) old new

-- what was done may have been done
step_have : (R : Type 0) (done : Disk → Disk) (x : Unit {0}) (e : WriteFail) (a b : Option Told) → OneStep (MayDo {T = Unit {0}} {E = DepotFail} done (Ok x)) a b → OneStep (MayDo {T = R} {E = WriteFail} done (Err e)) a b
step_have R done x e None None step = tt
step_have R done x e None (Some u) step = absurd step
step_have R done x e (Some t) None step = absurd step
step_have R done x e (Some t) (Some u) step = (inr step.0, step.1)

module _ {R : Type 0} (allowed : List NamedFile → Disk → Type 0) (done : Disk → Disk) (program : Drive → Bool × Drive) (s0 s1 : State) where
  -- the depot's call failed, and with it the writer's
  pub uses_err : (q : Result R WriteFail) (e : DepotFail) → IsErrAnd q (λ y. y ≡ of_depot e) → Says allowed done program (Err e) s0 s1 → UsesDisk allowed done program q s0 s1
  uses_err (Ok x) e h says = absurd h
  uses_err (Err y) depot.Failed h says =
      record {
        images = says.images;
        log = says.log;
        step = says.step;
        exact = λ other quiet. says.exact (λ m. absurd (cc)) quiet;
        spots = says.spots;
        counts = counts_as _ (IsErrOf {T = R} (Err y) DiskFail) s0 s1 (λ q. refl) (λ p. ap (λ (z : WriteFail). Err z) h) says.counts;
      }
  uses_err (Err y) depot.NoMemory h says =
      record {
        images = says.images;
        log = says.log;
        step = says.step;
        exact = λ other quiet. absurd (other (ap (λ (z : WriteFail). Err z) h));
        spots = says.spots;
        counts = counts_as _ (IsErrOf {T = R} (Err y) DiskFail) s0 s1 (λ q. absurd (let wrong : NoMemory ≡ DiskFail = cc in cc)) (λ p. absurd (cc)) says.counts;
      }

  -- it was done
  pub uses_ok : (y : R) (x : Unit {0}) → Says allowed done program (Ok x) s0 s1 → UsesDisk allowed done program (Ok y) s0 s1
  uses_ok y x says =
      record {
        images = says.images;
        log = says.log;
        step = says.step;
        exact = λ other quiet. says.exact (λ m. absurd (cc)) quiet;
        spots = says.spots;
        counts = counts_as _ (IsErrOf {T = R} {E = WriteFail} (Ok y) DiskFail) s0 s1 (λ q. absurd (cc)) (λ p. absurd (cc)) says.counts;
      }

  -- it was done, and then there was no memory
  pub uses_then : (q : Result R WriteFail) (x : Unit {0}) → IsErrAnd q (λ y. y ≡ NoMemory) → Says allowed done program (Ok x) s0 s1 → UsesDisk allowed done program q s0 s1
  uses_then (Ok z) x h says = absurd h
  uses_then (Err y) x h says =
      record {
        images = says.images;
        log = says.log;
        step = step_have R done x y s0.told s1.told says.step;
        exact = λ other quiet. absurd (other (ap (λ (z : WriteFail). Err z) h));
        spots = says.spots;
        counts = counts_as _ (IsErrOf {T = R} (Err y) DiskFail) s0 s1 (λ q. absurd (let wrong : NoMemory ≡ DiskFail = cc in cc)) (λ p. absurd (cc)) says.counts;
      }

-- neither is so, and so not the first
pub or_first : (x y : Bool) → (x || y) ≡ false → x ≡ false
or_first true y e = absurd (cc)
or_first false y e = refl

-- ---- by another call of the writer

module _ {A B : Type 0} (allowed : List NamedFile → Disk → Type 0) (done : Disk → Disk) (program : Drive → Bool × Drive) (s0 s1 : State) where
  pub as_ok : (x : A) (y : B) → UsesDisk allowed done program (Ok x) s0 s1 → UsesDisk allowed done program (Ok y) s0 s1
  as_ok x y uses =
      record {
        images = uses.images;
        log = uses.log;
        step = uses.step;
        exact = λ other quiet. uses.exact (λ m. absurd (cc)) quiet;
        spots = uses.spots;
        counts = counts_as _ (IsErrOf {T = B} {E = WriteFail} (Ok y) DiskFail) s0 s1 (λ q. absurd (cc)) (λ p. absurd (cc)) uses.counts;
      }

  pub as_err : (q : Result B WriteFail) (e : WriteFail) → IsErrAnd q (λ y. y ≡ e) → UsesDisk {R = A} allowed done program (Err e) s0 s1 → UsesDisk allowed done program q s0 s1
  as_err (Ok z) e h uses = absurd h
  as_err (Err y) e h uses =
      record {
        images = uses.images;
        log = uses.log;
        step = uses.step;
        exact = λ other quiet. uses.exact (λ m. other (let same : y ≡ NoMemory = cc in ap (λ (z : WriteFail). Err z) same)) quiet;
        spots = uses.spots;
        counts = counts_as _ (IsErrOf {T = B} (Err y) DiskFail) s0 s1 (λ q. (let same : e ≡ DiskFail = cc in ap (λ (z : WriteFail). Err z) same)) (λ p. (let same : y ≡ DiskFail = cc in ap (λ (z : WriteFail). Err z) same)) uses.counts;
      }

-- ---- what the depot's calls say

some_size : (told : Option Told) (P : ℕ → Told → Type 0) (G : Type 0) → ((size : ℕ) → IfTold (P size) told → G) → IfTold (λ t. (size : ℕ) × P size t) told → G
some_size None P G f h = f 0 tt
some_size (Some t) P G f h = f h.0 h.1

-- a write says so
pub write_says : (path : List ℕ) (place : ℕ) (bytes : List ℕ) (r : Result (Unit {0}) DepotFail) (s0 s1 : State)
    → ((version : ℕ) (T : List File) (fs : List NamedFile) (end size : ℕ) → IfTold (λ t. LogOf version fs end t.now) s0.told → IfTold (λ t. AllFit T t.now) s0.told → IfTold (λ t. MayWrite path size place (length bytes) fs t.now) s0.told
    → GoodSince T [] s0.told s1.told)
    → ((version : ℕ) (fs : List NamedFile) (end : ℕ) → IfTold (λ t. LogOf version fs end t.now) s0.told → IfTold (λ t. LogOf version fs end t.now) s1.told) → OneStep (MayDo (wrote path place bytes) r) s0.told s1.told
    → Ran (run_piece path place bytes) r s0 s1 → s1.spots ≡ [] → Counts (IsErrOf r depot.Failed) s0 s1 → Says (CanWrite path place (length bytes)) (wrote path place bytes) (run_piece path place bytes) r s0 s1
write_says path place bytes r s0 s1 images log step exact spots counts =
    record {
      images = λ version T fs end log_of fit can. some_size s0.told (λ size t. MayWrite path size place (length bytes) fs t.now) (GoodSince T [] s0.told s1.told) (λ size may. images version T fs end size log_of fit may) can;
      log = log;
      step = step;
      exact = exact;
      spots = spots;
      counts = counts;
    }

when_told : (P : Type 0) (T : List File) (R : Disk → Disk → Type 0) (a b : Option Told) → OneStep R a b → (P → GoodSince T [] a b) → IfTold (λ t. P) a → GoodSince T [] a b
when_told P T R None None step f h = tt
when_told P T R None (Some u) step f h = absurd step
when_told P T R (Some t) b step f h = f h

-- a new file is made, and it says so
pub make_says : (new : Bool) (named : List NamedFile → Bool) (path : List ℕ) (r : Result (Unit {0}) DepotFail) (s0 s1 : State) → new ≡ true
    → ((version : ℕ) (T : List File) (fs : List NamedFile) (end : ℕ) → IfTold (λ t. LogOf version fs end t.now) s0.told → IfTold (λ t. AllFit T t.now) s0.told → named fs ≡ false → GoodSince T [] s0.told s1.told)
    → ((version : ℕ) (fs : List NamedFile) (end : ℕ) → IfTold (λ t. LogOf version fs end t.now) s0.told → IfTold (λ t. LogOf version fs end t.now) s1.told) → OneStep (MayDo (made path) r) s0.told s1.told
    → Ran (run_make path) r s0 s1 → s1.spots ≡ [] → Counts (IsErrOf r depot.Failed) s0 s1 → Says (λ fs d. new ≡ true → named fs ≡ false) (made_by path new) (make_by path new) r s0 s1
make_says false named path r s0 s1 is images log step exact spots counts = absurd (cc)
make_says true named path r s0 s1 is images log step exact spots counts =
    record {
      images = λ version T fs end log_of fit can. when_told (true ≡ true → named fs ≡ false) T (MayDo (made path) r) s0.told s1.told step (λ told. images version T fs end log_of fit (told refl)) can;
      log = log;
      step = step;
      exact = exact;
      spots = spots;
      counts = counts;
    }
