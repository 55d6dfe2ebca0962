-- Behind the syncs the disk is ready for the batch.
use Rattle.std.proofs.Common.{◌≡◌, ◌⊎◌, inl, inr, ℕ, Bool, true, false, List, [], ◌∷◌, Option, Some, None, Result, Ok, Err, refl, sym, ap, ◌∙◌, subst}
use Rattle.std.specs.Prelude.{◌↔◌, IfErr, IsErrOf, IsTrue, OnErr, OnOk, option_map}
use Rattle.wdt_units.specs.Tree.{File}
use Rattle.wdt_depot.specs.Disk.{Disk, DiskFile}
use Rattle.wdt_depot.specs.Moments.{IfTold, Run, Told}
use Rattle.wdt_logfmt.specs.declared.entry.LogEntry.{LogEntry}
use Rattle.wdt_logfmt.specs.View.{Meaning, NamedFile}
use Rattle.wdt_good.specs.Good.{Each}
use Rattle.wdt_good.specs.Growing.{IsAmong}
use Rattle.wdt_good.specs.Logged.{AllFit, GoodSince}
use Rattle.wdt_good.specs.LogState.{IsReady, LogOf}
use Rattle.wdt_good.specs.Sweeping.{AreStill, IsStill, Keeps, Swept}
use Rattle.wdt_good.proofs.ForCallers.{fewer_fit, join_good, kept_since, log_stays, reads_good, still_ready}
use Rattle.wdt_log.specs.declared.fail.LogFail.{LogFail}
use Rattle.wdt_log.specs.declared.fail.LogFail.TheVariants.{Disk as DiskFail, BadLog, Shut, NoMemory}
use Rattle.wdt_log.specs.Answers.{IsNotBad}
use Rattle.wdt_log.specs.OpenLog.{OpenLog, Rests}
use Rattle.wdt_log.specs.Others.{OthersStand}
use Rattle.wdt_log.specs.Flushing.{AllStand, HasLanded, IsPathAmong, ReadsStand}

-- ---- the files

still_among : (d : Disk) (paths : List (List ℕ)) (path : List ℕ) → Each (IsStill d) paths → IsPathAmong path paths → IsStill d path
still_among d [] path all among = absurd among
still_among d (p ∷ paths) path all (inl is) = subst (IsStill d) is all.0
still_among d (p ∷ paths) path all (inr more) = still_among d paths path all.1 more

are_still : (fs gs : List NamedFile) (d : Disk) (paths : List (List ℕ)) → Each (IsStill d) paths → Each (λ f. IsPathAmong f.have.path paths ⊎ IsAmong f fs) gs → AreStill fs gs d
are_still fs [] d paths all synced = tt
are_still fs (g ∷ gs) d paths all synced = (go synced.0, are_still fs gs d paths all synced.1)
  where
    go : IsPathAmong g.have.path paths ⊎ IsAmong g fs → IsStill d g.have.path ⊎ IsAmong g fs
    go (inl among) = inl (still_among d paths g.have.path all among)
    go (inr logged) = inr logged

-- ---- the log at rest

rests_on : (log : OpenLog) (d e : Disk) → Keeps d e → Rests log d → Rests log e
rests_on log d e keeps rests = log_stays log.version log.meaning.files log.meaning.end d rests e keeps.log

-- whether or not what landed is the tree's
pub rests_after : (log : OpenLog) (a b : Option Told) → Run Keeps Keeps a b → IfTold (λ t. Rests log t.now) a → IfTold (λ t. Rests log t.now) b
rests_after log None None run rests = tt
rests_after log None (Some u) run rests = absurd run
rests_after log (Some t) None run rests = absurd run
rests_after log (Some t) (Some u) run rests = rests_on log t.now u.now run.1 rests

by_meaning : (old new : OpenLog) (b : Option Told) → new.version ≡ old.version → new.meaning ≡ old.meaning → IfTold (λ t. Rests old t.now) b → IfTold (λ t. Rests new t.now) b
by_meaning old new b version meaning rests =
    subst (λ (v : ℕ). IfTold (λ t. LogOf v new.meaning.files new.meaning.end t.now) b) (sym version)
    (subst (λ (m : Meaning). IfTold (λ t. LogOf old.version m.files m.end t.now) b) (sym meaning) rests)

never : {A : Type 0} (b : Bool) → IsTrue b → b ≡ false → A
never true holds isnt = absurd (cc)
never false holds isnt = absurd (cc)

-- behind an append the log rests unless it is shut
pub rests_behind : (r : Result (Unit {0}) LogFail) (old new : OpenLog) (a b : Option Told) → OnOk r (IfTold (λ t. Rests old t.now) a → IfTold (λ t. Rests new t.now) b) → OnErr r (new.meaning ≡ old.meaning) → new.version ≡ old.version
    → (IsErrOf r NoMemory → IfTold (λ t. Rests old t.now) a → IfTold (λ t. Rests old t.now) b) → (IsErrOf r Shut ↔ IsTrue old.shut) → (IsTrue new.shut ↔ (IsTrue old.shut ⊎ IsErrOf r DiskFail)) → IfErr r (λ fail. IsNotBad fail)
    → new.shut ≡ false → IfTold (λ t. Rests old t.now) a → IfTold (λ t. Rests new t.now) b
rests_behind (Ok x) old new a b logged same version memory shut shuts good unshut rests = logged rests
rests_behind (Err NoMemory) old new a b logged same version memory shut shuts good unshut rests = by_meaning old new b version same (memory refl rests)
rests_behind (Err DiskFail) old new a b logged same version memory shut shuts good unshut rests = never new.shut (shuts.1 (inr refl)) unshut
rests_behind (Err Shut) old new a b logged same version memory shut shuts good unshut rests = never new.shut (shuts.1 (inl (shut.0 refl))) unshut
rests_behind (Err (BadLog at)) old new a b logged same version memory shut shuts good unshut rests = absurd good

-- ---- what landed

module _ (T : List File) (log : OpenLog) (paths : List (List ℕ)) (gs : List NamedFile) (es : List LogEntry) where
  ready_now : (d e : Disk) → HasLanded T log paths gs es d → Swept paths d e → IsReady log.version T log.meaning.files gs es e
  ready_now d e landed swept =
      still_ready log.version T log.meaning.files gs log.meaning.end e (rests_on log d e swept.keeps landed.rests) (fewer_fit T d e swept.keeps.images landed.fit) (reads_good T gs d e swept.keeps landed.reads)
      (are_still log.meaning.files gs e paths swept.still landed.synced) es landed.adds

  pub ready_after : (a b : Option Told) → Run Keeps (Swept paths) a b → IfTold (λ t. HasLanded T log paths gs es t.now) a → IfTold (λ t. IsReady log.version T log.meaning.files gs es t.now) b
  ready_after None None run landed = tt
  ready_after None (Some u) run landed = absurd run
  ready_after (Some t) None run landed = absurd run
  ready_after (Some t) (Some u) run landed = ready_now t.now u.now landed run.1

  fit_told : (a : Option Told) → IfTold (λ t. HasLanded T log paths gs es t.now) a → IfTold (λ t. AllFit T t.now) a
  fit_told None landed = tt
  fit_told (Some t) landed = landed.fit

  pub rests_told : (a : Option Told) → IfTold (λ t. HasLanded T log paths gs es t.now) a → IfTold (λ t. Rests log t.now) a
  rests_told None landed = tt
  rests_told (Some t) landed = landed.rests

  -- the syncs alone
  pub part_good : (forgotten : List (List ℕ)) (a b : Option Told) → Run Keeps Keeps a b → IfTold (λ t. HasLanded T log paths gs es t.now) a → GoodSince T forgotten a b
  part_good forgotten a b run landed = kept_since T forgotten a b (fit_told a landed) run

  -- the syncs, and the append behind them
  pub all_good : (forgotten : List (List ℕ)) (a b c : Option Told) → Run Keeps Keeps a b → IfTold (λ t. HasLanded T log paths gs es t.now) a → GoodSince T forgotten b c → GoodSince T forgotten a c
  all_good forgotten a b c run landed good = join_good T [] forgotten a b c (part_good [] a b run landed) good

-- ---- reads

pub reads_swept : (a b : Option Told) → Run Keeps Keeps a b → ReadsStand a b
reads_swept None None run = tt
reads_swept None (Some u) run = run
reads_swept (Some t) None run = run
reads_swept (Some t) (Some u) run = λ path log new. run.1.reads path

pub reads_on : (a b c : Option Told) → Run Keeps Keeps a b → OthersStand b c → ReadsStand a c
reads_on None None None run others = tt
reads_on None None (Some v) run others = others
reads_on None (Some u) c run others = absurd run
reads_on (Some t) None c run others = absurd run
reads_on (Some t) (Some u) None run others = others
reads_on (Some t) (Some u) (Some v) run others = λ path log new. ap (option_map (λ (f : DiskFile). f.seen)) (others path log new) ∙ run.1.reads path

-- ---- slips

slips_go : (n m k : ℕ) (all : List (List ℕ)) (a b : Option Told) → IfTold (λ t. AllStand all t.now → m ≡ n) a → IfTold (λ t. k ≡ m) b → Run Keeps Keeps a b → IfTold (λ t. AllStand all t.now → k ≡ n) a
slips_go n m k all None b one two run = tt
slips_go n m k all (Some t) None one two run = absurd run
slips_go n m k all (Some t) (Some u) one two run = λ stand. two ∙ one stand

-- slips of a flush: those of the syncs and of the append
pub slips_joined : (n m k : ℕ) (all : List (List ℕ)) (a b : Option Told) → IfTold (λ t. AllStand all t.now → m ≡ n) a → IfTold (λ t. k ≡ m) b → Run Keeps Keeps a b → IfTold (λ t. AllStand all t.now → k ≡ n) a
slips_joined n m k all a b one two run = slips_go n m k all a b one two run
