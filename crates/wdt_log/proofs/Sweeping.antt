-- Files are synced, one after another.
use Rattle.std.proofs.Common.{◌≡◌, ◌⊎◌, ℕ, zero, suc, ◌<◌, ◌≤◌, ◌+◌, Bool, true, false, List, [], ◌∷◌, ◌++◌, length, map, take, drop, get_or, Option, Some, None, Result, Ok, Err, refl, sym, ap, ◌∙◌, subst, arith}
use Rattle.std.specs.Prelude.{IsErrOf, IsSome, option_map}
use Rattle.std.specs.Result.{IsErrAnd}
use Rattle.std.proofs.lemmas.List.{map-append, take_more}
use Rattle.wdt_units.specs.Counts.{Rises}
use Rattle.wdt_depot.specs.Disk.{Disk, DiskFile}
use Rattle.wdt_depot.specs.Moments.{IfTold, Run, Told}
use Rattle.wdt_depot.specs.Programs.{Calls, Drive, IsQuiet, both, drive_of, onward}
use Rattle.wdt_depot.specs.State.{Counts, State}
use Rattle.wdt_depot.specs.declared.failure.DepotFail.{DepotFail}
use Rattle.wdt_depot.specs.declared.failure.DepotFail.TheVariants as depot
use Rattle.wdt_depot.proofs.ForCallers.{calls_both, calls_first, quiet_parts, run_join, run_start}
use Rattle.wdt_good.specs.Good.{Each}
use Rattle.wdt_good.specs.Sweeping.{IsStill, Keeps, Swept}
use Rattle.wdt_good.proofs.ForCallers.{keeps_itself, keeps_more, swept_more}
use Rattle.wdt_log.specs.Answers.{RanLog, of_depot}
use Rattle.wdt_log.specs.declared.fail.LogFail.{LogFail}
use Rattle.wdt_log.specs.declared.fail.LogFail.TheVariants.{NoMemory}
use Rattle.wdt_good.specs.Calls.{run_sync_file, run_syncs}
use Rattle.wdt_log.specs.Flushing.{AllStand}

-- ---- lists

split_at : {A : Type 0} (xs : List A) (i : ℕ) (d : A) → i < length xs → xs ≡ take i xs ++ get_or xs i d ∷ drop (suc i) xs
split_at [] i d lt = absurd (omega (arith, lt))
split_at (x ∷ xs) zero d lt = refl
split_at (x ∷ xs) (suc i) d lt = ap (λ (ys : List _). x ∷ ys) (split_at xs i d (omega (arith, lt)))

each_at : {A : Type 0} (P : A → Type 0) (xs : List A) (k : ℕ) (d : A) → Each P xs → k < length xs → P (get_or xs k d)
each_at P [] k d all lt = absurd (omega (arith, lt))
each_at P (x ∷ xs) zero d all lt = all.0
each_at P (x ∷ xs) (suc k) d all lt = each_at P xs k d all.1 (omega (arith, lt))

each_map : {A B : Type 0} (P : B → Type 0) (f : A → B) (xs : List A) → Each P (map f xs) → Each (λ x. P (f x)) xs
each_map P f [] all = tt
each_map P f (x ∷ xs) all = (all.0, each_map P f xs all.1)

module _ {A : Type 0} (f : A → List ℕ) (xs : List A) (i : ℕ) (x : A) (lt : i < length xs) (is : x ≡ get_or xs i x) where
  -- what holds of each of the paths holds of the path of one
  pub at_one : (P : List ℕ → Type 0) → Each P (map f xs) → P (f x)
  at_one P all = subst (λ (y : A). P (f y)) (sym is) (each_at (λ y. P (f y)) xs i x (each_map P f xs all) lt)

  pub paths_more : map f (take (i + 1) xs) ≡ map f (take i xs) ++ f x ∷ []
  paths_more = ap (map f) (take_more xs i x lt) ∙ map-append f (take i xs) (get_or xs i x ∷ []) ∙ ap (λ (y : A). map f (take i xs) ++ f y ∷ []) (sym is)

  pub paths_split : map f xs ≡ map f (take i xs) ++ f x ∷ map f (drop (suc i) xs)
  paths_split = ap (map f) (split_at xs i x lt) ∙ map-append f (take i xs) (get_or xs i x ∷ drop (suc i) xs) ∙ ap (λ (y : A). map f (take i xs) ++ f y ∷ map f (drop (suc i) xs)) (sym is)

-- ---- what is kept

-- nothing is synced yet
pub swept_none : (a : Option Told) → Run Keeps (Swept []) a a
swept_none a = run_start Keeps (Swept []) a (go a)
  where
    go : (b : Option Told) → IfTold (λ t. Swept [] t.now t.now) b
    go None = tt
    go (Some t) = record { keeps = keeps_itself t.now; still = tt }

-- one more is
pub swept_one : (paths : List (List ℕ)) (path : List ℕ) (a b c : Option Told) → Run Keeps (Swept paths) a b → Run Keeps (λ d e. Keeps d e × IsStill e path) b c → Run Keeps (Swept (paths ++ path ∷ [])) a c
swept_one paths path a b c run one =
    run_join Keeps (Swept paths) Keeps (λ d e. Keeps d e × IsStill e path) Keeps (Swept (paths ++ path ∷ [])) a b c run one (λ d x k. k) (λ d x y s k. keeps_more d x y s.keeps k)
    (λ d x y s k. swept_more paths path d x y s k.0 k.1)

-- the next failed
pub swept_part : (paths : List (List ℕ)) (a b c : Option Told) → Run Keeps (Swept paths) a b → Run Keeps Keeps b c → Run Keeps Keeps a c
swept_part paths a b c run part = run_join Keeps (Swept paths) Keeps Keeps Keeps Keeps a b c run part (λ d x k. k) (λ d x y s k. keeps_more d x y s.keeps k) (λ d x y s k. keeps_more d x y s.keeps k)

-- ---- the program

-- programs that do the same on each drive
calls_as : (f g : Drive → Bool × Drive) (ok : Bool) (a b : Option Drive) → ((p : Drive) → f p ≡ g p) → Calls f ok a b → Calls g ok a b
calls_as f g ok None None same p = refl
calls_as f g ok None (Some y) same p = cc
calls_as f g ok (Some x) None same p = cc
calls_as f g ok (Some x) (Some y) same p = sym (ap (λ (r : Bool × Drive). Some r) (same x)) ∙ p

-- more files
run_syncs-append : (ps qs : List (List ℕ)) (p : Drive) → both (run_syncs ps) (run_syncs qs) p ≡ run_syncs (ps ++ qs) p
run_syncs-append [] qs p = refl
run_syncs-append (x ∷ ps) qs p = go (run_syncs-append ps qs) (run_sync_file x p).0 (run_sync_file x p).1
  where
    go : ((d : Drive) → both (run_syncs ps) (run_syncs qs) d ≡ run_syncs (ps ++ qs) d) → (b : Bool) (d : Drive) → onward (run_syncs qs) (onward (run_syncs ps) b d).0 (onward (run_syncs ps) b d).1 ≡ onward (run_syncs (ps ++ qs)) b d
    go more true d = more d
    go more false d = refl

onward_idle : (b : Bool) (d : Drive) → (b, d) ≡ onward (λ e. (true, e)) b d
onward_idle true d = refl
onward_idle false d = refl

-- one file alone
only : (path : List ℕ) (ok : Bool) (a b : Option Drive) → Calls (run_sync_file path) ok a b → Calls (run_syncs (path ∷ [])) ok a b
only path ok a b called = calls_as (run_sync_file path) (run_syncs (path ∷ [])) ok a b (λ d. onward_idle (run_sync_file path d).0 (run_sync_file path d).1) called

module _ (paths : List (List ℕ)) (path : List ℕ) (s0 s1 s2 : State) where
  pub syncs_more : s0.own ≤ s1.own → s1.own ≤ s2.own → (IsQuiet s0 s1 → Calls (run_syncs paths) true (drive_of s0) (drive_of s1)) → (IsQuiet s1 s2 → Calls (run_sync_file path) true (drive_of s1) (drive_of s2))
      → IsQuiet s0 s2 → Calls (run_syncs (paths ++ path ∷ [])) true (drive_of s0) (drive_of s2)
  syncs_more low high before now quiet =
      let q = quiet_parts s0 s1 s2 low high quiet in
      calls_as (both (run_syncs paths) (run_syncs (path ∷ []))) (run_syncs (paths ++ path ∷ [])) true (drive_of s0) (drive_of s2) (run_syncs-append paths (path ∷ []))
      (calls_both (run_syncs paths) (run_syncs (path ∷ [])) true (drive_of s0) (drive_of s1) (drive_of s2) (before q.0) (only path true (drive_of s1) (drive_of s2) (now q.1)))

  -- a file's sync failed: no further one is made
  pub syncs_failed : (rest : List (List ℕ)) → s0.own ≤ s1.own → s1.own ≤ s2.own → (IsQuiet s0 s1 → Calls (run_syncs paths) true (drive_of s0) (drive_of s1)) → (IsQuiet s1 s2 → Calls (run_sync_file path) false (drive_of s1) (drive_of s2))
      → IsQuiet s0 s2 → Calls (run_syncs (paths ++ path ∷ rest)) false (drive_of s0) (drive_of s2)
  syncs_failed rest low high before now quiet =
      let q = quiet_parts s0 s1 s2 low high quiet in
      calls_as (both (run_syncs paths) (run_syncs (path ∷ rest))) (run_syncs (paths ++ path ∷ rest)) false (drive_of s0) (drive_of s2) (run_syncs-append paths (path ∷ rest))
      (calls_both (run_syncs paths) (run_syncs (path ∷ rest)) false (drive_of s0) (drive_of s1) (drive_of s2) (before q.0)
      (calls_first (run_sync_file path) (run_syncs rest) (drive_of s1) (drive_of s2) (now q.1)))

-- an Err's program is that of a failed call
same_fail : (e : DepotFail) (z : LogFail) → z ≡ of_depot e → (IsErrOf {T = Unit {0}} (Err e) depot.NoMemory) → z ≡ NoMemory
same_fail depot.NoMemory z is memory = is
same_fail depot.Failed z is memory = absurd (cc)

pub ran_failed : (f : Drive → Bool × Drive) (r : Result (Unit {0}) LogFail) (e : DepotFail) (s0 s1 : State) → IsErrAnd r (λ z. z ≡ of_depot e)
    → ((IsErrOf {T = Unit {0}} (Err e) depot.NoMemory → ⊥) → IsQuiet s0 s1 → Calls f false (drive_of s0) (drive_of s1)) → RanLog f r s0 s1
ran_failed f (Ok x) e s0 s1 h ran = absurd h
ran_failed f (Err z) e s0 s1 h ran = λ memory quiet. ran (λ out. memory (ap (λ (w : LogFail). Err w) (same_fail e z h out))) quiet

-- ---- counts and slips

-- counts behind calls of which none failed
pub counts_more : (F : Type 0) (s0 s1 s2 : State) → Counts ⊥ s0 s1 → Counts F s1 s2 → Counts F s0 s2
counts_more F s0 s1 s2 a b =
    let same = a.fine (λ none. none) in
    record {
      faults = omega (arith, a.faults, b.faults);
      own = omega (arith, a.own, b.own);
      own_then = b.own_then ∙ a.own_then;
      slips = omega (arith, a.slips, b.slips);
      rose = λ f. subst (λ (n : ℕ). Rises n s2.faults) same.0 (b.rose f);
      cause = λ f. subst (λ (n : ℕ). IsSome s2.stop.struck ⊎ Rises n s2.own) same.1 (b.cause f);
      struck = λ s. b.struck s ∙ same.1;
      fine = λ f. ((b.fine f).0 ∙ same.0, (b.fine f).1 ∙ same.1);
    }

-- a call that was done made no fault
pub counts_done : (F : Type 0) (s0 s1 : State) → (F → ⊥) → Counts F s0 s1 → Counts ⊥ s0 s1
counts_done F s0 s1 done c = record {
  faults = c.faults;
  own = c.own;
  own_then = c.own_then;
  slips = c.slips;
  rose = λ none. absurd none;
  cause = λ none. absurd none;
  struck = c.struck;
  fine = λ none. c.fine done;
}

pub not_failed : (x : Unit {0}) → IsErrOf {E = DepotFail} (Ok x) depot.Failed → ⊥
not_failed x is = cc

pub not_refused : (x : Unit {0}) → IsErrOf {E = DepotFail} (Ok x) depot.NoMemory → ⊥
not_refused x is = cc

some_by : (o x : Option DiskFile) → option_map (λ (f : DiskFile). f.seen) x ≡ option_map (λ (f : DiskFile). f.seen) o → IsSome o → IsSome x
some_by None x same some = absurd (cc)
some_by (Some f) None same some = absurd (cc)
some_by (Some f) (Some g) same some = refl

still_stands : (path : List ℕ) (d e : Disk) → Keeps d e → IsSome (d path) → IsSome (e path)
still_stands path d e keeps stands = some_by (d path) (e path) (keeps.reads path) stands

slips_go : (all paths : List (List ℕ)) (path : List ℕ) (n m k : ℕ) (a b : Option Told) → ((d : Disk) → AllStand all d → IsSome (d path)) → Run Keeps (Swept paths) a b → IfTold (λ t. AllStand all t.now → m ≡ n) a → IfTold (λ t. IsSome (t.now path) → k ≡ m) b → IfTold (λ t. AllStand all t.now → k ≡ n) a
slips_go all paths path n m k None b among run before now = tt
slips_go all paths path n m k (Some t) None among run before now = absurd run
slips_go all paths path n m k (Some t) (Some u) among run before now = λ stand. now (still_stands path t.now u.now run.1.keeps (among t.now stand)) ∙ before stand

-- a file more was synced, or not
pub slips_more : (all paths : List (List ℕ)) (path : List ℕ) (s0 s1 s2 : State) → ((d : Disk) → AllStand all d → IsSome (d path)) → Run Keeps (Swept paths) s0.told s1.told → IfTold (λ t. AllStand all t.now → s1.slips ≡ s0.slips) s0.told
    → IfTold (λ t. IsSome (t.now path) → s2.slips ≡ s1.slips) s1.told → IfTold (λ t. AllStand all t.now → s2.slips ≡ s0.slips) s0.told
slips_more all paths path s0 s1 s2 among run before now = slips_go all paths path s0.slips s1.slips s2.slips s0.told s1.told among run before now

pub slips_started : (n : ℕ) (all : List (List ℕ)) (a : Option Told) → IfTold (λ t. AllStand all t.now → n ≡ n) a
slips_started n all None = tt
slips_started n all (Some t) = λ stand. refl
