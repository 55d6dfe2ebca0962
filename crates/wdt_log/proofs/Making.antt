-- A log is made, or one that is there is synced.
use Rattle.std.proofs.Common.{◌≡◌, ◌⊎◌, inl, inr, ℕ, ◌<◌, length, length-append, List, [], ◌∷◌, true, false, Option, Some, None, Result, Ok, refl, sym, ap, ◌∙◌, subst, arith}
use Rattle.std.specs.Prelude.{Err, IfOk, option_map}
use Rattle.std.specs.Result.{IsErrAnd}
use Rattle.std.specs.Str.{bytes_eq}
use Rattle.wdt_units.specs.Tree.{File}
use Rattle.wdt_depot.specs.Disk.{Disk, DiskFile, Image, IsImage, IsSoundDisk, MayLeave, clean, made, place_file, placed, seen_of, sync_file, synced_at, with_file, write_file, wrote}
use Rattle.wdt_depot.specs.Moments.{IfTold, Run, Told}
use Rattle.wdt_depot.proofs.ForCallers.{image_of_clean, run_as, run_join, seen_is_image, since_weaker, synced_images, with_file-other, with_file-same}
use Rattle.wdt_logfmt.specs.Meaning.{log_meaning}
use Rattle.wdt_logfmt.specs.Spelling.{header, new_log, written_version}
use Rattle.wdt_logfmt.specs.declared.view.LogView.{LogView}
use Rattle.wdt_logfmt.specs.View.{Meaning, NamedFile, is_view, meaning_of, names}
use Rattle.wdt_logfmt.proofs.ForCallers.{ends, means-closed, reaches-header, view_none}
use Rattle.wdt_good.specs.Good.{GoodFiles, IsGood, covers, log_of, log_path, meaning_in, new_log_path}
use Rattle.wdt_good.specs.LogState.{LogOf, SaysAs}
use Rattle.wdt_good.specs.Logged.{AllFit, AllGood, GoodSince, IsRemembered, LoggedAt, LoggedName}
use Rattle.wdt_depot.specs.Disk.{IfFile}
use Rattle.wdt_depot.specs.Moments.{MayDo, OneStep}
use Rattle.wdt_depot.specs.declared.failure.DepotFail.{DepotFail}
use Rattle.wdt_units.specs.declared.failures.Failed.{Failed}
use Rattle.wdt_units.specs.Path.{is_lawful}
use Rattle.wdt_units.proofs.Shared.{lawful-is}
use Rattle.wdt_good.proofs.ForCallers.{fit_good, ok_files}
use Rattle.wdt_log.specs.declared.fail.LogFail.{LogFail}
use Rattle.wdt_log.specs.declared.fail.LogFail.TheVariants.{Disk as DiskFail, BadLog, Shut, NoMemory}
use Rattle.wdt_log.specs.Opening.{IsMaking, IsSyncing, Makes, Syncs, made_new, placed_new, synced_new, written_new}
use Rattle.wdt_log.specs.Stages.{IsPut, Puts, stable}
use Rattle.wdt_log.proofs.Steps.{begun, called}
use Rattle.wdt_log.proofs.Torn.{over}

-- ---- images whose log means no file

abbrev MeansNothing : Image → Type 0
MeansNothing i = (m : Meaning) × (log_of i ≡ Ok m) × (m.files ≡ [])

none_left : (found : Option (List ℕ)) → MayLeave None found → found ≡ None
none_left None left = refl
none_left (Some b) left = absurd left

no_log : (d : Disk) (i : Image) → d log_path ≡ None → IsImage d i → MeansNothing i
no_log d i none image =
    let gone : i log_path ≡ None = none_left (i log_path) (subst (λ (o : Option DiskFile). MayLeave o (i log_path)) none (image log_path)) in
    (record { files = []; end = 0 }, ap meaning_in gone, refl)

empty_log : (d : Disk) (i : Image) → d log_path ≡ Some (clean new_log) → IsImage d i → MeansNothing i
empty_log d i there image = go (i log_path) refl (subst (λ (o : Option DiskFile). MayLeave o (i log_path)) there (image log_path))
  where
    go : (found : Option (List ℕ)) → i log_path ≡ found → MayLeave (Some (clean new_log)) found → MeansNothing i
    go None is left = absurd left
    go (Some b) is left = (record { files = []; end = 6 }, ap meaning_in (is ∙ ap Some (image_of_clean new_log b left)) ∙ means-closed 1 (header 1) [] 0 [] reaches-header (λ e. omega arith), refl)

nothing_good : (T : List File) (d : Disk) (i : Image) → d log_path ≡ None → IsSoundDisk d → MeansNothing i
    → IsGood T (λ path. IsRemembered [] path × LoggedName d path) (λ path. λ k. IsRemembered [] path × LoggedAt d path k) i
nothing_good T d i none sound means =
    let seen = seen_is_image d sound in
    let first = no_log d (seen_of d) none seen in
    record {
      meaning = means.0;
      means = means.1;
      files = go (means.0).files means.2;
      named = λ path asked. absurd (let l = asked.1 (seen_of d) seen in unnamed path (l.0).files (ok_files (log_of (seen_of d)) l.0 first.0 l.1 first.1 ∙ first.2) l.2);
      covered = λ path k asked. absurd (let l = asked.1 (seen_of d) seen in uncovered path k (l.0).files (ok_files (log_of (seen_of d)) l.0 first.0 l.1 first.1 ∙ first.2) l.2);
    }
  where
    go : (fs : List NamedFile) → fs ≡ [] → GoodFiles T i fs
    go [] is = tt
    go (f ∷ fs) is = absurd (cc)

    unnamed : (path : List ℕ) (fs : List NamedFile) → fs ≡ [] → names fs path ≡ true → ⊥
    unnamed path [] is h = cc
    unnamed path (f ∷ fs) is h = absurd (cc)

    uncovered : (path : List ℕ) (k : ℕ) (fs : List NamedFile) → fs ≡ [] → covers fs path k ≡ true → ⊥
    uncovered path k [] is h = cc
    uncovered path k (f ∷ fs) is h = absurd (cc)

-- ---- the making of a log

new_is_other : bytes_eq new_log_path log_path ≡ false
new_is_other = refl

module _ (d : Disk) (none : d log_path ≡ None) where
  log_of_made : made_new d log_path ≡ None
  log_of_made = with_file-other new_log_path log_path (Some (clean [])) d new_is_other ∙ none

  log_of_written : written_new d log_path ≡ None
  log_of_written = with_file-other new_log_path log_path (option_map (write_file 0 new_log) (made_new d new_log_path)) (made_new d) new_is_other ∙ log_of_made

  log_of_synced : synced_new d log_path ≡ None
  log_of_synced = with_file-other new_log_path log_path (option_map sync_file (written_new d new_log_path)) (written_new d) new_is_other ∙ log_of_written

  new_of_written : written_new d new_log_path ≡ Some (write_file 0 new_log (clean []))
  new_of_written = with_file-same new_log_path (option_map (write_file 0 new_log) (made_new d new_log_path)) (made_new d) ∙ ap (option_map (write_file 0 new_log)) (with_file-same new_log_path (Some (clean [])) d)

  seen_is : (write_file 0 new_log (clean [])).seen ≡ new_log
  unfolding write_file clean
  seen_is = over [] [] new_log 0 refl

  new_of_synced : synced_new d new_log_path ≡ Some (clean new_log)
  new_of_synced = with_file-same new_log_path (option_map sync_file (written_new d new_log_path)) (written_new d) ∙ ap (option_map sync_file) new_of_written ∙ ap (λ (l : List ℕ). Some (clean l)) seen_is

  log_of_placed : placed_new d log_path ≡ Some (clean new_log)
  log_of_placed =
      ap (λ (o : Option DiskFile). place_file new_log_path log_path o (synced_new d) log_path) new_of_synced
      ∙ with_file-same log_path (Some (clean new_log)) (with_file new_log_path None (synced_new d))

  making_means : (x : Disk) → IsMaking d x → (i : Image) → IsImage x i → MeansNothing i
  making_means x (inl is) i image = no_log x i (ap (λ (z : Disk). z log_path) is ∙ none) image
  making_means x (inr (inl is)) i image = no_log x i (ap (λ (z : Disk). z log_path) is ∙ log_of_made) image
  making_means x (inr (inr (inl is))) i image = no_log x i (ap (λ (z : Disk). z log_path) is ∙ log_of_written) image
  making_means x (inr (inr (inr (inl is)))) i image = no_log x i (ap (λ (z : Disk). z log_path) is ∙ log_of_synced) image
  making_means x (inr (inr (inr (inr is)))) i image = empty_log x i (ap (λ (z : Disk). z log_path) is ∙ log_of_placed) image

  pub making_good : (T : List File) → IsSoundDisk d → (x : Disk) → IsMaking d x → AllGood T [] d x
  making_good T sound x at i image = nothing_good T d i none sound (making_means x at i image)

  pub placed_rests : LogOf written_version [] 6 (placed_new d)
  placed_rests = record {
    front = header 1;
    gate = 0;
    behind = [];
    file = log_of_placed;
    place = refl;
    closed = λ e. omega arith;
    reaches = reaches-header;
    view = view_none;
  }

pub made_since : (T : List File) (Q : Disk → Disk → Type 0) (a b : Option Told) → Run IsMaking Q a b → IfTold (λ t. IsSoundDisk t.now) a → IfTold (λ t. t.now log_path ≡ None) a → GoodSince T [] a b
made_since T Q None None run sound none = tt
made_since T Q None (Some u) run sound none = absurd run
made_since T Q (Some t) None run sound none = absurd run
made_since T Q (Some t) (Some u) run sound none = since_weaker (IsMaking t.now) (AllGood T [] t.now) (Some t) (Some u) (λ x at. making_good t.now none T sound x at) run.0

pub made_rests : (a b : Option Told) → Run IsMaking (λ d x. x ≡ placed_new d) a b → IfTold (λ t. t.now log_path ≡ None) a → IfTold (λ t. LogOf written_version [] 6 t.now) b
made_rests None None run none = tt
made_rests None (Some u) run none = absurd run
made_rests (Some t) None run none = absurd run
made_rests (Some t) (Some u) run none = subst (LogOf written_version [] 6) (sym run.1) (placed_rests t.now none)

-- ---- a log that is there

syncing_good : (T : List File) (d : Disk) → IsSoundDisk d → AllFit T d → (x : Disk) → IsSyncing d x → AllGood T [] d x
syncing_good T d sound fit x (inl is) = subst (λ (z : Disk). AllGood T [] d z) (sym is) (fit_good T [] d fit)
syncing_good T d sound fit x (inr is) = subst (λ (z : Disk). AllGood T [] d z) (sym is) (λ i image. fit_good T [] d fit i (synced_images log_path d sound i image))

pub synced_since : (T : List File) (Q : Disk → Disk → Type 0) (a b : Option Told) → Run IsSyncing Q a b → IfTold (λ t. IsSoundDisk t.now) a → IfTold (λ t. AllFit T t.now) a → GoodSince T [] a b
synced_since T Q None None run sound fit = tt
synced_since T Q None (Some u) run sound fit = absurd run
synced_since T Q (Some t) None run sound fit = absurd run
synced_since T Q (Some t) (Some u) run sound fit = since_weaker (IsSyncing t.now) (AllGood T [] t.now) (Some t) (Some u) (λ x at. syncing_good T t.now sound fit x at) run.0

read_there : (o : Option DiskFile) (bytes : List ℕ) → option_map (λ f. f.seen) o ≡ Some bytes → option_map sync_file o ≡ Some (clean bytes)
read_there None bytes is = absurd (cc)
read_there (Some s) bytes is = let same : s.seen ≡ bytes = cc in ap (λ (l : List ℕ). Some (clean l)) same

synced_rests : (bytes : List ℕ) (m : Meaning) (d : Disk) → log_meaning bytes ≡ Ok m → is_view m.files ≡ true → seen_of d log_path ≡ Some bytes → LogOf written_version m.files m.end (synced_at log_path d)
synced_rests bytes m d means view reads =
    let last = ends bytes m means in
    record {
      front = last.front;
      gate = last.gate;
      behind = last.behind;
      file = with_file-same log_path (option_map sync_file (d log_path)) d ∙ read_there (d log_path) bytes reads ∙ ap (λ (l : List ℕ). Some (clean l)) last.split;
      place = last.place;
      closed = last.closed;
      reaches = last.reaches;
      view = view;
    }

pub found_rests : (bytes : List ℕ) (m : Meaning) (a b : Option Told) → log_meaning bytes ≡ Ok m → is_view m.files ≡ true → IfTold (λ t. seen_of t.now log_path ≡ Some bytes) a → Run IsSyncing (λ d x. x ≡ synced_at log_path d) a b
    → IfTold (λ t. LogOf written_version m.files m.end t.now) b
found_rests bytes m None None means view reads run = tt
found_rests bytes m None (Some u) means view reads run = absurd run
found_rests bytes m (Some t) None means view reads run = absurd run
found_rests bytes m (Some t) (Some u) means view reads run = subst (LogOf written_version m.files m.end) (sym run.1) (synced_rests bytes m t.now means view reads)

-- what is found says what the log of the disk says
pub found_says : (bytes : List ℕ) (m : Meaning) (a : Option Told) → log_meaning bytes ≡ Ok m → IfTold (λ t. seen_of t.now log_path ≡ Some bytes) a → IfTold (λ t. SaysAs (seen_of t.now) m.files) a
found_says bytes m None means reads = tt
found_says bytes m (Some t) means reads = record { meaning = m; means = ap meaning_in reads ∙ means; have = refl; named = λ path. refl; covered = λ path k. refl }

pub none_says : (m : Meaning) (a : Option Told) → m ≡ record { files = []; end = 6 } → IfTold (λ t. t.now log_path ≡ None) a → IfTold (λ t. SaysAs (seen_of t.now) m.files) a
none_says m None is none = tt
none_says m (Some t) is none =
    subst (λ (n : Meaning). SaysAs (seen_of t.now) n.files) (sym is)
    (record { meaning = record { files = []; end = 0 }; means = ap (λ (o : Option DiskFile). meaning_in (option_map (λ (f : DiskFile). f.seen) o)) none; have = refl; named = λ path. refl; covered = λ path k. refl })

-- ---- the calls of an opening

pub syncs_as : {T : Type 0} (r : Result T LogFail) (a b : Option Told) → Run IsSyncing (λ d x. x ≡ synced_at log_path d) a b → Run IsSyncing (Syncs r) a b
syncs_as (Ok x) a b run = run
syncs_as (Err e) a b run = run_as IsSyncing (λ d x. x ≡ synced_at log_path d) IsSyncing a b run (λ d x is. inr is)

pub synced_there : (x : Unit {0}) (path : List ℕ) (a b : Option Told) → path ≡ log_path → OneStep (MayDo {E = Failed} (synced_at path) (Ok x)) a b → Run IsSyncing (λ d x. x ≡ synced_at log_path d) a b
synced_there x path a b same step =
    called {E = Failed} IsSyncing (λ d. d) (synced_at log_path) (Ok x) a a b (begun IsSyncing a) (subst (λ (p : List ℕ). OneStep (MayDo {E = Failed} (synced_at p) (Ok x)) a b) same step) (λ d. inl refl) (λ d. inr refl)

pub sync_fails : {T : Type 0} (r : Result T LogFail) (P : LogFail → Type 0) (e : Failed) (path : List ℕ) (a b : Option Told) → IsErrAnd r P → path ≡ log_path → OneStep (MayDo {T = Unit {0}} (synced_at path) (Err e)) a b → Run IsSyncing (Syncs r) a b
sync_fails (Ok x) P e path a b h same step = absurd h
sync_fails (Err y) P e path a b h same step =
    run_as IsSyncing (λ d x. (x ≡ d) ⊎ (x ≡ synced_at log_path d)) IsSyncing a b
    (called {T = Unit {0}} IsSyncing (λ d. d) (synced_at log_path) (Err e) a a b (begun IsSyncing a) (subst (λ (p : List ℕ). OneStep (MayDo {T = Unit {0}} (synced_at p) (Err e)) a b) same step) (λ d. inl refl) (λ d. inr refl))
    (λ d x either. either)

pub if_ok_more : {T E : Type 0} (r : Result T E) (P Q : T → Type 0) → IfOk r P → ((x : T) → P x → Q x) → IfOk r Q
if_ok_more (Ok x) P Q h f = f x h
if_ok_more (Err e) P Q h f = h

file_before : (bytes : List ℕ) (o : Option DiskFile) → IfFile (λ f. f.seen ≡ bytes) (option_map sync_file o) → IfFile (λ f. f.seen ≡ bytes) o
unfolding clean
file_before bytes None h = h
file_before bytes (Some f) h = h

-- what is read after the sync was read before it
pub read_before : (bytes path : List ℕ) (x : Unit {0}) (a b : Option Told) → path ≡ log_path → OneStep (MayDo {E = Failed} (synced_at path) (Ok x)) a b → IfTold (λ t. IfFile (λ f. f.seen ≡ bytes) (t.now path)) b
    → IfTold (λ t. IfFile (λ f. f.seen ≡ bytes) (t.now log_path)) a
read_before bytes path x None None same step h = tt
read_before bytes path x None (Some u) same step h = absurd step
read_before bytes path x (Some t) None same step h = absurd step
read_before bytes path x (Some t) (Some u) same step h =
    subst (λ (p : List ℕ). IfFile (λ f. f.seen ≡ bytes) (t.now p)) same
    (file_before bytes (t.now path) (subst (λ (o : Option DiskFile). IfFile (λ f. f.seen ≡ bytes) o) (ap (λ (d : Disk). d path) step.0 ∙ with_file-same path (option_map sync_file (t.now path)) t.now) h))

pub log_lawful : is_lawful log_path ≡ true
log_lawful = lawful-is log_path (omega arith) (omega arith) ((refl, omega arith), ((refl, omega arith), ((refl, omega arith), ((refl, omega arith), ((refl, omega arith), tt)))))

pub new_log_lawful : is_lawful new_log_path ≡ true
new_log_lawful = lawful-is new_log_path (omega arith) (omega arith) ((refl, omega arith), ((refl, omega arith), ((refl, omega arith), ((refl, omega arith), ((refl, omega arith), ((refl, omega arith), ((refl, omega arith), ((refl, omega arith), ((refl, omega arith), tt)))))))))

pub end_within : (bytes : List ℕ) (m : Meaning) → log_meaning bytes ≡ Ok m → m.end < length bytes
end_within bytes m means =
    let last = ends bytes m means in
    let place = last.place in
    omega (arith, place, ap length last.split, length-append last.front (last.gate ∷ last.behind))

-- ---- the calls of a making

pub makes_err : {T : Type 0} (r : Result T LogFail) (P : LogFail → Type 0) (a b : Option Told) → IsErrAnd r P → Run IsMaking IsMaking a b → Run IsMaking (Makes r) a b
makes_err (Ok x) P a b h run = absurd h
makes_err (Err y) P a b h run = run

pub make_fails : (e : DepotFail) (path : List ℕ) (a b : Option Told) → path ≡ new_log_path → OneStep (MayDo {T = Unit {0}} (made path) (Err e)) a b → Run IsMaking IsMaking a b
make_fails e path a b same step =
    run_as IsMaking (λ d x. (x ≡ d) ⊎ (x ≡ made_new d)) IsMaking a b
    (called {T = Unit {0}} IsMaking (λ d. d) (made new_log_path) (Err e) a a b (begun IsMaking a) (subst (λ (p : List ℕ). OneStep (MayDo {T = Unit {0}} (made p) (Err e)) a b) same step) (λ d. inl refl) (λ d. inr (inl refl)))
    (λ d x either. elim either [ inl is ↦ inl is | inr is ↦ inr (inl is) ])

pub is_made : (x : Unit {0}) (path : List ℕ) (a b : Option Told) → path ≡ new_log_path → OneStep (MayDo {E = DepotFail} (made path) (Ok x)) a b → Run IsMaking (λ d y. y ≡ made_new d) a b
is_made x path a b same step =
    called {E = DepotFail} IsMaking (λ d. d) (made new_log_path) (Ok x) a a b (begun IsMaking a) (subst (λ (p : List ℕ). OneStep (MayDo {E = DepotFail} (made p) (Ok x)) a b) same step) (λ d. inl refl) (λ d. inr (inl refl))

pub made_only : (a b : Option Told) → Run IsMaking (λ d y. y ≡ made_new d) a b → Run IsMaking IsMaking a b
made_only a b run = run_as IsMaking (λ d y. y ≡ made_new d) IsMaking a b run (λ d x is. inr (inl is))

put_stage : (d x y : Disk) → x ≡ made_new d → IsPut new_log_path 0 new_log x y → IsMaking d y
put_stage d x y is (inl at) = inr (inl (at ∙ is))
put_stage d x y is (inr (inl at)) = inr (inr (inl (at ∙ ap (λ v. wrote new_log_path 0 new_log v) is)))
put_stage d x y is (inr (inr at)) = inr (inr (inr (inl (at ∙ ap (λ v. stable new_log_path 0 new_log v) is))))

pub put_part : (Q : Disk → Disk → Type 0) (path bytes : List ℕ) (a b c : Option Told) → path ≡ new_log_path → bytes ≡ new_log → Run IsMaking (λ d y. y ≡ made_new d) a b → Run (IsPut path 0 bytes) Q b c
    → ((d x : Disk) → Q d x → IsPut path 0 bytes d x) → Run IsMaking IsMaking a c
put_part Q path bytes a b c same is run more within =
    run_join IsMaking (λ d y. y ≡ made_new d) (IsPut new_log_path 0 new_log) (IsPut new_log_path 0 new_log) IsMaking IsMaking a b c run
    (subst (λ (p : List ℕ). Run (IsPut p 0 new_log) (IsPut p 0 new_log) b c) same (subst (λ (l : List ℕ). Run (IsPut path 0 l) (IsPut path 0 l) b c) is (run_as (IsPut path 0 bytes) Q (IsPut path 0 bytes) b c more within)))
    (λ d x at. at) put_stage put_stage

pub put_whole : (x : Unit {0}) (path bytes : List ℕ) (a b c : Option Told) → path ≡ new_log_path → bytes ≡ new_log → Run IsMaking (λ d y. y ≡ made_new d) a b → Run (IsPut path 0 bytes) (Puts (Ok x) path 0 bytes) b c → Run IsMaking (λ d y. y ≡ synced_new d) a c
put_whole x path bytes a b c same is run more =
    run_join IsMaking (λ d y. y ≡ made_new d) (IsPut new_log_path 0 new_log) (Puts (Ok x) new_log_path 0 new_log) IsMaking (λ d y. y ≡ synced_new d) a b c run
    (subst (λ (p : List ℕ). Run (IsPut p 0 new_log) (Puts (Ok x) p 0 new_log) b c) same (subst (λ (l : List ℕ). Run (IsPut path 0 l) (Puts (Ok x) path 0 l) b c) is more))
    (λ d x at. at) put_stage (λ d x y is at. at ∙ ap (λ v. stable new_log_path 0 new_log v) is)

puts_within : (y : LogFail) (path bytes : List ℕ) (d x : Disk) → Puts (Err y) path 0 bytes d x → IsPut path 0 bytes d x
puts_within DiskFail path bytes d x at = at
puts_within NoMemory path bytes d x at = inl at
puts_within Shut path bytes d x at = absurd at
puts_within (BadLog n) path bytes d x at = absurd at

pub put_fails : (y : LogFail) (path bytes : List ℕ) (a b c : Option Told) → path ≡ new_log_path → bytes ≡ new_log → Run IsMaking (λ d y. y ≡ made_new d) a b → Run (IsPut path 0 bytes) (Puts (Err y) path 0 bytes) b c → Run IsMaking IsMaking a c
put_fails y path bytes a b c same is run more = put_part (Puts (Err y) path 0 bytes) path bytes a b c same is run more (puts_within y path bytes)

pub place_fails : (e : DepotFail) (source target : List ℕ) (a b c : Option Told) → source ≡ new_log_path → target ≡ log_path → Run IsMaking (λ d y. y ≡ synced_new d) a b → OneStep (MayDo {T = Unit {0}} (placed source target) (Err e)) b c → Run IsMaking IsMaking a c
place_fails e source target a b c one two run step =
    run_as IsMaking (λ d x. (x ≡ synced_new d) ⊎ (x ≡ placed_new d)) IsMaking a c
    (called {T = Unit {0}} IsMaking synced_new (placed new_log_path log_path) (Err e) a b c run
    (subst (λ (p : List ℕ). OneStep (MayDo {T = Unit {0}} (placed new_log_path p) (Err e)) b c) two (subst (λ (p : List ℕ). OneStep (MayDo {T = Unit {0}} (placed p target) (Err e)) b c) one step)) (λ d. inr (inr (inr (inl refl)))) (λ d. inr (inr (inr (inr refl)))))
    (λ d x either. elim either [ inl is ↦ inr (inr (inr (inl is))) | inr is ↦ inr (inr (inr (inr is))) ])

pub is_placed : (x : Unit {0}) (source target : List ℕ) (a b c : Option Told) → source ≡ new_log_path → target ≡ log_path → Run IsMaking (λ d y. y ≡ synced_new d) a b → OneStep (MayDo {E = DepotFail} (placed source target) (Ok x)) b c
    → Run IsMaking (λ d y. y ≡ placed_new d) a c
is_placed x source target a b c one two run step =
    called {E = DepotFail} IsMaking synced_new (placed new_log_path log_path) (Ok x) a b c run
    (subst (λ (p : List ℕ). OneStep (MayDo {E = DepotFail} (placed new_log_path p) (Ok x)) b c) two (subst (λ (p : List ℕ). OneStep (MayDo {E = DepotFail} (placed p target) (Ok x)) b c) one step)) (λ d. inr (inr (inr (inl refl)))) (λ d. inr (inr (inr (inr refl))))

-- the log that was made is at rest
pub made_logged : (r : Result LogView LogFail) (a b : Option Told) → Run IsMaking (Makes r) a b → IfTold (λ t. t.now log_path ≡ None) a → IfOk r (λ view. meaning_of view ≡ record { files = []; end = 6 })
    → IfOk r (λ view. IfTold (λ t. LogOf written_version (meaning_of view).files (meaning_of view).end t.now) b)
made_logged (Ok view) a b run none is = subst (λ (m : Meaning). IfTold (λ t. LogOf written_version m.files m.end t.now) b) (sym is) (made_rests a b run none)
made_logged (Err e) a b run none is = tt
