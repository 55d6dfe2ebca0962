-- The calls of an append, one after another.
use Rattle.std.proofs.Common.{◌≡◌, ◌⊎◌, inl, inr, ℕ, ◌+◌, ◌≤◌, Bool, true, false, List, [], ◌∷◌, Option, Some, None, Result, Ok, Err, refl, sym, ap, ◌∙◌, subst}
use Rattle.std.specs.Prelude.{IsErrOf, is_ok}
use Rattle.std.specs.Result.{IsErrAnd}
use Rattle.wdt_units.specs.declared.failures.Failed.{Failed}
use Rattle.wdt_depot.specs.Disk.{Disk, synced_at, wrote}
use Rattle.wdt_depot.specs.Moments.{IfTold, MayDo, OneStep, Run, Told}
use Rattle.wdt_depot.specs.Programs.{Calls, IsQuiet, Ran, drive_of, looking, run_sync, run_write}
use Rattle.wdt_depot.specs.State.{State}
use Rattle.wdt_depot.specs.declared.failure.DepotFail.{DepotFail}
use Rattle.wdt_depot.specs.declared.failure.DepotFail.TheVariants as depot
use Rattle.wdt_depot.proofs.ForCallers.{calls_both, calls_first, quiet_parts, run_as, run_join, run_more, run_same, run_start}
use Rattle.wdt_good.specs.Calls.{run_append, run_four, run_put}
use Rattle.wdt_good.specs.Good.{log_path}
use Rattle.wdt_log.specs.declared.fail.LogFail.{LogFail}
use Rattle.wdt_log.specs.declared.fail.LogFail.TheVariants.{Disk as DiskFail, BadLog, Shut, NoMemory}
use Rattle.wdt_log.specs.Answers.{RanLog, of_depot}
use Rattle.wdt_log.specs.Stages.{IsPut, IsStage, Leaves, Puts, stable, staged}

-- ---- runs

-- a call behind a disk that is known
one_call : {T E : Type 0} (P : Disk → Disk → Type 0) (g : Disk → Disk) (r : Result T E) (before d x y : Disk) → x ≡ before → MayDo g r x y → P d before → P d (g before) → P d y × MayDo g r before y
one_call P g (Ok t) before d x y at done here next = let is : y ≡ g before = done ∙ ap g at in (subst (λ z. P d z) (sym is) next, is)
one_call P g (Err e) before d x y at (inl same) here next = let is : y ≡ before = same ∙ at in (subst (λ z. P d z) (sym is) here, inl is)
one_call P g (Err e) before d x y at (inr done) here next = let is : y ≡ g before = done ∙ ap g at in (subst (λ z. P d z) (sym is) next, inr is)

pub called : {T E : Type 0} (P : Disk → Disk → Type 0) (f g : Disk → Disk) (r : Result T E) (a b c : Option Told) → Run P (λ d x. x ≡ f d) a b → OneStep (MayDo g r) b c → ((d : Disk) → P d (f d)) → ((d : Disk) → P d (g (f d)))
    → Run P (λ d y. MayDo g r (f d) y) a c
called P f g r a b c run step here next =
    run_more P (λ d x. x ≡ f d) (λ d y. MayDo g r (f d) y) (MayDo g r) a b c run step (λ d x y at done. one_call P g r (f d) d x y at done (here d) (next d))

itself : (a : Option Told) → IfTold (λ t. t.now ≡ t.now) a
itself None = tt
itself (Some t) = refl

pub begun : (P : Disk → Disk → Type 0) (a : Option Told) → Run P (λ d x. x ≡ d) a a
begun P a = run_start P (λ d x. x ≡ d) a (itself a)

not_memory : (x : Unit {0}) → IsErrOf {E = DepotFail} (Ok x) depot.NoMemory → ⊥
not_memory x is = cc

err_not_ok : (r : Result (Unit {0}) LogFail) (P : LogFail → Type 0) → IsErrAnd r P → is_ok r ≡ false
err_not_ok (Ok x) P h = absurd h
err_not_ok (Err y) P h = refl

-- ---- bytes that are written and synced

module _ (path : List ℕ) (offset : ℕ) (bytes : List ℕ) where
  abbrev Put : Disk → Disk → Type 0
  Put = IsPut path offset bytes

  by_either : (d before after y : Disk) → Put d before → Put d after → (y ≡ before) ⊎ (y ≡ after) → Put d y
  by_either d before after y here next (inl is) = subst (λ z. Put d z) (sym is) here
  by_either d before after y here next (inr is) = subst (λ z. Put d z) (sym is) next

  pub write_failed : (r : Result (Unit {0}) LogFail) (e : DepotFail) (s0 s1 : State) → IsErrAnd r (λ y. y ≡ of_depot e) → OneStep (MayDo {T = Unit {0}} (wrote path offset bytes) (Err e)) s0.told s1.told
      → (IsErrOf {T = Unit {0}} (Err e) depot.NoMemory → s1 ≡ s0) → Run Put (Puts r path offset bytes) s0.told s1.told
  write_failed (Ok x) e s0 s1 h step kept = absurd h
  write_failed (Err y) depot.Failed s0 s1 h step kept =
      subst (λ z. Run Put (Puts (Err z) path offset bytes) s0.told s1.told) (sym h)
      (run_as Put (λ d y. (y ≡ d) ⊎ (y ≡ wrote path offset bytes d)) Put s0.told s1.told
      (called {T = Unit {0}} Put (λ d. d) (wrote path offset bytes) (Err depot.Failed) s0.told s0.told s1.told (begun Put s0.told) step (λ d. inl refl) (λ d. inr (inl refl)))
      (λ d y either. by_either d d (wrote path offset bytes d) y (inl refl) (inr (inl refl)) either))
  write_failed (Err y) depot.NoMemory s0 s1 h step kept =
      subst (λ z. Run Put (Puts (Err z) path offset bytes) s0.told s1.told) (sym h)
      (run_same Put (λ d x. x ≡ d) s0.told s0.told s1.told (begun Put s0.told) (ap (λ (s : State). s.told) (kept refl)))

  written_first : (x : Unit {0}) (s0 s1 : State) → OneStep (MayDo {E = DepotFail} (wrote path offset bytes) (Ok x)) s0.told s1.told → Run Put (λ d y. y ≡ wrote path offset bytes d) s0.told s1.told
  written_first x s0 s1 step =
      called {E = DepotFail} Put (λ d. d) (wrote path offset bytes) (Ok x) s0.told s0.told s1.told (begun Put s0.told) step (λ d. inl refl) (λ d. inr (inl refl))

  pub sync_failed : (r : Result (Unit {0}) LogFail) (x : Unit {0}) (e : Failed) (other : List ℕ) (s0 s1 s2 : State) → other ≡ path → IsErrAnd r (λ y. y ≡ DiskFail)
      → OneStep (MayDo {E = DepotFail} (wrote path offset bytes) (Ok x)) s0.told s1.told → OneStep (MayDo {T = Unit {0}} (synced_at other) (Err e)) s1.told s2.told → Run Put (Puts r path offset bytes) s0.told s2.told
  sync_failed (Ok z) x e other s0 s1 s2 same h one two = absurd h
  sync_failed (Err y) x e other s0 s1 s2 same h one two =
      subst (λ z. Run Put (Puts (Err z) path offset bytes) s0.told s2.told) (sym h)
      (run_as Put (λ d y. (y ≡ wrote path offset bytes d) ⊎ (y ≡ stable path offset bytes d)) Put s0.told s2.told
      (called {T = Unit {0}} Put (wrote path offset bytes) (synced_at path) (Err e) s0.told s1.told s2.told (written_first x s0 s1 one) (subst (λ (p : List ℕ). OneStep (MayDo {T = Unit {0}} (synced_at p) (Err e)) s1.told s2.told) same two) (λ d. inr (inl refl)) (λ d. inr (inr refl)))
      (λ d y either. by_either d (wrote path offset bytes d) (stable path offset bytes d) y (inr (inl refl)) (inr (inr refl)) either))

  pub put_done : (x z : Unit {0}) (other : List ℕ) (s0 s1 s2 : State) → other ≡ path
      → OneStep (MayDo {E = DepotFail} (wrote path offset bytes) (Ok x)) s0.told s1.told → OneStep (MayDo {E = Failed} (synced_at other) (Ok z)) s1.told s2.told → Run Put (λ d y. y ≡ stable path offset bytes d) s0.told s2.told
  put_done x z other s0 s1 s2 same one two =
      called {E = Failed} Put (wrote path offset bytes) (synced_at path) (Ok z) s0.told s1.told s2.told (written_first x s0 s1 one) (subst (λ (p : List ℕ). OneStep (MayDo {E = Failed} (synced_at p) (Ok z)) s1.told s2.told) same two) (λ d. inr (inl refl)) (λ d. inr (inr refl))

  pub put_ran : (ok : Bool) (x : Unit {0}) (other : List ℕ) (s0 s1 s2 : State) → other ≡ path → s0.own ≤ s1.own → s1.own ≤ s2.own → Ran (run_write path offset bytes) (Ok x) s0 s1 → (IsQuiet s1 s2 → Calls (run_sync other) ok (drive_of s1) (drive_of s2))
      → IsQuiet s0 s2 → Calls (run_put path offset bytes) ok (drive_of s0) (drive_of s2)
  put_ran ok x other s0 s1 s2 same one two ran synced quiet =
      let q = quiet_parts s0 s1 s2 one two quiet in
      calls_both (run_write path offset bytes) (run_sync path) ok (drive_of s0) (drive_of s1) (drive_of s2) (ran (not_memory x) q.0) (subst (λ (p : List ℕ). Calls (run_sync p) ok (drive_of s1) (drive_of s2)) same (synced q.1))

  pub put_ran_failed : (r : Result (Unit {0}) LogFail) (P : LogFail → Type 0) (x : Unit {0}) (other : List ℕ) (s0 s1 s2 : State) → IsErrAnd r P → other ≡ path → s0.own ≤ s1.own → s1.own ≤ s2.own → Ran (run_write path offset bytes) (Ok x) s0 s1
      → (IsQuiet s1 s2 → Calls (run_sync other) false (drive_of s1) (drive_of s2)) → RanLog (run_put path offset bytes) r s0 s2
  put_ran_failed r P x other s0 s1 s2 h same one two ran synced memory quiet =
      subst (λ (ok : Bool). Calls (run_put path offset bytes) ok (drive_of s0) (drive_of s2)) (sym (err_not_ok r P h)) (put_ran false x other s0 s1 s2 same one two ran synced quiet)

-- ---- the stages of an append

module _ (end : ℕ) (batch : List ℕ) where
  abbrev Stage : Disk → Disk → Type 0
  Stage = IsStage end batch

  first_stage : (d x : Disk) → IsPut log_path (end + 1) batch d x → Stage d x
  first_stage d x (inl is) = inl is
  first_stage d x (inr (inl is)) = inr (inl is)
  first_stage d x (inr (inr is)) = inr (inr (inl is))

  first_left : (y : LogFail) (d x : Disk) → Puts (Err y) log_path (end + 1) batch d x → Leaves (Err y) end batch d x
  first_left NoMemory d x at = inl at
  first_left DiskFail d x at = first_stage d x at
  first_left Shut d x at = absurd at
  first_left (BadLog n) d x at = absurd at

  pub first_failed : (r : Result (Unit {0}) LogFail) (y : LogFail) (other : List ℕ) (a b : Option Told) → other ≡ log_path → IsErrAnd r (λ z. z ≡ y) → Run (IsPut other (end + 1) batch) (Puts (Err y) other (end + 1) batch) a b → Run Stage (Leaves r end batch) a b
  first_failed (Ok x) y other a b same h run = absurd h
  first_failed (Err z) y other a b same h run =
      subst (λ w. Run Stage (Leaves (Err w) end batch) a b) (sym h)
      (run_join (λ d x. x ≡ d) (λ d x. x ≡ d) (IsPut log_path (end + 1) batch) (Puts (Err y) log_path (end + 1) batch) Stage (Leaves (Err y) end batch) a a b (begun (λ d x. x ≡ d) a)
      (subst (λ (p : List ℕ). Run (IsPut p (end + 1) batch) (Puts (Err y) p (end + 1) batch) a b) same run)
      (λ d x is. inl is)
      (λ d x w is at. first_stage d w (subst (λ v. IsPut log_path (end + 1) batch v w) is at))
      (λ d x w is at. first_left y d w (subst (λ v. Puts (Err y) log_path (end + 1) batch v w) is at)))

  second_stage : (d x y : Disk) → x ≡ staged end batch d → IsPut log_path end (1 ∷ []) x y → Stage d y
  second_stage d x y is (inl at) = inr (inr (inl (at ∙ is)))
  second_stage d x y is (inr (inl at)) = inr (inr (inr (inl (at ∙ ap (λ v. wrote log_path end (1 ∷ []) v) is))))
  second_stage d x y is (inr (inr at)) = inr (inr (inr (inr (at ∙ ap (λ v. stable log_path end (1 ∷ []) v) is))))

  second_left : (r : Result (Unit {0}) LogFail) (d x y : Disk) → x ≡ staged end batch d → Puts r log_path end (1 ∷ []) x y → Leaves r end batch d y
  second_left (Ok z) d x y is at = at ∙ ap (λ v. stable log_path end (1 ∷ []) v) is
  second_left (Err NoMemory) d x y is at = inr (at ∙ is)
  second_left (Err DiskFail) d x y is at = second_stage d x y is at
  second_left (Err Shut) d x y is at = absurd at
  second_left (Err (BadLog n)) d x y is at = absurd at

  pub both_put : (r : Result (Unit {0}) LogFail) (x : Unit {0}) (one two : List ℕ) (a b c : Option Told) → one ≡ log_path → two ≡ log_path → Run (IsPut one (end + 1) batch) (Puts (Ok x) one (end + 1) batch) a b → Run (IsPut two end (1 ∷ [])) (Puts r two end (1 ∷ [])) b c
      → Run Stage (Leaves r end batch) a c
  both_put r x one two a b c same same2 first second =
      run_join (IsPut log_path (end + 1) batch) (λ d y. y ≡ staged end batch d) (IsPut log_path end (1 ∷ [])) (Puts r log_path end (1 ∷ [])) Stage (Leaves r end batch) a b c
      (subst (λ (p : List ℕ). Run (IsPut p (end + 1) batch) (Puts (Ok x) p (end + 1) batch) a b) same first)
      (subst (λ (p : List ℕ). Run (IsPut p end (1 ∷ [])) (Puts r p end (1 ∷ [])) b c) same2 second)
      first_stage second_stage (second_left r)

  not_memory_ok : (x : Unit {0}) → IsErrOf {E = LogFail} (Ok x) NoMemory → ⊥
  not_memory_ok x is = cc

  pub both_ran : (r : Result (Unit {0}) LogFail) (x : Unit {0}) (one two : List ℕ) (s0 s1 s2 : State) → one ≡ log_path → two ≡ log_path → s0.own ≤ s1.own → s1.own ≤ s2.own → RanLog (run_put one (end + 1) batch) (Ok x) s0 s1 → RanLog (run_put two end (1 ∷ [])) r s1 s2
      → RanLog (run_four end batch) r s0 s2
  both_ran r x one two s0 s1 s2 same same2 low high first second memory quiet =
      let q = quiet_parts s0 s1 s2 low high quiet in
      calls_both (run_put log_path (end + 1) batch) (run_put log_path end (1 ∷ [])) (is_ok r) (drive_of s0) (drive_of s1) (drive_of s2)
      (subst (λ (p : List ℕ). Calls (run_put p (end + 1) batch) true (drive_of s0) (drive_of s1)) same (first (not_memory_ok x) q.0))
      (subst (λ (p : List ℕ). Calls (run_put p end (1 ∷ [])) (is_ok r) (drive_of s1) (drive_of s2)) same2 (second memory q.1))

  same_err : (r : Result (Unit {0}) LogFail) (y : LogFail) → IsErrAnd r (λ z. z ≡ y) → r ≡ Err y
  same_err (Ok x) y h = absurd h
  same_err (Err z) y h = ap Err h

  pub same_fail : (x y : LogFail) → IsErrOf {T = Unit {0}} (Err x) y → x ≡ y
  same_fail x y e = cc

  pub first_ran : (r : Result (Unit {0}) LogFail) (y : LogFail) (one : List ℕ) (s0 s1 : State) → IsErrAnd r (λ z. z ≡ y) → one ≡ log_path
      → ((IsErrOf {T = Unit {0}} (Err y) NoMemory → ⊥) → IsQuiet s0 s1 → Calls (run_put one (end + 1) batch) false (drive_of s0) (drive_of s1)) → RanLog (run_four end batch) r s0 s1
  first_ran r y one s0 s1 h same first memory quiet =
      let is = same_err r y h in
      subst (λ (w : Result (Unit {0}) LogFail). Calls (run_four end batch) (is_ok w) (drive_of s0) (drive_of s1)) (sym is)
      (calls_first (run_put log_path (end + 1) batch) (run_put log_path end (1 ∷ [])) (drive_of s0) (drive_of s1)
      (subst (λ (p : List ℕ). Calls (run_put p (end + 1) batch) false (drive_of s0) (drive_of s1)) same (first (λ e. memory (is ∙ ap Err (same_fail y NoMemory e))) quiet)))

  ok_not_memory : {T : Type 0} (x : T) → IsErrOf {E = DepotFail} (Ok x) depot.NoMemory → ⊥
  ok_not_memory x is = cc

  -- the log was found, and its spot left
  pub need_ran : {T : Type 0} (x : T) (r : Result (Unit {0}) LogFail) (es : List (ℕ × List ℕ)) (s0 s1 s2 s3 : State) → s3 ≡ record s2 { spots = es } → s0.own ≤ s1.own → s1.own ≤ s2.own → Ran looking (Ok x) s0 s1 → RanLog (run_four end batch) r s1 s2
      → RanLog (run_append end batch) r s0 s3
  need_ran x r es s0 s1 s2 s3 is low high first second =
      subst (λ (s : State). RanLog (run_append end batch) r s0 s) (sym is) (λ memory quiet.
      let q = quiet_parts s0 s1 s2 low high quiet in
      calls_both looking (run_four end batch) (is_ok r) (drive_of s0) (drive_of s1) (drive_of s2) (first (ok_not_memory x) q.0) (second memory q.1))

  -- nothing was done
  pub untouched : (r : Result (Unit {0}) LogFail) (a : Option Told) → IsErrAnd r (λ y. y ≡ NoMemory) → Run Stage (Leaves r end batch) a a
  untouched (Ok x) a h = absurd h
  untouched (Err y) a h =
      subst (λ z. Run Stage (Leaves (Err z) end batch) a a) (sym h)
      (run_join (λ d x. x ≡ d) (λ d x. x ≡ d) (λ d x. x ≡ d) (λ d x. x ≡ d) Stage (λ d x. (x ≡ d) ⊎ (x ≡ staged end batch d)) a a a (begun (λ d x. x ≡ d) a) (begun (λ d x. x ≡ d) a) (λ d x is. inl is) (λ d x y one two. inl (two ∙ one)) (λ d x y one two. inl (two ∙ one)))

  pub left_as : (r : Result (Unit {0}) LogFail) (y : LogFail) (a b : Option Told) → IsErrAnd r (λ z. z ≡ y) → Run Stage (Leaves (Err y) end batch) a b → Run Stage (Leaves r end batch) a b
  left_as r y a b h run = subst (λ w. Run Stage (Leaves w end batch) a b) (sym (same_err r y h)) run
