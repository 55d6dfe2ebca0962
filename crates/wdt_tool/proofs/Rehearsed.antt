-- A rehearsal's failure as one of the command.
use Rattle.std.proofs.Common.{◌≡◌, ℕ, List, Option, Some, None, Result, Ok, Err, refl, sym, ap, ◌∙◌, subst}
use Rattle.std.specs.Prelude.{IfSome}
use Rattle.wdt_units.specs.Counts.{Rises, Stands}
use Rattle.wdt_tree.specs.declared.entry.Entry.{Entry}
use Rattle.wdt_tree.specs.declared.manifest.ManifestFail.{ManifestFail}
use Rattle.wdt_tree.specs.declared.manifest.ManifestFail.TheVariants as checks
use Rattle.wdt_depot.specs.State.{State}
use Rattle.wdt_discover.specs.declared.fail.PlanFail.{PlanFail}
use Rattle.wdt_discover.specs.declared.fail.PlanFail.TheVariants as plans
use Rattle.wdt_rehearsal.specs.declared.fail.RehearseFail.{RehearseFail}
use Rattle.wdt_rehearsal.specs.declared.fail.RehearseFail.TheVariants as runs
use Rattle.wdt_rehearsal.specs.Causes.{IsCause, RefusesRun, IsRefusedFor as IsRehearsalRefused, IsUntouched as LeavesRehearsed}
use Rattle.wdt_sender_fsm.specs.declared.answers.RefusedKind.{RefusedKind}
use Rattle.wdt_sender_fsm.specs.declared.answers.RefusedKind.TheVariants.{BadScript, BadPath, Reserved, Twice, TooMany, TooLarge, TooManyBlocks, Stale, BadLog}
use Rattle.wdt_tool.specs.declared.fail.CommandFail.{CommandFail}
use Rattle.wdt_tool.specs.declared.fail.CommandFail.TheVariants as fails
use Rattle.wdt_tool.specs.Causes.{IsCauseOf, IsUntouched, RefusesCommand}
use Rattle.wdt_tool.specs.Failures.{check_kind, plan_kind, refused_for, of_rehearsing}
use Rattle.wdt_tool.specs.Refusals.{IsRunCause, IsRunRefused}
use Rattle.wdt_tool.specs.Refusing.{RefusesListing}

-- ---- causes

check-cause : (listing : Option (List Entry)) (before after : ℕ) (disk : Type 0) (fail : ManifestFail) → IsCause listing before after disk (runs.Listing fail) → IsCauseOf (IsRunCause listing) (refused_for (check_kind fail))
check-cause listing before after disk (checks.TooMany count) h = (tt, h.1)
check-cause listing before after disk (checks.BadPath at) h = (tt, h.1)
check-cause listing before after disk (checks.Reserved at) h = (tt, h.1)
check-cause listing before after disk (checks.Twice at) h = (tt, h.1)
check-cause listing before after disk (checks.TooLarge at) h = (tt, h.1)
check-cause listing before after disk checks.NoMemory h = tt

plan-cause : (listing : Option (List Entry)) (before after : ℕ) (disk : Type 0) (fail : PlanFail) → IsCause listing before after disk (runs.Plan fail) → IsCauseOf (IsRunCause listing) (refused_for (plan_kind fail))
plan-cause listing before after disk (plans.TooManyBlocks count) h = h
plan-cause listing before after disk (plans.Stale path logged found) h = absurd h
plan-cause listing before after disk plans.NoMemory h = tt

pub run-cause : (listing : Option (List Entry)) (before after : ℕ) (disk : Type 0) (fail : RehearseFail) → IsCause listing before after disk fail → IsCauseOf (IsRunCause listing) (of_rehearsing fail)
run-cause listing before after disk runs.Source h = tt
run-cause listing before after disk runs.Disk h = tt
run-cause listing before after disk (runs.Listing fail) h = check-cause listing before after disk fail h
run-cause listing before after disk (runs.Plan fail) h = plan-cause listing before after disk fail h
run-cause listing before after disk runs.NoMemory h = tt

not-source : (A : Type 0) (kind : Option RefusedKind) → refused_for kind ≡ fails.Source → A
not-source A None e = absurd cc
not-source A (Some kind) e = absurd cc

not-disk : (A : Type 0) (kind : Option RefusedKind) → refused_for kind ≡ fails.Disk → A
not-disk A None e = absurd cc
not-disk A (Some kind) e = absurd cc

-- it is one of the source where the rehearsal's is
pub run-source : (listing : Option (List Entry)) (before after : ℕ) (disk : Type 0) (fail : RehearseFail) → IsCause listing before after disk fail → of_rehearsing fail ≡ fails.Source → Rises before after
run-source listing before after disk runs.Source h e = h
run-source listing before after disk runs.Disk h e = absurd cc
run-source listing before after disk (runs.Listing fail) h e = not-source (Rises before after) (check_kind fail) e
run-source listing before after disk (runs.Plan fail) h e = not-source (Rises before after) (plan_kind fail) e
run-source listing before after disk runs.NoMemory h e = absurd cc

-- and one of the disk exactly where the rehearsal's is
pub run-disk : (fail : RehearseFail) → of_rehearsing fail ≡ fails.Disk → fail ≡ runs.Disk
run-disk runs.Source e = absurd cc
run-disk runs.Disk e = refl
run-disk (runs.Listing fail) e = not-disk (runs.Listing fail ≡ runs.Disk) (check_kind fail) e
run-disk (runs.Plan fail) e = not-disk (runs.Plan fail ≡ runs.Disk) (plan_kind fail) e
run-disk runs.NoMemory e = absurd cc

refused-untouched : (old new : State) (kind : Option RefusedKind) → new ≡ old → IsUntouched old new (refused_for kind)
refused-untouched old new None h = tt
refused-untouched old new (Some kind) h = h

pub run-untouched : (old new : State) (fail : RehearseFail) → LeavesRehearsed old new fail → IsUntouched old new (of_rehearsing fail)
run-untouched old new runs.Source h = h
run-untouched old new runs.Disk h = tt
run-untouched old new (runs.Listing fail) h = refused-untouched old new (check_kind fail) h
run-untouched old new (runs.Plan fail) h = refused-untouched old new (plan_kind fail) h
run-untouched old new runs.NoMemory h = tt

-- ---- what is to be refused is refused

refused-fail : (entries : List Entry) (kind : RefusedKind) → IsRunRefused entries kind → (fail : RehearseFail) × IsRehearsalRefused entries fail × (of_rehearsing fail ≡ fails.Refused kind)
refused-fail entries (BadPath at) h = (runs.Listing (checks.BadPath at), h, refl)
refused-fail entries (Reserved at) h = (runs.Listing (checks.Reserved at), h, refl)
refused-fail entries (Twice at) h = (runs.Listing (checks.Twice at), h, refl)
refused-fail entries (TooMany count) h = (runs.Listing (checks.TooMany count), h, refl)
refused-fail entries (TooLarge at) h = (runs.Listing (checks.TooLarge at), h, refl)
refused-fail entries (TooManyBlocks count) h = (runs.Plan (plans.TooManyBlocks count), h, refl)
refused-fail entries (Stale path logged found) h = absurd h
refused-fail entries (BadScript line) h = absurd h
refused-fail entries (BadLog at) h = absurd h

-- a rehearsal that was refused for this ends so
as-kind : (A B : Type 0) (given fail : RehearseFail) (kind : RefusedKind) → RefusesRun {A = A} (Err given) fail → of_rehearsing fail ≡ fails.Refused kind → RefusesCommand {A = B} (Err (of_rehearsing given)) kind
as-kind A B runs.Source fail kind h e = absurd h
as-kind A B runs.Disk fail kind h e = absurd h
as-kind A B (runs.Listing refused) fail kind h e = subst (λ (f : CommandFail). RefusesCommand {A = B} (Err f) kind) (sym (ap of_rehearsing h ∙ e)) refl
as-kind A B (runs.Plan refused) fail kind h e = subst (λ (f : CommandFail). RefusesCommand {A = B} (Err f) kind) (sym (ap of_rehearsing h ∙ e)) refl
as-kind A B runs.NoMemory fail kind h e = tt

-- said of each refusal of a rehearsal's listing, where it is told
abbrev pub RefusesRehearsal : {A : Type 0} → Option (List Entry) → ℕ → ℕ → Result A RehearseFail → Type 0
RefusesRehearsal listing before after result = IfSome listing (λ entries. (fail : RehearseFail) → IsRehearsalRefused entries fail → Stands before after → RefusesRun result fail)

-- a rehearsal that is done had a listing that is refused for nothing
pub run-fine : (A : Type 0) (listing : Option (List Entry)) (before after : ℕ) (r : Result A RehearseFail) (x : A) → RefusesRehearsal listing before after r → r ≡ Ok x
    → RefusesListing listing IsRunRefused (Stands before after) (λ kind. ⊥)
run-fine A listing before after r x h is = go listing (subst (λ (q : Result A RehearseFail). RefusesRehearsal listing before after q) is h)
  where
    go : (told : Option (List Entry)) → RefusesRehearsal {A = A} told before after (Ok x) → RefusesListing told IsRunRefused (Stands before after) (λ kind. ⊥)
    go None k = tt
    go (Some entries) k = λ kind refused stood. let f = refused-fail entries kind refused in k f.0 f.1 stood

-- and one that failed was refused for just what its listing is refused for
pub run-refuses : (A B : Type 0) (listing : Option (List Entry)) (before after : ℕ) (r : Result A RehearseFail) (fail : RehearseFail) (told : CommandFail) → RefusesRehearsal listing before after r → r ≡ Err fail → told ≡ of_rehearsing fail
    → RefusesListing listing IsRunRefused (Stands before after) (RefusesCommand {A = B} (Err told))
run-refuses A B listing before after r fail told h is same =
    subst (λ (f : CommandFail). RefusesListing listing IsRunRefused (Stands before after) (RefusesCommand {A = B} (Err f))) (sym same)
    (go listing (subst (λ (q : Result A RehearseFail). RefusesRehearsal listing before after q) is h))
  where
    go : (known : Option (List Entry)) → RefusesRehearsal {A = A} known before after (Err fail) → RefusesListing known IsRunRefused (Stands before after) (RefusesCommand {A = B} (Err (of_rehearsing fail)))
    go None k = tt
    go (Some entries) k = λ kind refused stood. let f = refused-fail entries kind refused in as-kind A B fail f.0 kind (k f.0 f.1 stood) f.2
