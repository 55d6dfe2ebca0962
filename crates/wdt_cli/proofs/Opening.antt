-- What is kept of a depot over whose log an end is opened, and what stands of it where none is.
use Rattle.std.proofs.Common.{◌≡◌, ◌≤◌, ℕ, List, [], ◌++◌, Option, Some, None, Result, Ok, Err, refl, sym, ap, ◌∙◌, arith, append-nil}
use Rattle.std.specs.Prelude.{IfSome}
use Rattle.wdt_units.specs.Counts.{Rises}
use Rattle.wdt_units.specs.Have.{HaveFile}
use Rattle.wdt_units.specs.Tree.{File}
use Rattle.wdt_tree.specs.Told.{ToldRun}
use Rattle.wdt_depot.specs.Disk.{Disk, seen_of}
use Rattle.wdt_depot.specs.Moments.{IfTold, Told, moments}
use Rattle.wdt_depot.specs.State.{State}
use Rattle.wdt_logfmt.specs.View.{Meaning, have_of}
use Rattle.wdt_good.specs.Good.{log_of}
use Rattle.wdt_good.specs.LogState.{SaysAs}
use Rattle.wdt_good.specs.Logged.{AllFit, GoodSince}
use Rattle.wdt_good.proofs.ForCallers.{last_fits}
use Rattle.wdt_log.specs.Others.{OthersStand, SlipsStand}
use Rattle.wdt_receiver_fsm.specs.PlainReceiver.{PlainReceiver, have_now}
use Rattle.wdt_dock.specs.Dock.{IsRefusal}
use Rattle.wdt_dock.specs.DockGood.{IsGoodFor}
use Rattle.wdt_dock.specs.declared.opening.DockFail.{DockFail}
use Rattle.wdt_dock.specs.declared.opening.DockFail.TheVariants as opening
use Rattle.wdt_recv_lanes.specs.Kept.{GoodFor, HadOf}
use Rattle.wdt_tool.specs.declared.fail.CommandFail.{CommandFail}
use Rattle.wdt_tool.specs.declared.fail.CommandFail.TheVariants.{NoMemory}
use Rattle.wdt_cli.specs.Carried.{HasLogged, IsGivenTo}
use Rattle.wdt_cli.specs.Copied.{IsOpeningCause, IsUnopened, failure_of}

-- ---- an end that is opened

abbrev meaning_or : Meaning → Result Meaning ℕ → Meaning
meaning_or m (Ok n) = n
meaning_or m (Err at) = m

-- a log means one thing
one_meaning : (log : Result Meaning ℕ) (m n : Meaning) → log ≡ Ok m → log ≡ Ok n → m ≡ n
one_meaning log m n this that = ap (meaning_or m) (sym this ∙ that)

-- what a disk has logged is what the opening says of it
logged_had : (d : Disk) (have : List HaveFile) (r : PlainReceiver) → HasLogged d have → SaysAs (seen_of d) r.log.files → r.opening ≡ r.log.files → have_now r.opening r.history ≡ have
unfolding have_now
logged_had d have r logged says opening =
    let one : says.meaning ≡ logged.0 = one_meaning (log_of (seen_of d)) says.meaning logged.0 says.means logged.1 in
    ap have_of opening ∙ (says.have ∙ (ap (λ (x : Meaning). have_of x.files) one ∙ sym logged.2))

had_told : (told : ToldRun) (t : Option Told) (r : PlainReceiver) → IsGivenTo told t → IfTold (λ u. SaysAs (seen_of u.now) r.log.files) t → r.opening ≡ r.log.files → have_now r.opening r.history ≡ told.have
had_told told None r given says opening = absurd given
had_told told (Some u) r given says opening = logged_had u.now told.have r given.1 says opening

-- the destination had what the run says
pub had_of : (run : Option ToldRun) (t : Option Told) (r : PlainReceiver) → IfSome run (λ told. IsGivenTo told t) → IfTold (λ u. SaysAs (seen_of u.now) r.log.files) t → r.opening ≡ r.log.files → HadOf run r
had_of None t r given says opening = tt
had_of (Some told) t r given says opening = had_told told t r given says opening

-- what is given to the run fits its tree
fits_given : (told : ToldRun) (t : Option Told) → IsGivenTo told t → IfTold (λ u. AllFit told.tree u.now) t
fits_given told None given = absurd given
fits_given told (Some u) given = given.0

-- so each image of it fits the run's tree
pub fits_for : (run : Option ToldRun) (t : Option Told) → IfSome run (λ told. IsGivenTo told t) → IfSome run (λ told. IfTold (λ u. AllFit told.tree u.now) t)
fits_for None t given = tt
fits_for (Some told) t given = fits_given told t given

-- and what is good for each tree that each image fits is good for the run's
pub good_for : (run : Option ToldRun) (t : Option Told) (r : PlainReceiver) (s : State) → IfSome run (λ told. IsGivenTo told t) → ((T : List File) → IfTold (λ u. AllFit T u.now) t → IsGoodFor T r s) → GoodFor run r s
good_for None t r s given good = tt
good_for (Some told) t r s given good = good told.tree (fits_given told t given)

-- ---- a depot that wasn't touched

same_images : (T : List File) (t : Option Told) → GoodSince T [] t t
same_images T None = tt
same_images T (Some u) = ([], sym (append-nil (moments u)), tt)

same_others : (t : Option Told) → OthersStand t t
same_others None = tt
same_others (Some u) = λ path log new_log. refl

same_slips : (s : State) (t : Option Told) → IfTold (λ u. s.slips ≡ s.slips) t
same_slips s None = tt
same_slips s (Some u) = refl

-- memory ran out before a call was made
pub untouched : (s : State) → s.spots ≡ [] → IsUnopened NoMemory s s
untouched s spots = record {
  images = λ T fits. same_images T s.told;
  good = λ T fits. fits;
  others = same_others s.told;
  slips = same_slips s s.told;
  spots = spots;
  later = omega arith;
  cause = tt;
}

-- ---- a depot whose log was opened, or couldn't be

-- what stands of it, whatever the failure is
pub stands : (failure : CommandFail) (s0 s1 : State) → ((T : List File) → IfTold (λ t. AllFit T t.now) s0.told → GoodSince T [] s0.told s1.told) → OthersStand s0.told s1.told → SlipsStand s0 s1 → s1.spots ≡ [] → s0.faults ≤ s1.faults
    → IsOpeningCause failure s0 s1 → IsUnopened failure s0 s1
stands failure s0 s1 images others slips spots later cause = record {
  images = images;
  good = λ T fits. last_fits T [] s0.told s1.told fits (images T fits);
  others = others;
  slips = slips;
  spots = spots;
  later = later;
  cause = cause;
}

-- why it couldn't be opened
pub cause_of : (failure : DockFail) (s0 s1 : State) → IsRefusal s0.told failure → (failure ≡ opening.Disk → Rises s0.faults s1.faults) → IsOpeningCause (failure_of failure) s0 s1
cause_of opening.Disk s0 s1 refused rose = rose refl
cause_of (opening.BadLog at) s0 s1 refused rose = (tt, refused)
cause_of opening.NoMemory s0 s1 refused rose = tt
