-- For what each command refuses. A cause speaks of the listing and of the disk as far as they are told.
use Rattle.std.specs.Prelude.{◌≡◌, ◌⊎◌, ℕ, List, Option, Some, option_and_then, Result, Ok, Err, IfSome}
use Rattle.wdt_units.specs.Have.{HaveFile}
use Rattle.wdt_tree.specs.declared.entry.Entry.{Entry}
use Rattle.wdt_tree.specs.declared.manifest.ManifestFail.TheVariants as checks
use Rattle.wdt_tree.specs.Listing.{IsAccepted, IsRefused, Orders}
use Rattle.wdt_depot.specs.Disk.{seen_of}
use Rattle.wdt_depot.specs.Moments.{IfTold, Told}
use Rattle.wdt_logfmt.specs.View.{Meaning, have_of}
use Rattle.wdt_good.specs.Good.{log_of}
use Rattle.wdt_discover.specs.Plan.{refusal}
use Rattle.wdt_sender_fsm.specs.declared.answers.RefusedKind.{RefusedKind}
use Rattle.wdt_sender_fsm.specs.declared.answers.RefusedKind.TheVariants.{BadPath, Reserved, Twice, TooMany, TooLarge, TooManyBlocks, BadLog}
use Rattle.wdt_words.specs.declared.command.Command.{Command}
use Rattle.wdt_words.specs.declared.command.Command.TheVariants.{Rehearse, Plan, Log}
use Rattle.wdt_rehearsal.specs.Causes.{HasTooManyBlocks}
use Rattle.wdt_tool.specs.Failures.{plan_kind}

-- ---- listings

-- a listing is refused for this, as no tree's
abbrev pub IsListingRefused : List Entry → RefusedKind → Type 0
IsListingRefused listing (BadPath at) = IsRefused listing (checks.BadPath at)
IsListingRefused listing (Reserved at) = IsRefused listing (checks.Reserved at)
IsListingRefused listing (Twice at) = IsRefused listing (checks.Twice at)
IsListingRefused listing (TooMany count) = IsRefused listing (checks.TooMany count)
IsListingRefused listing (TooLarge at) = IsRefused listing (checks.TooLarge at)
IsListingRefused listing other = ⊥

-- one of the kinds for which a listing is refused
abbrev pub IsListingKind : RefusedKind → Type 0
IsListingKind (BadPath at) = Unit {0}
IsListingKind (Reserved at) = Unit {0}
IsListingKind (Twice at) = Unit {0}
IsListingKind (TooMany count) = Unit {0}
IsListingKind (TooLarge at) = Unit {0}
IsListingKind other = ⊥

-- the listing is refused for this, where it is told
abbrev pub IsListingCause : Option (List Entry) → RefusedKind → Type 0
IsListingCause listing kind = IsListingKind kind × IfSome listing (λ entries. IsListingRefused entries kind)

-- ---- rehearsals

-- a rehearsal of a listing is refused for this: as no tree's, else for too many blocks
abbrev pub IsRunRefused : List Entry → RefusedKind → Type 0
IsRunRefused listing (TooManyBlocks count) = HasTooManyBlocks listing count
IsRunRefused listing other = IsListingRefused listing other

-- the same, where the listing is told
abbrev pub IsRunCause : Option (List Entry) → RefusedKind → Type 0
IsRunCause listing (TooManyBlocks count) = IfSome listing (λ entries. HasTooManyBlocks entries count)
IsRunCause listing other = IsListingCause listing other

-- ---- logs

-- a log is refused from where it has no meaning
abbrev pub IsLogRefused : Result Meaning ℕ → RefusedKind → Type 0
IsLogRefused log (BadLog at) = log ≡ Err at
IsLogRefused log other = ⊥

-- the kind for which a log is refused
abbrev pub IsLogKind : RefusedKind → Type 0
IsLogKind (BadLog at) = Unit {0}
IsLogKind other = ⊥

-- the disk's log is refused for this, where the disk is told
abbrev pub IsLogCause : Option Told → RefusedKind → Type 0
IsLogCause told kind = IsLogKind kind × IfTold (λ t. IsLogRefused (log_of (seen_of t.now)) kind) told

-- ---- plans

-- why a tree isn't planned: a file of the have that isn't the tree's, else too many blocks
abbrev pub plan_refusal : List Entry → List HaveFile → ℕ → Option RefusedKind
plan_refusal entries have block = option_and_then plan_kind (refusal entries have block)

-- A tree isn't planned for this against what a log means. The tree is the listing's and the log the disk's,
-- where they are told.
pub record IsUnplanned (block : ℕ) (listing : Option (List Entry)) (told : Option Told) (kind : RefusedKind) : Type 0 where
  pub entries : List Entry
  pub accepted : IfSome listing IsAccepted
  pub order : IfSome listing (λ listed. Orders listed entries)
  pub meaning : Meaning
  pub means : IfTold (λ t. log_of (seen_of t.now) ≡ Ok meaning) told
  pub refused : plan_refusal entries (have_of meaning.files) block ≡ Some kind

-- a plan is refused for this: the listing, or else the log, or else the plan of the one against the other
abbrev pub IsPlanCause : ℕ → Option (List Entry) → Option Told → RefusedKind → Type 0
IsPlanCause block listing told kind =
    IsListingCause listing kind ⊎ ((IfSome listing IsAccepted × IsLogCause told kind) ⊎ IsUnplanned block listing told kind)

-- ---- commands

-- a command is refused for this, as far as what it judges is told: `rehearse` judges the listing, `log` the
-- disk's log, and `plan` both
abbrev pub IsRefusedFor : Command → Option (List Entry) → Option Told → RefusedKind → Type 0
IsRefusedFor Rehearse listing told kind = IsRunCause listing kind
IsRefusedFor (Plan block) listing told kind = IsPlanCause block listing told kind
IsRefusedFor Log listing told kind = IsLogCause told kind
