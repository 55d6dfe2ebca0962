-- That each command refuses what it is to refuse. `source` and `depot` say that no fault was counted there, and
-- `ends kind` that the run is refused for this, or that memory ran out.
use Rattle.std.specs.Prelude.{◌⊎◌, ℕ, List, Option, Some, IfSome}
use Rattle.wdt_tree.specs.declared.entry.Entry.{Entry}
use Rattle.wdt_depot.specs.Disk.{seen_of}
use Rattle.wdt_depot.specs.Moments.{IfTold, Told}
use Rattle.wdt_good.specs.Good.{log_of}
use Rattle.wdt_sender_fsm.specs.declared.answers.RefusedKind.{RefusedKind}
use Rattle.wdt_words.specs.declared.command.Command.{Command}
use Rattle.wdt_words.specs.declared.command.Command.TheVariants.{Rehearse, Plan, Log}
use Rattle.wdt_tool.specs.Refusals.{IsListingCause, IsListingRefused, IsLogRefused, IsRunRefused, IsUnplanned}

-- a listing that is told is refused for what it is to be refused for, where what was asked is fine
abbrev pub RefusesListing : Option (List Entry) → (List Entry → RefusedKind → Type 0) → Type 0 → (RefusedKind → Type 0) → Type 0
RefusesListing listing refused fine ends = IfSome listing (λ entries. (kind : RefusedKind) → refused entries kind → fine → ends kind)

-- so is the log of a disk that is told
abbrev pub RefusesLog : Option Told → Type 0 → (RefusedKind → Type 0) → Type 0
RefusesLog told fine ends = IfTold (λ t. (kind : RefusedKind) → IsLogRefused (log_of (seen_of t.now)) kind → fine → ends kind) told

-- the run ends for its listing
abbrev pub EndsForListing : Option (List Entry) → (RefusedKind → Type 0) → Type 0
EndsForListing listing ends = (kind : RefusedKind) × IsListingCause listing kind × ends kind

-- A plan refuses a listing whatever is known of the depot, and whether or not it fails: the depot isn't asked. It
-- refuses a log but where the listing is refused, which comes before. What is refused of both it refuses where
-- both are told.
pub record RefusesPlan (block : ℕ) (listing : Option (List Entry)) (told : Option Told) (source depot : Type 0) (ends : RefusedKind → Type 0) : Type 0 where
  pub first : RefusesListing listing IsListingRefused source ends
  pub logged : RefusesLog told (source × depot) (λ kind. ends kind ⊎ EndsForListing listing ends)
  pub planned : IfSome listing (λ entries. IfTold (λ t. (kind : RefusedKind) → IsUnplanned block (Some entries) (Some t) kind → source → depot → ends kind) told)

-- each command refuses what it judges, unless what it asks up to there fails, or memory runs out. `rehearse`
-- doesn't ask the depot before it refuses, and `log` asks no source.
abbrev pub Refuses : Command → Option (List Entry) → Option Told → Type 0 → Type 0 → (RefusedKind → Type 0) → Type 0
Refuses Rehearse listing told source depot ends = RefusesListing listing IsRunRefused source ends
Refuses (Plan block) listing told source depot ends = RefusesPlan block listing told source depot ends
Refuses Log listing told source depot ends = RefusesLog told depot ends
