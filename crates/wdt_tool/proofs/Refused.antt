-- At most one refusal of a listing, of a log and of a plan holds, so the one that is answered is it.
use Rattle.std.proofs.Common.{◌≡◌, Vec, Global, inl, inr, ◌⊎◌, ℕ, List, Option, Some, None, Result, Ok, Err, refl, sym, ap, ◌∙◌, subst, arith}
use Rattle.std.specs.Prelude.{option_and_then, IfOk, IfErr, IsErrOf, IfSome}
use Rattle.wdt_units.specs.Counts.{Rises, Stands}
use Rattle.wdt_tree.specs.declared.entry.Entry.{Entry}
use Rattle.wdt_tree.specs.declared.manifest.ManifestFail.{ManifestFail}
use Rattle.wdt_tree.specs.declared.manifest.ManifestFail.TheVariants as checks
use Rattle.wdt_tree.specs.Listing.{IsAccepted, IsRefused, Orders, Refuses as ChecksFor}
use Rattle.wdt_tree.proofs.Shared.{accepts, refuses}
use Rattle.wdt_depot.specs.Disk.{seen_of}
use Rattle.wdt_depot.specs.Moments.{IfTold, Told}
use Rattle.wdt_logfmt.specs.View.{Meaning, have_of}
use Rattle.wdt_good.specs.Good.{log_of, log_path}
use Rattle.wdt_rehearsal.proofs.ForCallers.{one-list}
use Rattle.wdt_sender_fsm.specs.declared.answers.RefusedKind.{RefusedKind}
use Rattle.wdt_sender_fsm.specs.declared.answers.RefusedKind.TheVariants.{BadScript, BadPath, Reserved, Twice, TooMany, TooLarge, TooManyBlocks, Stale, BadLog}
use Rattle.wdt_words.specs.declared.command.Command.{Command}
use Rattle.wdt_words.specs.declared.command.Command.TheVariants.{Rehearse, Plan, Log}
use Rattle.wdt_tool.specs.declared.fail.CommandFail.{CommandFail}
use Rattle.wdt_tool.specs.declared.fail.CommandFail.TheVariants as fails
use Rattle.wdt_tool.specs.declared.status.Status.{Status}
use Rattle.wdt_tool.specs.Causes.{IsCauseOf, IsFailureEnd, IsLogFail, IsRefusalEnd, RefusesCommand}
use Rattle.wdt_tool.specs.Failures.{check_kind, plan_kind}
use Rattle.wdt_tool.specs.Plans.{IsPlan}
use Rattle.wdt_tool.specs.Refusals.{plan_refusal, IsListingRefused, IsLogRefused, IsPlanCause, IsUnplanned}
use Rattle.wdt_tool.specs.Refusing.{EndsForListing, Refuses, RefusesListing, RefusesLog, RefusesPlan}
use Rattle.wdt_tool.specs.Stored.{IsShown}
use Rattle.wdt_tool.proofs.Found.{found-means}

-- ---- listings

listing-fail : (listing : List Entry) (kind : RefusedKind) → IsListingRefused listing kind → (f : ManifestFail) × IsRefused listing f × (check_kind f ≡ Some kind)
listing-fail listing (BadPath at) h = (checks.BadPath at, h, refl)
listing-fail listing (Reserved at) h = (checks.Reserved at, h, refl)
listing-fail listing (Twice at) h = (checks.Twice at, h, refl)
listing-fail listing (TooMany count) h = (checks.TooMany count, h, refl)
listing-fail listing (TooLarge at) h = (checks.TooLarge at, h, refl)
listing-fail listing (BadScript line) h = absurd h
listing-fail listing (TooManyBlocks count) h = absurd h
listing-fail listing (Stale path logged found) h = absurd h
listing-fail listing (BadLog at) h = absurd h

same-fail : (listing : List Entry) (f g : ManifestFail) → IsRefused listing f → ChecksFor {A = Unit {0}} (Err f) g → f ≡ g
same-fail listing checks.NoMemory g is h = absurd is
same-fail listing (checks.TooMany count) g is h = h
same-fail listing (checks.BadPath at) g is h = h
same-fail listing (checks.Reserved at) g is h = h
same-fail listing (checks.Twice at) g is h = h
same-fail listing (checks.TooLarge at) g is h = h

one-listing : (listing : List Entry) (k j : RefusedKind) → IsListingRefused listing k → IsListingRefused listing j → k ≡ j
one-listing listing k j a b =
    let x = listing-fail listing k a in
    let y = listing-fail listing j b in
    let same : x.0 ≡ y.0 = same-fail listing x.0 y.0 x.1 (refuses (Unit {0}) listing x.0 (λ other. x.1) y.0 y.1) in
    let s : Some k ≡ Some j = sym x.2 ∙ (ap check_kind same ∙ y.2) in
    cc

not-listing : (A : Type 0) (listing : List Entry) (k : RefusedKind) → IsAccepted listing → IsListingRefused listing k → A
not-listing A listing k accepted a = let x = listing-fail listing k a in absurd (accepts listing accepted x.0 x.1)

-- ---- logs

log-fail : (log : Result Meaning ℕ) (kind : RefusedKind) → IsLogRefused log kind → (at : ℕ) × (log ≡ Err at) × (kind ≡ BadLog at)
log-fail log (BadLog at) h = (at, h, refl)
log-fail log (BadPath at) h = absurd h
log-fail log (Reserved at) h = absurd h
log-fail log (Twice at) h = absurd h
log-fail log (TooMany count) h = absurd h
log-fail log (TooLarge at) h = absurd h
log-fail log (BadScript line) h = absurd h
log-fail log (TooManyBlocks count) h = absurd h
log-fail log (Stale path logged found) h = absurd h

one-log : (log : Result Meaning ℕ) (k j : RefusedKind) → IsLogRefused log k → IsLogRefused log j → k ≡ j
one-log log k j a b =
    let x = log-fail log k a in
    let y = log-fail log j b in
    let s : Err x.0 ≡ Err y.0 = (let t : Result Meaning ℕ = log in sym x.1 ∙ y.1) in
    let same : x.0 ≡ y.0 = cc in
    x.2 ∙ (ap BadLog same ∙ sym y.2)

not-log : (A : Type 0) (log : Result Meaning ℕ) (m : Meaning) (k : RefusedKind) → log ≡ Ok m → IsLogRefused log k → A
not-log A log m k means a =
    let x = log-fail log k a in
    let s : Ok m ≡ Err x.0 = sym means ∙ x.1 in
    absurd cc

-- ---- plans

one-meaning : (log : Result Meaning ℕ) (m n : Meaning) → log ≡ Ok m → log ≡ Ok n → m ≡ n
one-meaning log m n a b = let s : Ok m ≡ Ok n = sym a ∙ b in cc

-- the plan of the one tree against the one log
same-plan : (block : ℕ) (listing entries : List Entry) (t : Told) (m : Meaning) (k : RefusedKind) → Orders listing entries → log_of (seen_of t.now) ≡ Ok m → IsUnplanned block (Some listing) (Some t) k
    → plan_refusal entries (have_of m.files) block ≡ Some k
same-plan block listing entries t m k order means u =
    let es : u.entries ≡ entries = one-list listing u.entries entries u.order order in
    let ms : u.meaning ≡ m = one-meaning (log_of (seen_of t.now)) u.meaning m u.means means in
    subst (λ (n : Meaning). plan_refusal entries (have_of n.files) block ≡ Some k) ms
    (subst (λ (xs : List Entry). plan_refusal xs (have_of u.meaning.files) block ≡ Some k) es u.refused)

one-unplanned : (block : ℕ) (listing : List Entry) (t : Told) (k j : RefusedKind) → IsUnplanned block (Some listing) (Some t) k → IsUnplanned block (Some listing) (Some t) j → k ≡ j
one-unplanned block listing t k j a b =
    let s : Some k ≡ Some j = sym (same-plan block listing b.entries t b.meaning k b.order b.means a) ∙ b.refused in
    cc

-- a plan that is there isn't refused
not-plan : (A : Type 0) (block : ℕ) (listing : List Entry) (t : Told) (text : List ℕ) (k : RefusedKind) → IsPlan block (Some listing) (Some t) text → IsUnplanned block (Some listing) (Some t) k → A
not-plan A block listing t text k plan u =
    let s : None ≡ Some k = sym (ap (option_and_then plan_kind) plan.fits) ∙ same-plan block listing plan.entries t plan.meaning k plan.order plan.means u in
    absurd cc

-- ---- so a command is refused for what it is to be refused

not-both : (A : Type 0) (old new : ℕ) → Rises old new → Stands old new → A
not-both A old new rose stood = absurd (omega (arith, rose.more stood.below, stood.same))

first-refuses : (block : ℕ) (listing : Option (List Entry)) (told : Option Told) (before after : ℕ) (result : Result (Vec ℕ Global) CommandFail)
    → IfOk result (λ text. IsPlan block listing told text.items) → IfErr result (IsCauseOf (IsPlanCause block listing told))
    → (IsErrOf result fails.Source → Rises before after) → (IsErrOf result fails.Disk → IfSome listing IsAccepted)
    → RefusesListing listing IsListingRefused (Stands before after) (RefusesCommand result)
first-refuses block None told before after result plan cause source accepted = tt
first-refuses block (Some entries) told before after (Ok text) plan cause source accepted = λ kind refused stood. not-listing ⊥ entries kind plan.accepted refused
first-refuses block (Some entries) told before after (Err fails.Source) plan cause source accepted = λ kind refused stood. not-both ⊥ before after (source refl) stood
first-refuses block (Some entries) told before after (Err fails.Disk) plan cause source accepted = λ kind refused stood. not-listing ⊥ entries kind (accepted refl) refused
first-refuses block (Some entries) told before after (Err (fails.Refused other)) (plan) cause source accepted = λ kind refused stood. go kind refused cause
  where
    go : (kind : RefusedKind) → IsListingRefused entries kind → IsPlanCause block (Some entries) told other → other ≡ kind
    go kind refused (inl a) = one-listing entries other kind a.1 refused
    go kind refused (inr (inl b)) = not-listing (other ≡ kind) entries kind b.0 refused
    go kind refused (inr (inr u)) = not-listing (other ≡ kind) entries kind u.accepted refused
first-refuses block (Some entries) told before after (Err fails.NoMemory) plan cause source accepted = λ kind refused stood. tt

logged-refuses : (block : ℕ) (listing : Option (List Entry)) (told : Option Told) (before after before2 after2 : ℕ) (result : Result (Vec ℕ Global) CommandFail)
    → IfOk result (λ text. IsPlan block listing told text.items) → IfErr result (IsCauseOf (IsPlanCause block listing told))
    → (IsErrOf result fails.Source → Rises before after) → (IsErrOf result fails.Disk → Rises before2 after2)
    → RefusesLog told (Stands before after × Stands before2 after2) (λ kind. RefusesCommand result kind ⊎ EndsForListing listing (RefusesCommand result))
logged-refuses block listing None before after before2 after2 result plan cause source disk = tt
logged-refuses block listing (Some t) before after before2 after2 (Ok text) plan cause source disk =
    λ kind refused stood. not-log (RefusesCommand (Ok text) kind ⊎ EndsForListing listing (RefusesCommand (Ok text))) (log_of (seen_of t.now)) plan.meaning kind plan.means refused
logged-refuses block listing (Some t) before after before2 after2 (Err fails.Source) plan cause source disk =
    λ kind refused stood. not-both (RefusesCommand {A = Vec ℕ Global} (Err fails.Source) kind ⊎ EndsForListing listing (RefusesCommand {A = Vec ℕ Global} (Err fails.Source))) before after (source refl) stood.0
logged-refuses block listing (Some t) before after before2 after2 (Err fails.Disk) plan cause source disk =
    λ kind refused stood. not-both (RefusesCommand {A = Vec ℕ Global} (Err fails.Disk) kind ⊎ EndsForListing listing (RefusesCommand {A = Vec ℕ Global} (Err fails.Disk))) before2 after2 (disk refl) stood.1
logged-refuses block listing (Some t) before after before2 after2 (Err (fails.Refused other)) plan cause source disk = λ kind refused stood. go kind refused cause
  where
    go : (kind : RefusedKind) → IsLogRefused (log_of (seen_of t.now)) kind → IsPlanCause block listing (Some t) other
        → (other ≡ kind) ⊎ EndsForListing listing (RefusesCommand {A = Vec ℕ Global} (Err (fails.Refused other)))
    go kind refused (inl a) = inr (other, a, refl)
    go kind refused (inr (inl b)) = inl (one-log (log_of (seen_of t.now)) other kind b.1.1 refused)
    go kind refused (inr (inr u)) = not-log ((other ≡ kind) ⊎ EndsForListing listing (RefusesCommand {A = Vec ℕ Global} (Err (fails.Refused other)))) (log_of (seen_of t.now)) u.meaning kind u.means refused
logged-refuses block listing (Some t) before after before2 after2 (Err fails.NoMemory) plan cause source disk = λ kind refused stood. inl tt

planned-refuses : (block : ℕ) (listing : Option (List Entry)) (told : Option Told) (before after before2 after2 : ℕ) (result : Result (Vec ℕ Global) CommandFail)
    → IfOk result (λ text. IsPlan block listing told text.items) → IfErr result (IsCauseOf (IsPlanCause block listing told))
    → (IsErrOf result fails.Source → Rises before after) → (IsErrOf result fails.Disk → Rises before2 after2)
    → IfSome listing (λ entries. IfTold (λ t. (kind : RefusedKind) → IsUnplanned block (Some entries) (Some t) kind → Stands before after → Stands before2 after2 → RefusesCommand result kind) told)
planned-refuses block None told before after before2 after2 result plan cause source disk = tt
planned-refuses block (Some listing) None before after before2 after2 result plan cause source disk = tt
planned-refuses block (Some listing) (Some t) before after before2 after2 (Ok text) plan cause source disk = λ kind u stood stood2. not-plan ⊥ block listing t text.items kind plan u
planned-refuses block (Some listing) (Some t) before after before2 after2 (Err fails.Source) plan cause source disk = λ kind u stood stood2. not-both ⊥ before after (source refl) stood
planned-refuses block (Some listing) (Some t) before after before2 after2 (Err fails.Disk) plan cause source disk = λ kind u stood stood2. not-both ⊥ before2 after2 (disk refl) stood2
planned-refuses block (Some listing) (Some t) before after before2 after2 (Err (fails.Refused other)) plan cause source disk = λ kind u stood stood2. go kind u cause
  where
    go : (kind : RefusedKind) → IsUnplanned block (Some listing) (Some t) kind → IsPlanCause block (Some listing) (Some t) other → other ≡ kind
    go kind u (inl a) = not-listing (other ≡ kind) listing other u.accepted a.1
    go kind u (inr (inl b)) = not-log (other ≡ kind) (log_of (seen_of t.now)) u.meaning other u.means b.1.1
    go kind u (inr (inr v)) = one-unplanned block listing t other kind v u
planned-refuses block (Some listing) (Some t) before after before2 after2 (Err fails.NoMemory) plan cause source disk = λ kind u stood stood2. tt

pub plan-refuses : (block : ℕ) (listing : Option (List Entry)) (told : Option Told) (before after before2 after2 : ℕ) (result : Result (Vec ℕ Global) CommandFail)
    → IfOk result (λ text. IsPlan block listing told text.items) → IfErr result (IsCauseOf (IsPlanCause block listing told))
    → (IsErrOf result fails.Source → Rises before after) → (IsErrOf result fails.Disk → Rises before2 after2) → (IsErrOf result fails.Disk → IfSome listing IsAccepted)
    → RefusesPlan block listing told (Stands before after) (Stands before2 after2) (RefusesCommand result)
plan-refuses block listing told before after before2 after2 result plan cause source disk accepted = record {
  first = first-refuses block listing told before after result plan cause source accepted;
  logged = logged-refuses block listing told before after before2 after2 result plan cause source disk;
  planned = planned-refuses block listing told before after before2 after2 result plan cause source disk;
}

-- a log that has no meaning is refused
pub log-refuses : (told : Option Told) (before after : ℕ) (result : Result (Vec ℕ Global) CommandFail) → IfOk result (λ text. IsShown told text.items) → IfErr result (IsLogFail told)
    → (IsErrOf result fails.Disk → Rises before after) → RefusesLog told (Stands before after) (RefusesCommand result)
log-refuses None before after result shown cause disk = tt
log-refuses (Some t) before after (Ok text) shown cause disk =
    λ kind refused stood. let m = found-means (seen_of t.now log_path) shown.found shown.there in not-log ⊥ (log_of (seen_of t.now)) m.0 kind m.1 refused
log-refuses (Some t) before after (Err fails.Source) shown cause disk = absurd cause
log-refuses (Some t) before after (Err fails.Disk) shown cause disk = λ kind refused stood. not-both ⊥ before after (disk refl) stood
log-refuses (Some t) before after (Err (fails.Refused other)) shown cause disk = λ kind refused stood. one-log (log_of (seen_of t.now)) other kind cause.1 refused
log-refuses (Some t) before after (Err fails.NoMemory) shown cause disk = λ kind refused stood. tt

-- ---- what ends a run

listing-more : (listing : Option (List Entry)) (refused : List Entry → RefusedKind → Type 0) (fine : Type 0) (E F : RefusedKind → Type 0) → ((k : RefusedKind) → E k → F k) → RefusesListing listing refused fine E → RefusesListing listing refused fine F
listing-more None refused fine E F f h = tt
listing-more (Some entries) refused fine E F f h = λ kind holds stood. f kind (h kind holds stood)

log-more : (told : Option Told) (fine : Type 0) (E F : RefusedKind → Type 0) → ((k : RefusedKind) → E k → F k) → RefusesLog told fine E → RefusesLog told fine F
log-more None fine E F f h = tt
log-more (Some t) fine E F f h = λ kind holds stood. f kind (h kind holds stood)

both-more : (listing : Option (List Entry)) (told : Option Told) (E F : RefusedKind → Type 0) (P : List Entry → Told → RefusedKind → Type 0) (source depot : Type 0) → ((k : RefusedKind) → E k → F k)
    → IfSome listing (λ entries. IfTold (λ t. (kind : RefusedKind) → P entries t kind → source → depot → E kind) told)
    → IfSome listing (λ entries. IfTold (λ t. (kind : RefusedKind) → P entries t kind → source → depot → F kind) told)
both-more None told E F P source depot f h = tt
both-more (Some entries) None E F P source depot f h = tt
both-more (Some entries) (Some t) E F P source depot f h = λ kind holds fine fine2. f kind (h kind holds fine fine2)

-- what refuses by one end does so by another that follows
pub refuses-more : (command : Command) (listing : Option (List Entry)) (told : Option Told) (source depot : Type 0) (E F : RefusedKind → Type 0) → ((k : RefusedKind) → E k → F k)
    → Refuses command listing told source depot E → Refuses command listing told source depot F
refuses-more Rehearse listing told source depot E F f h = listing-more listing _ source E F f h
refuses-more Log listing told source depot E F f h = log-more told depot E F f h
refuses-more (Plan block) listing told source depot E F f h = record {
  first = listing-more listing IsListingRefused source E F f h.first;
  logged = log-more told (source × depot) (λ kind. E kind ⊎ EndsForListing listing E) (λ kind. F kind ⊎ EndsForListing listing F) either h.logged;
  planned = both-more listing told E F (λ entries t kind. IsUnplanned block (Some entries) (Some t) kind) source depot f h.planned;
}
  where
    either : (kind : RefusedKind) → E kind ⊎ EndsForListing listing E → F kind ⊎ EndsForListing listing F
    either kind (inl e) = inl (f kind e)
    either kind (inr x) = inr (x.0, x.1, f x.0 x.2)

-- a run whose command failed ends by its refusal
end-refuses : (A : Type 0) (result : Result A CommandFail) (fail : CommandFail) (status : Status) → result ≡ Err fail → IsFailureEnd fail status → (k : RefusedKind) → RefusesCommand result k → IsRefusalEnd k status
end-refuses A result fail status is end k h = go fail end (subst (λ (r : Result A CommandFail). RefusesCommand r k) is h)
  where
    go : (f : CommandFail) → IsFailureEnd f status → RefusesCommand {A = A} (Err f) k → IsRefusalEnd k status
    go fails.Source ends r = absurd r
    go fails.Disk ends r = absurd r
    go (fails.Refused other) ends r = subst (λ (j : RefusedKind). IsRefusalEnd j status) r ends
    go fails.NoMemory ends r = subst (IsRefusalEnd k) (sym ends) tt

pub command-refuses : (A : Type 0) (words : Option Command) (command : Command) (listing : Option (List Entry)) (told : Option Told) (source depot : Type 0) (result : Result A CommandFail) (fail : CommandFail) (status : Status)
    → words ≡ Some command → result ≡ Err fail → IsFailureEnd fail status → Refuses command listing told source depot (RefusesCommand result)
    → IfSome words (λ c. Refuses c listing told source depot (λ kind. IsRefusalEnd kind status))
command-refuses A words command listing told source depot result fail status is failed end h =
    subst (λ (w : Option Command). IfSome w (λ c. Refuses c listing told source depot (λ kind. IsRefusalEnd kind status))) (sym is)
    (refuses-more command listing told source depot (RefusesCommand result) (λ kind. IsRefusalEnd kind status) (end-refuses A result fail status failed end) h)
