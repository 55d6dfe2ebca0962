-- What is planned of a whole tree.
use Rattle.std.proofs.Common.{◌≡◌, ℕ, ◌<◌, ◌≤◌, Bool, true, false, List, [], length, Option, Some, None, IfSome, Result, Ok, Err, refl, sym, ap, ◌∙◌, subst, cond, nat_lt, arith}
use Rattle.std.specs.Prelude.{IsErrAnd}
use Rattle.std.proofs.lemmas.Bool.{ltb-true}
use Rattle.wdt_units.specs.Counts.{Stands}
use Rattle.wdt_units.specs.declared.blocks.Block.{Block}
use Rattle.wdt_tree.specs.declared.entry.Entry.{Entry}
use Rattle.wdt_tree.specs.declared.manifest.ManifestFail.{ManifestFail}
use Rattle.wdt_tree.specs.Cuts.{cuts}
use Rattle.wdt_tree.specs.Listing.{IsAccepted, IsRefused, Orders, Refuses}
use Rattle.wdt_tree.specs.Rest.{IsRest}
use Rattle.wdt_tree.proofs.Shared.{cuts_rest, rest_once}
use Rattle.wdt_rest.specs.RestOf.{IsHave, rest_of}
use Rattle.wdt_rest.proofs.Shared.{list_is_rest}
use Rattle.wdt_discover.specs.declared.fail.PlanFail.{PlanFail}
use Rattle.wdt_discover.specs.declared.fail.PlanFail.TheVariants as plans
use Rattle.wdt_discover.specs.Plan.{refusal, too_many}
use Rattle.wdt_rehearsal.specs.declared.fail.RehearseFail.{RehearseFail}
use Rattle.wdt_rehearsal.specs.declared.fail.RehearseFail.TheVariants.{Source, Disk, Listing, Plan, NoMemory}
use Rattle.wdt_rehearsal.specs.Causes.{HasTooManyBlocks, IsCause, IsRefusedFor, RefusesRun}
use Rattle.wdt_rehearsal.specs.Failures.{of_planning}
use Rattle.wdt_rehearsal.proofs.Unique.{one-list}

some-block : 0 < 16777216
some-block = omega arith

nothing : IsHave []
nothing = record { rising = refl; sets = refl }

-- the blocks of a plan are the whole tree's
pub planned-cuts : (entries : List Entry) (blocks : List Block) → IsRest entries [] 16777216 blocks → blocks ≡ cuts 16777216 entries
planned-cuts entries blocks rest = rest_once entries [] 16777216 blocks (cuts 16777216 entries) some-block rest (cuts_rest entries 16777216 some-block)

rest-list : (entries : List Entry) → IsRest entries [] 16777216 (rest_of entries [] 16777216)
rest-list entries = list_is_rest entries [] 16777216 some-block nothing

-- ---- the one refusal

over : (n : ℕ) (given : PlanFail) → too_many n ≡ Some given → (given ≡ plans.TooManyBlocks n) × (1048576 < n)
over n given e = go (nat_lt 1048576 n) refl e
  where
    go : (b : Bool) → nat_lt 1048576 n ≡ b → cond b (Some (plans.TooManyBlocks n)) None ≡ Some given → (given ≡ plans.TooManyBlocks n) × (1048576 < n)
    go true h k = ((let s : plans.TooManyBlocks n ≡ given = cc in sym s), ltb-true 1048576 n h)
    go false h k = absurd (let s : None ≡ Some given = k in cc)

refused-over : (entries : List Entry) (given : PlanFail) → refusal entries [] 16777216 ≡ Some given → (given ≡ plans.TooManyBlocks (length (rest_of entries [] 16777216))) × (1048576 < length (rest_of entries [] 16777216))
refused-over entries given e = over (length (rest_of entries [] 16777216)) given e

-- no file is stale
not-stale : (A : Type 0) (entries : List Entry) (path : List ℕ) (logged : ℕ × ℕ) (found : Option (ℕ × ℕ)) → refusal entries [] 16777216 ≡ Some (plans.Stale path logged found) → A
not-stale A entries path logged found e = absurd (let s : plans.Stale path logged found ≡ plans.TooManyBlocks (length (rest_of entries [] 16777216)) = (refused-over entries (plans.Stale path logged found) e).0 in cc)

pub too-many : (listing entries : List Entry) (count : ℕ) → IsAccepted listing → Orders listing entries → refusal entries [] 16777216 ≡ Some (plans.TooManyBlocks count) → HasTooManyBlocks listing count
too-many listing entries count accepted order e =
    let h = refused-over entries (plans.TooManyBlocks count) e in
    let n : count ≡ length (rest_of entries [] 16777216) = let s : plans.TooManyBlocks count ≡ plans.TooManyBlocks (length (rest_of entries [] 16777216)) = h.0 in cc in
    record {
      accepted = accepted;
      entries = entries;
      order = order;
      blocks = rest_of entries [] 16777216;
      rest = rest-list entries;
      long = n;
      over = subst (λ k. 1048576 < k) (sym n) h.1;
    }

-- ---- where there is a cause, it is answered

-- blocks of a plan are few
pub not-over : (A : Type 0) (listing entries : List Entry) (count : ℕ) (blocks : List Block) → HasTooManyBlocks listing count → Orders listing entries → IsRest entries [] 16777216 blocks → length blocks ≤ 1048576 → A
not-over A listing entries count blocks many order rest few =
    let same : many.entries ≡ entries = one-list listing many.entries entries many.order order in
    let there : IsRest entries [] 16777216 many.blocks = subst (λ (es : List Entry). IsRest es [] 16777216 many.blocks) same many.rest in
    let is : blocks ≡ many.blocks = rest_once entries [] 16777216 blocks many.blocks some-block rest there in
    absurd (omega (arith, ap length is, many.long, many.over))

same-count : (listing entries : List Entry) (count : ℕ) → HasTooManyBlocks listing count → Orders listing entries → length (rest_of entries [] 16777216) ≡ count
same-count listing entries count many order =
    let same : many.entries ≡ entries = one-list listing many.entries entries many.order order in
    let there : IsRest entries [] 16777216 many.blocks = subst (λ (es : List Entry). IsRest es [] 16777216 many.blocks) same many.rest in
    ap length (rest_once entries [] 16777216 (rest_of entries [] 16777216) many.blocks some-block (rest-list entries) there) ∙ sym many.long

planned-many : (A : Type 0) (n count : ℕ) (given : PlanFail) → given ≡ plans.TooManyBlocks n → n ≡ count → RefusesRun {A = A} (Err (of_planning given)) (Plan (plans.TooManyBlocks count))
planned-many A n count (plans.TooManyBlocks m) e same = ap (λ (k : ℕ). Plan (plans.TooManyBlocks k)) ((let s : m ≡ n = cc in s) ∙ same)
planned-many A n count (plans.Stale path logged found) e same = absurd cc
planned-many A n count plans.NoMemory e same = tt

-- a check that accepted refuses nothing; what is left are too many blocks
past-check : (A B : Type 0) (manifest : B) (listing : List Entry) (refused : RehearseFail) (r : Result A RehearseFail) → ((f : ManifestFail) → IsRefused listing f → Refuses {A = B} (Ok manifest) f)
    → ((count : ℕ) → HasTooManyBlocks listing count → RefusesRun r (Plan (plans.TooManyBlocks count))) → IsRefusedFor listing refused → RefusesRun r refused
past-check A B manifest listing (Listing f) r refuses many is = absurd (refuses f is)
past-check A B manifest listing (Plan (plans.TooManyBlocks count)) r refuses many is = many count is
past-check A B manifest listing (Plan (plans.Stale path logged found)) r refuses many is = absurd is
past-check A B manifest listing (Plan plans.NoMemory) r refuses many is = absurd is
past-check A B manifest listing Source r refuses many is = absurd is
past-check A B manifest listing Disk r refuses many is = absurd is
past-check A B manifest listing NoMemory r refuses many is = absurd is

-- ---- the same of a listing that is told

abbrev pub IsToldRun : {A : Type 0} → Option (List Entry) → ℕ → ℕ → Result A RehearseFail → Type 0
IsToldRun listing before after r = IfSome listing (λ entries. (refused : RehearseFail) → IsRefusedFor entries refused → Stands before after → RefusesRun r refused)

told-run : (A : Type 0) (listing : Option (List Entry)) (entries : List Entry) (before after : ℕ) (r : Result A RehearseFail) → IfSome listing (λ listed. entries ≡ listed) → ((refused : RehearseFail) → IsRefusedFor entries refused → RefusesRun r refused) → IsToldRun listing before after r
told-run A None entries before after r is h = tt
told-run A (Some listed) entries before after r is h = λ refused holds stood. h refused (subst (λ (es : List Entry). IsRefusedFor es refused) (sym is) holds)

pub plan-refused : (A B : Type 0) (m : B) (listing : Option (List Entry)) (entries ordered : List Entry) (before after : ℕ) (given : PlanFail) → IfSome listing (λ listed. entries ≡ listed)
    → ((f : ManifestFail) → IsRefused entries f → Refuses {A = B} (Ok m) f) → Orders entries ordered → ((given ≡ plans.NoMemory → ⊥) → refusal ordered [] 16777216 ≡ Some given)
    → IsToldRun {A = A} listing before after (Err (of_planning given))
plan-refused A B m listing entries ordered before after given is refuses order refused =
    told-run A listing entries before after (Err (of_planning given)) is (λ kind h. past-check A B m entries kind (Err (of_planning given)) refuses (λ count many. answered given count many refused) h)
  where
    answered : (e : PlanFail) (count : ℕ) → HasTooManyBlocks entries count → ((e ≡ plans.NoMemory → ⊥) → refusal ordered [] 16777216 ≡ Some e) → RefusesRun {A = A} (Err (of_planning e)) (Plan (plans.TooManyBlocks count))
    answered plans.NoMemory count many h = tt
    answered (plans.TooManyBlocks n) count many h =
        planned-many A (length (rest_of ordered [] 16777216)) count (plans.TooManyBlocks n) (refused-over ordered (plans.TooManyBlocks n) (h (λ z. absurd cc))).0 (same-count entries ordered count many order)
    answered (plans.Stale path logged found) count many h = not-stale (RefusesRun {A = A} (Err (Plan (plans.Stale path logged found))) (Plan (plans.TooManyBlocks count))) ordered path logged found (h (λ z. absurd cc))

-- a plan was there, so nothing was to be refused
pub none-refused : (A B : Type 0) (m : B) (listing : Option (List Entry)) (entries ordered : List Entry) (blocks : List Block) (before after : ℕ) (r : Result A RehearseFail) → IfSome listing (λ listed. entries ≡ listed)
    → ((f : ManifestFail) → IsRefused entries f → Refuses {A = B} (Ok m) f) → Orders entries ordered → IsRest ordered [] 16777216 blocks → length blocks ≤ 1048576 → IsToldRun {A = A} listing before after r
none-refused A B m listing entries ordered blocks before after r is refuses order rest few =
    told-run A listing entries before after r is (λ kind h. past-check A B m entries kind r refuses (λ count many. not-over (RefusesRun r (Plan (plans.TooManyBlocks count))) entries ordered count blocks many order rest few) h)

-- what holds of an error that a call handed on
pub handed_on : {A : Type 0} (r : Result A RehearseFail) (given : RehearseFail) (P : Result A RehearseFail → Type 0) → IsErrAnd r (λ e. e ≡ given) → P (Err given) → P r
handed_on (Ok x) given P h p = absurd h
handed_on (Err e) given P h p = subst (λ (x : RehearseFail). P (Err x)) (sym h) p

-- the cause of a plan's failure
pub plan-cause : (listing : Option (List Entry)) (entries ordered : List Entry) (before after : ℕ) (disk : Type 0) (given : PlanFail) → IfSome listing (λ listed. entries ≡ listed) → IsAccepted entries → Orders entries ordered
    → ((given ≡ plans.NoMemory → ⊥) → refusal ordered [] 16777216 ≡ Some given) → IsCause listing before after disk (of_planning given)
plan-cause listing entries ordered before after disk plans.NoMemory is accepted order refused = tt
plan-cause listing entries ordered before after disk (plans.Stale path logged found) is accepted order refused = not-stale ⊥ ordered path logged found (refused (λ z. absurd cc))
plan-cause None entries ordered before after disk (plans.TooManyBlocks count) is accepted order refused = tt
plan-cause (Some listed) entries ordered before after disk (plans.TooManyBlocks count) is accepted order refused =
    subst (λ (es : List Entry). HasTooManyBlocks es count) is (too-many entries ordered count accepted order (refused (λ z. absurd cc)))
