-- What the ends of a copy are opened with is what its words say and its first source lists.
use Rattle.std.proofs.Common.{◌≡◌, ◌⊎◌, inl, inr, ℕ, ◌<◌, ◌≤◌, true, List, [], ◌∷◌, length, map, Option, Some, None, IfSome, All, refl, sym, ap, ◌∙◌, subst, arith}
use Rattle.wdt_units.specs.Tree.{File, is_tree}
use Rattle.wdt_tree.specs.Listing.{IsAccepted}
use Rattle.wdt_tree.specs.Shown.{entry_of_file}
use Rattle.wdt_tree.specs.Told.{ToldRun}
use Rattle.wdt_tree.specs.declared.entry.Entry.{Entry}
use Rattle.wdt_depot.specs.Moments.{Told}
use Rattle.wdt_depot.specs.State.{State}
use Rattle.wdt_sender_fsm.specs.declared.answers.RefusedKind.{RefusedKind}
use Rattle.wdt_tool.specs.Refusals.{IsLogCause}
use Rattle.wdt_words.specs.Words.{IsLimited}
use Rattle.wdt_cli.specs.declared.copying.Opening.{Opening}
use Rattle.wdt_sending.specs.Causes.{IsCopyCause, IsPlanCause}
use Rattle.wdt_sending.specs.Told.{first_told}
use Rattle.wdt_sending.proofs.ForCallers.{EachAsked, lists_of, some_source, trees_told}
use Rattle.wdt_cli.specs.Carried.{IsGivenTo}
use Rattle.wdt_cli.specs.Copied.{MayCarry, MayOpen, opening_in}

pub may_open : {S : Type 0} (told : S → Option (List File)) (run : Option ToldRun) (lanes block batch : ℕ) (sources : List S) (manifest : List Entry) (o : Opening) (s : State)
    → o ≡ opening_in lanes block batch manifest → IsLimited lanes block batch → length sources ≡ lanes → IfSome run (λ r. All (λ x. told x ≡ Some r.tree) sources)
    → IfSome (first_told told sources) (λ tree. (is_tree tree ≡ true) × (manifest ≡ map entry_of_file tree))
    → s.spots ≡ [] → IfSome run (λ r. IsGivenTo r s.told) → MayOpen run o.manifest o.lanes o.block o.batch s
may_open told run lanes block batch sources manifest o s is limits served all listed spots given =
    subst (λ (x : Opening). MayOpen run x.manifest x.lanes x.block x.batch s) (sym is) record {
      some_lanes = limits.some_lanes.least;
      few_lanes = limits.some_lanes.greatest;
      some_block = limits.some_bytes.least;
      block_limit = limits.some_bytes.greatest;
      some_batch = omega (arith, limits.some_batch.least);
      lists = lists_of told run sources manifest (some_source lanes (length sources) limits.some_lanes.least served) all listed;
      spots = spots;
      given = given;
    }

pub may_carry : {S C A : Type 0} (told : S → Option (List File)) (slips : S → ℕ) (dialed : C → ℕ) (accepted : A → ℕ) (run : Option ToldRun) (lanes block batch : ℕ) (manifest : List Entry) (o : Opening)
    (sources listed : List S) (dialers : List C) (acceptors : List A)
    → o ≡ opening_in lanes block batch manifest → (length sources ≡ lanes) × (length dialers ≡ lanes) × (length acceptors ≡ lanes) → EachAsked told slips sources listed
    → IfSome run (λ r. All (λ x. told x ≡ Some r.tree) sources)
    → All (λ x. dialed x ≡ 0) dialers → All (λ x. accepted x ≡ 0) acceptors → MayCarry told dialed accepted run o.lanes listed dialers acceptors
may_carry told slips dialed accepted run lanes block batch manifest o sources listed dialers acceptors is served asked all home far_home =
    subst (λ (x : Opening). MayCarry told dialed accepted run x.lanes listed dialers acceptors) (sym is) record {
      as_many_sources = asked.same ∙ served.0;
      as_many_dialers = served.1;
      as_many_acceptors = served.2;
      tree = trees_told told slips run sources listed asked all;
      dialers_home = home;
      acceptors_home = far_home;
    }

-- for what a copy whose listing was taken is refused
pub copy_cause : (run : Option ToldRun) (lanes block batch : ℕ) (manifest : List Entry) (o : Opening) (listing : Option (List Entry)) (told : Option Told) (kind : RefusedKind)
    → o ≡ opening_in lanes block batch manifest → IfSome listing IsAccepted
    → IsLogCause told kind ⊎ IsPlanCause run o.block kind → IsCopyCause run block listing told kind
copy_cause run lanes block batch manifest o listing told kind is accepted (inl log) = inr (inl (accepted, log))
copy_cause run lanes block batch manifest o listing told kind is accepted (inr plan) = inr (inr (subst (λ (x : Opening). IsPlanCause run x.block kind) is plan))
