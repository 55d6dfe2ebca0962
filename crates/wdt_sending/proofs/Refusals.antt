-- For what a sending end refuses its tree.
use Rattle.std.proofs.Common.{◌≡◌, ◌⊎◌, inl, inr, ℕ, nat_lt, Bool, true, false, List, length, map, Option, Some, None, IfSome, if◌then◌else◌, refl, sym, ap, ◌∙◌, subst}
use Rattle.std.specs.Option.{option_and_then, option_map}
use Rattle.wdt_units.specs.Have.{HaveFile}
use Rattle.wdt_units.specs.declared.numbers.LaneSet.{LaneSet}
use Rattle.wdt_tree.specs.Shown.{entry_of_file}
use Rattle.wdt_tree.specs.Told.{ToldRun}
use Rattle.wdt_tree.specs.declared.entry.Entry.{Entry}
use Rattle.wdt_rest.specs.Fitting.{first_unfit}
use Rattle.wdt_rest.specs.RestOf.{rest_of}
use Rattle.wdt_discover.specs.Plan as plans
use Rattle.wdt_sender_fsm.specs.declared.answers.EndAnswer.{EndAnswer}
use Rattle.wdt_sender_fsm.specs.declared.answers.EndAnswer.TheVariants as answers
use Rattle.wdt_sender_fsm.specs.declared.answers.RefusedKind.{RefusedKind}
use Rattle.wdt_sender_fsm.specs.declared.answers.RefusedKind.TheVariants.{BadPath, Reserved, Twice, TooMany, TooLarge, BadScript, BadLog, Stale, TooManyBlocks}
use Rattle.wdt_sender_fsm.specs.declared.events.SendEvent.{SendEvent}
use Rattle.wdt_sender_fsm.specs.Chunks.{refusal, refusal_after, stale_of, too_many}
use Rattle.wdt_lanes.specs.Kept.{Begun, IsKept, Lists}
use Rattle.wdt_tool.specs.Failures.{plan_kind}
use Rattle.wdt_tool.specs.Refusals.{plan_refusal}
use Rattle.wdt_tool.specs.declared.status.Status.{Status}
use Rattle.wdt_sending.specs.Causes.{IsPlanCause, IsPlanKind, IsUnsent}
use Rattle.wdt_sending.specs.Sending.{SenderTaken, begun_of}

-- ---- the refusals are the same

many_is : (n : ℕ) → too_many n ≡ option_and_then plan_kind (plans.too_many n)
many_is n = go (nat_lt 1048576 n) refl where
  go : (b : Bool) → nat_lt 1048576 n ≡ b → too_many n ≡ option_and_then plan_kind (plans.too_many n)
  go true e = rw e refl
  go false e = rw e refl

after_is : (entries : List Entry) (have : List HaveFile) (most : ℕ) (o : Option HaveFile) → refusal_after entries have most (option_map (stale_of entries) o) ≡ option_and_then plan_kind
    (plans.refusal_after entries have most (option_map (plans.stale_of entries) o))
after_is entries have most None = many_is (length (rest_of entries have most))
after_is entries have most (Some file) = refl

refusal_is : (entries : List Entry) (have : List HaveFile) (most : ℕ) → refusal entries have most ≡ plan_refusal entries have most
refusal_is entries have most = after_is entries have most (first_unfit entries have)

-- ---- what a tree isn't sent for

-- one of two kinds alone
many_kind : (n : ℕ) (kind : RefusedKind) → too_many n ≡ Some kind → IsPlanKind kind
many_kind n kind is = go (nat_lt 1048576 n) is where
  go : (b : Bool) → (if b then Some (TooManyBlocks n) else None) ≡ Some kind → IsPlanKind kind
  go true e = subst IsPlanKind (same e) tt where
    same : {a b : RefusedKind} → Some a ≡ Some b → a ≡ b
    same e = cc
  go false e = absurd (cc)

after_kind : (entries : List Entry) (have : List HaveFile) (most : ℕ) (o : Option HaveFile) (kind : RefusedKind) → refusal_after entries have most (option_map (stale_of entries) o) ≡ Some kind
    → IsPlanKind kind
after_kind entries have most None kind is = many_kind (length (rest_of entries have most)) kind is
after_kind entries have most (Some file) kind is = subst IsPlanKind (same is) tt where
  same : {a b : RefusedKind} → Some a ≡ Some b → a ≡ b
  same e = cc

plan_kind_of : (entries : List Entry) (have : List HaveFile) (most : ℕ) (kind : RefusedKind) → refusal entries have most ≡ Some kind → IsPlanKind kind
plan_kind_of entries have most kind is = after_kind entries have most (first_unfit entries have) kind is

-- what the run's tree isn't sent to the run's have for
unsent : (run : Option ToldRun) (manifest : List Entry) (block : ℕ) (kind : RefusedKind) → Lists run manifest → IfSome run (λ r. refusal manifest r.have block ≡ Some kind) → IsUnsent run block kind
unsent None manifest block kind lists is = tt
unsent (Some r) manifest block kind lists is =
    sym (refusal_is (map entry_of_file r.tree) r.have block) ∙ ap (λ (m : List Entry). refusal m r.have block) (sym lists.1) ∙ is

of_run : (run : Option ToldRun) (manifest : List Entry) (block : ℕ) (answer : EndAnswer) (kind : RefusedKind) → IfSome run
    (λ r. (k : RefusedKind) → answer ≡ answers.Refused k → refusal manifest r.have block ≡ Some k) → answer ≡ answers.Refused kind
    → IfSome run (λ r. refusal manifest r.have block ≡ Some kind)
of_run None manifest block answer kind by is = tt
of_run (Some r) manifest block answer kind by is = by kind is

-- a sending end that refuses its tree does so for the plan
pub plan_cause : {run : Option ToldRun} {lost cut alarmed : LaneSet} {h : List SendEvent} {status : Status} (manifest : List Entry) (block : ℕ)
    (t : SenderTaken run (begun_of manifest block) lost cut alarmed h status) (kind : RefusedKind) → t.sent.answer ≡ answers.Refused kind → IsPlanCause run block kind
plan_cause {run = run} manifest block t kind near =
    let was = t.refused kind near in
    let at : t.sent.block ≡ block = t.kept.block in (
      plan_kind_of t.sent.manifest was.have t.sent.block kind was.refused,
      subst (λ (b : ℕ). IsUnsent run b kind) at (unsent run t.sent.manifest t.sent.block kind t.kept.tree (of_run run t.sent.manifest t.sent.block t.sent.answer kind t.kept.refused near)),
    )
