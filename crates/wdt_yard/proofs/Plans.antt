-- What is planned, in the words of the end.
use Rattle.std.proofs.Common.{◌≡◌, ℕ, ◌+◌, ◌≤◌, ◌<◌, ◌==◌, ◌&&◌, nat_lt, nat_le, Bool, true, false, cond, List, [], ◌∷◌, length, Option, Some, None, slice_get, if◌then◌else◌, refl, sym, ap, ◌∙◌, inl, inr, arith}
use Rattle.std.specs.List.{count_by}
use Rattle.std.specs.Option.{option_and_then, option_map}
use Rattle.std.proofs.lemmas.Bool.{and_from, cases_eq, eq-eqb, lt-ltb, le-leb}
use Rattle.std.proofs.lemmas.List.Sums.{sum_by-cons}
use Rattle.std.proofs.lemmas.Option.{slice_get_within}
use Rattle.wdt_units.specs.Have.{HaveFile}
use Rattle.wdt_units.specs.declared.blocks.Block.{Block}
use Rattle.wdt_claims.specs.Blocks.{is_same, count_of}
use Rattle.wdt_claims.proofs.Shared.{count_of-nil, count_of-cons, one_if-true, one_if-false, one_if_same, one_block}
use Rattle.wdt_tree.specs.declared.entry.Entry.{Entry}
use Rattle.wdt_tree.specs.Rest.{IsRest, holds, is_empty_of, lacks_name, lacks_position}
use Rattle.wdt_rest.specs.Fitting.{first_unfit}
use Rattle.wdt_rest.specs.RestOf.{rest_of}
use Rattle.wdt_discover.specs.Plan as plans
use Rattle.wdt_sender_fsm.specs.Chunks.{refusal, refusal_after, stale_of, too_many}
use Rattle.wdt_yard.specs.End.{AreOf}
use Rattle.wdt_yard.specs.Kinds.{refused_as}

-- ---- the refusals are the same

many_is : (n : ℕ) → too_many n ≡ option_and_then refused_as (plans.too_many n)
many_is n = go (nat_lt 1048576 n) refl where
  go : (b : Bool) → nat_lt 1048576 n ≡ b → too_many n ≡ option_and_then refused_as (plans.too_many n)
  go true e = rw e refl
  go false e = rw e refl

after_is : (entries : List Entry) (have : List HaveFile) (most : ℕ) (o : Option HaveFile) → refusal_after entries have most (option_map (stale_of entries) o) ≡ option_and_then refused_as (plans.refusal_after entries have most (option_map (plans.stale_of entries) o))
after_is entries have most None = many_is (length (rest_of entries have most))
after_is entries have most (Some file) = refl

pub refusal_is : (entries : List Entry) (have : List HaveFile) (most : ℕ) → refusal entries have most ≡ option_and_then refused_as (plans.refusal entries have most)
refusal_is entries have most = after_is entries have most (first_unfit entries have)

-- ---- the blocks are of the tree's files

one_more : (p : Block → Bool) (b x : Block) (t : Bool) → p b ≡ true → is_same b x ≡ t → one_if_same b x ≤ cond (p x) 1 0
one_more p b x true has e = rw (sym (ap p (one_block b x e)) ∙ has) (omega (arith, one_if-true b x e))
one_more p b x false has e = omega (arith, one_if-false b x e)

counted : (p : Block → Bool) (b : Block) (xs : List Block) → p b ≡ true → count_of b xs ≤ count_by p xs
counted p b [] has = omega (arith, count_of-nil b)
counted p b (x ∷ xs) has =
    omega (arith, count_of-cons b x xs, sum_by-cons (λ y. cond (p y) 1 0) x xs, one_more p b x (is_same b x) has refl, counted p b xs has)

is_there : (entries : List Entry) (file : ℕ) (test : Option Entry → Bool) (n : ℕ) → test None ≡ false → n ≡ (if test (slice_get entries file) then 1 else 0) → 1 ≤ n → file < length entries
is_there entries file test n none e some = go (slice_get entries file) refl where
  go : (o : Option Entry) → slice_get entries file ≡ o → file < length entries
  go None is = absurd (omega (arith, some, e ∙ ap (λ x. if test x then 1 else 0) is ∙ ap (λ t. if t then 1 else 0) none))
  go (Some entry) is = slice_get_within entries file entry is

pub rest_files : (entries : List Entry) (have : List HaveFile) (most : ℕ) (blocks : List Block) → IsRest entries have most blocks → AreOf (length entries) blocks
rest_files entries have most blocks rest b some =
    elim (cases_eq b.length 0) [
      | inl empty ↦
          is_there entries b.file (lacks_name have) (count_by (is_empty_of b.file) blocks) refl (rest.empty b.file)
          (omega (arith, some, counted (is_empty_of b.file) b blocks (and_from (b.file == b.file) (b.length == 0) (eq-eqb b.file b.file refl) (eq-eqb b.length 0 empty))))
      | inr full ↦
          is_there entries b.file (λ o. lacks_position have o b.offset) (count_by (holds b.file b.offset) blocks) refl (rest.exact b.file b.offset)
          (omega (
            arith,
            some,
            counted (holds b.file b.offset) b blocks
                (and_from (b.file == b.file && nat_le b.offset b.offset) (nat_lt b.offset (b.offset + b.length))
                (and_from (b.file == b.file) (nat_le b.offset b.offset) (eq-eqb b.file b.file refl) (le-leb b.offset b.offset (omega arith))) (lt-ltb b.offset (b.offset + b.length) (omega (arith, full)))),
          ))
    ]
