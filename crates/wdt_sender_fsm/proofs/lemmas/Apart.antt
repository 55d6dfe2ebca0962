-- Different blocks of a plan share no position, and no two are of one file without a byte.
use Rattle.std.proofs.Common.{◌≡◌, ℕ, ◌+◌, ◌≤◌, ◌||◌, List, [], ◌∷◌, count_by, Bool, true, false, cond, if◌then◌else◌, Option, Some, None, IfSome, sym, ap, ◌∙◌, arith, refl}
use Rattle.std.proofs.lemmas.Bool.{both_ways}
use Rattle.std.proofs.lemmas.List.Sums.{sum_by-cons}
use Rattle.wdt_units.specs.Have.{HaveFile}
use Rattle.wdt_units.specs.declared.blocks.Block.{Block}
use Rattle.wdt_claims.proofs.Shared.{one_block}
use Rattle.wdt_claims.specs.Blocks.{is_same}
use Rattle.wdt_claims.specs.Places.{is_among}
use Rattle.wdt_tree.specs.Rest.{IsRest, holds, is_empty_of, is_missing, lacks_name}
use Rattle.wdt_sender_fsm.specs.PlainSender.{PlainSender, blocks_of, listed_blocks}
use Rattle.wdt_sender_fsm.specs.Sender.{IsSender, plan_of}
use Rattle.wdt_sender_fsm.proofs.lemmas.Planned.{plan_is_rest}

-- ---- blocks that pass a test

abbrev one_if : (Block → Bool) → Block → ℕ
one_if p x = cond (p x) 1 0

count_cons : (p : Block → Bool) (x : Block) (xs : List Block) → count_by p (x ∷ xs) ≡ one_if p x + count_by p xs
count_cons p x xs = sum_by-cons (one_if p) x xs

passes : (p : Block → Bool) (x : Block) → p x ≡ true → one_if p x ≡ 1
passes p x is = ap (λ (b : Bool). cond {A = ℕ} b 1 0) is

one_count : (p : Block → Bool) (xs : List Block) (b : Block) → is_among xs b ≡ true → p b ≡ true → 1 ≤ count_by p xs
one_count p [] b among is = cc
one_count p (x ∷ xs) b among is = go (is_same b x) refl among (λ a. one_count p xs b a is) where
  go : (same : Bool) → is_same b x ≡ same → (same || is_among xs b) ≡ true → (is_among xs b ≡ true → 1 ≤ count_by p xs) → 1 ≤ count_by p (x ∷ xs)
  go true e a rest =
      let here : one_if p x ≡ 1 = passes p x (ap p (sym (one_block b x e)) ∙ is) in
      omega (arith, count_cons p x xs, here)
  go false e a rest = let more : 1 ≤ count_by p xs = rest a in omega (arith, count_cons p x xs, more)

two_count : (p : Block → Bool) (xs : List Block) (b c : Block) → is_among xs b ≡ true → is_among xs c ≡ true → is_same b c ≡ false → p b ≡ true → p c ≡ true → 2 ≤ count_by p xs
two_count p [] b c has_b has_c other pb pc = cc
two_count p (x ∷ xs) b c has_b has_c other pb pc = go (is_same b x) refl (is_same c x) refl has_b has_c (λ i j. two_count p xs b c i j other pb pc) where
  go : (f : Bool) → is_same b x ≡ f → (g : Bool) → is_same c x ≡ g → (f || is_among xs b) ≡ true → (g || is_among xs c) ≡ true → (is_among xs b ≡ true → is_among xs c ≡ true → 2 ≤ count_by p xs) → 2 ≤ count_by p (x ∷ xs)
  go true e true f i j rest = absurd (both_ways (is_same b c) other (ap (is_same b) (one_block c x f) ∙ e))
  go true e false f i j rest =
      let here : one_if p x ≡ 1 = passes p x (ap p (sym (one_block b x e)) ∙ pb) in
      let more : 1 ≤ count_by p xs = one_count p xs c j pc in
      omega (arith, count_cons p x xs, here, more)
  go false e true f i j rest =
      let here : one_if p x ≡ 1 = passes p x (ap p (sym (one_block c x f)) ∙ pc) in
      let more : 1 ≤ count_by p xs = one_count p xs b i pb in
      omega (arith, count_cons p x xs, here, more)
  go false e false f i j rest = let more : 2 ≤ count_by p xs = rest i j in omega (arith, count_cons p x xs, more)

few : (b : Bool) → (if b then 1 else 0) ≤ 1
few true = omega arith
few false = omega arith

only_one : (p : Block → Bool) (xs : List Block) (t : Bool) (b c : Block) → count_by p xs ≡ (if t then 1 else 0) → is_among xs b ≡ true → is_among xs c ≡ true → is_same b c ≡ false → p b ≡ true → p c ≡ false
only_one p xs t b c exact has_b has_c other pb = go (p c) refl where
  go : (x : Bool) → p c ≡ x → p c ≡ false
  go true e =
      let two : 2 ≤ count_by p xs = two_count p xs b c has_b has_c other pb e in
      let most : (if t then 1 else 0) ≤ 1 = few t in
      absurd (omega (arith, two, exact, most))
  go false e = e

-- ---- the plan

-- some block is planned: what the destination has is known
has_rest : (s : PlainSender) (b : Block) → IsSender s → 1 ≤ s.block → is_among (blocks_of s) b ≡ true → (have : List HaveFile) × IsRest s.manifest have s.block (blocks_of s)
has_rest s b is some among = go s.have is.plan.planned (plan_is_rest s is some) where
  go : (o : Option (List HaveFile)) → s.planned ≡ plan_of s.manifest s.block o → IfSome o (λ have. IsRest s.manifest have s.block (blocks_of s)) → (have : List HaveFile) × IsRest s.manifest have s.block (blocks_of s)
  go None planned rest = absurd (both_ways (is_among (blocks_of s) b) (ap (λ (p : Option (List Block)). is_among (listed_blocks p) b) planned) among)
  go (Some have) planned rest = (have, rest)

pub positions_apart : (s : PlainSender) (b c : Block) (file position : ℕ) → IsSender s → 1 ≤ s.block → is_among (blocks_of s) b ≡ true → is_among (blocks_of s) c ≡ true → is_same b c ≡ false → holds file position b ≡ true → holds file position c ≡ false
positions_apart s b c file position is some has_b has_c other here =
    let r = has_rest s b is some has_b in
    only_one (holds file position) (blocks_of s) (is_missing s.manifest r.0 file position) b c (r.1.exact file position) has_b has_c other here

pub empties_apart : (s : PlainSender) (b c : Block) (file : ℕ) → IsSender s → 1 ≤ s.block → is_among (blocks_of s) b ≡ true → is_among (blocks_of s) c ≡ true → is_same b c ≡ false → is_empty_of file b ≡ true → is_empty_of file c ≡ false
empties_apart s b c file is some has_b has_c other here =
    let r = has_rest s b is some has_b in
    only_one (is_empty_of file) (blocks_of s) (lacks_name r.0 (Rattle.std.specs.Prelude.slice_get s.manifest file)) b c (r.1.empty file) has_b has_c other here
