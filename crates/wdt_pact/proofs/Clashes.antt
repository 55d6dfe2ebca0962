-- The blocks that a sender's lanes keep clash with no other, and the destination had nothing of them.
use Rattle.std.proofs.Common.{◌≡◌, ◌≢◌, ◌⊎◌, inl, inr, ℕ, zero, suc, ◌+◌, ◌<◌, ◌≤◌, ◌==◌, ◌||◌, ◌&&◌, not, nat_le, nat_lt, Bool, true, false, cond, if◌then◌else◌, List, [], ◌∷◌, ◌++◌, length, map, count_by, slice_get, Option, Some, None, subst, sym, ap, ◌∙◌, refl, arith, eq-eqb, eqb-true}
use Rattle.std.specs.List.{list_any}
use Rattle.std.specs.Str.{bytes_eq}
use Rattle.std.proofs.lemmas.Bool.{and_parts, both_ways, cases_eq, cases_lt, false_from_ne_true, le-leb, lt-ltb, ne_eqb}
use Rattle.std.proofs.lemmas.Bool.Decides.{nat_tests}
use Rattle.std.proofs.lemmas.List.Sums.{sum_by-cons}
use Rattle.std.proofs.lemmas.Option.{same_Some}
use Rattle.std.proofs.lemmas.Slice.Eq.{bytes_eq-Decides}
use Rattle.wdt_units.specs.Have.{HaveFile, is_covered, is_named}
use Rattle.wdt_units.specs.Tree.{is_before}
use Rattle.wdt_units.specs.declared.blocks.Block.{Block}
use Rattle.wdt_units.specs.declared.blocks.Header.{Header}
use Rattle.wdt_units.proofs.Shared.{before_differs}
use Rattle.wdt_claims.specs.Blocks.{count_of, is_same}
use Rattle.wdt_claims.specs.Places.{is_among}
use Rattle.wdt_claims.proofs.Shared.{one_block}
use Rattle.wdt_logfmt.specs.Adding.{overlap, span_at}
use Rattle.wdt_tree.specs.Listing.{has_path, is_below_entry, is_in_order}
use Rattle.wdt_tree.specs.Rest.{IsRest, holds, is_empty_of, is_missing, lacks_name, lacks_position}
use Rattle.wdt_tree.specs.declared.entry.Entry.{Entry}
use Rattle.wdt_sender_fsm.specs.PlainSender.{header_by}
use Rattle.wdt_pact.specs.Clashes.{IsMissing, clash}
use Rattle.wdt_pact.specs.Conversation.{sent_header}
use Rattle.wdt_pact.specs.Each.{Each}
use Rattle.wdt_pact.proofs.Apart.{Apart, AreApart}
use Rattle.wdt_pact.proofs.Saying.{each_at}

-- ---- files of a tree

-- files of one path have one place
same_place : (m : List Entry) (i j : ℕ) (e f : Entry) → is_in_order m ≡ true → slice_get m i ≡ Some e → slice_get m j ≡ Some f → e.path ≡ f.path → i ≡ j
same_place [] i j e f up at there same = cc
same_place (x ∷ xs) zero zero e f up at there same = refl
same_place (x ∷ xs) zero (suc j) e f up at there same =
    let parts = and_parts _ _ up in
    let other : bytes_eq x.path f.path ≡ false = before_differs x.path f.path (each_at (is_below_entry x) xs j f parts.0 there) in
    absurd (both_ways (bytes_eq x.path f.path) other ((bytes_eq-Decides x.path f.path).1 (ap (λ (y : Entry). y.path) (same_Some x e at) ∙ same)))
same_place (x ∷ xs) (suc i) zero e f up at there same =
    let parts = and_parts _ _ up in
    let other : bytes_eq x.path e.path ≡ false = before_differs x.path e.path (each_at (is_below_entry x) xs i e parts.0 at) in
    absurd (both_ways (bytes_eq x.path e.path) other ((bytes_eq-Decides x.path e.path).1 (ap (λ (y : Entry). y.path) (same_Some x f there) ∙ sym same)))
same_place (x ∷ xs) (suc i) (suc j) e f up at there same = ap suc (same_place xs i j e f (and_parts _ _ up).1 at there same)

-- ---- blocks of a list

pub same_self : (b : Block) → is_same b b ≡ true
same_self b = rw (eq-eqb b.file b.file refl, eq-eqb b.offset b.offset refl, eq-eqb b.length b.length refl) refl

untrue : (b : Bool) → not b ≡ true → b ≡ false
untrue true e = cc
untrue false e = refl

or_true : (x : Bool) → (x || true) ≡ true
or_true true = refl
or_true false = refl

pub among_more : (b x : Block) (xs : List Block) → is_among xs b ≡ true → is_among (x ∷ xs) b ≡ true
among_more b x xs e = ap (λ (y : Bool). is_same b x || y) e ∙ or_true (is_same b x)

-- what holds of all blocks of a list holds of each
each_among : (P : Block → Type 0) (xs : List Block) → ((b : Block) → is_among xs b ≡ true → P b) → Each P xs
each_among P [] f = tt
each_among P (x ∷ xs) f = (f x (ap (λ (y : Bool). y || is_among xs x) (same_self x)), each_among P xs (λ b e. f b (among_more b x xs e)))

each_header : (Q : Header → Type 0) (h : Block → Header) (xs : List Block) → Each (λ (b : Block). Q (h b)) xs → Each Q (map h xs)
each_header Q h [] e = tt
each_header Q h (x ∷ xs) e = (e.0, each_header Q h xs e.1)

count_cons : (p : Block → Bool) (x : Block) (xs : List Block) → count_by p (x ∷ xs) ≡ cond (p x) 1 0 + count_by p xs
count_cons p x xs = sum_by-cons (λ (b : Block). cond (p b) 1 0) x xs

-- a block of the list that passes is counted
one_count : (p : Block → Bool) (xs : List Block) (b : Block) → is_among xs b ≡ true → p b ≡ true → 1 ≤ count_by p xs
one_count p [] b among is = cc
one_count p (x ∷ xs) b among is = go (is_same b x) refl among (λ a. one_count p xs b a is) where
  go : (same : Bool) → is_same b x ≡ same → (same || is_among xs b) ≡ true → (is_among xs b ≡ true → 1 ≤ count_by p xs) → 1 ≤ count_by p (x ∷ xs)
  go true e a rest = let here : cond (p x) 1 0 ≡ 1 = ap (λ (c : Bool). cond {A = ℕ} c 1 0) (ap p (sym (one_block b x e)) ∙ is) in omega (arith, count_cons p x xs, here)
  go false e a rest = let more : 1 ≤ count_by p xs = rest a in omega (arith, count_cons p x xs, more)

is_one : (t : Bool) (n : ℕ) → n ≡ (if t then 1 else 0) → 1 ≤ n → t ≡ true
is_one true n is some = refl
is_one false n is some = absurd (omega (arith, is, some))

-- ---- the blocks of a plan

module _ (manifest : List Entry) (have : List HaveFile) (most : ℕ) (plan : List Block) (rest : IsRest manifest have most plan) (up : is_in_order manifest ≡ true) where
  -- a block has positions of its file, of which the destination has none; or it has none, and its file is empty and isn't named
  data Kind (b : Block) : Type 0 where
    Full : (e : Entry) → slice_get manifest b.file ≡ Some e → 0 < b.length → ((p : ℕ) → b.offset ≤ p → p < b.offset + b.length → (p < e.size) × (is_covered have e.path p ≡ false)) → Kind b
    Hollow : (e : Entry) → slice_get manifest b.file ≡ Some e → b.length ≡ 0 → e.size ≡ 0 → is_named have e.path ≡ false → Kind b

  held : (b : Block) (p : ℕ) → b.offset ≤ p → p < b.offset + b.length → holds b.file p b ≡ true
  held b p low high = rw (eq-eqb b.file b.file refl, le-leb b.offset p low, lt-ltb p (b.offset + b.length) high) refl

  lacking : (b : Block) (p : ℕ) → is_among plan b ≡ true → b.offset ≤ p → p < b.offset + b.length → is_missing manifest have b.file p ≡ true
  lacking b p among low high = is_one (is_missing manifest have b.file p) _ (rest.exact b.file p) (one_count (holds b.file p) plan b among (held b p low high))

  lacks_of : (e : Entry) (p : ℕ) → lacks_position have (Some e) p ≡ true → (p < e.size) × (is_covered have e.path p ≡ false)
  lacks_of e p is = let parts = and_parts (nat_lt p e.size) (not (is_covered have e.path p)) is in (grind (arith, nat_tests, parts.0), untrue (is_covered have e.path p) parts.1)

  kind : (b : Block) → is_among plan b ≡ true → Kind b
  kind b among = elim (cases_eq b.length 0) [
    | inl none ↦ hollow none
    | inr some ↦ full (omega (arith, some))
  ] where
    full : 0 < b.length → Kind b
    full some = go (slice_get manifest b.file) refl where
      go : (o : Option Entry) → slice_get manifest b.file ≡ o → Kind b
      go None is = let x : lacks_position have None b.offset ≡ true = sym (ap (λ (o : Option Entry). lacks_position have o b.offset) is) ∙ lacking b b.offset among (omega arith) (omega (arith, some)) in cc
      go (Some e) is = Full e is some (λ p low high. lacks_of e p (sym (ap (λ (o : Option Entry). lacks_position have o p) is) ∙ lacking b p among low high))

    hollow : b.length ≡ 0 → Kind b
    hollow none = go (slice_get manifest b.file) refl where
      lacks : lacks_name have (slice_get manifest b.file) ≡ true
      lacks = is_one (lacks_name have (slice_get manifest b.file)) _ (rest.empty b.file) (one_count (is_empty_of b.file) plan b among (rw (eq-eqb b.file b.file refl, eq-eqb b.length 0 none) refl))

      go : (o : Option Entry) → slice_get manifest b.file ≡ o → Kind b
      go None is = let x : lacks_name have None ≡ true = sym (ap (lacks_name have) is) ∙ lacks in cc
      go (Some e) is =
          let parts = and_parts (e.size == 0) (not (is_named have e.path)) (sym (ap (lacks_name have) is) ∙ lacks) in
          Hollow e is none (eqb-true e.size 0 parts.0) (untrue (is_named have e.path) parts.1)

  -- the destination has nothing of them
  pub planned_missing : (b : Block) → is_among plan b ≡ true → IsMissing have (sent_header manifest b)
  planned_missing b among = go (kind b among) where
    go : Kind b → IsMissing have (sent_header manifest b)
    go (Full e at some each) =
        subst (λ (o : Option Entry). IsMissing have (header_by o b)) (sym at) record { covered = λ p low high. (each p low high).1; named = λ none. absurd (omega (arith, none, some)) }
    go (Hollow e at none size unnamed) =
        subst (λ (o : Option Entry). IsMissing have (header_by o b)) (sym at) record { covered = λ p low high. absurd (omega (arith, none, low, high)); named = λ z. unnamed }

  module _ (positions : (b c : Block) (file position : ℕ) → is_among plan b ≡ true → is_among plan c ≡ true → is_same b c ≡ false → holds file position b ≡ true → holds file position c ≡ false)
      (empties : (b c : Block) (file : ℕ) → is_among plan b ≡ true → is_among plan c ≡ true → is_same b c ≡ false → is_empty_of file b ≡ true → is_empty_of file c ≡ false) where
    -- different blocks of one file share no position
    no_overlap : (a b : Block) → is_among plan a ≡ true → is_among plan b ≡ true → is_same a b ≡ false → a.file ≡ b.file → 0 < a.length → 0 < b.length
        → overlap (span_at a.offset a.length) (span_at b.offset b.length) ≡ true → ⊥
    no_overlap a b has_a has_b other same some_a some_b meets = elim (cases_lt a.offset b.offset) [
      | inl less ↦ both b.offset (omega (arith, less)) (omega (arith, parts_1)) (omega arith) (omega (arith, some_b))
      | inr more ↦ both a.offset (omega arith) (omega (arith, some_a)) (omega (arith, more)) (omega (arith, parts_0))
    ] where
      parts_0 : a.offset < b.offset + b.length
      parts_0 = let x = (and_parts (nat_lt a.offset (b.offset + b.length)) (nat_lt b.offset (a.offset + a.length)) meets).0 in grind (arith, nat_tests, x)

      parts_1 : b.offset < a.offset + a.length
      parts_1 = let x = (and_parts (nat_lt a.offset (b.offset + b.length)) (nat_lt b.offset (a.offset + a.length)) meets).1 in grind (arith, nat_tests, x)

      both : (p : ℕ) → a.offset ≤ p → p < a.offset + a.length → b.offset ≤ p → p < b.offset + b.length → ⊥
      both p low_a high_a low_b high_b =
          both_ways (holds a.file p b) (positions a b a.file p has_a has_b other (held a p low_a high_a)) (ap (λ (n : ℕ). holds n p b) same ∙ held b p low_b high_b)

    or_right : (a b : Bool) → a ≡ false → (a || b) ≡ true → b ≡ true
    or_right true b none e = cc
    or_right false b none e = e

    clash_not : (a b : Block) → is_among plan a ≡ true → is_among plan b ≡ true → is_same a b ≡ false → clash (sent_header manifest a) (sent_header manifest b) ≡ true → ⊥
    clash_not a b has_a has_b other = go (kind a has_a) (kind b has_b) where
      at_entries : (e f : Entry) → slice_get manifest a.file ≡ Some e → slice_get manifest b.file ≡ Some f → clash (sent_header manifest a) (sent_header manifest b) ≡ true
          → (a.file ≡ b.file) × ((a.length == 0 || (b.length == 0 || overlap (span_at a.offset a.length) (span_at b.offset b.length))) ≡ true)
      at_entries e f at there clashes =
          let x : clash (header_by (Some e) a) (header_by (Some f) b) ≡ true =
          sym (ap (λ (o : Option Entry). clash (header_by o a) (sent_header manifest b)) at ∙ ap (λ (o : Option Entry). clash (header_by (Some e) a) (header_by o b)) there) ∙ clashes in
          let parts = and_parts (bytes_eq e.path f.path) (a.length == 0 || (b.length == 0 || overlap (span_at a.offset a.length) (span_at b.offset b.length))) x in
          (same_place manifest a.file b.file e f up at there ((bytes_eq-Decides e.path f.path).0 parts.0), parts.1)

      one_entry : (e f : Entry) → a.file ≡ b.file → slice_get manifest a.file ≡ Some e → slice_get manifest b.file ≡ Some f → e ≡ f
      one_entry e f same at there = same_Some e f (sym at ∙ (ap (slice_get manifest) same ∙ there))

      go : Kind a → Kind b → clash (sent_header manifest a) (sent_header manifest b) ≡ true → ⊥
      go (Full e at some each) (Full f there more all) clashes =
          let x = at_entries e f at there clashes in
          no_overlap a b has_a has_b other x.0 some more
          (or_right (b.length == 0) _ (ne_eqb b.length 0 (λ z. absurd (omega (arith, z, more)))) (or_right (a.length == 0) _ (ne_eqb a.length 0 (λ z. absurd (omega (arith, z, some)))) x.1))
      go (Full e at some each) (Hollow f there none size unnamed) clashes =
          let x = at_entries e f at there clashes in
          let same : e.size ≡ f.size = ap (λ (y : Entry). y.size) (one_entry e f x.0 at there) in
          let low : a.offset < e.size = (each a.offset (omega arith) (omega (arith, some))).0 in
          absurd (omega (arith, same, size, low))
      go (Hollow e at none size unnamed) (Full f there more all) clashes =
          let x = at_entries e f at there clashes in
          let same : e.size ≡ f.size = ap (λ (y : Entry). y.size) (one_entry e f x.0 at there) in
          let low : b.offset < f.size = (all b.offset (omega arith) (omega (arith, more))).0 in
          absurd (omega (arith, same, size, low))
      go (Hollow e at none size unnamed) (Hollow f there nought nothing nameless) clashes =
          let x = at_entries e f at there clashes in
          both_ways (is_empty_of a.file b) (empties a b a.file has_a has_b other (rw (eq-eqb a.file a.file refl, eq-eqb a.length 0 none) refl))
          (rw (eq-eqb b.file a.file (sym x.0), eq-eqb b.length 0 nought) refl)

    no_clash : (a b : Block) → is_among plan a ≡ true → is_among plan b ≡ true → is_same a b ≡ false → clash (sent_header manifest a) (sent_header manifest b) ≡ false
    no_clash a b has_a has_b other = false_from_ne_true (clash (sent_header manifest a) (sent_header manifest b)) (clash_not a b has_a has_b other)

    -- ---- lists of them

    -- a list that has each block once
    once_apart : (ks : List Block) → ((b : Block) → is_among ks b ≡ true → is_among plan b ≡ true) → ((b : Block) → count_of b ks ≤ 1) → AreApart clash (map (sent_header manifest) ks)
    unfolding count_of
    once_apart [] planned once = tt
    once_apart (x ∷ xs) planned once = (
      each_header (λ y. clash y (sent_header manifest x) ≡ false) (sent_header manifest) xs (each_among _ xs (λ y e. no_clash y x (planned y (among_more y x xs e)) (planned x (ap (λ (z : Bool). z || is_among xs x) (same_self x))) (differs y e))),
      once_apart xs (λ b e. planned b (among_more b x xs e)) (λ b. let many : count_by (is_same b) (x ∷ xs) ≤ 1 = once b in omega (arith, many, count_cons (is_same b) x xs)),
    ) where
      differs : (y : Block) → is_among xs y ≡ true → is_same y x ≡ false
      differs y e =
          false_from_ne_true (is_same y x)
          (λ same.
          let is : y ≡ x = one_block y x same in
          let some : 1 ≤ count_by (is_same x) xs = one_count (is_same x) xs x (ap (is_among xs) (sym is) ∙ e) (same_self x) in
          let here : cond (is_same x x) 1 0 ≡ 1 = ap (λ (c : Bool). cond {A = ℕ} c 1 0) (same_self x) in
          let many : count_by (is_same x) (x ∷ xs) ≤ 1 = once x in
          absurd (omega (arith, many, count_cons (is_same x) x xs, some, here)))

    -- two lists that share no block
    lists_apart : (ks ls : List Block) → ((b : Block) → is_among ks b ≡ true → is_among plan b ≡ true) → ((b : Block) → is_among ls b ≡ true → is_among plan b ≡ true)
        → ((b : Block) → is_among ls b ≡ true → is_among ks b ≡ false) → Each (λ y. Each (λ x. clash y x ≡ false) (map (sent_header manifest) ks)) (map (sent_header manifest) ls)
    lists_apart ks ls of_ks of_ls apart =
        each_header _ (sent_header manifest) ls
        (each_among _ ls (λ y in_ls.
        each_header (λ x. clash (sent_header manifest y) x ≡ false) (sent_header manifest) ks (each_among _ ks (λ x in_ks. no_clash y x (of_ls y in_ls) (of_ks x in_ks)
        (false_from_ne_true (is_same y x) (λ same. both_ways (is_among ks y) (apart y in_ls) (ap (is_among ks) (one_block y x same) ∙ in_ks)))))))

    -- the lists of lanes
    pub lanes_apart : (n : ℕ) (kept : ℕ → List Block) → ((l : ℕ) (b : Block) → l < n → is_among (kept l) b ≡ true → is_among plan b ≡ true) → ((l : ℕ) (b : Block) → l < n → count_of b (kept l) ≤ 1)
        → ((k l : ℕ) (b : Block) → k < n → l < n → k ≢ l → is_among (kept k) b ≡ true → is_among (kept l) b ≡ false) → Apart clash n (λ l. map (sent_header manifest) (kept l))
    lanes_apart n kept planned once by_one =
        record {
          each = λ k within. once_apart (kept k) (λ b. planned k b within) (λ b. once k b within);
          others = λ k l k_in l_in ne. lists_apart (kept k) (kept l) (λ b. planned k b k_in) (λ b. planned l b l_in) (λ b. by_one l k b l_in k_in (λ e. ne (sym e)));
        }
