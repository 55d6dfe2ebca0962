-- With a block that a lane of the receiver has read there are no more blocks and bytes than a transfer may have.
use Rattle.std.proofs.Common.{◌≡◌, ◌⊎◌, inl, inr, ℕ, zero, suc, ◌+◌, ◌<◌, ◌≤◌, ◌==◌, ◌&&◌, nat_lt, nat_le, Bool, true, false, if◌then◌else◌, List, [], ◌∷◌, ◌++◌, length, map, sum_by, option_map, Option, Some, None, subst, sym, ap, ◌∙◌, refl, arith, eqb-true}
use Rattle.std.specs.List.{flat_map, list_all}
use Rattle.std.proofs.lemmas.Bool.{and_from, and_parts, lt-leb}
use Rattle.std.proofs.lemmas.Bool.Decides.{nat_tests}
use Rattle.std.proofs.lemmas.List.Sums.{sum_by-append, sum_by-cons}
use Rattle.wdt_units.specs.Have.{HaveFile}
use Rattle.wdt_units.specs.Tree.{is_before}
use Rattle.wdt_units.specs.declared.blocks.Block.{Block}
use Rattle.wdt_units.specs.declared.blocks.Header.{Header}
use Rattle.wdt_units.specs.declared.limits.TheConstants.{MAX_BLOCKS, MAX_TOTAL}
use Rattle.wdt_ranges.specs.Files.{is_in_order}
use Rattle.wdt_ranges.specs.Spans.{total_of}
use Rattle.wdt_logfmt.specs.Adding.{span_at, with_span}
use Rattle.wdt_logfmt.specs.Beginning.{BeginFault, KnownFile, OverLimit, known_at, length_of, over}
use Rattle.wdt_logfmt.specs.Marks.{Marked, block_spans, byte_count, bytes_in, just_marked, mark_block, marked_of, marks_from, marks_of, with_block}
use Rattle.wdt_logfmt.specs.View.{NamedFile, have_of, is_file, is_view, put_by_path}
use Rattle.wdt_logfmt.proofs.ForCallers.{file_parts, total-with_span, view_parts}
use Rattle.wdt_rest.specs.Fitting.{first_unfit, fits}
use Rattle.wdt_rest.specs.Refusal.{refusal_after_as}
use Rattle.wdt_rest.specs.RestOf.{has_set, rest_of}
use Rattle.wdt_rest.specs.Together.{FitsTree, covered, covered_of, lies_within}
use Rattle.wdt_tree.specs.declared.entry.Entry.{Entry}
use Rattle.wdt_pact.specs.Conversation.{header_from, known_header}
use Rattle.wdt_pact.specs.Each.{Each}
use Rattle.wdt_pact.specs.Measure.{sum_to}
use Rattle.wdt_pact.proofs.KnownFiles.{none_stale}

-- ---- sums

pub sum_ext : {A : Type 0} (f g : A → ℕ) (xs : List A) → ((x : A) → f x ≡ g x) → sum_by f xs ≡ sum_by g xs
sum_ext f g [] same = refl
sum_ext f g (x ∷ xs) same = omega (arith, sum_by-cons f x xs, sum_by-cons g x xs, same x, sum_ext f g xs same)

pub sum_both : (n : ℕ) (f g : ℕ → ℕ) → sum_to n (λ k. f k + g k) ≡ sum_to n f + sum_to n g
sum_both zero f g = refl
sum_both (suc n) f g = omega (arith, sum_both n f g)

pub term_below : (n l : ℕ) (f : ℕ → ℕ) → l < n → f l ≤ sum_to n f
term_below zero l f small = absurd (omega (arith, small))
term_below (suc n) l f small = elim (nat_cases l n) [
  | inl less ↦ (let a = term_below n l f less in omega (arith, a))
  | inr more ↦ (let e : l ≡ n = omega (arith, small, more) in let a : f l ≡ f n = ap f e in omega (arith, a))
] where
  nat_cases : (a b : ℕ) → (a < b) ⊎ (b ≤ a)
  nat_cases zero zero = inr (omega arith)
  nat_cases zero (suc b) = inl (omega arith)
  nat_cases (suc a) zero = inr (omega arith)
  nat_cases (suc a) (suc b) = elim (nat_cases a b) [ inl x ↦ inl (omega (arith, x)) | inr y ↦ inr (omega (arith, y)) ]

-- a count within its limit
pub over_none : (limit count : ℕ) → count ≤ limit → over limit count ≡ None
over_none limit count le = go (nat_lt limit count) refl where
  go : (b : Bool) → nat_lt limit count ≡ b → (if b then Some (OverLimit count) else None) ≡ None
  go true is = absurd (let x : limit < count = grind (arith, nat_tests, is) in omega (arith, x, le))
  go false is = refl

-- ---- bytes that are there

block_total : (spans : _) (b : Block) → total_of (with_block spans b) ≡ total_of spans + b.length
block_total spans b = go (b.length == 0) refl where
  go : (c : Bool) → (b.length == 0) ≡ c → total_of (if c then spans else with_span (span_at b.offset b.length) spans) ≡ total_of spans + b.length
  go true is = let e : b.length ≡ 0 = eqb-true b.length 0 is in omega (arith, e)
  go false is = total-with_span (span_at b.offset b.length) spans

alone_total : (b : Block) → total_of (block_spans b) ≡ b.length
alone_total b = go (b.length == 0) refl where
  go : (c : Bool) → (b.length == 0) ≡ c → total_of (if c then [] else span_at b.offset b.length ∷ []) ≡ b.length
  go true is = sym (eqb-true b.length 0 is)
  go false is = omega arith

marked_bytes : (ms : List Marked) (b : Block) → bytes_in (mark_block ms b) ≡ bytes_in ms + b.length
marked_bytes [] b = omega (arith, sum_by-cons byte_count (just_marked b) [], alone_total b)
marked_bytes (m ∷ ms) b = go (m.number == b.file) (nat_lt b.file m.number) (marked_bytes ms b) where
  go : (c d : Bool) → bytes_in (mark_block ms b) ≡ bytes_in ms + b.length
      → bytes_in (if c then record { number = m.number; spans = with_block m.spans b } ∷ ms else if d then just_marked b ∷ m ∷ ms else m ∷ mark_block ms b) ≡ bytes_in (m ∷ ms) + b.length
  go true d later = omega (arith, sum_by-cons byte_count record { number = m.number; spans = with_block m.spans b } ms, sum_by-cons byte_count m ms, block_total m.spans b)
  go false true later = omega (arith, sum_by-cons byte_count (just_marked b) (m ∷ ms), alone_total b)
  go false false later = omega (arith, sum_by-cons byte_count m (mark_block ms b), sum_by-cons byte_count m ms, later)

all_bytes : (ms : List Marked) (bs : List Block) → bytes_in (marks_from ms bs) ≡ bytes_in ms + sum_by length_of bs
all_bytes ms [] = omega arith
all_bytes ms (b ∷ bs) = omega (arith, all_bytes (mark_block ms b) bs, marked_bytes ms b, sum_by-cons length_of b bs)

pub marks_bytes : (fs : List NamedFile) (bs : List Block) → bytes_in (marks_of fs bs) ≡ bytes_in (map marked_of fs) + sum_by length_of bs
unfolding marks_of
marks_bytes fs bs = all_bytes (map marked_of fs) bs

-- ---- what a destination had

put_sum : (f : HaveFile → ℕ) (x : HaveFile) (ys : List HaveFile) → sum_by f (put_by_path x ys) ≡ f x + sum_by f ys
put_sum f x [] = sum_by-cons f x []
put_sum f x (y ∷ ys) = go (is_before x.path y.path) (put_sum f x ys) where
  go : (b : Bool) → sum_by f (put_by_path x ys) ≡ f x + sum_by f ys → sum_by f (if b then x ∷ y ∷ ys else y ∷ put_by_path x ys) ≡ f x + sum_by f (y ∷ ys)
  go true later = sum_by-cons f x (y ∷ ys)
  go false later = omega (arith, sum_by-cons f y (put_by_path x ys), sum_by-cons f y ys, later)

pub have_sum : (f : HaveFile → ℕ) (fs : List NamedFile) → sum_by f (have_of fs) ≡ sum_by (λ (x : NamedFile). f x.have) fs
have_sum f [] = refl
have_sum f (x ∷ xs) = omega (arith, put_sum f x.have (have_of xs), have_sum f xs, sum_by-cons (λ (y : NamedFile). f y.have) x xs)

marks_sum : (fs : List NamedFile) → bytes_in (map marked_of fs) ≡ sum_by (λ (x : NamedFile). total_of x.have.spans) fs
marks_sum [] = refl
marks_sum (f ∷ fs) = omega (arith, sum_by-cons byte_count (marked_of f) (map marked_of fs), sum_by-cons (λ (x : NamedFile). total_of x.have.spans) f fs, marks_sum fs)

pub opening_bytes : (fs : List NamedFile) → bytes_in (map marked_of fs) ≡ covered (have_of fs)
opening_bytes fs = marks_sum fs ∙ sym (have_sum covered_of fs)

put_all : (q : HaveFile → Bool) (x : HaveFile) (ys : List HaveFile) → q x ≡ true → list_all q ys ≡ true → list_all q (put_by_path x ys) ≡ true
put_all q x [] e all = and_from (q x) true e refl
put_all q x (y ∷ ys) e all = go (is_before x.path y.path) (and_parts (q y) (list_all q ys) all) (put_all q x ys e) where
  go : (b : Bool) → (q y ≡ true) × (list_all q ys ≡ true) → (list_all q ys ≡ true → list_all q (put_by_path x ys) ≡ true) → list_all q (if b then x ∷ y ∷ ys else y ∷ put_by_path x ys) ≡ true
  go true parts later = and_from (q x) (q y && list_all q ys) e (and_from (q y) (list_all q ys) parts.0 parts.1)
  go false parts later = and_from (q y) (list_all q (put_by_path x ys)) parts.0 (later parts.1)

have_all : (q : HaveFile → Bool) (fs : List NamedFile) → list_all is_file fs ≡ true → ((f : NamedFile) → is_file f ≡ true → q f.have ≡ true) → list_all q (have_of fs) ≡ true
have_all q [] all each = refl
have_all q (f ∷ fs) all each = let a = and_parts (is_file f) (list_all is_file fs) all in put_all q f.have (have_of fs) (each f a.0) (have_all q fs a.1 each)

all_of : (q : HaveFile → Bool) (xs : List HaveFile) → Each (λ (x : HaveFile). q x ≡ true) xs → list_all q xs ≡ true
all_of q [] e = refl
all_of q (x ∷ xs) e = and_from (q x) (list_all q xs) e.0 (all_of q xs e.1)

-- the files of a log that a tree may be sent to fit the tree
pub opening_fits : (tree : List Entry) (fs : List NamedFile) → is_view fs ≡ true → is_in_order (have_of fs) ≡ true → first_unfit tree (have_of fs) ≡ None → FitsTree tree (have_of fs)
opening_fits tree fs view ordered fresh =
    record {
      is = record { rising = ordered; sets = have_all has_set fs (view_parts fs view).each (λ f e. (file_parts f e).apart) };
      own = all_of (fits tree) (have_of fs) (none_stale tree (have_of fs) fresh);
      within = have_all lies_within fs (view_parts fs view).each (λ f e. (file_parts f e).within);
    }
