-- Named files, kept by number.
use Rattle.std.proofs.Common.{◌≡◌, inl, inr, ℕ, zero, suc, ◌+◌, ◌<◌, ◌≤◌, Bool, true, false, ◌||◌, List, [], ◌∷◌, ◌++◌, length, map, set, sum_by, slice_get, Option, Some, None, refl, sym, ap, ◌∙◌, arith}
use Rattle.std.specs.Prelude.{◌==◌}
use Rattle.std.specs.List.{list_all, list_any}
use Rattle.std.proofs.lemmas.Bool.{and_parts, or_from, or_left, or_right, lt-ltb, le-ltb, eq-eqb, ne_eqb}
use Rattle.std.proofs.lemmas.List.Sums.{sum_by-cons}
use Rattle.wdt_units.specs.Have.{HaveFile, PlainSpan}
use Rattle.wdt_logfmt.specs.View.{NamedFile, is_numbered}
use Rattle.wdt_logfmt.specs.Adding.{put_by_number, covering, have_with, has_room, is_room_in}
use Rattle.wdt_logfmt.specs.Landing.{IsAmong}
use Rattle.wdt_files.specs.Slots.{named_from}

abbrev pub file_of : ℕ → HaveFile → NamedFile
file_of n have = record { number = n; have = have }

-- no file of this number is named
abbrev pub IsUnnamed : List (Option HaveFile) → ℕ → Type 0
IsUnnamed haves i = (have : HaveFile) → slice_get haves i ≡ Some (Some have) → ⊥

-- ---- numbers

below : (haves : List (Option HaveFile)) (first n : ℕ) → n < first → list_any (is_numbered n) (named_from first haves) ≡ false
below [] first n lt = refl
below (None ∷ haves) first n lt = below haves (first + 1) n (omega arith)
below (Some h ∷ haves) first n lt =
    or_from (first == n) (list_any (is_numbered n) (named_from (first + 1) haves)) (ne_eqb first n (λ e. omega arith)) (below haves (first + 1) n (omega arith))

pub numbered : (haves : List (Option HaveFile)) (first i n : ℕ) (h : HaveFile) → n ≡ first + i → slice_get haves i ≡ Some (Some h) → list_any (is_numbered n) (named_from first haves) ≡ true
numbered [] first i n h at here = absurd (cc)
numbered (None ∷ haves) first zero n h at here = absurd (cc)
numbered (Some g ∷ haves) first zero n h at here = or_left (first == n) (list_any (is_numbered n) (named_from (first + 1) haves)) (eq-eqb first n (omega arith))
numbered (None ∷ haves) first (suc i) n h at here = numbered haves (first + 1) i n h (omega arith) here
numbered (Some g ∷ haves) first (suc i) n h at here = or_right (first == n) (list_any (is_numbered n) (named_from (first + 1) haves)) (numbered haves (first + 1) i n h (omega arith) here)

pub unnumbered : (haves : List (Option HaveFile)) (first i n : ℕ) → n ≡ first + i → IsUnnamed haves i → list_any (is_numbered n) (named_from first haves) ≡ false
unnumbered [] first i n at free = refl
unnumbered (None ∷ haves) first zero n at free = below haves (first + 1) n (omega arith)
unnumbered (Some g ∷ haves) first zero n at free = absurd (free g refl)
unnumbered (None ∷ haves) first (suc i) n at free = unnumbered haves (first + 1) i n (omega arith) free
unnumbered (Some g ∷ haves) first (suc i) n at free =
    or_from (first == n) (list_any (is_numbered n) (named_from (first + 1) haves)) (ne_eqb first n (λ e. omega arith)) (unnumbered haves (first + 1) i n (omega arith) free)

-- a named file is kept at its number
pub kept_at : (haves : List (Option HaveFile)) (first : ℕ) (f : NamedFile) → IsAmong f (named_from first haves) → (i : ℕ) × (f.number ≡ first + i) × (slice_get haves i ≡ Some (Some f.have))
kept_at [] first f among = absurd among
kept_at (None ∷ haves) first f among = (let r = kept_at haves (first + 1) f among in (suc r.0, omega (arith, r.1), r.2))
kept_at (Some h ∷ haves) first f (inl is) = (0, omega (arith, ap (λ (g : NamedFile). g.number) is), ap (λ (g : NamedFile). Some (Some g.have)) is)
kept_at (Some h ∷ haves) first f (inr later) = (let r = kept_at haves (first + 1) f later in (suc r.0, omega (arith, r.1), r.2))

pub length_named : (haves : List (Option HaveFile)) (first : ℕ) → length (named_from first haves) ≤ length haves
length_named [] first = omega arith
length_named (None ∷ haves) first = omega (arith, length_named haves (first + 1))
length_named (Some h ∷ haves) first = omega (arith, length_named haves (first + 1))

-- ---- a file is named

put_first : (haves : List (Option HaveFile)) (first : ℕ) (x : NamedFile) → x.number < first → put_by_number x (named_from first haves) ≡ x ∷ named_from first haves
put_first [] first x lt = refl
put_first (None ∷ haves) first x lt = put_first haves (first + 1) x (omega arith)
put_first (Some h ∷ haves) first x lt = rw (lt-ltb x.number first lt) refl

pub set_named : (haves : List (Option HaveFile)) (first i n : ℕ) (h : HaveFile) → n ≡ first + i → i < length haves → IsUnnamed haves i → named_from first (set haves i (Some h)) ≡ put_by_number (file_of n h) (named_from first haves)
set_named [] first i n h at within free = absurd (omega arith)
set_named (None ∷ haves) first zero n h at within free =
    let e : first ≡ n = omega arith in
    ap (λ (k : ℕ). file_of k h ∷ named_from (first + 1) haves) e ∙ sym (put_first haves (first + 1) (file_of n h) (omega arith))
set_named (Some g ∷ haves) first zero n h at within free = absurd (free g refl)
set_named (None ∷ haves) first (suc i) n h at within free = set_named haves (first + 1) i n h (omega arith) (omega arith) free
set_named (Some g ∷ haves) first (suc i) n h at within free =
    rw (le-ltb n first (omega arith)) (ap (λ w. file_of first g ∷ w) (set_named haves (first + 1) i n h (omega arith) (omega arith) free))

-- ---- a file gets one more span

cover_below : (haves : List (Option HaveFile)) (first n : ℕ) (s : PlainSpan) → n < first → map (covering n s) (named_from first haves) ≡ named_from first haves
cover_below [] first n s lt = refl
cover_below (None ∷ haves) first n s lt = cover_below haves (first + 1) n s (omega arith)
cover_below (Some h ∷ haves) first n s lt = rw (ne_eqb first n (λ e. omega arith)) (ap (λ w. file_of first h ∷ w) (cover_below haves (first + 1) n s (omega arith)))

inner : (g h : HaveFile) → Some (Some g) ≡ Some (Some h) → g ≡ h
inner g h e = cc

pub set_covered : (haves : List (Option HaveFile)) (first i n : ℕ) (s : PlainSpan) (h : HaveFile) → n ≡ first + i → slice_get haves i ≡ Some (Some h)
    → named_from first (set haves i (Some (have_with s h))) ≡ map (covering n s) (named_from first haves)
set_covered [] first i n s h at here = absurd (cc)
set_covered (None ∷ haves) first zero n s h at here = absurd (cc)
set_covered (Some g ∷ haves) first zero n s h at here =
    let same : h ≡ g = sym (inner g h here) in
    rw (eq-eqb first n (omega arith))
    (ap (λ (k : HaveFile). file_of first (have_with s k) ∷ named_from (first + 1) haves) same ∙ ap (λ w. file_of first (have_with s g) ∷ w) (sym (cover_below haves (first + 1) n s (omega arith))))
set_covered (None ∷ haves) first (suc i) n s h at here = set_covered haves (first + 1) i n s h (omega arith) here
set_covered (Some g ∷ haves) first (suc i) n s h at here = rw (ne_eqb first n (λ e. omega arith)) (ap (λ w. file_of first g ∷ w) (set_covered haves (first + 1) i n s h (omega arith) here))

-- ---- room for a span

roomless : (haves : List (Option HaveFile)) (first n : ℕ) (s : PlainSpan) → n < first → list_any (is_room_in n s) (named_from first haves) ≡ false
roomless [] first n s lt = refl
roomless (None ∷ haves) first n s lt = roomless haves (first + 1) n s (omega arith)
roomless (Some h ∷ haves) first n s lt = rw (ne_eqb first n (λ e. omega arith)) (roomless haves (first + 1) n s (omega arith))

or_nothing : (a b : Bool) → b ≡ false → (a || b) ≡ a
or_nothing true b e = refl
or_nothing false b e = e

pub room_in : (haves : List (Option HaveFile)) (first i n : ℕ) (s : PlainSpan) (h : HaveFile) → n ≡ first + i → slice_get haves i ≡ Some (Some h) → list_any (is_room_in n s) (named_from first haves) ≡ has_room s h
room_in [] first i n s h at here = absurd (cc)
room_in (None ∷ haves) first zero n s h at here = absurd (cc)
room_in (Some g ∷ haves) first zero n s h at here =
    rw (eq-eqb first n (omega arith)) (or_nothing (has_room s g) (list_any (is_room_in n s) (named_from (first + 1) haves)) (roomless haves (first + 1) n s (omega arith)) ∙ ap (λ (k : HaveFile). has_room s k) (inner g h here))
room_in (None ∷ haves) first (suc i) n s h at here = room_in haves (first + 1) i n s h (omega arith) here
room_in (Some g ∷ haves) first (suc i) n s h at here = rw (ne_eqb first n (λ e. omega arith)) (room_in haves (first + 1) i n s h (omega arith) here)

-- ---- sums

-- what a count of files is once one of them is another
pub sum_set : (count : NamedFile → ℕ) (haves : List (Option HaveFile)) (first i n : ℕ) (g h : HaveFile) → n ≡ first + i → slice_get haves i ≡ Some (Some g)
    → sum_by count (named_from first (set haves i (Some h))) + count (file_of n g) ≡ sum_by count (named_from first haves) + count (file_of n h)
sum_set count [] first i n g h at here = absurd (cc)
sum_set count (None ∷ haves) first zero n g h at here = absurd (cc)
sum_set count (Some k ∷ haves) first zero n g h at here =
    let e : first ≡ n = omega arith in
    let same : k ≡ g = inner k g here in
    let old : count (file_of first k) ≡ count (file_of n g) = (λ i. count (file_of (e i) (same i))) in
    let new : count (file_of first h) ≡ count (file_of n h) = (λ i. count (file_of (e i) h)) in
    omega (arith, old, new, sum_by-cons count (file_of first h) (named_from (first + 1) haves), sum_by-cons count (file_of first k) (named_from (first + 1) haves))
sum_set count (None ∷ haves) first (suc i) n g h at here = sum_set count haves (first + 1) i n g h (omega arith) here
sum_set count (Some k ∷ haves) first (suc i) n g h at here =
    omega (
      arith,
      sum_set count haves (first + 1) i n g h (omega arith) here,
      sum_by-cons count (file_of first k) (named_from (first + 1) (set haves i (Some h))),
      sum_by-cons count (file_of first k) (named_from (first + 1) haves),
    )

pub part_of : (count : NamedFile → ℕ) (haves : List (Option HaveFile)) (first i n : ℕ) (h : HaveFile) → n ≡ first + i → slice_get haves i ≡ Some (Some h) → count (file_of n h) ≤ sum_by count (named_from first haves)
part_of count [] first i n h at here = absurd (cc)
part_of count (None ∷ haves) first zero n h at here = absurd (cc)
part_of count (Some k ∷ haves) first zero n h at here =
    let e : first ≡ n = omega arith in
    let same : k ≡ h = inner k h here in
    let old : count (file_of first k) ≡ count (file_of n h) = (λ i. count (file_of (e i) (same i))) in
    omega (arith, old, sum_by-cons count (file_of first k) (named_from (first + 1) haves))
part_of count (None ∷ haves) first (suc i) n h at here = part_of count haves (first + 1) i n h (omega arith) here
part_of count (Some k ∷ haves) first (suc i) n h at here =
    omega (arith, part_of count haves (first + 1) i n h (omega arith) here, sum_by-cons count (file_of first k) (named_from (first + 1) haves))

-- ---- one more at the end

pub named_more : (haves : List (Option HaveFile)) (first n : ℕ) (o : Option HaveFile) → n ≡ first + length haves → named_from first (haves ++ o ∷ []) ≡ named_from first haves ++ named_from n (o ∷ [])
named_more [] first n o at = ap (λ (k : ℕ). named_from k (o ∷ [])) (let e : first ≡ n = omega arith in e)
named_more (None ∷ haves) first n o at = named_more haves (first + 1) n o (omega arith)
named_more (Some h ∷ haves) first n o at = ap (λ w. file_of first h ∷ w) (named_more haves (first + 1) n o (omega arith))

-- what holds of all named files holds of one
pub each_at : (p : NamedFile → Bool) (haves : List (Option HaveFile)) (first i n : ℕ) (h : HaveFile) → n ≡ first + i → slice_get haves i ≡ Some (Some h) → list_all p (named_from first haves) ≡ true → p (file_of n h) ≡ true
each_at p [] first i n h at here all = absurd (cc)
each_at p (None ∷ haves) first zero n h at here all = absurd (cc)
each_at p (Some g ∷ haves) first zero n h at here all =
    let e : first ≡ n = omega arith in
    let same : g ≡ h = inner g h here in (λ i. p (file_of (sym e i) (sym same i))) ∙ (and_parts (p (file_of first g)) (list_all p (named_from (first + 1) haves)) all).0
each_at p (None ∷ haves) first (suc i) n h at here all = each_at p haves (first + 1) i n h (omega arith) here all
each_at p (Some g ∷ haves) first (suc i) n h at here all = each_at p haves (first + 1) i n h (omega arith) here (and_parts (p (file_of first g)) (list_all p (named_from (first + 1) haves)) all).1

-- ---- one file is named or changed

pub length_kept : (haves : List (Option HaveFile)) (first i : ℕ) (g h : HaveFile) → slice_get haves i ≡ Some (Some g) → length (named_from first (set haves i (Some h))) ≡ length (named_from first haves)
length_kept [] first i g h here = absurd (cc)
length_kept (None ∷ haves) first zero g h here = absurd (cc)
length_kept (Some k ∷ haves) first zero g h here = refl
length_kept (None ∷ haves) first (suc i) g h here = length_kept haves (first + 1) i g h here
length_kept (Some k ∷ haves) first (suc i) g h here = ap suc (length_kept haves (first + 1) i g h here)

pub length_new : (haves : List (Option HaveFile)) (first i : ℕ) (h : HaveFile) → i < length haves → IsUnnamed haves i → length (named_from first (set haves i (Some h))) ≡ length (named_from first haves) + 1
length_new [] first i h within free = absurd (omega arith)
length_new (None ∷ haves) first zero h within free = omega arith
length_new (Some g ∷ haves) first zero h within free = absurd (free g refl)
length_new (None ∷ haves) first (suc i) h within free = length_new haves (first + 1) i h (omega arith) free
length_new (Some g ∷ haves) first (suc i) h within free = omega (arith, length_new haves (first + 1) i h (omega arith) free)

-- what a count of files is once one more is named
pub sum_new : (count : NamedFile → ℕ) (haves : List (Option HaveFile)) (first i n : ℕ) (h : HaveFile) → n ≡ first + i → i < length haves → IsUnnamed haves i
    → sum_by count (named_from first (set haves i (Some h))) ≡ sum_by count (named_from first haves) + count (file_of n h)
sum_new count [] first i n h at within free = absurd (omega arith)
sum_new count (None ∷ haves) first zero n h at within free =
    let e : first ≡ n = omega arith in
    omega (arith, sum_by-cons count (file_of first h) (named_from (first + 1) haves), ap (λ (k : ℕ). count (file_of k h)) e)
sum_new count (Some g ∷ haves) first zero n h at within free = absurd (free g refl)
sum_new count (None ∷ haves) first (suc i) n h at within free = sum_new count haves (first + 1) i n h (omega arith) (omega arith) free
sum_new count (Some g ∷ haves) first (suc i) n h at within free =
    omega (
      arith,
      sum_new count haves (first + 1) i n h (omega arith) (omega arith) free,
      sum_by-cons count (file_of first g) (named_from (first + 1) (set haves i (Some h))),
      sum_by-cons count (file_of first g) (named_from (first + 1) haves),
    )
