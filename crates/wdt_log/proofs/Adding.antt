-- The files of a log with an entry more, as the code keeps them.
use Rattle.std.proofs.Common.{◌≡◌, inl, inr, ℕ, zero, suc, ◌+◌, ◌<◌, ◌≤◌, ◌^◌, Bool, true, false, ◌&&◌, not, nat_lt, nat_le, List, [], ◌∷◌, ◌++◌, length, get_or, map, take, drop, Option, Some, None, Result, Ok, Err, refl, sym, ap, ◌∙◌, subst, arith}
use Rattle.std.specs.Prelude.{if◌then◌else◌, ◌==◌, option_and_then, IsSome, OnOk}
use Rattle.std.specs.List.{insert, list_all, list_any}
use Rattle.std.specs.List.Sorted.{IsPartitionedBy, IsPartitionPoint}
use Rattle.std.proofs.lemmas.Bool.{and_parts, or_cases, or_parts, cases_eq, lt-ltb, le-ltb, ltb-true, ltb-false, leb-true, eqb-false}
use Rattle.std.proofs.lemmas.List.{take_more}
use Rattle.std.proofs.lemmas.Option.{same_Some}
use Rattle.wdt_units.specs.Have.{PlainSpan}
use Rattle.wdt_ranges.specs.Spans.{end_of, is_span}
use Rattle.wdt_ranges.proofs.ForCallers.{span_from}
use Rattle.wdt_logfmt.specs.declared.entry.LogEntry.{LogEntry}
use Rattle.wdt_logfmt.specs.declared.entry.LogEntry.TheVariants.{File as Named, Covered}
use Rattle.wdt_logfmt.specs.declared.view.LogFile.{LogFile}
use Rattle.wdt_logfmt.specs.Adding.{added, all_added, can_cover, can_name, covering, has_room, have_with, is_room_in, just_named, overlap, put_by_number, span_at, with_span}
use Rattle.wdt_logfmt.specs.View.{NamedFile, is_file, is_numbered, is_numbered_above, is_rising, is_view, named_file, named_files}
use Rattle.wdt_logfmt.proofs.ForCallers.{can_cover-parts, file_parts, first_added, view_parts}
use Rattle.wdt_log.specs.Places.{IsPlace}

-- ---- where a number stands

-- the test of the search
abbrev pub is_below : ℕ → LogFile → Bool
is_below n f = nat_lt f.number n

pub place_from : (n : ℕ) (fs : List LogFile) (at : ℕ) → at ≤ length fs → IsPartitionPoint (λ f. is_below n f ≡ true) (λ f. is_below n f ≡ false) fs at → IsPlace n (named_files fs) at
place_from n [] at le point = omega (arith, le)
place_from n (f ∷ fs) zero le point = ltb-false f.number n (point.1 0 f (omega arith) (omega arith))
place_from n (f ∷ fs) (suc at) le point = (
  ltb-true f.number n (point.0 0 f (omega arith) (omega arith)),
  place_from n fs at (omega (arith, le)) ((λ k d low high. point.0 (suc k) d (omega arith) (omega (arith, high))), (λ k d low high. point.1 (suc k) d (omega (arith, low)) (omega (arith, high)))),
)

above_at : (f : LogFile) (fs : List LogFile) (j : ℕ) (d : LogFile) → list_all (is_numbered_above (named_file f)) (named_files fs) ≡ true → j < length fs → f.number < (get_or fs j d).number
above_at f [] j d all lt = absurd (omega (arith, lt))
above_at f (g ∷ fs) zero d all lt = ltb-true f.number g.number (and_parts (nat_lt f.number g.number) (list_all (is_numbered_above (named_file f)) (named_files fs)) all).0
above_at f (g ∷ fs) (suc j) d all lt = above_at f fs j d (and_parts (nat_lt f.number g.number) (list_all (is_numbered_above (named_file f)) (named_files fs)) all).1 (omega (arith, lt))

rising_at : (fs : List LogFile) (i j : ℕ) (d : LogFile) → is_rising (named_files fs) ≡ true → i ≤ j → j < length fs → (get_or fs i d).number ≤ (get_or fs j d).number
rising_at [] i j d up le lt = absurd (omega (arith, lt))
rising_at (f ∷ fs) zero zero d up le lt = omega arith
rising_at (f ∷ fs) zero (suc j) d up le lt =
    let above = above_at f fs j d (and_parts (list_all (is_numbered_above (named_file f)) (named_files fs)) (is_rising (named_files fs)) up).0 (omega (arith, lt)) in
    omega (arith, above)
rising_at (f ∷ fs) (suc i) zero d up le lt = absurd (omega (arith, le))
rising_at (f ∷ fs) (suc i) (suc j) d up le lt = rising_at fs i j d (and_parts (list_all (is_numbered_above (named_file f)) (named_files fs)) (is_rising (named_files fs)) up).1 (omega (arith, le)) (omega (arith, lt))

pub parted : (n : ℕ) (fs : List LogFile) → is_rising (named_files fs) ≡ true → IsPartitionedBy (is_below n) fs
parted n fs up i j d le within below =
    let lt = ltb-true (get_or fs j d).number n below in
    let least = rising_at fs i j d up le within in
    lt-ltb (get_or fs i d).number n (omega (arith, lt, least))

-- ---- a file more

pub put_at : (x : LogFile) (fs : List LogFile) (at : ℕ) → IsPlace x.number (named_files fs) at → list_any (is_numbered x.number) (named_files fs) ≡ false
    → named_files (insert fs at x) ≡ put_by_number (named_file x) (named_files fs)
put_at x [] zero place new = refl
put_at x [] (suc at) place new = absurd (omega (arith, place))
put_at x (f ∷ fs) zero place new =
    let n = or_parts (f.number == x.number) (list_any (is_numbered x.number) (named_files fs)) new in
    let other = eqb-false f.number x.number n.0 in
    let lt : x.number < f.number = elim (cases_eq f.number x.number) [ inl e ↦ absurd (other e) | inr ne ↦ omega (arith, place, ne) ] in
    rw (lt-ltb x.number f.number lt) refl
put_at x (f ∷ fs) (suc at) place new =
    let n = or_parts (f.number == x.number) (list_any (is_numbered x.number) (named_files fs)) new in
    rw (le-ltb x.number f.number (omega (arith, place.0))) (ap (λ (w : List NamedFile). named_file f ∷ w) (put_at x fs at place.1 n.1))

-- ---- a span more

-- the span lies within a file
pub span_is : (n : ℕ) (s : PlainSpan) (fs : List NamedFile) → is_view fs ≡ true → can_cover fs n s ≡ true → is_span s ≡ true
span_is n s fs view can = let c = can_cover-parts fs n s can in go fs (view_parts fs view).each c.room c.some
  where
    within : (f : NamedFile) → is_file f ≡ true → has_room s f.have ≡ true → 0 < s.count → is_span s ≡ true
    within f h room some =
        let p = file_parts f h in
        let le = leb-true (end_of s) f.have.size (and_parts (nat_le (end_of s) f.have.size) (not (list_any (overlap s) f.have.spans)) room).0 in
        let small = leb-true f.have.size (2 ^ 40) (and_parts _ (nat_le f.have.size (2 ^ 40)) p.nameable).1 in
        span_from s some (omega (arith, le, small))

    go : (gs : List NamedFile) → list_all is_file gs ≡ true → list_any (is_room_in n s) gs ≡ true → 0 < s.count → is_span s ≡ true
    go [] each room some = absurd (cc)
    go (f ∷ gs) each room some =
        let e = and_parts (is_file f) (list_all is_file gs) each in
        elim (or_cases (f.number == n && has_room s f.have) (list_any (is_room_in n s) gs) room) [
          | inl here ↦ within f e.0 (and_parts (f.number == n) (has_room s f.have) here).1 some
          | inr later ↦ go gs e.1 later some
        ]

-- ---- entry by entry

pub some_is : {A : Type 0} (o : Option A) → IsSome o → (x : A) × (o ≡ Some x)
some_is None some = absurd (cc)
some_is (Some x) some = (x, refl)

some_first : (o : Option (List NamedFile)) (f : List NamedFile → Option (List NamedFile)) → IsSome (option_and_then f o) → IsSome o
some_first None f s = s
some_first (Some hs) f s = refl

-- what comes next continues what there is
pub continues_next : (version : ℕ) (fs gs : List NamedFile) (es : List LogEntry) (e : LogEntry) (more : List LogEntry) → all_added version fs es ≡ Some gs → IsSome (all_added version fs (es ++ e ∷ more)) → IsSome (added version gs e)
continues_next version fs gs [] e more is some =
    subst (λ hs. IsSome (added version hs e)) (same_Some fs gs is) (some_first (added version fs e) (λ hs. all_added version hs more) some)
continues_next version fs gs (x ∷ es) e more is some =
    let first = first_added version fs gs x es is in
    continues_next version first.0 gs es e more first.2 (subst (λ o. IsSome (option_and_then (λ hs. all_added version hs (es ++ e ∷ more)) o)) first.1 some)

pub added_next : (version : ℕ) (fs gs hs : List NamedFile) (es : List LogEntry) (e : LogEntry) → all_added version fs es ≡ Some gs → added version gs e ≡ Some hs → all_added version fs (es ++ e ∷ []) ≡ Some hs
added_next version fs gs hs [] e is next = ap (option_and_then (λ ks. all_added version ks [])) (ap (λ ks. added version ks e) (same_Some fs gs is) ∙ next)
added_next version fs gs hs (x ∷ es) e is next =
    let first = first_added version fs gs x es is in
    ap (option_and_then (λ ks. all_added version ks (es ++ e ∷ []))) first.1 ∙ added_next version first.0 gs hs es e first.2 next

-- the entries so far, the next, and those behind it
pub split_at : (es : List LogEntry) (i : ℕ) (e : LogEntry) → i < length es → e ≡ get_or es i e → es ≡ take i es ++ e ∷ drop (suc i) es
split_at [] i e lt is = absurd (omega (arith, lt))
split_at (x ∷ es) zero e lt is = (λ i. sym is i ∷ es)
split_at (x ∷ es) (suc i) e lt is = ap (λ (w : List LogEntry). x ∷ w) (split_at es i e (omega (arith, lt)) is)

pub entry_next : (es : List LogEntry) (i : ℕ) (e : LogEntry) → i < length es → e ≡ get_or es i e → take (i + 1) es ≡ take i es ++ e ∷ []
entry_next es i e lt is = take_more es i e lt ∙ ap (λ x. take i es ++ x ∷ []) (sym is)

taken_from : {A : Type 0} (b : Bool) (x : A) → IsSome (if b then Some x else None) → (b ≡ true) × ((if b then Some x else None) ≡ Some x)
taken_from true x some = (refl, refl)
taken_from false x some = absurd (cc)

pub can_name-is : (version : ℕ) (fs : List NamedFile) (number : ℕ) (path : List ℕ) (size stamp : ℕ) → IsSome (added version fs (Named number path size stamp))
    → (can_name fs number path size ≡ true) × (added version fs (Named number path size stamp) ≡ Some (put_by_number (just_named number path size stamp) fs))
can_name-is version fs number path size stamp some = taken_from (can_name fs number path size) (put_by_number (just_named number path size stamp) fs) some

pub can_cover-is : (version : ℕ) (fs : List NamedFile) (number offset count : ℕ) → IsSome (added version fs (Covered number offset count))
    → (can_cover fs number (span_at offset count) ≡ true) × (added version fs (Covered number offset count) ≡ Some (map (covering number (span_at offset count)) fs))
can_cover-is version fs number offset count some = taken_from (can_cover fs number (span_at offset count)) (map (covering number (span_at offset count)) fs) some

pub place_within : (n : ℕ) (fs : List LogFile) (at : ℕ) → IsPlace n (named_files fs) at → at ≤ length fs
place_within n [] at place = omega (arith, place)
place_within n (f ∷ fs) zero place = omega arith
place_within n (f ∷ fs) (suc at) place = let le = place_within n fs at place.1 in omega (arith, le)

pub have_is : (path : List ℕ) (size stamp : ℕ) (old new : List PlainSpan) (s : PlainSpan) → new ≡ with_span s old
    → record { path = path; size = size; stamp = stamp; spans = new } ≡ have_with s (record { path = path; size = size; stamp = stamp; spans = old })
have_is path size stamp old new s is = ap (λ (spans : List PlainSpan). record { path = path; size = size; stamp = stamp; spans = spans }) is

pub on_ok : {T E : Type 0} (r : Result T E) (P Q : Type 0) → OnOk r P → (P → Q) → OnOk r Q
on_ok (Ok x) P Q h f = f h
on_ok (Err e) P Q h f = h
