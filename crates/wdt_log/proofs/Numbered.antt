-- Files by their numbers, as the code keeps them.
use Rattle.std.proofs.Common.{◌≡◌, inl, inr, ℕ, zero, suc, ◌<◌, ◌≤◌, Bool, true, false, ◌&&◌, nat_lt, List, [], ◌∷◌, length, get_or, map, set, Option, Some, None, refl, sym, ap, ◌∙◌, subst, arith}
use Rattle.std.specs.Prelude.{if◌then◌else◌, ◌==◌, option_map, IsSome}
use Rattle.std.specs.List.{insert, list_all, list_any}
use Rattle.std.proofs.lemmas.Bool.{and_from, and_parts, cases_eq, cases_lt, eq-eqb, eqb-false, eqb-true, le-ltb, lt-ltb, ltb-true, ne_eqb, or_parts}
use Rattle.wdt_units.specs.Have.{HaveFile, PlainSpan}
use Rattle.wdt_ranges.specs.Files.{have_file}
use Rattle.wdt_logfmt.specs.declared.entry.LogEntry.{LogEntry}
use Rattle.wdt_logfmt.specs.declared.entry.LogEntry.TheVariants.{File as Named, Covered}
use Rattle.wdt_logfmt.specs.declared.view.LogFile.{LogFile}
use Rattle.wdt_logfmt.specs.Adding.{added, can_cover, can_name, covering, have_with, just_named, put_by_number, span_at}
use Rattle.wdt_logfmt.specs.View.{NamedFile, is_numbered, is_numbered_above, is_rising, named_file, named_files}
use Rattle.wdt_logfmt.proofs.ForCallers.{can_name-parts, rising_put}
use Rattle.wdt_log.specs.Places.{IsPlace, is_at}
use Rattle.wdt_log.specs.Touched.{SameFiles, entered, numbered}
use Rattle.wdt_log.proofs.Adding.{put_at}

-- ---- the file of a number

pub none_above : (n : ℕ) (f : NamedFile) (fs : List NamedFile) → n ≤ f.number → list_all (is_numbered_above f) fs ≡ true → numbered n fs ≡ None
none_above n f [] le all = refl
none_above n f (g ∷ gs) le all =
    let a = and_parts (nat_lt f.number g.number) (list_all (is_numbered_above f) gs) all in
    let lt = ltb-true f.number g.number a.0 in
    rw (ne_eqb g.number n (λ e. omega (arith, lt, le, e))) (none_above n f gs le a.1)

pub none_numbered : (n : ℕ) (fs : List NamedFile) → list_any (is_numbered n) fs ≡ false → numbered n fs ≡ None
none_numbered n [] none = refl
none_numbered n (f ∷ fs) none =
    let o = or_parts (f.number == n) (list_any (is_numbered n) fs) none in
    rw o.0 (none_numbered n fs o.1)

pub numbered_none : (n : ℕ) (fs : List NamedFile) → numbered n fs ≡ None → list_any (is_numbered n) fs ≡ false
numbered_none n [] none = refl
numbered_none n (f ∷ fs) none = elim (cases_eq f.number n) [
  | inl e ↦ absurd (let there : numbered n (f ∷ fs) ≡ Some f.have = (rw (eq-eqb f.number n e) refl) in cc)
  | inr ne ↦
      let other = ne_eqb f.number n ne in
      let rest : numbered n fs ≡ None = sym (ap (λ (b : Bool). if b then Some f.have else numbered n fs) other) ∙ none in
      rw other (numbered_none n fs rest)
]

-- ---- files more

pub numbered_put : (x : NamedFile) (fs : List NamedFile) (m : ℕ) → numbered x.number fs ≡ None → numbered m (put_by_number x fs) ≡ (if x.number == m then Some x.have else numbered m fs)
numbered_put x fs m none = go fs (numbered_none x.number fs none)
  where
    go : (gs : List NamedFile) → list_any (is_numbered x.number) gs ≡ false → numbered m (put_by_number x gs) ≡ (if x.number == m then Some x.have else numbered m gs)
    go [] fresh = refl
    go (g ∷ gs) fresh =
        let o = or_parts (g.number == x.number) (list_any (is_numbered x.number) gs) fresh in
        elim (cases_lt x.number g.number) [
          | inl lt ↦ rw (lt-ltb x.number g.number lt) refl
          | inr le ↦ rw (le-ltb x.number g.number le) (elim (cases_eq g.number m) [
            | inl e ↦
                let other : (x.number == m) ≡ false = ne_eqb x.number m (λ same. eqb-false g.number x.number o.0 (e ∙ sym same)) in
                rw (eq-eqb g.number m e, other) refl
            | inr ne ↦ rw (ne_eqb g.number m ne) (go gs o.1)
          ])
        ]

pub numbered_covering : (n : ℕ) (s : PlainSpan) (fs : List NamedFile) (m : ℕ) → numbered m (map (covering n s) fs) ≡ (if n == m then option_map (have_with s) (numbered m fs) else numbered m fs)
numbered_covering n s fs m = elim (cases_eq n m) [
  | inl e ↦ rw (eq-eqb n m e) (here fs e)
  | inr ne ↦ rw (ne_eqb n m ne) (elsewhere fs ne)
]
  where
    here : (gs : List NamedFile) → n ≡ m → numbered m (map (covering n s) gs) ≡ option_map (have_with s) (numbered m gs)
    here [] e = refl
    here (g ∷ gs) e = elim (cases_eq g.number m) [
      | inl is ↦ rw (eq-eqb g.number n (is ∙ sym e), eq-eqb g.number m is) refl
      | inr ne ↦ rw (ne_eqb g.number n (λ same. ne (same ∙ e)), ne_eqb g.number m ne) (here gs e)
    ]

    elsewhere : (gs : List NamedFile) → (n ≡ m → ⊥) → numbered m (map (covering n s) gs) ≡ numbered m gs
    elsewhere [] ne = refl
    elsewhere (g ∷ gs) ne = elim (cases_eq g.number n) [
      | inl is ↦ rw (eq-eqb g.number n is, ne_eqb g.number m (λ same. ne (sym is ∙ same))) (elsewhere gs ne)
      | inr other ↦ rw (ne_eqb g.number n other) (ap (λ (o : Option HaveFile). if g.number == m then Some g.have else o) (elsewhere gs ne))
    ]

-- ---- rising files are told by their numbers

pub same_by_number : (fs gs : List NamedFile) → is_rising fs ≡ true → is_rising gs ≡ true → ((n : ℕ) → numbered n fs ≡ numbered n gs) → fs ≡ gs
same_by_number [] [] up down same = refl
same_by_number [] (g ∷ gs) up down same = absurd (let there : numbered g.number (g ∷ gs) ≡ Some g.have = (rw (eq-eqb g.number g.number refl) refl) in let h = same g.number in cc)
same_by_number (f ∷ fs) [] up down same = absurd (let there : numbered f.number (f ∷ fs) ≡ Some f.have = (rw (eq-eqb f.number f.number refl) refl) in let h = same f.number in cc)
same_by_number (f ∷ fs) (g ∷ gs) up down same =
    let u = and_parts (list_all (is_numbered_above f) fs) (is_rising fs) up in
    let d = and_parts (list_all (is_numbered_above g) gs) (is_rising gs) down in
    let number : f.number ≡ g.number = elim (cases_lt f.number g.number) [
      | inl lt ↦ absurd (below f fs g gs lt d.0 (same f.number))
      | inr le ↦ elim (cases_eq f.number g.number) [
        | inl e ↦ e
        | inr ne ↦ absurd (below g gs f fs (omega (arith, le, ne)) u.0 (sym (same g.number)))
      ]
    ] in
    let have : f.have ≡ g.have = some_same f.have g.have (sym (first f fs) ∙ same f.number ∙ ap (λ (n : ℕ). numbered n (g ∷ gs)) number ∙ first g gs) in
    let rest : fs ≡ gs = same_by_number fs gs u.1 d.1 (λ n. elim (cases_eq f.number n) [
      | inl e ↦ none_above n f fs (omega (arith, e)) u.0 ∙ sym (none_above n g gs (omega (arith, e, number)) d.0)
      | inr ne ↦ sym (behind f fs n ne) ∙ same n ∙ behind g gs n (λ e. ne (number ∙ e))
    ]) in
    λ i. record { number = number i; have = have i } ∷ rest i
  where
    first : (x : NamedFile) (xs : List NamedFile) → numbered x.number (x ∷ xs) ≡ Some x.have
    first x xs = rw (eq-eqb x.number x.number refl) refl

    behind : (x : NamedFile) (xs : List NamedFile) (n : ℕ) → (x.number ≡ n → ⊥) → numbered n (x ∷ xs) ≡ numbered n xs
    behind x xs n ne = rw (ne_eqb x.number n ne) refl

    some_same : (a b : HaveFile) → Some a ≡ Some b → a ≡ b
    some_same a b e = cc

    below : (x : NamedFile) (xs : List NamedFile) (y : NamedFile) (ys : List NamedFile) → x.number < y.number → list_all (is_numbered_above y) ys ≡ true → numbered x.number (x ∷ xs) ≡ numbered x.number (y ∷ ys) → ⊥
    below x xs y ys lt all same =
        let there = first x xs in
        let gone : numbered x.number (y ∷ ys) ≡ None = behind y ys x.number (λ e. omega (arith, lt, e)) ∙ none_above x.number y ys (omega (arith, lt)) all in
        cc

-- ---- what an entry adds, number by number

taken_from : {A : Type 0} (b : Bool) (x y : A) → (if b then Some x else None) ≡ Some y → (b ≡ true) × (y ≡ x)
taken_from true x y is = (refl, cc)
taken_from false x y is = absurd (cc)

pub entered_files : (version : ℕ) (fs gs : List NamedFile) (e : LogEntry) → added version fs e ≡ Some gs → SameFiles (entered e (λ n. numbered n fs)) (λ n. numbered n gs)
entered_files version fs gs (Named number path size stamp) is n =
    let t = taken_from (can_name fs number path size) (put_by_number (just_named number path size stamp) fs) gs is in
    ap (numbered n) t.1 ∙ numbered_put (just_named number path size stamp) fs n (none_numbered number fs (can_name-parts fs number path size t.0).number)
entered_files version fs gs (Covered number offset count) is n =
    let t = taken_from (can_cover fs number (span_at offset count)) (map (covering number (span_at offset count)) fs) gs is in
    ap (numbered n) t.1 ∙ numbered_covering number (span_at offset count) fs n

pub entered_same : (e : LogEntry) (f g : ℕ → Option HaveFile) → SameFiles f g → SameFiles (entered e f) (entered e g)
entered_same (Named number path size stamp) f g same n = ap (λ (o : Option HaveFile). if number == n then Some (just_named number path size stamp).have else o) (same n)
entered_same (Covered number offset count) f g same n = ap (λ (o : Option HaveFile). if number == n then option_map (have_with (span_at offset count)) o else o) (same n)

-- ---- places

pub at_within : (n at : ℕ) (fs : List LogFile) → is_at n at (named_files fs) ≡ true → at < length fs
at_within n at [] is = absurd (cc)
at_within n zero (f ∷ fs) is = omega arith
at_within n (suc at) (f ∷ fs) is = let lt = at_within n at fs (and_parts (nat_lt f.number n) (is_at n at (named_files fs)) is).1 in omega (arith, lt)

pub at_numbered : (n at : ℕ) (fs : List LogFile) (d : LogFile) → is_at n at (named_files fs) ≡ true → (numbered n (named_files fs) ≡ Some (have_file (get_or fs at d).have)) × ((get_or fs at d).number ≡ n)
at_numbered n at [] d is = absurd (cc)
at_numbered n zero (f ∷ fs) d is = (rw is refl, eqb-true f.number n is)
at_numbered n (suc at) (f ∷ fs) d is =
    let a = and_parts (nat_lt f.number n) (is_at n at (named_files fs)) is in
    let lt = ltb-true f.number n a.0 in
    let rest = at_numbered n at fs d a.1 in
    (rw (ne_eqb f.number n (λ e. omega (arith, lt, e))) rest.0, rest.1)

pub found_at : (n at : ℕ) (fs : List LogFile) (d : LogFile) → IsPlace n (named_files fs) at → at < length fs → (get_or fs at d).number ≡ n → is_at n at (named_files fs) ≡ true
found_at n at [] d place lt is = absurd (omega (arith, lt))
found_at n zero (f ∷ fs) d place lt is = eq-eqb f.number n is
found_at n (suc at) (f ∷ fs) d place lt is = and_from (nat_lt f.number n) (is_at n at (named_files fs)) (lt-ltb f.number n place.0) (found_at n at fs d place.1 (omega (arith, lt)) is)

pub end_none : (n at : ℕ) (fs : List LogFile) → IsPlace n (named_files fs) at → at ≡ length fs → numbered n (named_files fs) ≡ None
end_none n at [] place is = refl
end_none n zero (f ∷ fs) place is = absurd (omega (arith, is))
end_none n (suc at) (f ∷ fs) place is = let lt = place.0 in rw (ne_eqb f.number n (λ e. omega (arith, lt, e))) (end_none n at fs place.1 (omega (arith, is)))

pub other_none : (n at : ℕ) (fs : List LogFile) (d : LogFile) → IsPlace n (named_files fs) at → is_rising (named_files fs) ≡ true → at < length fs → ((get_or fs at d).number ≡ n → ⊥) → numbered n (named_files fs) ≡ None
other_none n at [] d place up lt ne = refl
other_none n zero (f ∷ fs) d place up lt ne =
    let u = and_parts (list_all (is_numbered_above (named_file f)) (named_files fs)) (is_rising (named_files fs)) up in
    rw (ne_eqb f.number n ne) (none_above n (named_file f) (named_files fs) place u.0)
other_none n (suc at) (f ∷ fs) d place up lt ne =
    let u = and_parts (list_all (is_numbered_above (named_file f)) (named_files fs)) (is_rising (named_files fs)) up in
    let less = place.0 in
    rw (ne_eqb f.number n (λ e. omega (arith, less, e))) (other_none n at fs d place.1 u.1 (omega (arith, lt)) ne)

-- a file that is there stands at its place
pub there_at : (n at : ℕ) (fs : List LogFile) → IsPlace n (named_files fs) at → is_rising (named_files fs) ≡ true → IsSome (numbered n (named_files fs)) → is_at n at (named_files fs) ≡ true
there_at n at [] place up some = absurd (cc)
there_at n zero (f ∷ fs) place up some =
    let u = and_parts (list_all (is_numbered_above (named_file f)) (named_files fs)) (is_rising (named_files fs)) up in
    elim (cases_eq f.number n) [
      | inl e ↦ eq-eqb f.number n e
      | inr ne ↦ absurd (none_some (numbered n (named_files (f ∷ fs))) (rw (ne_eqb f.number n ne) (none_above n (named_file f) (named_files fs) place u.0)) some)
    ]
  where
    none_some : (o : Option HaveFile) → o ≡ None → IsSome o → ⊥
    none_some None is has = cc
    none_some (Some x) is has = cc
there_at n (suc at) (f ∷ fs) place up some =
    let u = and_parts (list_all (is_numbered_above (named_file f)) (named_files fs)) (is_rising (named_files fs)) up in
    let less = place.0 in
    let rest : numbered n (named_files (f ∷ fs)) ≡ numbered n (named_files fs) = rw (ne_eqb f.number n (λ e. omega (arith, less, e))) refl in
    and_from (nat_lt f.number n) (is_at n at (named_files fs)) (lt-ltb f.number n less) (there_at n at fs place.1 u.1 (subst (λ (o : Option HaveFile). IsSome o) rest some))

pub inserted_at : (x : LogFile) (at : ℕ) (fs : List LogFile) → IsPlace x.number (named_files fs) at → is_at x.number at (named_files (insert fs at x)) ≡ true
inserted_at x zero [] place = eq-eqb x.number x.number refl
inserted_at x (suc at) [] place = absurd (omega (arith, place))
inserted_at x zero (f ∷ fs) place = eq-eqb x.number x.number refl
inserted_at x (suc at) (f ∷ fs) place = and_from (nat_lt f.number x.number) (is_at x.number at (named_files (insert fs at x))) (lt-ltb f.number x.number place.0) (inserted_at x at fs place.1)

-- a file in the place of another of its number

numbers_alike : (f : LogFile) (x : LogFile) (at : ℕ) (fs : List LogFile) (d : LogFile) → at < length fs → x.number ≡ (get_or fs at d).number → list_all (is_numbered_above (named_file f)) (named_files (set fs at x)) ≡ list_all (is_numbered_above (named_file f)) (named_files fs)
numbers_alike f x at [] d lt is = absurd (omega (arith, lt))
numbers_alike f x zero (g ∷ gs) d lt is = ap (λ (k : ℕ). nat_lt f.number k && list_all (is_numbered_above (named_file f)) (named_files gs)) is
numbers_alike f x (suc at) (g ∷ gs) d lt is = ap (λ (b : Bool). nat_lt f.number g.number && b) (numbers_alike f x at gs d (omega (arith, lt)) is)

rising_set : (x : LogFile) (at : ℕ) (fs : List LogFile) (d : LogFile) → at < length fs → x.number ≡ (get_or fs at d).number → is_rising (named_files (set fs at x)) ≡ is_rising (named_files fs)
rising_set x at [] d lt is = absurd (omega (arith, lt))
rising_set x zero (g ∷ gs) d lt is = ap (λ (k : ℕ). list_all (λ (y : NamedFile). nat_lt k y.number) (named_files gs) && is_rising (named_files gs)) is
rising_set x (suc at) (g ∷ gs) d lt is = (λ i. numbers_alike g x at gs d (omega (arith, lt)) is i && rising_set x at gs d (omega (arith, lt)) is i)

numbered_set : (x : LogFile) (n at m : ℕ) (fs : List LogFile) → is_at n at (named_files fs) ≡ true → x.number ≡ n → numbered m (named_files (set fs at x)) ≡ (if n == m then Some (have_file x.have) else numbered m (named_files fs))
numbered_set x n at m [] is same = absurd (cc)
numbered_set x n zero m (f ∷ fs) is same =
    ap (λ (k : ℕ). if k == m then Some (have_file x.have) else numbered m (named_files fs)) same
    ∙ behind (n == m) refl
  where
    behind : (b : Bool) → (n == m) ≡ b → (if b then Some (have_file x.have) else numbered m (named_files fs)) ≡ (if b then Some (have_file x.have) else numbered m (named_files (f ∷ fs)))
    behind true e = refl
    behind false e = rw (ne_eqb f.number m (λ same_m. eqb-false n m e (sym (eqb-true f.number n is) ∙ same_m))) refl
numbered_set x n (suc at) m (f ∷ fs) is same =
    let a = and_parts (nat_lt f.number n) (is_at n at (named_files fs)) is in
    let lt = ltb-true f.number n a.0 in
    elim (cases_eq f.number m) [
      | inl e ↦ rw (eq-eqb f.number m e, ne_eqb n m (λ e2. omega (arith, lt, e, e2))) refl
      | inr ne ↦ rw (ne_eqb f.number m ne) (numbered_set x n at m fs a.1 same)
    ]

pub record IsSet (x : LogFile) (n at : ℕ) (fs : List LogFile) : Type 0 where
  pub rising : is_rising (named_files (set fs at x)) ≡ true
  pub files : (m : ℕ) → numbered m (named_files (set fs at x)) ≡ (if n == m then Some (have_file x.have) else numbered m (named_files fs))

pub set_at : (x : LogFile) (n at : ℕ) (fs : List LogFile) → is_at n at (named_files fs) ≡ true → is_rising (named_files fs) ≡ true → x.number ≡ n → IsSet x n at fs
set_at x n at fs is up same = record {
  rising = rising_set x at fs x (at_within n at fs is) (same ∙ sym (at_numbered n at fs x is).1) ∙ up;
  files = λ m. numbered_set x n at m fs is same;
}

pub record IsInserted (x : LogFile) (at : ℕ) (fs : List LogFile) : Type 0 where
  pub rising : is_rising (named_files (insert fs at x)) ≡ true
  pub files : (m : ℕ) → numbered m (named_files (insert fs at x)) ≡ (if x.number == m then Some (have_file x.have) else numbered m (named_files fs))

pub insert_at : (x : LogFile) (at : ℕ) (fs : List LogFile) → IsPlace x.number (named_files fs) at → is_rising (named_files fs) ≡ true → numbered x.number (named_files fs) ≡ None → IsInserted x at fs
insert_at x at fs place up none =
    let fresh = numbered_none x.number (named_files fs) none in
    let is = put_at x fs at place fresh in
    record {
      rising = ap is_rising is ∙ rising_put (named_file x) (named_files fs) up fresh;
      files = λ m. ap (numbered m) is ∙ numbered_put (named_file x) (named_files fs) m none;
    }
