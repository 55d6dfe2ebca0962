-- Named files: the spans of a number, and what naming a file and laying a span over one do to them.
use Rattle.std.proofs.Common.{◌≡◌, ◌⊎◌, inl, inr, ℕ, Bool, true, false, nat_lt, List, [], ◌∷◌, map, refl, sym, ap, ◌∙◌, subst, arith}
use Rattle.std.specs.Prelude.{if◌then◌else◌, ◌==◌}
use Rattle.std.specs.List.{list_all, list_any}
use Rattle.std.proofs.lemmas.Bool.{and_parts, cases_eq, eq-eqb, eqb-true, ne_eqb, or_parts, or_cases, or_left, or_right, both_ways, ltb-true}
use Rattle.wdt_units.specs.Have.{PlainSpan}
use Rattle.wdt_logfmt.specs.Adding.{covering, have_with, put_by_number, with_span}
use Rattle.wdt_logfmt.specs.Landing.{IsAmong}
use Rattle.wdt_logfmt.specs.Marks.{marked_of, spans_at}
use Rattle.wdt_logfmt.specs.View.{NamedFile, is_numbered, is_numbered_above, is_rising}

-- ---- the file of a number

-- a number that is there is that of a file
pub numbered_file : (n : ℕ) (fs : List NamedFile) → list_any (is_numbered n) fs ≡ true → (g : NamedFile) × IsAmong g fs × (g.number ≡ n)
numbered_file n [] there = absurd (cc)
numbered_file n (f ∷ fs) there = elim (or_cases (f.number == n) (list_any (is_numbered n) fs) there) [
  | inl here ↦ (f, inl refl, eqb-true f.number n here)
  | inr later ↦ (let r = numbered_file n fs later in (r.0, inr r.1, r.2))
]

-- the number of a file that is there is there
pub file_numbered : (g : NamedFile) (fs : List NamedFile) → IsAmong g fs → list_any (is_numbered g.number) fs ≡ true
file_numbered g [] among = absurd among
file_numbered g (f ∷ fs) (inl is) = or_left (f.number == g.number) (list_any (is_numbered g.number) fs) (eq-eqb f.number g.number (ap (λ (x : NamedFile). x.number) is))
file_numbered g (f ∷ fs) (inr more) = or_right (f.number == g.number) (list_any (is_numbered g.number) fs) (file_numbered g fs more)

-- what holds of all files holds of one
pub each_file : (p : NamedFile → Bool) (g : NamedFile) (fs : List NamedFile) → list_all p fs ≡ true → IsAmong g fs → p g ≡ true
each_file p g [] all among = absurd among
each_file p g (f ∷ fs) all (inl is) = subst (λ (x : NamedFile). p x ≡ true) is (and_parts (p f) (list_all p fs) all).0
each_file p g (f ∷ fs) all (inr more) = each_file p g fs (and_parts (p f) (list_all p fs) all).1 more

-- the spans of a file that rises among others are those of its number
pub spans_of_file : (g : NamedFile) (fs : List NamedFile) → is_rising fs ≡ true → IsAmong g fs → spans_at (map marked_of fs) g.number ≡ g.have.spans
spans_of_file g [] up among = absurd among
spans_of_file g (f ∷ fs) up (inl is) = go (f.number == g.number) (eq-eqb f.number g.number (ap (λ (x : NamedFile). x.number) is))
  where
    go : (b : Bool) → b ≡ true → (if b then f.have.spans else spans_at (map marked_of fs) g.number) ≡ g.have.spans
    go true e = ap (λ (x : NamedFile). x.have.spans) is
    go false e = absurd (cc)
spans_of_file g (f ∷ fs) up (inr more) =
    let u = and_parts (list_all (is_numbered_above f) fs) (is_rising fs) up in
    let above = ltb-true f.number g.number (each_file (is_numbered_above f) g fs u.0 more) in
    go (f.number == g.number) (ne_eqb f.number g.number (λ same. omega (arith, same, above))) (spans_of_file g fs u.1 more)
  where
    go : (b : Bool) → b ≡ false → spans_at (map marked_of fs) g.number ≡ g.have.spans → (if b then f.have.spans else spans_at (map marked_of fs) g.number) ≡ g.have.spans
    go true e later = absurd (cc)
    go false e later = later

-- a number that isn't there has no span
pub spans_none : (n : ℕ) (fs : List NamedFile) → list_any (is_numbered n) fs ≡ false → spans_at (map marked_of fs) n ≡ []
spans_none n [] none = refl
spans_none n (f ∷ fs) none = (let p = or_parts (f.number == n) (list_any (is_numbered n) fs) none in rw p.0 (spans_none n fs p.1))

-- ---- a file is named

module _ (x : NamedFile) (bare : x.have.spans ≡ []) where
  -- no spans change where a file without any comes in
  pub spans_put : (n : ℕ) (fs : List NamedFile) → list_any (is_numbered x.number) fs ≡ false → spans_at (map marked_of (put_by_number x fs)) n ≡ spans_at (map marked_of fs) n
  spans_put n [] new = go (x.number == n)
    where
      go : (b : Bool) → (if b then x.have.spans else []) ≡ []
      go true = bare
      go false = refl
  spans_put n (f ∷ fs) new =
      let p = or_parts (f.number == x.number) (list_any (is_numbered x.number) fs) new in
      go (nat_lt x.number f.number) (spans_put n fs p.1) (cases_eq x.number n) p.0 p.1
    where
      skipped : (x.number ≡ n) ⊎ (x.number ≡ n → ⊥) → (f.number == x.number) ≡ false → list_any (is_numbered x.number) fs ≡ false
          → (if x.number == n then x.have.spans else spans_at (map marked_of (f ∷ fs)) n) ≡ spans_at (map marked_of (f ∷ fs)) n
      skipped (inl same) here later =
          let none : list_any (is_numbered n) (f ∷ fs) ≡ false = subst (λ (k : ℕ). list_any (is_numbered k) (f ∷ fs) ≡ false) same new in
          rw (eq-eqb x.number n same) (bare ∙ sym (spans_none n (f ∷ fs) none))
      skipped (inr other) here later = rw (ne_eqb x.number n other) refl

      go : (b : Bool) → spans_at (map marked_of (put_by_number x fs)) n ≡ spans_at (map marked_of fs) n → (x.number ≡ n) ⊎ (x.number ≡ n → ⊥) → (f.number == x.number) ≡ false → list_any (is_numbered x.number) fs ≡ false
          → spans_at (map marked_of (if b then x ∷ f ∷ fs else f ∷ put_by_number x fs)) n ≡ spans_at (map marked_of (f ∷ fs)) n
      go true rest at here later = skipped at here later
      go false rest at here later = ap (λ (ss : List PlainSpan). if f.number == n then f.have.spans else ss) rest

  pub numbered_put : (fs : List NamedFile) → list_any (is_numbered x.number) (put_by_number x fs) ≡ true
  numbered_put [] = or_left (x.number == x.number) false (eq-eqb x.number x.number refl)
  numbered_put (f ∷ fs) = go (nat_lt x.number f.number) (numbered_put fs)
    where
      go : (b : Bool) → list_any (is_numbered x.number) (put_by_number x fs) ≡ true → list_any (is_numbered x.number) (if b then x ∷ f ∷ fs else f ∷ put_by_number x fs) ≡ true
      go true rest = or_left (x.number == x.number) (list_any (is_numbered x.number) (f ∷ fs)) (eq-eqb x.number x.number refl)
      go false rest = or_right (f.number == x.number) (list_any (is_numbered x.number) (put_by_number x fs)) rest

pub among_put : (x g : NamedFile) (fs : List NamedFile) → IsAmong g (put_by_number x fs) → (x ≡ g) ⊎ IsAmong g fs
among_put x g [] (inl is) = inl is
among_put x g [] (inr none) = absurd none
among_put x g (f ∷ fs) among = go (among_put x g fs) (nat_lt x.number f.number) among
  where
    go : (IsAmong g (put_by_number x fs) → (x ≡ g) ⊎ IsAmong g fs) → (b : Bool) → IsAmong g (if b then x ∷ f ∷ fs else f ∷ put_by_number x fs) → (x ≡ g) ⊎ IsAmong g (f ∷ fs)
    go later true (inl is) = inl is
    go later true (inr more) = inr more
    go later false (inl is) = inr (inl is)
    go later false (inr more) = elim (later more) [ inl is ↦ inl is | inr a ↦ inr (inr a) ]

-- ---- a span is laid over a file

module _ (n : ℕ) (s : PlainSpan) where
  pub covered_here : (f : NamedFile) → f.number ≡ n → covering n s f ≡ record { number = f.number; have = have_with s f.have }
  covered_here f same = ap (λ (b : Bool). if b then record { number = f.number; have = have_with s f.have } else f) (eq-eqb f.number n same)

  pub covered_other : (f : NamedFile) → (f.number ≡ n → ⊥) → covering n s f ≡ f
  covered_other f other = ap (λ (b : Bool). if b then record { number = f.number; have = have_with s f.have } else f) (ne_eqb f.number n other)

  pub among_covered : (g : NamedFile) (fs : List NamedFile) → IsAmong g (map (covering n s) fs) → (f : NamedFile) × IsAmong f fs × (covering n s f ≡ g)
  among_covered g [] among = absurd among
  among_covered g (f ∷ fs) (inl is) = (f, inl refl, is)
  among_covered g (f ∷ fs) (inr more) = (let r = among_covered g fs more in (r.0, inr r.1, r.2))

  number_covered : (f : NamedFile) → (covering n s f).number ≡ f.number
  number_covered f = elim (cases_eq f.number n) [
    | inl same ↦ ap (λ (x : NamedFile). x.number) (covered_here f same)
    | inr other ↦ ap (λ (x : NamedFile). x.number) (covered_other f other)
  ]

  -- another number's spans stay
  pub spans_other : (m : ℕ) (fs : List NamedFile) → (m ≡ n → ⊥) → spans_at (map marked_of (map (covering n s) fs)) m ≡ spans_at (map marked_of fs) m
  spans_other m [] other = refl
  spans_other m (f ∷ fs) other = elim (cases_eq f.number n) [
    | inl same ↦
        let apart : (f.number == m) ≡ false = ne_eqb f.number m (λ e. other (sym e ∙ same)) in
        (λ i. if number_covered f i == m then (covering n s f).have.spans else spans_at (map marked_of (map (covering n s) fs)) m)
        ∙ rw apart (spans_other m fs other)
    | inr differs ↦ (λ i. if (covered_other f differs i).number == m then (covered_other f differs i).have.spans else spans_other m fs other i)
  ]

  -- the number's spans have the span, too
  pub spans_here : (fs : List NamedFile) → list_any (is_numbered n) fs ≡ true → spans_at (map marked_of (map (covering n s) fs)) n ≡ with_span s (spans_at (map marked_of fs) n)
  spans_here [] there = absurd (cc)
  spans_here (f ∷ fs) there = elim (cases_eq f.number n) [
    | inl same ↦ here (f.number == n) (eq-eqb f.number n same) same
    | inr differs ↦
        let apart : (f.number == n) ≡ false = ne_eqb f.number n differs in
        let rest : list_any (is_numbered n) fs ≡ true = elim (or_cases (f.number == n) (list_any (is_numbered n) fs) there) [ inl h ↦ absurd (both_ways (f.number == n) apart h) | inr h ↦ h ] in
        (λ i. if (covered_other f differs i).number == n then (covered_other f differs i).have.spans else spans_here fs rest i)
        ∙ later (f.number == n) apart
  ]
    where
      here : (b : Bool) → b ≡ true → f.number ≡ n
          → (if (if b then record { number = f.number; have = have_with s f.have } else f).number == n then (if b then record { number = f.number; have = have_with s f.have } else f).have.spans else spans_at (map marked_of (map (covering n s) fs)) n)
          ≡ with_span s (if b then f.have.spans else spans_at (map marked_of fs) n)
      here true e same = rw (eq-eqb f.number n same) refl
      here false e same = absurd (cc)

      later : (b : Bool) → b ≡ false → (if b then f.have.spans else with_span s (spans_at (map marked_of fs) n)) ≡ with_span s (if b then f.have.spans else spans_at (map marked_of fs) n)
      later true e = absurd (cc)
      later false e = refl
