-- What a sender sends next doesn't clash with what has landed or is begun: its blocks are apart from each other.
-- Open: that a sender's kept blocks are Apart (a law of the sender), and that they are apart from what the destination had.
use Rattle.std.proofs.Common.{◌≡◌, ◌≢◌, inl, inr, ℕ, zero, suc, ◌<◌, ◌||◌, Bool, true, false, List, [], ◌∷◌, ◌++◌, subst, sym, ap, ◌∙◌, refl, arith, append-nil, append_assoc}
use Rattle.std.proofs.lemmas.Bool.{cases_eq, or_from}
use Rattle.std.specs.List.{list_any, flat_map}
use Rattle.wdt_units.specs.declared.blocks.Header.{Header}
use Rattle.wdt_receiver_fsm.specs.Sets.{numbers}
use Rattle.wdt_pact.specs.Each.{Each}

module _ (meets : Header → Header → Bool) where
  -- none of a list meets h
  abbrev Free : Header → List Header → Type 0
  Free h xs = Each (λ x. meets h x ≡ false) xs

  -- each is apart from all behind it
  abbrev pub AreApart : List Header → Type 0
  AreApart [] = Unit {0}
  AreApart (x ∷ xs) = Each (λ y. meets y x ≡ false) xs × AreApart xs

  -- and the lists of two lanes are apart
  pub record Apart (n : ℕ) (kept : ℕ → List Header) : Type 0 where
    pub each : (k : ℕ) → k < n → AreApart (kept k)
    pub others : (k l : ℕ) → k < n → l < n → k ≢ l → Each (λ y. Free y (kept k)) (kept l)

  front_free : (P : Header → Type 0) (xs ys : List Header) → Each P (xs ++ ys) → Each P xs
  front_free P [] ys e = tt
  front_free P (x ∷ xs) ys e = (e.0, front_free P xs ys e.1)

  at_seam : (P : Header → Type 0) (xs : List Header) (h : Header) (ys : List Header) → Each P (xs ++ h ∷ ys) → P h
  at_seam P [] h ys e = e.0
  at_seam P (x ∷ xs) h ys e = at_seam P xs h ys e.1

  before_free : (xs : List Header) (h : Header) (ys : List Header) → AreApart (xs ++ h ∷ ys) → Free h xs
  before_free [] h ys e = tt
  before_free (x ∷ xs) h ys e = (at_seam (λ y. meets y x ≡ false) xs h ys e.0, before_free xs h ys e.1)

  none_any : (h : Header) (xs : List Header) → Free h xs → list_any (meets h) xs ≡ false
  none_any h [] e = refl
  none_any h (x ∷ xs) e = or_from (meets h x) (list_any (meets h) xs) e.0 (none_any h xs e.1)

  any_append : (h : Header) (xs ys : List Header) → list_any (meets h) xs ≡ false → list_any (meets h) ys ≡ false → list_any (meets h) (xs ++ ys) ≡ false
  any_append h [] ys a b = b
  any_append h (x ∷ xs) ys a b = go (meets h x) (any_append h xs ys) a where
    go : (c : Bool) → (list_any (meets h) xs ≡ false → list_any (meets h) ys ≡ false → list_any (meets h) (xs ++ ys) ≡ false) → (c || list_any (meets h) xs) ≡ false → (c || list_any (meets h) (xs ++ ys)) ≡ false
    go true more e = cc
    go false more e = more e b

  flat_more : (f : ℕ → List Header) (ks : List ℕ) (k : ℕ) → flat_map f (ks ++ k ∷ []) ≡ flat_map f ks ++ f k
  flat_more f [] k = append-nil (f k)
  flat_more f (j ∷ ks) k = ap (λ (xs : List Header). f j ++ xs) (flat_more f ks k) ∙ sym (append_assoc (f j) (flat_map f ks) (f k))

  all_none : (h : Header) (n : ℕ) (f : ℕ → List Header) → ((k : ℕ) → k < n → list_any (meets h) (f k) ≡ false) → list_any (meets h) (flat_map f (numbers n)) ≡ false
  all_none h zero f each = refl
  all_none h (suc n) f each =
      subst (λ (xs : List Header). list_any (meets h) xs ≡ false) (sym (flat_more f (numbers n) n))
      (any_append h (flat_map f (numbers n)) (f n) (all_none h n f (λ k b. each k (omega (arith, b)))) (each n (omega arith)))

  -- the next block of lane l meets nothing that landed or is begun, on any lane
  pub next_free : (n l : ℕ) (kept heads : ℕ → List Header) (h : Header) (rest : List Header) → Apart n kept → l < n → ((k : ℕ) → k < n → (more : List Header) × (kept k ≡ heads k ++ more)) → kept l ≡ heads l ++ h ∷ rest → list_any (meets h) (flat_map heads (numbers n)) ≡ false
  next_free n l kept heads h rest a within fronts is = all_none h n heads (λ k below. none_any h (heads k) (elim (cases_eq k l) [
    | inl same ↦ subst (λ (i : ℕ). Free h (heads i)) (sym same) (before_free (heads l) h rest (subst AreApart is (a.each l within)))
    | inr ne ↦
        let f = fronts k below in
        front_free (λ x. meets h x ≡ false) (heads k) f.0
        (subst (λ (xs : List Header). Free h xs) f.1 (at_seam (λ y. Free y (kept k)) (heads l) h rest (subst (λ (xs : List Header). Each (λ y. Free y (kept k)) xs) is (a.others k l below within ne))))
  ]))
