-- Bytes that were appended in part, and items that are appended one by one.
use Rattle.std.proofs.Common.{◌≡◌, ℕ, zero, suc, ◌+◌, ◌<◌, ◌≤◌, List, [], ◌∷◌, ◌++◌, length, get_or, take, map, refl, sym, ap, subst, ◌∙◌, arith}
use Rattle.std.specs.List.{flat_map}
use Rattle.std.proofs.lemmas.List.{take_at, take-take, take-append-le, length-take, take_all, take_more, length-append, flat_map_more, get_or-map, append-nil}
use Rattle.wdt_units.specs.Have.{HaveFile}
use Rattle.wdt_units.proofs.Shared.{lawful}
use Rattle.wdt_codec.specs.Chunks.{FitFiles}

pub begun-at : (old more new : List ℕ) → new ≡ old ++ more → take (length old) new ≡ old
begun-at old more new e = ap (take (length old)) e ∙ take_at old more (length old) refl

-- what stands before a front of it stands before it
pub begun-on : (old more mid new : List ℕ) → mid ≡ old ++ more → take (length mid) new ≡ mid → take (length old) new ≡ old
begun-on old more mid new e h =
    let len : length old ≤ length mid = omega (arith, ap length e, length-append old more) in
    sym (take-take (length old) (length mid) new len) ∙ ap (take (length old)) h ∙ begun-at old more mid e

-- what begins with a front begins with it also with more behind
pub begun-longer : (old mid more new : List ℕ) → take (length old) mid ≡ old → new ≡ mid ++ more → take (length old) new ≡ old
begun-longer old mid more new h e =
    let len : length old ≤ length mid = omega (arith, ap length h, length-take (length old) mid) in
    ap (take (length old)) e ∙ take-append-le (length old) mid more len ∙ h

-- ---- items one by one

module _ {Y : Type 0} (sp : Y → List ℕ) (old : List ℕ) (ys : List Y) where
  -- those before place i are there
  abbrev pub Appended : ℕ → List ℕ → Type 0
  Appended i now = now ≡ old ++ flat_map sp (take i ys)

  pub each-begins : Appended 0 old
  each-begins = sym (append-nil old)

  pub each-goes : (i : ℕ) (y : Y) (now next : List ℕ) → i < length ys → y ≡ get_or ys i y → Appended i now → next ≡ now ++ sp y → Appended (i + 1) next
  each-goes i y now next lt is so_far one =
      let more : take (i + 1) ys ≡ take i ys ++ y ∷ [] = take_more ys i y lt ∙ ap (λ x. take i ys ++ x ∷ []) (sym is) in
      one ∙ ap (λ w. w ++ sp y) so_far ∙ flat_map_more sp old (take i ys) y ∙ ap (λ w. old ++ flat_map sp w) (sym more)

  pub each-ends : (i : ℕ) (now : List ℕ) → length ys ≤ i → Appended i now → now ≡ old ++ flat_map sp ys
  each-ends i now le so_far = so_far ∙ ap (λ w. old ++ flat_map sp w) (take_all i ys le)

pub seen-at : {X Y : Type 0} (view : X → Y) (xs : List X) (i : ℕ) (x : X) → i < length xs → x ≡ get_or xs i x → view x ≡ get_or (map view xs) i (view x)
seen-at view xs i x lt is = ap view is ∙ sym (get_or-map view xs i x (view x) lt)

pub seen-of : {X Y : Type 0} (view : X → Y) (xs : List X) (i : ℕ) (d : X) → i < length xs → view (get_or xs i d) ≡ get_or (map view xs) i (view (get_or xs i d))
seen-of view xs i d lt = sym (get_or-map view xs i d (view (get_or xs i d)) lt)

-- a file in the grammar has few spans and a short path
pub small-at : (used : ℕ) (fs : List HaveFile) (i : ℕ) (f : HaveFile) → FitFiles used fs → i < length fs → f ≡ get_or fs i f → (length f.path ≤ 1024) × (length f.spans ≤ 1310720)
small-at used [] i f h lt is = absurd (omega (arith, lt))
small-at used (g ∷ fs) zero f h lt is =
    let p = (lawful g.path).0 h.0.path in
    subst (λ (x : HaveFile). (length x.path ≤ 1024) × (length x.spans ≤ 1310720)) (sym is) (p.most, omega (arith, h.0.few))
small-at used (g ∷ fs) (suc i) f h lt is = small-at (used + length g.spans) fs i f h.1 (omega (arith, lt)) is
