-- The numbers of lanes.
use Rattle.std.proofs.Common.{◌≡◌, ℕ, zero, suc, ◌+◌, List, [], ◌∷◌, ◌++◌, length, map, refl, ap, ◌∙◌, arith}
use Rattle.std.specs.Prelude.{All}
use Rattle.wdt_gate.specs.Told.{upto}

pub upto_length : (l n : ℕ) → length (upto l n) ≡ n
upto_length l zero = refl
upto_length l (suc n) = omega (arith, upto_length (l + 1) n)

pub upto_more : (l n : ℕ) → upto l (suc n) ≡ upto l n ++ (l + n) ∷ []
upto_more l zero = ap (λ (k : ℕ). k ∷ []) (omega arith)
upto_more l (suc n) = ap (λ (t : List ℕ). l ∷ t) (upto_more (l + 1) n ∙ ap (λ (k : ℕ). upto (l + 1) n ++ k ∷ []) (omega arith))

pub map_more : {A : Type 0} (f : A → ℕ) (xs : List A) (x : A) → map f (xs ++ x ∷ []) ≡ map f xs ++ f x ∷ []
map_more f [] x = refl
map_more f (y ∷ ys) x = ap (λ (t : List ℕ). f y ∷ t) (map_more f ys x)

pub all_more : {A : Type 0} (Q : A → Type 0) (xs : List A) (x : A) → All Q xs → Q x → All Q (xs ++ x ∷ [])
all_more Q [] x a q zero d h = q
all_more Q [] x a q (suc k) d h = absurd (omega (arith, h))
all_more Q (y ∷ ys) x a q zero d h = a zero d (omega arith)
all_more Q (y ∷ ys) x a q (suc k) d h = all_more Q ys x (λ j e i. a (suc j) e (omega (arith, i))) q k d (omega (arith, h))

pub upto_next : (n : ℕ) → upto 0 (n + 1) ≡ upto 0 n ++ n ∷ []
upto_next n =
    let one : n + 1 ≡ suc n = omega arith in
    let none : 0 + n ≡ n = omega arith in
    ap (λ (k : ℕ). upto 0 k) one ∙ upto_more 0 n ∙ ap (λ (k : ℕ). upto 0 n ++ k ∷ []) none
