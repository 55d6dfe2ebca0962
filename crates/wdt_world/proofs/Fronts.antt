-- What is at the front of bytes that can be taken of messages.
use Rattle.std.proofs.Common.{◌≡◌, ℕ, zero, suc, ◌+◌, ◌-◌, ◌<◌, ◌≤◌, min, nat_le, Bool, true, false, List, [], ◌∷◌, ◌++◌, length, take, drop, get_or, Option, Some, None, sym, ap, ◌∙◌, refl, arith, length-append, append_assoc}
use Rattle.std.proofs.lemmas.Bool.{leb-true, leb-false}
use Rattle.std.proofs.lemmas.List.{drop_more, take-append-le, take-append-drop, append-nil}
use Rattle.wdt_codec.specs.Frames.{Fits, spell}
use Rattle.wdt_codec.specs.Grammar.{IsFrame, IsFront}
use Rattle.wdt_codec.specs.declared.frames.Frame.{Frame}
use Rattle.wdt_codec.specs.declared.frames.Frame.TheVariants as frames
use Rattle.wdt_wire.specs.Ways.{arriving}
use Rattle.wdt_pact.specs.Links.{has_room, less, lower}

-- ---- lists

none_left : (n : ℕ) → 0 ≡ 0 - n
none_left n = omega arith

-- of a list that is cut behind its first part
pub take_past : (n : ℕ) (xs ys : List ℕ) → length xs ≤ n → take n (xs ++ ys) ≡ xs ++ take (n - length xs) ys
take_past n [] ys e = let same : n ≡ n - 0 = omega arith in ap (λ (k : ℕ). take k ys) same
take_past zero (x ∷ xs) ys e = absurd (omega (arith, e))
take_past (suc n) (x ∷ xs) ys e =
    let same : n - length xs ≡ suc n - suc (length xs) = omega arith in
    ap (λ (zs : List ℕ). x ∷ zs) (take_past n xs ys (omega (arith, e)) ∙ ap (λ (k : ℕ). xs ++ take k ys) same)

-- what is written behind what is cut
take_front : (n : ℕ) (xs ys : List ℕ) → take n (take n xs ++ ys) ≡ take n (xs ++ ys)
take_front zero xs ys = refl
take_front (suc n) [] ys = refl
take_front (suc n) (x ∷ xs) ys = ap (λ (zs : List ℕ). x ∷ zs) (take_front n xs ys)

-- a cut lowers what can be taken
take_twice : (n m : ℕ) (xs : List ℕ) → take n (take m xs) ≡ take (min m n) xs
take_twice zero m xs = let none : 0 ≡ min m 0 = omega arith in ap (λ (k : ℕ). take k xs) none
take_twice (suc n) zero xs = let none : 0 ≡ min 0 (suc n) = omega arith in ap (λ (k : ℕ). take k xs) none
take_twice (suc n) (suc m) [] = let least : suc (min m n) ≡ min (suc m) (suc n) = omega arith in ap (λ (k : ℕ). take k []) least
take_twice (suc n) (suc m) (x ∷ xs) = let least : suc (min m n) ≡ min (suc m) (suc n) = omega arith in ap (λ (zs : List ℕ). x ∷ zs) (take_twice n m xs) ∙ ap (λ (k : ℕ). take k (x ∷ xs)) least

-- ---- what arrives

-- behind a write arrives what arrives of all that was written
pub arrives_more : (room : Option ℕ) (xs ys : List ℕ) → arriving room (arriving room xs ++ ys) ≡ arriving room (xs ++ ys)
arrives_more None xs ys = refl
arrives_more (Some n) xs ys = take_front n xs ys

-- behind a cut arrives less
pub arrives_less : (n : ℕ) (room : Option ℕ) (xs : List ℕ) → take n (arriving room xs) ≡ arriving (lower room n) xs
arrives_less n None xs = refl
arrives_less n (Some m) xs = take_twice n m xs

-- ---- a frame at the front

front_of_frame : (f : Frame) (n : ℕ) (rest : List ℕ) → Fits f → n < length (spell f) → IsFront (take n (spell f ++ rest))
front_of_frame f n rest fits less = (
  f,
  fits,
  get_or (spell f) n 0,
  drop (n + 1) (spell f),
  sym (take-append-drop n (spell f)) ∙ (ap (λ (xs : List ℕ). take n (spell f) ++ xs) (drop_more (spell f) n 0 less)
      ∙ ap (λ (xs : List ℕ). xs ++ get_or (spell f) n 0 ∷ drop (n + 1) (spell f)) (sym (take-append-le n (spell f) rest (omega (arith, less))))),
)

-- a whole frame is at the front, or none is, as there is room for it
abbrev pub FrontBy : Bool → List ℕ → Frame → List ℕ → Type 0
FrontBy true bytes f rest = IsFrame bytes f rest
FrontBy false bytes f rest = IsFront bytes

fronts_by : (f : Frame) (n : ℕ) (rest : List ℕ) (b : Bool) → nat_le (length (spell f)) n ≡ b → Fits f → FrontBy b (take n (spell f ++ rest)) f (take (n - length (spell f)) rest)
fronts_by f n rest true e fits = (fits, take_past n (spell f) rest (leb-true (length (spell f)) n e))
fronts_by f n rest false e fits = front_of_frame f n rest fits (leb-false (length (spell f)) n e)

pub fronts : (f : Frame) (rest : List ℕ) (room : Option ℕ) → Fits f → FrontBy (has_room room (length (spell f))) (arriving room (spell f ++ rest)) f (arriving (less room (length (spell f))) rest)
fronts f rest None fits = (fits, refl)
fronts f rest (Some n) fits = fronts_by f n rest (nat_le (length (spell f)) n) refl fits

-- nothing is at the front of nothing
pub no_front : (room : Option ℕ) → IsFront (arriving room [])
no_front None = (frames.Done, tt, 0x4C, [], refl)
no_front (Some zero) = (frames.Done, tt, 0x4C, [], refl)
no_front (Some (suc n)) = (frames.Done, tt, 0x4C, [], refl)

-- ---- one reading

-- No frame's spelling begins another's: the clause of the codec's law.
abbrev pub OneReading : Type 0
OneReading = (f g : Frame) (u v : List ℕ) → Fits f → Fits g → spell f ++ u ≡ spell g ++ v → (f ≡ g) × (u ≡ v)

no_end : (front back : List ℕ) (next : ℕ) → [] ≡ front ++ next ∷ back → ⊥
no_end front back next e = let none : 0 ≡ length front + suc (length back) = ap length e ∙ length-append front (next ∷ back) in absurd (omega (arith, none))

-- bytes that have a whole frame aren't a front of one
pub no_both : OneReading → (bytes rest : List ℕ) (f : Frame) → IsFront bytes → IsFrame bytes f rest → ⊥
no_both one bytes rest f (g, fits, b, more, is) frame =
    let whole : spell g ++ [] ≡ spell f ++ (rest ++ b ∷ more) =
    append-nil (spell g) ∙ (is ∙ (ap (λ (xs : List ℕ). xs ++ b ∷ more) frame.1 ∙ append_assoc (spell f) rest (b ∷ more))) in
    no_end rest more b (one g f [] (rest ++ b ∷ more) fits frame.0 whole).1
