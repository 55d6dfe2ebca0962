-- A path is lawful exactly where the scan goes through it.
use Rattle.std.proofs.Common.{◌≡◌, ℕ, ◌<◌, ◌≤◌, true, false, List, [], ◌∷◌, length, not, refl, arith, inl, inr}
use Rattle.std.specs.Prelude.{◌==◌, nat_le, codes}
use Rattle.std.specs.Bool.{Decides}
use Rattle.std.specs.List.{slice_split, list_all, list_any, AllByRecursion}
use Rattle.std.specs.Str.{is_utf8, IsUtf8}
use Rattle.std.proofs.lemmas.Bool.{cases_eq, ne_eqb, eq-eqb, le-leb, leb-true}
use Rattle.std.proofs.lemmas.Bool.Decides.{Decides-and, Decides-eqb, Decides-like, Decides-ltb, Decides-not}
use Rattle.std.proofs.lemmas.List.{nil_from_length}
use Rattle.std.proofs.lemmas.Slice.Eq.{bytes_eq-Decides}
use Rattle.std.proofs.lemmas.Str.{is_utf8-from_IsUtf8, IsUtf8-from_is_utf8}
use Rattle.wdt_units.specs.declared.scan.PathScan.TheVariants.{Start}
use Rattle.wdt_units.specs.Path.{is_part, has_parts, is_shaped, is_lawful}
use Rattle.wdt_units.proofs.lemmas.PathBytes.{Ends}
use Rattle.wdt_units.proofs.lemmas.PathFill.{parted-ends}
use Rattle.wdt_units.proofs.lemmas.PathParts.{first_part, other_parts, IsPart, NoZero, path-lawful}

split_is : (bytes : List ℕ) → slice_split (λ b. b == 47) bytes ≡ first_part bytes ∷ other_parts bytes
split_is [] = refl
split_is (b ∷ bytes) =
    elim (cases_eq b 47) [
      | inl h ↦ rw (eq-eqb b 47 h, split_is bytes) refl
      | inr h ↦ rw (ne_eqb b 47 h, split_is bytes) refl
    ]

empty : (p : List ℕ) → Decides (length p == 0) (p ≡ [])
empty p = Decides-like (length p == 0) (λ e. nil_from_length p e) (λ e. rw e refl) (Decides-eqb (length p) 0)

part : (p : List ℕ) → Decides (is_part p) (IsPart p)
part p =
    Decides-like (is_part p) (λ h. (h.0.0, h.0.1, h.1)) (λ h. ((h.0, h.1), h.2))
    (Decides-and _ _ (Decides-and _ _ (Decides-not _ (empty p)) (Decides-not _ (bytes_eq-Decides p (codes ".")))) (Decides-not _ (bytes_eq-Decides p (codes ".."))))

all_parts : (ps : List (List ℕ)) → Decides (list_all is_part ps) (AllByRecursion IsPart ps)
all_parts [] = (λ _. tt, λ _. refl)
all_parts (p ∷ ps) = Decides-and _ _ (part p) (all_parts ps)

parts : (bytes : List ℕ) → Decides (has_parts bytes) (IsPart (first_part bytes) × AllByRecursion IsPart (other_parts bytes))
unfolding has_parts
parts bytes = rw (split_is bytes) (all_parts (first_part bytes ∷ other_parts bytes))

no_zero : (bytes : List ℕ) → Decides (not (list_any (λ b. b == 0) bytes)) (NoZero bytes)
no_zero [] = (λ _. tt, λ _. refl)
no_zero (b ∷ bytes) =
    elim (cases_eq b 0) [
      | inl h ↦ rw (eq-eqb b 0 h) ((λ e. absurd cc), (λ z. absurd (z.0 h)))
      | inr h ↦ let r = no_zero bytes in rw (ne_eqb b 0 h) ((λ e. (h, r.0 e)), (λ z. r.1 z.1))
    ]

short : (n : ℕ) → Decides (nat_le n 1024) (n ≤ 1024)
short n = (leb-true n 1024, le-leb n 1024)

-- a path that the scan goes through
pub record IsPath (bytes : List ℕ) : Type 0 where
  pub some : 1 ≤ length bytes
  pub most : length bytes ≤ 1024
  pub ends : Ends (length bytes) Start bytes

abbrev Shape : List ℕ → Type 0
Shape bytes = (((0 < length bytes) × (length bytes ≤ 1024)) × NoZero bytes) × (IsPart (first_part bytes) × AllByRecursion IsPart (other_parts bytes))

shaped : (bytes : List ℕ) → Decides (is_shaped bytes) (Shape bytes)
unfolding is_shaped
shaped bytes =
    Decides-and _ _ (Decides-and _ _ (Decides-and _ _ (Decides-ltb 0 (length bytes)) (short (length bytes))) (no_zero bytes)) (parts bytes)

pub lawful : (bytes : List ℕ) → Decides (is_lawful bytes) (IsPath bytes)
unfolding is_lawful
lawful bytes =
    Decides-like (is_lawful bytes)
    (λ h. record { some = omega (arith, h.1.0.0.0); most = h.1.0.0.1; ends = parted-ends (length bytes) bytes refl (record { utf8 = h.0; no_zero = h.1.0.1; first = h.1.1.0; others = h.1.1.1 }) })
    (λ h. let r = path-lawful (length bytes) bytes h.some h.ends in (r.1.utf8, (((h.some, h.most), r.1.no_zero), (r.1.first, r.1.others))))
    (Decides-and (is_utf8 bytes) (is_shaped bytes) (IsUtf8-from_is_utf8 bytes, is_utf8-from_IsUtf8 bytes) (shaped bytes))

pub lawful-text : (bytes : List ℕ) → is_lawful bytes ≡ true → IsUtf8 bytes
lawful-text bytes e = let r = path-lawful (length bytes) bytes ((lawful bytes).0 e).some ((lawful bytes).0 e).ends in r.1.utf8

pub lawful-is : (bytes : List ℕ) → 1 ≤ length bytes → length bytes ≤ 1024 → Ends (length bytes) Start bytes → is_lawful bytes ≡ true
lawful-is bytes some most ends = (lawful bytes).1 (record { some = some; most = most; ends = ends })

pub unlawful-is : (bytes : List ℕ) → (IsPath bytes → ⊥) → is_lawful bytes ≡ false
unlawful-is bytes none = elim (is_lawful bytes) as (λ b. is_lawful bytes ≡ b → b ≡ false) [ true ↦ λ e. absurd (none ((lawful bytes).0 e)) | false ↦ λ _. refl ] refl
