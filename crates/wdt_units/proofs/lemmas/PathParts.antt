-- The scan goes through exactly the lawful parts.
use Rattle.std.proofs.Common.{◌≡◌, ◌≢◌, ℕ, zero, suc, ◌≤◌, true, List, [], ◌∷◌, ◌++◌, length, refl, sym, ap, subst, arith, inl, inr}
use Rattle.std.specs.List.{AllByRecursion}
use Rattle.std.specs.Prelude.{◌==◌, if◌then◌else◌}
use Rattle.std.specs.Str.{IsUtf8}
use Rattle.std.proofs.lemmas.Bool.{cases_eq, lt-ltb, ne_eqb, eq-eqb}
use Rattle.wdt_units.specs.declared.scan.PathScan.{PathScan}
use Rattle.wdt_units.specs.declared.scan.PathScan.TheVariants.{Start, Dot, Dots, Plain, Last, Two, Three, AfterE0, AfterEd, AfterF0, AfterF4}
use Rattle.wdt_units.specs.Scan.{lead, among, next, need, leaves, scan_after}
use Rattle.wdt_units.proofs.lemmas.PathBytes.{Ends, leaves_need}
use Rattle.wdt_units.proofs.lemmas.Utf8Scan.{in_range_of, path-utf8}

-- the bytes up to the first `/`, and the parts behind it
abbrev pub first_part : List ℕ → List ℕ
first_part [] = []
first_part (b ∷ bytes) = if b == 47 then [] else b ∷ first_part bytes

abbrev pub other_parts : List ℕ → List (List ℕ)
other_parts [] = []
other_parts (b ∷ bytes) = if b == 47 then first_part bytes ∷ other_parts bytes else other_parts bytes

-- neither empty nor `.` nor `..`
abbrev pub IsPart : List ℕ → Type 0
IsPart p = (p ≢ []) × (p ≢ 46 ∷ []) × (p ≢ 46 ∷ 46 ∷ [])

abbrev pub NoZero : List ℕ → Type 0
NoZero [] = Unit {0}
NoZero (b ∷ bytes) = (b ≢ 0) × NoZero bytes

pub record IsParted (bytes : List ℕ) : Type 0 where
  pub utf8 : IsUtf8 bytes
  pub no_zero : NoZero bytes
  pub first : IsPart (first_part bytes)
  pub others : AllByRecursion IsPart (other_parts bytes)

-- a beginning of the part that stands for the bytes before
abbrev pub begun : PathScan → List ℕ
begun Start = []
begun Dot = 46 ∷ []
begun Dots = 46 ∷ 46 ∷ []
begun _ = 97 ∷ []

abbrev pub PartsFrom : PathScan → List ℕ → Type 0
PartsFrom s bytes = IsPart (begun s ++ first_part bytes) × AllByRecursion IsPart (other_parts bytes)

other_head : (x y : ℕ) (xs ys : List ℕ) → x ≢ y → x ∷ xs ≢ y ∷ ys
other_head x y xs ys ne e = ne (let same : x ≡ y = cc in same)

pub IsPart-plain : (bytes : List ℕ) → IsPart (97 ∷ bytes)
IsPart-plain bytes = ((λ e. absurd cc), other_head 97 46 bytes [] (λ e. omega arith), other_head 97 46 bytes (46 ∷ []) (λ e. omega arith))

IsPart-other : (b : ℕ) (bytes : List ℕ) → b ≢ 46 → IsPart (b ∷ bytes)
IsPart-other b bytes ne = ((λ e. absurd cc), other_head b 46 bytes [] ne, other_head b 46 bytes (46 ∷ []) ne)

IsPart-dot : (b : ℕ) (bytes : List ℕ) → b ≢ 46 → IsPart (46 ∷ b ∷ bytes)
IsPart-dot b bytes ne = ((λ e. absurd cc), (λ e. absurd cc), (λ e. ne (let same : b ≡ 46 = cc in same)))

IsPart-long : (a b c : ℕ) (bytes : List ℕ) → IsPart (a ∷ b ∷ c ∷ bytes)
IsPart-long a b c bytes = ((λ e. absurd cc), (λ e. absurd cc), (λ e. absurd cc))

-- what a byte that isn't `/` does
inside : (s : PathScan) (b : ℕ) (bytes : List ℕ) → b ≢ 47 → IsPart (begun s ++ b ∷ first_part bytes) → AllByRecursion IsPart (other_parts bytes) → PartsFrom s (b ∷ bytes)
inside s b bytes ne p q = rw (ne_eqb b 47 ne) (p, q)

-- a byte of a character that goes on is no `/`
step_high : (n low high b : ℕ) (s s' : PathScan) (bytes : List ℕ) → 128 ≤ low → leaves n (among low high s' b) ≡ true → begun s ≡ 97 ∷ [] → AllByRecursion IsPart (other_parts bytes) → (b ≢ 0) × PartsFrom s (b ∷ bytes)
step_high n low high b s s' bytes lo e is q =
    let r = in_range_of n low high b s' e in
    ((λ z. omega arith), inside s b bytes (λ z. omega arith) (rw is (IsPart-plain (b ∷ first_part bytes))) q)

lead_zero : (n b : ℕ) → leaves n (lead b) ≡ true → b ≢ 0
lead_zero n b e z = let no_way = rw (lt-ltb b 1 (omega arith)) at e in absurd cc

parts_step : (n b : ℕ) (bytes : List ℕ) (s : PathScan) → leaves n (next s b) ≡ true → PartsFrom (scan_after s b) bytes → (b ≢ 0) × PartsFrom s (b ∷ bytes)
parts_step n b bytes Start e p =
    elim (cases_eq b 47) [
      | inl h ↦ absurd (let no_way = rw (eq-eqb b 47 h) at e in cc)
      | inr h ↦
          elim (cases_eq b 46) [
            | inl k ↦ ((λ z. omega arith), inside Start b bytes h (let r = rw (ne_eqb b 47 h, eq-eqb b 46 k) at p in subst (λ x. IsPart (x ∷ first_part bytes)) (sym k) r.0) p.1)
            | inr k ↦ (lead_zero n b (rw (ne_eqb b 47 h, ne_eqb b 46 k) at e), inside Start b bytes h (IsPart-other b (first_part bytes) k) p.1)
          ]
    ]
parts_step n b bytes Dot e p =
    elim (cases_eq b 47) [
      | inl h ↦ absurd (let no_way = rw (eq-eqb b 47 h) at e in cc)
      | inr h ↦
          elim (cases_eq b 46) [
            | inl k ↦ ((λ z. omega arith), inside Dot b bytes h (let r = rw (ne_eqb b 47 h, eq-eqb b 46 k) at p in subst (λ x. IsPart (46 ∷ x ∷ first_part bytes)) (sym k) r.0) p.1)
            | inr k ↦ (lead_zero n b (rw (ne_eqb b 47 h, ne_eqb b 46 k) at e), inside Dot b bytes h (IsPart-dot b (first_part bytes) k) p.1)
          ]
    ]
parts_step n b bytes Dots e p =
    elim (cases_eq b 47) [
      | inl h ↦ absurd (let no_way = rw (eq-eqb b 47 h) at e in cc)
      | inr h ↦ (lead_zero n b (rw (ne_eqb b 47 h) at e), inside Dots b bytes h (IsPart-long 46 46 b (first_part bytes)) p.1)
    ]
parts_step n b bytes Plain e p =
    elim (cases_eq b 47) [
      | inl h ↦ ((λ z. omega arith), rw (eq-eqb b 47 h) (IsPart-plain [], rw (eq-eqb b 47 h) at p))
      | inr h ↦ (lead_zero n b (rw (ne_eqb b 47 h) at e), inside Plain b bytes h (IsPart-plain (b ∷ first_part bytes)) p.1)
    ]
parts_step n b bytes Last e p = step_high n 128 191 b Last Plain bytes (omega arith) e refl p.1
parts_step n b bytes Two e p = step_high n 128 191 b Two Last bytes (omega arith) e refl p.1
parts_step n b bytes Three e p = step_high n 128 191 b Three Two bytes (omega arith) e refl p.1
parts_step n b bytes AfterE0 e p = step_high n 160 191 b AfterE0 Last bytes (omega arith) e refl p.1
parts_step n b bytes AfterEd e p = step_high n 128 159 b AfterEd Last bytes (omega arith) e refl p.1
parts_step n b bytes AfterF0 e p = step_high n 144 191 b AfterF0 Two bytes (omega arith) e refl p.1
parts_step n b bytes AfterF4 e p = step_high n 128 143 b AfterF4 Two bytes (omega arith) e refl p.1

parts_end : (s : PathScan) → need s ≤ 0 → PartsFrom s []
parts_end Plain h = (IsPart-plain [], tt)
parts_end Start h = absurd (omega arith)
parts_end Dot h = absurd (omega arith)
parts_end Dots h = absurd (omega arith)
parts_end Last h = absurd (omega arith)
parts_end Two h = absurd (omega arith)
parts_end Three h = absurd (omega arith)
parts_end AfterE0 h = absurd (omega arith)
parts_end AfterEd h = absurd (omega arith)
parts_end AfterF0 h = absurd (omega arith)
parts_end AfterF4 h = absurd (omega arith)

parts_through : (bytes : List ℕ) (n : ℕ) (s : PathScan) → need s ≤ n → Ends n s bytes → (length bytes ≡ n) × NoZero bytes × PartsFrom s bytes
parts_through [] zero s h e = (refl, tt, parts_end s h)
parts_through [] (suc n) s h e = absurd e
parts_through (b ∷ bytes) zero s h e = absurd e
parts_through (b ∷ bytes) (suc n) s h e =
    let r = parts_through bytes n (scan_after s b) (leaves_need n (next s b) e.0.0) e.1 in
    let k = parts_step n b bytes s e.0.0 r.2 in
    (ap suc r.0, (k.0, r.1), k.1)

-- what a path field reads is a lawful path of that length
pub path-lawful : (n : ℕ) (bytes : List ℕ) → 1 ≤ n → Ends n Start bytes → (length bytes ≡ n) × IsParted bytes
path-lawful n bytes h e =
    let r = parts_through bytes n Start h e in
    (r.0, record { utf8 = path-utf8 n bytes h e; no_zero = r.1; first = r.2.0; others = r.2.1 })
