-- The bytes of a path, one after the other.
use Rattle.std.proofs.Common.{◌≡◌, ℕ, zero, suc, ◌+◌, ◌-◌, ◌<◌, ◌≤◌, true, false, List, [], ◌∷◌, length, get_or, drop, Option, Some, None, refl, sym, ap, ◌∙◌, arith, inl, inr}
use Rattle.std.proofs.lemmas.List.{drop_all, drop_more}
use Rattle.std.proofs.lemmas.Bool.{cases_lt, le-leb, lt-leb, leb-true}
use Rattle.wdt_units.specs.declared.scan.PathScan.{PathScan}
use Rattle.wdt_units.specs.Scan.{next, need, leaves, within, or_plain, scan_after}

pub leaves_need : (n : ℕ) (o : Option PathScan) → leaves n o ≡ true → need (or_plain o) ≤ n
leaves_need n None e = absurd cc
leaves_need n (Some s) e = leb-true (need s) n e

abbrev pub FitsByte : ℕ → PathScan → ℕ → Type 0
FitsByte n s b = (leaves n (next s b) ≡ true) × (b < 256)

-- so many bytes that end a path from here
abbrev pub Ends : ℕ → PathScan → List ℕ → Type 0
Ends zero s [] = Unit {0}
Ends zero s (b ∷ bytes) = ⊥
Ends (suc n) s [] = ⊥
Ends (suc n) s (b ∷ bytes) = FitsByte n s b × Ends n (scan_after s b) bytes

-- what a step of the scan says
pub within_goes : (n : ℕ) (o : Option PathScan) (s : PathScan) → Some s ≡ within n o → (o ≡ Some s) × (need s ≤ n)
within_goes n None s e = absurd cc
within_goes n (Some t) s e =
    elim (cases_lt n (need t)) [
      | inl lt ↦ absurd (let no_way = rw (lt-leb _ _ lt) at e in cc)
      | inr le ↦ let same : s ≡ t = (let now = rw (le-leb _ _ le) at e in cc) in (ap Some (sym same), rw same le)
    ]

pub within_stops : (n : ℕ) (o : Option PathScan) → None ≡ within n o → leaves n o ≡ false
within_stops n None e = refl
within_stops n (Some t) e =
    elim (cases_lt n (need t)) [
      | inl lt ↦ lt-leb _ _ lt
      | inr le ↦ absurd (let no_way = rw (le-leb _ _ le) at e in cc)
    ]

-- ---- a turn of a loop over the bytes of a path, at byte k

module _ (k : ℕ) (s : PathScan) (bytes : List ℕ) (more : k < length bytes) where
  left : length bytes - k ≡ suc (length bytes - 1 - k)
  left = omega arith

  pub turn-stops : leaves (length bytes - 1 - k) (next s (get_or bytes k 0)) ≡ false → Ends (length bytes - k) s (drop k bytes) → ⊥
  turn-stops fails e = let e' = rw (left, drop_more bytes k 0 more) at e in absurd (let both = sym fails ∙ e'.0.0 in cc)

  pub turn-goes : (s' : PathScan) → next s (get_or bytes k 0) ≡ Some s' → Ends (length bytes - k) s (drop k bytes) → Ends (length bytes - (k + 1)) s' (drop (k + 1) bytes)
  turn-goes s' is e =
      let e' = rw (left, drop_more bytes k 0 more) at e in
      let after : scan_after s (get_or bytes k 0) ≡ s' = ap or_plain is in
      let n : length bytes - (k + 1) ≡ length bytes - 1 - k = omega arith in
      rw (n, ← after) e'.1

  pub turn-comes : (s' : PathScan) → next s (get_or bytes k 0) ≡ Some s' → need s' ≤ length bytes - 1 - k → get_or bytes k 0 < 256 → Ends (length bytes - (k + 1)) s' (drop (k + 1) bytes) → Ends (length bytes - k) s (drop k bytes)
  turn-comes s' is le fits e =
      let after : scan_after s (get_or bytes k 0) ≡ s' = ap or_plain is in
      let n : length bytes - (k + 1) ≡ length bytes - 1 - k = omega arith in
      let e' = rw (n, ← after) at e in
      rw (left, drop_more bytes k 0 more) ((rw is (le-leb (need s') (length bytes - 1 - k) le), fits), e')

pub turn-done : (k : ℕ) (s : PathScan) (bytes : List ℕ) → length bytes ≤ k → Ends (length bytes - k) s (drop k bytes)
turn-done k s bytes le = let n : length bytes - k ≡ 0 = omega arith in rw (n, drop_all k bytes le) tt
