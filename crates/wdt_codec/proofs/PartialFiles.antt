-- Files that have come in part: none yet, one more, and the ends.
use Rattle.std.specs.Prelude.{if◌then◌else◌}
use Rattle.std.proofs.Common.{◌≡◌, Bool, true, false, ℕ, ◌+◌, ◌-◌, ◌<◌, ◌≤◌, List, [], ◌∷◌, ◌++◌, length, take, drop, Option, Some, None, IfSome, Result, Ok, Err, refl, sym, ap, subst, ◌∙◌, append_assoc, arith}
use Rattle.std.specs.Int.{bytes_high_first}
use Rattle.std.proofs.lemmas.List.{take-append-drop, length-append, take_at, take-append-le, drop-append-le}
use Rattle.wdt_units.specs.Have.{HaveFile}
use Rattle.wdt_codec.specs.declared.stop.Stop.{Stop}
use Rattle.wdt_codec.specs.declared.stop.Stop.TheVariants.{NotYet, Bad}
use Rattle.wdt_codec.specs.declared.fails.ReadFail.{ReadFail}
use Rattle.wdt_codec.specs.declared.fails.ReadFail.TheVariants as fails
use Rattle.wdt_codec.specs.Reading.{◌>>=◌, with_front, number_at, Fails}
use Rattle.wdt_codec.specs.Chunks.{FitsFile, spell_file, file_at, file_step, used_after, files_from, files_of, chunks_at}
use Rattle.wdt_codec.specs.declared.chunks.Partial.{Partial}
use Rattle.wdt_codec.specs.Partial.{Stands}
use Rattle.wdt_codec.proofs.Field.{AreBytes, AreBytes-append, GoesOn, goes-more, goes-stops, times-ends}
use Rattle.wdt_codec.proofs.Digits.{number-exact}
use Rattle.wdt_codec.proofs.HaveExact.{file-exact}

-- the front of the bytes ends where what is behind it begins
front-is : (bytes front after : List ℕ) → bytes ≡ front ++ after → (length after ≤ length bytes) × (take (length bytes - length after) bytes ≡ front)
front-is bytes front after e =
    let len : length bytes ≡ length front + length after = ap length e ∙ length-append front after in
    (omega (arith, len), ap (take (length bytes - length after)) e ∙ take_at front after _ (omega (arith, len)))

abbrev counted : ℕ → List HaveFile × List ℕ → Result ((ℕ × List HaveFile) × List ℕ) Stop
counted n y = Ok ((n, y.0), y.1)

abbrev files_put : (ℕ × List HaveFile) × List ℕ → Result (List HaveFile × List ℕ) Stop
files_put z = Ok (files_of z.0, z.1)

pub part-begins : (bytes : List ℕ) (n : ℕ) (rest : List ℕ) → AreBytes bytes → number_at 4 0 262144 bytes ≡ Ok (n, rest)
    → (length rest ≤ length bytes) × GoesOn chunks_at (take (length bytes - length rest) bytes) (λ u. with_front [] (files_from n 0 u))
unfolding chunks_at
part-begins bytes n rest fine h =
    let e = number-exact 4 0 262144 (omega arith) (omega arith) in
    let g = e.got bytes n rest fine h in
    let f = front-is bytes (bytes_high_first 4 n) rest g.1 in
    (f.0, λ u. ap (λ w. chunks_at (w ++ u)) f.1 ∙ rw (e.again n u g.0) (by (files_from n 0 u))) where
      by : (r : Result (List HaveFile × List ℕ) Stop) → (r >>= (λ y. counted n y) >>= (λ z. files_put z)) ≡ with_front [] r
      by (Ok y) = refl
      by (Err d) = refl

pub part-none : (bytes : List ℕ) (d : Stop) → number_at 4 0 262144 bytes ≡ Err d → chunks_at bytes ≡ Err d
unfolding chunks_at
part-none bytes d h = rw h refl

module _ (taken used left : ℕ) (bytes : List ℕ) (fs : List HaveFile) (fine : AreBytes bytes) (small : used ≤ 1310720)
    (goes : GoesOn chunks_at (take taken bytes) (λ u. with_front fs (files_from left used u))) where
  rest_fine : AreBytes (drop taken bytes)
  rest_fine = (AreBytes-append (take taken bytes) (drop taken bytes) (subst AreBytes (sym (take-append-drop taken bytes)) fine)).1

  pub part-more : (x : HaveFile) (after : List ℕ) → 0 < left → file_at (1310720 - used) (drop taken bytes) ≡ Ok (x, after)
      → (length after ≤ length bytes) × (used + length x.spans ≤ 1310720) × GoesOn chunks_at (take (length bytes - length after) bytes) (λ u. with_front (fs ++ x ∷ []) (files_from (left - 1) (used + length x.spans) u))
  part-more x after some h =
      let e = file-exact (1310720 - used) (omega arith) in
      let r = goes-more (FitsFile (1310720 - used)) spell_file file_step used_after chunks_at (take taken bytes) fs left (left - 1) used e goes (drop taken bytes) x after (omega arith) rest_fine h in
      let fits = (e.got (drop taken bytes) x after rest_fine h).0 in
      let whole : bytes ≡ (take taken bytes ++ spell_file x) ++ after = sym (take-append-drop taken bytes) ∙ ap (λ w. take taken bytes ++ w) r.0 ∙ sym (append_assoc (take taken bytes) (spell_file x) after) in
      let f = front-is bytes (take taken bytes ++ spell_file x) after whole in
      (f.0, omega (arith, fits.few), λ u. ap (λ w. chunks_at (w ++ u)) f.1 ∙ r.1 u)

  part-stops : (d : Stop) → 0 < left → file_at (1310720 - used) (drop taken bytes) ≡ Err d → chunks_at bytes ≡ Err d
  part-stops d some h =
      let e = file-exact (1310720 - used) (omega arith) in
      ap chunks_at (sym (take-append-drop taken bytes)) ∙ goes-stops (FitsFile (1310720 - used)) spell_file file_step used_after chunks_at (take taken bytes) fs left (left - 1) used e goes (drop taken bytes) d (omega arith) h

  pub part-fails : (e : ReadFail) → 0 < left → Fails e (file_at (1310720 - used) (drop taken bytes)) → Fails e (chunks_at bytes)
  part-fails fails.NoMemory some h = tt
  part-fails fails.NotYet some h = part-stops NotYet some h
  part-fails (fails.Bad k) some h = part-stops (Bad k) some h

  pub part-ends : left ≡ 0 → chunks_at bytes ≡ Ok (fs, drop taken bytes)
  part-ends none =
      ap chunks_at (sym (take-append-drop taken bytes)) ∙ times-ends file_step used_after fs left 0 used (drop taken bytes) (chunks_at (take taken bytes ++ drop taken bytes)) (sym (goes (drop taken bytes))) none

-- ---- what stands, when bytes come behind

same-front : (p : Partial) (xs ys : List ℕ) → Stands p xs → p.taken ≤ length ys → take p.taken xs ≡ take p.taken ys → Stands p ys
same-front p xs ys s within e = record { within = within; used = s.used; few = s.few; goes = λ u. ap (λ w. chunks_at (w ++ u)) (sym e) ∙ s.goes u }

fed : (p : Partial) (xs piece : List ℕ) → Stands p (drop 1 xs) → Stands p (drop 1 (xs ++ piece))
fed p [] piece s =
    let none : p.taken ≡ 0 = omega (arith, s.within) in
    same-front p [] (drop 1 piece) s (omega (arith, none)) (rw none refl)
fed p (x ∷ xs) piece s = same-front p xs (xs ++ piece) s (omega (arith, s.within, length-append xs piece)) (sym (take-append-le p.taken xs piece s.within))

still-stands : (p : Option Partial) (xs piece : List ℕ) → IfSome p (λ q. Stands q (drop 1 xs)) → IfSome p (λ q. Stands q (drop 1 (xs ++ piece)))
still-stands None xs piece s = tt
still-stands (Some q) xs piece s = fed q xs piece s

abbrev Kept : Option Partial → ℕ → List ℕ → Type 0
Kept p at bytes = (at ≤ length bytes) × IfSome p (λ q. Stands q (drop 1 (drop at bytes)))

-- bytes that were moved to the front, and perhaps more behind them
pub fed-stands : (p : Option Partial) (old mid new piece : List ℕ) (start at : ℕ) (more : Bool) → at ≤ length mid → drop at mid ≡ drop start old → IfSome p (λ q. Stands q (drop 1 (drop start old)))
    → new ≡ (if more then mid ++ piece else mid) → (at ≤ length new) × IfSome p (λ q. Stands q (drop 1 (drop at new)))
fed-stands p old mid new piece start at true le moved s e =
    let kept : IfSome p (λ q. Stands q (drop 1 (drop at mid))) = subst (λ (w : List ℕ). IfSome p (λ q. Stands q (drop 1 w))) (sym moved) s in
    let after : IfSome p (λ q. Stands q (drop 1 (drop at (mid ++ piece)))) = subst (λ (w : List ℕ). IfSome p (λ q. Stands q (drop 1 w))) (sym (drop-append-le at mid piece le)) (still-stands p (drop at mid) piece kept) in
    subst (Kept p at) (sym e) (omega (arith, le, length-append mid piece), after)
fed-stands p old mid new piece start at false le moved s e =
    subst (Kept p at) (sym e) (le, subst (λ (w : List ℕ). IfSome p (λ q. Stands q (drop 1 w))) (sym moved) s)
