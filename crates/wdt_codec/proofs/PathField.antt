-- The bytes of a path are read exactly.
use Rattle.std.proofs.Common.{◌≡◌, ℕ, zero, suc, ◌+◌, ◌-◌, ◌<◌, ◌≤◌, true, false, List, [], ◌∷◌, length, get_or, take, drop, Result, Ok, Err, Some, refl, sym, ap, subst, arith, inl, inr, lit<, lit≤}
use Rattle.std.specs.Prelude.{codes}
use Rattle.std.specs.List.{flat_map}
use Rattle.std.specs.Str.{bytes_eq}
use Rattle.std.proofs.lemmas.List.{drop_all, drop_more, take_more, length-drop}
use Rattle.std.proofs.lemmas.Bool.{le-leb, or_cases}
use Rattle.std.proofs.lemmas.Slice.Eq.{bytes_eq-Decides}
use Rattle.wdt_units.specs.declared.scan.PathScan.{PathScan}
use Rattle.wdt_units.specs.declared.scan.PathScan.TheVariants.{Start, Dot, Dots, Plain, Last, Two, Three, AfterE0, AfterEd, AfterF0, AfterF4}
use Rattle.wdt_units.specs.Path.{is_lawful, is_reserved}
use Rattle.wdt_units.specs.Scan.{next, need, leaves, or_plain, scan_after}
use Rattle.wdt_units.proofs.Shared.{lawful, lawful-is, leaves_need, FitsByte, Ends, path-lawful}
use Rattle.wdt_codec.specs.declared.stop.Stop.{Stop}
use Rattle.wdt_codec.specs.declared.stop.Stop.TheVariants.{NotYet, Bad}
use Rattle.wdt_codec.specs.Paths.{path_at}
use Rattle.wdt_codec.specs.Reading.{Reading, byte_where, except, times, with_front}
use Rattle.wdt_codec.proofs.Field.{AreBytes, IsExact, made-exact-id, FitTimes, times-exact, byte-exact, times-goes, times-stops, times-ends}
use Rattle.wdt_codec.proofs.Fronts.{Beside, except-exact}

-- a byte that goes on from here
goes_on : PathScan → ℕ
goes_on Start = 97
goes_on Dot = 97
goes_on Dots = 97
goes_on Plain = 97
goes_on Last = 128
goes_on Two = 128
goes_on Three = 128
goes_on AfterE0 = 160
goes_on AfterEd = 128
goes_on AfterF0 = 144
goes_on AfterF4 = 128

goes_on_fits : (s : PathScan) → goes_on s < 256
unfolding goes_on
goes_on_fits Start = omega arith
goes_on_fits Dot = omega arith
goes_on_fits Dots = omega arith
goes_on_fits Plain = omega arith
goes_on_fits Last = omega arith
goes_on_fits Two = omega arith
goes_on_fits Three = omega arith
goes_on_fits AfterE0 = omega arith
goes_on_fits AfterEd = omega arith
goes_on_fits AfterF0 = omega arith
goes_on_fits AfterF4 = omega arith

goes_on_leaves : (n : ℕ) (s : PathScan) → need s ≤ suc n → leaves n (next s (goes_on s)) ≡ true
unfolding goes_on
goes_on_leaves n Start h = le-leb 0 n (omega arith)
goes_on_leaves n Dot h = le-leb 0 n (omega arith)
goes_on_leaves n Dots h = le-leb 0 n (omega arith)
goes_on_leaves n Plain h = le-leb 0 n (omega arith)
goes_on_leaves n Last h = le-leb 0 n (omega arith)
goes_on_leaves n Two h = le-leb 1 n (omega arith)
goes_on_leaves n Three h = le-leb 2 n (omega arith)
goes_on_leaves n AfterE0 h = le-leb 1 n (omega arith)
goes_on_leaves n AfterEd h = le-leb 1 n (omega arith)
goes_on_leaves n AfterF0 h = le-leb 2 n (omega arith)
goes_on_leaves n AfterF4 h = le-leb 2 n (omega arith)

abbrev pub path_bytes : ℕ → PathScan → Reading ℕ
path_bytes more s = byte_where (λ b. leaves more (next s b))

ends_to : (n : ℕ) (s : PathScan) (bytes : List ℕ) → FitTimes FitsByte scan_after n s bytes → Ends n s bytes
ends_to zero s [] e = tt
ends_to zero s (b ∷ bytes) e = absurd e
ends_to (suc n) s [] e = absurd e
ends_to (suc n) s (b ∷ bytes) e = (e.0, ends_to n (scan_after s b) bytes e.1)

ends_from : (n : ℕ) (s : PathScan) (bytes : List ℕ) → Ends n s bytes → FitTimes FitsByte scan_after n s bytes
ends_from zero s [] e = tt
ends_from zero s (b ∷ bytes) e = absurd e
ends_from (suc n) s [] e = absurd e
ends_from (suc n) s (b ∷ bytes) e = (e.0, ends_from n (scan_after s b) bytes e.1)

bytes-exact : (n : ℕ) (s : PathScan) → need s ≤ n → IsExact (FitTimes FitsByte scan_after n s) (flat_map (λ b. b ∷ [])) (times path_bytes scan_after n s)
bytes-exact n s h =
    times-exact (λ n s. need s ≤ n) FitsByte (λ b. b ∷ []) path_bytes scan_after
    (λ n s g. byte-exact (λ b. leaves n (next s b)) (goes_on s, goes_on_leaves n s g, goes_on_fits s))
    (λ n s b g f. leaves_need n (next s b) f.0) n s h

alone_is : (bytes : List ℕ) → bytes ≡ flat_map (λ b. b ∷ []) bytes
alone_is [] = refl
alone_is (b ∷ bytes) = ap (λ w. b ∷ w) (alone_is bytes)

-- a lawful path of n bytes
abbrev pub IsPathOf : ℕ → List ℕ → Type 0
IsPathOf n bytes = (length bytes ≡ n) × (is_lawful bytes ≡ true)

path_to : (n : ℕ) (bytes : List ℕ) → 1 ≤ n → n ≤ 1024 → FitTimes FitsByte scan_after n Start bytes → IsPathOf n bytes
path_to n bytes h m e =
    let e' = ends_to n Start bytes e in
    let r = path-lawful n bytes h e' in
    (r.0, lawful-is bytes (omega (arith, r.0)) (omega (arith, r.0)) (subst (λ k. Ends k Start bytes) (sym r.0) e'))

path_from : (n : ℕ) (bytes : List ℕ) → IsPathOf n bytes → FitTimes FitsByte scan_after n Start bytes
path_from n bytes p = ends_from n Start bytes (subst (λ k. Ends k Start bytes) p.0 ((lawful bytes).0 p.1).ends)

pub path-exact : (n : ℕ) → 1 ≤ n → n ≤ 1024 → IsExact (IsPathOf n) (λ bytes. bytes) (path_at n)
unfolding path_at
path-exact n h m =
    made-exact-id (IsPathOf n) (λ bytes. bytes) (bytes-exact n Start h)
    (λ bytes e. (path_to n bytes h m e, alone_is bytes))
    (λ bytes p. path_from n bytes p)

-- ---- a reserved path has a neighbour that isn't

abbrev log_front : List ℕ
log_front = codes ".wlo"

abbrev new_front : List ℕ
new_front = codes ".wlog.ne"

log_lawful : is_lawful (codes ".wloa") ≡ true
log_lawful = lawful-is (codes ".wloa") (lit≤ tt) (lit≤ tt) ((refl, lit< tt), ((refl, lit< tt), ((refl, lit< tt), ((refl, lit< tt), ((refl, lit< tt), tt)))))

new_lawful : is_lawful (codes ".wlog.nea") ≡ true
new_lawful = lawful-is (codes ".wlog.nea") (lit≤ tt) (lit≤ tt) ((refl, lit< tt), ((refl, lit< tt), ((refl, lit< tt), ((refl, lit< tt), ((refl, lit< tt), ((refl, lit< tt), ((refl, lit< tt), ((refl, lit< tt), ((refl, lit< tt), tt)))))))))

abbrev Neighbour : ℕ → List ℕ → Type 0
Neighbour n path = Beside (IsPathOf n) (λ bytes. bytes) is_reserved path

by_log : (n : ℕ) (path : List ℕ) → length path ≡ n → path ≡ codes ".wlog" → Neighbour n path
by_log n path len e = record { front = log_front; last = 103; is = e; other = codes ".wloa"; next = 97; more = []; fits = (omega (arith, len, ap length e), log_lawful); free = refl; other-is = refl }

by_new : (n : ℕ) (path : List ℕ) → length path ≡ n → path ≡ codes ".wlog.new" → Neighbour n path
by_new n path len e = record { front = new_front; last = 119; is = e; other = codes ".wlog.nea"; next = 97; more = []; fits = (omega (arith, len, ap length e), new_lawful); free = refl; other-is = refl }

beside : (n : ℕ) (path : List ℕ) → IsPathOf n path → is_reserved path ≡ true → Neighbour n path
beside n path p e =
    elim (or_cases (bytes_eq path (codes ".wlog")) (bytes_eq path (codes ".wlog.new")) e) [
      | inl a ↦ by_log n path p.0 ((bytes_eq-Decides path (codes ".wlog")).0 a)
      | inr a ↦ by_new n path p.0 ((bytes_eq-Decides path (codes ".wlog.new")).0 a)
    ]

-- the path of a block: of so many bytes, lawful, and none of the receiver's own
abbrev pub IsFreePathOf : ℕ → List ℕ → Type 0
IsFreePathOf n bytes = IsPathOf n bytes × (is_reserved bytes ≡ false)

pub free_path-exact : (n : ℕ) → 1 ≤ n → n ≤ 1024 → IsExact (IsFreePathOf n) (λ bytes. bytes) (except is_reserved (path_at n))
free_path-exact n h m = except-exact is_reserved (path-exact n h m) (beside n)

-- ---- a turn of the loop, at byte k

module _ (count k : ℕ) (s : PathScan) (bytes : List ℕ) (more : k < count)
    (so_far : with_front (take k bytes) (times path_bytes scan_after (count - k) s (drop k bytes)) ≡ path_at count bytes) where
  left : count - k ≡ suc (count - 1 - k)
  left = omega arith

  pub path-short : length bytes ≤ k → path_at count bytes ≡ Err NotYet
  unfolding path_at
  path-short le = times-stops path_bytes scan_after (take k bytes) (count - k) (count - 1 - k) s (drop k bytes) (path_at count bytes) so_far NotYet left (rw (drop_all k bytes le) refl)

  pub path-bad : k < length bytes → leaves (count - 1 - k) (next s (get_or bytes k 0)) ≡ false → path_at count bytes ≡ Err (Bad (length bytes - k))
  unfolding path_at
  path-bad lt fails =
      let e : suc (length (drop (k + 1) bytes)) ≡ length bytes - k = omega (arith, length-drop (k + 1) bytes) in
      times-stops path_bytes scan_after (take k bytes) (count - k) (count - 1 - k) s (drop k bytes) (path_at count bytes) so_far (Bad (length bytes - k)) left (rw (drop_more bytes k 0 lt, fails, e) refl)

  pub path-goes : (s' : PathScan) → k < length bytes → next s (get_or bytes k 0) ≡ Some s' → need s' ≤ count - 1 - k → with_front (take (k + 1) bytes) (times path_bytes scan_after (count - (k + 1)) s' (drop (k + 1) bytes)) ≡ path_at count bytes
  path-goes s' lt is le =
      let yes : leaves (count - 1 - k) (next s (get_or bytes k 0)) ≡ true = rw is (le-leb (need s') (count - 1 - k) le) in
      let n : count - (k + 1) ≡ count - 1 - k = omega arith in
      let after : scan_after s (get_or bytes k 0) ≡ s' = ap or_plain is in
      let r = times-goes path_bytes scan_after (take k bytes) (count - k) (count - 1 - k) s (drop k bytes) (path_at count bytes) so_far (get_or bytes k 0) (drop (k + 1) bytes) left (rw (drop_more bytes k 0 lt, yes) refl) in
      rw (take_more bytes k 0 lt, n, ← after) r

pub path-done : (count k : ℕ) (s : PathScan) (bytes : List ℕ) → count ≤ k → with_front (take k bytes) (times path_bytes scan_after (count - k) s (drop k bytes)) ≡ path_at count bytes → path_at count bytes ≡ Ok (take k bytes, drop k bytes)
path-done count k s bytes le so_far = times-ends path_bytes scan_after (take k bytes) (count - k) 0 s (drop k bytes) (path_at count bytes) so_far (omega arith)

pub path-starts : (count n : ℕ) (bytes : List ℕ) → n ≡ count → with_front (take 0 bytes) (times path_bytes scan_after n Start (drop 0 bytes)) ≡ path_at count bytes
unfolding path_at
path-starts count n bytes e = rw e (by (times path_bytes scan_after count Start bytes)) where
  by : (r : Result (List ℕ × List ℕ) Stop) → with_front [] r ≡ r
  by (Ok x) = refl
  by (Err e) = refl

-- a path that was read is lawful
pub path-read_lawful : (n : ℕ) (bytes path rest : List ℕ) → 1 ≤ n → n ≤ 1024 → AreBytes bytes → path_at n bytes ≡ Ok (path, rest) → is_lawful path ≡ true
path-read_lawful n bytes path rest h m fine e = let r = (path-exact n h m).got bytes path rest fine e in r.0.1
