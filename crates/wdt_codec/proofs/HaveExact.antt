-- What a receiver has is read exactly.
use Rattle.std.proofs.Common.{◌≡◌, ℕ, zero, suc, ◌+◌, ◌-◌, ◌*◌, ◌/◌, ◌<◌, ◌≤◌, min, List, [], ◌∷◌, ◌++◌, length, length-append, refl, ap, ◌∙◌, arith}
use Rattle.std.specs.Int.{bytes_high_first}
use Rattle.wdt_units.specs.Have.{PlainSpan, HaveFile}
use Rattle.wdt_units.proofs.Shared.{lawful}
use Rattle.wdt_codec.specs.Chunks.{FitSpans, FitsFile, FitFiles, FitsChunks, spell_span, spell_spans, spell_file, spell_files, spell_chunks, span_of, span_at, span_after, spans_at, FileParts, file_of, file_at, file_step, used_after, files_of, chunks_at}
use Rattle.wdt_codec.proofs.Field.{IsExact, both-exact, made-exact, made-exact-id, FitTimes, times-exact}
use Rattle.wdt_codec.proofs.Digits.{Within, number-exact}
use Rattle.wdt_codec.proofs.PathField.{path-exact}

abbrev pub FitsSpanAt : ℕ → ℕ → ℕ → PlainSpan → Type 0
FitsSpanAt size more least s = Within least (size - 1 - 2 * more) s.offset × Within 1 (size - s.offset - 2 * more) s.count

pub span-exact : (size more least : ℕ) → size < 18446744073709551616 → least + 2 * suc more ≤ size + 1 → IsExact (FitsSpanAt size more least) spell_span (span_at size more least)
unfolding span_at
span-exact size more least small room =
    made-exact span_of (FitsSpanAt size more least) spell_span
    (both-exact (number-exact 8 least (size - 1 - 2 * more) (omega arith) (omega arith)) λ offset h. number-exact 8 1 (size - offset - 2 * more) (omega (arith, h.0, h.1)) (omega arith))
    (λ a h. (h, refl))
    (λ s f. ((s.offset, s.count), f, refl))

-- so many spans, and room for them
abbrev pub IsSpans : ℕ → ℕ → ℕ → List PlainSpan → Type 0
IsSpans size n least ss = (length ss ≡ n) × FitSpans size least ss

spans_room : (size least : ℕ) (ss : List PlainSpan) → least ≤ size + 1 → FitSpans size least ss → least + 2 * length ss ≤ size + 1
spans_room size least [] h f = omega arith
spans_room size least (s ∷ ss) h f = let r = spans_room size (s.offset + s.count + 1) ss (omega (arith, f.2)) f.3 in omega (arith, r, f.0, f.1)

spans_to : (size n least : ℕ) (ss : List PlainSpan) → least + 2 * n ≤ size + 1 → FitTimes (FitsSpanAt size) span_after n least ss → IsSpans size n least ss
spans_to size zero least [] h f = (refl, tt)
spans_to size zero least (s ∷ ss) h f = absurd f
spans_to size (suc n) least [] h f = absurd f
spans_to size (suc n) least (s ∷ ss) h f =
    let r = spans_to size n (s.offset + s.count + 1) ss (omega (arith, f.0.0, f.0.1)) f.1 in
    (ap suc r.0, (f.0.0.0, f.0.1.0, omega (arith, f.0.0, f.0.1), r.1))

spans_from : (size n least : ℕ) (ss : List PlainSpan) → IsSpans size n least ss → FitTimes (FitsSpanAt size) span_after n least ss
spans_from size zero least [] f = tt
spans_from size zero least (s ∷ ss) f = absurd (omega (arith, f.0))
spans_from size (suc n) least [] f = absurd (omega (arith, f.0))
spans_from size (suc n) least (s ∷ ss) f =
    let len : length ss ≡ n = omega (arith, f.0) in
    let r = spans_room size (s.offset + s.count + 1) ss (omega (arith, f.1.2)) f.1.3 in
    (((f.1.0, omega (arith, r, len, f.1.1)), (f.1.1, omega (arith, r, len))), spans_from size n (s.offset + s.count + 1) ss (len, f.1.3))

pub spans-exact : (size n : ℕ) → size < 18446744073709551616 → 2 * n ≤ size + 1 → IsExact (IsSpans size n 0) spell_spans (spans_at size n 0)
spans-exact size n small h =
    made-exact-id (IsSpans size n 0) spell_spans
    (times-exact (λ n least. least + 2 * n ≤ size + 1) (FitsSpanAt size) spell_span (span_at size) span_after
    (λ n least g. span-exact size n least small g)
    (λ n least s g f. omega (arith, f.0, f.1)) n 0 (omega arith))
    (λ ss f. (spans_to size n 0 ss (omega arith) f, refl))
    (λ ss f. spans_from size n 0 ss f)

file_spelled : (a : FileParts) → length a.1.0 ≡ a.0 → length a.1.1.1.1.1 ≡ a.1.1.1.1.0 → spell_file (file_of a) ≡ bytes_high_first 2 a.0 ++ (a.1.0 ++ (bytes_high_first 8 a.1.1.0 ++ (bytes_high_first 8 a.1.1.1.0 ++ (bytes_high_first 4 a.1.1.1.1.0 ++ spell_spans a.1.1.1.1.1))))
file_spelled a e1 e2 =
    ap (λ n. bytes_high_first 2 n ++ (a.1.0 ++ (bytes_high_first 8 a.1.1.0 ++ (bytes_high_first 8 a.1.1.1.0 ++ (bytes_high_first 4 (length a.1.1.1.1.1) ++ spell_spans a.1.1.1.1.1))))) e1
    ∙ ap (λ n. bytes_high_first 2 a.0 ++ (a.1.0 ++ (bytes_high_first 8 a.1.1.0 ++ (bytes_high_first 8 a.1.1.1.0 ++ (bytes_high_first 4 n ++ spell_spans a.1.1.1.1.1))))) e2

path_within : (f : HaveFile) (room : ℕ) → FitsFile room f → Within 1 1024 (length f.path)
path_within f room h = let p = (lawful f.path).0 h.path in (p.some, p.most)

pub file-exact : (room : ℕ) → room ≤ 1310720 → IsExact (FitsFile room) spell_file (file_at room)
unfolding file_at
file-exact room small =
    made-exact file_of (FitsFile room) spell_file
    (both-exact (number-exact 2 1 1024 (omega arith) (omega arith)) λ n hn.
    both-exact (path-exact n hn.0 hn.1) λ path hp.
    both-exact (number-exact 8 0 1099511627776 (omega arith) (omega arith)) λ size hs.
    both-exact (number-exact 8 0 18446744073709551615 (omega arith) (omega arith)) λ stamp ht.
    both-exact (number-exact 4 0 (min room ((size + 1) / 2)) (omega arith) (omega arith)) λ k hk.
    spans-exact size k (omega (arith, hs.1)) (omega (arith, hk.1)))
    (λ a h. (
      record {
        path = h.1.0.1;
        size = h.1.1.0.1;
        stamp = h.1.1.1.0.1;
        few = omega (arith, h.1.1.1.1.0.1, h.1.1.1.1.1.0);
        spans = h.1.1.1.1.1.1;
      },
      file_spelled a h.1.0.0 h.1.1.1.1.1.0,
    ))
    (λ f h.
    let r = spans_room f.size 0 f.spans (omega arith) h.spans in (
      (length f.path, (f.path, (f.size, (f.stamp, (length f.spans, f.spans))))),
      (path_within f room h, ((refl, h.path), ((omega arith, h.size), ((omega arith, h.stamp), ((omega arith, omega (arith, r, h.few)), (refl, h.spans)))))),
      refl,
    ))

abbrev pub FitsFileAt : ℕ → ℕ → HaveFile → Type 0
FitsFileAt more used f = FitsFile (1310720 - used) f

files_to : (n used : ℕ) (fs : List HaveFile) → FitTimes FitsFileAt used_after n used fs → (length fs ≡ n) × FitFiles used fs
files_to zero used [] f = (refl, tt)
files_to zero used (x ∷ fs) f = absurd f
files_to (suc n) used [] f = absurd f
files_to (suc n) used (x ∷ fs) f = let r = files_to n (used + length x.spans) fs f.1 in (ap suc r.0, (f.0, r.1))

files_back : (n used : ℕ) (fs : List HaveFile) → (length fs ≡ n) × FitFiles used fs → FitTimes FitsFileAt used_after n used fs
files_back zero used [] f = tt
files_back zero used (x ∷ fs) f = absurd (omega (arith, f.0))
files_back (suc n) used [] f = absurd (omega (arith, f.0))
files_back (suc n) used (x ∷ fs) f = (f.1.0, files_back n (used + length x.spans) fs (omega (arith, f.0), f.1.1))

pub chunks-exact : IsExact FitsChunks spell_chunks chunks_at
unfolding chunks_at
chunks-exact =
    made-exact files_of FitsChunks spell_chunks
    (both-exact (number-exact 4 0 262144 (omega arith) (omega arith)) λ n h.
    times-exact (λ n used. used ≤ 1310720) FitsFileAt spell_file file_step used_after
    (λ n used g. file-exact (1310720 - used) (omega arith))
    (λ n used f g h. omega (arith, h.few)) n 0 (omega arith))
    (λ a h. let r = files_to a.0 0 a.1 h.1 in (record { few = omega (arith, r.0, h.0.1); files = r.1 }, ap (λ n. bytes_high_first 4 n ++ spell_files a.1) r.0))
    (λ fs f. ((length fs, fs), ((omega arith, f.few), files_back (length fs) 0 fs (refl, f.files)), refl))

-- ---- how long a spelling is

length-spans : (ss : List PlainSpan) → length (spell_spans ss) ≡ 16 * length ss
length-spans [] = refl
length-spans (s ∷ ss) = let r = length-spans ss in simp length-append (omega (arith, r))

length-files : (used : ℕ) (fs : List HaveFile) → used ≤ 1310720 → FitFiles used fs → length (spell_files fs) ≤ 1046 * length fs + 16 * (1310720 - used)
length-files used [] le h = omega arith
length-files used (f ∷ fs) le h =
    let r = length-files (used + length f.spans) fs (omega (arith, h.0.few)) h.1 in
    let p = path_within f (1310720 - used) h.0 in
    let s = length-spans f.spans in
    simp length-append (omega (arith, r, p.1, s, h.0.few))

pub chunks-short : (fs : List HaveFile) → FitsChunks fs → length (spell_chunks fs) ≤ 295174148
chunks-short fs h = let r = length-files 0 fs (omega arith) h.files in simp length-append (omega (arith, r, h.few))
