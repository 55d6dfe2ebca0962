-- What a receiver has, file by file: which lists of files are in the grammar, how they are spelled, and
-- how they are read.
use Rattle.std.specs.Prelude.{ℕ, ◌+◌, ◌-◌, ◌*◌, ◌/◌, ◌≤◌, min, List, [], ◌∷◌, ◌++◌, length, IsTrue}
use Rattle.std.specs.List.{flat_map}
use Rattle.byteorder.specs.Endian.{big_bytes}
use Rattle.wdt_units.specs.Have.{PlainSpan, HaveFile}
use Rattle.wdt_units.specs.declared.limits.TheConstants.{MAX_FILES, MAX_FILE_SIZE, MAX_PATH, MAX_SPANS}
use Rattle.wdt_units.specs.Path.{is_lawful}
use Rattle.wdt_codec.specs.Paths.{path_at}
use Rattle.wdt_codec.specs.Reading.{Reading, both, made, times, number_at}

-- ---- which are in the grammar

-- spans of one position or more that rise from least on, each within the size and none touching the
-- one before
abbrev pub FitSpans : ℕ → ℕ → List PlainSpan → Type 0
FitSpans size least [] = Unit {0}
FitSpans size least (s ∷ ss) = (least ≤ s.offset) × (1 ≤ s.count) × (s.offset + s.count ≤ size) × FitSpans size (s.offset + s.count + 1) ss

-- a file where room for so many spans is left
pub record FitsFile (room : ℕ) (f : HaveFile) : Type 0 where
  pub path : IsTrue (is_lawful f.path)
  pub size : f.size ≤ MAX_FILE_SIZE
  pub stamp : f.stamp ≤ 18446744073709551615
  pub few : length f.spans ≤ room
  pub spans : FitSpans f.size 0 f.spans

-- files behind some that have so many spans together
abbrev pub FitFiles : ℕ → List HaveFile → Type 0
FitFiles used [] = Unit {0}
FitFiles used (f ∷ fs) = FitsFile (MAX_SPANS - used) f × FitFiles (used + length f.spans) fs

-- files that a receiver may name in one frame
pub record FitsChunks (fs : List HaveFile) : Type 0 where
  pub few : length fs ≤ MAX_FILES
  pub files : FitFiles 0 fs

-- ---- their spellings

-- where a span begins, and how many positions it has
abbrev pub spell_span : PlainSpan → List ℕ
spell_span s = big_bytes 8 s.offset ++ big_bytes 8 s.count

-- spans, one behind the other
abbrev pub spell_spans : List PlainSpan → List ℕ
spell_spans ss = flat_map spell_span ss

-- a file's path behind its length, its size, its stamp, and its spans behind their number
abbrev pub spell_file : HaveFile → List ℕ
spell_file f = big_bytes 2 (length f.path) ++ (f.path ++ (big_bytes 8 f.size ++ (big_bytes 8 f.stamp ++ (big_bytes 4 (length f.spans) ++ spell_spans f.spans))))

-- files, one behind the other
abbrev pub spell_files : List HaveFile → List ℕ
spell_files fs = flat_map spell_file fs

-- how many, and each of them
abbrev pub spell_chunks : List HaveFile → List ℕ
spell_chunks fs = big_bytes 4 (length fs) ++ spell_files fs

-- ---- how they are read

-- the span of an offset and a count that were read
abbrev pub span_of : ℕ × ℕ → PlainSpan
span_of (offset, count) = record { offset = offset; count = count }

-- a span leaves room for those behind it: each takes a position, and one between
unfoldable pub span_at : ℕ → ℕ → ℕ → Reading PlainSpan
span_at size more least = made span_of (both (number_at 8 least (size - 1 - 2 * more)) λ offset. number_at 8 1 (size - offset - 2 * more))

-- where the next span may begin
abbrev pub span_after : ℕ → PlainSpan → ℕ
span_after least s = s.offset + s.count + 1

-- so many spans of a file of a size, the first of which begins at least so far on
abbrev pub spans_at : ℕ → ℕ → ℕ → Reading (List PlainSpan)
spans_at size n least = times (span_at size) span_after n least

-- the fields of a file as they are read: the path's length, the path, the size, the stamp, how many spans, the spans
abbrev pub FileParts : Type 0
FileParts = ℕ × (List ℕ × (ℕ × (ℕ × (ℕ × List PlainSpan))))

-- the file of these fields
abbrev pub file_of : FileParts → HaveFile
file_of (n, (path, (size, (stamp, (k, spans))))) = record { path = path; size = size; stamp = stamp; spans = spans }

-- a file where room for so many spans is left
unfoldable pub file_at : ℕ → Reading HaveFile
file_at room = made file_of (both (number_at 2 1 MAX_PATH) λ n. both (path_at n) λ path. both (number_at 8 0 MAX_FILE_SIZE) λ size. both (number_at 8 0 18446744073709551615) λ stamp. both (number_at 4 0 (min room ((size + 1) / 2))) λ k. spans_at size k 0)

-- a file behind some that have so many spans together, however many files follow
abbrev pub file_step : ℕ → ℕ → Reading HaveFile
file_step more used = file_at (MAX_SPANS - used)

-- how many spans the files have together with one more
abbrev pub used_after : ℕ → HaveFile → ℕ
used_after used f = used + length f.spans

-- so many files behind some that have so many spans together
abbrev pub files_from : ℕ → ℕ → Reading (List HaveFile)
files_from n used = times file_step used_after n used

-- the files, without their number
abbrev pub files_of : ℕ × List HaveFile → List HaveFile
files_of (n, fs) = fs

-- how many files, and each of them
unfoldable pub chunks_at : Reading (List HaveFile)
chunks_at = made files_of (both (number_at 4 0 MAX_FILES) λ n. files_from n 0)
