-- What a log says: its files by number, what is covered of each, and where the log ends.
use Rattle.std.specs.Prelude.{ℕ, Bool, true, not, nat_lt, nat_le, ◌&&◌, ◌==◌, if◌then◌else◌, List, [], ◌∷◌, length, map, sum_by}
use Rattle.std.specs.List.{list_all}
use Rattle.wdt_units.specs.declared.limits.TheConstants.{MAX_FILES, MAX_FILE_SIZE, MAX_SPANS, MAX_TOTAL}
use Rattle.wdt_units.specs.Have.{HaveFile, PlainSpan, is_named}
use Rattle.wdt_units.specs.Path.{is_lawful, is_reserved}
use Rattle.wdt_units.specs.Tree.{is_before}
use Rattle.wdt_ranges.specs.Files.{have_file}
use Rattle.wdt_ranges.specs.Spans.{are_apart, end_of, total_of}
use Rattle.wdt_logfmt.specs.declared.view.LogFile.{LogFile}
use Rattle.wdt_logfmt.specs.declared.view.LogView.{LogView}

-- a file that a log names, and the number by which its entries call it
pub record NamedFile : Type 0 where
  pub number : ℕ
  pub have : HaveFile

-- what a log means: its files, which rise by number, and the place of the gate byte that ends it
pub record Meaning : Type 0 where
  pub files : List NamedFile
  pub end : ℕ

-- a file of the code as plain data
abbrev pub named_file : LogFile → NamedFile
named_file f = record { number = f.number; have = have_file f.have }

-- the files of the code as plain data
abbrev pub named_files : List LogFile → List NamedFile
named_files fs = map named_file fs

-- a view of the code as plain data
abbrev pub meaning_of : LogView → Meaning
meaning_of view = record { files = named_files view.files.items; end = view.end }

-- ---- which files a log can name

-- a file has this number
abbrev pub is_numbered : ℕ → NamedFile → Bool
is_numbered number f = f.number == number

-- what a file's entry says besides its number
abbrev pub have_of_file : NamedFile → HaveFile
have_of_file f = f.have

-- a file of that path is named
abbrev pub names : List NamedFile → List ℕ → Bool
names fs path = is_named (map have_of_file fs) path

-- a number and a size within the limits, and a lawful path that isn't one of the receiver's own
abbrev pub is_nameable : ℕ → List ℕ → ℕ → Bool
is_nameable number path size = nat_lt number MAX_FILES && is_lawful path && not (is_reserved path) && nat_le size MAX_FILE_SIZE

-- a span ends at the size or before
abbrev pub ends_within : ℕ → PlainSpan → Bool
ends_within size s = nat_le (end_of s) size

-- a file that a log can name, whose spans are a set of positions below its size
abbrev pub is_file : NamedFile → Bool
is_file f = is_nameable f.number f.have.path f.have.size && are_apart f.have.spans && list_all (ends_within f.have.size) f.have.spans

-- ---- which lists of files a log can lead to

-- the second file's number is greater
abbrev pub is_numbered_above : NamedFile → NamedFile → Bool
is_numbered_above f g = nat_lt f.number g.number

-- each number is below all later ones
abbrev pub is_rising : List NamedFile → Bool
is_rising [] = true
is_rising (f ∷ fs) = list_all (is_numbered_above f) fs && is_rising fs

-- no path stands twice
abbrev pub are_paths_once : List NamedFile → Bool
are_paths_once [] = true
are_paths_once (f ∷ fs) = not (names fs f.have.path) && are_paths_once fs

-- how many spans a file has
abbrev pub spans_in : NamedFile → ℕ
spans_in f = length f.have.spans

-- how many positions of a file are covered
abbrev pub bytes_in : NamedFile → ℕ
bytes_in f = total_of f.have.spans

-- all files together have no more spans and covered bytes than a transfer may have
abbrev pub is_within_limits : List NamedFile → Bool
is_within_limits fs = nat_le (sum_by spans_in fs) MAX_SPANS && nat_le (sum_by bytes_in fs) MAX_TOTAL

-- files that a log can lead to
unfoldable pub is_view : List NamedFile → Bool
is_view fs = list_all is_file fs && is_rising fs && are_paths_once fs && is_within_limits fs

-- ---- what a destination has

-- a file among others in the order of their paths
abbrev pub put_by_path : HaveFile → List HaveFile → List HaveFile
put_by_path f [] = f ∷ []
put_by_path f (g ∷ gs) = if is_before f.path g.path then f ∷ g ∷ gs else g ∷ put_by_path f gs

-- the files in the order of their paths
abbrev pub have_of : List NamedFile → List HaveFile
have_of [] = []
have_of (f ∷ fs) = put_by_path f.have (have_of fs)
