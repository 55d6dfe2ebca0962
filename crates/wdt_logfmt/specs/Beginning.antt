-- What stands in the way of a block that is to begin: its file is known otherwise, a position of it is
-- there or on its way, or a limit would be passed. They are tried in this order.
use Rattle.std.specs.Prelude.{ℕ, zero, suc, ◌+◌, ◌-◌, ◌==◌, ◌&&◌, ◌||◌, max, min, nat_lt, not, Bool}
use Rattle.std.specs.Prelude.{List, [], ◌∷◌, ◌++◌, filter, map, slice_get, sum_by, count_by, Option, Some, None, is_some, if◌then◌else◌}
use Rattle.std.specs.List.{list_any}
use Rattle.std.specs.Str.{bytes_eq}
use Rattle.wdt_units.specs.declared.limits.TheConstants.{MAX_FILES, MAX_SPANS, MAX_TOTAL}
use Rattle.wdt_units.specs.Have.{PlainSpan}
use Rattle.wdt_units.specs.declared.blocks.Block.{Block}
use Rattle.wdt_units.specs.declared.blocks.Header.{Header}
use Rattle.wdt_ranges.specs.Spans.{has}
use Rattle.wdt_logfmt.specs.Adding.{overlap, span_at}
use Rattle.wdt_logfmt.specs.Marks.{Marked, bytes_in, is_marked, spans_at, spans_in}
use Rattle.wdt_logfmt.specs.View.{NamedFile}

-- ---- known files, by number

-- a file that is known: one that the log named at the opening, or of which a block began since
pub record KnownFile : Type 0 where
  pub path : List ℕ
  pub size : ℕ
  pub stamp : ℕ

-- the known file of a number; numbers may be left out
abbrev pub known_by : Option (Option KnownFile) → Option KnownFile
known_by None = None
known_by (Some slot) = slot

-- the known file of a number, where there is one
abbrev pub known_at : List (Option KnownFile) → ℕ → Option KnownFile
known_at known number = known_by (slice_get known number)

-- the file in a slot has this path
abbrev pub has_path : List ℕ → Option KnownFile → Bool
has_path path None = Bool.false
has_path path (Some file) = bytes_eq file.path path

-- the number of the file of a path, from this number on
abbrev pub number_from : ℕ → List (Option KnownFile) → List ℕ → Option ℕ
number_from number [] path = None
number_from number (slot ∷ slots) path = if has_path path slot then Some number else number_from (number + 1) slots path

-- the number of the file of a path
abbrev pub number_of : List (Option KnownFile) → List ℕ → Option ℕ
number_of known path = number_from 0 known path

-- the least number that no known file has
abbrev pub free_from : ℕ → List (Option KnownFile) → ℕ
free_from number [] = number
free_from number (None ∷ slots) = number
free_from number (Some file ∷ slots) = free_from (number + 1) slots

-- the number that a new file gets
abbrev pub free_number : List (Option KnownFile) → ℕ
free_number known = free_from 0 known

-- the known files with one more, at the least free number
abbrev pub with_known : List (Option KnownFile) → KnownFile → List (Option KnownFile)
with_known [] file = Some file ∷ []
with_known (None ∷ slots) file = Some file ∷ slots
with_known (Some other ∷ slots) file = Some other ∷ with_known slots file

-- how many files are known
abbrev pub known_count : List (Option KnownFile) → ℕ
known_count known = count_by is_some known

-- so many numbers that no file has
abbrev pub empty_slots : ℕ → List (Option KnownFile)
empty_slots zero = []
empty_slots (suc n) = None ∷ empty_slots n

-- the files of a log, at their numbers: those up to the last
abbrev pub slots_from : ℕ → List NamedFile → List (Option KnownFile)
slots_from number [] = []
slots_from number (f ∷ fs) =
    empty_slots (f.number - number) ++ Some (record { path = f.have.path; size = f.have.size; stamp = f.have.stamp }) ∷ slots_from (f.number + 1) fs

-- the known files of a log
abbrev pub known_files : List NamedFile → List (Option KnownFile)
known_files files = slots_from 0 files

-- ---- a header's block

-- the number that a file has, or gets
abbrev pub number_by : List (Option KnownFile) → Option ℕ → ℕ
number_by known None = free_number known
number_by known (Some number) = number

-- the block of a header, with the number that its file has or gets
abbrev pub block_of : List (Option KnownFile) → Header → Block
block_of known h = record { file = number_by known (number_of known h.path); offset = h.offset; length = h.length }

-- the path isn't known yet
abbrev pub is_new : List (Option KnownFile) → Header → Bool
is_new known h = not (is_some (number_of known h.path))

-- ---- why a block may not begin

-- why a block may not begin
pub data BeginFault : Type 0 where
  -- the file is known with another size or stamp: those that are known, and those that were told
  SizeDiffers : ℕ → ℕ → ℕ → ℕ → BeginFault
  -- the least position that is there already or in a block that is on its way; 0 for an empty block
  Overlap : ℕ → BeginFault
  -- the number that passes its limit
  OverLimit : ℕ → BeginFault

-- the first fault of two
abbrev pub or_else : Option BeginFault → Option BeginFault → Option BeginFault
or_else None later = later
or_else (Some fault) later = Some fault

-- ---- its file

-- the known file has another size or stamp than the header tells
abbrev pub size_fault_by : Option KnownFile → Header → Option BeginFault
size_fault_by None h = None
size_fault_by (Some file) h =
    if file.size == h.size && file.stamp == h.stamp then None else Some (SizeDiffers file.size file.stamp h.size h.stamp)

-- the header's file is known otherwise
abbrev pub size_fault : List (Option KnownFile) → Header → Option BeginFault
size_fault known h = size_fault_by (known_at known (block_of known h).file) h

-- ---- its positions

-- the least of two positions, where they are there
abbrev pub least_position : Option ℕ → Option ℕ → Option ℕ
least_position None later = later
least_position (Some p) None = Some p
least_position (Some p) (Some q) = Some (min p q)

-- the least position that two spans have in common
abbrev pub first_in_both : PlainSpan → PlainSpan → Option ℕ
first_in_both s t = if overlap s t then Some (max s.offset t.offset) else None

-- the least position of a span that is in one of these
abbrev pub first_shared : List PlainSpan → PlainSpan → Option ℕ
first_shared [] s = None
first_shared (t ∷ ts) s = least_position (first_in_both s t) (first_shared ts s)

-- the block is of this file
abbrev pub is_of_file : ℕ → Block → Bool
is_of_file number b = b.file == number

-- a block's positions
abbrev pub span_of : Block → PlainSpan
span_of b = span_at b.offset b.length

-- the spans of a file that are there or in blocks that have begun
abbrev pub taken_spans : List Marked → List Block → ℕ → List PlainSpan
taken_spans ms begun number = spans_at ms number ++ map span_of (filter (is_of_file number) begun)

-- an empty block's file is named or on its way
abbrev pub is_taken : List Marked → List Block → ℕ → Bool
is_taken ms begun number = is_marked ms number || list_any (is_of_file number) begun

-- the least position of a block that is there or on its way
abbrev pub first_taken : List Marked → List Block → Block → Option ℕ
first_taken ms begun b =
    if b.length == 0 then (if is_taken ms begun b.file then Some 0 else None)
    else first_shared (taken_spans ms begun b.file) (span_of b)

-- a position that is taken is a fault
abbrev pub overlap_fault_by : Option ℕ → Option BeginFault
overlap_fault_by None = None
overlap_fault_by (Some position) = Some (Overlap position)

-- the block overlaps what is there or on its way
abbrev pub overlap_fault : List Marked → List Block → Block → Option BeginFault
overlap_fault ms begun b = overlap_fault_by (first_taken ms begun b)

-- ---- limits

-- more than a limit
abbrev pub over : ℕ → ℕ → Option BeginFault
over limit count = if nat_lt limit count then Some (OverLimit count) else None

-- the position before a block is there
abbrev pub is_behind : List PlainSpan → ℕ → Bool
is_behind spans zero = Bool.false
is_behind spans (suc before) = has spans before

-- how many spans more a block is reckoned as: one, but none where it is empty or goes on where what is
-- there ends
abbrev pub span_cost : List Marked → Block → ℕ
span_cost ms b = if b.length == 0 || is_behind (spans_at ms b.file) b.offset then 0 else 1

-- how many bytes a block has
abbrev pub length_of : Block → ℕ
length_of b = b.length

-- one, where it is so
abbrev pub one_if : Bool → ℕ
one_if test = if test then 1 else 0

-- how many files, spans and bytes there would be with these blocks
abbrev pub files_with : List (Option KnownFile) → Bool → ℕ
files_with known new = known_count known + one_if new

-- how many spans there would be with these blocks
abbrev pub spans_with : List Marked → List Block → ℕ
spans_with ms blocks = spans_in ms + sum_by (span_cost ms) blocks

-- how many bytes there would be with these blocks
abbrev pub bytes_with : List Marked → List Block → ℕ
bytes_with ms blocks = bytes_in ms + sum_by length_of blocks

-- no more files, spans and bytes than a transfer may have, with the block and all that have begun
abbrev pub limit_fault : List (Option KnownFile) → List Marked → List Block → Bool → Block → Option BeginFault
limit_fault known ms begun new b =
    or_else (over MAX_FILES (files_with known new))
    (or_else (over MAX_SPANS (spans_with ms (b ∷ begun))) (over MAX_TOTAL (bytes_with ms (b ∷ begun))))

-- why a block may not begin, where these files are known, this is there and these blocks have begun
abbrev pub begin_fault : List (Option KnownFile) → List Marked → List Block → Header → Option BeginFault
begin_fault known ms begun h =
    or_else (size_fault known h)
    (or_else (overlap_fault ms begun (block_of known h)) (limit_fault known ms begun (is_new known h) (block_of known h)))
