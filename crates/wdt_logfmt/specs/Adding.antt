-- How an entry adds to the files of a log, and which entries don't continue them.
use Rattle.std.specs.Prelude.{ℕ, ◌+◌, min, Bool, not, nat_lt, nat_le, ◌&&◌, ◌==◌, if◌then◌else◌, List, [], ◌∷◌, map, Option, Some, None, option_and_then}
use Rattle.std.specs.List.{list_any}
use Rattle.wdt_units.specs.declared.limits.TheConstants.{MAX_BLOCK}
use Rattle.wdt_units.specs.Have.{HaveFile, PlainSpan}
use Rattle.wdt_ranges.specs.Spans.{end_of}
use Rattle.wdt_logfmt.specs.declared.entry.LogEntry.{LogEntry}
use Rattle.wdt_logfmt.specs.declared.entry.LogEntry.TheVariants.{File, Covered}
use Rattle.wdt_logfmt.specs.View.{NamedFile, is_numbered, is_within_limits, is_nameable, names}

-- ---- a file more

-- a file of which nothing is covered yet
abbrev pub just_named : ℕ → List ℕ → ℕ → ℕ → NamedFile
just_named number path size stamp = record { number = number; have = record { path = path; size = size; stamp = stamp; spans = [] } }

-- a file among others in the order of their numbers
abbrev pub put_by_number : NamedFile → List NamedFile → List NamedFile
put_by_number f [] = f ∷ []
put_by_number f (g ∷ gs) = if nat_lt f.number g.number then f ∷ g ∷ gs else g ∷ put_by_number f gs

-- a file can be named: a log can name it, and neither its number nor its path is there
unfoldable pub can_name : List NamedFile → ℕ → List ℕ → ℕ → Bool
can_name fs number path size = is_nameable number path size && not (list_any (is_numbered number) fs) && not (names fs path)

-- ---- a span more

-- two spans have a position in common
abbrev pub overlap : PlainSpan → PlainSpan → Bool
overlap s t = nat_lt s.offset (end_of t) && nat_lt t.offset (end_of s)

-- two spans that touch, as one
abbrev pub joined : PlainSpan → PlainSpan → PlainSpan
joined s t = record { offset = min s.offset t.offset; count = s.count + t.count }

-- the spans with one more, which overlaps none of them and is joined with those that it touches
abbrev pub with_span : PlainSpan → List PlainSpan → List PlainSpan
with_span s [] = s ∷ []
with_span s (t ∷ ts) =
    if nat_lt (end_of t) s.offset then t ∷ with_span s ts
    else if nat_lt (end_of s) t.offset then s ∷ t ∷ ts
    else with_span (joined s t) ts

-- a file with one more span
abbrev pub have_with : PlainSpan → HaveFile → HaveFile
have_with s f = record { path = f.path; size = f.size; stamp = f.stamp; spans = with_span s f.spans }

-- the file of this number with one more span
abbrev pub covering : ℕ → PlainSpan → NamedFile → NamedFile
covering number s f = if f.number == number then record { number = f.number; have = have_with s f.have } else f

-- the span ends within the file, and no position of it is covered
abbrev pub has_room : PlainSpan → HaveFile → Bool
has_room s f = nat_le (end_of s) f.size && not (list_any (overlap s) f.spans)

-- a file has this number, and room for the span
abbrev pub is_room_in : ℕ → PlainSpan → NamedFile → Bool
is_room_in number s f = f.number == number && has_room s f.have

-- a span can be covered: as many positions as a block may have, for which the file of this number has room; and all
-- files stay within the limits
unfoldable pub can_cover : List NamedFile → ℕ → PlainSpan → Bool
can_cover fs number s =
    nat_lt 0 s.count && nat_le s.count MAX_BLOCK && list_any (is_room_in number s) fs
    && is_within_limits (map (covering number s) fs)

-- the span from an offset on, of so many positions
abbrev pub span_at : ℕ → ℕ → PlainSpan
span_at offset count = record { offset = offset; count = count }

-- ---- entries

-- the files after an entry of a log of this version; none where the entry doesn't continue them
abbrev pub added : ℕ → List NamedFile → LogEntry → Option (List NamedFile)
added version fs (File number path size stamp) =
    if can_name fs number path size then Some (put_by_number (just_named number path size stamp) fs) else None
added version fs (Covered number offset count) =
    if can_cover fs number (span_at offset count) then Some (map (covering number (span_at offset count)) fs) else None

-- the files after the entries of a batch
abbrev pub all_added : ℕ → List NamedFile → List LogEntry → Option (List NamedFile)
all_added version fs [] = Some fs
all_added version fs (e ∷ es) = option_and_then (λ gs. all_added version gs es) (added version fs e)
