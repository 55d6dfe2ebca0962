-- Adding a span to a set: which position stands in the way, and what the set is afterwards.
use Rattle.std.specs.Prelude.{◌≡◌, ℕ, ◌+◌, ◌<◌, ◌≤◌, Bool, false, ◌&&◌, ◌||◌, IsTrue, List}
use Rattle.wdt_units.specs.Have.{PlainSpan, is_in}
use Rattle.wdt_ranges.specs.declared.ranges.AddFail.{AddFail}
use Rattle.wdt_ranges.specs.declared.ranges.AddFail.TheVariants.{Overlap, NoMemory}
use Rattle.wdt_ranges.specs.Spans.{end_of, are_apart, has, total_of}

-- a position is both in the set and in the span
abbrev pub is_shared : List PlainSpan → PlainSpan → ℕ → Bool
is_shared ss s x = has ss x && is_in x s

-- the set and the span have no position in common
abbrev pub HasNoneOf : List PlainSpan → PlainSpan → Type 0
HasNoneOf ss s = (x : ℕ) → is_shared ss s x ≡ false

-- the least position that is both in the set and in the span
pub record IsFirstShared (ss : List PlainSpan) (s : PlainSpan) (first : ℕ) : Type 0 where
  pub here : IsTrue (is_shared ss s first)
  pub before : (x : ℕ) → x < first → is_shared ss s x ≡ false

-- no position of the span is in the set, nor the one before it, nor the one behind it
abbrev pub IsFarFrom : List PlainSpan → PlainSpan → Type 0
IsFarFrom ss s = (x : ℕ) → s.offset ≤ x + 1 → x ≤ end_of s → has ss x ≡ false

-- why a span isn't added. Memory is wanted only for a span that touches none
abbrev pub IsRefused : List PlainSpan → PlainSpan → AddFail → Type 0
IsRefused ss s (Overlap first) = IsFirstShared ss s first
IsRefused ss s NoMemory = IsFarFrom ss s

-- the set has the span's positions, too
pub record IsAdded (old : List PlainSpan) (s : PlainSpan) (new : List PlainSpan) : Type 0 where
  pub apart : IsTrue (are_apart new)
  pub positions : (x : ℕ) → has new x ≡ (has old x || is_in x s)
  pub total : total_of new ≡ total_of old + s.count
