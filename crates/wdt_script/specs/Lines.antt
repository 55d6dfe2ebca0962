-- The lines of a text, and the fields of a line.
use Rattle.std.specs.Prelude.{◌≡◌, ℕ, zero, suc, ◌<◌, Bool, ◌==◌, List, [], ◌∷◌, length, Option, Some, None, if◌then◌else◌}
use Rattle.std.specs.Borrow.{Bor}
use Rattle.std.specs.List.{onto_first, slice_split}

-- the byte ends a line
abbrev pub ends_line : ℕ → Bool
ends_line b = b == 10

-- the byte stands between fields
abbrev pub is_space : ℕ → Bool
is_space b = b == 32

-- the lines of a text: each ends with a line feed, which the last may lack
unfoldable pub lines_of : List ℕ → List (List ℕ)
lines_of [] = []
lines_of (b ∷ bytes) = if ends_line b then [] ∷ lines_of bytes else onto_first b (lines_of bytes)

-- the fields of a line: one space stands between each and the next
unfoldable pub fields_of : List ℕ → List (List ℕ)
fields_of line = slice_split is_space line

-- a line is cut into its first field and what stands behind the space that ends it; or it is one field
abbrev pub CutsAt : List ℕ → List ℕ → Option (Bor (List ℕ)) → Type 0
CutsAt line first None = fields_of line ≡ first ∷ []
CutsAt line first (Some more) = (fields_of line ≡ first ∷ fields_of more.now) × (length more.now < length line)

-- the same of both parts
abbrev pub CutsField : List ℕ → Bor (List ℕ) × Option (Bor (List ℕ)) → Type 0
CutsField line cut = CutsAt line cut.0.now cut.1

-- the item of this number, from 1, or nothing where there is none
abbrev pub item_or_nothing : List (List ℕ) → ℕ → List ℕ
item_or_nothing [] n = []
item_or_nothing (line ∷ lines) zero = line
item_or_nothing (line ∷ lines) (suc zero) = line
item_or_nothing (line ∷ lines) (suc (suc n)) = item_or_nothing lines (suc n)

-- the line of this number, from 1, or nothing where there is none
abbrev pub line_at : List ℕ → ℕ → List ℕ
line_at bytes n = item_or_nothing (lines_of bytes) n
