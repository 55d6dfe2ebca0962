-- Numbers in words.
use Rattle.std.specs.Prelude.{ℕ, ◌^◌, Bool, false, ◌==◌, ◌&&◌, ◌||◌, nat_le, nat_lt, List, [], ◌∷◌, length, Option, Some, None, if◌then◌else◌}
use Rattle.std.specs.Fmt.{decimal}
use Rattle.std.specs.Str.{bytes_eq}
use Rattle.std.specs.Str.Parse.{digits_value}

-- a word that is 0, or begins with another digit
abbrev pub begins_number : List ℕ → Bool
begins_number [] = false
begins_number (first ∷ more) = (first == 48 && length more == 0) || (nat_le 49 first && nat_le first 57)

-- the number of these digits
abbrev pub value_of : List ℕ → ℕ
value_of digits = digits_value 10 digits

-- the number below 2^64 whose decimal spelling the word is
unfoldable pub number_of : List ℕ → Option ℕ
number_of word = if bytes_eq word (decimal (value_of word)) && nat_lt (value_of word) (2 ^ 64) then Some (value_of word) else None
