-- The numbers behind the word of a line.
use Rattle.std.specs.Prelude.{ℕ, List, [], ◌∷◌, Option, Some, None}
use Rattle.wdt_units.specs.Decimal.{number_of}
use Rattle.wdt_script.specs.declared.numbers.Numbers.{Numbers}
use Rattle.wdt_script.specs.declared.numbers.Numbers.TheVariants.{Zero, One, Two, Three}

-- the numbers behind one more, where there are no more than three
abbrev pub behind : ℕ → Numbers → Option Numbers
behind a Zero = Some (One a)
behind a (One b) = Some (Two a b)
behind a (Two b c) = Some (Three a b c)
behind a (Three b c d) = None

-- the same where both are there
abbrev pub joined : Option ℕ → Option Numbers → Option Numbers
joined (Some a) (Some more) = behind a more
joined (Some a) None = None
joined None more = None

-- the numbers that fields spell, each in decimal digits and without a zero in front: at most three
abbrev pub numbers_of : List (List ℕ) → Option Numbers
numbers_of [] = Some Zero
numbers_of (field ∷ fields) = joined (number_of field) (numbers_of fields)
