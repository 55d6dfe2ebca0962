-- Which calls fail by their numbers.
use Rattle.std.specs.Prelude.{ℕ, ◌+◌, ◌-◌, ◌^◌, ◌==◌, min, Bool, List, Option, Some, None}
use Rattle.std.specs.List.{list_any}

-- the numbers, from 1, of the calls that fail by themselves, and how many calls there were
pub record Schedule : Type 0 where
  pub fails : List ℕ
  pub calls : ℕ

-- the number of the next call; numbers stop at 2^32 less 1
abbrev pub next_number : Schedule → ℕ
next_number s = min (s.calls + 1) (2 ^ 32 - 1)

-- the next call fails by its number
abbrev pub is_due : Schedule → Bool
is_due s = list_any (λ number. number == next_number s) s.fails

-- the schedule once a call more has its number
abbrev pub numbered : Schedule → Schedule
numbered s = record { fails = s.fails; calls = next_number s }

-- said of a schedule, where it is told
abbrev pub IfScheduled : (Schedule → Type 0) → Option Schedule → Type 0
IfScheduled P None = Unit {0}
IfScheduled P (Some s) = P s
