-- The entered spots of a depot.
use Rattle.std.specs.Prelude.{ℕ, List, Option, is_some, Bool}
use Rattle.std.specs.List.{list_all}
use Rattle.wdt_depot.specs.declared.spots.Entered.{Entered}

-- an entered spot: its number and its path
abbrev pub entered_view : Entered → ℕ × List ℕ
entered_view e = (e.number, e.path)

-- each spot's path has a place
abbrev pub all_placed : List (ℕ × List ℕ) → (List ℕ → Option ℕ) → Bool
all_placed es index = list_all (λ (e : ℕ × List ℕ). is_some (index e.1)) es
