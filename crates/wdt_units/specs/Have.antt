-- What a destination has of a tree: for each named file its path, size, stamp and covered positions.
use Rattle.std.specs.Prelude.{ℕ, ◌+◌, Bool, List, ◌&&◌, nat_le, nat_lt}
use Rattle.std.specs.List.{list_any}
use Rattle.std.specs.Str.{bytes_eq}

-- the positions from an offset on, as many as counted
pub record PlainSpan : Type 0 where
  pub offset : ℕ
  pub count : ℕ

-- a file that is named, and what is covered of it
pub record HaveFile : Type 0 where
  pub path : List ℕ
  pub size : ℕ
  pub stamp : ℕ
  pub spans : List PlainSpan

-- a position is in a span
abbrev pub is_in : ℕ → PlainSpan → Bool
is_in position span = nat_le span.offset position && nat_lt position (span.offset + span.count)

-- a file of that path is named
abbrev pub is_named : List HaveFile → List ℕ → Bool
is_named have path = list_any (λ (file : HaveFile). bytes_eq file.path path) have

-- a position of the file of that path is covered
abbrev pub is_covered : List HaveFile → List ℕ → ℕ → Bool
is_covered have path position = list_any (λ (file : HaveFile). bytes_eq file.path path && list_any (is_in position) file.spans) have
