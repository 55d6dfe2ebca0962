-- Only text spells a number.
use Rattle.std.proofs.Common.{◌≡◌, ℕ, ◌^◌, Bool, true, false, cond, ◌&&◌, nat_lt, List, Option, Some, None, refl, sym, subst}
use Rattle.std.specs.Fmt.{decimal}
use Rattle.std.specs.Str.{IsUtf8, bytes_eq}
use Rattle.std.proofs.lemmas.Bool.{and_parts, ltb-true}
use Rattle.std.proofs.lemmas.Fmt.{IsAscii-decimal}
use Rattle.std.proofs.lemmas.Slice.Eq.{bytes_eq-Decides}
use Rattle.std.proofs.lemmas.Str.{IsUtf8-from_ascii}
use Rattle.wdt_units.specs.Decimal.{number_of, value_of}

none_from : (t : Bool) (x : Option ℕ) → (t ≡ true → ⊥) → cond t x None ≡ None
none_from true x h = absurd (h refl)
none_from false x h = refl

-- bytes that are no text spell no number
pub no_text : (field : List ℕ) → (IsUtf8 field → ⊥) → number_of field ≡ None
unfolding number_of
no_text field h = none_from (bytes_eq field (decimal (value_of field)) && nat_lt (value_of field) (2 ^ 64)) (Some (value_of field)) λ test.
    let parts = and_parts (bytes_eq field (decimal (value_of field))) (nat_lt (value_of field) (2 ^ 64)) test in
    let spelled : field ≡ decimal (value_of field) = (bytes_eq-Decides field (decimal (value_of field))).0 parts.0 in
    h (subst IsUtf8 (sym spelled) (IsUtf8-from_ascii (decimal (value_of field)) (IsAscii-decimal (value_of field) (ltb-true (value_of field) (2 ^ 64) parts.1))))
