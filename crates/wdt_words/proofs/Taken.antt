-- Options from the front of the words.
use Rattle.std.proofs.Common.{◌≡◌, ◌-◌, ◌≤◌, List, [], ◌∷◌, length, get_or, take, drop, map, String, Global, Some, sym, ap, ◌∙◌, arith}
use Rattle.std.specs.Prelude.{string_bytes}
use Rattle.std.proofs.lemmas.List.{take_rest}
use Rattle.wdt_words.specs.declared.options.Form.{Form}
use Rattle.wdt_words.specs.declared.options.Options.{Options}
use Rattle.wdt_words.specs.Options.{option_with, options_from}

front : (form : Form) (read : Options) (words : List (String Global)) (name value : String Global) → 2 ≤ length words → name ≡ get_or words 0 name → value ≡ get_or words 1 value
    → options_from form (Some read) (map string_bytes words) ≡ options_from form (option_with form read (string_bytes name) (string_bytes value)) (map string_bytes (drop 2 words))
front form read [] name value long first second = absurd (omega (arith, long))
front form read (x ∷ []) name value long first second = absurd (omega (arith, long))
front form read (x ∷ y ∷ more) name value long first second =
    sym (ap (λ (n : String Global). options_from form (option_with form read (string_bytes n) (string_bytes value)) (map string_bytes more)) first
    ∙ ap (λ (v : String Global). options_from form (option_with form read (string_bytes x) (string_bytes v)) (map string_bytes more)) second)

-- the options of words are those of the words behind the first two, which are an option with its value
pub option-taken : (form : Form) (read : Options) (words : List (String Global)) (name value : String Global) → 2 ≤ length words → name ≡ get_or words 0 name → value ≡ get_or words 1 value
    → options_from form (Some read) (map string_bytes words) ≡ options_from form (option_with form read (string_bytes name) (string_bytes value)) (map string_bytes (take (length words - 2) (drop 2 words)))
option-taken form read words name value long first second =
    let taken = option_with form read (string_bytes name) (string_bytes value) in
    front form read words name value long first second
    ∙ sym (ap (λ (rest : List (String Global)). options_from form taken (map string_bytes rest)) (take_rest words 2))
