use Rattle.std.proofs.Common.{◌≡◌, ℕ, ◌-◌, List, length, take, drop, map, Option, Some, None, sym, ap, ◌∙◌}
use Rattle.std.specs.Prelude.{string_bytes}
use Rattle.std.specs.Result.{result_ok}
use Rattle.wdt_words.specs.declared.options.Options.{Options}
use Rattle.wdt_words.specs.Options.{option_with, options_from}
use Rattle.wdt_words.proofs.Taken.{option-taken}
use Rattle.wdt_words.proofs.options.+options_from.Goals as goal

pub returns-in-Ok-clause-value : goal.returns-in-Ok-clause-value
returns-in-Ok-clause-value t c =
    let more : List (List ℕ) = map string_bytes (take (length c.args.words.now - 2) (drop 2 c.args.words.now)) in
    let name = c.as_str-in-len2-up.ensures.value in
    let value = c.as_str-in-len2-up-2.ensures.value in
    let added : option_with c.args.form c.args.read (string_bytes c.name-item-2.result) (string_bytes c.value-item.result) ≡ Some c.in-Ok.read
    = sym (ap (λ (n : List ℕ). option_with c.args.form c.args.read n (string_bytes c.value-item.result)) name)
    ∙ (sym (ap (λ (v : List ℕ). option_with c.args.form c.args.read c.as_str-in-len2-up.result.now v) value) ∙ (sym c.option_with.ensures.value ∙ ap result_ok c.in-Ok.is)) in
    c.options_from.ensures.value
    ∙ sym (option-taken c.args.form c.args.read c.args.words.now c.name-item-2.result c.value-item.result c.in-len2-up.len_at_least c.name-item-2.is c.value-item.is ∙ ap (λ (o : Option Options). options_from c.args.form o more) added)

pub returns-in-Err-clause-value : goal.returns-in-Err-clause-value
returns-in-Err-clause-value t c =
    let more : List (List ℕ) = map string_bytes (take (length c.args.words.now - 2) (drop 2 c.args.words.now)) in
    let name = c.as_str-in-len2-up.ensures.value in
    let value = c.as_str-in-len2-up-2.ensures.value in
    let added : option_with c.args.form c.args.read (string_bytes c.name-item-2.result) (string_bytes c.value-item.result) ≡ None
    = sym (ap (λ (n : List ℕ). option_with c.args.form c.args.read n (string_bytes c.value-item.result)) name)
    ∙ (sym (ap (λ (v : List ℕ). option_with c.args.form c.args.read c.as_str-in-len2-up.result.now v) value) ∙ (sym c.option_with.ensures.value ∙ ap result_ok c.in-Err.is)) in
    sym (option-taken c.args.form c.args.read c.args.words.now c.name-item-2.result c.value-item.result c.in-len2-up.len_at_least c.name-item-2.is c.value-item.is ∙ ap (λ (o : Option Options). options_from c.args.form o more) added)
