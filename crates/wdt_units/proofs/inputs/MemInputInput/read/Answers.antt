use Rattle.std.proofs.Common.{◌≡◌, ◌∙◌, ◌+◌, ℕ, List, ◌++◌, length, take, drop, min, refl, sym, ap, arith}
use Rattle.std.proofs.lemmas.List.{take-append-drop, drop-drop, nil_from_length, take_rest}
use Rattle.wdt_units.specs.Inputs.{Takes}
use Rattle.wdt_units.proofs.inputs.MemInputInput.read.Goals as goal

took : (bytes into front : List ℕ) (at n : ℕ) → front ≡ drop at bytes → n ≡ min (length front) (length into) → take n into ≡ take n front
    → Takes (drop at bytes) n into (drop (at + n) bytes)
took bytes into front at n all count copied = record {
  taken = sym (ap (λ w. w ++ drop (at + n) bytes) (copied ∙ ap (take n) all) ∙ ap (λ w. take n (drop at bytes) ++ w) (sym (drop-drop n at bytes)) ∙ take-append-drop n (drop at bytes));
  end = λ none some. nil_from_length (drop at bytes) (omega (arith, ap length all));
}

pub returns-clause-bytes : goal.returns-clause-bytes
returns-clause-bytes c =
    (_, refl, took c.args.self.now.bytes.items c.copy_front-count.new.into _ c.args.self.now.taken c.copy_front-count.result (rw c.deref-2.ensures.value (take_rest c.args.self.now.bytes.items c.args.self.now.taken)) c.copy_front-count.ensures.count c.copy_front-count.ensures.copied)
