use Rattle.std.proofs.Common.{◌≡◌, ◌∙◌, ◌+◌, ◌-◌, ◌≤◌, ℕ, List, ◌++◌, length, take, drop, min, sym, ap, arith, append_assoc, Some, Option}
use Rattle.std.proofs.lemmas.List.{take-append-drop, drop-drop, take_rest, take_at, length-append, length-take-le, length-drop, nil_from_length}
use Rattle.wdt_units.specs.Inputs.{Takes}
use Rattle.wdt_link.specs.Wires.{Cable}
use Rattle.wdt_link.proofs.mem_wire.MemWireByteWire.read.Goals as goal

left : (bytes into front : List ℕ) (at n : ℕ) → front ≡ drop at bytes → n ≡ min (length front) (length into) → take n into ≡ take n front → Takes (drop at bytes) n into (drop (at + n) bytes)
left bytes into front at n all count copied = record {
  taken = sym (ap (λ w. w ++ drop (at + n) bytes) (copied ∙ ap (take n) all) ∙ ap (λ w. take n (drop at bytes) ++ w) (sym (drop-drop n at bytes)) ∙ take-append-drop n (drop at bytes));
  end = λ none some. nil_from_length (drop at bytes) (omega (arith, ap length all));
}

read : (bytes into front : List ℕ) (at n : ℕ) → at + n ≤ length bytes → front ≡ drop at bytes → take n into ≡ take n front → take (at + n) bytes ≡ take at bytes ++ take n into
read bytes into front at n within all copied =
    let same : take n into ≡ take n (drop at bytes) = copied ∙ ap (take n) all in
    let p = take at bytes ++ take n (drop at bytes) in
    let whole : bytes ≡ p ++ drop n (drop at bytes) = sym (take-append-drop at bytes) ∙ ap (λ w. take at bytes ++ w) (sym (take-append-drop n (drop at bytes))) ∙ sym (append_assoc (take at bytes) (take n (drop at bytes)) (drop n (drop at bytes))) in
    let len : length p ≡ at + n = omega (arith, length-append (take at bytes) (take n (drop at bytes)), length-take-le at bytes (omega arith), length-take-le n (drop at bytes) (omega (arith, length-drop at bytes))) in
    ap (take (at + n)) whole ∙ take_at p (drop n (drop at bytes)) (at + n) len ∙ ap (λ w. take at bytes ++ w) (sym same)

abbrev cable : List ℕ → List ℕ → List ℕ → Option Cable
cable l w r = Some (record { read = r; left = l; written = w })

pub returns-clause-told : goal.returns-clause-told
returns-clause-told c =
    let s = c.args.self.now in
    let all : c.deref-2.result.now ≡ s.bytes.items = c.deref-2.ensures.value in
    let front : take (length c.deref-2.result.now - s.taken) (drop s.taken c.deref-2.result.now) ≡ drop s.taken s.bytes.items = rw all (take_rest s.bytes.items s.taken) in (
      _,
      left s.bytes.items c.copy_front-count.new.into _ s.taken c.copy_front-count.result front c.copy_front-count.ensures.count c.copy_front-count.ensures.copied,
      ap (cable _ _) (read s.bytes.items c.copy_front-count.new.into _ s.taken c.copy_front-count.result (omega (arith, s.within, ap length front, length-drop s.taken s.bytes.items, c.copy_front-count.ensures.count)) front c.copy_front-count.ensures.copied),
    )
