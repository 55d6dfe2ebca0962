use Rattle.std.proofs.Common.{arith, ◌≡◌, ◌≤◌, ◌-◌, ◌+◌, ◌++◌, List, ℕ, length, take, drop, ap, ◌∙◌, vec_len, Vec, Global}
use Rattle.std.specs.Prelude.{replicate}
use Rattle.wdt_depot.proofs.Splices.{spliced_within, spliced_past}
use Rattle.wdt_depot.proofs.memory.bytes.put_bytes.Goals as goal
use Rattle.wdt_depot.proofs.memory.bytes.put_bytes.Goals.{then-len-end+in_ok-resize, else-len-end}

pub returns-clause-ok : goal.returns-clause-ok
returns-clause-ok c =
    let old : List ℕ = c.args.bytes.now.items in
    let o = c.args.offset in
    let piece : List ℕ = c.args.piece.now in
    let size : vec_len c.args.bytes.now ≡ length old = c.args.bytes.now.ok.0 in
    elim c.if-len-end.branch [
      | then-len-end+in_ok-resize w ↦
          let longer : length old ≤ o + length piece = grind (arith, size) in
          let grown : c.if-len-end.bytes.items ≡ take (o + length piece) old ++ replicate (o + length piece - length old) 0 = ap (λ (v : Vec ℕ Global). v.items) w.bytes-is ∙ (w.in_ok-resize.ensures.items ∙ ap (λ (n : ℕ). take (o + length piece) old ++ replicate (o + length piece - n) 0) size) in
          c.put_over.ensures.items ∙ (ap (λ (l : List ℕ). take o l ++ piece ++ drop (o + length piece) l) grown ∙ spliced_past old o piece longer)
      | else-len-end w ↦
          let within : o + length piece ≤ length old = grind (arith, size) in
          let same : c.if-len-end.bytes.items ≡ old = ap (λ (v : Vec ℕ Global). v.items) w.bytes-is in
          c.put_over.ensures.items ∙ (ap (λ (l : List ℕ). take o l ++ piece ++ drop (o + length piece) l) same ∙ spliced_within old o piece within)
    ]
