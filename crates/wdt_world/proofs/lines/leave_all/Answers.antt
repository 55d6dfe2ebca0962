use Rattle.std.proofs.Common.{◌≡◌, ℕ, ◌+◌, ◌<◌, ◌++◌, [], ◌∷◌, List, length, get_or, set, map, take, drop, sym, ap, ◌∙◌, arith, append_assoc}
use Rattle.std.proofs.lemmas.List.{drop_more, get_or_at, length-map, length-take-le, map_more, set_at}
use Rattle.wdt_wire.specs.Wires.{PlainWire}
use Rattle.wdt_world.specs.Lines.{left_up}
use Rattle.wdt_world.proofs.lines.leave_all.Goals as goal

next_of : {X : Type 0} (f : X → X) (xs : List X) (i : ℕ) (d : X) → i < length xs → get_or (map f (take i xs) ++ drop i xs) i d ≡ get_or xs i d
next_of {X} f xs i d lt =
    ap (λ (rest : List X). get_or (map f (take i xs) ++ rest) i d) (drop_more xs i d lt)
    ∙ get_or_at (map f (take i xs)) (get_or xs i d) (drop (i + 1) xs) d i (omega (arith, length-map (take i xs) f, length-take-le i xs))

more_of : {X : Type 0} (f : X → X) (xs : List X) (i : ℕ) (d : X) → i < length xs → set (map f (take i xs) ++ drop i xs) i (f (get_or xs i d)) ≡ map f (take (i + 1) xs) ++ drop (i + 1) xs
more_of {X} f xs i d lt =
    ap (λ (rest : List X). set (map f (take i xs) ++ rest) i (f (get_or xs i d))) (drop_more xs i d lt)
    ∙ set_at (map f (take i xs)) (get_or xs i d) (drop (i + 1) xs) (f (get_or xs i d)) i (omega (arith, length-map (take i xs) f, length-take-le i xs))
    ∙ sym (append_assoc (map f (take i xs)) (f (get_or xs i d) ∷ []) (drop (i + 1) xs))
    ∙ ap (λ (front : List X). front ++ drop (i + 1) xs) (sym (map_more f xs i d lt))

pub loop-wire-preserved : goal.loop-wire-preserved
loop-wire-preserved c =
    let all = c.args.wires.now in
    let i = c.loop-wire.wire-index in
    let item = c.wire-item.result in
    let read = ap (λ (xs : List PlainWire). get_or xs i item) c.loop-wire.invariant ∙ next_of left_up all i item c.loop-wire-test.true in
    ap (λ (xs : List PlainWire). set xs i c.leave.new.self) c.loop-wire.invariant
    ∙ (ap (set _ i) (c.leave.ensures ∙ ap left_up read) ∙ more_of left_up all i item c.loop-wire-test.true)
