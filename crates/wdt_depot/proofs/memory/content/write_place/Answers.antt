use Rattle.std.proofs.Common.{◌≡◌, ◌∙◌, ◌≤◌, ◌+◌, ◌-◌, ◌++◌, [], ◌∷◌, List, ℕ, ap, arith, map, length, take, drop, min, vec_capacity}
use Rattle.std.proofs.lemmas.List.{map-append}
use Rattle.wdt_depot.specs.declared.memory.place.Overwrite.{Overwrite}
use Rattle.wdt_depot.specs.Changes.{change_view}
use Rattle.wdt_depot.specs.Disk.{spliced}
use Rattle.wdt_depot.specs.Slots.{Change, change_of}
use Rattle.wdt_depot.proofs.Places.{place_as, place_wrote}
use Rattle.wdt_depot.proofs.Writes.{length-spliced}
use Rattle.wdt_depot.proofs.memory.content.write_place.Goals as goal

pub invariant_of-place-2-clause-kept : goal.invariant_of-place-2-clause-kept
invariant_of-place-2-clause-kept c =
    let old : List ℕ = c.args.place.now.bytes.items in
    let cs : List Change = map change_view c.args.place.now.pending.items in
    let o : ℕ = c.args.offset in
    let piece : List ℕ = c.args.piece.now in
    let size : c.len-size.result ≡ length old = c.len-size.ensures ∙ c.args.place.now.bytes.ok.0 in
    let count : o + length piece - o ≡ length piece = omega arith in
    let before : c.in_ok-before.before.items ≡ take (length piece) (drop o old) = c.in_ok-before.ensures ∙ (ap (λ (l : List ℕ). take (o + length piece - o) (drop o l)) c.deref.ensures.value ∙ ap (λ (n : ℕ). take n (drop o old)) count) in
    let items : map change_view c.push_reserved.new.self.items ≡ cs ++ record { offset = o; count = length piece; before = c.in_ok-before.before.items; size = c.len-size.result } ∷ [] = ap (λ (l : List Overwrite). map change_view l) (c.push_reserved.ensures.items ∙ ap (λ (l : List Overwrite). l ++ record { offset = o; count = length piece; before = c.in_ok-before.before; size = c.len-size.result } ∷ []) c.reserve.ensures.items) ∙ map-append change_view c.args.place.now.pending.items _ in
    let pending : map change_view c.push_reserved.new.self.items ≡ cs ++ change_of o piece old ∷ [] = items ∙ (λ j. cs ++ record { offset = o; count = length piece; before = before j; size = size j } ∷ []) in
    let room : length (spliced old o piece) ≤ min c.args.place.now.low o + vec_capacity c.reserve-2.new.self = omega (arith, length-spliced old o piece, size, c.max.ensures, c.min-low.ensures, c.in_ok-reserve-2.ensures.ok, c.reserve-2.ensures.len, c.args.place.now.empty) in
    place_as _ _ _ _ _ _ _ _ c.in_ok-put_bytes.ensures.ok pending c.min-low.ensures (place_wrote old cs c.args.place.now.synced c.args.place.now.low _ o piece _ c.args.place.now.kept (λ k. omega (arith, c.type_inv.piece k)) room)
