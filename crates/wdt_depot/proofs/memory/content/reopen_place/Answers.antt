use Rattle.std.proofs.Common.{◌≡◌, ◌∙◌, ◌≤◌, ◌+◌, ◌-◌, ◌++◌, [], List, ℕ, ap, sym, subst, arith, map, length, take, drop, vec_len, vec_capacity, is_ok, Bool, true, Vec, Global, length-drop}
use Rattle.std.specs.Prelude.{if◌then◌else◌}
use Rattle.std.proofs.lemmas.List.{length-take, take_all, nil_from_length}
use Rattle.wdt_depot.specs.declared.memory.place.Overwrite.{Overwrite}
use Rattle.wdt_depot.specs.Changes.{change_view}
use Rattle.wdt_depot.specs.Disk.{AreBytes, IsFileImage}
use Rattle.wdt_depot.specs.Picks.{picked_bytes}
use Rattle.wdt_depot.specs.Slots.{Change, file_with}
use Rattle.wdt_depot.proofs.Places.{place_fresh, reopened-back}
use Rattle.wdt_depot.specs.PickLaws.{picked_image}
use Rattle.wdt_depot.proofs.memory.content.reopen_place.Goals as goal

pub invariant_of-place-clause-kept : goal.invariant_of-place-clause-kept
invariant_of-place-clause-kept c =
    let old : List ℕ = c.args.place.now.bytes.items in
    let cs : List Change = map change_view c.args.place.now.pending.items in
    let new : c.pick_bytes.new.bytes.items ≡ picked_bytes c.args.pick (file_with old cs) = c.pick_bytes.ensures ∙ ap (λ (os : List Overwrite). picked_bytes c.args.pick (file_with old (map change_view os))) c.deref-2.ensures.value in
    let bytes : AreBytes c.pick_bytes.new.bytes.items = subst AreBytes (sym new) (picked_image c.args.pick (file_with old cs) c.args.place.now.kept.sound).are_bytes in
    let none : map change_view c.replace-changes.new.dest.items ≡ [] = ap (λ (v : Vec Overwrite Global). map change_view v.items) c.replace-changes.ensures.after ∙ ap (λ (os : List Overwrite). map change_view os) c.new-2.ensures.items in
    place_fresh _ _ _ _ none (c.len-size.ensures ∙ c.pick_bytes.new.bytes.ok.0) bytes

tail_is : (ok : Bool) (new empty d old : List ℕ) (low : ℕ) → ok ≡ true → empty ≡ [] → d ≡ old → new ≡ (if ok then empty ++ take (length d - low) (drop low d) else empty) → new ≡ drop low old
tail_is ok new empty d old low went none same is =
    is ∙ (ap (λ (b : Bool). if b then empty ++ take (length d - low) (drop low d) else empty) went
    ∙ (ap (λ (l : List ℕ). l ++ take (length d - low) (drop low d)) none
    ∙ (take_all (length d - low) (drop low d) (omega (arith, length-drop low d)) ∙ ap (λ (l : List ℕ). drop low l) same)))

pub returns-clause-back : goal.returns-clause-back
returns-clause-back c =
    let old : List ℕ = c.args.place.now.bytes.items in
    let cs : List Change = map change_view c.args.place.now.pending.items in
    let new : c.pick_bytes.new.bytes.items ≡ picked_bytes c.args.pick (file_with old cs) = c.pick_bytes.ensures ∙ ap (λ (os : List Overwrite). picked_bytes c.args.pick (file_with old (map change_view os))) c.deref-2.ensures.value in
    let image : IsFileImage (file_with old cs) c.pick_bytes.new.bytes.items = subst (λ (b : List ℕ). IsFileImage (file_with old cs) b) (sym new) (picked_image c.args.pick (file_with old cs) c.args.place.now.kept.sound) in
    let low : ℕ = c.args.place.now.low in
    let d : List ℕ = c.deref.result.now in
    let spare : c.replace-tail.result ≡ c.args.place.now.spare = c.replace-tail.ensures.value in
    let none : vec_len c.replace-tail.result ≡ 0 = ap (λ (v : Vec ℕ Global). vec_len v) spare ∙ c.args.place.now.empty in
    let room : vec_capacity c.replace-tail.result ≡ vec_capacity c.args.place.now.spare = ap (λ (v : Vec ℕ Global). vec_capacity v) spare in
    let whole : length d ≡ length old = ap (λ (l : List ℕ). length l) c.deref.ensures.value in
    let fits : vec_len c.replace-tail.result + length (take (length d - low) (drop low d)) ≤ vec_capacity c.replace-tail.result = omega (arith, none, room, whole, c.args.place.now.kept.enough, length-take (length d - low) (drop low d), length-drop low d) in
    let empty : c.replace-tail.result.items ≡ [] = nil_from_length c.replace-tail.result.items (omega (arith, none, c.replace-tail.result.ok.0)) in
    let tail : c.extend_from_slice.new.self.items ≡ drop low old = tail_is (is_ok c.extend_from_slice.result) _ _ d old low (c.extend_from_slice.ensures.succeeds fits) empty c.deref.ensures.value c.extend_from_slice.ensures.items in
    ap (λ (l : List ℕ). take low c.pick_bytes.new.bytes.items ++ l) tail ∙ reopened-back old cs _ _ _ c.pick_bytes.new.bytes.items c.args.place.now.kept image
