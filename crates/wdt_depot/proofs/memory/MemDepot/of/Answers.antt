use Rattle.std.proofs.Common.{◌≡◌, ◌∙◌, ◌++◌, sym, ap, append-nil, List, Some, None, [], arith, map, reverse}
use Rattle.std.proofs.lemmas.List.{nil_from_length}
use Rattle.std.specs.Prelude.{option_map}
use Rattle.wdt_units.specs.Tree.{File}
use Rattle.wdt_tree.specs.Shown.{shown}
use Rattle.wdt_depot.specs.declared.memory.store.Store.{Store}
use Rattle.wdt_depot.specs.Disk.{Disk}
use Rattle.wdt_depot.specs.Memory.{shelf_of, told_in}
use Rattle.wdt_depot.specs.Plains.{empty_disk, plain_disk}
use Rattle.wdt_depot.specs.Slots.{disk_of, disks_back, file_of, slot_at, told_of}
use Rattle.wdt_depot.specs.Spots.{entered_view}
use Rattle.wdt_depot.specs.View.{step_view}
use Rattle.wdt_depot.proofs.memory.MemDepot.of.Goals as goal

no_disk : (s : Store) → (shelf_of s).index ≡ (λ path. None) → (told_in s).now ≡ empty_disk
unfolding told_of disk_of
no_disk s e = λ j path. option_map (λ i. file_of (slot_at i (shelf_of s).slots)) (e j path)

told_fresh : (s : Store) (d : Disk) → s.taken.items ≡ [] → (told_in s).now ≡ d → told_in s ≡ record { past = []; now = d }
unfolding told_of
told_fresh s d none now = λ j. record { past = disks_back (reverse (map step_view (none j))) (shelf_of s); now = now j }

pub loop-file-init : goal.loop-file-init
loop-file-init c = ([], sym (append-nil (map shown c.args.files.items)), no_disk c.new-store.result c.new-store.ensures.index, c.new-store.ensures.taken)

pub returns : goal.returns
returns c =
    let s : Store = c.loop-file.store in
    let inv = c.loop-file.invariant in
    let none : c.loop-file.left.items ≡ [] = nil_from_length c.loop-file.left.items (omega (arith, c.in_default.ensures.cases, c.loop-file.left.ok.0)) in
    let all : inv.0 ≡ map shown c.args.files.items = sym (inv.1 ∙ ap {A = List (_)} {B = List File} (λ l. map shown l ++ inv.0) none) in
    let told : told_in s ≡ record { past = []; now = plain_disk (map shown c.args.files.items) } = told_fresh s (plain_disk (map shown c.args.files.items)) inv.3 (inv.2 ∙ ap plain_disk all) in
    λ j. record { told = Some (told j); stop = c.of.ensures.stop j; spots = map entered_view (c.new.ensures.items j); faults = c.of.ensures.faults j; own = c.of.ensures.own j; own_then = c.of.ensures.own_then j; slips = c.of.ensures.slips j; schedule = Some (c.of.ensures.schedule j) }
