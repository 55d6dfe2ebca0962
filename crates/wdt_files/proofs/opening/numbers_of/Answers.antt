use Rattle.std.proofs.Common.{ℕ, List, Option, Some, map, ap, sym, ◌∙◌, arith}
use Rattle.std.specs.Map.{lookup}
use Rattle.std.specs.Prelude.{if◌then◌else◌}
use Rattle.std.proofs.lemmas.List.{take_all}
use Rattle.wdt_logfmt.specs.Beginning.{has_path, number_of}
use Rattle.wdt_files.specs.declared.slots.Slot.{Slot}
use Rattle.wdt_files.specs.Slots.{known_in}
use Rattle.wdt_files.proofs.Numbering.{number_next}
use Rattle.wdt_files.proofs.opening.numbers_of.Goals as goal

pub loop-number-init : goal.loop-number-init
loop-number-init c = λ path. ap (lookup _) c.new-numbers.ensures.empty

pub loop-number-preserved : goal.loop-number-preserved
loop-number-preserved c = λ path.
    c.in_ok-add_number.ensures path ∙ ap (λ (o : Option ℕ). if has_path path (known_in c.index-slots-number.result) then Some c.loop-number.number else o) (c.loop-number.invariant path)
    ∙ sym (number_next c.args.slots.now c.loop-number.number c.index-slots-number.result path c.requires.once (omega arith) c.index-slots-number.is)

pub returns : goal.returns
returns c = λ path. c.loop-number.invariant path ∙ ap (λ (ss : List (Option Slot)). number_of (map known_in ss) path) (take_all c.loop-number.number c.args.slots.now (omega arith))
