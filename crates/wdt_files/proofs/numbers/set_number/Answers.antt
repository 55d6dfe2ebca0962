use Rattle.std.proofs.Common.{◌∙◌, List, ℕ, Some, subst}
use Rattle.std.specs.BTreeMap.{UpdatesBy}
use Rattle.std.specs.Cmp.Lexicographic.{slice_cmp}
use Rattle.std.specs.Ordering.{nat_cmp}
use Rattle.std.specs.String.{string_bytes, string_cmp}
use Rattle.std.proofs.lemmas.Map.Text.{btree_map_updates_text}
use Rattle.wdt_files.proofs.numbers.set_number.Goals as goal

pub returns-clause-set : goal.returns-clause-set
returns-clause-set c other =
    btree_map_updates_text c.args.path.now c.args.numbers.now c.insert.new.self (Some c.args.number)
    (subst (λ (p : List ℕ). UpdatesBy string_cmp (λ k. slice_cmp nat_cmp p (string_bytes k)) c.args.numbers.now c.insert.new.self (Some c.args.number)) (c.in_ok-key.ensures.ok ∙ c.text.ensures) c.in_ok-insert.ensures.updates) other
