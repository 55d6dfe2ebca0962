use Rattle.std.proofs.Common.{◌∙◌, ap, subst, List, ℕ, Some}
use Rattle.std.specs.BTreeMap.{UpdatesBy, get_by_text}
use Rattle.std.specs.Cmp.Lexicographic.{slice_cmp}
use Rattle.std.specs.Ordering.{nat_cmp}
use Rattle.std.specs.String.{string_bytes, string_cmp}
use Rattle.wdt_depot.specs.View.{index_of}
use Rattle.wdt_depot.proofs.Paths.{index_unchanged, index_updates, on_err}
use Rattle.wdt_depot.proofs.memory.index.point.Goals as goal

pub returns-clause-before : goal.returns-clause-before
unfolding index_of
returns-clause-before c = c.in_ok-before.ensures.old ∙ ap (λ (p : List ℕ). get_by_text c.args.index.now p) (c.in_ok-key.ensures.ok ∙ c.text.ensures)

pub returns-clause-after : goal.returns-clause-after
returns-clause-after c =
    index_updates c.args.path.now c.args.index.now c.insert.new.self (Some c.args.place)
    (subst (λ (p : List ℕ). UpdatesBy string_cmp (λ k. slice_cmp nat_cmp p (string_bytes k)) c.args.index.now c.insert.new.self (Some c.args.place)) (c.in_ok-key.ensures.ok ∙ c.text.ensures) c.in_ok-before.ensures.updates)

pub returns-in_err-before-clause-err : goal.returns-in_err-before-clause-err
returns-in_err-before-clause-err c = on_err _ _ (index_unchanged c.args.index.now c.insert.new.self c.in_err-before.ensures.err)
