use Rattle.std.proofs.Common.{ℕ, List, Bool, true, cond, length, Bor, refl, sym, ap, ◌∙◌}
use Rattle.std.specs.BTreeSet.{contains_by}
use Rattle.std.specs.Cmp.Lexicographic.{slice_cmp}
use Rattle.std.specs.Ordering.{nat_cmp}
use Rattle.std.specs.Str.{bytes_eq}
use Rattle.std.proofs.lemmas.Bool.{not-true}
use Rattle.std.proofs.lemmas.Map.Text.{is_eq-slice_cmp}
use Rattle.std.proofs.lemmas.Option.{slice_get_read}
use Rattle.wdt_tree.proofs.lemmas.Doubles.{walk_more}
use Rattle.wdt_tree.proofs.manifest.first_double.Goals as goal

pub loop-entry-preserved : goal.loop-entry-preserved
loop-entry-preserved c =
    let has : List ℕ → Bool = λ (path : List ℕ). contains_by (λ (k : Bor (List ℕ)). slice_cmp nat_cmp path k.now) c.loop-entry.seen in
    walk_more c.args.entries.now c.loop-entry.entry-index c.loop-entry.at has
    (λ (path : List ℕ). contains_by (λ (k : Bor (List ℕ)). slice_cmp nat_cmp path k.now) c.insert.new.self)
    c.entry-item.result
    (slice_get_read c.args.entries.now (length c.args.entries.now) c.loop-entry.entry-index c.entry-item.result refl c.loop-entry-test.true c.entry-item.is)
    c.loop-entry.invariant
    (ap has (sym c.text.ensures) ∙ not-true (has c.text.result.now) (sym c.in_ok-insert.ensures.added ∙ c.if-not-branch.false))
    (λ path. c.in_ok-insert.ensures.updates.0 (record { ref_ptr = (0, 0); now = path })
    ∙ ap (λ (b : Bool). cond b true (has path)) (is_eq-slice_cmp c.text.result.now path ∙ ap (λ (p : List ℕ). bytes_eq p path) c.text.ensures))
