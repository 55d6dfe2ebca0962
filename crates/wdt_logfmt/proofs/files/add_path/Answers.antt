use Rattle.std.proofs.Common.{ℕ, List, Bool, Bor, true, false, cond, ◌≡◌, ◌||◌, refl, ap, ◌∙◌}
use Rattle.std.specs.BTreeSet.{contains_by}
use Rattle.std.specs.Cmp.Lexicographic.{slice_cmp}
use Rattle.std.specs.Ordering.{nat_cmp}
use Rattle.std.specs.Str.{bytes_eq}
use Rattle.std.proofs.lemmas.Map.Text.{is_eq-slice_cmp}
use Rattle.wdt_logfmt.proofs.files.add_path.Goals as goal

or_cond : (a b : Bool) → cond a true b ≡ (a || b)
or_cond true b = refl
or_cond false b = refl

pub returns-in-Ok : goal.returns-in-Ok
returns-in-Ok c = record {
  added = c.in-Ok.ensures.added;
  paths = λ other.
      let has : Bool = contains_by (λ (k : Bor (List ℕ)). slice_cmp nat_cmp other k.now) c.args.paths.now in
      c.in-Ok.ensures.updates.0 (record { ref_ptr = (0, 0); now = other }) ∙ ap (λ (b : Bool). cond b true has) (is_eq-slice_cmp c.args.path.now other) ∙ or_cond (bytes_eq c.args.path.now other) has;
}
