-- A walk over the files of a have that ends at the first that doesn't fit.
use Rattle.std.proofs.Common.{◌≡◌, ℕ, ◌+◌, ◌<◌, Bool, true, false, not, cond, List, ◌∷◌, length, map, drop, get_or, Some, sym, ap, ◌∙◌}
use Rattle.std.specs.List.{list_all, find}
use Rattle.std.specs.Option.{option_map}
use Rattle.std.proofs.lemmas.Bool.{and_from}
use Rattle.wdt_units.specs.Have.{HaveFile}
use Rattle.wdt_tree.specs.declared.entry.Entry.{Entry}
use Rattle.wdt_ranges.specs.declared.have.FileHave.{FileHave}
use Rattle.wdt_ranges.specs.Files.{have_file}
use Rattle.wdt_rest.specs.RestOf.{has_set}
use Rattle.wdt_rest.specs.Fitting.{fits}
use Rattle.wdt_discover.specs.Plan.{stale_of, first_stale}
use Rattle.wdt_discover.proofs.lemmas.Counting.{drop_here}

pub record IsFit (entries : List Entry) (files : List FileHave) (i : ℕ) : Type 0 where
  pub same : first_stale entries (map have_file (drop i files)) ≡ first_stale entries (map have_file files)
  pub sets : list_all has_set (map have_file (drop i files)) ≡ true → list_all has_set (map have_file files) ≡ true

first_of : (entries : List Entry) (file : HaveFile) (files : List HaveFile) (b : Bool) → fits entries file ≡ b
    → first_stale entries (file ∷ files) ≡ option_map (stale_of entries) (cond (not b) (Some file) (find (λ file. not (fits entries file)) files))
first_of entries file files b is = ap (λ (t : Bool). option_map (stale_of entries) (cond (not t) (Some file) (find (λ file. not (fits entries file)) files))) is

here : (entries : List Entry) (files : List FileHave) (i : ℕ) (file : FileHave) → i < length files → file ≡ get_or files i file
    → first_stale entries (map have_file (drop i files)) ≡ first_stale entries (have_file file ∷ map have_file (drop (i + 1) files))
here entries files i file lt is = ap (λ (xs : List FileHave). first_stale entries (map have_file xs)) (drop_here files i file file lt is)

pub fit_more : (entries : List Entry) (files : List FileHave) (i : ℕ) (file : FileHave) → i < length files → file ≡ get_or files i file → fits entries (have_file file) ≡ true → has_set (have_file file) ≡ true
    → IsFit entries files i → IsFit entries files (i + 1)
fit_more entries files i file lt is ok set f = record {
  same = sym (first_of entries (have_file file) (map have_file (drop (i + 1) files)) true ok) ∙ sym (here entries files i file lt is) ∙ f.same;
  sets = λ rest. f.sets (ap (λ (xs : List FileHave). list_all has_set (map have_file xs)) (drop_here files i file file lt is)
      ∙ and_from (has_set (have_file file)) (list_all has_set (map have_file (drop (i + 1) files))) set rest);
}

pub fit_fails : (entries : List Entry) (files : List FileHave) (i : ℕ) (file : FileHave) → i < length files → file ≡ get_or files i file → fits entries (have_file file) ≡ false
    → IsFit entries files i → first_stale entries (map have_file files) ≡ Some (stale_of entries (have_file file))
fit_fails entries files i file lt is bad f =
    sym f.same ∙ here entries files i file lt is ∙ first_of entries (have_file file) (map have_file (drop (i + 1) files)) false bad
