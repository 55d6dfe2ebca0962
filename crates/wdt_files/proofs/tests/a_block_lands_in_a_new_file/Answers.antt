use Rattle.std.proofs.Common.{◌≡◌, ◌∷◌, [], List, true, refl, sym, ap, ◌∙◌, subst}
use Rattle.std.specs.Prelude.{IsSome}
use Rattle.wdt_units.specs.Path.{is_lawful}
use Rattle.wdt_logfmt.specs.declared.view.LogFile.{LogFile}
use Rattle.wdt_logfmt.specs.Adding.{all_added, can_cover, can_name}
use Rattle.wdt_logfmt.specs.Batches.{block_entries}
use Rattle.wdt_logfmt.specs.Spelling.{written_version}
use Rattle.wdt_logfmt.specs.View.{is_view, named_files}
use Rattle.wdt_logfmt.proofs.ForCallers.{view_none}
use Rattle.wdt_files.specs.PlainFiles.{PlainFiles, files_of, with_file}
use Rattle.wdt_files.proofs.tests.a_block_lands_in_a_new_file.Goals as goal

pub of-requires : goal.of-requires
of-requires g c = subst (λ (fs : List LogFile). is_view (named_files fs) ≡ true) (sym c.new.ensures.items) view_none

-- what is logged of the block continues no files
one_more : is_lawful (97 ∷ []) ≡ true → IsSome (all_added written_version [] (block_entries (with_file (files_of []) (record { path = 97 ∷ []; size = 8; stamp = 7 })).known [] (record { file = 0; offset = 2; length = 4 })))
unfolding can_name can_cover
one_more lawful = rw lawful refl

pub land-requires-clause-can : goal.land-requires-clause-can
land-requires-clause-can g c =
    let is = c.in_ok-number.ensures.known
    ∙ (λ i. with_file (c.in_ok-files.ensures.files i) (record { path = c.in_ok-name.ensures.value i; size = 8; stamp = 7 }))
    ∙ ap (λ (fs : List LogFile). with_file (files_of (named_files fs)) (record { path = 97 ∷ []; size = 8; stamp = 7 })) c.new.ensures.items in
    subst (λ (f : PlainFiles). IsSome (all_added written_version f.named (block_entries f.known f.named (record { file = 0; offset = 2; length = 4 })))) (sym is) (one_more c.in_ok-name.ensures.lawful)
