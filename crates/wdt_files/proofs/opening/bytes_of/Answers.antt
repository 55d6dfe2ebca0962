use Rattle.std.proofs.Common.{◌+◌, ◌∷◌, List, drop, sum_by, ap, sym, ◌∙◌, arith}
use Rattle.std.proofs.lemmas.List.{drop_more, drop_all}
use Rattle.std.proofs.lemmas.List.Sums.{sum_by-cons}
use Rattle.wdt_logfmt.specs.declared.view.LogFile.{LogFile}
use Rattle.wdt_logfmt.specs.View.{bytes_in, named_file, named_files}
use Rattle.wdt_files.proofs.Opened.{log_bytes}
use Rattle.wdt_files.proofs.opening.bytes_of.Goals as goal

pub overflow_add-bytes : goal.overflow_add-bytes
overflow_add-bytes c =
    let next = drop_more c.args.files.now c.loop-file.file-index c.file-item.result (omega arith) ∙ ap (λ f. f ∷ drop (c.loop-file.file-index + 1) c.args.files.now) (sym c.file-item.is) in
    omega (
      arith,
      c.loop-file.invariant,
      ap (λ (fs : List LogFile). sum_by bytes_in (named_files fs)) next,
      sum_by-cons bytes_in (named_file c.file-item.result) (named_files (drop (c.loop-file.file-index + 1) c.args.files.now)),
      log_bytes (named_files c.args.files.now) c.requires,
    )

pub loop-file-preserved : goal.loop-file-preserved
loop-file-preserved c =
    let next = drop_more c.args.files.now c.loop-file.file-index c.file-item.result (omega arith) ∙ ap (λ f. f ∷ drop (c.loop-file.file-index + 1) c.args.files.now) (sym c.file-item.is) in
    omega (
      arith,
      c.loop-file.invariant,
      c.total-bytes.ensures.total,
      ap (λ (fs : List LogFile). sum_by bytes_in (named_files fs)) next,
      sum_by-cons bytes_in (named_file c.file-item.result) (named_files (drop (c.loop-file.file-index + 1) c.args.files.now)),
    )

pub returns : goal.returns
returns c = omega (arith, c.loop-file.invariant, ap (λ (fs : List LogFile). sum_by bytes_in (named_files fs)) (drop_all c.loop-file.file-index c.args.files.now (omega arith)))
