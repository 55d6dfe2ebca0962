use Rattle.std.proofs.Common.{◌≡◌, ◌∙◌, ◌∷◌, List, ap, arith, length, subst, sym, true}
use Rattle.std.specs.Vec.Iter.{into_iter_items}
use Rattle.wdt_logfmt.specs.declared.view.LogFile.{LogFile}
use Rattle.wdt_logfmt.specs.View.{is_rising, named_file, named_files}
use Rattle.wdt_log.specs.Touched.{laid}
use Rattle.wdt_log.proofs.Laying.{laid_first, nothing_left, rising_rest}
use Rattle.wdt_log.proofs.extending.lay_all.Goals as goal

pub loop-file-preserved : goal.loop-file-preserved
loop-file-preserved c =
    let at = c.loop-file in
    let x = c.in-Some.file in
    let rest = into_iter_items c.next.new.self in
    let steps : into_iter_items at.file-iterator ≡ x ∷ rest = c.in-Some.ensures.steps.0 in
    let gone = c.in-Some.ensures.steps.1 in
    let was = at.invariant.size in
    let short = ap length steps in
    let room = at.invariant.room in
    let up = subst (λ (l : List LogFile). is_rising (named_files l) ≡ true) steps at.invariant.rest in
    record {
      rising = c.lay.ensures.rising;
      rest = rising_rest (named_file x) (named_files rest) up;
      size = omega (arith, gone, was, short);
      room = omega (arith, gone, room, c.lay.ensures.len, c.lay.ensures.capacity);
      files = λ n. laid_first (named_file x) (named_files rest) (named_files at.files.items) (named_files c.lay.new.files.items) up c.lay.ensures.files n ∙ ap (λ (l : List LogFile). laid (named_files l) (named_files at.files.items) n) (sym steps) ∙ at.invariant.files n;
    }

pub returns-clause-files : goal.returns-clause-files
returns-clause-files c n =
    let at = c.loop-file in
    let none = c.in-None.ensures.steps in
    let empty = nothing_left (into_iter_items at.file-iterator) (sym at.invariant.size ∙ none.0) in
    ap (λ (l : List LogFile). laid (named_files l) (named_files at.files.items) n) (sym empty) ∙ at.invariant.files n ∙ ap (λ (l : List LogFile). laid (named_files l) (named_files c.args.files.now.items) n) c.into_iter-file-iterator.ensures.into_iter_gives.0
