use Rattle.std.proofs.Common.{◌≡◌, ◌≤◌, List, arith, length, map, ap, ◌∙◌}
use Rattle.wdt_logfmt.specs.declared.view.LogFile.{LogFile}
use Rattle.wdt_ranges.specs.Files.{have_file, is_in_order}
use Rattle.wdt_logfmt.specs.View.{have_of_file, named_files}
use Rattle.wdt_logfmt.proofs.Having.{few_copies, have_is, sorted_in_order}
use Rattle.wdt_logfmt.proofs.Views.{view_parts}
use Rattle.wdt_logfmt.proofs.view.LogView.have.Goals as goal

pub of-requires : goal.of-requires
of-requires c =
    let copies : map have_file c.in_ok-files.files.items ≡ map have_of_file (named_files c.args.self.now.files.items) = c.in_ok-files.ensures ∙ ap (λ (fs : List LogFile). map have_of_file (named_files fs)) c.deref.ensures.value in
    let few : length c.sort.new.files.items ≤ 262144 = few_copies (named_files c.args.self.now.files.items) c.in_ok-files.files.items c.sort.new.files.items c.requires copies c.in_ok-sort.ensures.permutation in
    omega arith

pub returns-clause-have : goal.returns-clause-have
returns-clause-have c =
    c.of.ensures
    ∙ have_is (named_files c.args.self.now.files.items) c.in_ok-files.files.items c.sort.new.files.items (view_parts (named_files c.args.self.now.files.items) c.requires).paths (c.in_ok-files.ensures ∙ ap (λ (fs : List LogFile). map have_of_file (named_files fs)) c.deref.ensures.value)
    c.in_ok-sort.ensures.permutation c.in_ok-sort.ensures.sorted

pub returns-clause-in_order : goal.returns-clause-in_order
returns-clause-in_order c =
    ap is_in_order
    (c.of.ensures
    ∙ have_is (named_files c.args.self.now.files.items) c.in_ok-files.files.items c.sort.new.files.items (view_parts (named_files c.args.self.now.files.items) c.requires).paths (c.in_ok-files.ensures ∙ ap (λ (fs : List LogFile). map have_of_file (named_files fs)) c.deref.ensures.value)
    c.in_ok-sort.ensures.permutation c.in_ok-sort.ensures.sorted)
    ∙ sorted_in_order (named_files c.args.self.now.files.items) (view_parts (named_files c.args.self.now.files.items) c.requires).paths
