use Rattle.std.proofs.Common.{◌≡◌, ℕ, List, Some, None, sym, ◌∙◌}
use Rattle.std.proofs.lemmas.List.{take_rest}
use Rattle.wdt_logfmt.specs.declared.entry.LogEntry.TheVariants.{File}
use Rattle.wdt_logfmt.specs.View.{NamedFile}
use Rattle.wdt_logfmt.specs.Adding.{added}
use Rattle.wdt_logfmt.proofs.EntryReading.{file-read, file-torn, file-unread}
use Rattle.wdt_logfmt.proofs.entries.read_file.Goals as goal

numbers_are : (fs : List NamedFile) (n m : ℕ) (q r : List ℕ) (o p k l : ℕ) → n ≡ m → q ≡ r → o ≡ p → k ≡ l → added 1 fs (File n q o k) ≡ added 1 fs (File m r p l)
numbers_are fs n m q r o p k l a e b d = (λ i. added 1 fs (File (a i) (e i) (b i) (d i)))

pub returns-then-fields-lt6-clause-entry : goal.returns-then-fields-lt6-clause-entry
returns-then-fields-lt6-clause-entry c = file-unread c.args.files c.args.fields.now c.if-fields-lt6.true

pub returns-then-text-length-clause-entry : goal.returns-then-text-length-clause-entry
returns-then-text-length-clause-entry c = file-torn c.args.files c.args.fields.now c.read_u16-length.result (simp take_rest at c.read_u16-length.ensures) c.if-fields-lt6.false (simp take_rest at c.if-text-length.true)

pub returns-in-Some-clause-entry : goal.returns-in-Some-clause-entry
returns-in-Some-clause-entry c =
    file-read c.args.files c.args.fields.now c.read_u16-length.result (Some c.in-Some.more) (simp take_rest at c.read_u16-length.ensures) c.if-fields-lt6.false (simp take_rest at c.if-text-length.false)
    (sym c.in-Some.is ∙ c.in_ok-more.ensures ∙ numbers_are c.args.files _ _ _ _ _ _ _ _ c.read_u32-number.ensures (simp take_rest) (simp take_rest at c.read_u64-size.ensures) (simp take_rest at c.read_u64-stamp.ensures))

pub returns-in-None-clause-entry : goal.returns-in-None-clause-entry
returns-in-None-clause-entry c =
    file-read c.args.files c.args.fields.now c.read_u16-length.result None (simp take_rest at c.read_u16-length.ensures) c.if-fields-lt6.false (simp take_rest at c.if-text-length.false)
    (sym c.in-None.is ∙ c.in_ok-more.ensures ∙ numbers_are c.args.files _ _ _ _ _ _ _ _ c.read_u32-number.ensures (simp take_rest) (simp take_rest at c.read_u64-size.ensures) (simp take_rest at c.read_u64-stamp.ensures))
