use Rattle.std.proofs.Common.{◌≡◌, ℕ, List, Some, None, sym, ◌∙◌}
use Rattle.std.proofs.lemmas.List.{take_rest}
use Rattle.wdt_logfmt.specs.declared.entry.LogEntry.TheVariants.{Covered}
use Rattle.wdt_logfmt.specs.View.{NamedFile}
use Rattle.wdt_logfmt.specs.Adding.{added}
use Rattle.wdt_logfmt.proofs.EntryReading.{covered-read, covered-unread}
use Rattle.wdt_logfmt.proofs.entries.read_covered.Goals as goal

numbers_are : (fs : List NamedFile) (n m o p k l : ℕ) → n ≡ m → o ≡ p → k ≡ l → added 1 fs (Covered n o k) ≡ added 1 fs (Covered m p l)
numbers_are fs n m o p k l a b d = (λ i. added 1 fs (Covered (a i) (b i) (d i)))

pub returns-then-fields-lt16-clause-entry : goal.returns-then-fields-lt16-clause-entry
returns-then-fields-lt16-clause-entry c = covered-unread c.args.files c.args.fields.now c.if-fields-lt16.true

pub returns-in-Some-clause-entry : goal.returns-in-Some-clause-entry
returns-in-Some-clause-entry c =
    covered-read c.args.files c.args.fields.now (Some c.in-Some.more) c.if-fields-lt16.false
    (sym c.in-Some.is ∙ c.in_ok-more.ensures ∙ numbers_are c.args.files _ _ _ _ _ _ c.read_u32-number.ensures (simp take_rest at c.read_u64-offset.ensures) (simp take_rest at c.read_u32-length.ensures))

pub returns-in-None-clause-entry : goal.returns-in-None-clause-entry
returns-in-None-clause-entry c =
    covered-read c.args.files c.args.fields.now None c.if-fields-lt16.false
    (sym c.in-None.is ∙ c.in_ok-more.ensures ∙ numbers_are c.args.files _ _ _ _ _ _ c.read_u32-number.ensures (simp take_rest at c.read_u64-offset.ensures) (simp take_rest at c.read_u32-length.ensures))
