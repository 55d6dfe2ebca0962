-- Bytes that were appended in part, and entries that are appended one by one.
use Rattle.std.proofs.Common.{◌≡◌, ℕ, ◌+◌, ◌<◌, ◌≤◌, true, List, [], ◌∷◌, ◌++◌, length, get_or, take, refl, sym, ap, subst, ◌∙◌, arith}
use Rattle.std.proofs.lemmas.List.{take_at, take-take, take_more, length-append, flat_map_more}
use Rattle.std.proofs.lemmas.List.Folds.{length-flat_map-take}
use Rattle.byteorder.specs.Endian.{big_bytes}
use Rattle.wdt_units.specs.Path.{is_lawful}
use Rattle.wdt_units.proofs.Shared.{lawful}
use Rattle.wdt_logfmt.specs.declared.entry.LogEntry.{LogEntry}
use Rattle.wdt_logfmt.specs.declared.entry.LogEntry.TheVariants.{File}
use Rattle.wdt_logfmt.specs.Spelling.{spell, spell_all, Fits, AllFit}

pub path-short : (path : List ℕ) → is_lawful path ≡ true → length path ≤ 1024
path-short path is = ((lawful path).0 is).most

pub begun-at : (old more new : List ℕ) → new ≡ old ++ more → take (length old) new ≡ old
begun-at old more new e = ap (take (length old)) e ∙ take_at old more (length old) refl

-- what stands before a front of it stands before it
pub begun-on : (old more mid new : List ℕ) → mid ≡ old ++ more → take (length mid) new ≡ mid → take (length old) new ≡ old
begun-on old more mid new e h =
    let len : length old ≤ length mid = omega (arith, ap length e, length-append old more) in
    sym (take-take (length old) (length mid) new len) ∙ ap (take (length old)) h ∙ begun-at old more mid e

entry-next : (es : List LogEntry) (i : ℕ) (e : LogEntry) → i < length es → e ≡ get_or es i e → take (i + 1) es ≡ take i es ++ e ∷ []
entry-next es i e lt is = take_more es i e lt ∙ ap (λ x. take i es ++ x ∷ []) (sym is)

pub spelled-next : (old : List ℕ) (es : List LogEntry) (i : ℕ) (e : LogEntry) (now next : List ℕ) → i < length es → e ≡ get_or es i e → now ≡ old ++ spell_all (take i es) → next ≡ now ++ spell e
    → next ≡ old ++ spell_all (take (i + 1) es)
spelled-next old es i e now next lt is so_far one =
    one ∙ ap (λ w. w ++ spell e) so_far ∙ flat_map_more spell old (take i es) e ∙ ap (λ w. old ++ spell_all w) (sym (entry-next es i e lt is))

pub fit-more : (es : List LogEntry) (e : LogEntry) → AllFit es → Fits e → AllFit (es ++ e ∷ [])
fit-more [] e all fits = (fits, tt)
fit-more (x ∷ es) e all fits = (all.0, fit-more es e all.1 fits)

pub fit-next : (es : List LogEntry) (i : ℕ) (e : LogEntry) → i < length es → e ≡ get_or es i e → AllFit (take i es) → Fits e → AllFit (take (i + 1) es)
fit-next es i e lt is all fits = subst AllFit (sym (entry-next es i e lt is)) (fit-more (take i es) e all fits)

-- ---- how many bytes entries have

pub length-file : (number : ℕ) (path : List ℕ) (size stamp : ℕ) → length (spell (File number path size stamp)) ≡ 23 + length path
length-file number path size stamp = omega (arith, length-append path (big_bytes 8 size ++ big_bytes 8 stamp))

pub length-next : (es : List LogEntry) (i : ℕ) (e : LogEntry) → i < length es → e ≡ get_or es i e → length (spell_all (take (i + 1) es)) ≡ length (spell_all (take i es)) + length (spell e)
length-next es i e lt is =
    sym (ap length (spelled-next [] es i e (spell_all (take i es)) (spell_all (take i es) ++ spell e) lt is refl refl)) ∙ length-append (spell_all (take i es)) (spell e)

pub length-within : (es : List LogEntry) (i : ℕ) (e : LogEntry) → i < length es → e ≡ get_or es i e → length (spell_all (take i es)) + length (spell e) ≤ length (spell_all es)
length-within es i e lt is = let le = length-flat_map-take spell es i e lt in subst (λ x. length (spell_all (take i es)) + length (spell x) ≤ length (spell_all es)) (sym is) le
