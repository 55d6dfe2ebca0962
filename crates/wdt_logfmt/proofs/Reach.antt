-- What a log means whose end is torn.
use Rattle.std.proofs.Common.{◌≡◌, ℕ, zero, suc, ◌+◌, ◌^◌, ◌<◌, ◌≤◌, Bool, List, [], ◌∷◌, ◌++◌, length, Some, Result, Ok, Err, refl, sym, ap, ◌∙◌, arith, append_assoc, length-append}
use Rattle.std.specs.Prelude.{if◌then◌else◌}
use Rattle.std.proofs.lemmas.Bool.{ne_eqb}
use Rattle.byteorder.specs.Endian.{big_bytes}
use Rattle.byteorder.specs.Numbers.{length-bytes_high_first}
use Rattle.wdt_logfmt.specs.declared.entry.LogEntry.{LogEntry}
use Rattle.wdt_logfmt.specs.View.{NamedFile}
use Rattle.wdt_logfmt.specs.Adding.{all_added}
use Rattle.wdt_logfmt.specs.Spelling.{AllFit, spell_all, batch_body, header}
use Rattle.wdt_logfmt.specs.Meaning.{Gate, ok_then, next_gate, from_gate, log_meaning}
use Rattle.wdt_logfmt.specs.Reaching.{Reaches}
use Rattle.wdt_logfmt.proofs.Reread.{batch-again}

-- a gate byte other than 1 ends the log
pub from_gate-closed : (fuel : ℕ) (g : Gate) → (g.byte ≡ 1 → ⊥) → from_gate fuel g ≡ Ok (record { files = g.files; end = g.place })
unfolding from_gate
from_gate-closed zero g shut = ap (λ (b : Bool). if b then Err (g.place + 1) else Ok (record { files = g.files; end = g.place })) (ne_eqb g.byte 1 shut)
from_gate-closed (suc fuel) g shut = ap (λ (b : Bool). if b then ok_then (next_gate g) (from_gate fuel) else Ok (record { files = g.files; end = g.place })) (ne_eqb g.byte 1 shut)

pub reaches-header : Reaches 1 (header 1) []
unfolding log_meaning
reaches-header gate rest = (length rest, omega arith, refl)

-- What stands behind a closed gate is never read.
pub means-closed : (version : ℕ) (front : List ℕ) (fs : List NamedFile) (gate : ℕ) (rest : List ℕ) → Reaches version front fs → (gate ≡ 1 → ⊥) → log_meaning (front ++ gate ∷ rest) ≡ Ok (record { files = fs; end = length front })
means-closed version front fs gate rest reach shut = (reach gate rest).2 ∙ from_gate-closed (reach gate rest).0 _ shut

from_gate-open : (version fuel place : ℕ) (fs gs : List NamedFile) (es : List LogEntry) (gate : ℕ) (rest : List ℕ) → length (spell_all es) < 256 ^ 4 → AllFit es → all_added version fs es ≡ Some gs
    → from_gate (suc fuel) (record { version = version; place = place; files = fs; byte = 1; rest = batch_body es ++ gate ∷ rest })
    ≡ from_gate fuel (record { version = version; place = place + 1 + 4 + length (spell_all es); files = gs; byte = gate; rest = rest })
unfolding from_gate
from_gate-open version fuel place fs gs es gate rest small fits adds =
    ap (λ (r : Result Gate ℕ). ok_then r (from_gate fuel)) (batch-again version place 1 fs gs es gate rest small fits adds)

pub length-batch_body : (es : List LogEntry) → length (batch_body es) ≡ 4 + length (spell_all es)
length-batch_body es = omega (arith, length-append (big_bytes 4 (length (spell_all es))) (spell_all es), length-bytes_high_first 4 (length (spell_all es)))

open_from : (version : ℕ) (front : List ℕ) (fs gs : List NamedFile) (es : List LogEntry) (gate : ℕ) (rest : List ℕ) (fuel : ℕ) → length (spell_all es) < 256 ^ 4 → AllFit es → all_added version fs es ≡ Some gs
    → length (batch_body es ++ gate ∷ rest) ≤ fuel
    → log_meaning (front ++ 1 ∷ (batch_body es ++ gate ∷ rest)) ≡ from_gate fuel (record { version = version; place = length front; files = fs; byte = 1; rest = batch_body es ++ gate ∷ rest })
    → (fuel : ℕ) × (length rest ≤ fuel) × (log_meaning ((front ++ 1 ∷ batch_body es) ++ gate ∷ rest) ≡ from_gate fuel (record { version = version; place = length (front ++ 1 ∷ batch_body es); files = gs; byte = gate; rest = rest }))
open_from version front fs gs es gate rest zero small fits adds le is = absurd (omega (arith, length-append (batch_body es) (gate ∷ rest)))
open_from version front fs gs es gate rest (suc fuel) small fits adds le is =
    let long : length rest ≤ fuel = omega (arith, length-append (batch_body es) (gate ∷ rest)) in
    let there : length front + 1 + 4 + length (spell_all es) ≡ length (front ++ 1 ∷ batch_body es) = omega (arith, length-append front (1 ∷ batch_body es), length-batch_body es) in (
      fuel,
      long,
      ap log_meaning (append_assoc front (1 ∷ batch_body es) (gate ∷ rest)) ∙ is ∙ from_gate-open version fuel (length front) fs gs es gate rest small fits adds
          ∙ ap (λ (place : ℕ). from_gate fuel (record { version = version; place = place; files = gs; byte = gate; rest = rest })) there,
    )

-- an open gate and a whole batch lead on
pub reaches-batch : (version : ℕ) (front : List ℕ) (fs gs : List NamedFile) (es : List LogEntry) → Reaches version front fs → length (spell_all es) < 256 ^ 4 → AllFit es → all_added version fs es ≡ Some gs → Reaches version (front ++ 1 ∷ batch_body es) gs
reaches-batch version front fs gs es reach small fits adds gate rest =
    let r = reach 1 (batch_body es ++ gate ∷ rest) in
    open_from version front fs gs es gate rest r.0 small fits adds r.1 r.2

-- a whole batch behind a torn gate: with the byte 1 the log means the files with it, with any other those without it
pub means-torn : (version : ℕ) (front : List ℕ) (fs gs : List NamedFile) (es : List LogEntry) (rest : List ℕ) → Reaches version front fs → length (spell_all es) < 256 ^ 4 → AllFit es → all_added version fs es ≡ Some gs
    → log_meaning (front ++ 1 ∷ (batch_body es ++ 0 ∷ rest)) ≡ Ok (record { files = gs; end = length (front ++ 1 ∷ batch_body es) })
means-torn version front fs gs es rest reach small fits adds =
    ap log_meaning (sym (append_assoc front (1 ∷ batch_body es) (0 ∷ rest)))
    ∙ means-closed version (front ++ 1 ∷ batch_body es) gs 0 rest (reaches-batch version front fs gs es reach small fits adds) (λ e. omega arith)
