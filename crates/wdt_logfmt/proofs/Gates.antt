-- Batches as the code reads them, against their definition.
use Rattle.std.proofs.Common.{◌≡◌, ℕ, zero, suc, ◌+◌, ◌<◌, ◌≤◌, Bool, true, false, List, [], ◌∷◌, length, take, drop, Option, Some, None, Result, Ok, Err, refl, sym, ap, ◌∙◌, subst, arith, length-drop}
use Rattle.std.specs.Prelude.{if◌then◌else◌, bytes_eq, slice_index}
use Rattle.std.proofs.lemmas.Bool.{eq-eqb}
use Rattle.std.proofs.lemmas.List.{drop-drop, drop_all, drop_more, length-take-le}
use Rattle.byteorder.specs.Endian.{big_number}
use Rattle.wdt_logfmt.specs.View.{NamedFile}
use Rattle.wdt_logfmt.specs.Spelling.{header}
use Rattle.wdt_logfmt.specs.Meaning.{number, Gate, ok_then, with_entries, whole_batch, sized_batch, next_gate, from_gate, version_of, behind_header, log_meaning, IsRefused}
use Rattle.wdt_logfmt.specs.declared.fails.ReadLogFail.{ReadLogFail}
use Rattle.wdt_logfmt.specs.declared.fails.ReadLogFail.TheVariants.{BadLog, NoMemory}
use Rattle.wdt_logfmt.specs.Parts.{gate_at}
use Rattle.wdt_logfmt.proofs.EntryReading.{number-is, number-none}
use Rattle.wdt_logfmt.proofs.Reach.{from_gate-closed}

-- ---- one batch

pub batch-short : (at : ℕ) (fs : List NamedFile) (rest : List ℕ) → length rest < 4 → sized_batch 1 at fs (number 4 rest) ≡ Err at
batch-short at fs rest lt = ap (sized_batch 1 at fs) (number-none 4 rest lt)

sized-is : (at : ℕ) (fs : List NamedFile) (rest : List ℕ) → 4 ≤ length rest → sized_batch 1 at fs (number 4 rest) ≡ whole_batch 1 at fs (take (big_number 4 rest) (drop 4 rest)) (drop (big_number 4 rest) (drop 4 rest))
sized-is at fs rest le = ap (sized_batch 1 at fs) (number-is 4 rest le)

unfit : (at : ℕ) (fs : List NamedFile) (body back : List ℕ) → back ≡ [] → whole_batch 1 at fs body back ≡ Err at
unfolding whole_batch
unfit at fs body back none = ap (whole_batch 1 at fs body) none

pub batch-cut : (at : ℕ) (fs : List NamedFile) (rest : List ℕ) (long : ℕ) → long ≡ big_number 4 rest → 4 ≤ length rest → length (drop 4 rest) ≤ long → sized_batch 1 at fs (number 4 rest) ≡ Err at
batch-cut at fs rest long is le few = sized-is at fs rest le ∙ unfit at fs _ (drop (big_number 4 rest) (drop 4 rest)) (drop_all (big_number 4 rest) (drop 4 rest) (omega arith))

whole : (at : ℕ) (fs : List NamedFile) (body back : List ℕ) (gate : ℕ) (rest : List ℕ) → back ≡ gate ∷ rest
    → whole_batch 1 at fs body back ≡ ok_then (with_entries 1 (length body) (at + 4) fs body) λ gs. Ok (record { version = 1; place = at + 4 + length body; files = gs; byte = gate; rest = rest })
unfolding whole_batch
whole at fs body back gate rest is = ap (whole_batch 1 at fs body) is

pub batch-is : (at : ℕ) (fs : List NamedFile) (bytes rest : List ℕ) (long : ℕ) → rest ≡ drop at bytes → long ≡ big_number 4 rest → 4 ≤ length rest → long < length (drop 4 rest)
    → sized_batch 1 at fs (number 4 (drop at bytes)) ≡ ok_then (with_entries 1 (length (take long (drop 4 rest))) (at + 4) fs (take long (drop 4 rest))) λ gs. Ok (gate_at bytes (at + 4 + long) gs)
batch-is at fs bytes rest long here is le lt =
    let more = drop 4 rest in
    let size : length (take long more) ≡ long = length-take-le long more (omega arith) in
    let moved : more ≡ drop (at + 4) bytes = ap (drop 4) here ∙ drop-drop 4 at bytes in
    let back : drop long more ≡ drop (at + 4 + long) bytes = ap (drop long) moved ∙ drop-drop long (at + 4) bytes in
    let within : at + 4 + long < length bytes = omega (arith, ap length moved, length-drop (at + 4) bytes) in
    let split : drop long more ≡ slice_index bytes (at + 4 + long) ∷ drop (at + 4 + long + 1) bytes = back ∙ drop_more bytes (at + 4 + long) 0 within in
    ap (λ l. sized_batch 1 at fs (number 4 l)) (sym here) ∙ sized-is at fs rest le
    ∙ ap (λ n. whole_batch 1 at fs (take n more) (drop n more)) (sym is)
    ∙ whole at fs (take long more) (drop long more) (slice_index bytes (at + 4 + long)) (drop (at + 4 + long + 1) bytes) split
    ∙ ap (λ n. ok_then (with_entries 1 (length (take long more)) (at + 4) fs (take long more)) λ gs. Ok (record { version = 1; place = at + 4 + n; files = gs; byte = slice_index bytes (at + 4 + long); rest = drop (at + 4 + long + 1) bytes })) size

-- ---- gate by gate

-- at a place of the log stands a gate, and from there on the log means what it means
pub record Comes (bytes : List ℕ) (gate : ℕ) (fs : List NamedFile) : Type 0 where
  pub within : gate < length bytes
  pub fuel : ℕ
  pub enough : length bytes ≤ gate + 1 + fuel
  pub means : log_meaning bytes ≡ from_gate fuel (gate_at bytes gate fs)

pub short : (bytes : List ℕ) → length bytes ≤ 6 → log_meaning bytes ≡ Err 0
unfolding log_meaning
short bytes le = go (version_of (take 6 bytes)) (drop 6 bytes) (drop_all 6 bytes le)
  where
    go : (told : Option ℕ) (rest : List ℕ) → rest ≡ [] → behind_header told rest ≡ Err 0
    go None rest none = refl
    go (Some version) rest none = ap (behind_header (Some version)) none

pub unknown : (bytes : List ℕ) → bytes_eq (take 6 bytes) (header 1) ≡ false → log_meaning bytes ≡ Err 0
unfolding log_meaning
unknown bytes e = ap (λ (b : Bool). behind_header (if b then Some 1 else None) (drop 6 bytes)) e

pub comes-first : (bytes : List ℕ) → 6 < length bytes → bytes_eq (take 6 bytes) (header 1) ≡ true → Comes bytes 6 []
unfolding log_meaning
comes-first bytes lt e =
    let split : drop 6 bytes ≡ slice_index bytes 6 ∷ drop 7 bytes = drop_more bytes 6 0 lt in
    record {
      within = lt;
      fuel = length (drop 7 bytes);
      enough = omega (arith, length-drop 7 bytes);
      means = ap (λ (b : Bool). behind_header (if b then Some 1 else None) (drop 6 bytes)) e ∙ ap (behind_header (Some 1)) split;
    }

open_gate : (fuel : ℕ) (g : Gate) → g.byte ≡ 1 → from_gate (suc fuel) g ≡ ok_then (next_gate g) (from_gate fuel)
unfolding from_gate
open_gate fuel g is = ap (λ (b : Bool). if b then ok_then (next_gate g) (from_gate fuel) else Ok (record { files = g.files; end = g.place })) (eq-eqb g.byte 1 is)

last_gate : (g : Gate) → g.byte ≡ 1 → from_gate zero g ≡ Err (g.place + 1)
unfolding from_gate
last_gate g is = ap (λ (b : Bool). if b then Err (g.place + 1) else Ok (record { files = g.files; end = g.place })) (eq-eqb g.byte 1 is)

pub comes-next : (bytes : List ℕ) (gate next : ℕ) (fs gs : List NamedFile) → slice_index bytes gate ≡ 1 → gate < next → next < length bytes → sized_batch 1 (gate + 1) fs (number 4 (drop (gate + 1) bytes)) ≡ Ok (gate_at bytes next gs)
    → Comes bytes gate fs → Comes bytes next gs
comes-next bytes gate next fs gs is later within batch c = go c.fuel c.enough c.means
  where
    go : (fuel : ℕ) → length bytes ≤ gate + 1 + fuel → log_meaning bytes ≡ from_gate fuel (gate_at bytes gate fs) → Comes bytes next gs
    go zero enough means = absurd (omega arith)
    go (suc fuel) enough means = record {
      within = within;
      fuel = fuel;
      enough = omega arith;
      means = means ∙ open_gate fuel (gate_at bytes gate fs) is ∙ ap (λ (r : Result Gate ℕ). ok_then r (from_gate fuel)) batch;
    }

pub comes-bad : (bytes : List ℕ) (gate at : ℕ) (fs : List NamedFile) → slice_index bytes gate ≡ 1 → sized_batch 1 (gate + 1) fs (number 4 (drop (gate + 1) bytes)) ≡ Err at → Comes bytes gate fs → log_meaning bytes ≡ Err at
comes-bad bytes gate at fs is batch c = go c.fuel c.enough c.means
  where
    go : (fuel : ℕ) → length bytes ≤ gate + 1 + fuel → log_meaning bytes ≡ from_gate fuel (gate_at bytes gate fs) → log_meaning bytes ≡ Err at
    go zero enough means =
        let none : drop (gate + 1) bytes ≡ [] = drop_all (gate + 1) bytes (omega arith) in
        let two : Err (gate + 1) ≡ Err at = sym (batch-short (gate + 1) fs [] (omega arith)) ∙ ap (λ l. sized_batch 1 (gate + 1) fs (number 4 l)) (sym none) ∙ batch in
        let same : gate + 1 ≡ at = cc in
        means ∙ last_gate (gate_at bytes gate fs) is ∙ ap Err same
    go (suc fuel) enough means = means ∙ open_gate fuel (gate_at bytes gate fs) is ∙ ap (λ (r : Result Gate ℕ). ok_then r (from_gate fuel)) batch

pub comes-end : (bytes : List ℕ) (gate : ℕ) (fs : List NamedFile) → (slice_index bytes gate ≡ 1 → ⊥) → Comes bytes gate fs → log_meaning bytes ≡ Ok (record { files = fs; end = gate })
comes-end bytes gate fs shut c = c.means ∙ from_gate-closed c.fuel (gate_at bytes gate fs) shut

-- ---- refusals

pub refused-then : {A B : Type 0} (r : Result A ℕ) (f : A → Result B ℕ) (e : ReadLogFail) → IsRefused r e → IsRefused (ok_then r f) e
refused-then r f (BadLog at) h = ap (λ s. ok_then s f) h
refused-then r f NoMemory h = tt

pub refused-log : (bytes : List ℕ) (gate : ℕ) (fs : List NamedFile) (e : ReadLogFail) → slice_index bytes gate ≡ 1 → IsRefused (sized_batch 1 (gate + 1) fs (number 4 (drop (gate + 1) bytes))) e → Comes bytes gate fs → IsRefused (log_meaning bytes) e
refused-log bytes gate fs (BadLog at) is h c = comes-bad bytes gate at fs is h c
refused-log bytes gate fs NoMemory is h c = tt

pub batch-ok : (at : ℕ) (fs gs : List NamedFile) (bytes : List ℕ) (long : ℕ) → long ≡ big_number 4 (drop at bytes) → 4 ≤ length (drop at bytes) → long < length (drop 4 (drop at bytes))
    → with_entries 1 (length (take long (drop 4 (drop at bytes)))) (at + 4) fs (take long (drop 4 (drop at bytes))) ≡ Ok gs → sized_batch 1 at fs (number 4 (drop at bytes)) ≡ Ok (gate_at bytes (at + 4 + long) gs)
batch-ok at fs gs bytes long is le lt read =
    batch-is at fs bytes (drop at bytes) long refl is le lt ∙ ap (λ (r : Result (List NamedFile) ℕ). ok_then r λ hs. Ok (gate_at bytes (at + 4 + long) hs)) read

pub batch-refused : (at : ℕ) (fs : List NamedFile) (bytes : List ℕ) (long : ℕ) (e : ReadLogFail) → long ≡ big_number 4 (drop at bytes) → 4 ≤ length (drop at bytes) → long < length (drop 4 (drop at bytes))
    → IsRefused (with_entries 1 (length (take long (drop 4 (drop at bytes)))) (at + 4) fs (take long (drop 4 (drop at bytes)))) e → IsRefused (sized_batch 1 at fs (number 4 (drop at bytes))) e
batch-refused at fs bytes long e is le lt read =
    subst (λ (r : Result Gate ℕ). IsRefused r e) (sym (batch-is at fs bytes (drop at bytes) long refl is le lt))
    (refused-then (with_entries 1 (length (take long (drop 4 (drop at bytes)))) (at + 4) fs (take long (drop 4 (drop at bytes)))) (λ gs. Ok (gate_at bytes (at + 4 + long) gs)) e read)
