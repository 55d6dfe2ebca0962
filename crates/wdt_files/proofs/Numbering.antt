-- The numbers of the paths of slots, one slot after the other.
use Rattle.std.proofs.Common.{◌≡◌, ℕ, zero, suc, ◌+◌, ◌<◌, List, [], ◌∷◌, ◌++◌, length, map, get_or, take, Option, Some, None, refl, sym, ap, ◌∙◌, arith}
use Rattle.std.specs.Prelude.{if◌then◌else◌}
use Rattle.std.proofs.lemmas.List.{length-map, length-take-le, take-map, take_more}
use Rattle.wdt_logfmt.specs.Beginning.{KnownFile, has_path, known_at, number_of}
use Rattle.wdt_logfmt.proofs.ForCallers.{number_found}
use Rattle.wdt_files.specs.declared.slots.Slot.{Slot}
use Rattle.wdt_files.specs.Slots.{known_in}
use Rattle.wdt_files.proofs.Known.{number_free, number_more}

take_known : (known : List (Option KnownFile)) (i m : ℕ) (file : KnownFile) → known_at (take i known) m ≡ Some file → (m < i) × (known_at known m ≡ Some file)
take_known known zero m file there = absurd (cc)
take_known [] (suc i) m file there = absurd (cc)
take_known (o ∷ known) (suc i) zero file there = (omega arith, there)
take_known (o ∷ known) (suc i) (suc m) file there = (let r = take_known known i m file there in (omega (arith, r.0), r.1))

abbrev pub AreOnce : List (Option KnownFile) → Type 0
AreOnce known = (m n : ℕ) (f g : KnownFile) → known_at known m ≡ Some f → known_at known n ≡ Some g → f.path ≡ g.path → m ≡ n

not_before : (known : List (Option KnownFile)) (i : ℕ) (file : KnownFile) → AreOnce known → known_at known i ≡ Some file → number_of (take i known) file.path ≡ None
not_before known i file once here = go (number_of (take i known) file.path) refl
  where
    go : (o : Option ℕ) → number_of (take i known) file.path ≡ o → o ≡ None
    go None e = refl
    go (Some m) e =
        let r = number_found (take i known) file.path m e in
        let t = take_known known i m r.file r.there in
        absurd (omega (arith, t.0, once m i r.file file t.1 here r.path_is))

known_read : (known : List (Option KnownFile)) (i : ℕ) (o : Option KnownFile) → i < length known → o ≡ get_or known i o → known_at known i ≡ o
known_read [] i o lt is = absurd (omega arith)
known_read (p ∷ known) zero o lt is = sym is
known_read (p ∷ known) (suc i) o lt is = known_read known i o (omega arith) is

number_step : (known : List (Option KnownFile)) (i : ℕ) (o : Option KnownFile) (path : List ℕ) → AreOnce known → i < length known → o ≡ get_or known i o
    → number_of (take (i + 1) known) path ≡ (if has_path path o then Some i else number_of (take i known) path)
number_step known i o path once lt is =
    ap (λ (k : List (Option KnownFile)). number_of k path) (take_more known i o lt ∙ ap (λ (p : Option KnownFile). take i known ++ p ∷ []) (sym is)) ∙ go o (known_read known i o lt is)
  where
    long : i ≡ 0 + length (take i known)
    long = omega (arith, length-take-le i known (omega arith))

    go : (p : Option KnownFile) → known_at known i ≡ p → number_of (take i known ++ p ∷ []) path ≡ (if has_path path p then Some i else number_of (take i known) path)
    go None here = number_free 0 (take i known) path
    go (Some file) here = number_more 0 i (take i known) file path long (not_before known i file once here)

slot_known : (slots : List (Option Slot)) (i : ℕ) (o : Option Slot) → i < length slots → o ≡ get_or slots i o → known_in o ≡ get_or (map known_in slots) i (known_in o)
slot_known [] i o lt is = absurd (omega arith)
slot_known (p ∷ slots) zero o lt is = ap known_in is
slot_known (p ∷ slots) (suc i) o lt is = slot_known slots i o (omega arith) is

pub number_next : (slots : List (Option Slot)) (i : ℕ) (o : Option Slot) (path : List ℕ) → AreOnce (map known_in slots) → i < length slots → o ≡ get_or slots i o
    → number_of (map known_in (take (i + 1) slots)) path ≡ (if has_path path (known_in o) then Some i else number_of (map known_in (take i slots)) path)
number_next slots i o path once lt is =
    ap (λ (k : List (Option KnownFile)). number_of k path) (sym (take-map known_in (i + 1) slots))
    ∙ number_step (map known_in slots) i (known_in o) path once (omega (arith, length-map slots known_in)) (slot_known slots i o lt is)
    ∙ ap (λ (k : List (Option KnownFile)). if has_path path (known_in o) then Some i else number_of k path) (take-map known_in i slots)
