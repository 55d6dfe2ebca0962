-- A spelled batch is read again.
use Rattle.std.proofs.Common.{◌≡◌, ℕ, zero, suc, ◌+◌, ◌-◌, ◌^◌, ◌<◌, ◌≤◌, Bool, List, [], ◌∷◌, ◌++◌, length, take, drop, Option, Some, None, Result, Ok, refl, ap, ◌∙◌, arith, append_assoc, length-append}
use Rattle.std.specs.Prelude.{if◌then◌else◌, option_and_then, option_map}
use Rattle.std.proofs.lemmas.Bool.{le-leb}
use Rattle.std.proofs.lemmas.List.{take_at, drop_at}
use Rattle.byteorder.specs.Endian.{big_bytes, big_number}
use Rattle.byteorder.specs.Numbers.{length-bytes_high_first, big_number-reads_back}
use Rattle.wdt_logfmt.specs.declared.entry.LogEntry.{LogEntry}
use Rattle.wdt_logfmt.specs.declared.entry.LogEntry.TheVariants.{File, Covered}
use Rattle.wdt_logfmt.specs.View.{NamedFile}
use Rattle.wdt_logfmt.specs.Adding.{added, all_added}
use Rattle.wdt_logfmt.specs.Spelling.{spell, Fits, AllFit, spell_all, batch_body}
use Rattle.wdt_logfmt.specs.Meaning.{Reading, number, some_bytes, then_read, file_entry, covered_entry, entry_added, or_bad, with_entries, ok_then, whole_batch, sized_batch, next_gate}

number-again : (n x : ℕ) (rest : List ℕ) → x < 256 ^ n → number n (big_bytes n x ++ rest) ≡ Some (x, rest)
unfolding number
number-again n x rest lt =
    let bytes = big_bytes n x ++ rest in
    let long : n ≤ length bytes = omega (arith, length-append (big_bytes n x) rest, length-bytes_high_first n x) in
    let reads : big_number n bytes ≡ x = big_number-reads_back n x rest lt in
    let drops : drop n bytes ≡ rest = drop_at (big_bytes n x) rest n (length-bytes_high_first n x) in
    ap (λ (b : Bool). if b then Some (big_number n bytes, drop n bytes) else None) (le-leb n (length bytes) long) ∙ (λ i. Some (reads i, drops i))

bytes-again : (path rest : List ℕ) → some_bytes (length path) (path ++ rest) ≡ Some (path, rest)
unfolding some_bytes
bytes-again path rest =
    let bytes = path ++ rest in
    let n = length path in
    let long : n ≤ length bytes = omega (arith, length-append path rest) in
    let takes : take n bytes ≡ path = take_at path rest n refl in
    let drops : drop n bytes ≡ rest = drop_at path rest n refl in
    ap (λ (b : Bool). if b then Some (take n bytes, drop n bytes) else None) (le-leb n (length bytes) long) ∙ (λ i. Some (takes i, drops i))

then-number : {B : Type 0} (n x : ℕ) (rest : List ℕ) (f : ℕ → Reading B) → x < 256 ^ n → then_read (number n (big_bytes n x ++ rest)) f ≡ f x rest
then-number n x rest f lt = ap (λ r. then_read r f) (number-again n x rest lt)

then-bytes : {B : Type 0} (path rest : List ℕ) (f : List ℕ → Reading B) → then_read (some_bytes (length path) (path ++ rest)) f ≡ f path rest
then-bytes path rest f = ap (λ r. then_read r f) (bytes-again path rest)

file-again : (n : ℕ) (path : List ℕ) (size stamp : ℕ) (rest : List ℕ) → Fits (File n path size stamp)
    → file_entry ((big_bytes 4 n ++ (big_bytes 2 (length path) ++ (path ++ (big_bytes 8 size ++ big_bytes 8 stamp)))) ++ rest) ≡ Some (File n path size stamp, rest)
unfolding file_entry
file-again n path size stamp rest fits =
    ap file_entry (append_assoc (big_bytes 4 n) (big_bytes 2 (length path) ++ (path ++ (big_bytes 8 size ++ big_bytes 8 stamp))) rest)
    ∙ then-number 4 n _ _ fits.0
    ∙ (λ i. then_read (number 2 (append_assoc (big_bytes 2 (length path)) (path ++ (big_bytes 8 size ++ big_bytes 8 stamp)) rest i)) (λ long. λ bytes2.
    then_read (some_bytes long bytes2) λ path. λ bytes3.
    then_read (number 8 bytes3) λ size. λ bytes4.
    then_read (number 8 bytes4) λ stamp. λ bytes5. Some (File n path size stamp, bytes5)))
    ∙ then-number 2 (length path) _ _ fits.1
    ∙ (λ i. then_read (some_bytes (length path) (append_assoc path (big_bytes 8 size ++ big_bytes 8 stamp) rest i)) (λ path. λ bytes3.
    then_read (number 8 bytes3) λ size. λ bytes4.
    then_read (number 8 bytes4) λ stamp. λ bytes5. Some (File n path size stamp, bytes5)))
    ∙ then-bytes path _ _
    ∙ (λ i. then_read (number 8 (append_assoc (big_bytes 8 size) (big_bytes 8 stamp) rest i)) (λ size. λ bytes4.
    then_read (number 8 bytes4) λ stamp. λ bytes5. Some (File n path size stamp, bytes5)))
    ∙ then-number 8 size _ _ fits.2
    ∙ then-number 8 stamp rest _ fits.3

covered-again : (n o l : ℕ) (rest : List ℕ) → Fits (Covered n o l) → covered_entry ((big_bytes 4 n ++ (big_bytes 8 o ++ big_bytes 4 l)) ++ rest) ≡ Some (Covered n o l, rest)
unfolding covered_entry
covered-again n o l rest fits =
    ap covered_entry (append_assoc (big_bytes 4 n) (big_bytes 8 o ++ big_bytes 4 l) rest)
    ∙ then-number 4 n _ _ fits.0
    ∙ (λ i. then_read (number 8 (append_assoc (big_bytes 8 o) (big_bytes 4 l) rest i)) (λ o. λ bytes2.
    then_read (number 4 bytes2) λ l. λ bytes3. Some (Covered n o l, bytes3)))
    ∙ then-number 8 o _ _ fits.1
    ∙ then-number 4 l rest _ fits.2

added-again : (version : ℕ) (fs hs : List NamedFile) (e : LogEntry) (rest : List ℕ) (read : Option (LogEntry × List ℕ)) → read ≡ Some (e, rest) → added version fs e ≡ Some hs
    → (then_read read λ e. λ rest. option_map (λ gs. (gs, rest)) (added version fs e)) ≡ Some (hs, rest)
added-again version fs hs e rest read is adds =
    ap (λ (r : Option (LogEntry × List ℕ)). then_read r λ e. λ rest. option_map (λ gs. (gs, rest)) (added version fs e)) is ∙ ap (option_map (λ gs. (gs, rest))) adds

-- one entry more
entry-again : (version fuel place : ℕ) (fs hs : List NamedFile) (e : LogEntry) (rest : List ℕ) → Fits e → added version fs e ≡ Some hs
    → with_entries version (suc fuel) place fs (spell e ++ rest) ≡ with_entries version fuel (place + (length (spell e ++ rest) - length rest)) hs rest
unfolding with_entries entry_added
entry-again version fuel place fs hs (File n path size stamp) rest fits adds =
    ap (λ (read : Option (List NamedFile × List ℕ)). ok_then (or_bad place read) (λ x. with_entries version fuel (place + (length (spell (File n path size stamp) ++ rest) - length x.1)) x.0 x.1))
    (added-again version fs hs (File n path size stamp) rest _ (file-again n path size stamp rest fits) adds)
entry-again version fuel place fs hs (Covered n o l) rest fits adds =
    ap (λ (read : Option (List NamedFile × List ℕ)). ok_then (or_bad place read) (λ x. with_entries version fuel (place + (length (spell (Covered n o l) ++ rest) - length x.1)) x.0 x.1))
    (added-again version fs hs (Covered n o l) rest _ (covered-again n o l rest fits) adds)

split_added : {A : Type 0} (f : A → Option A) (o : Option A) (z : A) → option_and_then f o ≡ Some z → (y : A) × (o ≡ Some y) × (f y ≡ Some z)
split_added f None z is = absurd (cc)
split_added f (Some y) z is = (y, refl, is)

-- the first entry, and then the others
pub first_added : (version : ℕ) (fs gs : List NamedFile) (e : LogEntry) (es : List LogEntry) → all_added version fs (e ∷ es) ≡ Some gs → (hs : List NamedFile) × (added version fs e ≡ Some hs) × (all_added version hs es ≡ Some gs)
first_added version fs gs e es is = split_added (λ hs. all_added version hs es) (added version fs e) gs is

spell_some : (e : LogEntry) → 1 ≤ length (spell e)
spell_some (File n path size stamp) = omega arith
spell_some (Covered n o l) = omega arith

no_entries : (version fuel place : ℕ) (fs : List NamedFile) → with_entries version fuel place fs [] ≡ Ok fs
unfolding with_entries
no_entries version zero place fs = refl
no_entries version (suc fuel) place fs = refl

entries-again : (version fuel place : ℕ) (fs gs : List NamedFile) (es : List LogEntry) → length (spell_all es) ≤ fuel → AllFit es → all_added version fs es ≡ Some gs → with_entries version fuel place fs (spell_all es) ≡ Ok gs
entries-again version fuel place fs gs [] le fits adds = no_entries version fuel place fs ∙ (let same : fs ≡ gs = cc in ap Ok same)
entries-again version zero place fs gs (e ∷ es) le fits adds = absurd (omega (arith, spell_some e, length-append (spell e) (spell_all es)))
entries-again version (suc fuel) place fs gs (e ∷ es) le fits adds =
    let first = first_added version fs gs e es adds in
    entry-again version fuel place fs first.0 e (spell_all es) fits.0 first.1
    ∙ entries-again version fuel (place + (length (spell e ++ spell_all es) - length (spell_all es))) first.0 gs es (omega (arith, spell_some e, length-append (spell e) (spell_all es))) fits.1 first.2

whole-again : (version place : ℕ) (fs gs : List NamedFile) (es : List LogEntry) (gate : ℕ) (rest : List ℕ) → AllFit es → all_added version fs es ≡ Some gs
    → whole_batch version place fs (spell_all es) (gate ∷ rest) ≡ Ok (record { version = version; place = place + 4 + length (spell_all es); files = gs; byte = gate; rest = rest })
unfolding whole_batch
whole-again version place fs gs es gate rest fits adds =
    ap (λ (r : Result (List NamedFile) ℕ). ok_then r λ hs. Ok (record { version = version; place = place + 4 + length (spell_all es); files = hs; byte = gate; rest = rest }))
    (entries-again version (length (spell_all es)) (place + 4) fs gs es (omega arith) fits adds)

-- behind an open gate a whole batch leads to the next gate
pub batch-again : (version place byte : ℕ) (fs gs : List NamedFile) (es : List LogEntry) (gate : ℕ) (rest : List ℕ) → length (spell_all es) < 256 ^ 4 → AllFit es → all_added version fs es ≡ Some gs
    → next_gate (record { version = version; place = place; files = fs; byte = byte; rest = batch_body es ++ gate ∷ rest }) ≡ Ok (record { version = version; place = place + 1 + 4 + length (spell_all es); files = gs; byte = gate; rest = rest })
batch-again version place byte fs gs es gate rest small fits adds =
    let body = spell_all es in
    let n = length body in
    let sized : number 4 (batch_body es ++ gate ∷ rest) ≡ Some (n, body ++ gate ∷ rest) =
    ap (number 4) (append_assoc (big_bytes 4 n) body (gate ∷ rest)) ∙ number-again 4 n (body ++ gate ∷ rest) small in
    let takes : take n (body ++ gate ∷ rest) ≡ body = take_at body (gate ∷ rest) n refl in
    let drops : drop n (body ++ gate ∷ rest) ≡ gate ∷ rest = drop_at body (gate ∷ rest) n refl in
    ap (sized_batch version (place + 1) fs) sized
    ∙ (λ i. whole_batch version (place + 1) fs (takes i) (drops i))
    ∙ whole-again version (place + 1) fs gs es gate rest fits adds
