-- Entries as the code reads them, against their definition.
use Rattle.std.proofs.Common.{◌≡◌, inl, inr, ℕ, zero, suc, ◌+◌, ◌-◌, ◌<◌, ◌≤◌, Bool, List, [], ◌∷◌, length, get_or, take, drop, Option, Some, None, Ok, Err, refl, sym, ap, ◌∙◌, subst, arith, add-one, length-drop}
use Rattle.std.specs.Prelude.{if◌then◌else◌, ◌==◌, option_map}
use Rattle.std.specs.Option.{IfSome}
use Rattle.std.proofs.lemmas.Bool.{le-leb, lt-leb, cases_lt, ne_eqb}
use Rattle.std.proofs.lemmas.List.{drop-drop, drop_all}
use Rattle.byteorder.specs.Endian.{big_number}
use Rattle.wdt_logfmt.specs.declared.entry.LogEntry.{LogEntry}
use Rattle.wdt_logfmt.specs.declared.entry.LogEntry.TheVariants.{File, Covered}
use Rattle.wdt_logfmt.specs.View.{NamedFile}
use Rattle.wdt_logfmt.specs.Adding.{added}
use Rattle.wdt_logfmt.specs.Meaning.{Reading, number, some_bytes, then_read, file_entry, covered_entry, entry_of, read_added, entry_added, ok_then, or_bad, with_entries}
use Rattle.wdt_logfmt.specs.Parts.{front_added, with_kind, with_rest}

pub number-is : (n : ℕ) (bytes : List ℕ) → n ≤ length bytes → number n bytes ≡ Some (big_number n bytes, drop n bytes)
unfolding number
number-is n bytes le = ap (λ (b : Bool). if b then Some (big_number n bytes, drop n bytes) else None) (le-leb n (length bytes) le)

pub number-none : (n : ℕ) (bytes : List ℕ) → length bytes < n → number n bytes ≡ None
unfolding number
number-none n bytes lt = ap (λ (b : Bool). if b then Some (big_number n bytes, drop n bytes) else None) (lt-leb n (length bytes) lt)

bytes-is : (n : ℕ) (bytes : List ℕ) → n ≤ length bytes → some_bytes n bytes ≡ Some (take n bytes, drop n bytes)
unfolding some_bytes
bytes-is n bytes le = ap (λ (b : Bool). if b then Some (take n bytes, drop n bytes) else None) (le-leb n (length bytes) le)

bytes-none : (n : ℕ) (bytes : List ℕ) → length bytes < n → some_bytes n bytes ≡ None
unfolding some_bytes
bytes-none n bytes lt = ap (λ (b : Bool). if b then Some (take n bytes, drop n bytes) else None) (lt-leb n (length bytes) lt)

after-number : {B : Type 0} (n : ℕ) (bytes : List ℕ) (f : ℕ → Reading B) → n ≤ length bytes → then_read (number n bytes) f ≡ f (big_number n bytes) (drop n bytes)
after-number n bytes f le = ap (λ r. then_read r f) (number-is n bytes le)

no-number : {B : Type 0} (n : ℕ) (bytes : List ℕ) (f : ℕ → Reading B) → length bytes < n → then_read (number n bytes) f ≡ None
no-number n bytes f lt = ap (λ r. then_read r f) (number-none n bytes lt)

after-bytes : {B : Type 0} (n : ℕ) (bytes : List ℕ) (f : List ℕ → Reading B) → n ≤ length bytes → then_read (some_bytes n bytes) f ≡ f (take n bytes) (drop n bytes)
after-bytes n bytes f le = ap (λ r. then_read r f) (bytes-is n bytes le)

no-bytes : {B : Type 0} (n : ℕ) (bytes : List ℕ) (f : List ℕ → Reading B) → length bytes < n → then_read (some_bytes n bytes) f ≡ None
no-bytes n bytes f lt = ap (λ r. then_read r f) (bytes-none n bytes lt)

-- ---- the fields of a file's entry

-- behind the path
sized : ℕ → List ℕ → Reading LogEntry
sized n path bytes3 = then_read (number 8 bytes3) λ size. λ bytes4. then_read (number 8 bytes4) λ stamp. λ bytes5. Some (File n path size stamp, bytes5)

-- behind the number and the path's length
named : ℕ → ℕ → Reading LogEntry
named n long bytes2 = then_read (some_bytes long bytes2) λ path. λ bytes3. sized n path bytes3

file-is : (bytes : List ℕ) (long : ℕ) → long ≡ big_number 2 (drop 4 bytes) → 6 ≤ length bytes → long + 16 ≤ length (drop 6 bytes)
    → file_entry bytes ≡ Some (File (big_number 4 bytes) (take long (drop 6 bytes)) (big_number 8 (drop long (drop 6 bytes))) (big_number 8 (drop (long + 8) (drop 6 bytes))), drop (long + 22) bytes)
unfolding file_entry named sized
file-is bytes long is six enough =
    let two : drop 2 (drop 4 bytes) ≡ drop 6 bytes = drop-drop 2 4 bytes in
    let eight : drop 8 (drop long (drop 6 bytes)) ≡ drop (long + 8) (drop 6 bytes) = drop-drop 8 long (drop 6 bytes) in
    let last : drop 8 (drop (long + 8) (drop 6 bytes)) ≡ drop (long + 22) bytes = drop-drop 8 (long + 8) (drop 6 bytes) ∙ drop-drop (long + 8 + 8) 6 bytes ∙ ap (λ k. drop k bytes) (let e : 6 + (long + 8 + 8) ≡ long + 22 = omega arith in e) in
    after-number 4 bytes _ (omega arith)
    ∙ after-number 2 (drop 4 bytes) _ (omega (arith, length-drop 4 bytes))
    ∙ (λ i. named (big_number 4 bytes) (sym is i) (two i))
    ∙ after-bytes long (drop 6 bytes) _ (omega arith)
    ∙ after-number 8 (drop long (drop 6 bytes)) _ (omega (arith, length-drop long (drop 6 bytes)))
    ∙ (λ i. then_read (number 8 (eight i)) λ stamp. λ bytes5. Some (File (big_number 4 bytes) (take long (drop 6 bytes)) (big_number 8 (drop long (drop 6 bytes))) stamp, bytes5))
    ∙ after-number 8 (drop (long + 8) (drop 6 bytes)) _ (omega (arith, length-drop (long + 8) (drop 6 bytes)))
    ∙ (λ i. Some (File (big_number 4 bytes) (take long (drop 6 bytes)) (big_number 8 (drop long (drop 6 bytes))) (big_number 8 (drop (long + 8) (drop 6 bytes))), last i))

file-short : (bytes : List ℕ) → length bytes < 6 → file_entry bytes ≡ None
unfolding file_entry
file-short bytes lt = elim (cases_lt (length bytes) 4) [
  | inl few ↦ no-number 4 bytes _ few
  | inr four ↦ after-number 4 bytes _ four ∙ no-number 2 (drop 4 bytes) _ (omega (arith, length-drop 4 bytes))
]

sized-none : (n : ℕ) (path bytes : List ℕ) → length bytes < 16 → sized n path bytes ≡ None
unfolding sized
sized-none n path bytes lt = elim (cases_lt (length bytes) 8) [
  | inl few ↦ no-number 8 bytes _ few
  | inr eight ↦ after-number 8 bytes _ eight ∙ no-number 8 (drop 8 bytes) _ (omega (arith, length-drop 8 bytes))
]

named-none : (n long : ℕ) (bytes : List ℕ) → length bytes < long + 16 → named n long bytes ≡ None
unfolding named
named-none n long bytes lt = elim (cases_lt (length bytes) long) [
  | inl few ↦ no-bytes long bytes _ few
  | inr enough ↦ after-bytes long bytes _ enough ∙ sized-none n (take long bytes) (drop long bytes) (omega (arith, length-drop long bytes))
]

file-cut : (bytes : List ℕ) (long : ℕ) → long ≡ big_number 2 (drop 4 bytes) → 6 ≤ length bytes → length (drop 6 bytes) < long + 16 → file_entry bytes ≡ None
unfolding file_entry named sized
file-cut bytes long is six lt =
    let two : drop 2 (drop 4 bytes) ≡ drop 6 bytes = drop-drop 2 4 bytes in
    after-number 4 bytes _ (omega arith)
    ∙ after-number 2 (drop 4 bytes) _ (omega (arith, length-drop 4 bytes))
    ∙ (λ i. named (big_number 4 bytes) (sym is i) (two i))
    ∙ named-none (big_number 4 bytes) long (drop 6 bytes) lt

-- ---- the fields of a covered span

covered-is : (bytes : List ℕ) → 16 ≤ length bytes → covered_entry bytes ≡ Some (Covered (big_number 4 bytes) (big_number 8 (drop 4 bytes)) (big_number 4 (drop 12 bytes)), drop 16 bytes)
unfolding covered_entry
covered-is bytes le =
    let twelve : drop 8 (drop 4 bytes) ≡ drop 12 bytes = drop-drop 8 4 bytes in
    let last : drop 4 (drop 12 bytes) ≡ drop 16 bytes = drop-drop 4 12 bytes in
    after-number 4 bytes _ (omega arith)
    ∙ after-number 8 (drop 4 bytes) _ (omega (arith, length-drop 4 bytes))
    ∙ (λ i. then_read (number 4 (twelve i)) λ count. λ bytes3. Some (Covered (big_number 4 bytes) (big_number 8 (drop 4 bytes)) count, bytes3))
    ∙ after-number 4 (drop 12 bytes) _ (omega (arith, length-drop 12 bytes))
    ∙ (λ i. Some (Covered (big_number 4 bytes) (big_number 8 (drop 4 bytes)) (big_number 4 (drop 12 bytes)), last i))

covered-short : (bytes : List ℕ) → length bytes < 16 → covered_entry bytes ≡ None
unfolding covered_entry
covered-short bytes lt = elim (cases_lt (length bytes) 4) [
  | inl few ↦ no-number 4 bytes _ few
  | inr four ↦ after-number 4 bytes _ four ∙ elim (cases_lt (length bytes) 12) [
    | inl less ↦ no-number 8 (drop 4 bytes) _ (omega (arith, length-drop 4 bytes))
    | inr more ↦ after-number 8 (drop 4 bytes) _ (omega (arith, length-drop 4 bytes)) ∙ no-number 4 (drop 8 (drop 4 bytes)) _ (omega (arith, length-drop 8 (drop 4 bytes), length-drop 4 bytes))
  ]
]

-- ---- what was read and added

pub added-one : (fs : List NamedFile) (read : Option (LogEntry × List ℕ)) (e : LogEntry) (bytes : List ℕ) (n : ℕ) (after : Option (List NamedFile)) → read ≡ Some (e, drop n bytes) → after ≡ added 1 fs e
    → with_rest bytes (option_map (λ gs. (n, gs)) after) ≡ read_added 1 fs read
added-one fs read e bytes n after is adds =
    ap (λ (o : Option (List NamedFile)). with_rest bytes (option_map (λ gs. (n, gs)) o)) adds ∙ same (added 1 fs e) ∙ sym (ap (read_added 1 fs) is)
  where
    same : (o : Option (List NamedFile)) → with_rest bytes (option_map (λ gs. (n, gs)) o) ≡ option_map (λ gs. (gs, drop n bytes)) o
    same None = refl
    same (Some gs) = refl

pub file-read : (fs : List NamedFile) (bytes : List ℕ) (long : ℕ) (after : Option (List NamedFile)) → long ≡ big_number 2 (drop 4 bytes) → 6 ≤ length bytes → long + 16 ≤ length (drop 6 bytes)
    → after ≡ added 1 fs (File (big_number 4 bytes) (take long (drop 6 bytes)) (big_number 8 (drop long (drop 6 bytes))) (big_number 8 (drop (long + 8) (drop 6 bytes))))
    → with_rest bytes (option_map (λ gs. (long + 22, gs)) after) ≡ read_added 1 fs (file_entry bytes)
file-read fs bytes long after is six enough adds = added-one fs (file_entry bytes) _ bytes (long + 22) after (file-is bytes long is six enough) adds

pub file-unread : (fs : List NamedFile) (bytes : List ℕ) → length bytes < 6 → None ≡ read_added 1 fs (file_entry bytes)
file-unread fs bytes lt = sym (ap (read_added 1 fs) (file-short bytes lt))

pub file-torn : (fs : List NamedFile) (bytes : List ℕ) (long : ℕ) → long ≡ big_number 2 (drop 4 bytes) → 6 ≤ length bytes → length (drop 6 bytes) < long + 16 → None ≡ read_added 1 fs (file_entry bytes)
file-torn fs bytes long is six lt = sym (ap (read_added 1 fs) (file-cut bytes long is six lt))

pub covered-read : (fs : List NamedFile) (bytes : List ℕ) (after : Option (List NamedFile)) → 16 ≤ length bytes → after ≡ added 1 fs (Covered (big_number 4 bytes) (big_number 8 (drop 4 bytes)) (big_number 4 (drop 12 bytes)))
    → with_rest bytes (option_map (λ gs. (16, gs)) after) ≡ read_added 1 fs (covered_entry bytes)
covered-read fs bytes after le adds = added-one fs (covered_entry bytes) _ bytes 16 after (covered-is bytes le) adds

pub covered-unread : (fs : List NamedFile) (bytes : List ℕ) → length bytes < 16 → None ≡ read_added 1 fs (covered_entry bytes)
covered-unread fs bytes lt = sym (ap (read_added 1 fs) (covered-short bytes lt))

-- ---- an entry behind the byte of its kind

behind : (kind : ℕ) (fields : List ℕ) (read : Option (ℕ × List NamedFile)) → with_rest (kind ∷ fields) (with_kind read) ≡ with_rest fields read
behind kind fields None = refl
behind kind fields (Some x) = ap (λ l. Some (x.1, l)) (ap (λ n. drop n (kind ∷ fields)) (add-one x.0))

pub file-first : (fs : List NamedFile) (bytes : List ℕ) (read : Option (ℕ × List NamedFile)) → 0 < length bytes → get_or bytes 0 0 ≡ 0x46 → with_rest (drop 1 bytes) read ≡ read_added 1 fs (file_entry (drop 1 bytes))
    → with_rest bytes (with_kind read) ≡ front_added 1 fs bytes
unfolding entry_added
file-first fs [] read some is h = absurd (omega arith)
file-first fs (kind ∷ fields) read some is h = behind kind fields read ∙ h ∙ sym (ap (λ k. read_added 1 fs (entry_of k fields)) is)

pub covered-first : (fs : List NamedFile) (bytes : List ℕ) (read : Option (ℕ × List NamedFile)) → 0 < length bytes → get_or bytes 0 0 ≡ 0x4D → with_rest (drop 1 bytes) read ≡ read_added 1 fs (covered_entry (drop 1 bytes))
    → with_rest bytes (with_kind read) ≡ front_added 1 fs bytes
unfolding entry_added
covered-first fs [] read some is h = absurd (omega arith)
covered-first fs (kind ∷ fields) read some is h = behind kind fields read ∙ h ∙ sym (ap (λ k. read_added 1 fs (entry_of k fields)) is)

pub unknown-first : (fs : List NamedFile) (bytes : List ℕ) → 0 < length bytes → (get_or bytes 0 0 ≡ 0x46 → ⊥) → (get_or bytes 0 0 ≡ 0x4D → ⊥) → None ≡ front_added 1 fs bytes
unfolding entry_added
unknown-first fs [] some a b = absurd (omega arith)
unknown-first fs (kind ∷ fields) some a b =
    sym (ap (λ (t : Bool). read_added 1 fs (if t then file_entry fields else if kind == 0x4D then covered_entry fields else None)) (ne_eqb kind 0x46 a)
    ∙ ap (λ (t : Bool). read_added 1 fs (if t then covered_entry fields else None)) (ne_eqb kind 0x4D b))

-- ---- the entries of a batch

-- behind a place of the batch the entries lead on
abbrev pub Leads : ℕ → List NamedFile → List ℕ → ℕ → List NamedFile → Type 0
Leads place start body at fs = (fuel : ℕ) × (length body ≤ at + fuel) × (with_entries 1 (length body) place start body ≡ with_entries 1 fuel (place + at) fs (drop at body))

pub leads-first : (place : ℕ) (start : List NamedFile) (body : List ℕ) → Leads place start body 0 start
leads-first place start body = (length body, omega arith, ap (λ k. with_entries 1 (length body) k start body) (let e : place ≡ place + 0 = omega arith in e))

step : (fuel place n : ℕ) (fs gs : List NamedFile) (bytes : List ℕ) → 0 < length bytes → n ≤ length bytes → Some (gs, drop n bytes) ≡ front_added 1 fs bytes → with_entries 1 (suc fuel) place fs bytes ≡ with_entries 1 fuel (place + n) gs (drop n bytes)
unfolding with_entries
step fuel place n fs gs [] some le is = absurd (omega arith)
step fuel place n fs gs (kind ∷ bytes) some le is =
    sym (ap (λ (o : Option (List NamedFile × List ℕ)). ok_then (or_bad place o) λ x. with_entries 1 fuel (place + (suc (length bytes) - length x.1)) x.0 x.1) is)
    ∙ ap (λ k. with_entries 1 fuel (place + k) gs (drop n (kind ∷ bytes))) (let e : suc (length bytes) - length (drop n (kind ∷ bytes)) ≡ n = omega (arith, length-drop n (kind ∷ bytes)) in e)

stop : (fuel place : ℕ) (fs : List NamedFile) (bytes : List ℕ) → 0 < length bytes → None ≡ front_added 1 fs bytes → with_entries 1 fuel place fs bytes ≡ Err place
unfolding with_entries
stop fuel place fs [] some is = absurd (omega arith)
stop zero place fs (kind ∷ bytes) some is = refl
stop (suc fuel) place fs (kind ∷ bytes) some is =
    sym (ap (λ (o : Option (List NamedFile × List ℕ)). ok_then (or_bad place o) λ x. with_entries 1 fuel (place + (suc (length bytes) - length x.1)) x.0 x.1) is)

nothing : (fuel place : ℕ) (fs : List NamedFile) → with_entries 1 fuel place fs [] ≡ Ok fs
unfolding with_entries
nothing zero place fs = refl
nothing (suc fuel) place fs = refl

pub leads-more : (place : ℕ) (start : List NamedFile) (body : List ℕ) (at n : ℕ) (fs gs : List NamedFile) → at < length body → 0 < n → n ≤ length (drop at body) → Some (gs, drop n (drop at body)) ≡ front_added 1 fs (drop at body)
    → Leads place start body at fs → Leads place start body (at + n) gs
leads-more place start body at n fs gs lt some le is (zero, few, same) = absurd (omega arith)
leads-more place start body at n fs gs lt some le is (suc fuel, few, same) =
    let long = length-drop at body in
    let moved : drop n (drop at body) ≡ drop (at + n) body = drop-drop n at body in
    let there : place + at + n ≡ place + (at + n) = omega arith in
    (fuel, omega arith, same ∙ step fuel (place + at) n fs gs (drop at body) (omega arith) le is ∙ (λ i. with_entries 1 fuel (there i) gs (moved i)))

pub leads-nowhere : (place : ℕ) (start : List NamedFile) (body : List ℕ) (at : ℕ) (fs : List NamedFile) → at < length body → None ≡ front_added 1 fs (drop at body) → Leads place start body at fs
    → with_entries 1 (length body) place start body ≡ Err (place + at)
leads-nowhere place start body at fs lt is (fuel, few, same) = same ∙ stop fuel (place + at) fs (drop at body) (omega (arith, length-drop at body)) is

pub leads-out : (place : ℕ) (start : List NamedFile) (body : List ℕ) (at : ℕ) (fs : List NamedFile) → length body ≤ at → Leads place start body at fs → with_entries 1 (length body) place start body ≡ Ok fs
leads-out place start body at fs le (fuel, few, same) =
    let none : drop at body ≡ [] = drop_all at body le in
    same ∙ ap (with_entries 1 fuel (place + at) fs) none ∙ nothing fuel (place + at) fs

pub some-length : (read : Option (ℕ × List NamedFile)) (n most : ℕ) (gs : List NamedFile) → read ≡ Some (n, gs) → IfSome read (λ (x : ℕ × List NamedFile). (0 < x.0) × (x.0 ≤ most)) → (0 < n) × (n ≤ most)
some-length read n most gs is h = subst (λ (o : Option (ℕ × List NamedFile)). IfSome o (λ (x : ℕ × List NamedFile). (0 < x.0) × (x.0 ≤ most))) is h
