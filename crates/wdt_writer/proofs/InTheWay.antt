-- What stands in the way of a block, part by part.
use Rattle.std.proofs.Common.{◌≡◌, ℕ, zero, suc, ◌<◌, ◌≤◌, Bool, true, nat_le, List, [], ◌∷◌, ◌++◌, length, get_or, Option, Some, None, refl, sym, ap, ◌∙◌, subst, arith}
use Rattle.std.specs.Prelude.{if◌then◌else◌, is_some, min, option_map}
use Rattle.std.proofs.lemmas.Bool.{and_from, and_parts, le-leb, leb-true, ne_eqb}
use Rattle.wdt_units.specs.Have.{PlainSpan}
use Rattle.wdt_units.specs.declared.limits.TheConstants.{MAX_FILE_SIZE}
use Rattle.wdt_units.specs.declared.blocks.Block.{Block}
use Rattle.wdt_units.specs.declared.blocks.Header.{Header}
use Rattle.wdt_logfmt.specs.Adding.{span_at}
use Rattle.wdt_logfmt.specs.Batches.{is_known}
use Rattle.wdt_logfmt.specs.Beginning.{KnownFile, first_shared, first_taken, is_taken, known_at, least_position, number_by, number_of, size_fault, size_fault_by, span_of, taken_spans}
use Rattle.wdt_logfmt.specs.Marks.{Marked, spans_at}
use Rattle.wdt_logfmt.specs.View.{NamedFile}
use Rattle.wdt_logfmt.proofs.ForCallers.{new_slot, number_found}
use Rattle.wdt_writer.specs.declared.parts.Part.{Part}
use Rattle.wdt_writer.specs.Answers.{of_fault}
use Rattle.wdt_writer.specs.OnWay.{AreSound}
use Rattle.wdt_writer.specs.PlainWriter.{are_within, blocks_of, part_of}
use Rattle.wdt_writer.specs.Standing.{begun_spans}

-- ---- within the greatest size

within_parts : (parts : List (Option Part)) → ((lane : ℕ) (part : Part) → part_of parts lane ≡ Some part → part.block.offset ≤ MAX_FILE_SIZE) → are_within parts ≡ true
within_parts [] each = refl
within_parts (None ∷ parts) each = within_parts parts (λ lane part there. each (suc lane) part there)
within_parts (Some p ∷ parts) each = and_from (nat_le p.block.offset MAX_FILE_SIZE) (are_within parts) (le-leb p.block.offset MAX_FILE_SIZE (each 0 p refl)) (within_parts parts (λ lane part there. each (suc lane) part there))

-- blocks on their way begin within it
pub within_sound : (known : List (Option KnownFile)) (files : List NamedFile) (parts : List (Option Part)) → AreSound known files parts → are_within parts ≡ true
within_sound known files parts sound = within_parts parts (λ lane part there. (let on = sound.way.each lane part there in omega (arith, on.within, sound.are_files.small part.block.file on.file on.known_as)))

pub within_at : (parts : List (Option Part)) (i : ℕ) (p : Part) (d : Option Part) → are_within parts ≡ true → i < length parts → get_or parts i d ≡ Some p → p.block.offset ≤ MAX_FILE_SIZE
within_at [] i p d within there at = absurd (omega (arith, there))
within_at (None ∷ parts) zero p d within there at = absurd (cc)
within_at (Some q ∷ parts) zero p d within there at =
    let same : q ≡ p = cc in
    subst (λ (x : Part). x.block.offset ≤ MAX_FILE_SIZE) same (leb-true q.block.offset MAX_FILE_SIZE (and_parts (nat_le q.block.offset MAX_FILE_SIZE) (are_within parts) within).0)
within_at (None ∷ parts) (suc i) p d within there at = within_at parts i p d within (omega (arith, there)) at
within_at (Some q ∷ parts) (suc i) p d within there at = within_at parts i p d (and_parts (nat_le q.block.offset MAX_FILE_SIZE) (are_within parts) within).1 (omega (arith, there)) at

-- ---- the least position

min_again : (a b c : ℕ) → min (min a b) c ≡ min a (min b c)
min_again a b c = omega arith

least_again : (x y z : Option ℕ) → least_position (least_position x y) z ≡ least_position x (least_position y z)
least_again None y z = refl
least_again (Some p) None z = refl
least_again (Some p) (Some q) None = refl
least_again (Some p) (Some q) (Some r) = ap (λ (n : ℕ). Some n) (min_again p q r)

shared_append : (ts us : List PlainSpan) (s : PlainSpan) → first_shared (ts ++ us) s ≡ least_position (first_shared ts s) (first_shared us s)
shared_append [] us s = refl
shared_append (t ∷ ts) us s = ap (least_position _) (shared_append ts us s) ∙ sym (least_again _ (first_shared ts s) (first_shared us s))

-- a block that isn't empty
pub taken_some : (ms : List Marked) (parts : List (Option Part)) (b : Block) (r there begun : Option ℕ) (count : ℕ) → (b.length ≡ 0 → ⊥) → r ≡ least_position there begun → there ≡ first_shared (spans_at ms b.file) (span_at b.offset count)
    → begun ≡ first_shared (begun_spans b.file parts) (span_of b) → count ≡ b.length → r ≡ first_taken ms (blocks_of parts) b
taken_some ms parts b r there begun count some is one two same =
    is ∙ (λ i. least_position (one i) (two i)) ∙ ap (λ (n : ℕ). least_position (first_shared (spans_at ms b.file) (span_at b.offset n)) (first_shared (begun_spans b.file parts) (span_of b))) same
    ∙ sym (shared_append (spans_at ms b.file) (begun_spans b.file parts) (span_of b))
    ∙ ap (λ (c : Bool). if c then (if is_taken ms (blocks_of parts) b.file then Some 0 else None) else first_shared (taken_spans ms (blocks_of parts) b.file) (span_of b)) (sym (ne_eqb b.length 0 some))

-- ---- the file

-- a path that isn't known has no other size
pub size_new : (known : List (Option KnownFile)) (h : Header) → number_of known h.path ≡ None → None ≡ option_map of_fault (size_fault known h)
size_new known h none =
    let at : known_at known (number_by known (number_of known h.path)) ≡ None = ap (λ (o : Option ℕ). known_at known (number_by known o)) none ∙ (new_slot known (record { path = []; size = 0; stamp = 0 })).free in
    ap (λ (o : Option KnownFile). option_map of_fault (size_fault_by o h)) (sym at)

-- a path's number is that of a known file
pub known_number_of : (known : List (Option KnownFile)) (path : List ℕ) (n : ℕ) → number_of known path ≡ Some n → is_known known n ≡ true
known_number_of known path n found = ap is_some (number_found known path n found).there
