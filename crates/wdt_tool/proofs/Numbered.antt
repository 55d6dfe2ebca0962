-- Each block of a plan is of a file of the tree.
use Rattle.std.proofs.Common.{◌≡◌, ℕ, zero, suc, ◌+◌, ◌<◌, Bool, true, false, cond, List, [], ◌∷◌, length, refl, arith}
use Rattle.std.specs.List.{All}
use Rattle.std.proofs.lemmas.List.Elements.{All-nil, All-push, All-append, All-weaker}
use Rattle.wdt_units.specs.Have.{HaveFile, PlainSpan}
use Rattle.wdt_units.specs.declared.blocks.Block.{Block}
use Rattle.wdt_tree.specs.declared.entry.Entry.{Entry}
use Rattle.wdt_rest.specs.RestOf.{empty_block, file_rest, first_pieces, gap_pieces, gaps_in, is_new_empty, piece_at, pieces_in, rest_from, rest_of}
use Rattle.wdt_tool.specs.PlanLines.{AreOfTree}

abbrev IsOf : ℕ → Block → Type 0
IsOf file b = b.file ≡ file

pieces-file : (most file : ℕ) (gap : PlainSpan) (n : ℕ) → All (IsOf file) (first_pieces most file gap n)
pieces-file most file gap zero = All-nil (IsOf file)
pieces-file most file gap (suc n) = All-push (IsOf file) (first_pieces most file gap n) (piece_at most file gap n) (pieces-file most file gap n) refl

gaps-file : (most file : ℕ) (gaps : List PlainSpan) → All (IsOf file) (gap_pieces most file gaps)
gaps-file most file [] = All-nil (IsOf file)
gaps-file most file (gap ∷ gaps) = All-append (IsOf file) (first_pieces most file gap (pieces_in most gap)) (gap_pieces most file gaps) (pieces-file most file gap (pieces_in most gap)) (gaps-file most file gaps)

either-file : (b : Bool) (file : ℕ) (blocks : List Block) → All (IsOf file) blocks → All (IsOf file) (cond b (empty_block file ∷ []) blocks)
either-file true file blocks h = All-push (IsOf file) [] (empty_block file) (All-nil (IsOf file)) refl
either-file false file blocks h = h

rest-files-from : (have : List HaveFile) (most file : ℕ) (entries : List Entry) → All (λ (b : Block). b.file < file + length entries) (rest_from have most file entries)
rest-files-from have most file [] = All-nil (λ (b : Block). b.file < file + 0)
rest-files-from have most file (entry ∷ entries) =
    let P : Block → Type 0 = λ b. b.file < file + length (entry ∷ entries) in
    All-append P (file_rest have most file entry) (rest_from have most (file + 1) entries)
    (All-weaker (IsOf file) P (λ b is. omega (arith, is)) (file_rest have most file entry) (either-file (is_new_empty have entry) file (gap_pieces most file (gaps_in have entry)) (gaps-file most file (gaps_in have entry))))
    (All-weaker (λ (b : Block). b.file < file + 1 + length entries) P (λ b below. omega (arith, below)) (rest_from have most (file + 1) entries) (rest-files-from have most (file + 1) entries))

pub rest-files : (entries : List Entry) (have : List HaveFile) (most : ℕ) → AreOfTree entries (rest_of entries have most)
rest-files entries have most = All-weaker (λ (b : Block). b.file < 0 + length entries) (λ (b : Block). b.file < length entries) (λ b below. omega (arith, below)) (rest_of entries have most) (rest-files-from have most 0 entries)
