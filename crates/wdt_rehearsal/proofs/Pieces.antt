-- A block that is read piece by piece.
use Rattle.std.proofs.Common.{◌≡◌, ℕ, ◌+◌, ◌≤◌, List, [], ◌++◌, length, take, drop, true, Result, Option, Some, None, IfSome, refl, sym, ap, ◌∙◌, append_assoc, arith, subst}
use Rattle.std.proofs.lemmas.List.{append-nil, length-append, drop-drop}
use Rattle.std.proofs.Math.Seq.{take-add}
use Rattle.std.proofs.lemmas.Bool.{leb-true, le-leb}
use Rattle.wdt_units.specs.Tree.{File, file_of}
use Rattle.wdt_source.specs.declared.failure.SourceFail.{SourceFail}
use Rattle.wdt_source.specs.Told.{IsRead, HasSlip, is_within, is_within_file}
use Rattle.wdt_rehearsal.specs.Landing.{AddsBlock}

-- nothing was read of a block that is within its file
none-read : (files : List File) (path : List ℕ) (offset count : ℕ) → is_within_file files path offset count ≡ true → IsRead files path offset []
none-read files path offset count within = go (file_of files path) refl within
  where
    go : (found : Option File) → file_of files path ≡ found → is_within found offset count ≡ true → IsRead files path offset []
    go None e h = absurd cc
    go (Some file) e h = record { file = file; found = e; within = omega (arith, leb-true (offset + count) (length file.bytes) h); same = refl }

-- one more piece
more-read : (files : List File) (path : List ℕ) (offset : ℕ) (bytes piece : List ℕ) → IsRead files path offset bytes → IsRead files path (offset + length bytes) piece → IsRead files path offset (bytes ++ piece)
more-read files path offset bytes piece a b =
    let one : a.file ≡ b.file = let e : Some a.file ≡ Some b.file = sym a.found ∙ b.found in cc in
    let long : length (bytes ++ piece) ≡ length bytes + length piece = length-append bytes piece in
    let rest : piece ≡ take (length piece) (drop (length bytes) (drop offset a.file.bytes)) =
    b.same ∙ ap (λ (f : File). take (length piece) (drop (offset + length bytes) f.bytes)) (sym one) ∙ ap (take (length piece)) (sym (drop-drop (length bytes) offset a.file.bytes)) in
    record {
      file = a.file;
      found = a.found;
      within = let w : offset + length bytes + length piece ≤ length a.file.bytes = subst (λ (f : File). offset + length bytes + length piece ≤ length f.bytes) (sym one) b.within in omega (arith, long, w);
      same = ap (λ x. x ++ piece) a.same ∙ ap (λ x. take (length bytes) (drop offset a.file.bytes) ++ x) rest ∙ sym (take-add (length bytes) (length piece) (drop offset a.file.bytes)) ∙ ap (λ n. take n (drop offset a.file.bytes)) (sym long);
    }

told-none : (told : Option (List File)) (path : List ℕ) (offset count : ℕ) → IfSome told (λ files. is_within_file files path offset count ≡ true) → IfSome told (λ files. IsRead files path offset [])
told-none None path offset count h = tt
told-none (Some files) path offset count h = none-read files path offset count h

told-more : (told : Option (List File)) (path : List ℕ) (offset : ℕ) (bytes piece : List ℕ) → IfSome told (λ files. IsRead files path offset bytes)
    → IfSome told (λ files. IsRead files path (offset + length bytes) piece) → IfSome told (λ files. IsRead files path offset (bytes ++ piece))
told-more None path offset bytes piece a b = tt
told-more (Some files) path offset bytes piece a b = more-read files path offset bytes piece a b

pub adds-none : (told : Option (List File)) (path : List ℕ) (offset count : ℕ) (old : List ℕ) → IfSome told (λ files. is_within_file files path offset count ≡ true) → AddsBlock told path offset 0 old old
adds-none told path offset count old within = record { bytes = []; added = sym (append-nil old); long = refl; read = told-none told path offset count within }

pub adds-more : (told : Option (List File)) (path : List ℕ) (offset done count : ℕ) (old mid new piece : List ℕ) → AddsBlock told path offset done old mid
    → new ≡ mid ++ piece → length piece ≡ count → IfSome told (λ files. IsRead files path (offset + done) piece) → AddsBlock told path offset (done + count) old new
adds-more told path offset done count old mid new piece so_far is long read = record {
  bytes = so_far.bytes ++ piece;
  added = is ∙ ap (λ x. x ++ piece) so_far.added ∙ append_assoc old so_far.bytes piece;
  long = omega (arith, length-append so_far.bytes piece, so_far.long, long);
  read = told-more told path offset so_far.bytes piece so_far.read (subst (λ n. IfSome told (λ files. IsRead files path (offset + n) piece)) (sym so_far.long) read);
}

-- a piece of a block that is within its file is within it
within-part : (found : Option File) (offset count done part : ℕ) → is_within found offset count ≡ true → done + part ≤ count → is_within found (offset + done) part ≡ true
within-part None offset count done part h le = absurd cc
within-part (Some file) offset count done part h le = le-leb (offset + done + part) (length file.bytes) (omega (arith, leb-true (offset + count) (length file.bytes) h))

pub told-part : (told : Option (List File)) (path : List ℕ) (offset count done part : ℕ) → IfSome told (λ files. is_within_file files path offset count ≡ true) → done + part ≤ count
    → IfSome told (λ files. is_within_file files path (offset + done) part ≡ true)
told-part None path offset count done part h le = tt
told-part (Some files) path offset count done part h le = within-part (file_of files path) offset count done part h le

-- a read within its file is no slip
pub no-slip : {R : Type 0} (told : Option (List File)) (path : List ℕ) (offset count : ℕ) (result : Result R SourceFail) (old new : ℕ) → IfSome told (λ files. is_within_file files path offset count ≡ true)
    → IfSome told (λ files. HasSlip (is_within_file files path offset count) result old new) → IfSome told (λ files. new ≡ old)
no-slip None path offset count result old new within slips = tt
no-slip (Some files) path offset count result old new within slips = slips.kept within

-- counts that stood twice stood
pub stood : (told : Option (List File)) (a b c : ℕ) → IfSome told (λ files. b ≡ a) → IfSome told (λ files. c ≡ b) → IfSome told (λ files. c ≡ a)
stood None a b c h k = tt
stood (Some files) a b c h k = k ∙ h
