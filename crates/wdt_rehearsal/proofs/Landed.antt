-- Files that land one after the other.
use Rattle.std.proofs.Common.{◌≡◌, ℕ, ◌+◌, ◌<◌, ◌≤◌, List, [], ◌∷◌, ◌++◌, length, map, take, Option, Some, None, IfSome, true, IsTrue, refl, sym, ap, ◌∙◌, subst, slice_get, arith}
use Rattle.std.proofs.lemmas.List.{take_more, take_all, map-append, length-map, length-append}
use Rattle.std.proofs.lemmas.Option.{slice_get-map, slice_get_within, get_or_from_slice_get}
use Rattle.std.proofs.lemmas.Bool.{le-leb}
use Rattle.std.proofs.Math.Seq.{take-add}
use Rattle.std.specs.Option.{option_map}
use Rattle.wdt_units.specs.Tree.{File, file_of, is_tree}
use Rattle.wdt_tree.specs.Shown.{entry_of_file}
use Rattle.wdt_tree.specs.declared.entry.Entry.{Entry}
use Rattle.wdt_tree.proofs.Shared.{file_from_entry, file_of-at, rising}
use Rattle.wdt_source.specs.Told.{IsRead, is_within, is_within_file}
use Rattle.wdt_rehearsal.specs.Landing.{AddsBlock, HasSize, HasBytes}

-- ---- one file

-- the bytes are the first ones of a file of this size
abbrev pub IsFront : Option File → ℕ → List ℕ → Type 0
IsFront None size bytes = ⊥
IsFront (Some file) size bytes = (length file.bytes ≡ size) × (bytes ≡ take (length bytes) file.bytes)

-- the same, where files are told
abbrev pub IsToldFront : Option (List File) → List ℕ → ℕ → List ℕ → Type 0
IsToldFront told path size bytes = IfSome told (λ files. IsFront (file_of files path) size bytes)

front_begins : (found : Option File) (size : ℕ) → HasSize found size → IsFront found size []
front_begins None size h = h
front_begins (Some file) size h = (h, refl)

pub told-begins : (told : Option (List File)) (path : List ℕ) (size : ℕ) → IfSome told (λ files. HasSize (file_of files path) size) → IsToldFront told path size []
told-begins None path size h = tt
told-begins (Some files) path size h = front_begins (file_of files path) size h

front_grows : (files : List File) (path : List ℕ) (size : ℕ) (old bytes new : List ℕ) → IsFront (file_of files path) size old → new ≡ old ++ bytes → IsRead files path (length old) bytes → IsFront (file_of files path) size new
front_grows files path size old bytes new front is read =
    let here : IsFront (Some read.file) size old = subst (λ (f : Option File). IsFront f size old) read.found front in
    let all : old ++ bytes ≡ take (length old + length bytes) read.file.bytes =
    ap (λ x. x ++ bytes) here.1 ∙ ap (λ x. take (length old) read.file.bytes ++ x) read.same ∙ sym (take-add (length old) (length bytes) read.file.bytes) in
    let long : length old + length bytes ≡ length new = sym (ap length is ∙ length-append old bytes) in
    subst (λ (f : Option File). IsFront f size new) (sym read.found) (here.0, is ∙ all ∙ ap (λ n. take n read.file.bytes) long)

pub told-grows : (told : Option (List File)) (path : List ℕ) (size count offset : ℕ) (old new : List ℕ) → offset ≡ length old → IsToldFront told path size old → AddsBlock told path offset count old new → IsToldFront told path size new
told-grows None path size count offset old new at front adds = tt
told-grows (Some files) path size count offset old new at front adds = front_grows files path size old adds.bytes new front adds.added (subst (λ n. IsRead files path n adds.bytes) at adds.read)

front_within : (found : Option File) (size offset count : ℕ) (bytes : List ℕ) → IsFront found size bytes → offset + count ≤ size → is_within found offset count ≡ true
front_within None size offset count bytes front le = absurd front
front_within (Some file) size offset count bytes front le = le-leb (offset + count) (length file.bytes) (omega (arith, front.0))

-- a block within a file's size is within the file
pub told-within : (told : Option (List File)) (path : List ℕ) (size offset count : ℕ) (bytes : List ℕ) → IsToldFront told path size bytes → offset + count ≤ size → IfSome told (λ files. is_within_file files path offset count ≡ true)
told-within None path size offset count bytes front le = tt
told-within (Some files) path size offset count bytes front le = front_within (file_of files path) size offset count bytes front le

take_whole : (xs : List ℕ) → take (length xs) xs ≡ xs
take_whole [] = refl
take_whole (x ∷ xs) = ap (λ ys. x ∷ ys) (take_whole xs)

front_ends : (found : Option File) (size : ℕ) (bytes : List ℕ) → IsFront found size bytes → length bytes ≡ size → HasBytes found bytes
front_ends None size bytes front e = front
front_ends (Some file) size bytes front e = front.1 ∙ ap (λ n. take n file.bytes) (e ∙ sym front.0) ∙ take_whole file.bytes

pub told-ends : (told : Option (List File)) (path : List ℕ) (size : ℕ) (bytes : List ℕ) → IsToldFront told path size bytes → length bytes ≡ size → IfSome told (λ files. HasBytes (file_of files path) bytes)
told-ends None path size bytes front e = tt
told-ends (Some files) path size bytes front e = front_ends (file_of files path) size bytes front e

-- ---- file after file

size_of_file : (found : Option File) (told : File) (size : ℕ) → found ≡ Some told → length told.bytes ≡ size → HasSize found size
size_of_file None told size e h = absurd cc
size_of_file (Some file) told size e h = let same : file ≡ told = cc in ap (λ (f : File). length f.bytes) same ∙ h

same_entry : (a b : Entry) → a.path ≡ b.path → a.size ≡ b.size → a.stamp ≡ b.stamp → a ≡ b
same_entry a b path size stamp =
    let by_path : List ℕ → Entry = λ (x : List ℕ). record { path = x; size = a.size; stamp = a.stamp } in
    let by_size : ℕ → Entry = λ (x : ℕ). record { path = b.path; size = x; stamp = a.stamp } in
    let by_stamp : ℕ → Entry = λ (x : ℕ). record { path = b.path; size = b.size; stamp = x } in
    ap by_path path ∙ ap by_size size ∙ ap by_stamp stamp

-- the file of an entry of a told tree has its size
pub told-size : (told : Option (List File)) (entries : List Entry) (at : ℕ) (entry : Entry) → IfSome told (λ files. IsTrue (is_tree files)) → IfSome told (λ files. entries ≡ map entry_of_file files)
    → slice_get entries at ≡ Some entry → IfSome told (λ files. HasSize (file_of files entry.path) entry.size)
told-size None entries at entry tree same here = tt
told-size (Some files) entries at entry tree same here =
    go (slice_get files at) refl (sym (slice_get-map entry_of_file files at) ∙ ap (λ (es : List Entry). slice_get es at) (sym same) ∙ here)
  where
    go : (found : Option File) → slice_get files at ≡ found → option_map entry_of_file found ≡ Some entry → HasSize (file_of files entry.path) entry.size
    go None e h = absurd cc
    go (Some file) e h =
        let is : entry_of_file file ≡ entry = cc in
        let path : file.path ≡ entry.path = ap (λ (x : Entry). x.path) is in
        let size : length file.bytes ≡ entry.size = ap (λ (x : Entry). x.size) is in
        size_of_file (file_of files entry.path) file entry.size (ap (file_of files) (sym path) ∙ file_of-at files at file (rising files tree) e) size

-- the files so far are the first of the told ones
abbrev pub AreFirst : Option (List File) → ℕ → List File → Type 0
AreFirst told at landed = IfSome told (λ files. landed ≡ take at files)

pub first-more : (told : Option (List File)) (entries : List Entry) (at : ℕ) (landed : List File) (entry : Entry) (file : File)
    → IfSome told (λ files. IsTrue (is_tree files)) → IfSome told (λ files. entries ≡ map entry_of_file files) → slice_get entries at ≡ Some entry → AreFirst told at landed
    → file.path ≡ entry.path → file.stamp ≡ entry.stamp → IfSome told (λ files. HasBytes (file_of files entry.path) file.bytes)
    → AreFirst told (at + 1) (landed ++ file ∷ [])
first-more None entries at landed entry file tree same here first path stamp bytes = tt
first-more (Some files) entries at landed entry file tree same here first path stamp bytes =
    let there : slice_get (map entry_of_file files) at ≡ Some entry = rw (sym same) here in
    let got : slice_get files at ≡ Some file = file_from_entry files at entry file (rising files tree) there path stamp (λ told e z. has (file_of files entry.path) told e bytes) in
    let within : at < length files = slice_get_within files at file got in
    rw (first, take_more files at file within, get_or_from_slice_get files at file file got) refl
  where
    has : (found : Option File) (told : File) → found ≡ Some told → HasBytes found file.bytes → file.bytes ≡ told.bytes
    has None told e h = absurd h
    has (Some other) told e h = let eq : other ≡ told = cc in h ∙ ap (λ (f : File). f.bytes) eq

-- the entries of what landed are the first of the manifest
pub entries-more : (landed : List File) (file : File) (entries : List Entry) (at : ℕ) (entry : Entry)
    → map entry_of_file landed ≡ take at entries → slice_get entries at ≡ Some entry
    → file.path ≡ entry.path → file.stamp ≡ entry.stamp → length file.bytes ≡ entry.size
    → map entry_of_file (landed ++ file ∷ []) ≡ take (at + 1) entries
entries-more landed file entries at entry so_far here path stamp size =
    let e : entry_of_file file ≡ entry = same_entry (entry_of_file file) entry path size stamp in
    let within : at < length entries = slice_get_within entries at entry here in
    rw (map-append entry_of_file landed (file ∷ []), so_far, e, take_more entries at entry within, get_or_from_slice_get entries at entry entry here) refl

-- all of them
pub first-all : (told : Option (List File)) (entries : List Entry) (at : ℕ) (landed : List File) → at ≡ length entries → IfSome told (λ files. entries ≡ map entry_of_file files)
    → AreFirst told at landed → IfSome told (λ files. landed ≡ files)
first-all None entries at landed end same first = tt
first-all (Some files) entries at landed end same first =
    let count : at ≡ length files = end ∙ ap length same ∙ length-map files entry_of_file in
    first ∙ rw count (whole files)
  where
    whole : (xs : List File) → take (length xs) xs ≡ xs
    whole [] = refl
    whole (x ∷ xs) = ap (λ (ys : List File). x ∷ ys) (whole xs)

-- the first entries, as many as there are, are all
pub all-entries : (entries : List Entry) (at : ℕ) (landed : List Entry) → at ≡ length entries → landed ≡ take at entries → landed ≡ entries
all-entries entries at landed end first = first ∙ take_all at entries (omega arith)
