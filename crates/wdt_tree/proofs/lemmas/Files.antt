-- What a rising list of files has at a path.
use Rattle.std.proofs.Common.{◌≡◌, ℕ, true, false, List, [], ◌∷◌, length, map, Option, Some, None, refl, sym, ap, ◌∙◌, zero, suc, slice_get}
use Rattle.std.specs.List.{list_all}
use Rattle.std.specs.Option.{option_map}
use Rattle.std.specs.Str.{bytes_eq}
use Rattle.std.proofs.lemmas.Slice.Eq.{bytes_eq-Decides}
use Rattle.std.proofs.lemmas.Option.{slice_get-map}
use Rattle.std.proofs.lemmas.Bool.{and_parts}
use Rattle.wdt_units.proofs.Shared.{before_differs, list_all-at}
use Rattle.wdt_tree.specs.declared.entry.Entry.{Entry}
use Rattle.wdt_units.specs.Tree.{File, is_below, is_rising, is_tree, file_of}
use Rattle.wdt_tree.specs.Shown.{entry_of_file}

-- the file at a place is the file of its path
pub file_of-at : (files : List File) (k : ℕ) (file : File) → is_rising files ≡ true → slice_get files k ≡ Some file → file_of files file.path ≡ Some file
unfolding file_of
file_of-at [] k file up at = cc
file_of-at (x ∷ xs) zero file up at =
    let e : x ≡ file = cc in
    let same : bytes_eq x.path file.path ≡ true = rw e ((bytes_eq-Decides file.path file.path).1 refl) in
    rw same at
file_of-at (x ∷ xs) (suc k) file up at =
    let parts = and_parts (list_all (is_below x) xs) (is_rising xs) up in
    let other : bytes_eq x.path file.path ≡ false = before_differs x.path file.path (list_all-at (is_below x) xs k file parts.0 at) in
    rw other (file_of-at xs k file parts.1 at)

pub rising : (files : List File) → is_tree files ≡ true → is_rising files ≡ true
unfolding is_tree
rising files h = (and_parts _ (is_rising files) h).1

same_file : (a b : File) → a.path ≡ b.path → a.stamp ≡ b.stamp → a.bytes ≡ b.bytes → a ≡ b
same_file a b path stamp bytes =
    let by_path : List ℕ → File = λ (x : List ℕ). record { path = x; stamp = a.stamp; bytes = a.bytes } in
    let by_stamp : ℕ → File = λ (x : ℕ). record { path = b.path; stamp = x; bytes = a.bytes } in
    let by_bytes : List ℕ → File = λ (x : List ℕ). record { path = b.path; stamp = b.stamp; bytes = x } in
    ap by_path path ∙ ap by_stamp stamp ∙ ap by_bytes bytes

-- a file that has an entry's path, stamp and size and the bytes of the file of that path
pub file_from_entry : (files : List File) (k : ℕ) (entry : Entry) (file : File) → is_rising files ≡ true → slice_get (map entry_of_file files) k ≡ Some entry
    → file.path ≡ entry.path → file.stamp ≡ entry.stamp
    → ((told : File) → file_of files entry.path ≡ Some told → entry.size ≡ length told.bytes → file.bytes ≡ told.bytes)
    → slice_get files k ≡ Some file
file_from_entry files k entry file up at path stamp bytes =
    go (slice_get files k) refl (sym (slice_get-map entry_of_file files k) ∙ at)
  where
    go : (found : Option File) → slice_get files k ≡ found → option_map entry_of_file found ≡ Some entry → slice_get files k ≡ Some file
    go None e h = cc
    go (Some told) e h =
        let same : entry_of_file told ≡ entry = cc in
        let here : file_of files told.path ≡ Some told = file_of-at files k told up e in
        let p : told.path ≡ entry.path = ap (λ (x : Entry). x.path) same in
        let s : told.stamp ≡ entry.stamp = ap (λ (x : Entry). x.stamp) same in
        let z : length told.bytes ≡ entry.size = ap (λ (x : Entry). x.size) same in
        let there : file_of files entry.path ≡ Some told = rw (sym p) here in
        let b : file.bytes ≡ told.bytes = bytes told there (sym z) in
        let whole : told ≡ file = same_file told file (p ∙ sym path) (s ∙ sym stamp) (sym b) in
        e ∙ ap Some whole
