-- An image is good where its log means the files of before, or those that they lead to, and all else is as
-- it was.
use Rattle.std.proofs.Common.{◌≡◌, ◌⊎◌, inl, inr, ℕ, ◌^◌, Bool, true, false, List, [], ◌∷◌, ◌++◌, length, Option, Some, None, Result, Ok, refl, sym, ap, ◌∙◌, subst}
use Rattle.std.specs.Prelude.{if◌then◌else◌, option_map, not, nat_lt, nat_le, ◌&&◌, codes}
use Rattle.std.specs.List.{list_all}
use Rattle.std.specs.Str.{bytes_eq}
use Rattle.std.proofs.lemmas.Bool.{and_parts, not-true, or_parts}
use Rattle.std.proofs.lemmas.Slice.Eq.{bytes_eq-Decides}
use Rattle.wdt_units.specs.Path.{is_lawful, is_reserved}
use Rattle.wdt_units.specs.Tree.{File}
use Rattle.wdt_depot.specs.Disk.{Disk, DiskFile, IfFile, Image, IsFileImage, IsImage, IsSound, IsSoundDisk, MayLeave, clean}
use Rattle.wdt_depot.proofs.ForCallers.{clean_image, synced_is_image}
use Rattle.wdt_logfmt.specs.declared.entry.LogEntry.{LogEntry}
use Rattle.wdt_logfmt.specs.View.{Meaning, NamedFile, is_file, is_view, names}
use Rattle.wdt_logfmt.proofs.ForCallers.{batch-view, eq_sym, file_parts, means-closed, view_parts}
use Rattle.wdt_good.specs.Good.{Each, GoodFile, GoodFiles, IsGood, covers, log_of, log_path, meaning_in, new_log_path}
use Rattle.wdt_good.specs.Logged.{AllFit, AllGood, IsRemembered, LoggedAt, LoggedName}
use Rattle.wdt_good.specs.LogState.{LogOf, IsReady}
use Rattle.wdt_good.specs.Leading.{HasLog, Leads, MeansEither}
use Rattle.wdt_good.proofs.Files.{batch_covers, batch_good, batch_names, each_with}

-- what was synced of each file
abbrev synced_of : Disk → Image
synced_of d path = option_map (λ f. f.synced) (d path)

-- the image with other bytes as its log, and what was synced of a new log
abbrev at_rest : Disk → Image → List ℕ → Image
at_rest d i bytes q = if bytes_eq log_path q then Some bytes else (if bytes_eq new_log_path q then synced_of d q else i q)

at_rest-log : (d : Disk) (i : Image) (bytes : List ℕ) → at_rest d i bytes log_path ≡ Some bytes
at_rest-log d i bytes = ap (λ (b : Bool). if b then Some bytes else (if bytes_eq new_log_path log_path then synced_of d log_path else i log_path)) ((bytes_eq-Decides log_path log_path).1 refl)

at_rest-other : (d : Disk) (i : Image) (bytes q : List ℕ) → bytes_eq log_path q ≡ false → bytes_eq new_log_path q ≡ false → at_rest d i bytes q ≡ i q
at_rest-other d i bytes q one two =
    ap (λ (b : Bool). if b then Some bytes else (if bytes_eq new_log_path q then synced_of d q else i q)) one ∙ ap (λ (b : Bool). if b then synced_of d q else i q) two

-- the log's bytes, where they may be left
bytes_left : (d : Disk) (bytes : List ℕ) → IsSoundDisk d → d log_path ≡ Some (clean bytes) → MayLeave (d log_path) (Some bytes)
unfolding clean
bytes_left d bytes sound file =
    let s : IsSound (clean bytes) = subst (λ (o : Option DiskFile). IfFile IsSound o) file (sound log_path) in
    subst (λ (o : Option DiskFile). MayLeave o (Some bytes)) (sym file) (clean_image bytes s.seen_bytes)

at_rest-image : (d e : Disk) (log : DiskFile) (i : Image) (bytes : List ℕ) → IsSoundDisk d → d log_path ≡ Some (clean bytes) → HasLog d log e → IsImage e i → IsImage d (at_rest d i bytes)
at_rest-image d e log i bytes sound file has image q = go (bytes_eq log_path q) (bytes_eq new_log_path q) refl refl
  where
    go : (b c : Bool) → bytes_eq log_path q ≡ b → bytes_eq new_log_path q ≡ c → MayLeave (d q) (if b then Some bytes else (if c then synced_of d q else i q))
    go true c is is2 = subst (λ (p : List ℕ). MayLeave (d p) (Some bytes)) ((bytes_eq-Decides log_path q).0 is) (bytes_left d bytes sound file)
    go false true is is2 = synced_is_image d sound q
    go false false is is2 = subst (λ (o : Option DiskFile). MayLeave o (i q)) (has.others q is is2) (image q)

pub ok_files : (r : Result Meaning ℕ) (m n : Meaning) → r ≡ Ok m → r ≡ Ok n → m.files ≡ n.files
ok_files r m n a b = let same : m ≡ n = cc in ap (λ (x : Meaning). x.files) same

-- the path is none of the log's own
pub record IsOther (path : List ℕ) : Type 0 where
  pub old : bytes_eq log_path path ≡ false
  pub new : bytes_eq new_log_path path ≡ false

other_file : (f : NamedFile) → is_file f ≡ true → IsOther f.have.path
other_file f h =
    let p = file_parts f h in
    let free = (and_parts (nat_lt f.number 262144 && is_lawful f.have.path) (not (is_reserved f.have.path)) (and_parts _ (nat_le f.have.size (2 ^ 40)) p.nameable).0).1 in
    let none = or_parts (bytes_eq f.have.path (codes ".wlog")) (bytes_eq f.have.path (codes ".wlog.new")) (not-true (is_reserved f.have.path) free) in
    record { old = eq_sym log_path f.have.path ∙ none.0; new = eq_sym new_log_path f.have.path ∙ none.1 }

other_files : (fs : List NamedFile) → list_all is_file fs ≡ true → Each (λ f. IsOther f.have.path) fs
other_files [] h = tt
other_files (f ∷ fs) h = let a = and_parts (is_file f) (list_all is_file fs) h in (other_file f a.0, other_files fs a.1)

-- a log names no path of its own
pub view_others : (fs : List NamedFile) → is_view fs ≡ true → Each (λ f. IsOther f.have.path) fs
view_others fs view = other_files fs (view_parts fs view).each

-- files that are good beside one log are good beside another
others_good : (T : List File) (d : Disk) (i : Image) (bytes : List ℕ) (fs : List NamedFile) → is_view fs ≡ true → GoodFiles T (at_rest d i bytes) fs → GoodFiles T i fs
others_good T d i bytes fs view good =
    each_with (λ f. GoodFile T (at_rest d i bytes f.have.path) f) (λ f. IsOther f.have.path) (λ f. GoodFile T (i f.have.path) f) fs
    (λ f h n. subst (λ o. GoodFile T o f) (at_rest-other d i bytes f.have.path n.old n.new) h) good (view_others fs view)

pub ready_leads : (version : ℕ) (T : List File) (forgotten : List (List ℕ)) (fs gs : List NamedFile) (es : List LogEntry) (d : Disk) → is_view fs ≡ true → IsReady version T fs gs es d → Leads T forgotten fs gs d
ready_leads version T forgotten fs gs es d view ready = record {
  fit = ready.fit;
  view = batch-view version fs gs es view ready.adds;
  good = λ i image good. batch_good version T i fs gs es view good (ready.holds i image) ready.adds;
  named = λ path remembered h. batch_names version fs gs es path ready.adds h;
  covered = λ path k remembered h. batch_covers version fs gs es path k view ready.adds h;
}

module _ (version : ℕ) (T : List File) (forgotten : List (List ℕ)) (fs gs : List NamedFile) (end : ℕ) (d e : Disk) (file : DiskFile) (sound : IsSoundDisk d) (log : LogOf version fs end d) (leads : Leads T forgotten fs gs d) (has : HasLog d file e) where
  rest : List ℕ
  rest = log.front ++ log.gate ∷ log.behind

  before : Meaning
  before = record { files = fs; end = length log.front }

  module _ (i : Image) (image : IsImage e i) where
    j : Image
    j = at_rest d i rest

    j-image : IsImage d j
    unfolding j rest
    j-image = at_rest-image d e file i rest sound log.file has image

    j-means : log_of j ≡ Ok before
    unfolding j rest before
    j-means = ap meaning_in (at_rest-log d i rest) ∙ means-closed version log.front fs log.gate log.behind log.reaches log.closed

    j-good : GoodFiles T j fs
    unfolding before
    j-good = let fit = leads.fit j j-image in subst (GoodFiles T j) (ok_files (log_of j) fit.meaning before fit.means j-means) fit.files

    good_before : GoodFiles T i fs
    unfolding j
    good_before = others_good T d i rest fs log.view j-good

    good_after : GoodFiles T i gs
    unfolding j
    good_after = others_good T d i rest gs leads.view (leads.good j j-image j-good)

    named_before : (path : List ℕ) → LoggedName d path → names fs path ≡ true
    unfolding before
    named_before path logged =
        let l = logged j j-image in
        subst (λ hs. names hs path ≡ true) (ok_files (log_of j) l.0 before l.1 j-means) l.2

    covered_before : (path : List ℕ) (k : ℕ) → LoggedAt d path k → covers fs path k ≡ true
    unfolding before
    covered_before path k logged =
        let l = logged j j-image in
        subst (λ hs. covers hs path k ≡ true) (ok_files (log_of j) l.0 before l.1 j-means) l.2

    abbrev GoodNow : Type 0
    GoodNow = IsGood T (λ path. IsRemembered forgotten path × LoggedName d path) (λ path. λ k. IsRemembered forgotten path × LoggedAt d path k) i

    good_as : (m : Meaning) (hs : List NamedFile) → log_of i ≡ Ok m → m.files ≡ hs → GoodFiles T i hs
        → ((path : List ℕ) → IsRemembered forgotten path → names fs path ≡ true → names hs path ≡ true)
        → ((path : List ℕ) (k : ℕ) → IsRemembered forgotten path → covers fs path k ≡ true → covers hs path k ≡ true) → GoodNow
    good_as m hs means same good named covered = record {
      meaning = m;
      means = means;
      files = subst (GoodFiles T i) (sym same) good;
      named = λ path asked. subst (λ xs. names xs path ≡ true) (sym same) (named path asked.0 (named_before path asked.1));
      covered = λ path k asked. subst (λ xs. covers xs path k ≡ true) (sym same) (covered path k asked.0 (covered_before path k asked.1));
    }

    image_good : (m : Meaning) → log_of i ≡ Ok m → (m.files ≡ fs) ⊎ (m.files ≡ gs) → GoodNow
    image_good m means (inl same) = good_as m fs means same good_before (λ path r h. h) (λ path k r h. h)
    image_good m means (inr same) = good_as m gs means same good_after leads.named leads.covered

-- what is left of a file that is there
left_there : (o : Option DiskFile) (found : Option (List ℕ)) (s : DiskFile) → o ≡ Some s → MayLeave o found → (bytes : List ℕ) × (found ≡ Some bytes) × IsFileImage s bytes
left_there None found s is left = absurd (cc)
left_there (Some t) None s is left = absurd left
left_there (Some t) (Some b) s is left = let same : t ≡ s = cc in (b, refl, subst (λ u. IsFileImage u b) same left)

pub log_is_good : (version : ℕ) (T : List File) (forgotten : List (List ℕ)) (fs gs : List NamedFile) (end : ℕ) (d e : Disk) (file : DiskFile) → IsSoundDisk d → LogOf version fs end d → Leads T forgotten fs gs d → HasLog d file e
    → ((bytes : List ℕ) → IsFileImage file bytes → MeansEither fs gs bytes) → AllGood T forgotten d e
log_is_good version T forgotten fs gs end d e file sound log leads has means i image =
    let l = left_there (e log_path) (i log_path) file has.file (image log_path) in
    let m = means l.0 l.2 in
    image_good version T forgotten fs gs end d e file sound log leads has i image m.0 (ap meaning_in l.1 ∙ m.1) m.2

-- what is good for the tree is good for what the disk itself has logged
pub fit_good : (T : List File) (forgotten : List (List ℕ)) (d : Disk) → AllFit T d → AllGood T forgotten d d
fit_good T forgotten d fit i image =
    let good = fit i image in
    record {
      meaning = good.meaning;
      means = good.means;
      files = good.files;
      named = λ path asked. (let l = asked.1 i image in subst (λ hs. names hs path ≡ true) (ok_files (log_of i) l.0 good.meaning l.1 good.means) l.2);
      covered = λ path k asked. (let l = asked.1 i image in subst (λ hs. covers hs path k ≡ true) (ok_files (log_of i) l.0 good.meaning l.1 good.means) l.2);
    }
