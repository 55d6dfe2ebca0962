-- Behind a finish the tree has arrived.
use Rattle.std.proofs.Common.{◌≡◌, ◌⊎◌, inl, inr, ℕ, zero, suc, ◌<◌, true, List, [], ◌∷◌, length, map, sum_by, get_or, Option, Some, None}
use Rattle.std.proofs.Common.{Bool, false, if◌then◌else◌, refl, sym, ap, ◌∙◌, subst, arith, bytes_eq}
use Rattle.std.specs.Prelude.{IfSome}
use Rattle.std.specs.List.{list_all}
use Rattle.std.proofs.lemmas.Bool.{and_parts}
use Rattle.std.proofs.lemmas.List.{length-map}
use Rattle.std.proofs.lemmas.List.Sums.{sum_by-cons}
use Rattle.std.proofs.lemmas.Slice.Eq.{bytes_eq-Decides}
use Rattle.wdt_units.specs.declared.blocks.Block.{Block}
use Rattle.wdt_units.specs.Tree.{File, file_of, length_of}
use Rattle.wdt_depot.specs.Disk.{Disk, Image, seen_of}
use Rattle.wdt_ranges.specs.Spans.{has}
use Rattle.wdt_logfmt.specs.Batches.{entries_of, files_behind}
use Rattle.wdt_logfmt.specs.Marks.{byte_count, bytes_in as marked_bytes, files_in, marked_of}
use Rattle.wdt_logfmt.specs.Spelling.{written_version}
use Rattle.wdt_logfmt.specs.View.{NamedFile, bytes_in, is_file, is_view}
use Rattle.wdt_logfmt.proofs.ForCallers.{file_parts, view_parts}
use Rattle.wdt_good.specs.Good.{Each, GoodFile, GoodFiles, HasBytes, Stands}
use Rattle.wdt_good.specs.LogState.{LogOf}
use Rattle.wdt_good.specs.Logged.{AllFit}
use Rattle.wdt_good.proofs.ForCallers.{fit_files}
use Rattle.wdt_receiver_fsm.specs.Batched.{IsBatched}
use Rattle.wdt_receiver_fsm.specs.Logging.{log_after}
use Rattle.wdt_receiver_fsm.specs.PlainReceiver.{PlainReceiver, has_finish, marks_at}
use Rattle.wdt_receiver_fsm.specs.Receiver.{IsReceiver}
use Rattle.wdt_receiver_fsm.specs.ReceiverHistory.{end_of}
use Rattle.wdt_receiver_fsm.proofs.ForCallers.{marks_logged}
use Rattle.wdt_arrival.specs.Arrival.{HasArrived, HasTree, totals_of}
use Rattle.wdt_arrival.proofs.Counting.{IsOf, all_whole, each_among, first_file, is_or_not, no_file}
use Rattle.wdt_arrival.proofs.Covering.{all_there, few_there}
use Rattle.wdt_arrival.proofs.Whole.{finish_whole}

-- ---- a file that is covered whole

same_bytes : (xs ys : List ℕ) → length xs ≡ length ys → ((k : ℕ) → k < length ys → get_or xs k 0 ≡ get_or ys k 0) → xs ≡ ys
same_bytes [] [] count same = refl
same_bytes [] (y ∷ ys) count same = absurd (omega (arith, count))
same_bytes (x ∷ xs) [] count same = absurd (omega (arith, count))
same_bytes (x ∷ xs) (y ∷ ys) count same =
    let first : x ≡ y = same 0 (omega arith) in
    let rest = same_bytes xs ys (omega (arith, count)) (λ k lt. same (suc k) (omega (arith, lt))) in
    ap (λ z. z ∷ xs) first ∙ ap (λ zs. y ∷ zs) rest

-- what stands no longer than the file's size, and has the file's byte at each position, is the file
whole_bytes : (found : Option (List ℕ)) (f : NamedFile) (bytes : List ℕ) → Stands found f → HasBytes found bytes f.have.spans → length bytes ≡ f.have.size
    → ((k : ℕ) → k < f.have.size → has f.have.spans k ≡ true) → found ≡ Some bytes
whole_bytes None f bytes stands has size all = absurd stands
whole_bytes (Some xs) f bytes stands has size all =
    let at : (k : ℕ) → k < length bytes → (k < length xs) × (get_or xs k 0 ≡ get_or bytes k 0) = λ k lt. has k (all k (omega (arith, lt, size))) in
    ap Some (same_bytes xs bytes (long (length bytes) refl at) (λ k lt. (at k lt).1))
  where
    long : (n : ℕ) → n ≡ length bytes → ((k : ℕ) → k < length bytes → (k < length xs) × (get_or xs k 0 ≡ get_or bytes k 0)) → length xs ≡ length bytes
    long zero is at = omega (arith, stands, size, is)
    long (suc n) is at = omega (arith, stands, size, is, (at n (omega (arith, is))).0)

-- a file that is found has the path
path_of : (T : List File) (path : List ℕ) (file : File) → file_of T path ≡ Some file → file.path ≡ path
path_of [] path file there = let none : None ≡ Some file = sym (no_file path) ∙ there in absurd (cc)
path_of (t ∷ T) path file there = go (is_or_not (bytes_eq t.path path)) (path_of T path file) where
  go : (bytes_eq t.path path ≡ true) ⊎ (bytes_eq t.path path ≡ false) → (file_of T path ≡ Some file → file.path ≡ path) → file.path ≡ path
  go (inl is) more =
      let same : Some t ≡ Some file = sym (first_file t T path ∙ ap (λ (b : Bool). if b then Some t else file_of T path) is) ∙ there in
      let first : t ≡ file = cc in
      subst (λ (u : File). u.path ≡ path) first ((bytes_eq-Decides t.path path).0 is)
  go (inr ne) more = more (sym (first_file t T path ∙ ap (λ (b : Bool). if b then Some t else file_of T path) ne) ∙ there)

-- ---- an image

-- each file is one that a log can name
all_files : (fs : List NamedFile) → list_all is_file fs ≡ true → Each (λ f. is_file f ≡ true) fs
all_files [] all = tt
all_files (f ∷ fs) all = let both = and_parts (is_file f) (list_all is_file fs) all in (both.0, all_files fs both.1)

each_of : (T : List File) (i : Image) (fs : List NamedFile) → Each (λ f. is_file f ≡ true) fs → GoodFiles T i fs → Each (IsOf T) fs
each_of T i [] files good = tt
each_of T i (f ∷ fs) files good =
    let parts = file_parts f files.0 in (
      record {
        file = good.0.fits.file;
        there = good.0.fits.there;
        within = omega
            (arith, few_there f.have.size f.have.spans parts.apart parts.within, good.0.fits.size);
      },
      each_of T i fs files.1 good.1,
    )

-- a file that is covered whole and good in an image stands there
stands_in : (T : List File) (i : Image) (path : List ℕ) (file : File) → file_of T path ≡ Some file → (f : NamedFile) → f.have.path ≡ file.path
    → bytes_in f ≡ length file.bytes
    → GoodFile T (i f.have.path) f → is_file f ≡ true → i path ≡ Some file.bytes
stands_in T i path file there f path_is bytes good can =
    let same_path : f.have.path ≡ path = path_is ∙ path_of T path file there in
    let here : file_of T f.have.path ≡ Some file = ap (file_of T) same_path ∙ there in
    let found : Some good.fits.file ≡ Some file = sym good.fits.there ∙ here in
    let is : good.fits.file ≡ file = cc in
    let size : length file.bytes ≡ f.have.size = ap (λ (t : File). length t.bytes) (sym is) ∙ good.fits.size in
    let stamp : file.stamp ≡ f.have.stamp = ap (λ (t : File). t.stamp) (sym is) ∙ good.fits.stamp in
    let parts = file_parts f can in
    subst (λ (q : List ℕ). i q ≡ Some file.bytes) same_path
    (whole_bytes (i f.have.path) f file.bytes good.stands (good.same file here size stamp) size
    (all_there f.have.size f.have.spans parts.apart parts.within (bytes ∙ size)))

module _ (T : List File) (fs : List NamedFile) (view : is_view fs ≡ true) (count : length fs ≡ length T) (bytes : sum_by bytes_in fs ≡ sum_by length_of T) where
  -- files that are as many as the tree's, with as many bytes, and good in an image: the image has the tree
  has_tree : (i : Image) → GoodFiles T i fs → HasTree T i
  has_tree i good path file there =
      let files = all_files fs (view_parts fs view).each in
      let whole = all_whole T fs (view_parts fs view).paths (each_of T i fs files good) count bytes path file there in
      stands_in T i path file there whole.named whole.path whole.bytes (each_among (λ g. GoodFile T (i g.have.path) g) fs whole.named good whole.among)
      (each_among (λ g. is_file g ≡ true) fs whole.named files whole.among)

-- ---- a finished receiver

marked_total : (fs : List NamedFile) → sum_by byte_count (map marked_of fs) ≡ sum_by bytes_in fs
marked_total [] = refl
marked_total (f ∷ fs) = omega (arith, sum_by-cons byte_count (marked_of f) (map marked_of fs), sum_by-cons bytes_in f fs, marked_total fs)

module _ (T : List File) (r : PlainReceiver) (d : Disk) (is : IsReceiver r) (batched : IsBatched r) (finish : has_finish r ≡ true) (told : IfSome
    (end_of r.history).sized (λ sized. sized ≡ totals_of T))
    (log : LogOf written_version r.log.files r.log.end d) (fit : AllFit T d) (landed : GoodFiles T (seen_of d) (log_after r).files) where
  abbrev fs : List NamedFile
  fs = r.log.files

  totals : (files_in (marks_at r), marked_bytes (marks_at r)) ≡ totals_of T
  totals = subst (λ (o : Option (ℕ × ℕ)). IfSome o (λ sized. sized ≡ totals_of T)) (finish_whole r is finish) told

  marks : marks_at r ≡ map marked_of fs
  marks = marks_logged r batched (is.finished finish)

  count : length fs ≡ length T
  count = sym (length-map fs marked_of) ∙ ap (λ ms. length ms) (sym marks) ∙ ap (λ (p : ℕ × ℕ). p.0) totals

  bytes : sum_by bytes_in fs ≡ sum_by length_of T
  bytes = sym (marked_total fs) ∙ ap (λ ms. marked_bytes ms) (sym marks) ∙ ap (λ (p : ℕ × ℕ). p.1) totals

  read : GoodFiles T (seen_of d) fs
  read = subst (λ (bs : List Block). GoodFiles T (seen_of d) (files_behind fs (entries_of r.known fs bs))) (is.finished finish) landed

  pub arrived : HasArrived T d
  arrived = record {
    reads = has_tree T fs log.view count bytes (seen_of d) read;
    images = λ i image. has_tree T fs log.view count bytes i (fit_files written_version fs r.log.end d log T fit i image);
  }
