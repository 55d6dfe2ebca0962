-- A log at rest means its files in each image, so all that they name and cover is logged.
use Rattle.std.proofs.Common.{◌≡◌, ℕ, true, List, ◌∷◌, ◌++◌, Option, Some, None, Ok, refl, sym, ap, ◌∙◌, subst}
use Rattle.std.specs.Prelude.{option_map}
use Rattle.wdt_units.specs.Tree.{File}
use Rattle.wdt_depot.specs.Disk.{Disk, DiskFile, HasImagesOf, IfFile, Image, IsClean, IsFileImage, IsImage, IsSoundDisk, MayLeave, clean, seen_of}
use Rattle.wdt_depot.proofs.ForCallers.{image_of_clean, seen_is_image}
use Rattle.wdt_logfmt.specs.View.{Meaning, NamedFile, names}
use Rattle.wdt_logfmt.proofs.ForCallers.{means-closed}
use Rattle.wdt_good.specs.Good.{GoodFiles, covers, log_of, log_path, meaning_in}
use Rattle.wdt_good.specs.Logged.{AllFit, LoggedAt, LoggedName}
use Rattle.wdt_good.specs.LogState.{LogOf}
use Rattle.wdt_good.proofs.Images.{ok_files}

-- what a crash leaves of a clean file
left_clean : (o : Option DiskFile) (found : Option (List ℕ)) (bytes : List ℕ) → o ≡ Some (clean bytes) → MayLeave o found → found ≡ Some bytes
left_clean None found bytes is left = absurd (cc)
left_clean (Some t) None bytes is left = absurd left
left_clean (Some t) (Some b) bytes is left =
    let same : t ≡ clean bytes = cc in
    ap Some (image_of_clean bytes b (subst (λ u. IsFileImage u b) same left))

module _ (version : ℕ) (fs : List NamedFile) (end : ℕ) (d : Disk) (log : LogOf version fs end d) where
  -- the bytes of the log in each image
  rest_left : (e : Disk) → e log_path ≡ d log_path → (i : Image) → IsImage e i → i log_path ≡ Some (log.front ++ log.gate ∷ log.behind)
  rest_left e same i image = left_clean (e log_path) (i log_path) (log.front ++ log.gate ∷ log.behind) (same ∙ log.file) (image log_path)

  -- the log's meaning in each image, and in each of another disk with the same log
  pub rest_means : (e : Disk) → e log_path ≡ d log_path → (i : Image) → IsImage e i → log_of i ≡ Ok (record { files = fs; end = end })
  rest_means e same i image =
      ap meaning_in (rest_left e same i image) ∙ means-closed version log.front fs log.gate log.behind log.reaches log.closed
      ∙ ap (λ (n : ℕ). Ok (record { files = fs; end = n })) log.place

  rest_meaning : Meaning
  rest_meaning = record { files = fs; end = end }

  -- the files of the log are good in each image that is good
  pub fit_files : (T : List File) → AllFit T d → (i : Image) → IsImage d i → GoodFiles T i fs
  unfolding rest_meaning
  fit_files T fit i image =
      let good = fit i image in
      subst (GoodFiles T i) (ok_files (log_of i) good.meaning rest_meaning good.means (rest_means d refl i image)) good.files

  pub logged_names : (path : List ℕ) → names fs path ≡ true → LoggedName d path
  logged_names path h i image = (record { files = fs; end = end }, rest_means d refl i image, h)

  pub logged_covers : (path : List ℕ) (k : ℕ) → covers fs path k ≡ true → LoggedAt d path k
  logged_covers path k h i image = (record { files = fs; end = end }, rest_means d refl i image, h)

  -- what one image's log says beside it
  pub said_names : (path : List ℕ) (i : Image) → IsImage d i → LoggedName d path → names fs path ≡ true
  unfolding rest_meaning
  said_names path i image logged =
      let l = logged i image in
      subst (λ hs. names hs path ≡ true) (ok_files (log_of i) l.0 rest_meaning l.1 (rest_means d refl i image)) l.2

  pub said_covers : (path : List ℕ) (k : ℕ) (i : Image) → IsImage d i → LoggedAt d path k → covers fs path k ≡ true
  unfolding rest_meaning
  said_covers path k i image logged =
      let l = logged i image in
      subst (λ hs. covers hs path k ≡ true) (ok_files (log_of i) l.0 rest_meaning l.1 (rest_means d refl i image)) l.2

  pub only_names : IsSoundDisk d → (path : List ℕ) → LoggedName d path → names fs path ≡ true
  only_names sound path logged = said_names path (seen_of d) (seen_is_image d sound) logged

  pub only_covers : IsSoundDisk d → (path : List ℕ) (k : ℕ) → LoggedAt d path k → covers fs path k ≡ true
  only_covers sound path k logged = said_covers path k (seen_of d) (seen_is_image d sound) logged

  -- a log that is the same is at rest
  pub log_stays : (e : Disk) → e log_path ≡ d log_path → LogOf version fs end e
  log_stays e same = record {
    front = log.front;
    gate = log.gate;
    behind = log.behind;
    file = same ∙ log.file;
    place = log.place;
    closed = log.closed;
    reaches = log.reaches;
    view = log.view;
  }

  clean_is : (o : Option DiskFile) (bytes : List ℕ) → option_map (λ (f : DiskFile). f.seen) o ≡ Some bytes → IfFile IsClean o → o ≡ Some (clean bytes)
  clean_is None bytes is all = absurd (cc)
  clean_is (Some f) bytes is all = let same : f.seen ≡ bytes = cc in ap Some (all ∙ ap clean same)

  -- where no image is new and the log is synced, it is the same
  pub log_again : (e : Disk) → HasImagesOf d e → IsSoundDisk e → IfFile IsClean (e log_path) → LogOf version fs end e
  log_again e images sound synced =
      let left = rest_left d refl (seen_of e) (images (seen_of e) (seen_is_image e sound)) in
      log_stays e (clean_is (e log_path) (log.front ++ log.gate ∷ log.behind) left synced ∙ sym log.file)
