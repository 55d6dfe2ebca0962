-- Files are synced, one after another, until each image has of them what is read; then a batch holds.
use Rattle.std.proofs.Common.{◌≡◌, ◌⊎◌, inl, inr, ℕ, false, List, [], ◌∷◌, ◌++◌, Option, Some, refl, sym, ◌∙◌, subst}
use Rattle.std.specs.Prelude.{option_map}
use Rattle.std.specs.Str.{bytes_eq}
use Rattle.wdt_units.specs.Tree.{File}
use Rattle.wdt_depot.specs.Disk.{Disk, Image, IsImage, IsSoundDisk, seen_of, sync_file, synced_at}
use Rattle.wdt_depot.proofs.ForCallers.{synced_image_here, synced_images, synced_reads, with_file-other}
use Rattle.wdt_logfmt.specs.declared.entry.LogEntry.{LogEntry}
use Rattle.wdt_logfmt.specs.Adding.{all_added}
use Rattle.wdt_logfmt.specs.View.{NamedFile}
use Rattle.wdt_good.specs.Good.{Each, GoodFile, GoodFiles, log_path}
use Rattle.wdt_good.specs.Growing.{IsAmong}
use Rattle.wdt_good.specs.Logged.{AllFit}
use Rattle.wdt_good.specs.LogState.{IsReady, LogOf}
use Rattle.wdt_good.specs.Sweeping.{AreStill, IsStill, Keeps, Swept}
use Rattle.wdt_good.proofs.Batches.{each_in, good_holds}
use Rattle.wdt_good.proofs.Resting.{fit_files}

-- ---- what is kept

pub keeps_itself : (d : Disk) → Keeps d d
keeps_itself d = record { log = refl; images = λ i image. image; reads = λ path. refl }

pub keeps_more : (d e f : Disk) → Keeps d e → Keeps e f → Keeps d f
keeps_more d e f a b = record { log = b.log ∙ a.log; images = λ i image. a.images i (b.images i image); reads = λ path. b.reads path ∙ a.reads path }

pub sync_keeps : (path : List ℕ) (d : Disk) → bytes_eq path log_path ≡ false → IsSoundDisk d → Keeps d (synced_at path d)
sync_keeps path d other sound = record {
  log = with_file-other path log_path (option_map sync_file (d path)) d other;
  images = synced_images path d sound;
  reads = synced_reads path d;
}

pub sync_still : (path : List ℕ) (d : Disk) → IsStill (synced_at path d) path
sync_still path d i image = synced_image_here path d i image ∙ sym (synced_reads path d path)

pub still_on : (d e : Disk) (path : List ℕ) → Keeps d e → IsStill d path → IsStill e path
still_on d e path keeps still i image = still i (keeps.images i image) ∙ sym (keeps.reads path)

all_still_on : (d e : Disk) (paths : List (List ℕ)) → Keeps d e → Each (IsStill d) paths → Each (IsStill e) paths
all_still_on d e [] keeps all = tt
all_still_on d e (path ∷ paths) keeps all = (still_on d e path keeps all.0, all_still_on d e paths keeps all.1)

each_push : {A : Type 0} (P : A → Type 0) (xs : List A) (x : A) → Each P xs → P x → Each P (xs ++ x ∷ [])
each_push P [] x all p = (p, tt)
each_push P (y ∷ xs) x all p = (all.0, each_push P xs x all.1 p)

-- one file more is synced
pub swept_more : (paths : List (List ℕ)) (path : List ℕ) (d e f : Disk) → Swept paths d e → Keeps e f → IsStill f path → Swept (paths ++ path ∷ []) d f
swept_more paths path d e f swept keeps still = record {
  keeps = keeps_more d e f swept.keeps keeps;
  still = each_push (IsStill f) paths path (all_still_on e f paths keeps swept.still) still;
}

-- files that are good as they are read stay so where all is read as before
pub reads_good : (T : List File) (fs : List NamedFile) (d e : Disk) → Keeps d e → GoodFiles T (seen_of d) fs → GoodFiles T (seen_of e) fs
reads_good T [] d e keeps good = tt
reads_good T (f ∷ fs) d e keeps good = (subst (λ (o : Option (List ℕ)). GoodFile T o f) (sym (keeps.reads f.have.path)) good.0, reads_good T fs d e keeps good.1)

-- ---- a batch on what was synced

still_files : (T : List File) (fs gs : List NamedFile) (d : Disk) (i : Image) → IsImage d i → GoodFiles T i fs → GoodFiles T (seen_of d) gs → AreStill fs gs d → GoodFiles T i gs
still_files T fs [] d i image logged reads still = tt
still_files T fs (g ∷ gs) d i image logged reads still = (go still.0, still_files T fs gs d i image logged reads.1 still.1)
  where
    go : IsStill d g.have.path ⊎ IsAmong g fs → GoodFile T (i g.have.path) g
    go (inl here) = subst (λ (o : Option (List ℕ)). GoodFile T o g) (sym (here i image)) reads.0
    go (inr among) = each_in (λ f. GoodFile T (i f.have.path) f) fs g logged among

module _ (version : ℕ) (T : List File) (fs gs : List NamedFile) (end : ℕ) (d : Disk) (log : LogOf version fs end d) (fit : AllFit T d) (reads : GoodFiles T (seen_of d) gs) (still : AreStill fs gs d) where
  pub still_good : (i : Image) → IsImage d i → GoodFiles T i gs
  still_good i image = still_files T fs gs d i image (fit_files version fs end d log T fit i image) reads still

  pub still_ready : (es : List LogEntry) → all_added version fs es ≡ Some gs → IsReady version T fs gs es d
  still_ready es adds = record { fit = fit; adds = adds; holds = λ i image. good_holds version T i fs gs es log.view adds (still_good i image) }
