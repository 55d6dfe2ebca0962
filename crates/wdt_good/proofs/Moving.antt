-- A write beside what is covered, a file that is made beside those that are named, and a sync leave each
-- image good for what was logged.
use Rattle.std.proofs.Common.{◌≡◌, ℕ, ◌+◌, ◌≤◌, Bool, true, false, List, [], ◌∷◌, length, Option, Some, None, refl, sym, ap, ◌∙◌, subst, arith}
use Rattle.std.specs.Prelude.{option_map, IfSome}
use Rattle.std.specs.Str.{bytes_eq}
use Rattle.std.proofs.lemmas.Bool.{or_parts}
use Rattle.std.proofs.lemmas.Slice.Eq.{bytes_eq-Decides}
use Rattle.wdt_units.specs.Tree.{File}
use Rattle.wdt_depot.specs.Disk.{Disk, DiskFile, IfFile, Image, IsSoundDisk, MayLeave, clean, made, seen_of, sync_file, synced_at, write_file, wrote}
use Rattle.wdt_depot.specs.Rewritten.{IsFileRewritten, IsImageRewritten, IsSameElsewhere}
use Rattle.wdt_depot.proofs.ForCallers.{change_back, length-spliced, synced_images, with_file-other, with_file-same, write_back, write_reads}
use Rattle.wdt_logfmt.specs.View.{NamedFile, names}
use Rattle.wdt_logfmt.proofs.ForCallers.{eq_sym}
use Rattle.wdt_good.specs.Changing.{IsClear, IsClearAt, MayWrite, Moves}
use Rattle.wdt_good.specs.Good.{GoodFile, GoodFiles, log_path}
use Rattle.wdt_good.specs.Logged.{AllFit, AllGood}
use Rattle.wdt_good.specs.LogState.{LogOf}
use Rattle.wdt_good.proofs.Resting.{fit_files, rest_means, said_covers, said_names}

-- ---- while the log stays, and its files stay good

module _ (version : ℕ) (T : List File) (forgotten : List (List ℕ)) (fs : List NamedFile) (end : ℕ) (d e : Disk) (log : LogOf version fs end d) (fit : AllFit T d) (moves : Moves T fs d e) where
  pub moved_good : AllGood T forgotten d e
  moved_good i image =
      let beside = moves.back i image in
      record {
        meaning = record { files = fs; end = end };
        means = rest_means version fs end d log e moves.log i image;
        files = beside.2 (fit_files version fs end d log T fit beside.0 beside.1);
        named = λ path asked. said_names version fs end d log path beside.0 beside.1 asked.1;
        covered = λ path k asked. said_covers version fs end d log path k beside.0 beside.1 asked.1;
      }

-- ---- a range of a file is written

abbrev IsShort : ℕ → Option (List ℕ) → Type 0
IsShort size found = IfSome found (λ b. length b ≤ size)

file_rewritten : (T : List File) (size offset count : ℕ) (old new : Option (List ℕ)) (f : NamedFile) → IsFileRewritten offset count old new → IsShort size new → f.have.size ≡ size → IsClear offset count f → GoodFile T old f → GoodFile T new f
file_rewritten T size offset count None None f moved short is clear good = good
file_rewritten T size offset count None (Some b) f moved short is clear good = absurd moved
file_rewritten T size offset count (Some a) None f moved short is clear good = absurd moved
file_rewritten T size offset count (Some a) (Some b) f moved short is clear good = record {
  fits = good.fits;
  stands = subst (λ (n : ℕ). length b ≤ n) (sym is) short;
  same = λ t there long stamp k covered. (let was = good.same t there long stamp k covered in
      let now = moved k was.0 (clear k covered) in
      (now.0, now.1 ∙ was.1));
}

pub files_rewritten : (T : List File) (path : List ℕ) (size offset count : ℕ) (fs : List NamedFile) (j i : Image) → IsImageRewritten path offset count j i → IsShort size (i path) → IsClearAt path size offset count fs → GoodFiles T j fs → GoodFiles T i fs
files_rewritten T path size offset count [] j i moved short clear good = tt
files_rewritten T path size offset count (f ∷ fs) j i moved short clear good = (go (bytes_eq path f.have.path) refl, files_rewritten T path size offset count fs j i moved short clear.1 good.1)
  where
    go : (b : Bool) → bytes_eq path f.have.path ≡ b → GoodFile T (i f.have.path) f
    go true e =
        let same : path ≡ f.have.path = (bytes_eq-Decides path f.have.path).0 e in
        let c = clear.0 (sym same) in
        subst (λ (p : List ℕ). GoodFile T (i p) f) same (file_rewritten T size offset count (j path) (i path) f moved.here short c.0 c.1 (subst (λ (p : List ℕ). GoodFile T (j p) f) (sym same) good.0))
    go false e = subst (λ (o : Option (List ℕ)). GoodFile T o f) (sym (moved.others f.have.path e)) good.0

-- what is left of a file, and what is read of it, isn't longer than the file and the range
left_short : (size offset : ℕ) (bytes : List ℕ) (o : Option DiskFile) (found : Option (List ℕ)) → IfFile (λ f. length f.seen ≤ size) o → offset + length bytes ≤ size → MayLeave (option_map (write_file offset bytes) o) found → IsShort size found
unfolding write_file
left_short size offset bytes None None stands ends left = tt
left_short size offset bytes None (Some b) stands ends left = absurd left
left_short size offset bytes (Some x) None stands ends left = absurd left
left_short size offset bytes (Some x) (Some b) stands ends left = omega (arith, left.no_longer, length-spliced x.seen offset bytes, stands, ends)

read_short : (size offset : ℕ) (bytes : List ℕ) (o : Option DiskFile) → IfFile (λ f. length f.seen ≤ size) o → offset + length bytes ≤ size → IsShort size (option_map (λ (f : DiskFile). f.seen) (option_map (write_file offset bytes) o))
unfolding write_file
read_short size offset bytes None stands ends = tt
read_short size offset bytes (Some x) stands ends = omega (arith, length-spliced x.seen offset bytes, stands, ends)

module _ (path : List ℕ) (size offset : ℕ) (bytes : List ℕ) (fs : List NamedFile) (d : Disk) (may : MayWrite path size offset (length bytes) fs d) where
  new : Option DiskFile
  new = option_map (write_file offset bytes) (d path)

  pub write_moves : (T : List File) → IsSoundDisk d → Moves T fs d (wrote path offset bytes d)
  unfolding new
  write_moves T sound = record {
    log = with_file-other path log_path new d may.other;
    back = λ i image. (let back = write_back path offset bytes d i sound image in
        let left = subst (λ (o : Option DiskFile). MayLeave o (i path)) (with_file-same path new d) (image path) in
        (back.0, back.1, λ good. files_rewritten T path size offset (length bytes) fs back.0 i back.2 (left_short size offset bytes (d path) (i path) may.stands may.ends left) may.clear good));
  }

  -- files that are good as they are read stay so
  pub write_keeps_reads : (T : List File) → GoodFiles T (seen_of d) fs → GoodFiles T (seen_of (wrote path offset bytes d)) fs
  unfolding new
  write_keeps_reads T good =
      let short = subst (λ (o : Option DiskFile). IsShort size (option_map (λ (f : DiskFile). f.seen) o)) (sym (with_file-same path new d)) (read_short size offset bytes (d path) may.stands may.ends) in
      files_rewritten T path size offset (length bytes) fs (seen_of d) (seen_of (wrote path offset bytes d)) (write_reads path offset bytes d) short may.clear good

-- ---- a file is made

pub files_elsewhere : (T : List File) (path : List ℕ) (fs : List NamedFile) (j i : Image) → IsSameElsewhere path j i → names fs path ≡ false → GoodFiles T j fs → GoodFiles T i fs
files_elsewhere T path [] j i same none good = tt
files_elsewhere T path (f ∷ fs) j i same none good =
    let n = or_parts (bytes_eq f.have.path path) (names fs path) none in
    (subst (λ (o : Option (List ℕ)). GoodFile T o f) (sym (same f.have.path (eq_sym path f.have.path ∙ n.0))) good.0, files_elsewhere T path fs j i same n.1 good.1)

module _ (path : List ℕ) (fs : List NamedFile) (d : Disk) (none : names fs path ≡ false) where
  pub make_moves : (T : List File) → IsSoundDisk d → bytes_eq path log_path ≡ false → Moves T fs d (made path d)
  make_moves T sound other = record {
    log = with_file-other path log_path (Some (clean [])) d other;
    back = λ i image. (let back = change_back path (Some (clean [])) d i sound image in (back.0, back.1, λ good. files_elsewhere T path fs back.0 i back.2 none good));
  }

  pub make_keeps_reads : (T : List File) → GoodFiles T (seen_of d) fs → GoodFiles T (seen_of (made path d)) fs
  make_keeps_reads T good =
      files_elsewhere T path fs (seen_of d) (seen_of (made path d)) (λ other e. ap (option_map (λ (f : DiskFile). f.seen)) (with_file-other path other (Some (clean [])) d e)) none good

-- ---- a file is synced

pub sync_moves : (path : List ℕ) (fs : List NamedFile) (d : Disk) (T : List File) → IsSoundDisk d → bytes_eq path log_path ≡ false → Moves T fs d (synced_at path d)
sync_moves path fs d T sound other = record {
  log = with_file-other path log_path (option_map sync_file (d path)) d other;
  back = λ i image. (i, synced_images path d sound i image, λ good. good);
}
