-- A block lands: what a writer keeps behind it, and what it is seen as.
use Rattle.std.proofs.Common.{◌≡◌, ℕ, zero, suc, ◌+◌, ◌<◌, ◌≤◌, Bool, true, false, nat_lt, List, [], ◌∷◌, ◌++◌, length, map, sum_by, take, drop, get_or, Option, Some, None, refl, sym, ap, ◌∙◌, subst, arith}
use Rattle.std.specs.Prelude.{cond, if◌then◌else◌, is_some, slice_set, IsSome, ◌==◌}
use Rattle.std.specs.List.{list_all}
use Rattle.std.proofs.lemmas.Bool.{and_from, and_parts, eqb-true, ltb-true}
use Rattle.std.proofs.lemmas.List.Sums.{sum_by-cons}
use Rattle.std.proofs.Math.Seq.{drop-cons}
use Rattle.std.specs.BTreeSet.{insert_key}
use Rattle.std.specs.Ordering.{match_ordering, nat_cmp}
use Rattle.std.specs.declared.cmp.Ordering.TheVariants.{Less, Equal, Greater}
use Rattle.wdt_units.specs.declared.limits.TheConstants.{MAX_FILE_SIZE}
use Rattle.wdt_units.specs.declared.blocks.Block.{Block}
use Rattle.wdt_units.specs.declared.numbers.Lane.{Lane}
use Rattle.wdt_logfmt.specs.declared.entry.LogEntry.{LogEntry}
use Rattle.wdt_logfmt.specs.Batches.{block_entries, files_behind, files_or, has_known_file, have_known_files, is_known, numbers_of, path_at, path_by, put_number}
use Rattle.wdt_logfmt.specs.Beginning.{KnownFile, known_at, length_of}
use Rattle.wdt_logfmt.specs.Marks.{bytes_in, marked_of}
use Rattle.wdt_logfmt.specs.View.{NamedFile}
use Rattle.wdt_files.specs.PlainFiles.{AreLawful, PlainFiles, with_landed}
use Rattle.wdt_writer.specs.declared.landing.Last.{Last}
use Rattle.wdt_writer.specs.declared.parts.Part.{Part}
use Rattle.wdt_writer.specs.Kept.{IsLandable, IsWriting, laid, writer_of, written}
use Rattle.wdt_writer.specs.OnWay.{AreSound, IsOnWay}
use Rattle.wdt_writer.specs.PlainWriter.{begun_at, lands, part_of, part_or}
use Rattle.wdt_writer.proofs.Laying.{bytes_laid}
use Rattle.wdt_writer.proofs.OnParts.{length_set, part_below}
use Rattle.wdt_writer.proofs.Settling.{settles}

-- ---- lists

pub take_front : {A : Type 0} (xs ys : List A) → take (length xs) (xs ++ ys) ≡ xs
take_front [] ys = refl
take_front (x ∷ xs) ys = ap (λ zs. x ∷ zs) (take_front xs ys)

all_more : (p : Block → Bool) (bs : List Block) (b : Block) → list_all p bs ≡ true → p b ≡ true → list_all p (bs ++ b ∷ []) ≡ true
all_more p [] b all one = and_from (p b) true one refl
all_more p (c ∷ bs) b all one = (let a = and_parts (p c) (list_all p bs) all in and_from (p c) (list_all p (bs ++ b ∷ [])) a.0 (all_more p bs b a.1 one))

sum_more : (f : Block → ℕ) (bs : List Block) (b : Block) → sum_by f (bs ++ b ∷ []) ≡ sum_by f bs + f b
sum_more f [] b = omega (arith, sum_by-cons f b [])
sum_more f (c ∷ bs) b = omega (arith, sum_by-cons f c (bs ++ b ∷ []), sum_by-cons f c bs, sum_more f bs b)

-- a part that is taken out is put back
pub set_back : (parts : List (Option Part)) (l : ℕ) (p : Part) → part_of parts l ≡ Some p → slice_set (slice_set parts l None) l (Some p) ≡ parts
set_back [] l p there = refl
set_back (None ∷ parts) zero p there = absurd (cc)
set_back (Some q ∷ parts) zero p there = (let same : q ≡ p = cc in ap (λ (x : Part). Some x ∷ parts) (sym same))
set_back (o ∷ parts) (suc l) p there = ap (λ ps. o ∷ ps) (set_back parts l p there)

-- a part of which no byte is left
pub is_written : (p : Part) → p.left ≡ 0 → written p.block ≡ p
is_written p none = λ i. record { block = p.block; left = sym none i }

-- ---- the block that landed before is laid

pub known_laid : (files : PlainFiles) (last : Option Last) → (laid files last).known ≡ files.known
known_laid files None = refl
known_laid files (Some last) = refl

-- what is kept then
pub settled_writes : (files now : PlainFiles) (unlogged : List Block) (count : ℕ) (parts : List (Option Part)) (last : Option Last) → IsWriting files unlogged count parts last → now ≡ laid files last → AreLawful now
    → IsWriting now unlogged count parts None
settled_writes files now unlogged count parts last w is lawful =
    record {
      lawful = lawful;
      sound = subst (λ (fs : PlainFiles). AreSound fs.known fs.named parts) (sym is) (subst (λ (known : List (Option KnownFile)). AreSound known (laid files last).named parts) (sym (known_laid files last)) w.sound);
      lays = tt;
      back = tt;
      lanes = w.lanes;
      known = subst (λ (fs : PlainFiles). have_known_files fs.known unlogged ≡ true) (sym is) (subst (λ (known : List (Option KnownFile)). have_known_files known unlogged ≡ true) (sym (known_laid files last)) w.known);
      bytes = w.bytes;
      few = subst (λ (fs : PlainFiles). count ≤ bytes_in (map marked_of fs.named)) (sym is) w.few;
    }

-- ---- a block on its way

-- what is asked of a begun block to tell of it
pub record IsBegun (known : List (Option KnownFile)) (p : Part) : Type 0 where
  pub known_as : is_known known p.block.file ≡ true
  pub left : p.left ≤ p.block.length
  pub within : p.block.offset ≤ MAX_FILE_SIZE
  pub ends : p.block.offset + p.block.length ≤ MAX_FILE_SIZE

pub begun_part : (files : PlainFiles) (unlogged : List Block) (count : ℕ) (parts : List (Option Part)) (last : Option Last) (l : ℕ) (p : Part) → IsWriting files unlogged count parts last → part_of parts l ≡ Some p → IsBegun files.known p
begun_part files unlogged count parts last l p w there =
    let on = w.sound.way.each l p there in
    let small = w.sound.are_files.small p.block.file on.file on.known_as in
    record { known_as = ap is_some on.known_as; left = on.left; within = omega (arith, on.within, small); ends = omega (arith, on.within, small) }

module _ (files : PlainFiles) (unlogged : List Block) (count : ℕ) (parts : List (Option Part)) (w : IsWriting files unlogged count parts None) (l : Lane) (p : Part) (there : part_of parts l.0 ≡ Some p) (none : p.left ≡ 0) where
  on : IsOnWay files.known files.named p
  on = w.sound.way.each l.0 p there

  pub can_lay : IsLandable files p.block
  can_lay =
      let s = settles files.known files.named parts w.sound.are_files w.sound.are_named w.sound.way l.0 p there in
      record { known = ap is_some on.known_as; adds = subst (λ (o : Option (List NamedFile)). IsSome o) (sym (s.1).adds) refl }

  sound_behind : AreSound files.known (with_landed files p.block).named (slice_set parts l.0 None)
  sound_behind =
      let s = settles files.known files.named parts w.sound.are_files w.sound.are_named w.sound.way l.0 p there in
      subst (λ (fs : List NamedFile). AreSound files.known fs (slice_set parts l.0 None)) (sym (ap (files_or files.named) (s.1).adds)) (record { are_files = w.sound.are_files; are_named = (s.1).named; way = (s.1).way })

  put_back : slice_set (slice_set parts l.0 None) l.0 (Some (written p.block)) ≡ parts
  put_back = ap (λ (x : Part). slice_set (slice_set parts l.0 None) l.0 (Some x)) (is_written p none) ∙ set_back parts l.0 p there

  -- what is kept behind the landing
  pub landed_writes : (entries : ℕ) → IsWriting files (unlogged ++ p.block ∷ []) (count + p.block.length) (slice_set parts l.0 None) (Some (record { block = p.block; before = Some (record { lane = l; entries = entries; blocks = length unlogged; bytes = count }) }))
  landed_writes entries =
      record {
        lawful = w.lawful;
        sound = sound_behind;
        lays = can_lay;
        back = record {
          lane = omega (arith, length_set parts l.0 None, part_below parts l.0 p there);
          sound = subst (AreSound files.known files.named) (sym put_back) w.sound;
          bytes = w.bytes ∙ ap (sum_by length_of) (sym (take_front unlogged (p.block ∷ [])));
          few = w.few;
        };
        lanes = omega (arith, w.lanes, length_set parts l.0 None);
        known = all_more (has_known_file files.known) unlogged p.block w.known (ap is_some on.known_as);
        bytes = omega (arith, w.bytes, sum_more length_of unlogged p.block);
        few = omega (arith, w.few, bytes_laid files p.block w.lawful can_lay);
      }

-- what it is seen as then
pub landed_view : (files now : PlainFiles) (pending more : List LogEntry) (unlogged us : List Block) (parts : List (Option Part)) (last : Option Last) (l : Lane) (p : Part) (entries blocks count : ℕ) → now ≡ laid files last
    → part_of parts l.0 ≡ Some p → p.left ≡ 0 → more ≡ pending ++ block_entries now.known now.named p.block → us ≡ unlogged ++ p.block ∷ [] → entries ≡ length pending → blocks ≡ length unlogged
    → writer_of now more us (slice_set parts l.0 None) (Some (record { block = p.block; before = Some (record { lane = l; entries = entries; blocks = blocks; bytes = count }) }))
    ≡ lands (writer_of files pending unlogged parts last) l.0 (begun_at (writer_of files pending unlogged parts last) l.0).block
landed_view files now pending more unlogged us parts last l p entries blocks count is there none pend unl one two =
    let known : now.known ≡ files.known = ap (λ (fs : PlainFiles). fs.known) is ∙ known_laid files last in
    let named : now.named ≡ (laid files last).named = ap (λ (fs : PlainFiles). fs.named) is in
    let block : p.block ≡ (part_or (part_of parts l.0)).block = ap (λ (o : Option Part). (part_or o).block) (sym there) in
    let all : more ≡ pending ++ block_entries files.known (laid files last).named (part_or (part_of parts l.0)).block = pend ∙ (λ i. pending ++ block_entries (known i) (named i) (block i)) in
    let us_now : us ≡ unlogged ++ (part_or (part_of parts l.0)).block ∷ [] = unl ∙ (λ i. unlogged ++ block i ∷ []) in
    let front : take entries more ≡ pending = (λ i. take (one i) (pend i)) ∙ take_front pending (block_entries now.known now.named p.block) in
    let us_front : take blocks us ≡ unlogged = (λ i. take (two i) (unl i)) ∙ take_front unlogged (p.block ∷ []) in
    let back : slice_set (slice_set parts l.0 None) l.0 (Some (written p.block)) ≡ parts = ap (λ (x : Part). slice_set (slice_set parts l.0 None) l.0 (Some x)) (is_written p none) ∙ set_back parts l.0 p there in
    λ i. record {
      known = known i;
      files = files_behind (named i) (block_entries (known i) (named i) (block i));
      pending = all i;
      unlogged = us_now i;
      parts = slice_set parts l.0 None;
      before = Some (record { files = named i; pending = front i; unlogged = us_front i; parts = back i });
    }

-- ---- numbers in a set

pub key_put : (n : ℕ) (ns : List ℕ) → insert_key nat_cmp ns n ≡ put_number n ns
key_put n [] = refl
key_put n (m ∷ ns) = go (nat_lt n m) (n == m) refl refl (key_put n ns)
  where
    go : (lt eq : Bool) → nat_lt n m ≡ lt → (n == m) ≡ eq → insert_key nat_cmp ns n ≡ put_number n ns
        → match_ordering (cond lt Less (cond eq Equal Greater)) (n ∷ m ∷ ns) (m ∷ ns) (m ∷ insert_key nat_cmp ns n) ≡ (if eq then m ∷ ns else if lt then n ∷ m ∷ ns else m ∷ put_number n ns)
    go true true less same rest = absurd (omega (arith, ltb-true n m less, eqb-true n m same))
    go true false less same rest = refl
    go false true less same rest = refl
    go false false less same rest = ap (λ ks. m ∷ ks) rest

-- the numbers of the blocks from a place on, with one block more before them
pub numbers_more : (bs : List Block) (n before : ℕ) (d : Block) (keys new : List ℕ) → n < length bs → before ≡ suc n → keys ≡ numbers_of (drop before bs) → new ≡ insert_key nat_cmp keys (get_or bs n d).file → new ≡ numbers_of (drop n bs)
numbers_more bs n before d keys new there is so_far put =
    put ∙ key_put (get_or bs n d).file keys ∙ ap (put_number (get_or bs n d).file) so_far
    ∙ ap (λ (k : ℕ). put_number (get_or bs n d).file (numbers_of (drop k bs))) is ∙ ap numbers_of (sym (drop-cons bs n d there))

-- ---- numbers of known files

put_known : (known : List (Option KnownFile)) (n : ℕ) (ns : List ℕ) → is_known known n ≡ true → list_all (is_known known) ns ≡ true → list_all (is_known known) (put_number n ns) ≡ true
put_known known n [] one all = and_from (is_known known n) true one refl
put_known known n (m ∷ ns) one all = (let rest = and_parts (is_known known m) (list_all (is_known known) ns) all in go (n == m) (nat_lt n m) rest.0 (put_known known n ns one rest.1))
  where
    go : (c d : Bool) → is_known known m ≡ true → list_all (is_known known) (put_number n ns) ≡ true → list_all (is_known known) (if c then m ∷ ns else if d then n ∷ m ∷ ns else m ∷ put_number n ns) ≡ true
    go true d first later = all
    go false true first later = and_from (is_known known n) (list_all (is_known known) (m ∷ ns)) one all
    go false false first later = and_from (is_known known m) (list_all (is_known known) (put_number n ns)) first later

pub known_numbers : (known : List (Option KnownFile)) (bs : List Block) → have_known_files known bs ≡ true → list_all (is_known known) (numbers_of bs) ≡ true
known_numbers known [] all = refl
known_numbers known (b ∷ bs) all = (let a = and_parts (is_known known b.file) (have_known_files known bs) all in put_known known b.file (numbers_of bs) a.0 (known_numbers known bs a.1))

-- one of these numbers
pub known_number : (known : List (Option KnownFile)) (ns : List ℕ) (k n : ℕ) → list_all (is_known known) ns ≡ true → k < length ns → n ≡ get_or ns k n → is_known known n ≡ true
known_number known [] k n all there is = absurd (omega (arith, there))
known_number known (m ∷ ns) zero n all there is = subst (λ (x : ℕ). is_known known x ≡ true) (sym is) (and_parts (is_known known m) (list_all (is_known known) ns) all).0
known_number known (m ∷ ns) (suc k) n all there is = known_number known ns k n (and_parts (is_known known m) (list_all (is_known known) ns) all).1 (omega (arith, there)) is

-- the paths of one number more
pub paths_more : (known : List (Option KnownFile)) (ns : List ℕ) (k n : ℕ) (file : KnownFile) (paths : List (List ℕ)) → k < length ns → n ≡ get_or ns k n → known_at known n ≡ Some file → paths ≡ map (path_at known) (take k ns)
    → paths ++ file.path ∷ [] ≡ map (path_at known) (take (suc k) ns)
paths_more known [] k n file paths there is at so_far = absurd (omega (arith, there))
paths_more known (m ∷ ns) zero n file paths there is at so_far = (λ i. so_far i ++ path_by (sym at i) ∷ []) ∙ ap (λ (x : ℕ). path_at known x ∷ []) is
paths_more known (m ∷ ns) (suc k) n file [] there is at so_far = absurd (cc)
paths_more known (m ∷ ns) (suc k) n file (p ∷ paths) there is at so_far =
    let first : p ≡ path_at known m = cc in
    let rest : paths ≡ map (path_at known) (take k ns) = cc in
    λ i. first i ∷ paths_more known ns k n file paths (omega (arith, there)) is at rest i

-- ---- a landing, by what its calls gave

pub landed_kept : (files : PlainFiles) (unlogged us : List Block) (count more entries blocks : ℕ) (parts : List (Option Part)) (l : Lane) (p : Part) → IsWriting files unlogged count parts None → part_of parts l.0 ≡ Some p → p.left ≡ 0
    → us ≡ unlogged ++ p.block ∷ [] → more ≡ p.block.length → blocks ≡ length unlogged
    → IsWriting files us (count + more) (slice_set parts l.0 None) (Some (record { block = p.block; before = Some (record { lane = l; entries = entries; blocks = blocks; bytes = count }) }))
landed_kept files unlogged us count more entries blocks parts l p w there none us_is more_is blocks_is =
    subst (λ (bs : List Block). IsWriting files bs (count + more) (slice_set parts l.0 None) (Some (record { block = p.block; before = Some (record { lane = l; entries = entries; blocks = blocks; bytes = count }) }))) (sym us_is)
    (subst (λ (n : ℕ). IsWriting files (unlogged ++ p.block ∷ []) (count + n) (slice_set parts l.0 None) (Some (record { block = p.block; before = Some (record { lane = l; entries = entries; blocks = blocks; bytes = count }) }))) (sym more_is)
    (subst (λ (n : ℕ). IsWriting files (unlogged ++ p.block ∷ []) (count + p.block.length) (slice_set parts l.0 None) (Some (record { block = p.block; before = Some (record { lane = l; entries = entries; blocks = n; bytes = count }) }))) (sym blocks_is)
    (landed_writes files unlogged count parts w l p there none entries)))
