-- Bytes of a begun block are taken: the parts, and what stands on the disk.
use Rattle.std.proofs.Common.{◌≡◌, inl, inr, ℕ, zero, suc, ◌+◌, ◌-◌, ◌<◌, ◌≤◌, List, [], ◌∷◌, length, map, Option, Some, None, refl, sym, ap, ◌∙◌, subst, arith}
use Rattle.std.specs.Prelude.{IfSome, slice_set}
use Rattle.std.proofs.lemmas.Bool.{cases_eq}
use Rattle.wdt_units.specs.declared.blocks.Block.{Block}
use Rattle.wdt_units.specs.declared.numbers.Lane.{Lane}
use Rattle.wdt_units.specs.Tree.{File, IsRead}
use Rattle.wdt_depot.specs.Disk.{Disk, seen_of, wrote}
use Rattle.wdt_depot.specs.Moments.{IfTold, Told}
use Rattle.wdt_logfmt.specs.Batches.{path_at}
use Rattle.wdt_units.specs.declared.limits.TheConstants.{MAX_BLOCK, MAX_SPANS, MAX_TOTAL}
use Rattle.wdt_logfmt.specs.Beginning.{KnownFile, bytes_with, known_at, spans_with}
use Rattle.wdt_logfmt.specs.Marks.{marked_of}
use Rattle.wdt_logfmt.specs.View.{NamedFile}
use Rattle.wdt_good.specs.Good.{GoodFiles}
use Rattle.wdt_good.specs.LogState.{LogOf}
use Rattle.wdt_log.specs.OpenLog.{OpenLog}
use Rattle.wdt_writer.specs.declared.parts.Part.{Part}
use Rattle.wdt_writer.specs.Calls.{CanWrite}
use Rattle.wdt_writer.specs.OnWay.{AreApart, AreSound, IsClearOf, IsOnWay}
use Rattle.wdt_writer.specs.PlainWriter.{PlainWriter, begun_at, blocks_of, part_at, part_of, part_or, place_of}
use Rattle.wdt_receiver_fsm.specs.ReceiverHistory.{past_of}
use Rattle.wdt_receiver_fsm.specs.Turn.{next_place}
use Rattle.wdt_dock.specs.Desk.{AreBooks, IsDesk, part_by, plain_of}
use Rattle.wdt_dock.specs.DockGood.{DockGood, GoodReads, HasPart, HasPartOf, IsPieceOf, StandsWithin}
use Rattle.wdt_dock.specs.DockView.{HasLostDisk}
use Rattle.wdt_receiver_fsm.specs.End.{EndView, lane_in}
use Rattle.wdt_dock.proofs.Goodness.{files_behind_are}
use Rattle.wdt_dock.proofs.Landings.{part_beside, part_here}
use Rattle.wdt_dock.proofs.Written.{all_stand_after, apart_part, clear_logged, files_read, known_file, may, own_part, part_after}

-- ---- parts

pub some_of : {A : Type 0} (o : Option A) → (o ≡ None → ⊥) → (x : A) × (o ≡ Some x)
some_of None some = absurd (some refl)
some_of (Some x) some = (x, refl)

part_within : (parts : List (Option Part)) (l : ℕ) (p : Part) → part_of parts l ≡ Some p → l < length parts
part_within [] l p there = absurd (cc)
part_within (q ∷ parts) zero p there = omega arith
part_within (q ∷ parts) (suc l) p there = omega (arith, part_within parts l p there)

same_blocks : (parts : List (Option Part)) (l : ℕ) (p q : Part) → part_of parts l ≡ Some p → q.block ≡ p.block → blocks_of (slice_set parts l (Some q)) ≡ blocks_of parts
same_blocks [] l p q there same = refl
same_blocks (None ∷ parts) zero p q there same = absurd (cc)
same_blocks (Some o ∷ parts) zero p q there same = (let is : p ≡ o = cc in ap (λ (b : Block). b ∷ blocks_of parts) (same ∙ ap (λ (x : Part). x.block) is))
same_blocks (None ∷ parts) (suc l) p q there same = same_blocks parts l p q there same
same_blocks (Some o ∷ parts) (suc l) p q there same = ap (λ (bs : List Block). o.block ∷ bs) (same_blocks parts l p q there same)

same_part : (x y : Part) → Some x ≡ Some y → x ≡ y
same_part x y e = cc

-- a part of the same block, with as many bytes to come as it may have
module _ (known : List (Option KnownFile)) (files : List NamedFile) (parts : List (Option Part)) (l : ℕ) (p q : Part) (there : part_of parts l ≡ Some p) (same : q.block ≡ p.block) (short : q.left ≤ q.block.length) (sound : AreSound known files parts) where
  -- a part that is there now, and the one that was
  record Was (m : ℕ) (x : Part) : Type 0 where
    part : Part
    at : part_of parts m ≡ Some part
    block : x.block ≡ part.block
    left : x.left ≤ x.block.length

  was : (m : ℕ) (x : Part) → part_of (slice_set parts l (Some q)) m ≡ Some x → Was m x
  was m x at = elim (cases_eq m l) [
    | inl here ↦
        let is : q ≡ x = same_part q x (sym (part_here parts l (Some q) (part_within parts l p there)) ∙ ap (part_of (slice_set parts l (Some q))) (sym here) ∙ at) in
        record { part = p; at = ap (part_of parts) here ∙ there; block = ap (λ (y : Part). y.block) (sym is) ∙ same; left = subst (λ (y : Part). y.left ≤ y.block.length) is short }
    | inr ne ↦
        let before : part_of parts m ≡ Some x = sym (part_beside parts l m (Some q) ne) ∙ at in
        record { part = x; at = before; block = refl; left = (sound.way.each m x before).left }
  ]

  pub sound_with : AreSound known files (slice_set parts l (Some q))
  sound_with = record {
    are_files = sound.are_files;
    are_named = sound.are_named;
    way = record {
      each = λ m x at. (let r = was m x at in let on = sound.way.each m r.part r.at in record {
        file = on.file;
        known_as = ap (λ (b : Block). known_at known b.file) r.block ∙ on.known_as;
        within = subst (λ (b : Block). b.offset + b.length ≤ on.file.size) (sym r.block) on.within;
        few = subst (λ (b : Block). b.length ≤ MAX_BLOCK) (sym r.block) on.few;
        left = r.left;
        clear = subst (IsClearOf files) (sym r.block) on.clear;
      });
      apart = λ i j x y ne at beside. (let r = was i x at in let s = was j y beside in
          subst (λ (b : Block). AreApart b y.block) (sym r.block) (subst (λ (b : Block). AreApart r.part.block b) (sym s.block) (sound.way.apart i j r.part s.part ne r.at s.at)));
      spans = subst (λ (bs : List Block). spans_with (map marked_of files) bs ≤ MAX_SPANS) (sym (same_blocks parts l p q there same)) sound.way.spans;
      bytes = subst (λ (bs : List Block). bytes_with (map marked_of files) bs ≤ MAX_TOTAL) (sym (same_blocks parts l p q there same)) sound.way.bytes;
    };
  }

-- ---- a piece of a lane's block

module _ (e : EndView) (log : OpenLog) (w : PlainWriter) (l : Lane) (within : l.0 < length e.lanes) (desk : IsDesk e log w) (b : Block) (begun : (past_of e.history l.0).begun ≡ Some b) where
  abbrev part : Part
  part = record { block = b; left = (lane_in e l.0).left }

  pub here : part_at w l.0 ≡ Some part
  here = desk.parts l.0 within ∙ ap (λ (o : Option Block). part_by o (lane_in e l.0).left) begun

  pub begun_is : begun_at w l.0 ≡ part
  begun_is = ap part_or here

  pub on_way : IsOnWay w.known w.files part
  on_way = desk.books.sound.way.each l.0 part here

  -- the books with another count of bytes to come
  pub books_with : (left : ℕ) → left ≤ b.length → (w2 : PlainWriter) → w2 ≡ record w { parts = slice_set w.parts l.0 (Some (record { block = b; left = left })); before = None } → AreBooks log w2
  books_with left short w2 is = subst (λ (x : PlainWriter). AreBooks log x) (sym is) record {
    version = desk.books.version;
    sound = sound_with w.known w.files w.parts l.0 part (record { block = b; left = left }) here refl short desk.books.sound;
    known = desk.books.known;
    pending = desk.books.pending;
    adds = desk.books.adds;
  }

  -- ---- the disk

  module _ (bytes : List ℕ) (fits : length bytes ≤ (lane_in e l.0).left) where
    abbrev path : List ℕ
    path = path_at w.known b.file

    abbrev place : ℕ
    place = place_of part

    -- the writer may write it
    pub can_write : (T : List File) (a : Option Told) → (HasLostDisk e.answer → ⊥) → IfTold (λ t. LogOf log.version log.meaning.files log.meaning.end t.now) a → IfTold (λ t. DockGood T (plain_of e log w) t.now) a → IfTold (λ t. CanWrite path place (length bytes) log.meaning.files t.now) a
    can_write T None sound rests good = tt
    can_write T (Some t) sound rests good =
        let stood = known_file (StandsWithin t.now) w.known b.file on_way.file (good.reads sound).stands on_way.known_as in (
          on_way.file.size,
          may w.known w.files desk.books.sound.are_files desk.books.sound.are_named part on_way bytes fits t.now stood log.meaning.files
              (clear_logged w.known w.files desk.books.sound.are_files desk.books.sound.are_named part on_way bytes fits log.meaning.files w.pending rests.view desk.books.adds),
        )

    -- what was written of the other blocks
    others_read : (T : List File) (d : Disk) → GoodReads T (plain_of e log w) d → (k : ℕ) → k < length e.lanes → (k ≡ l.0 → ⊥) → HasPartOf T (plain_of e log w) (wrote path place bytes d) k
    others_read T d good k below ne = go (past_of e.history k).begun refl (good.parts k below)
      where
        stood : StandsWithin d on_way.file
        stood = known_file (StandsWithin d) w.known b.file on_way.file good.stands on_way.known_as

        go : (o : Option Block) → (past_of e.history k).begun ≡ o → IfSome o (HasPart T w.known d (lane_in e k).left) → IfSome o (HasPart T w.known (wrote path place bytes d) (lane_in e k).left)
        go None is has_part = tt
        go (Some c) is has_part =
            let q : Part = record { block = c; left = (lane_in e k).left } in
            let at : part_at w k ≡ Some q = desk.parts k below ∙ ap (λ (o : Option Block). part_by o (lane_in e k).left) is in
            apart_part w.known w.files desk.books.sound.are_files desk.books.sound.are_named part on_way bytes fits d stood T q (desk.books.sound.way.each k q at) (desk.books.sound.way.apart l.0 k part q (λ same. ne (sym same)) here at) has_part

    -- all stays good, with what was written of this block as it was
    pub reads_wrote : (T : List File) (d : Disk) → GoodReads T (plain_of e log w) d → GoodReads T (plain_of e log w) (wrote path place bytes d)
    reads_wrote T d good =
        let stood = known_file (StandsWithin d) w.known b.file on_way.file good.stands on_way.known_as in
        let behind = files_behind_are e log w desk.books in
        record {
          known = good.known;
          stands = all_stand_after w.known w.files desk.books.sound.are_files desk.books.sound.are_named part on_way bytes fits d stood T good.known good.stands;
          landed = subst (λ (fs : List NamedFile). GoodFiles T (seen_of (wrote path place bytes d)) fs) (sym behind)
              (files_read w.known w.files desk.books.sound.are_files desk.books.sound.are_named part on_way bytes fits d stood T (subst (λ (fs : List NamedFile). GoodFiles T (seen_of d) fs) behind good.landed));
          parts = λ k below. elim (cases_eq k l.0) [
            | inl same ↦ subst (λ (j : ℕ). HasPartOf T (plain_of e log w) (wrote path place bytes d) j) (sym same)
                (subst (λ (o : Option Block). IfSome o (HasPart T w.known (wrote path place bytes d) (lane_in e l.0).left)) (sym begun)
                (own_part w.known w.files desk.books.sound.are_files desk.books.sound.are_named part on_way bytes fits d stood T (subst (λ (o : Option Block). IfSome o (HasPart T w.known d (lane_in e l.0).left)) begun (good.parts l.0 within))))
            | inr ne ↦ others_read T d good k below ne
          ];
        }

    -- and this block's next bytes
    pub part_wrote : (T : List File) (d : Disk) → IsPieceOf T (plain_of e log w) l bytes → GoodReads T (plain_of e log w) d → HasPart T w.known (wrote path place bytes d) ((lane_in e l.0).left - length bytes) b
    part_wrote T d piece good =
        let stood = known_file (StandsWithin d) w.known b.file on_way.file good.stands on_way.known_as in
        part_after w.known w.files desk.books.sound.are_files desk.books.sound.are_named part on_way bytes fits d stood T (subst (λ (o : Option Block). IfSome o (λ c. IsRead T (path_at w.known c.file) (next_place c (lane_in e l.0).left) bytes)) begun piece)
        (subst (λ (o : Option Block). IfSome o (HasPart T w.known d (lane_in e l.0).left)) begun (good.parts l.0 within))
