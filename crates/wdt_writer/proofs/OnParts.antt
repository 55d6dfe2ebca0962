-- Blocks on their way stay so where one of them goes, or has other bytes left.
use Rattle.std.proofs.Common.{◌≡◌, inl, inr, ℕ, zero, suc, ◌<◌, ◌≤◌, List, [], ◌∷◌, length, map, sum_by, Option, Some, None, refl, sym, ap, ◌∙◌, subst, arith}
use Rattle.std.specs.Prelude.{slice_set}
use Rattle.std.proofs.lemmas.List.Sums.{sum_by-cons}
use Rattle.wdt_units.specs.declared.blocks.Block.{Block}
use Rattle.wdt_logfmt.specs.Beginning.{KnownFile, length_of, span_cost}
use Rattle.wdt_logfmt.specs.Marks.{marked_of}
use Rattle.wdt_logfmt.specs.View.{NamedFile}
use Rattle.wdt_writer.specs.declared.parts.Part.{Part}
use Rattle.wdt_writer.specs.OnWay.{AreApart, AreSound, IsOnWay}
use Rattle.wdt_writer.specs.PlainWriter.{blocks_of, part_of}
use Rattle.wdt_writer.proofs.Begun.{part_set}
use Rattle.wdt_writer.proofs.Settling.{without_one}

-- ---- lists of parts

pub length_set : (parts : List (Option Part)) (l : ℕ) (o : Option Part) → length (slice_set parts l o) ≡ length parts
length_set [] l o = refl
length_set (p ∷ parts) zero o = refl
length_set (p ∷ parts) (suc l) o = ap suc (length_set parts l o)

-- a part is that of a lane
pub part_below : (parts : List (Option Part)) (l : ℕ) (p : Part) → part_of parts l ≡ Some p → l < length parts
part_below [] l p there = absurd (cc)
part_below (o ∷ parts) zero p there = omega arith
part_below (o ∷ parts) (suc l) p there = omega (arith, part_below parts l p there)

-- a sum over the blocks of parts doesn't grow where a lane's is taken out
sum_out : (f : Block → ℕ) (parts : List (Option Part)) (l : ℕ) → sum_by f (blocks_of (slice_set parts l None)) ≤ sum_by f (blocks_of parts)
sum_out f [] l = omega arith
sum_out f (None ∷ parts) zero = omega arith
sum_out f (Some q ∷ parts) zero = omega (arith, sum_by-cons f q.block (blocks_of parts))
sum_out f (None ∷ parts) (suc l) = sum_out f parts l
sum_out f (Some q ∷ parts) (suc l) =
    omega (arith, sum_by-cons f q.block (blocks_of (slice_set parts l None)), sum_by-cons f q.block (blocks_of parts), sum_out f parts l)

-- ---- soundness

module _ (known : List (Option KnownFile)) (files : List NamedFile) (parts : List (Option Part)) (sound : AreSound known files parts) (l : ℕ) where
  -- one of the blocks goes
  pub sound_without : AreSound known files (slice_set parts l None)
  sound_without = record {
    are_files = sound.are_files;
    are_named = sound.are_named;
    way = record {
      each = λ m q at. sound.way.each m q (without_one parts l m q at).1;
      apart = λ i j p q differ one two. sound.way.apart i j p q differ (without_one parts l i p one).1 (without_one parts l j q two).1;
      spans = omega (arith, sound.way.spans, sum_out (span_cost (map marked_of files)) parts l);
      bytes = omega (arith, sound.way.bytes, sum_out length_of parts l);
    };
  }

  module _ (p : Part) (there : part_of parts l ≡ Some p) (n : ℕ) (few : n ≤ p.block.length) where
    same_blocks : blocks_of (slice_set parts l (Some (record { block = p.block; left = n }))) ≡ blocks_of parts
    same_blocks = go parts l there
      where
        go : (ps : List (Option Part)) (k : ℕ) → part_of ps k ≡ Some p → blocks_of (slice_set ps k (Some (record { block = p.block; left = n }))) ≡ blocks_of ps
        go [] k at = refl
        go (None ∷ ps) zero at = absurd (cc)
        go (Some q ∷ ps) zero at = (let same : q ≡ p = cc in ap (λ (x : Part). x.block ∷ blocks_of ps) (sym same))
        go (None ∷ ps) (suc k) at = go ps k at
        go (Some q ∷ ps) (suc k) at = ap (λ bs. q.block ∷ bs) (go ps k at)

    on : IsOnWay known files p
    on = sound.way.each l p there

    -- the block has other bytes left
    pub sound_left : AreSound known files (slice_set parts l (Some (record { block = p.block; left = n })))
    sound_left = record {
      are_files = sound.are_files;
      are_named = sound.are_named;
      way = record {
        each = λ m q at. elim (part_set parts l (record { block = p.block; left = n }) m q at) [
          | inl new ↦ subst (IsOnWay known files) new.1 (record { file = on.file; known_as = on.known_as; within = on.within; few = on.few; left = few; clear = on.clear })
          | inr was ↦ sound.way.each m q was
        ];
        apart = λ i j q r differ one two. elim (part_set parts l (record { block = p.block; left = n }) i q one) [
          | inl i_new ↦ elim (part_set parts l (record { block = p.block; left = n }) j r two) [
            | inl j_new ↦ absurd (differ (i_new.0 ∙ sym j_new.0))
            | inr j_old ↦ subst (λ (x : Part). AreApart x.block r.block) i_new.1 (sound.way.apart l j p r (λ e. differ (i_new.0 ∙ e)) there j_old)
          ]
          | inr i_old ↦ elim (part_set parts l (record { block = p.block; left = n }) j r two) [
            | inl j_new ↦ subst (λ (x : Part). AreApart q.block x.block) j_new.1 (sound.way.apart i l q p (λ e. differ (e ∙ sym j_new.0)) i_old there)
            | inr j_old ↦ sound.way.apart i j q r differ i_old j_old
          ]
        ];
        spans = omega (arith, sound.way.spans, ap (sum_by (span_cost (map marked_of files))) same_blocks);
        bytes = omega (arith, sound.way.bytes, ap (sum_by length_of) same_blocks);
      };
    }
