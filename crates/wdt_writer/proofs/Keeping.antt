-- What a writer keeps goes on to hang together where a part of it changes.
use Rattle.std.proofs.Common.{◌≡◌, ℕ, zero, suc, ◌-◌, ◌≤◌, Bool, true, false, nat_le, List, [], ◌∷◌, ◌++◌, length, map, sum_by, take, Option, Some, None, refl, sym, ap, ◌∙◌, subst, arith}
use Rattle.std.specs.Prelude.{if◌then◌else◌, replicate, slice_set}
use Rattle.std.specs.List.{list_all}
use Rattle.std.proofs.lemmas.Bool.{and_from, and_parts, leb-true}
use Rattle.wdt_units.specs.declared.limits.TheConstants.{MAX_LANES, MAX_SPANS, MAX_TOTAL}
use Rattle.wdt_units.specs.declared.blocks.Block.{Block}
use Rattle.wdt_logfmt.specs.Batches.{has_known_file}
use Rattle.wdt_logfmt.specs.Beginning.{span_cost, length_of}
use Rattle.wdt_logfmt.specs.Marks.{marked_of}
use Rattle.wdt_logfmt.specs.View.{bytes_in, spans_in}
use Rattle.wdt_logfmt.proofs.ForCallers.{view_parts}
use Rattle.wdt_files.specs.PlainFiles.{AreLawful, PlainFiles}
use Rattle.wdt_writer.specs.declared.landing.Last.{Last}
use Rattle.wdt_writer.specs.declared.landing.Stood.{Stood}
use Rattle.wdt_writer.specs.declared.parts.Part.{Part}
use Rattle.wdt_writer.specs.Kept.{CanGoBack, HasStood, IsWriting, MayHaveStood, for_good, laid, written}
use Rattle.wdt_writer.specs.OnWay.{AreSound}
use Rattle.wdt_writer.specs.PlainWriter.{PlainWriter, begun_at, blocks_of, no_parts, part_of, part_or}
use Rattle.wdt_writer.proofs.OnParts.{length_set, sound_left, sound_without}
use Rattle.wdt_writer.proofs.Settling.{bytes_summed, spans_summed}

-- other blocks are on their way, and the last landing stays
pub parts_change : (files : PlainFiles) (unlogged : List Block) (count : ℕ) (parts more : List (Option Part)) (last : Option Last) → IsWriting files unlogged count parts last → length more ≤ MAX_LANES
    → AreSound files.known (laid files last).named more → IsWriting files unlogged count more (for_good last)
parts_change files unlogged count parts more None w few sound =
    record { lawful = w.lawful; sound = sound; lays = tt; back = tt; lanes = few; known = w.known; bytes = w.bytes; few = w.few }
parts_change files unlogged count parts more (Some last) w few sound =
    record { lawful = w.lawful; sound = sound; lays = w.lays; back = tt; lanes = few; known = w.known; bytes = w.bytes; few = w.few }

-- ---- the last landing is taken back

all_taken : (p : Block → Bool) (bs : List Block) (n : ℕ) → list_all p bs ≡ true → list_all p (take n bs) ≡ true
all_taken p bs zero all = refl
all_taken p [] (suc n) all = refl
all_taken p (b ∷ bs) (suc n) all = (let a = and_parts (p b) (list_all p bs) all in and_from (p b) (list_all p (take n bs)) a.0 (all_taken p bs n a.1))

-- what stood before the last landing
back_at : (files : PlainFiles) (unlogged : List Block) (parts : List (Option Part)) (last : Option Last) (l : Last) (stood : Stood) → last ≡ Some l → l.before ≡ Some stood → CanGoBack files unlogged parts last
    → HasStood files unlogged parts l.block stood
back_at files unlogged parts last l stood is before back = subst (MayHaveStood files unlogged parts l.block) before (subst (CanGoBack files unlogged parts) is back)

stood_writes : (files : PlainFiles) (unlogged : List Block) (count : ℕ) (parts : List (Option Part)) (last : Option Last) (b : Block) (stood : Stood) → IsWriting files unlogged count parts last
    → HasStood files unlogged parts b stood → IsWriting files (take stood.blocks unlogged) stood.bytes (slice_set parts stood.lane.0 (Some (written b))) None
stood_writes files unlogged count parts last b stood w s =
    record {
      lawful = w.lawful;
      sound = s.sound;
      lays = tt;
      back = tt;
      lanes = omega (arith, w.lanes, length_set parts stood.lane.0 (Some (written b)));
      known = all_taken (has_known_file files.known) unlogged stood.blocks w.known;
      bytes = s.bytes;
      few = s.few;
    }

pub back_writes : (files : PlainFiles) (unlogged more : List Block) (count : ℕ) (parts : List (Option Part)) (last : Option Last) (l : Last) (stood : Stood) → IsWriting files unlogged count parts last → last ≡ Some l
    → l.before ≡ Some stood → more ≡ take stood.blocks unlogged → IsWriting files more stood.bytes (slice_set parts stood.lane.0 (Some (written l.block))) None
back_writes files unlogged more count parts last l stood w is before taken =
    subst (λ (bs : List Block). IsWriting files bs stood.bytes (slice_set parts stood.lane.0 (Some (written l.block))) None) (sym taken)
    (stood_writes files unlogged count parts last l.block stood w (back_at files unlogged parts last l stood is before w.back))

-- ---- a writer is opened

no_part : (n lane : ℕ) (part : Part) → part_of (no_parts n) lane ≡ Some part → ⊥
no_part zero lane part there = (cc)
no_part (suc n) zero part there = (cc)
no_part (suc n) (suc lane) part there = no_part n lane part there

no_blocks : (n : ℕ) → blocks_of (no_parts n) ≡ []
no_blocks zero = refl
no_blocks (suc n) = no_blocks n

length_none : (n : ℕ) → length (no_parts n) ≡ n
length_none zero = refl
length_none (suc n) = ap suc (length_none n)

opened_writes : (files : PlainFiles) (n : ℕ) → n ≤ MAX_LANES → AreLawful files → IsWriting files [] 0 (no_parts n) None
opened_writes files n few lawful =
    let within = and_parts (nat_le (sum_by spans_in files.named) MAX_SPANS) (nat_le (sum_by bytes_in files.named) MAX_TOTAL) (view_parts files.named lawful.named.view).limits in
    let few_spans = leb-true (sum_by spans_in files.named) MAX_SPANS within.0 in
    let few_bytes = leb-true (sum_by bytes_in files.named) MAX_TOTAL within.1 in
    record {
      lawful = lawful;
      sound = record {
        are_files = lawful.known;
        are_named = lawful.named;
        way = record {
          each = λ lane part there. absurd (no_part n lane part there);
          apart = λ l m p q differ one two. absurd (no_part n l p one);
          spans = omega (arith, ap (sum_by (span_cost (map marked_of files.named))) (no_blocks n), spans_summed files.named, few_spans);
          bytes = omega (arith, ap (sum_by length_of) (no_blocks n), bytes_summed files.named, few_bytes);
        };
      };
      lays = tt;
      back = tt;
      lanes = omega (arith, few, length_none n);
      known = refl;
      bytes = refl;
      few = omega arith;
    }

-- the parts of a writer that is opened
none_filled : (n : ℕ) → replicate n None ≡ no_parts n
none_filled zero = refl
none_filled (suc n) = ap (λ ps. None ∷ ps) (none_filled n)

taken_none : (k n : ℕ) (ps : List (Option Part)) → ps ≡ [] → take k ps ++ replicate n None ≡ replicate n None
taken_none zero n ps none = refl
taken_none (suc k) n [] none = refl
taken_none (suc k) n (p ∷ ps) none = absurd (cc)

pub resized : (ok : Bool) (old new : List (Option Part)) (n had : ℕ) → ok ≡ true → old ≡ [] → had ≡ 0 → new ≡ (if ok then take n old ++ replicate (n - had) None else old) → new ≡ no_parts n
resized true old new n had done none empty is = (let same : n - had ≡ n = omega arith in is ∙ (λ i. take n old ++ replicate (same i) None) ∙ taken_none n n old none ∙ none_filled n)
resized false old new n had done none empty is = absurd (cc)

pub opened_with : (files : PlainFiles) (unlogged : List Block) (parts : List (Option Part)) (n : ℕ) → n ≤ MAX_LANES → AreLawful files → unlogged ≡ [] → parts ≡ no_parts n → IsWriting files unlogged 0 parts None
opened_with files unlogged parts n few lawful none same =
    subst (λ (bs : List Block). IsWriting files bs 0 parts None) (sym none) (subst (λ (ps : List (Option Part)). IsWriting files [] 0 ps None) (sym same) (opened_writes files n few lawful))

-- ---- other blocks on their way

pub dropped_writes : (files : PlainFiles) (unlogged : List Block) (count : ℕ) (parts : List (Option Part)) (last now : Option Last) (l : ℕ) → IsWriting files unlogged count parts last → now ≡ for_good last
    → IsWriting files unlogged count (slice_set parts l None) now
dropped_writes files unlogged count parts last now l w same =
    subst (IsWriting files unlogged count (slice_set parts l None)) (sym same)
    (parts_change files unlogged count parts (slice_set parts l None) last w (omega (arith, w.lanes, length_set parts l None)) (sound_without files.known (laid files last).named parts w.sound l))

-- the lane's block has other bytes left
pub left_writes : (files : PlainFiles) (unlogged : List Block) (count : ℕ) (parts : List (Option Part)) (last now : Option Last) (l : ℕ) (p : Part) (n : ℕ) → IsWriting files unlogged count parts last → now ≡ for_good last
    → part_of parts l ≡ Some p → n ≤ p.block.length → IsWriting files unlogged count (slice_set parts l (Some (record { block = p.block; left = n }))) now
left_writes files unlogged count parts last now l p n w same there few =
    subst (IsWriting files unlogged count (slice_set parts l (Some (record { block = p.block; left = n })))) (sym same)
    (parts_change files unlogged count parts (slice_set parts l (Some (record { block = p.block; left = n }))) last w (omega (arith, w.lanes, length_set parts l (Some (record { block = p.block; left = n }))))
    (sound_left files.known (laid files last).named parts w.sound l p there n few))

-- what is asked of the lane's begun block is asked of the part
pub of_part : (P : Part → Type 0) (w : PlainWriter) (parts : List (Option Part)) (lane : ℕ) (p : Part) → parts ≡ w.parts → part_of parts lane ≡ Some p → P (begun_at w lane) → P p
of_part P w parts lane p same there holds = subst P (ap (λ (ps : List (Option Part)). part_or (part_of ps lane)) (sym same) ∙ ap part_or there) holds
