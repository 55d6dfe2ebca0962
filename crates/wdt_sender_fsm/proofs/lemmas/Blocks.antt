-- Each block that is to be sent is a part of its file, and what is told of it is in the grammar's ranges.
use Rattle.std.proofs.Common.{◌≡◌, ℕ, zero, suc, ◌+◌, ◌-◌, ◌*◌, ◌/◌, ◌^◌, ◌<◌, ◌≤◌, ◌&&◌, ◌==◌, nat_lt, nat_le, min, cond, List, [], ◌∷◌, length, slice_get, Bool, true, false, not, Option, Some, None, subst, sym, ◌∙◌, refl, arith}
use Rattle.std.specs.List.{All, list_all, filter}
use Rattle.std.proofs.Math.Nat.{suc-mul, mul-le-mul_right}
use Rattle.std.proofs.lemmas.Bool.{cond_both, and_parts, ltb-true, leb-true, eqb-true, not-true}
use Rattle.std.proofs.lemmas.List.Elements.{All-nil, All-cons, All-push, All-append, All-weaker, All-head, All-tail}
use Rattle.std.proofs.lemmas.Nat.{div-add-mod'}
use Rattle.std.proofs.lemmas.Option.{same_Some}
use Rattle.wdt_units.specs.Have.{PlainSpan, HaveFile, is_named}
use Rattle.wdt_units.specs.Path.{is_lawful, is_reserved}
use Rattle.wdt_units.specs.declared.blocks.Block.{Block}
use Rattle.wdt_codec.specs.Frames.{FitsHeader}
use Rattle.wdt_ranges.specs.Spans.{end_of, span_between, gaps_from}
use Rattle.wdt_rest.specs.RestOf.{spans_of, pieces_in, piece_at, first_pieces, pieces_of, gap_pieces, gaps_in, is_new_empty, empty_block, file_rest, rest_from}
use Rattle.wdt_tree.specs.Listing.{is_entry}
use Rattle.wdt_tree.specs.declared.entry.Entry.{Entry}
use Rattle.wdt_sender_fsm.specs.declared.events.SendEvent.{SendEvent}
use Rattle.wdt_claims.specs.Places.{is_queued}
use Rattle.wdt_sender_fsm.specs.Places.{least_of, queued, claims_of, planned_now, planned_now-is}
use Rattle.wdt_sender_fsm.specs.PlainSender.{PlainSender, blocks_of, listed_blocks, header_by, header_of}
use Rattle.wdt_sender_fsm.specs.Sender.{plan_of}
use Rattle.wdt_sender_fsm.specs.Writes.{IsLawful, IsPartOf}

-- ---- gaps

record Lies (size : ℕ) (gap : PlainSpan) : Type 0 where
  pub some : 1 ≤ gap.count
  pub within : gap.offset + gap.count ≤ size

between_lies : (size least end : ℕ) → end ≤ size → All (Lies size) (span_between least end)
between_lies size least end within =
    cond_both (nat_lt least end) (record { offset = least; count = end - least } ∷ []) [] (All (Lies size))
    (λ e. let less : least < end = ltb-true least end e in
    All-cons (Lies size) record { offset = least; count = end - least } [] record { some = omega (arith, less); within = omega (arith, less, within) } (All-nil (Lies size)))
    (λ e. All-nil (Lies size))

gaps_lie : (size least : ℕ) (ss : List PlainSpan) → All (Lies size) (gaps_from least size ss)
gaps_lie size least [] = between_lies size least size (omega arith)
gaps_lie size least (s ∷ ss) = All-append (Lies size) (span_between least (min s.offset size)) (gaps_from (end_of s) size ss) (between_lies size least (min s.offset size) (omega arith)) (gaps_lie size (end_of s) ss)

-- ---- their blocks

-- a block of a file of this number and size
record Fits (most file size : ℕ) (b : Block) : Type 0 where
  pub own : b.file ≡ file
  pub within : b.offset + b.length ≤ size
  pub some : min 1 size ≤ b.length
  pub small : b.length ≤ most

begins : (count most k : ℕ) → 0 < most → k < (count + most - 1) / most → k * most < count
begins count most k some below =
    let q : ℕ = (count + most - 1) / most in
    let whole : suc k * most ≤ (count + most - 1) / most * most = mul-le-mul_right {m = suc k} {n = (count + most - 1) / most} most (omega (arith, below)) in
    omega (arith, whole, suc-mul k most, div-add-mod' (count + most - 1) most, some)

first_fit : (most file size : ℕ) (gap : PlainSpan) (n : ℕ) → 0 < most → Lies size gap → n ≤ pieces_in most gap → All (Fits most file size) (first_pieces most file gap n)
first_fit most file size gap zero some lies within = All-nil (Fits most file size)
first_fit most file size gap (suc n) some lies within =
    let there : n * most < gap.count = begins gap.count most n some (omega (arith, within)) in
    All-push (Fits most file size) (first_pieces most file gap n) (piece_at most file gap n)
    (first_fit most file size gap n some lies (omega (arith, within)))
    record { own = refl; within = omega (arith, there, lies.within); some = omega (arith, there, some); small = omega arith }

gaps_fit : (most file size : ℕ) (gaps : List PlainSpan) → 0 < most → All (Lies size) gaps → All (Fits most file size) (gap_pieces most file gaps)
gaps_fit most file size [] some lies = All-nil (Fits most file size)
gaps_fit most file size (gap ∷ gaps) some lies =
    All-append (Fits most file size) (pieces_of most file gap) (gap_pieces most file gaps)
    (first_fit most file size gap (pieces_in most gap) some (All-head (Lies size) gap gaps lies) (omega arith))
    (gaps_fit most file size gaps some (All-tail (Lies size) gap gaps lies))

file_fits : (have : List HaveFile) (most file : ℕ) (entry : Entry) → 0 < most → All (Fits most file entry.size) (file_rest have most file entry)
file_fits have most file entry some =
    cond_both (is_new_empty have entry) (empty_block file ∷ []) (gap_pieces most file (gaps_in have entry)) (All (Fits most file entry.size))
    (λ e. let empty : entry.size ≡ 0 = eqb-true entry.size 0 (and_parts (entry.size == 0) (not (is_named have entry.path)) e).0 in
    All-cons (Fits most file entry.size) (empty_block file) [] record { own = refl; within = omega arith; some = omega (arith, empty); small = omega arith } (All-nil (Fits most file entry.size)))
    (λ e. gaps_fit most file entry.size (gaps_in have entry) some (gaps_lie entry.size 0 (spans_of have entry.path)))

-- ---- of all files

-- a block of one of the files, whose numbers begin at one
record IsOf (most file : ℕ) (entries : List Entry) (b : Block) : Type 0 where
  pub at : ℕ
  pub entry : Entry
  pub there : slice_get entries at ≡ Some entry
  pub fits : Fits most (file + at) entry.size b

rest_is_of : (have : List HaveFile) (most file : ℕ) (entries : List Entry) → 0 < most → All (IsOf most file entries) (rest_from have most file entries)
rest_is_of have most file [] some = All-nil (IsOf most file [])
rest_is_of have most file (entry ∷ entries) some =
    All-append (IsOf most file (entry ∷ entries)) (file_rest have most file entry) (rest_from have most (file + 1) entries)
    (All-weaker (Fits most file entry.size) (IsOf most file (entry ∷ entries))
    (λ b f. record { at = 0; entry = entry; there = refl; fits = record { own = f.own ∙ omega arith; within = f.within; some = f.some; small = f.small } })
    (file_rest have most file entry) (file_fits have most file entry some))
    (All-weaker (IsOf most (file + 1) entries) (IsOf most file (entry ∷ entries))
    (λ b f. record { at = suc f.at; entry = f.entry; there = f.there; fits = record { own = f.fits.own ∙ omega arith; within = f.fits.within; some = f.fits.some; small = f.fits.small } })
    (rest_from have most (file + 1) entries) (rest_is_of have most (file + 1) entries some))

-- ---- the block that a lane takes

planned_is_of : (s : PlainSender) → 0 < s.block → s.planned ≡ plan_of s.manifest s.block s.have → All (IsOf s.block 0 s.manifest) (blocks_of s)
planned_is_of s some planned = subst (λ (o : Option (List Block)). All (IsOf s.block 0 s.manifest) (listed_blocks o)) (sym planned) (go s.have) where
  go : (o : Option (List HaveFile)) → All (IsOf s.block 0 s.manifest) (listed_blocks (plan_of s.manifest s.block o))
  go None = All-nil (IsOf s.block 0 s.manifest)
  go (Some have) = rest_is_of have s.block 0 s.manifest some

first_kept : (P : Block → Type 0) (test : Block → Bool) (blocks : List Block) (b : Block) → All P blocks → least_of (filter test blocks) ≡ Some b → P b
first_kept P test [] b all e = cc
first_kept P test (c ∷ blocks) b all e = go (test c) (first_kept P test blocks b (All-tail P c blocks all)) e where
  go : (t : Bool) → (least_of (filter test blocks) ≡ Some b → P b) → least_of (cond t (c ∷ filter test blocks) (filter test blocks)) ≡ Some b → P b
  go true later x = subst P (same_Some c b x) (All-head P c blocks all)
  go false later x = later x

least_is_of : (P : Block → Type 0) (n : ℕ) (planned : List Block) (h : List SendEvent) (b : Block) → All P planned → least_of (queued n planned h) ≡ Some b → P b
least_is_of P n planned h b all e = first_kept P (is_queued (claims_of n h)) (planned_now planned h) b (subst (All P) (sym (planned_now-is planned h)) all) e

-- ---- what is told of it

entry_lawful : (entries : List Entry) (at : ℕ) (entry : Entry) → (test : Entry → Bool) → list_all test entries ≡ true → slice_get entries at ≡ Some entry → test entry ≡ true
entry_lawful [] at entry test all e = cc
entry_lawful (d ∷ ds) zero entry test all e = subst (λ (x : Entry). test x ≡ true) (same_Some d entry e) (and_parts (test d) (list_all test ds) all).0
entry_lawful (d ∷ ds) (suc at) entry test all e = entry_lawful ds at entry test (and_parts (test d) (list_all test ds) all).1 e

abbrev IsTold : PlainSender → Block → Type 0
IsTold s b = ((header_of s b).stamp ≤ 18446744073709551615 → FitsHeader (header_of s b)) × IsPartOf s.manifest (header_of s b)

told : (s : PlainSender) (b : Block) → IsLawful s → IsOf s.block 0 s.manifest b → IsTold s b
told s b lawful is =
    let entry : Entry = is.entry in
    let number : b.file ≡ is.at = is.fits.own ∙ omega arith in
    let there : slice_get s.manifest b.file ≡ Some is.entry = subst (λ (k : ℕ). slice_get s.manifest k ≡ Some is.entry) (sym number) is.there in
    let good = and_parts (is_lawful is.entry.path && not (is_reserved is.entry.path)) (nat_le is.entry.size (2 ^ 40)) (entry_lawful s.manifest is.at is.entry is_entry lawful.manifest.each is.there) in
    let path = and_parts (is_lawful is.entry.path) (not (is_reserved is.entry.path)) good.0 in
    let size : is.entry.size ≤ 2 ^ 40 = leb-true is.entry.size (2 ^ 40) good.1 in
    subst (λ (o : Option Entry). ((header_by o b).stamp ≤ 18446744073709551615 → FitsHeader (header_by o b)) × IsPartOf s.manifest (header_by o b)) (sym there) (
      λ stamp. record {
        path = path.0;
        free = not-true (is_reserved is.entry.path) path.1;
        size = omega (arith, size);
        stamp = stamp;
        end = is.fits.within;
        some = is.fits.some;
        most = omega (arith, is.fits.small, lawful.block.1);
      },
      record { file = is.at; entry = is.entry; there = is.there; path = refl; size = refl; stamp = refl },
    )

pub header_fits : (s : PlainSender) (h : List SendEvent) (b : Block) → s.planned ≡ plan_of s.manifest s.block s.have → least_of (queued (length s.lanes) (blocks_of s) h) ≡ Some b → IsLawful s → IsTold s b
header_fits s h b planned least lawful =
    told s b lawful (least_is_of (IsOf s.block 0 s.manifest) (length s.lanes) (blocks_of s) h b (planned_is_of s (omega (arith, lawful.block.0)) planned) least)
