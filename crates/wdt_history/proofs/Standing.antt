-- Where a block stands among all lanes.
use Rattle.std.proofs.Common.{◌≡◌, ◌↔◌, ℕ, zero, suc, ◌+◌, ◌-◌, ◌<◌, ◌≤◌, Bool, true, false, ltb, ◌&&◌, ◌||◌, ◌==◌, not, List, [], ◌∷◌, length, get_or, take, drop, slice_get, if◌then◌else◌, Option, Some, None, refl, sym, ap, ◌∙◌, arith}
use Rattle.std.specs.List.{list_any, position}
use Rattle.std.specs.Option.{option_map, unwrap_or}
use Rattle.std.proofs.lemmas.Bool.{not-true, not_from_false, or_parts}
use Rattle.std.proofs.lemmas.Option.{slice_get_within}
use Rattle.wdt_units.specs.declared.blocks.Block.{Block}
use Rattle.wdt_claims.specs.Blocks.{is_same}
use Rattle.wdt_claims.specs.LaneWords.{Claims}
use Rattle.wdt_claims.proofs.Shared.{count_of-parts, absent, among, among_first, among_last, counted_at, found, not_among, not_found, stands_at}
use Rattle.wdt_claims.specs.declared.place.Place.{Place}
use Rattle.wdt_claims.specs.declared.place.Place.TheVariants.{Queued, Held, Unconfirmed, Confirmed}
use Rattle.wdt_claims.specs.Claimed.{lane_at, count_in, count_kept, AreLanes, IsLane}
use Rattle.wdt_claims.specs.Places.{confirms, holds, is_among, is_queued, keeps, place_at, place_in, place_of}
use Rattle.wdt_history.proofs.Keeps.{count_kept-cons, count_kept-nil}

-- the place by what the tests answer
abbrev pub by_tests : Bool → Bool → Bool → Place
by_tests queued confirmed held = if queued then Queued else if confirmed then Confirmed else if held then Held else Unconfirmed

-- ---- a lane that lacks the block

held_not : (h a n : Bool) → a ≡ false → (h && a && n) ≡ false
held_not true a n e = ap (λ (x : Bool). x && n) e
held_not false a n e = refl

pub lacks : (b : Block) (s : Claims) → count_in b s ≡ 0 → (keeps b s ≡ false) × (confirms b s ≡ false) × (holds b s ≡ false)
lacks b s none = (
  not_among b s.kept none,
  not_among b (take s.sure s.kept) (omega (arith, none, count_of-parts b s.kept s.sure)),
  held_not s.held (is_among (drop (length s.kept - 1) s.kept) b) (not (confirms b s)) (not_among b (drop (length s.kept - 1) s.kept) (omega (arith, none, count_of-parts b s.kept (length s.kept - 1)))),
)

none_in : (b : Block) (p : Claims → Bool) → ((s : Claims) → count_in b s ≡ 0 → p s ≡ false) → (lanes : List Claims) → count_kept b lanes ≡ 0 → list_any p lanes ≡ false
none_in b p gone [] none = refl
none_in b p gone (s ∷ lanes) none =
    ap (λ (x : Bool). x || list_any p lanes) (gone s (omega (arith, none, count_kept-cons b s lanes)))
    ∙ none_in b p gone lanes (omega (arith, none, count_kept-cons b s lanes))

-- it leaves the block to the others
pub pass_on : (b : Block) (s : Claims) (lanes : List Claims) → count_in b s ≡ 0 → place_of b (s ∷ lanes) ≡ place_of b lanes
pass_on b s lanes none =
    let gone = lacks b s none in
    ap (λ (x : Bool). by_tests (not (x || list_any (keeps b) lanes)) (confirms b s || list_any (confirms b) lanes) (holds b s || list_any (holds b) lanes)) gone.0
    ∙ ap (λ (x : Bool). by_tests (not (list_any (keeps b) lanes)) (x || list_any (confirms b) lanes) (holds b s || list_any (holds b) lanes)) gone.1
    ∙ ap (λ (x : Bool). by_tests (not (list_any (keeps b) lanes)) (list_any (confirms b) lanes) (x || list_any (holds b) lanes)) gone.2

-- ---- the lane that has it

one_lane : (c h : Bool) → by_tests (not (true || false)) (c || false) ((h && not c) || false) ≡ (if c then Confirmed else if h then Held else Unconfirmed)
one_lane true true = refl
one_lane true false = refl
one_lane false true = refl
one_lane false false = refl

pub here : (b : Block) (s : Claims) (lanes : List Claims) (i : ℕ) → s.sure ≤ length s.kept → count_in b s ≤ 1 → count_kept b lanes ≡ 0 → position (is_same b) s.kept ≡ Some i → place_of b (s ∷ lanes) ≡ place_at s i
here b s lanes i sure once others e =
    ap (λ (x : Bool). by_tests (not (x || list_any (keeps b) lanes)) (confirms b s || list_any (confirms b) lanes) (holds b s || list_any (holds b) lanes)) (among b s.kept i e)
    ∙ ap (λ (x : Bool). by_tests (not (true || x)) (confirms b s || list_any (confirms b) lanes) (holds b s || list_any (holds b) lanes)) (none_in b (keeps b) (λ t gone. (lacks b t gone).0) lanes others)
    ∙ ap (λ (x : Bool). by_tests (not (true || false)) (confirms b s || x) (holds b s || list_any (holds b) lanes)) (none_in b (confirms b) (λ t gone. (lacks b t gone).1) lanes others)
    ∙ ap (λ (x : Bool). by_tests (not (true || false)) (confirms b s || false) (holds b s || x)) (none_in b (holds b) (λ t gone. (lacks b t gone).2) lanes others)
    ∙ ap (λ (c : Bool). by_tests (not (true || false)) (c || false) ((s.held && is_among (drop (length s.kept - 1) s.kept) b && not c) || false)) (among_first b s.kept i s.sure sure e)
    ∙ ap (λ (l : Bool). by_tests (not (true || false)) (ltb i s.sure || false) ((s.held && l && not (ltb i s.sure)) || false)) (among_last b s.kept i once e)
    ∙ one_lane (ltb i s.sure) (s.held && (i + 1) == length s.kept)

-- ---- the first lane that has the block

abbrev pub first_place : Block → List Claims → Place
first_place b [] = Queued
first_place b (s ∷ lanes) = unwrap_or (place_in b s) (first_place b lanes)

-- the sure blocks of each lane are of its list
abbrev pub AreSure : List Claims → Type 0
AreSure [] = Unit {0}
AreSure (s ∷ lanes) = (s.sure ≤ length s.kept) × AreSure lanes

step : (b : Block) (s : Claims) (lanes : List Claims) (o : Option ℕ) → position (is_same b) s.kept ≡ o → s.sure ≤ length s.kept → count_kept b (s ∷ lanes) ≤ 1 → first_place b lanes ≡ place_of b lanes
    → first_place b (s ∷ lanes) ≡ place_of b (s ∷ lanes)
step b s lanes None e sure once rest =
    ap (λ (o : Option ℕ). unwrap_or (option_map (place_at s) o) (first_place b lanes)) e ∙ rest ∙ sym (pass_on b s lanes (not_found b s.kept e))
step b s lanes (Some i) e sure once rest =
    let has : 1 ≤ count_in b s = omega (arith, counted_at b s.kept i (stands_at b s.kept i e)) in
    ap (λ (o : Option ℕ). unwrap_or (option_map (place_at s) o) (first_place b lanes)) e
    ∙ sym (here b s lanes i sure (omega (arith, once, count_kept-cons b s lanes)) (omega (arith, once, has, count_kept-cons b s lanes)) e)

pub first_is : (b : Block) (lanes : List Claims) → AreSure lanes → count_kept b lanes ≤ 1 → first_place b lanes ≡ place_of b lanes
first_is b [] sure once = refl
first_is b (s ∷ lanes) sure once =
    step b s lanes (position (is_same b) s.kept) refl sure.0 once (first_is b lanes sure.1 (omega (arith, once, count_kept-cons b s lanes)))

sure_from : (lanes : List Claims) → ((k : ℕ) (d : Claims) → k < length lanes → IsLane (get_or lanes k d)) → AreSure lanes
sure_from [] each = tt
sure_from (s ∷ lanes) each = ((each 0 s (omega arith)).sure, sure_from lanes (λ k d lt. each (suc k) d (omega (arith, lt))))

pub place_from : (b : Block) (lanes : List Claims) → AreLanes lanes → first_place b lanes ≡ place_of b lanes
place_from b lanes are = first_is b lanes (sure_from lanes are.each) (are.once b)

-- ---- the laws

kept_at : (b : Block) (lanes : List Claims) (l i : ℕ) → slice_get (lane_at lanes l).kept i ≡ Some b → 1 ≤ count_kept b lanes
kept_at b [] l i e = absurd (omega (arith, slice_get_within [] i b e))
kept_at b (s ∷ lanes) zero i e = omega (arith, count_kept-cons b s lanes, counted_at b s.kept i e)
kept_at b (s ∷ lanes) (suc l) i e = omega (arith, count_kept-cons b s lanes, kept_at b lanes l i e)

listed_in : (lanes : List Claims) (l i : ℕ) (b : Block) → AreSure lanes → count_kept b lanes ≤ 1 → slice_get (lane_at lanes l).kept i ≡ Some b → place_of b lanes ≡ place_at (lane_at lanes l) i
listed_in [] l i b sure once e = absurd (omega (arith, slice_get_within [] i b e))
listed_in (s ∷ lanes) zero i b sure once e =
    let single : count_in b s ≤ 1 = omega (arith, once, count_kept-cons b s lanes) in
    here b s lanes i sure.0 single (omega (arith, once, counted_at b s.kept i e, count_kept-cons b s lanes)) (found b s.kept i e single)
listed_in (s ∷ lanes) (suc l) i b sure once e =
    pass_on b s lanes (omega (arith, count_kept-cons b s lanes, kept_at b lanes l i e, once))
    ∙ listed_in lanes l i b sure.1 (omega (arith, count_kept-cons b s lanes, once)) e

pub listed : (lanes : List Claims) (l i : ℕ) (b : Block) → AreLanes lanes → slice_get (lane_at lanes l).kept i ≡ Some b → place_of b lanes ≡ place_at (lane_at lanes l) i
listed lanes l i b are e = listed_in lanes l i b (sure_from lanes are.each) (are.once b) e

pub queued_from : (lanes : List Claims) (b : Block) → count_kept b lanes ≡ 0 → place_of b lanes ≡ Queued
queued_from [] b none = refl
queued_from (s ∷ lanes) b none = pass_on b s lanes (omega (arith, count_kept-cons b s lanes, none)) ∙ queued_from lanes b (omega (arith, count_kept-cons b s lanes, none))

only_queued : (q c h : Bool) → by_tests q c h ≡ Queued → q ≡ true
only_queued true c h e = refl
only_queued false true h e = cc
only_queued false false true e = cc
only_queued false false false e = cc

kept_none : (b : Block) (lanes : List Claims) → not (list_any (keeps b) lanes) ≡ true → count_kept b lanes ≡ 0
kept_none b [] gone = count_kept-nil b
kept_none b (s ∷ lanes) gone =
    let both = or_parts (keeps b s) (list_any (keeps b) lanes) (not-true (keeps b s || list_any (keeps b) lanes) gone) in
    omega (arith, count_kept-cons b s lanes, unseen b s both.0, kept_none b lanes (not_from_false (list_any (keeps b) lanes) both.1))
  where
    unseen : (b : Block) (s : Claims) → keeps b s ≡ false → count_in b s ≡ 0
    unseen b s gone = absent b s.kept gone

pub queued_only : (lanes : List Claims) (b : Block) → place_of b lanes ≡ Queued → count_kept b lanes ≡ 0
queued_only lanes b q = kept_none b lanes (only_queued (is_queued lanes b) (list_any (confirms b) lanes) (list_any (holds b) lanes) q)

pub queued_where : (lanes : List Claims) (b : Block) → (place_of b lanes ≡ Queued) ↔ (count_kept b lanes ≡ 0)
queued_where lanes b = (queued_only lanes b, queued_from lanes b)
