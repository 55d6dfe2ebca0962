-- What a batch says is among the files that it leads to.
use Rattle.std.proofs.Common.{◌≡◌, inl, inr, ℕ, ◌≤◌, Bool, true, false, ◌||◌, ◌&&◌, List, [], ◌∷◌, ◌++◌, map, Option, Some, None, refl, sym, ap, ◌∙◌, subst, nat_lt}
use Rattle.std.specs.Prelude.{if◌then◌else◌, ◌==◌, length}
use Rattle.std.specs.List.{list_any}
use Rattle.std.specs.Str.{bytes_eq}
use Rattle.std.proofs.lemmas.Bool.{and_from, or_left, or_right, or_cases, cases_eq, eq-eqb, ne_eqb, eqb-true, and_parts}
use Rattle.std.proofs.lemmas.Option.{same_Some}
use Rattle.wdt_units.specs.Have.{PlainSpan, is_in}
use Rattle.wdt_units.specs.Tree.{File, file_of}
use Rattle.wdt_ranges.specs.Spans.{has}
use Rattle.wdt_depot.specs.Disk.{Image}
use Rattle.wdt_depot.proofs.ForCallers.{bytes_eq-same}
use Rattle.wdt_logfmt.specs.declared.entry.LogEntry.{LogEntry}
use Rattle.wdt_logfmt.specs.declared.entry.LogEntry.TheVariants.{File as Named, Covered}
use Rattle.wdt_logfmt.specs.Adding.{added, all_added, can_cover, can_name, covering, has_room, have_with, is_room_in, just_named, put_by_number, span_at}
use Rattle.wdt_logfmt.specs.View.{NamedFile, is_view, names}
use Rattle.wdt_logfmt.proofs.ForCallers.{added-view, can_cover-parts, first_added, taken_true}
use Rattle.wdt_good.specs.Batch.{HoldsBatch, HoldsEntry}
use Rattle.wdt_good.specs.Good.{Each, FitsTree, GoodFile, GoodFiles, HasBytes, HasTreeBytes, Stands, covers}
use Rattle.wdt_good.proofs.Files.{AddsSpan, view_adds}
use Rattle.wdt_good.specs.Growing.{Grows, GrowsIn, IsAmong, Says}

-- ---- membership

pub each_in : (P : NamedFile → Type 0) (fs : List NamedFile) (f : NamedFile) → Each P fs → IsAmong f fs → P f
each_in P [] f all among = absurd among
each_in P (g ∷ fs) f all (inl is) = subst P is all.0
each_in P (g ∷ fs) f all (inr more) = each_in P fs f all.1 more

-- what is among the files is named, and what is covered of it is covered
pub among_names : (fs : List NamedFile) (f : NamedFile) → IsAmong f fs → names fs f.have.path ≡ true
among_names [] f among = absurd among
among_names (g ∷ fs) f (inl is) = or_left (bytes_eq g.have.path f.have.path) (names fs f.have.path) (subst (λ (x : NamedFile). bytes_eq x.have.path f.have.path ≡ true) (sym is) (bytes_eq-same f.have.path))
among_names (g ∷ fs) f (inr more) = or_right (bytes_eq g.have.path f.have.path) (names fs f.have.path) (among_names fs f more)

pub among_covers : (fs : List NamedFile) (f : NamedFile) (k : ℕ) → IsAmong f fs → has f.have.spans k ≡ true → covers fs f.have.path k ≡ true
among_covers [] f k among h = absurd among
among_covers (g ∷ fs) f k (inl is) h =
    or_left (bytes_eq g.have.path f.have.path && has g.have.spans k) (covers fs f.have.path k)
    (subst (λ (x : NamedFile). (bytes_eq x.have.path f.have.path && has x.have.spans k) ≡ true) (sym is) (and_from (bytes_eq f.have.path f.have.path) (has f.have.spans k) (bytes_eq-same f.have.path) h))
among_covers (g ∷ fs) f k (inr more) h = or_right (bytes_eq g.have.path f.have.path && has g.have.spans k) (covers fs f.have.path k) (among_covers fs f k more h)

in_put : (x f : NamedFile) (fs : List NamedFile) → IsAmong f fs → IsAmong f (put_by_number x fs)
in_put x f [] among = absurd among
in_put x f (g ∷ fs) among = go (in_put x f fs) (nat_lt x.number g.number) among
  where
    go : (IsAmong f fs → IsAmong f (put_by_number x fs)) → (b : Bool) → IsAmong f (g ∷ fs) → IsAmong f (if b then x ∷ g ∷ fs else g ∷ put_by_number x fs)
    go on true a = inr a
    go on false (inl is) = inl is
    go on false (inr more) = inr (on more)

put_in : (x : NamedFile) (fs : List NamedFile) → IsAmong x (put_by_number x fs)
put_in x [] = inl refl
put_in x (g ∷ fs) = go (put_in x fs) (nat_lt x.number g.number)
  where
    go : IsAmong x (put_by_number x fs) → (b : Bool) → IsAmong x (if b then x ∷ g ∷ fs else g ∷ put_by_number x fs)
    go later true = inl refl
    go later false = inr later

in_map : (h : NamedFile → NamedFile) (f : NamedFile) (fs : List NamedFile) → IsAmong f fs → IsAmong (h f) (map h fs)
in_map h f [] among = absurd among
in_map h f (g ∷ fs) (inl is) = inl (ap h is)
in_map h f (g ∷ fs) (inr more) = inr (in_map h f fs more)

-- ---- growing

grows_same : (f : NamedFile) → Grows f f
grows_same f = record { number = refl; path = refl; size = refl; stamp = refl; spans = λ k h. h }

grows_on : (f g h : NamedFile) → Grows f g → Grows g h → Grows f h
grows_on f g h a b = record {
  number = b.number ∙ a.number;
  path = b.path ∙ a.path;
  size = b.size ∙ a.size;
  stamp = b.stamp ∙ a.stamp;
  spans = λ k is. b.spans k (a.spans k is);
}

pub each_from : (P : NamedFile → Type 0) (fs : List NamedFile) → ((f : NamedFile) → IsAmong f fs → P f) → Each P fs
each_from P [] h = tt
each_from P (f ∷ fs) h = (h f (inl refl), each_from P fs (λ g a. h g (inr a)))

covered_grows : (n : ℕ) (s : PlainSpan) (f : NamedFile) → (f.number ≡ n → AddsSpan s f) → Grows f (covering n s f)
covered_grows n s f adds = elim (cases_eq f.number n) [
  | inl same ↦ subst (λ (b : Bool). Grows f (if b then record { number = f.number; have = have_with s f.have } else f)) (sym (eq-eqb f.number n same))
      (record { number = refl; path = refl; size = refl; stamp = refl; spans = λ k h. adds same k ∙ or_left (has f.have.spans k) (is_in k s) h })
  | inr other ↦ subst (λ (b : Bool). Grows f (if b then record { number = f.number; have = have_with s f.have } else f)) (sym (ne_eqb f.number n other)) (grows_same f)
]

entry_grows : (version : ℕ) (fs gs : List NamedFile) (e : LogEntry) → is_view fs ≡ true → added version fs e ≡ Some gs → (f : NamedFile) → IsAmong f fs → GrowsIn gs f
entry_grows version fs gs (Named n path size stamp) view adds f among =
    let t = taken_true (can_name fs n path size) (put_by_number (just_named n path size stamp) fs) gs adds in
    (f, subst (IsAmong f) t.1 (in_put (just_named n path size stamp) f fs among), grows_same f)
entry_grows version fs gs (Covered n offset count) view adds f among =
    let s = span_at offset count in
    let t = taken_true (can_cover fs n s) (map (covering n s) fs) gs adds in (
      covering n s f,
      subst (IsAmong (covering n s f)) t.1 (in_map (covering n s) f fs among),
      covered_grows n s f (each_in (λ g. g.number ≡ n → AddsSpan s g) fs f (view_adds fs n s view t.0) among),
    )

pub batch_grows : (version : ℕ) (fs gs : List NamedFile) (es : List LogEntry) → is_view fs ≡ true → all_added version fs es ≡ Some gs → (f : NamedFile) → IsAmong f fs → GrowsIn gs f
batch_grows version fs gs [] view adds f among = (f, subst (IsAmong f) (same_Some fs gs adds) among, grows_same f)
batch_grows version fs gs (e ∷ es) view adds f among =
    let first = first_added version fs gs e es adds in
    let one = entry_grows version fs first.0 e view first.1 f among in
    let more = batch_grows version first.0 gs es (added-view version fs first.0 e view first.1) first.2 one.0 one.1 in
    (more.0, more.1, grows_on f one.0 more.0 one.2 more.2)

-- ---- what an entry says is among the files that it leads to

said_more : (e : LogEntry) (gs hs : List NamedFile) → ((g : NamedFile) → IsAmong g gs → GrowsIn hs g) → Says gs e → Says hs e
said_more (Named n path size stamp) gs hs grows said =
    let more = grows said.0 said.1 in
    (more.0, more.1, grows_on (just_named n path size stamp) said.0 more.0 said.2 more.2)
said_more (Covered n offset count) gs hs grows said =
    let more = grows said.0 said.1 in
    (more.0, more.1, more.2.number ∙ said.2, λ k h. more.2.spans k (said.3 k h))

numbered_room : (n : ℕ) (s : PlainSpan) (fs : List NamedFile) → list_any (is_room_in n s) fs ≡ true → (f : NamedFile) × IsAmong f fs × (f.number ≡ n)
numbered_room n s [] room = absurd (cc)
numbered_room n s (f ∷ fs) room = elim (or_cases (f.number == n && has_room s f.have) (list_any (is_room_in n s) fs) room) [
  | inl here ↦ (f, inl refl, eqb-true f.number n (and_parts (f.number == n) (has_room s f.have) here).0)
  | inr later ↦ (let more = numbered_room n s fs later in (more.0, inr more.1, more.2))
]

covered_says : (n : ℕ) (s : PlainSpan) (f : NamedFile) → f.number ≡ n → AddsSpan s f → (covering n s f).number ≡ n × ((k : ℕ) → is_in k s ≡ true → has (covering n s f).have.spans k ≡ true)
covered_says n s f same adds =
    subst (λ (b : Bool). ((if b then record { number = f.number; have = have_with s f.have } else f).number ≡ n) × ((k : ℕ) → is_in k s ≡ true → has (if b then record { number = f.number; have = have_with s f.have } else f).have.spans k ≡ true))
    (sym (eq-eqb f.number n same)) (same, λ k h. adds k ∙ or_right (has f.have.spans k) (is_in k s) h)

entry_says : (version : ℕ) (fs gs : List NamedFile) (e : LogEntry) → is_view fs ≡ true → added version fs e ≡ Some gs → Says gs e
entry_says version fs gs (Named n path size stamp) view adds =
    let t = taken_true (can_name fs n path size) (put_by_number (just_named n path size stamp) fs) gs adds in
    (just_named n path size stamp, subst (IsAmong (just_named n path size stamp)) t.1 (put_in (just_named n path size stamp) fs), grows_same (just_named n path size stamp))
entry_says version fs gs (Covered n offset count) view adds =
    let s = span_at offset count in
    let t = taken_true (can_cover fs n s) (map (covering n s) fs) gs adds in
    let f = numbered_room n s fs (can_cover-parts fs n s t.0).room in
    let c = covered_says n s f.0 f.2 (each_in (λ g. g.number ≡ n → AddsSpan s g) fs f.0 (view_adds fs n s view t.0) f.1 f.2) in
    (covering n s f.0, subst (IsAmong (covering n s f.0)) t.1 (in_map (covering n s) f.0 fs f.1), c.0, c.1)

-- each entry
pub batch_says : (version : ℕ) (fs gs : List NamedFile) (es : List LogEntry) → is_view fs ≡ true → all_added version fs es ≡ Some gs → Each (Says gs) es
batch_says version fs gs [] view adds = tt
batch_says version fs gs (e ∷ es) view adds =
    let first = first_added version fs gs e es adds in
    let next = added-view version fs first.0 e view first.1 in
    (said_more e first.0 gs (batch_grows version first.0 gs es next first.2) (entry_says version fs first.0 e view first.1), batch_says version first.0 gs es next first.2)

-- ---- an image in which the files that a batch leads to are good holds what the batch says

fits_before : (T : List File) (f g : NamedFile) → Grows f g → FitsTree T g → FitsTree T f
fits_before T f g grows fits = record {
  file = fits.file;
  there = ap (file_of T) (sym grows.path) ∙ fits.there;
  size = fits.size ∙ grows.size;
  stamp = fits.stamp ∙ grows.stamp;
}

stands_before : (i : Image) (f g : NamedFile) → Grows f g → Stands (i g.have.path) g → Stands (i f.have.path) f
stands_before i f g grows stands = go (i g.have.path) refl stands
  where
    go : (found : Option (List ℕ)) → i g.have.path ≡ found → Stands found g → Stands (i f.have.path) f
    go None is h = absurd h
    go (Some b) is h = subst (λ (o : Option (List ℕ)). Stands o f) (sym (ap i (sym grows.path) ∙ is)) (subst (λ (m : ℕ). length b ≤ m) grows.size h)

bytes_some : (found : Option (List ℕ)) (bytes : List ℕ) (ss ts : List PlainSpan) → ((k : ℕ) → has ss k ≡ true → has ts k ≡ true) → HasBytes found bytes ts → HasBytes found bytes ss
bytes_some None bytes ss ts less h = h
bytes_some (Some b) bytes ss ts less h = λ k is. h k (less k is)

span_held : (T : List File) (i : Image) (n : ℕ) (s : PlainSpan) (f g : NamedFile) → Grows f g → ((k : ℕ) → is_in k s ≡ true → has g.have.spans k ≡ true) → GoodFile T (i g.have.path) g → HasTreeBytes T (i f.have.path) f (s ∷ [])
span_held T i n s f g grows says good t there size stamp =
    subst (λ (o : Option (List ℕ)). HasBytes o t.bytes (s ∷ [])) (ap i grows.path)
    (bytes_some (i g.have.path) t.bytes (s ∷ []) g.have.spans (λ k h. says k (one k h)) (good.same t (ap (file_of T) grows.path ∙ there) (size ∙ sym grows.size) (stamp ∙ sym grows.stamp)))
  where
    one : (k : ℕ) → (is_in k s || false) ≡ true → is_in k s ≡ true
    one k h = elim (or_cases (is_in k s) false h) [ inl a ↦ a | inr b ↦ absurd (cc) ]

-- the files behind the entry have the span in each file of the number
covered_all : (n : ℕ) (s : PlainSpan) (fs gs : List NamedFile) → Each (λ f. f.number ≡ n → AddsSpan s f) fs → (map (covering n s) fs ≡ gs) → (f : NamedFile) → IsAmong f fs → f.number ≡ n
    → (g : NamedFile) × IsAmong g gs × Grows f g × ((k : ℕ) → is_in k s ≡ true → has g.have.spans k ≡ true)
covered_all n s fs gs adds is f among same =
    let one = each_in (λ g. g.number ≡ n → AddsSpan s g) fs f adds among in
    (covering n s f, subst (IsAmong (covering n s f)) is (in_map (covering n s) f fs among), covered_grows n s f one, (covered_says n s f same (one same)).1)

entry_held : (version : ℕ) (T : List File) (i : Image) (fs gs hs : List NamedFile) (e : LogEntry) → is_view fs ≡ true → added version fs e ≡ Some gs → ((g : NamedFile) → IsAmong g gs → GrowsIn hs g) → GoodFiles T i hs → HoldsEntry T i fs e
entry_held version T i fs gs hs (Named n path size stamp) view adds grows good =
    let said = said_more (Named n path size stamp) gs hs grows (entry_says version fs gs (Named n path size stamp) view adds) in
    let g = each_in (λ f. GoodFile T (i f.have.path) f) hs said.0 good said.1 in
    (fits_before T (just_named n path size stamp) said.0 said.2 g.fits, stands_before i (just_named n path size stamp) said.0 said.2 g.stands)
entry_held version T i fs gs hs (Covered n offset count) view adds grows good =
    let s = span_at offset count in
    let t = taken_true (can_cover fs n s) (map (covering n s) fs) gs adds in
    each_from (λ f. f.number ≡ n → HasTreeBytes T (i f.have.path) f (s ∷ [])) fs (λ f among same.
    let c = covered_all n s fs gs (view_adds fs n s view t.0) t.1 f among same in
    let more = grows c.0 c.1 in
    span_held T i n s f more.0 (grows_on f c.0 more.0 c.2 more.2) (λ k h. more.2.spans k (c.3 k h)) (each_in (λ g. GoodFile T (i g.have.path) g) hs more.0 good more.1))

pub good_holds : (version : ℕ) (T : List File) (i : Image) (fs gs : List NamedFile) (es : List LogEntry) → is_view fs ≡ true → all_added version fs es ≡ Some gs → GoodFiles T i gs → HoldsBatch version T i fs es
good_holds version T i fs gs [] view adds good = tt
good_holds version T i fs gs (e ∷ es) view adds good =
    let first = first_added version fs gs e es adds in
    let next = added-view version fs first.0 e view first.1 in (
      entry_held version T i fs first.0 gs e view first.1 (batch_grows version first.0 gs es next first.2) good,
      λ hs also. (let same : first.0 ≡ hs = same_Some first.0 hs (sym first.1 ∙ also) in subst (λ xs. HoldsBatch version T i xs es) same (good_holds version T i first.0 gs es next first.2 good)),
    )

-- ---- a batch behind another

-- what two batches say, the one behind the other holds
pub holds_more : (version : ℕ) (T : List File) (i : Image) (fs gs : List NamedFile) (es ds : List LogEntry) → all_added version fs es ≡ Some gs → HoldsBatch version T i fs es → HoldsBatch version T i gs ds → HoldsBatch version T i fs (es ++ ds)
holds_more version T i fs gs [] ds adds holds more = subst (λ hs. HoldsBatch version T i hs ds) (sym (same_Some fs gs adds)) more
holds_more version T i fs gs (e ∷ es) ds adds holds more =
    let first = first_added version fs gs e es adds in (
      holds.0,
      λ hs also. (let same : first.0 ≡ hs = same_Some first.0 hs (sym first.1 ∙ also) in
          holds_more version T i hs gs es ds (subst (λ ks. all_added version ks es ≡ Some gs) same first.2) (holds.1 hs also) more),
    )
