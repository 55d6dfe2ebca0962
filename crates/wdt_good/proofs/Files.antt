-- A batch keeps files good, and takes nothing away.
use Rattle.std.proofs.Common.{◌≡◌, inl, inr, ℕ, ◌<◌, ◌≤◌, ◌^◌, Bool, true, false, ◌&&◌, ◌||◌, not, nat_lt, nat_le, List, [], ◌∷◌, map, Option, Some, None, sym, ◌∙◌, subst, arith}
use Rattle.std.specs.Prelude.{if◌then◌else◌, ◌==◌, bytes_eq}
use Rattle.std.specs.List.{list_all, list_any}
use Rattle.std.proofs.lemmas.Bool.{and_parts, and_from, or_cases, or_left, or_right, leb-true, ltb-true, eqb-true, not-true, cases_eq, ne_eqb, eq-eqb}
use Rattle.std.proofs.lemmas.Option.{same_Some}
use Rattle.wdt_units.specs.Have.{PlainSpan, is_in}
use Rattle.wdt_units.specs.Tree.{File}
use Rattle.wdt_ranges.specs.Spans.{end_of, has, is_span}
use Rattle.wdt_ranges.proofs.ForCallers.{span_from}
use Rattle.wdt_depot.specs.Disk.{Image}
use Rattle.wdt_logfmt.specs.declared.entry.LogEntry.{LogEntry}
use Rattle.wdt_logfmt.specs.declared.entry.LogEntry.TheVariants.{File as Named, Covered}
use Rattle.wdt_logfmt.specs.Adding.{added, all_added, can_cover, can_name, covering, has_room, have_with, is_room_in, just_named, overlap, put_by_number, span_at, with_span}
use Rattle.wdt_logfmt.specs.View.{NamedFile, is_file, is_numbered_above, is_rising, is_view, names}
use Rattle.wdt_logfmt.proofs.ForCallers.{added-view, can_cover-parts, file_parts, first_added, names_kept, names_put, room_above, taken_true, view_parts, with_has}
use Rattle.wdt_good.specs.Batch.{HoldsBatch, HoldsEntry}
use Rattle.wdt_good.specs.Good.{Each, FitsTree, GoodFile, GoodFiles, HasBytes, HasTreeBytes, Stands, covers}

pub each_with : {A : Type 0} (P N Q : A → Type 0) (xs : List A) → ((x : A) → P x → N x → Q x) → Each P xs → Each N xs → Each Q xs
each_with P N Q [] f h n = tt
each_with P N Q (x ∷ xs) f h n = (f x h.0 n.0, each_with P N Q xs f h.1 n.1)

-- ---- a file more

each_put : (P : NamedFile → Type 0) (x : NamedFile) (fs : List NamedFile) → P x → Each P fs → Each P (put_by_number x fs)
each_put P x [] p h = (p, tt)
each_put P x (f ∷ fs) p h = go (nat_lt x.number f.number) (each_put P x fs p h.1)
  where
    go : (b : Bool) → Each P (put_by_number x fs) → Each P (if b then x ∷ f ∷ fs else f ∷ put_by_number x fs)
    go true later = (p, h)
    go false later = (h.0, later)

abbrev covers_by : List ℕ → ℕ → NamedFile → Bool
covers_by path k f = bytes_eq f.have.path path && has f.have.spans k

covers_put : (x : NamedFile) (fs : List NamedFile) (path : List ℕ) (k : ℕ) → covers fs path k ≡ true → covers (put_by_number x fs) path k ≡ true
covers_put x [] path k h = absurd (cc)
covers_put x (f ∷ fs) path k h = go (nat_lt x.number f.number) (covers_put x fs path k)
  where
    go : (b : Bool) → (covers fs path k ≡ true → covers (put_by_number x fs) path k ≡ true) → covers (if b then x ∷ f ∷ fs else f ∷ put_by_number x fs) path k ≡ true
    go true more = or_right (covers_by path k x) (covers (f ∷ fs) path k) h
    go false more = elim (or_cases (covers_by path k f) (covers fs path k) h) [
      | inl first ↦ or_left (covers_by path k f) (covers (put_by_number x fs) path k) first
      | inr later ↦ or_right (covers_by path k f) (covers (put_by_number x fs) path k) (more later)
    ]

named_good : (T : List File) (found : Option (List ℕ)) (number : ℕ) (path : List ℕ) (size stamp : ℕ) → FitsTree T (just_named number path size stamp) → Stands found (just_named number path size stamp)
    → GoodFile T found (just_named number path size stamp)
named_good T found number path size stamp fits stands = record { fits = fits; stands = stands; same = λ t there is at. go found stands t }
  where
    go : (found : Option (List ℕ)) → Stands found (just_named number path size stamp) → (t : File) → HasBytes found t.bytes []
    go None stands t = stands
    go (Some bytes) stands t = λ k none. absurd (cc)

-- ---- a span more

-- the span is put to what is covered of the file, and nothing else
abbrev pub AddsSpan : PlainSpan → NamedFile → Type 0
AddsSpan s f = (k : ℕ) → has (with_span s f.have.spans) k ≡ (has f.have.spans k || is_in k s)

abbrev with_one : PlainSpan → NamedFile → NamedFile
with_one s f = record { number = f.number; have = have_with s f.have }

covering_is : (P : NamedFile → Type 0) (n : ℕ) (s : PlainSpan) (f : NamedFile) → (f.number ≡ n → P (with_one s f)) → P f → P (covering n s f)
covering_is P n s f new old = elim (cases_eq f.number n) [
  | inl same ↦ subst (λ (b : Bool). P (if b then with_one s f else f)) (sym (eq-eqb f.number n same)) (new same)
  | inr other ↦ subst (λ (b : Bool). P (if b then with_one s f else f)) (sym (ne_eqb f.number n other)) old
]

each_covering : (P Q : NamedFile → Type 0) (n : ℕ) (s : PlainSpan) (fs : List NamedFile) → ((f : NamedFile) → P f → (f.number ≡ n → Q f) → P (covering n s f)) → Each P fs → Each (λ f. f.number ≡ n → Q f) fs
    → Each P (map (covering n s) fs)
each_covering P Q n s [] keeps h q = tt
each_covering P Q n s (f ∷ fs) keeps h q = (keeps f h.0 q.0, each_covering P Q n s fs keeps h.1 q.1)

-- a file with room for a span
room_adds : (s : PlainSpan) (f : NamedFile) → 0 < s.count → is_file f ≡ true → has_room s f.have ≡ true → AddsSpan s f
room_adds s f some h room =
    let p = file_parts f h in
    let r = and_parts (nat_le (end_of s) f.have.size) (not (list_any (overlap s) f.have.spans)) room in
    let le = leb-true (end_of s) f.have.size r.0 in
    let small = leb-true f.have.size (2 ^ 40) (and_parts _ (nat_le f.have.size (2 ^ 40)) p.nameable).1 in
    let span : is_span s ≡ true = span_from s some (omega arith) in
    λ k. with_has 0 s f.have.spans k p.apart span (not-true (list_any (overlap s) f.have.spans) r.1)

none_numbered : (Q : NamedFile → Type 0) (n : ℕ) (f : NamedFile) (fs : List NamedFile) → n ≤ f.number → list_all (is_numbered_above f) fs ≡ true → Each (λ g. g.number ≡ n → Q g) fs
none_numbered Q n f [] le all = tt
none_numbered Q n f (g ∷ fs) le all =
    let a = and_parts (nat_lt f.number g.number) (list_all (is_numbered_above f) fs) all in
    let lt = ltb-true f.number g.number a.0 in
    ((λ same. absurd (omega arith)), none_numbered Q n f fs le a.1)

-- the file of the number is the one that has room
each_adds : (n : ℕ) (s : PlainSpan) (fs : List NamedFile) → 0 < s.count → list_all is_file fs ≡ true → is_rising fs ≡ true → list_any (is_room_in n s) fs ≡ true → Each (λ f. f.number ≡ n → AddsSpan s f) fs
each_adds n s [] some each up room = tt
each_adds n s (f ∷ fs) some each up room =
    let e = and_parts (is_file f) (list_all is_file fs) each in
    let u = and_parts (list_all (is_numbered_above f) fs) (is_rising fs) up in
    elim (or_cases (f.number == n && has_room s f.have) (list_any (is_room_in n s) fs) room) [
      | inl here ↦
          let h = and_parts (f.number == n) (has_room s f.have) here in
          let is = eqb-true f.number n h.0 in
          ((λ same. room_adds s f some e.0 h.1), none_numbered (AddsSpan s) n f fs (omega arith) u.0)
      | inr later ↦
          let lt = room_above n s f fs u.0 later in
          ((λ same. absurd (omega arith)), each_adds n s fs some e.1 u.1 later)
    ]

pub view_adds : (fs : List NamedFile) (n : ℕ) (s : PlainSpan) → is_view fs ≡ true → can_cover fs n s ≡ true → Each (λ f. f.number ≡ n → AddsSpan s f) fs
view_adds fs n s view can =
    let v = view_parts fs view in
    let c = can_cover-parts fs n s can in
    each_adds n s fs c.some v.each v.rising c.room

both_have : (found : Option (List ℕ)) (bytes : List ℕ) (ss new : List PlainSpan) (s : PlainSpan) → ((k : ℕ) → has new k ≡ (has ss k || is_in k s)) → HasBytes found bytes ss → HasBytes found bytes (s ∷ [])
    → HasBytes found bytes new
both_have None bytes ss new s adds old one = absurd old
both_have (Some found) bytes ss new s adds old one = λ k h. elim (or_cases (has ss k) (is_in k s) (sym (adds k) ∙ h)) [
  | inl before ↦ old k before
  | inr now ↦ one k (or_left (is_in k s) false now)
]

span_good : (T : List File) (found : Option (List ℕ)) (s : PlainSpan) (f : NamedFile) → AddsSpan s f → HasTreeBytes T found f (s ∷ []) → GoodFile T found f → GoodFile T found (with_one s f)
span_good T found s f adds one good = record {
  fits = record { file = good.fits.file; there = good.fits.there; size = good.fits.size; stamp = good.fits.stamp };
  stands = go found good.stands;
  same = λ t there size stamp. both_have found t.bytes f.have.spans (with_span s f.have.spans) s adds (good.same t there size stamp) (one t there size stamp);
}
  where
    go : (found : Option (List ℕ)) → Stands found f → Stands found (with_one s f)
    go None stands = stands
    go (Some bytes) stands = stands

covers_covering : (n : ℕ) (s : PlainSpan) (fs : List NamedFile) (path : List ℕ) (k : ℕ) → Each (λ f. f.number ≡ n → AddsSpan s f) fs → covers fs path k ≡ true → covers (map (covering n s) fs) path k ≡ true
covers_covering n s [] path k adds h = absurd (cc)
covers_covering n s (f ∷ fs) path k adds h =
    elim (or_cases (bytes_eq f.have.path path && has f.have.spans k) (covers fs path k) h) [
      | inl first ↦ or_left (bytes_eq (covering n s f).have.path path && has (covering n s f).have.spans k) (covers (map (covering n s) fs) path k)
          (covering_is (λ g. (bytes_eq g.have.path path && has g.have.spans k) ≡ true) n s f
          (λ same.
          let p = and_parts (bytes_eq f.have.path path) (has f.have.spans k) first in
          and_from (bytes_eq f.have.path path) (has (with_span s f.have.spans) k) p.0 (adds.0 same k ∙ or_left (has f.have.spans k) (is_in k s) p.1))
          first)
      | inr later ↦ or_right (bytes_eq (covering n s f).have.path path && has (covering n s f).have.spans k) (covers (map (covering n s) fs) path k) (covers_covering n s fs path k adds.1 later)
    ]

-- ---- an entry

entry_good : (version : ℕ) (T : List File) (i : Image) (fs gs : List NamedFile) (e : LogEntry) → is_view fs ≡ true → GoodFiles T i fs → HoldsEntry T i fs e → added version fs e ≡ Some gs → GoodFiles T i gs
entry_good version T i fs gs (Named n path size stamp) view good holds adds =
    let t = taken_true (can_name fs n path size) (put_by_number (just_named n path size stamp) fs) gs adds in
    subst (GoodFiles T i) t.1 (each_put (λ f. GoodFile T (i f.have.path) f) (just_named n path size stamp) fs (named_good T (i path) n path size stamp holds.0 holds.1) good)
entry_good version T i fs gs (Covered n offset count) view good holds adds =
    let s = span_at offset count in
    let t = taken_true (can_cover fs n s) (map (covering n s) fs) gs adds in
    let one : Each (λ f. f.number ≡ n → AddsSpan s f × HasTreeBytes T (i f.have.path) f (s ∷ [])) fs =
    each_with (λ f. f.number ≡ n → AddsSpan s f) (λ f. f.number ≡ n → HasTreeBytes T (i f.have.path) f (s ∷ [])) (λ f. f.number ≡ n → AddsSpan s f × HasTreeBytes T (i f.have.path) f (s ∷ [])) fs
    (λ f a b same. (a same, b same)) (view_adds fs n s view t.0) holds in
    subst (GoodFiles T i) t.1 (each_covering (λ f. GoodFile T (i f.have.path) f) (λ f. AddsSpan s f × HasTreeBytes T (i f.have.path) f (s ∷ [])) n s fs
    (λ f was has. covering_is (λ g. GoodFile T (i g.have.path) g) n s f (λ same. span_good T (i f.have.path) s f (has same).0 (has same).1 was) was) good one)

entry_names : (version : ℕ) (fs gs : List NamedFile) (e : LogEntry) (path : List ℕ) → added version fs e ≡ Some gs → names fs path ≡ true → names gs path ≡ true
entry_names version fs gs (Named n p size stamp) path adds h =
    let t = taken_true (can_name fs n p size) (put_by_number (just_named n p size stamp) fs) gs adds in
    subst (λ hs. names hs path ≡ true) t.1 (names_put (just_named n p size stamp) fs path ∙ or_right (bytes_eq p path) (names fs path) h)
entry_names version fs gs (Covered n offset count) path adds h =
    let t = taken_true (can_cover fs n (span_at offset count)) (map (covering n (span_at offset count)) fs) gs adds in
    subst (λ hs. names hs path ≡ true) t.1 (names_kept n (span_at offset count) fs path ∙ h)

entry_covers : (version : ℕ) (fs gs : List NamedFile) (e : LogEntry) (path : List ℕ) (k : ℕ) → is_view fs ≡ true → added version fs e ≡ Some gs → covers fs path k ≡ true → covers gs path k ≡ true
entry_covers version fs gs (Named n p size stamp) path k view adds h =
    let t = taken_true (can_name fs n p size) (put_by_number (just_named n p size stamp) fs) gs adds in
    subst (λ hs. covers hs path k ≡ true) t.1 (covers_put (just_named n p size stamp) fs path k h)
entry_covers version fs gs (Covered n offset count) path k view adds h =
    let s = span_at offset count in
    let t = taken_true (can_cover fs n s) (map (covering n s) fs) gs adds in
    subst (λ hs. covers hs path k ≡ true) t.1 (covers_covering n s fs path k (view_adds fs n s view t.0) h)

-- ---- a batch

-- the files with a batch are good where the image holds what the batch says
pub batch_good : (version : ℕ) (T : List File) (i : Image) (fs gs : List NamedFile) (es : List LogEntry) → is_view fs ≡ true → GoodFiles T i fs → HoldsBatch version T i fs es → all_added version fs es ≡ Some gs → GoodFiles T i gs
batch_good version T i fs gs [] view good holds adds = subst (GoodFiles T i) (same_Some fs gs adds) good
batch_good version T i fs gs (e ∷ es) view good holds adds =
    let first = first_added version fs gs e es adds in
    batch_good version T i first.0 gs es (added-view version fs first.0 e view first.1) (entry_good version T i fs first.0 e view good holds.0 first.1) (holds.1 first.0 first.1) first.2

-- they name no less
pub batch_names : (version : ℕ) (fs gs : List NamedFile) (es : List LogEntry) (path : List ℕ) → all_added version fs es ≡ Some gs → names fs path ≡ true → names gs path ≡ true
batch_names version fs gs [] path adds h = subst (λ hs. names hs path ≡ true) (same_Some fs gs adds) h
batch_names version fs gs (e ∷ es) path adds h =
    let first = first_added version fs gs e es adds in
    batch_names version first.0 gs es path first.2 (entry_names version fs first.0 e path first.1 h)

-- they cover no less
pub batch_covers : (version : ℕ) (fs gs : List NamedFile) (es : List LogEntry) (path : List ℕ) (k : ℕ) → is_view fs ≡ true → all_added version fs es ≡ Some gs → covers fs path k ≡ true → covers gs path k ≡ true
batch_covers version fs gs [] path k view adds h = subst (λ hs. covers hs path k ≡ true) (same_Some fs gs adds) h
batch_covers version fs gs (e ∷ es) path k view adds h =
    let first = first_added version fs gs e es adds in
    batch_covers version first.0 gs es path k (added-view version fs first.0 e view first.1) first.2 (entry_covers version fs first.0 e path k view first.1 h)
