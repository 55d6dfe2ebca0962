-- What an entry does to the files that the code keeps.
use Rattle.std.proofs.Common.{◌≡◌, ◌⊎◌, inl, inr, ℕ, zero, suc, ◌+◌, ◌<◌, ◌≤◌, ◌^◌, Bool, true, false, ◌&&◌, ◌||◌, not, nat_lt, nat_le, List, [], ◌∷◌, length, map, set, sum_by, slice_get, Option, Some, None, refl, sym, ap, ◌∙◌, subst, arith}
use Rattle.std.specs.Prelude.{if◌then◌else◌, bytes_eq}
use Rattle.std.specs.List.{list_any}
use Rattle.std.specs.Option.{option_map, IfSome}
use Rattle.std.proofs.Math.ListN.{length-set}
use Rattle.std.proofs.lemmas.Bool.{leb-true, and_parts, and_from, and_left, and_right, lt-ltb, le-leb, le-ltb, lt-leb, not_from_false, not_from_true}
use Rattle.wdt_units.specs.Have.{HaveFile, PlainSpan}
use Rattle.wdt_units.specs.Path.{is_lawful, is_reserved}
use Rattle.wdt_ranges.specs.declared.have.FileHave.{FileHave}
use Rattle.wdt_ranges.specs.Files.{have_file}
use Rattle.wdt_ranges.specs.Spans.{are_apart, total_of}
use Rattle.wdt_logfmt.specs.View.{NamedFile, is_numbered, is_nameable, is_file, is_view, is_within_limits, names, spans_in, bytes_in}
use Rattle.wdt_logfmt.specs.Adding.{just_named, put_by_number, can_name, can_cover, covering, have_with, has_room, is_room_in, with_span}
use Rattle.wdt_logfmt.specs.Slots.{files_in, slot_of, IsKept}
use Rattle.wdt_logfmt.proofs.Slots.{at_slot, free_from, part_of, room_in, set_covered, set_free, slot-there, slot_file, sum_set}
use Rattle.wdt_logfmt.proofs.Spans.{total-with_span}
use Rattle.wdt_logfmt.proofs.Views.{IsFile, can_name-parts, file_parts, names_kept, names_put, sum_same, view_cover, view_none, view_parts, view_put}

pub room_false : {A : Type 0} (b : Bool) (x : A) → None ≡ (if b then Some x else None) → b ≡ false
room_false true x e = absurd (cc)
room_false false x e = refl

pub room_true : {A : Type 0} (b : Bool) (x y : A) → Some y ≡ (if b then Some x else None) → (b ≡ true) × (y ≡ x)
room_true true x y e = (refl, (cc))
room_true false x y e = absurd (cc)

pub refused : {A : Type 0} (b : Bool) (x : A) → b ≡ false → None ≡ (if b then Some x else None)
refused true x e = absurd (cc)
refused false x e = refl

pub taken : {A : Type 0} (b : Bool) (x y : A) → b ≡ true → y ≡ x → Some y ≡ (if b then Some x else None)
taken true x y b e = ap Some e
taken false x y b e = absurd (cc)

-- what is known once a file has one more span
pub record IsCovered (slots : List (Option FileHave)) (spans n : ℕ) (f : FileHave) (s : PlainSpan) (g : FileHave) (more : ℕ) : Type 0 where
  pub here : slice_get slots n ≡ Some (Some f)
  pub room : has_room s (have_file f) ≡ true
  pub is : have_file g ≡ have_with s (have_file f)
  pub counts : more + length f.spans ≡ spans + length g.spans

pub covered_from : (slots : List (Option FileHave)) (spans n : ℕ) (f : FileHave) (s : PlainSpan) (found : Option (FileHave × ℕ)) (g : FileHave) (more : ℕ) → Some f ≡ slot_of slots n → found ≡ Some (g, more)
    → option_map (λ (x : FileHave × ℕ). have_file x.0) found ≡ (if has_room s (have_file f) then Some (have_with s (have_file f)) else None)
    → IfSome found (λ (x : FileHave × ℕ). x.1 + length f.spans ≡ spans + length (x.0).spans) → IsCovered slots spans n f s g more
covered_from slots spans n f s found g more there is file counts =
    let both = room_true (has_room s (have_file f)) (have_with s (have_file f)) (have_file g) (ap (option_map (λ (x : FileHave × ℕ). have_file x.0)) (sym is) ∙ file) in
    record {
      here = slot-there slots n f there;
      room = both.0;
      is = both.1;
      counts = subst (λ (o : Option (FileHave × ℕ)). IfSome o (λ (x : FileHave × ℕ). x.1 + length f.spans ≡ spans + length (x.0).spans)) is counts;
    }

pub set_twice : {A : Type 0} (xs : List A) (i : ℕ) (x y : A) → set (set xs i x) i y ≡ set xs i y
set_twice [] i x y = refl
set_twice (z ∷ xs) zero x y = refl
set_twice (z ∷ xs) (suc i) x y = ap (λ w. z ∷ w) (set_twice xs i x y)

-- ---- a covered span

pub short_or_long : (fs : List NamedFile) (n : ℕ) (s : PlainSpan) → (s.count ≡ 0) ⊎ (67108864 < s.count) → can_cover fs n s ≡ false
unfolding can_cover
short_or_long fs n s (inl e) = and_left _ _ (and_left _ _ (and_left (nat_lt 0 s.count) (nat_le s.count 67108864) (le-ltb 0 s.count (omega arith))))
short_or_long fs n s (inr lt) = and_left _ _ (and_left _ _ (and_right (nat_lt 0 s.count) (nat_le s.count 67108864) (lt-leb s.count 67108864 lt)))

pub roomless : (fs : List NamedFile) (n : ℕ) (s : PlainSpan) → list_any (is_room_in n s) fs ≡ false → can_cover fs n s ≡ false
unfolding can_cover
roomless fs n s none = and_left _ _ (and_right (nat_lt 0 s.count && nat_le s.count 67108864) (list_any (is_room_in n s) fs) none)

pub limitless : (fs : List NamedFile) (n : ℕ) (s : PlainSpan) → is_within_limits (map (covering n s) fs) ≡ false → can_cover fs n s ≡ false
unfolding can_cover
limitless fs n s none = and_right (nat_lt 0 s.count && nat_le s.count 67108864 && list_any (is_room_in n s) fs) (is_within_limits (map (covering n s) fs)) none

pub coverable : (fs : List NamedFile) (n : ℕ) (s : PlainSpan) → 0 < s.count → s.count ≤ 67108864 → list_any (is_room_in n s) fs ≡ true → is_within_limits (map (covering n s) fs) ≡ true → can_cover fs n s ≡ true
unfolding can_cover
coverable fs n s some most room limits =
    and_from (nat_lt 0 s.count && nat_le s.count 67108864 && list_any (is_room_in n s) fs) (is_within_limits (map (covering n s) fs))
    (and_from (nat_lt 0 s.count && nat_le s.count 67108864) (list_any (is_room_in n s) fs) (and_from (nat_lt 0 s.count) (nat_le s.count 67108864) (lt-ltb 0 s.count some) (le-leb s.count 67108864 most)) room)
    limits

module _ (slots : List (Option FileHave)) (has : List ℕ → Bool) (spans bytes : ℕ) (kept : IsKept slots has spans bytes) (n : ℕ) (f : FileHave) (here : slice_get slots n ≡ Some (Some f)) where
  kept_file : IsFile (slot_file n f)
  kept_file = file_parts (slot_file n f) (at_slot is_file slots 0 n n f (omega arith) here (view_parts (files_in 0 slots) kept.view).each)

  pub kept_apart : are_apart f.spans ≡ true
  kept_apart = kept_file.apart

  pub kept_size : f.size ≤ 2 ^ 40
  kept_size = leb-true f.size (2 ^ 40) (and_parts _ (nat_le f.size (2 ^ 40)) kept_file.nameable).1

  pub kept_spans : length f.spans ≤ spans
  kept_spans = omega (arith, kept.span_count, part_of spans_in slots 0 n n f (omega arith) here)

  module _ (s : PlainSpan) (g : FileHave) (is : have_file g ≡ have_with s (have_file f)) where
    files_covered : files_in 0 (set slots n (Some g)) ≡ map (covering n s) (files_in 0 slots)
    files_covered = set_covered slots 0 n n s f g (omega arith) here is

    spans_is : g.spans ≡ with_span s f.spans
    spans_is = ap (λ (h : HaveFile). h.spans) is

    pub counted : (more : ℕ) → more + length f.spans ≡ spans + length g.spans → sum_by spans_in (map (covering n s) (files_in 0 slots)) ≡ more
    counted more e = omega (arith, e, kept.span_count, ap (sum_by spans_in) files_covered, sum_set spans_in slots 0 n n f g (omega arith) here)

    pub measured : sum_by bytes_in (map (covering n s) (files_in 0 slots)) ≡ bytes + s.count
    measured = omega (arith, kept.byte_count, ap (sum_by bytes_in) files_covered, sum_set bytes_in slots 0 n n f g (omega arith) here, ap total_of spans_is, total-with_span s f.spans)

    pub limits_are : (more : ℕ) → more + length f.spans ≡ spans + length g.spans → is_within_limits (map (covering n s) (files_in 0 slots)) ≡ (nat_le more 1310720 && nat_le (bytes + s.count) (2 ^ 50))
    limits_are more e = (λ i. nat_le (counted more e i) 1310720 && nat_le (measured i) (2 ^ 50))

    pub kept_covering : (more : ℕ) → more + length f.spans ≡ spans + length g.spans → can_cover (files_in 0 slots) n s ≡ true → IsKept (set slots n (Some g)) has more (bytes + s.count)
    kept_covering more e can = record {
      view = ap is_view files_covered ∙ view_cover (files_in 0 slots) n s kept.view can;
      few = omega (arith, kept.few, length-set slots n (Some g));
      paths = λ path. kept.paths path ∙ sym (ap (λ fs. names fs path) files_covered ∙ names_kept n s (files_in 0 slots) path);
      span_count = sym (counted more e) ∙ sym (ap (sum_by spans_in) files_covered);
      byte_count = sym measured ∙ sym (ap (sum_by bytes_in) files_covered);
    }

    module _ (self : List NamedFile) (seen : files_in 0 slots ≡ self) (some : 0 < s.count) (most : s.count ≤ 67108864) (room : has_room s (have_file f) ≡ true)
        (more : ℕ) (e : more + length f.spans ≡ spans + length g.spans) where
      abbrev pub Answer : Option (List NamedFile) → Type 0
      Answer given = given ≡ (if can_cover self n s then Some (map (covering n s) self) else None)

      pub too_many_spans : 1310720 < more → Answer None
      too_many_spans lt =
          subst (λ fs. None ≡ (if can_cover fs n s then Some (map (covering n s) fs) else None)) seen
          (refused (can_cover (files_in 0 slots) n s) (map (covering n s) (files_in 0 slots)) (limitless (files_in 0 slots) n s (limits_are more e ∙ and_left (nat_le more 1310720) (nat_le (bytes + s.count) (2 ^ 50)) (lt-leb more 1310720 lt))))

      pub too_many_bytes : 2 ^ 50 < bytes + s.count → Answer None
      too_many_bytes lt =
          subst (λ fs. None ≡ (if can_cover fs n s then Some (map (covering n s) fs) else None)) seen
          (refused (can_cover (files_in 0 slots) n s) (map (covering n s) (files_in 0 slots)) (limitless (files_in 0 slots) n s (limits_are more e ∙ and_right (nat_le more 1310720) (nat_le (bytes + s.count) (2 ^ 50)) (lt-leb (bytes + s.count) (2 ^ 50) lt))))

      module _ (few : more ≤ 1310720) (small : bytes + s.count ≤ 2 ^ 50) (next : List (Option FileHave)) (out : next ≡ set slots n None) where
        can_be : can_cover (files_in 0 slots) n s ≡ true
        can_be = coverable (files_in 0 slots) n s some most (room_in slots 0 n n s f (omega arith) here ∙ room) (limits_are more e ∙ and_from (nat_le more 1310720) (nat_le (bytes + s.count) (2 ^ 50)) (le-leb more 1310720 few) (le-leb (bytes + s.count) (2 ^ 50) small))

        back : set next n (Some g) ≡ set slots n (Some g)
        back = ap (λ ss. set ss n (Some g)) out ∙ set_twice slots n None (Some g)

        pub answers : Answer (Some (files_in 0 (set next n (Some g))))
        answers =
            subst (λ fs. Some (files_in 0 (set next n (Some g))) ≡ (if can_cover fs n s then Some (map (covering n s) fs) else None)) seen
            (taken (can_cover (files_in 0 slots) n s) (map (covering n s) (files_in 0 slots)) (files_in 0 (set next n (Some g))) can_be (ap (files_in 0) back ∙ files_covered))

        pub keeps : IsKept (set next n (Some g)) has more (bytes + s.count)
        keeps = subst (λ ss. IsKept ss has more (bytes + s.count)) (sym back) (kept_covering more e can_be)

pub not_covered : (fs self : List NamedFile) (n : ℕ) (s : PlainSpan) → fs ≡ self → can_cover fs n s ≡ false → None ≡ (if can_cover self n s then Some (map (covering n s) self) else None)
not_covered fs self n s seen e = subst (λ hs. None ≡ (if can_cover hs n s then Some (map (covering n s) hs) else None)) seen (refused (can_cover fs n s) (map (covering n s) fs) e)

-- ---- a named file

pub not_named : (fs self : List NamedFile) (n : ℕ) (path : List ℕ) (size stamp : ℕ) → fs ≡ self → can_name fs n path size ≡ false → None ≡ (if can_name self n path size then Some (put_by_number (just_named n path size stamp) self) else None)
not_named fs self n path size stamp seen e =
    subst (λ hs. None ≡ (if can_name hs n path size then Some (put_by_number (just_named n path size stamp) hs) else None)) seen (refused (can_name fs n path size) (put_by_number (just_named n path size stamp) fs) e)

pub unnameable : (fs : List NamedFile) (n : ℕ) (path : List ℕ) (size : ℕ) → is_nameable n path size ≡ false → can_name fs n path size ≡ false
unfolding can_name
unnameable fs n path size e = and_left _ _ (and_left (is_nameable n path size) (not (list_any (is_numbered n) fs)) e)

pub number_there : (fs : List NamedFile) (n : ℕ) (path : List ℕ) (size : ℕ) → list_any (is_numbered n) fs ≡ true → can_name fs n path size ≡ false
unfolding can_name
number_there fs n path size e = and_left _ _ (and_right (is_nameable n path size) (not (list_any (is_numbered n) fs)) (not_from_true (list_any (is_numbered n) fs) e))

pub path_there : (fs : List NamedFile) (n : ℕ) (path : List ℕ) (size : ℕ) → names fs path ≡ true → can_name fs n path size ≡ false
unfolding can_name
path_there fs n path size e = and_right (is_nameable n path size && not (list_any (is_numbered n) fs)) (not (names fs path)) (not_from_true (names fs path) e)

pub nameable : (fs : List NamedFile) (n : ℕ) (path : List ℕ) (size : ℕ) → is_nameable n path size ≡ true → list_any (is_numbered n) fs ≡ false → names fs path ≡ false → can_name fs n path size ≡ true
unfolding can_name
nameable fs n path size able new_number new_path =
    and_from (is_nameable n path size && not (list_any (is_numbered n) fs)) (not (names fs path))
    (and_from (is_nameable n path size) (not (list_any (is_numbered n) fs)) able (not_from_false (list_any (is_numbered n) fs) new_number))
    (not_from_false (names fs path) new_path)

pub number_large : (n : ℕ) (path : List ℕ) (size : ℕ) → 262144 ≤ n → is_nameable n path size ≡ false
number_large n path size le = and_left _ _ (and_left _ _ (and_left (nat_lt n 262144) (is_lawful path) (le-ltb n 262144 le)))

pub size_large : (n : ℕ) (path : List ℕ) (size : ℕ) → 2 ^ 40 < size → is_nameable n path size ≡ false
size_large n path size lt = and_right (nat_lt n 262144 && is_lawful path && not (is_reserved path)) (nat_le size (2 ^ 40)) (lt-leb size (2 ^ 40) lt)

pub path_reserved : (n : ℕ) (path : List ℕ) (size : ℕ) → is_reserved path ≡ true → is_nameable n path size ≡ false
path_reserved n path size e = and_left _ _ (and_right (nat_lt n 262144 && is_lawful path) (not (is_reserved path)) (not_from_true (is_reserved path) e))

pub path_unlawful : (n : ℕ) (path : List ℕ) (size : ℕ) → is_lawful path ≡ false → is_nameable n path size ≡ false
path_unlawful n path size e = and_left _ _ (and_left _ _ (and_right (nat_lt n 262144) (is_lawful path) e))

pub able : (n : ℕ) (path : List ℕ) (size : ℕ) → n < 262144 → is_lawful path ≡ true → is_reserved path ≡ false → size ≤ 2 ^ 40 → is_nameable n path size ≡ true
able n path size lt lawful free small =
    and_from (nat_lt n 262144 && is_lawful path && not (is_reserved path)) (nat_le size (2 ^ 40))
    (and_from (nat_lt n 262144 && is_lawful path) (not (is_reserved path)) (and_from (nat_lt n 262144) (is_lawful path) (lt-ltb n 262144 lt) lawful) (not_from_false (is_reserved path) free)) (le-leb size (2 ^ 40) small)

module _ (old slots : List (Option FileHave)) (has : List ℕ → Bool) (spans bytes : ℕ) (kept : IsKept old has spans bytes) (same : files_in 0 slots ≡ files_in 0 old) (few : length slots ≤ 262144)
    (n : ℕ) (there : n < length slots) (path : List ℕ) (size stamp : ℕ) (f : FileHave) (is : slot_file n f ≡ just_named n path size stamp) (can : can_name (files_in 0 old) n path size ≡ true) where
  pub files_named : files_in 0 (set slots n (Some f)) ≡ put_by_number (just_named n path size stamp) (files_in 0 old)
  files_named =
      let free : list_any (is_numbered n) (files_in 0 slots) ≡ false = ap (list_any (is_numbered n)) same ∙ (can_name-parts (files_in 0 old) n path size can).number in
      set_free slots 0 n n f (omega arith) there (free_from slots n free) ∙ (λ i. put_by_number (is i) (same i))

  pub named : (self : List NamedFile) → files_in 0 old ≡ self → Some (files_in 0 (set slots n (Some f))) ≡ (if can_name self n path size then Some (put_by_number (just_named n path size stamp) self) else None)
  named self seen =
      subst (λ fs. Some (files_in 0 (set slots n (Some f))) ≡ (if can_name fs n path size then Some (put_by_number (just_named n path size stamp) fs) else None)) seen
      (taken (can_name (files_in 0 old) n path size) (put_by_number (just_named n path size stamp) (files_in 0 old)) (files_in 0 (set slots n (Some f))) can files_named)

  pub kept_naming : (more : List ℕ → Bool) → ((p : List ℕ) → more p ≡ (bytes_eq path p || has p)) → IsKept (set slots n (Some f)) more spans bytes
  kept_naming more adds = record {
    view = ap is_view files_named ∙ view_put (files_in 0 old) n path size stamp kept.view can;
    few = omega (arith, few, length-set slots n (Some f));
    paths = λ p. adds p ∙ ap (λ b. bytes_eq path p || b) (kept.paths p) ∙ sym (ap (λ fs. names fs p) files_named ∙ names_put (just_named n path size stamp) (files_in 0 old) p);
    span_count = kept.span_count ∙ sym (ap (sum_by spans_in) files_named ∙ sum_same spans_in (just_named n path size stamp) (files_in 0 old) refl);
    byte_count = kept.byte_count ∙ sym (ap (sum_by bytes_in) files_named ∙ sum_same bytes_in (just_named n path size stamp) (files_in 0 old) refl);
  }

pub kept_none : (slots : List (Option FileHave)) (has : List ℕ → Bool) → slots ≡ [] → ((path : List ℕ) → has path ≡ false) → IsKept slots has 0 0
kept_none slots has none empty = subst (λ ss. IsKept ss has 0 0) (sym none) (record { view = view_none; few = omega arith; paths = empty; span_count = refl; byte_count = refl })
