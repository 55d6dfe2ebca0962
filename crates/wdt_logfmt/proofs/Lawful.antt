-- A log leads to a view.
use Rattle.std.proofs.Common.{◌≡◌, ◌⊎◌, inl, inr, ℕ, zero, suc, ◌+◌, ◌-◌, Bool, true, false, nat_le, nat_lt, not, ◌&&◌, ◌^◌, List, [], ◌∷◌, length, take, drop, Option, Some, None, Result, Ok, Err, refl, ap, ◌∙◌, subst}
use Rattle.std.specs.Prelude.{if◌then◌else◌, ◌==◌, option_map}
use Rattle.std.specs.List.{list_all}
use Rattle.std.specs.Str.{bytes_eq}
use Rattle.std.proofs.lemmas.Bool.{and_parts, or_cases, both_ways, not-true}
use Rattle.std.proofs.lemmas.Slice.Eq.{bytes_eq-Decides}
use Rattle.wdt_units.specs.Path.{is_lawful, is_reserved}
use Rattle.wdt_logfmt.specs.declared.entry.LogEntry.{LogEntry}
use Rattle.wdt_logfmt.specs.View.{NamedFile, Meaning, is_file, is_view, names}
use Rattle.wdt_logfmt.specs.Adding.{added, all_added}
use Rattle.wdt_logfmt.specs.Meaning.{number, entry_of, entry_added, read_added, or_bad, with_entries, Gate, ok_then, whole_batch, sized_batch, next_gate, from_gate, version_of, behind_header, log_meaning}
use Rattle.wdt_logfmt.proofs.Reread.{first_added}
use Rattle.wdt_logfmt.proofs.Views.{added-view, file_parts, view_none, view_parts}

-- a batch that continues a view gives a view
pub batch-view : (version : ℕ) (fs gs : List NamedFile) (es : List LogEntry) → is_view fs ≡ true → all_added version fs es ≡ Some gs → is_view gs ≡ true
batch-view version fs gs [] view adds = let same : fs ≡ gs = cc in subst (λ hs. is_view hs ≡ true) same view
batch-view version fs gs (e ∷ es) view adds =
    let first = first_added version fs gs e es adds in
    batch-view version first.0 gs es (added-view version fs first.0 e view first.1) first.2

split_read : (version : ℕ) (fs : List NamedFile) (read : Option (LogEntry × List ℕ)) (z : List NamedFile × List ℕ) → read_added version fs read ≡ Some z → (e : LogEntry) × (added version fs e ≡ Some z.0)
split_read version fs None z is = absurd (cc)
split_read version fs (Some x) z is = go (added version fs x.0) refl is
  where
    go : (o : Option (List NamedFile)) → added version fs x.0 ≡ o → option_map (λ gs. (gs, x.1)) o ≡ Some z → (e : LogEntry) × (added version fs e ≡ Some z.0)
    go None at is = absurd (cc)
    go (Some gs) at is = let same : gs ≡ z.0 = (let pair : (gs, x.1) ≡ z = cc in ap (λ (p : List NamedFile × List ℕ). p.0) pair) in (x.0, at ∙ ap Some same)

entry-view : (version : ℕ) (fs : List NamedFile) (kind : ℕ) (bytes : List ℕ) (z : List NamedFile × List ℕ) → is_view fs ≡ true → entry_added version fs kind bytes ≡ Some z → is_view z.0 ≡ true
unfolding entry_added
entry-view version fs kind bytes z view is = let e = split_read version fs (entry_of kind bytes) z is in added-view version fs z.0 e.0 view e.1

split_bad : {A B : Type 0} (place : ℕ) (o : Option A) (f : A → Result B ℕ) (z : B) → ok_then (or_bad place o) f ≡ Ok z → (x : A) × (o ≡ Some x) × (f x ≡ Ok z)
split_bad place None f z is = absurd (cc)
split_bad place (Some x) f z is = (x, refl, is)

entries-view : (version fuel place : ℕ) (fs gs : List NamedFile) (bytes : List ℕ) → is_view fs ≡ true → with_entries version fuel place fs bytes ≡ Ok gs → is_view gs ≡ true
unfolding with_entries
entries-view version zero place fs gs [] view is = let same : fs ≡ gs = cc in subst (λ hs. is_view hs ≡ true) same view
entries-view version (suc fuel) place fs gs [] view is = let same : fs ≡ gs = cc in subst (λ hs. is_view hs ≡ true) same view
entries-view version zero place fs gs (kind ∷ bytes) view is = absurd (cc)
entries-view version (suc fuel) place fs gs (kind ∷ bytes) view is =
    let s = split_bad place (entry_added version fs kind bytes) (λ (x : List NamedFile × List ℕ). with_entries version fuel (place + (suc (length bytes) - length x.1)) x.0 x.1) gs is in
    entries-view version fuel (place + (suc (length bytes) - length (s.0).1)) (s.0).0 gs (s.0).1 (entry-view version fs kind bytes s.0 view s.1) s.2

split_ok : {A B : Type 0} (r : Result A ℕ) (f : A → Result B ℕ) (z : B) → ok_then r f ≡ Ok z → (y : A) × (r ≡ Ok y) × (f y ≡ Ok z)
split_ok (Err e) f z is = absurd (cc)
split_ok (Ok y) f z is = (y, refl, is)

whole-view : (version place : ℕ) (fs : List NamedFile) (body back : List ℕ) (h : Gate) → is_view fs ≡ true → whole_batch version place fs body back ≡ Ok h → is_view h.files ≡ true
unfolding whole_batch
whole-view version place fs body [] h view is = absurd (cc)
whole-view version place fs body (gate ∷ rest) h view is =
    let s = split_ok (with_entries version (length body) (place + 4) fs body) (λ gs. Ok (record { version = version; place = place + 4 + length body; files = gs; byte = gate; rest = rest })) h is in
    let same : record { version = version; place = place + 4 + length body; files = s.0; byte = gate; rest = rest } ≡ h = (let e = s.2 in cc) in
    subst (λ (g : Gate). is_view g.files ≡ true) same (entries-view version (length body) (place + 4) fs s.0 body view s.1)

sized-view : (version place : ℕ) (fs : List NamedFile) (o : Option (ℕ × List ℕ)) (h : Gate) → is_view fs ≡ true → sized_batch version place fs o ≡ Ok h → is_view h.files ≡ true
sized-view version place fs None h view is = absurd (cc)
sized-view version place fs (Some x) h view is = whole-view version place fs (take x.0 x.1) (drop x.0 x.1) h view is

pick : (b : Bool) (x y : Result Meaning ℕ) (m : Meaning) → (if b then x else y) ≡ Ok m → (x ≡ Ok m) ⊎ (y ≡ Ok m)
pick true x y m is = inl is
pick false x y m is = inr is

here : Gate → Meaning
here g = record { files = g.files; end = g.place }

view_of : (g : Gate) (m : Meaning) → is_view g.files ≡ true → here g ≡ m → is_view m.files ≡ true
unfolding here
view_of g m view same = subst (λ (n : Meaning). is_view n.files ≡ true) same view

gate-view : (fuel : ℕ) (g : Gate) (m : Meaning) → is_view g.files ≡ true → from_gate fuel g ≡ Ok m → is_view m.files ≡ true
unfolding from_gate here
gate-view zero g m view is = elim (pick (g.byte == 1) (Err (g.place + 1)) (Ok (record { files = g.files; end = g.place })) m is) [
  | inl none ↦ absurd (cc)
  | inr there ↦ view_of g m view (let same : here g ≡ m = cc in same)
]
gate-view (suc fuel) g m view is = elim (pick (g.byte == 1) (ok_then (next_gate g) (from_gate fuel)) (Ok (record { files = g.files; end = g.place })) m is) [
  | inl goes ↦
      let s = split_ok (next_gate g) (from_gate fuel) m goes in
      gate-view fuel s.0 m (sized-view g.version (g.place + 1) g.files (number 4 g.rest) s.0 view s.1) s.2
  | inr there ↦ view_of g m view (let same : here g ≡ m = cc in same)
]

header-view : (told : Option ℕ) (rest : List ℕ) (m : Meaning) → behind_header told rest ≡ Ok m → is_view m.files ≡ true
header-view None rest m is = absurd (cc)
header-view (Some version) [] m is = absurd (cc)
header-view (Some version) (gate ∷ rest) m is = gate-view (length rest) (record { version = version; place = 6; files = []; byte = gate; rest = rest }) m view_none is

-- what a log means is a view
pub means-view : (bytes : List ℕ) (m : Meaning) → log_meaning bytes ≡ Ok m → is_view m.files ≡ true
unfolding log_meaning
means-view bytes m is = header-view (version_of (take 6 bytes)) (drop 6 bytes) m is

-- a path that a view names
pub record IsFreePath (path : List ℕ) : Type 0 where
  pub lawful : is_lawful path ≡ true
  pub free : is_reserved path ≡ false

-- a view names no path that a log may not name
pub named-free : (fs : List NamedFile) (path : List ℕ) → is_view fs ≡ true → names fs path ≡ true → IsFreePath path
named-free fs path view named = go fs (view_parts fs view).each named
  where
    go : (gs : List NamedFile) → list_all is_file gs ≡ true → names gs path ≡ true → IsFreePath path
    go [] each named = absurd (both_ways false refl named)
    go (g ∷ gs) each named =
        let e = and_parts (is_file g) (list_all is_file gs) each in
        elim (or_cases (bytes_eq g.have.path path) (names gs path) named) [
          | inl here ↦
              let same : g.have.path ≡ path = (bytes_eq-Decides g.have.path path).0 here in
              let n = (file_parts g e.0).nameable in
              let a = and_parts (nat_lt g.number 262144 && is_lawful g.have.path && not (is_reserved g.have.path)) (nat_le g.have.size (2 ^ 40)) n in
              let b = and_parts (nat_lt g.number 262144 && is_lawful g.have.path) (not (is_reserved g.have.path)) a.0 in
              let d = and_parts (nat_lt g.number 262144) (is_lawful g.have.path) b.0 in
              subst IsFreePath same (record { lawful = d.1; free = not-true (is_reserved g.have.path) b.1 })
          | inr later ↦ go gs e.1 later
        ]
