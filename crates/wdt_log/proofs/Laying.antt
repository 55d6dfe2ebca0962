-- The touched files of a batch, laid over all others.
use Rattle.std.proofs.Common.{◌≡◌, inl, inr, ℕ, suc, ◌+◌, ◌<◌, Bool, true, false, ◌&&◌, ◌||◌, ◌++◌, List, [], ◌∷◌, length, get_or, set, take, drop, Option, Some, None, refl, sym, ap, ◌∙◌, subst, arith}
use Rattle.std.specs.Prelude.{if◌then◌else◌, ◌==◌, is_ok, option_and_then, option_map, IfSome, IsOk, IsSome, Result, Ok, Err}
use Rattle.std.specs.List.{insert, list_all, list_any}
use Rattle.std.proofs.lemmas.Bool.{and_parts, cases_eq, eq-eqb, eqb-true, ne_eqb}
use Rattle.std.proofs.lemmas.Option.{same_Some}
use Rattle.wdt_units.specs.Have.{HaveFile, PlainSpan}
use Rattle.wdt_ranges.specs.Files.{have_file}
use Rattle.wdt_ranges.specs.Spans.{are_apart, is_span}
use Rattle.wdt_logfmt.specs.declared.entry.LogEntry.{LogEntry}
use Rattle.wdt_logfmt.specs.declared.entry.LogEntry.TheVariants.{File as Named, Covered}
use Rattle.wdt_logfmt.specs.declared.view.LogFile.{LogFile}
use Rattle.wdt_logfmt.specs.Adding.{added, all_added, has_room, have_with, is_room_in, just_named, put_by_number, span_at}
use Rattle.wdt_logfmt.specs.View.{NamedFile, is_file, is_numbered_above, is_rising, is_view, named_files}
use Rattle.wdt_logfmt.proofs.ForCallers.{batch-view, can_cover-parts, can_name-parts, file_parts, rising_put, view_parts}
use Rattle.wdt_log.specs.Places.{IsPlace, is_at}
use Rattle.wdt_log.specs.Touched.{AreAdded, CanEnter, SameFiles, entered, laid, numbered, or_else}
use Rattle.wdt_log.proofs.Adding.{some_is, added_next, can_cover-is, can_name-is, continues_next, entry_next, span_is, split_at}
use Rattle.wdt_log.proofs.Numbered.{none_above, none_numbered, numbered_none, numbered_put, same_by_number, entered_files, entered_same, at_within, at_numbered, inserted_at, set_at, insert_at}

-- ---- touched files

pub laid_other : (ts fs : List NamedFile) (n : ℕ) → numbered n ts ≡ None → laid ts fs n ≡ numbered n fs
laid_other ts fs n none = ap (λ (o : Option HaveFile). or_else o (numbered n fs)) none

pub others_there : (ts fs : List NamedFile) (n : ℕ) → numbered n ts ≡ None → IsSome (laid ts fs n) → IsSome (numbered n fs)
others_there ts fs n none some = subst (λ (o : Option HaveFile). IsSome o) (laid_other ts fs n none) some

laid_more : (b : Bool) (x : HaveFile) (one two : Option HaveFile) → or_else (if b then Some x else one) two ≡ (if b then Some x else or_else one two)
laid_more true x one two = refl
laid_more false x one two = refl

-- one more file is touched
pub laid_with : (ts us fs : List NamedFile) (n : ℕ) (x : HaveFile) → ((m : ℕ) → numbered m us ≡ (if n == m then Some x else numbered m ts)) → (m : ℕ) → laid us fs m ≡ (if n == m then Some x else laid ts fs m)
laid_with ts us fs n x is m = ap (λ (o : Option HaveFile). or_else o (numbered m fs)) (is m) ∙ laid_more (n == m) x (numbered m ts) (numbered m fs)

-- where it was there before, nothing changes
pub laid_same : (ts us fs : List NamedFile) (n : ℕ) (x : HaveFile) → ((m : ℕ) → numbered m us ≡ (if n == m then Some x else numbered m ts)) → laid ts fs n ≡ Some x → SameFiles (laid ts fs) (laid us fs)
laid_same ts us fs n x is there m = laid_with ts us fs n x is m ∙ go (n == m) refl
  where
    go : (b : Bool) → (n == m) ≡ b → (if b then Some x else laid ts fs m) ≡ laid ts fs m
    go true e = sym there ∙ ap (laid ts fs) (eqb-true n m e)
    go false e = refl

-- a file is changed
pub laid_changed : (ts us vs fs : List NamedFile) (n : ℕ) (x y : HaveFile) (g : HaveFile → HaveFile) → SameFiles (laid ts fs) (laid us fs) → ((m : ℕ) → numbered m vs ≡ (if n == m then Some y else numbered m us)) → numbered n us ≡ Some x → y ≡ g x
    → (m : ℕ) → laid vs fs m ≡ (if n == m then option_map g (laid ts fs m) else laid ts fs m)
laid_changed ts us vs fs n x y g same is there change m = laid_with us vs fs n y is m ∙ go (n == m) refl
  where
    before : laid ts fs n ≡ Some x
    before = sym (same n) ∙ ap (λ (o : Option HaveFile). or_else o (numbered n fs)) there

    go : (b : Bool) → (n == m) ≡ b → (if b then Some y else laid us fs m) ≡ (if b then option_map g (laid ts fs m) else laid ts fs m)
    go true e = ap Some change ∙ ap (option_map g) (sym before ∙ ap (laid ts fs) (eqb-true n m e))
    go false e = same m

-- the touched file has spans apart, as all files seen so
pub touched_apart : (o : Option HaveFile) (x : HaveFile) → o ≡ Some x → IfSome o (λ f. are_apart f.spans ≡ true) → are_apart x.spans ≡ true
touched_apart o x is apart = subst (λ (w : Option HaveFile). IfSome w (λ f. are_apart f.spans ≡ true)) is apart

-- ---- what an entry is given

pub named_fresh : (version : ℕ) (ts fs : List NamedFile) (n : ℕ) (path : List ℕ) (size stamp : ℕ) → CanEnter version (laid ts fs) (Named n path size stamp) → numbered n ts ≡ None
named_fresh version ts fs n path size stamp can =
    let gs = can.0 in
    let c = can_name-is version gs n path size stamp can.3 in
    let none = none_numbered n gs (can_name-parts gs n path size c.0).number in
    first (numbered n ts) (numbered n fs) (sym (can.2 n) ∙ none)
  where
    first : (one two : Option HaveFile) → or_else one two ≡ None → one ≡ None
    first None two is = refl
    first (Some x) two is = absurd (cc)

pub record CanCoverAt (look : Option HaveFile) (s : PlainSpan) : Type 0 where
  pub there : IsSome look
  pub apart : IfSome look (λ f. are_apart f.spans ≡ true)
  pub span : is_span s ≡ true

room_there : (n : ℕ) (s : PlainSpan) (fs : List NamedFile) → list_all is_file fs ≡ true → list_any (is_room_in n s) fs ≡ true → IsSome (numbered n fs) × IfSome (numbered n fs) (λ f. are_apart f.spans ≡ true)
room_there n s [] each room = absurd (cc)
room_there n s (f ∷ fs) each room =
    let e = and_parts (is_file f) (list_all is_file fs) each in
    elim (cases_eq f.number n) [
      | inl is ↦ rw (eq-eqb f.number n is) (refl, (file_parts f e.0).apart)
      | inr ne ↦
          let other = ne_eqb f.number n ne in
          let rest : list_any (is_room_in n s) fs ≡ true = sym (ap (λ (b : Bool). (b && has_room s f.have) || list_any (is_room_in n s) fs) other) ∙ room in
          rw other (room_there n s fs e.1 rest)
    ]

pub cover_there : (version : ℕ) (look : ℕ → Option HaveFile) (n offset count : ℕ) → CanEnter version look (Covered n offset count) → CanCoverAt (look n) (span_at offset count)
cover_there version look n offset count can =
    let gs = can.0 in
    let s = span_at offset count in
    let c = can_cover-is version gs n offset count can.3 in
    let v = view_parts gs can.1 in
    let r = room_there n s gs v.each (can_cover-parts gs n s c.0).room in
    record {
      there = subst (λ (o : Option HaveFile). IsSome o) (can.2 n) r.0;
      apart = subst (λ (o : Option HaveFile). IfSome o (λ f. are_apart f.spans ≡ true)) (can.2 n) r.1;
      span = span_is n s gs can.1 c.0;
    }

-- ---- entry by entry

front_some : (version : ℕ) (fs : List NamedFile) (es more : List LogEntry) → IsSome (all_added version fs (es ++ more)) → IsSome (all_added version fs es)
front_some version fs [] more some = refl
front_some version fs (e ∷ es) more some = go (added version fs e) (λ gs. front_some version gs es more) some
  where
    go : (o : Option (List NamedFile)) → ((gs : List NamedFile) → IsSome (all_added version gs (es ++ more)) → IsSome (all_added version gs es)) → IsSome (option_and_then (λ gs. all_added version gs (es ++ more)) o)
        → IsSome (option_and_then (λ gs. all_added version gs es) o)
    go None rest is = absurd (cc)
    go (Some gs) rest is = rest gs is

-- what comes next can be entered
pub can_enter : (version : ℕ) (fs : List NamedFile) (es : List LogEntry) (i : ℕ) (e : LogEntry) (look : ℕ → Option HaveFile) → i < length es → e ≡ get_or es i e → is_view fs ≡ true → AreAdded version fs (take i es) look → IsSome (all_added version fs es) → CanEnter version look e
can_enter version fs es i e look lt is view so_far some =
    let split = split_at es i e lt is in
    let whole = subst (λ (w : List LogEntry). IsSome (all_added version fs w)) split some in
    let front = some_is (all_added version fs (take i es)) (front_some version fs (take i es) (e ∷ drop (suc i) es) whole) in
    (front.0, batch-view version fs front.0 (take i es) view front.1, so_far front.0 front.1, continues_next version fs front.0 (take i es) e (drop (suc i) es) front.1 whole)

-- an entry was entered
pub entered_next : (version : ℕ) (fs : List NamedFile) (es : List LogEntry) (i : ℕ) (e : LogEntry) (before after : ℕ → Option HaveFile) → i < length es → e ≡ get_or es i e → AreAdded version fs (take i es) before → IsSome (all_added version fs es) → SameFiles (entered e before) after → AreAdded version fs (take (i + 1) es) after
entered_next version fs es i e before after lt is so_far some next gs added_all n =
    let split = split_at es i e lt is in
    let whole = subst (λ (w : List LogEntry). IsSome (all_added version fs w)) split some in
    let front = some_is (all_added version fs (take i es)) (front_some version fs (take i es) (e ∷ drop (suc i) es) whole) in
    let one = some_is (added version front.0 e) (continues_next version fs front.0 (take i es) e (drop (suc i) es) front.1 whole) in
    let all = added_next version fs front.0 one.0 (take i es) e front.1 one.1 in
    let same : one.0 ≡ gs = same_Some one.0 gs (sym all ∙ ap (all_added version fs) (sym (entry_next es i e lt is)) ∙ added_all) in
    ap (numbered n) (sym same) ∙ entered_files version front.0 one.0 e one.1 n ∙ entered_same e before (λ k. numbered k front.0) (so_far front.0 front.1) n ∙ sym (next n)

-- ---- laid over all others

-- the first of the touched files is laid
pub laid_first : (t : NamedFile) (ts fs gs : List NamedFile) → is_rising (t ∷ ts) ≡ true → ((n : ℕ) → numbered n gs ≡ (if t.number == n then Some t.have else numbered n fs)) → SameFiles (laid (t ∷ ts) fs) (laid ts gs)
laid_first t ts fs gs up is n = ap (or_else (numbered n ts)) (is n) ∙ go (t.number == n) refl
  where
    u : (list_all (is_numbered_above t) ts ≡ true) × (is_rising ts ≡ true)
    u = and_parts (list_all (is_numbered_above t) ts) (is_rising ts) up

    go : (b : Bool) → (t.number == n) ≡ b → or_else (numbered n ts) (if b then Some t.have else numbered n fs) ≡ or_else (if b then Some t.have else numbered n ts) (numbered n fs)
    go true e = ap (λ (o : Option HaveFile). or_else o (Some t.have)) (none_above n t ts (let same = eqb-true t.number n e in omega (arith, same)) u.0)
    go false e = refl

pub rising_rest : (t : NamedFile) (ts : List NamedFile) → is_rising (t ∷ ts) ≡ true → is_rising ts ≡ true
rising_rest t ts up = (and_parts (list_all (is_numbered_above t) ts) (is_rising ts) up).1

-- ---- the files of a batch

pub all_laid : (version : ℕ) (fs hs : List NamedFile) (es : List LogEntry) (look : ℕ → Option HaveFile) → is_view fs ≡ true → IsSome (all_added version fs es) → AreAdded version fs es look → is_rising hs ≡ true → SameFiles look (λ n. numbered n hs)
    → (all_added version fs es ≡ Some hs) × (is_view hs ≡ true)
all_laid version fs hs es look view some added_all up same =
    let all = some_is (all_added version fs es) some in
    let lawful = batch-view version fs all.0 es view all.1 in
    let alike : all.0 ≡ hs = same_by_number all.0 hs (view_parts all.0 lawful).rising up (λ n. added_all all.0 all.1 n ∙ sym (same n)) in
    (all.1 ∙ ap Some alike, ap is_view (sym alike) ∙ lawful)

-- ---- the calls

pub record IsTakenUp (n at : ℕ) (ts us : List LogFile) (fs : List NamedFile) : Type 0 where
  pub rising : is_rising (named_files us) ≡ true
  pub same : SameFiles (laid (named_files ts) fs) (laid (named_files us) fs)
  pub stands : is_at n at (named_files us) ≡ true
  pub within : at < length us

pub taken_up : (n at : ℕ) (x : LogFile) (ts us : List LogFile) (fs : List NamedFile) → us ≡ insert ts at x → x.number ≡ n → IsPlace n (named_files ts) at → is_rising (named_files ts) ≡ true → numbered n (named_files ts) ≡ None → numbered n fs ≡ Some (have_file x.have)
    → IsTakenUp n at ts us fs
taken_up n at x ts us fs is number place up none have =
    subst (λ (vs : List LogFile). IsTakenUp n at ts vs fs) (sym is)
    (subst (λ (m : ℕ). IsTakenUp m at ts (insert ts at x) fs) number
    (whole (subst (λ (m : ℕ). IsPlace m (named_files ts) at) (sym number) place) (subst (λ (m : ℕ). numbered m (named_files ts) ≡ None) (sym number) none) (subst (λ (m : ℕ). numbered m fs ≡ Some (have_file x.have)) (sym number) have)))
  where
    whole : IsPlace x.number (named_files ts) at → numbered x.number (named_files ts) ≡ None → numbered x.number fs ≡ Some (have_file x.have) → IsTakenUp x.number at ts (insert ts at x) fs
    whole here gone there =
        let done = insert_at x at ts here up gone in
        let here_now = inserted_at x at ts here in
        record {
          rising = done.rising;
          same = laid_same (named_files ts) (named_files (insert ts at x)) fs x.number (have_file x.have) done.files (laid_other (named_files ts) fs x.number gone ∙ there);
          stands = here_now;
          within = at_within x.number at (insert ts at x) here_now;
        }

-- the spans of the file that is covered are apart
pub apart_at : (n at : ℕ) (ts us : List LogFile) (fs : List NamedFile) (d : LogFile) → SameFiles (laid (named_files ts) fs) (laid (named_files us) fs) → is_at n at (named_files us) ≡ true → IfSome (laid (named_files ts) fs n) (λ f. are_apart f.spans ≡ true)
    → are_apart (have_file (get_or us at d).have).spans ≡ true
apart_at n at ts us fs d same is apart =
    let here = at_numbered n at us d is in
    touched_apart (laid (named_files ts) fs n) (have_file (get_or us at d).have) (sym (same n) ∙ ap (λ (o : Option HaveFile). or_else o (numbered n fs)) here.0) apart

pub record IsCovered (n at : ℕ) (s : PlainSpan) (ts vs : List LogFile) (fs : List NamedFile) : Type 0 where
  pub rising : is_rising (named_files vs) ≡ true
  pub files : (m : ℕ) → laid (named_files vs) fs m ≡ (if n == m then option_map (have_with s) (laid (named_files ts) fs m) else laid (named_files ts) fs m)

pub covered_at : (n at : ℕ) (s : PlainSpan) (ts us : List LogFile) (fs : List NamedFile) (x d : LogFile) → SameFiles (laid (named_files ts) fs) (laid (named_files us) fs) → is_at n at (named_files us) ≡ true → is_rising (named_files us) ≡ true → x.number ≡ (get_or us at d).number
    → have_file x.have ≡ have_with s (have_file (get_or us at d).have) → IsCovered n at s ts (set us at x) fs
covered_at n at s ts us fs x d same is up number have =
    let here = at_numbered n at us d is in
    let done = set_at x n at us is up (number ∙ here.1) in
    record {
      rising = done.rising;
      files = laid_changed (named_files ts) (named_files us) (named_files (set us at x)) fs n (have_file (get_or us at d).have) (have_file x.have) (have_with s) same done.files here.0 have;
    }

pub record IsNamed (n : ℕ) (path : List ℕ) (size stamp : ℕ) (ts us fs : List NamedFile) : Type 0 where
  pub rising : is_rising us ≡ true
  pub files : SameFiles (entered (Named n path size stamp) (laid ts fs)) (laid us fs)

pub named_at : (n : ℕ) (path : List ℕ) (size stamp : ℕ) (x : NamedFile) (ts us fs : List NamedFile) → x ≡ just_named n path size stamp → us ≡ put_by_number x ts → is_rising ts ≡ true → numbered n ts ≡ None → IsNamed n path size stamp ts us fs
named_at n path size stamp x ts us fs is put up none =
    let y = just_named n path size stamp in
    let whole : us ≡ put_by_number y ts = put ∙ ap (λ (f : NamedFile). put_by_number f ts) is in
    let fresh = numbered_none n ts none in
    record {
      rising = ap is_rising whole ∙ rising_put y ts up fresh;
      files = laid_with ts us fs n y.have (λ m. ap (numbered m) whole ∙ numbered_put y ts m none);
    }

-- what a call left where it can't have failed
pub when_ok : {T E A : Type 0} (r : Result T E) (xs ys zs : A) → IsOk r → xs ≡ (if is_ok r then ys else zs) → xs ≡ ys
when_ok (Ok x) xs ys zs ok is = is
when_ok (Err e) xs ys zs ok is = absurd (cc)

pub nothing_left : (xs : List LogFile) → length xs ≡ 0 → xs ≡ []
nothing_left [] is = refl
nothing_left (x ∷ xs) is = absurd (omega (arith, is))
