-- What a log says can be told in one frame.
use Rattle.std.proofs.Common.{◌≡◌, ℕ, ◌+◌, ◌-◌, ◌≤◌, ◌^◌, ◌&&◌, nat_le, nat_lt, not, Bool, true, false, List, [], ◌∷◌, ◌++◌, length, sum_by, refl, sym, ap, ◌∙◌, subst, arith}
use Rattle.std.specs.List.{list_all}
use Rattle.std.proofs.lemmas.Bool.{and_parts, leb-true, ltb-true}
use Rattle.std.proofs.lemmas.List.{map-append}
use Rattle.std.proofs.lemmas.List.Sums.{sum_by-cons}
use Rattle.wdt_units.specs.declared.limits.TheConstants.{MAX_FILES, MAX_FILE_SIZE, MAX_SPANS, MAX_TOTAL}
use Rattle.wdt_units.specs.Have.{HaveFile, PlainSpan}
use Rattle.wdt_units.specs.Path.{is_lawful, is_reserved}
use Rattle.wdt_units.specs.Tree.{is_before}
use Rattle.wdt_ranges.specs.Spans.{are_apart_from, end_of, is_span}
use Rattle.wdt_codec.specs.Chunks.{FitFiles, FitSpans, FitsChunks, FitsFile}
use Rattle.wdt_logfmt.specs.View.{NamedFile, bytes_in, ends_within, have_of, is_file, is_view, named_file, named_files, put_by_path, spans_in}
use Rattle.wdt_logfmt.specs.declared.view.LogFile.{LogFile}
use Rattle.wdt_logfmt.proofs.ForCallers.{file_parts, view_parts}
use Rattle.wdt_good.specs.Good.{Each}
use Rattle.wdt_files.proofs.ForCallers.{log_files}
use Rattle.wdt_log.specs.OpenLog.{OpenLog}
use Rattle.wdt_writer.specs.PlainWriter.{PlainWriter}
use Rattle.wdt_receiver_fsm.specs.End.{new_end}
use Rattle.wdt_receiver_fsm.specs.PlainReceiver.{have_now}
use Rattle.wdt_receiver_fsm.specs.Writes.{CanTell}
use Rattle.wdt_dock.specs.Desk.{plain_of}
use Rattle.wdt_dock.specs.Dock.{AreStamped, IsStamped}
use Rattle.wdt_dock.proofs.Lengths.{few_files}
use Rattle.wdt_dock.proofs.Opened.{log_named}

-- ---- stamps

stamped_more : (fs gs : List NamedFile) → AreStamped fs → AreStamped gs → AreStamped (fs ++ gs)
stamped_more [] gs some more = more
stamped_more (f ∷ fs) gs some more = (some.0, stamped_more fs gs some.1 more)

-- one more file of the code, whose stamp is one of 64 bits
pub stamped_one_more : (fs : List LogFile) (f : LogFile) → AreStamped (named_files fs) → IsStamped (named_file f) → AreStamped (named_files (fs ++ f ∷ []))
stamped_one_more fs f some one = subst AreStamped (sym (map-append named_file fs (f ∷ []))) (stamped_more (named_files fs) (named_file f ∷ []) some (one, tt))

-- ---- one file

fit_spans : (size least : ℕ) (ss : List PlainSpan) → are_apart_from least ss ≡ true → list_all (ends_within size) ss ≡ true → FitSpans size least ss
fit_spans size least [] apart within = tt
fit_spans size least (s ∷ ss) apart within =
    let a = and_parts (nat_le least s.offset && is_span s) (are_apart_from (end_of s + 1) ss) apart in
    let b = and_parts (nat_le least s.offset) (is_span s) a.0 in
    let c = and_parts (nat_lt 0 s.count) (nat_le (end_of s) (2 ^ 40)) b.1 in
    let w = and_parts (ends_within size s) (list_all (ends_within size) ss) within in
    (leb-true least s.offset b.0, omega (arith, ltb-true 0 s.count c.0), leb-true (end_of s) size w.0, fit_spans size (end_of s + 1) ss a.1 w.1)

-- a file can be told where there is room for its spans
abbrev CanTellFile : HaveFile → Type 0
CanTellFile f = (room : ℕ) → length f.spans ≤ room → FitsFile room f

tells_file : (f : NamedFile) → is_file f ≡ true → IsStamped f → CanTellFile f.have
tells_file f is stamp room few =
    let p = file_parts f is in
    let a = and_parts (nat_lt f.number MAX_FILES && is_lawful f.have.path && not (is_reserved f.have.path)) (nat_le f.have.size MAX_FILE_SIZE) p.nameable in
    let b = and_parts (nat_lt f.number MAX_FILES && is_lawful f.have.path) (not (is_reserved f.have.path)) a.0 in
    let c = and_parts (nat_lt f.number MAX_FILES) (is_lawful f.have.path) b.0 in
    record {
      path = c.1;
      size = leb-true f.have.size MAX_FILE_SIZE a.1;
      stamp = stamp;
      few = few;
      spans = fit_spans f.have.size 0 f.have.spans p.apart p.within;
    }

-- ---- all files in the order of their paths

abbrev spans_had : HaveFile → ℕ
spans_had f = length f.spans

put_length : (f : HaveFile) (gs : List HaveFile) → length (put_by_path f gs) ≡ length gs + 1
put_length f [] = refl
put_length f (g ∷ gs) = omega (arith, go (is_before f.path g.path) refl (put_length f gs))
  where
    go : (b : Bool) → is_before f.path g.path ≡ b → length (put_by_path f gs) ≡ length gs + 1 → length (put_by_path f (g ∷ gs)) ≡ length gs + 2
    go true before more = omega (arith, ap length (let e : put_by_path f (g ∷ gs) ≡ f ∷ g ∷ gs = cc in e))
    go false before more = omega (arith, ap length (let e : put_by_path f (g ∷ gs) ≡ g ∷ put_by_path f gs = cc in e), more)

put_spans : (f : HaveFile) (gs : List HaveFile) → sum_by spans_had (put_by_path f gs) ≡ length f.spans + sum_by spans_had gs
put_spans f [] = sum_by-cons spans_had f []
put_spans f (g ∷ gs) = go (is_before f.path g.path) refl (put_spans f gs)
  where
    go : (b : Bool) → is_before f.path g.path ≡ b → sum_by spans_had (put_by_path f gs) ≡ length f.spans + sum_by spans_had gs
        → sum_by spans_had (put_by_path f (g ∷ gs)) ≡ length f.spans + sum_by spans_had (g ∷ gs)
    go true before more = ap (sum_by spans_had) (let e : put_by_path f (g ∷ gs) ≡ f ∷ g ∷ gs = cc in e) ∙ sum_by-cons spans_had f (g ∷ gs)
    go false before more =
        omega (arith, ap (sum_by spans_had) (let e : put_by_path f (g ∷ gs) ≡ g ∷ put_by_path f gs = cc in e), sum_by-cons spans_had g (put_by_path f gs), sum_by-cons spans_had g gs, more)

put_each : (P : HaveFile → Type 0) (f : HaveFile) (gs : List HaveFile) → P f → Each P gs → Each P (put_by_path f gs)
put_each P f [] here each = (here, tt)
put_each P f (g ∷ gs) here each = go (is_before f.path g.path) refl (put_each P f gs here each.1)
  where
    go : (b : Bool) → is_before f.path g.path ≡ b → Each P (put_by_path f gs) → Each P (put_by_path f (g ∷ gs))
    go true before more = subst (Each P) (let e : f ∷ g ∷ gs ≡ put_by_path f (g ∷ gs) = cc in e) (here, each)
    go false before more = subst (Each P) (let e : g ∷ put_by_path f gs ≡ put_by_path f (g ∷ gs) = cc in e) (each.0, more)

had_length : (fs : List NamedFile) → length (have_of fs) ≡ length fs
had_length [] = refl
had_length (f ∷ fs) = omega (arith, put_length f.have (have_of fs), had_length fs)

had_spans : (fs : List NamedFile) → sum_by spans_had (have_of fs) ≡ sum_by spans_in fs
had_spans [] = refl
had_spans (f ∷ fs) = omega (arith, put_spans f.have (have_of fs), had_spans fs, sum_by-cons spans_in f fs)

had_each : (fs : List NamedFile) → list_all is_file fs ≡ true → AreStamped fs → Each CanTellFile (have_of fs)
had_each [] each stamps = tt
had_each (f ∷ fs) each stamps =
    let a = and_parts (is_file f) (list_all is_file fs) each in
    put_each CanTellFile f.have (have_of fs) (tells_file f a.0 stamps.0) (had_each fs a.1 stamps.1)

fit_files : (used : ℕ) (gs : List HaveFile) → used + sum_by spans_had gs ≤ MAX_SPANS → Each CanTellFile gs → FitFiles used gs
fit_files used [] room each = tt
fit_files used (g ∷ gs) room each =
    let sum = sum_by-cons spans_had g gs in
    (each.0 (MAX_SPANS - used) (omega (arith, room, sum)), fit_files (used + length g.spans) gs (omega (arith, room, sum)) each.1)

-- what a log with stamps of 64 bits says can be told
pub had_told : (fs : List NamedFile) → is_view fs ≡ true → AreStamped fs → FitsChunks (have_of fs)
had_told fs view stamps =
    let v = view_parts fs view in
    let within = and_parts (nat_le (sum_by spans_in fs) MAX_SPANS) (nat_le (sum_by bytes_in fs) MAX_TOTAL) v.limits in
    record {
      few = omega (arith, had_length fs, few_files _ fs (log_files fs view) (log_named fs view));
      files = fit_files 0 (have_of fs) (omega (arith, had_spans fs, leb-true (sum_by spans_in fs) MAX_SPANS within.0)) (had_each fs v.each stamps);
    }

-- so an end that was just opened can tell what it has
pub opened_tells : (fs : List NamedFile) (batch lanes : ℕ) (log : OpenLog) (w : PlainWriter) → is_view fs ≡ true → AreStamped fs → CanTell (plain_of (new_end fs batch lanes) log w)
unfolding have_now
opened_tells fs batch lanes log w view stamps = record { have = had_told fs view stamps; code = omega arith }
