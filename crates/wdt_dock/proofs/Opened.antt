-- An end that was just opened.
use Rattle.std.proofs.Common.{◌≡◌, inl, inr, ℕ, zero, suc, ◌+◌, ◌-◌, ◌≤◌, true, false, nat_le, nat_lt, List, [], ◌∷◌, ◌++◌, length, map, sum_by, Option, Some, None, refl, sym, ap, ◌∙◌, subst, arith}
use Rattle.std.specs.Prelude.{IfSome, option_map, replicate}
use Rattle.std.specs.List.{list_all}
use Rattle.std.proofs.lemmas.Bool.{and_parts, leb-true, ltb-true}
use Rattle.std.proofs.lemmas.List.{length-replicate}
use Rattle.wdt_units.specs.declared.limits.TheConstants.{MAX_SPANS, MAX_TOTAL}
use Rattle.wdt_units.specs.Tree.{File}
use Rattle.wdt_depot.specs.Disk.{Disk, DiskFile, IsSoundDisk, seen_of}
use Rattle.wdt_depot.specs.Moments.{IfTold, Told}
use Rattle.wdt_depot.specs.State.{State}
use Rattle.wdt_depot.proofs.ForCallers.{seen_is_image}
use Rattle.wdt_logfmt.specs.Beginning.{KnownFile, empty_slots, known_at, known_files, length_of, slots_from, span_cost}
use Rattle.wdt_logfmt.specs.Landing.{IsAmong}
use Rattle.wdt_logfmt.specs.Marks.{marked_of}
use Rattle.wdt_logfmt.specs.View.{Meaning, NamedFile, bytes_in, is_numbered_above, is_rising, is_view, spans_in}
use Rattle.wdt_logfmt.proofs.ForCallers.{view_parts}
use Rattle.wdt_good.specs.Good.{Each, GoodFile, Stands}
use Rattle.wdt_good.specs.Logged.{AllFit}
use Rattle.wdt_good.specs.LogState.{LogOf}
use Rattle.wdt_good.proofs.ForCallers.{fit_files}
use Rattle.wdt_files.specs.PlainFiles.{AreNamed, known_of}
use Rattle.wdt_files.proofs.ForCallers.{bytes_summed, log_files, spans_summed}
use Rattle.wdt_log.specs.OpenLog.{OpenLog, RestsIn}
use Rattle.wdt_logfmt.specs.Spelling.{written_version}
use Rattle.wdt_writer.specs.OnWay.{AreSound}
use Rattle.wdt_writer.specs.declared.parts.Part.{Part}
use Rattle.wdt_writer.specs.PlainWriter.{blocks_of, no_parts, opened as writer_opened, part_of}
use Rattle.wdt_receiver_fsm.specs.PlainReceiver.{lane_at, new_lane, opened}
use Rattle.wdt_receiver_fsm.specs.ReceiverHistory.{RecvPast, past_of-none}
use Rattle.wdt_receiver_fsm.specs.Batched.{IsBatched}
use Rattle.wdt_receiver_fsm.specs.Receiver.{IsReceiver}
use Rattle.wdt_dock.specs.Desk.{IsDesk, part_by}
use Rattle.wdt_dock.specs.Dock.{IsDock}
use Rattle.wdt_dock.specs.DockGood.{DockGood, HasPart, IfKnown, IsTrees, StandsWithin}
use Rattle.wdt_receiver_fsm.specs.Answered.{IsAnswered}
use Rattle.wdt_receiver_fsm.specs.End.{lane_in, new_end}

-- ---- known files of a log

each_behind : (P : KnownFile → Type 0) (n : ℕ) (x : KnownFile) (rest : List (Option KnownFile)) → P x → Each (IfKnown P) rest → Each (IfKnown P) (empty_slots n ++ Some x ∷ rest)
each_behind P zero x rest p each = (p, each)
each_behind P (suc n) x rest p each = (tt, each_behind P n x rest p each)

each_known : (P : KnownFile → Type 0) (n : ℕ) (fs : List NamedFile) → Each (λ f. P (known_of f)) fs → Each (IfKnown P) (slots_from n fs)
each_known P n [] each = tt
each_known P n (f ∷ fs) each = each_behind P (f.number - n) (known_of f) (slots_from (f.number + 1) fs) each.0 (each_known P (f.number + 1) fs each.1)

each_more : {A : Type 0} (P Q : A → Type 0) (xs : List A) → ((x : A) → P x → Q x) → Each P xs → Each Q xs
each_more P Q [] more each = tt
each_more P Q (x ∷ xs) more each = (more x each.0, each_more P Q xs more each.1)

module _ (T : List File) (d : Disk) where
  is_trees : (f : NamedFile) → GoodFile T (seen_of d f.have.path) f → IsTrees T (known_of f)
  is_trees f good = record { file = good.fits.file; found = good.fits.there; sized = sym good.fits.size; stamped = sym good.fits.stamp }

  stands_within : (f : NamedFile) → GoodFile T (seen_of d f.have.path) f → StandsWithin d (known_of f)
  stands_within f good = go (d f.have.path) refl good.stands
    where
      go : (o : Option DiskFile) → d f.have.path ≡ o → Stands (option_map (λ (x : DiskFile). x.seen) o) f → StandsWithin d (known_of f)
      go None there stands = absurd stands
      go (Some x) there stands = record { found = x; there = there; within = stands }

-- an end that was opened is good, where each image is
pub opened_good : (T : List File) (log : Meaning) (batch lanes : ℕ) (d : Disk) → IsSoundDisk d → AllFit T d → LogOf written_version log.files log.end d → DockGood T (opened log batch (replicate lanes new_lane)) d
opened_good T log batch lanes d sound fit at_rest =
    let good = fit_files written_version log.files log.end d at_rest T fit (seen_of d) (seen_is_image d sound) in
    record {
      fit = fit;
      reads = λ here. record {
        known = each_known (IsTrees T) 0 log.files (each_more (λ f. GoodFile T (seen_of d f.have.path) f) (λ f. IsTrees T (known_of f)) log.files (is_trees T d) good);
        stands = each_known (StandsWithin d) 0 log.files (each_more (λ f. GoodFile T (seen_of d f.have.path) f) (λ f. StandsWithin d (known_of f)) log.files (stands_within T d) good);
        landed = good;
        parts = λ l within. subst (λ (p : RecvPast). IfSome p.begun (HasPart T (known_files log.files) d (lane_at (opened log batch (replicate lanes new_lane)) l).left)) (sym (past_of-none l)) tt;
      };
    }

-- ---- the writer of a log's files

-- the numbers begin at one or later, and rise
abbrev IsAbove : ℕ → List NamedFile → Type 0
IsAbove least [] = Unit {0}
IsAbove least (f ∷ fs) = (least ≤ f.number) × IsAbove (f.number + 1) fs

above_behind : (f : NamedFile) (fs : List NamedFile) → is_rising (f ∷ fs) ≡ true → IsAbove (f.number + 1) fs
above_behind f [] up = tt
above_behind f (g ∷ gs) up =
    let u = and_parts (list_all (is_numbered_above f) (g ∷ gs)) (is_rising (g ∷ gs)) up in
    let lt = ltb-true f.number g.number (and_parts (nat_lt f.number g.number) (list_all (is_numbered_above f) gs) u.0).0 in
    (omega (arith, lt), above_behind g gs u.1)

above_rising : (fs : List NamedFile) → is_rising fs ≡ true → IsAbove 0 fs
above_rising [] up = tt
above_rising (f ∷ fs) up = (omega arith, above_behind f fs up)

known_here : (j k : ℕ) (x : KnownFile) (rest : List (Option KnownFile)) → k ≡ j → known_at (empty_slots j ++ Some x ∷ rest) k ≡ Some x
known_here zero zero x rest at = refl
known_here zero (suc k) x rest at = absurd (omega (arith, at))
known_here (suc j) zero x rest at = absurd (omega (arith, at))
known_here (suc j) (suc k) x rest at = known_here j k x rest (omega (arith, at))

known_later : (j k m : ℕ) (x : KnownFile) (rest : List (Option KnownFile)) → k ≡ j + 1 + m → known_at (empty_slots j ++ Some x ∷ rest) k ≡ known_at rest m
known_later zero zero m x rest at = absurd (omega (arith, at))
known_later zero (suc k) m x rest at = ap (known_at rest) (let e : k ≡ m = omega (arith, at) in e)
known_later (suc j) zero m x rest at = absurd (omega (arith, at))
known_later (suc j) (suc k) m x rest at = known_later j k m x rest (omega (arith, at))

at_least : (f : NamedFile) (n : ℕ) (fs : List NamedFile) → IsAbove n fs → IsAmong f fs → n ≤ f.number
at_least f n [] above among = absurd among
at_least f n (g ∷ gs) above (inl is) = omega (arith, above.0, ap (λ (h : NamedFile). h.number) is)
at_least f n (g ∷ gs) above (inr later) = omega (arith, above.0, at_least f (g.number + 1) gs above.1 later)

-- a file of the log is known at its number
known_named : (f : NamedFile) (n k : ℕ) (fs : List NamedFile) → IsAbove n fs → IsAmong f fs → f.number ≡ n + k → known_at (slots_from n fs) k ≡ Some (known_of f)
known_named f n k [] above among at = absurd among
known_named f n k (g ∷ gs) above (inl is) at =
    known_here (g.number - n) k (known_of g) (slots_from (g.number + 1) gs) (omega (arith, at, above.0, ap (λ (h : NamedFile). h.number) is)) ∙ ap (λ (h : NamedFile). Some (known_of h)) is
known_named f n k (g ∷ gs) above (inr later) at =
    let low = at_least f (g.number + 1) gs above.1 later in
    known_later (g.number - n) k (f.number - (g.number + 1)) (known_of g) (slots_from (g.number + 1) gs) (omega (arith, at, above.0, low))
    ∙ known_named f (g.number + 1) (f.number - (g.number + 1)) gs above.1 later (omega (arith, low))

pub log_named : (fs : List NamedFile) → is_view fs ≡ true → AreNamed (known_files fs) fs
log_named fs view = record { view = view; known_as = λ f among. known_named f 0 f.number fs (above_rising fs (view_parts fs view).rising) among (omega arith) }

no_part : (n l : ℕ) → part_of (no_parts n) l ≡ None
no_part zero l = refl
no_part (suc n) zero = refl
no_part (suc n) (suc l) = no_part n l

not_there : (n l : ℕ) (p : Part) → part_of (no_parts n) l ≡ Some p → ⊥
not_there n l p there = (let none : None ≡ Some p = sym (no_part n l) ∙ there in cc)

no_blocks : (n : ℕ) → blocks_of (no_parts n) ≡ []
no_blocks zero = refl
no_blocks (suc n) = no_blocks n

length_none : (n : ℕ) → length (no_parts n) ≡ n
length_none zero = refl
length_none (suc n) = ap suc (length_none n)

-- no block is on its way into the files of a log
sound_opened : (fs : List NamedFile) (n : ℕ) → is_view fs ≡ true → AreSound (known_files fs) fs (no_parts n)
sound_opened fs n view =
    let within = and_parts (nat_le (sum_by spans_in fs) MAX_SPANS) (nat_le (sum_by bytes_in fs) MAX_TOTAL) (view_parts fs view).limits in
    record {
      are_files = log_files fs view;
      are_named = log_named fs view;
      way = record {
        each = λ l p there. absurd (not_there n l p there);
        apart = λ l m p q differ one two. absurd (not_there n l p one);
        spans = omega (arith, ap (sum_by (span_cost (map marked_of fs))) (no_blocks n), spans_summed fs, leb-true (sum_by spans_in fs) MAX_SPANS within.0);
        bytes = omega (arith, ap (sum_by length_of) (no_blocks n), bytes_summed fs, leb-true (sum_by bytes_in fs) MAX_TOTAL within.1);
      };
    }

-- ---- the whole of it

module _ (log : OpenLog) (batch n : ℕ) (view : is_view log.meaning.files ≡ true) (version : log.version ≡ written_version) where
  pub desk_opened : IsDesk (new_end log.meaning.files batch n) log (writer_opened log.meaning.files n)
  desk_opened = record {
    books = record { version = version; sound = sound_opened log.meaning.files n view; known = refl; pending = refl; adds = refl };
    lanes = length_none n ∙ sym (length-replicate n new_lane);
    parts = λ l within. no_part n l ∙ ap (λ (p : RecvPast). part_by p.begun (lane_in (new_end log.meaning.files batch n) l).left) (sym (past_of-none l));
  }

  pub dock_opened : (s : State) → s.spots ≡ [] → log.shut ≡ false → RestsIn log s → IsReceiver (opened log.meaning batch (replicate n new_lane)) → IsBatched (opened log.meaning batch (replicate n new_lane)) → IsAnswered (opened log.meaning batch (replicate n new_lane))
      → IsDock (new_end log.meaning.files batch n) log (writer_opened log.meaning.files n) s
  dock_opened s spots unshut rests receiver batched answered = record {
    desk = desk_opened;
    rest = record { spots = spots; log_open = λ here. unshut; rests = λ here. rests };
    receiver = receiver;
    batched = batched;
    few = λ here. omega arith;
    answered = answered;
  }

-- it is good on the disk that is told
pub told_opened : (T : List File) (log : Meaning) (batch lanes : ℕ) (a : Option Told) → IfTold (λ t. IsSoundDisk t.now) a → IfTold (λ t. AllFit T t.now) a → IfTold (λ t. LogOf written_version log.files log.end t.now) a
    → IfTold (λ t. DockGood T (opened log batch (replicate lanes new_lane)) t.now) a
told_opened T log batch lanes None sound fit rests = tt
told_opened T log batch lanes (Some t) sound fit rests = opened_good T log batch lanes t.now sound fit rests
