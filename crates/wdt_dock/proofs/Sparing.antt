-- What a call leaves alone of what is read, change by change.
use Rattle.std.proofs.Common.{◌≡◌, inl, inr, ℕ, ◌<◌, ◌≤◌, ◌&&◌, Bool, true, false, List, [], ◌∷◌, length, Option, Some, None, Result, Ok, Err, refl, sym, ap, ◌∙◌, subst, arith}
use Rattle.std.specs.Prelude.{IsSome, option_map, slice_index}
use Rattle.std.specs.Str.{bytes_eq}
use Rattle.std.proofs.lemmas.Bool.{and_parts, or_cases}
use Rattle.std.proofs.lemmas.Slice.Eq.{bytes_eq-Decides}
use Rattle.wdt_units.specs.declared.blocks.Header.{Header}
use Rattle.wdt_units.specs.declared.numbers.Lane.{Lane}
use Rattle.wdt_codec.specs.declared.frames.Frame.{Frame}
use Rattle.wdt_codec.specs.declared.frames.Frame.TheVariants as frames
use Rattle.wdt_ranges.specs.Spans.{has}
use Rattle.wdt_depot.specs.Disk.{Disk, DiskFile, IsOutside, clean, made, seen_of, write_file, wrote}
use Rattle.wdt_depot.specs.Moments.{MayDo, OneStep, Told}
use Rattle.wdt_depot.specs.Rewritten.{range_at}
use Rattle.wdt_depot.specs.State.{State}
use Rattle.wdt_depot.proofs.ForCallers.{length-spliced, seen_outside_write, with_file-other, with_file-same}
use Rattle.wdt_logfmt.specs.Batches.{path_at}
use Rattle.wdt_logfmt.specs.Beginning.{BeginFault, KnownFile, is_new}
use Rattle.wdt_logfmt.specs.Landing.{IsAmong}
use Rattle.wdt_logfmt.specs.View.{NamedFile}
use Rattle.wdt_logfmt.proofs.ForCallers.{number_new}
use Rattle.wdt_good.specs.Changing.{IsClear}
use Rattle.wdt_good.specs.Good.{covers}
use Rattle.wdt_good.proofs.ForCallers.{each_in}
use Rattle.wdt_files.specs.PlainFiles.{AreFiles, AreNamed, known_of}
use Rattle.wdt_log.specs.Flushing.{ReadsStand}
use Rattle.wdt_log.specs.OpenLog.{OpenLog}
use Rattle.wdt_writer.specs.declared.fail.WriteFail.{WriteFail}
use Rattle.wdt_writer.specs.Answers.{fault_at}
use Rattle.wdt_writer.specs.declared.parts.Part.{Part}
use Rattle.wdt_writer.specs.OnWay.{IsOnWay}
use Rattle.wdt_writer.specs.PlainWriter.{PlainWriter, begun_on, made_by, place_of}
use Rattle.wdt_receiver_fsm.specs.declared.inputs.RecvIn.{RecvIn}
use Rattle.wdt_receiver_fsm.specs.declared.inputs.RecvIn.TheVariants as inputs
use Rattle.wdt_receiver_fsm.specs.declared.states.RecvState.{RecvState}
use Rattle.wdt_receiver_fsm.specs.declared.states.RecvState.TheVariants as states
use Rattle.wdt_receiver_fsm.specs.PlainReceiver.{PlainReceiver, lane_at}
use Rattle.wdt_receiver_fsm.specs.Rows.{Block as BlockRead, at_answer, at_command, at_settings, row_of}
use Rattle.wdt_receiver_fsm.specs.Turn.{Given, row_at}
use Rattle.wdt_dock.specs.Desk.{AreBooks}
use Rattle.wdt_dock.specs.Sparing.{Between, HasByte, IsBeside, IsOther, IsOtherRow, IsUnasked, IsUnread, LeavesCovered, LeavesOthers, Spares}
use Rattle.wdt_dock.proofs.Goodness.{other_path}
use Rattle.wdt_dock.proofs.Made.{not_named}
use Rattle.wdt_dock.proofs.Written.{clear_files, path_is}

-- ---- which file covers a position

record Covering (files : List NamedFile) (path : List ℕ) (k : ℕ) : Type 0 where
  file : NamedFile
  among : IsAmong file files
  at : file.have.path ≡ path
  there : has file.have.spans k ≡ true

covering : (files : List NamedFile) (path : List ℕ) (k : ℕ) → covers files path k ≡ true → Covering files path k
covering [] path k h = absurd (cc)
covering (f ∷ fs) path k h = elim (or_cases (bytes_eq f.have.path path && has f.have.spans k) (covers fs path k) h) [
  | inl here ↦ (let p = and_parts (bytes_eq f.have.path path) (has f.have.spans k) here in record { file = f; among = inl refl; at = (bytes_eq-Decides f.have.path path).0 p.0; there = p.1 })
  | inr later ↦ (let r = covering fs path k later in record { file = r.file; among = inr r.among; at = r.at; there = r.there })
]

-- ---- calls in a row

pub spares_same : (other : List ℕ → Type 0) (files : List NamedFile) (a : Option Told) → Between (Spares other files) a a
spares_same other files None = tt
spares_same other files (Some t) = record { others = λ path apart. refl; covered = λ path k byte there has_byte. has_byte }

pub spares_more : (other : List ℕ → Type 0) (files : List NamedFile) (a b c : Option Told) → Between (Spares other files) a b → Between (Spares other files) b c → Between (Spares other files) a c
spares_more other files None None c one two = two
spares_more other files None (Some u) c one two = absurd one
spares_more other files (Some t) None c one two = absurd one
spares_more other files (Some t) (Some u) None one two = absurd two
spares_more other files (Some t) (Some u) (Some v) one two = record {
  others = λ path apart. two.others path apart ∙ one.others path apart;
  covered = λ path k byte there has_byte. two.covered path k byte there (one.covered path k byte there has_byte);
}

pub spares_fewer : (other less : List ℕ → Type 0) (files : List NamedFile) (a b : Option Told) → ((path : List ℕ) → less path → other path) → Between (Spares other files) a b → Between (Spares less files) a b
spares_fewer other less files None None is one = tt
spares_fewer other less files None (Some u) is one = absurd one
spares_fewer other less files (Some t) None is one = absurd one
spares_fewer other less files (Some t) (Some u) is one = record { others = λ path apart. one.others path (is path apart); covered = one.covered }

pub others_of : (other : List ℕ → Type 0) (files : List NamedFile) (a b : Option Told) → Between (Spares other files) a b → Between (LeavesOthers other) a b
others_of other files None None one = tt
others_of other files None (Some u) one = absurd one
others_of other files (Some t) None one = absurd one
others_of other files (Some t) (Some u) one = one.others

pub covered_of : (other : List ℕ → Type 0) (files : List NamedFile) (a b : Option Told) → Between (Spares other files) a b → Between (LeavesCovered files) a b
covered_of other files None None one = tt
covered_of other files None (Some u) one = absurd one
covered_of other files (Some t) None one = absurd one
covered_of other files (Some t) (Some u) one = one.covered

-- what each change of the disk leaves, a call of at most one change leaves
pub spares_done : {R E : Type 0} (other : List ℕ → Type 0) (files : List NamedFile) (done : Disk → Disk) (result : Result R E) (a b : Option Told) → ((d : Disk) → Spares other files d (done d)) → OneStep (MayDo done result) a b → Between (Spares other files) a b
spares_done other files done result None None each step = tt
spares_done other files done result None (Some u) each step = absurd step
spares_done other files done result (Some t) None each step = absurd step
spares_done other files done (Ok x) (Some t) (Some u) each step = subst (λ (d : Disk). Spares other files t.now d) (sym step.0) (each t.now)
spares_done other files done (Err x) (Some t) (Some u) each step = elim step.0 [
  | inl same ↦ subst (λ (d : Disk). Spares other files t.now d) (sym same) (spares_same other files (Some t))
  | inr is ↦ subst (λ (d : Disk). Spares other files t.now d) (sym is) (each t.now)
]

-- ---- a file is made

pub made_spares : (log : OpenLog) (w : PlainWriter) (books : AreBooks log w) (h : Header) (d : Disk) → Spares (λ path. bytes_eq h.path path ≡ false) w.files d (begun_on w.known h d)
made_spares log w books h d = record { others = λ path apart. other path apart (is_new w.known h); covered = λ path k byte there has_byte. kept path k byte (covering w.files path k there) has_byte (is_new w.known h) refl }
  where
    beside : (path : List ℕ) → bytes_eq h.path path ≡ false → made h.path d path ≡ d path
    beside path apart = with_file-other h.path path (Some (clean [])) d apart

    other : (path : List ℕ) → bytes_eq h.path path ≡ false → (new : Bool) → seen_of (made_by h.path new d) path ≡ seen_of d path
    other path apart true = ap (option_map (λ (f : DiskFile). f.seen)) (beside path apart)
    other path apart false = refl

    kept : (path : List ℕ) (k byte : ℕ) → Covering w.files path k → HasByte d path k byte → (new : Bool) → is_new w.known h ≡ new → HasByte (made_by h.path new d) path k byte
    kept path k byte by has_byte false old = has_byte
    kept path k byte by has_byte true new = go (bytes_eq h.path path) refl
      where
        go : (c : Bool) → bytes_eq h.path path ≡ c → HasByte (made h.path d) path k byte
        go true same = absurd (not_named log w books h new by.file by.among (by.at ∙ sym ((bytes_eq-Decides h.path path).0 same)))
        go false apart = record { file = has_byte.file; there = beside path apart ∙ has_byte.there; within = has_byte.within; same = has_byte.same }

pub begun_spares : {E : Type 0} (log : OpenLog) (w : PlainWriter) (books : AreBooks log w) (h : Header) (result : Result E WriteFail) (s0 s1 : State) → (IsSome (fault_at w h) → s1 ≡ s0) → (fault_at w h ≡ None → OneStep (MayDo (begun_on w.known h) result) s0.told s1.told)
    → Between (Spares (IsOtherRow w.known (BlockRead h)) w.files) s0.told s1.told
begun_spares log w books h result s0 s1 untouched step = go (fault_at w h) refl
  where
    go : (o : Option BeginFault) → fault_at w h ≡ o → Between (Spares (IsOtherRow w.known (BlockRead h)) w.files) s0.told s1.told
    go (Some fault) is = subst (λ (s : State). Between (Spares (IsOtherRow w.known (BlockRead h)) w.files) s0.told s.told) (sym (untouched (subst (λ (o : Option BeginFault). IsSome o) (sym is) refl))) (spares_same (IsOtherRow w.known (BlockRead h)) w.files s0.told)
    go None is =
        spares_fewer (λ path. bytes_eq h.path path ≡ false) (IsOtherRow w.known (BlockRead h)) w.files s0.told s1.told (λ path other. other.unread)
        (spares_done (λ path. bytes_eq h.path path ≡ false) w.files (begun_on w.known h) result s0.told s1.told (made_spares log w books h) (step is))

-- ---- bytes of a block are written

byte_beside : (o : ℕ) (bytes : List ℕ) (f : DiskFile) (k : ℕ) → k < length f.seen → k < length (write_file o bytes f).seen
unfolding write_file
byte_beside o bytes f k below = omega (arith, below, length-spliced f.seen o bytes)

module _ (known : List (Option KnownFile)) (files : List NamedFile) (are_files : AreFiles known) (are_named : AreNamed known files) (p : Part) (way : IsOnWay known files p) (bytes : List ℕ) (fits : length bytes ≤ p.left) (d : Disk) where
  abbrev target : List ℕ
  target = path_at known p.block.file

  abbrev written : Disk
  written = wrote target (place_of p) bytes d

  at_target : target ≡ way.file.path
  at_target = path_is known files are_files are_named p way bytes fits

  not_target : (path : List ℕ) → bytes_eq target path ≡ false → written path ≡ d path
  not_target path apart = with_file-other target path (option_map (write_file (place_of p) bytes) (d target)) d apart

  other_wrote : (path : List ℕ) → IsBeside known path → seen_of written path ≡ seen_of d path
  other_wrote path by = go (bytes_eq target path) refl
    where
      go : (c : Bool) → bytes_eq target path ≡ c → seen_of written path ≡ seen_of d path
      go true same = absurd (number_new known path p.block.file way.file by.unknown way.known_as (sym at_target ∙ (bytes_eq-Decides target path).0 same))
      go false apart = ap (option_map (λ (f : DiskFile). f.seen)) (not_target path apart)

  covered_wrote : (path : List ℕ) (k byte : ℕ) → Covering files path k → HasByte d path k byte → HasByte written path k byte
  covered_wrote path k byte by has_byte = go (bytes_eq target path) refl
    where
      go : (c : Bool) → bytes_eq target path ≡ c → HasByte written path k byte
      go false apart = record { file = has_byte.file; there = not_target path apart ∙ has_byte.there; within = has_byte.within; same = has_byte.same }
      go true same =
          let here : target ≡ path = (bytes_eq-Decides target path).0 same in
          let clear = each_in (λ f. f.have.path ≡ target → (f.have.size ≡ way.file.size) × IsClear (place_of p) (length bytes) f) files by.file (clear_files known files are_files are_named p way bytes fits) by.among (by.at ∙ sym here) in
          let outside : IsOutside k (range_at (place_of p) (length bytes)) = clear.1 k by.there in
          subst (λ (q : List ℕ). HasByte written q k byte) here record {
            file = write_file (place_of p) bytes has_byte.file;
            there = with_file-same target (option_map (write_file (place_of p) bytes) (d target)) d ∙ ap (option_map (write_file (place_of p) bytes)) (ap d here ∙ has_byte.there);
            within = byte_beside (place_of p) bytes has_byte.file k has_byte.within;
            same = seen_outside_write (place_of p) bytes has_byte.file k has_byte.within outside ∙ has_byte.same;
          }

  pub wrote_spares : Spares (IsBeside known) files d (wrote (path_at known p.block.file) (place_of p) bytes d)
  wrote_spares = record { others = other_wrote; covered = λ path k byte there has_byte. covered_wrote path k byte (covering files path k there) has_byte }

-- ---- what landed is logged

some_same : (x y : List ℕ) → Some x ≡ Some y → x ≡ y
some_same x y e = cc

read_byte : (d e : Disk) (path : List ℕ) (k byte : ℕ) → seen_of e path ≡ seen_of d path → HasByte d path k byte → HasByte e path k byte
read_byte d e path k byte read has_byte = go (e path) refl (read ∙ ap (option_map (λ (f : DiskFile). f.seen)) has_byte.there)
  where
    go : (o : Option DiskFile) → e path ≡ o → option_map (λ (f : DiskFile). f.seen) (e path) ≡ Some has_byte.file.seen → HasByte e path k byte
    go None is same = absurd (let none : option_map (λ (f : DiskFile). f.seen) (e path) ≡ None = ap (option_map (λ (f : DiskFile). f.seen)) is in cc)
    go (Some f) is same =
        let seen : f.seen ≡ has_byte.file.seen = some_same f.seen has_byte.file.seen (sym (ap (option_map (λ (f : DiskFile). f.seen)) is) ∙ same) in record {
          file = f;
          there = is;
          within = subst (λ (bs : List ℕ). k < length bs) (sym seen) has_byte.within;
          same = ap (λ (bs : List ℕ). slice_index bs k) seen ∙ has_byte.same;
        }

pub reads_spare : (log : OpenLog) (w : PlainWriter) → AreBooks log w → (a b : Option Told) → ReadsStand a b → Between (Spares (IsBeside w.known) w.files) a b
reads_spare log w books None None reads = tt
reads_spare log w books None (Some u) reads = absurd reads
reads_spare log w books (Some t) None reads = absurd reads
reads_spare log w books (Some t) (Some u) reads = record {
  others = λ path by. reads path by.log by.new_log;
  covered = λ path k byte there has_byte.
      let by = covering w.files path k there in
      let free = other_path by.file.have.path (books.sound.are_files.free by.file.number (known_of by.file) (books.sound.are_named.known_as by.file by.among)) in
      read_byte t.now u.now path k byte (subst (λ (q : List ℕ). seen_of u.now q ≡ seen_of t.now q) by.at (reads by.file.have.path free.old free.new)) has_byte;
}

-- ---- the row of an input

command_unread : (sized : Bool) (frame : Frame) (path : List ℕ) → IsUnasked (Given (inputs.Got frame)) path → IsUnread (at_command sized frame) path
command_unread sized (frames.Abort code) path of = tt
command_unread false (frames.Size files bytes) path of = tt
command_unread true (frames.Block header) path of = of
command_unread true frames.Done path of = tt
command_unread true _ path of = tt
command_unread false _ path of = tt

settings_unread : (frame : Frame) (path : List ℕ) → IsUnread (at_settings frame) path
settings_unread (frames.Abort code) path = tt
settings_unread (frames.Settings settings) path = tt
settings_unread _ path = tt

answer_unread : (frame : Frame) (path : List ℕ) → IsUnread (at_answer frame) path
answer_unread (frames.Abort code) path = tt
answer_unread frames.Done path = tt
answer_unread _ path = tt

unread_by : (sized : Bool) (state : RecvState) (input : RecvIn) (path : List ℕ) → IsUnasked (Given input) path → IsUnread (row_of sized state input) path
unread_by sized states.Ended input path of = tt
unread_by sized state inputs.Starved path of = tt
unread_by sized states.ReadSettings (inputs.Got frame) path of = settings_unread frame path
unread_by sized states.ReadNextCmd (inputs.Got frame) path of = command_unread sized frame path of
unread_by sized states.ReadAck (inputs.Got frame) path of = answer_unread frame path
unread_by sized _ _ path of = tt

pub row_other : (known : List (Option KnownFile)) (r : PlainReceiver) (l : Lane) (input : RecvIn) (path : List ℕ) → IsOther known (Given input) path → IsOtherRow known (row_at r l (Given input)) path
row_other known r l input path other = record { beside = other.beside; unread = unread_by (lane_at r l.0).is_sized (lane_at r l.0).state input path other.unasked }
