-- A block that is begun: what hangs together behind it.
use Rattle.std.proofs.Common.{◌≡◌, inl, inr, ℕ, zero, suc, ◌-◌, ◌<◌, Bool, true, false, List, [], ◌∷◌, ◌++◌, length, Option, Some, None, refl, sym, ap, ◌∙◌, subst, arith}
use Rattle.std.specs.Prelude.{if◌then◌else◌, is_some, slice_set}
use Rattle.std.proofs.lemmas.Bool.{and_from, and_parts, cases_eq, eq-eqb, ne_eqb}
use Rattle.std.proofs.lemmas.List.{length-set}
use Rattle.wdt_units.specs.declared.blocks.Block.{Block}
use Rattle.wdt_units.specs.declared.blocks.Header.{Header}
use Rattle.wdt_units.specs.declared.numbers.Lane.{Lane}
use Rattle.wdt_units.specs.Headers.{FitsHeader}
use Rattle.wdt_logfmt.specs.Batches.{has_known_file, have_known_files, is_known}
use Rattle.wdt_logfmt.specs.Beginning.{KnownFile, block_of, is_new, known_at}
use Rattle.wdt_logfmt.proofs.ForCallers.{entries_kept, known_stays}
use Rattle.wdt_log.specs.OpenLog.{OpenLog}
use Rattle.wdt_writer.specs.declared.parts.Part.{Part}
use Rattle.wdt_writer.specs.Answers.{fault_at}
use Rattle.wdt_writer.specs.PlainWriter.{PlainWriter, begins, file_told, known_by, known_with, lands as landed_in, part_of, whole}
use Rattle.wdt_writer.proofs.ForCallers.{begun_now}
use Rattle.wdt_receiver_fsm.specs.declared.events.RecvEvent.TheVariants as events
use Rattle.wdt_receiver_fsm.specs.declared.states.RecvLane.{RecvLane}
use Rattle.wdt_receiver_fsm.specs.declared.states.RecvState.TheVariants as states
use Rattle.wdt_receiver_fsm.specs.PlainReceiver.{PlainReceiver, goes, lane_at, noted, past_at}
use Rattle.wdt_receiver_fsm.specs.ReceiverHistory.{RecvPast, past_of, past_of-append}
use Rattle.wdt_receiver_fsm.specs.Turn.{lands, reads, takes_piece}
use Rattle.wdt_dock.specs.Desk.{AreBooks, IsDesk, IsWritten, part_by, plain_of}
use Rattle.wdt_receiver_fsm.specs.End.{EndView, lane_in}
use Rattle.wdt_dock.proofs.Keeping.{LosesNone, lane_here, lane_other, loses_lane, stays_going}
use Rattle.wdt_dock.proofs.LandedBlock.{books_landed}
use Rattle.wdt_dock.proofs.Landings.{desk_landed, part_beside, part_here}
use Rattle.wdt_dock.proofs.Parting.{Drops, drops_on}

-- ---- the receiver

-- on the lane this block is begun, of which no byte is written, and the other lanes have theirs
pub record Begun (r t : PlainReceiver) (l : ℕ) (b : Block) : Type 0 where
  pub lanes : length t.lanes ≡ length r.lanes
  pub here : (past_at t l).begun ≡ Some b
  pub none : b.length - (lane_at t l).left ≡ 0
  pub begun : (k : ℕ) → (k ≡ l → ⊥) → (past_at t k).begun ≡ (past_at r k).begun
  pub left : (k : ℕ) → (k ≡ l → ⊥) → (lane_at t k).left ≡ (lane_at r k).left

begun_here : (r : PlainReceiver) (l : Lane) (b : Block) → (past_at (noted r (events.Begin l b ∷ [])) l.0).begun ≡ Some b
begun_here r l b = ap (λ (p : RecvPast). p.begun) (past_of-append r.history (events.Begin l b ∷ []) l.0) ∙ ap (λ (c : Bool). if c then Some b else (past_at r l.0).begun) (eq-eqb l.0 l.0 refl)

begun_beside : (r : PlainReceiver) (l : Lane) (b : Block) (k : ℕ) → (k ≡ l.0 → ⊥) → (past_at (noted r (events.Begin l b ∷ [])) k).begun ≡ (past_at r k).begun
begun_beside r l b k ne = ap (λ (p : RecvPast). p.begun) (past_of-append r.history (events.Begin l b ∷ []) k) ∙ ap (λ (c : Bool). if c then Some b else (past_at r k).begun) (ne_eqb l.0 k (λ same. ne (sym same)))

none_left : (n : ℕ) → n - n ≡ 0
none_left n = omega arith

-- the first bytes of it are taken
pub taken_begun : (r : PlainReceiver) (l : Lane) (b : Block) (left : ℕ) → b.length ≡ left → l.0 < length r.lanes → Begun r (takes_piece (noted r (events.Begin l b ∷ [])) l left).1 l.0 b
taken_begun r l b left is within =
    let t = noted r (events.Begin l b ∷ []) in
    record {
      lanes = length-set r.lanes l.0 _;
      here = begun_here r l b;
      none = ap (λ (x : RecvLane). b.length - x.left) (lane_here t l.0 record (lane_at t l.0) { state = states.TakeBlock; left = left } within) ∙ ap (λ (n : ℕ). b.length - n) (sym is) ∙ none_left b.length;
      begun = begun_beside r l b;
      left = λ k ne. ap (λ (x : RecvLane). x.left) (lane_other t l.0 k record (lane_at t l.0) { state = states.TakeBlock; left = left } ne);
    }

pub taken_left : (r : PlainReceiver) (l : Lane) (b : Block) (left : ℕ) → l.0 < length r.lanes → (lane_at (takes_piece (noted r (events.Begin l b ∷ [])) l left).1 l.0).left ≡ left
taken_left r l b left within =
    let t = noted r (events.Begin l b ∷ []) in
    ap (λ (x : RecvLane). x.left) (lane_here t l.0 record (lane_at t l.0) { state = states.TakeBlock; left = left } within)

-- it is noted alone, whatever is known
pub noted_begun : (r : PlainReceiver) (known : List (Option KnownFile)) (l : Lane) (b : Block) → b.length ≡ 0 → Begun r (noted (record r { known = known }) (events.Begin l b ∷ [])) l.0 b
noted_begun r known l b empty = record {
  lanes = refl;
  here = begun_here r l b;
  none = (let e : b.length - (lane_at r l.0).left ≡ 0 = omega (arith, empty) in e);
  begun = begun_beside r l b;
  left = λ k ne. refl;
}

-- the same of a receiver that knows other files
pub begun_from : (r : PlainReceiver) (known : List (Option KnownFile)) (t : PlainReceiver) (l : ℕ) (b : Block) → Begun (record r { known = known }) t l b → Begun r t l b
begun_from r known t l b begun = record { lanes = begun.lanes; here = begun.here; none = begun.none; begun = begun.begun; left = begun.left }

-- it lands at once
pub placed_drops : (r : PlainReceiver) (l : Lane) (b : Block) → l.0 < length r.lanes → Drops r (reads (goes (lands r l b) l.0 states.ReadNextCmd)).1 l.0
placed_drops r l b within = drops_on r (lands r l b) (goes (lands r l b) l.0 states.ReadNextCmd) l.0 (record {
  lanes = refl;
  none = ap (λ (p : RecvPast). p.begun) (past_of-append r.history (events.Land l ∷ []) l.0) ∙ ap (λ (c : Bool). if c then None else (past_at r l.0).begun) (eq-eqb l.0 l.0 refl);
  begun = λ k ne. ap (λ (p : RecvPast). p.begun) (past_of-append r.history (events.Land l ∷ []) k) ∙ ap (λ (c : Bool). if c then None else (past_at r k).begun) (ne_eqb l.0 k (λ same. ne (sym same)));
  left = λ k ne. refl;
}) (stays_going (lands r l b) l.0 states.ReadNextCmd within)

pub taken_loses : (r : PlainReceiver) (l : Lane) (b : Block) (left : ℕ) → LosesNone r (takes_piece (noted r (events.Begin l b ∷ [])) l left).1
taken_loses r l b left = (let t = noted r (events.Begin l b ∷ []) in loses_lane t l.0 record (lane_at t l.0) { state = states.TakeBlock; left = left })

pub placed_loses : (r : PlainReceiver) (l : Lane) (b : Block) → LosesNone r (reads (goes (lands (noted r (events.Begin l b ∷ [])) l b) l.0 states.ReadNextCmd)).1
placed_loses r l b = (let t = lands (noted r (events.Begin l b ∷ [])) l b in loses_lane t l.0 record (lane_at t l.0) { state = states.ReadNextCmd })

-- ---- parts

parts_long : (parts : List (Option Part)) (l : ℕ) (o : Option Part) → length (slice_set parts l o) ≡ length parts
parts_long [] l o = refl
parts_long (p ∷ parts) zero o = refl
parts_long (p ∷ parts) (suc l) o = ap suc (parts_long parts l o)

-- ---- known files

pub still_known : (known other : List (Option KnownFile)) (bs : List Block) → ((n : ℕ) → is_known known n ≡ true → known_at other n ≡ known_at known n) → have_known_files known bs ≡ true → have_known_files other bs ≡ true
still_known known other [] same all = refl
still_known known other (b ∷ bs) same all =
    let k = and_parts (has_known_file known b) (have_known_files known bs) all in
    and_from (has_known_file other b) (have_known_files other bs) (ap is_some (same b.file k.0) ∙ k.0) (still_known known other bs same k.1)

pub known_on : (known : List (Option KnownFile)) (h : Header) (n : ℕ) → is_known known n ≡ true → known_at (known_with known h) n ≡ known_at known n
known_on known h n there = go (is_new known h)
  where
    go : (c : Bool) → known_at (known_by known h c) n ≡ known_at known n
    go true = known_stays known (file_told h) n there
    go false = refl

-- ---- the ties

module _ (e : EndView) (log : OpenLog) (w : PlainWriter) (l : Lane) (h : Header) (desk : IsDesk e log w) (within : l.0 < length e.lanes) (idle : (past_of e.history l.0).begun ≡ None) (fits : FitsHeader h) (none : fault_at w h ≡ None) where
  abbrev b : Block
  b = block_of w.known h

  abbrev w1 : PlainWriter
  w1 = begins w l.0 h

  lane_there : l.0 < length w.parts
  lane_there = subst (λ (n : ℕ). l.0 < n) (sym desk.lanes) within

  pub books_begun : AreBooks log w1
  books_begun = record {
    version = desk.books.version;
    sound =
        begun_now w.known w.files w.parts h l.0 fits desk.books.sound.are_files desk.books.sound.are_named desk.books.sound.way lane_there
        (desk.parts l.0 within ∙ ap (λ (o : Option Block). part_by o (lane_in e l.0).left) idle) none;
    known = still_known w.known w1.known w.unlogged (known_on w.known h) desk.books.known;
    pending = desk.books.pending ∙ sym (entries_kept w.known w1.known log.meaning.files w.unlogged (known_on w.known h) desk.books.known);
    adds = desk.books.adds;
  }

  pub part_now : part_of w1.parts l.0 ≡ Some (whole b)
  part_now = part_here w.parts l.0 (Some (whole b)) lane_there

  -- its bytes are to come
  pub desk_begun : (f : EndView) → Begun (plain_of e log w) (plain_of f log w1) l.0 b → (lane_in f l.0).left ≡ b.length → IsDesk f log w1
  desk_begun f now left = record {
    books = books_begun;
    lanes = parts_long w.parts l.0 (Some (whole b)) ∙ desk.lanes ∙ sym now.lanes;
    parts = λ k there. elim (cases_eq k l.0) [
      | inl same ↦ subst (λ (j : ℕ). part_of w1.parts j ≡ part_by (past_of f.history j).begun (lane_in f j).left) (sym same)
          (part_now ∙ ap (λ (n : ℕ). part_by (Some b) n) (sym left) ∙ ap (λ (o : Option Block). part_by o (lane_in f l.0).left) (sym now.here))
      | inr ne ↦ part_beside w.parts l.0 k (Some (whole b)) ne ∙ desk.parts k (subst (λ (n : ℕ). k < n) now.lanes there)
          ∙ ap (λ (o : Option Block). part_by o (lane_in e k).left) (sym (now.begun k ne)) ∙ ap (λ (n : ℕ). part_by (past_of f.history k).begun n) (sym (now.left k ne))
    ];
  }

  -- the end with the block noted
  abbrev e1 : EndView
  e1 = record e { history = e.history ++ events.Begin l b ∷ [] }

  -- it is empty, and lands
  module _ (empty : h.length ≡ 0) where
    written : IsWritten e1 log w1 l.0 (lane_in e l.0).left
    written = (let now = noted_begun (plain_of e log w) w1.known l b empty in record {
      books = books_begun;
      lanes = parts_long w.parts l.0 (Some (whole b)) ∙ desk.lanes;
      others = λ k there ne. part_beside w.parts l.0 k (Some (whole b)) ne ∙ desk.parts k there ∙ ap (λ (o : Option Block). part_by o (lane_in e k).left) (sym (now.begun k ne));
      here = part_now ∙ ap (λ (n : ℕ). part_by (Some b) n) empty ∙ ap (λ (o : Option Block). part_by o 0) (sym now.here);
      left = refl;
    })

    pub books_placed : AreBooks log (landed_in w1 l.0 b)
    books_placed = books_landed log w1 books_begun l.0 (whole b) part_now

    pub desk_placed : (f : EndView) → Drops (plain_of e1 log w1) (plain_of f log (landed_in w1 l.0 b)) l.0 → IsDesk f log (landed_in w1 l.0 b)
    desk_placed f drops = desk_landed e1 f log log w1 (landed_in w1 l.0 b) l.0 (lane_in e l.0).left written books_placed refl drops
