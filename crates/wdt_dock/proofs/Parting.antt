-- A lane's block that is begun is lost with its connection.
use Rattle.std.proofs.Common.{◌≡◌, inl, inr, ℕ, zero, suc, ◌<◌, ◌≤◌, Bool, true, false, List, [], ◌∷◌, length, map, sum_by, Option, Some, None, refl, sym, ap, ◌∙◌, subst, arith}
use Rattle.std.specs.Prelude.{IfSome, if◌then◌else◌, slice_set}
use Rattle.std.proofs.lemmas.Bool.{cases_eq, eq-eqb, ne_eqb}
use Rattle.std.proofs.lemmas.List.{length-set}
use Rattle.std.proofs.lemmas.List.Sums.{sum_by-cons}
use Rattle.wdt_units.specs.declared.blocks.Block.{Block}
use Rattle.wdt_units.specs.declared.numbers.Lane.{Lane}
use Rattle.wdt_units.specs.Tree.{File}
use Rattle.wdt_depot.specs.Disk.{Disk, seen_of}
use Rattle.wdt_good.specs.Good.{Each, GoodFiles}
use Rattle.wdt_logfmt.specs.Beginning.{KnownFile, length_of, span_cost}
use Rattle.wdt_logfmt.specs.Marks.{marked_of}
use Rattle.wdt_logfmt.specs.View.{NamedFile}
use Rattle.wdt_sender_fsm.specs.declared.answers.EndAnswer.{EndAnswer}
use Rattle.wdt_sender_fsm.specs.declared.answers.EndAnswer.TheVariants as answers
use Rattle.wdt_sender_fsm.specs.Rules.{judged}
use Rattle.wdt_log.specs.OpenLog.{OpenLog}
use Rattle.wdt_writer.specs.declared.parts.Part.{Part}
use Rattle.wdt_writer.specs.OnWay.{AreSound}
use Rattle.wdt_writer.specs.PlainWriter.{PlainWriter, blocks_of, drops as without_part, part_of}
use Rattle.wdt_receiver_fsm.specs.declared.events.RecvEvent.TheVariants as events
use Rattle.wdt_receiver_fsm.specs.declared.states.RecvLane.{RecvLane}
use Rattle.wdt_receiver_fsm.specs.declared.states.RecvState.TheVariants as states
use Rattle.wdt_receiver_fsm.specs.Logging.{log_after}
use Rattle.wdt_receiver_fsm.specs.PlainReceiver.{PlainReceiver, goes, lane_at, noted, past_at}
use Rattle.wdt_receiver_fsm.specs.ReceiverHistory.{RecvPast, end_of, past_of, past_of-append}
use Rattle.wdt_receiver_fsm.specs.Turn.{drops, drops_lane, given_up, is_used_up, listen_by}
use Rattle.wdt_dock.specs.Desk.{IsDesk, part_by, plain_of}
use Rattle.wdt_dock.specs.DockGood.{DockGood, GoodReads, HasPart, HasPartOf, IfKnown, IsTrees, StandsWithin}
use Rattle.wdt_dock.specs.DockView.{HasLostDisk}
use Rattle.wdt_receiver_fsm.specs.End.{EndView, lane_in}
use Rattle.wdt_dock.proofs.Keeping.{Stays, lane_other, stays_going, stays_more, stays_noted}

-- ---- parts

-- what is there without one is there
without_one : (parts : List (Option Part)) (l m : ℕ) (q : Part) → part_of (slice_set parts l None) m ≡ Some q → part_of parts m ≡ Some q
without_one [] l m q there = absurd (cc)
without_one (p ∷ parts) zero zero q there = absurd (cc)
without_one (p ∷ parts) zero (suc m) q there = there
without_one (p ∷ parts) (suc l) zero q there = there
without_one (p ∷ parts) (suc l) (suc m) q there = without_one parts l m q there

pub part_gone : (parts : List (Option Part)) (l : ℕ) → part_of (slice_set parts l None) l ≡ None
part_gone [] l = refl
part_gone (p ∷ parts) zero = refl
part_gone (p ∷ parts) (suc l) = part_gone parts l

pub part_other : (parts : List (Option Part)) (l k : ℕ) → (k ≡ l → ⊥) → part_of (slice_set parts l None) k ≡ part_of parts k
part_other [] l k ne = refl
part_other (p ∷ parts) zero zero ne = absurd (ne refl)
part_other (p ∷ parts) zero (suc k) ne = refl
part_other (p ∷ parts) (suc l) zero ne = refl
part_other (p ∷ parts) (suc l) (suc k) ne = part_other parts l k (λ same. ne (ap suc same))

pub parts_long : (parts : List (Option Part)) (l : ℕ) → length (slice_set parts l None) ≡ length parts
parts_long [] l = refl
parts_long (p ∷ parts) zero = refl
parts_long (p ∷ parts) (suc l) = ap suc (parts_long parts l)

-- a sum over the blocks of fewer parts
fewer : (f : Block → ℕ) (parts : List (Option Part)) (l : ℕ) → sum_by f (blocks_of (slice_set parts l None)) ≤ sum_by f (blocks_of parts)
fewer f [] l = omega arith
fewer f (None ∷ parts) zero = omega arith
fewer f (Some p ∷ parts) zero = omega (arith, sum_by-cons f p.block (blocks_of parts))
fewer f (None ∷ parts) (suc l) = fewer f parts l
fewer f (Some p ∷ parts) (suc l) = omega (arith, sum_by-cons f p.block (blocks_of parts), sum_by-cons f p.block (blocks_of (slice_set parts l None)), fewer f parts l)

sound_without : (known : List (Option KnownFile)) (files : List NamedFile) (parts : List (Option Part)) (l : ℕ) → AreSound known files parts → AreSound known files (slice_set parts l None)
sound_without known files parts l sound = record {
  are_files = sound.are_files;
  are_named = sound.are_named;
  way = record {
    each = λ lane p there. sound.way.each lane p (without_one parts l lane p there);
    apart = λ i j p q ne here there. sound.way.apart i j p q ne (without_one parts l i p here) (without_one parts l j q there);
    spans = (let less = fewer (span_cost (map marked_of files)) parts l in omega (arith, less, sound.way.spans));
    bytes = (let less = fewer length_of parts l in omega (arith, less, sound.way.bytes));
  };
}

-- ---- the receiver

-- the lane has no begun block, and the others have theirs
pub record Drops (r t : PlainReceiver) (l : ℕ) : Type 0 where
  pub lanes : length t.lanes ≡ length r.lanes
  pub none : (past_at t l).begun ≡ None
  pub begun : (k : ℕ) → (k ≡ l → ⊥) → (past_at t k).begun ≡ (past_at r k).begun
  pub left : (k : ℕ) → (k ≡ l → ⊥) → (lane_at t k).left ≡ (lane_at r k).left

drops_first : (r : PlainReceiver) (l : Lane) → Drops r (drops_lane r l) l.0
drops_first r l = record {
  lanes = length-set r.lanes l.0 _;
  none = ap (λ (p : RecvPast). p.begun) (past_of-append r.history (events.Dropped l ∷ []) l.0) ∙ ap (λ (b : Bool). if b then None else (past_at r l.0).begun) (eq-eqb l.0 l.0 refl);
  begun = λ k ne. ap (λ (p : RecvPast). p.begun) (past_of-append r.history (events.Dropped l ∷ []) k) ∙ ap (λ (b : Bool). if b then None else (past_at r k).begun) (ne_eqb l.0 k (λ same. ne (sym same)));
  left = λ k ne. ap (λ (x : RecvLane). x.left) (lane_other (noted r (events.Dropped l ∷ [])) l.0 k _ ne);
}

pub drops_on : (r s t : PlainReceiver) (l : ℕ) → Drops r s l → Stays s t → Drops r t l
drops_on r s t l a b = record { lanes = b.lanes ∙ a.lanes; none = b.begun l ∙ a.none; begun = λ k ne. b.begun k ∙ a.begun k ne; left = λ k ne. b.left k ∙ a.left k ne }

listens : (t : PlainReceiver) (l : Lane) (used : Bool) → l.0 < length t.lanes → Stays t (listen_by t l used).1
listens t l false within = stays_going t l.0 states.Listen within
listens t l true within = go (end_of t.history).has_finish
  where
    go : (b : Bool) → Stays t (goes (noted t (given_up l b ∷ [])) l.0 states.Ended)
    go true = stays_more t (noted t (events.Quit l ∷ [])) _ (stays_noted t (events.Quit l) (λ k b. refl)) (stays_going (noted t (events.Quit l ∷ [])) l.0 states.Ended within)
    go false = stays_more t (noted t (events.Close l ∷ [])) _ (stays_noted t (events.Close l) (λ k b. refl)) (stays_going (noted t (events.Close l ∷ [])) l.0 states.Ended within)

pub drops_all : (r : PlainReceiver) (l : Lane) → l.0 < length r.lanes → Drops r (drops r l).1 l.0
drops_all r l within =
    let one = drops_first r l in
    drops_on r (drops_lane r l) (drops r l).1 l.0 one (listens (drops_lane r l) l (is_used_up (past_at (drops_lane r l) l.0)) (subst (λ (n : ℕ). l.0 < n) (sym one.lanes) within))

-- ---- a lost disk stays lost

still_lost : (a : EndAnswer) (x y : Bool) → HasLostDisk a → HasLostDisk (judged a x y)
still_lost answers.Disk x y lost = tt
still_lost answers.Going x y none = absurd none
still_lost answers.Done x y none = absurd none
still_lost answers.Link x y none = absurd none
still_lost answers.Source x y none = absurd none
still_lost (answers.Peer kind) x y none = absurd none
still_lost (answers.Aborted code) x y none = absurd none
still_lost (answers.Refused kind) x y none = absurd none
still_lost answers.NoMemory x y none = absurd none

pub lost_on : (r : PlainReceiver) (l : Lane) → HasLostDisk r.answer → HasLostDisk (drops r l).1.answer
lost_on r l lost = go (is_used_up (past_at (drops_lane r l) l.0))
  where
    first : HasLostDisk (drops_lane r l).answer
    first = still_lost r.answer _ _ lost

    go : (used : Bool) → HasLostDisk (listen_by (drops_lane r l) l used).1.answer
    go false = still_lost (drops_lane r l).answer _ _ first
    go true = still_lost (drops_lane r l).answer _ _ first

-- ---- the ties, and the tree

pub desk_dropped : (e f : EndView) (log : OpenLog) (w w2 : PlainWriter) (l : ℕ) → IsDesk e log w → w2 ≡ without_part w l → Drops (plain_of e log w) (plain_of f log w2) l → IsDesk f log w2
desk_dropped e f log w w2 l desk is drops = subst (λ (x : PlainWriter). IsDesk f log x) (sym is) record {
  books = record { version = desk.books.version; sound = sound_without w.known w.files w.parts l desk.books.sound; known = desk.books.known; pending = desk.books.pending; adds = desk.books.adds };
  lanes = parts_long w.parts l ∙ desk.lanes ∙ sym drops.lanes;
  parts = λ k within. elim (cases_eq k l) [
    | inl same ↦ subst (λ (j : ℕ). part_of (slice_set w.parts l None) j ≡ part_by (past_of f.history j).begun (lane_in f j).left) (sym same) (part_gone w.parts l ∙ ap (λ (o : Option Block). part_by o (lane_in f l).left) (sym drops.none))
    | inr ne ↦ part_other w.parts l k ne ∙ desk.parts k (subst (λ (n : ℕ). k < n) drops.lanes within)
        ∙ ap (λ (o : Option Block). part_by o (lane_in e k).left) (sym (drops.begun k ne)) ∙ ap (λ (n : ℕ). part_by (past_of f.history k).begun n) (sym (drops.left k ne))
  ];
}

pub good_dropped : (T : List File) (r t : PlainReceiver) (d : Disk) (l : ℕ) → Drops r t l → t.known ≡ r.known → (log_after t).files ≡ (log_after r).files → (HasLostDisk r.answer → HasLostDisk t.answer) → DockGood T r d → DockGood T t d
good_dropped T r t d l drops known files lost good = record { fit = good.fit; reads = λ here. reads (good.reads (λ was. here (lost was))) }
  where
    part : GoodReads T r d → (k : ℕ) → k < length t.lanes → HasPartOf T t d k
    part was k within = elim (cases_eq k l) [
      | inl same ↦ subst (λ (o : Option Block). IfSome o (HasPart T t.known d (lane_at t k).left)) (sym (ap (λ (j : ℕ). (past_at t j).begun) same ∙ drops.none)) tt
      | inr ne ↦ subst (λ (o : Option Block). IfSome o (HasPart T t.known d (lane_at t k).left)) (sym (drops.begun k ne))
          (subst (λ (n : ℕ). IfSome (past_at r k).begun (HasPart T t.known d n)) (sym (drops.left k ne))
          (subst (λ (ks : List (Option KnownFile)). IfSome (past_at r k).begun (HasPart T ks d (lane_at r k).left)) (sym known) (was.parts k (subst (λ (n : ℕ). k < n) drops.lanes within))))
    ]

    reads : GoodReads T r d → GoodReads T t d
    reads was = record {
      known = subst (λ (ks : List (Option KnownFile)). Each (IfKnown (IsTrees T)) ks) (sym known) was.known;
      stands = subst (λ (ks : List (Option KnownFile)). Each (IfKnown (StandsWithin d)) ks) (sym known) was.stands;
      landed = subst (λ (fs : List NamedFile). GoodFiles T (seen_of d) fs) (sym files) was.landed;
      parts = part was;
    }
