-- The table of begun blocks shows how many bytes they have, and what was counted so far is what the entries say.
use Rattle.std.proofs.Common.{◌≡◌, ◌≢◌, ◌⊎◌, inl, inr, ℕ, suc, ◌+◌, ◌*◌, ◌<◌, ◌≤◌, ◌==◌, Bool, true, false, List, [], ◌∷◌, ◌++◌, length, get_or, set}
use Rattle.std.proofs.Common.{replicate, drop, sum_by, Option, Some, None, if◌then◌else◌, refl, sym, ap, ◌∙◌, subst, arith, zero-add, eq-eqb}
use Rattle.std.proofs.lemmas.Bool.{cases_eq, ne_eqb}
use Rattle.std.proofs.Math.Seq.{drop-cons}
use Rattle.std.proofs.lemmas.List.{get_or-replicate, get_or-set_other, get_or-set_same, length-replicate, length-set}
use Rattle.std.proofs.lemmas.List.Sums.{sum_by-cons}
use Rattle.wdt_units.specs.declared.blocks.Block.{Block}
use Rattle.wdt_logfmt.specs.Beginning.{length_of}
use Rattle.wdt_receiver_fsm.specs.ReceiverHistory.{begun_list, landed_from, landed_of, with_begun_at}
use Rattle.wdt_receiver_fsm.specs.declared.events.RecvEvent.{RecvEvent}
use Rattle.wdt_receiver_fsm.specs.declared.events.RecvEvent.TheVariants.{Take, NoLink, Met, Sized, Begin, Land, Dropped, Idle, Told, Close, Finish, Acked, Quit, Abort, Peer}
use Rattle.wdt_report.specs.Received.{blocks_in, bytes_in, closed_in, is_closing, is_landing, one_closing, one_landing}
use Rattle.wdt_report.specs.Tables.{HasBegunPlace, ShowsBegun, begun_after, begun_bytes, begun_noted, landing}

-- ---- an entry

one_shows : (begun : ℕ → Option Block) (lanes : List ℕ) (k : ℕ) (o : Option Block) (v : ℕ) → k < length lanes → v ≡ begun_bytes o
    → ShowsBegun begun lanes → ShowsBegun (with_begun_at begun k o) (set lanes k v)
one_shows begun lanes k o v within here shows l lt = go (cases_eq l k) where
  go : (l ≡ k) ⊎ (l ≢ k) → get_or (set lanes k v) l 0 ≡ begun_bytes (if l == k then o else begun l)
  go (inl e) = subst (λ (j : ℕ). get_or (set lanes k v) j 0 ≡ begun_bytes (if j == k then o else begun j)) (sym e) (rw
      (eq-eqb k k refl, get_or-set_same lanes k v 0 within) here)
  go (inr ne) = rw (ne_eqb l k ne, get_or-set_other lanes k l v 0 ne) (shows l (omega (arith, lt, length-set lanes k v)))

-- the table shows the begun blocks behind an entry
noted_shows : (begun : ℕ → Option Block) (lanes : List ℕ) (e : RecvEvent) → HasBegunPlace lanes e → ShowsBegun begun lanes
    → ShowsBegun (begun_after begun e) (begun_noted lanes e)
noted_shows begun lanes (Begin k b) within shows = one_shows begun lanes k.0 (Some b) b.length within refl shows
noted_shows begun lanes (Land k) within shows = one_shows begun lanes k.0 None 0 within refl shows
noted_shows begun lanes (Dropped k) within shows = one_shows begun lanes k.0 None 0 within refl shows
noted_shows begun lanes (Take k c) within shows = shows
noted_shows begun lanes (NoLink k) within shows = shows
noted_shows begun lanes (Met k s) within shows = shows
noted_shows begun lanes (Sized k files bytes) within shows = shows
noted_shows begun lanes (Idle k) within shows = shows
noted_shows begun lanes (Told k q) within shows = shows
noted_shows begun lanes (Close k) within shows = shows
noted_shows begun lanes Finish within shows = shows
noted_shows begun lanes (Acked k) within shows = shows
noted_shows begun lanes (Quit k) within shows = shows
noted_shows begun lanes (Abort k code) within shows = shows
noted_shows begun lanes (Peer k kind) within shows = shows

abbrev bytes_from : (ℕ → Option Block) → List RecvEvent → ℕ
bytes_from begun es = sum_by length_of (landed_from begun es)

lands : (o : Option Block) (rest : List Block) → sum_by length_of (begun_list o ++ rest) ≡ begun_bytes o + sum_by length_of rest
lands None rest = sym (zero-add (sum_by length_of rest))
lands (Some b) rest = sum_by-cons length_of b rest

-- what lands by an entry, and by those behind it
landed_more : (begun : ℕ → Option Block) (lanes : List ℕ) (e : RecvEvent) (es : List RecvEvent) → HasBegunPlace lanes e → ShowsBegun begun lanes
    → bytes_from begun (e ∷ es) ≡ landing lanes e + bytes_from (begun_after begun e) es
landed_more begun lanes (Land k) es within shows = lands (begun k.0) (landed_from (with_begun_at begun k.0 None) es) ∙ ap (λ n. n + bytes_from
    (with_begun_at begun k.0 None) es) (sym (shows k.0 within))
landed_more begun lanes (Begin k b) es within shows = sym (zero-add (bytes_from (with_begun_at begun k.0 (Some b)) es))
landed_more begun lanes (Dropped k) es within shows = sym (zero-add (bytes_from (with_begun_at begun k.0 None) es))
landed_more begun lanes (Take k c) es within shows = sym (zero-add (bytes_from begun es))
landed_more begun lanes (NoLink k) es within shows = sym (zero-add (bytes_from begun es))
landed_more begun lanes (Met k s) es within shows = sym (zero-add (bytes_from begun es))
landed_more begun lanes (Sized k files bytes) es within shows = sym (zero-add (bytes_from begun es))
landed_more begun lanes (Idle k) es within shows = sym (zero-add (bytes_from begun es))
landed_more begun lanes (Told k q) es within shows = sym (zero-add (bytes_from begun es))
landed_more begun lanes (Close k) es within shows = sym (zero-add (bytes_from begun es))
landed_more begun lanes Finish es within shows = sym (zero-add (bytes_from begun es))
landed_more begun lanes (Acked k) es within shows = sym (zero-add (bytes_from begun es))
landed_more begun lanes (Quit k) es within shows = sym (zero-add (bytes_from begun es))
landed_more begun lanes (Abort k code) es within shows = sym (zero-add (bytes_from begun es))
landed_more begun lanes (Peer k kind) es within shows = sym (zero-add (bytes_from begun es))

-- ---- a history

-- what was counted of the first k entries
pub record Counted (g : List RecvEvent) (k : ℕ) (lanes : List ℕ) (blocks bytes closed : ℕ) : Type 0 where
  pub begun : ℕ → Option Block
  pub shows : ShowsBegun begun lanes
  pub landed : blocks + blocks_in (drop k g) ≡ blocks_in g
  pub few_landed : blocks ≤ k
  pub whole : bytes + bytes_from begun (drop k g) ≡ bytes_in g
  pub few : bytes ≤ k * 4294967296
  pub shut : closed + closed_in (drop k g) ≡ closed_in g
  pub few_shut : closed ≤ k

-- nothing was counted
pub counted_none : (g : List RecvEvent) (n : ℕ) → Counted g 0 (replicate n 0) 0 0 0
unfolding landed_of
counted_none g n =
    record {
      begun = λ l. None;
      shows = λ l lt. get_or-replicate n l 0 0 (omega (arith, lt, length-replicate {A = ℕ} n 0));
      landed = zero-add (blocks_in g);
      few_landed = omega arith;
      whole = zero-add (bytes_in g);
      few = omega arith;
      shut = zero-add (closed_in g);
      few_shut = omega arith;
    }

one_few : (b : Bool) → (if b then 1 else 0) ≤ 1
one_few true = omega arith
one_few false = omega arith

-- one more entry
pub counted_more : (g : List RecvEvent) (k : ℕ) (e : RecvEvent) (lanes : List ℕ) (blocks bytes closed : ℕ) → drop k g ≡ e ∷ drop (k + 1) g
    → HasBegunPlace lanes e → landing lanes e < 4294967296
    → Counted g k lanes blocks bytes closed → Counted g (k + 1) (begun_noted lanes e) (blocks + one_landing e) (bytes + landing lanes e) (closed + one_closing e)
counted_more g k e lanes blocks bytes closed next within small c =
    record {
      begun = begun_after c.begun e;
      shows = noted_shows c.begun lanes e within c.shows;
      landed = omega (arith, c.landed, ap blocks_in next, sum_by-cons (λ x. if is_landing x then 1 else 0) e (drop (k + 1) g));
      few_landed = omega (arith, c.few_landed, one_few (is_landing e));
      whole = omega (arith, c.whole, ap (bytes_from c.begun) next, landed_more c.begun lanes e (drop (k + 1) g) within c.shows);
      few = omega (arith, c.few, small);
      shut = omega (arith, c.shut, ap closed_in next, sum_by-cons (λ x. if is_closing x then 1 else 0) e (drop (k + 1) g));
      few_shut = omega (arith, c.few_shut, one_few (is_closing e));
    }

-- the same, by what a note of the entry at k answers
pub counted_next : (g : List RecvEvent) (k : ℕ) (d : RecvEvent) (lanes more : List ℕ) (blocks bytes closed one two off : ℕ) → k < length g
    → more ≡ begun_noted lanes (get_or g k d) → one ≡ one_landing (get_or g k d)
    → two ≡ one_closing (get_or g k d) → off ≡ landing lanes (get_or g k d) → HasBegunPlace lanes (get_or g k d) → off < 4294967296
    → Counted g k lanes blocks bytes closed → Counted g (k + 1) more (blocks + one) (bytes + off) (closed + two)
counted_next g k d lanes more blocks bytes closed one two off lt more_is one_is two_is off_is within small c =
    let next : drop k g ≡ get_or g k d ∷ drop (k + 1) g = drop-cons g k d lt ∙ ap (λ j. get_or g k d ∷ drop j g) (one_more k) in
    subst (λ (n : ℕ). Counted g (k + 1) more (blocks + n) (bytes + off) (closed + two)) (sym one_is)
    (subst (λ (n : ℕ). Counted g (k + 1) more (blocks + one_landing (get_or g k d)) (bytes + off) (closed + n)) (sym two_is)
    (subst (λ (n : ℕ). Counted g (k + 1) more (blocks + one_landing (get_or g k d)) (bytes + n) (closed + one_closing (get_or g k d))) (sym off_is)
    (subst (λ (ls : List ℕ). Counted g (k + 1) ls (blocks + one_landing (get_or g k d)) (bytes + landing lanes (get_or g k d)) (closed + one_closing
    (get_or g k d))) (sym more_is)
    (counted_more g k (get_or g k d) lanes blocks bytes closed next within (subst (λ (n : ℕ). n < 4294967296) off_is small) c))))
  where
    one_more : (n : ℕ) → suc n ≡ n + 1
    one_more n = omega arith

-- all entries
pub counted_all : (g : List RecvEvent) (k : ℕ) (lanes : List ℕ) (blocks bytes closed : ℕ) → drop k g ≡ [] → Counted g k lanes blocks bytes closed
    → (blocks ≡ blocks_in g) × (bytes ≡ bytes_in g) × (closed ≡ closed_in g)
counted_all g k lanes blocks bytes closed none c =
    (omega (arith, c.landed, ap blocks_in none), omega (arith, c.whole, ap (bytes_from c.begun) none), omega (arith, c.shut, ap closed_in none))
