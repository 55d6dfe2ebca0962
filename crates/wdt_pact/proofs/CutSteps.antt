-- What was left behind stays cut: the sender's acts, the turns of both ends, and a step of either.
use Rattle.std.proofs.Common.{◌≡◌, ◌⊎◌, inl, inr, ℕ, zero, suc, ◌||◌, ◌&&◌, not, nat_le, Bool, true, false, if◌then◌else◌, List, [], ◌∷◌, ◌++◌, take, is_some, option_map, Option, Some, None, subst, sym, ap, ◌∙◌, refl}
use Rattle.std.proofs.lemmas.Bool.{both_ways, or_cases}
use Rattle.wdt_units.specs.declared.blocks.Header.{Header}
use Rattle.wdt_units.specs.declared.numbers.Conn.{Conn}
use Rattle.wdt_codec.specs.declared.frames.Frame.{Frame}
use Rattle.wdt_sender_fsm.specs.declared.acts.SendAct.{SendAct}
use Rattle.wdt_sender_fsm.specs.declared.acts.SendAct.TheVariants as acts
use Rattle.wdt_sender_fsm.specs.declared.inputs.SendIn.{SendIn}
use Rattle.wdt_sender_fsm.specs.declared.inputs.SendIn.TheVariants as inputs
use Rattle.wdt_sender_fsm.specs.declared.states.SendState.{SendState}
use Rattle.wdt_sender_fsm.specs.declared.states.SendState.TheVariants as states
use Rattle.wdt_sender_fsm.specs.Phases.{Message, pieces_in, written_by}
use Rattle.wdt_sender_fsm.specs.Rows as send_rows
use Rattle.wdt_receiver_fsm.specs.declared.acts.RecvAct.{RecvAct}
use Rattle.wdt_receiver_fsm.specs.declared.states.RecvState.{RecvState}
use Rattle.wdt_pact.specs.Belongs.{sends_writing}
use Rattle.wdt_pact.specs.Each.{Each}
use Rattle.wdt_pact.specs.Links.{Link, Way, cut_link, cut_way, lower as lowered, front, is_cut, note_greeted, size_up, with_sent}
use Rattle.wdt_pact.specs.Pairs.{Pair, RecvHold, RecvDoes, SendHold, SendDoes, SendHas, cuts_by, noted_below, recv_gets, recv_stops, send_dials, send_left, send_loses, send_reads, send_reads_by, send_sends, send_stops, send_takes, send_writes, top, top_by, waits, wrote_or_lost}
use Rattle.wdt_pact.specs.Progress.{IsCut, IsCutBy, IsEven, IsEvenBy, is_recv_off, is_send_off}
use Rattle.wdt_pact.proofs.Below.{if_has}
use Rattle.wdt_pact.proofs.Cuts.{IsSplit, both_cut, front_cut, not_well, up_cut}
use Rattle.wdt_pact.proofs.Lists.{Each-append}

-- ---- the sender's acts

writing_on : (ss : SendState) → sends_writing ss ≡ true → is_send_off (SendHas inputs.Wrote) ss ≡ false
writing_on states.Connect e = cc
writing_on ss e = refl

reading_on : (ss : SendState) (f : Frame) → send_rows.is_reading ss ≡ true → is_send_off (SendHas (inputs.Got f)) ss ≡ false
reading_on states.Connect f e = cc
reading_on ss f e = refl

module _ (ss : SendState) (rs : RecvState) (rh : RecvHold) (between : List Link) (denies refusals : ℕ) where
  abbrev at : SendHold → Option Link → Option Link → Pair
  at sh taken newest = record { send = sh; recv = rh; taken = taken; between = between; newest = newest; denies = denies; refusals = refusals }

  abbrev Is : Pair → Type 0
  Is = IsSplit ss rs

  -- the sender's lane holds something else, and its connection is as it was but for what is on its way
  on_taken : (sh new : SendHold) (k now : Link) → is_cut now.down ≡ is_cut k.down → is_cut now.up ≡ is_cut k.up → send_stops sh ≡ false → (is_send_off new ss ≡ true → IsCut now ⊎ (recv_stops rh ≡ true)) → Is (at sh (Some k) None) → Is (at new (Some now) None)
  on_taken sh new k now d u stops off s =
      record {
        cut = record {
          older = λ n. absurd (n refl);
          sender = off;
          receiver = λ e. elim (s.cut.receiver e) [
            | inl x ↦ inl (d ∙ x.0, u ∙ x.1)
            | inr x ↦ absurd (both_ways (send_stops sh) stops x)
          ];
        };
        even = record { taken = d ∙ (s.even.taken ∙ sym u); between = s.even.between; newest = tt };
      }

  on_newest : (sh new : SendHold) (taken : Option Link) (t now : Link) → is_cut now.down ≡ is_cut t.down → is_cut now.up ≡ is_cut t.up → (is_send_off new ss ≡ true → IsCut now ⊎ (recv_stops rh ≡ true)) → Is (at sh taken (Some t)) → Is (at new taken (Some now))
  on_newest sh new taken t now d u off s =
      record {
        cut = record { older = λ n. s.cut.older (λ e. cc); sender = off; receiver = λ e. inr refl };
        even = record { taken = s.even.taken; between = s.even.between; newest = d ∙ (s.even.newest ∙ sym u) };
      }

  off_wrote : (k : Link) (ms : List Message) → IsEven k → sends_writing ss ≡ true → (b : Bool) → (not (is_cut k.down) && not (recv_stops rh)) ≡ b → is_send_off (SendHas (wrote_or_lost b)) ss ≡ true → IsCut (record k { down = with_sent k.down ms }) ⊎ (recv_stops rh ≡ true)
  off_wrote k ms even writes true is off = absurd (both_ways (is_send_off (SendHas inputs.Wrote) ss) (writing_on ss writes) off)
  off_wrote k ms even writes false is off = elim (not_well (is_cut k.down) (recv_stops rh) is) [
    | inl e ↦ inl (both_cut k even e)
    | inr e ↦ inr e
  ]

  pub writes_split : (sh : SendHold) (ms : List Message) (taken newest : Option Link) → send_stops sh ≡ false → sends_writing ss ≡ true → Is (at sh taken newest) → Is (send_writes (at sh taken newest) ms (top_by newest taken))
  writes_split sh ms None None stops writes s = s
  writes_split sh ms (Some k) None stops writes s =
      on_taken sh (SendHas (wrote_or_lost (not (is_cut k.down) && not (recv_stops rh)))) k (record k { down = with_sent k.down ms }) refl refl stops (off_wrote k ms s.even.taken writes (not (is_cut k.down) && not (recv_stops rh)) refl) s
  writes_split sh ms taken (Some t) stops writes s =
      on_newest sh (SendHas (wrote_or_lost (not (is_cut t.down) && not (recv_stops rh)))) taken t (record t { down = with_sent t.down ms }) refl refl (off_wrote t ms s.even.newest writes (not (is_cut t.down) && not (recv_stops rh)) refl) s

  off_source : (u : Bool) (P : Type 0) → ss ≡ states.SendBlocks → is_send_off (SendHas (inputs.SourceLost u)) ss ≡ true → P
  off_source u P here off = absurd (both_ways (is_send_off (SendHas (inputs.SourceLost u)) ss) (ap (is_send_off (SendHas (inputs.SourceLost u))) here) off)

  loses_split : (sh : SendHold) (ms : List Message) (u : Bool) (taken newest : Option Link) → send_stops sh ≡ false → ss ≡ states.SendBlocks → Is (at sh taken newest) → Is (send_loses (at sh taken newest) (top_by newest taken) ms u)
  loses_split sh ms u None None stops here s = s
  loses_split sh ms u (Some k) None stops here s = on_taken sh (SendHas (inputs.SourceLost u)) k (record k { down = with_sent k.down ms }) refl refl stops (λ off. off_source u (IsCut (record k { down = with_sent k.down ms }) ⊎ (recv_stops rh ≡ true)) here off) s
  loses_split sh ms u taken (Some t) stops here s = on_newest sh (SendHas (inputs.SourceLost u)) taken t (record t { down = with_sent t.down ms }) refl refl (λ off. off_source u (IsCut (record t { down = with_sent t.down ms }) ⊎ (recv_stops rh ≡ true)) here off) s

  pub block_split : (h : Header) (lost : Option ℕ) (taken newest : Option Link) → ss ≡ states.SendBlocks → Is (at (SendDoes (acts.SendBlock h)) taken newest) → Is (send_sends (at (SendDoes (acts.SendBlock h)) taken newest) h lost)
  block_split h None taken newest here s = writes_split (SendDoes (acts.SendBlock h)) (written_by (acts.SendBlock h)) taken newest refl (ap sends_writing here) s
  block_split h (Some zero) taken newest here s =
      if_has Is (nat_le (pieces_in h.length) 0) (send_writes (at (SendDoes (acts.SendBlock h)) taken newest) (written_by (acts.SendBlock h)) (top_by newest taken)) (send_loses (at (SendDoes (acts.SendBlock h)) taken newest) (top_by newest taken) [] true)
      (writes_split (SendDoes (acts.SendBlock h)) (written_by (acts.SendBlock h)) taken newest refl (ap sends_writing here) s) (loses_split (SendDoes (acts.SendBlock h)) [] true taken newest refl here s)
  block_split h (Some (suc n)) taken newest here s =
      if_has Is (nat_le (pieces_in h.length) (suc n)) (send_writes (at (SendDoes (acts.SendBlock h)) taken newest) (written_by (acts.SendBlock h)) (top_by newest taken))
      (send_loses (at (SendDoes (acts.SendBlock h)) taken newest) (top_by newest taken) (take (suc (suc n)) (written_by (acts.SendBlock h))) false)
      (writes_split (SendDoes (acts.SendBlock h)) (written_by (acts.SendBlock h)) taken newest refl (ap sends_writing here) s)
      (loses_split (SendDoes (acts.SendBlock h)) (take (suc (suc n)) (written_by (acts.SendBlock h))) false taken newest refl here s)

  gone_cut : (k : Link) → IsEven k → (is_cut k.up || recv_stops rh) ≡ true → IsCut k ⊎ (recv_stops rh ≡ true)
  gone_cut k even e = elim (or_cases (is_cut k.up) (recv_stops rh) e) [
    | inl x ↦ inl (up_cut k even x)
    | inr x ↦ inr x
  ]

  pub reads_split : (taken newest : Option Link) → send_rows.is_reading ss ≡ true → Is (at (SendDoes acts.Read) taken newest) → Is (send_reads (at (SendDoes acts.Read) taken newest) (top_by newest taken))
  reads_split None None reads s = s
  reads_split (Some k) None reads s = go (front size_up k.up) refl where
    none : (b : Bool) → (is_cut k.up || recv_stops rh) ≡ b → Is (if b then at (SendHas inputs.Lost) (Some k) None else at (SendDoes acts.Read) (Some k) None)
    none true is = on_taken (SendDoes acts.Read) (SendHas inputs.Lost) k k refl refl refl (λ off. gone_cut k s.even.taken is) s
    none false is = s

    go : (o : Option (Frame × Way Frame)) → front size_up k.up ≡ o → Is (send_reads_by (at (SendDoes acts.Read) (Some k) None) k o)
    go (Some x) e = on_taken (SendDoes acts.Read) (SendHas (inputs.Got x.0)) k (record k { up = x.1 }) refl (front_cut size_up k.up.sent k.up.room x.0 x.1 e) refl (λ off. absurd (both_ways (is_send_off (SendHas (inputs.Got x.0)) ss) (reading_on ss x.0 reads) off)) s
    go None e = none (is_cut k.up || recv_stops rh) refl
  reads_split taken (Some t) reads s = go (front size_up t.up) refl where
    none : (b : Bool) → (is_cut t.up || recv_stops rh) ≡ b → Is (if b then at (SendHas inputs.Lost) taken (Some t) else at (SendDoes acts.Read) taken (Some t))
    none true is = on_newest (SendDoes acts.Read) (SendHas inputs.Lost) taken t t refl refl (λ off. gone_cut t s.even.newest is) s
    none false is = s

    go : (o : Option (Frame × Way Frame)) → front size_up t.up ≡ o → Is (send_reads_by (at (SendDoes acts.Read) taken (Some t)) t o)
    go (Some x) e = on_newest (SendDoes acts.Read) (SendHas (inputs.Got x.0)) taken t (record t { up = x.1 }) refl (front_cut size_up t.up.sent t.up.room x.0 x.1 e) (λ off. absurd (both_ways (is_send_off (SendHas (inputs.Got x.0)) ss) (reading_on ss x.0 reads) off)) s
    go None e = none (is_cut t.up || recv_stops rh) refl

-- a connection is made, or not
module _ (rs : RecvState) (rh : RecvHold) (refusals : ℕ) (conn : Conn) where
  abbrev on : SendHold → Option Link → List Link → Option Link → ℕ → Pair
  on sh taken between newest n = record { send = sh; recv = rh; taken = taken; between = between; newest = newest; denies = n; refusals = refusals }

  none_split : (taken : Option Link) (between : List Link) (newest : Option Link) (n m : ℕ) → IsSplit states.Connect rs (on (SendDoes (acts.Dial conn)) taken between newest n) → IsSplit states.Connect rs (on (SendHas inputs.NoLink) taken between newest m)
  none_split taken between newest n m s = record { cut = record { older = s.cut.older; sender = λ e. s.cut.sender refl; receiver = λ e. left newest (s.cut.receiver e) }; even = record { taken = s.even.taken; between = s.even.between; newest = s.even.newest } } where
    left : (o : Option Link) → IsCutBy taken ⊎ (send_left o (SendDoes (acts.Dial conn)) ≡ true) → IsCutBy taken ⊎ (send_left o (SendHas inputs.NoLink) ≡ true)
    left o (inl x) = inl x
    left None (inr x) = inr x
    left (Some t) (inr x) = inr x

  old_cut : (taken : Option Link) (between : List Link) (newest : Option Link) → (newest ≡ None → between ≡ []) → IsCutBy (top_by newest taken) → ((newest ≡ None → ⊥) → IsCutBy taken × Each IsCut between) → IsCutBy taken × Each IsCut (between ++ waits newest)
  old_cut taken between None order x older = (x, subst (λ (ks : List Link). Each IsCut (ks ++ [])) (sym (order refl)) tt)
  old_cut taken between (Some t) order x older = let y = older (λ e. cc) in (y.0, Each-append IsCut between (t ∷ []) y.1 (x, tt))

  all_even : (between : List Link) (newest : Option Link) → Each IsEven between → IsEvenBy newest → Each IsEven (between ++ waits newest)
  all_even between None b n = Each-append IsEven between [] b tt
  all_even between (Some t) b n = Each-append IsEven between (t ∷ []) b (n, tt)

  pub dials_split : (taken : Option Link) (between : List Link) (newest : Option Link) (n d : ℕ) (stopped : Bool) → recv_stops rh ≡ stopped → (newest ≡ None → between ≡ []) → IsSplit states.Connect rs (on (SendDoes (acts.Dial conn)) taken between newest n)
      → IsSplit states.Connect rs (send_dials (on (SendDoes (acts.Dial conn)) taken between newest n) d stopped)
  dials_split taken between newest n (suc d) stopped is order s = none_split taken between newest n d s
  dials_split taken between newest n zero true is order s = none_split taken between newest n n s
  dials_split taken between newest n zero false is order s =
      let old : IsCutBy taken × Each IsCut (between ++ waits newest) = elim (s.cut.sender refl) [
        | inl x ↦ old_cut taken between newest order x s.cut.older
        | inr x ↦ absurd (both_ways (recv_stops rh) is x)
      ] in
      record {
        cut = record { older = λ n. old; sender = λ e. cc; receiver = λ e. inr refl };
        even = record { taken = s.even.taken; between = all_even between newest s.even.between s.even.newest; newest = refl };
      }

-- ---- turns

pub recv_turn_split : (ss : SendState) (rs after : RecvState) (p : Pair) (act : RecvAct) → recv_stops p.recv ≡ false → (is_recv_off (RecvDoes act) after ≡ true → is_recv_off p.recv rs ≡ true) → IsSplit ss rs p → IsSplit ss after (recv_gets p act)
recv_turn_split ss rs after p act stops off s =
    record {
      cut = record {
        older = s.cut.older;
        sender = λ e. elim (s.cut.sender e) [
          | inl x ↦ inl x
          | inr x ↦ absurd (both_ways (recv_stops p.recv) stops x)
        ];
        receiver = λ e. s.cut.receiver (off e);
      };
      even = record { taken = s.even.taken; between = s.even.between; newest = s.even.newest };
    }

noted_cut : (b : Bool) (o : Option Link) → IsCutBy o → IsCutBy (option_map (note_greeted b) o)
noted_cut b None e = tt
noted_cut b (Some k) e = e

noted_even : (b : Bool) (o : Option Link) → IsEvenBy o → IsEvenBy (option_map (note_greeted b) o)
noted_even b None e = tt
noted_even b (Some k) e = e

noted_on : (b : Bool) (input : SendIn) (act : SendAct) (ss after : SendState) (rs : RecvState) (rh : RecvHold) (taken : Option Link) (between : List Link) (newest : Option Link) (denies refusals : ℕ) → (is_send_off (SendDoes act) after ≡ true → is_send_off (SendHas input) ss ≡ true)
    → IsSplit ss rs record { send = SendHas input; recv = rh; taken = taken; between = between; newest = newest; denies = denies; refusals = refusals }
    → IsSplit after rs record { send = SendDoes act; recv = rh; taken = noted_below newest b taken; between = between; newest = option_map (note_greeted b) newest; denies = denies; refusals = refusals }
noted_on b input act ss after rs rh taken between None denies refusals off s =
    record {
      cut = record {
        older = λ n. absurd (n refl);
        sender = λ e. elim (s.cut.sender (off e)) [
          | inl x ↦ inl (noted_cut b taken x)
          | inr x ↦ inr x
        ];
        receiver = λ e. elim (s.cut.receiver e) [
          | inl x ↦ inl (noted_cut b taken x)
          | inr x ↦ cc
        ];
      };
      even = record { taken = noted_even b taken s.even.taken; between = s.even.between; newest = tt };
    }
noted_on b input act ss after rs rh taken between (Some t) denies refusals off s =
    record {
      cut = record { older = λ n. s.cut.older (λ e. cc); sender = λ e. s.cut.sender (off e); receiver = λ e. inr refl };
      even = record { taken = s.even.taken; between = s.even.between; newest = s.even.newest };
    }

still_on : (input : SendIn) (act : SendAct) (ss after : SendState) (rs : RecvState) (rh : RecvHold) (taken : Option Link) (between : List Link) (newest : Option Link) (denies refusals : ℕ) → (is_send_off (SendDoes act) after ≡ true → is_send_off (SendHas input) ss ≡ true)
    → IsSplit ss rs record { send = SendHas input; recv = rh; taken = taken; between = between; newest = newest; denies = denies; refusals = refusals }
    → IsSplit after rs record { send = SendDoes act; recv = rh; taken = taken; between = between; newest = newest; denies = denies; refusals = refusals }
still_on input act ss after rs rh taken between None denies refusals off s =
    record {
      cut = record {
        older = λ n. absurd (n refl);
        sender = λ e. s.cut.sender (off e);
        receiver = λ e. elim (s.cut.receiver e) [
          | inl x ↦ inl x
          | inr x ↦ cc
        ];
      };
      even = record { taken = s.even.taken; between = s.even.between; newest = tt };
    }
still_on input act ss after rs rh taken between (Some t) denies refusals off s =
    record { cut = record { older = s.cut.older; sender = λ e. s.cut.sender (off e); receiver = λ e. inr refl }; even = record { taken = s.even.taken; between = s.even.between; newest = s.even.newest } }

pub send_turn_split : (input : SendIn) (b : Bool) (act : SendAct) (ss after : SendState) (rs : RecvState) (p : Pair) → (is_send_off (SendDoes act) after ≡ true → is_send_off (SendHas input) ss ≡ true) → IsSplit ss rs (record p { send = SendHas input }) → IsSplit after rs (send_takes (record p { send = SendHas input }) input b act)
send_turn_split (inputs.Got f) b act ss after rs p off s = noted_on b (inputs.Got f) act ss after rs p.recv p.taken p.between p.newest p.denies p.refusals off s
send_turn_split input b act ss after rs p off s = still_on input act ss after rs p.recv p.taken p.between p.newest p.denies p.refusals off s

-- ---- a cut

cut_both : (d u : ℕ) (k : Link) → IsCut (cut_link d u k)
cut_both d u k = (lower d k.down, lower u k.up) where
  lower : {M : Type 0} (n : ℕ) (way : Way M) → is_cut (cut_way n way) ≡ true
  lower {M} n way = go way.room where
    go : (o : Option ℕ) → is_some (lowered o n) ≡ true
    go None = refl
    go (Some room) = refl

pub cuts_split : (ss : SendState) (rs : RecvState) (sh : SendHold) (rh : RecvHold) (taken : Option Link) (between : List Link) (newest : Option Link) (denies refusals d u : ℕ) → IsSplit ss rs record { send = sh; recv = rh; taken = taken; between = between; newest = newest; denies = denies; refusals = refusals }
    → IsSplit ss rs (let p : Pair = record { send = sh; recv = rh; taken = taken; between = between; newest = newest; denies = denies; refusals = refusals } in cuts_by p d u (top p))
cuts_split ss rs sh rh None between None denies refusals d u s = s
cuts_split ss rs sh rh (Some k) between None denies refusals d u s =
    let x = cut_both d u k in
    record { cut = record { older = λ n. absurd (n refl); sender = λ e. inl x; receiver = λ e. inl x }; even = record { taken = x.0 ∙ sym x.1; between = s.even.between; newest = tt } }
cuts_split ss rs sh rh taken between (Some t) denies refusals d u s =
    let x = cut_both d u t in
    record { cut = record { older = λ n. s.cut.older (λ e. cc); sender = λ e. inl x; receiver = λ e. inr refl }; even = record { taken = s.even.taken; between = s.even.between; newest = x.0 ∙ sym x.1 } }
