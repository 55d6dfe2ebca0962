-- At each lane an end can move, or both have stopped, or the receiver is parked.
use Rattle.std.proofs.Common.{◌≡◌, ◌⊎◌, inl, inr, ℕ, ◌||◌, nat_lt, Bool, true, false, List, [], ◌∷◌, is_some, Option, Some, None, subst, sym, ap, refl}
use Rattle.std.proofs.lemmas.Bool.{or_left, or_right}
use Rattle.std.proofs.lemmas.Option.{same_Some}
use Rattle.wdt_codec.specs.declared.frames.Frame.{Frame}
use Rattle.wdt_sender_fsm.specs.declared.acts.SendAct.TheVariants as acts
use Rattle.wdt_sender_fsm.specs.Phases.{Phase, Met, Listing, Asked, Message}
use Rattle.wdt_receiver_fsm.specs.declared.acts.RecvAct.TheVariants as recv_acts
use Rattle.wdt_receiver_fsm.specs.declared.states.RecvState.TheVariants as recv_states
use Rattle.wdt_pact.specs.Links.{Link, front, is_cut, size_down, size_up}
use Rattle.wdt_pact.specs.Pairs.{SendHold, SendDoes, SendHas, RecvHold, RecvDoes, RecvHas, RecvTook, Pair, recv_stops, send_stops, top_by}
use Rattle.wdt_sender_fsm.specs.declared.states.SendState.{SendState}
use Rattle.wdt_receiver_fsm.specs.declared.states.RecvState.{RecvState}
use Rattle.wdt_pact.specs.Stances.{Stance, Talks, Aborts, Silent, AgreeOn, Agrees, OnLink, send_there}
use Rattle.wdt_pact.specs.Progress.{Holds, IsCutBy, Listens, Moves, down_gives, has_some, is_recv_off, up_gives, send_listens, recv_listens}

-- what isn't cut can be taken
front_some : {M : Type 0} (size : M → ℕ) (m : M) (ms : List M) (room : Option ℕ) → is_some room ≡ false → is_some (front size record { sent = m ∷ ms; room = room }) ≡ true
front_some size m ms None e = refl
front_some size m ms (Some n) e = cc

-- there is something, or the way is cut
gives_some : {M : Type 0} (size : M → ℕ) (m : M) (ms : List M) (room : Option ℕ) (left : Bool) → (is_some (front size record { sent = m ∷ ms; room = room }) || (is_some room || left)) ≡ true
gives_some {M} size m ms room left = go (is_some room) refl where
  go : (b : Bool) → is_some room ≡ b → (is_some (front size record { sent = m ∷ ms; room = room }) || (is_some room || left)) ≡ true
  go true e = or_right (is_some (front size record { sent = m ∷ ms; room = room })) (is_some room || left) (or_left (is_some room) left e)
  go false e = or_left (is_some (front size record { sent = m ∷ ms; room = room })) (is_some room || left) (front_some size m ms room e)

apart : (q : Phase) → send_listens q ≡ true → recv_listens q ≡ true → ⊥
apart (Met ask) a b = cc
apart Listing a b = cc
apart Asked a b = cc
apart q a b = cc

-- where both ends read, one of them finds something
pub both_read : (s r : Phase) (k : Link) (sl rl : Bool) → OnLink (Talks s) (Talks r) k.down.sent k.up.sent → send_listens s ≡ true → recv_listens r ≡ true
    → ((is_some (front size_up k.up) || (is_cut k.up || sl)) ≡ true) ⊎ ((is_some (front size_down k.down) || (is_cut k.down || rl)) ≡ true)
both_read s r k sl rl a x y = go k.down.sent k.up.sent refl refl a where
  go : (ds : List Message) (us : List Frame) → k.down.sent ≡ ds → k.up.sent ≡ us → OnLink (Talks s) (Talks r) ds us → ((is_some (front size_up k.up) || (is_cut k.up || sl)) ≡ true) ⊎ ((is_some (front size_down k.down) || (is_cut k.down || rl)) ≡ true)
  go [] [] d u (inl t) = absurd (apart s x (subst (λ (q : Phase). recv_listens q ≡ true) (same_Some r s t.1) y))
  go [] [] d u (inr t) = absurd (apart r (subst (λ (q : Phase). send_listens q ≡ true) (same_Some s r t.1) x) y)
  go (m ∷ ds) us d u t = inr (subst (λ (xs : List Message). (is_some (front size_down record { sent = xs; room = k.down.room }) || (is_some k.down.room || rl)) ≡ true) (sym d) (gives_some size_down m ds k.down.room rl))
  go [] (v ∷ us) d u t = inl (subst (λ (xs : List Frame). (is_some (front size_up record { sent = xs; room = k.up.room }) || (is_some k.up.room || sl)) ≡ true) (sym u) (gives_some size_up v us k.up.room sl))

abbrev pair : SendHold → RecvHold → Option Link → List Link → Option Link → ℕ → ℕ → Pair
pair s r taken between newest denies refusals = record { send = s; recv = r; taken = taken; between = between; newest = newest; denies = denies; refusals = refusals }

last_right : (a b c : Bool) → c ≡ true → (a || (b || c)) ≡ true
last_right a b c e = or_right a (b || c) (or_right b c e)

silent_not : (f : Phase → Bool) (st : Stance) → st ≡ Silent → Listens f st → ⊥
silent_not f st e l = subst (Listens f) e l

-- a reader whose other end has left finds something, or that nothing more comes
left_gives : (newest : Option Link) (ss rs : Stance) (taken : Option Link) (s : SendHold) → send_stops s ≡ true → AgreeOn (send_there newest ss) rs taken → Listens recv_listens rs → down_gives newest taken s ≡ true
left_gives newest ss rs None s stops a l = absurd (silent_not recv_listens rs a.1 l)
left_gives None ss rs (Some k) s stops a l = last_right (is_some (front size_down k.down)) (is_cut k.down) (send_stops s) stops
left_gives (Some t) ss rs (Some k) s stops a l = last_right (is_some (front size_down k.down)) (is_cut k.down) true refl

stop_gives : (newest : Option Link) (ss rs : Stance) (taken : Option Link) (r : RecvHold) → recv_stops r ≡ true → AgreeOn (send_there newest ss) rs taken → Listens send_listens ss → up_gives (top_by newest taken) r ≡ true
stop_gives None ss rs None r stops a l = absurd (silent_not send_listens ss a.0 l)
stop_gives None ss rs (Some k) r stops a l = last_right (is_some (front size_up k.up)) (is_cut k.up) (recv_stops r) stops
stop_gives (Some t) ss rs taken r stops a l = last_right (is_some (front size_up t.up)) (is_cut t.up) (recv_stops r) stops

read_both : (newest : Option Link) (ss rs : Stance) (taken : Option Link) (r : RecvHold) → ((newest ≡ None → ⊥) → IsCutBy taken) → AgreeOn (send_there newest ss) rs taken → Listens send_listens ss → Listens recv_listens rs
    → (up_gives (top_by newest taken) r ≡ true) ⊎ (down_gives newest taken (SendDoes acts.Read) ≡ true)
read_both newest ss rs None r c a x y = absurd (silent_not recv_listens rs a.1 y)
read_both (Some t) ss rs (Some k) r c a x y = inr (or_right (is_some (front size_down k.down)) (is_cut k.down || true) (or_left (is_cut k.down) true (c (λ e. cc)).0))
read_both None (Talks s) (Talks q) (Some k) r c a x y = both_read s q k (recv_stops r) false a x y
read_both None Aborts rs (Some k) r c a x y = absurd x
read_both None Silent rs (Some k) r c a x y = absurd x
read_both None (Talks s) Aborts (Some k) r c a x y = absurd y
read_both None (Talks s) Silent (Some k) r c a x y = absurd y

read_moves : {A B C D : Type 0} → A ⊎ B → A ⊎ (B ⊎ (C ⊎ D))
read_moves (inl x) = inl x
read_moves (inr x) = inr (inl x)

-- where the receiver's lane takes a connection and none waits, the taken one is cut, or the sender has stopped
accept_cut : (k : Link) (state : RecvState) → state ≡ recv_states.Listen → (is_recv_off (RecvDoes recv_acts.Accept) state ≡ true → IsCutBy (Some k) ⊎ (false ≡ true)) → is_cut k.up ≡ true
accept_cut k state here c = go (c (ap (is_recv_off (RecvDoes recv_acts.Accept)) here)) where
  go : IsCutBy (Some k) ⊎ (false ≡ true) → is_cut k.up ≡ true
  go (inl x) = x.1
  go (inr x) = cc

pub can_move : (ss rs : Stance) (send : SendState) (recv : RecvState) (s : SendHold) (r : RecvHold) (taken : Option Link) (between : List Link) (newest : Option Link) (denies refusals : ℕ)
    → Agrees ss rs taken between newest → Holds ss rs send recv (pair s r taken between newest denies refusals) → Moves (pair s r taken between newest denies refusals)
can_move ss rs send recv (SendHas i) r taken between newest denies refusals a h = inl refl
can_move ss rs send recv s (RecvTook n) taken between newest denies refusals a h = inr (inl refl)
can_move ss rs send recv s (RecvHas i) taken between newest denies refusals a h = inr (inl refl)
can_move ss rs send recv s (RecvDoes recv_acts.Park) taken between newest denies refusals a h = inr (inr (inl refl))
can_move ss rs send recv s (RecvDoes (recv_acts.Write f)) taken between newest denies refusals a h = inr (inl refl)
can_move ss rs send recv (SendDoes (acts.Dial c)) r taken between newest denies refusals a h = inl refl
can_move ss rs send recv (SendDoes (acts.Write f)) r taken between newest denies refusals a h = inl refl
can_move ss rs send recv (SendDoes (acts.SendBlock b)) r taken between newest denies refusals a h = inl refl
can_move ss rs send recv (SendDoes acts.Stop) (RecvDoes recv_acts.Stop) taken between newest denies refusals a h = inr (inr (inr (refl, refl)))
can_move ss rs send recv (SendDoes acts.Stop) (RecvDoes recv_acts.Accept) taken between newest denies refusals a h = inr (inl (or_right (nat_lt 0 refusals) (has_some between || (is_some newest || true)) (last_right (has_some between) (is_some newest) true refl)))
can_move ss rs send recv (SendDoes acts.Stop) (RecvDoes recv_acts.Read) taken between newest denies refusals a h = inr (inl (left_gives newest ss rs taken (SendDoes acts.Stop) refl a.on_taken h.recv_reads))
can_move ss rs send recv (SendDoes acts.Stop) (RecvDoes (recv_acts.TakePiece n)) taken between newest denies refusals a h = inr (inl (left_gives newest ss rs taken (SendDoes acts.Stop) refl a.on_taken h.recv_reads))
can_move ss rs send recv (SendDoes acts.Read) (RecvDoes recv_acts.Stop) taken between newest denies refusals a h = inl (stop_gives newest ss rs taken (RecvDoes recv_acts.Stop) refl a.on_taken h.send_reads)
can_move ss rs send recv (SendDoes acts.Read) (RecvDoes recv_acts.Accept) taken between (Some t) denies refusals a h = inr (inl (or_right (nat_lt 0 refusals) (has_some between || true) (or_right (has_some between) true refl)))
can_move ss rs send recv (SendDoes acts.Read) (RecvDoes recv_acts.Accept) (Some k) between None denies refusals a h = inl (or_right (is_some (front size_up k.up)) (is_cut k.up || false) (or_left (is_cut k.up) false (accept_cut k recv (h.accepts refl) h.cut.receiver)))
can_move ss rs send recv (SendDoes acts.Read) (RecvDoes recv_acts.Accept) None between None denies refusals a h = absurd (silent_not send_listens ss a.on_taken.0 h.send_reads)
can_move ss rs send recv (SendDoes acts.Read) (RecvDoes recv_acts.Read) taken between newest denies refusals a h = read_moves (read_both newest ss rs taken (RecvDoes recv_acts.Read) (λ e. (h.cut.older e).0) a.on_taken h.send_reads h.recv_reads)
can_move ss rs send recv (SendDoes acts.Read) (RecvDoes (recv_acts.TakePiece n)) taken between newest denies refusals a h = read_moves (read_both newest ss rs taken (RecvDoes (recv_acts.TakePiece n)) (λ e. (h.cut.older e).0) a.on_taken h.send_reads h.recv_reads)
