-- A lane of the sender is closed by what another lane reads.
-- Of the step the closed lane's part stands here; the reading lane's and the list of marks are open.
use Rattle.std.proofs.Common.{◌≡◌, ℕ, Bool, true, false, List, [], ◌++◌, length, Option, Some, None, subst, sym, ap, refl, arith, eq-eqb}
use Rattle.std.proofs.lemmas.Bool.{ne_eqb}
use Rattle.wdt_claims.specs.LaneWords.{closed_at}
use Rattle.wdt_units.specs.declared.blocks.Header.{Header}
use Rattle.wdt_sender_fsm.specs.declared.events.SendEvent.TheVariants as events
use Rattle.wdt_sender_fsm.specs.declared.states.SendLane.{SendLane}
use Rattle.wdt_sender_fsm.specs.Phases.{Message}
use Rattle.wdt_sender_fsm.specs.SenderHistory.{LanePast, past_after}
use Rattle.wdt_pact.specs.Links.{Link}
use Rattle.wdt_pact.specs.Pairs.{Pair}
use Rattle.wdt_pact.specs.World.{number}
use Rattle.wdt_pact.specs.Stances.{Stance, Silent, recv_stance}
use Rattle.wdt_pact.specs.Lists.{begun_heads, Splits, Splits-cut, Splits-same, cut_heads, AskedBy, UnsentBy, ListsBy, in_hand}
use Rattle.wdt_pact.specs.Conversation.{Common, Receiving, Converses}
use Rattle.wdt_pact.proofs.Lists.{leads_of}

lists_close : (taken : Option Link) (kept landed : List Header) (begun : Option Header) (hand : List Message) (P Q : List Header → Type 0) (n : ℕ) → begun ≡ None → n ≡ length landed → ListsBy Silent taken kept landed begun hand P → ListsBy Silent taken (cut_heads n kept) landed begun hand Q
lists_close None kept landed begun hand P Q n none is x = (([], Splits-cut kept landed x.0.0 n is x.0.1), none)
lists_close (Some k) kept landed begun hand P Q n none is x =
    record {
      rest = [];
      same = Splits-same (cut_heads n kept) landed [] (begun_heads begun ++ []) (Splits-cut kept landed (begun_heads begun ++ x.rest) n is x.same) (ap (λ (o : Option Header). begun_heads o ++ []) (sym none));
      live = λ e. tt;
      dead = λ e. ap begun_heads none;
    }

asked_close : (taken : Option Link) (kept landed : List Header) (begun : Option Header) (hand : List Message) (held : Bool) → AskedBy Silent taken kept landed begun hand held
asked_close None kept landed begun hand held = tt
asked_close (Some k) kept landed begun hand held = tt

-- the lane that is closed: the receiver has closed it, and says nothing on it
pub closes_here : (g : Common) (l : ℕ) (lane : SendLane) (past after : LanePast) (kept : List Header) (r : Receiving) (p : Pair) (n : ℕ)
    → r.past.is_closed ≡ true → n ≡ length r.landed → after ≡ record past { claims = closed_at n 0 past.claims }
    → Converses g l record { lane = lane; past = past; kept = kept } r p → Converses g l record { lane = lane; past = after; kept = cut_heads n kept } r p
closes_here g l lane past after kept r p n shut is same c =
    let rs : Stance = recv_stance r.lane r.past.is_idle r.past.is_acked p.recv in
    let silent : rs ≡ Silent = (c.shut shut).silent in
    let none : r.begun ≡ None = (c.shut shut).none in
    let front : Splits (cut_heads n kept) r.landed [] = (let x = leads_of rs p.taken kept r.landed r.begun (in_hand p.recv) _ c.lists in Splits-cut kept r.landed x.0 n is x.1) in
    subst (λ (x : LanePast). Converses g l record { lane = lane; past = x; kept = cut_heads n kept } r p) (sym same)
    record {
      agrees = c.agrees;
      lists = subst (λ (x : Stance). ListsBy x p.taken (cut_heads n kept) r.landed r.begun (in_hand p.recv) (UnsentBy p.newest lane.state p.send)) (sym silent)
          (lists_close p.taken kept r.landed r.begun (in_hand p.recv) (UnsentBy p.newest lane.state p.send) (UnsentBy p.newest lane.state p.send) n none is (subst (λ (x : Stance). ListsBy x p.taken kept r.landed r.begun (in_hand p.recv) (UnsentBy p.newest lane.state p.send)) silent c.lists));
      sure = omega (arith, is);
      upward = c.upward;
      fits = c.fits;
      notes = c.notes;
      closed = λ e. record { there = shut; same = front };
      asked = subst (λ (x : Stance). AskedBy x p.taken (cut_heads n kept) r.landed r.begun (in_hand p.recv) false) (sym silent) (asked_close p.taken (cut_heads n kept) r.landed r.begun (in_hand p.recv) false);
      finished = λ e. let f = c.finished e in record { same = front; holds = refl };
      pieces = c.pieces;
      waits = c.waits;
      idle = λ e. let x = c.idle e in record { same = front; holds = refl; late = x.late; quiet = x.quiet };
      shut = c.shut;
      heard_up = c.heard_up;
      heard_down = c.heard_down;
    }

-- what an entry that closes a lane makes of it, and of the others
pub close_there : (k l n : ℕ) (p : LanePast) → p.claims.closed ≡ None → past_after l p (events.Global (number k) (number l) n) ≡ record p { claims = closed_at n 0 p.claims }
close_there k l n p opens = rw (eq-eqb l l refl, opens) refl

pub quiet_close : (k l j n : ℕ) (p : LanePast) → (j ≡ l → ⊥) → past_after j p (events.Global (number k) (number l) n) ≡ p
quiet_close k l j n p ne = rw (ne_eqb l j (λ e. ne (sym e))) refl
