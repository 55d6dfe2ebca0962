-- A lane of a world that begins.
use Rattle.std.proofs.Common.{◌≡◌, ℕ, false, [], None, refl, arith}
use Rattle.wdt_units.specs.declared.numbers.Conn.{Conn}
use Rattle.wdt_sender_fsm.specs.PlainSender as sender
use Rattle.wdt_sender_fsm.specs.SenderHistory as sent
use Rattle.wdt_receiver_fsm.specs.PlainReceiver as recv
use Rattle.wdt_receiver_fsm.specs.ReceiverHistory as received
use Rattle.wdt_pact.specs.World.{first_pair}
use Rattle.wdt_pact.specs.Lists.{Splits-none}
use Rattle.wdt_pact.specs.Conversation.{Converses, Common}

pub opens_here : (g : Common) (l : ℕ) (c : Conn) → g.finish ≡ false → Converses g l record { lane = sender.new_lane; past = sent.no_past; kept = [] } record { lane = recv.new_lane; past = received.no_past; landed = []; begun = None } (first_pair c)
opens_here g l c unfinished =
    record {
      agrees = record { on_taken = (refl, refl); waiting = tt; on_newest = tt };
      lists = (([], Splits-none), refl);
      sure = omega arith;
      upward = tt;
      fits = tt;
      notes = tt;
      closed = λ e. cc;
      asked = tt;
      finished = λ e. cc;
      pieces = tt;
      waits = record { fresh = tt; fresh_newest = tt; order = λ e. refl };
      idle = λ e. cc;
      shut = λ e. cc;
      heard_up = tt;
      heard_down = tt;
    }
