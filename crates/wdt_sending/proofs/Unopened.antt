-- What is left of a sending end that there was no memory to open.
use Rattle.std.proofs.Common.{◌≡◌, inl, ℕ, true, false, List, [], Option, Some, None, IfSome, All, refl, sym, ap, ◌∙◌, subst}
use Rattle.wdt_units.specs.LaneSets.{no_lanes}
use Rattle.wdt_units.specs.Tree.{File}
use Rattle.wdt_tree.specs.Told.{ToldRun}
use Rattle.wdt_sender_fsm.specs.declared.events.SendEvent.{SendEvent}
use Rattle.wdt_sender_fsm.specs.Legal.{IsLegal-none}
use Rattle.wdt_yard.specs.Turns.{IsLegalOfSome}
use Rattle.wdt_lanes.specs.Kept.{Begun}
use Rattle.wdt_tool.specs.declared.status.Status.TheVariants.{NoMemory}
use Rattle.wdt_sending.specs.Judging.{has_some}
use Rattle.wdt_sending.specs.Sending.{SenderLeaves}
use Rattle.wdt_sending.proofs.Meeting.{none_met}

-- a source that isn't asked is asked for nothing that it doesn't have
unasked : (run : Option ToldRun) (n : ℕ) → IfSome run (λ r. n ≡ n)
unasked None n = tt
unasked (Some r) n = refl

-- no lane met a thing
nothing_met : {A : Type 0} → has_some no_lanes ≡ true → A
nothing_met is = absurd (not_both (sym none_met ∙ is)) where
  not_both : false ≡ true → ⊥
  not_both e = cc

-- a history in which nothing happened is legal
none_legal : (h : List SendEvent) → h ≡ [] → IsLegalOfSome h
none_legal h is = let none : IsLegalOfSome [] = record { lanes = 0; planned = []; legal = IsLegal-none 0 [] } in subst IsLegalOfSome (sym is) none

-- sources and dialers come back as they were
pub unopened : {S C : Type 0} (told : S → Option (List File)) (source_faults source_slips : S → ℕ) (faults alarms out mark : C → ℕ) (run : Option ToldRun) (begun : Begun)
    (sources : List S) (dialers : List C) (h : List SendEvent) → h ≡ [] → All (λ dialer. out dialer ≡ 0) dialers
    → SenderLeaves told source_faults source_slips faults alarms out mark run begun sources sources dialers dialers h NoMemory
unopened told source_faults source_slips faults alarms out mark run begun sources dialers h is home =
    record {
      sources_back = record { same = refl; at = λ lane d within. record { tree = refl; within = unasked run _ } };
      dialers_back = record { same = refl; at = λ lane d within. record { none_out = home lane d within; marked = refl } };
      legal = none_legal h is;
      lost = no_lanes;
      cut = no_lanes;
      alarmed = no_lanes;
      ended = inl (refl, is);
      lost_by = nothing_met;
      cut_by = nothing_met;
      alarmed_by = nothing_met;
    }
