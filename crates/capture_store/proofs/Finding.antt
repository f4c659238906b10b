-- What an opening finds, and what the pages stand for where it is cut.
use Rattle.std.proofs.Common.{◌≡◌, ◌⊎◌, ℕ, Bool, true, false, List, [], ◌∷◌, Option, Some, None, sym, subst, inl, inr}
use Rattle.emv_ports.specs.Memory.{Memory}
use Rattle.torn_store.specs.Layout.{recover}
use Rattle.torn_store.specs.Placed.{OpensStore}
use Rattle.torn_store.specs.Recovery.{Holds}
use Rattle.torn_store.specs.Store.{Stored}
use Rattle.torn_store.proofs.Outcomes.{has_first}
use Rattle.torn_store.proofs.Stored.{alike, holds_among}
use Rattle.capture_store.specs.Calls.{Call, list_found}
use Rattle.capture_store.specs.ListPages.{StandsForList, MayStandForList, StandForOneOf}
use Rattle.emv_ports.specs.Cell.{Cells}
use Rattle.capture_store.specs.SeenCaptureList.{OpensList}
use Rattle.capture_store.specs.Spelling.{IsState, state_of_list, list_of_state}
use Rattle.capture_store.proofs.Entries.{is_state, same_list}

-- pages that hold the state of a list stand for the list
pub holds_list : (cells : Cells) (state : List ℕ) → IsState state → Holds recover cells state → StandsForList cells (list_of_state state)
holds_list cells state is holds = record {
  fits = is.is_list;
  holds = subst (λ (s : List ℕ). Holds recover cells s) is.spelled holds;
}

module _ (before after : List (List ℕ)) where
  -- the state of one of two lists
  pub one_state : (cells : Cells) (state : List ℕ) → StandForOneOf cells before after → (state ≡ state_of_list before) ⊎ (state ≡ state_of_list after) → IsState state
  one_state cells state stands (inl is) = subst IsState (sym is) (is_state before stands.fits)
  one_state cells state stands (inr is) = subst IsState (sym is) (is_state after stands.fits_after)

  pub one_list : (state : List ℕ) → (state ≡ state_of_list before) ⊎ (state ≡ state_of_list after) → (list_of_state state ≡ before) ⊎ (list_of_state state ≡ after)
  one_list state (inl is) = inl (same_list state before is)
  one_list state (inr is) = inr (same_list state after is)

-- pages that were opened with the state of a list
pub opens_list : (old : Memory) (new : Stored) → OpensStore old new → IsState new.state → OpensList old (record { memory = new.memory; list = list_of_state new.state })
opens_list old new opens is = record {
  on = opens.on;
  fits = is.is_list;
  spared = opens.spared;
  commit = opens.commit;
  plan = opens.plan;
  losses = opens.losses;
}

-- a list, with the lost call or without it
module _ (list : List (List ℕ)) where
  pub may_one : (cells : Cells) (lost : Option Call) → MayStandForList cells list lost → StandForOneOf cells list (list_found list lost true)
  may_one cells None may = record {
    fits = may.fits;
    fits_after = may.fits;
    between = holds_among cells (state_of_list list) (state_of_list list ∷ state_of_list list ∷ []) may.holds (has_first (state_of_list list) (state_of_list list));
  }
  may_one cells (Some call) may = record { fits = may.fits; fits_after = may.fits_called; between = may.between }

  pub one_may : (cells : Cells) (lost : Option Call) → StandForOneOf cells list (list_found list lost true) → MayStandForList cells list lost
  one_may cells None one = record { fits = one.fits; holds = alike cells (state_of_list list) one.between }
  one_may cells (Some call) one = record { fits = one.fits; fits_called = one.fits_after; between = one.between }

  pub found_one : (lost : Option Call) (new : List (List ℕ)) → (new ≡ list) ⊎ (new ≡ list_found list lost true) → (found : Bool) × (new ≡ list_found list lost found)
  found_one None new (inl is) = (false, is)
  found_one None new (inr is) = (false, is)
  found_one (Some call) new (inl is) = (false, is)
  found_one (Some call) new (inr is) = (true, is)
