-- When pages stand for a state, whatever their unsure cells give.
use Rattle.std.specs.Prelude.{◌≡◌, ℕ, ◌%◌, ◌<◌, List, [], ◌∷◌, Option, Some, None, ⊤, Contains, slice_index, slice_index_or}
use Rattle.emv_ports.specs.PageReading.{Reading}

-- the lowest bit of the first byte of page 0
abbrev pub lowest : List (List ℕ) → ℕ
lowest bytes = slice_index (slice_index_or bytes 0 []) 0 % 2

-- the first cell of page 0
abbrev pub first_cell : List (List (Option ℕ)) → Option ℕ
first_cell cells = slice_index_or (slice_index_or cells 0 []) 0 None

-- sure of 00, sure of 01, or unsure
abbrev pub IsBit : Option ℕ → Type 0
IsBit (Some byte) = byte < 2
IsBit None = ⊤

module _ {State : Type 0} (recover : List (List ℕ) → Option State) where
  -- only the lowest bit of the first byte chooses between states
  pub record Laid (cells : List (List (Option ℕ))) : Type 0 where
    pub bit : IsBit (first_cell cells)
    pub same : (one other : List (List ℕ)) → Reading cells one → Reading cells other → lowest one ≡ lowest other → recover one ≡ recover other

  -- every reading recovers to the state
  pub record Holds (cells : List (List (Option ℕ))) (state : State) : Type 0 where
    pub laid : Laid cells
    pub each : (bytes : List (List ℕ)) → Reading cells bytes → recover bytes ≡ Some state

  -- every reading recovers to one of the states
  pub record Among (cells : List (List (Option ℕ))) (states : List State) : Type 0 where
    pub laid : Laid cells
    pub each : (bytes : List (List ℕ)) → Reading cells bytes → (state : State) × Contains states state × (recover bytes ≡ Some state)

  -- every reading recovers to one of two states
  abbrev pub Between : List (List (Option ℕ)) → State → State → Type 0
  Between cells before after = Among cells (before ∷ after ∷ [])
