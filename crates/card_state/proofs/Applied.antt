-- One application's state put in its place among those of the card.
use Rattle.std.proofs.Common.{◌≡◌, ℕ, List, length, drop, set, get_or, slice_get, Some, ◌∙◌, ap}
use Rattle.std.specs.List.{refill}
use Rattle.std.proofs.lemmas.List.{take_at, length-set}
use Rattle.std.proofs.lemmas.Option.{get_or_from_slice_get}
use Rattle.card_state.specs.declared.state.AppState.{AppState}
use Rattle.card_state.specs.declared.decision.Decision.{Decision}
use Rattle.card_state.specs.Change.{changed}

-- a slice as long as the vector replaces its elements
pub refill_whole : {X : Type 0} (xs ws : List X) → length ws ≡ length xs → refill (length xs) xs ws ≡ ws
refill_whole xs ws same = take_at ws (drop (length ws) xs) (length xs) same

pub changed_at : (apps read lent : List AppState) (app index : ℕ) (d : Decision) (s new value : AppState)
    → index ≡ app → read ≡ apps → lent ≡ apps → value ≡ get_or read index value → new ≡ changed value d → slice_get apps app ≡ Some s
    → refill (length apps) apps (set lent index new) ≡ set apps app (changed s d)
changed_at apps read lent app index d s new value here is_read is_lent is_value is_new found =
    let place : set lent index new ≡ set apps app new =
    ap (λ (xs : List AppState). set xs index new) is_lent ∙ ap (λ (i : ℕ). set apps i new) here in
    let old : value ≡ s =
    is_value ∙ ap (λ (xs : List AppState). get_or xs index value) is_read ∙ ap (λ (i : ℕ). get_or apps i value) here
    ∙ get_or_from_slice_get apps app s value found in
    ap (λ (ws : List AppState). refill (length apps) apps ws) place
    ∙ refill_whole apps (set apps app new) (length-set apps app new)
    ∙ ap (λ (x : AppState). set apps app x) (is_new ∙ ap (λ (x : AppState). changed x d) old)
