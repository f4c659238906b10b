-- What a store sends, and that it sends each capture once where no call is cut.
use Rattle.std.proofs.Common.{◌≡◌, ℕ, Bool, List, [], ◌∷◌, ◌++◌, map, drop, Option, None, refl, ap, sym, subst, ◌∙◌, append_assoc}
use Rattle.std.proofs.lemmas.List.{map-append}
use Rattle.capture_store.proofs.Sendings.{store_keeps}
use Rattle.capture_store.specs.Calls.{Call, Adds, Drops, list_found}
use Rattle.capture_store.specs.Sending.{Caught, RowKeeps, caught_by}
use Rattle.capture_store.specs.StoreRow.{StoreRow, new_store, store_opened, call_under_plan}
use Rattle.emv_ports.specs.declared.tear.Tear.{Tear}

abbrev pub messages_of : List Caught → List (List ℕ)
messages_of caught = map (λ c. c.message) caught

-- no call is lost, and what was caught is what was sent and what is left
abbrev IsExact : List Caught → List (List ℕ) → StoreRow → Type 0
IsExact caught sent row = (row.lost ≡ None) × (messages_of caught ≡ sent ++ row.list)

-- what is sent, and exactly so where nothing is cut
abbrev pub Keeps : Type 0 → List Caught → List (List ℕ) → StoreRow → Type 0
Keeps Calm caught sent row = RowKeeps caught sent row × (Calm → IsExact caught sent row)

pub keeps_begun : (Calm : Type 0) → Keeps Calm [] [] new_store
keeps_begun Calm = (store_keeps.begins, λ calm. (refl, refl))

pub keeps_opened : (Calm : Type 0) (caught : List Caught) (sent : List (List ℕ)) (row : StoreRow) (found : Bool) → Keeps Calm caught sent row → Keeps Calm caught sent (store_opened row found)
keeps_opened Calm caught sent row found keeps = (
  store_keeps.opens caught sent row found keeps.0,
  λ calm. (refl, (keeps.1 calm).1 ∙ ap (λ (lost : Option Call). sent ++ list_found row.list lost found) (sym (keeps.1 calm).0)),
)

pub keeps_added : (Calm : Type 0) (caught : List Caught) (sent : List (List ℕ)) (row : StoreRow) (plan : Option Tear) (message : List ℕ) → (Calm → plan ≡ None) → row.lost ≡ None → Keeps Calm caught sent row
    → Keeps Calm (caught ++ caught_by plan row message ∷ []) sent (call_under_plan plan row (Adds message))
keeps_added Calm caught sent row plan message uncut is keeps = (
  store_keeps.adds caught sent row plan message is keeps.0,
  λ calm. subst (λ (tear : Option Tear). IsExact (caught ++ caught_by tear row message ∷ []) sent (call_under_plan tear row (Adds message))) (sym (uncut calm)) (added (keeps.1 calm)),
)
  where
    added : IsExact caught sent row → IsExact (caught ++ caught_by None row message ∷ []) sent (call_under_plan None row (Adds message))
    added exact = (
      exact.0,
      map-append (λ (c : Caught). c.message) caught (caught_by None row message ∷ [])
          ∙ ap (λ (xs : List (List ℕ)). xs ++ message ∷ []) exact.1 ∙ append_assoc sent row.list (message ∷ []),
    )

pub keeps_dropped : (Calm : Type 0) (caught : List Caught) (sent : List (List ℕ)) (row : StoreRow) (plan : Option Tear) (message : List ℕ) (others : List (List ℕ)) → (Calm → plan ≡ None) → row.lost ≡ None
    → row.list ≡ message ∷ others → Keeps Calm caught sent row → Keeps Calm caught (sent ++ message ∷ []) (call_under_plan plan row Drops)
keeps_dropped Calm caught sent row plan message others uncut is list keeps = (
  store_keeps.drops caught sent row plan message others is list keeps.0,
  λ calm. subst (λ (tear : Option Tear). IsExact caught (sent ++ message ∷ []) (call_under_plan tear row Drops)) (sym (uncut calm)) (dropped (keeps.1 calm)),
)
  where
    dropped : IsExact caught sent row → IsExact caught (sent ++ message ∷ []) (call_under_plan None row Drops)
    dropped exact = (
      exact.0,
      exact.1 ∙ ap (λ (xs : List (List ℕ)). sent ++ xs) list ∙ sym (append_assoc sent (message ∷ []) others)
          ∙ ap (λ (xs : List (List ℕ)). (sent ++ message ∷ []) ++ drop 1 xs) (sym list),
    )
