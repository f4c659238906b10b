-- How messages that wait grow by one.
use Rattle.std.proofs.Common.{◌≡◌, ℕ, ◌+◌, ◌-◌, ◌≤◌, List, [], ◌∷◌, ◌++◌, length, take, drop, arith, ap, ◌∙◌, length-append, length-drop}
use Rattle.std.specs.List.{AllByRecursion}
use Rattle.std.proofs.lemmas.List.{take_all, take-append-le, drop-append-le}
use Rattle.std.proofs.Math.Seq.{drop-append_seam}
use Rattle.capture_store.specs.Waits.{IsPlaceIn, message_at, messages_at}
use Rattle.capture_store.specs.declared.waiting.MessagePlace.{MessagePlace}

-- what stands within the bytes stays
message_at-append : (bytes more : List ℕ) (place : MessagePlace) → IsPlaceIn bytes place → message_at (bytes ++ more) place ≡ message_at bytes place
message_at-append bytes more place in_it =
    let start : place.start ≤ length bytes = omega (arith, in_it.ordered, in_it.within) in
    ap (λ (xs : List ℕ). take (place.end - place.start) xs) (drop-append-le place.start bytes more start)
    ∙ take-append-le (place.end - place.start) (drop place.start bytes) more (omega (arith, in_it.within, length-drop place.start bytes))

-- and what is added stands behind it
message_at-new : (bytes more : List ℕ) (place : MessagePlace) → place.start ≡ length bytes → place.end ≡ length bytes + length more → message_at (bytes ++ more) place ≡ more
message_at-new bytes more place start end =
    ap (λ n. take (place.end - place.start) (drop n (bytes ++ more))) start
    ∙ ap (λ (xs : List ℕ). take (place.end - place.start) xs) (drop-append_seam bytes more)
    ∙ take_all (place.end - place.start) more (omega (arith, start, end))

pub messages_at-push : (bytes more : List ℕ) (places : List MessagePlace) (place : MessagePlace) → AllByRecursion (IsPlaceIn bytes) places
    → place.start ≡ length bytes → place.end ≡ length bytes + length more
    → messages_at (places ++ place ∷ []) (bytes ++ more) ≡ messages_at places bytes ++ more ∷ []
messages_at-push bytes more [] place all start end = ap (λ (message : List ℕ). message ∷ []) (message_at-new bytes more place start end)
messages_at-push bytes more (first ∷ places) place all start end =
    (λ i. message_at-append bytes more first all.0 i ∷ messages_at-push bytes more places place all.1 start end i)

pub places-push : (bytes more : List ℕ) (places : List MessagePlace) (place : MessagePlace) → AllByRecursion (IsPlaceIn bytes) places
    → place.start ≡ length bytes → place.end ≡ length bytes + length more → length more ≤ 2048
    → AllByRecursion (IsPlaceIn (bytes ++ more)) (places ++ place ∷ [])
places-push bytes more [] place all start end short = (
  record {
    ordered = omega (arith, start, end);
    within = omega (arith, end, length-append bytes more);
    short = omega (arith, start, end, short);
  },
  tt,
)
places-push bytes more (first ∷ places) place all start end short = (
  record { ordered = all.0.ordered; within = omega (arith, all.0.within, length-append bytes more); short = all.0.short },
  places-push bytes more places place all.1 start end short,
)
