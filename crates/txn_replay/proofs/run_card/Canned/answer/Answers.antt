use Rattle.std.proofs.Common.{◌≡◌, ℕ, ◌+◌, ◌≤◌, List, ◌++◌, length, map, slice_get, Some, Vec, Global, sym, ap, ◌∙◌, subst, arith}
use Rattle.std.specs.Prelude.{option_map}
use Rattle.std.proofs.lemmas.Option.{same_Some, slice_get-map, slice_get_within, get_or_from_slice_get}
use Rattle.txn_replay.specs.RunCard.{CannedSeen}
use Rattle.txn_replay.proofs.Lists.{found_at, is_within}
use Rattle.txn_replay.proofs.run_card.Canned.answer.Goals as goal

pub append-requires : goal.append-requires
append-requires g c =
    let answers : List (List ℕ) = map (λ (answer : Vec ℕ Global). answer.items) c.self.inside.answers.now in
    let here : slice_get answers c.in-Some.told ≡ Some c.in-Some-get.answer.now.items =
    slice_get-map (λ (answer : Vec ℕ Global). answer.items) c.self.inside.answers.now c.in-Some.told
    ∙ ap (option_map (λ (answer : Vec ℕ Global). answer.items))
    (found_at c.self.inside.answers.now c.in-Some.told c.in-Some-get.answer.now (is_within _ _ c.in-Some-get.ensures.lookup.0) c.in-Some-get.ensures.lookup.1) in
    let short : length c.in-Some-get.answer.now.items ≤ 258 =
    subst (λ (xs : List ℕ). length xs ≤ 258) (get_or_from_slice_get answers c.in-Some.told c.in-Some-get.answer.now.items c.in-Some-get.answer.now.items here)
    (c.self.invariant c.in-Some.told c.in-Some-get.answer.now.items (slice_get_within answers c.in-Some.told c.in-Some-get.answer.now.items here)) in
    let same : length c.as_slice.result.now ≡ length c.in-Some-get.answer.now.items = ap (λ (xs : List ℕ). length xs) c.as_slice.ensures.value in
    let none : length c.args.out.now.items ≡ 0 = ap (λ (xs : List ℕ). length xs) c.requires.empty in
    let fits : length c.args.out.now.items + length c.as_slice.result.now ≤ 258 = omega (arith, short, same, none) in
    (omega arith, fits)

pub returns-clause-said : goal.returns-clause-said
returns-clause-said g c = λ told is.
    let answers : List (List ℕ) = map (λ (answer : Vec ℕ Global). answer.items) c.self.inside.answers.now in
    let here : slice_get answers c.in-Some.told ≡ Some c.in-Some-get.answer.now.items =
    slice_get-map (λ (answer : Vec ℕ Global). answer.items) c.self.inside.answers.now c.in-Some.told
    ∙ ap (option_map (λ (answer : Vec ℕ Global). answer.items))
    (found_at c.self.inside.answers.now c.in-Some.told c.in-Some-get.answer.now (is_within _ _ c.in-Some-get.ensures.lookup.0) c.in-Some-get.ensures.lookup.1) in
    let own : c.self.inside.told ≡ Some c.in-Some.told = sym c.take.ensures.value ∙ c.in-Some.is in
    let same : c.in-Some.told ≡ told = same_Some c.in-Some.told told (sym own ∙ ap (λ (s : CannedSeen). s.told) c.self.view_is ∙ is) in
    let out : c.append.new.out.items ≡ c.in-Some-get.answer.now.items =
    c.append.ensures.items ∙ ap (λ (xs : List ℕ). xs ++ c.as_slice.result.now) c.requires.empty ∙ c.as_slice.ensures.value in
    ap (λ (s : CannedSeen). slice_get s.answers told) (sym c.self.view_is)
    ∙ ap (λ n. slice_get answers n) (sym same)
    ∙ here
    ∙ ap (λ (xs : List ℕ). Some xs) (sym out)
