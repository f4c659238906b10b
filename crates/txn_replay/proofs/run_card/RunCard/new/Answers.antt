use Rattle.std.proofs.Common.{ℕ, ◌≤◌, List, length, map, Some, Vec, Global, refl, sym, ap, ◌∙◌, subst}
use Rattle.std.specs.List.{All}
use Rattle.scenario_plan.specs.Cards.{IsKind}
use Rattle.scenario_plan.specs.SeenCards.{image_of, canned_of, seen_card}
use Rattle.scenario_plan.specs.declared.plan.CardKind.{CardKind}
use Rattle.txn_replay.proofs.run_card.RunCard.new.Goals as goal

pub invariant_of-result : goal.invariant_of-result
unfolding seen_card
invariant_of-result g c =
    let kind : IsKind (image_of c.args.card.now.kind) (canned_of c.args.card.now.kind) = c.requires.kind in
    subst (λ (xs : List (Vec ℕ Global)). All (λ (answer : List ℕ). length answer ≤ 258) (map (λ answer. answer.items) xs)) (sym c.as_slice.ensures.value)
    (subst (λ (k : CardKind). IsKind (image_of k) (canned_of k)) c.in-Canned.is kind).1.short

pub returns-in-App : goal.returns-in-App
unfolding seen_card
returns-in-App g c = record {
  new = record {
    off = c.new.ensures.off;
    is = (ap canned_of c.in-App.is, c.new.ensures.image ∙ ap image_of (sym c.in-App.is));
    losses = c.new.ensures.losses ∙ c.requires.blank.losses;
  };
}

pub returns-in-Canned : goal.returns-in-Canned
unfolding seen_card
returns-in-Canned g c = record {
  new = record {
    off = refl;
    is = (
      ap canned_of c.in-Canned.is ∙ ap (λ (xs : List (Vec ℕ Global)). Some (map (λ answer. answer.items) xs)) (sym c.as_slice.ensures.value),
      c.requires.blank,
    );
    losses = tt;
  };
}
