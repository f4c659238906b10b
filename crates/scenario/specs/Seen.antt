-- What a card answers by, as its reader sees it.
use Rattle.scenario.specs.Cards.{KindData}
use Rattle.scenario_plan.specs.SeenCards.{canned_of, image_of}
use Rattle.scenario_plan.specs.declared.plan.CardKind.{CardKind}

abbrev pub seen_kind : CardKind → KindData
seen_kind kind = record { image = image_of kind; canned = canned_of kind }
