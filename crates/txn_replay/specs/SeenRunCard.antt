-- How a card in its place is seen.
use Rattle.txn_replay.specs.RunCard.{RunCardSeen, OfApps, OfCanned}
use Rattle.txn_replay.specs.declared.run_card.RunCardKind.{RunCardKind}
use Rattle.txn_replay.specs.declared.run_card.RunCardKind.TheVariants.{App, Canned}

abbrev pub seen_run_card : {P : Type 0} → RunCardKind P → RunCardSeen
seen_run_card (App icc) = OfApps icc
seen_run_card (Canned canned) = OfCanned canned
