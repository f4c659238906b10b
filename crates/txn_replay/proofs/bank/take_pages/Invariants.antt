use Rattle.std.proofs.Common.{◌≡◌, ◌≤◌, ◌+◌, map, drop, length}
use Rattle.std.specs.List.{All}
use Rattle.std.specs.Vec.{vec_len, vec_capacity}
use Rattle.emv_ports.specs.Memory.{IsBlank}
use Rattle.scenario_plan.specs.Cards.{IsKind}
use Rattle.scenario_plan.specs.SeenCards.{seen_cards}
use Rattle.txn_replay.specs.Banked.{AreNew}
use Rattle.txn_replay.proofs.bank.take_pages.Given as goal

abbrev pub invariant-loop-card : goal.invariant-loop-card
invariant-loop-card g l = record {
  new : AreNew (seen_cards l.cards) l.run_cards.items;
  count : vec_len l.run_cards ≡ l.card-index;
  fits : length l.cards ≤ vec_capacity l.run_cards;
  spare : map g.P.Pages.memory l.bank.items ≡ drop l.card-index (map g.P.Pages.memory l.fn.bank.items);
  place : vec_len l.bank + l.card-index ≡ vec_len l.fn.bank;
  pages : length l.cards ≤ vec_len l.fn.bank;
  capacity : vec_capacity l.bank ≡ vec_capacity l.fn.bank;
  kinds : All (λ card. IsKind card.image card.canned) (seen_cards l.cards);
  blank : All IsBlank (map g.P.Pages.memory l.bank.items);
}
