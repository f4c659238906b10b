use Rattle.std.proofs.Common.{◌≡◌, ◌≤◌, ◌+◌, ◌-◌, map, drop, take, length}
use Rattle.std.specs.Vec.{vec_len, vec_capacity}
use Rattle.txn_replay.specs.Banked.{AreGiven}
use Rattle.txn_replay.proofs.bank.give_pages.Given as goal

abbrev pub decreases-loop-run_card : goal.decreases-loop-run_card
decreases-loop-run_card g l = vec_len l.run_cards

abbrev pub invariant-loop-run_card : goal.invariant-loop-run_card
invariant-loop-run_card g l = record {
  rest : l.run_cards.items ≡ take (vec_len l.run_cards) l.fn.run_cards.items;
  within : vec_len l.run_cards ≤ length l.fn.run_cards.items;
  place : vec_len l.run_cards + vec_len l.bank ≤ vec_capacity l.bank;
  given : AreGiven l.fn.run_cards.items (vec_len l.run_cards) (map g.P.Pages.memory l.bank.items);
  spare : drop (length l.fn.run_cards.items - vec_len l.run_cards) (map g.P.Pages.memory l.bank.items) ≡ map g.P.Pages.memory l.fn.spare.items;
  capacity : vec_capacity l.fn.spare ≤ vec_capacity l.bank;
  count : vec_len l.bank ≡ length l.fn.run_cards.items - vec_len l.run_cards + vec_len l.fn.spare;
}
