use Rattle.std.proofs.Common.{◌≡◌, ◌+◌, List, [], ◌∷◌, ◌++◌, length, map, get_or, slice_get, Some, sym, ap, ◌∙◌, subst, arith}
use Rattle.std.specs.List.{All}
use Rattle.std.proofs.lemmas.Option.{slice_get_within, get_or_from_slice_get}
use Rattle.emv_ports.specs.Memory.{IsBlank}
use Rattle.scenario_plan.specs.Cards.{IsKind, CardData}
use Rattle.scenario_plan.specs.SeenCards.{seen_card, seen_cards}
use Rattle.txn_replay.specs.Banked.{AreNew}
use Rattle.txn_replay.specs.RunCard.{RunCardSeen}
use Rattle.txn_replay.proofs.PageLaws.CardPagesBack.{one_new, first_blank, rest_blank, rest_drop}
use Rattle.txn_replay.proofs.AuditLaws.AuditNumbers.{seen_at}
use Rattle.txn_replay.proofs.Lists.{found_at}
use Rattle.txn_replay.proofs.bank.take_pages.Goals as goal

pub new-requires-clause-kind : goal.new-requires-clause-kind
new-requires-clause-kind g c =
    let here : slice_get (seen_cards c.args.cards.now) c.loop-card.card-index ≡ Some (seen_card c.card-item.result) =
    seen_at c.args.cards.now c.loop-card.card-index c.card-item.result
    (found_at c.args.cards.now c.loop-card.card-index c.card-item.result c.loop-card-test.true c.card-item.is) in
    let rules : IsKind (get_or (seen_cards c.args.cards.now) c.loop-card.card-index (seen_card c.card-item.result)).image
    (get_or (seen_cards c.args.cards.now) c.loop-card.card-index (seen_card c.card-item.result)).canned =
    c.loop-card.invariant.kinds c.loop-card.card-index (seen_card c.card-item.result)
    (slice_get_within (seen_cards c.args.cards.now) c.loop-card.card-index (seen_card c.card-item.result) here) in
    subst (λ (card : CardData). IsKind card.image card.canned)
    (get_or_from_slice_get (seen_cards c.args.cards.now) c.loop-card.card-index (seen_card c.card-item.result) (seen_card c.card-item.result) here) rules

pub new-requires-clause-blank : goal.new-requires-clause-blank
new-requires-clause-blank g c =
    first_blank g.P.Pages.memory c.loop-card.bank.items c.remove-pages.result (omega (arith, c.loop-card.bank.ok.0, c.remove-pages.ensures.len)) c.remove-pages.ensures.value
    c.loop-card.invariant.blank

pub loop-card-preserved : goal.loop-card-preserved
loop-card-preserved g c =
    let here : slice_get (seen_cards c.args.cards.now) (length c.loop-card.run_cards.items) ≡ Some (seen_card c.card-item.result) =
    ap (λ n. slice_get (seen_cards c.args.cards.now) n) (sym c.loop-card.run_cards.ok.0 ∙ c.loop-card.invariant.count)
    ∙ seen_at c.args.cards.now c.loop-card.card-index c.card-item.result
    (found_at c.args.cards.now c.loop-card.card-index c.card-item.result c.loop-card-test.true c.card-item.is) in
    let more : c.push.new.self.items ≡ c.loop-card.run_cards.items ++ c.new.result ∷ [] = c.in-Ok.ensures.items in
    record {
      new = subst (λ (run_cards : List RunCardSeen). AreNew (seen_cards c.args.cards.now) run_cards) (sym more)
          (one_new (seen_cards c.args.cards.now) c.loop-card.run_cards.items (seen_card c.card-item.result) c.new.result c.loop-card.invariant.new here c.new.ensures.new);
      count = c.in-Ok.ensures.len ∙ ap (λ n. n + 1) c.loop-card.invariant.count;
      fits = omega (arith, c.loop-card.invariant.fits, c.push.ensures.capacity);
      spare =
          ap (λ (xs : List g.row.P.Denot). map g.P.Pages.memory xs) c.remove-pages.ensures.items
          ∙ rest_drop g.P.Pages.memory c.loop-card.bank.items c.loop-card.card-index (map g.P.Pages.memory c.args.bank.now.items) c.loop-card.invariant.spare;
      place = omega (arith, c.remove-pages.ensures.len, c.loop-card.invariant.place);
      pages = c.loop-card.invariant.pages;
      capacity = c.remove-pages.ensures.capacity ∙ c.loop-card.invariant.capacity;
      kinds = c.loop-card.invariant.kinds;
      blank = subst (λ (xs : List g.row.P.Denot). All IsBlank (map g.P.Pages.memory xs)) (sym c.remove-pages.ensures.items)
          (rest_blank g.P.Pages.memory c.loop-card.bank.items c.loop-card.invariant.blank);
    }
