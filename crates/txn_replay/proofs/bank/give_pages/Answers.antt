use Rattle.std.proofs.Common.{◌≡◌, suc, ◌+◌, ◌-◌, List, ◌∷◌, length, map, drop, take, get_or, slice_get, Some, sym, ap, ◌∙◌, subst, arith}
use Rattle.std.proofs.Math.Seq.{take-length}
use Rattle.std.proofs.lemmas.List.{get_or-take}
use Rattle.std.proofs.lemmas.Option.{same_Some}
use Rattle.std.specs.Vec.{vec_len}
use Rattle.emv_ports.specs.Memory.{Memory}
use Rattle.txn_replay.specs.Banked.{AreGiven}
use Rattle.txn_replay.specs.RunCard.{RunCardSeen}
use Rattle.txn_replay.proofs.PageLaws.CardPagesBack.{one_given, none_given, take_less}
use Rattle.txn_replay.proofs.Lists.{found_at}
use Rattle.txn_replay.proofs.bank.give_pages.Goals as goal

pub loop-run_card-init : goal.loop-run_card-init
loop-run_card-init g c = record {
  rest = sym (ap (λ n. take n c.args.run_cards.items) c.args.run_cards.ok.0 ∙ take-length c.args.run_cards.items);
  within = omega (arith, c.args.run_cards.ok.0);
  place = c.requires.place;
  given = subst (λ n. AreGiven c.args.run_cards.items n (map g.P.Pages.memory c.args.spare.items)) (sym c.args.run_cards.ok.0)
      (none_given c.args.run_cards.items (map g.P.Pages.memory c.args.spare.items));
  spare = ap (λ n. drop n (map g.P.Pages.memory c.args.spare.items)) (let none : length c.args.run_cards.items - vec_len c.args.run_cards ≡ 0 = omega (arith, c.args.run_cards.ok.0) in none);
  capacity = omega arith;
  count = omega (arith, c.args.run_cards.ok.0);
}

pub loop-run_card-preserved : goal.loop-run_card-preserved
loop-run_card-preserved g c =
    let left : vec_len c.pop.new.self + 1 ≡ vec_len c.loop-run_card.run_cards = c.in-Some.ensures.len in
    let last : vec_len c.loop-run_card.run_cards - 1 ≡ vec_len c.pop.new.self = omega (arith, left) in
    let run_card : c.in-Some.run_card ≡ get_or c.args.run_cards.items (vec_len c.pop.new.self) c.in-Some.run_card =
    same_Some c.in-Some.run_card (get_or c.loop-run_card.run_cards.items (vec_len c.loop-run_card.run_cards - 1) c.in-Some.run_card) (c.in-Some.ensures.value c.in-Some.run_card (omega (arith, left)))
    ∙ ap (λ (xs : List RunCardSeen). get_or xs (vec_len c.loop-run_card.run_cards - 1) c.in-Some.run_card) c.loop-run_card.invariant.rest
    ∙ get_or-take (vec_len c.loop-run_card.run_cards) c.args.run_cards.items (vec_len c.loop-run_card.run_cards - 1) c.in-Some.run_card (omega (arith, left))
    ∙ ap (λ n. get_or c.args.run_cards.items n c.in-Some.run_card) last in
    let here : slice_get c.args.run_cards.items (vec_len c.pop.new.self) ≡ Some c.in-Some.run_card =
    found_at c.args.run_cards.items (vec_len c.pop.new.self) c.in-Some.run_card (omega (arith, left, c.loop-run_card.invariant.within)) run_card in
    let bank : map g.P.Pages.memory c.insert.new.self.items ≡ g.P.Pages.memory c.into_pages.result ∷ map g.P.Pages.memory c.loop-run_card.bank.items =
    ap (λ (xs : List g.row.P.Denot). map g.P.Pages.memory xs) c.in-Ok.ensures.items in
    record {
      rest =
          c.in-Some.ensures.rest
          ∙ ap (λ (xs : List RunCardSeen). take (vec_len c.loop-run_card.run_cards - 1) xs) c.loop-run_card.invariant.rest
          ∙ take_less (vec_len c.loop-run_card.run_cards - 1) (vec_len c.loop-run_card.run_cards) c.args.run_cards.items (omega arith)
          ∙ ap (λ n. take n c.args.run_cards.items) last;
      within = omega (arith, left, c.loop-run_card.invariant.within);
      place = omega (arith, left, c.loop-run_card.invariant.place, c.in-Ok.ensures.len, c.insert.ensures.capacity);
      given = subst (λ (ms : List Memory). AreGiven c.args.run_cards.items (vec_len c.pop.new.self) ms) (sym bank)
          (one_given c.args.run_cards.items (vec_len c.pop.new.self) (map g.P.Pages.memory c.loop-run_card.bank.items) c.in-Some.run_card
          (g.P.Pages.memory c.into_pages.result) here c.into_pages.ensures.left
          (subst (λ n. AreGiven c.args.run_cards.items n (map g.P.Pages.memory c.loop-run_card.bank.items)) (sym left) c.loop-run_card.invariant.given));
      spare =
          ap (λ (ms : List Memory). drop (length c.args.run_cards.items - vec_len c.pop.new.self) ms) bank
          ∙ ap (λ n. drop n (g.P.Pages.memory c.into_pages.result ∷ map g.P.Pages.memory c.loop-run_card.bank.items))
          (let more : length c.args.run_cards.items - vec_len c.pop.new.self ≡ suc (length c.args.run_cards.items - vec_len c.loop-run_card.run_cards) =
          omega (arith, left, c.loop-run_card.invariant.within) in more)
          ∙ c.loop-run_card.invariant.spare;
      capacity = omega (arith, c.loop-run_card.invariant.capacity, c.insert.ensures.capacity);
      count = omega (arith, left, c.loop-run_card.invariant.within, c.loop-run_card.invariant.count, c.in-Ok.ensures.len);
    }

pub returns-clause-given : goal.returns-clause-given
returns-clause-given g c =
    subst (λ n. AreGiven c.args.run_cards.items n (map g.P.Pages.memory c.loop-run_card.bank.items)) c.in_default.ensures.cases.0 c.loop-run_card.invariant.given

pub returns-clause-spare : goal.returns-clause-spare
returns-clause-spare g c =
    ap (λ n. drop n (map g.P.Pages.memory c.loop-run_card.bank.items))
    (let all : length c.args.run_cards.items ≡ length c.args.run_cards.items - vec_len c.loop-run_card.run_cards = omega (arith, c.in_default.ensures.cases.0) in all)
    ∙ c.loop-run_card.invariant.spare
