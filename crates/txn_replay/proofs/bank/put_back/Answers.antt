use Rattle.std.proofs.Common.{◌≡◌, map, Some, None, true, refl, sym, ap, ◌∙◌, arith}
use Rattle.std.specs.Prelude.{is_some}
use Rattle.txn_replay.proofs.PageLaws.CardPagesBack.{left_given, none_left, map_insert, one_store, zero_store}
use Rattle.txn_replay.proofs.bank.put_back.Goals as goal

pub returns-in-Ok-clause-given : goal.returns-in-Ok-clause-given
returns-in-Ok-clause-given g c =
    let some : is_some c.args.lane_store ≡ true = sym c.in-Some.ensures.there in (
      Some (g.P.Pages.memory c.in-Some.pages),
      left_given c.args.lane_store (g.P.Pages.memory c.in-Some.pages) some
          (record { off = c.in-Some.ensures.off; may = c.in-Some.ensures.may; stands = c.in-Some.ensures.stands; losses = c.in-Some.ensures.losses }),
      ap (λ xs. map g.P.Pages.memory xs) c.in-Ok.ensures.items ∙ map_insert g.P.Pages.memory c.args.bank.now.items c.args.place c.in-Some.pages,
    )

pub returns-in-Ok-clause-length : goal.returns-in-Ok-clause-length
returns-in-Ok-clause-length g c = omega (arith, c.in-Ok.ensures.len, one_store c.args.lane_store (sym c.in-Some.ensures.there))

pub returns-in_default-clause-given : goal.returns-in_default-clause-given
returns-in_default-clause-given g c = (None, none_left c.args.lane_store (sym c.in_default.ensures.there), refl)

pub returns-in_default-clause-length : goal.returns-in_default-clause-length
returns-in_default-clause-length g c = omega (arith, zero_store c.args.lane_store (sym c.in_default.ensures.there))
