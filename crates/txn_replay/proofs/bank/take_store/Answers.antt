use Rattle.std.proofs.Common.{map, sym, ap, ◌∙◌, subst, arith}
use Rattle.std.specs.List.{All}
use Rattle.std.specs.Prelude.{is_some}
use Rattle.capture_store.specs.SeenLaneStore.{LaneStoreSeen}
use Rattle.emv_ports.specs.Memory.{IsBlank}
use Rattle.txn_replay.specs.Banked.{IsNewStore}
use Rattle.txn_replay.proofs.PageLaws.CardPagesBack.{left_blank, taken_blank, store_is_some, one_store, no_store}
use Rattle.txn_replay.proofs.bank.take_store.Goals as goal

pub new-requires-clause-off : goal.new-requires-clause-off
new-requires-clause-off g c =
    (taken_blank g.P.Pages.memory c.args.bank.now.items c.args.place c.remove.result
    (omega (arith, c.requires.place c.if-durable.true, c.args.bank.now.ok.0)) c.remove.ensures.value c.requires.blank).off

pub new-requires-clause-plan : goal.new-requires-clause-plan
new-requires-clause-plan g c =
    (taken_blank g.P.Pages.memory c.args.bank.now.items c.args.place c.remove.result
    (omega (arith, c.requires.place c.if-durable.true, c.args.bank.now.ok.0)) c.remove.ensures.value c.requires.blank).plan

pub returns-then-durable-clause-new : goal.returns-then-durable-clause-new
returns-then-durable-clause-new g c =
    let blank = taken_blank g.P.Pages.memory c.args.bank.now.items c.args.place c.remove.result
    (omega (arith, c.requires.place c.if-durable.true, c.args.bank.now.ok.0)) c.remove.ensures.value c.requires.blank in
    subst (λ b. IsNewStore c.new.result b) (sym c.if-durable.true) (c.new.ensures.new, c.new.ensures.losses ∙ blank.losses)

pub returns-then-durable-clause-length : goal.returns-then-durable-clause-length
returns-then-durable-clause-length g c =
    let one = one_store c.new.result (store_is_some c.new.result c.new.ensures.new) in omega (arith, one, c.remove.ensures.len)

pub returns-then-durable-clause-some : goal.returns-then-durable-clause-some
returns-then-durable-clause-some g c = store_is_some c.new.result c.new.ensures.new ∙ sym c.if-durable.true

pub returns-then-durable-clause-bank : goal.returns-then-durable-clause-bank
returns-then-durable-clause-bank g c = record {
  blank = subst (λ xs. All IsBlank (map g.P.Pages.memory xs)) (sym c.remove.ensures.items) (left_blank g.P.Pages.memory c.args.bank.now.items c.args.place c.requires.blank);
  same = c.remove.ensures.capacity;
}

pub returns-clause-new : goal.returns-clause-new
returns-clause-new g c = subst (λ b. IsNewStore c.absent.result b) (sym c.if-durable.false) c.absent.ensures

pub returns-clause-length : goal.returns-clause-length
returns-clause-length g c = let none = no_store c.absent.result c.absent.ensures in omega (arith, none)

pub returns-clause-some : goal.returns-clause-some
returns-clause-some g c = ap (λ (x : LaneStoreSeen). is_some x) c.absent.ensures ∙ sym c.if-durable.false
