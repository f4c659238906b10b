use Rattle.std.proofs.Common.{Some, None, sym}
use Rattle.card_state.proofs.Decoded.{no_head, with_head}
use Rattle.card_state.proofs.decoding.read_card.Goals as goal

pub returns-then-not-is_head : goal.returns-then-not-is_head
returns-then-not-is_head c = no_head c.args.version c.args.count c.args.card c.args.bytes.now (sym c.if-not-is_head.ensures.exact)

pub returns-in-Some : goal.returns-in-Some
returns-in-Some c =
    with_head c.args.version c.args.count c.args.card c.args.bytes.now (sym c.if-not-is_head.ensures.exact)
    (Some c.in-Some.apps.items) c.in-Some.ensures

pub returns-in-None : goal.returns-in-None
returns-in-None c =
    with_head c.args.version c.args.count c.args.card c.args.bytes.now (sym c.if-not-is_head.ensures.exact) None c.in-None.ensures
