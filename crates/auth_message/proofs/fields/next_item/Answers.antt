use Rattle.auth_message.proofs.Opened.{some_stands}
use Rattle.auth_message.proofs.fields.next_item.Goals as goal

pub returns-clause-stands : goal.returns-clause-stands
returns-clause-stands c =
    some_stands c.in-Ok.item c.args.cursor.now.bytes c.next.new.self.bytes c.args.cursor.now.place c.next.new.self.place c.in-Ok.ensures.same_bytes c.in-Ok.ensures.item
