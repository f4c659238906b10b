use Rattle.std.proofs.Common.{◌≡◌, Bool, [], refl, subst}
use Rattle.kernel.specs.Kernel.{outset_in}
use Rattle.terminal_at_reader.proofs.Turning.{never_ended, opens_so}
use Rattle.terminal_at_reader.specs.Talk.{asked_line}
use Rattle.terminal_at_reader.proofs.terminal.TerminalParty.open.Goals as goal

pub tell_ask-requires : goal.tell_ask-requires
tell_ask-requires c = never_ended c.args.self.now.lane.now c.args.self.now.work (c.requires.begun.first refl)

pub returns-clause-told : goal.returns-clause-told
returns-clause-told c =
    let opened = c.requires.begun.first refl in
    opens_so c.args.self.now.lane.now c.args.self.now.work opened (c.tell_ask.ensures.waits [] opened.live.stands) c.tell_ask.new.out.items
    (subst (λ (i : Bool). c.tell_ask.new.out.items ≡ asked_line i (outset_in c.args.self.now.work.kernel) []) c.is_iso.ensures (c.tell_ask.ensures.told [] opened.live.stands))
