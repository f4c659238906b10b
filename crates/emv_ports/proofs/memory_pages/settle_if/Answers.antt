use Rattle.std.proofs.Common.{rules, sym}
use Rattle.emv_ports.proofs.Known.{all_settled, all_pages}
use Rattle.emv_ports.proofs.memory_pages.settle_if.Goals as goal

pub returns-then-not-torn : goal.returns-then-not-torn
returns-then-not-torn c = record {
  settles = record {
    cells = sym (all_settled c.args.power_up c.args.pages.now (c.requires.sure c.if-not-torn.true));
    long = search rules;
    pages = all_pages c.args.pages.now (c.requires.sure c.if-not-torn.true);
    sure = λ none. c.requires.sure c.if-not-torn.true;
  };
}
