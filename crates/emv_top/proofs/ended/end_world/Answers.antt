use Rattle.std.proofs.Common.{◌∙◌, List, subst, sym}
use Rattle.emv_ports.specs.Memory.{Memory}
use Rattle.txn_replay.specs.Seen.{BankStands}
use Rattle.emv_top.proofs.ended.end_world.Goals as goal

pub returns-clause-leaves : goal.returns-clause-leaves
returns-clause-leaves g c = λ w stands fair. record {
  pages = c.new.ensures.pages;
  bank_stands = subst (λ (pages : List Memory). BankStands c.args.world.scenario w pages) (sym c.new.ensures.bank) (c.into_bank-bank.ensures.bank w stands);
  counted = c.into_bank-bank.ensures.tally ∙ stands.tally;
  fair = fair;
}
