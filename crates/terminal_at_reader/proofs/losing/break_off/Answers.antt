use Rattle.std.proofs.Common.{refl}
use Rattle.terminal_at_reader.proofs.Turning.{if_other, lost_told}
use Rattle.terminal_at_reader.specs.Talk.{lost_line}
use Rattle.terminal_at_reader.specs.Till.{till_broken_off}
use Rattle.terminal_at_reader.proofs.losing.break_off.Goals as goal

pub returns : goal.returns
returns c = record {
  turn = if_other _ _ _ c.put_lost.result c.put_lost.ensures.told c.put_lost.ensures.rests
      (λ onward told rests.
      lost_told _ c.put_lost.new.text.items onward lost_line (till_broken_off c.args.work.now.till) told rests
      (record {
        till_is = c.break_off.ensures;
        does = refl;
        amounts = c.requires.log;
      }));
}
