use Rattle.terminal_state.proofs.Putting.{put_first}
use Rattle.terminal_state.proofs.terminal.add.Goals as goal

pub unreachable-requires : goal.unreachable-requires
unreachable-requires c =
    let is = put_first c.args.tag.0 c.args.value.now c.args.env.now c.requires.above c.requires.few c.requires.all_short c.requires.short in
    let fails = c.in-Err.ensures.exact in
    cc

pub returns : goal.returns
returns c =
    let is = put_first c.args.tag.0 c.args.value.now c.args.env.now c.requires.above c.requires.few c.requires.all_short c.requires.short in
    let puts = c.in-Ok.ensures.exact in
    cc
