use Rattle.terminal_state.proofs.Putting.{put_last}
use Rattle.terminal_state.proofs.terminal.add_last.Goals as goal

pub unreachable-requires : goal.unreachable-requires
unreachable-requires c =
    let is = put_last c.args.tag.0 c.args.value.now c.args.env.now c.requires.below c.requires.few c.requires.all_short c.requires.short in
    let fails = c.in-Err.ensures.exact in
    cc

pub returns : goal.returns
returns c =
    let is = put_last c.args.tag.0 c.args.value.now c.args.env.now c.requires.below c.requires.few c.requires.all_short c.requires.short in
    let puts = c.in-Ok.ensures.exact in
    cc
