use Rattle.std.proofs.Common.{arith}
use Rattle.std.proofs.lemmas.List.{length-drop, take_all}
use Rattle.ending_words.proofs.Scripts.{scripts_start, scripts_more, scripts_end}
use Rattle.ending_words.proofs.ending.tell_scripts.Goals as goal

pub loop-left-init : goal.loop-left-init
loop-left-init c = scripts_start _ _

pub loop-left-preserved : goal.loop-left-preserved
loop-left-preserved c =
    scripts_more _ _ _ _ _ _ (omega arith) (take_all _ _ (omega (arith, length-drop 10 c.loop-left.left.now))) c.loop-left.invariant c.tell_script_in.ensures

pub returns : goal.returns
returns c = scripts_end _ _ _ _ (omega arith) c.loop-left.invariant
