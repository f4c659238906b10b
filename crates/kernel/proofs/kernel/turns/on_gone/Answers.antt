use Rattle.std.proofs.Common.{refl, arith}
use Rattle.cvm_list.specs.Waiting.{verifying_rest}
use Rattle.emv_dict.specs.declared.ending.Step.TheVariants as step
use Rattle.online_step.specs.declared.ac.GenerateAc.TheVariants as generate
use Rattle.risk_mgmt.specs.Asked.{judging_rest}
use Rattle.kernel.specs.Stages.{TradingStands, generating, authenticating, script_rest}
use Rattle.kernel.specs.declared.stage.Trading.TheVariants as stage
use Rattle.kernel.proofs.Leaving.{trading_gone}
use Rattle.kernel.proofs.kernel.turns.on_gone.Goals as goal

pub returns-in-Verify-clause-stands : goal.returns-in-Verify-clause-stands
returns-in-Verify-clause-stands c = λ transaction log rest stands.
    let at : TradingStands c.args.table.now transaction (stage.Verify c.in-Verify.field-0) log rest = rw c.in-Verify.is at stands in
    trading_gone c.args.table.now transaction step.Verify at.steps_done log (verifying_rest c.in-Verify.field-0) _ c.args.table.now.command.items rest at.passed at.tied at.read at.shows

pub returns-in-Risk-clause-stands : goal.returns-in-Risk-clause-stands
returns-in-Risk-clause-stands c = λ transaction log rest stands.
    let at : TradingStands c.args.table.now transaction (stage.Risk c.in-Risk.field-0) log rest = rw c.in-Risk.is at stands in
    trading_gone c.args.table.now transaction step.Risk at.steps_done log (judging_rest c.in-Risk.field-0) _ c.args.table.now.command.items rest at.passed at.tied at.read at.shows

pub returns-in-First-clause-stands : goal.returns-in-First-clause-stands
returns-in-First-clause-stands c = λ transaction log rest stands.
    let at : TradingStands c.args.table.now transaction (stage.First c.in-First.field-0) log rest = rw c.in-First.is at stands in
    trading_gone c.args.table.now transaction step.First at.steps_done log (generating c.args.table.now.command.items c.in-First.field-0 generate.First) _ c.args.table.now.command.items rest at.passed at.tied at.read refl

pub returns-in-Authenticate-clause-stands : goal.returns-in-Authenticate-clause-stands
returns-in-Authenticate-clause-stands c = λ transaction log rest stands.
    let at : TradingStands c.args.table.now transaction stage.Authenticate log rest = rw c.in-Authenticate.is at stands in
    trading_gone c.args.table.now transaction step.Authenticate at.steps_done log (authenticating c.args.table.now.command.items) _ c.args.table.now.command.items rest at.passed at.tied at.read refl

pub returns-in-ScriptBefore-clause-stands : goal.returns-in-ScriptBefore-clause-stands
returns-in-ScriptBefore-clause-stands c = λ transaction log rest stands.
    let at : TradingStands c.args.table.now transaction (stage.ScriptBefore c.in-ScriptBefore.field-0) log rest = rw c.in-ScriptBefore.is at stands in
    trading_gone c.args.table.now transaction step.Script at.steps_done log (script_rest c.args.table.now.running) _ c.args.table.now.command.items rest at.passed at.tied at.read at.shows

pub returns-in-Second-clause-stands : goal.returns-in-Second-clause-stands
returns-in-Second-clause-stands c = λ transaction log rest stands.
    let at : TradingStands c.args.table.now transaction (stage.Second c.in-Second.field-0) log rest = rw c.in-Second.is at stands in
    trading_gone c.args.table.now transaction step.Second at.steps_done log (generating c.args.table.now.command.items c.in-Second.field-0.asked generate.Second) _ c.args.table.now.command.items rest at.passed at.tied at.read refl

pub returns-in-ScriptBehind-clause-stands : goal.returns-in-ScriptBehind-clause-stands
returns-in-ScriptBehind-clause-stands c = λ transaction log rest stands. c.gone_behind.ensures.stands transaction log rest (rw c.in-ScriptBehind.is at stands)

pub returns-in-ScriptBehind-clause-ended : goal.returns-in-ScriptBehind-clause-ended
returns-in-ScriptBehind-clause-ended c = rw c.gone_behind.ensures.over refl

pub returns-in-ScriptBehind-clause-step : goal.returns-in-ScriptBehind-clause-step
returns-in-ScriptBehind-clause-step c = record {
  same = c.gone_behind.ensures.step.same;
  nearer = rw (c.gone_behind.ensures.over, c.in-ScriptBehind.is) (omega arith);
  room = c.gone_behind.ensures.step.room;
  asked = c.gone_behind.ensures.step.asked;
}
