use Rattle.kernel.proofs.kernel.turns.on_card.Goals as goal

pub returns-in-Verify-clause-stands : goal.returns-in-Verify-clause-stands
returns-in-Verify-clause-stands c = λ before rest stands. c.on_verify.ensures.stands before rest (rw c.in-Verify.is at stands)

pub returns-in-Risk-clause-stands : goal.returns-in-Risk-clause-stands
returns-in-Risk-clause-stands c = λ before rest stands. c.on_judge.ensures.stands before c.args.transaction.now.log.now rest (rw c.in-Risk.is at stands)

pub returns-in-First-clause-stands : goal.returns-in-First-clause-stands
returns-in-First-clause-stands c = λ before rest stands. c.on_first.ensures.stands before c.args.transaction.now.log.now rest (rw c.in-First.is at stands)

pub returns-in-Authenticate-clause-stands : goal.returns-in-Authenticate-clause-stands
returns-in-Authenticate-clause-stands c = λ before rest stands. c.on_authenticate.ensures.stands before c.args.transaction.now.log.now rest (rw c.in-Authenticate.is at stands)

pub returns-in-ScriptBefore-clause-stands : goal.returns-in-ScriptBefore-clause-stands
returns-in-ScriptBefore-clause-stands c = λ before rest stands. c.on_script_before.ensures.stands before c.args.transaction.now.log.now rest (rw c.in-ScriptBefore.is at stands)

pub returns-in-Second-clause-stands : goal.returns-in-Second-clause-stands
returns-in-Second-clause-stands c = λ before rest stands. c.on_second.ensures.stands _ before c.args.transaction.now.log.now rest (rw c.in-Second.is at stands)

pub returns-in-ScriptBehind-clause-stands : goal.returns-in-ScriptBehind-clause-stands
returns-in-ScriptBehind-clause-stands c = λ before rest stands. c.on_script_behind.ensures.stands _ before c.args.transaction.now.log.now rest (rw c.in-ScriptBehind.is at stands)
