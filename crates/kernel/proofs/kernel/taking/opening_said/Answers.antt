use Rattle.kernel.proofs.kernel.taking.opening_said.Goals as goal

pub returns-clause-stands : goal.returns-clause-stands
returns-clause-stands c = λ before now rest stands. c.on_answer.ensures.stands before now rest (rw c.replace-state.ensures.value stands)
