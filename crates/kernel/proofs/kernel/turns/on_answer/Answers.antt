use Rattle.kernel.proofs.kernel.turns.on_answer.Goals as goal

pub returns-in-Directory-clause-stands : goal.returns-in-Directory-clause-stands
returns-in-Directory-clause-stands c = λ before now rest stands. c.on_directory.ensures.stands before now rest (rw c.in-Directory.is at stands)

pub returns-in-Select-clause-stands : goal.returns-in-Select-clause-stands
returns-in-Select-clause-stands c = λ before now rest stands. c.on_select.ensures.stands before now rest (rw c.in-Select.is at stands)

pub returns-in-Initiate-clause-stands : goal.returns-in-Initiate-clause-stands
returns-in-Initiate-clause-stands c = λ before now rest stands. c.on_initiate.ensures.stands before now rest (rw c.in-Initiate.is at stands)
