use Rattle.read_records.proofs.Stages.{reading-whole}
use Rattle.read_records.proofs.reading.steps_give_data.Goals as goal

pub returns-clause-read : goal.returns-clause-read
returns-clause-read c start answers as_many = reading-whole start answers as_many
