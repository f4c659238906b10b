use Rattle.std.proofs.Common.{◌≡◌, rules, arith}
use Rattle.std.proofs.lemmas.Grind.{common_steps}
use Rattle.apdu_core.specs.Response.{response_bytes}
use Rattle.apdu_core.proofs.ReadAgain.{response_again}
use Rattle.apdu_core.proofs.response.write_response.Goals as goal

pub returns-clause-read_again : goal.returns-clause-read_again
returns-clause-read_again c =
    let written : c.push-2.new.self.items ≡ response_bytes c.args.response.now.body.now c.args.response.now.status = first_of (search rules, grind (arith, common_steps)) in
    rw written (response_again c.args.response.now.body.now c.args.response.now.status c.requires)
