-- A command and a response as a contract sees them.
use Rattle.apdu_core.specs.Command.{CommandData}
use Rattle.apdu_core.specs.Response.{ResponseData}
use Rattle.apdu_core.specs.declared.command.Command.{Command}
use Rattle.apdu_core.specs.declared.response.Response.{Response}

-- what contracts see of the program's command
abbrev pub seen_command : Command → CommandData
seen_command c = record { class = c.class; ins = c.ins; p1 = c.p1; p2 = c.p2; body = c.body.now; expects = c.expects }

-- what contracts see of the program's response
abbrev pub seen_response : Response → ResponseData
seen_response r = record { body = r.body.now; status = r.status }
