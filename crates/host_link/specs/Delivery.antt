-- The way of a message to the issuer's host, and of its reply (this project's own).
use Rattle.std.specs.Prelude.{ℕ, Bool, true, false, List, [], ◌∷◌, Option, Some, None}
use Rattle.scenario_lanes.specs.declared.plan.Link.{Link}
use Rattle.scenario_lanes.specs.declared.plan.Link.TheVariants.{Sound, RequestLost, ReplyLost, Twice}

-- how often a message comes to the host
abbrev pub delivered : Link → List ℕ → List (List ℕ)
delivered Sound message = message ∷ []
delivered RequestLost message = []
delivered ReplyLost message = message ∷ []
delivered Twice message = message ∷ message ∷ []

-- which reply comes back: the first
abbrev pub heard : Link → List ℕ → Option (List ℕ)
heard Sound reply = Some reply
heard RequestLost reply = None
heard ReplyLost reply = None
heard Twice reply = Some reply

-- the reply that comes back
abbrev pub reply_if : Bool → List ℕ → Option (List ℕ)
reply_if false reply = None
reply_if true reply = Some reply
