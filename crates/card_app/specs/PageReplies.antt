-- What a command makes a card decide and answer.
use Rattle.std.specs.Prelude.{◌≡◌, ℕ, List, [], ◌∷◌, Some}
use Rattle.apdu_core.specs.Response.{ResponseData, response_bytes, response_of}
use Rattle.card_state.specs.Decisions.{Decided}
use Rattle.card_state.specs.declared.decision.Decision.{Decision}

-- the new decisions, and the body and the status of the answer
pub record CardReplyData : Type 0 where
  pub new : List Decided
  pub body : List ℕ
  pub status : ℕ

abbrev pub refused : ℕ → CardReplyData
refused status = record { new = []; body = []; status = status }

-- a body and a status, and nothing decided
abbrev pub shows : List ℕ → ℕ → CardReplyData
shows body status = record { new = []; body = body; status = status }

-- one decision of an application
abbrev pub decides : ℕ → Decision → List ℕ → ℕ → CardReplyData
decides app decision body status = record { new = record { app = app; decision = decision } ∷ []; body = body; status = status }

-- the answer as it is read
abbrev pub response_in : CardReplyData → ResponseData
response_in reply = record { body = reply.body; status = reply.status }

-- the new decisions, and the bytes of the answer
pub record CardAnswer : Type 0 where
  pub new : List Decided
  pub answer : List ℕ

abbrev pub answer_said : CardReplyData → CardAnswer
answer_said reply = record { new = reply.new; answer = response_bytes reply.body reply.status }

-- these are the bytes of the answer, and they are read as it
pub record SaysReply (reply : CardReplyData) (answer : List ℕ) : Type 0 where
  pub written : answer ≡ (answer_said reply).answer
  pub read_again : response_of answer ≡ Some (response_in reply)
