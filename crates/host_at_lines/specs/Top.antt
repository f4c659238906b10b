-- What the program does with its words and with a document.
use Rattle.std.specs.Prelude.{◌≡◌, ℕ, List, [], ◌∷◌, Ok, Err}
use Rattle.line_talk.specs.Talk.{Programme, no_programme}
use Rattle.scenario_fields.specs.Line.{refused_line}
use Rattle.scenario_fields.specs.declared.fault.ScenarioFault.{ScenarioFault}
use Rattle.host_at_lines.specs.Document.{IssuerData, ReadsIssuer}
use Rattle.host_at_lines.specs.Talk.{IsHostTalk, host_opening}

-- a document is refused by its first fault; and else its issuer's host talks, to which no message came yet
abbrev pub host_programme : Programme
host_programme = record {
  Unasked = ⊥;
  Refuses = λ bytes line. (fault : ScenarioFault) × ReadsIssuer bytes (Err fault) × (refused_line fault ≡ line);
  Lacks = λ bytes. ⊥;
  Talks = λ bytes opening turns. (issuer : IssuerData) × ReadsIssuer bytes (Ok issuer) × (opening ≡ host_opening) × IsHostTalk issuer.keys issuer.accounts turns;
}

-- it has no words: one asks for nobody
abbrev pub host_programme_of : List (List ℕ) → Programme
host_programme_of [] = host_programme
host_programme_of (word ∷ words) = no_programme
