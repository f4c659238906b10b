-- What becomes of a document.
use Rattle.std.proofs.Common.{◌≡◌, ℕ, ◌<◌, List, [], ◌∷◌, length, arith, Ok, None, refl}
use Rattle.line_talk.proofs.Talking.{weaker}
use Rattle.line_talk.specs.Talk.{EndsDocument, HasServed, IsRefused, NotAsked, Served, Sides, TalkEnds, Untold, WritesLast, other_line}
use Rattle.line_talk.specs.declared.status.Status.{Status}
use Rattle.line_talk.specs.declared.status.Status.TheVariants.{OutOfMemory, Unserved}
use Rattle.scenario_fields.specs.Line.{refused_line}
use Rattle.scenario_fields.specs.declared.fault.ScenarioFault.TheVariants as fault
use Rattle.host_at_lines.specs.Document.{IssuerData, ReadsIssuer}
use Rattle.host_at_lines.specs.Talk.{IsHostTalk, host_opening}
use Rattle.host_at_lines.specs.Top.{host_programme, host_programme_of}

-- its host was served
pub host_served : (bytes : List ℕ) (issuer : IssuerData) → ReadsIssuer bytes (Ok issuer) → (s : Sides) (status : Status)
    → TalkEnds (IsHostTalk issuer.keys issuer.accounts) host_opening s status → EndsDocument host_programme bytes s status
host_served bytes issuer reading s status ends =
    HasServed host_opening
    (weaker (IsHostTalk issuer.keys issuer.accounts) (host_programme.Talks bytes host_opening) (λ turns talk. (issuer, reading, refl, talk)) host_opening s status ends)

-- there was no memory for it
pub without_memory : (bytes : List ℕ) (s : Sides) → s.left ≡ s.first → s.held ≡ s.before → EndsDocument host_programme bytes s OutOfMemory
unfolding refused_line
without_memory bytes s unread untold = IsRefused None (fault.OutOfMemory, record { text = λ t. tt; other = λ t. tt }, refl) unread (Untold refl untold)

-- without a word it is asked for
pub none_said : (words : List (List ℕ)) (s : Sides) (status : Status) → length words ≡ 0 → Served host_programme s status → Served (host_programme_of words) s status
none_said [] s status none served = served
none_said (word ∷ words) s status none served = absurd (omega (arith, none))

pub word_said : (words : List (List ℕ)) (s : Sides) (status : Status) → 0 < length words → s.left ≡ s.first → WritesLast Unserved status s.before s.held other_line
    → Served (host_programme_of words) s status
word_said [] s status some unread writes = absurd (omega (arith, some))
word_said (word ∷ words) s status some unread writes = NotAsked tt unread writes
