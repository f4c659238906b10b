-- Lines tell what happened: lines with one text are alike in all that the text shows, and so are reports.
use Rattle.std.specs.Prelude.{◌≡◌, ⊤, ℕ, List, decimal, Option, Some, None, option_map}
use Rattle.std.specs.Fmt.{signed_decimal}
use Rattle.std.specs.List.{All, AllZip, flat_map}
use Rattle.ber_tlv.specs.Written.{tag_bytes}
use Rattle.ber_tlv.specs.declared.tag.Tag.{Tag}
use Rattle.emv_dict.specs.Flags.{tvr_bytes}
use Rattle.emv_dict.specs.declared.ending.Cause.{Cause}
use Rattle.emv_dict.specs.declared.ending.Cause.TheVariants as cause
use Rattle.emv_dict.specs.declared.ending.Ending.{Ending}
use Rattle.emv_dict.specs.declared.ending.Ending.TheVariants as ending
use Rattle.report_text.specs.Pieces.{two_bytes}
use Rattle.report_text.specs.Text.{arc_text, line_text}
use Rattle.report_text.specs.Told.{IsTold}
use Rattle.report_text.specs.declared.line.Line.{Line}
use Rattle.report_text.specs.declared.line.Line.TheVariants.{Power, PowerCanned, PowerTorn, ToCard, FromCard, Torn, Gone, ToHost, FromHost, NoReply, End, EndLost, SettleCall, SettleReply, AuditPower, AuditAsk, AuditAnswer, Balance, Done, Object, ReadOk, ReadEnded}
use Rattle.report_text.specs.declared.line.Shown.{Shown}
use Rattle.report_text.specs.declared.line.EndParts.{EndParts}

-- numbers of the same digits
abbrev pub SameNumber : ℕ → ℕ → Type 0
SameNumber m n = decimal m ≡ decimal n

-- tags of the same bytes
abbrev pub SameTag : Tag → Tag → Type 0
SameTag s t = tag_bytes s.0 ≡ tag_bytes t.0

-- an application's counters
pub record SameCounters (a b : Shown) : Type 0 where
  pub counter : SameNumber a.counter b.counter
  pub last_online : SameNumber a.last_online b.last_online
  pub count : SameNumber a.count b.count
  pub sum : SameNumber a.sum b.sum
  pub tries : SameNumber a.tries b.tries
  pub flags : SameNumber a.flags b.flags
  pub sum_two : option_map decimal a.sum_two ≡ option_map decimal b.sum_two

-- one cause, with the same two status bytes, place, tag, group or byte
unfoldable pub SameCause : Cause → Cause → Type 0
SameCause cause.NoCandidate cause.NoCandidate = ⊤
SameCause cause.CardBlocked cause.CardBlocked = ⊤
SameCause cause.Answer cause.Answer = ⊤
SameCause (cause.Status m) (cause.Status n) = two_bytes m ≡ two_bytes n
SameCause (cause.Coding m) (cause.Coding n) = SameNumber m n
SameCause (cause.Repeated s) (cause.Repeated t) = SameTag s t
SameCause (cause.Missing s) (cause.Missing t) = SameTag s t
SameCause (cause.Value s) (cause.Value t) = SameTag s t
SameCause (cause.Afl m) (cause.Afl n) = SameNumber m n
SameCause (cause.Dol s) (cause.Dol t) = SameTag s t
SameCause cause.TooMuch cause.TooMuch = ⊤
SameCause (cause.Kind m) (cause.Kind n) = m ≡ n
SameCause a b = ⊥

unfoldable pub SameEnding : Ending → Ending → Type 0
SameEnding (ending.Approved online) (ending.Approved other) = online ≡ other
SameEnding (ending.Declined online) (ending.Declined other) = online ≡ other
SameEnding (ending.Terminated step why) (ending.Terminated other how) = (step ≡ other) × SameCause why how
SameEnding (ending.CutOff step) (ending.CutOff other) = step ≡ other
SameEnding a b = ⊥

-- no cryptogram, or one with the same two bytes of its counter
unfoldable pub SameLast : Option (ℕ × List ℕ) → Option (ℕ × List ℕ) → Type 0
SameLast None None = ⊤
SameLast (Some last) (Some other) = (two_bytes last.0 ≡ two_bytes other.0) × (last.1 ≡ other.1)
SameLast a b = ⊥

-- how a purchase ended: five bytes of verification results, two of status information, a code by its characters, and the
-- results of the scripts
pub record SameParts (a b : EndParts) : Type 0 where
  pub ending : SameEnding a.ending b.ending
  pub tvr : tvr_bytes a.tvr.0 ≡ tvr_bytes b.tvr.0
  pub tsi : two_bytes a.tsi.0 ≡ two_bytes b.tsi.0
  pub cvm : a.cvm ≡ b.cvm
  pub code : arc_text a.arc ≡ arc_text b.arc
  pub last : SameLast a.atc_ac b.atc_ac
  pub scripts : a.scripts.items ≡ b.scripts.items

-- two lines of one kind that show the same
unfoldable pub ShowsAs : Line → Line → Type 0
ShowsAs (Power lane card apps) (Power l c shown) = SameNumber lane l × (card.items ≡ c.items) × AllZip SameCounters apps.items shown.items
ShowsAs (PowerCanned lane card) (PowerCanned l c) = SameNumber lane l × (card.items ≡ c.items)
ShowsAs (PowerTorn lane card) (PowerTorn l c) = SameNumber lane l × (card.items ≡ c.items)
ShowsAs (ToCard lane bytes) (ToCard l bs) = SameNumber lane l × (bytes.items ≡ bs.items)
ShowsAs (FromCard lane bytes) (FromCard l bs) = SameNumber lane l × (bytes.items ≡ bs.items)
ShowsAs (Torn lane) (Torn l) = SameNumber lane l
ShowsAs (Gone lane) (Gone l) = SameNumber lane l
ShowsAs (ToHost lane bytes) (ToHost l bs) = SameNumber lane l × (bytes.items ≡ bs.items)
ShowsAs (FromHost lane bytes) (FromHost l bs) = SameNumber lane l × (bytes.items ≡ bs.items)
ShowsAs (NoReply lane) (NoReply l) = SameNumber lane l
ShowsAs (End lane number parts) (End l n ps) = SameNumber lane l × SameNumber number n × SameParts parts ps
ShowsAs (EndLost lane number) (EndLost l n) = SameNumber lane l × SameNumber number n
ShowsAs (SettleCall lane bytes) (SettleCall l bs) = SameNumber lane l × (bytes.items ≡ bs.items)
ShowsAs (SettleReply lane bytes) (SettleReply l bs) = SameNumber lane l × (bytes.items ≡ bs.items)
ShowsAs (AuditPower card apps) (AuditPower c shown) = (card.items ≡ c.items) × AllZip SameCounters apps.items shown.items
ShowsAs (AuditAsk card bytes) (AuditAsk c bs) = (card.items ≡ c.items) × (bytes.items ≡ bs.items)
ShowsAs (AuditAnswer card bytes) (AuditAnswer c bs) = (card.items ≡ c.items) × (bytes.items ≡ bs.items)
ShowsAs (Balance pan amount) (Balance p a) = (pan ≡ p) × (signed_decimal amount ≡ signed_decimal a)
ShowsAs (Done number) (Done n) = SameNumber number n
ShowsAs (Object tag value) (Object t v) = SameTag tag t × (value.items ≡ v.items)
ShowsAs ReadOk ReadOk = ⊤
ShowsAs (ReadEnded ending) (ReadEnded e) = SameEnding ending e
ShowsAs a b = ⊥

-- two lines that have one text show the same
abbrev pub LinesDiffer : Type 0
LinesDiffer = (a b : Line) → IsTold a → IsTold b → line_text a ≡ line_text b → ShowsAs a b

-- two reports that have one text, which is that of their lines one behind the other, have as many lines, and each shows
-- what the other's does
abbrev pub ReportsDiffer : Type 0
ReportsDiffer = (a b : List Line) → All IsTold a → All IsTold b → flat_map line_text a ≡ flat_map line_text b → AllZip ShowsAs a b
