-- Why a kind of cryptogram was asked for, and where that stands (EMV 4.3 Book 3 section 10.7).
use Rattle.std.specs.Prelude.{ℕ, Bool, if◌then◌else◌, List, ◌++◌}
use Rattle.report_lines.specs.Pieces.{Piece, reference}
use Rattle.report_lines.specs.declared.references.TheConstants.{DENIAL, ONLINE, ANALYSIS, UNABLE, REPLY}
use Rattle.value_words.specs.ReasonWords.{reason_words}
use Rattle.value_words.specs.declared.reason.Reason.{Reason}
use Rattle.value_words.specs.declared.reason.Reason.TheVariants as reason

-- what the codes do not tell, at the first or the second question
abbrev pub undecided_reference : Bool → List ℕ
undecided_reference second = (if second then UNABLE.now else ANALYSIS.now)

-- the reason for a kind of cryptogram
abbrev pub reason_reference : Reason → Bool → List ℕ
reason_reference reason.Issuer second = REPLY.now
reason_reference (reason.Denied bits) second = DENIAL.now
reason_reference (reason.TerminalDenial bits) second = ANALYSIS.now
reason_reference (reason.UnableDefault bits) second = UNABLE.now
reason_reference reason.UnableOnlineOnly second = UNABLE.now
reason_reference reason.UnableTerminal second = UNABLE.now
reason_reference reason.UnableNone second = UNABLE.now
reason_reference reason.NoResults second = undecided_reference second
reason_reference reason.Unexplained second = undecided_reference second
reason_reference _ second = ONLINE.now

-- a reason, and where it stands
abbrev pub cited_reason : Reason → Bool → List ℕ → List Piece
cited_reason why second code = reason_words why second code ++ reference (reason_reference why second)
