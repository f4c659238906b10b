-- A question about a cryptogram, and what its kind rests on, in a line (this project's own).
use Rattle.std.specs.Prelude.{ℕ, List, ◌++◌, codes, decimal, Option, Some, None}
use Rattle.action_analysis.specs.declared.Codes.{Codes}
use Rattle.emv_dict.specs.declared.ending.Kind.{Kind}
use Rattle.emv_dict.specs.declared.ending.Kind.TheVariants.{Aac, Tc, Arqc}
use Rattle.kernel.specs.Dialogue.{kind_for}
use Rattle.report_text.specs.Pieces.{hex_or_dash, newline}
use Rattle.trace_check.specs.declared.question.Basis.{Basis}
use Rattle.trace_check.specs.declared.question.Question.{Question}
use Rattle.trace_check.specs.declared.question.Question.TheVariants.{First, Replied, Unable}

abbrev pub kind_word : Kind → List ℕ
kind_word Aac = codes "aac"
kind_word Tc = codes "tc"
kind_word Arqc = codes "arqc"

-- an action code: whose it is, which one, and its bytes
unfoldable pub code_text : List ℕ → List ℕ → List ℕ → List ℕ
code_text owner name bytes = owner ++ name ++ hex_or_dash bytes

-- the three codes of the issuer, or of the terminal
unfoldable pub codes_text : List ℕ → Codes → List ℕ
codes_text owner all = code_text owner (codes "denial ") all.denial ++ code_text owner (codes "online ") all.online ++ code_text owner (codes "default ") all.fallback

abbrev pub issuer_word : List ℕ
issuer_word = codes " issuer_"

abbrev pub terminal_word : List ℕ
terminal_word = codes " terminal_"

-- the terminal's type and its results
unfoldable pub results_text : Basis → List ℕ
results_text basis = codes " type " ++ decimal basis.terminal_type ++ codes " tvr " ++ hex_or_dash basis.tvr

-- each question, with what its kind rests on
unfoldable pub first_text : Basis → Kind → List ℕ
first_text basis kind =
    codes "why first kind " ++ kind_word kind ++ results_text basis ++ codes_text issuer_word basis.issuer ++ codes_text terminal_word basis.terminal

unfoldable pub replied_text : List ℕ → List ℕ
replied_text code = codes "why second kind " ++ kind_word (kind_for code) ++ codes " code " ++ hex_or_dash code

unfoldable pub unable_text : Basis → Kind → List ℕ
unable_text basis kind =
    codes "why second kind " ++ kind_word kind ++ results_text basis ++ code_text issuer_word (codes "default ") basis.issuer.fallback
    ++ code_text terminal_word (codes "default ") basis.terminal.fallback

abbrev pub asked_text : Question → List ℕ
asked_text (First basis kind) = first_text basis kind
asked_text (Replied code) = replied_text code
asked_text (Unable basis kind) = unable_text basis kind

-- the line of a question, where there is one
abbrev pub question_text : Option Question → List ℕ
question_text None = codes "?" ++ newline
question_text (Some question) = asked_text question ++ newline
