-- Why a card made a cryptogram, in words (this project's own).
use Rattle.std.specs.Prelude.{ℕ, List, [], ◌++◌, codes, Option, Some, None}
use Rattle.card_app.specs.declared.reason.Reason.{Reason}
use Rattle.card_app.specs.declared.reason.Resting.{Resting}
use Rattle.report_text.specs.Pieces.{hex_or_dash, newline}
use Rattle.card_words.specs.DecisionText.{how_text, kind_text, which_text}
use Rattle.card_words.specs.StateText.{field_text, truth_text}

-- which GENERATE AC
abbrev pub generation_text : Option Resting → List ℕ
generation_text None = codes "why ac first"
generation_text (Some rest) = codes "why ac second"

-- on what a second cryptogram rests
unfoldable pub resting_text : Option Resting → List ℕ
resting_text None = []
resting_text (Some rest) = codes " rests" ++ how_text rest.how ++ codes " declined " ++ truth_text rest.declined ++ codes " issuer_auth " ++ truth_text rest.issuer_auth

-- what was asked and made
unfoldable pub made_text : Reason → List ℕ
made_text r =
    generation_text r.second ++ field_text (codes " app ") r.app ++ codes " asked" ++ kind_text r.asked ++ codes " made" ++ kind_text r.made ++ resting_text r.second

-- whether the card is blocked, whether an issuer authentication failed, and the currency
unfoldable pub barred_text : Reason → List ℕ
barred_text r =
    codes " blocked " ++ truth_text r.blocked ++ codes " auth_failed " ++ truth_text r.auth_failed ++ codes " currency " ++ hex_or_dash r.currency ++ codes " own"
    ++ which_text r.which

-- the number of offline approvals and its limit
unfoldable pub counted_text : Reason → List ℕ
counted_text r = field_text (codes " count ") r.count ++ field_text (codes " count_limit ") r.count_limit

-- their sum, the amount, and the sum's limit
unfoldable pub summed_text : Reason → List ℕ
summed_text r = field_text (codes " sum ") r.sum ++ field_text (codes " amount ") r.amount ++ field_text (codes " sum_limit ") r.sum_limit

-- the line of a reason, where there is one
unfoldable pub why_text : Option Reason → List ℕ
why_text None = codes "?" ++ newline
why_text (Some r) = made_text r ++ barred_text r ++ counted_text r ++ summed_text r ++ newline
