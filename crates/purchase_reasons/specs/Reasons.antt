-- Why a purchase came out as it did, a line a party.
use Rattle.std.specs.Prelude.{ℕ, Bool, true, false, if◌then◌else◌, List, [], ◌++◌, codes, Option, Some, None, unwrap_or, is_some}
use Rattle.emv_dict.specs.declared.ending.Kind.{Kind}
use Rattle.report_lines.specs.Pieces.{Piece, line, text}
use Rattle.exchange_words.specs.Because.{cited_reason}
use Rattle.value_words.specs.Statuses.{kind_name}
use Rattle.value_words.specs.declared.reason.Reason.{Reason}
use Rattle.exchange_words.specs.declared.lane.LaneState.{LaneState}
use Rattle.purchase_reasons.specs.Cards.{first_card_words, second_card_words}
use Rattle.value_words.specs.Fields.{fields_of}
use Rattle.issuer_reasons.specs.Issuers.{issuer_words}
use Rattle.purchase_reasons.specs.Kept.{CardsData, facts_of, asked_approval}
use Rattle.purchase_reasons.specs.declared.approval.Facts.{Facts}
use Rattle.purchase_reasons.specs.declared.card.Second.{Second}
use Rattle.purchase_reasons.specs.declared.followed.Followed.{Followed}

-- a kind that was asked for, and why
abbrev pub asked_because : Kind → Reason → Bool → List ℕ → List Piece
asked_because asked reason second code = text (kind_name asked) ++ text (codes " because ") ++ cited_reason reason second code

-- the first question
abbrev pub first_asked_because : Option Kind → Option Reason → List Piece
first_asked_because None reason = text (codes "it asked for no cryptogram")
first_asked_because (Some asked) None = text (codes "it asked for no cryptogram")
first_asked_because (Some asked) (Some reason) = text (codes "it asked for ") ++ asked_because asked reason false (codes "--")

-- the second one
abbrev pub then_because : LaneState → Option Kind → Option Reason → List Piece
then_because talk None reason = []
then_because talk (Some asked) None = []
then_because talk (Some asked) (Some reason) = text (codes ", then for ") ++ asked_because asked reason true (unwrap_or talk.code (codes "--"))

-- what the terminal asked for, and why
abbrev pub terminal_words : Followed → LaneState → List Piece
terminal_words f talk =
    line 1 ++ text (codes "terminal: ") ++ first_asked_because f.asked f.reason ++ (if talk.second then then_because talk talk.asked talk.reason else [])

-- what the card answered, and why
abbrev pub card_first : Option Kind → Option Kind → Facts → List Piece
card_first None answered facts = text (codes "it was asked for no cryptogram")
card_first (Some asked) answered facts = first_card_words asked answered facts

abbrev pub second_of : Followed → LaneState → Kind → Second
second_of f talk asked = record { asked = asked; answered = talk.answered; replied = is_some talk.code; standing = f.standing }

abbrev pub card_second : Followed → LaneState → Option Kind → Facts → List Piece
card_second f talk None facts = []
card_second f talk (Some asked) facts = text (codes "; then ") ++ second_card_words (second_of f talk asked) talk.answered facts

abbrev pub card_line_words : Followed → LaneState → Facts → List Piece
card_line_words f talk facts =
    line 1 ++ text (codes "card: ") ++ card_first f.asked f.answered facts ++ (if talk.second then card_second f talk talk.asked facts else [])

-- why a purchase came out as it did
abbrev pub reasons_words : Followed → LaneState → CardsData → List Piece
reasons_words f talk cards =
    terminal_words f talk ++ card_line_words f talk (facts_of cards f talk) ++ issuer_words f.requested f.reply (asked_approval (fields_of talk.cdol1.items talk.first.items))
