-- What a card answered, and why (docs/proof/profile.md, CARD-20 and CARD-21).
use Rattle.std.specs.Prelude.{Bool, true, false, ◌||◌, if◌then◌else◌, List, [], ◌++◌, codes, Option, Some, None}
use Rattle.emv_dict.specs.declared.ending.Kind.{Kind}
use Rattle.emv_dict.specs.declared.ending.Kind.TheVariants.{Aac, Tc, Arqc}
use Rattle.report_lines.specs.Pieces.{Piece, text, reference}
use Rattle.report_lines.specs.declared.references.TheConstants.{FIRST_KIND, SECOND_KIND}
use Rattle.value_words.specs.Statuses.{kind_name}
use Rattle.purchase_reasons.specs.Approval.{offline_approval_words}
use Rattle.purchase_reasons.specs.declared.approval.Facts.{Facts}
use Rattle.purchase_reasons.specs.declared.card.CardReason.{CardReason}
use Rattle.purchase_reasons.specs.declared.card.CardReason.TheVariants.{Asked, Forbidden, Blocked, Passed, Failed, Authenticated, RefusedByStatus, WrongCryptogram, NoCryptogram, NotDue}
use Rattle.purchase_reasons.specs.declared.card.Second.{Second}
use Rattle.purchase_reasons.specs.declared.followed.Standing.{Standing}

-- the first cryptogram: asked to approve, a card that is blocked declines, and one that may not approve goes online
abbrev pub first_card_reason : Kind → Kind → CardReason
first_card_reason Aac Aac = Asked
first_card_reason Aac Tc = Forbidden
first_card_reason Aac Arqc = Forbidden
first_card_reason Arqc Aac = Blocked
first_card_reason Arqc Arqc = Asked
first_card_reason Arqc Tc = Forbidden
first_card_reason Tc Aac = Blocked
first_card_reason Tc Arqc = Failed
first_card_reason Tc Tc = Passed

-- the second one, asked to approve: without a reply the tests of an offline approval decide, else how the issuer was
-- authenticated
abbrev pub by_authentication : CardReason → CardReason → CardReason → Option Bool → CardReason
by_authentication right wrong untried None = untried
by_authentication right wrong untried (Some true) = right
by_authentication right wrong untried (Some false) = wrong

abbrev pub approval_reason : Bool → Option Bool → CardReason
approval_reason replied authenticated = (if replied then by_authentication Authenticated NotDue NotDue authenticated else Passed)

abbrev pub decline_reason : Bool → Option Bool → CardReason
decline_reason replied authenticated = (if replied then by_authentication RefusedByStatus WrongCryptogram NoCryptogram authenticated else Failed)

abbrev pub second_of_approval : Kind → Bool → Standing → CardReason
second_of_approval Tc replied standing = approval_reason replied standing.authenticated
second_of_approval Arqc replied standing = Forbidden
second_of_approval Aac replied standing =
    if standing.card_blocked || standing.blocked then Blocked else decline_reason replied standing.authenticated

abbrev pub second_of_decline : Kind → CardReason
second_of_decline Aac = Asked
second_of_decline Tc = Forbidden
second_of_decline Arqc = Forbidden

-- why the second cryptogram is of the kind that it is
abbrev pub second_card_reason : Kind → Kind → Bool → Standing → CardReason
second_card_reason Tc answered replied standing = second_of_approval answered replied standing
second_card_reason Aac answered replied standing = second_of_decline answered
second_card_reason Arqc answered replied standing = second_of_decline answered

-- a reason that rests on the issuer
abbrev pub by_issuer_words : CardReason → List Piece
by_issuer_words Authenticated = text (codes "; the issuer is authenticated")
by_issuer_words RefusedByStatus = text (codes "; the issuer is authenticated, and its card status update doesn't approve")
by_issuer_words WrongCryptogram = text (codes "; the issuer isn't authenticated: its response cryptogram is wrong")
by_issuer_words NoCryptogram = text (codes "; the issuer isn't authenticated: no response cryptogram came")
by_issuer_words NotDue = text (codes "; its profile has no issuer authentication")
by_issuer_words _ = []

-- a reason
abbrev pub card_reason_words : CardReason → Facts → List Piece
card_reason_words Asked facts = []
card_reason_words Forbidden facts = text (codes ", which it may not")
card_reason_words Blocked facts = text (codes "; it is blocked")
card_reason_words Passed facts = offline_approval_words true facts
card_reason_words Failed facts = offline_approval_words false facts
card_reason_words other facts = by_issuer_words other

-- a question and its answer
abbrev pub asked_and_answered : Kind → Kind → List Piece
asked_and_answered asked answered = text (codes "asked for ") ++ text (kind_name asked) ++ text (codes " it answered ") ++ text (kind_name answered)

abbrev pub asked_alone : Kind → List Piece
asked_alone asked = text (codes "asked for ") ++ text (kind_name asked) ++ text (codes " it gave no cryptogram")

-- the first question, its answer, and why, with the rule
abbrev pub first_card_words : Kind → Option Kind → Facts → List Piece
first_card_words asked None facts = asked_alone asked
first_card_words asked (Some answered) facts =
    asked_and_answered asked answered ++ card_reason_words (first_card_reason asked answered) facts ++ reference FIRST_KIND.now

-- the second question, its answer, and why, with the rule
abbrev pub second_card_words : Second → Option Kind → Facts → List Piece
second_card_words second None facts = asked_alone second.asked
second_card_words second (Some answered) facts =
    asked_and_answered second.asked answered ++ card_reason_words (second_card_reason second.asked answered second.replied second.standing) facts
    ++ reference SECOND_KIND.now
