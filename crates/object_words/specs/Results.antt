-- Terminal verification results bit by bit, with the action codes that have each bit (EMV 4.3 Book 3 section 10.7 and
-- Annex C5).
use Rattle.std.specs.Prelude.{ℕ, ◌+◌, ◌-◌, ◌*◌, ◌/◌, ◌%◌, ◌^◌, ◌==◌, Bool, true, false, ◌||◌, if◌then◌else◌, List, [], ◌++◌, map, codes, Option, Some, None, option_map}
use Rattle.std.specs.Borrow.{Bor}
use Rattle.report_lines.specs.Pieces.{Piece, line, text, number, reference_or_none}
use Rattle.report_lines.specs.References.{result_reference}
use Rattle.report_lines.specs.Bits.{has_bit, bits_told_from, bits_between}
use Rattle.report_lines.specs.Tables.{word_in}
use Rattle.value_words.specs.declared.bits.TheConstants.{RESULT_BITS}
use Rattle.value_words.specs.declared.asking.Row.{Row}
use Rattle.object_words.specs.declared.style.KnownCodes.{KnownCodes}
use Rattle.object_words.specs.declared.phrases.TheConstants.{IN_NO_CARD_CODE}

-- the words of a bit by its number, BYTE times ten plus BIT
unfoldable pub result_word : ℕ → Option (List ℕ)
result_word bit = word_in (map (λ w. (w.0, w.1.now)) RESULT_BITS) bit

abbrev pub behind_blank : Option (List ℕ) → List Piece
behind_blank None = []
behind_blank (Some word) = text (codes " ") ++ text word

-- a bit of 40 by its place from 0 at the left: byte and bit, its words, and where it stands
abbrev pub result_bit_words : ℕ → List Piece
result_bit_words place =
    number (place / 8 + 1) ++ text (codes ".") ++ number (8 - place % 8)
    ++ behind_blank (result_word (place / 8 * 10 + 10 + (8 - place % 8)))
    ++ reference_or_none (result_reference (place / 8 * 10 + 10 + (8 - place % 8)))

-- a code that has the bit, behind others or first
abbrev pub holder_words : Bool → Bool → List ℕ → List Piece
holder_words told holds name = (if holds then (if told then text (codes ", ") else text (codes "in ")) ++ text name else [])

-- a code of the card, which has every bit where it is absent
abbrev pub card_holds : Option ℕ → ℕ → Bool
card_holds None place = true
card_holds (Some code) place = has_bit 40 code place

abbrev pub card_words : Bool → Option ℕ → ℕ → List ℕ → List Piece
card_words told None place name = holder_words told true name ++ text (codes " absent")
card_words told (Some code) place name = holder_words told (has_bit 40 code place) name

-- a denial code that the card does not give has no bit
abbrev pub denies : Option ℕ → ℕ → Bool
denies None place = false
denies (Some code) place = has_bit 40 code place

-- the terminal's codes, and where no code has the bit
abbrev pub row_words : Bool → Row → ℕ → List Piece
row_words told row place =
    let denial = has_bit 40 row.denial place in
    let online = has_bit 40 row.online place in
    let default = has_bit 40 row.default place in
    holder_words told denial (codes "terminal denial")
    ++ holder_words (told || denial) online (codes "terminal online")
    ++ holder_words (told || denial || online) default (codes "terminal default")
    ++ (if told || denial || online || default then [] else text (codes "in no code"))

abbrev pub row_or_none : Bool → Option Row → ℕ → List Piece
row_or_none told None place = (if told then [] else text IN_NO_CARD_CODE.now)
row_or_none told (Some row) place = row_words told row place

-- the codes that have the bit, those of the card first
abbrev pub holders_words : ℕ → KnownCodes → List Piece
holders_words place known =
    let denial = denies known.card.denial place in
    let online = card_holds known.card.online place in
    let default = card_holds known.card.default place in
    text (codes ": ")
    ++ holder_words false denial (codes "denial 9F0E")
    ++ card_words denial known.card.online place (codes "online 9F0F")
    ++ card_words (denial || online) known.card.default place (codes "default 9F0D")
    ++ row_or_none (denial || online || default) known.row place

-- the codes behind a reference
abbrev pub codes_held : Option (Bor KnownCodes) → Option KnownCodes
codes_held known = option_map (λ codes. codes.now) known

abbrev pub known_words : ℕ → Option KnownCodes → List Piece
known_words place None = []
known_words place (Some known) = holders_words place known

-- a bit in a line of its own, with the codes that have it where they are known
abbrev pub result_line : ℕ → Option KnownCodes → ℕ → List Piece
result_line level known place = line level ++ result_bit_words place ++ known_words place known

-- each bit that is set in a line of its own
abbrev pub result_lines : ℕ → ℕ → Option KnownCodes → List Piece
result_lines results level known = bits_told_from 40 [] (result_line level known) results true 0 40

-- each bit that is set in one line
abbrev pub tvr_bits_words : ℕ → List Piece
tvr_bits_words results = bits_between 40 (text (codes "; ")) result_bit_words results

-- the same, or `no bit`
abbrev pub results_words : ℕ → List Piece
results_words results = (if results % 2 ^ 40 == 0 then text (codes "no bit") else tvr_bits_words results)
