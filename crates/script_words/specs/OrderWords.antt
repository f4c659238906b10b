-- The words that order a script command: `block`, `unblock`, `card_block`, `pin_unblock`, `pin DIGITS`,
-- `count N` and `amount N`, each alone or with ` bad` behind it.
use Rattle.std.specs.Prelude.{ℕ, ◌-◌, Bool, true, false, if◌then◌else◌, List, length, take, drop, codes, Option, Some, None}
use Rattle.std.specs.Option.{option_map}
use Rattle.std.specs.Str.{bytes_eq}
use Rattle.emv_dict.specs.Settings.{most_amount}
use Rattle.script_words.specs.Numeral.{pin_in_text, numeral_of}
use Rattle.script_words.specs.declared.script.Word.{Word}
use Rattle.script_words.specs.declared.script.Word.TheVariants.{Block, Unblock, CardBlock, PinUnblock, Pin, Count, Amount}
use Rattle.script_words.specs.declared.script.Ordered.{Ordered}

-- what stands behind this front, where the text begins with it
unfoldable pub behind : List ℕ → List ℕ → Option (List ℕ)
behind front text = (if bytes_eq (take (length front) text) front then Some (drop (length front) text) else None)

-- what stands before this end, where the text ends with it
unfoldable pub before : List ℕ → List ℕ → Option (List ℕ)
before end text =
    (if bytes_eq (drop (length text - length end) text) end then Some (take (length text - length end) text) else None)

-- what the first reading gives where there is one, else the other
abbrev pub either : Option (List ℕ) → (List ℕ → Option Word) → Option Word → Option Word
either (Some rest) reading other = reading rest
either None reading other = other

abbrev pub pin_word : List ℕ → Option Word
pin_word text = option_map Pin (pin_in_text text)

abbrev pub count_word : List ℕ → Option Word
count_word text = option_map Count (numeral_of 255 text)

abbrev pub amount_word : List ℕ → Option Word
amount_word text = option_map Amount (numeral_of most_amount text)

-- a word with its argument, one space between them
unfoldable pub word_with_argument : List ℕ → Option Word
word_with_argument text =
    either (behind (codes "pin ") text) pin_word
    (either (behind (codes "count ") text) count_word
    (either (behind (codes "amount ") text) amount_word None))

unfoldable pub word_of : List ℕ → Option Word
word_of text =
    if bytes_eq text (codes "block") then Some Block
    else if bytes_eq text (codes "unblock") then Some Unblock
    else if bytes_eq text (codes "card_block") then Some CardBlock
    else if bytes_eq text (codes "pin_unblock") then Some PinUnblock
    else word_with_argument text

abbrev pub ordered : Bool → Option Word → Option Ordered
ordered bad word = option_map (λ w. record { word = w; bad = bad }) word

abbrev pub by_end : Option (List ℕ) → List ℕ → Option Ordered
by_end (Some front) text = ordered true (word_of front)
by_end None text = ordered false (word_of text)

-- the order that a text gives, where it is in the grammar
unfoldable pub order_of : List ℕ → Option Ordered
order_of text = by_end (before (codes " bad") text) text
