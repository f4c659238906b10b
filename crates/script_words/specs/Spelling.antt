-- The text of each order: what a text in the grammar is, and whose text it is.
use Rattle.std.specs.Prelude.{ℕ, ◌+◌, ◌≤◌, ⊤, Bool, true, false, List, ◌++◌, map, codes, decimal}
use Rattle.emv_dict.specs.Digits.{AllDecimal, HasPinLength}
use Rattle.emv_dict.specs.Settings.{most_amount}
use Rattle.script_words.specs.declared.script.Word.{Word}
use Rattle.script_words.specs.declared.script.Word.TheVariants.{Block, Unblock, CardBlock, PinUnblock, Pin, Count, Amount}
use Rattle.script_words.specs.declared.script.Ordered.{Ordered}

-- a word that can be ordered: a PIN has 4 to 12 digits, an amount at most 12
abbrev pub IsWord : Word → Type 0
IsWord Block = ⊤
IsWord Unblock = ⊤
IsWord CardBlock = ⊤
IsWord PinUnblock = ⊤
IsWord (Pin digits) = HasPinLength digits × AllDecimal digits
IsWord (Count limit) = limit ≤ 255
IsWord (Amount limit) = limit ≤ most_amount

-- a word and its argument, one space between them
abbrev pub word_text : Word → List ℕ
word_text Block = codes "block"
word_text Unblock = codes "unblock"
word_text CardBlock = codes "card_block"
word_text PinUnblock = codes "pin_unblock"
word_text (Pin digits) = codes "pin " ++ map (λ d. d + 48) digits
word_text (Count limit) = codes "count " ++ decimal limit
word_text (Amount limit) = codes "amount " ++ decimal limit

-- ` bad` stands behind a command whose code is made wrong
abbrev pub marked_bad : Bool → List ℕ → List ℕ
marked_bad true text = text ++ codes " bad"
marked_bad false text = text

-- the text of an order, with ` bad` behind it where its code is made wrong
abbrev pub order_text : Ordered → List ℕ
order_text order = marked_bad order.bad (word_text order.word)
