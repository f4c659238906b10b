-- A block that went to the issuer, and its reading.
use Rattle.std.proofs.Common.{◌≡◌, ℕ, ◌+◌, ◌-◌, List, [], ◌∷◌, ◌++◌, length, take, drop, replicate, Option, Some, None, IfSome, sym, ◌∙◌, ap, arith, append_assoc, length-append}
use Rattle.std.proofs.lemmas.List.{take_at, drop_at}
use Rattle.emv_dict.specs.Nibbles.{packed}
use Rattle.triple_des.specs.Bits.{xor_bytes}
use Rattle.triple_des.specs.TripleDes.{tdes, untdes}
use Rattle.triple_des.proofs.Undone.{IsBlock}
use Rattle.pin_block.specs.Block.{IsPin, block_of}
use Rattle.pin_block.specs.Online.{account_digits, account_field, online_of}
use Rattle.pin_block.proofs.Blocks.{xor_bytes-xor_bytes, added, pin_block}
use Rattle.triple_des.proofs.Ciphered.{untdes-tdes}

-- a PIN whose block was found in the deciphered one is that of the enciphered one
pub online_found : (key bytes pan pin deciphered account sum : List ℕ)
    → tdes key deciphered ≡ bytes → account ≡ account_field pan → sum ≡ xor_bytes deciphered account → length deciphered ≡ length account
    → block_of 0 pin ≡ sum → online_of key pin pan ≡ bytes
unfolding online_of
online_found key bytes pan pin deciphered account sum undone is_account is_sum same_size found =
    ap (λ (b : List ℕ). tdes key (xor_bytes b (account_field pan))) (found ∙ is_sum)
    ∙ ap (λ (b : List ℕ). tdes key (xor_bytes (xor_bytes deciphered account) b)) (sym is_account)
    ∙ ap (λ (b : List ℕ). tdes key b) (xor_bytes-xor_bytes deciphered account same_size)
    ∙ undone

-- what the deciphered block says is the PIN's block
pub online_read : (key bytes pan pin deciphered account sum : List ℕ)
    → deciphered ≡ untdes key bytes → account ≡ account_field pan → IsBlock account → sum ≡ xor_bytes deciphered account
    → IsPin pin → online_of key pin pan ≡ bytes → block_of 0 pin ≡ sum
unfolding online_of
online_read key bytes pan pin deciphered account sum is_deciphered is_account block is_sum is same =
    let plain : IsBlock (block_of 0 pin) = pin_block 0 pin (omega arith) is in
    let whole : List ℕ = xor_bytes (block_of 0 pin) account in
    let sent : tdes key whole ≡ bytes = ap (λ (b : List ℕ). tdes key (xor_bytes (block_of 0 pin) b)) is_account ∙ same in
    let back : deciphered ≡ whole =
    is_deciphered ∙ ap (λ (b : List ℕ). untdes key b) (sym sent) ∙ untdes-tdes key whole (added (block_of 0 pin) account plain block) in
    sym (is_sum ∙ ap (λ (b : List ℕ). xor_bytes b account) back ∙ xor_bytes-xor_bytes (block_of 0 pin) account (plain.long ∙ sym block.long))

-- a weaker fact of the value, if there is one
pub if_some_weaker : (P Q : List ℕ → Type 0) (found : Option (List ℕ)) → ((pin : List ℕ) → P pin → Q pin) → IfSome found P → IfSome found Q
if_some_weaker P Q (Some pin) weaker holds = weaker pin holds
if_some_weaker P Q None weaker holds = holds

-- the account number field in other words
twelve_digits : (pan front twelve : List ℕ) (check : ℕ) → length twelve ≡ 12 → pan ≡ front ++ twelve ++ check ∷ []
    → account_digits pan ≡ 0 ∷ 0 ∷ 0 ∷ 0 ∷ twelve
twelve_digits pan front twelve check dozen is =
    let behind : List ℕ = twelve ++ check ∷ [] in
    let whole : pan ≡ front ++ behind = is ∙ append_assoc front twelve (check ∷ []) in
    let size : length (front ++ behind) ≡ length front + length behind = length-append front behind in
    let tail : length behind ≡ length twelve + 1 = length-append twelve (check ∷ []) in
    let long : length pan ≡ length (front ++ behind) = ap length whole in
    let at : length front ≡ length pan - 13 = omega arith in
    ap (λ (ds : List ℕ). replicate 4 0 ++ take 12 ds) (ap (λ (ds : List ℕ). drop (length pan - 13) ds) whole ∙ drop_at front behind (length pan - 13) at)
    ∙ ap (λ (ds : List ℕ). replicate 4 0 ++ ds) (take_at twelve (check ∷ []) 12 dozen)

pub field_covers : (pan front twelve : List ℕ) (check : ℕ) → length twelve ≡ 12 → pan ≡ front ++ twelve ++ check ∷ []
    → account_field pan ≡ packed (0 ∷ 0 ∷ 0 ∷ 0 ∷ twelve)
unfolding account_field
field_covers pan front twelve check dozen is = ap packed (twelve_digits pan front twelve check dozen is)
