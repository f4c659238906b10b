-- A plaintext PIN block, read behind its first byte.
use Rattle.std.proofs.Common.{◌≡◌, ℕ, ◌-◌, ◌≤◌, true, List, [], ◌∷◌, ◌++◌, length, get_or, take, drop, codes, sym, ap, subst, arith}
use Rattle.std.proofs.lemmas.List.{take_all}
use Rattle.report_lines.specs.Pieces.{text}
use Rattle.value_words.specs.Digits.{digits_words}
use Rattle.value_words.specs.Plain.{or_nothing}
use Rattle.exchange_words.specs.Commands.{is_pin_block, pin_words}

told_behind : (control : ℕ) (digits same : List ℕ) → same ≡ digits → is_pin_block control same ≡ true
    → pin_words (control ∷ digits) ≡ text (codes ": plaintext PIN ") ++ or_nothing (digits_words same)
told_behind control digits same e is =
    let block : is_pin_block control digits ≡ true = subst (λ (ds : List ℕ). is_pin_block control ds ≡ true) e is in
    rw block (ap (λ (ds : List ℕ). text (codes ": plaintext PIN ") ++ or_nothing (digits_words ds)) (sym e))

-- a block that is one
pub pin-told : (block : List ℕ) → 1 ≤ length block → is_pin_block (get_or block 0 0) (take (length block - 1) (drop 1 block)) ≡ true
    → pin_words block ≡ text (codes ": plaintext PIN ") ++ or_nothing (digits_words (take (length block - 1) (drop 1 block)))
pin-told [] some is = absurd (omega arith)
pin-told (control ∷ digits) some is =
    told_behind control digits (take (length (control ∷ digits) - 1) digits) (take_all (length (control ∷ digits) - 1) digits (omega arith)) is
