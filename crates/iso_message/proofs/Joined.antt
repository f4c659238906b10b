-- The parts that a message and its items are written in.
use Rattle.std.proofs.Common.{◌≡◌, ℕ, List, [], ◌∷◌, ◌++◌, sym, ap, ◌∙◌, append_assoc, append-nil}
use Rattle.ber_tlv.specs.Written.{written}
use Rattle.auth_message.specs.Spelling.{spelled}
use Rattle.auth_message.proofs.Spelled.{spelled_append}

pub request_items_joined : (number icc : List (ℕ × List ℕ)) (t5f24 t9f10 : List ℕ)
    → (((([] ++ spelled number) ++ written 0x5F24 t5f24) ++ spelled icc) ++ written 0x9F10 t9f10) ≡ spelled (number ++ ((0x5F24, t5f24) ∷ (icc ++ (0x9F10, t9f10) ∷ [])))
request_items_joined number icc t5f24 t9f10 =
    simp append_assoc (sym (spelled_append number _ ∙ ap (λ b. spelled number ++ (written 0x5F24 t5f24 ++ b)) (spelled_append icc _ ∙ ap (λ b. spelled icc ++ b) (append-nil (written 0x9F10 t9f10)))))

pub present_items_joined : (number icc : List (ℕ × List ℕ)) (t9f10 : List ℕ)
    → ((([] ++ spelled number) ++ spelled icc) ++ written 0x9F10 t9f10) ≡ spelled (number ++ (icc ++ (0x9F10, t9f10) ∷ []))
present_items_joined number icc t9f10 =
    simp append_assoc (sym (spelled_append number _ ∙ ap (λ b. spelled number ++ b) (spelled_append icc _ ∙ ap (λ b. spelled icc ++ b) (append-nil (written 0x9F10 t9f10)))))

pub reversal_items_joined : (number : List (ℕ × List ℕ)) (t9f36 : List ℕ) → (([] ++ spelled number) ++ written 0x9F36 t9f36) ≡ spelled (number ++ (0x9F36, t9f36) ∷ [])
reversal_items_joined number t9f36 = sym (spelled_append number _ ∙ ap (λ b. spelled number ++ b) (append-nil (written 0x9F36 t9f36)))

-- a type, a bitmap and nine fields, and eight
pub nine_joined : (t b f1 f2 f3 f4 f5 f6 f7 f8 f9 : List ℕ)
    → (((((((((([] ++ t) ++ b) ++ f1) ++ f2) ++ f3) ++ f4) ++ f5) ++ f6) ++ f7) ++ f8) ++ f9 ≡ t ++ (b ++ (f1 ++ (f2 ++ (f3 ++ (f4 ++ (f5 ++ (f6 ++ (f7 ++ (f8 ++ (f9 ++ []))))))))))
nine_joined t b f1 f2 f3 f4 f5 f6 f7 f8 f9 = simp (append_assoc, append-nil)

pub eight_joined : (t b f1 f2 f3 f4 f5 f6 f7 f8 : List ℕ)
    → ((((((((([] ++ t) ++ b) ++ f1) ++ f2) ++ f3) ++ f4) ++ f5) ++ f6) ++ f7) ++ f8 ≡ t ++ (b ++ (f1 ++ (f2 ++ (f3 ++ (f4 ++ (f5 ++ (f6 ++ (f7 ++ (f8 ++ [])))))))))
eight_joined t b f1 f2 f3 f4 f5 f6 f7 f8 = simp (append_assoc, append-nil)

pub reply_joined : (t b code content : List ℕ) → ((([] ++ t) ++ b) ++ code) ++ content ≡ t ++ (b ++ (code ++ (content ++ [])))
reply_joined t b code content = simp (append_assoc, append-nil)
