-- A reply that is written with plain scripts is read with them, or not at all.
use Rattle.std.proofs.Common.{◌≡◌, ℕ, ◌+◌, ◌-◌, ◌==◌, ◌||◌, Bool, true, false, if◌then◌else◌, List, [], ◌∷◌, ◌++◌, length, take, drop, Option, Some, None, Result, Ok, Err, refl, ap, sym, subst, ◌∙◌, arith, append_assoc, append-nil, length-append}
use Rattle.std.specs.Prelude.{slice_range}
use Rattle.std.specs.List.{All}
use Rattle.std.proofs.lemmas.Bool.Decides.{nat_tests}
use Rattle.std.proofs.lemmas.List.{take_at, drop_at}
use Rattle.auth_message.proofs.Opened.{stands_at}
use Rattle.auth_message.proofs.Spelled.{placed, is_tag, are_tags, optional_front, spelled_append, field_step, header, in_parts, fields_read}
use Rattle.auth_message.proofs.Templates.{are_templates}
use Rattle.auth_message.specs.Field.{wrong_field, is_fixed, fixed_value, is_between, some_value}
use Rattle.auth_message.specs.Fields.{◌>>=◌, field_given, behind_field, required_field, fixed_at, no_item_left}
use Rattle.auth_message.specs.Reply.{ReplyData, auth_at, leading_templates as next_templates, behind_templates, place_behind, place_behind_item, end_behind, bytes_of_items, are_few_templates, scripts_in_items, reply_at, reply_of}
use Rattle.auth_message.specs.Spelling.{optional, spelled, reply_fields, reply_bytes}
use Rattle.auth_message.specs.declared.fault.MessageFault.{MessageFault}
use Rattle.ber_tlv.proofs.ReadAgain.{both}
use Rattle.ber_tlv.specs.Item.{ItemData}
use Rattle.ber_tlv.specs.Written.{written}
use Rattle.dialogue_laws.proofs.MadeScripts.{HoldsPlain, templates_plain}
use Rattle.dialogue_laws.specs.UncutPurchase.{IsPlainScript, IsPlainReply}
use Rattle.terminal_state.specs.Scripts.{templates_of_tag}

-- where the last of some fields ends
ends_spelled : (fields : List (ℕ × List ℕ)) (front rest bytes : List ℕ) → are_tags fields ≡ true → bytes ≡ front ++ (spelled fields ++ rest)
    → end_behind bytes (length front) (placed (length front) fields) ≡ length front + length (spelled fields)
ends_spelled [] front rest bytes are same = omega arith
ends_spelled (field ∷ fields) front rest bytes are same =
    let facts = both (is_tag field.0) (are_tags fields) are in
    let this = written field.0 field.1 in
    let again : bytes ≡ (front ++ this) ++ (spelled fields ++ rest) = same ∙ simp append_assoc in
    let here : bytes ≡ front ++ (this ++ (spelled fields ++ rest)) = same ∙ simp append_assoc in
    let next : length (front ++ this) ≡ length front + length this = length-append front this in
    let step = field_step front (spelled fields ++ rest) bytes field.0 field.1 facts.0 here in
    let stands : place_behind_item bytes (record { tag = field.0; value = field.1; start = length front }) ≡ length front + length this =
    ap place_behind (stands_at bytes bytes (length front) (record { tag = field.0; value = field.1; start = length front }) (length front + length this) refl step) in
    ap (λ (n : ℕ). end_behind bytes n (placed (length front + length this) fields)) stands
    ∙ ap (λ (n : ℕ). end_behind bytes n (placed n fields)) (sym next) ∙ ends_spelled fields (front ++ this) rest bytes facts.1 again ∙ omega (arith, length-append this (spelled fields))

-- the bytes of fields are those that they were spelled with
bytes_spelled : (fields : List (ℕ × List ℕ)) (front bytes : List ℕ) → are_tags fields ≡ true → bytes ≡ front ++ (spelled fields ++ []) → bytes_of_items bytes (placed (length front) fields) ≡ spelled fields
bytes_spelled [] front bytes are same = refl
bytes_spelled (field ∷ fields) front bytes are same =
    let all = field ∷ fields in
    let end = ends_spelled all front [] bytes are same in
    let count : (length front + length (spelled all)) - length front ≡ length (spelled all) = omega arith in
    let from : drop (length front) bytes ≡ spelled all ++ [] = ap (drop (length front)) same ∙ drop_at front (spelled all ++ []) (length front) refl in
    ap (λ (n : ℕ). slice_range bytes (length front) n) end
    ∙ ap (λ (n : ℕ). take n (drop (length front) bytes)) count
    ∙ ap (take (length (spelled all))) from
    ∙ take_at (spelled all) [] (length (spelled all)) refl

are_next : (place : ℕ) (fields : List (ℕ × List ℕ)) → are_templates fields ≡ true → next_templates (placed place fields) ≡ placed place fields
are_next place [] are = refl
are_next place (field ∷ fields) are =
    let facts = both (field.0 == 0x71 || field.0 == 0x72) (are_templates fields) are in
    rw facts.0 (ap (λ (items : List ItemData). record { tag = field.0; value = field.1; start = place } ∷ items) (are_next (place + length (written field.0 field.1)) fields facts.1))

-- a value and the items behind it, or a fault
abbrev read_if : {A : Type 0} → Bool → A → List ItemData → MessageFault → Result (A × List ItemData) MessageFault
read_if true value left fault = Ok (value, left)
read_if false value left fault = Err fault

-- the reply, with the scripts that were read, where nothing stands behind them
abbrev with_scripts : List ℕ → Option (List ℕ) → Result (List ℕ × List ItemData) MessageFault → Result ReplyData MessageFault
with_scripts code auth read = read >>= λ scripts. no_item_left scripts.1 >>= λ end. Ok (record { code = code; auth = auth; scripts = scripts.0 })

plain_ended : (left : List ItemData) (code : List ℕ) (auth : Option (List ℕ)) (scripts : List ℕ) → All IsPlainScript (templates_of_tag 0x71 scripts) → IsPlainReply (with_scripts code auth (Ok (scripts, left)))
plain_ended [] code auth scripts plain = plain
plain_ended (item ∷ items) code auth scripts plain = tt

module _ (fields : List (ℕ × List ℕ)) (tags : are_tags fields ≡ true) (are : are_templates fields ≡ true) (plain : All HoldsPlain fields) where
  scripts_read : (bytes front : List ℕ) (code : List ℕ) (auth : Option (List ℕ)) → bytes ≡ front ++ (spelled fields ++ []) → IsPlainReply (with_scripts code auth (scripts_in_items bytes (placed (length front) fields)))
  unfolding scripts_in_items
  scripts_read bytes front code auth same =
      let items = placed (length front) fields in
      let again : bytes_of_items bytes (next_templates items) ≡ spelled fields = ap (bytes_of_items bytes) (are_next (length front) fields are) ∙ bytes_spelled fields front bytes tags same in
      by items (bytes_of_items bytes (next_templates items)) again (are_few_templates (next_templates items) (bytes_of_items bytes (next_templates items)))
    where
      by : (items : List ItemData) (scripts : List ℕ) → scripts ≡ spelled fields → (few : Bool)
          → IsPlainReply (with_scripts code auth (if few then Ok (scripts, behind_templates items) else Err (wrong_field 0x71)))
      by items scripts is true = plain_ended (behind_templates items) code auth scripts (subst (λ (s : List ℕ). All IsPlainScript (templates_of_tag 0x71 s)) (sym is) (templates_plain fields tags plain))
      by items scripts is false = tt

  -- a template is no issuer authentication data
  no_auth : (place : ℕ) → (field_given 0x91 (placed place fields) ≡ None) × (behind_field 0x91 (placed place fields) ≡ placed place fields)
  no_auth place = among fields are
    where
      among : (fields : List (ℕ × List ℕ)) → are_templates fields ≡ true → (field_given 0x91 (placed place fields) ≡ None) × (behind_field 0x91 (placed place fields) ≡ placed place fields)
      among [] are = (refl, refl)
      among (field ∷ fields) are =
          let facts = both (field.0 == 0x71 || field.0 == 0x72) (are_templates fields) are in
          let is : (field.0 == 0x71 || field.0 == 0x72) ≡ true = facts.0 in
          let other : (field.0 == 0x91) ≡ false = grind (arith, nat_tests) in
          (rw other refl, rw other refl)

  -- what stands behind the code
  abbrev with_auth : List ℕ → List ℕ → Result (Option (List ℕ) × List ItemData) MessageFault → Result ReplyData MessageFault
  with_auth bytes code read = read >>= λ auth. with_scripts code auth.0 (scripts_in_items bytes auth.1)

  auth_is : (place : ℕ) (value : List ℕ) (between : Bool) → is_between 8 16 value ≡ between
      → auth_at (placed place (optional 0x91 (Some value) ++ fields)) ≡ read_if between (Some value) (placed (place + length (written 0x91 value)) fields) (wrong_field 0x91)
  unfolding auth_at some_value
  auth_is place value true is = rw is refl
  auth_is place value false is = rw is refl

  none_is : (place : ℕ) → auth_at (placed place fields) ≡ Ok (None, placed place fields)
  unfolding auth_at
  none_is place = let none = no_auth place in rw (none.0, none.1) refl

  auth_read : (bytes front code : List ℕ) (auth : Option (List ℕ)) → bytes ≡ front ++ (spelled (optional 0x91 auth ++ fields) ++ []) → IsPlainReply (with_auth bytes code (auth_at (placed (length front) (optional 0x91 auth ++ fields))))
  auth_read bytes front code None same =
      subst (λ r. IsPlainReply (with_auth bytes code r)) (sym (none_is (length front))) (scripts_read bytes front code None same)
  auth_read bytes front code (Some value) same = by (is_between 8 16 value) refl
    where
      behind_it : bytes ≡ (front ++ written 0x91 value) ++ (spelled fields ++ [])
      behind_it = same ∙ simp append_assoc

      read : (between : Bool) → IsPlainReply (with_auth bytes code (read_if between (Some value) (placed (length front + length (written 0x91 value)) fields) (wrong_field 0x91)))
      read true = subst (λ (n : ℕ). IsPlainReply (with_scripts code (Some value) (scripts_in_items bytes (placed n fields)))) (length-append front (written 0x91 value))
          (scripts_read bytes (front ++ written 0x91 value) code (Some value) behind_it)
      read false = tt

      by : (between : Bool) → is_between 8 16 value ≡ between → IsPlainReply (with_auth bytes code (auth_at (placed (length front) (optional 0x91 (Some value) ++ fields))))
      by between is = subst (λ r. IsPlainReply (with_auth bytes code r)) (sym (auth_is (length front) value between is)) (read between)

  -- what stands behind the start
  abbrev with_code : List ℕ → Result (List ℕ × List ItemData) MessageFault → Result ReplyData MessageFault
  with_code bytes read = read >>= λ code. with_auth bytes code.0 (auth_at code.1)

  code_is : (place : ℕ) (code : List ℕ) (auth : Option (List ℕ)) (two : Bool) → is_fixed 2 false code ≡ two
      → fixed_at 2 false 0x8A (placed place (reply_fields code auth ++ fields)) ≡ read_if two code (placed (place + length (written 0x8A code)) (optional 0x91 auth ++ fields)) (wrong_field 0x8A)
  unfolding fixed_at required_field fixed_value
  code_is place code auth true is = rw is refl
  code_is place code auth false is = rw is refl

  code_read : (bytes front code : List ℕ) (auth : Option (List ℕ)) → bytes ≡ front ++ (spelled (reply_fields code auth ++ fields) ++ []) → IsPlainReply (reply_at bytes (placed (length front) (reply_fields code auth ++ fields)))
  unfolding reply_at
  code_read bytes front code auth same = by (is_fixed 2 false code) refl
    where
      behind_it : bytes ≡ (front ++ written 0x8A code) ++ (spelled (optional 0x91 auth ++ fields) ++ [])
      behind_it = same ∙ simp append_assoc

      read : (two : Bool) → IsPlainReply (with_code bytes (read_if two code (placed (length front + length (written 0x8A code)) (optional 0x91 auth ++ fields)) (wrong_field 0x8A)))
      read true = subst (λ (n : ℕ). IsPlainReply (with_auth bytes code (auth_at (placed n (optional 0x91 auth ++ fields))))) (length-append front (written 0x8A code))
          (auth_read bytes (front ++ written 0x8A code) code auth behind_it)
      read false = tt

      by : (two : Bool) → is_fixed 2 false code ≡ two → IsPlainReply (with_code bytes (fixed_at 2 false 0x8A (placed (length front) (reply_fields code auth ++ fields))))
      by two is = subst (λ r. IsPlainReply (with_code bytes r)) (sym (code_is (length front) code auth two is)) (read two)

  -- a reply of these scripts
  pub plain_reply : (code : List ℕ) (auth : Option (List ℕ)) → IsPlainReply (reply_of (reply_bytes code auth (spelled fields)))
  unfolding reply_bytes
  plain_reply code auth =
      let all = reply_fields code auth ++ fields in
      let whole : spelled (reply_fields code auth) ++ spelled fields ≡ spelled all = sym (spelled_append (reply_fields code auth) fields) in
      let bytes = written 0xE2 (spelled all) in
      let same : bytes ≡ header 0xE2 (spelled all) ++ (spelled all ++ []) = in_parts 0xE2 (spelled all) ∙ ap (λ (b : List ℕ). header 0xE2 (spelled all) ++ b) (sym (append-nil (spelled all))) in
      let are_all : are_tags all ≡ true = optional_front 0x91 auth fields refl tags in
      subst (λ (content : List ℕ). IsPlainReply (reply_of (written 0xE2 content))) (sym whole)
      (subst (λ r. IsPlainReply (r >>= λ outer. reply_at bytes outer.1)) (sym (fields_read (0xE2 ∷ []) 0xE2 all refl refl are_all))
      (code_read bytes (header 0xE2 (spelled all)) code auth same))
