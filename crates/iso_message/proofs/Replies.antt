-- A reply that is written is read back, and one that was read has one spelling and may be written.
use Rattle.std.proofs.Common.{◌≡◌, ℕ, Bool, true, false, ◌||◌, ◌==◌, IfSome, ◌+◌, ◌-◌, ◌<◌, ◌≤◌, nat_le, List, [], ◌∷◌, ◌++◌, take, drop, length, Option, Some, None, Ok, Err, Result, MatchResult, IfOk, refl, sym, ap, ◌∙◌, subst, suc, arith, append-nil}
use Rattle.std.specs.Prelude.{slice_range}
use Rattle.std.proofs.Math.Seq.{drop-append_seam}
use Rattle.std.proofs.lemmas.Bool.{le-leb}
use Rattle.std.proofs.lemmas.Bool.Decides.{nat_tests}
use Rattle.ber_tlv.specs.Item.{ItemData}
use Rattle.ber_tlv.specs.Left.{items_of}
use Rattle.ber_tlv.specs.Written.{written}
use Rattle.ber_tlv.proofs.ReadAgain.{both}
use Rattle.auth_message.specs.declared.fault.MessageFault.{MessageFault}
use Rattle.auth_message.specs.Field.{some_value, is_between}
use Rattle.auth_message.specs.Fields.{no_item_left}
use Rattle.auth_message.specs.Reply.{ReplyData, auth_at, names_script, is_template, leading_templates, behind_templates, bytes_of_items, are_few_templates, scripts_in_items, end_behind}
use Rattle.auth_message.specs.Spelling.{optional, spelled}
use Rattle.auth_message.specs.Whole.{AreSpelledScripts}
use Rattle.auth_message.proofs.Spelled.{placed, are_tags, optional_front, spelled_append, take_whole}
use Rattle.auth_message.proofs.Templates.{are_templates, templates_tags, ends_placed}
use Rattle.iso_message.specs.declared.fault.IsoFault.{IsoFault}
use Rattle.iso_message.specs.declared.kind.CallKind.{CallKind}
use Rattle.iso_message.specs.Items.{reply_items, reply_with_code}
use Rattle.iso_message.specs.Layout.{reply_type, bitmap, reply_numbers}
use Rattle.iso_message.specs.Left.{Left, part_at, bits_at, items_at, in_55, nothing_left}
use Rattle.iso_message.specs.Pairs.{pairs}
use Rattle.iso_message.specs.Reading.{call_kind_at, unread_message}
use Rattle.iso_message.specs.Reply.{iso_reply_at, reply_from, iso_reply_of}
use Rattle.iso_message.specs.Spelling.{iso_reply_bytes}
use Rattle.iso_message.specs.Text.{with_length}
use Rattle.iso_message.proofs.Calls.{reply_kind_again, kind_spelled}
use Rattle.iso_message.proofs.Fronts.{bitmap_size}
use Rattle.iso_message.proofs.ItemsSpelled.{some_by, took, took_none, took_some, none_taken, not_taken, none_left}
use Rattle.iso_message.proofs.Numerals.{at_most}
use Rattle.iso_message.proofs.Parts.{left, part_again, part_spelled, bits_again, bits_spelled, fields_of, items_again, items_spelled, nothing_spelled}
use Rattle.iso_message.proofs.Steps.{made_of, read_of, same_read, same_made, from_55}

abbrev pub IsAuth : List ℕ → Type 0
IsAuth value = (8 ≤ length value) × (length value ≤ 16)

-- no template is a 91
other_tag : (tag : ℕ) (a b : Bool) → (tag == 0x71) ≡ a → (tag == 0x72) ≡ b → (a || b) ≡ true → (tag == 0x91) ≡ false
other_tag tag true b one two is = let same : tag ≡ 0x71 = grind (arith, nat_tests) in rw same refl
other_tag tag false true one two is = let same : tag ≡ 0x72 = grind (arith, nat_tests) in rw same refl
other_tag tag false false one two is = cc

-- where the scripts begin
abbrev pub behind_auth : ℕ → Option (List ℕ) → ℕ
behind_auth place auth = place + length (spelled (optional 0x91 auth))

no_auth : (place : ℕ) (fields : List (ℕ × List ℕ)) → are_templates fields ≡ true → auth_at (placed place fields) ≡ Ok (None, placed place fields)
unfolding auth_at
no_auth place [] all = refl
no_auth place (field ∷ fields) all =
    let first = (both (names_script field.0) _ all).0 in
    rw (other_tag field.0 _ _ refl refl first) refl

some_auth : (place : ℕ) (value : List ℕ) (fields : List (ℕ × List ℕ)) → IsAuth value → auth_at (placed place ((0x91, value) ∷ fields)) ≡ Ok (Some value, placed (place + length (written 0x91 value)) fields)
unfolding auth_at some_value
some_auth place value fields is = rw (le-leb 8 (length value) is.0, le-leb (length value) 16 is.1) refl

auth_again :
    (place : ℕ) (auth : Option (List ℕ)) (fields : List (ℕ × List ℕ)) → IfSome auth IsAuth → are_templates fields ≡ true
    → auth_at (placed place (optional 0x91 auth ++ fields)) ≡ Ok (auth, placed (behind_auth place auth) fields)
auth_again place None fields is all = no_auth place fields all ∙ ap (λ n. Ok (None, placed n fields)) (omega arith)
auth_again place (Some value) fields is all = some_auth place value fields is ∙ ap (λ n. Ok (Some value, placed n fields)) (omega (arith, ap length (append-nil (written 0x91 value))))

-- templates are scripts, and their bytes are what they are spelled as
templates_placed : (place : ℕ) (fields : List (ℕ × List ℕ)) → are_templates fields ≡ true → (leading_templates (placed place fields) ≡ placed place fields) × (behind_templates (placed place fields) ≡ [])
templates_placed place [] all = (refl, refl)
templates_placed place (field ∷ fields) all =
    let facts = both (names_script field.0) _ all in
    let others = templates_placed (place + length (written field.0 field.1)) fields facts.1 in
    (rw facts.0 (ap (λ (l : List ItemData). record { tag = field.0; value = field.1; start = place } ∷ l) others.0), rw facts.0 others.1)

count_placed : (place : ℕ) (fields : List (ℕ × List ℕ)) → length (placed place fields) ≡ length fields
count_placed place [] = refl
count_placed place (field ∷ fields) = ap suc (count_placed (place + length (written field.0 field.1)) fields)

range_behind : (front rest : List ℕ) (end : ℕ) → end ≡ length front + length rest → slice_range (front ++ rest) (length front) end ≡ rest
range_behind front rest end same =
    let size : end - length front ≡ length rest = omega arith in
    ap (λ n. take n (drop (length front) (front ++ rest))) size ∙ ap (take (length rest)) (drop-append_seam front rest) ∙ take_whole rest

scripts_bytes : (front : List ℕ) (fields : List (ℕ × List ℕ)) → are_tags fields ≡ true → bytes_of_items (front ++ spelled fields) (placed (length front) fields) ≡ spelled fields
scripts_bytes front [] are = refl
scripts_bytes front (field ∷ fields) are =
    let all = field ∷ fields in
    let bytes = front ++ spelled all in
    let end = ends_placed all front [] bytes are (ap (λ b. front ++ b) (sym (append-nil (spelled all)))) in
    let bare : end_behind bytes (length front) (placed (length front) all) ≡ length front + length (spelled all) =
    ap (end_behind bytes (length front)) (sym (append-nil (placed (length front) all))) ∙ end in
    range_behind front (spelled all) _ bare

scripts_again :
    (front : List ℕ) (fields : List (ℕ × List ℕ)) → are_templates fields ≡ true → length fields ≤ 8 → length (spelled fields) ≤ 1024
    → scripts_in_items (front ++ spelled fields) (placed (length front) fields) ≡ Ok (spelled fields, [])
unfolding scripts_in_items
scripts_again front fields all few short =
    let moved = templates_placed (length front) fields all in
    let bytes = scripts_bytes front fields (templates_tags fields all) in
    let count : nat_le (length (placed (length front) fields)) 8 ≡ true = le-leb _ 8 (omega (arith, count_placed (length front) fields)) in
    let size : nat_le (length (spelled fields)) 1024 ≡ true = le-leb _ 1024 short in
    rw (moved.0, moved.1, bytes, count, size) refl

-- the items of a reply
abbrev pub all_items : Option (List ℕ) → List (ℕ × List ℕ) → List (ℕ × List ℕ)
all_items auth fields = reply_items auth ++ fields

all_tags : (auth : Option (List ℕ)) (fields : List (ℕ × List ℕ)) → are_templates fields ≡ true → are_tags (all_items auth fields) ≡ true
all_tags auth fields all = optional_front 0x91 auth fields refl (templates_tags fields all)

reply_in_again :
    (code : List ℕ) (auth : Option (List ℕ)) (fields : List (ℕ × List ℕ)) → IfSome auth IsAuth → are_templates fields ≡ true → length fields ≤ 8 → length (spelled fields) ≤ 1024
    → reply_with_code code (spelled (all_items auth fields)) (placed 0 (all_items auth fields)) ≡ Ok (record { code = code; auth = auth; scripts = spelled fields })
unfolding reply_with_code
reply_in_again code auth fields is all few short =
    let front = spelled (reply_items auth) in
    let start : behind_auth 0 auth ≡ length front = omega arith in
    let first = auth_again 0 auth fields is all ∙ ap (λ n. Ok (auth, placed n fields)) start in
    let second = ap (λ b. scripts_in_items b (placed (length front) fields)) (spelled_append (reply_items auth) fields) ∙ scripts_again front fields all few short in
    rw (first, second) refl

-- what a reply is behind its type
abbrev pub reply_rest : ReplyData → List ℕ
reply_rest reply = bitmap reply_numbers ++ (reply.code ++ (with_length 4 (spelled (reply_items reply.auth) ++ reply.scripts) ++ []))

pub reply_split : (of : CallKind) (reply : ReplyData) → iso_reply_bytes of reply ≡ reply_type of ++ reply_rest reply
unfolding iso_reply_bytes
reply_split of reply = refl

reply_read :
    (place : ℕ) (reply : ReplyData) → length reply.code ≡ 2 → IfSome reply.auth IsAuth → AreSpelledScripts reply.scripts → length (spelled (reply_items reply.auth) ++ reply.scripts) < 10000
    → iso_reply_at (left place (reply_rest reply)) ≡ Ok reply
unfolding iso_reply_at
reply_read place reply two is are small =
    let fields = are.fields in
    let content : spelled (reply_items reply.auth) ++ reply.scripts ≡ spelled (all_items reply.auth fields) =
    ap (λ b. spelled (reply_items reply.auth) ++ b) are.exact ∙ sym (spelled_append (reply_items reply.auth) fields) in
    let last : List ℕ = with_length 4 (spelled (all_items reply.auth fields)) ++ [] in
    let found = reply_in_again reply.code reply.auth fields is are.templates are.few (omega (arith, are.short, ap length are.exact)) in
    ap (λ (c : List ℕ). iso_reply_at (left place (bitmap reply_numbers ++ (reply.code ++ (with_length 4 c ++ []))))) content
    ∙ rw (
      bits_again place (bitmap reply_numbers) (reply.code ++ last) (bitmap_size reply_numbers),
      part_again (place + 8) (place + 8) reply.code last 2 two,
      items_again ((place + 8) + 2) (all_items reply.auth fields) [] (all_tags reply.auth fields are.templates) (omega (arith, small, ap length content)),
      found,
    ) (ap (λ (s : List ℕ). Ok (record { code = reply.code; auth = reply.auth; scripts = s })) (sym are.exact))

pub reply_again :
    (of : CallKind) (reply : ReplyData) → length reply.code ≡ 2 → IfSome reply.auth IsAuth → AreSpelledScripts reply.scripts → length (spelled (reply_items reply.auth) ++ reply.scripts) < 10000
    → iso_reply_of (iso_reply_bytes of reply) ≡ Ok (of, reply)
unfolding reply_from
reply_again of reply two is are small =
    ap iso_reply_of (reply_split of reply) ∙ rw (reply_kind_again of (reply_rest reply), reply_read 4 reply two is are small) refl

-- 91 was taken, or none
auth_first :
    (item : ItemData) (items : List ItemData) (auth : Option (List ℕ)) (rest : List ItemData) (same : Bool) → (item.tag == 0x91) ≡ same → auth_at (item ∷ items) ≡ Ok (auth, rest)
    → (pairs (item ∷ items) ≡ optional 0x91 auth ++ pairs rest) × IfSome auth (λ v. is_between 8 16 v ≡ true)
unfolding auth_at
auth_first item items (Some value) rest true same is =
    let here = rw same at is in
    let step = read_of _ _ (Some value, rest) here in
    let inner = read_of (some_value 8 16 0x91 item.value) _ step.value step.made in
    let found : Option (List ℕ) = Some inner.value in
    let wanted : Option (List ℕ) = Some value in
    let inner_is : found ≡ step.value = same_read found step.value inner.behind in
    let last : (step.value, items) ≡ (wanted, rest) = same_read (step.value, items) (wanted, rest) step.behind in
    let first : found ≡ wanted = inner_is ∙ ap (λ (p : Option (List ℕ) × List ItemData). p.0) last in
    let value_is : inner.value ≡ value = cc in
    let rest_is : items ≡ rest = ap (λ (p : Option (List ℕ) × List ItemData). p.1) last in
    let taken = some_by 8 16 0x91 item.value value _ refl (inner.made ∙ ap Ok value_is) in
    (took 0x91 item items value rest same taken.0 rest_is, taken.1)
auth_first item items None rest true same is =
    let here = rw same at is in
    let step = read_of _ _ (None, rest) here in
    let inner = read_of (some_value 8 16 0x91 item.value) _ step.value step.made in
    let found : Option (List ℕ) = Some inner.value in
    let wanted : Option (List ℕ) = None in
    let inner_is : found ≡ step.value = same_read found step.value inner.behind in
    let last : (step.value, items) ≡ (wanted, rest) = same_read (step.value, items) (wanted, rest) step.behind in
    let first : found ≡ wanted = inner_is ∙ ap (λ (p : Option (List ℕ) × List ItemData). p.0) last in
    let never : ⊥ = cc in
    absurd never
auth_first item items (Some value) rest false same is =
    let here : took_none (item ∷ items) ≡ took_some value rest = rw same at is in
    not_taken value (item ∷ items) rest here
auth_first item items None rest false same is =
    let here : took_none (item ∷ items) ≡ took_none rest = rw same at is in
    (ap pairs (none_taken (item ∷ items) rest here), tt)

auth_taken : (items : List ItemData) (auth : Option (List ℕ)) (rest : List ItemData) → auth_at items ≡ Ok (auth, rest) → (pairs items ≡ optional 0x91 auth ++ pairs rest) × IfSome auth (λ v. is_between 8 16 v ≡ true)
unfolding auth_at
auth_taken [] (Some value) rest is = not_taken value [] rest is
auth_taken [] None rest is = (ap pairs (none_taken [] rest is), tt)
auth_taken (item ∷ items) auth rest is = auth_first item items auth rest _ refl is

sized_auth : (auth : Option (List ℕ)) → IfSome auth (λ v. is_between 8 16 v ≡ true) → IfSome auth IsAuth
sized_auth None is = tt
sized_auth (Some value) is =
    let parts = both (nat_le 8 (length value)) _ is in
    let least = parts.0 in
    let most = parts.1 in
    (grind (arith, nat_tests), grind (arith, nat_tests))

-- all that is left is templates
templates_by :
    (item : ItemData) (items : List ItemData) (is : Bool) → is_template item ≡ is → (pairs (behind_templates items) ≡ [] → (leading_templates items ≡ items) × (are_templates (pairs items) ≡ true))
    → pairs (behind_templates (item ∷ items)) ≡ [] → (leading_templates (item ∷ items) ≡ item ∷ items) × (are_templates (pairs (item ∷ items)) ≡ true)
templates_by item items true is others none =
    let here = others (rw is at none) in
    (rw is (ap (λ (l : List ItemData). item ∷ l) here.0), rw is here.1)
templates_by item items false is others none = let here = rw is at none in cc

all_templates : (items : List ItemData) → pairs (behind_templates items) ≡ [] → (leading_templates items ≡ items) × (are_templates (pairs items) ≡ true)
all_templates [] none = (refl, refl)
all_templates (item ∷ items) none = templates_by item items _ refl (all_templates items) none

scripts_by : (bytes : List ℕ) (items : List ItemData) (scripts : List ℕ) (rest : List ItemData) (few : Bool) → are_few_templates (leading_templates items) (bytes_of_items bytes (leading_templates items)) ≡ few → scripts_in_items bytes items ≡ Ok (scripts, rest)
    → (bytes_of_items bytes (leading_templates items) ≡ scripts) × (behind_templates items ≡ rest) × (few ≡ true)
unfolding scripts_in_items
scripts_by bytes items scripts rest true few is =
    let here = rw few at is in
    let same : (bytes_of_items bytes (leading_templates items), behind_templates items) ≡ (scripts, rest) = cc in
    (ap (λ (p : List ℕ × List ItemData). p.0) same, ap (λ (p : List ℕ × List ItemData). p.1) same, refl)
scripts_by bytes items scripts rest false few is = let here = rw few at is in cc

-- a reply that was read
pub record IsReplyRead (items : List ItemData) (content : List ℕ) (reply : ReplyData) : Type 0 where
  pub exact : content ≡ spelled (reply_items reply.auth) ++ reply.scripts
  pub auth : IfSome reply.auth IsAuth
  pub scripts : AreSpelledScripts reply.scripts

pairs_count : (items : List ItemData) → length (pairs items) ≡ length items
pairs_count [] = refl
pairs_count (item ∷ items) = ap suc (pairs_count items)

abbrev taken_auth : Option (List ℕ) → List ItemData → Result (Option (List ℕ) × List ItemData) MessageFault
taken_auth auth rest = Ok (auth, rest)

same_rest : (auth : Option (List ℕ)) (one other : List ItemData) → taken_auth auth one ≡ taken_auth auth other → one ≡ other
same_rest auth one other is = ap (λ (p : Option (List ℕ) × List ItemData). p.1) (same_read (auth, one) (auth, other) is)

reply_parts :
    (content : List ℕ) (items : List ItemData) (auth : Option (List ℕ)) (rest : List ItemData) (scripts : List ℕ) (last : List ItemData) (code : List ℕ) → items_of content ≡ Ok items → content ≡ spelled (pairs items)
    → auth_at items ≡ Ok (auth, rest) → scripts_in_items content rest ≡ Ok (scripts, last) → pairs last ≡ [] → IsReplyRead items content (record { code = code; auth = auth; scripts = scripts })
reply_parts content items auth rest scripts last code listed exact first second none =
    let taken = auth_taken items auth rest first in
    let found = scripts_by content rest scripts last _ refl second in
    let all = all_templates rest (ap pairs found.1 ∙ none) in
    let fields = pairs rest in
    let is_auth = sized_auth auth taken.1 in
    let content_is : content ≡ spelled (all_items auth fields) = exact ∙ ap spelled taken.0 in
    let joined : content ≡ spelled (reply_items auth) ++ spelled fields = content_is ∙ spelled_append (reply_items auth) fields in
    let placed_all : Ok items ≡ Ok (placed 0 (all_items auth fields)) = sym listed ∙ ap items_of content_is ∙ fields_of (all_items auth fields) (all_tags auth fields all.1) in
    let items_are : items ≡ placed 0 (all_items auth fields) = cc in
    let start : behind_auth 0 auth ≡ length (spelled (reply_items auth)) = omega arith in
    let rest_is : rest ≡ placed (length (spelled (reply_items auth))) fields =
    same_rest auth rest (placed (length (spelled (reply_items auth))) fields) (sym first ∙ ap auth_at items_are ∙ auth_again 0 auth fields is_auth all.1 ∙ ap (λ n. Ok (auth, placed n fields)) start) in
    let bytes : bytes_of_items content rest ≡ spelled fields =
    ap (bytes_of_items content) rest_is ∙ ap (λ b. bytes_of_items b (placed (length (spelled (reply_items auth))) fields)) joined ∙ scripts_bytes (spelled (reply_items auth)) fields (templates_tags fields all.1) in
    let scripts_are : scripts ≡ spelled fields = sym found.0 ∙ ap (bytes_of_items content) all.0 ∙ bytes in
    let few = both (nat_le (length (leading_templates rest)) 8) _ found.2 in
    let few_items : length rest ≤ 8 = subst (λ (l : List ItemData). length l ≤ 8) all.0 (at_most (length (leading_templates rest)) 8 few.0) in
    record {
      exact = joined ∙ ap (λ b. spelled (reply_items auth) ++ b) (sym scripts_are);
      auth = is_auth;
      scripts = record {
        fields = fields;
        templates = all.1;
        few = omega (arith, pairs_count rest);
        short = subst (λ (b : List ℕ). length b ≤ 1024) found.0 (at_most (length (bytes_of_items content (leading_templates rest))) 1024 few.1);
        exact = scripts_are;
      };
    }

reply_taken : (code content : List ℕ) (items : List ItemData) (reply : ReplyData) → items_of content ≡ Ok items → content ≡ spelled (pairs items) → reply_with_code code content items ≡ Ok reply → (IsReplyRead items content reply) × (reply.code ≡ code)
unfolding reply_with_code
reply_taken code content items reply listed exact is =
    let first = read_of (auth_at items) _ reply is in
    let second = read_of (scripts_in_items content first.value.1) _ reply first.behind in
    let third = read_of (no_item_left second.value.1) _ reply second.behind in
    let read : ReplyData = record { code = code; auth = first.value.0; scripts = second.value.0 } in
    let same : read ≡ reply = cc in
    let parts = reply_parts content items first.value.0 first.value.1 second.value.0 second.value.1 code listed exact first.made second.made (none_left second.value.1 third.value third.made) in
    (subst (IsReplyRead items content) same parts, ap (λ (r : ReplyData). r.code) (sym same))

-- a reply that was read has one spelling, and may be written
pub record IsWrittenReply (bytes : List ℕ) (of : CallKind) (reply : ReplyData) : Type 0 where
  pub exact : bytes ≡ iso_reply_bytes of reply
  pub auth : IfSome reply.auth IsAuth
  pub scripts : AreSpelledScripts reply.scripts

reply_exact : (before : Left) (reply : ReplyData) → iso_reply_at before ≡ Ok reply → (before.bytes ≡ reply_rest reply) × IfSome reply.auth IsAuth × AreSpelledScripts reply.scripts
unfolding iso_reply_at
reply_exact before reply is =
    let first = made_of (bits_at (bitmap reply_numbers) before) _ reply is in
    let second = made_of (part_at 2 first.value) _ reply first.behind in
    let third = made_of (items_at second.value.1) _ reply second.behind in
    let fourth = made_of (in_55 (reply_with_code second.value.0 third.value.0.0 third.value.0.1)) _ reply third.behind in
    let fifth = made_of (nothing_left third.value.1) _ reply fourth.behind in
    let last : fourth.value ≡ reply = cc in
    let bits = bits_spelled (bitmap reply_numbers) before first.value first.made in
    let code = part_spelled first.value.place 2 first.value second.value.0 second.value.1 second.made in
    let items = items_spelled second.value.1 third.value.0.0 third.value.0.1 third.value.1 third.made in
    let found = reply_taken second.value.0 third.value.0.0 third.value.0.1 reply items.listed items.exact (from_55 (reply_with_code second.value.0 third.value.0.0 third.value.0.1) fourth.value fourth.made ∙ ap Ok last) in
    let behind : second.value.1.bytes ≡ with_length 4 (spelled (reply_items reply.auth) ++ reply.scripts) ++ [] =
    items.front
    ∙ ap (λ (c : List ℕ). with_length 4 c ++ third.value.1.bytes) found.0.exact
    ∙ ap (λ (b : List ℕ). with_length 4 (spelled (reply_items reply.auth) ++ reply.scripts) ++ b) (nothing_spelled third.value.1 fifth.value fifth.made) in (
      bits ∙ ap (λ (b : List ℕ). bitmap reply_numbers ++ b) (code.front ∙ ap (λ (b : List ℕ). second.value.0 ++ b) behind ∙ ap (λ (c : List ℕ). c ++ (with_length 4 (spelled (reply_items reply.auth) ++ reply.scripts) ++ [])) (sym found.1)),
      found.0.auth,
      found.0.scripts,
    )

pub reply_spelled : (bytes : List ℕ) (of : CallKind) (reply : ReplyData) → iso_reply_of bytes ≡ Ok (of, reply) → IsWrittenReply bytes of reply
unfolding reply_from
reply_spelled bytes of reply is =
    let first = made_of (call_kind_at reply_type (unread_message bytes)) _ (of, reply) is in
    let second = made_of (iso_reply_at first.value.1) _ (of, reply) first.behind in
    let same : (first.value.0, second.value) ≡ (of, reply) = cc in
    let of_is : first.value.0 ≡ of = ap (λ (p : CallKind × ReplyData). p.0) same in
    let reply_is : second.value ≡ reply = ap (λ (p : CallKind × ReplyData). p.1) same in
    let type_is = kind_spelled reply_type (unread_message bytes) first.value.0 first.value.1 first.made in
    let found = reply_exact first.value.1 reply (second.made ∙ ap Ok reply_is) in
    record {
      exact = type_is ∙ ap (λ b. reply_type first.value.0 ++ b) found.0 ∙ ap (λ (k : CallKind). reply_type k ++ reply_rest reply) of_is ∙ sym (reply_split of reply);
      auth = found.1;
      scripts = found.2;
    }

-- what a reader says of the reply that it gives
abbrev pub Reads : List ℕ → Result (CallKind × ReplyData) IsoFault → Type 0
Reads bytes result = MatchResult result (λ found. iso_reply_of bytes ≡ Ok (found.0, found.1)) (λ fault. iso_reply_of bytes ≡ Err fault)

pub read_exact : (bytes : List ℕ) (result : Result (CallKind × ReplyData) IsoFault) → Reads bytes result → IfOk result (λ found. bytes ≡ iso_reply_bytes found.0 found.1)
read_exact bytes (Ok found) is = (reply_spelled bytes found.0 found.1 is).exact
read_exact bytes (Err fault) is = tt

pub read_auth : (bytes : List ℕ) (result : Result (CallKind × ReplyData) IsoFault) → Reads bytes result → IfOk result (λ found. IfSome found.1.auth IsAuth)
read_auth bytes (Ok found) is = (reply_spelled bytes found.0 found.1 is).auth
read_auth bytes (Err fault) is = tt

pub read_scripts : (bytes : List ℕ) (result : Result (CallKind × ReplyData) IsoFault) → Reads bytes result → IfOk result (λ found. AreSpelledScripts found.1.scripts)
read_scripts bytes (Ok found) is = (reply_spelled bytes found.0 found.1 is).scripts
read_scripts bytes (Err fault) is = tt

-- two replies that are read back have different bytes
pub apart :
    (one other : CallKind) (first second : ReplyData) → iso_reply_of (iso_reply_bytes one first) ≡ Ok (one, first) → iso_reply_of (iso_reply_bytes other second) ≡ Ok (other, second) → iso_reply_bytes one first ≡ iso_reply_bytes other second
    → (one ≡ other) × (first ≡ second)
apart one other first second read again same =
    let both_are : (one, first) ≡ (other, second) = same_made (one, first) (other, second) (sym read ∙ ap iso_reply_of same ∙ again) in
    (ap (λ (p : CallKind × ReplyData). p.0) both_are, ap (λ (p : CallKind × ReplyData). p.1) both_are)
