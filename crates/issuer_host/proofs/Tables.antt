-- A table's look-up, and a new row behind the others.
use Rattle.std.proofs.Common.{◌≡◌, Bool, true, false, cond, List, [], ◌∷◌, ◌++◌, Option, Some, None, map, refl, sym, ap, ◌∙◌, Bor, length, ◌<◌, ◌↔◌, IsSome, arith}
use Rattle.std.specs.Prelude.{option_map, option_copied, option_to_list}
use Rattle.std.proofs.lemmas.List.{map-append}
use Rattle.std.specs.Map.{lookup}
use Rattle.indexmap.specs.IndexMap.{insert_entry}
use Rattle.host_ledger.specs.declared.key.Key.{Key}
use Rattle.host_ledger.specs.Key.{same_key}
use Rattle.host_ledger.proofs.Keys.{same}
use Rattle.issuer_host.specs.Books.{KeptCall, kept_at}
use Rattle.issuer_host.specs.Keeping.{kept_message, seen_kept_call}
use Rattle.issuer_host.specs.declared.keeping.KeptMessage.{KeptMessage}

first_found : (b : Bool) (key : Key) (e : Key × KeptMessage) (rest : Option KeptMessage) (others : Option KeptCall) → same_key key e.0 ≡ b → option_map (kept_message key) rest ≡ others
    → option_map (kept_message key) (cond b (Some e.1) rest) ≡ cond b (Some (seen_kept_call e)) others
first_found true key e rest others is h = ap (λ k. Some (kept_message k e.1)) (same key e.0 is)
first_found false key e rest others is h = h

pub message_found : (test : Key → Bool) (key : Key) (es : List (Key × KeptMessage)) → ((k : Key) → test k ≡ same_key key k) → option_map (kept_message key) (lookup test es) ≡ kept_at key (map seen_kept_call es)
message_found test key [] is = refl
message_found test key (e ∷ es) is = rw (is e.0) (first_found (same_key key e.0) key e (lookup test es) (kept_at key (map seen_kept_call es)) refl (message_found test key es is))

pub message_kept : (eq : Key → Key → Bool) (key : Key) (kept : KeptMessage) (es : List (Key × KeptMessage)) → ((k : Key) → eq key k ≡ same_key key k) → kept_at key (map seen_kept_call es) ≡ None
    → map seen_kept_call (insert_entry eq es key kept) ≡ map seen_kept_call es ++ kept_message key kept ∷ []
message_kept eq key kept [] is new = refl
message_kept eq key kept (e ∷ es) is new = rw (is e.0) (by (same_key key e.0) (λ h. message_kept eq key kept es is h) new)
  where
    by : (b : Bool) → (kept_at key (map seen_kept_call es) ≡ None → map seen_kept_call (insert_entry eq es key kept) ≡ map seen_kept_call es ++ kept_message key kept ∷ [])
        → cond b (Some (seen_kept_call e)) (kept_at key (map seen_kept_call es)) ≡ None
        → map seen_kept_call (cond b ((e.0, kept) ∷ es) (e ∷ insert_entry eq es key kept)) ≡ seen_kept_call e ∷ (map seen_kept_call es ++ kept_message key kept ∷ [])
    by true behind none = cc
    by false behind none = ap (λ l. seen_kept_call e ∷ l) (behind none)

-- what was found, by value
pub seen_copied : (key : Key) (r : Option (Bor KeptMessage)) → option_map (λ b. kept_message key b.now) r ≡ option_map (kept_message key) (option_copied r)
seen_copied key None = refl
seen_copied key (Some b) = refl

snoc_front : (xs ys : List KeptCall) (x y : KeptCall) → xs ++ x ∷ [] ≡ ys ++ y ∷ [] → xs ≡ ys
snoc_front [] [] x y e = refl
snoc_front [] (b ∷ []) x y e = cc
snoc_front [] (b ∷ c ∷ ys) x y e = cc
snoc_front (a ∷ []) [] x y e = cc
snoc_front (a ∷ b ∷ xs) [] x y e = cc
snoc_front (a ∷ xs) (b ∷ ys) x y e =
    let first : a ≡ b = cc in
    let rest : xs ++ x ∷ [] ≡ ys ++ y ∷ [] = cc in
    ap (λ z. z ∷ xs) first ∙ ap (λ l. b ∷ l) (snoc_front xs ys x y rest)

not_empty : (front : List KeptCall) (last : KeptCall) (es : List (Key × KeptMessage)) → map seen_kept_call es ≡ front ++ last ∷ [] → 0 < length es
not_empty [] last [] e = cc
not_empty (a ∷ front) last [] e = cc
not_empty front last (x ∷ es) e = omega arith

-- the list without its last message
pub popped : (es left : List (Key × KeptMessage)) (r : Option (Key × KeptMessage)) (front : List KeptCall) (last : KeptCall) → es ≡ left ++ option_to_list r → (IsSome r ↔ (0 < length es))
    → map seen_kept_call es ≡ front ++ last ∷ [] → map seen_kept_call left ≡ front
popped es left None front last splits some is = let found = some.1 (not_empty front last es is) in cc
popped es left (Some e) front last splits some is =
    snoc_front (map seen_kept_call left) front (seen_kept_call e) last (sym (map-append seen_kept_call left (e ∷ [])) ∙ ap (map seen_kept_call) (sym splits) ∙ is)
