-- The commands of a template: one behind another, how many there are, and how long one is.
use Rattle.std.proofs.Common.{◌≡◌, ℕ, zero, suc, ◌+◌, ◌*◌, ◌≤◌, ◌<◌, ◌==◌, Bool, true, false, List, [], ◌∷◌, length, filter, map, drop, refl, ap, sym, ◌∙◌, arith, Option, Some, None, is_some, not, option_map, Result, Ok, Err, Bor, slice_get, slice_index, if◌then◌else◌}
use Rattle.std.proofs.lemmas.List.{length-map, drop-drop}
use Rattle.std.proofs.lemmas.Bool.Decides.{nat_tests}
use Rattle.std.proofs.lemmas.List.Filters.{length-filter_both}
use Rattle.std.proofs.lemmas.Option.{slice_get_within}
use Rattle.std.specs.Prelude.{MatchOption, IfSome}
use Rattle.apdu_core.specs.Command.{command_of, tail_of}
use Rattle.ber_tlv.specs.Direct.{values_of}
use Rattle.ber_tlv.specs.Item.{ItemData}
use Rattle.ber_tlv.specs.Items.{Items}
use Rattle.ber_tlv.specs.Left.{items_of}
use Rattle.ber_tlv.specs.declared.item.TlvFault.{TlvFault}
use Rattle.ber_tlv.proofs.ItemBounds.{item_at-lies}
use Rattle.ber_tlv.proofs.Reading.{reads_list}
use Rattle.script_run.specs.Script.{is_command, commands_of}

pub drop_some : {A : Type 0} (xs : List A) (n : ℕ) (x : A) → slice_get xs n ≡ Some x → drop n xs ≡ x ∷ drop (n + 1) xs
drop_some [] n x is = cc
drop_some {A = A} (y ∷ xs) zero x is = ap (λ (z : A). z ∷ xs) (let same : y ≡ x = cc in same)
drop_some (y ∷ xs) (suc n) x is = let e : suc n + 1 ≡ suc (n + 1) = omega arith in rw e (drop_some xs n x is)

pub drop_none : {A : Type 0} (xs : List A) (n : ℕ) → slice_get xs n ≡ None → drop n xs ≡ []
drop_none [] zero is = refl
drop_none [] (suc n) is = refl
drop_none (y ∷ xs) zero is = cc
drop_none (y ∷ xs) (suc n) is = drop_none xs n is

-- an object takes two bytes or more
items_few : (bytes : List ℕ) (place : ℕ) (items : List ItemData) → Items bytes place items → 2 * length items + place ≤ length bytes
items_few bytes place [] zeros = let up = zeros.upward in omega arith
items_few bytes place (item ∷ items) stand =
    let lies = item_at-lies bytes stand.1.start item stand.0 stand.1.stands in
    let front = stand.1.zeros.upward in
    let header = lies.header in
    let upward = lies.upward in
    let later = items_few bytes stand.0 items stand.2 in
    omega arith

commands_few-read : (bytes : List ℕ) (read : Result (List ItemData) TlvFault) → items_of bytes ≡ read → 2 * length (values_of 0x86 read) ≤ length bytes
commands_few-read bytes (Ok items) is =
    let few = items_few bytes 0 items ((reads_list bytes items).0 is) in
    let kept : length (map (λ item. item.value) (filter is_command items)) ≤ length items = (let both = length-filter_both is_command (λ item. not (is_command item)) (λ item. refl) items in simp length-map (omega arith)) in
    omega arith
commands_few-read bytes (Err fault) is = omega arith

pub commands_few : (template : List ℕ) → 2 * length (commands_of template) ≤ length template
unfolding commands_of
commands_few template = commands_few-read template (items_of template) refl

field_short : (zero_count same one_more : Bool) (count : ℕ) (field : List ℕ) (with_expected : List ℕ × Option ℕ) → count < 256 → (length field == count) ≡ same → (length field == count + 1) ≡ one_more
    → is_some (if zero_count then None else if same then Some (field, None) else if one_more then Some with_expected else None) ≡ true → length field ≤ 256
field_short true same one_more count field with_expected byte is_same is_more is = cc
field_short false true one_more count field with_expected byte is_same is_more is = grind (arith, nat_tests)
field_short false false true count field with_expected byte is_same is_more is = grind (arith, nat_tests)
field_short false false false count field with_expected byte is_same is_more is = cc

tail_short : (tail : List ℕ) → slice_index tail 0 < 256 → is_some (tail_of tail) ≡ true → length tail ≤ 257
tail_short [] byte is = omega arith
tail_short (expected ∷ []) byte is = omega arith
tail_short (count ∷ b ∷ bs) byte is =
    let short = field_short (count == 0) _ _ count (b ∷ bs) _ byte refl refl is in
    omega arith

some-map : {A B : Type 0} (f : A → B) (o : Option A) → is_some (option_map f o) ≡ true → is_some o ≡ true
some-map f None is = cc
some-map f (Some x) is = refl

-- the bytes of a command have room where commands are written
pub command_short : (bytes : List ℕ) → slice_index bytes 4 < 256 → is_some (command_of bytes) ≡ true → length bytes ≤ 261
unfolding command_of
command_short [] byte is = omega arith
command_short (a ∷ []) byte is = omega arith
command_short (a ∷ b ∷ []) byte is = omega arith
command_short (a ∷ b ∷ c ∷ []) byte is = omega arith
command_short (a ∷ b ∷ c ∷ d ∷ tail) byte is =
    let short = tail_short tail byte (some-map _ (tail_of tail) is) in
    omega arith

-- the command at a place of a template, and those behind it
pub asked_left : (found : Option (Bor (List ℕ))) (commands : List (List ℕ)) (before : ℕ) → option_map (λ command. command.now) found ≡ slice_get commands before
    → MatchOption found (drop before commands ≡ []) (λ command. drop before commands ≡ command.now ∷ drop (before + 1) commands)
asked_left None commands before same = drop_none commands before (sym same)
asked_left (Some command) commands before same = drop_some commands before command.now (sym same)

-- a command of a template of at most 1,024 bytes is one of the first 512
pub asked_few : (found : Option (Bor (List ℕ))) (template : List ℕ) (before : ℕ) → length template ≤ 1024
    → option_map (λ command. command.now) found ≡ slice_get (commands_of template) before → IfSome found (λ _. before < 512)
asked_few None template before short same = tt
asked_few (Some command) template before short same =
    let few = commands_few template in
    let within = slice_get_within (commands_of template) before command.now (sym same) in
    omega arith

-- the command at a place is the one that stands there, and the list behind it
pub same_first : (command other : List ℕ) (commands behind others : List (List ℕ)) → commands ≡ command ∷ behind → commands ≡ other ∷ others → is_some (command_of command) ≡ true → is_some (command_of other) ≡ true
same_first command other commands behind others first second good = let same : command ≡ other = cc in rw (← same) good

pub drop_behind : (commands behind : List (List ℕ)) (before : ℕ) (command : List ℕ) → drop before commands ≡ command ∷ behind → drop (before + 1) commands ≡ behind
drop_behind commands behind before command stands = sym (drop-drop 1 before commands) ∙ ap (drop 1) stands
