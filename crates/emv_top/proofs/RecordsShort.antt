-- What is read from a card has no value longer than an answer.
use Rattle.std.proofs.Common.{◌≡◌, ℕ, ◌+◌, ◌≤◌, ◌==◌, nat_lt, nat_le, is_some, Bool, true, false, if◌then◌else◌, List, [], ◌∷◌, ◌++◌, length, take, drop, map, Option, Some, None, Result, Ok, Err, refl, subst, length-drop, arith}
use Rattle.std.specs.Prelude.{⊤}
use Rattle.std.specs.List.{AllByRecursion, zip}
use Rattle.std.proofs.lemmas.List.{length-take}
use Rattle.apdu_core.specs.Response.{ResponseData, response_of}
use Rattle.apdu_core.specs.Status.{no_error, conditions_not_satisfied}
use Rattle.ber_tlv.specs.Direct.{first_value, sole_value}
use Rattle.ber_tlv.specs.Item.{ItemData}
use Rattle.ber_tlv.specs.Left.{items_of}
use Rattle.ber_tlv.specs.Tag.{names_template}
use Rattle.ber_tlv.specs.Walked.{Walked, Done, Broken, Met, walk_of}
use Rattle.ber_tlv.specs.declared.item.TlvFault.{TlvFault}
use Rattle.ber_tlv.specs.declared.tag.Tag.{Tag}
use Rattle.ber_tlv.proofs.WalkBounds.{WalkShort, ItemsShort, walk_values_short, item_values_short}
use Rattle.emv_dict.specs.Progress as progress
use Rattle.emv_dict.specs.declared.ending.Cause.{Cause}
use Rattle.emv_dict.specs.declared.ending.Cause.TheVariants as cause
use Rattle.env_map.specs.Entries.{Entries, value_of, with_object, size_of_values}
use Rattle.env_map.specs.Gathered.{primitives}
use Rattle.env_map.specs.Put.{put_of}
use Rattle.env_map.specs.declared.env.EnvFault.{EnvFault}
use Rattle.env_map.specs.declared.env.EnvFault.TheVariants.{Repeated, TooMany, TooLong}
use Rattle.emv_top.specs.Short.{AllShort, HasShortObjects}
use Rattle.object_lists.specs.CardRead.{ReadCard, card_of_objects}
use Rattle.object_lists.specs.Checked.{objects_fault}
use Rattle.read_records.proofs.Room.{body_short}
use Rattle.read_records.specs.Afl.{RecordPlace, groups_of}
use Rattle.read_records.specs.DataRead.{card_unless, finished, read_on, reading}
use Rattle.read_records.specs.Options.{Opened, profile_and_locator, opened_by, options_in_format_one, options_of_objects, options_in_format_two, options_by_format, options_in, OptionsSaid, Refused, Granted, Faulty, granted_by, response_said, options_said, after_options, initiated, initiating_with, initiating, options_data}
use Rattle.read_records.specs.Records.{Held, in_template, held_in_body, held_in_response, held_in, then_held, all_held, held_in_all, then_put, all_put, data_unless_fault, gathered_all}
use Rattle.read_records.specs.declared.afl.Group.{Group}

with_object-short : (tag : ℕ) (value : List ℕ) (entries : Entries) → length value ≤ 256 → AllShort entries → AllShort (with_object tag value entries)
with_object-short tag value [] here all = (here, tt)
with_object-short tag value (entry ∷ entries) here all =
    elim (nat_lt tag entry.0) as (λ b. AllShort (if b then (tag, value) ∷ entry ∷ entries else entry ∷ with_object tag value entries)) [
      | true ↦ (here, all)
      | false ↦ (all.0, with_object-short tag value entries here all.1)
    ]

put_of-short : (tag : Tag) (value : List ℕ) (entries more : Entries) → length value ≤ 256 → AllShort entries → put_of tag value entries ≡ Ok more → AllShort more
put_of-short tag value entries more here all put =
    go (is_some (value_of tag.0 entries)) (nat_le 512 (length entries)) (nat_lt 16384 (size_of_values entries + length value)) put
  where
    go : (repeated many long : Bool)
        → ◌≡◌ {A = Result Entries EnvFault} (if repeated then Err (Repeated tag) else if many then Err TooMany else if long then Err TooLong else Ok (with_object tag.0 value entries)) (Ok more)
        → AllShort more
    go true many long e = cc
    go false true long e = cc
    go false false true e = cc
    go false false false e = let same : with_object tag.0 value entries ≡ more = cc e in subst AllShort same (with_object-short tag.0 value entries here all)

-- each value of these objects has at most 256 bytes
abbrev pub AreShort : List ItemData → Type 0
AreShort items = AllByRecursion (λ item. length item.value ≤ 256) items

both_short : (xs ys : List ItemData) → AreShort xs → AreShort ys → AreShort (xs ++ ys)
both_short [] ys first second = second
both_short (x ∷ xs) ys first second = (first.0, both_short xs ys first.1 second)

primitives_short : (walked : Walked) → WalkShort 256 walked → AreShort (primitives walked)
primitives_short Done short = tt
primitives_short (Broken fault) short = tt
primitives_short (Met item rest) short =
    elim (names_template item.tag) as (λ b. AreShort (if b then primitives rest else item ∷ primitives rest)) [
      | true ↦ primitives_short rest short.1
      | false ↦ (short.0, primitives_short rest short.1)
    ]

in_template-short : (is_template : Bool) (body : List ℕ) → length body ≤ 256 → AreShort (in_template is_template body).objects
in_template-short true body fits = primitives_short (walk_of body) (walk_values_short 256 body fits)
in_template-short false body fits = tt

held_in_body-short : (sfi : ℕ) (body : List ℕ) → length body ≤ 256 → AreShort (held_in_body sfi body).objects
held_in_body-short sfi body fits =
    elim (nat_le sfi 10)
    as (λ b. AreShort (if b then in_template (is_some (sole_value 0x70 (items_of body))) body else record { objects = []; fault = None }).objects) [
      | true ↦ in_template-short (is_some (sole_value 0x70 (items_of body))) body fits
      | false ↦ tt
    ]

held_in_response-short : (sfi : ℕ) (said : Option ResponseData) → ((r : ResponseData) → said ≡ Some r → length r.body ≤ 256) → AreShort (held_in_response sfi said).objects
held_in_response-short sfi None fits = tt
held_in_response-short sfi (Some said) fits =
    elim (said.status == no_error)
    as (λ b. AreShort (if b then held_in_body sfi said.body else record { objects = []; fault = Some (cause.Status said.status) }).objects) [
      | true ↦ held_in_body-short sfi said.body (fits said refl)
      | false ↦ tt
    ]

held_in-short : (sfi : ℕ) (answer : List ℕ) → AreShort (held_in sfi answer).objects
unfolding held_in
held_in-short sfi answer = held_in_response-short sfi (response_of answer) (body_short answer)

then_held-short : (objects : List ItemData) (fault : Option Cause) (later : Held) → AreShort objects → AreShort later.objects → AreShort (then_held objects fault later).objects
then_held-short objects (Some because) later first second = first
then_held-short objects None later first second = both_short objects later.objects first second

joined_short : (reads : List (RecordPlace × List ℕ)) → AreShort (all_held (map (λ read. held_in read.0.sfi read.1) reads)).objects
joined_short [] = tt
joined_short (read ∷ reads) =
    then_held-short (held_in read.0.sfi read.1).objects (held_in read.0.sfi read.1).fault (all_held (map (λ r. held_in r.0.sfi r.1) reads))
    (held_in-short read.0.sfi read.1) (joined_short reads)

then_put-short : (put : Result Entries EnvFault) (next : Entries → Result Entries Cause) (more : Entries)
    → ((entries : Entries) → put ≡ Ok entries → next entries ≡ Ok more → AllShort more) → then_put put next ≡ Ok more → AllShort more
then_put-short (Ok entries) next more each e = each entries refl e
then_put-short (Err fault) next more each e = cc

all_put-short : (entries : Entries) (items : List ItemData) (more : Entries) → AllShort entries → AreShort items → all_put entries items ≡ Ok more → AllShort more
all_put-short entries [] more all short e = let same : entries ≡ more = cc e in subst AllShort same all
all_put-short entries (item ∷ items) more all short e =
    then_put-short (put_of (record { 0 = item.tag }) item.value entries) (λ next. all_put next items) more
    (λ next put on. all_put-short next items more (put_of-short (record { 0 = item.tag }) item.value entries next short.0 all put) short.1 on) e

data_unless_fault-short : (fault : Option Cause) (put : Result Entries Cause) (more : Entries) → ((entries : Entries) → put ≡ Ok entries → AllShort entries)
    → data_unless_fault fault put ≡ Ok more → AllShort more
data_unless_fault-short fault (Err because) more each e = cc
data_unless_fault-short None (Ok entries) more each e = each more e
data_unless_fault-short (Some because) (Ok entries) more each e = cc

gathered_all-short : (entries : Entries) (places : List RecordPlace) (answers : List (List ℕ)) (more : Entries) → AllShort entries
    → gathered_all entries (held_in_all places answers) ≡ Ok more → AllShort more
gathered_all-short entries places answers more all e =
    data_unless_fault-short (held_in_all places answers).fault (all_put entries (held_in_all places answers).objects) more
    (λ next put. all_put-short entries (held_in_all places answers).objects next all (joined_short (zip places answers)) put) e

finished_short : (entries : Entries) (fault : Option Cause) (answers : List (List ℕ)) (card : ReadCard) (rest : List (List ℕ)) → AllShort entries
    → finished (card_unless entries fault) answers ≡ progress.Done card rest → HasShortObjects card
finished_short entries None answers card rest all e = let same : card_of_objects entries ≡ card = cc e in subst HasShortObjects same all
finished_short entries (Some because) answers card rest all e = cc

read_on-short : (read : Result Entries Cause) (left : List RecordPlace) (answers : List (List ℕ)) (card : ReadCard) (rest : List (List ℕ))
    → ((entries : Entries) → read ≡ Ok entries → AllShort entries) → read_on read left answers ≡ progress.Done card rest → HasShortObjects card
read_on-short (Err because) left answers card rest each e = cc
read_on-short (Ok entries) (place ∷ left) answers card rest each e = cc
read_on-short (Ok entries) [] answers card rest each e = finished_short entries (objects_fault entries) answers card rest (each entries refl) e

pub reading_short : (start : Opened) (answers : List (List ℕ)) (card : ReadCard) (rest : List (List ℕ)) → AllShort start.entries
    → reading start answers ≡ progress.Done card rest → HasShortObjects card
unfolding reading
reading_short start answers card rest all e =
    read_on-short (gathered_all start.entries (held_in_all start.left answers)) (drop (length answers) start.left) (drop (length start.left) answers) card rest
    (λ entries read. gathered_all-short start.entries start.left answers entries all read) e

-- the profile and the locator
opened_by-short : (profile locator : List ℕ) (groups : Result (List Group) ℕ) (start : Opened) → length profile ≤ 256 → length locator ≤ 256
    → opened_by profile locator groups ≡ Ok start → AllShort start.entries
opened_by-short profile locator (Ok groups) start first second e =
    let same : (0x82, profile) ∷ (0x94, locator) ∷ [] ≡ start.entries = cc e in subst AllShort same (first, (second, tt))
opened_by-short profile locator (Err number) start first second e = cc

options_in_format_one-short : (value : List ℕ) (start : Opened) → length value ≤ 256 → options_in_format_one value ≡ Ok start → AllShort start.entries
options_in_format_one-short value start fits e = go (nat_lt (length value) 2) e
  where
    go : (few : Bool) → (if few then Err (cause.Value (record { 0 = 0x80 })) else profile_and_locator (take 2 value) (drop 2 value)) ≡ Ok start → AllShort start.entries
    go true e = cc
    go false e =
        opened_by-short (take 2 value) (drop 2 value) (groups_of (drop 2 value)) start (omega (arith, length-take 2 value)) (omega (arith, length-drop 2 value)) e

options_of_objects-short : (profile locator : Option (List ℕ)) (start : Opened) → ((v : List ℕ) → profile ≡ Some v → length v ≤ 256) → ((v : List ℕ) → locator ≡ Some v → length v ≤ 256)
    → options_of_objects profile locator ≡ Ok start → AllShort start.entries
options_of_objects-short None locator start first second e = cc
options_of_objects-short (Some profile) None start first second e = cc
options_of_objects-short (Some profile) (Some locator) start first second e = go (length profile == 2) e
  where
    go : (b : Bool) → (if b then profile_and_locator profile locator else Err (cause.Value (record { 0 = 0x82 }))) ≡ Ok start → AllShort start.entries
    go true e = opened_by-short profile locator (groups_of locator) start (first profile refl) (second locator refl) e
    go false e = cc

first_value-short : (tag : ℕ) (items : List ItemData) (value : List ℕ) → AreShort items → first_value tag items ≡ Some value → length value ≤ 256
first_value-short tag [] value short e = cc
first_value-short tag (item ∷ items) value short e = go (item.tag == tag) (λ later. first_value-short tag items value short.1 later) e
  where
    go : (b : Bool) → (first_value tag items ≡ Some value → length value ≤ 256)
        → ◌≡◌ {A = Option (List ℕ)} (if b then Some item.value else first_value tag items) (Some value) → length value ≤ 256
    go true later e = let same : item.value ≡ value = cc e in subst (λ (v : List ℕ). length v ≤ 256) same short.0
    go false later e = later e

options_in_format_two-short : (body : List ℕ) (items : Result (List ItemData) TlvFault) (start : Opened) → ItemsShort 256 items → options_in_format_two body items ≡ Ok start → AllShort start.entries
options_in_format_two-short body (Ok items) start short e =
    options_of_objects-short (first_value 0x82 items) (first_value 0x94 items) start (λ v is. first_value-short 0x82 items v short is) (λ v is. first_value-short 0x94 items v short is) e
options_in_format_two-short body (Err fault) start short e = cc

options_by_format-short : (body : List ℕ) (value template : Option (List ℕ)) (start : Opened) → ((v : List ℕ) → value ≡ Some v → length v ≤ 256) → ((v : List ℕ) → template ≡ Some v → length v ≤ 256)
    → options_by_format body value template ≡ Ok start → AllShort start.entries
options_by_format-short body (Some value) template start first second e = options_in_format_one-short value start (first value refl) e
options_by_format-short body None (Some value) start first second e = options_in_format_two-short body (items_of value) start (item_values_short 256 value (second value refl)) e
options_by_format-short body None None start first second e = cc

sole_value-short : (tag : ℕ) (items : Result (List ItemData) TlvFault) (value : List ℕ) → ItemsShort 256 items → sole_value tag items ≡ Some value → length value ≤ 256
sole_value-short tag (Ok []) value short e = cc
sole_value-short tag (Ok (item ∷ [])) value short e = go (item.tag == tag) e
  where
    go : (b : Bool) → ◌≡◌ {A = Option (List ℕ)} (if b then Some item.value else None) (Some value) → length value ≤ 256
    go true e = let same : item.value ≡ value = cc e in subst (λ (v : List ℕ). length v ≤ 256) same short.0
    go false e = cc
sole_value-short tag (Ok (item ∷ other ∷ items)) value short e = cc
sole_value-short tag (Err fault) value short e = cc

options_in-short : (body : List ℕ) (start : Opened) → length body ≤ 256 → options_in body ≡ Ok start → AllShort start.entries
unfolding options_in
options_in-short body start fits e =
    options_by_format-short body (sole_value 0x80 (items_of body)) (sole_value 0x77 (items_of body)) start
    (λ v is. sole_value-short 0x80 (items_of body) v (item_values_short 256 body fits) is)
    (λ v is. sole_value-short 0x77 (items_of body) v (item_values_short 256 body fits) is) e

granted_by-short : (given : Result Opened Cause) (start : Opened) → ((o : Opened) → given ≡ Ok o → AllShort o.entries) → granted_by given ≡ Granted start → AllShort start.entries
granted_by-short (Ok given) start each e = let same : given ≡ start = cc e in subst (λ (o : Opened). AllShort o.entries) same (each given refl)
granted_by-short (Err because) start each e = cc

response_said-short : (said : Option ResponseData) (start : Opened) → ((r : ResponseData) → said ≡ Some r → length r.body ≤ 256) → response_said said ≡ Granted start → AllShort start.entries
response_said-short None start fits e = cc
response_said-short (Some said) start fits e = go (said.status == conditions_not_satisfied) (said.status == no_error) e
  where
    go : (refused fine : Bool) → (if refused then Refused else if fine then granted_by (options_in said.body) else Faulty (cause.Status said.status)) ≡ Granted start → AllShort start.entries
    go true fine e = cc
    go false true e = granted_by-short (options_in said.body) start (λ o is. options_in-short said.body o (fits said refl) is) e
    go false false e = cc

options_said-short : (answer : List ℕ) (start : Opened) → options_said answer ≡ Granted start → AllShort start.entries
unfolding options_said
options_said-short answer start e = response_said-short (response_of answer) start (body_short answer) e

-- what reading begins with
abbrev pub BeginsShort : Option Opened → Type 0
BeginsShort None = ⊤
BeginsShort (Some start) = AllShort start.entries

after_options-short : (said : OptionsSaid) (answers : List (List ℕ)) (found : Option Opened) (rest : List (List ℕ))
    → ((start : Opened) → said ≡ Granted start → AllShort start.entries) → after_options said answers ≡ progress.Done found rest → BeginsShort found
after_options-short Refused answers found rest each e = let same : ◌≡◌ {A = Option Opened} None found = cc e in subst BeginsShort same tt
after_options-short (Granted start) answers found rest each e = let same : Some start ≡ found = cc e in subst BeginsShort same (each start refl)
after_options-short (Faulty because) answers found rest each e = cc

initiated_short : (given : List ℕ) (answers : List (List ℕ)) (found : Option Opened) (rest : List (List ℕ)) → initiated given answers ≡ progress.Done found rest → BeginsShort found
unfolding initiated
initiated_short given [] found rest e = cc
initiated_short given (answer ∷ answers) found rest e = after_options-short (options_said answer) answers found rest (options_said-short answer) e

initiating_with-short : (given : Option (List ℕ)) (answers : List (List ℕ)) (found : Option Opened) (rest : List (List ℕ))
    → initiating_with given answers ≡ progress.Done found rest → BeginsShort found
initiating_with-short None answers found rest e = cc
initiating_with-short (Some given) answers found rest e = initiated_short given answers found rest e

pub initiating_short : (list : Option (List ℕ)) (terminal : Entries) (answers : List (List ℕ)) (found : Option Opened) (rest : List (List ℕ))
    → initiating list terminal answers ≡ progress.Done found rest → BeginsShort found
initiating_short list terminal answers found rest e = initiating_with-short (options_data list terminal) answers found rest e
