-- What a map has after the primitive objects of a walk were put.
use Rattle.std.proofs.Common.{◌≡◌, ◌≢◌, ℕ, Bool, true, false, if◌then◌else◌, List, ◌∷◌, Option, Some, None, is_some, Result, Ok, Err, refl, sym, ap, ◌∙◌, subst, OnOk}
use Rattle.std.specs.List.{AllByRecursion}
use Rattle.std.specs.Result.{result_err}
use Rattle.env_map.specs.declared.gathering.GatherFault.{GatherFault}
use Rattle.ber_tlv.specs.Item.{ItemData}
use Rattle.ber_tlv.specs.Tag.{names_template}
use Rattle.ber_tlv.specs.Walked.{Walked, Done, Broken, Met}
use Rattle.ber_tlv.specs.declared.tag.Tag.{Tag}
use Rattle.env_map.specs.Entries.{Entries, value_of}
use Rattle.env_map.specs.Gathered.{primitives, gathered, after_put}
use Rattle.env_map.specs.Put.{put_of}
use Rattle.env_map.specs.declared.env.EnvFault.{EnvFault}
use Rattle.env_map.specs.declared.env.EnvFault.TheVariants.{Repeated}
use Rattle.env_map.proofs.EntryLemmas.{put_of-puts}

new_at : (found : Option (List ℕ)) (tag : Tag) (rest : Result Entries EnvFault) (new : Entries) → (if is_some found then Err (Repeated tag) else rest) ≡ Ok new → found ≡ None
new_at None tag rest new e = refl
new_at (Some value) tag rest new e = cc

-- a tag that was put was absent
put_of-new : (tag : Tag) (value : List ℕ) (old new : Entries) → put_of tag value old ≡ Ok new → value_of tag.0 old ≡ None
put_of-new tag value old new e = new_at (value_of tag.0 old) tag _ new e

-- what a walk's item leaves of a fact on maps that its putting keeps
after_item : (P : Entries → Type 0) (kind : Bool) (entries : Entries) (put : Result Entries EnvFault) (rest : Walked) → P entries
    → (P (gathered entries rest).entries) → ((more : Entries) → put ≡ Ok more → P (gathered more rest).entries)
    → P (if kind then gathered entries rest else after_put entries put (λ more. gathered more rest)).entries
after_item P true entries put rest now inside later = inside
after_item P false entries (Ok more) rest now inside later = later more refl
after_item P false entries (Err fault) rest now inside later = now

pub gathered-keeps : (entries : Entries) (walked : Walked) (tag : ℕ) (value : List ℕ) → value_of tag entries ≡ Some value → value_of tag (gathered entries walked).entries ≡ Some value
gathered-keeps entries Done tag value e = e
gathered-keeps entries (Broken fault) tag value e = e
gathered-keeps entries (Met item rest) tag value e =
    after_item (λ es. value_of tag es ≡ Some value) (names_template item.tag) entries (put_of (record { 0 = item.tag }) item.value entries) rest e
    (gathered-keeps entries rest tag value e)
    (λ more put.
    let absent = put_of-new (record { 0 = item.tag }) item.value entries more put in
    let different : tag ≢ item.tag = λ same. let there = ap (λ t. value_of t entries) same in cc in
    gathered-keeps more rest tag value ((put_of-puts (record { 0 = item.tag }) item.value entries more put).others tag different ∙ e))

only_at : (kind : Bool) (put : Result Entries EnvFault) (entries : Entries) (item : ItemData) (rest : Walked) (tag : ℕ) → put_of (record { 0 = item.tag }) item.value entries ≡ put → value_of tag entries ≡ None
    → AllByRecursion (λ item. item.tag ≢ tag) (if kind then primitives rest else item ∷ primitives rest)
    → ((more : Entries) → value_of tag more ≡ None → AllByRecursion (λ item. item.tag ≢ tag) (primitives rest) → value_of tag (gathered more rest).entries ≡ None)
    → value_of tag (if kind then gathered entries rest else after_put entries put (λ more. gathered more rest)).entries ≡ None
only_at true put entries item rest tag is_put e all later = later entries e all
only_at false (Err fault) entries item rest tag is_put e all later = e
only_at false (Ok more) entries item rest tag is_put e all later =
    later more ((put_of-puts (record { 0 = item.tag }) item.value entries more is_put).others tag (λ same. all.0 (sym same)) ∙ e) all.1

pub gathered-only : (entries : Entries) (walked : Walked) (tag : ℕ) → value_of tag entries ≡ None → AllByRecursion (λ item. item.tag ≢ tag) (primitives walked)
    → value_of tag (gathered entries walked).entries ≡ None
gathered-only entries Done tag e others = e
gathered-only entries (Broken fault) tag e others = e
gathered-only entries (Met item rest) tag e others =
    only_at (names_template item.tag) (put_of (record { 0 = item.tag }) item.value entries) entries item rest tag refl e others (λ more. gathered-only more rest tag)

-- each item has its value in these entries
abbrev pub HasAll : Entries → List ItemData → Type 0
HasAll entries items = AllByRecursion (λ item. value_of item.tag entries ≡ Some item.value) items

has_at : (kind : Bool) (put : Result Entries EnvFault) (entries : Entries) (item : ItemData) (rest : Walked) → put_of (record { 0 = item.tag }) item.value entries ≡ put
    → (if kind then gathered entries rest else after_put entries put (λ more. gathered more rest)).fault ≡ None
    → ((more : Entries) → (gathered more rest).fault ≡ None → HasAll (gathered more rest).entries (primitives rest))
    → HasAll (if kind then gathered entries rest else after_put entries put (λ more. gathered more rest)).entries (if kind then primitives rest else item ∷ primitives rest)
has_at true put entries item rest is_put none later = later entries none
has_at false (Err fault) entries item rest is_put none later = cc
has_at false (Ok more) entries item rest is_put none later = (
  gathered-keeps more rest item.tag item.value (put_of-puts (record { 0 = item.tag }) item.value entries more is_put).there,
  later more none,
)

gathered-has : (entries : Entries) (walked : Walked) → (gathered entries walked).fault ≡ None → HasAll (gathered entries walked).entries (primitives walked)
gathered-has entries Done e = tt
gathered-has entries (Broken fault) e = cc
gathered-has entries (Met item rest) e =
    has_at (names_template item.tag) (put_of (record { 0 = item.tag }) item.value entries) entries item rest refl e (λ more. gathered-has more rest)

-- the same of what a call left
pub has_where_ok : (result : Result (Unit {0}) GatherFault) (old new : Entries) (walked : Walked) → new ≡ (gathered old walked).entries → result_err result ≡ (gathered old walked).fault
    → OnOk result (HasAll new (primitives walked))
has_where_ok (Err fault) old new walked is_new is_fault = tt
has_where_ok (Ok unit) old new walked is_new is_fault =
    let P : Entries → Type 0 = λ es. HasAll es (primitives walked) in
    subst P (sym is_new) (gathered-has old walked (sym is_fault))
