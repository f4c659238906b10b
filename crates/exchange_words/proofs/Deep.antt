-- Objects that are looked for within others.
use Rattle.std.proofs.Common.{◌≡◌, ℕ, zero, suc, ◌-◌, ◌<◌, ◌==◌, Bool, true, false, List, ◌∷◌, Option, Some, None, cond, refl, ap, arith}
use Rattle.std.specs.Option.{option_or}
use Rattle.ber_tlv.specs.Item.{ItemData}
use Rattle.ber_tlv.specs.Tag.{names_template}
use Rattle.object_words.specs.Leading.{leading_items}
use Rattle.exchange_words.specs.Learned.{value_found_in, found_nowhere, found_deep}

-- what is found within a constructed object
abbrev pub found_within : ℕ → ℕ → List ℕ → Option (List ℕ)
found_within zero tag = found_nowhere
found_within (suc more) tag = found_deep more tag

-- the objects one by one
pub deep-each : (more tag : ℕ) (bytes : List ℕ) → found_deep more tag bytes ≡ value_found_in tag (found_within more tag) (leading_items bytes)
unfolding found_deep
deep-each zero tag bytes = refl
deep-each (suc more) tag bytes = refl

-- the first is of this tag
pub found-here : (tag : ℕ) (within : List ℕ → Option (List ℕ)) (item : ItemData) (items : List ItemData) → (item.tag == tag) ≡ true
    → value_found_in tag within (item ∷ items) ≡ Some item.value
found-here tag within item items same = rw same refl

-- it is not, and none is looked for within it
pub found-behind : (tag : ℕ) (within : List ℕ → Option (List ℕ)) (item : ItemData) (items : List ItemData) → (item.tag == tag) ≡ false → names_template item.tag ≡ false
    → value_found_in tag within (item ∷ items) ≡ value_found_in tag within items
found-behind tag within item items other closed = rw other (rw closed refl)

no-deeper : (b : Bool) (found : Option (List ℕ)) → option_or (cond b None None) found ≡ found
no-deeper true found = refl
no-deeper false found = refl

pub found-last : (more tag : ℕ) (item : ItemData) (items : List ItemData) → (item.tag == tag) ≡ false → more ≡ 0
    → value_found_in tag (found_within more tag) (item ∷ items) ≡ value_found_in tag (found_within more tag) items
found-last zero tag item items other none = rw other (no-deeper (names_template item.tag) (value_found_in tag found_nowhere items))
found-last (suc more) tag item items other none = absurd (omega arith)

-- one is found within it, or none
pub found-deeper : (more tag : ℕ) (item : ItemData) (items : List ItemData) → (item.tag == tag) ≡ false → names_template item.tag ≡ true → 0 < more
    → value_found_in tag (found_within more tag) (item ∷ items) ≡ option_or (found_deep (more - 1) tag item.value) (value_found_in tag (found_within more tag) items)
found-deeper zero tag item items other opened some = absurd (omega arith)
found-deeper (suc more) tag item items other opened some =
    rw other (rw opened (ap (λ (n : ℕ). option_or (found_deep n tag item.value) (value_found_in tag (found_deep more tag) items)) {y = suc more - 1} (omega arith)))
