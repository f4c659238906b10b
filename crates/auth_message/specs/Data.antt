-- What a contract sees of a message's fields: lists in place of slices (own).
use Rattle.std.specs.Prelude.{◌≡◌, ℕ, List, length, Option, IfSome}
use Rattle.auth_message.specs.declared.groups.Named.{Named}
use Rattle.auth_message.specs.declared.groups.Paid.{Paid}

-- a request, its fields named by their tags
pub record RequestData : Type 0 where
  pub named : Named
  pub t5f24 : List ℕ
  pub paid : Paid
  pub t9f10 : List ℕ
  pub tdf11 : Option (List ℕ)

-- a presentment
pub record PresentData : Type 0 where
  pub named : Named
  pub paid : Paid
  pub t9f10 : List ℕ
  pub t8a : List ℕ

-- the lengths that the types of what names a transaction fix
abbrev pub NamedSizes : Named → Type 0
NamedSizes named = (length named.t9f1c ≡ 8) × IfSome named.t5f34 (λ v. length v ≡ 1)

-- those that the types of a payment's fields fix
abbrev pub PaidSizes : Paid → Type 0
PaidSizes paid =
    (length paid.t9f02 ≡ 6)
    × (length paid.t9f03 ≡ 6)
    × (length paid.t9f1a ≡ 2)
    × (length paid.t95 ≡ 5)
    × (length paid.t5f2a ≡ 2)
    × (length paid.t9a ≡ 3)
    × (length paid.t9c ≡ 1)
    × (length paid.t9f37 ≡ 4)
    × (length paid.t82 ≡ 2)
    × (length paid.t9f36 ≡ 2)
    × (length paid.t9f26 ≡ 8)
