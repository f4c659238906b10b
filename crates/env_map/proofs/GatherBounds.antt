-- What is gathered has no longer values than the map before and the walk.
use Rattle.std.proofs.Common.{◌≡◌, ℕ, ◌+◌, ◌≤◌, nat_lt, nat_le, is_some, Bool, true, false, if◌then◌else◌, List, [], ◌∷◌, length, Result, Ok, Err, refl, subst}
use Rattle.std.specs.List.{AllByRecursion}
use Rattle.ber_tlv.specs.Tag.{names_template}
use Rattle.ber_tlv.specs.Walked.{Walked, Done, Broken, Met}
use Rattle.ber_tlv.specs.declared.tag.Tag.{Tag}
use Rattle.ber_tlv.proofs.WalkBounds.{WalkShort}
use Rattle.env_map.specs.Entries.{Entries, value_of, with_object, size_of_values}
use Rattle.env_map.specs.Put.{put_of}
use Rattle.env_map.specs.Gathered.{Gathered, gathered, after_put}
use Rattle.env_map.specs.declared.env.EnvFault.{EnvFault}
use Rattle.env_map.specs.declared.env.EnvFault.TheVariants.{Repeated, TooMany, TooLong}

-- each value has at most this many bytes
abbrev pub EntriesShort : ℕ → Entries → Type 0
EntriesShort most entries = AllByRecursion (λ entry. length entry.1 ≤ most) entries

with_object-short : (most tag : ℕ) (value : List ℕ) (entries : Entries) → length value ≤ most → EntriesShort most entries → EntriesShort most (with_object tag value entries)
with_object-short most tag value [] here all = (here, tt)
with_object-short most tag value (entry ∷ entries) here all =
    elim (nat_lt tag entry.0) as (λ b. EntriesShort most (if b then (tag, value) ∷ entry ∷ entries else entry ∷ with_object tag value entries)) [
      | true ↦ (here, all)
      | false ↦ (all.0, with_object-short most tag value entries here all.1)
    ]

put_of-short : (most : ℕ) (tag : Tag) (value : List ℕ) (entries more : Entries) → length value ≤ most → EntriesShort most entries → put_of tag value entries ≡ Ok more → EntriesShort most more
put_of-short most tag value entries more here all put =
    go (is_some (value_of tag.0 entries)) (nat_le 512 (length entries)) (nat_lt 16384 (size_of_values entries + length value)) put
  where
    go : (repeated many long : Bool)
        → ◌≡◌ {A = Result Entries EnvFault} (if repeated then Err (Repeated tag) else if many then Err TooMany else if long then Err TooLong else Ok (with_object tag.0 value entries)) (Ok more)
        → EntriesShort most more
    go true many long e = cc
    go false true long e = cc
    go false false true e = cc
    go false false false e = let same : with_object tag.0 value entries ≡ more = cc e in subst (EntriesShort most) same (with_object-short most tag.0 value entries here all)

after_put-short : (most : ℕ) (entries : Entries) (put : Result Entries EnvFault) (rest : Entries → Gathered) → EntriesShort most entries
    → ((more : Entries) → put ≡ Ok more → EntriesShort most (rest more).entries) → EntriesShort most (after_put entries put rest).entries
after_put-short most entries (Ok more) rest all each = each more refl
after_put-short most entries (Err fault) rest all each = all

pub gathered_short : (most : ℕ) (entries : Entries) (walked : Walked) → WalkShort most walked → EntriesShort most entries → EntriesShort most (gathered entries walked).entries
gathered_short most entries Done short all = all
gathered_short most entries (Broken fault) short all = all
gathered_short most entries (Met item rest) short all =
    elim (names_template item.tag)
    as (λ b. EntriesShort most (if b then gathered entries rest else after_put entries (put_of (record { 0 = item.tag }) item.value entries) (λ more. gathered more rest)).entries) [
      | true ↦ gathered_short most entries rest short.1 all
      | false ↦ after_put-short most entries (put_of (record { 0 = item.tag }) item.value entries) (λ more. gathered more rest) all
          (λ more put. gathered_short most more rest short.1 (put_of-short most (record { 0 = item.tag }) item.value entries more short.0 all put))
    ]
