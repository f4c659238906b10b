-- What was read is spelled by the bytes that were passed over.
use Rattle.std.proofs.Common.{◌≡◌, ℕ, zero, suc, ◌+◌, ◌<◌, List, [], ◌∷◌, ◌++◌, length, drop, Some, None, slice_get, refl, arith, sym, ap, ◌∙◌, append_assoc, append-nil, length-append, length-drop}
use Rattle.ber_tlv.specs.Spelled.{Spelled, StopsTag}
use Rattle.ber_tlv.specs.Written.{tag_bytes}
use Rattle.ber_tlv.specs.declared.item.TlvFault.{TlvFault}
use Rattle.ber_tlv.specs.declared.item.TlvFault.TheVariants as tlv
use Rattle.ber_tlv.proofs.Spelling.{drop-at, drop-past}
use Rattle.object_lists.specs.DolEntries.{DolEntry, fault_of_tag}
use Rattle.object_lists.specs.DolSpelled.{entry_bytes, dol_bytes, SpelledEntry, IsCutEntry, StopsEntry, FaultBehindEntries}
use Rattle.object_lists.specs.declared.dol.DolFault.{DolFault}
use Rattle.object_lists.specs.declared.dol.DolFault.TheVariants.{Truncated}

-- a tag, and the byte behind it
pub entry_spelled : (bytes : List ℕ) (start tag next count : ℕ) → Spelled bytes start tag next → slice_get bytes next ≡ Some count
    → SpelledEntry bytes start (record { tag = tag; count = count }) (next + 1)
entry_spelled bytes start tag next count spelled there =
    let passed = spelled.passed in
    record {
      passed = rw (length-append (tag_bytes tag) (count ∷ [])) (omega arith);
      same = spelled.same ∙ ap (λ r. tag_bytes tag ++ r) (drop-at bytes next count there) ∙ sym (append_assoc (tag_bytes tag) (count ∷ []) (drop (next + 1) bytes));
    }

-- a tag with nothing behind it
pub entry_without_count : (bytes : List ℕ) (start tag next : ℕ) → Spelled bytes start tag next → slice_get bytes next ≡ None → StopsEntry (Truncated start) start (drop start bytes)
entry_without_count bytes start tag next spelled none =
    let whole : drop start bytes ≡ tag_bytes tag = spelled.same ∙ ap (λ r. tag_bytes tag ++ r) (drop-past bytes next none) ∙ append-nil (tag_bytes tag) in
    let cut : IsCutEntry (drop start bytes) = record { entry = record { tag = tag; count = 0 }; more = 0 ∷ []; spells = ap (λ r. r ++ 0 ∷ []) whole; missing = omega arith } in
    (refl, cut)

-- a tag that is not read
pub entry_stopped : (fault : TlvFault) (start : ℕ) (bytes : List ℕ) → StopsTag fault start bytes → StopsEntry (fault_of_tag fault) start bytes
entry_stopped (tlv.Truncated place) start bytes (same, cut) = (
  same,
  record {
    entry = record { tag = cut.tag; count = 0 };
    more = cut.more ++ 0 ∷ [];
    spells = sym (append_assoc bytes cut.more (0 ∷ [])) ∙ ap (λ r. r ++ 0 ∷ []) cut.spells;
    missing = rw (length-append cut.more (0 ∷ [])) (omega arith);
  },
)
entry_stopped (tlv.BadLength place) start bytes none = absurd none
entry_stopped (tlv.LongTag place) start bytes stops = stops

dol_bytes-push : (front : List DolEntry) (entry : DolEntry) → dol_bytes (front ++ entry ∷ []) ≡ dol_bytes front ++ entry_bytes entry
dol_bytes-push [] entry = append-nil (entry_bytes entry)
dol_bytes-push (first ∷ front) entry =
    ap (λ r. entry_bytes first ++ r) (dol_bytes-push front entry) ∙ sym (append_assoc (entry_bytes first) (dol_bytes front) (entry_bytes entry))

-- these entries spell the bytes before this place
pub record IsSpelledTo (bytes : List ℕ) (front : List DolEntry) (place : ℕ) : Type 0 where
  pub passed : length (dol_bytes front) ≡ place
  pub same : dol_bytes front ++ drop place bytes ≡ bytes

pub spelled-start : (bytes : List ℕ) → IsSpelledTo bytes [] 0
spelled-start bytes = record { passed = refl; same = refl }

pub spelled-push : (bytes : List ℕ) (front : List DolEntry) (place : ℕ) (entry : DolEntry) (next : ℕ) → IsSpelledTo bytes front place → SpelledEntry bytes place entry next
    → IsSpelledTo bytes (front ++ entry ∷ []) next
spelled-push bytes front place entry next so_far spelled =
    let passed = so_far.passed in
    let step = spelled.passed in
    record {
      passed = ap length (dol_bytes-push front entry) ∙ length-append (dol_bytes front) (entry_bytes entry) ∙ omega arith;
      same = ap (λ r. r ++ drop next bytes) (dol_bytes-push front entry) ∙ append_assoc (dol_bytes front) (entry_bytes entry) (drop next bytes)
          ∙ ap (λ r. dol_bytes front ++ r) (sym spelled.same) ∙ so_far.same;
    }

drop-all : (bytes : List ℕ) (place : ℕ) → place ≡ length bytes → drop place bytes ≡ []
drop-all [] zero e = refl
drop-all [] (suc place) e = refl
drop-all (x ∷ bytes) zero e = absurd (omega arith)
drop-all (x ∷ bytes) (suc place) e = drop-all bytes place (omega arith)

pub spelled-end : (bytes : List ℕ) (front : List DolEntry) (place : ℕ) → IsSpelledTo bytes front place → place ≡ length bytes → dol_bytes front ≡ bytes
spelled-end bytes front place so_far end =
    sym (append-nil (dol_bytes front)) ∙ ap (λ r. dol_bytes front ++ r) (sym (drop-all bytes place end)) ∙ so_far.same

pub spelled-fault : (bytes : List ℕ) (front : List DolEntry) (place : ℕ) (fault : DolFault) → IsSpelledTo bytes front place → place < length bytes → StopsEntry fault place (drop place bytes)
    → FaultBehindEntries bytes fault
spelled-fault bytes front place fault so_far inside stops =
    record {
      front = front;
      rest = drop place bytes;
      splits = so_far.same;
      some = rw (length-drop place bytes) (omega arith);
      stops = rw so_far.passed stops;
    }
