use Rattle.std.proofs.Common.{◌≡◌, ◌<◌, ◌%◌, ◌∙◌, ℕ, IsTrue, Some, Option, sym, arith, rules}
use Rattle.ber_tlv.specs.Tag.{is_readable}
use Rattle.ber_tlv.proofs.item.tag_at.Goals as goal

same_byte : (m n : ℕ) → ◌≡◌ {A = Option ℕ} (Some m) (Some n) → m ≡ n
same_byte m n e = cc

readable_byte : (first : ℕ) → first < 256 → 0 < first → (first % 32 ≡ 31 → ⊥) → IsTrue (is_readable first)
readable_byte first small positive short = grind arith

-- a tag of one byte that begins an object is not 00
pub returns-else-first-eq31-clause-readable : goal.returns-else-first-eq31-clause-readable
returns-else-first-eq31-clause-readable c = λ begins.
    let same = same_byte begins.byte c.in_ok-first.first (sym begins.there ∙ c.in_ok-first.ensures.there) in
    let positive = begins.not_zero in
    let small : c.in_ok-first.first < 256 = search rules in
    rw c.from.ensures (readable_byte c.in_ok-first.first small (omega arith) c.if-first-eq31.false)
