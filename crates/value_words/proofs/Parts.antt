-- Lists that are told part by part.
use Rattle.std.proofs.Common.{◌≡◌, ℕ, ◌<◌, ◌≤◌, Bool, true, false, List, [], ◌∷◌, ◌++◌, cond, length, get_or, drop, refl, ap, arith}
use Rattle.report_lines.specs.Pieces.{Piece, joined}
use Rattle.value_words.specs.Lists.{rules_words, rule_line, groups_words, group_words, comma_before}

-- the first rule, and those behind it
pub rules-next : (level : ℕ) (rules behind : List ℕ) → 2 ≤ length rules → drop 2 rules ≡ behind
    → rules_words level rules ≡ rule_line level (get_or rules 0 0) (get_or rules 1 0) ++ rules_words level behind
unfolding rules_words
rules-next level [] behind some same = absurd (omega arith)
rules-next level (m ∷ []) behind some same = absurd (omega arith)
rules-next level (m ∷ c ∷ rest) behind some same = ap (λ (r : List ℕ). rule_line level m c ++ rules_words level r) same

pub rules-end : (level : ℕ) (rules : List ℕ) → length rules < 2 → rules_words level rules ≡ []
unfolding rules_words
rules-end level [] few = refl
rules-end level (m ∷ []) few = refl
rules-end level (m ∷ c ∷ rest) few = absurd (omega arith)

-- the first group, and those behind it
pub groups-next : (groups behind : List ℕ) → 4 ≤ length groups → drop 4 groups ≡ behind
    → groups_words groups
    ≡ group_words (get_or groups 0 0) (get_or groups 1 0) (get_or groups 2 0) (get_or groups 3 0) ++ comma_before behind ++ groups_words behind
unfolding groups_words
groups-next [] behind some same = absurd (omega arith)
groups-next (a ∷ []) behind some same = absurd (omega arith)
groups-next (a ∷ b ∷ []) behind some same = absurd (omega arith)
groups-next (a ∷ b ∷ c ∷ []) behind some same = absurd (omega arith)
groups-next (a ∷ b ∷ c ∷ d ∷ rest) behind some same = ap (λ (r : List ℕ). group_words a b c d ++ comma_before r ++ groups_words r) same

pub groups-end : (groups : List ℕ) → length groups < 4 → groups_words groups ≡ []
unfolding groups_words
groups-end [] few = refl
groups-end (a ∷ []) few = refl
groups-end (a ∷ b ∷ []) few = refl
groups-end (a ∷ b ∷ c ∷ []) few = refl
groups-end (a ∷ b ∷ c ∷ d ∷ rest) few = absurd (omega arith)

-- one of these, and the others behind it
pub joined-next : (told : Bool) (between one : List Piece) (others : List (List Piece))
    → joined told between (one ∷ others) ≡ cond told between [] ++ one ++ joined true between others
joined-next true between one others = refl
joined-next false between one others = refl
