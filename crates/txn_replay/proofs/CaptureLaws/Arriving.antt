-- Messages among those that came to the host, in their order.
use Rattle.std.proofs.Common.{◌≡◌, ℕ, List, [], ◌∷◌, ◌++◌, sym, subst, append-nil}
use Rattle.std.specs.List.{Contains}
use Rattle.std.proofs.lemmas.List.Elements.{Contains-append_left}
use Rattle.txn_replay.specs.Captured.{AreAmong, none_came, came, passed}

all_passed : (messages : List (List ℕ)) → AreAmong [] messages
all_passed [] = none_came
all_passed (message ∷ messages) = passed message (all_passed messages)

pub all_came : (messages : List (List ℕ)) → AreAmong messages messages
all_came [] = none_came
all_came (message ∷ messages) = came message (all_came messages)

-- those of one time, and then those of the next
pub among_both : {one other before behind : List (List ℕ)} → AreAmong one before → AreAmong other behind → AreAmong (one ++ other) (before ++ behind)
among_both none_came next = next
among_both (came message first) next = came message (among_both first next)
among_both (passed message first) next = passed message (among_both first next)

-- more has come behind
abbrev pub Stays : List (List ℕ) → List (List ℕ) → Type 0
Stays before after = (more : List (List ℕ)) × (after ≡ before ++ more)

pub nothing_came : (messages : List (List ℕ)) → Stays messages messages
nothing_came messages = ([], sym (append-nil messages))

-- what was among them is so still
pub among_more : (sent before after : List (List ℕ)) → AreAmong sent before → Stays before after → AreAmong sent after
among_more sent before after among more =
    subst (λ (messages : List (List ℕ)). AreAmong sent messages) (sym more.1)
    (subst (λ (all : List (List ℕ)). AreAmong all (before ++ more.0)) (append-nil sent) (among_both among (all_passed more.0)))

-- so is each one of them
pub contained : (before after : List (List ℕ)) → Stays before after → (message : List ℕ) → Contains before message → Contains after message
contained before after more message there =
    subst (λ (messages : List (List ℕ)). Contains messages message) (sym more.1) (Contains-append_left before more.0 message there)
