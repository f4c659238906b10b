-- What is sent of what was caught, one step of the store after another.
use Rattle.std.proofs.Common.{◌≡◌, ◌⊎◌, ℕ, Bool, true, false, ◌==◌, List, [], ◌∷◌, ◌++◌, drop, Option, Some, None, refl, ap, sym, subst, ◌∙◌, append-nil, append_assoc, inl, inr}
use Rattle.std.specs.Prelude.{if◌then◌else◌}
use Rattle.emv_ports.specs.declared.tear.Tear.{Tear}
use Rattle.emv_ports.specs.declared.tear.TearAt.{TearAt}
use Rattle.emv_ports.specs.declared.tear.TearAt.TheVariants.{Before, Within, Release}
use Rattle.capture_store.specs.Calls.{Call, Adds, Drops, called, list_found, call_left_at, call_left_by}
use Rattle.capture_store.specs.StoreRow.{StoreRow, is_next_cut, made_call, cut_call, call_under_plan}
use Rattle.capture_store.specs.Sending.{Caught, Sends, none, once, again, never, KeepsSending, RowKeeps, StoreKeeps, LeavesOneOfTwo}

-- one more was caught and sent
with_one : (caught : List Caught) (sent : List (List ℕ)) (c : Caught) → Sends caught sent → Sends (caught ++ c ∷ []) (sent ++ c.message ∷ [])
with_one _ _ c none = once c [] [] none
with_one _ _ c (once d ds xs sends) = once d (ds ++ c ∷ []) (xs ++ c.message ∷ []) (with_one ds xs c sends)
with_one _ _ c (again d ds xs sends) = again d (ds ++ c ∷ []) (xs ++ c.message ∷ []) (with_one (d ∷ ds) (d.message ∷ xs) c sends)
with_one _ _ c (never d ds xs lost sends) = never d (ds ++ c ∷ []) (xs ++ c.message ∷ []) lost (with_one ds xs c sends)

-- one more was caught, and its purchase was lost
without_one : (caught : List Caught) (sent : List (List ℕ)) (c : Caught) → c.lost ≡ true → Sends caught sent → Sends (caught ++ c ∷ []) sent
without_one _ _ c lost none = never c [] [] lost none
without_one _ _ c lost (once d ds xs sends) = once d (ds ++ c ∷ []) xs (without_one ds xs c lost sends)
without_one _ _ c lost (again d ds xs sends) = again d (ds ++ c ∷ []) xs (without_one (d ∷ ds) (d.message ∷ xs) c lost sends)
without_one _ _ c lost (never d ds xs gone sends) = never d (ds ++ c ∷ []) xs gone (without_one ds xs c lost sends)

same_first : (x y : List ℕ) (xs ys : List (List ℕ)) → x ∷ xs ≡ y ∷ ys → x ≡ y
same_first x y xs ys same = cc same

same_rest : (x y : List ℕ) (xs ys : List (List ℕ)) → x ∷ xs ≡ y ∷ ys → xs ≡ ys
same_rest x y xs ys same = cc same

-- the first one sent may be sent once more
once_more : (c : Caught) (others : List Caught) (x : List ℕ) (xs : List (List ℕ)) → c.message ≡ x → Sends (c ∷ others) (x ∷ xs)
    → Sends (c ∷ others) (x ∷ x ∷ xs)
once_more c others x xs same sends =
    subst (λ (y : List ℕ). Sends (c ∷ others) (y ∷ y ∷ xs)) same
    (again c others xs (subst (λ (y : List ℕ). Sends (c ∷ others) (y ∷ xs)) (sym same) sends))

-- and so may each
repeated : (caught : List Caught) (whole : List (List ℕ)) → Sends caught whole → (sent : List (List ℕ)) (m : List ℕ) (others : List (List ℕ))
    → whole ≡ sent ++ m ∷ others → Sends caught (sent ++ m ∷ m ∷ others)
repeated _ _ none [] m others same = cc same
repeated _ _ none (x ∷ xs) m others same = cc same
repeated _ _ (once c cs rest sends) [] m others same =
    let first = same_first c.message m rest others same in
    once_more c cs m others first
    (subst (λ (y : List ℕ). Sends (c ∷ cs) (y ∷ others)) first
    (once c cs others (subst (λ (ys : List (List ℕ)). Sends cs ys) (same_rest c.message m rest others same) sends)))
repeated _ _ (once c cs rest sends) (x ∷ xs) m others same =
    let behind = repeated cs rest sends xs m others (same_rest c.message x rest (xs ++ m ∷ others) same) in
    subst (λ (y : List ℕ). Sends (c ∷ cs) (y ∷ (xs ++ m ∷ m ∷ others))) (same_first c.message x rest (xs ++ m ∷ others) same)
    (once c cs (xs ++ m ∷ m ∷ others) behind)
repeated _ _ (again c cs rest sends) [] m others same =
    let first = same_first c.message m (c.message ∷ rest) others same in
    once_more c cs m others first
    (subst (λ (y : List ℕ). Sends (c ∷ cs) (y ∷ others)) first
    (subst (λ (ys : List (List ℕ)). Sends (c ∷ cs) (c.message ∷ ys)) (same_rest c.message m (c.message ∷ rest) others same) (again c cs rest sends)))
repeated _ _ (again c cs rest sends) (x ∷ []) m others same =
    let first = same_first c.message x (c.message ∷ rest) (m ∷ others) same in
    let next = same_rest c.message x (c.message ∷ rest) (m ∷ others) same in
    let second = same_first c.message m rest others next in
    let twice = repeated (c ∷ cs) (c.message ∷ rest) sends [] m others next in
    subst (λ (y : List ℕ). Sends (c ∷ cs) (y ∷ m ∷ m ∷ others)) (sym second ∙ first) (once_more c cs m (m ∷ others) second twice)
repeated _ _ (again c cs rest sends) (x ∷ y ∷ ys) m others same =
    let first = same_first c.message x (c.message ∷ rest) (y ∷ (ys ++ m ∷ others)) same in
    let next = same_rest c.message x (c.message ∷ rest) (y ∷ (ys ++ m ∷ others)) same in
    let second = same_first c.message y rest (ys ++ m ∷ others) next in
    let twice = repeated (c ∷ cs) (c.message ∷ rest) sends (y ∷ ys) m others next in
    subst (λ (z : List ℕ). Sends (c ∷ cs) (z ∷ y ∷ (ys ++ m ∷ m ∷ others))) (sym second ∙ first)
    (once_more c cs y (ys ++ m ∷ m ∷ others) second twice)
repeated _ _ (never c cs rest lost sends) sent m others same = never c cs (sent ++ m ∷ m ∷ others) lost (repeated cs rest sends sent m others same)

-- what is left where no call is lost
left_here : (caught : List Caught) (sent list : List (List ℕ)) (lost : Option Call) → lost ≡ None → KeepsSending caught sent list lost → Sends caught (sent ++ list)
left_here caught sent list None is keeps = keeps true
left_here caught sent list (Some call) is keeps = cc is

module _ (caught : List Caught) (sent list : List (List ℕ)) (call : Call) (before : Sends caught (sent ++ list))
    (behind : Sends caught (sent ++ called list call)) where
  found_either : KeepsSending caught sent list (Some call)
  found_either true = behind
  found_either false = before

  by_first : (first : Bool) → KeepsSending caught sent list (if first then None else Some call)
  by_first true found = before
  by_first false found = found_either found

  keeps_at : (at : TearAt) → KeepsSending caught sent (call_left_at at list call).list (call_left_at at list call).lost
  keeps_at (Before number) found = by_first (number == 1) found
  keeps_at (Within number) found = found_either found
  keeps_at Release found = behind

  keeps_left : (plan : Option Tear) → KeepsSending caught sent (call_left_by plan list call).list (call_left_by plan list call).lost
  keeps_left None found = found_either found
  keeps_left (Some tear) found = keeps_at tear.at found

-- a call under a plan
keeps_call : (caught : List Caught) (sent : List (List ℕ)) (row : StoreRow) (plan : Option Tear) (call : Call) (cut : Bool) → row.lost ≡ None
    → (cut ≡ true → Sends caught (sent ++ row.list)) → Sends caught (sent ++ called row.list call)
    → RowKeeps caught sent (if cut then cut_call plan row call else made_call row call)
keeps_call caught sent row plan call true sure before behind = keeps_left caught sent row.list call (before refl) behind plan
keeps_call caught sent row plan call false sure before behind =
    subst (λ (lost : Option Call). KeepsSending caught sent (called row.list call) lost) (sym sure) (λ found. behind)

adds_keep : (caught : List Caught) (sent : List (List ℕ)) (row : StoreRow) (plan : Option Tear) (message : List ℕ) (cut : Bool) → row.lost ≡ None
    → RowKeeps caught sent row
    → RowKeeps (caught ++ record { message = message; lost = cut } ∷ []) sent (if cut then cut_call plan row (Adds message) else made_call row (Adds message))
adds_keep caught sent row plan message cut is keeps =
    let c : Caught = record { message = message; lost = cut } in
    let here = left_here caught sent row.list row.lost is keeps in
    keeps_call (caught ++ c ∷ []) sent row plan (Adds message) cut is (λ lost. without_one caught (sent ++ row.list) c lost here)
    (subst (λ (xs : List (List ℕ)). Sends (caught ++ c ∷ []) xs) (append_assoc sent row.list (message ∷ [])) (with_one caught (sent ++ row.list) c here))

drops_keep : (caught : List Caught) (sent : List (List ℕ)) (row : StoreRow) (plan : Option Tear) (message : List ℕ) (others : List (List ℕ)) → row.lost ≡ None
    → row.list ≡ message ∷ others → RowKeeps caught sent row → RowKeeps caught (sent ++ message ∷ []) (call_under_plan plan row Drops)
drops_keep caught sent row plan message others is list keeps =
    let whole : List (List ℕ) = sent ++ row.list in
    let sends = left_here caught sent row.list row.lost is keeps in
    let lists : whole ≡ sent ++ message ∷ others = ap (λ (xs : List (List ℕ)). sent ++ xs) list in
    let before : (sent ++ message ∷ []) ++ row.list ≡ sent ++ message ∷ message ∷ others =
    ap (λ (xs : List (List ℕ)). (sent ++ message ∷ []) ++ xs) list ∙ append_assoc sent (message ∷ []) (message ∷ others) in
    let behind : (sent ++ message ∷ []) ++ drop 1 row.list ≡ sent ++ message ∷ others =
    ap (λ (xs : List (List ℕ)). (sent ++ message ∷ []) ++ drop 1 xs) list ∙ append_assoc sent (message ∷ []) others in
    keeps_call caught (sent ++ message ∷ []) row plan Drops (is_next_cut plan row) is
    (λ cut. subst (λ (xs : List (List ℕ)). Sends caught xs) (sym before) (repeated caught whole sends sent message others lists))
    (subst (λ (xs : List (List ℕ)). Sends caught xs) (lists ∙ sym behind) sends)

ends_keep : (caught : List Caught) (sent : List (List ℕ)) (row : StoreRow) → row.lost ≡ None → row.list ≡ [] → RowKeeps caught sent row → Sends caught sent
ends_keep caught sent row is empty keeps =
    subst (λ (xs : List (List ℕ)). Sends caught xs) (ap (λ (xs : List (List ℕ)). sent ++ xs) empty ∙ append-nil sent)
    (left_here caught sent row.list row.lost is keeps)

pub store_keeps : StoreKeeps
store_keeps = record {
  begins = λ found. none;
  opens = λ caught sent row found keeps other. keeps found;
  adds = λ caught sent row plan message is keeps. adds_keep caught sent row plan message (is_next_cut plan row) is keeps;
  drops = drops_keep;
  ends = ends_keep;
}

either_found : (list : List (List ℕ)) (call : Call) (found : Bool) → (list_found list (Some call) found ≡ list) ⊎ (list_found list (Some call) found ≡ called list call)
either_found list call true = inr refl
either_found list call false = inl refl

first_found : (list : List (List ℕ)) (call : Call) (first found : Bool)
    → (list_found list (if first then None else Some call) found ≡ list) ⊎ (list_found list (if first then None else Some call) found ≡ called list call)
first_found list call true found = inl refl
first_found list call false found = either_found list call found

at_found : (at : TearAt) (list : List (List ℕ)) (call : Call) (found : Bool)
    → (list_found (call_left_at at list call).list (call_left_at at list call).lost found ≡ list)
    ⊎ (list_found (call_left_at at list call).list (call_left_at at list call).lost found ≡ called list call)
at_found (Before number) list call found = first_found list call (number == 1) found
at_found (Within number) list call found = either_found list call found
at_found Release list call found = inr refl

pub leaves_one : LeavesOneOfTwo
leaves_one None list call found = either_found list call found
leaves_one (Some tear) list call found = at_found tear.at list call found
