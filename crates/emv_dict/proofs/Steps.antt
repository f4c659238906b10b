-- A step that has taken some answers goes on.
use Rattle.std.proofs.Common.{◌≡◌, ℕ, List, [], ◌∷◌, ◌++◌, ap, sym, ◌∙◌, append_assoc, append-nil}
use Rattle.emv_dict.specs.Progress.{Progress, Leads}

-- one answer more
pub leads_more : {A : Type 0} (whole start next : List (List ℕ) → Progress A) (answers : List (List ℕ)) (r : List ℕ)
    → Leads whole answers start → ((later : List (List ℕ)) → start (r ∷ later) ≡ next later) → Leads whole (answers ++ r ∷ []) next
leads_more whole start next answers r leads on later =
    ap whole (append_assoc answers (r ∷ []) later) ∙ leads (r ∷ later) ∙ on later

-- what the whole makes of the answers so far
pub leads_now : {A : Type 0} (whole start : List (List ℕ) → Progress A) (answers : List (List ℕ)) → Leads whole answers start → whole answers ≡ start []
leads_now whole start answers leads = ap whole (sym (append-nil answers)) ∙ leads []
