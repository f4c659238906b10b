use Rattle.std.proofs.Common.{Bool, ◌&&◌, not, sym, ap, ◌∙◌}
use Rattle.std.specs.List.{list_any}
use Rattle.app_select.specs.Candidates.{is_candidate_named}
use Rattle.app_select.specs.SeenCandidate.{seen_all}
use Rattle.app_select.proofs.Ranks.{any_seen}
use Rattle.app_select.proofs.candidates.is_kept.Goals as goal

pub returns-then-is_allowed : goal.returns-then-is_allowed
returns-then-is_allowed c =
    let name = c.args.candidate.now.name in
    ap not (c.is_named.ensures ∙ any_seen name c.args.earlier.now)
    ∙ ap (λ (b : Bool). b && not (list_any (is_candidate_named name) (seen_all c.args.earlier.now))) (sym c.if-is_allowed.true ∙ c.is_allowed.ensures)
