use Rattle.std.proofs.Common.{◌+◌, Bool, ◌∷◌, ◌++◌, [], List, sym, ap, ◌∙◌, if◌then◌else◌, append-nil}
use Rattle.app_select.specs.Candidates.{CandidateData}
use Rattle.app_select.specs.SeenCandidate.{seen_candidate, seen_all}
use Rattle.app_select.proofs.Ranks.{ranked_from, ranked_step, ranked_end, push_step, room_at}
use Rattle.app_select.proofs.candidates.push_ranked.Goals as goal

pub push_if-requires : goal.push_if-requires
push_if-requires c wanted =
    let this = seen_candidate c.index-found-place.result in
    let rest = ranked_from c.args.confirm c.args.rank c.args.found.now (c.loop-place.place + 1) in
    room_at c.loop-place.list.items c.args.list.now.items _ _ rest this c.loop-place.invariant
    (ranked_step c.args.confirm c.args.rank c.args.found.now c.loop-place.place c.index-found-place.result c.loop-place-test.true c.index-found-place.is
    ∙ ap (λ (b : Bool). (if b then this ∷ [] else []) ++ rest) (sym c.is_ranked-is_wanted.ensures ∙ wanted))
    c.requires

pub loop-place-preserved : goal.loop-place-preserved
loop-place-preserved c =
    let this = seen_candidate c.index-found-place.result in
    let rest = ranked_from c.args.confirm c.args.rank c.args.found.now (c.loop-place.place + 1) in
    rw c.push_if.ensures
    (push_step (seen_all c.loop-place.list.items) (if c.is_ranked-is_wanted.result then this ∷ [] else []) rest _ _ c.loop-place.invariant
    (ranked_step c.args.confirm c.args.rank c.args.found.now c.loop-place.place c.index-found-place.result c.loop-place-test.true c.index-found-place.is
    ∙ ap (λ (b : Bool). (if b then this ∷ [] else []) ++ rest) (sym c.is_ranked-is_wanted.ensures)))

pub returns : goal.returns
returns c =
    sym (append-nil (seen_all c.loop-place.list.items))
    ∙ ap (λ (xs : List CandidateData). seen_all c.loop-place.list.items ++ xs) (sym (ranked_end c.args.confirm c.args.rank c.args.found.now c.loop-place.place c.loop-place-test.false))
    ∙ c.loop-place.invariant
