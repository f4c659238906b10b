use Rattle.std.proofs.Common.{◌≡◌, ◌++◌, ◌<◌, ◌∷◌, [], arith, sym, ◌∙◌}
use Rattle.std.proofs.lemmas.Bool.Decides.{nat_tests}
use Rattle.env_map.proofs.EntryLemmas.{below_last}
use Rattle.env_map.proofs.env.Env.is_below.Goals as goal

pub returns-in-Some : goal.returns-in-Some
returns-in-Some c = λ low.
    let all : c.self.inside.places.items ≡ c.in-Some.field-0-1.now ++ c.in-Some.place.now ∷ [] = sym c.deref.ensures.0 ∙ c.in-Some.ensures.cases.0 in
    let below : c.in-Some.place.now.tag.0 < c.args.tag.0 = grind (arith, nat_tests, low) in
    rw (← c.self.view_is, all)
    (below_last c.self.inside.bytes.items c.in-Some.field-0-1.now c.in-Some.place.now c.args.tag.0 (rw all at c.self.invariant.rising) below)
