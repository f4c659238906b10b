use Rattle.std.proofs.Common.{◌≡◌, ◌∙◌, ap}
use Rattle.ber_tlv.specs.Walked.{walk_of}
use Rattle.env_map.specs.Entries.{value_of}
use Rattle.env_map.specs.Gathered.{gathered}
use Rattle.env_map.proofs.GatherLaws.{gathered-keeps, gathered-only, has_where_ok}
use Rattle.env_map.proofs.gathering.gather.Goals as goal

is_gathered : (c : goal.After-gather_behind) → c.gather_behind.new.env ≡ (gathered c.args.env.now (walk_of c.args.bytes.now)).entries
is_gathered c = rw (c.new.ensures.bytes, c.new.ensures.place) at c.gather_behind.ensures.entries

pub returns-clause-kept : goal.returns-clause-kept
returns-clause-kept c = λ tag value there.
    ap (value_of tag) (is_gathered c) ∙ gathered-keeps c.args.env.now (walk_of c.args.bytes.now) tag value there

pub returns-clause-only : goal.returns-clause-only
returns-clause-only c = λ tag absent others.
    ap (value_of tag) (is_gathered c) ∙ gathered-only c.args.env.now (walk_of c.args.bytes.now) tag absent others

pub returns-clause-objects : goal.returns-clause-objects
returns-clause-objects c =
    has_where_ok c.gather_behind.result c.args.env.now c.gather_behind.new.env (walk_of c.args.bytes.now) (is_gathered c)
    (rw (c.new.ensures.bytes, c.new.ensures.place) at c.gather_behind.ensures.fault)
