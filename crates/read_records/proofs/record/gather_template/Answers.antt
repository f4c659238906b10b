use Rattle.std.proofs.Common.{◌≡◌, is_some, true, Ok, Err, sym, ap, ◌∙◌}
use Rattle.std.specs.declared.result.Result.{Result}
use Rattle.ber_tlv.specs.Direct.{sole_value}
use Rattle.ber_tlv.specs.Left.{items_of}
use Rattle.ber_tlv.specs.Walked.{walk_of}
use Rattle.emv_dict.specs.declared.ending.Cause.{Cause}
use Rattle.env_map.specs.Entries.{Entries}
use Rattle.read_records.proofs.Gathering.{gathered-ok, gathered-err, is_some-there}
use Rattle.read_records.proofs.record.gather_template.Goals as goal

pub returns-in-Ok-clause-exact : goal.returns-in-Ok-clause-exact
returns-in-Ok-clause-exact c =
    let there : is_some (sole_value 0x70 (items_of c.args.body.now)) ≡ true =
    is_some-there _ _ _ _ c.sole_value.ensures.exact c.is_none.ensures c.if-is_none.false in
    rw there (gathered-ok (walk_of c.args.body.now) c.args.env.now (sym c.in-Ok.ensures.fault)
    ∙ ap (λ (entries : Entries). let r : Result Entries Cause = Ok entries in r) (sym c.gather.ensures.entries))

pub returns-in-Err-clause-exact : goal.returns-in-Err-clause-exact
returns-in-Err-clause-exact c =
    let there : is_some (sole_value 0x70 (items_of c.args.body.now)) ≡ true =
    is_some-there _ _ _ _ c.sole_value.ensures.exact c.is_none.ensures c.if-is_none.false in
    rw there (gathered-err (walk_of c.args.body.now) c.args.env.now c.in-Err.fault (sym c.in-Err.ensures.fault)
    ∙ ap (λ (cause : Cause). let r : Result Entries Cause = Err cause in r) (sym c.cause_of.ensures))
