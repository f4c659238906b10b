use Rattle.std.proofs.Common.{None, Some, ◌∙◌, sym}
use Rattle.ber_tlv.specs.Seen.{seen}
use Rattle.ber_tlv.proofs.DirectFaults.{fault-end, fault-fault, fault_found, fault_passed, fault_other, whole_where_none}
use Rattle.ber_tlv.proofs.direct.template_fault.Goals as goal

pub returns-in-Ok-None-clause-exact : goal.returns-in-Ok-None-clause-exact
returns-in-Ok-None-clause-exact c =
    let zeros = rw c.in-Ok-None.field-0-is at c.in-Ok-None.ensures.end in
    sym (fault-end _ _ _ zeros) ∙ c.loop-item.invariant.same_fault

pub returns-in-Err-clause-exact : goal.returns-in-Err-clause-exact
returns-in-Err-clause-exact c = sym (fault-fault _ _ _ c.in-Err.fault c.in-Err.ensures.fault) ∙ c.loop-item.invariant.same_fault

pub returns-in-Some-clause-exact : goal.returns-in-Some-clause-exact
returns-in-Some-clause-exact c =
    let step = rw c.in-Ok-Some.field-0-is at c.in-Ok-Some.ensures.item in
    let found = sym c.first_fault.ensures.result ∙ c.in-Some.is in
    rw (c.moved.ensures, c.place.ensures)
    (sym (fault_found c.args.tag.0 _ _ (seen c.in-Ok-Some.item) _ c.in-Some.fault step (sym c.eq.ensures ∙ c.if-eq.true) found) ∙ c.loop-item.invariant.same_fault)

pub loop-item-preserved-in_default : goal.loop-item-preserved-in_default
loop-item-preserved-in_default c =
    let step = rw c.in-Ok-Some.field-0-is at c.in-Ok-Some.ensures.item in
    let none = sym c.first_fault.ensures.result ∙ c.in_default.is in
    let passed = fault_passed c.args.tag.0 _ _ (seen c.in-Ok-Some.item) _ step none in
    record {
      within = c.in-Ok-Some.ensures.within;
      same_bytes = c.in-Ok-Some.ensures.same_bytes ∙ c.loop-item.invariant.same_bytes;
      same_fault = rw c.in-Ok-Some.ensures.same_bytes (sym passed ∙ c.loop-item.invariant.same_fault);
    }

pub loop-item-preserved : goal.loop-item-preserved
loop-item-preserved c =
    let step = rw c.in-Ok-Some.field-0-is at c.in-Ok-Some.ensures.item in
    let passed = fault_other c.args.tag.0 _ _ (seen c.in-Ok-Some.item) _ step (sym c.eq.ensures ∙ c.if-eq.false) in
    record {
      within = c.in-Ok-Some.ensures.within;
      same_bytes = c.in-Ok-Some.ensures.same_bytes ∙ c.loop-item.invariant.same_bytes;
      same_fault = rw c.in-Ok-Some.ensures.same_bytes (sym passed ∙ c.loop-item.invariant.same_fault);
    }

pub returns-in-Ok-None-clause-none : goal.returns-in-Ok-None-clause-none
returns-in-Ok-None-clause-none c = whole_where_none None c.args.tag.0 c.args.bytes.now (returns-in-Ok-None-clause-exact c)

pub returns-in-Err-clause-none : goal.returns-in-Err-clause-none
returns-in-Err-clause-none c = whole_where_none (Some c.in-Err.fault) c.args.tag.0 c.args.bytes.now (returns-in-Err-clause-exact c)

pub returns-in-Some-clause-none : goal.returns-in-Some-clause-none
returns-in-Some-clause-none c = whole_where_none (Some c.moved.result) c.args.tag.0 c.args.bytes.now (returns-in-Some-clause-exact c)
