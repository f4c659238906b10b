use Rattle.std.proofs.Common.{◌≡◌, None, Option, Some, refl, sym, ◌∙◌, true, false}
use Rattle.emv_dict.specs.declared.ending.Cause.{Cause}
use Rattle.object_lists.proofs.FormLemmas.{formed, unformed}
use Rattle.object_lists.specs.Forms.{HasForms}
use Rattle.object_lists.proofs.card_data.CardData.checked.Goals as goal

pub new-requires : goal.new-requires
new-requires c = formed c.args.env (c.if-not-has_options.ensures.0 refl) (sym c.objects_fault.ensures ∙ c.in-None.is)

pub returns-in-Some-clause-read : goal.returns-in-Some-clause-read
returns-in-Some-clause-read c = (
  λ (e : false ≡ true). cc,
  λ (forms : HasForms c.args.env).
      let none : ◌≡◌ {A = Option Cause} (Some c.in-Some.field-0) None = sym c.in-Some.is ∙ c.objects_fault.ensures ∙ unformed c.args.env forms in
      cc,
)
