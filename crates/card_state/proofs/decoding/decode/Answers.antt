use Rattle.std.proofs.Common.{List, ℕ, rules, sym, ap, ◌∙◌}
use Rattle.card_state.specs.Layout.{decoded}
use Rattle.card_state.specs.Totals.{totals}
use Rattle.card_state.proofs.Decoded.{decoded-encoding, decoded-encoding_one, if_encoded}
use Rattle.card_state.proofs.Encodable.{totals-encodable}
use Rattle.card_state.proofs.decoding.decode.Goals as goal

pub returns-clause-reads : goal.returns-clause-reads
returns-clause-reads c state is same =
    c.read_either.ensures ∙ ap (λ (bs : List ℕ). decoded bs) (sym same) ∙ decoded-encoding state is

pub returns-clause-reads_one : goal.returns-clause-reads_one
returns-clause-reads_one c state is same =
    c.read_either.ensures ∙ ap (λ (bs : List ℕ). decoded bs) (sym same) ∙ decoded-encoding_one state is

pub returns-clause-bytes : goal.returns-clause-bytes
returns-clause-bytes c = if_encoded c.args.bytes.now c.read_either.result (search rules) c.read_either.ensures

pub returns-clause-stored : goal.returns-clause-stored
returns-clause-stored c opening ds opened short allowed fit same =
    c.read_either.ensures ∙ ap (λ (bs : List ℕ). decoded bs) (sym same)
    ∙ decoded-encoding (totals opening ds) (totals-encodable opening ds opened short allowed fit)

pub returns-clause-stored_one : goal.returns-clause-stored_one
returns-clause-stored_one c opening ds opened short allowed fit same =
    c.read_either.ensures ∙ ap (λ (bs : List ℕ). decoded bs) (sym same)
    ∙ decoded-encoding_one (totals opening ds) (totals-encodable opening ds opened short allowed fit)
