use Rattle.std.proofs.Common.{List, ap, ◌∙◌, refl, subst, ◌++◌}
use Rattle.std.specs.List.{All, flat_map}
use Rattle.card_state.specs.declared.state.LogRow.{LogRow}
use Rattle.card_state.specs.Encoding.{app_bytes, app_bytes_one, more_bytes, row_bytes, IsLogRow}
use Rattle.card_state.proofs.Bytes.{three_parts}
use Rattle.card_state.proofs.encoding.append_app.Goals as goal

pub returns-clause-items : goal.returns-clause-items
unfolding app_bytes
returns-clause-items c =
    three_parts c.args.out.now.items _ _ _ (app_bytes c.args.app.now) (app_bytes_one c.args.app.now) (more_bytes c.args.app.now) (flat_map row_bytes c.args.app.now.log.items)
    c.append_first.ensures.items c.append_more.ensures.items
    (c.append_rows.ensures.items ∙ ap (λ (rows : List LogRow). c.append_more.new.out.items ++ flat_map row_bytes rows) c.as_slice.ensures.value) refl

pub returns-clause-ranges : goal.returns-clause-ranges
returns-clause-ranges c = record {
  one = c.append_first.ensures.ranges;
  more = c.append_more.ensures.ranges;
  rows = subst (λ (rows : List LogRow). All IsLogRow rows) c.as_slice.ensures.value c.append_rows.ensures.ranges;
}
