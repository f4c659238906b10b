use Rattle.std.proofs.Common.{◌++◌, ◌∙◌}
use Rattle.torn_store.proofs.Committing.{changed_within}
use Rattle.torn_store.proofs.commits.write_state.Goals as goal

pub write_row-requires : goal.write_row-requires
write_row-requires g c = record {
  may = record {
    on = c.requires.on;
    few = c.as_slice-2.ensures.fits;
    within =
        changed_within (c.length_bytes.result ++ c.args.old.now) c.as_slice.result.now c.args.new.now c.changed_in.new.blocks.items c.as_slice-2.result.now
        c.requires.fits (c.as_slice.ensures.value ∙ c.framed.ensures) c.changed_in.ensures c.as_slice-2.ensures.value;
  };
}
