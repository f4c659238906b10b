-- Where a kernel begins.
use Rattle.std.proofs.Common.{◌≡◌, ◌≤◌, ◌+◌, ◌*◌, refl, ap, [], length, arith, Option, false, None}
use Rattle.kernel.specs.BeginEnd.{HasBegun}
use Rattle.kernel.specs.Dialogue.{dialogue}
use Rattle.kernel.specs.Kernel.{opening_next}
use Rattle.kernel.specs.Rank.{opening_rank, rank_behind}
use Rattle.kernel.specs.Stages.{OpeningStands}
use Rattle.kernel.specs.declared.kernel.Next.TheVariants as next
use Rattle.kernel.specs.declared.stage.Opening.{Opening}
use Rattle.kernel.specs.declared.stage.Stage.TheVariants as stage
use Rattle.object_lists.specs.CardRead.{ReadCard}
use Rattle.read_records.specs.Afl.{most_records}
use Rattle.terminal_state.specs.Table.{outset_of}
use Rattle.terminal_state.specs.Terminal.{Outset}
use Rattle.terminal_state.specs.declared.table.Table.{Table}

pub has_begun : (outset : Outset) (t : Table) (held : Option ReadCard) (s : Opening) → held ≡ None → outset_of t ≡ outset
    → OpeningStands t s [] (dialogue (outset_of t)) → opening_next s ≡ next.ToCard
    → t.candidates ≡ [] → ((t : Table) → t.candidates ≡ [] → opening_rank t s ≤ 2 * 768 + (most_records + rank_behind t))
    → HasBegun outset (record { table = t; card = held; stage = stage.Opening s; taken = 0; is_spent = false })
has_begun outset t held s unread is stands waits empty few =
    let pins : length t.purchase.now.pins ≡ length outset.purchase.pins = ap (λ (d : Outset). length d.purchase.pins) is in
    let rank = few t empty in
    record {
      stands = record { count = refl; log = []; goes = stands };
      outset_is = is;
      waits = waits;
      fresh = refl;
      unread = unread;
      few = omega arith;
    }
