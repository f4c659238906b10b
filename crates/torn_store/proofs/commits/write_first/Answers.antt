use Rattle.std.proofs.Common.{◌≡◌, [], ap, sym, ◌∙◌, subst, Option}
use Rattle.std.proofs.lemmas.Result.{on_ok_weaker}
use Rattle.emv_ports.specs.Cut.{release_cut}
use Rattle.emv_ports.specs.Memory.{Memory, next_release_cut}
use Rattle.emv_ports.specs.declared.tear.Tear.{Tear}
use Rattle.emv_ports.specs.declared.tear.Cut.TheVariants.{Spared}
use Rattle.torn_store.specs.Store.{IsReady}
use Rattle.torn_store.specs.Writing.{Row, WritesAll, replay_row}
use Rattle.torn_store.proofs.Committing.{changed_within}
use Rattle.torn_store.proofs.Opening.{never_stops, first_all, first_short_slice}
use Rattle.torn_store.proofs.Outcomes.{ok_spared}
use Rattle.torn_store.proofs.commits.write_first.Goals as goal

pub replay-requires : goal.replay-requires
replay-requires g c = record {
  may = record {
    on = c.requires.on.on;
    few = c.as_slice-2.ensures.fits;
    within =
        changed_within [] c.as_slice.result.now c.args.first.now c.changed_in.new.blocks.items c.as_slice-2.result.now
        c.requires.fits (c.as_slice.ensures.value ∙ c.framed.ensures) c.changed_in.ensures c.as_slice-2.ensures.value;
  };
}

pub returns-in_err-replay-clause-spared : goal.returns-in_err-replay-clause-spared
returns-in_err-replay-clause-spared g c =
    absurd
    (never_stops (g.P.Pages.memory c.args.pages.now) (g.P.Pages.memory c.replay.new.pages) (replay_row c.as_slice-2.result.now) c.requires.plan c.requires.begun
    (first_short_slice c.as_slice.result.now c.args.first.now c.changed_in.new.blocks.items c.as_slice-2.result.now c.requires.fits
    (c.as_slice.ensures.value ∙ c.framed.ensures) c.changed_in.ensures c.as_slice-2.ensures.value) c.in_err-replay.ensures.stops)

pub release-requires : goal.release-requires
release-requires g c =
    let start = g.P.Pages.memory c.args.pages.now in
    let mid = g.P.Pages.memory c.replay.new.pages in
    let done = first_all start mid c.as_slice.result.now c.args.first.now c.changed_in.new.blocks.items c.as_slice-2.result.now c.requires.on c.requires.begun
    c.requires.fits (c.as_slice.ensures.value ∙ c.framed.ensures) c.changed_in.ensures c.as_slice-2.ensures.value c.in_ok-replay.ensures.all in
    record { on = done.ready.on.on }

pub returns-clause-spared : goal.returns-clause-spared
returns-clause-spared g c =
    let start = g.P.Pages.memory c.args.pages.now in
    let mid = g.P.Pages.memory c.replay.new.pages in
    let done = first_all start mid c.as_slice.result.now c.args.first.now c.changed_in.new.blocks.items c.as_slice-2.result.now c.requires.on c.requires.begun
    c.requires.fits (c.as_slice.ensures.value ∙ c.framed.ensures) c.changed_in.ensures c.as_slice-2.ensures.value c.in_ok-replay.ensures.all in
    let none = done.row.plan ∙ c.requires.plan in
    let spared : next_release_cut mid ≡ Spared = ap (λ (p : Option Tear). release_cut p mid.commit mid.writes) none in
    ok_spared c.release.result (next_release_cut mid) spared c.release.ensures.cut

pub returns-clause-ready : goal.returns-clause-ready
returns-clause-ready g c =
    let start = g.P.Pages.memory c.args.pages.now in
    let mid = g.P.Pages.memory c.replay.new.pages in
    let done = first_all start mid c.as_slice.result.now c.args.first.now c.changed_in.new.blocks.items c.as_slice-2.result.now c.requires.on c.requires.begun
    c.requires.fits (c.as_slice.ensures.value ∙ c.framed.ensures) c.changed_in.ensures c.as_slice-2.ensures.value c.in_ok-replay.ensures.all in
    on_ok_weaker c.release.result (λ same. subst (λ (m : Memory). IsReady m c.args.first.now) (sym same) done.ready) c.release.ensures.same

pub returns-clause-row : goal.returns-clause-row
returns-clause-row g c =
    let start = g.P.Pages.memory c.args.pages.now in
    let mid = g.P.Pages.memory c.replay.new.pages in
    let done = first_all start mid c.as_slice.result.now c.args.first.now c.changed_in.new.blocks.items c.as_slice-2.result.now c.requires.on c.requires.begun
    c.requires.fits (c.as_slice.ensures.value ∙ c.framed.ensures) c.changed_in.ensures c.as_slice-2.ensures.value c.in_ok-replay.ensures.all in
    on_ok_weaker c.release.result
    (λ same. (done.number, subst (λ (m : Memory). Row start m done.number) (sym same) done.row)) c.release.ensures.same

pub returns-clause-all : goal.returns-clause-all
returns-clause-all g c =
    let start = g.P.Pages.memory c.args.pages.now in
    let row = replay_row c.as_slice-2.result.now in
    on_ok_weaker c.release.result
    (λ same. (row, subst (λ (m : Memory). WritesAll start row m) (sym same) c.in_ok-replay.ensures.all)) c.release.ensures.same
