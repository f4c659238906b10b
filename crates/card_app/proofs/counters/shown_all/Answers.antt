use Rattle.std.proofs.Common.{◌≡◌, ◌+◌, List, [], ◌∷◌, ◌++◌, length, sym, ap, ◌∙◌, length-append, take}
use Rattle.std.proofs.lemmas.Slice.Zip.{zip_turn, zip_end}
use Rattle.std.specs.Iterator.Adapters.{zip_first, zip_second}
use Rattle.std.specs.List.{zip}
use Rattle.std.specs.Slice.Iter.{iter_rest}
use Rattle.report_text.specs.declared.line.Shown.{Shown}
use Rattle.card_app.proofs.Showing.{shown_pairs, shows_more, shows_all}
use Rattle.card_app.proofs.counters.shown_all.Goals as goal

pub loop-app-preserved : goal.loop-app-preserved
loop-app-preserved c =
    let first =
    ap (λ z. iter_rest (zip_first z)) c.into_iter-app-iterator.ensures.into_iter_gives
    ∙ ap iter_rest c.zip-app-items.ensures.first
    ∙ c.iter.ensures.rest
    ∙ c.apps.ensures.apps in
    let other : iter_rest (zip_second c.zip-app-items.result) ≡ c.as_slice.result.now = c.zip-app-items.ensures.second.0 in
    let second =
    ap (λ z. iter_rest (zip_second z)) c.into_iter-app-iterator.ensures.into_iter_gives
    ∙ other
    ∙ c.as_slice.ensures.value in
    let turn = zip_turn c.args.image.now.apps c.args.state.now.apps.items c.loop-app.yielded c.into_iter-app-iterator.result c.loop-app.app-iterator c.next.new.self c.next.result first second c.loop-app.yielded_by
    (c.in-Some.app, c.in-Some.counts) c.in-Some.is c.next.ensures.steps in
    let more : length (c.loop-app.yielded ++ (c.in-Some.app, c.in-Some.counts) ∷ []) ≡ length c.loop-app.yielded + 1 =
    length-append c.loop-app.yielded ((c.in-Some.app, c.in-Some.counts) ∷ []) in
    record {
      so_far =
          c.push.ensures.items
          ∙ ap (λ (xs : List Shown). xs ++ c.shown.result ∷ []) c.loop-app.invariant.so_far
          ∙ ap (λ (x : Shown). shown_pairs (take (length c.loop-app.yielded) (zip c.args.image.now.apps c.args.state.now.apps.items)) ++ x ∷ []) c.shown.ensures
          ∙ sym (shows_more c.args.image.now.apps c.args.state.now.apps.items (length c.loop-app.yielded) c.in-Some.app.now c.in-Some.counts.now turn.0 turn.1
          (turn.2 c.in-Some.app.now) (turn.3 c.in-Some.counts.now))
          ∙ ap (λ n. shown_pairs (take n (zip c.args.image.now.apps c.args.state.now.apps.items))) (sym more);
      sized = ap length c.push.ensures.items ∙ length-append c.loop-app.all.items (c.shown.result ∷ []) ∙ ap (λ n. n + 1) c.loop-app.invariant.sized ∙ sym more;
      few = c.loop-app.invariant.few;
    }

pub returns : goal.returns
returns c =
    let first =
    ap (λ z. iter_rest (zip_first z)) c.into_iter-app-iterator.ensures.into_iter_gives
    ∙ ap iter_rest c.zip-app-items.ensures.first
    ∙ c.iter.ensures.rest
    ∙ c.apps.ensures.apps in
    let other : iter_rest (zip_second c.zip-app-items.result) ≡ c.as_slice.result.now = c.zip-app-items.ensures.second.0 in
    let second =
    ap (λ z. iter_rest (zip_second z)) c.into_iter-app-iterator.ensures.into_iter_gives
    ∙ other
    ∙ c.as_slice.ensures.value in
    c.loop-app.invariant.so_far
    ∙ shows_all c.args.image.now.apps c.args.state.now.apps.items (length c.loop-app.yielded)
    (zip_end c.args.image.now.apps c.args.state.now.apps.items c.loop-app.yielded c.into_iter-app-iterator.result c.loop-app.app-iterator c.next.new.self c.next.result first second c.loop-app.yielded_by c.in-None.is c.next.ensures.steps)
