use Rattle.std.proofs.Common.{◌≡◌, Bool, true, false, [], ◌++◌, sym, ap, ◌∙◌, append-nil}
use Rattle.std.specs.Prelude.{if◌then◌else◌, option_to_list}
use Rattle.txn_replay.proofs.lane.keep_capture.Goals as goal

pub returns-then-at-clause-waits : goal.returns-then-at-clause-waits
returns-then-at-clause-waits g c =
    sym (append-nil (c.args.captures.now.messages))
    ∙ ap (λ (b : Bool). c.args.captures.now.messages ++ (if b then [] else option_to_list c.args.capture)) (sym c.if-at.true)

pub returns-then-at-clause-stored : goal.returns-then-at-clause-stored
returns-then-at-clause-stored g c = λ durable. c.store_capture.ensures.stored c.args.at.now.planned.now.terminal_tear

pub returns-then-at-clause-told : goal.returns-then-at-clause-told
returns-then-at-clause-told g c = λ plain. (let never : true ≡ false = sym c.if-at.true ∙ plain in cc)

pub returns-clause-waits : goal.returns-clause-waits
returns-clause-waits g c =
    c.add_capture.ensures.added
    ∙ ap (λ (b : Bool). c.args.captures.now.messages ++ (if b then [] else option_to_list c.args.capture)) (sym c.if-at.false)

pub returns-clause-stored : goal.returns-clause-stored
returns-clause-stored g c = λ durable. (let never : true ≡ false = sym durable ∙ c.if-at.false in cc)

pub store_capture-requires-clause-on : goal.store_capture-requires-clause-on
store_capture-requires-clause-on g c = (c.requires.room c.if-at.true).0

pub store_capture-requires-clause-room : goal.store_capture-requires-clause-room
store_capture-requires-clause-room g c = (c.requires.room c.if-at.true).1
