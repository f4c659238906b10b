-- What an application makes of a command.
use Rattle.std.specs.Prelude.{ℕ, List, Option, Some, None, slice_get}
use Rattle.card_files.specs.Views.{AppData}
use Rattle.card_app.specs.PageReplies.{CardReplyData, refused}
use Rattle.card_state.specs.declared.state.AppState.{AppState}
use Rattle.card_state.specs.declared.state.CardState.{CardState}

abbrev pub with_both : Option AppData → Option AppState → (AppData → AppState → CardReplyData) → CardReplyData
with_both (Some a) (Some s) reply = reply a s
with_both (Some a) None reply = refused 0x6985
with_both None s reply = refused 0x6985

-- what an application of this number makes of its image and its state; a phase names only applications that are
-- there
abbrev pub with_app : List AppData → CardState → ℕ → (AppData → AppState → CardReplyData) → CardReplyData
with_app image state app reply = with_both (slice_get image app) (slice_get state.apps.items app) reply
