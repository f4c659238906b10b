-- VERIFY with a plain PIN block (EMV 4.3 Book 3 section 6.5.12): the try is decided before the comparison.
use Rattle.std.specs.Prelude.{ℕ, ◌==◌, not, if◌then◌else◌, List, length}
use Rattle.std.specs.Str.{bytes_eq}
use Rattle.card_files.specs.Views.{AppData}
use Rattle.card_state.specs.declared.state.AppState.{AppState}
use Rattle.card_app.specs.Comparing.{compared, has_pin}
use Rattle.card_app.specs.PageReplies.{CardReplyData, refused}

unfoldable pub verify_of : ℕ → List ℕ → AppData → AppState → CardReplyData
verify_of app block a s =
    if not (length block == 8) then refused 0x6700
    else if not (has_pin s) then refused 0x6A88
    else if s.tries == 0 then refused 0x6983
    else compared app a.tries s.tries (bytes_eq block s.pin)
