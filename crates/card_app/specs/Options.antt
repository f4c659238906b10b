-- GET PROCESSING OPTIONS (EMV 4.3 Book 3 section 6.5.8).
use Rattle.std.specs.Prelude.{ℕ, ◌==◌, ◌&&◌, not, Bool, false, nat_le, if◌then◌else◌, List, length, Option, Some, None}
use Rattle.ber_tlv.specs.Direct.{sole_value}
use Rattle.ber_tlv.specs.Left.{items_of}
use Rattle.card_files.specs.Views.{AppData}
use Rattle.card_cryptogram.specs.Options.{options_body}
use Rattle.card_policy.specs.Policy.{may_start}
use Rattle.card_state.specs.declared.decision.Decision.TheVariants.{Started as TakesCounter}
use Rattle.card_state.specs.declared.state.AppState.{AppState}
use Rattle.card_app.specs.OwnLists.{pdol_total}
use Rattle.card_app.specs.PageReplies.{CardReplyData, refused, decides}

-- the data is one object 83 alone, with the data of the list
abbrev pub is_of_size : ℕ → Option (List ℕ) → Bool
is_of_size count None = false
is_of_size count (Some value) = length value == count

-- the profile and the locator
abbrev pub body_for : AppData → List ℕ
body_for a = options_body a.gpo_format a.aip a.afl

-- a blocked card or application starts no transaction, nor does one without a counter left, nor one whose answer
-- does not fit
abbrev pub starts : AppData → AppState → Bool → Bool
starts a s card_blocked = may_start s card_blocked && nat_le (length (body_for a)) 256

unfoldable pub options_of : Bool → ℕ → List ℕ → AppData → AppState → CardReplyData
options_of card_blocked app body a s =
    if not (is_of_size (pdol_total a.pdol) (sole_value 0x83 (items_of body))) then refused 0x6700
    else if not (starts a s card_blocked) then refused 0x6985
    else decides app TakesCounter (body_for a) 0x9000
