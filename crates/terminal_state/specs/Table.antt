-- What lies on the terminal's table: what was dealt, and the host's reply.
use Rattle.std.specs.Prelude.{[], ◌∷◌, None}
use Rattle.auth_message.specs.Reply.{ReplyData}
use Rattle.emv_dict.specs.Settings.{IsSettings, IsPurchase}
use Rattle.terminal_state.specs.Terminal.{Outset}
use Rattle.terminal_state.specs.declared.table.Table.{Table}

-- the outset that lies on a table
abbrev pub outset_of : Table → Outset
outset_of t = record { settings = t.settings.now; purchase = t.purchase.now }

-- the settings and the purchase are within their ranges
pub record IsOutset (outset : Outset) : Type 0 where
  pub settings : IsSettings outset.settings
  pub purchase : IsPurchase outset.purchase

-- where the host has said nothing
abbrev pub no_reply : ReplyData
no_reply = record { code = 0 ∷ 0 ∷ []; auth = None; scripts = [] }
