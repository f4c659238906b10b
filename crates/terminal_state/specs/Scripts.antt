-- The script templates of a reply (EMV 4.3 Book 3 section 10.10).
use Rattle.std.specs.Prelude.{◌≡◌, ℕ, ◌≤◌, Bool, false, nat_le, if◌then◌else◌, List, [], length, Result, Ok, Err}
use Rattle.auth_message.specs.Reply.{ReplyData}
use Rattle.ber_tlv.specs.Direct.{values_of}
use Rattle.ber_tlv.specs.Item.{ItemData}
use Rattle.ber_tlv.specs.Left.{items_of}
use Rattle.ber_tlv.specs.declared.item.TlvFault.{TlvFault}

-- the values of the templates of this tag, in their order
unfoldable pub templates_of_tag : ℕ → List ℕ → List (List ℕ)
templates_of_tag tag scripts = values_of tag (items_of scripts)

-- objects alone, at most 8
pub record AreFew (scripts : List ℕ) : Type 0 where
  pub items : List ItemData
  pub listed : items_of scripts ≡ Ok items
  pub few : length items ≤ 8

abbrev pub has_few_scripts : Result (List ItemData) TlvFault → Bool
has_few_scripts (Ok items) = nat_le (length items) 8
has_few_scripts (Err fault) = false

-- at most 8 objects, as the scripts of each reply are
abbrev pub sound_scripts : List ℕ → List ℕ
sound_scripts scripts = (if has_few_scripts (items_of scripts) then scripts else [])

-- a reply as it is kept for the steps behind it
abbrev pub kept_host_reply : ReplyData → ReplyData
kept_host_reply reply = record { code = reply.code; auth = reply.auth; scripts = sound_scripts reply.scripts }
