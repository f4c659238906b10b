-- The replies of an issuer's host leave each transaction to the terminal: the new ones, and those that it kept.
use Rattle.std.proofs.Common.{ℕ, Bool, true, false, if◌then◌else◌, List, [], Option, Some, None, refl, sym, subst}
use Rattle.std.proofs.lemmas.List.Elements.{All-nil}
use Rattle.auth_message.specs.Data.{RequestData}
use Rattle.issuer_host.specs.Account.{AccountData}
use Rattle.issuer_host.specs.Books.{Books}
use Rattle.issuer_host.specs.Code.{code_bytes}
use Rattle.issuer_host.specs.Reply.{code_alone, said_bytes, is_served, script_keys, keyed_response, online_reply}
use Rattle.issuer_host.specs.Scripts.{all_script_bytes}
use Rattle.issuer_host.specs.declared.code.Code.{Code}
use Rattle.issuer_host.specs.declared.keys.HostKeys.{HostKeys}
use Rattle.issuer_host.proofs.Replies.{every_reply}
use Rattle.issuer_host.specs.declared.script.ScriptKeys.{ScriptKeys}
use Rattle.script_words.specs.Script.{ScriptData}
use Rattle.dialogue_laws.specs.Decisions.{HostsAreLinked}
use Rattle.dialogue_laws.specs.UncutPurchase.{IsLinked}
use Rattle.dialogue_laws.proofs.MadeScripts.{HoldsPlain, made_fields, scripts_spelled, made_are, made_plain}
use Rattle.dialogue_laws.proofs.PlainReplies.{plain_reply}

abbrev LinksTo : List ℕ → Type 0
LinksTo reply = IsLinked (Some reply)

plain_links : (code : Code) → LinksTo (said_bytes (code_alone code))
plain_links code = plain_reply [] refl refl (All-nil HoldsPlain) (code_bytes code) None

made_links : (code : Code) (auth : Option (List ℕ)) (keys : ScriptKeys) (scripts : List ScriptData) → LinksTo (said_bytes (record { code = code; auth = auth; scripts = all_script_bytes keys scripts }))
made_links code auth keys scripts =
    subst (λ (bytes : List ℕ). LinksTo (said_bytes (record { code = code; auth = auth; scripts = bytes }))) (sym (scripts_spelled keys scripts))
    (plain_reply (made_fields keys scripts) (made_are keys scripts).0 (made_are keys scripts).1 (made_plain keys scripts) (code_bytes code) auth)

online_links : (keys : HostKeys) (account : AccountData) (books : Books) (f : RequestData) (code : Code) → LinksTo (said_bytes (online_reply keys account books f code))
online_links keys account books f code = by (is_served account.pan books)
  where
    by : (served : Bool) → LinksTo (said_bytes (record { code = code; auth = Some (keyed_response keys account f code); scripts = (if served then [] else all_script_bytes (script_keys keys f) account.scripts) }))
    by true = plain_reply [] refl refl (All-nil HoldsPlain) (code_bytes code) (Some (keyed_response keys account f code))
    by false = made_links code (Some (keyed_response keys account f code)) (script_keys keys f) account.scripts

-- each reply of a host
pub hosts_linked : HostsAreLinked
hosts_linked = λ keys accounts messages message. every_reply LinksTo keys accounts (record { plain = plain_links; online = λ pan account known books f code. online_links keys account books f code }) messages message
