-- The scripts of an account are scripts of a reply.
use Rattle.std.proofs.Common.{◌≡◌, ℕ, Bool, true, false, ◌≤◌, List, [], ◌∷◌, ◌++◌, length, refl, sym, ap, subst, arith, suc}
use Rattle.std.specs.Prelude.{flat_map}
use Rattle.ber_tlv.specs.Written.{written}
use Rattle.auth_message.specs.Reply.{AreScripts}
use Rattle.auth_message.specs.Spelling.{spelled}
use Rattle.auth_message.specs.Whole.{AreSpelledScripts}
use Rattle.auth_message.proofs.Templates.{are_templates, spelled_are_scripts}
use Rattle.script_words.specs.MadeLength.{template_tag}
use Rattle.script_words.specs.Script.{ScriptData}
use Rattle.issuer_host.specs.Scripts.{order_bytes, identifier_bytes, script_bytes, all_script_bytes}
use Rattle.issuer_host.specs.declared.script.ScriptKeys.{ScriptKeys}

content : ScriptKeys → ScriptData → List ℕ
content keys script = identifier_bytes script.id ++ flat_map (order_bytes keys) script.commands

fields : ScriptKeys → List ScriptData → List (ℕ × List ℕ)
fields keys [] = []
fields keys (script ∷ scripts) = (template_tag script.before, content keys script) ∷ fields keys scripts

spelled_is : (keys : ScriptKeys) (scripts : List ScriptData) → all_script_bytes keys scripts ≡ spelled (fields keys scripts)
unfolding fields content script_bytes
spelled_is keys [] = refl
spelled_is keys (script ∷ scripts) = ap (λ b. written (template_tag script.before) (identifier_bytes script.id ++ flat_map (order_bytes keys) script.commands) ++ b) (spelled_is keys scripts)

templates_are : (before : Bool) (keys : ScriptKeys) (scripts : List ScriptData) (value : List ℕ) → are_templates (fields keys scripts) ≡ true → are_templates ((template_tag before, value) ∷ fields keys scripts) ≡ true
templates_are true keys scripts value rest = rest
templates_are false keys scripts value rest = rest

all_templates : (keys : ScriptKeys) (scripts : List ScriptData) → are_templates (fields keys scripts) ≡ true
unfolding fields
all_templates keys [] = refl
all_templates keys (script ∷ scripts) = templates_are script.before keys scripts (content keys script) (all_templates keys scripts)

count : (keys : ScriptKeys) (scripts : List ScriptData) → length (fields keys scripts) ≡ length scripts
unfolding fields
count keys [] = refl
count keys (script ∷ scripts) = ap suc (count keys scripts)

-- scripts that an account may have
pub made_spelled : (keys : ScriptKeys) (scripts : List ScriptData) → length scripts ≤ 8 → length (all_script_bytes keys scripts) ≤ 1024 → AreSpelledScripts (all_script_bytes keys scripts)
made_spelled keys scripts few short = record {
  fields = fields keys scripts;
  templates = all_templates keys scripts;
  few = omega (arith, count keys scripts);
  short = short;
  exact = spelled_is keys scripts;
}

pub made_are_scripts : (keys : ScriptKeys) (scripts : List ScriptData) (bytes : List ℕ) → bytes ≡ all_script_bytes keys scripts → length scripts ≤ 8 → length bytes ≤ 1024 → AreScripts bytes
made_are_scripts keys scripts bytes same few short =
    subst AreScripts (sym same) (spelled_are_scripts (all_script_bytes keys scripts) (made_spelled keys scripts few (omega (arith, ap length same))))
