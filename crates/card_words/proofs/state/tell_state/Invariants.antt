use Rattle.std.proofs.Common.{◌≡◌, ◌++◌, codes, decimal, drop, length}
use Rattle.report_text.specs.Pieces.{newline}
use Rattle.card_words.specs.StateText.{apps_text}
use Rattle.card_words.proofs.state.tell_state.Given as goal

abbrev pub invariant-loop-place : goal.invariant-loop-place
invariant-loop-place l =
    l.text.items ++ apps_text l.place l.state.blocked (drop l.place l.apps)
    ≡ (codes "state " ++ (decimal (length l.apps) ++ newline)) ++ apps_text 0 l.state.blocked l.apps
