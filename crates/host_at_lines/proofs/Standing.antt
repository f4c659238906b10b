-- Where a host at lines stands behind a line.
use Rattle.std.proofs.Common.{◌≡◌, ℕ, Bool, true, if◌then◌else◌, List, [], ◌∷◌, ◌++◌, map, Option, Some, None, refl, sym, ap, subst, ◌∙◌}
use Rattle.std.proofs.lemmas.List.{map-append}
use Rattle.auth_message.specs.Message.{message_of}
use Rattle.issuer_host.specs.Account.{AccountData}
use Rattle.issuer_host.specs.Books.{Books}
use Rattle.issuer_host.specs.History.{HostData, HostStands, books_of, host_reply}
use Rattle.issuer_host.specs.Reasons.{reason_in}
use Rattle.issuer_host.specs.declared.keys.HostKeys.{HostKeys}
use Rattle.issuer_host.specs.declared.reason.Reason.{Reason}
use Rattle.line_talk.specs.Turns.{Turn}
use Rattle.line_talk.specs.declared.party.Onward.TheVariants.{Rests}
use Rattle.host_at_lines.specs.Because.{because_by, because_of}
use Rattle.host_at_lines.specs.Calls.{call_named}
use Rattle.host_at_lines.specs.Talk.{HeardMessages, HostHasAnswered, HostTalked, IsHostTurn, Last, Nothing, Stands, begins, goes, messages_of, host_turn, host_turn_by}
use Rattle.host_at_lines.specs.Words.{host_word}
use Rattle.host_at_lines.specs.declared.because.Because.{Because as Why}
use Rattle.host_at_lines.specs.declared.call.Call.{Call}
use Rattle.host_at_lines.specs.declared.word.Word.{Word}

-- one more, where there was room
pub pushed : (old mid new : List (Option Call)) (call : Option Call) (ok : Bool) → new ≡ (if ok then mid ++ call ∷ [] else mid) → ok ≡ true → mid ≡ old → new ≡ old ++ call ∷ []
pushed old mid new call ok is there same =
    is ∙ ap (λ (b : Bool). if b then mid ++ call ∷ [] else mid) there ∙ ap (λ (calls : List (Option Call)). calls ++ call ∷ []) same

-- nothing changed
pub stays : (old new : HostData) (accounts : List AccountData) (calls calls_new : List (Option Call)) (because : Option Why) (heard : HeardMessages)
    → new ≡ old → calls_new ≡ calls → Stands old accounts calls because heard → Stands new accounts calls_new because heard
stays old new accounts calls calls_new because heard same same_calls at =
    subst (λ (h : HostData). Stands h accounts calls_new because heard) (sym same) (subst (λ (c : List (Option Call)). Stands old accounts c because heard) (sym same_calls) at)

module _ (old new : HostData) (accounts : List AccountData) (calls : List (Option Call)) (because : Option Why) (heard : HeardMessages) (at : Stands old accounts calls because heard)
    (message reply : List ℕ) (call : Option Call) (reason : Reason) (keys : new.keys ≡ old.keys) (same : new.accounts ≡ old.accounts) (named_is : call ≡ call_named message)
    (reason_is : reason ≡ reason_in old.keys old.accounts old.books message (message_of message))
    (reply_is : (messages : List (List ℕ)) → HostStands old messages → reply ≡ host_reply old.keys old.accounts messages message) where
  abbrev before : List (List ℕ)
  before = messages_of heard

  reason_now : Reason
  reason_now = reason_in old.keys old.accounts (books_of old.keys old.accounts before) message (message_of message)

  because_before : because_by calls call reason reply ≡ because_of old.keys old.accounts before message
  unfolding because_of reason_now
  because_before =
      ap (λ (c : List (Option Call)). because_by c call reason reply) at.calls_are
      ∙ ap (λ (c : Option Call). because_by (map call_named before) c reason reply) named_is
      ∙ ap (λ (r : Reason). because_by (map call_named before) (call_named message) r reply)
      (reason_is ∙ ap (λ (b : Books). reason_in old.keys old.accounts b message (message_of message)) at.host_is.books)
      ∙ ap (λ (r : List ℕ). because_by (map call_named before) (call_named message) reason_now r) (reply_is before at.host_is)

  because_now : because_by calls call reason reply ≡ because_of new.keys new.accounts before message
  because_now =
      because_before
      ∙ ap (λ (k : HostKeys). because_of k old.accounts before message) (sym keys)
      ∙ ap (λ (a : List AccountData). because_of new.keys a before message) (sym same)

  -- one message more came
  pub asked : (calls_new : List (Option Call)) (because_new : Option Why) → ((messages : List (List ℕ)) → HostStands old messages → HostStands new (messages ++ message ∷ []))
      → calls_new ≡ calls ++ call ∷ [] → because_new ≡ Some (because_by calls call reason reply) → Stands new accounts calls_new because_new (Last before message)
  asked calls_new because_new stands more told = record {
    host_is = stands before at.host_is;
    accounts_are = at.accounts_are ∙ sym same;
    calls_are =
        more ∙ ap (λ (c : List (Option Call)). c ++ call ∷ []) at.calls_are ∙ ap (λ (c : Option Call). map call_named before ++ c ∷ []) named_is
        ∙ sym (map-append call_named before (message ∷ []));
    because_is = told ∙ ap (λ (w : Why). Some w) because_now;
  }

-- what a line asks
pub word_turns : (old new : HostData) (accounts accounts_new : List AccountData) (calls calls_new : List (Option Call)) (because because_new : Option Why) (text line : List ℕ) (word : Word) → word ≡ host_word line
    → ((heard : HeardMessages) → Stands old accounts calls because heard → IsHostTurn new accounts_new calls_new because_new text (host_turn_by old.keys old.accounts heard word))
    → (heard : HeardMessages) → Stands old accounts calls because heard → IsHostTurn new accounts_new calls_new because_new text (host_turn old.keys old.accounts heard line)
unfolding host_turn
word_turns old new accounts accounts_new calls calls_new because because_new text line word same turns heard at =
    subst (λ (w : Word). IsHostTurn new accounts_new calls_new because_new text (host_turn_by old.keys old.accounts heard w)) same (turns heard at)

-- one more line was answered
pub answers_more : (old new : HostData) (accounts accounts_new : List AccountData) (calls calls_new : List (Option Call)) (because because_new : Option Why) (line text : List ℕ) (turns : List Turn)
    → new.keys ≡ old.keys → new.accounts ≡ old.accounts
    → ((heard : HeardMessages) → Stands old accounts calls because heard → IsHostTurn new accounts_new calls_new because_new text (host_turn old.keys old.accounts heard line))
    → HostHasAnswered old accounts calls because turns
    → HostHasAnswered new accounts_new calls_new because_new (turns ++ record { line = line; answer = text; onward = Rests } ∷ [])
answers_more old new accounts accounts_new calls calls_new because because_new line text turns keys same answered has =
    let found = answered has.heard has.stands in
    let after : HeardMessages = (host_turn old.keys old.accounts has.heard line).after in
    let now : List Turn = turns ++ record { line = line; answer = text; onward = Rests } ∷ [] in
    record {
      heard = after;
      talked =
          subst (λ (k : HostKeys). HostTalked k new.accounts now after) (sym keys)
          (subst (λ (a : List AccountData). HostTalked old.keys a now after) (sym same)
          (subst (λ (t : List ℕ). HostTalked old.keys old.accounts (turns ++ record { line = line; answer = t; onward = Rests } ∷ []) after) (sym found.answer_is)
          (goes turns has.heard line has.talked)));
      stands = found.stands;
    }

-- and none at first
pub none_answered : (host : HostData) (accounts : List AccountData) (calls : List (Option Call)) → HostStands host [] → accounts ≡ host.accounts → calls ≡ []
    → HostHasAnswered host accounts calls None []
none_answered host accounts calls begun same empty = record {
  heard = Nothing;
  talked = begins;
  stands = record { host_is = begun; accounts_are = same; calls_are = empty; because_is = refl };
}
