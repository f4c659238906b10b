use Rattle.std.proofs.Common.{◌≡◌, ℕ, zero, suc, ◌+◌, true, false, List, [], ◌∷◌, ◌++◌, length, replicate, Result, Ok, Err, refl, sym, ap, ◌∙◌, subst, arith, append-nil}
use Rattle.std.specs.Prelude.{OnErr}
use Rattle.auth_message.specs.Message.{message_of}
use Rattle.host_link.proofs.Again.{not_new}
use Rattle.issuer_host.specs.History.{HostStands, host_reply, is_new_message}
use Rattle.report_text.specs.declared.line.Line.{Line}
use Rattle.txn_replay.specs.Lines.{settle_lines}
use Rattle.txn_replay.specs.Standing.{seen_payment}
use Rattle.txn_replay.specs.Storing.{copy_lines}
use Rattle.std.proofs.lemmas.List.{append_assoc, replicate_more}
use Rattle.txn_replay.proofs.storing.send_copies.Goals as goal

pub loop-copy-init : goal.loop-copy-init
loop-copy-init c = record {
  lines = λ messages stood. c.clear.ensures;
  count = omega (arith, ap (λ (ls : List Line). length ls) c.clear.ensures);
  within = omega arith;
  end = refl;
  few = c.args.at.now.fits.few_copies;
  stands = λ messages stood. subst (λ (ms : List (List ℕ)). HostStands c.args.host.now ms) (sym (append-nil messages)) stood;
  issuer = record { keys = refl; accounts = refl };
  first = λ none. (refl, c.clear.ensures);
}

pub send-requires-clause-stands : goal.send-requires-clause-stands
send-requires-clause-stands c =
    (c.requires.stands.0 ++ replicate c.loop-copy._copy c.args.message.now, c.loop-copy.invariant.stands c.requires.stands.0 c.requires.stands.1)

pub loop-copy-preserved : goal.loop-copy-preserved
loop-copy-preserved c =
    let p = seen_payment c.args.host.now.keys c.args.host.now.accounts c.args.at.now in
    let n : ℕ = c.loop-copy._copy in
    let message : List ℕ = c.args.message.now in
    record {
      lines = λ messages stood.
          (c.in_ok-send.ensures.sent (messages ++ replicate n message) (c.loop-copy.invariant.stands messages stood)).0
          ∙ (λ i. c.loop-copy.invariant.lines messages stood i
          ++ settle_lines p.iso p.lane message (host_reply (c.loop-copy.invariant.issuer.keys i) (c.loop-copy.invariant.issuer.accounts i) (messages ++ replicate n message) message))
          ∙ ap (λ k. copy_lines p message messages k) (let e : suc n ≡ n + 1 = omega arith in e);
      count = omega (arith, c.in_ok-send.ensures.two, c.loop-copy.invariant.count);
      within = omega arith;
      end = c.loop-copy.invariant.end;
      few = c.loop-copy.invariant.few;
      stands = λ messages stood.
          subst (λ (ms : List (List ℕ)). HostStands c.send.new.host ms) (append_assoc messages (replicate n message) (message ∷ []) ∙ ap (λ (ms : List (List ℕ)). messages ++ ms) (replicate_more n message))
          (c.in_ok-send.ensures.sent (messages ++ replicate n message) (c.loop-copy.invariant.stands messages stood)).1;
      issuer = record {
        keys = c.send.ensures.issuer.keys ∙ c.loop-copy.invariant.issuer.keys;
        accounts = c.send.ensures.issuer.accounts ∙ c.loop-copy.invariant.issuer.accounts;
      };
      first = λ none. absurd (omega (arith, none));
    }

on_err : {A E : Type 0} {Q : Type 0} (r : Result A E) → Q → OnErr r Q
on_err (Ok value) holds = tt
on_err (Err fault) holds = holds

-- only the first of them can want memory
pub returns-in_err-send-clause-err : goal.returns-in_err-send-clause-err
returns-in_err-send-clause-err c = on_err c.from_residual.result (by c.loop-copy._copy refl)
  where
    by : (n : ℕ) → c.loop-copy._copy ≡ n → (c.send.new.host ≡ c.args.host.now) × (c.send.new.lines.items ≡ [])
    by zero is =
        let first = c.loop-copy.invariant.first is in
        (c.in_err-send.ensures.err.0 ∙ first.0, c.in_err-send.ensures.err.1 ∙ first.1)
    by (suc n) is =
        let message : List ℕ = c.args.message.now in
        let before : List (List ℕ) = c.requires.stands.0 ++ replicate n message in
        let stood : HostStands c.loop-copy.host (before ++ message ∷ []) =
        subst (λ (ms : List (List ℕ)). HostStands c.loop-copy.host ms)
        (ap (λ k. c.requires.stands.0 ++ replicate k message) (is ∙ (let e : suc n ≡ n + 1 = omega arith in e)) ∙ ap (λ (ms : List (List ℕ)). c.requires.stands.0 ++ ms) (sym (replicate_more n message))
        ∙ sym (append_assoc c.requires.stands.0 (replicate n message) (message ∷ [])))
        (c.loop-copy.invariant.stands c.requires.stands.0 c.requires.stands.1) in
        let again : is_new_message c.loop-copy.host.books (message_of message) ≡ false = not_new c.loop-copy.host before message stood in
        let new : is_new_message c.loop-copy.host.books (message_of message) ≡ true = c.in_err-send.ensures.memory in
        let never : true ≡ false = sym new ∙ again in
        cc
