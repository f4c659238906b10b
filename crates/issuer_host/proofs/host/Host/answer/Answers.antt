use Rattle.std.proofs.Common.{◌≡◌, ℕ, List, Ok, refl, sym, ap, subst, ◌∙◌}
use Rattle.std.specs.Option.{is_none}
use Rattle.auth_message.specs.Message.{message_of}
use Rattle.auth_message.specs.declared.message.Incoming.{Incoming}
use Rattle.issuer_host.specs.History.{HostStands, is_new_message}
use Rattle.auth_message.specs.Whole.{IsReply}
use Rattle.issuer_host.specs.declared.code.Code.TheVariants.{Declined}
use Rattle.issuer_host.proofs.Histories.{replied, stands_after}
use Rattle.issuer_host.proofs.Replies.{plain_written, replies_written}
use Rattle.issuer_host.proofs.Steps.{on_ok_map, on_err_map}
use Rattle.issuer_host.proofs.host.Host.answer.Goals as goal

pub returns-in-Err-clause-reply : goal.returns-in-Err-clause-reply
returns-in-Err-clause-reply c = λ messages stands. c.plain.ensures.bytes ∙ replied c.args.self.now messages c.args.message.now _ c.in-Err.ensures.value stands

pub returns-in-Err-clause-stands : goal.returns-in-Err-clause-stands
returns-in-Err-clause-stands c = λ messages stands. stands_after c.args.self.now c.args.self.now messages c.args.message.now _ c.in-Err.ensures.value stands refl refl refl

pub returns-in-Request-clause-reply : goal.returns-in-Request-clause-reply
returns-in-Request-clause-reply c = λ messages stands.
    let is : message_of c.args.message.now ≡ Ok c.in-Ok.incoming = c.in-Ok.ensures.value in
    c.answer_request.ensures.reply ∙ replied c.args.self.now messages c.args.message.now _ (is ∙ ap (λ (x : Incoming). Ok x) c.in-Request.is) stands

pub returns-in-Request-clause-stands : goal.returns-in-Request-clause-stands
returns-in-Request-clause-stands c =
    let is : message_of c.args.message.now ≡ Ok c.in-Ok.incoming = c.in-Ok.ensures.value in
    on_ok_map c.answer_request.result (λ kept. λ (messages : List (List ℕ)) (stands : HostStands c.args.self.now messages). stands_after c.args.self.now c.answer_request.new.self messages c.args.message.now _ (is ∙ ap (λ (x : Incoming). Ok x) c.in-Request.is) stands
    c.answer_request.ensures.keys c.answer_request.ensures.accounts kept) c.answer_request.ensures.books

pub answer_request-requires : goal.answer_request-requires
answer_request-requires c = rw c.in-Request.is at c.in-Ok.ensures.amount

pub returns-in-Present-clause-reply : goal.returns-in-Present-clause-reply
returns-in-Present-clause-reply c = λ messages stands.
    let is : message_of c.args.message.now ≡ Ok c.in-Ok.incoming = c.in-Ok.ensures.value in
    c.answer_presentment.ensures.reply ∙ replied c.args.self.now messages c.args.message.now _ (is ∙ ap (λ (x : Incoming). Ok x) c.in-Present.is) stands

pub returns-in-Present-clause-stands : goal.returns-in-Present-clause-stands
returns-in-Present-clause-stands c =
    let is : message_of c.args.message.now ≡ Ok c.in-Ok.incoming = c.in-Ok.ensures.value in
    on_ok_map c.answer_presentment.result (λ kept. λ (messages : List (List ℕ)) (stands : HostStands c.args.self.now messages). stands_after c.args.self.now c.answer_presentment.new.self messages c.args.message.now _ (is ∙ ap (λ (x : Incoming). Ok x) c.in-Present.is) stands
    c.answer_presentment.ensures.keys c.answer_presentment.ensures.accounts kept) c.answer_presentment.ensures.books

pub answer_presentment-requires : goal.answer_presentment-requires
answer_presentment-requires c = rw c.in-Present.is at c.in-Ok.ensures.amount

pub returns-in-Reverse-clause-reply : goal.returns-in-Reverse-clause-reply
returns-in-Reverse-clause-reply c = λ messages stands.
    let is : message_of c.args.message.now ≡ Ok c.in-Ok.incoming = c.in-Ok.ensures.value in
    c.answer_reversal.ensures.reply ∙ replied c.args.self.now messages c.args.message.now _ (is ∙ ap (λ (x : Incoming). Ok x) c.in-Reverse.is) stands

pub returns-in-Reverse-clause-stands : goal.returns-in-Reverse-clause-stands
returns-in-Reverse-clause-stands c =
    let is : message_of c.args.message.now ≡ Ok c.in-Ok.incoming = c.in-Ok.ensures.value in
    on_ok_map c.answer_reversal.result (λ kept. λ (messages : List (List ℕ)) (stands : HostStands c.args.self.now messages). stands_after c.args.self.now c.answer_reversal.new.self messages c.args.message.now _ (is ∙ ap (λ (x : Incoming). Ok x) c.in-Reverse.is) stands
    c.answer_reversal.ensures.keys c.answer_reversal.ensures.accounts kept) c.answer_reversal.ensures.books

pub answer_reversal-requires : goal.answer_reversal-requires
answer_reversal-requires c = rw c.in-Reverse.is at c.in-Ok.ensures.amount

pub returns-in-Request-clause-memory : goal.returns-in-Request-clause-memory
returns-in-Request-clause-memory c =
    let is : message_of c.args.message.now ≡ Ok c.in-Ok.incoming = c.in-Ok.ensures.value in
    on_err_map c.answer_request.result (λ none. ap (is_new_message c.args.self.now.books) (is ∙ ap (λ (x : Incoming). Ok x) c.in-Request.is) ∙ ap is_none none) c.answer_request.ensures.memory

pub returns-in-Present-clause-memory : goal.returns-in-Present-clause-memory
returns-in-Present-clause-memory c =
    let is : message_of c.args.message.now ≡ Ok c.in-Ok.incoming = c.in-Ok.ensures.value in
    on_err_map c.answer_presentment.result (λ none. ap (is_new_message c.args.self.now.books) (is ∙ ap (λ (x : Incoming). Ok x) c.in-Present.is) ∙ ap is_none none) c.answer_presentment.ensures.memory

pub returns-in-Reverse-clause-memory : goal.returns-in-Reverse-clause-memory
returns-in-Reverse-clause-memory c =
    let is : message_of c.args.message.now ≡ Ok c.in-Ok.incoming = c.in-Ok.ensures.value in
    on_err_map c.answer_reversal.result (λ none. ap (is_new_message c.args.self.now.books) (is ∙ ap (λ (x : Incoming). Ok x) c.in-Reverse.is) ∙ ap is_none none) c.answer_reversal.ensures.memory

pub returns-in-Err-clause-written : goal.returns-in-Err-clause-written
returns-in-Err-clause-written c = λ messages stands. subst IsReply (sym c.plain.ensures.bytes) (plain_written Declined)

pub returns-in-Request-clause-written : goal.returns-in-Request-clause-written
returns-in-Request-clause-written c = λ messages stands.
    let is : message_of c.args.message.now ≡ Ok c.in-Ok.incoming = c.in-Ok.ensures.value in
    subst IsReply (sym (c.answer_request.ensures.reply ∙ replied c.args.self.now messages c.args.message.now _ (is ∙ ap (λ (x : Incoming). Ok x) c.in-Request.is) stands))
    (replies_written c.args.self.now.keys c.args.self.now.accounts messages c.args.message.now c.answer_request.ensures.valid)

pub returns-in-Present-clause-written : goal.returns-in-Present-clause-written
returns-in-Present-clause-written c = λ messages stands.
    let is : message_of c.args.message.now ≡ Ok c.in-Ok.incoming = c.in-Ok.ensures.value in
    subst IsReply (sym (c.answer_presentment.ensures.reply ∙ replied c.args.self.now messages c.args.message.now _ (is ∙ ap (λ (x : Incoming). Ok x) c.in-Present.is) stands))
    (replies_written c.args.self.now.keys c.args.self.now.accounts messages c.args.message.now c.answer_presentment.ensures.valid)

pub returns-in-Reverse-clause-written : goal.returns-in-Reverse-clause-written
returns-in-Reverse-clause-written c = λ messages stands.
    let is : message_of c.args.message.now ≡ Ok c.in-Ok.incoming = c.in-Ok.ensures.value in
    subst IsReply (sym (c.answer_reversal.ensures.reply ∙ replied c.args.self.now messages c.args.message.now _ (is ∙ ap (λ (x : Incoming). Ok x) c.in-Reverse.is) stands))
    (replies_written c.args.self.now.keys c.args.self.now.accounts messages c.args.message.now c.answer_reversal.ensures.valid)
