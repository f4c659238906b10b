-- A reason explains the answer that it is told of.
use Rattle.std.proofs.Common.{◌≡◌, ◌↔◌, ℕ, ◌+◌, ◌/◌, ◌==◌, ◌&&◌, ◌||◌, ◌⊎◌, inl, inr, slice_index, not, nat_le, Bool, true, false, IsTrue, if◌then◌else◌, List, length, Option, Some, None, slice_get, refl, ap, sym, subst, ◌∙◌}
use Rattle.std.proofs.lemmas.Bool.{eqb-true}
use Rattle.std.specs.Str.{bytes_eq}
use Rattle.apdu_core.specs.Command.{CommandData, command_of}
use Rattle.card_cryptogram.proofs.KindMade.{kind_made}
use Rattle.card_cryptogram.specs.Asked.{has_issuer_auth, is_arqc, kind_asked}
use Rattle.card_cryptogram.specs.Authentication.{auth_of}
use Rattle.card_cryptogram.specs.Bodies.{body_of, kind_in}
use Rattle.card_cryptogram.specs.Fields.{code_given, first_given, given_from}
use Rattle.card_cryptogram.specs.declared.fields.TerminalFields.{TerminalFields}
use Rattle.card_cryptogram.specs.declared.phase.First.{First as FirstData}
use Rattle.card_cryptogram.specs.declared.phase.Phase.{Phase}
use Rattle.card_cryptogram.specs.declared.phase.Phase.TheVariants.{Idle, Directory, Selected, Started, Online, Closed, Done}
use Rattle.card_files.specs.Files.{opening_of}
use Rattle.card_files.specs.Views.{AppData, ImageData}
use Rattle.card_app.specs.PageReplies.{CardReplyData, refused}
use Rattle.card_policy.specs.Policy.{approval_of, approves, code_y3, decline_of, first_kind, is_blocked, is_declined_by_status, is_sum_within, online_how, second_kind, unauthenticated, with_how}
use Rattle.card_state.specs.Totals.{totals}
use Rattle.card_state.specs.declared.decision.Auth.{Auth}
use Rattle.card_state.specs.declared.decision.Auth.TheVariants.{Absent, One as MethodOne, Two as MethodTwo}
use Rattle.card_state.specs.declared.decision.How.{How}
use Rattle.card_state.specs.declared.decision.How.TheVariants.{Authenticated as ByIssuer, Held, Alone, Offline}
use Rattle.card_state.specs.declared.decision.Which.{Which}
use Rattle.card_state.specs.declared.decision.Which.TheVariants.{One, Two, Neither}
use Rattle.card_state.specs.declared.state.AppState.{AppState}
use Rattle.card_state.specs.declared.state.CardState.{CardState}
use Rattle.emv_dict.specs.declared.ending.Kind.{Kind}
use Rattle.emv_dict.specs.declared.ending.Kind.TheVariants.{Aac, Tc, Arqc}
use Rattle.object_lists.specs.DolEntries.{total_of}
use Rattle.card_app.specs.Answering.{answer_in_phase, card_reply, instruction_answer, instruction_row, row_or_refusal}
use Rattle.card_app.specs.Cryptograms.{first_for, first_kind_for, first_made, generate_asked, generate_in, generate_row, sale_for, second_by, second_for, second_made}
use Rattle.card_app.specs.Explained.{ExplainsAnswer, ReasonsExplain, is_own_currency, may_be_approved, passes_tests, rests_well, stays_within}
use Rattle.card_app.specs.OwnLists.{cdol_of}
use Rattle.card_app.specs.Reasons.{command_reason, first_because, first_ac_reason, reason_asked, reason_by, reason_by_phase, reason_in_phase, reason_or_none, reason_with, resting_on, second_because, second_ac_reason, sum_kept, sum_most, why_of}
use Rattle.card_app.specs.Replies.{with_both}
use Rattle.card_app.specs.Session.{phase_of}
use Rattle.card_app.specs.declared.reason.Reason.{Reason}
use Rattle.card_app.specs.declared.reason.Resting.{Resting}

-- the tests of an approval without the issuer
sum_told : (s : AppState) (which : Which) (amount : ℕ) → (is_own_currency which && nat_le (sum_kept s which + amount) (sum_most s which)) ≡ is_sum_within s which amount
sum_told s One amount = refl
sum_told s Two amount = refl
sum_told s Neither amount = refl

alone_told : (s : AppState) (which : Which) (amount : ℕ)
    → (not s.auth_failed && (nat_le (s.count + 1) s.count_limit && (is_own_currency which && nat_le (sum_kept s which + amount) (sum_most s which)))) ≡ approves s which amount
alone_told s which amount = ap (λ (b : Bool). not s.auth_failed && (nat_le (s.count + 1) s.count_limit && b)) (sum_told s which amount)

first_by : (blocked alone : Bool) → ((if blocked then Aac else if alone then Tc else Arqc) ≡ Tc) ↔ IsTrue (not blocked && alone)
first_by true alone = (λ is. absurd (let clash : Aac ≡ Tc = is in cc clash), λ holds. absurd (let clash : false ≡ true = holds in cc clash))
first_by false true = (λ is. refl, λ holds. refl)
first_by false false = (λ is. absurd (let clash : Arqc ≡ Tc = is in cc clash), λ holds. absurd (let clash : false ≡ true = holds in cc clash))

first_told : (asked : Kind) (s : AppState) (card_blocked : Bool) (which : Which) (amount : ℕ) → asked ≡ Tc
    → (first_kind asked s card_blocked which amount ≡ Tc)
    ↔ IsTrue (not (is_blocked s card_blocked) && (not s.auth_failed && (nat_le (s.count + 1) s.count_limit && (is_own_currency which && nat_le (sum_kept s which + amount) (sum_most s which)))))
unfolding first_kind
first_told asked s card_blocked which amount is =
    rw is (subst (λ (b : Bool). ((if is_blocked s card_blocked then Aac else if approves s which amount then Tc else Arqc) ≡ Tc) ↔ IsTrue (not (is_blocked s card_blocked) && b))
    (sym (alone_told s which amount)) (first_by (is_blocked s card_blocked) (approves s which amount)))

-- the tests of a second approval, by what it rests on
abbrev rests_by : Bool → Bool → How → Bool
rests_by alone issuer_auth ByIssuer = true
rests_by alone issuer_auth Held = true
rests_by alone issuer_auth Alone = not issuer_auth
rests_by alone issuer_auth Offline = alone

approval_told : (s : AppState) (which : Which) (amount : ℕ) (auth : Auth) (code : List ℕ) (issuer_auth : Bool)
    → ((approval_of s which amount auth code issuer_auth).0 ≡ Tc) ↔ IsTrue (rests_by (approves s which amount) issuer_auth (approval_of s which amount auth code issuer_auth).1)
approval_told s which amount MethodOne code issuer_auth = (λ is. refl, λ holds. refl)
approval_told s which amount (MethodTwo status) code issuer_auth = by (online_how (MethodTwo status)) (resets (slice_index status 1 / 128 == 1))
  where
    resets : (b : Bool) → ((if b then ByIssuer else Held) ≡ ByIssuer) ⊎ ((if b then ByIssuer else Held) ≡ Held)
    resets true = inl refl
    resets false = inr refl

    by : (how : How) → (how ≡ ByIssuer) ⊎ (how ≡ Held) → (Tc ≡ Tc) ↔ IsTrue (rests_by (approves s which amount) issuer_auth how)
    by how (inl is) = rw is (λ same. refl, λ holds. refl)
    by how (inr is) = rw is (λ same. refl, λ holds. refl)
approval_told s which amount Absent code issuer_auth = by (bytes_eq code code_y3)
  where
    offline : (a : Bool) → ((if a then Tc else Aac) ≡ Tc) ↔ IsTrue a
    offline true = (λ is. refl, λ holds. refl)
    offline false = (λ is. absurd (let clash : Aac ≡ Tc = is in cc clash), λ holds. absurd (let clash : false ≡ true = holds in cc clash))

    alone : (due : Bool) → ((if due then Aac else Tc) ≡ Tc) ↔ IsTrue (not due)
    alone true = (λ is. absurd (let clash : Aac ≡ Tc = is in cc clash), λ holds. absurd (let clash : false ≡ true = holds in cc clash))
    alone false = (λ is. refl, λ holds. refl)

    by : (unable : Bool)
        → ((if unable then with_how Offline (if approves s which amount then Tc else Aac) else with_how Alone (unauthenticated issuer_auth)).0 ≡ Tc)
        ↔ IsTrue (rests_by (approves s which amount) issuer_auth (if unable then with_how Offline (if approves s which amount then Tc else Aac) else with_how Alone (unauthenticated issuer_auth)).1)
    by true = offline (approves s which amount)
    by false = alone issuer_auth

second_parts : (blocked declined : Bool) (s : AppState) (which : Which) (amount : ℕ) (auth : Auth) (code : List ℕ) (issuer_auth : Bool)
    → ((if blocked || declined then decline_of auth else approval_of s which amount auth code issuer_auth).0 ≡ Tc)
    ↔ IsTrue (not blocked && (not declined && rests_by (approves s which amount) issuer_auth (if blocked || declined then decline_of auth else approval_of s which amount auth code issuer_auth).1))
second_parts true declined s which amount auth code issuer_auth = (λ is. absurd (let clash : Aac ≡ Tc = is in cc clash), λ holds. absurd (let clash : false ≡ true = holds in cc clash))
second_parts false true s which amount auth code issuer_auth = (λ is. absurd (let clash : Aac ≡ Tc = is in cc clash), λ holds. absurd (let clash : false ≡ true = holds in cc clash))
second_parts false false s which amount auth code issuer_auth = approval_told s which amount auth code issuer_auth

second_told : (asked : Kind) (s : AppState) (card_blocked : Bool) (which : Which) (amount : ℕ) (auth : Auth) (code : List ℕ) (issuer_auth : Bool) → asked ≡ Tc
    → ((second_kind asked s card_blocked which amount auth code issuer_auth).0 ≡ Tc)
    ↔ IsTrue (not (is_blocked s card_blocked) && (not (is_declined_by_status auth) && rests_by (approves s which amount) issuer_auth (second_kind asked s card_blocked which amount auth code issuer_auth).1))
unfolding second_kind
second_told asked s card_blocked which amount auth code issuer_auth is =
    rw is (second_parts (is_blocked s card_blocked) (is_declined_by_status auth) s which amount auth code issuer_auth)

rests_same : (r : Reason) (rest : Resting) (how : How) → rests_by (stays_within r) rest.issuer_auth how ≡ rests_well r rest how
rests_same r rest ByIssuer = refl
rests_same r rest Held = refl
rests_same r rest Alone = refl
rests_same r rest Offline = refl

module _ (image : ImageData) (app : ℕ) (a : AppData) (here : slice_get image.apps app ≡ Some a) (s : AppState) (card_blocked : Bool) (asked : Kind) (filled : List ℕ) where
  made_here : (state : AppState) (kind : Kind) (given : TerminalFields) (b : AppData) → slice_get image.apps app ≡ Some b
      → kind_in b.ac_format (body_of a.ac_format a.ac_key a.aip state kind given) ≡ Some kind
  made_here state kind given b there =
      let same : a ≡ b = cc in
      subst (λ (x : AppData). kind_in x.ac_format (body_of a.ac_format a.ac_key a.aip state kind given) ≡ Some kind) same
      (kind_made a.ac_format a.ac_key a.aip state kind given)

  first_because_explains : (given : TerminalFields)
      → ExplainsAnswer image (first_made app a s (first_kind_for card_blocked asked a s given) given) (first_because card_blocked app asked a s given)
  first_because_explains given = record {
    status = refl;
    made = λ b there. made_here _ (first_kind_for card_blocked asked a s given) given b there;
    approved = λ is. first_told asked s card_blocked (sale_for a given).which (sale_for a given).amount is;
  }

  pub first_explains : (r : Reason) → first_ac_reason card_blocked app asked filled a s ≡ Some r → ExplainsAnswer image (first_for card_blocked app asked filled a s) r
  unfolding first_ac_reason first_for
  first_explains r is = by (length filled == total_of (cdol_of a.cdol1)) is
    where
      given : TerminalFields
      given = first_given (cdol_of a.cdol1) filled

      by : (fits : Bool) → (if not fits then None else Some (first_because card_blocked app asked a s (first_given (cdol_of a.cdol1) filled))) ≡ Some r
          → ExplainsAnswer image (if not fits then refused 0x6700 else first_made app a s (first_kind_for card_blocked asked a s (first_given (cdol_of a.cdol1) filled)) (first_given (cdol_of a.cdol1) filled)) r
      by false same = absurd (cc same)
      by true same =
          let equal : first_because card_blocked app asked a s (first_given (cdol_of a.cdol1) filled) ≡ r = cc in
          subst (λ (x : Reason). ExplainsAnswer image (first_made app a s (first_kind_for card_blocked asked a s (first_given (cdol_of a.cdol1) filled)) (first_given (cdol_of a.cdol1) filled)) x) equal
          (first_because_explains (first_given (cdol_of a.cdol1) filled))

  module _ (first : FirstData) (sent : Option Auth) where
    second_because_explains : (code : List ℕ) (given : TerminalFields)
        → ExplainsAnswer image (second_made app a s (second_by card_blocked asked a s sent code given) given)
        (second_because card_blocked app asked a s sent given (second_by card_blocked asked a s sent code given))
    second_because_explains code given =
        let which = (sale_for a given).which in
        let amount = (sale_for a given).amount in
        let made : Kind × How = second_by card_blocked asked a s sent code given in
        let told : Reason = second_because card_blocked app asked a s sent given made in
        let declined : Bool = is_declined_by_status (auth_of sent) in
        record {
          status = refl;
          made = λ b there. made_here _ made.0 given b there;
          approved = λ is.
              subst (λ (t : Bool). (made.0 ≡ Tc) ↔ IsTrue (not (is_blocked s card_blocked) && (not declined && t))) (rests_same told (resting_on a sent made.1) made.1)
              (subst (λ (t : Bool). (made.0 ≡ Tc) ↔ IsTrue (not (is_blocked s card_blocked) && (not declined && rests_by t (has_issuer_auth a.aip) made.1))) (sym (alone_told s which amount))
              (second_told asked s card_blocked which amount (auth_of sent) code (has_issuer_auth a.aip) is));
        }

    pub second_explains : (r : Reason) → second_ac_reason card_blocked app first sent asked filled a s ≡ Some r
        → ExplainsAnswer image (second_for card_blocked app first sent asked filled a s) r
    unfolding second_ac_reason second_for
    second_explains r is = by (length filled == total_of (cdol_of a.cdol2)) (is_arqc asked) is
      where
        by : (fits online : Bool)
            → (if not fits then None else if online then None
            else Some (second_because card_blocked app asked a s sent (given_from (cdol_of a.cdol2) filled first.given)
            (second_by card_blocked asked a s sent (code_given (cdol_of a.cdol2) filled) (given_from (cdol_of a.cdol2) filled first.given)))) ≡ Some r
            → ExplainsAnswer image (if not fits then refused 0x6700 else if online then refused 0x6A86
            else second_made app a s (second_by card_blocked asked a s sent (code_given (cdol_of a.cdol2) filled) (given_from (cdol_of a.cdol2) filled first.given))
            (given_from (cdol_of a.cdol2) filled first.given)) r
        by false online same = absurd (cc same)
        by true true same = absurd (cc same)
        by true false same =
            let given : TerminalFields = given_from (cdol_of a.cdol2) filled first.given in
            let code : List ℕ = code_given (cdol_of a.cdol2) filled in
            let made : Kind × How = second_by card_blocked asked a s sent code given in
            let equal : second_because card_blocked app asked a s sent given made ≡ r = cc in
            subst (λ (x : Reason). ExplainsAnswer image (second_made app a s made given) x) equal (second_because_explains code given)

module _ (image : ImageData) (state : CardState) (r : Reason) where
  first_by_app : (app : ℕ) (asked : Kind) (filled : List ℕ) (found : Option AppData) (kept : Option AppState) → slice_get image.apps app ≡ found
      → reason_by found kept (first_ac_reason state.blocked app asked filled) ≡ Some r → ExplainsAnswer image (with_both found kept (first_for state.blocked app asked filled)) r
  first_by_app app asked filled None kept here is = absurd (cc is)
  first_by_app app asked filled (Some a) None here is = absurd (cc is)
  first_by_app app asked filled (Some a) (Some s) here is = first_explains image app a here s state.blocked asked filled r is

  second_by_app : (app : ℕ) (first : FirstData) (sent : Option Auth) (asked : Kind) (filled : List ℕ) (found : Option AppData) (kept : Option AppState)
      → slice_get image.apps app ≡ found → reason_by found kept (second_ac_reason state.blocked app first sent asked filled) ≡ Some r
      → ExplainsAnswer image (with_both found kept (second_for state.blocked app first sent asked filled)) r
  second_by_app app first sent asked filled None kept here is = absurd (cc is)
  second_by_app app first sent asked filled (Some a) None here is = absurd (cc is)
  second_by_app app first sent asked filled (Some a) (Some s) here is = second_explains image app a here s state.blocked asked filled first sent r is

  in_phase : (phase : Phase) (asked : Kind) (filled : List ℕ) → reason_by_phase image state phase asked filled ≡ Some r → ExplainsAnswer image (generate_in image state phase asked filled) r
  in_phase (Started app) asked filled is = first_by_app app asked filled (slice_get image.apps app) (slice_get state.apps.items app) refl is
  in_phase (Online app first sent) asked filled is = second_by_app app first sent asked filled (slice_get image.apps app) (slice_get state.apps.items app) refl is
  in_phase Idle asked filled is = absurd (cc is)
  in_phase Directory asked filled is = absurd (cc is)
  in_phase (Selected app) asked filled is = absurd (cc is)
  in_phase (Closed app) asked filled is = absurd (cc is)
  in_phase (Done app first) asked filled is = absurd (cc is)

  where_asked : (phase : Phase) (asked : Option Kind) (filled : List ℕ) → reason_asked image state phase asked filled ≡ Some r
      → ExplainsAnswer image (generate_asked image state phase asked filled) r
  where_asked phase None filled is = absurd (cc is)
  where_asked phase (Some asked) filled is = in_phase phase asked filled is

  -- a command of GENERATE AC is answered by its row
  generating_row : (phase : Phase) (class ins p1 p2 : ℕ) (body : List ℕ) (expects : Option ℕ) → class ≡ 0x80 → ins ≡ 0xAE
      → generate_asked image state phase (kind_asked p1 p2) body
      ≡ instruction_answer image state phase (record { class = class; ins = ins; p1 = p1; p2 = p2; body = body; expects = expects })
  unfolding instruction_row generate_row
  generating_row phase class ins p1 p2 body expects class_is ins_is =
      ap (λ (n : ℕ). instruction_answer image state phase (record { class = 0x80; ins = n; p1 = p1; p2 = p2; body = body; expects = expects })) (sym ins_is)
      ∙ ap (λ (n : ℕ). instruction_answer image state phase (record { class = n; ins = ins; p1 = p1; p2 = p2; body = body; expects = expects })) (sym class_is)

  of_command : (phase : Phase) (c : CommandData) → command_reason image state phase c ≡ Some r → ExplainsAnswer image (instruction_answer image state phase c) r
  unfolding command_reason
  of_command phase c is = by (c.class == 0x80) (c.ins == 0xAE) refl refl is
    where
      by : (class ins : Bool) → (c.class == 0x80) ≡ class → (c.ins == 0xAE) ≡ ins
          → (if class && ins then reason_asked image state phase (kind_asked c.p1 c.p2) c.body else None) ≡ Some r → ExplainsAnswer image (instruction_answer image state phase c) r
      by true true class_is ins_is same =
          subst (λ (reply : CardReplyData). ExplainsAnswer image reply r)
          (generating_row phase c.class c.ins c.p1 c.p2 c.body c.expects (eqb-true c.class 0x80 class_is) (eqb-true c.ins 0xAE ins_is))
          (where_asked phase (kind_asked c.p1 c.p2) c.body same)
      by true false class_is ins_is same = absurd (cc same)
      by false ins class_is ins_is same = absurd (cc same)

  of_bytes : (phase : Phase) (c : Option CommandData) → reason_or_none image state phase c ≡ Some r → ExplainsAnswer image (row_or_refusal image state phase c) r
  of_bytes phase None is = absurd (cc is)
  of_bytes phase (Some c) is = of_command phase c is

  in_state : (phase : Phase) (command : List ℕ) → reason_in_phase image state phase command ≡ Some r → ExplainsAnswer image (answer_in_phase image state phase command) r
  unfolding reason_in_phase answer_in_phase
  in_state phase command is = of_bytes phase (command_of command) is

-- whatever the card has decided and answered
pub reasons_explain : (image : ImageData) → ReasonsExplain image
unfolding why_of card_reply
reasons_explain image ds session command r is = in_state image (totals (opening_of image) ds) r (phase_of image session) command is
