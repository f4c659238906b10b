-- The card makes the cryptograms that it is asked for: the first where the transaction is started, the second online.
use Rattle.std.proofs.Common.{◌≡◌, ℕ, ◌==◌, ◌||◌, not, Bool, true, false, if◌then◌else◌, List, length, slice_get, Option, Some, refl, sym, subst, ◌∙◌, arith}
use Rattle.std.specs.Str.{bytes_eq}
use Rattle.std.proofs.lemmas.Bool.Decides.{nat_tests}
use Rattle.card_app.specs.Answering.{instruction_answer}
use Rattle.card_app.specs.Cryptograms.{sale_for, generate_in, first_for, second_for, first_kind_for, second_by, first_made, second_made}
use Rattle.card_app.specs.OwnLists.{cdol_of}
use Rattle.card_cryptogram.specs.Asked.{is_arqc, has_issuer_auth}
use Rattle.card_cryptogram.specs.Authentication.{auth_of}
use Rattle.card_cryptogram.specs.Bodies.{body_of, cryptogram_of}
use Rattle.card_cryptogram.specs.Fields.{first_given, given_from, code_given}
use Rattle.card_cryptogram.specs.declared.fields.TerminalFields.{TerminalFields as GivenData}
use Rattle.card_cryptogram.specs.declared.phase.First.{First as FirstData}
use Rattle.card_cryptogram.specs.declared.phase.Phase.TheVariants.{Started, Online}
use Rattle.card_files.specs.Views.{AppData, ImageData}
use Rattle.card_app.specs.PageReplies.{decides}
use Rattle.card_policy.specs.Policy.{first_kind, second_kind, is_blocked, is_absent, is_declined_by_status, approves, code_y3, with_how, online_how, decline_of, unauthenticated}
use Rattle.card_state.specs.Change.{changed}
use Rattle.card_state.specs.declared.decision.Auth.{Auth}
use Rattle.card_state.specs.declared.decision.Decision.{Decision}
use Rattle.card_state.specs.declared.decision.Decision.TheVariants.{First, Second}
use Rattle.card_state.specs.declared.decision.How.TheVariants.{Alone, Offline}
use Rattle.card_state.specs.declared.decision.Which.{Which}
use Rattle.card_state.specs.declared.state.AppState.{AppState}
use Rattle.card_state.specs.declared.state.CardState.{CardState}
use Rattle.emv_dict.specs.declared.ending.Kind.{Kind}
use Rattle.emv_dict.specs.declared.ending.Kind.TheVariants.{Aac, Tc, Arqc}
use Rattle.object_lists.specs.DolEntries.{total_of}
use Rattle.online_step.specs.Ac.{is_kind_refused}
use Rattle.dialogue_laws.proofs.Generating.{Holds, generating, generates, eight_bytes}
use Rattle.online_step.specs.declared.ac.GenerateAc.{GenerateAc}
use Rattle.online_step.specs.declared.ac.GenerateAc.TheVariants as generate

first_allowed : (asked : Kind) (s : AppState) (blocked : Bool) (which : Which) (amount : ℕ) → is_kind_refused (first_kind asked s blocked which amount) asked generate.First ≡ false
unfolding first_kind
first_allowed Aac s blocked which amount = refl
first_allowed Arqc s blocked which amount = by (is_blocked s blocked)
  where
    by : (b : Bool) → is_kind_refused (if b then Aac else Arqc) Arqc generate.First ≡ false
    by true = refl
    by false = refl
first_allowed Tc s blocked which amount = by (is_blocked s blocked) (approves s which amount)
  where
    by : (b c : Bool) → is_kind_refused (if b then Aac else if c then Tc else Arqc) Tc generate.First ≡ false
    by true c = refl
    by false true = refl
    by false false = refl

second_allowed : (asked : Kind) (s : AppState) (blocked : Bool) (which : Which) (amount : ℕ) (auth : Auth) (code : List ℕ) (issuer_auth : Bool) → is_arqc asked ≡ false
    → is_kind_refused (second_kind asked s blocked which amount auth code issuer_auth).0 asked generate.Second ≡ false
unfolding second_kind
second_allowed Aac s blocked which amount auth code issuer_auth offline = refl
second_allowed Arqc s blocked which amount auth code issuer_auth offline = absurd (cc offline)
second_allowed Tc s blocked which amount auth code issuer_auth offline =
    by (is_blocked s blocked || is_declined_by_status auth) (not (is_absent auth)) (bytes_eq code code_y3) (approves s which amount) issuer_auth
  where
    by : (told right unable alone due : Bool)
        → is_kind_refused
        (if told then decline_of auth
        else if right then with_how (online_how auth) Tc
        else if unable then with_how Offline (if alone then Tc else Aac) else with_how Alone (unauthenticated due)).0
        Tc generate.Second
        ≡ false
    by true right unable alone due = refl
    by false true unable alone due = refl
    by false false true true due = refl
    by false false true false due = refl
    by false false false alone true = refl
    by false false false alone false = refl

made_holds : (format : ℕ) (asked : Kind) (which : GenerateAc) (app : ℕ) (decision : Decision) (key aip : List ℕ) (s : AppState) (kind : Kind) (given : GivenData) → is_kind_refused kind asked which ≡ false
    → Holds format asked which (decides app decision (body_of format key aip s kind given) 0x9000)
unfolding body_of
made_holds format asked which app decision key aip s kind given allowed = record {
  kind = kind;
  state = s;
  cryptogram = cryptogram_of key aip s kind given;
  eight = eight_bytes key aip s kind given;
  body = refl;
  status = refl;
  allowed = allowed;
}

module _ (image : ImageData) (state : CardState) (app : ℕ) (a : AppData) (s : AppState) (own : slice_get image.apps app ≡ Some a) (there : slice_get state.apps.items app ≡ Some s) where
  first_is : (asked : Kind) (filled : List ℕ) → length filled ≡ total_of (cdol_of a.cdol1)
      → generate_in image state (Started app) asked filled
      ≡ first_made app a s (first_kind_for state.blocked asked a s (first_given (cdol_of a.cdol1) filled)) (first_given (cdol_of a.cdol1) filled)
  unfolding first_for
  first_is asked filled size =
      let test : (length filled == total_of (cdol_of a.cdol1)) ≡ true = grind (arith, nat_tests) in
      rw (own, there, test) refl

  -- the first GENERATE AC, behind GET PROCESSING OPTIONS
  pub first_holds : (asked : Kind) (filled : List ℕ) → length filled ≡ total_of (cdol_of a.cdol1)
      → Holds a.ac_format asked generate.First (instruction_answer image state (Started app) (generating asked filled))
  first_holds asked filled size =
      let given = first_given (cdol_of a.cdol1) filled in
      let kind = first_kind_for state.blocked asked a s given in
      let decision : Decision = First kind (sale_for a given) in
      subst (Holds a.ac_format asked generate.First) (sym (generates image state (Started app) asked filled ∙ first_is asked filled size))
      (made_holds a.ac_format asked generate.First app decision a.ac_key a.aip (changed s decision) kind given
      (first_allowed asked s state.blocked (sale_for a given).which (sale_for a given).amount))

  second_is : (first : FirstData) (sent : Option Auth) (asked : Kind) (filled : List ℕ) → length filled ≡ total_of (cdol_of a.cdol2) → is_arqc asked ≡ false
      → generate_in image state (Online app first sent) asked filled
      ≡ second_made app a s
      (second_by state.blocked asked a s sent (code_given (cdol_of a.cdol2) filled) (given_from (cdol_of a.cdol2) filled first.given))
      (given_from (cdol_of a.cdol2) filled first.given)
  unfolding second_for
  second_is first sent asked filled size offline =
      let test : (length filled == total_of (cdol_of a.cdol2)) ≡ true = grind (arith, nat_tests) in
      rw (own, there, test, offline) refl

  -- the second one, behind a request to go online
  pub second_holds : (first : FirstData) (sent : Option Auth) (asked : Kind) (filled : List ℕ) → length filled ≡ total_of (cdol_of a.cdol2) → is_arqc asked ≡ false
      → Holds a.ac_format asked generate.Second (instruction_answer image state (Online app first sent) (generating asked filled))
  second_holds first sent asked filled size offline =
      let given = given_from (cdol_of a.cdol2) filled first.given in
      let code = code_given (cdol_of a.cdol2) filled in
      let made = second_by state.blocked asked a s sent code given in
      let decision : Decision = Second made.0 made.1 (sale_for a given) in
      subst (Holds a.ac_format asked generate.Second) (sym (generates image state (Online app first sent) asked filled ∙ second_is first sent asked filled size offline))
      (made_holds a.ac_format asked generate.Second app decision a.ac_key a.aip (changed s decision) made.0 given
      (second_allowed asked s state.blocked (sale_for a given).which (sale_for a given).amount (auth_of sent) code (has_issuer_auth a.aip) offline))
