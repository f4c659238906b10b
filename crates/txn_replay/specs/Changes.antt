-- What the events of a run make of a card (this project's own).
use Rattle.std.specs.Prelude.{ℕ, ◌+◌, ◌==◌, ◌&&◌, Bool, false, if◌then◌else◌, List, [], ◌∷◌, ◌++◌, length, slice_get, Option, Some, None}
use Rattle.apdu_core.specs.Command.{CommandData, command_of}
use Rattle.apdu_core.specs.Response.{ResponseData, response_of}
use Rattle.card_app.specs.Session.{phase_of}
use Rattle.card_cryptogram.specs.Phases.{current}
use Rattle.card_files.specs.Files.{opening_of}
use Rattle.card_files.specs.Views.{ImageData}
use Rattle.card_app.specs.Cuts.{Cut, fate_by, kept_by, pending_by}
use Rattle.card_app.specs.PageReplies.{CardAnswer}
use Rattle.card_state.specs.Decisions.{Decided}
use Rattle.card_state.specs.Totals.{totals}
use Rattle.card_state.specs.declared.state.AppState.{AppState}
use Rattle.emv_ports.specs.declared.tear.Tear.{Tear}
use Rattle.txn_replay.specs.World.{Holder, CryptogramGiven, Found, Answering, Breaking, CardRow}

-- GENERATE AC (EMV 4.3 Book 3 section 6.5.5)
abbrev pub is_generate : Option CommandData → Bool
is_generate None = false
is_generate (Some c) = (c.class == 0x80) && (c.ins == 0xAE)

-- the status 9000
abbrev pub is_good : Option ResponseData → Bool
is_good None = false
is_good (Some r) = r.status == 0x9000

abbrev pub counter_or_zero : Option AppState → ℕ
counter_or_zero None = 0
counter_or_zero (Some s) = s.counter

-- the transaction counter of an application behind these decisions
unfoldable pub app_counter : ImageData → List Decided → ℕ → ℕ
app_counter image ds app = counter_or_zero (slice_get (totals (opening_of image) ds).apps.items app)

-- the cryptogram of the selected application
abbrev pub given_for : ImageData → List Decided → Option ℕ → Option Holder → List CryptogramGiven
given_for image ds (Some app) (Some holder) = record { app = app; counter = app_counter image ds app; holder = holder } ∷ []
given_for image ds (Some app) None = []
given_for image ds None holder = []

-- what a GENERATE AC that is answered 9000 gives
abbrev pub given_by : ImageData → CardRow → List ℕ → CardAnswer → List CryptogramGiven
given_by image card command said =
    if is_generate (command_of command) && is_good (response_of said.answer)
    then given_for image (card.kept ++ said.new) (current (phase_of image card.session)) card.holder else []

-- powered up for this purchase, or for none, with these decisions found
abbrev pub powered : CardRow → List Decided → Option Holder → CardRow
powered card found holder = record {
  kept = found;
  pending = None;
  session = [];
  made = 0;
  told = 0;
  holder = holder;
  given = card.given;
  acts = card.acts ++ Found found ∷ [];
  losses = card.losses;
}

-- a command is answered
abbrev pub exchanged : ImageData → CardRow → List ℕ → CardAnswer → CardRow
exchanged image card command said = record {
  kept = card.kept ++ said.new;
  pending = card.pending;
  session = card.session ++ record { command = command; answer = said.answer } ∷ [];
  made = card.made + length said.new;
  told = card.told;
  holder = card.holder;
  given = card.given ++ given_by image card command said;
  acts = card.acts ++ Answering said.new ∷ [];
  losses = card.losses;
}

-- a command is answered by the next canned answer
abbrev pub told_once : CardRow → CardRow
told_once card = record card { told = card.told + 1 }

-- the tear cuts one of the decisions for a command
abbrev pub row_torn : CardRow → Option Tear → Cut → CardRow
row_torn card tear cut = record {
  kept = kept_by (fate_by tear) card.kept cut;
  pending = pending_by (fate_by tear) cut;
  session = card.session;
  made = card.made;
  told = card.told;
  holder = card.holder;
  given = card.given;
  acts = card.acts ++ Breaking (cut.before ++ cut.cut ∷ []) ∷ [];
  losses = card.losses + 1;
}

-- the power is cut before the first decision
abbrev pub lost : CardRow → CardRow
lost card = record card { losses = card.losses + 1 }

-- no purchase has it
abbrev pub freed : CardRow → CardRow
freed card = record card { holder = None }
