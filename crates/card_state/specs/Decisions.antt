-- What each decision of a card counts as, and what it gives (EMV 4.3 Book 3 sections 6.5, 10 and Annex D4, Book 2
-- section 8.2.2).
use Rattle.std.specs.Prelude.{ℕ, ◌+◌, ◌/◌, ◌%◌, ◌==◌, Bool, true, false, not, if◌then◌else◌, List, [], ◌∷◌, slice_index, Option, Some, None, is_some}
use Rattle.std.specs.List.{cons_option}
use Rattle.emv_dict.specs.Kinds.{kind_byte}
use Rattle.emv_dict.specs.declared.ending.Kind.{Kind}
use Rattle.emv_dict.specs.declared.ending.Kind.TheVariants.{Aac, Tc, Arqc}
use Rattle.card_state.specs.declared.decision.Which.{Which}
use Rattle.card_state.specs.declared.decision.Which.TheVariants.{One, Two, Neither}
use Rattle.card_state.specs.declared.decision.Sale.{Sale}
use Rattle.card_state.specs.declared.decision.Steered.{Steered}
use Rattle.card_state.specs.declared.decision.How.TheVariants.{Authenticated as ByIssuer, Held, Alone, Offline}
use Rattle.card_state.specs.declared.decision.Scripted.{Scripted}
use Rattle.card_state.specs.declared.decision.Scripted.TheVariants.{Block, Unblock, CardBlock, PinUnblock, PinChange, Count, Sum}
use Rattle.card_state.specs.declared.decision.Decision.{Decision}
use Rattle.card_state.specs.declared.decision.Decision.TheVariants.{Started, PinTry, PinRight, First, Authenticated, Script, Second}
use Rattle.card_state.specs.declared.state.LogRow.{LogRow}

-- a decision, and the number of the application that took it
pub record Decided : Type 0 where
  pub app : ℕ
  pub decision : Decision

abbrev pub is_start : Decision → Bool
is_start Started = true
is_start PinTry = false
is_start (PinRight limit) = false
is_start (First kind sale) = false
is_start (Authenticated right steered) = false
is_start (Script command) = false
is_start (Second kind how sale) = false

abbrev pub is_try : Decision → Bool
is_try Started = false
is_try PinTry = true
is_try (PinRight limit) = false
is_try (First kind sale) = false
is_try (Authenticated right steered) = false
is_try (Script command) = false
is_try (Second kind how sale) = false

-- a second cryptogram that resets the totals
abbrev pub is_reset : Decision → Bool
is_reset Started = false
is_reset PinTry = false
is_reset (PinRight limit) = false
is_reset (First kind sale) = false
is_reset (Authenticated right steered) = false
is_reset (Script command) = false
is_reset (Second kind ByIssuer sale) = true
is_reset (Second kind Held sale) = false
is_reset (Second kind Alone sale) = false
is_reset (Second kind Offline sale) = false

-- a second cryptogram behind a right issuer authentication, whether it resets the totals or not
abbrev pub is_online : Decision → Bool
is_online Started = false
is_online PinTry = false
is_online (PinRight limit) = false
is_online (First kind sale) = false
is_online (Authenticated right steered) = false
is_online (Script command) = false
is_online (Second kind ByIssuer sale) = true
is_online (Second kind Held sale) = true
is_online (Second kind Alone sale) = false
is_online (Second kind Offline sale) = false

-- the sale of an offline approval: a first TC, or a second TC of a card that decided offline
abbrev pub offline_sale : Decision → Option Sale
offline_sale Started = None
offline_sale PinTry = None
offline_sale (PinRight limit) = None
offline_sale (First Tc sale) = Some sale
offline_sale (First Aac sale) = None
offline_sale (First Arqc sale) = None
offline_sale (Authenticated right steered) = None
offline_sale (Script command) = None
offline_sale (Second Tc Offline sale) = Some sale
offline_sale (Second Tc ByIssuer sale) = None
offline_sale (Second Tc Held sale) = None
offline_sale (Second Tc Alone sale) = None
offline_sale (Second Aac how sale) = None
offline_sale (Second Arqc how sale) = None

abbrev pub is_offline_approval : Decision → Bool
is_offline_approval d = is_some (offline_sale d)

-- the application's currency, and its second one
abbrev pub is_one : Which → Bool
is_one One = true
is_one Two = false
is_one Neither = false

abbrev pub is_two : Which → Bool
is_two One = false
is_two Two = true
is_two Neither = false

-- the amount of a sale that is in this currency
abbrev pub amount_in : (Which → Bool) → Option Sale → Option ℕ
amount_in own None = None
amount_in own (Some sale) = (if own sale.which then Some sale.amount else None)

-- a row of the transaction log: the sale, the counter that its decision finds, and the kind of the cryptogram
abbrev pub log_row : ℕ → Kind → Sale → LogRow
log_row counter kind sale = record { raw = sale.raw; currency = sale.currency; date = sale.date; counter = counter; kind = kind_byte kind }

-- a first cryptogram that ends the transaction, and each second one, are logged
abbrev pub row_given : ℕ → Decision → Option LogRow
row_given counter Started = None
row_given counter PinTry = None
row_given counter (PinRight limit) = None
row_given counter (First Tc sale) = Some (log_row counter Tc sale)
row_given counter (First Aac sale) = Some (log_row counter Aac sale)
row_given counter (First Arqc sale) = None
row_given counter (Authenticated right steered) = None
row_given counter (Script command) = None
row_given counter (Second kind how sale) = Some (log_row counter kind sale)

-- the rows of some decisions, oldest first, where the counter stands at this number before them
unfoldable pub rows_from : ℕ → List Decision → List LogRow
rows_from counter [] = []
rows_from counter (d ∷ ds) = cons_option (row_given counter d) (rows_from (if is_start d then counter + 1 else counter) ds)

-- the bits of the second byte of a card status update: b7 blocks the application, b6 the card, b5 restores the tries
abbrev pub blocks_app : Steered → Bool
blocks_app s = slice_index s.status 1 / 64 % 2 == 1

abbrev pub blocks_whole : Steered → Bool
blocks_whole s = slice_index s.status 1 / 32 % 2 == 1

abbrev pub restores : Steered → Bool
restores s = slice_index s.status 1 / 16 % 2 == 1

abbrev pub block_steered : Option Steered → Option Bool
block_steered None = None
block_steered (Some s) = (if blocks_app s then Some true else None)

abbrev pub tries_steered : Option Steered → Option ℕ
tries_steered None = None
tries_steered (Some s) = (if restores s then Some s.limit else None)

abbrev pub card_steered : Option Steered → Bool
card_steered None = false
card_steered (Some s) = blocks_whole s

-- the values that a decision gives to the fields of an application's state that are not counted
pub record FieldsGiven : Type 0 where
  pub tries : Option ℕ
  pub blocked : Option Bool
  pub pin : Option (List ℕ)
  pub count_limit : Option ℕ
  pub sum_limit : Option ℕ
  -- whether an issuer authentication failed
  pub failure : Option Bool

abbrev pub no_fields : FieldsGiven
no_fields = record { tries = None; blocked = None; pin = None; count_limit = None; sum_limit = None; failure = None }

abbrev pub given_by_script : Scripted → FieldsGiven
given_by_script Block = record no_fields { blocked = Some true }
given_by_script Unblock = record no_fields { blocked = Some false }
given_by_script CardBlock = no_fields
given_by_script (PinUnblock limit) = record no_fields { tries = Some limit }
given_by_script (PinChange pin limit) = record no_fields { tries = Some limit; pin = Some pin }
given_by_script (Count limit) = record no_fields { count_limit = Some limit }
given_by_script (Sum limit) = record no_fields { sum_limit = Some limit }

abbrev pub fields_given : Decision → FieldsGiven
fields_given Started = no_fields
fields_given PinTry = no_fields
fields_given (PinRight limit) = record no_fields { tries = Some limit }
fields_given (First kind sale) = no_fields
fields_given (Authenticated right steered) = record no_fields { tries = tries_steered steered; blocked = block_steered steered; failure = Some (not right) }
fields_given (Script command) = given_by_script command
fields_given (Second kind how sale) = no_fields

abbrev pub tries_given : Decision → Option ℕ
tries_given d = (fields_given d).tries

abbrev pub blocked_given : Decision → Option Bool
blocked_given d = (fields_given d).blocked

abbrev pub pin_given : Decision → Option (List ℕ)
pin_given d = (fields_given d).pin

abbrev pub count_limit_given : Decision → Option ℕ
count_limit_given d = (fields_given d).count_limit

abbrev pub sum_limit_given : Decision → Option ℕ
sum_limit_given d = (fields_given d).sum_limit

abbrev pub failure_given : Decision → Option Bool
failure_given d = (fields_given d).failure

abbrev pub is_card_block : Scripted → Bool
is_card_block Block = false
is_card_block Unblock = false
is_card_block CardBlock = true
is_card_block (PinUnblock limit) = false
is_card_block (PinChange pin limit) = false
is_card_block (Count limit) = false
is_card_block (Sum limit) = false

-- whether a decision blocks the card
abbrev pub blocks_card : Decision → Bool
blocks_card Started = false
blocks_card PinTry = false
blocks_card (PinRight limit) = false
blocks_card (First kind sale) = false
blocks_card (Authenticated right steered) = card_steered steered
blocks_card (Script command) = is_card_block command
blocks_card (Second kind how sale) = false
