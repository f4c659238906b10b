-- The messages that a host has kept: the first of each kind and transaction, with its reply (own).
use Rattle.std.specs.Prelude.{ℕ, Bool, false, if◌then◌else◌, List, [], ◌∷◌, Option, Some, None}
use Rattle.host_ledger.specs.declared.key.Key.{Key}
use Rattle.host_ledger.specs.Key.{same_key}
use Rattle.issuer_host.specs.declared.code.Code.{Code}
use Rattle.issuer_host.specs.Code.{is_approved}

-- a message that was kept: its transaction, its amount, its bytes, the decision, whether its reply carries
-- issuer authentication data, and the reply's bytes
pub record KeptCall : Type 0 where
  pub key : Key
  pub amount : ℕ
  pub message : List ℕ
  pub code : Code
  pub online : Bool
  pub reply : List ℕ

-- the kept messages of each kind, in the order in which they came
pub record Books : Type 0 where
  pub requests : List KeptCall
  pub presentments : List KeptCall
  pub reversals : List KeptCall

abbrev pub no_books : Books
no_books = record { requests = []; presentments = []; reversals = [] }

-- the kept message of a transaction
abbrev pub kept_at : Key → List KeptCall → Option KeptCall
kept_at key [] = None
kept_at key (kept ∷ others) = (if same_key key kept.key then Some kept else kept_at key others)

-- it was kept with code 00
abbrev pub was_approved : Option KeptCall → Bool
was_approved None = false
was_approved (Some kept) = is_approved kept.code
