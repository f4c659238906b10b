-- The lines behind the events of a run.
use Rattle.std.proofs.Common.{◌≡◌, ℕ, ◌<◌, ◌≤◌, ◌+◌, List, [], ◌∷◌, ◌++◌, length, drop, get_or, sym, ap, ◌∙◌, subst}
use Rattle.std.proofs.Math.ListN.{drop_of_length-le}
use Rattle.std.proofs.lemmas.List.{append-nil}
use Rattle.std.proofs.lemmas.List.Concat.{flat_map-cons}
use Rattle.std.specs.List.{flat_map}
use Rattle.std.specs.declared.option.Option.{Option}
use Rattle.std.specs.Io.KnownBytes.{Appends}
use Rattle.emv_ports.specs.Growth.{IsSoFar, AppendsFront}
use Rattle.emv_ports.proofs.Growth.{Appends-more, AppendsFront-second, AppendsFront-first, IsSoFar_end, IsSoFar_start}
use Rattle.emv_top.specs.Texts.{text_of_lines}
use Rattle.emv_top.proofs.Writing.{text_of_lines-append, drop_split, piece_more, piece_front}
use Rattle.issuer_host.specs.Account.{AccountData}
use Rattle.report_text.specs.Text.{line_text}
use Rattle.report_text.specs.declared.line.Line.{Line}
use Rattle.report_text.specs.declared.line.Line.TheVariants.{Done}
use Rattle.scenario_plan.specs.Plan.{ScenarioData}
use Rattle.txn_replay.specs.Run.{account_lines, ended_count, closing}
use Rattle.txn_replay.specs.World.{World}

pub text_of_lines-one : (line : Line) → text_of_lines (line ∷ []) ≡ line_text line
text_of_lines-one line = flat_map-cons line_text line [] ∙ append-nil (line_text line)

-- the balances of the first accounts are written
module _ (s : ScenarioData) (w : World) where
  unfoldable balances : List AccountData → List ℕ
  balances accounts = text_of_lines (flat_map (account_lines s w) accounts)

  whole : text_of_lines (closing s w) ≡ balances s.accounts ++ line_text (Done (ended_count w))
  unfolding balances
  whole =
      text_of_lines-append (flat_map (account_lines s w) s.accounts) (Done (ended_count w) ∷ [])
      ∙ ap (λ (t : List ℕ). text_of_lines (flat_map (account_lines s w) s.accounts) ++ t) (text_of_lines-one (Done (ended_count w)))

  pub close_start : (accounts : List AccountData) (held : Option (List ℕ))
      → IsSoFar held held (text_of_lines (flat_map (account_lines s w) accounts)) (text_of_lines (flat_map (account_lines s w) accounts))
  close_start accounts held = IsSoFar_start held (text_of_lines (flat_map (account_lines s w) accounts))

  module _ (t : ScenarioData) (told : t ≡ s) (items : List AccountData) (same : items ≡ s.accounts) (old mid new : Option (List ℕ)) (i : ℕ) where
    module _ (account : AccountData) (within : i < length items) (is : account ≡ get_or items i account)
        (so_far : IsSoFar old mid (text_of_lines (flat_map (account_lines s w) (drop i s.accounts))) (text_of_lines (flat_map (account_lines s w) s.accounts))) where
      here : i < length s.accounts
      here = subst (λ (xs : List AccountData). i < length xs) same within

      at : account ≡ get_or s.accounts i account
      at = subst (λ (xs : List AccountData). account ≡ get_or xs i account) same is

      parted : drop i s.accounts ≡ account ∷ drop (i + 1) s.accounts
      parted = drop_split s.accounts i account here at

      pub close_more : Appends mid new (text_of_lines (account_lines t w account))
          → IsSoFar old new (text_of_lines (flat_map (account_lines s w) (drop (i + 1) s.accounts))) (text_of_lines (flat_map (account_lines s w) s.accounts))
      close_more more =
          piece_more (account_lines s w) (drop i s.accounts) (drop (i + 1) s.accounts) account parted old mid new _ so_far
          (subst (λ (x : ScenarioData). Appends mid new (text_of_lines (account_lines x w account))) told more)

      pub close_front : AppendsFront mid new (text_of_lines (account_lines t w account)) → AppendsFront old new (text_of_lines (closing s w))
      unfolding balances
      close_front stopped =
          subst (λ (x : List ℕ). AppendsFront old new x) (sym whole)
          (AppendsFront-first old new (balances s.accounts) (line_text (Done (ended_count w)))
          (piece_front (account_lines s w) (drop i s.accounts) (drop (i + 1) s.accounts) account parted old mid new _ so_far
          (subst (λ (x : ScenarioData). AppendsFront mid new (text_of_lines (account_lines x w account))) told stopped)))

    module _ (past : length items ≤ i) (number : ℕ) (counted : number ≡ ended_count w)
        (so_far : IsSoFar old mid (text_of_lines (flat_map (account_lines s w) (drop i s.accounts))) (text_of_lines (flat_map (account_lines s w) s.accounts))) where
      all : Appends old mid (balances s.accounts)
      unfolding balances
      all =
          IsSoFar_end old mid (text_of_lines (flat_map (account_lines s w) s.accounts))
          (subst (λ (xs : List AccountData). IsSoFar old mid (text_of_lines (flat_map (account_lines s w) xs)) (text_of_lines (flat_map (account_lines s w) s.accounts)))
          (drop_of_length-le s.accounts (subst (λ (xs : List AccountData). length xs ≤ i) same past)) so_far)

      pub close_end : Appends mid new (line_text (Done number)) → Appends old new (text_of_lines (closing s w))
      close_end last =
          subst (λ (x : List ℕ). Appends old new x) (sym whole)
          (Appends-more old mid new (balances s.accounts) (line_text (Done (ended_count w))) all
          (subst (λ (n : ℕ). Appends mid new (line_text (Done n))) counted last))

      pub close_end_front : AppendsFront mid new (line_text (Done number)) → AppendsFront old new (text_of_lines (closing s w))
      close_end_front last =
          subst (λ (x : List ℕ). AppendsFront old new x) (sym whole)
          (AppendsFront-second old mid new (balances s.accounts) (line_text (Done (ended_count w))) all
          (subst (λ (n : ℕ). AppendsFront mid new (line_text (Done n))) counted last))
