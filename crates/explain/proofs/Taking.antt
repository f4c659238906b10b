-- What one option more makes of what the words ask for.
use Rattle.std.proofs.Common.{◌≡◌, ℕ, ◌≤◌, ◌<◌, Bool, true, false, List, [], ◌∷◌, ◌++◌, length, map, drop, get_or, Option, Some, None, refl, sym, ap, ◌∙◌, subst, append_assoc, append-nil, arith}
use Rattle.std.specs.List.{flat_map}
use Rattle.std.proofs.lemmas.Option.{same_Some}
use Rattle.narrator.specs.declared.terminal.Terminal.{Terminal}
use Rattle.issuer_reasons.specs.declared.account.Account.{Account}
use Rattle.purchase_reasons.specs.declared.limits.CardApp.{CardApp}
use Rattle.narrator.specs.State.{Manner}
use Rattle.explain.specs.Grammar.{◌>>=◌, brief_in, ends_in, why_in, books_in, lane_given, purchase_given, terminal_given, app_given, account_given, at_most_one, at_most_once, manner_by, option_alone, option_with_argument, options_given, manner_of_words, RefusesWords}
use Rattle.explain.specs.Taking.{flag, number_or_none, asked_behind, options_behind, with_option}
use Rattle.explain.specs.ToldLines.{way_by, whole_way}
use Rattle.explain.specs.declared.options.OptionGiven.{OptionGiven}
use Rattle.explain.specs.declared.options.OptionGiven.TheVariants.{Brief, Ends, Why, Books, Lane, Purchase, OneTerminal, OneApp, OneAccount}
use Rattle.explain.specs.declared.options.NoOptions.{NoOptions}
use Rattle.explain.specs.declared.options.NoOptions.TheVariants.{Words, OutOfMemory}

-- where one part is given too often, nothing is asked for, whatever stands in front of it
none_behind : {A : Type 0} (one : Option A) → ◌≡◌ {A = Option Manner} (one >>= (λ a. None)) None
none_behind None = refl
none_behind (Some a) = refl

none_behind_two : {A B : Type 0} (one : Option A) (two : Option B) → ◌≡◌ {A = Option Manner} (one >>= (λ a. two >>= (λ b. None))) None
none_behind_two None two = refl
none_behind_two (Some a) two = none_behind two

none_behind_three : {A B C : Type 0} (one : Option A) (two : Option B) (three : Option C)
    → ◌≡◌ {A = Option Manner} (one >>= (λ a. two >>= (λ b. three >>= (λ c. None)))) None
none_behind_three None two three = refl
none_behind_three (Some a) two three = none_behind_two two three

none_behind_four : {A B C D : Type 0} (one : Option A) (two : Option B) (three : Option C) (four : Option D)
    → ◌≡◌ {A = Option Manner} (one >>= (λ a. two >>= (λ b. three >>= (λ c. four >>= (λ d. None))))) None
none_behind_four None two three four = refl
none_behind_four (Some a) two three four = none_behind_three two three four

none_behind_five : {A B C D E : Type 0} (one : Option A) (two : Option B) (three : Option C) (four : Option D) (five : Option E)
    → ◌≡◌ {A = Option Manner} (one >>= (λ a. two >>= (λ b. three >>= (λ c. four >>= (λ d. five >>= (λ e. None)))))) None
none_behind_five None two three four five = refl
none_behind_five (Some a) two three four five = none_behind_four two three four five

-- ---- one option more

abbrev made : Bool → Bool → Bool → Bool → Option ℕ → Option ℕ → List Terminal → List CardApp → List Account → Manner
made brief ends why books lane purchase terminals apps accounts =
    record { filter = record { brief = brief; why = why; books = books; ends = ends; lane = lane; purchase = purchase }; terminals = terminals; card_apps = apps; accounts = accounts }

abbrev More : Manner → OptionGiven → List OptionGiven → Type 0
More manner given others = asked_behind manner (given ∷ others) ≡ (with_option manner given >>= (λ next. asked_behind next others))

more_brief : (brief ends why books : Bool) (lane purchase : Option ℕ) (terminals : List Terminal) (apps : List CardApp) (accounts : List Account) (others : List OptionGiven)
    → More (made brief ends why books lane purchase terminals apps accounts) Brief others
more_brief false ends why books lane purchase terminals apps accounts others = refl
more_brief true ends why books lane purchase terminals apps accounts others = refl

more_ends : (brief ends why books : Bool) (lane purchase : Option ℕ) (terminals : List Terminal) (apps : List CardApp) (accounts : List Account) (others : List OptionGiven)
    → More (made brief ends why books lane purchase terminals apps accounts) Ends others
more_ends brief false why books lane purchase terminals apps accounts others = refl
more_ends brief true why books lane purchase terminals apps accounts others = none_behind (at_most_once (flag brief ++ flat_map brief_in others))

more_why : (brief ends why books : Bool) (lane purchase : Option ℕ) (terminals : List Terminal) (apps : List CardApp) (accounts : List Account) (others : List OptionGiven)
    → More (made brief ends why books lane purchase terminals apps accounts) Why others
more_why brief ends false books lane purchase terminals apps accounts others = refl
more_why brief ends true books lane purchase terminals apps accounts others =
    none_behind_two (at_most_once (flag brief ++ flat_map brief_in others)) (at_most_once (flag ends ++ flat_map ends_in others))

more_books : (brief ends why books : Bool) (lane purchase : Option ℕ) (terminals : List Terminal) (apps : List CardApp) (accounts : List Account) (others : List OptionGiven)
    → More (made brief ends why books lane purchase terminals apps accounts) Books others
more_books brief ends why false lane purchase terminals apps accounts others = refl
more_books brief ends why true lane purchase terminals apps accounts others =
    none_behind_three (at_most_once (flag brief ++ flat_map brief_in others)) (at_most_once (flag ends ++ flat_map ends_in others))
    (at_most_once (flag why ++ flat_map why_in others))

more_lane : (brief ends why books : Bool) (lane purchase : Option ℕ) (terminals : List Terminal) (apps : List CardApp) (accounts : List Account) (n : ℕ) (others : List OptionGiven)
    → More (made brief ends why books lane purchase terminals apps accounts) (Lane n) others
more_lane brief ends why books None purchase terminals apps accounts n others = refl
more_lane brief ends why books (Some lane) purchase terminals apps accounts n others =
    none_behind_four (at_most_once (flag brief ++ flat_map brief_in others)) (at_most_once (flag ends ++ flat_map ends_in others))
    (at_most_once (flag why ++ flat_map why_in others)) (at_most_once (flag books ++ flat_map books_in others))

more_purchase : (brief ends why books : Bool) (lane purchase : Option ℕ) (terminals : List Terminal) (apps : List CardApp) (accounts : List Account) (n : ℕ) (others : List OptionGiven)
    → More (made brief ends why books lane purchase terminals apps accounts) (Purchase n) others
more_purchase brief ends why books lane None terminals apps accounts n others = refl
more_purchase brief ends why books lane (Some purchase) terminals apps accounts n others =
    none_behind_five (at_most_once (flag brief ++ flat_map brief_in others)) (at_most_once (flag ends ++ flat_map ends_in others))
    (at_most_once (flag why ++ flat_map why_in others)) (at_most_once (flag books ++ flat_map books_in others))
    (at_most_one (number_or_none lane ++ flat_map lane_given others))

more_terminal : (brief ends why books : Bool) (lane purchase : Option ℕ) (terminals : List Terminal) (apps : List CardApp) (accounts : List Account) (t : Terminal) (others : List OptionGiven)
    → More (made brief ends why books lane purchase terminals apps accounts) (OneTerminal t) others
more_terminal brief ends why books lane purchase terminals apps accounts t others =
    ap (λ (ts : List Terminal). manner_by (flag brief ++ flat_map brief_in others) (flag ends ++ flat_map ends_in others) (flag why ++ flat_map why_in others) (flag books ++ flat_map books_in others)
    (number_or_none lane ++ flat_map lane_given others) (number_or_none purchase ++ flat_map purchase_given others) ts (apps ++ flat_map app_given others) (accounts ++ flat_map account_given others))
    (sym (append_assoc terminals (t ∷ []) (flat_map terminal_given others)))

more_app : (brief ends why books : Bool) (lane purchase : Option ℕ) (terminals : List Terminal) (apps : List CardApp) (accounts : List Account) (a : CardApp) (others : List OptionGiven)
    → More (made brief ends why books lane purchase terminals apps accounts) (OneApp a) others
more_app brief ends why books lane purchase terminals apps accounts a others =
    ap (λ (cards : List CardApp). manner_by (flag brief ++ flat_map brief_in others) (flag ends ++ flat_map ends_in others) (flag why ++ flat_map why_in others) (flag books ++ flat_map books_in others)
    (number_or_none lane ++ flat_map lane_given others) (number_or_none purchase ++ flat_map purchase_given others) (terminals ++ flat_map terminal_given others) cards (accounts ++ flat_map account_given others))
    (sym (append_assoc apps (a ∷ []) (flat_map app_given others)))

more_account : (brief ends why books : Bool) (lane purchase : Option ℕ) (terminals : List Terminal) (apps : List CardApp) (accounts : List Account) (a : Account) (others : List OptionGiven)
    → More (made brief ends why books lane purchase terminals apps accounts) (OneAccount a) others
more_account brief ends why books lane purchase terminals apps accounts a others =
    ap (manner_by (flag brief ++ flat_map brief_in others) (flag ends ++ flat_map ends_in others) (flag why ++ flat_map why_in others) (flag books ++ flat_map books_in others)
    (number_or_none lane ++ flat_map lane_given others) (number_or_none purchase ++ flat_map purchase_given others) (terminals ++ flat_map terminal_given others) (apps ++ flat_map app_given others))
    (sym (append_assoc accounts (a ∷ []) (flat_map account_given others)))

asked_more : (m : Manner) (given : OptionGiven) (others : List OptionGiven) → More m given others
asked_more m Brief others = more_brief m.filter.brief m.filter.ends m.filter.why m.filter.books m.filter.lane m.filter.purchase m.terminals m.card_apps m.accounts others
asked_more m Ends others = more_ends m.filter.brief m.filter.ends m.filter.why m.filter.books m.filter.lane m.filter.purchase m.terminals m.card_apps m.accounts others
asked_more m Why others = more_why m.filter.brief m.filter.ends m.filter.why m.filter.books m.filter.lane m.filter.purchase m.terminals m.card_apps m.accounts others
asked_more m Books others = more_books m.filter.brief m.filter.ends m.filter.why m.filter.books m.filter.lane m.filter.purchase m.terminals m.card_apps m.accounts others
asked_more m (Lane n) others = more_lane m.filter.brief m.filter.ends m.filter.why m.filter.books m.filter.lane m.filter.purchase m.terminals m.card_apps m.accounts n others
asked_more m (Purchase n) others = more_purchase m.filter.brief m.filter.ends m.filter.why m.filter.books m.filter.lane m.filter.purchase m.terminals m.card_apps m.accounts n others
asked_more m (OneTerminal t) others = more_terminal m.filter.brief m.filter.ends m.filter.why m.filter.books m.filter.lane m.filter.purchase m.terminals m.card_apps m.accounts t others
asked_more m (OneApp a) others = more_app m.filter.brief m.filter.ends m.filter.why m.filter.books m.filter.lane m.filter.purchase m.terminals m.card_apps m.accounts a others
asked_more m (OneAccount a) others = more_account m.filter.brief m.filter.ends m.filter.why m.filter.books m.filter.lane m.filter.purchase m.terminals m.card_apps m.accounts a others

-- ---- no option more

once_flag : (given : Bool) → at_most_once (flag given ++ []) ≡ Some given
once_flag true = refl
once_flag false = refl

once_number : (given : Option ℕ) → at_most_one (number_or_none given ++ []) ≡ Some given
once_number None = refl
once_number (Some n) = refl

asked_now : (m : Manner) → asked_behind m [] ≡ Some m
asked_now m =
    rw (once_flag m.filter.brief, once_flag m.filter.ends, once_flag m.filter.why, once_flag m.filter.books, once_number m.filter.lane, once_number m.filter.purchase, append-nil m.terminals, append-nil m.card_apps, append-nil m.accounts) refl

-- ---- words

given_first : (m : Manner) (given : OptionGiven) (found : Option (List OptionGiven))
    → ((found >>= (λ behind. Some (given ∷ behind))) >>= (λ all. asked_behind m all)) ≡ (with_option m given >>= (λ next. found >>= (λ all. asked_behind next all)))
given_first m given None = sym (none_behind (with_option m given))
given_first m given (Some others) = asked_more m given others

pub behind_alone : (m : Manner) (word : List ℕ) (words : List (List ℕ)) (given : OptionGiven) → option_alone word ≡ Some given
    → options_behind m (word ∷ words) ≡ (with_option m given >>= (λ next. options_behind next words))
unfolding options_behind options_given
behind_alone m word [] given is = rw is (asked_more m given [])
behind_alone m word (argument ∷ words) given is = rw is (given_first m given (options_given (argument ∷ words)))

pub behind_with : (m : Manner) (word argument : List ℕ) (words : List (List ℕ)) (given : OptionGiven) → option_alone word ≡ None
    → option_with_argument word argument ≡ Some given → options_behind m (word ∷ argument ∷ words) ≡ (with_option m given >>= (λ next. options_behind next words))
unfolding options_behind options_given
behind_with m word argument words given longer is = rw (longer, is) (given_first m given (options_given words))

pub behind_unread : (m : Manner) (word argument : List ℕ) (words : List (List ℕ)) → option_alone word ≡ None
    → option_with_argument word argument ≡ None → options_behind m (word ∷ argument ∷ words) ≡ None
unfolding options_behind options_given
behind_unread m word argument words longer none = rw (longer, none) refl

pub behind_last : (m : Manner) (word : List ℕ) → option_alone word ≡ None → options_behind m (word ∷ []) ≡ None
unfolding options_behind options_given
behind_last m word longer = rw longer refl

pub behind_end : (m : Manner) (words : List (List ℕ)) → words ≡ [] → options_behind m words ≡ Some m
unfolding options_behind options_given
behind_end m words none = rw none (asked_now m)

-- ---- what a refusal tells

pub refuses_behind : (fault : NoOptions) (found : Option Manner) (next : Manner → Option Manner) → RefusesWords fault found → RefusesWords fault (found >>= next)
refuses_behind Words found next none = rw none refl
refuses_behind OutOfMemory found next none = tt

pub refuses_as : (fault : NoOptions) (found same : Option Manner) → same ≡ found → RefusesWords fault found → RefusesWords fault same
refuses_as fault found same is refuses = subst (λ (o : Option Manner). RefusesWords fault o) (sym is) refuses

-- ---- lists of words

pub words_at : {X : Type 0} (f : X → List ℕ) (xs behind : List X) (x : X) → 1 ≤ length xs → x ≡ get_or xs 0 x → behind ≡ drop 1 xs
    → map f xs ≡ f x ∷ map f behind
words_at f [] behind x many first is = absurd (omega arith)
words_at f (y ∷ ys) behind x many first is = rw (first, is) refl

pub no_words : {X : Type 0} (f : X → List ℕ) (xs : List X) → length xs < 1 → map f xs ≡ []
no_words f [] few = refl
no_words f (x ∷ xs) few = absurd (omega arith)

-- ---- without words

pub asks_whole : (words : List (List ℕ)) (m : Manner) → words ≡ [] → manner_of_words words ≡ Some m → way_by m ≡ whole_way
unfolding manner_of_words options_given
asks_whole words m none asked = ap way_by (same_Some m whole_way.manner (sym asked ∙ rw none refl))
