-- The kinds of cryptogram that are no request: what a terminal wants that was unable to go online, and the second one.
use Rattle.std.proofs.Common.{◌≡◌, refl, ℕ, ◌+◌, ◌*◌, ◌==◌, ◌||◌, slice_index, Bool, true, false, if◌then◌else◌, List, [], ◌∷◌, Option, Some, None, Result, Ok, Err}
use Rattle.action_analysis.specs.Analysed.{meets, offline_kind, unable}
use Rattle.action_analysis.specs.TerminalKinds.{is_online_only}
use Rattle.action_analysis.specs.declared.Codes.{Codes}
use Rattle.apdu_core.specs.Response.{ResponseData, response_of}
use Rattle.apdu_core.specs.Status.{no_error}
use Rattle.dialogue_laws.proofs.Giving.{Gives}
use Rattle.emv_dict.specs.Kinds.{is_above, kind_of}
use Rattle.emv_dict.specs.Views.{AcData}
use Rattle.emv_dict.specs.declared.ending.Cause.{Cause}
use Rattle.emv_dict.specs.declared.ending.Cause.TheVariants as cause
use Rattle.emv_dict.specs.declared.ending.Kind.{Kind}
use Rattle.emv_dict.specs.declared.ending.Kind.TheVariants.{Aac, Tc, Arqc}
use Rattle.kernel.specs.Laws.{asks_online}
use Rattle.online_step.specs.Ac.{AcObjects, ◌>>=◌, is_request, of_kind, allowed_ac, ac_said, ac_in_answer, objects_in}
use Rattle.online_step.specs.Generate.{after_ac, generated}
use Rattle.online_step.specs.declared.ac.GenerateAc.TheVariants.{Second}

offline_by : (test : Bool) → asks_online (if test then Aac else Tc) ≡ false
offline_by true = refl
offline_by false = refl

unable_by : (test : Bool) (tvr : ℕ) (codes : Codes) → asks_online (if test then Aac else offline_kind tvr codes) ≡ false
unable_by true tvr codes = refl
unable_by false tvr codes = offline_by (meets tvr codes.fallback)

-- unable to go online, the terminal wants no request
pub unable_asks_none : (tvr : ℕ) (codes : Codes) (kind : ℕ) → asks_online (unable tvr codes kind) ≡ false
unfolding unable
unable_asks_none tvr codes kind = unable_by (is_online_only kind) tvr codes

abbrev pub AsksNone : AcData → Type 0
AsksNone ac = asks_online ac.kind ≡ false

-- where there is a cryptogram, it is no request
AnyAsksNone : Result AcData Cause → Type 0
AnyAsksNone (Ok ac) = AsksNone ac
AnyAsksNone (Err because) = Unit {0}

either_asks_none : (test : Bool) (one two : Result AcData Cause) → AnyAsksNone one → AnyAsksNone two → AnyAsksNone (if test then one else two)
either_asks_none true one two first second = first
either_asks_none false one two first second = second

-- a request is refused the second time, whether or not it is above the kind that was asked
refused_by : (above : Bool) (kind : Kind) (because : Cause) (counter : ℕ) (cryptogram iad : List ℕ)
    → AnyAsksNone (if above || is_request kind then Err because else Ok (record { kind = kind; counter = counter; cryptogram = cryptogram; iad = iad }))
unfolding AnyAsksNone
refused_by true kind because counter cryptogram iad = tt
refused_by false Tc because counter cryptogram iad = refl
refused_by false Aac because counter cryptogram iad = refl
refused_by false Arqc because counter cryptogram iad = tt

kind_asks_none : (asked : Kind) (objects : AcObjects) (kind : Option Kind) → AnyAsksNone (of_kind asked Second objects kind)
unfolding AnyAsksNone
kind_asks_none asked objects None = tt
kind_asks_none asked objects (Some kind) =
    refused_by (is_above kind asked) kind (cause.Kind objects.information) (slice_index objects.counter 0 * 256 + slice_index objects.counter 1) objects.cryptogram objects.iad

objects_ask_none : (asked : Kind) (read : Result AcObjects Cause) → AnyAsksNone (read >>= allowed_ac asked Second)
unfolding AnyAsksNone
objects_ask_none asked (Ok objects) = kind_asks_none asked objects (kind_of objects.information)
objects_ask_none asked (Err because) = tt

said_asks_none : (asked : Kind) (said : Option ResponseData) → AnyAsksNone (ac_said asked Second said)
unfolding AnyAsksNone
said_asks_none asked None = tt
said_asks_none asked (Some said) =
    either_asks_none (said.status == no_error) (objects_in said.body >>= allowed_ac asked Second) (Err (cause.Status said.status)) (objects_ask_none asked (objects_in said.body)) tt

after_gives : (read : Result AcData Cause) (rest : List (List ℕ)) → AnyAsksNone read → Gives AsksNone (after_ac read rest)
unfolding AnyAsksNone
after_gives (Ok ac) rest none = none
after_gives (Err because) rest none = tt

-- the second cryptogram is no request
pub second_gives : (tag : ℕ) (asked : Kind) (given : Option (List ℕ)) (answers : List (List ℕ)) → Gives AsksNone (generated tag asked Second given answers)
unfolding ac_in_answer
second_gives tag asked None answers = tt
second_gives tag asked (Some given) [] = tt
second_gives tag asked (Some given) (answer ∷ rest) = after_gives (ac_in_answer answer asked Second) rest (said_asks_none asked (response_of answer))
