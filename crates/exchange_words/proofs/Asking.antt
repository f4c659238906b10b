-- The last command is kept, and no words of a command speak of the one before.
use Rattle.std.proofs.Common.{◌≡◌, ℕ, Bool, List, Option, refl}
use Rattle.arrayvec.specs.ArrayVec.{ArrayVec}
use Rattle.value_words.specs.declared.asking.Row.{Row}
use Rattle.exchange_words.specs.declared.lane.LaneState.{LaneState}
use Rattle.exchange_words.specs.Commands.{words_of_command}

pub words-kept : (lane : LaneState) (command : ArrayVec ℕ) (bytes : List ℕ) (row : Option Row) (brief : Bool)
    → words_of_command (record lane { command = command }) bytes row brief ≡ words_of_command lane bytes row brief
unfolding words_of_command
words-kept lane command bytes row brief = refl
