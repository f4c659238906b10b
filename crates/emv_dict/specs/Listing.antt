-- A line of the program's table as an object of the dictionary.
use Rattle.emv_dict.specs.Dictionary.{Listed}
use Rattle.emv_dict.specs.declared.dictionary.Object.{Object}

abbrev pub listed_row : Object → Listed
listed_row object = record { tag = object.0; row = record { format = object.1; origin = object.2 } }
