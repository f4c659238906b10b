-- What a contract sees of a fault.
use Rattle.card_files.specs.Faults.{Fault, OfCount, OfField, OfName, OfMemory}
use Rattle.card_files.specs.declared.fault.ImageFault.{ImageFault}
use Rattle.card_files.specs.declared.fault.ImageFault.TheVariants.{Count, Field, SameName, OutOfMemory}

-- the program's fault of an image as the definitions' one
abbrev pub seen_fault : ImageFault → Fault
seen_fault (Count number) = OfCount number
seen_fault (Field app key) = OfField app key.items
seen_fault (SameName app) = OfName app
seen_fault OutOfMemory = OfMemory
