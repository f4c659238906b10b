-- Pages of a bank that nothing has used yet.
use Rattle.std.specs.Prelude.{◌≡◌, ℕ}
use Rattle.emv_ports.specs.Memory.{blank_memory}
use Rattle.emv_ports.specs.Rough.{RoughBank}
use Rattle.emv_ports.specs.Workings.{MemoryBank, blank_workings}

-- blank, and neither powered up, marked nor written
pub record IsNewMemory (pages : MemoryBank) : Type 0 where
  pub memory_is : pages.memory ≡ blank_memory
  pub workings_are : pages.workings ≡ blank_workings

-- blank and never powered up, with this word
pub record IsNewRough (word : ℕ) (pages : RoughBank) : Type 0 where
  pub memory_is : pages.memory ≡ blank_memory
  pub word_is : pages.word ≡ word
  pub unused : pages.power_ups ≡ 0
