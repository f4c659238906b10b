-- Why the objects of a record are not all put, as a cause.
use Rattle.emv_dict.specs.declared.ending.Cause.{Cause}
use Rattle.env_map.specs.declared.gathering.GatherFault.{GatherFault}
use Rattle.env_map.specs.declared.gathering.GatherFault.TheVariants.{Coding, Put}
use Rattle.read_records.specs.Records.{coding_of, cause_of_put}

abbrev pub cause_of : GatherFault → Cause
cause_of (Coding fault) = coding_of fault
cause_of (Put fault) = cause_of_put fault
