-- Why the calls of a source were not checked, by why it was not read.
use Rattle.std.specs.Prelude.{◌≡◌}
use Rattle.source_files.specs.declared.failing.SourceFail.{SourceFail}
use Rattle.source_files.specs.declared.failing.SourceFail.TheVariants as source_fail
use Rattle.check_command.specs.declared.failing.CheckFail.{CheckFail}
use Rattle.check_command.specs.declared.failing.CheckFail.TheVariants as fail

abbrev pub IsFailOfReading : SourceFail → CheckFail → Type 0
IsFailOfReading (source_fail.NotThere name) found = found ≡ fail.NotThere name
IsFailOfReading (source_fail.Unread place) found = found ≡ fail.Unread place
IsFailOfReading source_fail.NoMemory found = found ≡ fail.NoMemory
