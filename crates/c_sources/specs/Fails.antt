-- Why C files were not read, by why their places were not.
use Rattle.std.specs.Prelude.{◌≡◌}
use Rattle.source_files.specs.declared.failing.SourceFail.{SourceFail}
use Rattle.source_files.specs.declared.failing.SourceFail.TheVariants as source_fail
use Rattle.c_sources.specs.declared.failing.CSourceFail.{CSourceFail}
use Rattle.c_sources.specs.declared.failing.CSourceFail.TheVariants as fail

abbrev pub IsFailOfReading : SourceFail → CSourceFail → Type 0
IsFailOfReading (source_fail.NotThere name) found = found ≡ fail.NotThere name
IsFailOfReading (source_fail.Unread place) found = found ≡ fail.Unread place
IsFailOfReading source_fail.NoMemory found = found ≡ fail.NoMemory
