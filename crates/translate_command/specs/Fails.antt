-- Why a source was not translated, by why it was not read.
use Rattle.std.specs.Prelude.{◌≡◌}
use Rattle.source_files.specs.declared.failing.SourceFail.{SourceFail}
use Rattle.source_files.specs.declared.failing.SourceFail.TheVariants as source_fail
use Rattle.translate_command.specs.declared.failing.TranslateFail.{TranslateFail}
use Rattle.translate_command.specs.declared.failing.TranslateFail.TheVariants as fail

abbrev pub IsFailOfReading : SourceFail → TranslateFail → Type 0
IsFailOfReading (source_fail.NotThere name) found = found ≡ fail.NotThere name
IsFailOfReading (source_fail.Unread place) found = found ≡ fail.Unread place
IsFailOfReading source_fail.NoMemory found = found ≡ fail.NoMemory
