-- How far the code that checks formats has come.
use Rattle.edit_rules.specs.FormatPlaces.{Progress, Stuck, Stands, Ended, mode_in}
use Rattle.edit_rules.specs.declared.format_check.Progress as code
use Rattle.edit_rules.specs.declared.format_check.Progress.TheVariants as progress

abbrev pub progress_in : code.Progress → Progress
progress_in progress.Stuck = Stuck
progress_in (progress.Stands standing) = Stands standing.depth (mode_in standing.mode)
progress_in progress.Ended = Ended
