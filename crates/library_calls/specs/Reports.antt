-- What is reported of a place outside its declared bounds, as the meaning of C texts has it.
use Rattle.c_tree.specs.run_state.Endings.{Report}
use Rattle.library_calls.specs.declared.endings.RangeReport.{RangeReport}

abbrev pub report_shown : RangeReport → Report
report_shown report = record { variable = report.variable.now; number = report.number; unit = report.unit.now; card = report.card }
