-- Where a source is accepted for a check of its calls and none is found to disagree, no call of a run by a direct name disagrees with a procedure of its
-- set in kind, number or type. ANSI X3.9-1978, sections 15.5.2.2, 15.6.2.2 and 15.9.3.
use Rattle.std.specs.Prelude.{◌≡◌, ℕ, List, []}
use Rattle.source_verdict.specs.f_tree.declared.names.Options.{Options}
use Rattle.source_verdict.specs.f_tree.declared.units.FileSet.{FileSet}
use Rattle.source_verdict.specs.f_tree.run_state.Units.{Units}
use Rattle.source_verdict.specs.f_tree.Setting.{Setting, IsSetting}
use Rattle.source_verdict.specs.f_tree.Meaning.{units_of, ftn}
use Rattle.source_verdict.specs.source_acceptance.SourceFiles.{Source}
use Rattle.source_verdict.specs.SourceRows.{Checking, IsAcceptedFor}
use Rattle.agreeing_calls.specs.agreeing_runs.Mismatches.{IsMismatched}
use Rattle.agreeing_calls.specs.call_shapes.declared.shapes.NamedShape.{NamedShape}
use Rattle.agreeing_calls.specs.call_shapes.Disagreements.{disagreeing}

abbrev pub EachCheckedSourceRuns : Type 0
EachCheckedSourceRuns = (options : Options) (source : Source) (set : FileSet) (lines : List NamedShape) (g : Setting) (units : Units) (n : ℕ) →
    IsAcceptedFor Checking options source set → disagreeing set.files lines ≡ [] → IsSetting (units_of options set) g →
    IsMismatched g (units_of options set) (ftn g (units_of options set) units n) → ⊥
