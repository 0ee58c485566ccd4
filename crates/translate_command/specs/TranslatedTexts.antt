-- The translations of a source, and of one as a shelf holds it. ANSI X3.9-1978, sections 2 to 18.
use Rattle.std.specs.Prelude.{◌≡◌, ℕ, Bool, List, length, Some}
use Rattle.f2c_outside.specs.Shelf.{Contents}
use Rattle.f_tree.specs.declared.names.Options.{Options}
use Rattle.f_tree.specs.declared.units.FileSet.{FileSet}
use Rattle.source_files.specs.faithful.Faithful.{Faithful}
use Rattle.source_files.specs.source_acceptance.SourceFiles.{Source}
use Rattle.source_files.specs.source_verdict.SourceRows as verdict
use Rattle.source_files.specs.SourceOnShelf.{mentions, files_on, HasPlaces, AreThere, source_on}
use Rattle.kept_loops.specs.KeptFunctions.{KeepTheirLoops}
use Rattle.step_bounds.specs.BoundedSteps.{AreBounded}
use Rattle.object_bounds.specs.BoundedObjects.{HaveFewBytes}
use Rattle.translated_sets.specs.FaithfulSets.{translations_of}
use Rattle.prototype_outputs.specs.prototypes.declared.prototype.Prototype.{Prototype}
use Rattle.prototype_outputs.specs.Outputs.{set_outputs, set_prototypes}
use Rattle.prototype_outputs.specs.Forms.{AreFiles}
use Rattle.translate_command.specs.declared.job.Job.{Job}

-- the source is accepted, and the texts are the translations of the trees that it spells, in their order, faithful to them and with their loops, and their
-- step factor is bounded by the trees, and the bytes of their objects by these and by the storage of the units
pub record AreTextsOf (options : Options) (source : Source) (texts : List (List ℕ)) : Type 0 where
  pub set : FileSet
  pub accepted : verdict.IsAccepted options source set
  pub translations : translations_of options set.files ≡ Some texts
  pub faithful : Faithful options set.files texts
  pub loops : KeepTheirLoops options set.files
  pub bounded : AreBounded options set.files
  pub small : HaveFewBytes options set.files

-- the source is accepted, these texts are its translation, these its outputs, in which the prototypes of each file stand behind its text where they are
-- asked for, and these the prototypes of each file
pub record AreOutputsOf (options : Options) (prototypes : Bool) (source : Source) (texts outputs : List (List ℕ)) (lists : List (List Prototype)) : Type 0 where
  pub made : AreTextsOf options source texts
  pub outputs_are : outputs ≡ set_outputs prototypes options made.set.files texts
  pub lists_are : lists ≡ set_prototypes options made.set.files

-- the places and each file that they include are there, the source is accepted, and these texts and outputs are its translation; each prototype file that is
-- to be checked is there, and is one
pub record IsTranslated (options : Options) (job : Job) (texts outputs : List (List ℕ)) (lists : List (List Prototype)) (contents : Contents) : Type 0 where
  pub there : HasPlaces job.froms contents
  pub included : AreThere (mentions (files_on contents job.froms)) contents
  pub count : length texts ≡ length job.froms
  pub outputs_of : AreOutputsOf options job.prototypes (source_on contents job.froms) texts outputs lists
  pub forms_there : HasPlaces job.forms contents
  pub forms : AreFiles (files_on contents job.forms)
