-- What the verdict of a translation says by the whole table of refusals: a source that is accepted for translation breaks no row of it, those of
-- storage and of what units share included, and a refusal that is no F99 is the first by it. ANSI X3.9-1978, sections 2 to 18.
use Rattle.std.specs.Prelude.{◌≢◌}
use Rattle.plain_mains.specs.f_tree.declared.names.Options.{Options}
use Rattle.plain_mains.specs.f_tree.declared.refusals.Kind.TheVariants.{NotBuiltYet}
use Rattle.plain_mains.specs.f_tree.declared.refusals.Refusal.{Refusal}
use Rattle.plain_mains.specs.f_tree.declared.units.FileSet.{FileSet}
use Rattle.source_verdict.specs.source_acceptance.SourceFiles.{Source}
use Rattle.source_verdict.specs.source_acceptance.Acceptance as whole
use Rattle.source_verdict.specs.SourceRows as verdict

-- LAWS
abbrev pub EachTranslatedSourceIsAccepted : Type 0
EachTranslatedSourceIsAccepted = (options : Options) (source : Source) (set : FileSet) → verdict.IsAccepted options source set →
    whole.IsAccepted options source set

abbrev pub EachEarlierRefusalIsFirst : Type 0
EachEarlierRefusalIsFirst = (options : Options) (source : Source) (r : Refusal) → r.kind ≢ NotBuiltYet →
    verdict.IsFirstRefusal options source r → whole.IsFirstRefusal options source r
