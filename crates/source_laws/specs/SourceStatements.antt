-- What is said of sources: that they are read in one way, and that those which are accepted are meant.
use Rattle.std.specs.Prelude.{◌≡◌, ℕ, Some}
use Rattle.fortran_totality.specs.run_state.Units.{Units}
use Rattle.fortran_totality.specs.f_tree.declared.names.Options.{Options}
use Rattle.fortran_totality.specs.f_tree.declared.refusals.Refusal.{Refusal}
use Rattle.fortran_totality.specs.f_tree.declared.units.FileSet.{FileSet}
use Rattle.fortran_totality.specs.f_tree.RefusalRows.{number_of}
use Rattle.fortran_totality.specs.f_tree.Values.{NoMeaning}
use Rattle.fortran_totality.specs.f_tree.Setting.{Setting, IsSetting}
use Rattle.fortran_totality.specs.f_tree.Meaning.{units_of, ftn, act_of}
use Rattle.fortran_totality.specs.f_tree.WellFormed.{AreWellFormed}
use Rattle.source_verdict.specs.source_acceptance.SourceFiles.{Source, SpellsSource}
use Rattle.source_verdict.specs.source_acceptance.Acceptance.{IsFirstRefusal, IsAccepted}

-- A source spells one set at most.
abbrev pub EachSourceSpellsOneSet : Type 0
EachSourceSpellsOneSet = (source : Source) (a b : FileSet) → SpellsSource source a → SpellsSource source b → a ≡ b

-- Two first refusals are one.
abbrev pub OneFirstRefusal : Type 0
OneFirstRefusal = (options : Options) (source : Source) (r q : Refusal) → IsFirstRefusal options source r → IsFirstRefusal options source q →
    (r.file ≡ q.file) × (r.card ≡ q.card) × (number_of r.kind ≡ number_of q.kind)

-- What is accepted has none.
abbrev pub NoAcceptedSourceIsRefused : Type 0
NoAcceptedSourceIsRefused = (options : Options) (source : Source) (set : FileSet) (r : Refusal) → IsAccepted options source set → IsFirstRefusal options source r → ⊥

-- An accepted source over one of its settings.
pub record IsMeant (options : Options) (set : FileSet) (g : Setting) : Type 0 where
  pub formed : AreWellFormed g (units_of options set)
  pub runs : (units : Units) (n : ℕ) → act_of (ftn g (units_of options set) units n) ≡ Some NoMeaning → ⊥

abbrev pub EachAcceptedSourceIsMeant : Type 0
EachAcceptedSourceIsMeant = (options : Options) (source : Source) (set : FileSet) (g : Setting) → IsAccepted options source set →
    IsSetting (units_of options set) g → IsMeant options set g
