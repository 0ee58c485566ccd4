-- The tables of a unit, each made beside those before it.
use Rattle.std.proofs.Common.{◌≡◌, Result, Ok, IfOk, ap, sym, subst, ◌∙◌}
use Rattle.f_tree.specs.declared.units.Unit.{Unit as WrittenUnit}
use Rattle.name_classes.specs.declared.signs.Signs.{Signs}
use Rattle.name_classes.specs.KnownSigns.{AreSigns}
use Rattle.name_table.specs.declared.name_set.NameSet.{NameSet}
use Rattle.declared_types.specs.declared.types.Types.{Types}
use Rattle.declared_types.specs.declared.shapes.Shapes.{Shapes}
use Rattle.declared_types.specs.TypeTables.{AreTypes, AreShapes}
use Rattle.constant_values.specs.declared.constants.Constants.{Constants}
use Rattle.decl_table.specs.UnitFacts.{AreFunctions, AreUnitConstants, AreDeclarations}

-- what holds of a value if it was made holds of the value that was made
made-is : {A E : Type 0} (P : A → Type 0) (r : Result A E) (x : A) → r ≡ Ok x → IfOk r P → P x
made-is {A} {E} P r x is h = subst (λ (q : Result A E). IfOk q P) is h

pub declared-types : {A B E : Type 0} (u : WrittenUnit) (types : Result Types E) (typed : A × Types) (shaped : (A × Types) × B)
    → types ≡ Ok typed.1 → shaped.0 ≡ typed → IfOk types (AreTypes u) → AreTypes u shaped.0.1
declared-types {A} u types typed shaped found is h = subst (λ (p : A × Types). AreTypes u p.1) (sym is) (made-is (AreTypes u) types typed.1 found h)

-- the tables that stand after each step
abbrev Named : Type 0
Named = Signs × NameSet

abbrev WithTypes : Type 0
WithTypes = Named × Types

abbrev WithShapes : Type 0
WithShapes = WithTypes × Shapes

pub declared-all : {E : Type 0} (u : WrittenUnit) (signs : Signs) (functions : Result NameSet E) (types : Result Types E) (shapes : Result Shapes E) (constants : Result Constants E)
    (named : Named) (typed : WithTypes) (shaped : WithShapes) (whole : WithShapes × Constants)
    → (named.0 ≡ signs) × (functions ≡ Ok named.1) → (typed.0 ≡ named) × (types ≡ Ok typed.1) → (shaped.0 ≡ typed) × (shapes ≡ Ok shaped.1) → (whole.0 ≡ shaped) × (constants ≡ Ok whole.1)
    → AreSigns u signs → IfOk functions (AreFunctions u) → IfOk types (AreTypes u) → IfOk shapes (AreShapes u) → IfOk constants (AreUnitConstants u)
    → AreDeclarations u (record { signs = whole.0.0.0.0; types = whole.0.0.1; shapes = whole.0.1; functions = whole.0.0.0.1; constants = whole.1 })
declared-all u signs functions types shapes constants named typed shaped whole n t s w are_signs are_functions are_types are_shapes are_constants =
    let typed_is : whole.0.0 ≡ typed = ap (λ (p : WithShapes). p.0) w.0 ∙ s.0 in
    let named_is : whole.0.0.0 ≡ named = ap (λ (p : WithTypes). p.0) typed_is ∙ t.0 in
    let signs_is : whole.0.0.0.0 ≡ signs = ap (λ (p : Named). p.0) named_is ∙ n.0 in
    record {
      signs = subst (AreSigns u) (sym signs_is) are_signs;
      types = subst (λ (p : WithTypes). AreTypes u p.1) (sym typed_is) (made-is (AreTypes u) types typed.1 t.1 are_types);
      shapes = subst (λ (p : WithShapes). AreShapes u p.1) (sym w.0) (made-is (AreShapes u) shapes shaped.1 s.1 are_shapes);
      functions = subst (λ (p : Named). AreFunctions u p.1) (sym named_is) (made-is (AreFunctions u) functions named.1 n.1 are_functions);
      constants = made-is (AreUnitConstants u) constants whole.1 w.1 are_constants;
    }
