-- The parts of a file behind those that were read.
use Rattle.std.proofs.Common.{◌≡◌, refl, sym, ap, ◌∙◌, subst, ℕ, ◌≤◌, List, [], ◌∷◌, ◌++◌, append_assoc, append-nil, length, arith}
use Rattle.c_file_readers.specs.c_tree.declared.file.CObject.{CObject}
use Rattle.c_file_readers.specs.c_tree.declared.file.CConstant.{CConstant}
use Rattle.c_file_readers.specs.c_tree.declared.file.CFunction.{CFunction}
use Rattle.c_file_readers.specs.c_tree.declared.file.CFile.{CFile}
use Rattle.c_file_readers.specs.c_tree.CExpressionText.{Scope}
use Rattle.c_file_readers.specs.c_tree.CDeclarationText as text
use Rattle.c_file_readers.specs.c_tree.CDeclarationText.{ReadsArray, ReadsObject, with_object, with_array, with_function}
use Rattle.c_file_readers.specs.c_tree.CText as grammar
use Rattle.c_file_readers.specs.c_tree.CText.{ReadsFunction, ReadsConstant}
use Rattle.c_file_readers.specs.c_readers.Readers.{Tokens}
use Rattle.c_file_readers.specs.ObjectReader.{Named}
use Rattle.c_file_readers.specs.FileReader.{Part, Objects, Constants, Functions, with_one_object, with_one_constant, with_one_function}
use Rattle.c_file_laws.specs.FileLaws.{ObjectNew, ConstantNew, FunctionNew}
use Rattle.c_file_laws.proofs.PartsTo.{PartsTo, no_part, function_first, constant_first, object_first}

-- What was read of a file, with parts behind it.
abbrev pub joined : CFile → List CObject → List CConstant → List CFunction → CFile
joined before objects constants functions = record {
  objects = before.objects ++ objects;
  constants = before.constants ++ constants;
  functions = before.functions ++ functions;
}

-- Whether parts may stand at a place.
abbrev pub Fits : Part → List CObject → List CConstant → Type 0
Fits Objects objects constants = Unit {0}
Fits Constants objects constants = objects ≡ []
Fits Functions objects constants = (objects ≡ []) × (constants ≡ [])

pub no-parts-fit : (part : Part) → Fits part [] []
no-parts-fit Objects = tt
no-parts-fit Constants = refl
no-parts-fit Functions = (refl, refl)

-- Parts behind those that were read.
pub record PartsBehind (part : Part) (scope : Scope) (here : List (List ℕ)) (before made : CFile) (p q : Tokens) : Type 0 where
  pub objects : List CObject
  pub constants : List CConstant
  pub functions : List CFunction
  pub whole : made ≡ joined before objects constants functions
  pub fits : Fits part objects constants
  pub reads : PartsTo scope here objects constants functions p q

pub joined-none : (before : CFile) → before ≡ joined before [] [] []
joined-none before =
    sym (λ i. record { objects = append-nil before.objects i; constants = append-nil before.constants i; functions = append-nil before.functions i })

pub joined-object : (before : CFile) (one : CObject) (objects : List CObject) (constants : List CConstant) (functions : List CFunction)
    → joined (with_one_object one before) objects constants functions ≡ joined before (one ∷ objects) constants functions
joined-object before one objects constants functions =
    ap (λ z. record { objects = z; constants = before.constants ++ constants; functions = before.functions ++ functions }) (append_assoc before.objects (one ∷ []) objects)

pub joined-constant : (before : CFile) (one : CConstant) (objects : List CObject) (constants : List CConstant) (functions : List CFunction)
    → joined (with_one_constant one before) objects constants functions ≡ joined before objects (one ∷ constants) functions
joined-constant before one objects constants functions =
    ap (λ z. record { objects = before.objects ++ objects; constants = z; functions = before.functions ++ functions }) (append_assoc before.constants (one ∷ []) constants)

pub joined-function : (before : CFile) (one : CFunction) (objects : List CObject) (constants : List CConstant) (functions : List CFunction)
    → joined (with_one_function one before) objects constants functions ≡ joined before objects constants (one ∷ functions)
joined-function before one objects constants functions =
    ap (λ z. record { objects = before.objects ++ objects; constants = before.constants ++ constants; functions = z }) (append_assoc before.functions (one ∷ []) functions)

module _ (scope : Scope) (here : List (List ℕ)) (before : CFile) where
  pub none-behind : (part : Part) (p : Tokens) → PartsBehind part scope here before before p p
  none-behind part p = record {
    objects = [];
    constants = [];
    functions = [];
    whole = joined-none before;
    fits = no-parts-fit part;
    reads = no_part scope here;
  }

  pub object-behind : (one : Named) (made : CFile) (p q r : Tokens) → ObjectNew here one p q
      → PartsBehind Objects (with_array one.1 scope) (one.1 ∷ here) (with_one_object one.0 before) made q r → PartsBehind Objects scope here before made p r
  object-behind one made p q r first more = record {
    objects = one.0 ∷ more.objects;
    constants = more.constants;
    functions = more.functions;
    whole = more.whole ∙ joined-object before one.0 more.objects more.constants more.functions;
    fits = tt;
    reads = object_first scope here first.reads first.fresh more.reads;
  }

  pub constant-behind : (part : Part) → ((constants : List CConstant) → Fits part [] constants) → (one : CConstant) (made : CFile) (p q r : Tokens) → ConstantNew here one p q
      → PartsBehind Constants (with_object one.name scope) (one.name ∷ here) (with_one_constant one before) made q r → PartsBehind part scope here before made p r
  constant-behind part fit one made p q r first more = record {
    objects = [];
    constants = one ∷ more.constants;
    functions = more.functions;
    whole = more.whole
        ∙ (ap (λ z. joined (with_one_constant one before) z more.constants more.functions) more.fits ∙ joined-constant before one [] more.constants more.functions);
    fits = fit (one ∷ more.constants);
    reads = constant_first scope here first.reads first.fresh
        (subst (λ z. PartsTo (with_object one.name scope) (one.name ∷ here) z more.constants more.functions q r) more.fits more.reads);
  }

  pub function-behind : (part : Part) (one : CFunction) (made : CFile) (p q r : Tokens) → FunctionNew scope here one p q
      → PartsBehind Functions (with_function one.name scope) (one.name ∷ here) (with_one_function one before) made q r → PartsBehind part scope here before made p r
  function-behind part one made p q r first more = record {
    objects = [];
    constants = [];
    functions = one ∷ more.functions;
    whole = more.whole
        ∙ (ap (λ z. joined (with_one_function one before) z more.constants more.functions) more.fits.0
        ∙ (ap (λ z. joined (with_one_function one before) [] z more.functions) more.fits.1 ∙ joined-function before one [] [] more.functions));
    fits = no-parts-fit part;
    reads = function_first scope here first.reads first.fresh
        (subst (λ z. PartsTo (with_function one.name scope) (one.name ∷ here) [] z more.functions q r) more.fits.1
        (subst (λ z. PartsTo (with_function one.name scope) (one.name ∷ here) z more.constants more.functions q r) more.fits.0 more.reads));
  }

-- ## Each part takes tokens

array-long : {name : List ℕ} {n : ℕ} {p q : Tokens} → ReadsArray name n p q → 2 ≤ length p
array-long (text.an_array name n {p = p} {q = q} {r = r} l named opens is closes) =
    let a = ap length named in let b = ap length opens in omega (arith, a, b)

pub object-long : {one : CObject} {name : List ℕ} {p q : Tokens} → ReadsObject one name p q → 3 ≤ length p
object-long (text.integers name n word array reads) = let a = ap length word in let b = array-long array in omega (arith, a, b)
object-long (text.chars name n word array reads) = let a = ap length word in let b = array-long array in omega (arith, a, b)

pub constant-long : {one : CConstant} {p q : Tokens} → ReadsConstant one p q → 1 ≤ length p
constant-long (grammar.a_constant name first second named equals value ends) = let a = ap length first in omega (arith, a)

pub function-long : {scope : Scope} {one : CFunction} {p q : Tokens} → ReadsFunction scope one p q → 3 ≤ length p
function-long (grammar.a_function of name met word named opens heads closes begins declares statements) =
    let a = ap length word in let b = ap length named in let c = ap length opens in omega (arith, a, b, c)
