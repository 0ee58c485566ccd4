-- What names stand for in the scope behind their declarations.
use Rattle.std.proofs.Common.{◌≡◌, refl, ap, ◌∙◌, ℕ, Bool, true, false, ◌||◌, bytes_eq, List, [], ◌∷◌, ◌++◌}
use Rattle.c_tree.specs.declared.types.ParameterType.{ParameterType}
use Rattle.c_tree.specs.declared.types.ParameterType.TheVariants as parameter
use Rattle.c_tree.specs.declared.declaration.CLocal.{CLocal}
use Rattle.c_tree.specs.declared.declaration.CLocal.TheVariants as local
use Rattle.c_tree.specs.CWords.{is_among}
use Rattle.c_tree.specs.CExpressionText.{Scope}
use Rattle.c_tree.specs.CDeclarationText.{with_declared, with_parameter}
use Rattle.c_scope.specs.NamesSeen.{with_name}
use Rattle.c_declaration_reader.specs.SeenDeclarations.{parameter_class, local_class}

or-assoc : (a b c : Bool) → (a || (b || c)) ≡ ((a || b) || c)
or-assoc true b c = refl
or-assoc false b c = refl

-- a name among two lists
pub among_either : (q : List ℕ) (xs ys : List (List ℕ)) → is_among q (xs ++ ys) ≡ (is_among q xs || is_among q ys)
among_either q [] ys = refl
among_either q (x ∷ xs) ys = ap (λ z. bytes_eq q x || z) (among_either q xs ys) ∙ or-assoc (bytes_eq q x) (is_among q xs) (is_among q ys)

pub parameter-named : (of : ParameterType) (name : List ℕ) (scope : Scope) → with_name (parameter_class of) name scope ≡ with_parameter of name scope
unfolding with_name parameter_class
parameter-named parameter.Integers name scope = refl
parameter-named parameter.Logicals name scope = refl
parameter-named parameter.Chars name scope = refl
parameter-named parameter.Length name scope = refl
parameter-named parameter.Int name scope = refl
parameter-named (parameter.Function of) name scope = refl

pub local-named : (one : CLocal) (name : List ℕ) (scope : Scope) → with_name (local_class one) name scope ≡ with_declared one name scope
unfolding with_name local_class
local-named (local.Extern of n types) name scope = refl
local-named (local.StaticNumber of n value) name scope = refl
local-named (local.StaticNumbers of n count values) name scope = refl
local-named (local.StaticChars n count bytes) name scope = refl
local-named (local.StaticList of n fields) name scope = refl
local-named (local.Number of n) name scope = refl
local-named (local.Numbers of n count) name scope = refl
local-named (local.Chars n count) name scope = refl
local-named (local.Addresses n count) name scope = refl

pub ruleset scope_steps = (parameter-named, local-named)
