-- What the judge of the order of statements keeps of the statements before one.
use Rattle.std.specs.Prelude.{◌≡◌, ℕ, nat_le, Bool, false, ◌&&◌, ◌||◌, List, [], ◌∷◌, ◌++◌, map}
use Rattle.std.specs.List.{list_any}
use Rattle.f_tree.specs.Values.{Bytes}
use Rattle.f_tree.specs.declared.statements.Body.{Body}
use Rattle.f_tree.specs.declared.statements.Body.TheOpen as body
use Rattle.f_tree.specs.declared.statements.ConstantDefinition.{ConstantDefinition}
use Rattle.f_tree.specs.declared.statements.Declarator.{Declarator}
use Rattle.f_tree.specs.declared.statements.ImplicitGroup.{ImplicitGroup}
use Rattle.f_tree.specs.declared.statements.LetterRange.{LetterRange}
use Rattle.f_tree.specs.declared.statements.Stmt.{Stmt}
use Rattle.f_tree.specs.Folds.{layer_of}
use Rattle.f_tree.specs.Uses.{Use, is_among, uses_of_body}
use Rattle.f_tree.specs.Attributes.{constants_in}
use Rattle.declaration_rows.specs.OrderRows.{is_use, is_implicit_none, is_implicit, constants_before, uses_name}
use Rattle.name_table.specs.declared.name_set.NameSet.{NameSet}
use Rattle.name_table.specs.Named.{names_in, IsNameSet}
use Rattle.statement_order.specs.declared.before.Before.{Before}

unfoldable pub in_range : ℕ → LetterRange → Bool
in_range c r = nat_le r.first c && nat_le c r.last

abbrev pub letter_typed : List ImplicitGroup → ℕ → Bool
letter_typed groups c = list_any (λ (g : ImplicitGroup). list_any (in_range c) g.letters) groups

-- a name whose first letter passes a test
unfoldable pub first_passes : (ℕ → Bool) → Bytes → Bool
first_passes p [] = false
first_passes p (c ∷ cs) = p c

unfoldable pub constant_names : Body → List Bytes
constant_names b = map (λ (d : ConstantDefinition). d.name) (constants_in b)

unfoldable pub types_by : List Bytes → List ℕ → Body → Bool
types_by constants letters b = elim (layer_of b) [
  | body.Declare spec items ↦ list_any (λ (d : Declarator). is_among d.name constants) items
  | body.Implicit groups ↦ list_any (letter_typed groups) letters
  | _ ↦ false
]

unfoldable pub uses_as : Bytes → Use → Bool
uses_as x u = is_use u.manner && is_among u.name (x ∷ [])

-- the names of some uses are put into a set
pub record Uses (before after : NameSet) (uses : List Use) : Type 0 where
  pub has : (x : Bytes) → is_among x (names_in after) ≡ (is_among x (names_in before) || list_any (uses_as x) uses)
  pub is_set : IsNameSet after

-- what is known behind a statement
pub record Notes (arrays : List Bytes) (old new : Before) (s : Stmt) : Type 0 where
  pub none : new.has_none ≡ (is_implicit_none s.body || old.has_none)
  pub implicit : new.has_implicit ≡ (is_implicit s.body || old.has_implicit)
  pub constants : names_in new.constants ≡ names_in old.constants ++ constant_names s.body
  pub constants_set : IsNameSet new.constants
  pub letters : (p : ℕ → Bool) → list_any p new.letters.items ≡ (list_any p old.letters.items || list_any (first_passes p) (constant_names s.body))
  pub used : (x : Bytes) → is_among x (names_in new.used) ≡ (is_among x (names_in old.used) || list_any (uses_as x) (uses_of_body arrays s.body))
  pub used_set : IsNameSet new.used

-- what is known of all statements before one
pub record AreBefore (arrays : List Bytes) (known : Before) (before : List Stmt) : Type 0 where
  pub none : known.has_none ≡ list_any (λ (s : Stmt). is_implicit_none s.body) before
  pub implicit : known.has_implicit ≡ list_any (λ (s : Stmt). is_implicit s.body) before
  pub constants : (x : Bytes) → is_among x (names_in known.constants) ≡ is_among x (constants_before before)
  pub constants_set : IsNameSet known.constants
  pub letters : (p : ℕ → Bool) → list_any p known.letters.items ≡ list_any (first_passes p) (constants_before before)
  pub used : (x : Bytes) → is_among x (names_in known.used) ≡ list_any (uses_name arrays x) before
  pub used_set : IsNameSet known.used
