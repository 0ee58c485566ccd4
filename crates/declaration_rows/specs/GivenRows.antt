-- What statements give to a name, and which of it excludes each other (F22): the row stands at the later of two, and what conflicts with an
-- earlier statement counts for nothing afterwards. ANSI X3.9-1978, sections 8.1 to 8.9 (specification statements), 9.1 (DATA), 15.4 (statement
-- functions), 15.7 (ENTRY) and 18.2 (classes of names).
use Rattle.std.specs.Prelude.{nat_eq, Bool, true, false, not, ◌&&◌, ◌||◌, List, [], ◌∷◌, ◌++◌, map, bytes_eq, if◌then◌else◌}
use Rattle.std.specs.List.{list_any}
use Rattle.fortran_text.specs.f_tree.declared.names.Basic.{Basic}
use Rattle.fortran_text.specs.f_tree.declared.names.Basic.TheVariants.{Untyped}
use Rattle.fortran_text.specs.f_tree.declared.names.Class.TheVariants as class
use Rattle.fortran_text.specs.f_tree.declared.expressions.Expr.{Expr}
use Rattle.fortran_text.specs.f_tree.declared.expressions.Expr.TheOpen as expr
use Rattle.fortran_text.specs.f_tree.declared.refusals.Kind.{Kind}
use Rattle.fortran_text.specs.f_tree.declared.refusals.Kind.TheVariants.{ConflictingAttributes}
use Rattle.fortran_text.specs.f_tree.declared.refusals.Refusal.{Refusal}
use Rattle.fortran_text.specs.f_tree.declared.statements.ArrayDeclarator.{ArrayDeclarator}
use Rattle.fortran_text.specs.f_tree.declared.statements.Body.{Body}
use Rattle.fortran_text.specs.f_tree.declared.statements.Body.TheOpen as body
use Rattle.fortran_text.specs.f_tree.declared.statements.ConstantDefinition.{ConstantDefinition}
use Rattle.fortran_text.specs.f_tree.declared.statements.DataGroup.{DataGroup}
use Rattle.fortran_text.specs.f_tree.declared.statements.EquivalenceGroup.{EquivalenceGroup}
use Rattle.fortran_text.specs.f_tree.declared.statements.ListItem.{ListItem}
use Rattle.fortran_text.specs.f_tree.declared.statements.ListItem.TheOpen as item
use Rattle.fortran_text.specs.f_tree.declared.statements.SavedItem.{SavedItem}
use Rattle.fortran_text.specs.f_tree.declared.statements.SavedItem.TheVariants as saved
use Rattle.fortran_text.specs.f_tree.declared.statements.UnitKind.{UnitKind}
use Rattle.fortran_text.specs.f_tree.declared.statements.UnitKind.TheVariants as kind
use Rattle.fortran_text.specs.f_tree.declared.statements.Stmt.{Stmt}
use Rattle.fortran_text.specs.f_tree.declared.units.Unit.{Unit as WrittenUnit}
use Rattle.fortran_text.specs.f_tree.Values.{Bytes}
use Rattle.fortran_text.specs.f_tree.Folds.{fold_expr, fold_item, layer_of}
use Rattle.fortran_text.specs.f_tree.Facts.{Attribute}
use Rattle.fortran_text.specs.f_tree.Uses.{is_among}
use Rattle.fortran_text.specs.f_tree.Attributes.{TypedName, Shaped, Definition, typed_in, shaped_in, constants_in, external_in, intrinsic_in, entry_names_in, entry_dummies_in, named_dummies, members_of, definitions_in, arrays_of, option_list}
use Rattle.fortran_text.specs.f_tree.Lines.{common_in, equivalence_in, data_in}
use Rattle.declaration_rows.specs.Judgement.{unless}
use Rattle.declaration_rows.specs.NameRows.{given_names, stood, at_both, mentions}
use Rattle.declaration_rows.specs.GlobalRows.{block_names, global_rows_opened}

pub data Gift : Type 0 where
  -- a type statement, or the type before FUNCTION
  TypeOf : Gift
  DimensionsOf : Gift
  InCommon : Gift
  ConstantOf : Gift
  DummyOf : Gift
  -- the name of a function or of one of its entries
  ResultOf : Gift
  -- the name of another unit or entry
  UnitOf : Gift
  ExternalOf : Gift
  IntrinsicOf : Gift
  SavedOf : Gift
  DataOf : Gift
  EquivalencedOf : Gift
  DefinitionOf : Gift

-- what may stand together, in the order of the list above
unfoldable pub agrees_with : Gift → Gift → Bool
agrees_with TypeOf TypeOf = false
agrees_with TypeOf UnitOf = false
agrees_with TypeOf other = true
agrees_with DimensionsOf InCommon = true
agrees_with DimensionsOf DummyOf = true
agrees_with DimensionsOf SavedOf = true
agrees_with DimensionsOf DataOf = true
agrees_with DimensionsOf EquivalencedOf = true
agrees_with InCommon DataOf = true
agrees_with InCommon EquivalencedOf = true
agrees_with DummyOf DummyOf = true
agrees_with DummyOf ExternalOf = true
agrees_with ResultOf ResultOf = true
agrees_with UnitOf UnitOf = true
agrees_with SavedOf DataOf = true
agrees_with SavedOf EquivalencedOf = true
agrees_with DataOf DataOf = true
agrees_with DataOf EquivalencedOf = true
agrees_with EquivalencedOf EquivalencedOf = true
agrees_with _ _ = false

-- of two it does not matter which comes first
unfoldable pub exclude : Gift → Gift → Bool
exclude g h = not (agrees_with g h || agrees_with h g)

pub record Given : Type 0 where
  pub name : Bytes
  pub gift : Gift

unfoldable pub given : Gift → Bytes → Given
given g x = record { name = x; gift = g }

-- the variable or array of a place
unfoldable pub layer_owners : expr.Expr-F (List Bytes) → List Bytes
layer_owners (expr.Name x) = x ∷ []
layer_owners (expr.Apply x parts) = x ∷ []
layer_owners (expr.Part xs from to) = xs
layer_owners _ = []

unfoldable pub owners : Expr → List Bytes
owners e = fold_expr layer_owners e

unfoldable pub owners_of : List Expr → List Bytes
owners_of [] = []
owners_of (e ∷ es) = owners e ++ owners_of es

unfoldable pub joined_owners : List (List Bytes) → List Bytes
joined_owners [] = []
joined_owners (xs ∷ more) = xs ++ joined_owners more

unfoldable pub layer_item_owners : item.ListItem-F (List Bytes) → List Bytes
layer_item_owners (item.Item e) = owners e
layer_item_owners (item.Loop xss control) = joined_owners xss

unfoldable pub owners_in : List ListItem → List Bytes
owners_in [] = []
owners_in (i ∷ is) = fold_item layer_item_owners i ++ owners_in is

unfoldable pub data_owners : List DataGroup → List Bytes
data_owners [] = []
data_owners (g ∷ gs) = owners_in g.places ++ data_owners gs

unfoldable pub tied_owners : List EquivalenceGroup → List Bytes
tied_owners [] = []
tied_owners (g ∷ gs) = owners_of g.places ++ tied_owners gs

unfoldable pub shaped_names : List Shaped → List Bytes
shaped_names [] = []
shaped_names (d ∷ ds) = elim d.dimensions [ [] ↦ shaped_names ds | first ∷ rest ↦ d.name ∷ shaped_names ds ]

unfoldable pub saved_names : List SavedItem → List Bytes
saved_names [] = []
saved_names (saved.Named x ∷ more) = x ∷ saved_names more
saved_names (saved.Block x ∷ more) = saved_names more

unfoldable pub saved_in : Body → List Bytes
saved_in b = elim (layer_of b) [ body.Save items ↦ saved_names items | _ ↦ [] ]

unfoldable pub own_gift : UnitKind → Gift
own_gift (kind.Function spec) = ResultOf
own_gift _ = UnitOf

-- what a statement gives
unfoldable pub givens_of : WrittenUnit → Body → List Given
givens_of u b =
    map (given (own_gift u.kind)) (entry_names_in b) ++
    (map (given DummyOf) (entry_dummies_in b) ++
    (map (λ (t : TypedName). given TypeOf t.item.name) (typed_in b) ++
    (map (given DimensionsOf) (shaped_names (shaped_in b)) ++
    (map (λ (d : ArrayDeclarator). given InCommon d.name) (members_of (common_in b)) ++
    (map (λ (d : ConstantDefinition). given ConstantOf d.name) (constants_in b) ++
    (map (given ExternalOf) (external_in b) ++
    (map (given IntrinsicOf) (intrinsic_in b) ++
    (map (given SavedOf) (saved_in b) ++
    (map (given DataOf) (data_owners (data_in b)) ++
    (map (given EquivalencedOf) (tied_owners (equivalence_in b)) ++
    map (λ (d : Definition). given DefinitionOf d.name) (definitions_in (arrays_of u) b)))))))))))

-- what the first statement of the unit gives, where it heads it
unfoldable pub is_typed : Basic → Bool
is_typed Untyped = false
is_typed basic = true

unfoldable pub heading_types : UnitKind → Bool
heading_types (kind.Function spec) = is_typed spec.basic
heading_types _ = false

unfoldable pub heading_givens : WrittenUnit → List Given
heading_givens u =
    map (given (own_gift u.kind)) (option_list u.name) ++
    (map (given TypeOf) (if heading_types u.kind then option_list u.name else []) ++ map (given DummyOf) (named_dummies u.dummies))

-- each given behind those that are kept
unfoldable pub conflicts : List Given → Given → Bool
conflicts kept g = list_any (λ (k : Given). bytes_eq k.name g.name && exclude k.gift g.gift) kept

pub record Kept : Type 0 where
  pub givens : List Given
  pub sound : Bool

unfoldable pub kept_from : List Given → List Given → Kept
kept_from kept [] = record { givens = kept; sound = true }
kept_from kept (g ∷ gs) =
    if conflicts kept g then record (kept_from kept gs) { sound = false } else kept_from (kept ++ g ∷ []) gs

-- no name stands twice in one list of dummy arguments (15.4.1, 15.9.2)
unfoldable pub no_name_twice : List Bytes → Bool
no_name_twice [] = true
no_name_twice (x ∷ xs) = not (is_among x xs) && no_name_twice xs

unfoldable pub given_rows_from : WrittenUnit → List Given → List Stmt → List Refusal
given_rows_from u kept [] = []
given_rows_from u kept (s ∷ ss) =
    let k = kept_from kept (givens_of u s.body) in
    stood s (unless (k.sound && no_name_twice (entry_dummies_in s.body)) ConflictingAttributes) ++ given_rows_from u k.givens ss

unfoldable pub refused_unit : WrittenUnit → Kind → Refusal
refused_unit u row = record { file = u.file; card = u.card; kind = row }

unfoldable pub heading_rows : WrittenUnit → List Refusal
heading_rows u =
    map (refused_unit u) (unless ((kept_from [] (heading_givens u)).sound && no_name_twice (named_dummies u.dummies)) ConflictingAttributes)

-- a name with an underscore is no common block and, besides, a variable, an array or a dummy procedure
unfoldable pub has_underscore : Bytes → Bool
has_underscore x = list_any (λ c. nat_eq c 95) x

unfoldable pub is_block_in : Bytes → Body → Bool
is_block_in x b = is_among x (block_names (common_in b))

unfoldable pub is_variable_or_procedure : Attribute → Bool
is_variable_or_procedure a = elim a.class [
  | class.Stored ↦ true
  | class.Dummy ↦ true
  | class.Result ↦ true
  | class.DummyProcedure ↦ true
  | _ ↦ false
]

unfoldable pub block_name_rows : WrittenUnit → List Bytes → List Refusal
block_name_rows u [] = []
block_name_rows u (x ∷ xs) =
    at_both u (is_block_in x) (mentions u x) u.statements
    (unless (not (has_underscore x && is_variable_or_procedure (given_names u x))) ConflictingAttributes) ++ block_name_rows u xs

unfoldable pub all_block_names : List Stmt → List Bytes
all_block_names [] = []
all_block_names (s ∷ ss) = block_names (common_in s.body) ++ all_block_names ss

unfoldable pub unit_given_rows : WrittenUnit → List Refusal
unit_given_rows u =
    heading_rows u ++
    (given_rows_from u (kept_from [] (heading_givens u)).givens u.statements ++ block_name_rows u (all_block_names u.statements))

unfoldable pub given_rows_opened : Unit {0}
unfolding global_rows_opened agrees_with exclude given layer_owners owners owners_of joined_owners layer_item_owners owners_in data_owners tied_owners shaped_names saved_names saved_in own_gift givens_of is_typed heading_types heading_givens conflicts kept_from no_name_twice given_rows_from refused_unit heading_rows has_underscore is_block_in is_variable_or_procedure block_name_rows all_block_names unit_given_rows
given_rows_opened = tt
