-- The names of arrays, list by list.
use Rattle.std.specs.Prelude.{◌≡◌, List, [], ◌∷◌, ◌++◌, map}
use Rattle.std.proofs.Common.{◌<◌, length, Result, Ok, Err, OnOk, refl, sym, ap, ◌∙◌, arith}
use Rattle.std.proofs.lemmas.List.{append-nil, map-append}
use Rattle.f_tree.specs.Values.{Bytes}
use Rattle.f_tree.specs.Folds.{layer_of}
use Rattle.f_tree.specs.declared.statements.Body.{Body, Declare, Dimension, Common, IfOne', more_of-Body}
use Rattle.f_tree.specs.declared.statements.Body.TheVariants as body
use Rattle.f_tree.specs.declared.statements.TypeSpec.{TypeSpec}
use Rattle.f_tree.specs.declared.statements.Declarator.{Declarator}
use Rattle.f_tree.specs.declared.statements.ArrayDeclarator.{ArrayDeclarator}
use Rattle.f_tree.specs.declared.statements.CommonGroup.{CommonGroup}
use Rattle.f_tree.specs.declared.statements.Dimension.{Dimension as WrittenDimension}
use Rattle.f_tree.specs.declared.statements.Stmt.{Stmt}
use Rattle.f_tree.specs.Attributes.{Shaped, from_all, shaped_in, shape_of_array, members_of, array_names}
use Rattle.name_table.specs.declared.name_set.NameSet.{NameSet}
use Rattle.name_table.specs.Named.{names_in, IsNameSet}
use Rattle.name_uses.specs.UsesSeen.{Adds, shape_of}

append_by : (x : Bytes) (dims : List WrittenDimension) (ds more both : List Bytes) → both ≡ ds ++ more
    → (elim dims [ [] ↦ both | first ∷ rest ↦ x ∷ both ]) ≡ (elim dims [ [] ↦ ds | first ∷ rest ↦ x ∷ ds ]) ++ more
append_by x [] ds more both is = is
append_by x (first ∷ rest) ds more both is = ap (λ xs. x ∷ xs) is

pub arrays_append : (ds more : List Shaped) → array_names (ds ++ more) ≡ array_names ds ++ array_names more
unfolding array_names
arrays_append [] more = refl
arrays_append (d ∷ ds) more = append_by d.name d.dimensions (array_names ds) (array_names more) (array_names (ds ++ more)) (arrays_append ds more)

pub adds_none : (set : NameSet) (names : List Bytes) → IsNameSet set → names ≡ [] → Adds set set names
adds_none set names known none = record { put = sym (append-nil (names_in set)) ∙ ap (λ xs. names_in set ++ xs) (sym none); is_set = known }

pub adds_as : (before after : NameSet) (names others : List Bytes) → names ≡ others → Adds before after names → Adds before after others
adds_as before after names others same adds = record { put = adds.put ∙ ap (λ xs. names_in before ++ xs) same; is_set = adds.is_set }

pub adds_one : {A E : Type 0} (r : Result A E) (before after : NameSet) (names one : List Bytes) → one ≡ names → OnOk r (names_in after ≡ names_in before ++ one)
    → OnOk r (IsNameSet after) → OnOk r (Adds before after names)
adds_one (Ok x) before after names one same put known = record { put = put ∙ ap (λ xs. names_in before ++ xs) same; is_set = known }
adds_one (Err e) before after names one same put known = put

pub adds_same : {A E : Type 0} (r : Result A E) (before after : NameSet) (names others : List Bytes) → names ≡ others → OnOk r (Adds before after names) → OnOk r (Adds before after others)
adds_same (Ok x) before after names others same adds = adds_as before after names others same adds
adds_same (Err e) before after names others same adds = adds

pub no_shape : (x : Bytes) (dims : List WrittenDimension) → length dims ≡ 0 → array_names (record { name = x; dimensions = dims } ∷ []) ≡ []
unfolding array_names
no_shape x [] h = refl
no_shape x (d ∷ dims) h = absurd (omega arith)

pub some_shape : (x : Bytes) (dims : List WrittenDimension) → 0 < length dims → array_names (record { name = x; dimensions = dims } ∷ []) ≡ x ∷ []
unfolding array_names
some_shape x [] h = absurd (omega arith)
some_shape x (d ∷ dims) h = refl

pub declared_step : (d : Declarator) (ds : List Declarator) → array_names (map shape_of (d ∷ ds)) ≡ array_names (record { name = d.name; dimensions = d.dimensions } ∷ []) ++ array_names (map shape_of ds)
unfolding shape_of
declared_step d ds = arrays_append (shape_of d ∷ []) (map shape_of ds)

pub members_step : (d : ArrayDeclarator) (ds : List ArrayDeclarator) → array_names (map shape_of_array (d ∷ ds)) ≡ array_names (record { name = d.name; dimensions = d.dimensions } ∷ []) ++ array_names (map shape_of_array ds)
unfolding shape_of_array
members_step d ds = arrays_append (shape_of_array d ∷ []) (map shape_of_array ds)

pub groups_step : (g : CommonGroup) (gs : List CommonGroup) → array_names (map shape_of_array (members_of (g ∷ gs))) ≡ array_names (map shape_of_array g.items) ++ array_names (map shape_of_array (members_of gs))
unfolding members_of
groups_step g gs = ap array_names (map-append shape_of_array g.items (members_of gs)) ∙ arrays_append (map shape_of_array g.items) (map shape_of_array (members_of gs))

pub groups_none : array_names (map shape_of_array (members_of [])) ≡ []
unfolding members_of array_names
groups_none = refl

pub shaped_none : array_names [] ≡ []
unfolding array_names
shaped_none = refl

pub statements_step : (s : Stmt) (ss : List Stmt) → array_names (from_all shaped_in (s ∷ ss)) ≡ array_names (shaped_in s.body) ++ array_names (from_all shaped_in ss)
unfolding from_all
statements_step s ss = arrays_append (shaped_in s.body) (from_all shaped_in ss)

pub statements_none : array_names (from_all shaped_in []) ≡ []
unfolding from_all array_names
statements_none = refl

pub shaped-Declare : (spec : TypeSpec) (ds : List Declarator) → shaped_in (body.Declare spec ds) ≡ map shape_of ds
unfolding shaped_in layer_of shape_of
shaped-Declare spec ds = refl

pub shaped-Dimension : (ds : List ArrayDeclarator) → shaped_in (body.Dimension ds) ≡ map shape_of_array ds
unfolding shaped_in layer_of
shaped-Dimension ds = refl

pub shaped-Common : (gs : List CommonGroup) → shaped_in (body.Common gs) ≡ map shape_of_array (members_of gs)
unfolding shaped_in layer_of
shaped-Common gs = refl

pub shaped_other : (b : Body) → ((spec : TypeSpec) (ds : List Declarator) → b ≡ body.Declare spec ds → ⊥) → ((ds : List ArrayDeclarator) → b ≡ body.Dimension ds → ⊥)
    → ((gs : List CommonGroup) → b ≡ body.Common gs → ⊥) → array_names (shaped_in b) ≡ []
unfolding shaped_in layer_of array_names
shaped_other (Declare spec ds) one two three = absurd (one spec ds refl)
shaped_other (Dimension ds) one two three = absurd (two ds refl)
shaped_other (Common gs) one two three = absurd (three gs refl)
shaped_other (IfOne' e s (more_of-Body b r)) one two three = refl
shaped_other _ one two three = refl
