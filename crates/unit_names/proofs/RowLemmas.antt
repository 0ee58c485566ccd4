-- Rows of names that have not stood before, as names are noted one after the other.
use Rattle.std.specs.Prelude.{◌≡◌, ℕ, suc, Bool, true, false, not, ◌||◌, ◌&&◌, List, [], ◌∷◌, ◌++◌, map, bytes_eq, Option, Some, None, is_some, if◌then◌else◌}
use Rattle.std.specs.Borrow.{Bor}
use Rattle.f_tree.specs.declared.refusals.Kind.{Kind}
use Rattle.std.proofs.Common.{◌+◌, ◌<◌, ◌≤◌, drop, drop-cons, get_or, length, OnOk, Result, Ok, Err, refl, sym, ap, subst, ◌∙◌, arith}
use Rattle.std.proofs.lemmas.List.{append-nil, append_assoc, drop_all, map-append}
use Rattle.std.proofs.lemmas.Slice.Eq.{bytes_eq-Decides}
use Rattle.f_tree.specs.declared.names.Basic.{Basic}
use Rattle.f_tree.specs.declared.names.Basic.TheVariants.{Integer, Logical, Character, Untyped}
use Rattle.f_tree.specs.declared.refusals.Kind.TheVariants.{NameNotDeclared}
use Rattle.f_tree.specs.declared.refusals.Refusal.{Refusal}
use Rattle.f_tree.specs.declared.statements.Body.{Body, IfOne', more_of-Body}
use Rattle.f_tree.specs.declared.statements.Body as whole
use Rattle.f_tree.specs.declared.statements.Body.TheVariants as body
use Rattle.f_tree.specs.declared.statements.Stmt.{Stmt}
use Rattle.f_tree.specs.declared.statements.TypeSpec.{TypeSpec}
use Rattle.f_tree.specs.declared.statements.UnitKind.{UnitKind}
use Rattle.f_tree.specs.declared.statements.UnitKind.TheVariants as kind
use Rattle.f_tree.specs.declared.units.Unit.{Unit as WrittenUnit}
use Rattle.f_tree.specs.declared.expressions.Expr.{Expr}
use Rattle.f_tree.specs.Folds.{layer_of}
use Rattle.f_tree.specs.Values.{Bytes}
use Rattle.f_tree.specs.Uses.{Use, Heading, is_among, uses_of_body, heading_of, defines_function}
use Rattle.f_tree.specs.Attributes.{TypedName, from_all, typed_in, type_among, heading_type, arrays_of, definition_by, definitions_in, own_names, all_dummies}
use Rattle.declaration_rows.specs.Judgement.{unless}
use Rattle.declaration_rows.specs.NameRows.{stood}
use Rattle.declaration_rows.specs.OrderRows.{is_implicit_none}
use Rattle.declaration_rows.specs.StatementRows.{is_typed}
use Rattle.declaration_rows.specs.UndeclaredRows.{is_declared, undeclared_dummies, undeclared_in_definitions, undeclared_definition_rows}
use Rattle.name_table.specs.declared.name_set.NameSet.{NameSet}
use Rattle.name_table.specs.Named.{names_in, IsNameSet}
use Rattle.name_table.proofs.SetLemmas.{among_both}
use Rattle.name_table.proofs.Texts.{bytes_eq_flip}
use Rattle.name_classes.specs.StatedNames.{typed_names}
use Rattle.unit_names.specs.Undeclared.{is_name, heads, stands, head_row, own_rows, row_at, if_new, new_rows, statement_names, statements_rows, Sees, definition_rows}
use Rattle.f_tree.specs.declared.statements.DummyArgument.{DummyArgument}
use Rattle.f_tree.specs.Attributes.{named_dummies}
use Rattle.declaration_rows.specs.NameRows.{all_names}
use Rattle.declaration_rows.specs.UndeclaredRows.{undeclared_name_rows}
use Rattle.name_uses.specs.declared.uses.Use.{Use as Seen}
use Rattle.name_uses.specs.UsesSeen.{use_of, used_in}
use Rattle.name_uses.proofs.ItemForms.{no_use}
use Rattle.name_classes.specs.StatedNames.{dummy_name}
use Rattle.name_classes.proofs.StatementForms.{dummies_step as named_step, dummies_none as named_none}
use Rattle.unit_names.specs.Undeclared.{use_names, class_has_type}
use Rattle.f_tree.specs.declared.names.Class.{Class}
use Rattle.f_tree.specs.Attributes.{class_of, is_used_as, with_list}
use Rattle.declaration_rows.specs.NameRows.{is_referenced}
use Rattle.name_classes.specs.KnownSigns.{unit_uses}
use Rattle.unit_names.proofs.UndeclaredLaws.{new_alike, new_both, names_law}

-- NAMES ARE NOTED
or_none : (b : Bool) → (b || false) ≡ b
or_none true = refl
or_none false = refl

or_swapped : (a b : Bool) → (a || b) ≡ (b || a)
or_swapped true true = refl
or_swapped true false = refl
or_swapped false true = refl
or_swapped false false = refl

among_one : (q x : Bytes) → is_among q (x ∷ []) ≡ bytes_eq q x
unfolding is_among
among_one q x = or_none (bytes_eq q x)

among_none : (q : Bytes) → is_among q [] ≡ false
unfolding is_among
among_none q = refl

there_by : (b : Bool) (rest : Bool) → (b ≡ true → rest ≡ true) → rest ≡ (b || rest)
there_by true rest there = there refl
there_by false rest there = refl

pub sees_old : (set : NameSet) (x : Bytes) → IsNameSet set → is_among x (names_in set) ≡ true → Sees set set (x ∷ [])
sees_old set x known there = record {
  has = λ q.
      there_by (is_among q (x ∷ [])) (is_among q (names_in set))
      (λ same. ap (λ y. is_among y (names_in set)) ((bytes_eq-Decides q x).0 (sym (among_one q x) ∙ same)) ∙ there);
  is_set = known;
}

pub sees_new : (old new : NameSet) (x : Bytes) → names_in new ≡ names_in old ++ x ∷ [] → IsNameSet new → Sees old new (x ∷ [])
sees_new old new x put known = record {
  has = λ q. ap (is_among q) put ∙ among_both q (names_in old) (x ∷ []) ∙ or_swapped (is_among q (names_in old)) (is_among q (x ∷ []));
  is_set = known;
}

one_new : (row : Bytes → List Refusal) (seen : List Bytes) (x : Bytes) → new_rows row seen (x ∷ []) ≡ (if is_among x seen then [] else row x)
unfolding new_rows if_new
one_new row seen x = append-nil (if is_among x seen then [] else row x)

pub row_old : (row : Bytes → List Refusal) (seen : List Bytes) (x : Bytes) (found : List Refusal) → is_among x seen ≡ true → found ≡ found ++ new_rows row seen (x ∷ [])
row_old row seen x found there = sym (ap (λ rs. found ++ rs) (one_new row seen x ∙ ap (λ b. if b then [] else row x) there) ∙ append-nil found)

pub rows_none : (row : Bytes → List Refusal) (seen : List Bytes) (found : List Refusal) → found ≡ found ++ new_rows row seen []
unfolding new_rows
rows_none row seen found = sym (append-nil found)

pub sees_none : (set : NameSet) → IsNameSet set → Sees set set []
unfolding is_among
sees_none set known = record { has = λ q. refl; is_set = known }

pub sees_as : (old new : NameSet) (xs ys : List Bytes) → xs ≡ ys → Sees old new xs → Sees old new ys
sees_as old new xs ys same sees = subst (λ zs. Sees old new zs) same sees

-- some names more
pub rows_more : (row : Bytes → List Refusal) (old new : NameSet) (xs ys zs : List Bytes) (whole done now : List Refusal) → Sees old new xs → zs ≡ xs ++ ys → whole ≡ done ++ new_rows row (names_in old) zs
    → now ≡ done ++ new_rows row (names_in old) xs → whole ≡ now ++ new_rows row (names_in new) ys
rows_more row old new xs ys zs whole done now sees both so_far put =
    so_far ∙ ap (λ rs. done ++ rs) (ap (new_rows row (names_in old)) both ∙ new_both row (names_in old) xs ys)
    ∙ ap (λ rs. done ++ (new_rows row (names_in old) xs ++ rs)) (new_alike row (xs ++ names_in old) (names_in new) ys (λ q. among_both q xs (names_in old) ∙ sym (sees.has q)))
    ∙ sym (append_assoc done (new_rows row (names_in old) xs) (new_rows row (names_in new) ys)) ∙ ap (λ rs. rs ++ new_rows row (names_in new) ys) (sym put)

or_between : (a b c : Bool) → ((a || b) || c) ≡ (b || (a || c))
or_between true true c = refl
or_between true false c = refl
or_between false true c = refl
or_between false false c = refl

pub has_more : (old new : NameSet) (q : Bytes) (xs ys zs : List Bytes) (whole : Bool) → Sees old new xs → zs ≡ xs ++ ys → whole ≡ (is_among q zs || is_among q (names_in old))
    → whole ≡ (is_among q ys || is_among q (names_in new))
has_more old new q xs ys zs whole sees both so_far =
    so_far ∙ ap (λ b. b || is_among q (names_in old)) (ap (is_among q) both ∙ among_both q xs ys) ∙ or_between (is_among q xs) (is_among q ys) (is_among q (names_in old))
    ∙ ap (λ b. is_among q ys || b) (sym (sees.has q))

pub has_end : (q : Bytes) (xs : List Bytes) (b whole : Bool) → xs ≡ [] → whole ≡ (is_among q xs || b) → b ≡ whole
has_end q xs b whole none so_far = sym (so_far ∙ ap (λ ys. is_among q ys || b) none ∙ ap (λ c. c || b) (among_none q))

pub rows_end : (row : Bytes → List Refusal) (seen xs : List Bytes) (whole done : List Refusal) → xs ≡ [] → whole ≡ done ++ new_rows row seen xs → done ≡ whole
rows_end row seen xs whole done none so_far = sym (so_far ∙ ap (λ ys. done ++ new_rows row seen ys) none ∙ sym (rows_none row seen done))

-- statement by statement
rows_alike : (u : WrittenUnit) (seen other : List Bytes) (ss : List Stmt) → ((q : Bytes) → is_among q seen ≡ is_among q other) → statements_rows u seen ss ≡ statements_rows u other ss
unfolding statements_rows
rows_alike u seen other [] same = refl
rows_alike u seen other (s ∷ ss) same =
    ap (λ rs. rs ++ statements_rows u (statement_names u s ++ seen) ss) (new_alike (row_at u s) seen other (statement_names u s) same)
    ∙ ap (λ rs. new_rows (row_at u s) other (statement_names u s) ++ rs)
    (rows_alike u (statement_names u s ++ seen) (statement_names u s ++ other) ss
    (λ q. among_both q (statement_names u s) seen ∙ ap (λ b. is_among q (statement_names u s) || b) (same q) ∙ sym (among_both q (statement_names u s) other)))

pub statements_step : (u : WrittenUnit) (old new : NameSet) (s : Stmt) (ss : List Stmt) (whole done now : List Refusal) → Sees old new (statement_names u s)
    → whole ≡ done ++ statements_rows u (names_in old) (s ∷ ss) → now ≡ done ++ new_rows (row_at u s) (names_in old) (statement_names u s)
    → whole ≡ now ++ statements_rows u (names_in new) ss
unfolding statements_rows
statements_step u old new s ss whole done now sees so_far put =
    so_far
    ∙ ap (λ rs. done ++ (new_rows (row_at u s) (names_in old) (statement_names u s) ++ rs))
    (rows_alike u (statement_names u s ++ names_in old) (names_in new) ss (λ q. among_both q (statement_names u s) (names_in old) ∙ sym (sees.has q)))
    ∙ sym (append_assoc done (new_rows (row_at u s) (names_in old) (statement_names u s)) (statements_rows u (names_in new) ss))
    ∙ ap (λ rs. rs ++ statements_rows u (names_in new) ss) (sym put)

pub statements_none : (u : WrittenUnit) (seen : List Bytes) → statements_rows u seen [] ≡ []
unfolding statements_rows
statements_none u seen = refl

typed_by : (b : Bool) (x : Bytes) (t : TypedName) (ts : List TypedName) → b ≡ bytes_eq x t.item.name → is_some (type_among x ts) ≡ is_among x (map (λ (s : TypedName). s.item.name) ts)
    → is_some (if b then Some t else type_among x ts) ≡ (bytes_eq x t.item.name || is_among x (map (λ (s : TypedName). s.item.name) ts))
typed_by true x t ts is later = ap (λ c. c || is_among x (map (λ (s : TypedName). s.item.name) ts)) is
typed_by false x t ts is later = later ∙ ap (λ c. c || is_among x (map (λ (s : TypedName). s.item.name) ts)) is

-- WHICH NAMES ARE DECLARED
typed_is : (x : Bytes) (ts : List TypedName) → is_some (type_among x ts) ≡ is_among x (map (λ (t : TypedName). t.item.name) ts)
unfolding type_among is_among
typed_is x [] = refl
typed_is x (t ∷ ts) = typed_by (bytes_eq t.item.name x) x t ts (bytes_eq_flip t.item.name x) (typed_is x ts)

typed_from : (ss : List Stmt) → from_all typed_names ss ≡ map (λ (t : TypedName). t.item.name) (from_all typed_in ss)
unfolding from_all typed_names
typed_from [] = refl
typed_from (s ∷ ss) =
    ap (λ xs. map (λ (t : TypedName). t.item.name) (typed_in s.body) ++ xs) (typed_from ss) ∙ sym (map-append (λ (t : TypedName). t.item.name) (typed_in s.body) (from_all typed_in ss))

has_spec : (b : Bool) (spec : TypeSpec) (basic : Basic) → spec.basic ≡ basic → is_some (if b then (elim basic [ Untyped ↦ None | _ ↦ Some spec ]) else None) ≡ (is_typed basic && b)
unfolding is_typed
has_spec true spec Untyped same = refl
has_spec true spec Integer same = refl
has_spec true spec Logical same = refl
has_spec true spec Character same = refl
has_spec false spec Untyped same = refl
has_spec false spec Integer same = refl
has_spec false spec Logical same = refl
has_spec false spec Character same = refl

none_typed : (b : Bool) → (b && false) ≡ false
none_typed true = refl
none_typed false = refl

heads_by : (k : UnitKind) (n : Option Bytes) (u : WrittenUnit) (x : Bytes) → is_some (heading_type (record u { kind = k; name = n }) x None) ≡ heads (record u { kind = k; name = n }) x
unfolding heading_type heads is_name
heads_by kind.Main n u x = refl
heads_by kind.Subroutine n u x = refl
heads_by kind.BlockData n u x = refl
heads_by (kind.Function spec) None u x = sym (none_typed (is_typed spec.basic))
heads_by (kind.Function spec) (Some y) u x = has_spec (bytes_eq x y) spec spec.basic refl

declared_by : (u : WrittenUnit) (x : Bytes) (o : Option TypedName) → (is_some o || is_some (heading_type u x o)) ≡ (is_some o || heads u x)
unfolding heading_type
declared_by u x (Some t) = refl
declared_by u x None = heads_by u.kind u.name u x

pub declared_is : (u : WrittenUnit) (x : Bytes) (typed : Bool) → typed ≡ is_among x (from_all typed_names u.statements) → (typed || heads u x) ≡ is_declared u x
unfolding is_declared
declared_is u x typed is =
    ap (λ b. b || heads u x) (is ∙ ap (is_among x) (typed_from u.statements) ∙ sym (typed_is x (from_all typed_in u.statements)))
    ∙ sym (declared_by u x (type_among x (from_all typed_in u.statements)))

-- ROWS OF ONE NAME
head_by : (u : WrittenUnit) (x : Bytes) (b : Bool) → stands u x ≡ b → head_row u x ≡ map (λ (k : Kind). record { file = u.file; card = u.card; kind = k }) (unless b NameNotDeclared)
unfolding head_row
head_by u x b is = ap (λ c. map (λ (k : Kind). record { file = u.file; card = u.card; kind = k }) (unless c NameNotDeclared)) is

pub head_none : (u : WrittenUnit) (x : Bytes) (found : List Refusal) → stands u x ≡ true → found ≡ found ++ head_row u x
unfolding unless
head_none u x found is = sym (ap (λ rs. found ++ rs) (head_by u x true is) ∙ append-nil found)

pub head_one : (u : WrittenUnit) (x : Bytes) (found after : List Refusal) → stands u x ≡ false → after ≡ found ++ record { file = u.file; card = u.card; kind = NameNotDeclared } ∷ [] → after ≡ found ++ head_row u x
unfolding unless
head_one u x found after is put = put ∙ sym (ap (λ rs. found ++ rs) (head_by u x false is))

-- DEFINITIONS
pub none-ImplicitNone : is_implicit_none body.ImplicitNone ≡ true
unfolding is_implicit_none layer_of
none-ImplicitNone = refl

pub none-other : (b : Body) → (b ≡ body.ImplicitNone → ⊥) → false ≡ is_implicit_none b
unfolding is_implicit_none layer_of
none-other whole.ImplicitNone h = absurd (h refl)
none-other (IfOne' e s (more_of-Body b r)) h = refl
none-other _ h = refl

pub ruleset implicit_none_forms = (none-ImplicitNone, none-other)

stood_both : (s : Stmt) (ks ls : List Kind) → stood s (ks ++ ls) ≡ stood s ks ++ stood s ls
unfolding stood
stood_both s ks ls = map-append (λ k. record { file = s.file; card = s.card; kind = k }) ks ls

pub dummies_step : (u : WrittenUnit) (s : Stmt) (x : Bytes) (xs : List Bytes)
    → stood s (undeclared_dummies u (x ∷ xs)) ≡ stood s (unless (is_declared u x) NameNotDeclared) ++ stood s (undeclared_dummies u xs)
unfolding undeclared_dummies
dummies_step u s x xs = stood_both s (unless (is_declared u x) NameNotDeclared) (undeclared_dummies u xs)

pub dummies_none : (u : WrittenUnit) (s : Stmt) → stood s (undeclared_dummies u []) ≡ []
unfolding undeclared_dummies stood
dummies_none u s = refl

applied_by : (u : WrittenUnit) (h : Heading) (e : Expr) (o : Option Bytes) → h.applied ≡ o → is_some o ≡ true → undeclared_in_definitions u (definition_by h e) ≡ undeclared_dummies u h.arguments
unfolding undeclared_in_definitions definition_by
applied_by u h e None is there = absurd (cc)
applied_by u h e (Some x) is there =
    ap (λ o. undeclared_in_definitions u (definition_by (record h { applied = o }) e)) is ∙ append-nil (undeclared_dummies u h.arguments)

defines_applied : (arrays : List Bytes) (h : Heading) (o : Option Bytes) → h.applied ≡ o → defines_function arrays h ≡ true → is_some o ≡ true
unfolding defines_function
defines_applied arrays h (Some x) is defines = refl
defines_applied arrays h None is defines = absurd (let e : defines_function arrays (record h { applied = None }) ≡ true = ap (λ o. defines_function arrays (record h { applied = o })) (sym is) ∙ defines in cc)

definition_if : (u : WrittenUnit) (h : Heading) (e : Expr) (b : Bool) → defines_function (arrays_of u) h ≡ b
    → undeclared_in_definitions u (if b then definition_by h e else []) ≡ (if b then undeclared_dummies u h.arguments else [])
unfolding undeclared_in_definitions
definition_if u h e true defines = applied_by u h e h.applied refl (defines_applied (arrays_of u) h h.applied refl defines)
definition_if u h e false defines = refl

pub definition_Assign : (u : WrittenUnit) (target e : Expr) → undeclared_in_definitions u (definitions_in (arrays_of u) (body.Assign target e)) ≡ definition_rows u (heading_of target)
unfolding definitions_in layer_of definition_rows
definition_Assign u target e = definition_if u (heading_of target) e (defines_function (arrays_of u) (heading_of target)) refl

pub definition_other : (u : WrittenUnit) (b : Body) → ((target e : Expr) → b ≡ body.Assign target e → ⊥) → undeclared_in_definitions u (definitions_in (arrays_of u) b) ≡ []
unfolding definitions_in layer_of undeclared_in_definitions
definition_other u (whole.Assign target e) h = absurd (h target e refl)
definition_other u (IfOne' e s (more_of-Body b r)) h = refl
definition_other u _ h = refl

pub definitions_step : (u : WrittenUnit) (s : Stmt) (ss : List Stmt)
    → undeclared_definition_rows u (s ∷ ss) ≡ stood s (undeclared_in_definitions u (definitions_in (arrays_of u) s.body)) ++ undeclared_definition_rows u ss
unfolding undeclared_definition_rows
definitions_step u s ss = refl

pub definitions_none : (u : WrittenUnit) → undeclared_definition_rows u [] ≡ []
unfolding undeclared_definition_rows
definitions_none u = refl

pub rows_undefined : (u : WrittenUnit) (s : Stmt) (arrays : List Bytes) (h : Heading) (b : Bool) (found : List Refusal) → arrays ≡ arrays_of u → b ≡ defines_function arrays h → b ≡ false
    → found ≡ found ++ stood s (definition_rows u h)
unfolding definition_rows stood
rows_undefined u s arrays h b found is test so =
    sym (ap (λ c. found ++ stood s (if c then undeclared_dummies u h.arguments else [])) (sym (test ∙ ap (λ xs. defines_function xs h) is) ∙ so) ∙ append-nil found)

pub rows_defined : (u : WrittenUnit) (s : Stmt) (arrays : List Bytes) (h : Heading) (b : Bool) (ys : List Bytes) → arrays ≡ arrays_of u → b ≡ defines_function arrays h → b ≡ true → ys ≡ h.arguments
    → stood s (undeclared_dummies u ys) ≡ stood s (definition_rows u h)
unfolding definition_rows
rows_defined u s arrays h b ys is test so arguments =
    ap (λ zs. stood s (undeclared_dummies u zs)) arguments
    ∙ sym (ap (λ c. stood s (if c then undeclared_dummies u h.arguments else [])) (sym (test ∙ ap (λ xs. defines_function xs h) is) ∙ so))

pub rows_other : (u : WrittenUnit) (s : Stmt) (found : List Refusal) → ((target e : Expr) → s.body ≡ body.Assign target e → ⊥)
    → found ≡ found ++ stood s (undeclared_in_definitions u (definitions_in (arrays_of u) s.body))
unfolding stood
rows_other u s found other = sym (ap (λ ks. found ++ stood s ks) (definition_other u s.body other) ∙ append-nil found)

-- EQUATIONS of single rows
one_of : (row : Bytes → List Refusal) (seen : List Bytes) (x : Bytes) (b : Bool) → b ≡ false → row x ≡ (if b then [] else row x)
one_of row seen x false is = refl
one_of row seen x true is = absurd (cc)

pub row_new_is : (row : Bytes → List Refusal) (seen : List Bytes) (x : Bytes) → is_among x seen ≡ false → row x ≡ new_rows row seen (x ∷ [])
row_new_is row seen x new = one_of row seen x (is_among x seen) new ∙ sym (one_new row seen x)

pub row_head_is : (u : WrittenUnit) (s : Stmt) (x : Bytes) → is_among x (own_names u ++ all_dummies u) ≡ true → head_row u x ≡ row_at u s x
unfolding row_at
row_head_is u s x head = sym (ap (λ b. if b then head_row u x else stood s (unless (stands u x) NameNotDeclared)) head)

pub row_here_is : (u : WrittenUnit) (s : Stmt) (x : Bytes) (b : Bool) → b ≡ stands u x → is_among x (own_names u ++ all_dummies u) ≡ false → stood s (unless b NameNotDeclared) ≡ row_at u s x
unfolding row_at
row_here_is u s x b is other =
    ap (λ c. stood s (unless c NameNotDeclared)) is ∙ sym (ap (λ c. if c then head_row u x else stood s (unless (stands u x) NameNotDeclared)) other)

pub own_some : (u : WrittenUnit) (o : Option Bytes) (x : Bytes) → o ≡ Some x → head_row u x ≡ own_rows u o
unfolding own_rows
own_some u o x is = ap (own_rows u) (sym is)

pub own_none : (u : WrittenUnit) (o : Option Bytes) (found : List Refusal) → o ≡ None → found ≡ found ++ own_rows u o
unfolding own_rows
own_none u o found is = sym (ap (λ p. found ++ own_rows u p) is ∙ append-nil found)

-- LOOPS over dummy arguments and uses
rest_is : {X : Type 0} (xs : List X) (i : ℕ) (x d : X) → i < length xs → x ≡ get_or xs i d → drop i xs ≡ x ∷ drop (i + 1) xs
rest_is xs i x d h is = drop-cons xs i d h ∙ ap (λ y. y ∷ drop (suc i) xs) (sym is) ∙ ap (λ n. x ∷ drop n xs) (let e : suc i ≡ i + 1 = omega arith in e)

pub dummies_rest : (ds : List DummyArgument) (i : ℕ) (d e : DummyArgument) → i < length ds → d ≡ get_or ds i e → named_dummies (drop i ds) ≡ dummy_name d ++ named_dummies (drop (i + 1) ds)
dummies_rest ds i d e h is = ap named_dummies (rest_is ds i d e h is) ∙ named_step d (drop (i + 1) ds)

pub dummies_over : (ds : List DummyArgument) (i : ℕ) → length ds ≤ i → named_dummies (drop i ds) ≡ []
dummies_over ds i h = ap named_dummies (drop_all i ds h) ∙ named_none

uses_step : (v : Seen) (vs : List Seen) → use_names (used_in (v ∷ vs)) ≡ v.name.now ∷ [] ++ use_names (used_in vs)
unfolding use_names use_of
uses_step v vs = refl

uses_none : use_names (used_in []) ≡ []
unfolding use_names
uses_none = refl

pub uses_rest : (vs : List Seen) (i : ℕ) → i < length vs → use_names (used_in (drop i vs)) ≡ (get_or vs i no_use).name.now ∷ [] ++ use_names (used_in (drop (i + 1) vs))
uses_rest vs i h = ap (λ (ws : List Seen). use_names (used_in ws)) (rest_is vs i (get_or vs i no_use) no_use h refl) ∙ uses_step (get_or vs i no_use) (drop (i + 1) vs)

pub uses_over : (vs : List Seen) (i : ℕ) → length vs ≤ i → use_names (used_in (drop i vs)) ≡ []
uses_over vs i h = ap (λ (ws : List Seen). use_names (used_in ws)) (drop_all i vs h) ∙ uses_none

pub statements_rest : (u : WrittenUnit) (seen : List Bytes) (ss : List Stmt) (i : ℕ) (s d : Stmt) → i < length ss → s ≡ get_or ss i d → statements_rows u seen (drop i ss) ≡ statements_rows u seen (s ∷ drop (i + 1) ss)
statements_rest u seen ss i s d h is = ap (statements_rows u seen) (rest_is ss i s d h is)

pub statements_over : (u : WrittenUnit) (seen : List Bytes) (ss : List Stmt) (i : ℕ) (whole done : List Refusal) → length ss ≤ i → whole ≡ done ++ statements_rows u seen (drop i ss) → done ≡ whole
statements_over u seen ss i whole done h so_far =
    sym (so_far ∙ ap (λ ts. done ++ statements_rows u seen ts) (drop_all i ss h) ∙ ap (λ rs. done ++ rs) (statements_none u seen) ∙ append-nil done)

-- what two calls tell
pub sees_ok : {A E : Type 0} (r : Result A E) (old new : NameSet) (xs ys : List Bytes) → xs ≡ ys → OnOk r (Sees old new xs) → OnOk r (Sees old new ys)
sees_ok (Ok x) old new xs ys same sees = sees_as old new xs ys same sees
sees_ok (Err e) old new xs ys same sees = sees

-- ALL NAMES
seen_dummies : (u : WrittenUnit) (set : NameSet) (first : List Bytes) (start : NameSet) → names_in start ≡ [] → Sees start set first → (q : Bytes) → is_among q (names_in set) ≡ is_among q first
seen_dummies u set first start none sees q = sees.has q ∙ ap (λ xs. is_among q first || is_among q xs) none ∙ ap (λ b. is_among q first || b) (among_none q) ∙ or_none (is_among q first)

pub all_rows : {A E : Type 0} (r : Result A E) (u : WrittenUnit) (start seen : NameSet) (found one two three : List Refusal) → names_in start ≡ [] → Sees start seen (named_dummies u.dummies)
    → one ≡ found ++ own_rows u u.name → two ≡ one ++ new_rows (head_row u) (names_in start) (named_dummies u.dummies) → OnOk r (three ≡ two ++ statements_rows u (names_in seen) u.statements)
    → OnOk r (three ≡ found ++ undeclared_name_rows u (all_names u))
all_rows (Ok x) u start seen found one two three none sees first second third =
    third ∙ ap (λ rs. two ++ rs) (rows_alike u (names_in seen) (named_dummies u.dummies) u.statements (seen_dummies u seen (named_dummies u.dummies) start none sees))
    ∙ ap (λ rs. rs ++ statements_rows u (named_dummies u.dummies) u.statements)
    (second ∙ ap (λ names. one ++ new_rows (head_row u) names (named_dummies u.dummies)) none ∙ ap (λ rs. rs ++ new_rows (head_row u) [] (named_dummies u.dummies)) first)
    ∙ append_assoc (found ++ own_rows u u.name) (new_rows (head_row u) [] (named_dummies u.dummies)) (statements_rows u (named_dummies u.dummies) u.statements)
    ∙ append_assoc found (own_rows u u.name) (new_rows (head_row u) [] (named_dummies u.dummies) ++ statements_rows u (named_dummies u.dummies) u.statements)
    ∙ ap (λ rs. found ++ rs) (sym (names_law u))
all_rows (Err e) u start seen found one two three none sees first second third = third

-- the names of a statement
pub statement_names_are : (u : WrittenUnit) (s : Stmt) (arrays : List Bytes) (us : List Use) → arrays ≡ arrays_of u → us ≡ [] ++ uses_of_body arrays s.body → use_names us ≡ statement_names u s
unfolding statement_names
statement_names_are u s arrays us is found = ap use_names (found ∙ ap (λ xs. uses_of_body xs s.body) is)

pub or_there : (a b : Bool) → a ≡ true → true ≡ (a || b)
or_there true b is = refl
or_there false b is = absurd (cc)

pub or_other : (a b c : Bool) → a ≡ false → c ≡ b → c ≡ (a || b)
or_other false b c is same = same
or_other true b c is same = absurd (cc)

-- what stands
stands_is : (u : WrittenUnit) (x : Bytes) → stands u x ≡ (not (class_has_type (is_referenced u x) (class_of u (unit_uses u) x)) || is_declared u x)
unfolding stands
stands_is u x = refl

typed_so : (u : WrittenUnit) (x : Bytes) (r : Bool) (k : Class) → r ≡ is_used_as with_list x (unit_uses u) → k ≡ class_of u (unit_uses u) x
    → class_has_type r k ≡ class_has_type (is_referenced u x) (class_of u (unit_uses u) x)
unfolding is_referenced
typed_so u x r k one two = ap (λ b. class_has_type b k) one ∙ ap (class_has_type (is_used_as with_list x (unit_uses u))) two

pub not_typed : (u : WrittenUnit) (x : Bytes) (r t : Bool) (k : Class) → r ≡ is_used_as with_list x (unit_uses u) → k ≡ class_of u (unit_uses u) x → t ≡ class_has_type r k → t ≡ false
    → true ≡ stands u x
not_typed u x r t k one two is none =
    or_there (not (class_has_type (is_referenced u x) (class_of u (unit_uses u) x))) (is_declared u x) (ap not (sym (typed_so u x r k one two) ∙ sym is ∙ none)) ∙ sym (stands_is u x)

pub typed_declared : (u : WrittenUnit) (x : Bytes) (r t c : Bool) (k : Class) → r ≡ is_used_as with_list x (unit_uses u) → k ≡ class_of u (unit_uses u) x → t ≡ class_has_type r k → t ≡ true
    → c ≡ is_declared u x → c ≡ stands u x
typed_declared u x r t c k one two is so declared =
    or_other (not (class_has_type (is_referenced u x) (class_of u (unit_uses u) x))) (is_declared u x) c (ap not (sym (typed_so u x r k one two) ∙ sym is ∙ so)) declared ∙ sym (stands_is u x)

abbrev pub no_name : Bor (List ℕ)
no_name = record { ref_ptr = (0, 0); now = [] }
