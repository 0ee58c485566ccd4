-- The names of units of sums of names and constants that are assigned or printed: each is a variable of type INTEGER.
-- ANSI X3.9-1978, sections 4.1.2 (types by the first letter), 8 (specification statements) and 18 (names).
use Rattle.std.specs.Prelude.{◌≡◌, ℕ, suc, ℤ, Bool, true, false, ◌||◌, ◌&&◌, List, [], ◌∷◌, ◌++◌, map, bytes_eq, if◌then◌else◌}
use Rattle.std.proofs.Common.{refl, sym, subst}
use Rattle.f_tree.specs.declared.names.Class.{Class}
use Rattle.f_tree.specs.declared.names.Class.TheVariants as class
use Rattle.f_tree.specs.declared.expressions.Expr.{Expr}
use Rattle.f_tree.specs.declared.expressions.Expr as tree
use Rattle.f_tree.specs.declared.expressions.BinaryOp.TheVariants as operator
use Rattle.f_tree.specs.declared.statements.Body.{Body}
use Rattle.f_tree.specs.declared.statements.Body as statement
use Rattle.f_tree.specs.declared.statements.ListItem as list
use Rattle.f_tree.specs.declared.statements.Stmt.{Stmt}
use Rattle.f_tree.specs.Folds.{folds_opened}
use Rattle.f_tree.specs.Values.{Bytes}
use Rattle.f_tree.specs.SimplePrograms.{IsName, printed}
use Rattle.f_tree.specs.SimplePrograms.{main_program}
use Rattle.f_tree.specs.Uses as uses
use Rattle.f_tree.specs.Uses.{Use, Manner, Alone, is_among, uses_of, uses_of_body, uses_of_statements, layer_uses, uses_opened}
use Rattle.f_tree.specs.Attributes.{from_all, typed_in, shaped_in, constants_in, implicit_in, external_in, intrinsic_in, entry_names_in, entry_dummies_in, assigned_with_list_in, Shaped, Signs, dimensions_among, is_used_as, with_list, called, own_class, class_by, own_names, all_dummies, signs_of, class_of, is_not_empty, attributes_opened}
use Rattle.f_tree.specs.Lines.{entry_in, entries_from}
use Rattle.fortran_laws.proofs.FoldLaws.{fold-Binary}

-- a sum of names of type INTEGER and constants
pub data IsSum : Expr → Type 0 where
  a_name : (e : Expr) (x : Bytes) → e ≡ tree.Name x → IsName x → IsSum e
  a_constant : (e : Expr) (z : ℤ) → e ≡ tree.Int z → IsSum e
  a_sum : (e a b : Expr) → e ≡ tree.Binary operator.Plus a b → IsSum a → IsSum b → IsSum e

-- a statement that assigns a sum to a name, prints a sum, or ends the unit
pub data IsSimple : Body → Type 0 where
  assigns : (b : Body) (x : Bytes) (e : Expr) → b ≡ statement.Assign (tree.Name x) e → IsName x → IsSum e → IsSimple b
  prints : (b : Body) (e : Expr) → b ≡ printed (list.Item e ∷ []) → IsSum e → IsSimple b
  ends : (b : Body) → b ≡ statement.End → IsSimple b

-- such statements, of which the last is END, and no other
pub data AreSimple : List Stmt → Type 0 where
  the_last : (s : Stmt) → s.body ≡ statement.End → AreSimple (s ∷ [])
  before_last : (s : Stmt) (ss : List Stmt) → IsSimple s.body → (s.body ≡ statement.End → ⊥) → AreSimple ss → AreSimple (s ∷ ss)

-- what holds of each of the three statements holds of a simple one
pub by_statement : (P : Body → Type 0) → ((x : Bytes) (e : Expr) → IsName x → IsSum e → P (statement.Assign (tree.Name x) e)) →
    ((e : Expr) → IsSum e → P (printed (list.Item e ∷ []))) → P statement.End → (b : Body) → IsSimple b → P b
by_statement P assigned written ended b (assigns _ x e same name sum) = subst P (sym same) (assigned x e name sum)
by_statement P assigned written ended b (prints _ e same sum) = subst P (sym same) (written e sum)
by_statement P assigned written ended b (ends _ same) = subst P (sym same) ended

-- none of them declares anything
pub no_constants : (b : Body) → IsSimple b → constants_in b ≡ []
unfolding constants_in folds_opened printed
no_constants b is = by_statement (λ b. constants_in b ≡ []) (λ x e n s. refl) (λ e s. refl) refl b is

pub no_types : (b : Body) → IsSimple b → typed_in b ≡ []
unfolding typed_in folds_opened printed
no_types b is = by_statement (λ b. typed_in b ≡ []) (λ x e n s. refl) (λ e s. refl) refl b is

pub no_shapes : (b : Body) → IsSimple b → shaped_in b ≡ []
unfolding shaped_in folds_opened printed
no_shapes b is = by_statement (λ b. shaped_in b ≡ []) (λ x e n s. refl) (λ e s. refl) refl b is

pub no_implicit_types : (b : Body) → IsSimple b → implicit_in b ≡ []
unfolding implicit_in folds_opened printed
no_implicit_types b is = by_statement (λ b. implicit_in b ≡ []) (λ x e n s. refl) (λ e s. refl) refl b is

pub no_externals : (b : Body) → IsSimple b → external_in b ≡ []
unfolding external_in folds_opened printed
no_externals b is = by_statement (λ b. external_in b ≡ []) (λ x e n s. refl) (λ e s. refl) refl b is

pub no_intrinsics : (b : Body) → IsSimple b → intrinsic_in b ≡ []
unfolding intrinsic_in folds_opened printed
no_intrinsics b is = by_statement (λ b. intrinsic_in b ≡ []) (λ x e n s. refl) (λ e s. refl) refl b is

pub no_entry_names : (b : Body) → IsSimple b → entry_names_in b ≡ []
unfolding entry_names_in folds_opened printed
no_entry_names b is = by_statement (λ b. entry_names_in b ≡ []) (λ x e n s. refl) (λ e s. refl) refl b is

pub no_entry_dummies : (b : Body) → IsSimple b → entry_dummies_in b ≡ []
unfolding entry_dummies_in folds_opened printed
no_entry_dummies b is = by_statement (λ b. entry_dummies_in b ≡ []) (λ x e n s. refl) (λ e s. refl) refl b is

pub no_entries : (i : ℕ) (b : Body) → IsSimple b → entry_in i b ≡ []
unfolding entry_in folds_opened printed
no_entries i b is = by_statement (λ b. entry_in i b ≡ []) (λ x e n s. refl) (λ e s. refl) refl b is

-- nor assigns to a name with a list
pub no_lists : (b : Body) → IsSimple b → assigned_with_list_in b ≡ []
unfolding assigned_with_list_in folds_opened uses_opened attributes_opened printed
no_lists b is = by_statement (λ b. assigned_with_list_in b ≡ []) (λ x e n s. refl) (λ e s. refl) refl b is

-- what no statement has, the statements have not
both_empty : {A : Type 0} (xs ys : List A) → xs ≡ [] → ys ≡ [] → xs ++ ys ≡ []
both_empty xs ys one other = subst (λ zs. zs ++ ys ≡ []) (sym one) other

pub none_in : {A : Type 0} (f : Body → List A) → ((b : Body) → IsSimple b → f b ≡ []) → (ss : List Stmt) → AreSimple ss → from_all f ss ≡ []
unfolding from_all
none_in {A = A} f none [] simple = elim simple [ ]
none_in f none (s ∷ ss) (the_last _ same) = both_empty (f s.body) [] (none s.body (ends s.body same)) refl
none_in f none (s ∷ ss) (before_last _ _ is apart simple) = both_empty (f s.body) (from_all f ss) (none s.body is) (none_in f none ss simple)

pub no_entries_from : (i : ℕ) (ss : List Stmt) → AreSimple ss → entries_from i ss ≡ []
unfolding entries_from
no_entries_from i [] simple = elim simple [ ]
no_entries_from i (s ∷ ss) (the_last _ same) = both_empty (entry_in i s.body) [] (no_entries i s.body (ends s.body same)) refl
no_entries_from i (s ∷ ss) (before_last _ _ is apart simple) =
    both_empty (entry_in i s.body) (entries_from (suc i) ss) (no_entries i s.body is) (no_entries_from (suc i) ss simple)

-- each name stands alone, and begins with a letter from I to N
pub data AreAlone : List Use → Type 0 where
  no_use : AreAlone []
  one_use : (u : Use) (us : List Use) → u.manner ≡ Alone → IsName u.name → AreAlone us → AreAlone (u ∷ us)

pub both_alone : (us vs : List Use) → AreAlone us → AreAlone vs → AreAlone (us ++ vs)
both_alone [] vs no_use others = others
both_alone (u ∷ us) vs (one_use _ _ manner name alone) others = one_use u (us ++ vs) manner name (both_alone us vs alone others)

pub uses_of_sum : (a b : Expr) → uses_of (tree.Binary operator.Plus a b) ≡ uses_of a ++ uses_of b
unfolding uses_of layer_uses
uses_of_sum a b = fold-Binary layer_uses operator.Plus a b

name_alone : (x : Bytes) → IsName x → AreAlone (uses_of (tree.Name x))
unfolding uses_opened folds_opened
name_alone x name = one_use (record { name = x; manner = Alone }) [] refl name no_use

constant_alone : (z : ℤ) → AreAlone (uses_of (tree.Int z))
unfolding uses_opened folds_opened
constant_alone z = no_use

pub sum_alone : (e : Expr) → IsSum e → AreAlone (uses_of e)
sum_alone e (a_name _ x same name) = subst (λ e. AreAlone (uses_of e)) (sym same) (name_alone x name)
sum_alone e (a_constant _ z same) = subst (λ e. AreAlone (uses_of e)) (sym same) (constant_alone z)
sum_alone e (a_sum _ a b same one other) =
    subst (λ e. AreAlone (uses_of e)) (sym same)
    (subst AreAlone (sym (uses_of_sum a b)) (both_alone (uses_of a) (uses_of b) (sum_alone a one) (sum_alone b other)))

pub uses_of_assigned : (arrays : List Bytes) (x : Bytes) (e : Expr) → uses_of_body arrays (statement.Assign (tree.Name x) e) ≡ uses_of (tree.Name x) ++ uses_of e
unfolding uses_opened folds_opened
uses_of_assigned arrays x e = refl

pub uses_of_printed : (arrays : List Bytes) (e : Expr) → uses_of_body arrays (printed (list.Item e ∷ [])) ≡ uses_of e ++ []
unfolding uses_opened folds_opened printed
uses_of_printed arrays e = refl

end_alone : (arrays : List Bytes) → AreAlone (uses_of_body arrays statement.End)
unfolding uses_opened folds_opened
end_alone arrays = no_use

pub body_alone : (arrays : List Bytes) (b : Body) → IsSimple b → AreAlone (uses_of_body arrays b)
body_alone arrays b is = by_statement (λ b. AreAlone (uses_of_body arrays b))
    (λ x e name sum. subst AreAlone (sym (uses_of_assigned arrays x e)) (both_alone (uses_of (tree.Name x)) (uses_of e) (name_alone x name) (sum_alone e sum)))
    (λ e sum. subst AreAlone (sym (uses_of_printed arrays e)) (both_alone (uses_of e) [] (sum_alone e sum) no_use)) (end_alone arrays) b is

pub statements_alone : (arrays : List Bytes) (ss : List Stmt) → AreSimple ss → AreAlone (uses_of_statements arrays ss)
unfolding uses_of_statements uses.all_of
statements_alone arrays [] simple = elim simple [ ]
statements_alone arrays (s ∷ ss) (the_last _ same) = both_alone (uses_of_body arrays s.body) [] (body_alone arrays s.body (ends s.body same)) no_use
statements_alone arrays (s ∷ ss) (before_last _ _ is apart simple) =
    both_alone (uses_of_body arrays s.body) (uses_of_statements arrays ss) (body_alone arrays s.body is) (statements_alone arrays ss simple)

-- so no name has a list, and none is called
neither : (a b c : Bool) → b ≡ false → c ≡ false → ((a && b) || c) ≡ false
neither true b c one other = subst (λ z. (z || c) ≡ false) (sym one) other
neither false b c one other = other

pub not_used_as : (test : Manner → Bool) → test Alone ≡ false → (x : Bytes) (us : List Use) → AreAlone us → is_used_as test x us ≡ false
unfolding is_used_as
not_used_as test none x [] no_use = refl
not_used_as test none x (u ∷ us) (one_use _ _ manner name alone) =
    neither (bytes_eq u.name x) (test u.manner) (is_used_as test x us) (subst (λ m. test m ≡ false) (sym manner) none) (not_used_as test none x us alone)

-- a name that no list has
not_among : {A : Type 0} (name : A → Bytes) (x : Bytes) (xs : List A) → xs ≡ [] → is_among x (map name xs) ≡ false
unfolding is_among
not_among name x xs empty = subst (λ ys. is_among x (map name ys) ≡ false) (sym empty) refl

among_none : (x : Bytes) (xs : List Bytes) → xs ≡ [] → is_among x xs ≡ false
unfolding is_among
among_none x xs empty = subst (λ ys. is_among x ys ≡ false) (sym empty) refl

-- a name without any of the signs of another class is stored
pub not_so : {A : Type 0} (b : Bool) (x y z : A) → b ≡ false → y ≡ z → (if b then x else y) ≡ z
not_so b x y z is_false same = subst (λ c. (if c then x else y) ≡ z) (sym is_false) same

pub no_either : (a b : Bool) → a ≡ false → b ≡ false → (a || b) ≡ false
no_either a b one other = subst (λ c. (c || b) ≡ false) (sym one) other

no_both : (a b : Bool) → a ≡ false → (a && b) ≡ false
no_both a b one = subst (λ c. (c && b) ≡ false) (sym one) refl

pub stored_without : (own : Class) (g : Signs) → g.is_constant ≡ false → g.is_dummy ≡ false → g.is_own_name ≡ false → g.is_array ≡ false → g.is_external ≡ false →
    g.is_intrinsic ≡ false → g.has_list ≡ false → g.is_called ≡ false → g.is_assigned_with_list ≡ false → class_by own g ≡ class.Stored
unfolding class_by
stored_without own g constant dummy own_name array external intrinsic has_list is_called assigned =
    not_so g.is_constant _ _ _ constant (not_so g.is_dummy _ _ _ dummy (not_so g.is_own_name _ _ _ own_name (not_so g.is_array _ _ _ array
    (not_so (g.is_external || g.is_called) _ _ _ (no_either g.is_external g.is_called external is_called) (not_so g.is_assigned_with_list _ _ _ assigned
    (not_so (g.is_intrinsic || (g.has_list && g.is_known_function)) _ _ _
    (no_either g.is_intrinsic (g.has_list && g.is_known_function) intrinsic (no_both g.has_list g.is_known_function has_list))
    (not_so g.has_list _ _ _ has_list refl)))))))

-- so is each name of such a unit
pub no_dimensions_among : (x : Bytes) (ds : List Shaped) → ds ≡ [] → dimensions_among x ds ≡ []
unfolding dimensions_among
no_dimensions_among x ds empty = subst (λ es. dimensions_among x es ≡ []) (sym empty) refl

pub stored_class : (file : ℕ) (ss : List Stmt) → AreSimple ss → (us : List Use) → AreAlone us → (x : Bytes) → class_of (main_program file ss) us x ≡ class.Stored
unfolding class_of signs_of main_program all_dummies own_names attributes_opened
stored_class file ss simple us alone x = stored_without (own_class (main_program file ss)) (signs_of (main_program file ss) us x)
    (not_among (λ d. d.name) x (from_all constants_in ss) (none_in constants_in no_constants ss simple))
    (among_none x (from_all entry_dummies_in ss) (none_in entry_dummies_in no_entry_dummies ss simple))
    (among_none x (from_all entry_names_in ss) (none_in entry_names_in no_entry_names ss simple))
    (subst (λ ds. is_not_empty ds ≡ false) (sym (no_dimensions_among x (from_all shaped_in ss) (none_in shaped_in no_shapes ss simple))) refl)
    (among_none x (from_all external_in ss) (none_in external_in no_externals ss simple))
    (among_none x (from_all intrinsic_in ss) (none_in intrinsic_in no_intrinsics ss simple))
    (not_used_as with_list refl x us alone)
    (not_used_as called refl x us alone)
    (among_none x (from_all assigned_with_list_in ss) (none_in assigned_with_list_in no_lists ss simple))
