-- Units of sums of names and constants that are assigned or printed: they are well formed. ANSI X3.9-1978, sections 4.1.2, 10.1 and 12.8.
use Rattle.std.specs.Prelude.{◌≡◌, ℕ, zero, suc, ◌<◌, ℤ, pos, false, List, [], ◌∷◌, ◌++◌, map, length, slice_get, Option, Some, None, is_some, IsTrue}
use Rattle.std.proofs.Common.{refl, sym, ap, ◌∙◌, subst, arith}
use Rattle.f_tree.specs.declared.names.Basic.TheVariants.{Integer}
use Rattle.f_tree.specs.declared.names.Class.TheVariants as class
use Rattle.f_tree.specs.declared.names.Options.{Options}
use Rattle.f_tree.specs.declared.expressions.Expr.{Expr}
use Rattle.f_tree.specs.declared.expressions.Expr as tree
use Rattle.f_tree.specs.declared.expressions.BinaryOp.TheVariants as operator
use Rattle.f_tree.specs.declared.statements.Body.{Body}
use Rattle.f_tree.specs.declared.statements.Body as statement
use Rattle.f_tree.specs.declared.statements.ListItem as list
use Rattle.f_tree.specs.declared.statements.Stmt.{Stmt}
use Rattle.f_tree.specs.Folds.{folds_opened}
use Rattle.f_tree.specs.Values.{Bytes, IsInt}
use Rattle.f_tree.specs.Terms.{Add, Val, At, Between, NoMore, More, terms_opened}
use Rattle.f_tree.specs.Facts.{Attribute, Output, Listed, UnitWord, Item, Done, Before, ToSet, ToBegin, ToEnd, On, Plain, Line, EntryPoint, Facts, Home}
use Rattle.f_tree.specs.SimplePrograms.{printed}
use Rattle.f_tree.specs.SimplePrograms.{main_program}
use Rattle.f_tree.specs.Setting.{IsIn, first_in, later_in}
use Rattle.f_tree.specs.Reading.{valued_only, placed, name_read, layer_read, read, reading_opened}
use Rattle.f_tree.specs.Uses as uses
use Rattle.f_tree.specs.Uses.{Use, Alone, uses_of, uses_of_body, uses_of_statements, uses_opened}
use Rattle.f_tree.specs.Attributes.{is_not_empty, bare, arrays_of}
use Rattle.f_tree.specs.Lines.{Naming, value_of, is_array, array_or, item_of, is_character, assignment, form_of, mark_of, line_of, entries_from, program_of, with_ties, unit_read, lines_opened}
use Rattle.f_tree.specs.Valuing.{elements_of}
use Rattle.f_tree.specs.WellTyped as typed
use Rattle.f_tree.specs.WellTyped.{ValueOf, PlaceOf, IsVariable, is_variable, Typed}
use Rattle.f_tree.specs.WellFormed as formed
use Rattle.f_tree.specs.WellFormed.{unit_sort, IsFormed, IsNest, IsStored, is_dummy, IsWellFormed}
use Rattle.fortran_laws.proofs.FoldLaws.{fold-Binary}
use Rattle.fortran_laws.proofs.SimpleNames as simple
use Rattle.fortran_laws.proofs.SimpleNames.{IsSum, IsSimple, AreSimple, by_statement, no_entries_from, not_so, uses_of_sum, uses_of_assigned, uses_of_printed}
use Rattle.fortran_laws.proofs.SimpleAttributes as attributes
use Rattle.fortran_laws.proofs.SimpleAttributes.{IsInteger, IsPlain, unit_integer, unit_plain}

-- what a list has, it has with another before it or behind it
in_front : {A : Type 0} (a : A) (xs ys : List A) → IsIn a xs → IsIn a (xs ++ ys)
in_front a [] ys among = elim among [ ]
in_front a (x ∷ xs) ys first_in = first_in
in_front a (x ∷ xs) ys (later_in among) = later_in (in_front a xs ys among)

in_back : {A : Type 0} (a : A) (xs ys : List A) → IsIn a ys → IsIn a (xs ++ ys)
in_back a [] ys among = among
in_back a (x ∷ xs) ys among = later_in (in_back a xs ys among)

-- each name that is used is a variable of type INTEGER
abbrev pub AreIntegers : Naming → List Use → Type 0
AreIntegers names us = (u : Use) → IsIn u us → IsInteger (names u.name)

front_integers : (names : Naming) (us vs : List Use) → AreIntegers names (us ++ vs) → AreIntegers names us
front_integers names us vs are u among = are u (in_front u us vs among)

back_integers : (names : Naming) (us vs : List Use) → AreIntegers names (us ++ vs) → AreIntegers names vs
back_integers names us vs are u among = are u (in_back u us vs among)

name_used : (names : Naming) (x : Bytes) → AreIntegers names (uses_of (tree.Name x)) → IsInteger (names x)
unfolding uses_opened folds_opened
name_used names x are = are (record { name = x; manner = Alone }) first_in

-- a stored name is a place that may be read
stored_read : (x : Bytes) (a : Attribute) → a.class ≡ class.Stored → name_read x a ≡ record (placed (At x)) { named = Some x; base = Some x }
unfolding name_read
stored_read x a is = ap (λ k. name_read x (record a { class = k })) is

read_name : (names : Naming) (x : Bytes) → IsInteger (names x) → read names (tree.Name x) ≡ record (placed (At x)) { named = Some x; base = Some x }
unfolding read layer_read folds_opened
read_name names x is = stored_read x (names x) is.class_is

read_constant : (names : Naming) (z : ℤ) → read names (tree.Int z) ≡ valued_only (Val (IsInt z))
unfolding read layer_read folds_opened
read_constant names z = refl

read_sum : (names : Naming) (a b : Expr) → read names (tree.Binary operator.Plus a b) ≡ valued_only (Between Add (read names a).value (read names b).value)
unfolding reading_opened
read_sum names a b = fold-Binary (layer_read names) operator.Plus a b

-- sums are of type INTEGER
variable_is : (c : Facts) (x : Bytes) → IsInteger (c.program.attribute x) → IsVariable c x Integer
unfolding is_variable
variable_is c x is = record { class_is = subst (λ k. IsTrue (is_variable k)) (sym is.class_is) refl; basic_is = is.basic_is }

pub sum_typed : (c : Facts) (count : ℕ) (e : Expr) → IsSum e → AreIntegers c.program.attribute (uses_of e) → Typed c count [] (read c.program.attribute e).value (ValueOf Integer)
unfolding placed valued_only
sum_typed c count e (simple.a_name _ x same name) are =
    let is = name_used c.program.attribute x (subst (λ e. AreIntegers c.program.attribute (uses_of e)) same are) in
    subst (λ e. Typed c count [] (read c.program.attribute e).value (ValueOf Integer)) (sym same)
    (subst (λ r. Typed c count [] r.value (ValueOf Integer)) (sym (read_name c.program.attribute x is))
    (typed.is_fetch [] (At x) Integer typed.integers (typed.is_at [] x Integer (variable_is c x is))))
sum_typed c count e (simple.a_constant _ z same) are =
    subst (λ e. Typed c count [] (read c.program.attribute e).value (ValueOf Integer)) (sym same)
    (subst (λ r. Typed c count [] r.value (ValueOf Integer)) (sym (read_constant c.program.attribute z)) (typed.is_val [] (IsInt z) (ValueOf Integer) (typed.integer z)))
sum_typed c count e (simple.a_sum _ a b same one other) are =
    let names = c.program.attribute in
    let both = subst (AreIntegers c.program.attribute) (uses_of_sum a b) (subst (λ e. AreIntegers c.program.attribute (uses_of e)) same are) in
    subst (λ e. Typed c count [] (read c.program.attribute e).value (ValueOf Integer)) (sym same)
    (subst (λ r. Typed c count [] r.value (ValueOf Integer)) (sym (read_sum c.program.attribute a b))
    (typed.is_between [] Add (read names a).value (read names b).value Integer Integer typed.adds
    (sum_typed c count a one (front_integers names (uses_of a) (uses_of b) both)) (sum_typed c count b other (back_integers names (uses_of a) (uses_of b) both))))

-- an item is the value of its sum
no_array : (a : Attribute) → a.dimensions ≡ [] → is_array a ≡ false
unfolding is_array
no_array a none = ap (λ ds. is_array (record a { dimensions = ds })) none

pub item_of_sum : (names : Naming) (e : Expr) → IsSum e → AreIntegers names (uses_of e) → item_of Output Listed names e ≡ (read names e).value
unfolding item_of array_or value_of placed valued_only
item_of_sum names e (simple.a_name _ x same name) are =
    let is = name_used names x (subst (λ e. AreIntegers names (uses_of e)) same are) in
    subst (λ r. array_or r.value names r.named ≡ r.value) (sym (ap (read names) same ∙ read_name names x is)) (not_so (is_array (names x)) _ _ _ (no_array (names x) is.no_dimensions) refl)
item_of_sum names e (simple.a_constant _ z same) are =
    subst (λ r. array_or r.value names r.named ≡ r.value) (sym (ap (read names) same ∙ read_constant names z)) refl
item_of_sum names e (simple.a_sum _ a b same one other) are =
    subst (λ r. array_or r.value names r.named ≡ r.value) (sym (ap (read names) same ∙ read_sum names a b)) refl

-- the forms of the three statements
pub assigned_form : (names : Naming) (x : Bytes) (e : Expr) → IsInteger (names x) →
    form_of names (statement.Assign (tree.Name x) e) ≡ On ToSet (More (read names e).value (More (At x) NoMore))
unfolding lines_opened uses_opened folds_opened placed
assigned_form names x e is =
    subst (λ r. assignment names r (read names e) ≡ On ToSet (More (read names e).value (More (At x) NoMore))) (sym (read_name names x is))
    (not_so (is_character (names x).basic) _ _ _ (subst (λ basic. is_character basic ≡ false) (sym is.basic_is) refl) refl)

pub printed_form : (names : Naming) (e : Expr) → form_of names (printed (list.Item e ∷ [])) ≡
    On (ToBegin Output Listed (record { words = UnitWord ∷ []; on_error = None; on_end = None }) (Before (Item (item_of Output Listed names e)) Done))
    (More (Val (IsInt (pos 6))) NoMore)
unfolding lines_opened folds_opened printed terms_opened
printed_form names e = refl

pub end_form : (names : Naming) → form_of names statement.End ≡ On ToEnd NoMore
unfolding lines_opened folds_opened
end_form names = refl

-- each of the three statements has operands of the types that it wants
pub simple_form : (c : Facts) (count i : ℕ) (arrays : List Bytes) (b : Body) → IsSimple b → AreIntegers c.program.attribute (uses_of_body arrays b) →
    IsFormed c count i None (form_of c.program.attribute b)
unfolding unit_sort
simple_form c count i arrays b (simple.assigns _ x e same name sum) are =
    let names = c.program.attribute in
    let both = subst (AreIntegers c.program.attribute) (uses_of_assigned arrays x e) (subst (λ b. AreIntegers c.program.attribute (uses_of_body arrays b)) same are) in
    let is = name_used names x (front_integers names (uses_of (tree.Name x)) (uses_of e) both) in
    subst (IsFormed c count i None) (sym (ap (form_of names) same ∙ assigned_form names x e is))
    (formed.on None ToSet _ (ValueOf Integer ∷ PlaceOf Integer ∷ []) (formed.sets Integer typed.integers)
    (typed.more_terms [] (read names e).value (More (At x) NoMore) (ValueOf Integer) (PlaceOf Integer ∷ [])
    (sum_typed c count e sum (back_integers names (uses_of (tree.Name x)) (uses_of e) both))
    (typed.more_terms [] (At x) NoMore (PlaceOf Integer) [] (typed.is_at [] x Integer (variable_is c x is)) (typed.no_terms []))))
simple_form c count i arrays b (simple.prints _ e same sum) are =
    let names = c.program.attribute in
    let used = front_integers names (uses_of e) [] (subst (AreIntegers c.program.attribute) (uses_of_printed arrays e) (subst (λ b. AreIntegers c.program.attribute (uses_of_body arrays b)) same are)) in
    let item : Typed c count [] (item_of Output Listed c.program.attribute e) (ValueOf Integer) =
    subst (λ t. Typed c count [] t (ValueOf Integer)) (sym (item_of_sum names e sum used)) (sum_typed c count e sum used) in
    subst (IsFormed c count i None) (sym (ap (form_of names) same ∙ printed_form names e))
    (formed.on None _ _ (ValueOf Integer ∷ [])
    (formed.begins Output Listed (record { words = UnitWord ∷ []; on_error = None; on_end = None }) (Before (Item (item_of Output Listed names e)) Done)
    (ValueOf Integer ∷ []) (ValueOf Integer) (formed.more_words UnitWord [] (ValueOf Integer) [] formed.unit_number formed.no_words) refl formed.by_list
    formed.left_out formed.left_out
    (formed.before (Item (item_of Output Listed names e)) Done (formed.item (item_of Output Listed names e) (ValueOf Integer) (formed.written_value Integer typed.integers) item) formed.done))
    (typed.more_terms [] (Val (IsInt (pos 6))) NoMore (ValueOf Integer) [] (typed.is_val [] (IsInt (pos 6)) (ValueOf Integer) (typed.integer (pos 6))) (typed.no_terms [])))
simple_form c count i arrays b (simple.ends _ same) are =
    subst (IsFormed c count i None) (sym (ap (form_of c.program.attribute) same ∙ end_form c.program.attribute))
    (formed.on None ToEnd NoMore [] formed.ends (typed.no_terms []))

-- and so has each statement of a unit
line_formed : (c : Facts) (count i : ℕ) (arrays : List Bytes) (labels : List ℕ) (s : Stmt) (line : Line) → IsSimple s.body → AreIntegers c.program.attribute (uses_of_body arrays s.body) →
    Some (line_of c.program.attribute labels s) ≡ Some line → IsFormed c count i None line.form
unfolding line_of
line_formed c count i arrays labels s line is are at =
    let same : line_of c.program.attribute labels s ≡ line = cc in
    subst (λ l. IsFormed c count i None l.form) same (simple_form c count i arrays s.body is are)

pub statements_formed : (c : Facts) (count i : ℕ) (arrays : List Bytes) (labels : List ℕ) (ss : List Stmt) → AreSimple ss → AreIntegers c.program.attribute (uses_of_statements arrays ss) →
    (k : ℕ) (line : Line) → slice_get (map (line_of c.program.attribute labels) ss) k ≡ Some line → IsFormed c count i None line.form
unfolding uses_of_statements uses.all_of
statements_formed c count i arrays labels [] simple are k line at = elim simple [ ]
statements_formed c count i arrays labels (s ∷ ss) (simple.the_last _ same) are zero line at =
    line_formed c count i arrays labels s line (simple.ends s.body same) (front_integers c.program.attribute (uses_of_body arrays s.body) [] are) at
statements_formed c count i arrays labels (s ∷ ss) (simple.the_last _ same) are (suc k) line at = absurd (cc)
statements_formed c count i arrays labels (s ∷ ss) (simple.before_last _ _ is apart more) are zero line at =
    line_formed c count i arrays labels s line is (front_integers c.program.attribute (uses_of_body arrays s.body) (uses_of_statements arrays ss) are) at
statements_formed c count i arrays labels (s ∷ ss) (simple.before_last _ _ is apart more) are (suc k) line at =
    statements_formed c count i arrays labels ss more (back_integers c.program.attribute (uses_of_body arrays s.body) (uses_of_statements arrays ss) are) k line at

-- no IF block stands among them, and END is the last
plain_mark : (b : Body) → IsSimple b → mark_of b ≡ Plain
unfolding mark_of folds_opened printed
plain_mark b is = by_statement (λ b. mark_of b ≡ Plain) (λ x e n s. refl) (λ e s. refl) refl b is

pub simple_nest : (names : Naming) (labels : List ℕ) (ss : List Stmt) → AreSimple ss → IsNest 0 (map (line_of names labels) ss)
unfolding line_of
simple_nest names labels [] simple = elim simple [ ]
simple_nest names labels (s ∷ ss) (simple.the_last _ same) =
    formed.the_end (line_of names labels s) (plain_mark s.body (simple.ends s.body same)) (ap (form_of names) same ∙ end_form names)
simple_nest names labels (s ∷ ss) (simple.before_last _ _ is apart more) =
    formed.plain 0 (line_of names labels s) (map (line_of names labels) ss) (plain_mark s.body is) (simple_nest names labels ss more)

-- a unit has a statement
any_statement : (names : Naming) (labels : List ℕ) (ss : List Stmt) → AreSimple ss → 0 < length (map (line_of names labels) ss)
any_statement names labels [] simple = elim simple [ ]
any_statement names labels (s ∷ ss) simple = omega arith

-- the only entry begins at the first statement
only_entry : (e first : EntryPoint) (later : List EntryPoint) (n : ℕ) → later ≡ [] → first.start < n → IsIn e (first ∷ later) → e.start < n
only_entry e first later n none within first_in = within
only_entry e first later n none within (later_in among) = elim (subst (IsIn e) none among) [ ]

-- a stored name has its length and its home, and no name is a dummy argument or the result of a function
stored_formed : (c : Facts) (count : ℕ) (x : Bytes) (h : Home) → IsPlain (c.program.attribute x) → (c.program.attribute x).class ≡ class.Stored →
    c.home x ≡ Some h → h.sequence < count → IsStored c count x
unfolding elements_of bare
stored_formed c count x h (attributes.a_variable is) stored home within = record {
  width = 4;
  width_is = is.width_is;
  home = h;
  home_is = home;
  within = within;
  ranked = ap length is.no_bounds ∙ sym (ap length is.no_dimensions);
  sized = subst (λ bs. IsTrue (is_some (elements_of bs))) (sym is.no_bounds) refl;
}
stored_formed c count x h (attributes.not_of_unit is) stored home within = absurd (let same = sym (ap (λ a. a.class) is) ∙ stored in cc)

no_dummy : (a : Attribute) → IsPlain a → IsTrue (is_dummy a.class) → ⊥
unfolding is_dummy bare
no_dummy a (attributes.a_variable is) dummy = absurd (let no_one = subst (λ k. IsTrue (is_dummy k)) is.class_is dummy in cc)
no_dummy a (attributes.not_of_unit is) dummy = absurd (let no_one = subst (λ b. IsTrue (is_dummy b.class)) is dummy in cc)

no_result : (a : Attribute) → IsPlain a → a.class ≡ class.Result → ⊥
unfolding bare
no_result a (attributes.a_variable is) result = absurd (let same = sym is.class_is ∙ result in cc)
no_result a (attributes.not_of_unit is) result = absurd (let same = sym (ap (λ b. b.class) is) ∙ result in cc)

-- so the unit is well formed, with homes for its stored names
unit_formed : (options : Options) (file : ℕ) (trees : List Stmt) → AreSimple trees → (home : Bytes → Option Home) (count : ℕ) →
    ((x : Bytes) → ((unit_read options (main_program file trees)).attribute x).class ≡ class.Stored → (h : Home) × (home x ≡ Some h) × (h.sequence < count)) →
    IsWellFormed (record { program = unit_read options (main_program file trees); home = home }) count
unfolding unit_read with_ties program_of main_program is_not_empty
unit_formed options file trees simple home count stand =
    let c : Facts = record { program = unit_read options (main_program file trees); home = home } in
    record {
      statements = λ i line at. statements_formed c count i (arrays_of (main_program file trees)) _ trees simple (unit_integer options file trees simple) i line at;
      nest = simple_nest c.program.attribute _ trees simple;
      named = refl;
      entries = λ e among. only_entry e _ (entries_from 0 trees) _ (no_entries_from 0 trees simple) (any_statement c.program.attribute _ trees simple) among;
      stored = λ x is. let h = stand x is in stored_formed c count x h.0 (unit_plain options file trees simple x) is h.1 h.2;
      dummies = λ x is. absurd (no_dummy (c.program.attribute x) (unit_plain options file trees simple x) is);
      results = λ x is. absurd (no_result (c.program.attribute x) (unit_plain options file trees simple x) is);
    }

-- a main program of such statements is well formed over every setting in which its stored names stand
pub simple_formed : (options : Options) (file : ℕ) (trees : List Stmt) → AreSimple trees → (c : Facts) → c.program ≡ unit_read options (main_program file trees) →
    (count : ℕ) → ((x : Bytes) → (c.program.attribute x).class ≡ class.Stored → (h : Home) × (c.home x ≡ Some h) × (h.sequence < count)) → IsWellFormed c count
simple_formed options file trees simple c same count stand =
    subst (λ p. IsWellFormed (record { program = p; home = c.home }) count) (sym same)
    (unit_formed options file trees simple c.home count
    (subst (λ p. (x : Bytes) → (p.attribute x).class ≡ class.Stored → (h : Home) × (c.home x ≡ Some h) × (h.sequence < count)) same stand))
