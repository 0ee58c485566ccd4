-- What is well formed is found to be so: sort by sort, statement by statement, name by name.
use Rattle.std.specs.Prelude.{◌≡◌, ℕ, zero, suc, ◌+◌, ◌<◌, nat_eq, nat_lt, Bool, true, false, not, ◌&&◌, ◌||◌, List, [], ◌∷◌, length, map, Option, Some, None, is_some, slice_get, IsTrue, if◌then◌else◌}
use Rattle.std.proofs.Common.{refl, sym, ap, ◌∙◌, subst, arith}
use Rattle.std.proofs.lemmas.Bool.{eq-eqb, lt-ltb}
use Rattle.f_tree.specs.declared.names.Basic.{Basic}
use Rattle.f_tree.specs.declared.names.Basic.TheVariants.{Integer, Logical, Character}
use Rattle.f_tree.specs.declared.names.Class.{Class}
use Rattle.f_tree.specs.declared.names.Class.TheVariants as class
use Rattle.f_tree.specs.declared.names.Options.{Options}
use Rattle.f_tree.specs.declared.units.Unit.{Unit as WrittenUnit}
use Rattle.f_tree.specs.Values.{Bytes, Datum, IsSpot}
use Rattle.f_tree.specs.Terms.{Prefix, Operator, Function, TextLength, Term, Terms, NoMore}
use Rattle.f_tree.specs.Association.{same_basic}
use Rattle.f_tree.specs.Facts.{Dimension, Attribute, EntryPoint, Direction, Layout, Word, Controls, Job, Work, Head, ToEnd, Form, On, Mark, Plain, Opens, Arm, Closes, Line, ProgramUnit, Facts}
use Rattle.f_tree.specs.Places.{place_of_label, terminal_of}
use Rattle.f_tree.specs.Valuing.{elements_of}
use Rattle.f_tree.specs.Attributes.{is_not_empty, Described, all_described}
use Rattle.f_tree.specs.Lines.{unit_read}
use Rattle.f_tree.specs.Setting.{Setting, IsIn, first_in, later_in}
use Rattle.f_tree.specs.Meaning.{units_of, facts_at}
use Rattle.f_tree.specs.WellTyped as typed
use Rattle.f_tree.specs.WellTyped.{Sort, ValueOf, PlaceOf, AProcedure, ALabel, Absent, IsOf, IsValued, Precedes, Operates, Applies, IsPiece, ArePieces, IsLast, IsNth, Typed, AreTyped, integers_of, rank_of, is_variable, is_procedure_name, has_size, is_callee}
use Rattle.f_tree.specs.WellFormed as formed
use Rattle.f_tree.specs.WellFormed.{HasStatement, HasTerminal, EachStands, takes_step, MayStand, WordTakes, WordsTake, unit_sort, HasLayout, IsListed, loop_sorts, JobIsFormed, WorkIsFormed, ArePassed, ArePiecesAndPlace, has_arm, Takes, IsFormed, IsNest, IsStored, IsOfVariables, IsUpper, AreDimensions, IsResult, is_dummy, IsWellFormed}
use Rattle.f_tree.specs.Checks.{if_some, provided, is_some_such, is_valued, same_sort, same_sorts, is_sort, are_sorts, placed_basic, valued_basic, is_piece, are_pieces, is_last, prefixed_basic, over_integers, over_logicals, over_ordered, operated_basic, extreme_basic, applied_basic, datum_sort, name_sort, referred_sort, sort_of, sorts_of, has_statement, has_terminal, each_stands, may_stand, word_takes, words_take, has_layout, is_listed, is_job_formed, is_work_formed, is_passed, are_passed, is_set, are_pieces_and_place, is_arm, controls_stand, takes, is_formed, are_formed, ends_unit, is_end, is_plain, is_last_line, depth_behind, is_nest, has_home, is_stored_well, is_integer_variable, is_integer, is_negation, is_power, is_arithmetic, are_two, is_of_variables, are_of_variables, is_upper, are_dimensions, is_function, is_scalar, has_what_it_wants, is_name_formed, are_names_formed, are_entries_within, is_unit_formed, are_units_formed, written_in, is_set_formed, EachWellFormedSetIsFound}
use Rattle.fortran_checks.proofs.CheckLemmas.{units_written}

-- choices
pub some_is : {A B : Type 0} (o : Option A) (go : A → Option B) (a : A) (b : B) → o ≡ Some a → go a ≡ Some b → if_some o go ≡ Some b
unfolding if_some
some_is o go a b is next = subst (λ x. if_some x go ≡ Some b) (sym is) next

pub provided_is : {A : Type 0} (b : Bool) (a : A) → IsTrue b → provided b a ≡ Some a
unfolding provided
provided_is b a holds = subst (λ x. provided x a ≡ Some a) (sym holds) refl

pub such_is : {A : Type 0} (o : Option A) (test : A → Bool) (a : A) → o ≡ Some a → IsTrue (test a) → IsTrue (is_some_such o test)
unfolding is_some_such
such_is o test a is holds = subst (λ x. IsTrue (is_some_such x test)) (sym is) holds

pub both_are : (a b : Bool) → IsTrue a → IsTrue b → IsTrue (a && b)
both_are true b one other = other
both_are false b one other = absurd (cc)

pub left_is : (a b : Bool) → IsTrue a → IsTrue (a || b)
left_is true b holds = refl
left_is false b holds = absurd (cc)

pub right_is : (a b : Bool) → IsTrue b → IsTrue (a || b)
right_is true b holds = refl
right_is false b holds = holds

pub is_there : {A : Type 0} (o : Option A) (a : A) → o ≡ Some a → IsTrue (is_some o)
is_there o a is = subst (λ x. IsTrue (is_some x)) (sym is) refl

-- sorts
pub valued_is : (basic : Basic) → IsValued basic → IsTrue (is_valued basic)
unfolding is_valued
valued_is basic typed.integers = refl
valued_is basic typed.logicals = refl
valued_is basic typed.texts = refl

pub basic_itself : (basic : Basic) → IsValued basic → IsTrue (same_basic basic basic)
unfolding same_basic
basic_itself basic typed.integers = refl
basic_itself basic typed.logicals = refl
basic_itself basic typed.texts = refl

pub sort_is : (sort other : Sort) (o : Option Sort) → o ≡ Some other → IsTrue (same_sort sort other) → IsTrue (is_sort sort o)
unfolding is_sort
sort_is sort other o is same = subst (λ x. IsTrue (is_sort sort x)) (sym is) same

pub sorts_are : (sorts others : List Sort) (o : Option (List Sort)) → o ≡ Some others → IsTrue (same_sorts sorts others) → IsTrue (are_sorts sorts o)
unfolding are_sorts
sorts_are sorts others o is same = subst (λ x. IsTrue (are_sorts sorts x)) (sym is) same

pub integers_same : (k : ℕ) → IsTrue (same_sorts (integers_of k) (integers_of k))
unfolding same_sorts same_sort same_basic
integers_same zero = refl
integers_same (suc k) = integers_same k

pub integers_long : (k : ℕ) → length (integers_of k) ≡ k
integers_long zero = refl
integers_long (suc k) = ap suc (integers_long k)

pub placed_is : (basic : Basic) (o : Option Sort) → o ≡ Some (PlaceOf basic) → placed_basic o ≡ Some basic
unfolding placed_basic
placed_is basic o is = ap placed_basic is

pub valued_basic_is : (basic : Basic) (o : Option Sort) → o ≡ Some (ValueOf basic) → valued_basic o ≡ Some basic
unfolding valued_basic
valued_basic_is basic o is = ap valued_basic is

pub piece_is : (sort : Sort) → IsPiece sort → IsTrue (is_piece sort)
unfolding is_piece
piece_is sort typed.piece_value = refl
piece_is sort typed.piece_place = refl

pub pieces_are : (sorts : List Sort) → ArePieces sorts → IsTrue (are_pieces sorts)
unfolding are_pieces
pieces_are sorts typed.no_pieces = refl
pieces_are sorts (typed.more_pieces sort others is are) = both_are (is_piece sort) (are_pieces others) (piece_is sort is) (pieces_are others are)

pub last_is : (sort : Sort) → IsLast sort → IsTrue (is_last sort)
unfolding is_last
last_is sort typed.written_last = refl
last_is sort typed.own_last = refl

-- operators and functions
pub operated_is : (op : Operator) (basic result : Basic) → Operates op basic result → operated_basic op basic ≡ Some result
unfolding operated_basic over_integers over_logicals over_ordered
operated_is op basic result typed.adds = refl
operated_is op basic result typed.subtracts = refl
operated_is op basic result typed.multiplies = refl
operated_is op basic result typed.divides = refl
operated_is op basic result typed.less = refl
operated_is op basic result typed.less_or_equal = refl
operated_is op basic result typed.equal = refl
operated_is op basic result typed.not_equal = refl
operated_is op basic result typed.greater = refl
operated_is op basic result typed.greater_or_equal = refl
operated_is op basic result typed.text_less = refl
operated_is op basic result typed.text_less_or_equal = refl
operated_is op basic result typed.text_equal = refl
operated_is op basic result typed.text_not_equal = refl
operated_is op basic result typed.text_greater = refl
operated_is op basic result typed.text_greater_or_equal = refl
operated_is op basic result typed.both = refl
operated_is op basic result typed.either = refl
operated_is op basic result typed.same = refl
operated_is op basic result typed.different = refl

pub operands_valued : (op : Operator) (basic result : Basic) → Operates op basic result → IsValued basic
operands_valued op basic result typed.adds = typed.integers
operands_valued op basic result typed.subtracts = typed.integers
operands_valued op basic result typed.multiplies = typed.integers
operands_valued op basic result typed.divides = typed.integers
operands_valued op basic result typed.less = typed.integers
operands_valued op basic result typed.less_or_equal = typed.integers
operands_valued op basic result typed.equal = typed.integers
operands_valued op basic result typed.not_equal = typed.integers
operands_valued op basic result typed.greater = typed.integers
operands_valued op basic result typed.greater_or_equal = typed.integers
operands_valued op basic result typed.text_less = typed.texts
operands_valued op basic result typed.text_less_or_equal = typed.texts
operands_valued op basic result typed.text_equal = typed.texts
operands_valued op basic result typed.text_not_equal = typed.texts
operands_valued op basic result typed.text_greater = typed.texts
operands_valued op basic result typed.text_greater_or_equal = typed.texts
operands_valued op basic result typed.both = typed.logicals
operands_valued op basic result typed.either = typed.logicals
operands_valued op basic result typed.same = typed.logicals
operands_valued op basic result typed.different = typed.logicals

pub extreme_is : (k : ℕ) → extreme_basic (ValueOf Integer ∷ integers_of k) ≡ Some Integer
unfolding extreme_basic same_sorts same_sort same_basic
extreme_is k =
    provided_is (same_sorts (integers_of (length (integers_of k))) (integers_of k)) Integer
    (subst (λ j. IsTrue (same_sorts (integers_of j) (integers_of k))) (sym (integers_long k)) (integers_same k))

pub lengths_are : (sort : Sort) (sorts : List Sort) → ArePieces (sort ∷ sorts) → applied_basic TextLength (sort ∷ sorts) ≡ Some Integer
unfolding applied_basic is_not_empty
lengths_are sort sorts are = provided_is (are_pieces (sort ∷ sorts)) Integer (pieces_are (sort ∷ sorts) are)

pub applied_is : (function : Function) (sorts : List Sort) (basic : Basic) → Applies function sorts basic → applied_basic function sorts ≡ Some basic
unfolding applied_basic provided same_sorts same_sort same_basic
applied_is function sorts basic typed.power = refl
applied_is function sorts basic typed.truncation = refl
applied_is function sorts basic typed.magnitude = refl
applied_is function sorts basic typed.remainder = refl
applied_is function sorts basic typed.sign_transfer = refl
applied_is function sorts basic typed.positive_difference = refl
applied_is function sorts basic (typed.largest k) = extreme_is k
applied_is function sorts basic (typed.smallest k) = extreme_is k
applied_is function sorts basic typed.character_code = refl
applied_is function sorts basic typed.character_of_code = refl
applied_is function sorts basic (typed.length_of_pieces sort more are) = lengths_are sort more are
applied_is function sorts basic typed.index_of = refl
applied_is function sorts basic typed.lexically_greater_or_equal = refl
applied_is function sorts basic typed.lexically_greater = refl
applied_is function sorts basic typed.lexically_less_or_equal = refl
applied_is function sorts basic typed.lexically_less = refl
applied_is function sorts basic (typed.front k) = refl
applied_is function sorts basic (typed.fitted k) = refl
applied_is function sorts basic typed.inclusive_or = refl
applied_is function sorts basic typed.logical_product = refl
applied_is function sorts basic typed.exclusive_or = refl
applied_is function sorts basic typed.bit_complement = refl
applied_is function sorts basic typed.bit_shift = refl
applied_is function sorts basic typed.bit_test = refl
applied_is function sorts basic typed.bit_set = refl
applied_is function sorts basic typed.bit_clear = refl

-- terms
pub datum_is : (n : ℕ) (d : Datum) (sort : Sort) → IsOf n sort d → datum_sort n d ≡ Some sort
unfolding datum_sort
datum_is n d sort (typed.integer z) = refl
datum_is n d sort (typed.logical b) = refl
datum_is n d sort (typed.text cs) = refl
datum_is n d sort (typed.place p basic is within) =
    provided_is (nat_lt p.sequence n) (PlaceOf p.basic) (lt-ltb p.sequence n within) ∙ ap (λ b. Some (PlaceOf b)) is
datum_is n d sort (typed.procedure x) = refl
datum_is n d sort (typed.label l) = refl
datum_is n d sort typed.nothing = refl

pub place_name : (a : Attribute) (basic : Basic) → IsTrue (is_variable a.class) → a.basic ≡ basic → name_sort a ≡ Some (PlaceOf basic)
unfolding name_sort
place_name a basic variable is =
    subst (λ b. (if b then Some (PlaceOf a.basic) else provided (is_procedure_name a.class) AProcedure) ≡ Some (PlaceOf basic)) (sym variable)
    (ap (λ b. Some (PlaceOf b)) is)

pub is_no_variable : (k : Class) → IsTrue (is_procedure_name k) → is_variable k ≡ false
unfolding is_procedure_name is_variable
is_no_variable class.Procedure is = refl
is_no_variable class.DummyProcedure is = refl
is_no_variable class.Intrinsic is = refl
is_no_variable _ is = absurd (cc)

pub procedure_name : (a : Attribute) → IsTrue (is_procedure_name a.class) → name_sort a ≡ Some AProcedure
unfolding name_sort
procedure_name a is =
    subst (λ b. (if b then Some (PlaceOf a.basic) else provided (is_procedure_name a.class) AProcedure) ≡ Some AProcedure) (sym (is_no_variable a.class is))
    (provided_is (is_procedure_name a.class) AProcedure is)

pub nth_is : (env : List Sort) (k : ℕ) (sort : Sort) → IsNth env k sort → slice_get env k ≡ Some sort
nth_is env k sort (typed.first_one _ sorts) = refl
nth_is env k sort (typed.later_one other sorts j _ nth) = nth_is sorts j sort nth

pub place_of : (b : Bool) (a : Attribute) (basic : Basic) → IsTrue b → a.basic ≡ basic → provided b (PlaceOf a.basic) ≡ Some (PlaceOf basic)
place_of b a basic holds is = provided_is b (PlaceOf a.basic) holds ∙ ap (λ x. Some (PlaceOf x)) is

pub before_is : (op : Prefix) (basic : Basic) (o : Option Sort) → Precedes op basic → o ≡ Some (ValueOf basic) →
    provided (is_sort (ValueOf (prefixed_basic op)) o) (ValueOf (prefixed_basic op)) ≡ Some (ValueOf basic)
unfolding prefixed_basic same_sort same_basic
before_is op basic o typed.negates is = provided_is (is_sort (ValueOf Integer) o) (ValueOf Integer) (sort_is (ValueOf Integer) (ValueOf Integer) o is refl)
before_is op basic o typed.complements is = provided_is (is_sort (ValueOf Logical) o) (ValueOf Logical) (sort_is (ValueOf Logical) (ValueOf Logical) o is refl)

mutual
  unfolding sort_of sorts_of same_sort same_basic referred_sort

  pub term_is : (c : Facts) (n : ℕ) (env : List Sort) (t : Term) (sort : Sort) → Typed c n env t sort → sort_of c n env t ≡ Some sort
  term_is c n env t sort (typed.is_val _ d _ of) = datum_is n d sort of
  term_is c n env t sort (typed.is_fetch _ u basic valued is) =
      some_is (placed_basic (sort_of c n env u)) (λ b. provided (is_valued b) (ValueOf b)) basic (ValueOf basic)
      (placed_is basic (sort_of c n env u) (term_is c n env u (PlaceOf basic) is)) (provided_is (is_valued basic) (ValueOf basic) (valued_is basic valued))
  term_is c n env t sort (typed.is_at _ x basic v) = place_name (c.program.attribute x) basic v.class_is v.basic_is
  term_is c n env t sort (typed.is_named_procedure _ x is) = procedure_name (c.program.attribute x) is
  term_is c n env t sort (typed.is_all _ x basic v sized) =
      place_of (is_variable (c.program.attribute x).class && has_size (c.program.attribute x).dimensions) (c.program.attribute x) basic
      (both_are (is_variable (c.program.attribute x).class) (has_size (c.program.attribute x).dimensions) v.class_is sized) v.basic_is
  term_is c n env t sort (typed.is_element _ x ts basic v are) =
      place_of (is_variable (c.program.attribute x).class && are_sorts (integers_of (rank_of c x)) (sorts_of c n env ts)) (c.program.attribute x) basic
      (both_are (is_variable (c.program.attribute x).class) (are_sorts (integers_of (rank_of c x)) (sorts_of c n env ts)) v.class_is
      (sorts_are (integers_of (rank_of c x)) (integers_of (rank_of c x)) (sorts_of c n env ts) (terms_are c n env ts (integers_of (rank_of c x)) are)
      (integers_same (rank_of c x)))) v.basic_is
  term_is c n env t sort (typed.is_alone _ u basic is) =
      some_is (placed_basic (sort_of c n env u)) (λ b. Some (PlaceOf b)) basic (PlaceOf basic)
      (placed_is basic (sort_of c n env u) (term_is c n env u (PlaceOf basic) is)) refl
  term_is c n env t sort (typed.is_part _ x u from to last ends is first end) =
      provided_is (is_sort (PlaceOf Character) (sort_of c n env u) && (is_sort (ValueOf Integer) (sort_of c n env from) && is_some_such (sort_of c n env to) is_last))
      (PlaceOf Character)
      (both_are (is_sort (PlaceOf Character) (sort_of c n env u)) (is_sort (ValueOf Integer) (sort_of c n env from) && is_some_such (sort_of c n env to) is_last)
      (sort_is (PlaceOf Character) (PlaceOf Character) (sort_of c n env u) (term_is c n env u (PlaceOf Character) is) refl)
      (both_are (is_sort (ValueOf Integer) (sort_of c n env from)) (is_some_such (sort_of c n env to) is_last)
      (sort_is (ValueOf Integer) (ValueOf Integer) (sort_of c n env from) (term_is c n env from (ValueOf Integer) first) refl)
      (such_is (sort_of c n env to) is_last last (term_is c n env to last end) (last_is last ends))))
  term_is c n env t sort (typed.is_joined _ ts sorts pieces are) =
      some_is (sorts_of c n env ts) (λ ss. provided (are_pieces ss) (ValueOf Character)) sorts (ValueOf Character) (terms_are c n env ts sorts are)
      (provided_is (are_pieces sorts) (ValueOf Character) (pieces_are sorts pieces))
  term_is c n env t sort (typed.is_before _ op u basic precedes is) =
      before_is op basic (sort_of c n env u) precedes (term_is c n env u (ValueOf basic) is)
  term_is c n env t sort (typed.is_between _ op u w basic result operates left right) =
      some_is (valued_basic (sort_of c n env u)) (λ b. if_some (operated_basic op b) (λ r. provided (is_sort (ValueOf b) (sort_of c n env w)) (ValueOf r))) basic
      (ValueOf result) (valued_basic_is basic (sort_of c n env u) (term_is c n env u (ValueOf basic) left))
      (some_is (operated_basic op basic) (λ r. provided (is_sort (ValueOf basic) (sort_of c n env w)) (ValueOf r)) result (ValueOf result)
      (operated_is op basic result operates)
      (provided_is (is_sort (ValueOf basic) (sort_of c n env w)) (ValueOf result)
      (sort_is (ValueOf basic) (ValueOf basic) (sort_of c n env w) (term_is c n env w (ValueOf basic) right)
      (basic_itself basic (operands_valued op basic result operates)))))
  term_is c n env t sort (typed.is_intrinsic _ function ts sorts basic applies are) =
      some_is (sorts_of c n env ts) (λ ss. if_some (applied_basic function ss) (λ b. Some (ValueOf b))) sorts (ValueOf basic) (terms_are c n env ts sorts are)
      (some_is (applied_basic function sorts) (λ b. Some (ValueOf b)) basic (ValueOf basic) (applied_is function sorts basic applies) refl)
  term_is c n env t sort (typed.is_refer _ x basic width ts sorts callee are) =
      some_is (sorts_of c n env ts) (λ ss. provided (is_callee (c.program.attribute x).class) (ValueOf basic)) sorts (ValueOf basic) (terms_are c n env ts sorts are)
      (provided_is (is_callee (c.program.attribute x).class) (ValueOf basic) callee)
  term_is c n env t sort (typed.is_bind _ ts sorts u _ are is) =
      some_is (sorts_of c n env ts) (λ ss. sort_of c n ss u) sorts sort (terms_are c n env ts sorts are) (term_is c n sorts u sort is)
  term_is c n env t sort (typed.is_bound _ k _ nth) = nth_is env k sort nth

  pub terms_are : (c : Facts) (n : ℕ) (env : List Sort) (ts : Terms) (sorts : List Sort) → AreTyped c n env ts sorts → sorts_of c n env ts ≡ Some sorts
  terms_are c n env ts sorts (typed.no_terms _) = refl
  terms_are c n env ts sorts (typed.more_terms _ t more sort others is are) =
      some_is (sort_of c n env t) (λ s. if_some (sorts_of c n env more) (λ ss. Some (s ∷ ss))) sort (sort ∷ others) (term_is c n env t sort is)
      (some_is (sorts_of c n env more) (λ ss. Some (sort ∷ ss)) others (sort ∷ others) (terms_are c n env more others are) refl)

-- labels
pub statement_is : (u : ProgramUnit) (label : ℕ) → HasStatement u label → IsTrue (has_statement u label)
unfolding has_statement
statement_is u label stands = is_there (place_of_label u label) stands.at stands.there

pub terminal_is : (u : ProgramUnit) (first : ℕ) (label : Option ℕ) → HasTerminal u first label → IsTrue (has_terminal u first label)
unfolding has_terminal
terminal_is u first label stands =
    such_is (terminal_of u first label) (λ at. nat_lt (suc at) (length u.lines)) stands.at stands.there (lt-ltb (suc stands.at) (length u.lines) stands.before_end)

pub each_is : (u : ProgramUnit) (labels : List ℕ) → EachStands u labels → IsTrue (each_stands u labels)
unfolding each_stands
each_is u labels formed.none_stands = refl
each_is u labels (formed.one_stands label others stands each) =
    both_are (has_statement u label) (each_stands u others) (statement_is u label stands) (each_is u others each)

pub may_be : (u : ProgramUnit) (label : Option ℕ) → MayStand u label → IsTrue (may_stand u label)
unfolding may_stand
may_be u label formed.left_out = refl
may_be u label (formed.stands l stands) = statement_is u l stands

-- control words and lists
pub word_is : (word : Word) (sort : Sort) → WordTakes word sort → IsTrue (word_takes word sort)
unfolding word_takes same_sort same_basic
word_is word sort formed.unit_number = refl
word_is word sort formed.internal_file = refl
word_is word sort formed.status_place = refl
word_is word sort (formed.format_text _ is) = piece_is sort is
word_is word sort (formed.file_text _ is) = piece_is sort is
word_is word sort (formed.file_status_text _ is) = piece_is sort is
word_is word sort (formed.access_text _ is) = piece_is sort is
word_is word sort (formed.form_text _ is) = piece_is sort is
word_is word sort (formed.blank_text _ is) = piece_is sort is

pub words_are : (words : List Word) (sorts : List Sort) → WordsTake words sorts → IsTrue (words_take words sorts)
unfolding words_take
words_are words sorts formed.no_words = refl
words_are words sorts (formed.more_words word others sort more is are) =
    both_are (word_takes word sort) (words_take others more) (word_is word sort is) (words_are others more are)

pub layout_is : (u : ProgramUnit) (words : List Word) (layout : Layout) → HasLayout u words layout → IsTrue (has_layout u words layout)
unfolding has_layout
layout_is u words layout formed.by_list = refl
layout_is u words layout (formed.by_label label given) = given
layout_is u words layout (formed.by_operand named) = named

pub listed_is : (way : Direction) (sort : Sort) → IsListed way sort → IsTrue (is_listed way sort)
unfolding is_listed
listed_is way sort (formed.written_value basic valued) = valued_is basic valued
listed_is way sort (formed.written_place basic valued) = valued_is basic valued
listed_is way sort (formed.read_place basic valued) = valued_is basic valued

mutual
  unfolding is_job_formed is_work_formed same_sorts same_sort same_basic

  pub job_is : (c : Facts) (n : ℕ) (way : Direction) (job : Job) → JobIsFormed c n way job → IsTrue (is_job_formed c n way job)
  job_is c n way job (formed.item t sort listed is) =
      such_is (sort_of c n [] t) (is_listed way) sort (term_is c n [] t sort is) (listed_is way sort listed)
  job_is c n way job (formed.repeated items control are is) =
      both_are (is_work_formed c n way items) (are_sorts loop_sorts (sorts_of c n [] control)) (work_is c n way items are)
      (sorts_are loop_sorts loop_sorts (sorts_of c n [] control) (terms_are c n [] control loop_sorts is) refl)
  job_is c n way job (formed.turn items p left by given are of) =
      both_are (is_work_formed c n way items) (is_sort (PlaceOf Integer) (datum_sort n (IsSpot p))) (work_is c n way items are)
      (sort_is (PlaceOf Integer) (PlaceOf Integer) (datum_sort n (IsSpot p)) (datum_is n (IsSpot p) (PlaceOf Integer) of) refl)

  pub work_is : (c : Facts) (n : ℕ) (way : Direction) (work : Work) → WorkIsFormed c n way work → IsTrue (is_work_formed c n way work)
  work_is c n way work formed.done = refl
  work_is c n way work (formed.before job later is are) =
      both_are (is_job_formed c n way job) (is_work_formed c n way later) (job_is c n way job is) (work_is c n way later are)

-- statements
pub passed_are : (u : ProgramUnit) (sorts : List Sort) → ArePassed u sorts → IsTrue (are_passed u sorts)
unfolding are_passed is_passed
passed_are u sorts formed.none_passed = refl
passed_are u sorts (formed.value_passed basic others are) = both_are true (are_passed u others) refl (passed_are u others are)
passed_are u sorts (formed.place_passed basic others are) = both_are true (are_passed u others) refl (passed_are u others are)
passed_are u sorts (formed.procedure_passed others are) = both_are true (are_passed u others) refl (passed_are u others are)
passed_are u sorts (formed.label_passed label others stands are) =
    both_are (has_statement u label) (are_passed u others) (statement_is u label stands) (passed_are u others are)

pub piece_before : (sort : Sort) (sorts : List Sort) → IsTrue (is_piece sort) → IsTrue (are_pieces_and_place sorts) → IsTrue (are_pieces_and_place (sort ∷ sorts))
unfolding are_pieces_and_place
piece_before sort [] is are = absurd (cc)
piece_before sort (other ∷ sorts) is are = both_are (is_piece sort) (are_pieces_and_place (other ∷ sorts)) is are

pub pieces_and_place_are : (sorts : List Sort) → ArePiecesAndPlace sorts → IsTrue (are_pieces_and_place sorts)
unfolding are_pieces_and_place same_sort same_basic
pieces_and_place_are sorts formed.the_place = refl
pieces_and_place_are sorts (formed.a_piece sort others is are) = piece_before sort others (piece_is sort is) (pieces_and_place_are others are)

pub arm_is : (lines : List Line) (at : ℕ) (line : Line) → slice_get lines at ≡ Some line → IsTrue (has_arm line.mark) → IsTrue (is_arm (slice_get lines at))
unfolding is_arm
arm_is lines at line there arm = subst (λ o. IsTrue (is_arm o)) (sym there) arm

pub controls_are : (u : ProgramUnit) (controls : Controls) → MayStand u controls.on_error → MayStand u controls.on_end → IsTrue (controls_stand u controls)
unfolding controls_stand
controls_are u controls on_error on_end =
    both_are (may_stand u controls.on_error) (may_stand u controls.on_end) (may_be u controls.on_error on_error) (may_be u controls.on_end on_end)

mutual
  unfolding takes is_formed same_sorts same_sort same_basic is_set

  pub takes_is : (c : Facts) (n at : ℕ) (stage : Option Direction) (head : Head) (sorts : List Sort) → stage ≡ None → Takes c n at stage head sorts →
      IsTrue (takes c n at head sorts)
  takes_is c n at stage head sorts none (formed.sets basic valued) = basic_itself basic valued
  takes_is c n at stage head sorts none (formed.sets_text _ pieces) = pieces_and_place_are sorts pieces
  takes_is c n at stage head sorts none (formed.sets_label label) = refl
  takes_is c n at stage head sorts none (formed.goes label stands) = both_are (has_statement c.program label) true (statement_is c.program label stands) refl
  takes_is c n at stage head sorts none (formed.picks labels stand) = both_are (each_stands c.program labels) true (each_is c.program labels stand) refl
  takes_is c n at stage head sorts none (formed.goes_assigned labels) = refl
  takes_is c n at stage head sorts none (formed.goes_by_sign below even above one two three) =
      both_are (each_stands c.program (below ∷ even ∷ above ∷ [])) true
      (each_is c.program (below ∷ even ∷ above ∷ [])
      (formed.one_stands below (even ∷ above ∷ []) one (formed.one_stands even (above ∷ []) two (formed.one_stands above [] three formed.none_stands)))) refl
  takes_is c n at stage head sorts none (formed.guards form is) = both_are (is_formed c n at form) true (formed_is c n at None form refl is) refl
  takes_is c n at stage head sorts none (formed.enters_arm line there arm) =
      both_are (is_arm (slice_get c.program.lines at)) true (arm_is c.program.lines at line there arm) refl
  takes_is c n at stage head sorts none (formed.loops label terminal) = both_are (has_terminal c.program at label) true (terminal_is c.program at label terminal) refl
  takes_is c n at stage head sorts none (formed.tests_loop label line there step terminal) =
      let steps : Bool = is_some_such (slice_get c.program.lines at) (λ l. takes_step l.form) in
      both_are (steps && has_terminal c.program at label) true
      (both_are steps (has_terminal c.program at label) (such_is (slice_get c.program.lines at) (λ l. takes_step l.form) line there step)
      (terminal_is c.program at label terminal)) refl
  takes_is c n at stage head sorts none (formed.calls x _ callee passed) =
      both_are (is_callee (c.program.attribute x).class) (are_passed c.program sorts) callee (passed_are c.program sorts passed)
  takes_is c n at stage head sorts none formed.returns = refl
  takes_is c n at stage head sorts none formed.returns_by = refl
  takes_is c n at stage head sorts none (formed.stops text) = refl
  takes_is c n at stage head sorts none formed.ends = refl
  takes_is c n at stage head sorts none (formed.begins way layout controls work _ sort words unit given on_error on_end are) =
      both_are (words_take controls.words sorts && is_some (unit_sort controls.words sorts))
      (has_layout c.program controls.words layout && (controls_stand c.program controls && is_work_formed c n way work))
      (both_are (words_take controls.words sorts) (is_some (unit_sort controls.words sorts)) (words_are controls.words sorts words)
      (is_there (unit_sort controls.words sorts) sort unit))
      (both_are (has_layout c.program controls.words layout) (controls_stand c.program controls && is_work_formed c n way work)
      (layout_is c.program controls.words layout given)
      (both_are (controls_stand c.program controls) (is_work_formed c n way work) (controls_are c.program controls on_error on_end) (work_is c n way work are)))
  takes_is c n at stage head sorts none (formed.uses_unit which controls _ words unit on_error on_end) =
      both_are (words_take controls.words sorts && is_sort (ValueOf Integer) (unit_sort controls.words sorts)) (controls_stand c.program controls)
      (both_are (words_take controls.words sorts) (is_sort (ValueOf Integer) (unit_sort controls.words sorts)) (words_are controls.words sorts words)
      (sort_is (ValueOf Integer) (ValueOf Integer) (unit_sort controls.words sorts) unit refl)) (controls_are c.program controls on_error on_end)
  takes_is c n at stage head sorts none (formed.transfers way rest sort listed are) = absurd (cc)
  takes_is c n at stage head sorts none (formed.repeats way items rest are others) = absurd (cc)
  takes_is c n at stage head sorts none (formed.turns way items p left by given rest are of others) = absurd (cc)
  takes_is c n at stage head sorts none (formed.finishes way) = absurd (cc)

  pub formed_is : (c : Facts) (n at : ℕ) (stage : Option Direction) (form : Form) → stage ≡ None → IsFormed c n at stage form → IsTrue (is_formed c n at form)
  formed_is c n at stage form none formed.passes = refl
  formed_is c n at stage form none (formed.on _ head operands sorts taken are) =
      such_is (sorts_of c n [] operands) (λ ss. takes c n at head ss) sorts (terms_are c n [] operands sorts are) (takes_is c n at stage head sorts none taken)

-- the statements of a unit, counted on
pub lines_are : (c : Facts) (n : ℕ) (lines : List Line) (i : ℕ) →
    ((k at : ℕ) (line : Line) → at ≡ i + k → slice_get lines k ≡ Some line → IsFormed c n at None line.form) → IsTrue (are_formed c n i lines)
unfolding are_formed
lines_are c n [] i well = refl
lines_are c n (line ∷ lines) i well =
    both_are (is_formed c n i line.form) (are_formed c n (suc i) lines) (formed_is c n i None line.form refl (well 0 i line (omega arith) refl))
    (lines_are c n lines (suc i) (λ k at l is there. well (suc k) at l (omega arith) there))

-- nests
pub end_found : (line : Line) → line.mark ≡ Plain → line.form ≡ On ToEnd NoMore → IsTrue (is_last_line 0 line [])
unfolding is_last_line is_plain is_end ends_unit
end_found line plain end =
    both_are (is_plain line.mark) (is_end line.form) (subst (λ m. IsTrue (is_plain m)) (sym plain) refl) (subst (λ f. IsTrue (is_end f)) (sym end) refl)

pub mark_found : (depth after : ℕ) (line : Line) (lines : List Line) (mark : Mark) → line.mark ≡ mark → depth_behind mark depth ≡ Some after →
    IsTrue (is_nest after lines) → IsTrue (is_nest depth (line ∷ lines))
unfolding is_nest
mark_found depth after line lines mark is behind nest =
    right_is (is_last_line depth line lines) (is_some_such (depth_behind line.mark depth) (λ d. is_nest d lines))
    (such_is (depth_behind line.mark depth) (λ d. is_nest d lines) after (ap (λ m. depth_behind m depth) is ∙ behind) nest)

pub nest_is : (depth : ℕ) (lines : List Line) → IsNest depth lines → IsTrue (is_nest depth lines)
unfolding is_nest depth_behind
nest_is depth lines (formed.the_end line plain end) =
    left_is (is_last_line 0 line []) (is_some_such (depth_behind line.mark 0) (λ d. is_nest d [])) (end_found line plain end)
nest_is depth lines (formed.plain _ line later is nest) = mark_found depth depth line later Plain is refl (nest_is depth later nest)
nest_is depth lines (formed.opens _ line later is nest) = mark_found depth (suc depth) line later Opens is refl (nest_is (suc depth) later nest)
nest_is depth lines (formed.arm d line later is nest) = mark_found (suc d) (suc d) line later Arm is refl (nest_is (suc d) later nest)
nest_is depth lines (formed.closes d line later is nest) = mark_found (suc d) d line later Closes is refl (nest_is d later nest)

-- names
pub stored_is : (c : Facts) (n : ℕ) (x : Bytes) → IsStored c n x → IsTrue (is_stored_well n (c.program.attribute x) (c.home x))
unfolding is_stored_well has_home
stored_is c n x is =
    let a : Attribute = c.program.attribute x in
    both_are (is_some a.width && is_some_such (c.home x) (λ h. nat_lt h.sequence n)) (nat_eq (length a.bounds) (length a.dimensions) && is_some (elements_of a.bounds))
    (both_are (is_some a.width) (is_some_such (c.home x) (λ h. nat_lt h.sequence n)) (is_there a.width is.width is.width_is)
    (such_is (c.home x) (λ h. nat_lt h.sequence n) is.home is.home_is (lt-ltb is.home.sequence n is.within)))
    (both_are (nat_eq (length a.bounds) (length a.dimensions)) (is_some (elements_of a.bounds)) (eq-eqb (length a.bounds) (length a.dimensions) is.ranked) is.sized)

pub arithmetic_is : (op : Operator) (basic result : Basic) → basic ≡ Integer → result ≡ Integer → Operates op basic result → IsTrue (is_arithmetic op)
unfolding is_arithmetic
arithmetic_is op basic result one other typed.adds = refl
arithmetic_is op basic result one other typed.subtracts = refl
arithmetic_is op basic result one other typed.multiplies = refl
arithmetic_is op basic result one other typed.divides = refl
arithmetic_is op basic result one other _ = absurd (cc)

pub of_variables_is : (c : Facts) (t : Term) → IsOfVariables c t → IsTrue (is_of_variables c t)
unfolding is_of_variables are_of_variables is_integer is_integer_variable is_negation is_power are_two same_basic
of_variables_is c t (formed.a_constant z) = refl
of_variables_is c t (formed.a_variable x v) =
    both_are (is_variable (c.program.attribute x).class) (same_basic (c.program.attribute x).basic Integer) v.class_is
    (subst (λ b. IsTrue (same_basic b Integer)) (sym v.basic_is) refl)
of_variables_is c t (formed.negated u is) = of_variables_is c u is
of_variables_is c t (formed.combined op u w operates left right) =
    both_are (is_arithmetic op) (is_of_variables c u && is_of_variables c w) (arithmetic_is op Integer Integer refl refl operates)
    (both_are (is_of_variables c u) (is_of_variables c w) (of_variables_is c u left) (of_variables_is c w right))
of_variables_is c t (formed.raised u w left right) =
    both_are (is_of_variables c u) (is_of_variables c w && true) (of_variables_is c u left) (both_are (is_of_variables c w) true (of_variables_is c w right) refl)

pub upper_is : (c : Facts) (upper : Option Term) → IsUpper c upper → IsTrue (is_upper c upper)
unfolding is_upper
upper_is c upper formed.assumed = refl
upper_is c upper (formed.written t is) = of_variables_is c t is

pub dimensions_are : (c : Facts) (ds : List Dimension) → AreDimensions c ds → IsTrue (are_dimensions c ds)
unfolding are_dimensions
dimensions_are c ds formed.no_dimensions = refl
dimensions_are c ds (formed.more_dimensions d more lower upper are) =
    both_are (is_of_variables c d.lower && is_upper c d.upper) (are_dimensions c more)
    (both_are (is_of_variables c d.lower) (is_upper c d.upper) (of_variables_is c d.lower lower) (upper_is c d.upper upper)) (dimensions_are c more are)

pub result_is : (c : Facts) (x : Bytes) → IsResult c x → IsTrue (is_function c.program.kind && is_scalar (c.program.attribute x))
unfolding is_function is_scalar is_not_empty
result_is c x is =
    let a : Attribute = c.program.attribute x in
    both_are (is_function c.program.kind) (not (is_not_empty a.dimensions) && not (is_not_empty a.bounds))
    (subst (λ k. IsTrue (is_function k)) (sym is.kind_is) refl)
    (both_are (not (is_not_empty a.dimensions)) (not (is_not_empty a.bounds)) (subst (λ ds. IsTrue (not (is_not_empty ds))) (sym is.no_dimensions) refl)
    (subst (λ bs. IsTrue (not (is_not_empty bs))) (sym is.no_bounds) refl))

pub wants_met : (c : Facts) (n : ℕ) (x : Bytes) (k : Class) → (k ≡ class.Stored → IsStored c n x) →
    (IsTrue (is_dummy k) → AreDimensions c (c.program.attribute x).dimensions) → (k ≡ class.Result → IsResult c x) →
    IsTrue (has_what_it_wants k c n x (c.program.attribute x))
unfolding has_what_it_wants is_dummy
wants_met c n x class.Stored stored dummy result = stored_is c n x (stored refl)
wants_met c n x class.Dummy stored dummy result = dimensions_are c (c.program.attribute x).dimensions (dummy refl)
wants_met c n x class.DummyProcedure stored dummy result = dimensions_are c (c.program.attribute x).dimensions (dummy refl)
wants_met c n x class.Result stored dummy result = result_is c x (result refl)
wants_met c n x _ stored dummy result = refl

pub names_are : (c : Facts) (n : ℕ) (ds : List Described) → ((x : Bytes) → IsTrue (is_name_formed c n x)) → IsTrue (are_names_formed c n ds)
unfolding are_names_formed
names_are c n [] well = refl
names_are c n (d ∷ ds) well = both_are (is_name_formed c n d.name) (are_names_formed c n ds) (well d.name) (names_are c n ds well)

-- units
pub entries_are : (n : ℕ) (es : List EntryPoint) → ((e : EntryPoint) → IsIn e es → e.start < n) → IsTrue (are_entries_within n es)
unfolding are_entries_within
entries_are n [] within = refl
entries_are n (e ∷ es) within =
    both_are (nat_lt e.start n) (are_entries_within n es) (lt-ltb e.start n (within e first_in)) (entries_are n es (λ other is. within other (later_in is)))

pub unit_is : (c : Facts) (n : ℕ) (ds : List Described) → IsWellFormed c n → IsTrue (is_unit_formed c n ds)
unfolding is_unit_formed is_name_formed
unit_is c n ds well =
    let shift : (k at : ℕ) (line : Line) → at ≡ 0 + k → slice_get c.program.lines k ≡ Some line → IsFormed c n at None line.form =
    λ k at line is there. let same : k ≡ at = omega arith in subst (λ j. IsFormed c n j None line.form) same (well.statements k line there) in
    let lines : IsTrue (are_formed c n 0 c.program.lines) = lines_are c n c.program.lines 0 shift in
    let entries : IsTrue (are_entries_within (length c.program.lines) c.program.entries) = entries_are (length c.program.lines) c.program.entries well.entries in
    let name : (x : Bytes) → IsTrue (is_name_formed c n x) =
    λ x. wants_met c n x (c.program.attribute x).class (well.stored x) (well.dummies x) (well.results x) in
    both_are (are_formed c n 0 c.program.lines && is_nest 0 c.program.lines)
    ((is_not_empty c.program.entries && are_entries_within (length c.program.lines) c.program.entries) && are_names_formed c n ds)
    (both_are (are_formed c n 0 c.program.lines) (is_nest 0 c.program.lines) lines (nest_is 0 c.program.lines well.nest))
    (both_are (is_not_empty c.program.entries && are_entries_within (length c.program.lines) c.program.entries) (are_names_formed c n ds)
    (both_are (is_not_empty c.program.entries) (are_entries_within (length c.program.lines) c.program.entries) well.named entries) (names_are c n ds name))

pub units_are : (options : Options) (g : Setting) (us : List WrittenUnit) (i : ℕ) →
    ((j k : ℕ) (u : ProgramUnit) → k ≡ i + j → slice_get (map (unit_read options) us) j ≡ Some u → IsWellFormed (facts_at g k (Some u)) (length g.sizes)) →
    IsTrue (are_units_formed options g i us)
unfolding are_units_formed
units_are options g [] i well = refl
units_are options g (u ∷ us) i well =
    both_are (is_unit_formed (facts_at g i (Some (unit_read options u))) (length g.sizes) (all_described u)) (are_units_formed options g (suc i) us)
    (unit_is (facts_at g i (Some (unit_read options u))) (length g.sizes) (all_described u) (well 0 i (unit_read options u) (omega arith) refl))
    (units_are options g us (suc i) (λ j k v is there. well (suc j) k v (omega arith) there))

pub well_found : EachWellFormedSetIsFound
unfolding is_set_formed units_of
well_found options g set well =
    units_are options g (written_in set.files) 0
    (λ j k u is there. let same : j ≡ k = omega arith in
    subst (λ i. IsWellFormed (facts_at g i (Some u)) (length g.sizes)) same
    (well.each j u (subst (λ us. slice_get us j ≡ Some u) (sym (units_written options set.files)) there)))
