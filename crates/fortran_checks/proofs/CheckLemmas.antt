-- What is checked is well formed: sort by sort, statement by statement, name by name.
use Rattle.std.specs.Prelude.{◌≡◌, ℕ, zero, suc, ◌+◌, ◌<◌, nat_eq, nat_lt, Bool, true, false, not, ◌&&◌, ◌||◌, List, [], ◌∷◌, ◌++◌, length, map, bytes_eq, Option, Some, None, is_some, slice_get, IsTrue, if◌then◌else◌}
use Rattle.std.proofs.Common.{refl, sym, ap, ◌∙◌, subst, arith}
use Rattle.std.proofs.lemmas.Bool.{eqb-true, ltb-true}
use Rattle.std.proofs.lemmas.List.{map-append}
use Rattle.std.proofs.lemmas.Slice.Eq.{bytes_eq-Decides}
use Rattle.f_tree.specs.declared.names.Basic.{Basic}
use Rattle.f_tree.specs.declared.names.Basic.TheVariants.{Integer, Logical, Character, Untyped}
use Rattle.f_tree.specs.declared.names.Class.{Class}
use Rattle.f_tree.specs.declared.names.Class.TheVariants as class
use Rattle.f_tree.specs.declared.names.Options.{Options}
use Rattle.f_tree.specs.declared.units.Unit.{Unit as WrittenUnit}
use Rattle.f_tree.specs.declared.units.File.{File}
use Rattle.f_tree.specs.declared.units.FileSet.{FileSet}
use Rattle.f_tree.specs.Values.{Bytes, Spot, Datum, IsInt, IsLog, IsText, IsSpot, IsProc, IsLabel, Nothing}
use Rattle.f_tree.specs.Terms.{Prefix, Negate, Complement, Operator, Add, Subtract, Multiply, Divide, IsLess, IsLessOrEqual, IsEqual, IsNotEqual, IsGreater, IsGreaterOrEqual, Both, Either, Same, Different, Function, Power, Truncation, Magnitude, Remainder, SignTransfer, PositiveDifference, Largest, Smallest, CharacterCode, CharacterOfCode, TextLength, IndexOf, LexicallyGreaterOrEqual, LexicallyGreater, LexicallyLessOrEqual, LexicallyLess, Front, Fitted, InclusiveOr, LogicalProduct, ExclusiveOr, BitComplement, BitShift, BitTest, BitSet, BitClear, Wanted, AsSubroutine, AsFunction, Term, Val, Fetch, At, All, Element, Alone, Part, Joined, Before as Prefixed, Between, Intrinsically, Refer, Bind, Bound, Terms, NoMore, More}
use Rattle.f_tree.specs.Association.{same_basic}
use Rattle.f_tree.specs.Facts.{Dimension, Attribute, UnitKind, FunctionUnit, EntryPoint, Direction, Input, Output, Layout, Listed, Labelled, Computed, Unformatted, Word, UnitWord, FormatWord, StatusWord, FileWord, FileStatusWord, AccessWord, FormWord, BlankWord, Controls, Job, Item, Repeated, Turn, Work, Done, Before, Head, ToSet, ToSetText, ToSetLabel, ToGo, ToPick, ToGoAssigned, ToGoBySign, ToGuard, ToEnterArm, ToLoop, ToTestLoop, ToCall, ToReturn, ToStop, ToBegin, ToAuxiliary, ToEnd, Form, Passes, On, Mark, Plain, Opens, Arm, Closes, Line, ProgramUnit, Facts}
use Rattle.f_tree.specs.Places.{place_of_label, terminal_of}
use Rattle.f_tree.specs.Valuing.{elements_of}
use Rattle.f_tree.specs.Attributes.{is_not_empty, bare, Described, all_described, attribute_in}
use Rattle.f_tree.specs.Lines.{program_of, with_ties, unit_read}
use Rattle.f_tree.specs.Setting.{Setting, IsIn, first_in, later_in}
use Rattle.f_tree.specs.Meaning.{units_in, units_of, facts_at}
use Rattle.f_tree.specs.Runs.{no_options, setting_apart}
use Rattle.f_tree.specs.WellTyped as typed
use Rattle.f_tree.specs.WellTyped.{Sort, ValueOf, PlaceOf, AProcedure, ALabel, Absent, IsOf, IsValued, Precedes, Operates, Applies, IsPiece, ArePieces, IsLast, IsNth, Typed, AreTyped, integers_of, rank_of, is_variable, is_procedure_name, has_size, is_callee}
use Rattle.f_tree.specs.WellFormed as formed
use Rattle.f_tree.specs.WellFormed.{HasStatement, HasTerminal, EachStands, takes_step, MayStand, WordTakes, WordsTake, unit_sort, HasLayout, IsListed, loop_sorts, JobIsFormed, WorkIsFormed, ArePassed, ArePiecesAndPlace, Takes, IsFormed, IsNest, IsStored, IsOfVariables, IsUpper, AreDimensions, IsResult, is_dummy, IsWellFormed, AreWellFormed}
use Rattle.f_tree.specs.Checks.{if_some, provided, is_some_such, is_valued, same_sort, same_sorts, is_sort, are_sorts, placed_basic, valued_basic, is_piece, are_pieces, is_last, prefixed_basic, over_integers, over_logicals, over_ordered, operated_basic, extreme_basic, applied_basic, datum_sort, name_sort, referred_sort, sort_of, sorts_of, has_statement, has_terminal, each_stands, may_stand, word_takes, words_take, has_layout, is_listed, is_job_formed, is_work_formed, is_passed, are_passed, is_set, are_pieces_and_place, is_arm, controls_stand, takes, is_formed, are_formed, ends_unit, is_end, is_plain, is_last_line, depth_behind, is_nest, has_home, is_stored_well, is_integer_variable, is_integer, is_negation, is_power, is_arithmetic, are_two, is_of_variables, are_of_variables, is_upper, are_dimensions, is_function, is_scalar, has_what_it_wants, is_name_formed, are_names_formed, are_entries_within, is_unit_formed, are_units_formed, written_in, is_set_formed, are_sets_formed, EachIsWellFormed, EachCheckedSetIsWellFormed}

-- what is found has a property
unfoldable pub Finds : {A : Type 0} → (A → Type 0) → Option A → Type 0
Finds P None = Unit {0}
Finds P (Some a) = P a

pub some_found : {A B : Type 0} (P : A → Type 0) (Q : B → Type 0) (o : Option A) (go : A → Option B) → Finds P o → ((a : A) → P a → Finds Q (go a)) →
    Finds Q (if_some o go)
unfolding Finds if_some
some_found P Q None go found next = tt
some_found P Q (Some a) go found next = next a found

pub provided_found : {A : Type 0} (P : A → Type 0) (b : Bool) (a : A) → (IsTrue b → P a) → Finds P (provided b a)
unfolding Finds provided
provided_found P true a next = next refl
provided_found P false a next = tt

pub more_found : {A : Type 0} (P Q : A → Type 0) (o : Option A) → Finds P o → ((a : A) → P a → Q a) → Finds Q o
unfolding Finds
more_found P Q None found more = tt
more_found P Q (Some a) found more = more a found

pub either_found : {A : Type 0} (P : A → Type 0) (b : Bool) (o p : Option A) → (IsTrue b → Finds P o) → Finds P p → Finds P (if b then o else p)
either_found P true o p one other = one refl
either_found P false o p one other = other

pub itself_found : {A : Type 0} (o : Option A) → Finds (λ a. o ≡ Some a) o
unfolding Finds
itself_found None = tt
itself_found (Some a) = refl

-- what is found is such
pub such_found : {A : Type 0} (P : A → Type 0) (R : Type 0) (o : Option A) (test : A → Bool) → Finds P o → IsTrue (is_some_such o test) →
    ((a : A) → P a → IsTrue (test a) → R) → R
unfolding Finds is_some_such
such_found P R None test found such next = absurd (cc)
such_found P R (Some a) test found such next = next a found such

pub both_hold : (a b : Bool) → IsTrue (a && b) → IsTrue a × IsTrue b
both_hold true true both = (refl, refl)
both_hold true false both = absurd (cc)
both_hold false b both = absurd (cc)

pub either_holds : (R : Type 0) (a b : Bool) → IsTrue (a || b) → (IsTrue a → R) → (IsTrue b → R) → R
either_holds R true b either one other = one refl
either_holds R false b either one other = other either

-- types and sorts that are the same
pub same_basics : (a b : Basic) → IsTrue (same_basic a b) → a ≡ b
unfolding same_basic
same_basics Integer Integer same = refl
same_basics Logical Logical same = refl
same_basics Character Character same = refl
same_basics _ _ same = absurd (cc)

pub same_valued : (a b : Basic) → IsTrue (same_basic a b) → IsValued a
unfolding same_basic
same_valued Integer b same = typed.integers
same_valued Logical b same = typed.logicals
same_valued Character b same = typed.texts
same_valued Untyped b same = absurd (cc)

pub valued_well : (basic : Basic) → IsTrue (is_valued basic) → IsValued basic
unfolding is_valued
valued_well Integer valued = typed.integers
valued_well Logical valued = typed.logicals
valued_well Character valued = typed.texts
valued_well Untyped valued = absurd (cc)

pub same_sort_is : (a b : Sort) → IsTrue (same_sort a b) → a ≡ b
unfolding same_sort
same_sort_is (ValueOf a) (ValueOf b) same = ap ValueOf (same_basics a b same)
same_sort_is (PlaceOf a) (PlaceOf b) same = ap PlaceOf (same_basics a b same)
same_sort_is _ _ same = absurd (cc)

pub same_sorts_are : (sorts others : List Sort) → IsTrue (same_sorts sorts others) → sorts ≡ others
unfolding same_sorts
same_sorts_are [] [] same = refl
same_sorts_are (a ∷ as') (b ∷ bs) same =
    let h : IsTrue (same_sort a b) × IsTrue (same_sorts as' bs) = both_hold (same_sort a b) (same_sorts as' bs) same in
    subst (λ x. (a ∷ as') ≡ (x ∷ bs)) (same_sort_is a b h.0) (ap (λ xs. a ∷ xs) (same_sorts_are as' bs h.1))
same_sorts_are _ _ same = absurd (cc)

-- sorts that are fixed
pub fixed : (P : List Sort → Type 0) (sorts others : List Sort) → IsTrue (same_sorts sorts others) → P sorts → P others
fixed P sorts others same of = subst P (same_sorts_are sorts others same) of

pub sort_fixed : (P : Sort → Type 0) (sort : Sort) (o : Option Sort) → IsTrue (is_sort sort o) → Finds P o → P sort
unfolding Finds is_sort
sort_fixed P sort None same found = absurd (cc)
sort_fixed P sort (Some other) same found = subst P (sym (same_sort_is sort other same)) found

pub sorts_fixed : (P : List Sort → Type 0) (sorts : List Sort) (o : Option (List Sort)) → IsTrue (are_sorts sorts o) → Finds P o → P sorts
unfolding Finds are_sorts
sorts_fixed P sorts None same found = absurd (cc)
sorts_fixed P sorts (Some others) same found = subst P (sym (same_sorts_are sorts others same)) found

pub placed_found : (P : Sort → Type 0) (o : Option Sort) → Finds P o → Finds (λ basic. P (PlaceOf basic)) (placed_basic o)
unfolding Finds placed_basic
placed_found P (Some (PlaceOf basic)) found = found
placed_found P _ found = tt

pub valued_found : (P : Sort → Type 0) (o : Option Sort) → Finds P o → Finds (λ basic. P (ValueOf basic)) (valued_basic o)
unfolding Finds valued_basic
valued_found P (Some (ValueOf basic)) found = found
valued_found P _ found = tt

pub piece_well : (sort : Sort) → IsTrue (is_piece sort) → IsPiece sort
unfolding is_piece
piece_well (ValueOf Character) piece = typed.piece_value
piece_well (PlaceOf Character) piece = typed.piece_place
piece_well _ piece = absurd (cc)

pub pieces_well : (sorts : List Sort) → IsTrue (are_pieces sorts) → ArePieces sorts
unfolding are_pieces
pieces_well [] pieces = typed.no_pieces
pieces_well (sort ∷ sorts) pieces =
    let h : IsTrue (is_piece sort) × IsTrue (are_pieces sorts) = both_hold (is_piece sort) (are_pieces sorts) pieces in
    typed.more_pieces sort sorts (piece_well sort h.0) (pieces_well sorts h.1)

pub last_well : (sort : Sort) → IsTrue (is_last sort) → IsLast sort
unfolding is_last
last_well (ValueOf Integer) last = typed.written_last
last_well Absent last = typed.own_last
last_well _ last = absurd (cc)

-- operators and functions
pub precedes_well : (op : Prefix) → Precedes op (prefixed_basic op)
unfolding prefixed_basic
precedes_well Negate = typed.negates
precedes_well Complement = typed.complements

pub over_integers_found : (P : Basic → Basic → Type 0) (result basic : Basic) → P Integer result → Finds (λ r. P basic r) (over_integers basic result)
unfolding Finds over_integers
over_integers_found P result Integer of = of
over_integers_found P result _ of = tt

pub over_logicals_found : (P : Basic → Basic → Type 0) (basic : Basic) → P Logical Logical → Finds (λ r. P basic r) (over_logicals basic)
unfolding Finds over_logicals
over_logicals_found P Logical of = of
over_logicals_found P _ of = tt

pub over_ordered_found : (P : Basic → Basic → Type 0) (basic : Basic) → P Integer Logical → P Character Logical → Finds (λ r. P basic r) (over_ordered basic)
unfolding Finds over_ordered
over_ordered_found P Integer one other = one
over_ordered_found P Character one other = other
over_ordered_found P _ one other = tt

pub operated_found : (op : Operator) (basic : Basic) → Finds (λ result. Operates op basic result) (operated_basic op basic)
unfolding operated_basic
operated_found Add basic = over_integers_found (Operates Add) Integer basic typed.adds
operated_found Subtract basic = over_integers_found (Operates Subtract) Integer basic typed.subtracts
operated_found Multiply basic = over_integers_found (Operates Multiply) Integer basic typed.multiplies
operated_found Divide basic = over_integers_found (Operates Divide) Integer basic typed.divides
operated_found IsLess basic = over_ordered_found (Operates IsLess) basic typed.less typed.text_less
operated_found IsLessOrEqual basic = over_ordered_found (Operates IsLessOrEqual) basic typed.less_or_equal typed.text_less_or_equal
operated_found IsEqual basic = over_ordered_found (Operates IsEqual) basic typed.equal typed.text_equal
operated_found IsNotEqual basic = over_ordered_found (Operates IsNotEqual) basic typed.not_equal typed.text_not_equal
operated_found IsGreater basic = over_ordered_found (Operates IsGreater) basic typed.greater typed.text_greater
operated_found IsGreaterOrEqual basic = over_ordered_found (Operates IsGreaterOrEqual) basic typed.greater_or_equal typed.text_greater_or_equal
operated_found Both basic = over_logicals_found (Operates Both) basic typed.both
operated_found Either basic = over_logicals_found (Operates Either) basic typed.either
operated_found Same basic = over_logicals_found (Operates Same) basic typed.same
operated_found Different basic = over_logicals_found (Operates Different) basic typed.different

-- a function of fixed sorts
pub fixed_found : (function : Function) (basic : Basic) (sorts others : List Sort) → Applies function sorts basic →
    Finds (λ r. Applies function others r) (provided (same_sorts sorts others) basic)
fixed_found function basic sorts others applies =
    provided_found (λ r. Applies function others r) (same_sorts sorts others) basic (λ same. fixed (λ ss. Applies function ss basic) sorts others same applies)

pub extreme_found : (function : Function) (sorts : List Sort) → ((n : ℕ) → Applies function (ValueOf Integer ∷ integers_of n) Integer) →
    Finds (λ r. Applies function sorts r) (extreme_basic sorts)
unfolding Finds extreme_basic
extreme_found function [] applies = tt
extreme_found function (sort ∷ sorts) applies = fixed_found function Integer (ValueOf Integer ∷ integers_of (length sorts)) (sort ∷ sorts) (applies (length sorts))

pub lengths_applied : (sorts : List Sort) → IsTrue (is_not_empty sorts) → IsTrue (are_pieces sorts) → Applies TextLength sorts Integer
unfolding is_not_empty
lengths_applied [] some pieces = absurd (cc)
lengths_applied (sort ∷ sorts) some pieces = typed.length_of_pieces sort sorts (pieces_well (sort ∷ sorts) pieces)

pub length_found : (sorts : List Sort) → Finds (λ r. Applies TextLength sorts r) (applied_basic TextLength sorts)
unfolding applied_basic
length_found sorts =
    provided_found (λ r. Applies TextLength sorts r) (is_not_empty sorts && are_pieces sorts) Integer
    (λ both. let h : IsTrue (is_not_empty sorts) × IsTrue (are_pieces sorts) = both_hold (is_not_empty sorts) (are_pieces sorts) both in lengths_applied sorts h.0 h.1)

pub applied_found : (function : Function) (sorts : List Sort) → Finds (λ basic. Applies function sorts basic) (applied_basic function sorts)
unfolding applied_basic
applied_found Power sorts = fixed_found Power Integer (ValueOf Integer ∷ ValueOf Integer ∷ []) sorts typed.power
applied_found Truncation sorts = fixed_found Truncation Integer (ValueOf Integer ∷ []) sorts typed.truncation
applied_found Magnitude sorts = fixed_found Magnitude Integer (ValueOf Integer ∷ []) sorts typed.magnitude
applied_found Remainder sorts = fixed_found Remainder Integer (ValueOf Integer ∷ ValueOf Integer ∷ []) sorts typed.remainder
applied_found SignTransfer sorts = fixed_found SignTransfer Integer (ValueOf Integer ∷ ValueOf Integer ∷ []) sorts typed.sign_transfer
applied_found PositiveDifference sorts = fixed_found PositiveDifference Integer (ValueOf Integer ∷ ValueOf Integer ∷ []) sorts typed.positive_difference
applied_found Largest sorts = extreme_found Largest sorts typed.largest
applied_found Smallest sorts = extreme_found Smallest sorts typed.smallest
applied_found CharacterCode sorts = fixed_found CharacterCode Integer (ValueOf Character ∷ []) sorts typed.character_code
applied_found CharacterOfCode sorts = fixed_found CharacterOfCode Character (ValueOf Integer ∷ []) sorts typed.character_of_code
applied_found TextLength sorts = length_found sorts
applied_found IndexOf sorts = fixed_found IndexOf Integer (ValueOf Character ∷ ValueOf Character ∷ []) sorts typed.index_of
applied_found LexicallyGreaterOrEqual sorts =
    fixed_found LexicallyGreaterOrEqual Logical (ValueOf Character ∷ ValueOf Character ∷ []) sorts typed.lexically_greater_or_equal
applied_found LexicallyGreater sorts = fixed_found LexicallyGreater Logical (ValueOf Character ∷ ValueOf Character ∷ []) sorts typed.lexically_greater
applied_found LexicallyLessOrEqual sorts = fixed_found LexicallyLessOrEqual Logical (ValueOf Character ∷ ValueOf Character ∷ []) sorts typed.lexically_less_or_equal
applied_found LexicallyLess sorts = fixed_found LexicallyLess Logical (ValueOf Character ∷ ValueOf Character ∷ []) sorts typed.lexically_less
applied_found (Front n) sorts = fixed_found (Front n) Character (ValueOf Character ∷ []) sorts (typed.front n)
applied_found (Fitted n) sorts = fixed_found (Fitted n) Character (ValueOf Character ∷ []) sorts (typed.fitted n)
applied_found InclusiveOr sorts = fixed_found InclusiveOr Integer (ValueOf Integer ∷ ValueOf Integer ∷ []) sorts typed.inclusive_or
applied_found LogicalProduct sorts = fixed_found LogicalProduct Integer (ValueOf Integer ∷ ValueOf Integer ∷ []) sorts typed.logical_product
applied_found ExclusiveOr sorts = fixed_found ExclusiveOr Integer (ValueOf Integer ∷ ValueOf Integer ∷ []) sorts typed.exclusive_or
applied_found BitComplement sorts = fixed_found BitComplement Integer (ValueOf Integer ∷ []) sorts typed.bit_complement
applied_found BitShift sorts = fixed_found BitShift Integer (ValueOf Integer ∷ ValueOf Integer ∷ []) sorts typed.bit_shift
applied_found BitTest sorts = fixed_found BitTest Logical (ValueOf Integer ∷ ValueOf Integer ∷ []) sorts typed.bit_test
applied_found BitSet sorts = fixed_found BitSet Integer (ValueOf Integer ∷ ValueOf Integer ∷ []) sorts typed.bit_set
applied_found BitClear sorts = fixed_found BitClear Integer (ValueOf Integer ∷ ValueOf Integer ∷ []) sorts typed.bit_clear

-- terms
pub spot_found : (n : ℕ) (p : Spot) → Finds (λ sort. IsOf n sort (IsSpot p)) (datum_sort n (IsSpot p))
unfolding Finds datum_sort
spot_found n p =
    provided_found (λ sort. IsOf n sort (IsSpot p)) (nat_lt p.sequence n) (PlaceOf p.basic)
    (λ within. typed.place p p.basic refl (ltb-true p.sequence n within))

pub datum_found : (c : Facts) (n : ℕ) (env : List Sort) (d : Datum) → Finds (λ sort. Typed c n env (Val d) sort) (datum_sort n d)
unfolding Finds datum_sort
datum_found c n env (IsInt z) = typed.is_val env (IsInt z) (ValueOf Integer) (typed.integer z)
datum_found c n env (IsLog b) = typed.is_val env (IsLog b) (ValueOf Logical) (typed.logical b)
datum_found c n env (IsText cs) = typed.is_val env (IsText cs) (ValueOf Character) (typed.text cs)
datum_found c n env (IsSpot p) =
    more_found (λ sort. IsOf n sort (IsSpot p)) (λ sort. Typed c n env (Val (IsSpot p)) sort) (datum_sort n (IsSpot p)) (spot_found n p)
    (λ sort of. typed.is_val env (IsSpot p) sort of)
datum_found c n env (IsProc x) = typed.is_val env (IsProc x) AProcedure (typed.procedure x)
datum_found c n env (IsLabel l) = typed.is_val env (IsLabel l) (ALabel l) (typed.label l)
datum_found c n env Nothing = typed.is_val env Nothing Absent typed.nothing

pub name_found : (c : Facts) (n : ℕ) (env : List Sort) (x : Bytes) → Finds (λ sort. Typed c n env (At x) sort) (name_sort (c.program.attribute x))
unfolding Finds name_sort
name_found c n env x =
    either_found (λ sort. Typed c n env (At x) sort) (is_variable (c.program.attribute x).class) (Some (PlaceOf (c.program.attribute x).basic))
    (provided (is_procedure_name (c.program.attribute x).class) AProcedure)
    (λ is. typed.is_at env x (c.program.attribute x).basic (record { class_is = is; basic_is = refl }))
    (provided_found (λ sort. Typed c n env (At x) sort) (is_procedure_name (c.program.attribute x).class) AProcedure (λ is. typed.is_named_procedure env x is))

pub nth_found : (env : List Sort) (k : ℕ) → Finds (λ sort. IsNth env k sort) (slice_get env k)
unfolding Finds
nth_found [] k = tt
nth_found (sort ∷ sorts) zero = typed.first_one sort sorts
nth_found (other ∷ sorts) (suc k) =
    more_found (λ sort. IsNth sorts k sort) (λ sort. IsNth (other ∷ sorts) (suc k) sort) (slice_get sorts k) (nth_found sorts k)
    (λ sort nth. typed.later_one other sorts k sort nth)

pub referred_found : (c : Facts) (n : ℕ) (env : List Sort) (x : Bytes) (want : Wanted) (ts : Terms) (sorts : List Sort) → AreTyped c n env ts sorts →
    Finds (λ sort. Typed c n env (Refer (record { name = x; want = want }) ts) sort) (referred_sort (is_callee (c.program.attribute x).class) want)
unfolding Finds referred_sort
referred_found c n env x AsSubroutine ts sorts are = tt
referred_found c n env x (AsFunction basic width) ts sorts are =
    provided_found (λ sort. Typed c n env (Refer (record { name = x; want = AsFunction basic width }) ts) sort) (is_callee (c.program.attribute x).class) (ValueOf basic)
    (λ callee. typed.is_refer env x basic width ts sorts callee are)

mutual
  unfolding Finds sort_of sorts_of

  pub term_found : (c : Facts) (n : ℕ) (env : List Sort) (t : Term) → Finds (λ sort. Typed c n env t sort) (sort_of c n env t)
  term_found c n env (Val d) = datum_found c n env d
  term_found c n env (Fetch t) =
      some_found (λ basic. Typed c n env t (PlaceOf basic)) (λ sort. Typed c n env (Fetch t) sort) (placed_basic (sort_of c n env t))
      (λ basic. provided (is_valued basic) (ValueOf basic)) (placed_found (λ sort. Typed c n env t sort) (sort_of c n env t) (term_found c n env t))
      (λ basic is. provided_found (λ sort. Typed c n env (Fetch t) sort) (is_valued basic) (ValueOf basic)
      (λ valued. typed.is_fetch env t basic (valued_well basic valued) is))
  term_found c n env (At x) = name_found c n env x
  term_found c n env (All x) =
      provided_found (λ sort. Typed c n env (All x) sort) (is_variable (c.program.attribute x).class && has_size (c.program.attribute x).dimensions)
      (PlaceOf (c.program.attribute x).basic)
      (λ both. let h : IsTrue (is_variable (c.program.attribute x).class) × IsTrue (has_size (c.program.attribute x).dimensions) =
      both_hold (is_variable (c.program.attribute x).class) (has_size (c.program.attribute x).dimensions) both in
      typed.is_all env x (c.program.attribute x).basic (record { class_is = h.0; basic_is = refl }) h.1)
  term_found c n env (Element x ts) =
      provided_found (λ sort. Typed c n env (Element x ts) sort)
      (is_variable (c.program.attribute x).class && are_sorts (integers_of (rank_of c x)) (sorts_of c n env ts)) (PlaceOf (c.program.attribute x).basic)
      (λ both. let h : IsTrue (is_variable (c.program.attribute x).class) × IsTrue (are_sorts (integers_of (rank_of c x)) (sorts_of c n env ts)) =
      both_hold (is_variable (c.program.attribute x).class) (are_sorts (integers_of (rank_of c x)) (sorts_of c n env ts)) both in
      typed.is_element env x ts (c.program.attribute x).basic (record { class_is = h.0; basic_is = refl })
      (sorts_fixed (λ sorts. AreTyped c n env ts sorts) (integers_of (rank_of c x)) (sorts_of c n env ts) h.1 (terms_found c n env ts)))
  term_found c n env (Alone t) =
      some_found (λ basic. Typed c n env t (PlaceOf basic)) (λ sort. Typed c n env (Alone t) sort) (placed_basic (sort_of c n env t)) (λ basic. Some (PlaceOf basic))
      (placed_found (λ sort. Typed c n env t sort) (sort_of c n env t) (term_found c n env t)) (λ basic is. typed.is_alone env t basic is)
  term_found c n env (Part x t from to) =
      provided_found (λ sort. Typed c n env (Part x t from to) sort)
      (is_sort (PlaceOf Character) (sort_of c n env t) && (is_sort (ValueOf Integer) (sort_of c n env from) && is_some_such (sort_of c n env to) is_last)) (PlaceOf Character)
      (λ all. let h : IsTrue (is_sort (PlaceOf Character) (sort_of c n env t)) ×
      IsTrue (is_sort (ValueOf Integer) (sort_of c n env from) && is_some_such (sort_of c n env to) is_last) = both_hold _ _ all in
      let k : IsTrue (is_sort (ValueOf Integer) (sort_of c n env from)) × IsTrue (is_some_such (sort_of c n env to) is_last) = both_hold _ _ h.1 in
      such_found (λ sort. Typed c n env to sort) (Typed c n env (Part x t from to) (PlaceOf Character)) (sort_of c n env to) is_last (term_found c n env to) k.1
      (λ last is such. typed.is_part env x t from to last (last_well last such)
      (sort_fixed (λ sort. Typed c n env t sort) (PlaceOf Character) (sort_of c n env t) h.0 (term_found c n env t))
      (sort_fixed (λ sort. Typed c n env from sort) (ValueOf Integer) (sort_of c n env from) k.0 (term_found c n env from)) is))
  term_found c n env (Joined ts) =
      some_found (λ sorts. AreTyped c n env ts sorts) (λ sort. Typed c n env (Joined ts) sort) (sorts_of c n env ts)
      (λ sorts. provided (are_pieces sorts) (ValueOf Character)) (terms_found c n env ts)
      (λ sorts are. provided_found (λ sort. Typed c n env (Joined ts) sort) (are_pieces sorts) (ValueOf Character)
      (λ pieces. typed.is_joined env ts sorts (pieces_well sorts pieces) are))
  term_found c n env (Prefixed op t) =
      provided_found (λ sort. Typed c n env (Prefixed op t) sort) (is_sort (ValueOf (prefixed_basic op)) (sort_of c n env t)) (ValueOf (prefixed_basic op))
      (λ same. typed.is_before env op t (prefixed_basic op) (precedes_well op)
      (sort_fixed (λ sort. Typed c n env t sort) (ValueOf (prefixed_basic op)) (sort_of c n env t) same (term_found c n env t)))
  term_found c n env (Between op t u) =
      some_found (λ basic. Typed c n env t (ValueOf basic)) (λ sort. Typed c n env (Between op t u) sort) (valued_basic (sort_of c n env t))
      (λ basic. if_some (operated_basic op basic) (λ result. provided (is_sort (ValueOf basic) (sort_of c n env u)) (ValueOf result)))
      (valued_found (λ sort. Typed c n env t sort) (sort_of c n env t) (term_found c n env t))
      (λ basic is. some_found (λ result. Operates op basic result) (λ sort. Typed c n env (Between op t u) sort) (operated_basic op basic)
      (λ result. provided (is_sort (ValueOf basic) (sort_of c n env u)) (ValueOf result)) (operated_found op basic)
      (λ result operates. provided_found (λ sort. Typed c n env (Between op t u) sort) (is_sort (ValueOf basic) (sort_of c n env u)) (ValueOf result)
      (λ same. typed.is_between env op t u basic result operates is
      (sort_fixed (λ sort. Typed c n env u sort) (ValueOf basic) (sort_of c n env u) same (term_found c n env u)))))
  term_found c n env (Intrinsically function ts) =
      some_found (λ sorts. AreTyped c n env ts sorts) (λ sort. Typed c n env (Intrinsically function ts) sort) (sorts_of c n env ts)
      (λ sorts. if_some (applied_basic function sorts) (λ basic. Some (ValueOf basic))) (terms_found c n env ts)
      (λ sorts are. some_found (λ basic. Applies function sorts basic) (λ sort. Typed c n env (Intrinsically function ts) sort) (applied_basic function sorts)
      (λ basic. Some (ValueOf basic)) (applied_found function sorts) (λ basic applies. typed.is_intrinsic env function ts sorts basic applies are))
  term_found c n env (Refer callee ts) =
      some_found (λ sorts. AreTyped c n env ts sorts) (λ sort. Typed c n env (Refer callee ts) sort) (sorts_of c n env ts)
      (λ sorts. referred_sort (is_callee (c.program.attribute callee.name).class) callee.want) (terms_found c n env ts)
      (λ sorts are. referred_found c n env callee.name callee.want ts sorts are)
  term_found c n env (Bind ts t) =
      some_found (λ sorts. AreTyped c n env ts sorts) (λ sort. Typed c n env (Bind ts t) sort) (sorts_of c n env ts) (λ sorts. sort_of c n sorts t)
      (terms_found c n env ts)
      (λ sorts are. more_found (λ sort. Typed c n sorts t sort) (λ sort. Typed c n env (Bind ts t) sort) (sort_of c n sorts t) (term_found c n sorts t)
      (λ sort is. typed.is_bind env ts sorts t sort are is))
  term_found c n env (Bound k) =
      more_found (λ sort. IsNth env k sort) (λ sort. Typed c n env (Bound k) sort) (slice_get env k) (nth_found env k) (λ sort nth. typed.is_bound env k sort nth)

  pub terms_found : (c : Facts) (n : ℕ) (env : List Sort) (ts : Terms) → Finds (λ sorts. AreTyped c n env ts sorts) (sorts_of c n env ts)
  terms_found c n env NoMore = typed.no_terms env
  terms_found c n env (More t ts) =
      some_found (λ sort. Typed c n env t sort) (λ sorts. AreTyped c n env (More t ts) sorts) (sort_of c n env t)
      (λ sort. if_some (sorts_of c n env ts) (λ sorts. Some (sort ∷ sorts))) (term_found c n env t)
      (λ sort is. some_found (λ sorts. AreTyped c n env ts sorts) (λ sorts. AreTyped c n env (More t ts) sorts) (sorts_of c n env ts)
      (λ sorts. Some (sort ∷ sorts)) (terms_found c n env ts) (λ sorts are. typed.more_terms env t ts sort sorts is are))

-- labels
pub statement_there : (u : ProgramUnit) (label : ℕ) (o : Option ℕ) → place_of_label u label ≡ o → IsTrue (is_some o) → HasStatement u label
statement_there u label None there some = absurd (cc)
statement_there u label (Some at) there some = record { at = at; there = there }

pub statement_well : (u : ProgramUnit) (label : ℕ) → IsTrue (has_statement u label) → HasStatement u label
unfolding has_statement
statement_well u label stands = statement_there u label (place_of_label u label) refl stands

pub terminal_well : (u : ProgramUnit) (first : ℕ) (label : Option ℕ) → IsTrue (has_terminal u first label) → HasTerminal u first label
unfolding has_terminal
terminal_well u first label stands =
    such_found (λ at. terminal_of u first label ≡ Some at) (HasTerminal u first label) (terminal_of u first label) (λ at. nat_lt (suc at) (length u.lines))
    (itself_found (terminal_of u first label)) stands
    (λ at there before. record { at = at; there = there; before_end = ltb-true (suc at) (length u.lines) before })

pub each_well : (u : ProgramUnit) (labels : List ℕ) → IsTrue (each_stands u labels) → EachStands u labels
unfolding each_stands
each_well u [] stand = formed.none_stands
each_well u (label ∷ labels) stand =
    let h : IsTrue (has_statement u label) × IsTrue (each_stands u labels) = both_hold (has_statement u label) (each_stands u labels) stand in
    formed.one_stands label labels (statement_well u label h.0) (each_well u labels h.1)

pub may_well : (u : ProgramUnit) (label : Option ℕ) → IsTrue (may_stand u label) → MayStand u label
unfolding may_stand
may_well u None stands = formed.left_out
may_well u (Some label) stands = formed.stands label (statement_well u label stands)

-- control words and lists
pub word_well : (word : Word) (sort : Sort) → IsTrue (word_takes word sort) → WordTakes word sort
unfolding word_takes
word_well UnitWord sort takes =
    either_holds (WordTakes UnitWord sort) (same_sort (ValueOf Integer) sort) (same_sort (PlaceOf Character) sort) takes
    (λ same. subst (λ s. WordTakes UnitWord s) (same_sort_is (ValueOf Integer) sort same) formed.unit_number)
    (λ same. subst (λ s. WordTakes UnitWord s) (same_sort_is (PlaceOf Character) sort same) formed.internal_file)
word_well StatusWord sort takes = subst (λ s. WordTakes StatusWord s) (same_sort_is (PlaceOf Integer) sort takes) formed.status_place
word_well FormatWord sort takes = formed.format_text sort (piece_well sort takes)
word_well FileWord sort takes = formed.file_text sort (piece_well sort takes)
word_well FileStatusWord sort takes = formed.file_status_text sort (piece_well sort takes)
word_well AccessWord sort takes = formed.access_text sort (piece_well sort takes)
word_well FormWord sort takes = formed.form_text sort (piece_well sort takes)
word_well BlankWord sort takes = formed.blank_text sort (piece_well sort takes)

pub words_well : (words : List Word) (sorts : List Sort) → IsTrue (words_take words sorts) → WordsTake words sorts
unfolding words_take
words_well [] [] take = formed.no_words
words_well (word ∷ words) (sort ∷ sorts) take =
    let h : IsTrue (word_takes word sort) × IsTrue (words_take words sorts) = both_hold (word_takes word sort) (words_take words sorts) take in
    formed.more_words word words sort sorts (word_well word sort h.0) (words_well words sorts h.1)
words_well _ _ take = absurd (cc)

pub layout_well : (u : ProgramUnit) (words : List Word) (layout : Layout) → IsTrue (has_layout u words layout) → HasLayout u words layout
unfolding has_layout
layout_well u words Listed has = formed.by_list
layout_well u words (Labelled label) has = formed.by_label label has
layout_well u words Computed has = formed.by_operand has
layout_well u words Unformatted has = absurd (cc)

pub listed_well : (way : Direction) (sort : Sort) → IsTrue (is_listed way sort) → IsListed way sort
unfolding is_listed
listed_well Output (ValueOf basic) listed = formed.written_value basic (valued_well basic listed)
listed_well Output (PlaceOf basic) listed = formed.written_place basic (valued_well basic listed)
listed_well Input (PlaceOf basic) listed = formed.read_place basic (valued_well basic listed)
listed_well _ _ listed = absurd (cc)

mutual
  unfolding is_job_formed is_work_formed

  pub job_well : (c : Facts) (n : ℕ) (way : Direction) (job : Job) → IsTrue (is_job_formed c n way job) → JobIsFormed c n way job
  job_well c n way (Item t) well =
      such_found (λ sort. Typed c n [] t sort) (JobIsFormed c n way (Item t)) (sort_of c n [] t) (is_listed way) (term_found c n [] t) well
      (λ sort is listed. formed.item t sort (listed_well way sort listed) is)
  job_well c n way (Repeated items control) well =
      let h : IsTrue (is_work_formed c n way items) × IsTrue (are_sorts loop_sorts (sorts_of c n [] control)) =
      both_hold (is_work_formed c n way items) (are_sorts loop_sorts (sorts_of c n [] control)) well in
      formed.repeated items control (work_well c n way items h.0)
      (sorts_fixed (λ sorts. AreTyped c n [] control sorts) loop_sorts (sorts_of c n [] control) h.1 (terms_found c n [] control))
  job_well c n way (Turn items p left by given) well =
      let h : IsTrue (is_work_formed c n way items) × IsTrue (is_sort (PlaceOf Integer) (datum_sort n (IsSpot p))) =
      both_hold (is_work_formed c n way items) (is_sort (PlaceOf Integer) (datum_sort n (IsSpot p))) well in
      formed.turn items p left by given (work_well c n way items h.0)
      (sort_fixed (λ sort. IsOf n sort (IsSpot p)) (PlaceOf Integer) (datum_sort n (IsSpot p)) h.1 (spot_found n p))

  pub work_well : (c : Facts) (n : ℕ) (way : Direction) (work : Work) → IsTrue (is_work_formed c n way work) → WorkIsFormed c n way work
  work_well c n way Done well = formed.done
  work_well c n way (Before job work) well =
      let h : IsTrue (is_job_formed c n way job) × IsTrue (is_work_formed c n way work) = both_hold (is_job_formed c n way job) (is_work_formed c n way work) well in
      formed.before job work (job_well c n way job h.0) (work_well c n way work h.1)

-- statements
pub passed_well : (u : ProgramUnit) (sorts : List Sort) → IsTrue (are_passed u sorts) → ArePassed u sorts
unfolding are_passed is_passed
passed_well u [] passed = formed.none_passed
passed_well u (ValueOf basic ∷ sorts) passed = formed.value_passed basic sorts (passed_well u sorts (both_hold true (are_passed u sorts) passed).1)
passed_well u (PlaceOf basic ∷ sorts) passed = formed.place_passed basic sorts (passed_well u sorts (both_hold true (are_passed u sorts) passed).1)
passed_well u (AProcedure ∷ sorts) passed = formed.procedure_passed sorts (passed_well u sorts (both_hold true (are_passed u sorts) passed).1)
passed_well u (ALabel label ∷ sorts) passed =
    let h : IsTrue (has_statement u label) × IsTrue (are_passed u sorts) = both_hold (has_statement u label) (are_passed u sorts) passed in
    formed.label_passed label sorts (statement_well u label h.0) (passed_well u sorts h.1)
passed_well u (Absent ∷ sorts) passed = absurd (cc)

pub set_well : (c : Facts) (n at : ℕ) (sorts : List Sort) → IsTrue (is_set sorts) → Takes c n at None ToSet sorts
unfolding is_set
set_well c n at (ValueOf a ∷ PlaceOf b ∷ []) set =
    subst (λ x. Takes c n at None ToSet (ValueOf a ∷ PlaceOf x ∷ [])) (same_basics a b set) (formed.sets a (same_valued a b set))
set_well c n at _ set = absurd (cc)

pub pieces_and_place_well : (sorts : List Sort) → IsTrue (are_pieces_and_place sorts) → ArePiecesAndPlace sorts
unfolding are_pieces_and_place
pieces_and_place_well [] are = absurd (cc)
pieces_and_place_well (sort ∷ []) are = subst (λ s. ArePiecesAndPlace (s ∷ [])) (same_sort_is (PlaceOf Character) sort are) formed.the_place
pieces_and_place_well (sort ∷ other ∷ sorts) are =
    let h : IsTrue (is_piece sort) × IsTrue (are_pieces_and_place (other ∷ sorts)) = both_hold (is_piece sort) (are_pieces_and_place (other ∷ sorts)) are in
    formed.a_piece sort (other ∷ sorts) (piece_well sort h.0) (pieces_and_place_well (other ∷ sorts) h.1)

pub arm_well : (c : Facts) (n at : ℕ) (o : Option Line) → slice_get c.program.lines at ≡ o → IsTrue (is_arm o) → Takes c n at None ToEnterArm (ValueOf Logical ∷ [])
unfolding is_arm
arm_well c n at None there arm = absurd (cc)
arm_well c n at (Some line) there arm = formed.enters_arm line there arm

pub begins_well : (c : Facts) (n at : ℕ) (way : Direction) (layout : Layout) (controls : Controls) (work : Work) (sorts : List Sort) (o : Option Sort) →
    unit_sort controls.words sorts ≡ o → IsTrue (is_some o) → WordsTake controls.words sorts → HasLayout c.program controls.words layout →
    MayStand c.program controls.on_error → MayStand c.program controls.on_end → WorkIsFormed c n way work →
    Takes c n at None (ToBegin way layout controls work) sorts
begins_well c n at way layout controls work sorts None unit some words given on_error on_end are = absurd (cc)
begins_well c n at way layout controls work sorts (Some sort) unit some words given on_error on_end are =
    formed.begins way layout controls work sorts sort words unit given on_error on_end are

mutual
  unfolding takes is_formed each_stands controls_stand

  pub takes_well : (c : Facts) (n at : ℕ) (head : Head) (sorts : List Sort) → IsTrue (takes c n at head sorts) → Takes c n at None head sorts
  takes_well c n at ToSet sorts well = set_well c n at sorts well
  takes_well c n at ToSetText sorts well = formed.sets_text sorts (pieces_and_place_well sorts well)
  takes_well c n at (ToSetLabel label) sorts well = fixed (λ ss. Takes c n at None (ToSetLabel label) ss) (PlaceOf Integer ∷ []) sorts well (formed.sets_label label)
  takes_well c n at (ToGo label) sorts well =
      let h : IsTrue (has_statement c.program label) × IsTrue (same_sorts [] sorts) = both_hold (has_statement c.program label) (same_sorts [] sorts) well in
      fixed (λ ss. Takes c n at None (ToGo label) ss) [] sorts h.1 (formed.goes label (statement_well c.program label h.0))
  takes_well c n at (ToPick labels) sorts well =
      let h : IsTrue (each_stands c.program labels) × IsTrue (same_sorts (ValueOf Integer ∷ []) sorts) =
      both_hold (each_stands c.program labels) (same_sorts (ValueOf Integer ∷ []) sorts) well in
      fixed (λ ss. Takes c n at None (ToPick labels) ss) (ValueOf Integer ∷ []) sorts h.1 (formed.picks labels (each_well c.program labels h.0))
  takes_well c n at (ToGoAssigned labels) sorts well =
      fixed (λ ss. Takes c n at None (ToGoAssigned labels) ss) (PlaceOf Integer ∷ []) sorts well (formed.goes_assigned labels)
  takes_well c n at (ToGoBySign below even above) sorts well =
      let h : IsTrue (each_stands c.program (below ∷ even ∷ above ∷ [])) × IsTrue (same_sorts (ValueOf Integer ∷ []) sorts) =
      both_hold (each_stands c.program (below ∷ even ∷ above ∷ [])) (same_sorts (ValueOf Integer ∷ []) sorts) well in
      let j : IsTrue (has_statement c.program below) × IsTrue (each_stands c.program (even ∷ above ∷ [])) =
      both_hold (has_statement c.program below) (each_stands c.program (even ∷ above ∷ [])) h.0 in
      let k : IsTrue (has_statement c.program even) × IsTrue (each_stands c.program (above ∷ [])) =
      both_hold (has_statement c.program even) (each_stands c.program (above ∷ [])) j.1 in
      let l : IsTrue (has_statement c.program above) × IsTrue true = both_hold (has_statement c.program above) true k.1 in
      fixed (λ ss. Takes c n at None (ToGoBySign below even above) ss) (ValueOf Integer ∷ []) sorts h.1
      (formed.goes_by_sign below even above (statement_well c.program below j.0) (statement_well c.program even k.0) (statement_well c.program above l.0))
  takes_well c n at (ToGuard form) sorts well =
      let h : IsTrue (is_formed c n at form) × IsTrue (same_sorts (ValueOf Logical ∷ []) sorts) =
      both_hold (is_formed c n at form) (same_sorts (ValueOf Logical ∷ []) sorts) well in
      fixed (λ ss. Takes c n at None (ToGuard form) ss) (ValueOf Logical ∷ []) sorts h.1 (formed.guards form (formed_well c n at form h.0))
  takes_well c n at ToEnterArm sorts well =
      let h : IsTrue (is_arm (slice_get c.program.lines at)) × IsTrue (same_sorts (ValueOf Logical ∷ []) sorts) =
      both_hold (is_arm (slice_get c.program.lines at)) (same_sorts (ValueOf Logical ∷ []) sorts) well in
      fixed (λ ss. Takes c n at None ToEnterArm ss) (ValueOf Logical ∷ []) sorts h.1 (arm_well c n at (slice_get c.program.lines at) refl h.0)
  takes_well c n at (ToLoop label) sorts well =
      let h : IsTrue (has_terminal c.program at label) × IsTrue (same_sorts loop_sorts sorts) =
      both_hold (has_terminal c.program at label) (same_sorts loop_sorts sorts) well in
      fixed (λ ss. Takes c n at None (ToLoop label) ss) loop_sorts sorts h.1 (formed.loops label (terminal_well c.program at label h.0))
  takes_well c n at (ToTestLoop label) sorts well =
      let steps : Bool = is_some_such (slice_get c.program.lines at) (λ line. takes_step line.form) in
      let h : IsTrue (steps && has_terminal c.program at label) × IsTrue (same_sorts (ValueOf Logical ∷ []) sorts) = both_hold _ _ well in
      let j : IsTrue steps × IsTrue (has_terminal c.program at label) = both_hold _ _ h.0 in
      fixed (λ ss. Takes c n at None (ToTestLoop label) ss) (ValueOf Logical ∷ []) sorts h.1
      (such_found (λ line. slice_get c.program.lines at ≡ Some line) (Takes c n at None (ToTestLoop label) (ValueOf Logical ∷ [])) (slice_get c.program.lines at)
      (λ line. takes_step line.form) (itself_found (slice_get c.program.lines at)) j.0
      (λ line there step. formed.tests_loop label line there step (terminal_well c.program at label j.1)))
  takes_well c n at (ToCall x) sorts well =
      let h : IsTrue (is_callee (c.program.attribute x).class) × IsTrue (are_passed c.program sorts) =
      both_hold (is_callee (c.program.attribute x).class) (are_passed c.program sorts) well in
      formed.calls x sorts h.0 (passed_well c.program sorts h.1)
  takes_well c n at ToReturn sorts well =
      either_holds (Takes c n at None ToReturn sorts) (same_sorts [] sorts) (same_sorts (ValueOf Integer ∷ []) sorts) well
      (λ same. fixed (λ ss. Takes c n at None ToReturn ss) [] sorts same formed.returns)
      (λ same. fixed (λ ss. Takes c n at None ToReturn ss) (ValueOf Integer ∷ []) sorts same formed.returns_by)
  takes_well c n at (ToStop text) sorts well = fixed (λ ss. Takes c n at None (ToStop text) ss) [] sorts well (formed.stops text)
  takes_well c n at (ToBegin way layout controls work) sorts well =
      let front : Bool = words_take controls.words sorts && is_some (unit_sort controls.words sorts) in
      let labels : Bool = may_stand c.program controls.on_error && may_stand c.program controls.on_end in
      let h : IsTrue front × IsTrue (has_layout c.program controls.words layout && (labels && is_work_formed c n way work)) = both_hold _ _ well in
      let j : IsTrue (words_take controls.words sorts) × IsTrue (is_some (unit_sort controls.words sorts)) = both_hold _ _ h.0 in
      let k : IsTrue (has_layout c.program controls.words layout) × IsTrue (labels && is_work_formed c n way work) = both_hold _ _ h.1 in
      let l : IsTrue labels × IsTrue (is_work_formed c n way work) = both_hold _ _ k.1 in
      let m : IsTrue (may_stand c.program controls.on_error) × IsTrue (may_stand c.program controls.on_end) = both_hold _ _ l.0 in
      begins_well c n at way layout controls work sorts (unit_sort controls.words sorts) refl j.1 (words_well controls.words sorts j.0)
      (layout_well c.program controls.words layout k.0) (may_well c.program controls.on_error m.0) (may_well c.program controls.on_end m.1)
      (work_well c n way work l.1)
  takes_well c n at (ToAuxiliary which controls) sorts well =
      let front : Bool = words_take controls.words sorts && is_sort (ValueOf Integer) (unit_sort controls.words sorts) in
      let labels : Bool = may_stand c.program controls.on_error && may_stand c.program controls.on_end in
      let h : IsTrue front × IsTrue labels = both_hold _ _ well in
      let j : IsTrue (words_take controls.words sorts) × IsTrue (is_sort (ValueOf Integer) (unit_sort controls.words sorts)) = both_hold _ _ h.0 in
      let m : IsTrue (may_stand c.program controls.on_error) × IsTrue (may_stand c.program controls.on_end) = both_hold _ _ h.1 in
      formed.uses_unit which controls sorts (words_well controls.words sorts j.0)
      (sort_fixed (λ sort. unit_sort controls.words sorts ≡ Some sort) (ValueOf Integer) (unit_sort controls.words sorts) j.1
      (itself_found (unit_sort controls.words sorts))) (may_well c.program controls.on_error m.0) (may_well c.program controls.on_end m.1)
  takes_well c n at ToEnd sorts well = fixed (λ ss. Takes c n at None ToEnd ss) [] sorts well formed.ends
  takes_well c n at _ sorts well = absurd (cc)

  pub formed_well : (c : Facts) (n at : ℕ) (form : Form) → IsTrue (is_formed c n at form) → IsFormed c n at None form
  formed_well c n at Passes well = formed.passes
  formed_well c n at (On head operands) well =
      such_found (λ sorts. AreTyped c n [] operands sorts) (IsFormed c n at None (On head operands)) (sorts_of c n [] operands) (λ sorts. takes c n at head sorts)
      (terms_found c n [] operands) well (λ sorts are takes. formed.on None head operands sorts (takes_well c n at head sorts takes) are)

-- the statements of a unit, counted on
pub lines_well : (c : Facts) (n : ℕ) (lines : List Line) (i : ℕ) → IsTrue (are_formed c n i lines) → (k at : ℕ) (line : Line) → at ≡ i + k →
    slice_get lines k ≡ Some line → IsFormed c n at None line.form
unfolding are_formed
lines_well c n [] i well k at line is there = absurd (cc)
lines_well c n (first ∷ lines) i well zero at line is there =
    let h : IsTrue (is_formed c n i first.form) × IsTrue (are_formed c n (suc i) lines) = both_hold _ _ well in
    let same : first ≡ line = cc in
    let here : i ≡ at = omega arith in
    subst (λ l. IsFormed c n at None l.form) same (subst (λ j. IsFormed c n j None first.form) here (formed_well c n i first.form h.0))
lines_well c n (first ∷ lines) i well (suc k) at line is there =
    let h : IsTrue (is_formed c n i first.form) × IsTrue (are_formed c n (suc i) lines) = both_hold _ _ well in
    lines_well c n lines (suc i) h.1 k at line (omega arith) there

-- nests
pub plain_is : (mark : Mark) → IsTrue (is_plain mark) → mark ≡ Plain
unfolding is_plain
plain_is Plain plain = refl
plain_is _ plain = absurd (cc)

pub end_is : (form : Form) → IsTrue (is_end form) → form ≡ On ToEnd NoMore
unfolding is_end ends_unit
end_is (On ToEnd NoMore) end = refl
end_is _ end = absurd (cc)

pub last_line_well : (depth : ℕ) (line : Line) (lines : List Line) → IsTrue (is_last_line depth line lines) → IsNest depth (line ∷ lines)
unfolding is_last_line
last_line_well zero line [] last =
    let h : IsTrue (is_plain line.mark) × IsTrue (is_end line.form) = both_hold _ _ last in
    formed.the_end line (plain_is line.mark h.0) (end_is line.form h.1)
last_line_well _ line _ last = absurd (cc)

pub nest_behind : (depth : ℕ) (line : Line) (lines : List Line) (mark : Mark) → line.mark ≡ mark →
    IsTrue (is_some_such (depth_behind mark depth) (λ after. is_nest after lines)) → ((after : ℕ) → IsTrue (is_nest after lines) → IsNest after lines) →
    IsNest depth (line ∷ lines)
unfolding depth_behind is_some_such
nest_behind depth line lines Plain is later nest = formed.plain depth line lines is (nest depth later)
nest_behind depth line lines Opens is later nest = formed.opens depth line lines is (nest (suc depth) later)
nest_behind zero line lines Arm is later nest = absurd (cc)
nest_behind (suc depth) line lines Arm is later nest = formed.arm depth line lines is (nest (suc depth) later)
nest_behind zero line lines Closes is later nest = absurd (cc)
nest_behind (suc depth) line lines Closes is later nest = formed.closes depth line lines is (nest depth later)

pub nest_well : (lines : List Line) (depth : ℕ) → IsTrue (is_nest depth lines) → IsNest depth lines
unfolding is_nest
nest_well [] depth nest = absurd (cc)
nest_well (line ∷ lines) depth nest =
    either_holds (IsNest depth (line ∷ lines)) (is_last_line depth line lines) (is_some_such (depth_behind line.mark depth) (λ after. is_nest after lines)) nest
    (λ last. last_line_well depth line lines last)
    (λ later. nest_behind depth line lines line.mark refl later (λ after is. nest_well lines after is))

-- names
pub width_there : (c : Facts) (n : ℕ) (x : Bytes) (width : Option ℕ) → (c.program.attribute x).width ≡ width → IsTrue (is_some width) →
    IsTrue (has_home n (c.home x)) → length (c.program.attribute x).bounds ≡ length (c.program.attribute x).dimensions →
    IsTrue (is_some (elements_of (c.program.attribute x).bounds)) → IsStored c n x
unfolding has_home
width_there c n x None is some has ranked sized = absurd (cc)
width_there c n x (Some width) is some has ranked sized =
    such_found (λ home. c.home x ≡ Some home) (IsStored c n x) (c.home x) (λ home. nat_lt home.sequence n) (itself_found (c.home x)) has
    (λ home there within. record { width = width; width_is = is; home = home; home_is = there; within = ltb-true home.sequence n within; ranked = ranked; sized = sized })

pub stored_well : (c : Facts) (n : ℕ) (x : Bytes) → IsTrue (is_stored_well n (c.program.attribute x) (c.home x)) → IsStored c n x
unfolding is_stored_well
stored_well c n x well =
    let a : Attribute = c.program.attribute x in
    let h : IsTrue (is_some a.width && has_home n (c.home x)) × IsTrue (nat_eq (length a.bounds) (length a.dimensions) && is_some (elements_of a.bounds)) =
    both_hold _ _ well in
    let j : IsTrue (is_some a.width) × IsTrue (has_home n (c.home x)) = both_hold _ _ h.0 in
    let k : IsTrue (nat_eq (length a.bounds) (length a.dimensions)) × IsTrue (is_some (elements_of a.bounds)) = both_hold _ _ h.1 in
    width_there c n x a.width refl j.0 j.1 (eqb-true (length a.bounds) (length a.dimensions) k.0) k.1

pub arithmetic_well : (op : Operator) → IsTrue (is_arithmetic op) → Operates op Integer Integer
unfolding is_arithmetic
arithmetic_well Add is = typed.adds
arithmetic_well Subtract is = typed.subtracts
arithmetic_well Multiply is = typed.multiplies
arithmetic_well Divide is = typed.divides
arithmetic_well _ is = absurd (cc)

pub variable_well : (c : Facts) (t : Term) → IsTrue (is_integer_variable c t) → IsOfVariables c (Fetch t)
unfolding is_integer_variable
variable_well c (At x) well =
    let h : IsTrue (is_variable (c.program.attribute x).class) × IsTrue (same_basic (c.program.attribute x).basic Integer) = both_hold _ _ well in
    formed.a_variable x (record { class_is = h.0; basic_is = same_basics (c.program.attribute x).basic Integer h.1 })
variable_well c _ well = absurd (cc)

pub of_variables_well : (c : Facts) (t : Term) → IsTrue (is_of_variables c t) → IsOfVariables c t
unfolding is_of_variables are_of_variables is_integer is_negation is_power are_two
of_variables_well c (Val (IsInt z)) well = formed.a_constant z
of_variables_well c (Fetch t) well = variable_well c t well
of_variables_well c (Prefixed Negate t) well = formed.negated t (of_variables_well c t well)
of_variables_well c (Between op t u) well =
    let h : IsTrue (is_arithmetic op) × IsTrue (is_of_variables c t && is_of_variables c u) = both_hold _ _ well in
    let k : IsTrue (is_of_variables c t) × IsTrue (is_of_variables c u) = both_hold _ _ h.1 in
    formed.combined op t u (arithmetic_well op h.0) (of_variables_well c t k.0) (of_variables_well c u k.1)
of_variables_well c (Intrinsically Power (More t (More u NoMore))) well =
    let h : IsTrue (is_of_variables c t) × IsTrue (is_of_variables c u && true) = both_hold _ _ well in
    let k : IsTrue (is_of_variables c u) × IsTrue true = both_hold _ _ h.1 in
    formed.raised t u (of_variables_well c t h.0) (of_variables_well c u k.0)
of_variables_well c _ well = absurd (cc)

pub upper_well : (c : Facts) (upper : Option Term) → IsTrue (is_upper c upper) → IsUpper c upper
unfolding is_upper
upper_well c None well = formed.assumed
upper_well c (Some t) well = formed.written t (of_variables_well c t well)

pub dimensions_well : (c : Facts) (ds : List Dimension) → IsTrue (are_dimensions c ds) → AreDimensions c ds
unfolding are_dimensions
dimensions_well c [] well = formed.no_dimensions
dimensions_well c (d ∷ ds) well =
    let h : IsTrue (is_of_variables c d.lower && is_upper c d.upper) × IsTrue (are_dimensions c ds) = both_hold _ _ well in
    let k : IsTrue (is_of_variables c d.lower) × IsTrue (is_upper c d.upper) = both_hold _ _ h.0 in
    formed.more_dimensions d ds (of_variables_well c d.lower k.0) (upper_well c d.upper k.1) (dimensions_well c ds h.1)

pub function_is : (kind : UnitKind) → IsTrue (is_function kind) → kind ≡ FunctionUnit
unfolding is_function
function_is FunctionUnit is = refl
function_is _ is = absurd (cc)

pub none_are : {A : Type 0} (xs : List A) → IsTrue (not (is_not_empty xs)) → xs ≡ []
unfolding is_not_empty
none_are [] none = refl
none_are (x ∷ xs) none = absurd (cc)

pub result_well : (c : Facts) (x : Bytes) → IsTrue (is_function c.program.kind && is_scalar (c.program.attribute x)) → IsResult c x
unfolding is_scalar
result_well c x well =
    let a : Attribute = c.program.attribute x in
    let h : IsTrue (is_function c.program.kind) × IsTrue (not (is_not_empty a.dimensions) && not (is_not_empty a.bounds)) = both_hold _ _ well in
    let k : IsTrue (not (is_not_empty a.dimensions)) × IsTrue (not (is_not_empty a.bounds)) = both_hold _ _ h.1 in
    record { kind_is = function_is c.program.kind h.0; no_dimensions = none_are a.dimensions k.0; no_bounds = none_are a.bounds k.1 }

-- what a name has, by its class
pub dummy_wants : (c : Facts) (n : ℕ) (x : Bytes) (a : Attribute) (k : Class) → IsTrue (is_dummy k) → IsTrue (has_what_it_wants k c n x a) →
    AreDimensions c a.dimensions
unfolding is_dummy has_what_it_wants
dummy_wants c n x a class.Dummy dummy well = dimensions_well c a.dimensions well
dummy_wants c n x a class.DummyProcedure dummy well = dimensions_well c a.dimensions well
dummy_wants c n x a _ dummy well = absurd (cc)

pub stored_wants : (c : Facts) (n : ℕ) (x : Bytes) → (c.program.attribute x).class ≡ class.Stored → IsTrue (is_name_formed c n x) → IsStored c n x
unfolding is_name_formed has_what_it_wants
stored_wants c n x is well = stored_well c n x (subst (λ k. IsTrue (has_what_it_wants k c n x (c.program.attribute x))) is well)

pub result_wants : (c : Facts) (n : ℕ) (x : Bytes) → (c.program.attribute x).class ≡ class.Result → IsTrue (is_name_formed c n x) → IsResult c x
unfolding is_name_formed has_what_it_wants
result_wants c n x is well = result_well c x (subst (λ k. IsTrue (has_what_it_wants k c n x (c.program.attribute x))) is well)

pub class_wants : (c : Facts) (n : ℕ) (x : Bytes) (k : Class) → (c.program.attribute x).class ≡ k → IsTrue (has_what_it_wants k c n x (c.program.attribute x)) →
    IsTrue (is_name_formed c n x)
unfolding is_name_formed
class_wants c n x k is well = subst (λ j. IsTrue (has_what_it_wants j c n x (c.program.attribute x))) (sym is) well

-- a name that is described has what it wants, and one that is not is the unit's own, and wants nothing
pub own_name_well : (c : Facts) (n : ℕ) (x : Bytes) → c.program.attribute x ≡ bare class.Unit None → IsTrue (is_name_formed c n x)
unfolding bare has_what_it_wants
own_name_well c n x is = class_wants c n x class.Unit (ap (λ a. a.class) is) refl

pub name_described : (c : Facts) (n : ℕ) (x y : Bytes) (a : Attribute) (rest : Attribute) (b : Bool) → (b ≡ true → y ≡ x) → IsTrue (is_name_formed c n y) →
    (c.program.attribute x ≡ rest → IsTrue (is_name_formed c n x)) → c.program.attribute x ≡ (if b then a else rest) → IsTrue (is_name_formed c n x)
name_described c n x y a rest true same one other is = subst (λ z. IsTrue (is_name_formed c n z)) (same refl) one
name_described c n x y a rest false same one other is = other is

pub names_well : (c : Facts) (n : ℕ) (ds : List Described) → IsTrue (are_names_formed c n ds) → (x : Bytes) → c.program.attribute x ≡ attribute_in ds x →
    IsTrue (is_name_formed c n x)
unfolding are_names_formed attribute_in
names_well c n [] well x is = own_name_well c n x is
names_well c n (d ∷ ds) well x is =
    let h : IsTrue (is_name_formed c n d.name) × IsTrue (are_names_formed c n ds) = both_hold _ _ well in
    name_described c n x d.name d.attribute (attribute_in ds x) (bytes_eq d.name x) (λ same. (bytes_eq-Decides d.name x).0 same) h.0
    (λ rest. names_well c n ds h.1 x rest) is

-- units
pub entries_well : (n : ℕ) (e : EntryPoint) (es : List EntryPoint) → IsIn e es → IsTrue (are_entries_within n es) → e.start < n
unfolding are_entries_within
entries_well n e es first_in well = ltb-true e.start n (both_hold (nat_lt e.start n) _ well).0
entries_well n e es (later_in is) well = entries_well n e _ is (both_hold _ _ well).1

pub unit_well : (c : Facts) (n : ℕ) (ds : List Described) → ((x : Bytes) → c.program.attribute x ≡ attribute_in ds x) → IsTrue (is_unit_formed c n ds) →
    IsWellFormed c n
unfolding is_unit_formed is_name_formed
unit_well c n ds same well =
    let lines : Bool = are_formed c n 0 c.program.lines && is_nest 0 c.program.lines in
    let entries : Bool = is_not_empty c.program.entries && are_entries_within (length c.program.lines) c.program.entries in
    let h : IsTrue lines × IsTrue (entries && are_names_formed c n ds) = both_hold _ _ well in
    let j : IsTrue (are_formed c n 0 c.program.lines) × IsTrue (is_nest 0 c.program.lines) = both_hold _ _ h.0 in
    let k : IsTrue entries × IsTrue (are_names_formed c n ds) = both_hold _ _ h.1 in
    let l : IsTrue (is_not_empty c.program.entries) × IsTrue (are_entries_within (length c.program.lines) c.program.entries) = both_hold _ _ k.0 in
    let name : (x : Bytes) → IsTrue (is_name_formed c n x) = λ x. names_well c n ds k.1 x (same x) in
    record {
      statements = λ i line there. lines_well c n c.program.lines 0 j.0 i i line (omega arith) there;
      nest = nest_well c.program.lines 0 j.1;
      named = l.0;
      entries = λ e is. entries_well (length c.program.lines) e c.program.entries is l.1;
      stored = λ x is. stored_wants c n x is (name x);
      dummies = λ x is. dummy_wants c n x (c.program.attribute x) (c.program.attribute x).class is (name x);
      results = λ x is. result_wants c n x is (name x);
    }

pub read_unit_well : (options : Options) (g : Setting) (k n : ℕ) (u : WrittenUnit) →
    IsTrue (is_unit_formed (facts_at g k (Some (unit_read options u))) n (all_described u)) → IsWellFormed (facts_at g k (Some (unit_read options u))) n
unfolding facts_at unit_read with_ties program_of
read_unit_well options g k n u well = unit_well (facts_at g k (Some (unit_read options u))) n (all_described u) (λ x. refl) well

pub units_well : (options : Options) (g : Setting) (us : List WrittenUnit) (i : ℕ) → IsTrue (are_units_formed options g i us) → (j k : ℕ) (u : ProgramUnit) → k ≡ i + j →
    slice_get (map (unit_read options) us) j ≡ Some u → IsWellFormed (facts_at g k (Some u)) (length g.sizes)
unfolding are_units_formed
units_well options g [] i well j k u is there = absurd (cc)
units_well options g (first ∷ us) i well zero k u is there =
    let h : IsTrue (is_unit_formed (facts_at g i (Some (unit_read options first))) (length g.sizes) (all_described first)) × IsTrue (are_units_formed options g (suc i) us) =
    both_hold _ _ well in
    let same : unit_read options first ≡ u = cc in
    let here : i ≡ k = omega arith in
    subst (λ v. IsWellFormed (facts_at g k (Some v)) (length g.sizes)) same
    (subst (λ j. IsWellFormed (facts_at g j (Some (unit_read options first))) (length g.sizes)) here (read_unit_well options g i (length g.sizes) first h.0))
units_well options g (first ∷ us) i well (suc j) k u is there =
    let h : IsTrue (is_unit_formed (facts_at g i (Some (unit_read options first))) (length g.sizes) (all_described first)) × IsTrue (are_units_formed options g (suc i) us) =
    both_hold _ _ well in
    units_well options g us (suc i) h.1 j k u (omega arith) there

-- the units of a set, file by file
pub units_written : (options : Options) (fs : List File) → units_in options fs ≡ map (unit_read options) (written_in fs)
unfolding units_in written_in
units_written options [] = refl
units_written options (f ∷ fs) =
    ap (λ us. map (unit_read options) f.units ++ us) (units_written options fs) ∙ sym (map-append (unit_read options) f.units (written_in fs))

pub checked_well : EachCheckedSetIsWellFormed
unfolding is_set_formed units_of
checked_well options g set well = record {
  each = λ k u there. units_well options g (written_in set.files) 0 well k k u (omega arith) (subst (λ us. slice_get us k ≡ Some u) (units_written options set.files) there);
}

pub sets_well : (sets : List FileSet) → IsTrue (are_sets_formed sets) → EachIsWellFormed sets
unfolding are_sets_formed
sets_well [] well set none = elim none [ ]
sets_well (first ∷ sets) well set first_in =
    checked_well no_options (setting_apart (units_of no_options first)) first (both_hold _ (are_sets_formed sets) well).0
sets_well (first ∷ sets) well set (later_in is) =
    sets_well sets (both_hold (is_set_formed no_options (setting_apart (units_of no_options first)) first) (are_sets_formed sets) well).1 set is
