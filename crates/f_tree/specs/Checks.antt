-- Whether program units are well formed, computed: the sort of each term, what each statement takes, the nest of
-- IF blocks, and what each name has. What is so found to be well formed is well formed, and what is well formed is found.
-- ANSI X3.9-1978, sections 2.4 and 3.5 (units and their statements), 5 and 6 (expressions), 11 (control), 12 (transfers) and 15 (procedures).
use Rattle.std.specs.Prelude.{◌≡◌, ℕ, zero, suc, nat_eq, nat_lt, Bool, true, false, not, ◌&&◌, ◌||◌, List, [], ◌∷◌, ◌++◌, length, Option, Some, None, is_some, slice_get, IsTrue, if◌then◌else◌}
use Rattle.f_tree.specs.declared.names.Basic.{Basic}
use Rattle.f_tree.specs.declared.names.Basic.TheVariants.{Integer, Logical, Character, Untyped}
use Rattle.f_tree.specs.declared.names.Class.{Class}
use Rattle.f_tree.specs.declared.names.Class.TheVariants as class
use Rattle.f_tree.specs.declared.names.Options.{Options}
use Rattle.f_tree.specs.declared.units.Unit.{Unit as WrittenUnit}
use Rattle.f_tree.specs.declared.units.File.{File}
use Rattle.f_tree.specs.declared.units.FileSet.{FileSet}
use Rattle.f_tree.specs.Values.{Bytes, Datum, IsInt, IsLog, IsText, IsSpot, IsProc, IsLabel, Nothing, NoMeaning}
use Rattle.f_tree.specs.Terms.{Prefix, Negate, Complement, Operator, Add, Subtract, Multiply, Divide, IsLess, IsLessOrEqual, IsEqual, IsNotEqual, IsGreater, IsGreaterOrEqual, Both, Either, Same, Different, Function, Power, Truncation, Magnitude, Remainder, SignTransfer, PositiveDifference, Largest, Smallest, CharacterCode, CharacterOfCode, TextLength, IndexOf, LexicallyGreaterOrEqual, LexicallyGreater, LexicallyLessOrEqual, LexicallyLess, Front, Fitted, InclusiveOr, LogicalProduct, ExclusiveOr, BitComplement, BitShift, BitTest, BitSet, BitClear, Wanted, AsSubroutine, AsFunction, Term, Val, Fetch, At, All, Element, Alone, Part, Joined, Before as Prefixed, Between, Intrinsically, Refer, Bind, Bound, Terms, NoMore, More}
use Rattle.f_tree.specs.Facts.{Dimension, Attribute, UnitKind, FunctionUnit, EntryPoint, Direction, Output, Layout, Listed, Labelled, Computed, Unformatted, Word, UnitWord, StatusWord, Controls, Job, Item, Repeated, Turn, Work, Done, Before, Head, ToSet, ToSetText, ToSetLabel, ToGo, ToPick, ToGoAssigned, ToGoBySign, ToGuard, ToEnterArm, ToLoop, ToTestLoop, ToCall, ToReturn, ToStop, ToBegin, ToAuxiliary, ToEnd, Form, Passes, On, Mark, Plain, Opens, Arm, Closes, Line, ProgramUnit, Facts, Home}
use Rattle.f_tree.specs.Places.{place_of_label, terminal_of}
use Rattle.f_tree.specs.Transfers.{labelled_text}
use Rattle.f_tree.specs.Valuing.{elements_of}
use Rattle.f_tree.specs.Association.{same_basic}
use Rattle.f_tree.specs.Attributes.{is_not_empty, Described, all_described}
use Rattle.f_tree.specs.Lines.{unit_read}
use Rattle.f_tree.specs.Setting.{Setting, IsIn}
use Rattle.f_tree.specs.Meaning.{units_of, facts_at}
use Rattle.f_tree.specs.Runs.{no_options, setting_apart, MeetsApart}
use Rattle.f_tree.specs.WellTyped.{Sort, ValueOf, PlaceOf, AProcedure, ALabel, Absent, integers_of, rank_of, is_variable, is_procedure_name, has_size, is_callee}
use Rattle.f_tree.specs.WellFormed.{unit_sort, takes_step, names_format, is_given, loop_sorts, has_arm, is_dummy, AreWellFormed}

-- CHOICES
unfoldable pub if_some : {A B : Type 0} → Option A → (A → Option B) → Option B
if_some None go = None
if_some (Some a) go = go a

unfoldable pub provided : {A : Type 0} → Bool → A → Option A
provided true a = Some a
provided false a = None

unfoldable pub is_some_such : {A : Type 0} → Option A → (A → Bool) → Bool
is_some_such None test = false
is_some_such (Some a) test = test a

-- SORTS
unfoldable pub is_valued : Basic → Bool
is_valued Untyped = false
is_valued _ = true

unfoldable pub same_sort : Sort → Sort → Bool
same_sort (ValueOf a) (ValueOf b) = same_basic a b
same_sort (PlaceOf a) (PlaceOf b) = same_basic a b
same_sort _ _ = false

unfoldable pub same_sorts : List Sort → List Sort → Bool
same_sorts [] [] = true
same_sorts (a ∷ as') (b ∷ bs) = same_sort a b && same_sorts as' bs
same_sorts _ _ = false

unfoldable pub is_sort : Sort → Option Sort → Bool
is_sort sort None = false
is_sort sort (Some other) = same_sort sort other

unfoldable pub are_sorts : List Sort → Option (List Sort) → Bool
are_sorts sorts None = false
are_sorts sorts (Some others) = same_sorts sorts others

unfoldable pub placed_basic : Option Sort → Option Basic
placed_basic (Some (PlaceOf basic)) = Some basic
placed_basic _ = None

unfoldable pub valued_basic : Option Sort → Option Basic
valued_basic (Some (ValueOf basic)) = Some basic
valued_basic _ = None

unfoldable pub is_piece : Sort → Bool
is_piece (ValueOf Character) = true
is_piece (PlaceOf Character) = true
is_piece _ = false

unfoldable pub are_pieces : List Sort → Bool
are_pieces [] = true
are_pieces (sort ∷ sorts) = is_piece sort && are_pieces sorts

unfoldable pub is_last : Sort → Bool
is_last (ValueOf Integer) = true
is_last Absent = true
is_last _ = false

-- OPERATORS AND FUNCTIONS
unfoldable pub prefixed_basic : Prefix → Basic
prefixed_basic Negate = Integer
prefixed_basic Complement = Logical

unfoldable pub over_integers : Basic → Basic → Option Basic
over_integers Integer result = Some result
over_integers _ result = None

unfoldable pub over_logicals : Basic → Option Basic
over_logicals Logical = Some Logical
over_logicals _ = None

unfoldable pub over_ordered : Basic → Option Basic
over_ordered Integer = Some Logical
over_ordered Character = Some Logical
over_ordered _ = None

unfoldable pub operated_basic : Operator → Basic → Option Basic
operated_basic Add basic = over_integers basic Integer
operated_basic Subtract basic = over_integers basic Integer
operated_basic Multiply basic = over_integers basic Integer
operated_basic Divide basic = over_integers basic Integer
operated_basic IsLess basic = over_ordered basic
operated_basic IsLessOrEqual basic = over_ordered basic
operated_basic IsEqual basic = over_ordered basic
operated_basic IsNotEqual basic = over_ordered basic
operated_basic IsGreater basic = over_ordered basic
operated_basic IsGreaterOrEqual basic = over_ordered basic
operated_basic Both basic = over_logicals basic
operated_basic Either basic = over_logicals basic
operated_basic Same basic = over_logicals basic
operated_basic Different basic = over_logicals basic

-- one or more integers
unfoldable pub extreme_basic : List Sort → Option Basic
extreme_basic [] = None
extreme_basic (sort ∷ sorts) = provided (same_sorts (ValueOf Integer ∷ integers_of (length sorts)) (sort ∷ sorts)) Integer

-- the type of a function's value, given the sorts of its arguments
unfoldable pub applied_basic : Function → List Sort → Option Basic
applied_basic Power sorts = provided (same_sorts (ValueOf Integer ∷ ValueOf Integer ∷ []) sorts) Integer
applied_basic Truncation sorts = provided (same_sorts (ValueOf Integer ∷ []) sorts) Integer
applied_basic Magnitude sorts = provided (same_sorts (ValueOf Integer ∷ []) sorts) Integer
applied_basic Remainder sorts = provided (same_sorts (ValueOf Integer ∷ ValueOf Integer ∷ []) sorts) Integer
applied_basic SignTransfer sorts = provided (same_sorts (ValueOf Integer ∷ ValueOf Integer ∷ []) sorts) Integer
applied_basic PositiveDifference sorts = provided (same_sorts (ValueOf Integer ∷ ValueOf Integer ∷ []) sorts) Integer
applied_basic Largest sorts = extreme_basic sorts
applied_basic Smallest sorts = extreme_basic sorts
applied_basic CharacterCode sorts = provided (same_sorts (ValueOf Character ∷ []) sorts) Integer
applied_basic CharacterOfCode sorts = provided (same_sorts (ValueOf Integer ∷ []) sorts) Character
applied_basic TextLength sorts = provided (is_not_empty sorts && are_pieces sorts) Integer
applied_basic IndexOf sorts = provided (same_sorts (ValueOf Character ∷ ValueOf Character ∷ []) sorts) Integer
applied_basic LexicallyGreaterOrEqual sorts = provided (same_sorts (ValueOf Character ∷ ValueOf Character ∷ []) sorts) Logical
applied_basic LexicallyGreater sorts = provided (same_sorts (ValueOf Character ∷ ValueOf Character ∷ []) sorts) Logical
applied_basic LexicallyLessOrEqual sorts = provided (same_sorts (ValueOf Character ∷ ValueOf Character ∷ []) sorts) Logical
applied_basic LexicallyLess sorts = provided (same_sorts (ValueOf Character ∷ ValueOf Character ∷ []) sorts) Logical
applied_basic (Front n) sorts = provided (same_sorts (ValueOf Character ∷ []) sorts) Character
applied_basic (Fitted n) sorts = provided (same_sorts (ValueOf Character ∷ []) sorts) Character
applied_basic InclusiveOr sorts = provided (same_sorts (ValueOf Integer ∷ ValueOf Integer ∷ []) sorts) Integer
applied_basic LogicalProduct sorts = provided (same_sorts (ValueOf Integer ∷ ValueOf Integer ∷ []) sorts) Integer
applied_basic ExclusiveOr sorts = provided (same_sorts (ValueOf Integer ∷ ValueOf Integer ∷ []) sorts) Integer
applied_basic BitComplement sorts = provided (same_sorts (ValueOf Integer ∷ []) sorts) Integer
applied_basic BitShift sorts = provided (same_sorts (ValueOf Integer ∷ ValueOf Integer ∷ []) sorts) Integer
applied_basic BitTest sorts = provided (same_sorts (ValueOf Integer ∷ ValueOf Integer ∷ []) sorts) Logical
applied_basic BitSet sorts = provided (same_sorts (ValueOf Integer ∷ ValueOf Integer ∷ []) sorts) Integer
applied_basic BitClear sorts = provided (same_sorts (ValueOf Integer ∷ ValueOf Integer ∷ []) sorts) Integer

-- TERMS, over so many sequences of storage
unfoldable pub datum_sort : ℕ → Datum → Option Sort
datum_sort count (IsInt z) = Some (ValueOf Integer)
datum_sort count (IsLog b) = Some (ValueOf Logical)
datum_sort count (IsText cs) = Some (ValueOf Character)
datum_sort count (IsSpot p) = provided (nat_lt p.sequence count) (PlaceOf p.basic)
datum_sort count (IsProc x) = Some AProcedure
datum_sort count (IsLabel l) = Some (ALabel l)
datum_sort count Nothing = Some Absent

unfoldable pub name_sort : Attribute → Option Sort
name_sort a = if is_variable a.class then Some (PlaceOf a.basic) else provided (is_procedure_name a.class) AProcedure

unfoldable pub referred_sort : Bool → Wanted → Option Sort
referred_sort callee AsSubroutine = None
referred_sort callee (AsFunction basic width) = provided callee (ValueOf basic)

unfoldable mutual
  pub sort_of : Facts → ℕ → List Sort → Term → Option Sort
  sort_of c count env (Val d) = datum_sort count d
  sort_of c count env (Fetch t) = if_some (placed_basic (sort_of c count env t)) (λ basic. provided (is_valued basic) (ValueOf basic))
  sort_of c count env (At x) = name_sort (c.program.attribute x)
  sort_of c count env (All x) =
      provided (is_variable (c.program.attribute x).class && has_size (c.program.attribute x).dimensions) (PlaceOf (c.program.attribute x).basic)
  sort_of c count env (Element x ts) =
      provided (is_variable (c.program.attribute x).class && are_sorts (integers_of (rank_of c x)) (sorts_of c count env ts)) (PlaceOf (c.program.attribute x).basic)
  sort_of c count env (Alone t) = if_some (placed_basic (sort_of c count env t)) (λ basic. Some (PlaceOf basic))
  sort_of c count env (Part x t from to) =
      provided (is_sort (PlaceOf Character) (sort_of c count env t) && (is_sort (ValueOf Integer) (sort_of c count env from) && is_some_such (sort_of c count env to) is_last))
      (PlaceOf Character)
  sort_of c count env (Joined ts) = if_some (sorts_of c count env ts) (λ sorts. provided (are_pieces sorts) (ValueOf Character))
  sort_of c count env (Prefixed op t) = provided (is_sort (ValueOf (prefixed_basic op)) (sort_of c count env t)) (ValueOf (prefixed_basic op))
  sort_of c count env (Between op t u) =
      if_some (valued_basic (sort_of c count env t)) (λ basic.
      if_some (operated_basic op basic) (λ result. provided (is_sort (ValueOf basic) (sort_of c count env u)) (ValueOf result)))
  sort_of c count env (Intrinsically function ts) = if_some (sorts_of c count env ts) (λ sorts. if_some (applied_basic function sorts) (λ basic. Some (ValueOf basic)))
  sort_of c count env (Refer callee ts) = if_some (sorts_of c count env ts) (λ sorts. referred_sort (is_callee (c.program.attribute callee.name).class) callee.want)
  sort_of c count env (Bind ts t) = if_some (sorts_of c count env ts) (λ sorts. sort_of c count sorts t)
  sort_of c count env (Bound k) = slice_get env k

  pub sorts_of : Facts → ℕ → List Sort → Terms → Option (List Sort)
  sorts_of c count env NoMore = Some []
  sorts_of c count env (More t ts) = if_some (sort_of c count env t) (λ sort. if_some (sorts_of c count env ts) (λ sorts. Some (sort ∷ sorts)))

-- LABELS
unfoldable pub has_statement : ProgramUnit → ℕ → Bool
has_statement u label = is_some (place_of_label u label)

unfoldable pub has_terminal : ProgramUnit → ℕ → Option ℕ → Bool
has_terminal u first label = is_some_such (terminal_of u first label) (λ at. nat_lt (suc at) (length u.lines))

unfoldable pub each_stands : ProgramUnit → List ℕ → Bool
each_stands u [] = true
each_stands u (label ∷ labels) = has_statement u label && each_stands u labels

unfoldable pub may_stand : ProgramUnit → Option ℕ → Bool
may_stand u None = true
may_stand u (Some label) = has_statement u label

-- CONTROL WORDS AND LISTS
unfoldable pub word_takes : Word → Sort → Bool
word_takes UnitWord sort = same_sort (ValueOf Integer) sort || same_sort (PlaceOf Character) sort
word_takes StatusWord sort = same_sort (PlaceOf Integer) sort
word_takes _ sort = is_piece sort

unfoldable pub words_take : List Word → List Sort → Bool
words_take [] [] = true
words_take (word ∷ words) (sort ∷ sorts) = word_takes word sort && words_take words sorts
words_take _ _ = false

unfoldable pub has_layout : ProgramUnit → List Word → Layout → Bool
has_layout u words Listed = true
has_layout u words (Labelled label) = is_given (labelled_text u.formats label)
has_layout u words Computed = names_format words
has_layout u words Unformatted = false

unfoldable pub is_listed : Direction → Sort → Bool
is_listed Output (ValueOf basic) = is_valued basic
is_listed way (PlaceOf basic) = is_valued basic
is_listed way _ = false

unfoldable mutual
  pub is_job_formed : Facts → ℕ → Direction → Job → Bool
  is_job_formed c count way (Item t) = is_some_such (sort_of c count [] t) (is_listed way)
  is_job_formed c count way (Repeated items control) = is_work_formed c count way items && are_sorts loop_sorts (sorts_of c count [] control)
  is_job_formed c count way (Turn items p left by given) = is_work_formed c count way items && is_sort (PlaceOf Integer) (datum_sort count (IsSpot p))

  pub is_work_formed : Facts → ℕ → Direction → Work → Bool
  is_work_formed c count way Done = true
  is_work_formed c count way (Before job work) = is_job_formed c count way job && is_work_formed c count way work

-- STATEMENTS, as they are written
unfoldable pub is_passed : ProgramUnit → Sort → Bool
is_passed u (ALabel label) = has_statement u label
is_passed u Absent = false
is_passed u _ = true

unfoldable pub are_passed : ProgramUnit → List Sort → Bool
are_passed u [] = true
are_passed u (sort ∷ sorts) = is_passed u sort && are_passed u sorts

unfoldable pub is_set : List Sort → Bool
is_set (ValueOf a ∷ PlaceOf b ∷ []) = same_basic a b
is_set _ = false

unfoldable pub are_pieces_and_place : List Sort → Bool
are_pieces_and_place [] = false
are_pieces_and_place (sort ∷ []) = same_sort (PlaceOf Character) sort
are_pieces_and_place (sort ∷ other ∷ sorts) = is_piece sort && are_pieces_and_place (other ∷ sorts)

unfoldable pub is_arm : Option Line → Bool
is_arm None = false
is_arm (Some line) = has_arm line.mark

unfoldable pub controls_stand : ProgramUnit → Controls → Bool
controls_stand u controls = may_stand u controls.on_error && may_stand u controls.on_end

unfoldable mutual
  pub takes : Facts → ℕ → ℕ → Head → List Sort → Bool
  takes c count at ToSet sorts = is_set sorts
  takes c count at ToSetText sorts = are_pieces_and_place sorts
  takes c count at (ToSetLabel label) sorts = same_sorts (PlaceOf Integer ∷ []) sorts
  takes c count at (ToGo label) sorts = has_statement c.program label && same_sorts [] sorts
  takes c count at (ToPick labels) sorts = each_stands c.program labels && same_sorts (ValueOf Integer ∷ []) sorts
  takes c count at (ToGoAssigned labels) sorts = same_sorts (PlaceOf Integer ∷ []) sorts
  takes c count at (ToGoBySign below even above) sorts =
      each_stands c.program (below ∷ even ∷ above ∷ []) && same_sorts (ValueOf Integer ∷ []) sorts
  takes c count at (ToGuard form) sorts = is_formed c count at form && same_sorts (ValueOf Logical ∷ []) sorts
  takes c count at ToEnterArm sorts = is_arm (slice_get c.program.lines at) && same_sorts (ValueOf Logical ∷ []) sorts
  takes c count at (ToLoop label) sorts = has_terminal c.program at label && same_sorts loop_sorts sorts
  takes c count at (ToTestLoop label) sorts =
      (is_some_such (slice_get c.program.lines at) (λ line. takes_step line.form) && has_terminal c.program at label) && same_sorts (ValueOf Logical ∷ []) sorts
  takes c count at (ToCall x) sorts = is_callee (c.program.attribute x).class && are_passed c.program sorts
  takes c count at ToReturn sorts = same_sorts [] sorts || same_sorts (ValueOf Integer ∷ []) sorts
  takes c count at (ToStop text) sorts = same_sorts [] sorts
  takes c count at (ToBegin way layout controls work) sorts =
      (words_take controls.words sorts && is_some (unit_sort controls.words sorts)) &&
      (has_layout c.program controls.words layout && (controls_stand c.program controls && is_work_formed c count way work))
  takes c count at (ToAuxiliary which controls) sorts =
      (words_take controls.words sorts && is_sort (ValueOf Integer) (unit_sort controls.words sorts)) && controls_stand c.program controls
  takes c count at ToEnd sorts = same_sorts [] sorts
  takes c count at _ sorts = false

  pub is_formed : Facts → ℕ → ℕ → Form → Bool
  is_formed c count at Passes = true
  is_formed c count at (On head operands) = is_some_such (sorts_of c count [] operands) (λ sorts. takes c count at head sorts)

unfoldable pub are_formed : Facts → ℕ → ℕ → List Line → Bool
are_formed c count at [] = true
are_formed c count at (line ∷ lines) = is_formed c count at line.form && are_formed c count (suc at) lines

-- NESTS
unfoldable pub ends_unit : Head → Terms → Bool
ends_unit ToEnd NoMore = true
ends_unit _ _ = false

unfoldable pub is_end : Form → Bool
is_end Passes = false
is_end (On head operands) = ends_unit head operands

unfoldable pub is_plain : Mark → Bool
is_plain Plain = true
is_plain _ = false

unfoldable pub is_last_line : ℕ → Line → List Line → Bool
is_last_line zero line [] = is_plain line.mark && is_end line.form
is_last_line _ line _ = false

-- so many IF blocks are open behind a statement with a mark
unfoldable pub depth_behind : Mark → ℕ → Option ℕ
depth_behind Plain depth = Some depth
depth_behind Opens depth = Some (suc depth)
depth_behind Arm zero = None
depth_behind Arm (suc depth) = Some (suc depth)
depth_behind Closes zero = None
depth_behind Closes (suc depth) = Some depth

unfoldable pub is_nest : ℕ → List Line → Bool
is_nest depth [] = false
is_nest depth (line ∷ lines) = is_last_line depth line lines || is_some_such (depth_behind line.mark depth) (λ after. is_nest after lines)

-- NAMES
unfoldable pub has_home : ℕ → Option Home → Bool
has_home count home = is_some_such home (λ h. nat_lt h.sequence count)

unfoldable pub is_stored_well : ℕ → Attribute → Option Home → Bool
is_stored_well count a home =
    (is_some a.width && has_home count home) && (nat_eq (length a.bounds) (length a.dimensions) && is_some (elements_of a.bounds))

unfoldable pub is_integer_variable : Facts → Term → Bool
is_integer_variable c (At x) = is_variable (c.program.attribute x).class && same_basic (c.program.attribute x).basic Integer
is_integer_variable c _ = false

unfoldable pub is_integer : Datum → Bool
is_integer (IsInt z) = true
is_integer _ = false

unfoldable pub is_negation : Prefix → Bool
is_negation Negate = true
is_negation _ = false

unfoldable pub is_power : Function → Bool
is_power Power = true
is_power _ = false

unfoldable pub is_arithmetic : Operator → Bool
is_arithmetic Add = true
is_arithmetic Subtract = true
is_arithmetic Multiply = true
is_arithmetic Divide = true
is_arithmetic _ = false

unfoldable pub are_two : Terms → Bool
are_two (More t (More u NoMore)) = true
are_two _ = false

-- an expression of integers over constants and variables alone (5.1.1.1)
unfoldable mutual
  pub is_of_variables : Facts → Term → Bool
  is_of_variables c (Val d) = is_integer d
  is_of_variables c (Fetch t) = is_integer_variable c t
  is_of_variables c (Prefixed op t) = is_negation op && is_of_variables c t
  is_of_variables c (Between op t u) = is_arithmetic op && (is_of_variables c t && is_of_variables c u)
  is_of_variables c (Intrinsically function ts) = (is_power function && are_two ts) && are_of_variables c ts
  is_of_variables c _ = false

  pub are_of_variables : Facts → Terms → Bool
  are_of_variables c NoMore = true
  are_of_variables c (More t ts) = is_of_variables c t && are_of_variables c ts

unfoldable pub is_upper : Facts → Option Term → Bool
is_upper c None = true
is_upper c (Some t) = is_of_variables c t

unfoldable pub are_dimensions : Facts → List Dimension → Bool
are_dimensions c [] = true
are_dimensions c (d ∷ ds) = (is_of_variables c d.lower && is_upper c d.upper) && are_dimensions c ds

unfoldable pub is_function : UnitKind → Bool
is_function FunctionUnit = true
is_function _ = false

unfoldable pub is_scalar : Attribute → Bool
is_scalar a = not (is_not_empty a.dimensions) && not (is_not_empty a.bounds)

-- what a name of a class has
unfoldable pub has_what_it_wants : Class → Facts → ℕ → Bytes → Attribute → Bool
has_what_it_wants class.Stored c count x a = is_stored_well count a (c.home x)
has_what_it_wants class.Dummy c count x a = are_dimensions c a.dimensions
has_what_it_wants class.DummyProcedure c count x a = are_dimensions c a.dimensions
has_what_it_wants class.Result c count x a = is_function c.program.kind && is_scalar a
has_what_it_wants _ c count x a = true

unfoldable pub is_name_formed : Facts → ℕ → Bytes → Bool
is_name_formed c count x = has_what_it_wants (c.program.attribute x).class c count x (c.program.attribute x)

unfoldable pub are_names_formed : Facts → ℕ → List Described → Bool
are_names_formed c count [] = true
are_names_formed c count (d ∷ ds) = is_name_formed c count d.name && are_names_formed c count ds

unfoldable pub are_entries_within : ℕ → List EntryPoint → Bool
are_entries_within count [] = true
are_entries_within count (e ∷ es) = nat_lt e.start count && are_entries_within count es

-- UNITS, each with the names that it describes
unfoldable pub is_unit_formed : Facts → ℕ → List Described → Bool
is_unit_formed c count ds =
    (are_formed c count 0 c.program.lines && is_nest 0 c.program.lines) &&
    ((is_not_empty c.program.entries && are_entries_within (length c.program.lines) c.program.entries) && are_names_formed c count ds)

unfoldable pub are_units_formed : Options → Setting → ℕ → List WrittenUnit → Bool
are_units_formed options g k [] = true
are_units_formed options g k (u ∷ us) =
    is_unit_formed (facts_at g k (Some (unit_read options u))) (length g.sizes) (all_described u) && are_units_formed options g (suc k) us

unfoldable pub written_in : List File → List WrittenUnit
written_in [] = []
written_in (f ∷ fs) = f.units ++ written_in fs

unfoldable pub is_set_formed : Options → Setting → FileSet → Bool
is_set_formed options g set = are_units_formed options g 0 (written_in set.files)

-- WHAT IS CHECKED IS WELL FORMED, and what is well formed is found to be so
abbrev pub EachCheckedSetIsWellFormed : Type 0
EachCheckedSetIsWellFormed = (options : Options) (g : Setting) (set : FileSet) → IsTrue (is_set_formed options g set) → AreWellFormed g (units_of options set)

abbrev pub EachWellFormedSetIsFound : Type 0
EachWellFormedSetIsFound = (options : Options) (g : Setting) (set : FileSet) → AreWellFormed g (units_of options set) → IsTrue (is_set_formed options g set)

-- each set of a list, whose names stand apart
abbrev pub EachIsWellFormed : List FileSet → Type 0
EachIsWellFormed sets = (set : FileSet) → IsIn set sets → AreWellFormed (setting_apart (units_of no_options set)) (units_of no_options set)

unfoldable pub are_sets_formed : List FileSet → Bool
are_sets_formed [] = true
are_sets_formed (set ∷ sets) = is_set_formed no_options (setting_apart (units_of no_options set)) set && are_sets_formed sets

-- a set that is not well formed, and of which that is found by computing; its run comes at step n + 1 to a form without meaning
pub record IsIllFormed (set : FileSet) (n : ℕ) : Type 0 where
  pub found : is_set_formed no_options (setting_apart (units_of no_options set)) set ≡ false
  pub meets : MeetsApart no_options set [] n NoMeaning
  pub not_formed : AreWellFormed (setting_apart (units_of no_options set)) (units_of no_options set) → ⊥

unfoldable pub checks_opened : Unit {0}
unfolding takes_step same_basic is_variable is_procedure_name has_size is_callee unit_sort names_format is_given has_arm is_dummy if_some provided is_some_such is_valued same_sort same_sorts is_sort are_sorts placed_basic valued_basic is_piece are_pieces is_last prefixed_basic over_integers over_logicals over_ordered operated_basic extreme_basic applied_basic datum_sort name_sort referred_sort sort_of sorts_of has_statement has_terminal each_stands may_stand word_takes words_take has_layout is_listed is_job_formed is_work_formed is_passed are_passed is_set are_pieces_and_place is_arm controls_stand takes is_formed are_formed ends_unit is_end is_plain is_last_line depth_behind is_nest has_home is_stored_well is_integer_variable is_integer is_negation is_power is_arithmetic are_two is_of_variables are_of_variables is_upper are_dimensions is_function is_scalar has_what_it_wants is_name_formed are_names_formed are_entries_within is_unit_formed are_units_formed written_in is_set_formed are_sets_formed
checks_opened = tt
