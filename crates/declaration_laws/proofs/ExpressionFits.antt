-- An expression that breaks no row is read as what it is judged to be.
use Rattle.std.specs.Prelude.{◌≡◌, ℕ, zero, suc, nat_eq, pos, Bool, true, false, List, [], ◌∷◌, ◌++◌, length, map, replicate, Option, Some, None, IsTrue}
use Rattle.std.proofs.Common.{refl, sym, ap, ◌∙◌, subst}
use Rattle.std.proofs.lemmas.Bool.{eqb-true}
use Rattle.fortran_laws.specs.f_tree.declared.names.Basic.{Basic}
use Rattle.fortran_laws.specs.f_tree.declared.names.Basic.TheVariants.{Integer, Logical, Character}
use Rattle.fortran_laws.specs.f_tree.declared.names.Class.{Class}
use Rattle.fortran_laws.specs.f_tree.declared.names.Class.TheVariants as class
use Rattle.fortran_laws.specs.f_tree.declared.refusals.Kind.{Kind}
use Rattle.fortran_laws.specs.f_tree.declared.refusals.Kind.TheVariants.{OperandTypes, NumberOfSubscripts}
use Rattle.fortran_laws.specs.f_tree.declared.expressions.BinaryOp.{BinaryOp}
use Rattle.fortran_laws.specs.f_tree.declared.expressions.BinaryOp.TheVariants as op
use Rattle.fortran_laws.specs.f_tree.declared.expressions.Expr.{Expr, Int, Logical as TruthValue, Text, Name, Apply', Part', Minus', Plus', Not', Paren', Binary', AltReturn, Bind', Bound as BoundValue, Row_of-Expr, end_of-Expr, more_of-Expr, None', Some', Held-Expr-Part-1}
use Rattle.fortran_laws.specs.f_tree.Folds.{fold_expr, fold_exprs, fold_held}
use Rattle.fortran_laws.specs.f_tree.Values.{Bytes, Datum, IsInt, IsLog, IsText, IsLabel, Nothing}
use Rattle.fortran_laws.specs.f_tree.Terms.{Negate, Complement, Operator, Add, Subtract, Multiply, Divide, IsLess, IsLessOrEqual, IsEqual, IsNotEqual, IsGreater, IsGreaterOrEqual, Both, Either, Same, Different, Function, Power, Truncation, Magnitude, Remainder, SignTransfer, PositiveDifference, Largest, Smallest, CharacterCode, CharacterOfCode, TextLength, IndexOf, LexicallyGreaterOrEqual, LexicallyGreater, LexicallyLessOrEqual, LexicallyLess, Front, Fitted, InclusiveOr, LogicalProduct, ExclusiveOr, BitComplement, BitShift, BitTest, BitSet, BitClear, AsFunction, Term, Val, Fetch, At, Element, Part, Joined, Before, Between, Intrinsically, Refer, Bind, Terms, NoMore, More, terms}
use Rattle.fortran_laws.specs.f_tree.Facts.{Dimension, Attribute, Facts}
use Rattle.fortran_laws.specs.f_tree.Association.{same_basic}
use Rattle.fortran_laws.specs.f_tree.Reading.{Read, valued_only, placed, function_named, name_read, pieces_asked, operands_of, width_or_zero, function_read, intrinsic_read, expanded_read, applied_read, end_read, name_or_none, joined_read, binary_read, layer_read, read}
use Rattle.fortran_laws.specs.f_tree.Lines.{is_array}
use Rattle.fortran_laws.specs.f_tree.WellTyped as typed
use Rattle.fortran_laws.specs.f_tree.WellTyped.{Sort, ValueOf, PlaceOf, AProcedure, ALabel, Absent, IsOf, IsValued, Operates, Applies, IsPiece, ArePieces, IsLast, IsVariable, Typed, AreTyped, integers_of, rank_of, is_variable, is_procedure_name, is_callee, has_size}
use Rattle.refusal_order.specs.declaration_rows.Judgement.{What, AValue, APlace, AnArray, AProcedureName, AFunctionName, AnExit, NoOperand, Judged, Known, a_value, a_place, no_operand, wants_one, unless, wants, are_comparable, passed, all_faults, all_passed, all_wanted, variable_judged, function_name, bound_judged, name_judged, wanted_by, given_by, intrinsic_judged, expanded_judged, defined_judged, reference_judged, element_judged, applied_judged, wants_place, end_faults, part_judged, both_wanted, compared, binary_judged, layer_judged, judge}
use Rattle.refusal_order.specs.declaration_rows.Fits.{JoinsPieces, FitsOne, IsNoArray, FitsValue, FitsPlace, FitsAs, Fits, AgreesOnVariable, IsConstant, IsReplaced, Agrees, IsReadAs, read_alike, never_read, EachFaultlessExpressionIsTyped}

-- LISTS
pub none_of_both : {A : Type 0} (xs ys : List A) → (xs ++ ys) ≡ [] → (xs ≡ []) × (ys ≡ [])
none_of_both [] ys none = (refl, none)
none_of_both (x ∷ xs) ys none = absurd (cc)

pub unless_holds : (b : Bool) (kind : Kind) → unless b kind ≡ [] → IsTrue b
unfolding unless
unless_holds true kind none = refl
unless_holds false kind none = absurd (cc)

pub same_some : {A : Type 0} (a b : A) → Some a ≡ Some b → a ≡ b
same_some a b same = cc

-- types that are the same
pub basics_are : (a b : Basic) → IsTrue (same_basic a b) → a ≡ b
unfolding same_basic
basics_are Integer Integer same = refl
basics_are Logical Logical same = refl
basics_are Character Character same = refl
basics_are _ _ same = absurd (cc)

pub integers_mapped : (n : ℕ) → map ValueOf (replicate n Integer) ≡ replicate n (ValueOf Integer)
integers_mapped zero = refl
integers_mapped (suc n) = ap (λ xs. ValueOf Integer ∷ xs) (integers_mapped n)

-- arrays
pub is_flat : (a : Attribute) → a.dimensions ≡ [] → is_array a ≡ false
unfolding is_array
is_flat a none = subst (λ ds. is_array (record a { dimensions = ds }) ≡ false) (sym none) refl

pub is_shaped : (a : Attribute) (d : Dimension) (ds : List Dimension) → a.dimensions ≡ d ∷ ds → is_array a ≡ true
unfolding is_array
is_shaped a d ds some = subst (λ es. is_array (record a { dimensions = es }) ≡ true) (sym some) refl

module _ (c : Facts) (count : ℕ) (env : List Sort) where
  -- PIECES
  pub pieces_joined : (xs ys : List Sort) → ArePieces xs → ArePieces ys → ArePieces (xs ++ ys)
  pieces_joined [] ys typed.no_pieces more = more
  pieces_joined (x ∷ xs) ys (typed.more_pieces _ _ piece pieces) more = typed.more_pieces x (xs ++ ys) piece (pieces_joined xs ys pieces more)

  pub terms_joined : (ts us : List Term) (xs ys : List Sort) → AreTyped c count env (terms ts) xs → AreTyped c count env (terms us) ys →
      AreTyped c count env (terms (ts ++ us)) (xs ++ ys)
  unfolding terms
  terms_joined [] us [] ys (typed.no_terms _) more = more
  terms_joined [] us (x ∷ xs) ys others more = elim others [ ]
  terms_joined (t ∷ ts) us [] ys others more = elim others [ ]
  terms_joined (t ∷ ts) us (x ∷ xs) ys (typed.more_terms _ _ _ _ _ one others) more =
      typed.more_terms env t (terms (ts ++ us)) x (xs ++ ys) one (terms_joined ts us xs ys others more)

  pub pieces_of_both : (ts us : List Term) → JoinsPieces c count env ts → JoinsPieces c count env us → JoinsPieces c count env (ts ++ us)
  pieces_of_both ts us a b = record {
    sort = a.sort;
    sorts = a.sorts ++ (b.sort ∷ b.sorts);
    are_pieces = pieces_joined (a.sort ∷ a.sorts) (b.sort ∷ b.sorts) a.are_pieces b.are_pieces;
    typed = terms_joined ts us (a.sort ∷ a.sorts) (b.sort ∷ b.sorts) a.typed b.typed;
  }

  pub one_piece : (t : Term) (sort : Sort) → IsPiece sort → Typed c count env t sort → JoinsPieces c count env (t ∷ [])
  unfolding terms
  one_piece t sort piece of = record {
    sort = sort;
    sorts = [];
    are_pieces = typed.more_pieces sort [] piece typed.no_pieces;
    typed = typed.more_terms env t NoMore sort [] of (typed.no_terms env);
  }

  -- one value by its term alone
  pub one_value : (basic : Basic) (t : Term) → Typed c count env t (ValueOf basic) → FitsOne c count env basic (valued_only t)
  unfolding valued_only
  one_value basic t of = record {
    valued = of;
    joins = λ is. one_piece t (ValueOf Character) typed.piece_value (subst (λ b. Typed c count env t (ValueOf b)) is of);
  }

module _ (c : Facts) (count : ℕ) (env : List Sort) (known : Known) where
  pub value_fits : (basic : Basic) (t : Term) → Typed c count env t (ValueOf basic) → FitsValue c count env known basic (valued_only t)
  unfolding valued_only IsNoArray
  value_fits basic t of = record { one = one_value c count env basic t of; passes = of; no_base = refl; no_array = λ x named. absurd (cc) }

  pub named_value : (x : Bytes) (basic : Basic) (t : Term) → Typed c count env t (ValueOf basic) → is_array (known.attribute x) ≡ false →
      FitsValue c count env known basic (record (valued_only t) { named = Some x })
  unfolding valued_only IsNoArray
  named_value x basic t of flat = record {
    one = record { valued = of; joins = (one_value c count env basic t of).joins };
    passes = of;
    no_base = refl;
    no_array = λ y named. subst (λ z. is_array (known.attribute z) ≡ false) (same_some x y named) flat;
  }

  -- a place by its term, by its name and by the variable or array that it is a part of
  pub place_fits : (basic : Basic) (t : Term) (name owner : Option Bytes) (x : Bytes) → IsValued basic → Typed c count env t (PlaceOf basic) → owner ≡ Some x →
      (known.attribute x).basic ≡ basic → ((y : Bytes) → name ≡ Some y → is_array (known.attribute y) ≡ false) →
      FitsPlace c count env known basic (record { value = Fetch t; actual = t; pieces = t ∷ []; named = name; base = owner })
  unfolding IsNoArray
  place_fits basic t name owner x valued of is of_basic flat = record {
    one = record {
      valued = typed.is_fetch env t basic valued of;
      joins = λ is_text. one_piece c count env t (PlaceOf Character) typed.piece_place (subst (λ b. Typed c count env t (PlaceOf b)) is_text of);
    };
    has_values = valued;
    passes = of;
    owner = x;
    owner_is = is;
    owner_basic = of_basic;
    no_array = flat;
  }

  -- OPERANDS
  abbrev pub Related : Judged → Read → Type 0
  Related j r = j.faults ≡ [] → Fits c count env known j r

  pub one_as : (w : What) (basic : Basic) (r : Read) → FitsAs c count env known w basic r → wants_one w ≡ [] → FitsOne c count env basic r
  unfolding FitsAs wants_one
  one_as AValue basic r fits none = fits.one
  one_as APlace basic r fits none = fits.one
  one_as (AnArray sized) basic r fits none = absurd (cc)
  one_as AProcedureName basic r fits none = absurd (cc)
  one_as AFunctionName basic r fits none = absurd (cc)
  one_as (AnExit label) basic r fits none = absurd (cc)
  one_as NoOperand basic r fits none = absurd (cc)

  pub one_of : (j : Judged) (r : Read) → Related j r → j.faults ≡ [] → wants_one j.what ≡ [] → FitsOne c count env j.basic r
  unfolding Fits
  one_of j r related faultless none = one_as j.what j.basic r (related faultless) none

  pub wanted : (basic : Basic) (j : Judged) (r : Read) → Related j r → j.faults ≡ [] → wants basic j ≡ [] → FitsOne c count env basic r
  unfolding wants
  wanted basic j r related faultless none =
      let h : (wants_one j.what ≡ []) × (unless (same_basic j.basic basic) OperandTypes ≡ []) =
      none_of_both (wants_one j.what) (unless (same_basic j.basic basic) OperandTypes) none in
      subst (λ b. FitsOne c count env b r) (basics_are j.basic basic (unless_holds (same_basic j.basic basic) OperandTypes h.1)) (one_of j r related faultless h.0)

  -- what follows from the faults of an operand that is wanted
  pub wanted_in : (basic : Basic) (j : Judged) (r : Read) → Related j r → (j.faults ++ wants basic j) ≡ [] → FitsOne c count env basic r
  wanted_in basic j r related none =
      let h : (j.faults ≡ []) × (wants basic j ≡ []) = none_of_both j.faults (wants basic j) none in wanted basic j r related h.0 h.1

  pub data AllRelated : List Read → List Judged → Type 0 where
    none_related : AllRelated [] []
    one_related : (r : Read) (rs : List Read) (j : Judged) (js : List Judged) → Related j r → AllRelated rs js → AllRelated (r ∷ rs) (j ∷ js)

  pub wanted_all : (basics : List Basic) (rs : List Read) (js : List Judged) → AllRelated rs js → all_faults js ≡ [] → all_wanted basics js ≡ [] →
      AreTyped c count env (terms (map (λ r. r.value) rs)) (map ValueOf basics)
  unfolding all_faults all_wanted terms
  wanted_all [] [] [] none_related faultless none = typed.no_terms env
  wanted_all [] [] (j ∷ js) all faultless none = elim all [ ]
  wanted_all [] (r ∷ rs) [] all faultless none = elim all [ ]
  wanted_all (basic ∷ basics) [] (j ∷ js) all faultless none = elim all [ ]
  wanted_all (basic ∷ basics) (r ∷ rs) [] all faultless none = elim all [ ]
  wanted_all [] (r ∷ rs) (j ∷ js) (one_related _ _ _ _ one others) faultless none = absurd (cc)
  wanted_all (basic ∷ basics) [] [] none_related faultless none = absurd (cc)
  wanted_all (basic ∷ basics) (r ∷ rs) (j ∷ js) (one_related _ _ _ _ one others) faultless none =
      let f : (j.faults ≡ []) × (all_faults js ≡ []) = none_of_both j.faults (all_faults js) faultless in
      let n : (wants basic j ≡ []) × (all_wanted basics js ≡ []) = none_of_both (wants basic j) (all_wanted basics js) none in
      typed.more_terms env r.value (terms (map (λ r. r.value) rs)) (ValueOf basic) (map ValueOf basics) (wanted basic j r one f.0 n.0).valued
      (wanted_all basics rs js others f.1 n.1)

  -- an actual argument has some sort
  pub record Passes (t : Term) : Type 0 where
    pub sort : Sort
    pub typed : Typed c count env t sort

  pub record AllPass (ts : Terms) : Type 0 where
    pub sorts : List Sort
    pub typed : AreTyped c count env ts sorts

  pub passes_as : (w : What) (basic : Basic) (r : Read) → FitsAs c count env known w basic r → passed w ≡ [] → Passes r.actual
  unfolding FitsAs passed
  passes_as AValue basic r fits none = record { sort = ValueOf basic; typed = fits.passes }
  passes_as APlace basic r fits none = record { sort = PlaceOf basic; typed = fits.passes }
  passes_as (AnArray sized) basic r fits none = record { sort = PlaceOf basic; typed = fits.passes }
  passes_as AProcedureName basic r fits none = record { sort = AProcedure; typed = fits }
  passes_as AFunctionName basic r fits none = absurd (cc)
  passes_as (AnExit label) basic r fits none = absurd (cc)
  passes_as NoOperand basic r fits none = absurd fits

  pub passes_of : (j : Judged) (r : Read) → Related j r → j.faults ≡ [] → passed j.what ≡ [] → Passes r.actual
  unfolding Fits
  passes_of j r related faultless none = passes_as j.what j.basic r (related faultless) none

  pub all_pass : (rs : List Read) (js : List Judged) → AllRelated rs js → all_faults js ≡ [] → all_passed js ≡ [] → AllPass (terms (map (λ r. r.actual) rs))
  unfolding all_faults all_passed terms
  all_pass [] [] none_related faultless none = record { sorts = []; typed = typed.no_terms env }
  all_pass [] (j ∷ js) all faultless none = elim all [ ]
  all_pass (r ∷ rs) [] all faultless none = elim all [ ]
  all_pass (r ∷ rs) (j ∷ js) (one_related _ _ _ _ one others) faultless none =
      let f : (j.faults ≡ []) × (all_faults js ≡ []) = none_of_both j.faults (all_faults js) faultless in
      let n : (passed j.what ≡ []) × (all_passed js ≡ []) = none_of_both (passed j.what) (all_passed js) none in
      let first : Passes r.actual = passes_of j r one f.0 n.0 in
      let rest : AllPass (terms (map (λ r. r.actual) rs)) = all_pass rs js others f.1 n.1 in
      record {
        sorts = first.sort ∷ rest.sorts;
        typed = typed.more_terms env r.actual (terms (map (λ r. r.actual) rs)) first.sort rest.sorts first.typed rest.typed;
      }

  -- INTRINSIC FUNCTIONS. LEN asks the pieces of its one argument
  pub length_typed : (rs : List Read) (js : List Judged) → AllRelated rs js → all_faults js ≡ [] → all_wanted (Character ∷ []) js ≡ [] →
      Typed c count env (Intrinsically TextLength (terms (pieces_asked rs))) (ValueOf Integer)
  unfolding all_faults all_wanted pieces_asked
  length_typed rs js none_related faultless none = absurd (cc)
  length_typed rs js (one_related r _ j _ one none_related) faultless none =
      let f : (j.faults ≡ []) × (all_faults [] ≡ []) = none_of_both j.faults [] faultless in
      let n : (wants Character j ≡ []) × (all_wanted [] [] ≡ []) = none_of_both (wants Character j) [] none in
      let p : JoinsPieces c count env r.pieces = (wanted Character j r one f.0 n.0).joins refl in
      typed.is_intrinsic env TextLength (terms r.pieces) (p.sort ∷ p.sorts) Integer (typed.length_of_pieces p.sort p.sorts p.are_pieces) p.typed
  length_typed rs js (one_related r _ j _ one (one_related q qs k ks two others)) faultless none =
      let n : (wants Character j ≡ []) × ((OperandTypes ∷ []) ≡ []) = none_of_both (wants Character j) (OperandTypes ∷ []) none in
      absurd (let bad = n.1 in cc)

  -- the functions over values
  pub over_values : (f : Function) (basics : List Basic) (result : Basic) (rs : List Read) (js : List Judged) → AllRelated rs js → all_faults js ≡ [] →
      all_wanted basics js ≡ [] → Applies f (map ValueOf basics) result → Typed c count env (Intrinsically f (terms (map (λ r. r.value) rs))) (ValueOf result)
  over_values f basics result rs js all faultless none applies =
      typed.is_intrinsic env f (terms (map (λ r. r.value) rs)) (map ValueOf basics) result applies (wanted_all basics rs js all faultless none)

  -- the greatest and the least of two or more
  pub extreme_typed : (f : Function) (rs : List Read) (js : List Judged) → AllRelated rs js → all_faults js ≡ [] →
      ((n : ℕ) → wanted_by f (suc (suc n)) ≡ (Integer ∷ Integer ∷ replicate n Integer)) → wanted_by f 0 ≡ (Integer ∷ Integer ∷ []) →
      wanted_by f 1 ≡ (Integer ∷ Integer ∷ []) → ((n : ℕ) → Applies f (ValueOf Integer ∷ integers_of n) Integer) → all_wanted (wanted_by f (length js)) js ≡ [] →
      Typed c count env (Intrinsically f (terms (map (λ r. r.value) rs))) (ValueOf Integer)
  unfolding all_wanted
  extreme_typed f rs [] all faultless many none_wants one_wants applies none =
      absurd (let bad : all_wanted (Integer ∷ Integer ∷ []) [] ≡ [] = subst (λ bs. all_wanted bs [] ≡ []) none_wants none in cc)
  extreme_typed f rs (j ∷ []) all faultless many none_wants one_wants applies none =
      let w : all_wanted (Integer ∷ Integer ∷ []) (j ∷ []) ≡ [] = subst (λ bs. all_wanted bs (j ∷ []) ≡ []) one_wants none in
      absurd (let bad = (none_of_both (wants Integer j) (OperandTypes ∷ []) w).1 in cc)
  extreme_typed f rs (j ∷ k ∷ js) all faultless many none_wants one_wants applies none =
      over_values f (Integer ∷ Integer ∷ replicate (length js) Integer) Integer rs (j ∷ k ∷ js) all faultless
      (subst (λ bs. all_wanted bs (j ∷ k ∷ js) ≡ []) (many (length js)) none)
      (subst (λ sorts. Applies f (ValueOf Integer ∷ ValueOf Integer ∷ sorts) Integer) (sym (integers_mapped (length js))) (applies (suc (length js))))

  pub function_typed : (f : Function) (rs : List Read) (js : List Judged) → AllRelated rs js → all_faults js ≡ [] → all_wanted (wanted_by f (length js)) js ≡ [] →
      Typed c count env (Intrinsically f (terms (operands_of f rs))) (ValueOf (given_by f))
  unfolding wanted_by given_by operands_of
  function_typed Power rs js all f n = over_values Power (Integer ∷ Integer ∷ []) Integer rs js all f n typed.power
  function_typed Truncation rs js all f n = over_values Truncation (Integer ∷ []) Integer rs js all f n typed.truncation
  function_typed Magnitude rs js all f n = over_values Magnitude (Integer ∷ []) Integer rs js all f n typed.magnitude
  function_typed Remainder rs js all f n = over_values Remainder (Integer ∷ Integer ∷ []) Integer rs js all f n typed.remainder
  function_typed SignTransfer rs js all f n = over_values SignTransfer (Integer ∷ Integer ∷ []) Integer rs js all f n typed.sign_transfer
  function_typed PositiveDifference rs js all f n = over_values PositiveDifference (Integer ∷ Integer ∷ []) Integer rs js all f n typed.positive_difference
  function_typed Largest rs js all f n = extreme_typed Largest rs js all f (λ m. refl) refl refl typed.largest n
  function_typed Smallest rs js all f n = extreme_typed Smallest rs js all f (λ m. refl) refl refl typed.smallest n
  function_typed CharacterCode rs js all f n = over_values CharacterCode (Character ∷ []) Integer rs js all f n typed.character_code
  function_typed CharacterOfCode rs js all f n = over_values CharacterOfCode (Integer ∷ []) Character rs js all f n typed.character_of_code
  function_typed TextLength rs js all f n = length_typed rs js all f n
  function_typed IndexOf rs js all f n = over_values IndexOf (Character ∷ Character ∷ []) Integer rs js all f n typed.index_of
  function_typed LexicallyGreaterOrEqual rs js all f n =
      over_values LexicallyGreaterOrEqual (Character ∷ Character ∷ []) Logical rs js all f n typed.lexically_greater_or_equal
  function_typed LexicallyGreater rs js all f n = over_values LexicallyGreater (Character ∷ Character ∷ []) Logical rs js all f n typed.lexically_greater
  function_typed LexicallyLessOrEqual rs js all f n =
      over_values LexicallyLessOrEqual (Character ∷ Character ∷ []) Logical rs js all f n typed.lexically_less_or_equal
  function_typed LexicallyLess rs js all f n = over_values LexicallyLess (Character ∷ Character ∷ []) Logical rs js all f n typed.lexically_less
  function_typed (Front k) rs js all f n = over_values (Front k) (Character ∷ []) Character rs js all f n (typed.front k)
  function_typed (Fitted k) rs js all f n = over_values (Fitted k) (Character ∷ []) Character rs js all f n (typed.fitted k)
  function_typed InclusiveOr rs js all f n = over_values InclusiveOr (Integer ∷ Integer ∷ []) Integer rs js all f n typed.inclusive_or
  function_typed LogicalProduct rs js all f n = over_values LogicalProduct (Integer ∷ Integer ∷ []) Integer rs js all f n typed.logical_product
  function_typed ExclusiveOr rs js all f n = over_values ExclusiveOr (Integer ∷ Integer ∷ []) Integer rs js all f n typed.exclusive_or
  function_typed BitComplement rs js all f n = over_values BitComplement (Integer ∷ []) Integer rs js all f n typed.bit_complement
  function_typed BitShift rs js all f n = over_values BitShift (Integer ∷ Integer ∷ []) Integer rs js all f n typed.bit_shift
  function_typed BitTest rs js all f n = over_values BitTest (Integer ∷ Integer ∷ []) Logical rs js all f n typed.bit_test
  function_typed BitSet rs js all f n = over_values BitSet (Integer ∷ Integer ∷ []) Integer rs js all f n typed.bit_set
  function_typed BitClear rs js all f n = over_values BitClear (Integer ∷ Integer ∷ []) Integer rs js all f n typed.bit_clear

  -- OPERATORS
  pub both_fit : (basic result : Basic) (p q : Judged) (a b : Read) (r : Read) → Related p a → Related q b →
      (FitsOne c count env basic a → FitsOne c count env basic b → FitsValue c count env known result r) → Related (both_wanted basic result p q) r
  unfolding Fits FitsAs both_wanted a_value
  both_fit basic result p q a b r one other make none =
      let h : (p.faults ≡ []) × ((wants basic p ++ (q.faults ++ wants basic q)) ≡ []) = none_of_both p.faults (wants basic p ++ (q.faults ++ wants basic q)) none in
      let k : (wants basic p ≡ []) × ((q.faults ++ wants basic q) ≡ []) = none_of_both (wants basic p) (q.faults ++ wants basic q) h.1 in
      make (wanted basic p a one h.0 k.0) (wanted_in basic q b other k.1)

  pub operator_fits : (op : Operator) (basic result : Basic) (p q : Judged) (a b : Read) → Related p a → Related q b → Operates op basic result →
      Related (both_wanted basic result p q) (valued_only (Between op a.value b.value))
  operator_fits op basic result p q a b one other operates =
      both_fit basic result p q a b (valued_only (Between op a.value b.value)) one other
      (λ x y. value_fits result (Between op a.value b.value) (typed.is_between env op a.value b.value basic result operates x.valued y.valued))

  pub power_fits : (p q : Judged) (a b : Read) → Related p a → Related q b →
      Related (both_wanted Integer Integer p q) (valued_only (Intrinsically Power (More a.value (More b.value NoMore))))
  power_fits p q a b one other =
      both_fit Integer Integer p q a b (valued_only (Intrinsically Power (More a.value (More b.value NoMore)))) one other
      (λ x y. value_fits Integer (Intrinsically Power (More a.value (More b.value NoMore)))
      (typed.is_intrinsic env Power (More a.value (More b.value NoMore)) (ValueOf Integer ∷ ValueOf Integer ∷ []) Integer typed.power
      (typed.more_terms env a.value (More b.value NoMore) (ValueOf Integer) (ValueOf Integer ∷ []) x.valued
      (typed.more_terms env b.value NoMore (ValueOf Integer) [] y.valued (typed.no_terms env)))))

  pub joined_fits : (p q : Judged) (a b : Read) → Related p a → Related q b → Related (both_wanted Character Character p q) (joined_read (a.pieces ++ b.pieces))
  unfolding joined_read IsNoArray
  joined_fits p q a b one other = both_fit Character Character p q a b (joined_read (a.pieces ++ b.pieces)) one other (λ x y.
      let j : JoinsPieces c count env (a.pieces ++ b.pieces) = pieces_of_both c count env a.pieces b.pieces (x.joins refl) (y.joins refl) in
      let t : Typed c count env (Joined (terms (a.pieces ++ b.pieces))) (ValueOf Character) =
      typed.is_joined env (terms (a.pieces ++ b.pieces)) (j.sort ∷ j.sorts) j.are_pieces j.typed in
      record { one = record { valued = t; joins = λ is. j }; passes = t; no_base = refl; no_array = λ z named. absurd (cc) })

  pub comparable_are : (op : Operator) (a b : Basic) → IsTrue (are_comparable a b) → Operates op Integer Logical → Operates op Character Logical →
      (Operates op a Logical) × (b ≡ a)
  unfolding are_comparable
  comparable_are op Integer Integer both integers texts = (integers, refl)
  comparable_are op Character Character both integers texts = (texts, refl)
  comparable_are op _ _ both integers texts = absurd (cc)

  pub compared_fits : (op : Operator) (p q : Judged) (a b : Read) → Related p a → Related q b →
      Operates op Integer Logical → Operates op Character Logical → Related (compared p q) (valued_only (Between op a.value b.value))
  unfolding Fits FitsAs compared a_value
  compared_fits op p q a b one other integers texts none =
      let h : (p.faults ≡ []) × ((wants_one p.what ++ (q.faults ++ (wants_one q.what ++ unless (are_comparable p.basic q.basic) OperandTypes))) ≡ []) =
      none_of_both p.faults (wants_one p.what ++ (q.faults ++ (wants_one q.what ++ unless (are_comparable p.basic q.basic) OperandTypes))) none in
      let k : (wants_one p.what ≡ []) × ((q.faults ++ (wants_one q.what ++ unless (are_comparable p.basic q.basic) OperandTypes)) ≡ []) =
      none_of_both (wants_one p.what) (q.faults ++ (wants_one q.what ++ unless (are_comparable p.basic q.basic) OperandTypes)) h.1 in
      let l : (q.faults ≡ []) × ((wants_one q.what ++ unless (are_comparable p.basic q.basic) OperandTypes) ≡ []) =
      none_of_both q.faults (wants_one q.what ++ unless (are_comparable p.basic q.basic) OperandTypes) k.1 in
      let m : (wants_one q.what ≡ []) × (unless (are_comparable p.basic q.basic) OperandTypes ≡ []) =
      none_of_both (wants_one q.what) (unless (are_comparable p.basic q.basic) OperandTypes) l.1 in
      let s : Operates op p.basic Logical × (q.basic ≡ p.basic) =
      comparable_are op p.basic q.basic (unless_holds (are_comparable p.basic q.basic) OperandTypes m.1) integers texts in
      let x : FitsOne c count env p.basic a = one_of p a one h.0 k.0 in
      let y : FitsOne c count env p.basic b = subst (λ z. FitsOne c count env z b) s.1 (one_of q b other l.0 m.0) in
      value_fits Logical (Between op a.value b.value) (typed.is_between env op a.value b.value p.basic Logical s.0 x.valued y.valued)

  pub binary_fits : (o : BinaryOp) (p q : Judged) (a b : Read) → Related p a → Related q b → Related (binary_judged o p q) (binary_read o a b)
  unfolding binary_judged binary_read
  binary_fits op.Power p q a b one other = power_fits p q a b one other
  binary_fits op.Times p q a b one other = operator_fits Multiply Integer Integer p q a b one other typed.multiplies
  binary_fits op.Divide p q a b one other = operator_fits Divide Integer Integer p q a b one other typed.divides
  binary_fits op.Plus p q a b one other = operator_fits Add Integer Integer p q a b one other typed.adds
  binary_fits op.Minus p q a b one other = operator_fits Subtract Integer Integer p q a b one other typed.subtracts
  binary_fits op.Concatenate p q a b one other = joined_fits p q a b one other
  binary_fits op.Less p q a b one other = compared_fits IsLess p q a b one other typed.less typed.text_less
  binary_fits op.LessOrEqual p q a b one other = compared_fits IsLessOrEqual p q a b one other typed.less_or_equal typed.text_less_or_equal
  binary_fits op.Equal p q a b one other = compared_fits IsEqual p q a b one other typed.equal typed.text_equal
  binary_fits op.NotEqual p q a b one other = compared_fits IsNotEqual p q a b one other typed.not_equal typed.text_not_equal
  binary_fits op.Greater p q a b one other = compared_fits IsGreater p q a b one other typed.greater typed.text_greater
  binary_fits op.GreaterOrEqual p q a b one other = compared_fits IsGreaterOrEqual p q a b one other typed.greater_or_equal typed.text_greater_or_equal
  binary_fits op.And p q a b one other = operator_fits Both Logical Logical p q a b one other typed.both
  binary_fits op.Or p q a b one other = operator_fits Either Logical Logical p q a b one other typed.either
  binary_fits op.Equivalent p q a b one other = operator_fits Same Logical Logical p q a b one other typed.same
  binary_fits op.NotEquivalent p q a b one other = operator_fits Different Logical Logical p q a b one other typed.different

  -- SUBSTRINGS
  pub data HeldRelated : Option Read → Option Judged → Type 0 where
    none_held : HeldRelated None None
    one_held : (r : Read) (j : Judged) → Related j r → HeldRelated (Some r) (Some j)

  pub first_typed : (o : Option Read) (p : Option Judged) → HeldRelated o p → end_faults p ≡ [] → Typed c count env (end_read o (IsInt (pos 1))) (ValueOf Integer)
  unfolding end_faults end_read
  first_typed None None none_held none = typed.is_val env (IsInt (pos 1)) (ValueOf Integer) (typed.integer (pos 1))
  first_typed None (Some j) held none = elim held [ ]
  first_typed (Some r) None held none = elim held [ ]
  first_typed (Some r) (Some j) (one_held _ _ one) none = (wanted_in Integer j r one none).valued

  pub record LastTyped (t : Term) : Type 0 where
    pub last : Sort
    pub is_last : IsLast last
    pub typed : Typed c count env t last

  pub last_typed : (o : Option Read) (p : Option Judged) → HeldRelated o p → end_faults p ≡ [] → LastTyped (end_read o Nothing)
  unfolding end_faults end_read
  last_typed None None none_held none = record { last = Absent; is_last = typed.own_last; typed = typed.is_val env Nothing Absent typed.nothing }
  last_typed None (Some j) held none = elim held [ ]
  last_typed (Some r) None held none = elim held [ ]
  last_typed (Some r) (Some j) (one_held _ _ one) none =
      record { last = ValueOf Integer; is_last = typed.written_last; typed = (wanted_in Integer j r one none).valued }

  pub place_as : (w : What) (basic : Basic) (r : Read) → FitsAs c count env known w basic r → wants_place w ≡ [] → FitsPlace c count env known basic r
  unfolding FitsAs wants_place
  place_as AValue basic r fits none = absurd (cc)
  place_as APlace basic r fits none = fits
  place_as (AnArray sized) basic r fits none = absurd (cc)
  place_as AProcedureName basic r fits none = absurd (cc)
  place_as AFunctionName basic r fits none = absurd (cc)
  place_as (AnExit label) basic r fits none = absurd (cc)
  place_as NoOperand basic r fits none = absurd (cc)

  pub place_of : (j : Judged) (r : Read) → Related j r → j.faults ≡ [] → wants_place j.what ≡ [] → FitsPlace c count env known j.basic r
  unfolding Fits
  place_of j r related faultless none = place_as j.what j.basic r (related faultless) none

  pub part_fits : (j : Judged) (r : Read) (from to : Option Read) (p q : Option Judged) → Related j r → HeldRelated from p → HeldRelated to q →
      Related (part_judged j p q) (record (placed (Part (name_or_none r.base) r.actual (end_read from (IsInt (pos 1))) (end_read to Nothing))) { base = r.base })
  unfolding Fits FitsAs part_judged a_place placed
  part_fits j r from to p q one first last none =
      let h : (j.faults ≡ []) × ((wants_place j.what ++ (unless (same_basic j.basic Character) OperandTypes ++ (end_faults p ++ end_faults q))) ≡ []) =
      none_of_both j.faults (wants_place j.what ++ (unless (same_basic j.basic Character) OperandTypes ++ (end_faults p ++ end_faults q))) none in
      let k : (wants_place j.what ≡ []) × ((unless (same_basic j.basic Character) OperandTypes ++ (end_faults p ++ end_faults q)) ≡ []) =
      none_of_both (wants_place j.what) (unless (same_basic j.basic Character) OperandTypes ++ (end_faults p ++ end_faults q)) h.1 in
      let l : (unless (same_basic j.basic Character) OperandTypes ≡ []) × ((end_faults p ++ end_faults q) ≡ []) =
      none_of_both (unless (same_basic j.basic Character) OperandTypes) (end_faults p ++ end_faults q) k.1 in
      let m : (end_faults p ≡ []) × (end_faults q ≡ []) = none_of_both (end_faults p) (end_faults q) l.1 in
      let base : FitsPlace c count env known Character r =
      subst (λ b. FitsPlace c count env known b r) (basics_are j.basic Character (unless_holds (same_basic j.basic Character) OperandTypes l.0)) (place_of j r one h.0 k.0) in
      let end : LastTyped (end_read to Nothing) = last_typed to q last m.1 in
      place_fits Character (Part (name_or_none r.base) r.actual (end_read from (IsInt (pos 1))) (end_read to Nothing)) None r.base base.owner typed.texts
      (typed.is_part env (name_or_none r.base) r.actual (end_read from (IsInt (pos 1))) (end_read to Nothing) end.last end.is_last base.passes
      (first_typed from p first m.0) end.typed) base.owner_is base.owner_basic (λ y named. absurd (cc))

  -- SIGNS, .NOT. AND PARENTHESES
  pub sign_fits : (j : Judged) (r : Read) → Related j r → Related (a_value Integer (j.faults ++ wants Integer j)) (valued_only (Before Negate r.value))
  unfolding Fits FitsAs a_value
  sign_fits j r one none =
      value_fits Integer (Before Negate r.value) (typed.is_before env Negate r.value Integer typed.negates (wanted_in Integer j r one none).valued)

  pub plus_fits : (j : Judged) (r : Read) → Related j r → Related (a_value Integer (j.faults ++ wants Integer j)) (valued_only r.value)
  unfolding Fits FitsAs a_value
  plus_fits j r one none = value_fits Integer r.value (wanted_in Integer j r one none).valued

  pub not_fits : (j : Judged) (r : Read) → Related j r → Related (a_value Logical (j.faults ++ wants Logical j)) (valued_only (Before Complement r.value))
  unfolding Fits FitsAs a_value
  not_fits j r one none =
      value_fits Logical (Before Complement r.value) (typed.is_before env Complement r.value Logical typed.complements (wanted_in Logical j r one none).valued)

  pub paren_fits : (j : Judged) (r : Read) → Related j r → Related (a_value j.basic (j.faults ++ wants_one j.what)) (record (valued_only r.value) { pieces = r.pieces })
  unfolding Fits FitsAs a_value valued_only IsNoArray
  paren_fits j r one none =
      let h : (j.faults ≡ []) × (wants_one j.what ≡ []) = none_of_both j.faults (wants_one j.what) none in
      let x : FitsOne c count env j.basic r = one_of j r one h.0 h.1 in
      record { one = record { valued = x.valued; joins = x.joins }; passes = x.valued; no_base = refl; no_array = λ y named. absurd (cc) }

module _ (c : Facts) (count : ℕ) (env : List Sort) (known : Known) (agrees : Agrees c count env known) where
  pub constant_fits : (x : Bytes) (a : Attribute) (o : Option Datum) (d : Datum) → o ≡ Some d → IsOf count (ValueOf a.basic) d → is_array (known.attribute x) ≡ false →
      FitsValue c count env known a.basic (name_read x (record a { class = class.Constant; constant = o }))
  unfolding name_read
  constant_fits x a None d is of flat = absurd (cc)
  constant_fits x a (Some e) d is of flat =
      named_value c count env known x a.basic (Val e) (typed.is_val env e (ValueOf a.basic) (subst (λ z. IsOf count (ValueOf a.basic) z) (sym (same_some e d is)) of)) flat

  pub bound_fits : (x : Bytes) (a : Attribute) (o : Option Term) (t : Term) → o ≡ Some t → Typed c count env t (ValueOf a.basic) →
      FitsValue c count env known a.basic (name_read x (record a { class = class.StatementFunction; expansion = o }))
  unfolding name_read
  bound_fits x a None t is of = absurd (cc)
  bound_fits x a (Some u) t is of = value_fits c count env known a.basic u (subst (λ z. Typed c count env z (ValueOf a.basic)) (sym (same_some u t is)) of)

  pub replaced_fits : (x : Bytes) (a : Attribute) (b : Bool) → known.is_bound x ≡ b → known.attribute x ≡ record a { class = class.StatementFunction } →
      Related c count env known (bound_judged a b) (name_read x (record a { class = class.StatementFunction }))
  unfolding bound_judged Fits FitsAs a_value function_name
  replaced_fits x a true bound is none =
      let r : IsReplaced c count env (record a { class = class.StatementFunction }) =
      subst (λ z. IsReplaced c count env z) is (agrees.dummies x (ap (λ z. z.class) is) bound) in
      bound_fits x a a.expansion r.term r.term_is r.typed
  replaced_fits x a false bound is none = tt

  -- a variable or an array
  pub variable_fits : (x : Bytes) (ds : List Dimension) → (known.attribute x).dimensions ≡ ds → AgreesOnVariable c known x →
      Fits c count env known (variable_judged (known.attribute x) ds) (record (placed (At x)) { named = Some x; base = Some x })
  unfolding variable_judged Fits FitsAs a_place placed
  variable_fits x [] is v =
      let at : Typed c count env (At x) (PlaceOf (known.attribute x).basic) =
      typed.is_at env x (known.attribute x).basic (record { class_is = v.class_is; basic_is = v.basic_is }) in
      place_fits c count env known (known.attribute x).basic (At x) (Some x) (Some x) x v.has_values at refl refl
      (λ y named. subst (λ z. is_array (known.attribute z) ≡ false) (same_some x y named) (is_flat (known.attribute x) is))
  variable_fits x (d ∷ ds) is v = record {
    has_values = v.has_values;
    passes = typed.is_at env x (known.attribute x).basic (record { class_is = v.class_is; basic_is = v.basic_is });
    name = x;
    name_is = refl;
    owner_is = refl;
    owner_basic = refl;
    array = is_shaped (known.attribute x) d ds is;
    variable = record { class_is = v.class_is; basic_is = v.basic_is };
    has_bounds = λ sized. v.size_is (subst (λ es. IsTrue (has_size es)) (sym is) sized);
  }

  pub known_variable : (x : Bytes) (k : Class) → (known.attribute x).class ≡ k → IsTrue (is_variable k) → AgreesOnVariable c known x
  known_variable x k is variable = agrees.variables x (subst (λ z. IsTrue (is_variable z)) (sym is) variable)

  pub variable_named : (x : Bytes) (k : Class) → (known.attribute x).class ≡ k → IsTrue (is_variable k) →
      Fits c count env known (variable_judged (known.attribute x) (known.attribute x).dimensions) (record (placed (At x)) { named = Some x; base = Some x })
  variable_named x k is variable = variable_fits x (known.attribute x).dimensions refl (known_variable x k is variable)

  pub procedure_typed : (x : Bytes) (k : Class) → (known.attribute x).class ≡ k → IsTrue (is_procedure_name k) → Typed c count env (At x) AProcedure
  procedure_typed x k is procedure =
      typed.is_named_procedure env x (agrees.procedures x (subst (λ z. IsTrue (is_procedure_name z)) (sym is) procedure))

  pub name_by : (k : Class) (x : Bytes) (a : Attribute) → known.attribute x ≡ record a { class = k } →
      Related c count env known (name_judged known x (record a { class = k })) (name_read x (record a { class = k }))
  unfolding name_judged name_read Fits FitsAs a_value no_operand function_name is_variable is_procedure_name valued_only bound_judged
  name_by class.Constant x a is none =
      let k : IsConstant count (record a { class = class.Constant }) =
      subst (λ z. IsConstant count z) is (agrees.constants x (ap (λ z. z.class) is)) in
      constant_fits x a a.constant k.value k.value_is k.typed (subst (λ z. is_array z ≡ false) (sym is) k.no_array)
  name_by class.Stored x a is none =
      subst (λ z. Fits c count env known (variable_judged z z.dimensions) (record (placed (At x)) { named = Some x; base = Some x })) is
      (variable_named x class.Stored (ap (λ z. z.class) is) refl)
  name_by class.Dummy x a is none =
      subst (λ z. Fits c count env known (variable_judged z z.dimensions) (record (placed (At x)) { named = Some x; base = Some x })) is
      (variable_named x class.Dummy (ap (λ z. z.class) is) refl)
  name_by class.Result x a is none =
      subst (λ z. Fits c count env known (variable_judged z z.dimensions) (record (placed (At x)) { named = Some x; base = Some x })) is
      (variable_named x class.Result (ap (λ z. z.class) is) refl)
  name_by class.Procedure x a is none = procedure_typed x class.Procedure (ap (λ z. z.class) is) refl
  name_by class.DummyProcedure x a is none = procedure_typed x class.DummyProcedure (ap (λ z. z.class) is) refl
  name_by class.StatementFunction x a is none = replaced_fits x a (known.is_bound x) refl is none
  name_by class.Intrinsic x a is none = tt
  name_by class.Unit x a is none = absurd (cc)

  pub name_fits : (x : Bytes) → Related c count env known (name_judged known x (known.attribute x)) (name_read x (known.attribute x))
  name_fits x = name_by (known.attribute x).class x (known.attribute x) refl

  -- NAMES WITH A LIST
  pub reference_fits : (x : Bytes) (k : Class) (a : Attribute) (rs : List Read) (js : List Judged) → known.attribute x ≡ record a { class = k } → IsTrue (is_callee k) →
      AllRelated c count env known rs js → Related c count env known (reference_judged (record a { class = k }) js) (function_read x (record a { class = k }) rs)
  unfolding reference_judged function_read Fits FitsAs a_value
  reference_fits x k a rs js is callee all none =
      let h : (all_faults js ≡ []) × (all_passed js ≡ []) = none_of_both (all_faults js) (all_passed js) none in
      let p : AllPass c count env known (terms (map (λ r. r.actual) rs)) = all_pass c count env known rs js all h.0 h.1 in
      let may : IsTrue (is_callee (c.program.attribute x).class) = agrees.callees x (subst (λ z. IsTrue (is_callee z.class)) (sym is) callee) in
      value_fits c count env known a.basic (Refer (record { name = x; want = AsFunction a.basic (width_or_zero a.width) }) (terms (map (λ r. r.actual) rs)))
      (typed.is_refer env x a.basic (width_or_zero a.width) (terms (map (λ r. r.actual) rs)) p.sorts may p.typed)

  pub intrinsic_fits : (x : Bytes) (a : Attribute) (f : Option Function) (rs : List Read) (js : List Judged) → AllRelated c count env known rs js →
      Related c count env known (intrinsic_judged f js) (intrinsic_read x a rs f)
  unfolding intrinsic_judged intrinsic_read Fits FitsAs a_value no_operand
  intrinsic_fits x a None rs js all none = absurd (cc)
  intrinsic_fits x a (Some f) rs js all none =
      let h : (all_faults js ≡ []) × (all_wanted (wanted_by f (length js)) js ≡ []) = none_of_both (all_faults js) (all_wanted (wanted_by f (length js)) js) none in
      value_fits c count env known (given_by f) (Intrinsically f (terms (operands_of f rs))) (function_typed c count env known f rs js all h.0 h.1)

  pub expanded_fits : (x : Bytes) (a : Attribute) (o : Option Term) (basics : List Basic) (rs : List Read) (js : List Judged) → AllRelated c count env known rs js →
      (t : Term) → o ≡ Some t → Typed c count (map ValueOf basics) t (ValueOf a.basic) → all_faults js ≡ [] → all_wanted basics js ≡ [] →
      FitsValue c count env known a.basic (expanded_read x a rs o)
  unfolding expanded_read
  expanded_fits x a None basics rs js all t is of faultless none = absurd (cc)
  expanded_fits x a (Some u) basics rs js all t is of faultless none =
      value_fits c count env known a.basic (Bind (terms (map (λ r. r.value) rs)) u)
      (typed.is_bind env (terms (map (λ r. r.value) rs)) (map ValueOf basics) u (ValueOf a.basic) (wanted_all c count env known basics rs js all faultless none)
      (subst (λ z. Typed c count (map ValueOf basics) z (ValueOf a.basic)) (sym (same_some u t is)) of))

  pub known_function_fits : (x : Bytes) (a : Attribute) (o : Option (List Basic)) (rs : List Read) (js : List Judged) →
      known.attribute x ≡ record a { class = class.StatementFunction } → known.dummies x ≡ o → AllRelated c count env known rs js →
      Related c count env known (expanded_judged (record a { class = class.StatementFunction }) o js)
      (expanded_read x (record a { class = class.StatementFunction }) rs a.expansion)
  unfolding expanded_judged Fits FitsAs a_value no_operand
  known_function_fits x a None rs js is dummies all none = absurd (cc)
  known_function_fits x a (Some basics) rs js is dummies all none =
      let h : (all_faults js ≡ []) × (all_wanted basics js ≡ []) = none_of_both (all_faults js) (all_wanted basics js) none in
      let r : IsReplaced c count (map ValueOf basics) (record a { class = class.StatementFunction }) =
      subst (λ z. IsReplaced c count (map ValueOf basics) z) is (agrees.functions x basics (ap (λ z. z.class) is) dummies) in
      expanded_fits x (record a { class = class.StatementFunction }) a.expansion basics rs js all r.term r.term_is r.typed h.0 h.1

  pub defined_fits : (x : Bytes) (a : Attribute) (b : Bool) (rs : List Read) (js : List Judged) →
      known.attribute x ≡ record a { class = class.StatementFunction } → AllRelated c count env known rs js →
      Related c count env known (defined_judged known x (record a { class = class.StatementFunction }) b js)
      (expanded_read x (record a { class = class.StatementFunction }) rs a.expansion)
  unfolding defined_judged no_operand
  defined_fits x a true rs js is all none = absurd (cc)
  defined_fits x a false rs js is all none = known_function_fits x a (known.dummies x) rs js is refl all none

  -- subscripts, as many as there are dimensions
  pub subscripts_typed : (x : Bytes) (n : ℕ) (rs : List Read) (js : List Judged) → AllRelated c count env known rs js → all_faults js ≡ [] →
      all_wanted (replicate (length js) Integer) js ≡ [] → length js ≡ n → AreTyped c count env (terms (map (λ r. r.value) rs)) (integers_of n)
  subscripts_typed x n rs js all faultless none is =
      subst (λ m. AreTyped c count env (terms (map (λ r. r.value) rs)) (integers_of m)) is
      (subst (λ sorts. AreTyped c count env (terms (map (λ r. r.value) rs)) sorts) (integers_mapped (length js))
      (wanted_all c count env known (replicate (length js) Integer) rs js all faultless none))

  pub element_fits : (x : Bytes) (k : Class) (a : Attribute) (rs : List Read) (js : List Judged) → known.attribute x ≡ record a { class = k } → IsTrue (is_variable k) →
      AllRelated c count env known rs js →
      Related c count env known (element_judged (record a { class = k }) js) (record (placed (Element x (terms (map (λ r. r.value) rs)))) { base = Some x })
  unfolding element_judged Fits FitsAs a_place placed
  element_fits x k a rs js is variable all none =
      let h : (all_faults js ≡ []) × ((all_wanted (replicate (length js) Integer) js ++ unless (nat_eq (length js) (length a.dimensions)) NumberOfSubscripts) ≡ []) =
      none_of_both (all_faults js) (all_wanted (replicate (length js) Integer) js ++ unless (nat_eq (length js) (length a.dimensions)) NumberOfSubscripts) none in
      let m : (all_wanted (replicate (length js) Integer) js ≡ []) × (unless (nat_eq (length js) (length a.dimensions)) NumberOfSubscripts ≡ []) =
      none_of_both (all_wanted (replicate (length js) Integer) js) (unless (nat_eq (length js) (length a.dimensions)) NumberOfSubscripts) h.1 in
      let v : AgreesOnVariable c known x = known_variable x k (ap (λ z. z.class) is) variable in
      let rank : rank_of c x ≡ length a.dimensions = subst (λ z. rank_of c x ≡ length z.dimensions) is v.rank_is in
      let basic : (c.program.attribute x).basic ≡ a.basic = subst (λ z. (c.program.attribute x).basic ≡ z.basic) is v.basic_is in
      let count_is : length js ≡ rank_of c x =
      eqb-true (length js) (length a.dimensions) (unless_holds (nat_eq (length js) (length a.dimensions)) NumberOfSubscripts m.1) ∙ sym rank in
      place_fits c count env known a.basic (Element x (terms (map (λ r. r.value) rs))) None (Some x) x (subst (λ z. IsValued z.basic) is v.has_values)
      (typed.is_element env x (terms (map (λ r. r.value) rs)) a.basic (record { class_is = v.class_is; basic_is = basic })
      (subscripts_typed x (rank_of c x) rs js all h.0 m.0 count_is)) refl (ap (λ z. z.basic) is) (λ y named. absurd (cc))

  pub applied_by : (k : Class) (x : Bytes) (a : Attribute) (rs : List Read) (js : List Judged) → known.attribute x ≡ record a { class = k } →
      AllRelated c count env known rs js → Related c count env known (applied_judged known x (record a { class = k }) js) (applied_read x (record a { class = k }) rs)
  unfolding applied_judged applied_read no_operand is_callee is_variable
  applied_by class.Constant x a rs js is all none = absurd (cc)
  applied_by class.Unit x a rs js is all none = absurd (cc)
  applied_by class.Stored x a rs js is all none = element_fits x class.Stored a rs js is refl all none
  applied_by class.Dummy x a rs js is all none = element_fits x class.Dummy a rs js is refl all none
  applied_by class.Result x a rs js is all none = reference_fits x class.Result a rs js is refl all none
  applied_by class.Procedure x a rs js is all none = reference_fits x class.Procedure a rs js is refl all none
  applied_by class.DummyProcedure x a rs js is all none = reference_fits x class.DummyProcedure a rs js is refl all none
  applied_by class.StatementFunction x a rs js is all none = defined_fits x a (known.is_bound x) rs js is all none
  applied_by class.Intrinsic x a rs js is all none = intrinsic_fits x (record a { class = class.Intrinsic }) (function_named x) rs js all none

  pub applied_fits : (x : Bytes) (rs : List Read) (js : List Judged) → AllRelated c count env known rs js →
      Related c count env known (applied_judged known x (known.attribute x) js) (applied_read x (known.attribute x) rs)
  applied_fits x rs js all = applied_by (known.attribute x).class x (known.attribute x) rs js refl all

  -- a name that stands in no expression breaks a row in each
  pub unknown_name : (k : Class) (x : Bytes) (a : Attribute) → k ≡ class.Unit → (name_judged known x (record a { class = k })).faults ≡ [] → ⊥
  unfolding name_judged no_operand
  unknown_name class.Unit x a is none = absurd (cc)
  unknown_name class.Constant x a is none = absurd (cc)
  unknown_name class.Stored x a is none = absurd (cc)
  unknown_name class.Dummy x a is none = absurd (cc)
  unknown_name class.Result x a is none = absurd (cc)
  unknown_name class.Procedure x a is none = absurd (cc)
  unknown_name class.DummyProcedure x a is none = absurd (cc)
  unknown_name class.StatementFunction x a is none = absurd (cc)
  unknown_name class.Intrinsic x a is none = absurd (cc)

  pub unknown_applied : (k : Class) (x : Bytes) (a : Attribute) (js : List Judged) → k ≡ class.Unit → (applied_judged known x (record a { class = k }) js).faults ≡ [] → ⊥
  unfolding applied_judged no_operand
  unknown_applied class.Unit x a js is none = absurd (cc)
  unknown_applied class.Constant x a js is none = absurd (cc)
  unknown_applied class.Stored x a js is none = absurd (let bad : class.Stored ≡ class.Unit = is in cc)
  unknown_applied class.Dummy x a js is none = absurd (let bad : class.Dummy ≡ class.Unit = is in cc)
  unknown_applied class.Result x a js is none = absurd (let bad : class.Result ≡ class.Unit = is in cc)
  unknown_applied class.Procedure x a js is none = absurd (let bad : class.Procedure ≡ class.Unit = is in cc)
  unknown_applied class.DummyProcedure x a js is none = absurd (let bad : class.DummyProcedure ≡ class.Unit = is in cc)
  unknown_applied class.StatementFunction x a js is none = absurd (let bad : class.StatementFunction ≡ class.Unit = is in cc)
  unknown_applied class.Intrinsic x a js is none = absurd (let bad : class.Intrinsic ≡ class.Unit = is in cc)

  pub name_read_fits : (names : Bytes → Attribute) (x : Bytes) → IsReadAs known names x →
      Related c count env known (name_judged known x (known.attribute x)) (name_read x (names x))
  name_read_fits names x (read_alike same) none =
      subst (λ a. Fits c count env known (name_judged known x (known.attribute x)) (name_read x a)) (sym same) (name_fits x none)
  name_read_fits names x (never_read is) none = absurd (unknown_name (known.attribute x).class x (known.attribute x) is none)

  pub applied_read_fits : (names : Bytes → Attribute) (x : Bytes) (rs : List Read) (js : List Judged) → IsReadAs known names x → AllRelated c count env known rs js →
      Related c count env known (applied_judged known x (known.attribute x) js) (applied_read x (names x) rs)
  applied_read_fits names x rs js (read_alike same) all none =
      subst (λ a. Fits c count env known (applied_judged known x (known.attribute x) js) (applied_read x a rs)) (sym same) (applied_fits x rs js all none)
  applied_read_fits names x rs js (never_read is) all none = absurd (unknown_applied (known.attribute x).class x (known.attribute x) js is none)

module _ (c : Facts) (count : ℕ) (env : List Sort) (known : Known) (agrees : Agrees c count env known)
    (names : Bytes → Attribute) (reads : (x : Bytes) → IsReadAs known names x) where
  -- THE WHOLE EXPRESSION
  mutual
    unfolding fold_expr fold_exprs fold_held layer_judged layer_read Fits FitsAs a_value no_operand all_faults valued_only

    pub tree_fits : (e : Expr) → Related c count env known (fold_expr (layer_judged known) e) (fold_expr (layer_read names) e)
    tree_fits (Int z) none = value_fits c count env known Integer (Val (IsInt z)) (typed.is_val env (IsInt z) (ValueOf Integer) (typed.integer z))
    tree_fits (TruthValue b) none = value_fits c count env known Logical (Val (IsLog b)) (typed.is_val env (IsLog b) (ValueOf Logical) (typed.logical b))
    tree_fits (Text cs) none = value_fits c count env known Character (Val (IsText cs)) (typed.is_val env (IsText cs) (ValueOf Character) (typed.text cs))
    tree_fits (Name x) none = name_read_fits c count env known agrees names x (reads x) none
    tree_fits (Apply' x s row) none =
        applied_read_fits c count env known agrees names x (fold_exprs (layer_read names) row) (fold_exprs (layer_judged known) row) (reads x) (row_fits row) none
    tree_fits (Part' s (more_of-Expr e r) from to) none =
        part_fits c count env known (fold_expr (layer_judged known) e) (fold_expr (layer_read names) e)
        (fold_held (layer_read names) from) (fold_held (layer_read names) to) (fold_held (layer_judged known) from)
        (fold_held (layer_judged known) to) (tree_fits e) (held_fits from) (held_fits to) none
    tree_fits (Minus' s (more_of-Expr e r)) none = sign_fits c count env known (fold_expr (layer_judged known) e) (fold_expr (layer_read names) e) (tree_fits e) none
    tree_fits (Plus' s (more_of-Expr e r)) none = plus_fits c count env known (fold_expr (layer_judged known) e) (fold_expr (layer_read names) e) (tree_fits e) none
    tree_fits (Not' s (more_of-Expr e r)) none = not_fits c count env known (fold_expr (layer_judged known) e) (fold_expr (layer_read names) e) (tree_fits e) none
    tree_fits (Paren' s (more_of-Expr e r)) none =
        paren_fits c count env known (fold_expr (layer_judged known) e) (fold_expr (layer_read names) e) (tree_fits e) none
    tree_fits (Binary' op s (more_of-Expr a r) t (more_of-Expr b q)) none =
        binary_fits c count env known op (fold_expr (layer_judged known) a) (fold_expr (layer_judged known) b) (fold_expr (layer_read names) a)
        (fold_expr (layer_read names) b) (tree_fits a) (tree_fits b) none
    tree_fits (AltReturn l) none = typed.is_val env (IsLabel l) (ALabel l) (typed.label l)
    tree_fits (Bind' s row t (more_of-Expr e q)) none = absurd (cc)
    tree_fits (BoundValue k) none = absurd (cc)

    pub row_fits : {m : _} (row : Row_of-Expr m) → AllRelated c count env known (fold_exprs (layer_read names) row) (fold_exprs (layer_judged known) row)
    row_fits end_of-Expr = none_related
    row_fits (more_of-Expr e row) =
        one_related (fold_expr (layer_read names) e) (fold_exprs (layer_read names) row) (fold_expr (layer_judged known) e)
        (fold_exprs (layer_judged known) row) (tree_fits e) (row_fits row)

    pub held_fits : (h : Held-Expr-Part-1) → HeldRelated c count env known (fold_held (layer_read names) h) (fold_held (layer_judged known) h)
    held_fits None' = none_held
    held_fits (Some' p (more_of-Expr e r)) =
        one_held (fold_expr (layer_read names) e) (fold_expr (layer_judged known) e) (tree_fits e)

pub expressions_fit : EachFaultlessExpressionIsTyped
unfolding judge read
expressions_fit c count env known names e agrees reads none = tree_fits c count env known agrees names reads e none
