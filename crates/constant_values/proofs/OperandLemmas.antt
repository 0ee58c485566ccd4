-- Functions over values that they do not take.
use Rattle.std.proofs.Common.{◌≡◌, ℕ, ◌≤◌, ℤ, Bool, true, false, List, [], ◌∷◌, length, Some, None, refl, ap, sym, arith, true≢false}
use Rattle.std.specs.Prelude.{option_map}
use Rattle.f_tree.specs.Values.{Bytes, Datum, IsInt, IsLog, IsText, IsLabel}
use Rattle.f_tree.specs.Valuing.{applied, extreme}
use Rattle.name_facts.specs.declared.fact.ConstantValue.{ConstantValue}
use Rattle.name_facts.specs.GivenFacts.{datum_of}
use Rattle.constant_values.specs.declared.functions.IntrinsicFunction.{IntrinsicFunction}
use Rattle.constant_values.specs.declared.functions.IntrinsicFunction.TheVariants as is
use Rattle.constant_values.specs.FunctionNames.{function_of}
use Rattle.constant_values.specs.Folded.{given}
use Rattle.constant_values.specs.Operands.{apart_from_length, data_of, extreme_step, extreme_onward}

pub no-operand : (f : IntrinsicFunction) → apart_from_length (function_of f) [] ≡ None
unfolding function_of apart_from_length given applied
no-operand is.Truncation = refl
no-operand _ = refl

pub no-operands : (f : IntrinsicFunction) (vs : List ConstantValue) → length vs ≡ 0 → None ≡ apart_from_length (function_of f) (data_of vs)
unfolding data_of
no-operands f [] h = sym (no-operand f)
no-operands f (v ∷ vs) h = absurd (omega arith)

pub log-one : (f : IntrinsicFunction) (b : Bool) → apart_from_length (function_of f) (IsLog b ∷ []) ≡ None
unfolding function_of apart_from_length given applied extreme
log-one is.Truncation b = refl
log-one _ b = refl

pub label-one : (f : IntrinsicFunction) (l : ℕ) → apart_from_length (function_of f) (IsLabel l ∷ []) ≡ None
unfolding function_of apart_from_length given applied extreme
label-one is.Truncation l = refl
label-one _ l = refl

pub int-log : (f : IntrinsicFunction) (a : ℤ) (b : Bool) → apart_from_length (function_of f) (IsInt a ∷ IsLog b ∷ []) ≡ None
unfolding function_of apart_from_length given applied extreme
int-log is.Truncation a b = refl
int-log _ a b = refl

pub int-text : (f : IntrinsicFunction) (a : ℤ) (b : Bytes) → apart_from_length (function_of f) (IsInt a ∷ IsText b ∷ []) ≡ None
unfolding function_of apart_from_length given applied extreme
int-text is.Truncation a b = refl
int-text _ a b = refl

pub int-label : (f : IntrinsicFunction) (a : ℤ) (b : ℕ) → apart_from_length (function_of f) (IsInt a ∷ IsLabel b ∷ []) ≡ None
unfolding function_of apart_from_length given applied extreme
int-label is.Truncation a b = refl
int-label _ a b = refl

pub text-int : (f : IntrinsicFunction) (a : Bytes) (b : ℤ) → apart_from_length (function_of f) (IsText a ∷ IsInt b ∷ []) ≡ None
unfolding function_of apart_from_length given applied extreme
text-int is.Truncation a b = refl
text-int _ a b = refl

pub text-log : (f : IntrinsicFunction) (a : Bytes) (b : Bool) → apart_from_length (function_of f) (IsText a ∷ IsLog b ∷ []) ≡ None
unfolding function_of apart_from_length given applied extreme
text-log is.Truncation a b = refl
text-log _ a b = refl

pub text-label : (f : IntrinsicFunction) (a : Bytes) (b : ℕ) → apart_from_length (function_of f) (IsText a ∷ IsLabel b ∷ []) ≡ None
unfolding function_of apart_from_length given applied extreme
text-label is.Truncation a b = refl
text-label _ a b = refl

pub log-any : (f : IntrinsicFunction) (a : Bool) (d : Datum) → apart_from_length (function_of f) (IsLog a ∷ d ∷ []) ≡ None
unfolding function_of apart_from_length given applied extreme
log-any is.Truncation a d = refl
log-any _ a d = refl

pub label-any : (f : IntrinsicFunction) (a : ℕ) (d : Datum) → apart_from_length (function_of f) (IsLabel a ∷ d ∷ []) ≡ None
unfolding function_of apart_from_length given applied extreme
label-any is.Truncation a d = refl
label-any _ a d = refl

pub ruleset one_operand = (log-one, label-one)

pub ruleset two_operands = (int-log, int-text, int-label, text-int, text-log, text-label, log-any, label-any)

-- three operands or more
is_extreme : IntrinsicFunction → Bool
is_extreme is.Largest = true
is_extreme is.Smallest = true
is_extreme _ = false

many-by : (f : IntrinsicFunction) (d e g : Datum) (ds : List Datum) → is_extreme f ≡ false → apart_from_length (function_of f) (d ∷ e ∷ g ∷ ds) ≡ None
unfolding function_of apart_from_length given applied is_extreme
many-by is.Largest d e g ds h = absurd (true≢false h)
many-by is.Smallest d e g ds h = absurd (true≢false h)
many-by is.Truncation (IsInt a) e g ds h = refl
many-by is.Magnitude (IsInt a) e g ds h = refl
many-by is.CharacterOfCode (IsInt a) e g ds h = refl
many-by is.BitComplement (IsInt a) e g ds h = refl
many-by is.Remainder (IsInt a) (IsInt b) g ds h = refl
many-by is.SignTransfer (IsInt a) (IsInt b) g ds h = refl
many-by is.PositiveDifference (IsInt a) (IsInt b) g ds h = refl
many-by is.InclusiveOr (IsInt a) (IsInt b) g ds h = refl
many-by is.LogicalProduct (IsInt a) (IsInt b) g ds h = refl
many-by is.ExclusiveOr (IsInt a) (IsInt b) g ds h = refl
many-by is.BitShift (IsInt a) (IsInt b) g ds h = refl
many-by is.BitTest (IsInt a) (IsInt b) g ds h = refl
many-by is.BitSet (IsInt a) (IsInt b) g ds h = refl
many-by is.BitClear (IsInt a) (IsInt b) g ds h = refl
many-by is.CharacterCode (IsText a) e g ds h = refl
many-by is.IndexOf (IsText a) (IsText b) g ds h = refl
many-by is.LexicallyGreaterOrEqual (IsText a) (IsText b) g ds h = refl
many-by is.LexicallyGreater (IsText a) (IsText b) g ds h = refl
many-by is.LexicallyLessOrEqual (IsText a) (IsText b) g ds h = refl
many-by is.LexicallyLess (IsText a) (IsText b) g ds h = refl
many-by _ _ _ g ds h = refl

many : (f : IntrinsicFunction) (d : Datum) (vs : List ConstantValue) → is_extreme f ≡ false → 2 ≤ length vs → apart_from_length (function_of f) (d ∷ data_of vs) ≡ None
unfolding data_of
many f d [] h k = absurd (omega arith)
many f d (v ∷ []) h k = absurd (omega arith)
many f d (v ∷ w ∷ vs) h k = many-by f d (datum_of v) (datum_of w) (data_of vs) h

pub many-Truncation : (d : Datum) (vs : List ConstantValue) → 2 ≤ length vs → apart_from_length (function_of is.Truncation) (d ∷ data_of vs) ≡ None
unfolding is_extreme
many-Truncation d vs k = many is.Truncation d vs refl k

pub many-Magnitude : (d : Datum) (vs : List ConstantValue) → 2 ≤ length vs → apart_from_length (function_of is.Magnitude) (d ∷ data_of vs) ≡ None
unfolding is_extreme
many-Magnitude d vs k = many is.Magnitude d vs refl k

pub many-Remainder : (d : Datum) (vs : List ConstantValue) → 2 ≤ length vs → apart_from_length (function_of is.Remainder) (d ∷ data_of vs) ≡ None
unfolding is_extreme
many-Remainder d vs k = many is.Remainder d vs refl k

pub many-SignTransfer : (d : Datum) (vs : List ConstantValue) → 2 ≤ length vs → apart_from_length (function_of is.SignTransfer) (d ∷ data_of vs) ≡ None
unfolding is_extreme
many-SignTransfer d vs k = many is.SignTransfer d vs refl k

pub many-PositiveDifference : (d : Datum) (vs : List ConstantValue) → 2 ≤ length vs → apart_from_length (function_of is.PositiveDifference) (d ∷ data_of vs) ≡ None
unfolding is_extreme
many-PositiveDifference d vs k = many is.PositiveDifference d vs refl k

pub many-CharacterCode : (d : Datum) (vs : List ConstantValue) → 2 ≤ length vs → apart_from_length (function_of is.CharacterCode) (d ∷ data_of vs) ≡ None
unfolding is_extreme
many-CharacterCode d vs k = many is.CharacterCode d vs refl k

pub many-CharacterOfCode : (d : Datum) (vs : List ConstantValue) → 2 ≤ length vs → apart_from_length (function_of is.CharacterOfCode) (d ∷ data_of vs) ≡ None
unfolding is_extreme
many-CharacterOfCode d vs k = many is.CharacterOfCode d vs refl k

pub many-TextLength : (d : Datum) (vs : List ConstantValue) → 2 ≤ length vs → apart_from_length (function_of is.TextLength) (d ∷ data_of vs) ≡ None
unfolding is_extreme
many-TextLength d vs k = many is.TextLength d vs refl k

pub many-IndexOf : (d : Datum) (vs : List ConstantValue) → 2 ≤ length vs → apart_from_length (function_of is.IndexOf) (d ∷ data_of vs) ≡ None
unfolding is_extreme
many-IndexOf d vs k = many is.IndexOf d vs refl k

pub many-LexicallyGreaterOrEqual : (d : Datum) (vs : List ConstantValue) → 2 ≤ length vs → apart_from_length (function_of is.LexicallyGreaterOrEqual) (d ∷ data_of vs) ≡ None
unfolding is_extreme
many-LexicallyGreaterOrEqual d vs k = many is.LexicallyGreaterOrEqual d vs refl k

pub many-LexicallyGreater : (d : Datum) (vs : List ConstantValue) → 2 ≤ length vs → apart_from_length (function_of is.LexicallyGreater) (d ∷ data_of vs) ≡ None
unfolding is_extreme
many-LexicallyGreater d vs k = many is.LexicallyGreater d vs refl k

pub many-LexicallyLessOrEqual : (d : Datum) (vs : List ConstantValue) → 2 ≤ length vs → apart_from_length (function_of is.LexicallyLessOrEqual) (d ∷ data_of vs) ≡ None
unfolding is_extreme
many-LexicallyLessOrEqual d vs k = many is.LexicallyLessOrEqual d vs refl k

pub many-LexicallyLess : (d : Datum) (vs : List ConstantValue) → 2 ≤ length vs → apart_from_length (function_of is.LexicallyLess) (d ∷ data_of vs) ≡ None
unfolding is_extreme
many-LexicallyLess d vs k = many is.LexicallyLess d vs refl k

pub many-InclusiveOr : (d : Datum) (vs : List ConstantValue) → 2 ≤ length vs → apart_from_length (function_of is.InclusiveOr) (d ∷ data_of vs) ≡ None
unfolding is_extreme
many-InclusiveOr d vs k = many is.InclusiveOr d vs refl k

pub many-LogicalProduct : (d : Datum) (vs : List ConstantValue) → 2 ≤ length vs → apart_from_length (function_of is.LogicalProduct) (d ∷ data_of vs) ≡ None
unfolding is_extreme
many-LogicalProduct d vs k = many is.LogicalProduct d vs refl k

pub many-ExclusiveOr : (d : Datum) (vs : List ConstantValue) → 2 ≤ length vs → apart_from_length (function_of is.ExclusiveOr) (d ∷ data_of vs) ≡ None
unfolding is_extreme
many-ExclusiveOr d vs k = many is.ExclusiveOr d vs refl k

pub many-BitComplement : (d : Datum) (vs : List ConstantValue) → 2 ≤ length vs → apart_from_length (function_of is.BitComplement) (d ∷ data_of vs) ≡ None
unfolding is_extreme
many-BitComplement d vs k = many is.BitComplement d vs refl k

pub many-BitShift : (d : Datum) (vs : List ConstantValue) → 2 ≤ length vs → apart_from_length (function_of is.BitShift) (d ∷ data_of vs) ≡ None
unfolding is_extreme
many-BitShift d vs k = many is.BitShift d vs refl k

pub many-BitTest : (d : Datum) (vs : List ConstantValue) → 2 ≤ length vs → apart_from_length (function_of is.BitTest) (d ∷ data_of vs) ≡ None
unfolding is_extreme
many-BitTest d vs k = many is.BitTest d vs refl k

pub many-BitSet : (d : Datum) (vs : List ConstantValue) → 2 ≤ length vs → apart_from_length (function_of is.BitSet) (d ∷ data_of vs) ≡ None
unfolding is_extreme
many-BitSet d vs k = many is.BitSet d vs refl k

pub many-BitClear : (d : Datum) (vs : List ConstantValue) → 2 ≤ length vs → apart_from_length (function_of is.BitClear) (d ∷ data_of vs) ≡ None
unfolding is_extreme
many-BitClear d vs k = many is.BitClear d vs refl k

pub ruleset many_operands = (many-Truncation, many-Magnitude, many-Remainder, many-SignTransfer, many-PositiveDifference, many-CharacterCode, many-CharacterOfCode, many-TextLength, many-IndexOf, many-LexicallyGreaterOrEqual, many-LexicallyGreater, many-LexicallyLessOrEqual, many-LexicallyLess, many-InclusiveOr, many-LogicalProduct, many-ExclusiveOr, many-BitComplement, many-BitShift, many-BitTest, many-BitSet, many-BitClear)

pub ruleset no_operands = (no-operand)

-- the largest or the smallest, one operand after the other
onward-none : (pick : ℤ → ℤ → ℤ) (ds : List Datum) → extreme_onward pick None ds ≡ None
unfolding extreme_onward extreme_step
onward-none pick [] = refl
onward-none pick (d ∷ ds) = onward-none pick ds

pub extreme-is : (pick : ℤ → ℤ → ℤ) (best : ℤ) (ds : List Datum) → given (extreme pick best ds) ≡ option_map IsInt (extreme_onward pick (Some best) ds)
unfolding extreme_onward extreme_step extreme given
extreme-is pick best [] = refl
extreme-is pick best (IsInt z ∷ ds) = extreme-is pick (pick best z) ds
extreme-is pick best (_ ∷ ds) = ap (option_map IsInt) (sym (onward-none pick ds))

pub ruleset extreme_is = (extreme-is)
