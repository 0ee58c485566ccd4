-- The laws of the least row: of two lists together it is the lesser of both, in whatever order.
use Rattle.std.specs.Prelude.{◌≡◌, ℕ, nat_eq, Bool, true, false, List, [], ◌∷◌, ◌++◌, Option, Some, None, if◌then◌else◌}
use Rattle.std.proofs.Common.{refl, sym, ap, ◌∙◌, arith}
use Rattle.std.proofs.lemmas.Bool.Decides.{nat_tests}
use Rattle.f_tree.specs.declared.refusals.Kind.{Kind}
use Rattle.f_tree.specs.declared.refusals.Kind.TheVariants.{CharacterOutsideSet, BadLabelField, TooManyContinuations, ContinuationWithoutStatement, TextPastColumn72, NoEnd, FileTooLong, UnknownStatement, SyntaxError, IntegerTooLarge, NameTooLong, BadCharacterConstant, TypeNotSupported, StatementOrSpecifierNotSupported, NestingTooDeep, NameHasTypeReal, NameNotDeclared, ConflictingAttributes, BoundNotConstant, ArrayOfNoElement, StatementOutOfOrder, BadParameterValue, LabelMissingOrTwice, BranchIntoBlock, BadDoNest, BadIfNest, OperandTypes, NumberOfSubscripts, NotAssignable, BadData, EquivalenceContradiction, CommonJoinedOrExtended, CommonInitialised, UseOfAssumedLength, BadStatementFunction, BadEntry, CharacterFunctionAsArgument, TwoShapesOfCall, BadFormat, EditDescriptorNotSupported, NumericPlaceNotOnAWord, EndOrIncludeInAnIncludedFile, CommonLengthsDiffer, GlobalNameTwice, TwoMainPrograms, StorageTooLarge, CommonInitialisedTwice, NotBuiltYet}
use Rattle.f_tree.specs.RefusalRows.{number_of}
use Rattle.refusal_order.specs.declaration_rows.Judgement.{unless}
use Rattle.refusal_order.specs.Earliest.{less, least as lesser, least_of as least}
use Rattle.refusal_order.proofs.FirstOfBoth.{least_along, least_none, least_of_both}
use Rattle.kind_order.specs.Unless.{unless_least}

-- the row with a number
kinds : List Kind
kinds = CharacterOutsideSet ∷ BadLabelField ∷ TooManyContinuations ∷ ContinuationWithoutStatement ∷ TextPastColumn72 ∷ NoEnd ∷ FileTooLong ∷ UnknownStatement ∷ SyntaxError ∷ IntegerTooLarge ∷ NameTooLong ∷ BadCharacterConstant ∷ TypeNotSupported ∷ StatementOrSpecifierNotSupported ∷ NestingTooDeep ∷ NameHasTypeReal ∷ NameNotDeclared ∷ ConflictingAttributes ∷ BoundNotConstant ∷ ArrayOfNoElement ∷ StatementOutOfOrder ∷ BadParameterValue ∷ LabelMissingOrTwice ∷ BranchIntoBlock ∷ BadDoNest ∷ BadIfNest ∷ OperandTypes ∷ NumberOfSubscripts ∷ NotAssignable ∷ BadData ∷ EquivalenceContradiction ∷ CommonJoinedOrExtended ∷ CommonInitialised ∷ UseOfAssumedLength ∷ BadStatementFunction ∷ BadEntry ∷ CharacterFunctionAsArgument ∷ TwoShapesOfCall ∷ BadFormat ∷ EditDescriptorNotSupported ∷ NumericPlaceNotOnAWord ∷ EndOrIncludeInAnIncludedFile ∷ CommonLengthsDiffer ∷ GlobalNameTwice ∷ TwoMainPrograms ∷ StorageTooLarge ∷ CommonInitialisedTwice ∷ NotBuiltYet ∷ []

sought : ℕ → List Kind → Option Kind
sought n [] = None
sought n (k ∷ ks) = if nat_eq (number_of k) n then Some k else sought n ks

found_again : (k : Kind) → sought (number_of k) kinds ≡ Some k
unfolding sought kinds
found_again CharacterOutsideSet = refl
found_again BadLabelField = refl
found_again TooManyContinuations = refl
found_again ContinuationWithoutStatement = refl
found_again TextPastColumn72 = refl
found_again NoEnd = refl
found_again FileTooLong = refl
found_again UnknownStatement = refl
found_again SyntaxError = refl
found_again IntegerTooLarge = refl
found_again NameTooLong = refl
found_again BadCharacterConstant = refl
found_again TypeNotSupported = refl
found_again StatementOrSpecifierNotSupported = refl
found_again NestingTooDeep = refl
found_again NameHasTypeReal = refl
found_again NameNotDeclared = refl
found_again ConflictingAttributes = refl
found_again BoundNotConstant = refl
found_again ArrayOfNoElement = refl
found_again StatementOutOfOrder = refl
found_again BadParameterValue = refl
found_again LabelMissingOrTwice = refl
found_again BranchIntoBlock = refl
found_again BadDoNest = refl
found_again BadIfNest = refl
found_again OperandTypes = refl
found_again NumberOfSubscripts = refl
found_again NotAssignable = refl
found_again BadData = refl
found_again EquivalenceContradiction = refl
found_again CommonJoinedOrExtended = refl
found_again CommonInitialised = refl
found_again UseOfAssumedLength = refl
found_again BadStatementFunction = refl
found_again BadEntry = refl
found_again CharacterFunctionAsArgument = refl
found_again TwoShapesOfCall = refl
found_again BadFormat = refl
found_again EditDescriptorNotSupported = refl
found_again NumericPlaceNotOnAWord = refl
found_again EndOrIncludeInAnIncludedFile = refl
found_again CommonLengthsDiffer = refl
found_again GlobalNameTwice = refl
found_again TwoMainPrograms = refl
found_again StorageTooLarge = refl
found_again CommonInitialisedTwice = refl
found_again NotBuiltYet = refl

pub same_number : (k j : Kind) → number_of k ≡ number_of j → k ≡ j
same_number k j same = let h : Some k ≡ Some j = sym (found_again k) ∙ ap (λ n. sought n kinds) same ∙ found_again j in cc

two-commuted : (k j : Kind) → less k (Some j) ≡ less j (Some k)
unfolding less
two-commuted k j = grind (arith, nat_tests, same_number)

pub lesser-none : (a : Option Kind) → lesser a None ≡ a
lesser-none a = least_none a

pub none-lesser : (a : Option Kind) → lesser None a ≡ a
unfolding lesser
none-lesser a = refl

pub lesser-commuted : (a b : Option Kind) → lesser a b ≡ lesser b a
unfolding lesser less
lesser-commuted None None = refl
lesser-commuted None (Some j) = refl
lesser-commuted (Some k) None = refl
lesser-commuted (Some k) (Some j) = ap Some (two-commuted k j)

pub lesser-joined : (a b c : Option Kind) → lesser (lesser a b) c ≡ lesser a (lesser b c)
lesser-joined a b c = least_along a b c

pub least-none : least [] ≡ None
unfolding least
least-none = refl

pub least-one : (k : Kind) → least (k ∷ []) ≡ Some k
unfolding least less
least-one k = refl

pub least-more : (k : Kind) (ks : List Kind) → least (k ∷ ks) ≡ lesser (Some k) (least ks)
unfolding least lesser
least-more k ks = refl

pub least-append : (xs ys : List Kind) → least (xs ++ ys) ≡ lesser (least xs) (least ys)
least-append xs ys = least_of_both xs ys

pub least-unless : (b : Bool) (k : Kind) → least (unless b k) ≡ unless_least b k
unfolding least less unless unless_least
least-unless true k = refl
least-unless false k = refl

-- two lists of rows, and three, behind one another
pub two-least : (xs ys : List Kind) (a b : Option Kind) → least xs ≡ a → least ys ≡ b → least (xs ++ ys) ≡ lesser a b
two-least xs ys a b x y = least-append xs ys ∙ ap (λ o. lesser o (least ys)) x ∙ ap (lesser a) y

pub three-least : (xs ys zs : List Kind) (a b c : Option Kind) → least xs ≡ a → least ys ≡ b → least zs ≡ c → least (xs ++ (ys ++ zs)) ≡ lesser a (lesser b c)
three-least xs ys zs a b c x y z = two-least xs (ys ++ zs) a (lesser b c) x (two-least ys zs b c y z)

-- a row in front
pub least-front : (k : Kind) (ks : List Kind) (a : Option Kind) → least ks ≡ a → least (k ∷ ks) ≡ lesser (Some k) a
least-front k ks a same = least-more k ks ∙ ap (lesser (Some k)) same

pub ruleset least_laws = (least-none, least-one, least-append, least-unless)
