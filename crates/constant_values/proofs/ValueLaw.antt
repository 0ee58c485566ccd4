-- What an expression comes to without a store is its value by the fold.
use Rattle.std.proofs.Common.{◌≡◌, ℕ, ◌+◌, ℤ, pos, Bool, true, false, ◌&&◌, List, [], ◌∷◌, ◌++◌, map, length, Option, Some, None, refl, ap, sym, ◌∙◌, append_assoc, append-nil, length-append}
use Rattle.f_tree.specs.declared.names.Class.TheVariants as class
use Rattle.f_tree.specs.declared.expressions.BinaryOp.{BinaryOp}
use Rattle.f_tree.specs.declared.expressions.BinaryOp.TheVariants as op
use Rattle.f_tree.specs.declared.expressions.Expr.{Expr, Int, Logical as TruthValue, Text, Name, Apply', Part', Minus', Plus', Not', Paren', Binary', AltReturn, Bind', Bound as BoundValue, Row_of-Expr, end_of-Expr, more_of-Expr}
use Rattle.f_tree.specs.Folds.{fold_expr, fold_exprs, fold_held}
use Rattle.f_tree.specs.Values.{Bytes, Datum, IsInt, IsLog, IsText, IsSpot, IsProc, IsLabel, Nothing, Checked, Gives, Fails, given_that, checked}
use Rattle.f_tree.specs.Terms.{Prefix, Negate, Complement, Operator, Function, Power, Truncation, Magnitude, Remainder, SignTransfer, PositiveDifference, Largest, Smallest, CharacterCode, CharacterOfCode, TextLength, IndexOf, LexicallyGreaterOrEqual, LexicallyGreater, LexicallyLessOrEqual, LexicallyLess, Front, Fitted, InclusiveOr, LogicalProduct, ExclusiveOr, BitComplement, BitShift, BitTest, BitSet, BitClear, AsFunction, Term, Val, Fetch, At, Element, Part, Joined, Before, Between, Intrinsically, Refer, Bind, Bound, Terms, NoMore, More, terms}
use Rattle.f_tree.specs.Facts.{Attribute}
use Rattle.f_tree.specs.Valuing.{Red, Valued, Bad, Asks, then_by, at_once, prefixed, operated, Left, Decided, Wants, Wrong, left_of, right_after, applied, length_of_piece, total_length, named_as, whole, element, part, piece, pieces, joined, fetched, bound_to, reduce, reduce_all}
use Rattle.f_tree.specs.Reading.{Read, valued_only, placed, function_named, name_read, pieces_asked, operands_of, function_read, intrinsic_read, expanded_read, applied_read, end_read, joined_read, binary_read, layer_read, read}
use Rattle.f_tree.specs.Attributes.{bare, no_program, no_facts, no_frame, value_if_valued}
use Rattle.constant_values.specs.Folded.{Folded, KnownNames, given, if_some, all_some, worth_of_each, prefixed_folded, right_folded, between_folded, text_in, both_texts, as_text, function_folded, asked, applied_folded, binary_folded, layer_folded, folded, value_given, function_given, IsKnownAs}
use Rattle.constant_values.proofs.PlainData.{plain, plain_option, plains, plain-given, plain-prefixed, plain-operated, plain_left, plain-left, plain-applied, plain-bound, plain_options, plains_option, plain-all, plain-one, plain-first, plain-rest}

-- VALUING WITHOUT ACTS AND CALLS
unfoldable pub settled : {A T : Type 0} → Red A T → Option A
settled (Valued a) = Some a
settled (Bad act) = None
settled (Asks c ds rest) = None

settled-then : {A B S T : Type 0} (r : Red A S) (back : S → T) (go : A → Red B T) → settled (then_by r back go) ≡ if_some (settled r) (λ a. settled (go a))
unfolding settled then_by if_some
settled-then (Valued a) back go = refl
settled-then (Bad act) back go = refl
settled-then (Asks c ds rest) back go = refl

settled-once : {A : Type 0} (T : Type 0) (c : Checked A) → settled (at_once {A = A} {T = T} c) ≡ given c
unfolding settled at_once given
settled-once T (Gives a) = refl
settled-once T (Fails act) = refl

pub settled-value : (r : Red Datum Term) → value_if_valued r ≡ settled r
unfolding settled value_if_valued
settled-value (Valued d) = refl
settled-value (Bad act) = refl
settled-value (Asks c ds rest) = refl

same-some : {A B : Type 0} (o : Option A) (f g : A → Option B) → ((a : A) → f a ≡ g a) → if_some o f ≡ if_some o g
unfolding if_some
same-some None f g h = refl
same-some (Some a) f g h = h a

never-some : {A B : Type 0} (o : Option A) (f : A → Option B) → ((a : A) → f a ≡ None) → if_some o f ≡ None
unfolding if_some
never-some None f h = refl
never-some (Some a) f h = h a

some-itself : {A : Type 0} (o : Option A) → if_some o Some ≡ o
unfolding if_some
some-itself None = refl
some-itself (Some a) = refl

-- the value of a term, over the arguments around it
unfoldable pub worth : List Datum → Term → Option Datum
worth env t = settled (reduce no_facts no_frame [] env t)

unfoldable pub all_worth : List Datum → Terms → Option (List Datum)
all_worth env ts = settled (reduce_all no_facts no_frame [] env ts)

unfoldable pub worths : List Datum → List Term → List (Option Datum)
worths env [] = []
worths env (t ∷ ts) = worth env t ∷ worths env ts

pub worth-Val : (env : List Datum) (d : Datum) → worth env (Val d) ≡ Some d
unfolding worth reduce settled
worth-Val env d = refl

no-fetch : (d : Datum) → plain d ≡ true → given (fetched [] d) ≡ None
unfolding plain fetched given
no-fetch (IsSpot p) h = absurd (Rattle.std.proofs.Common.true≢false (sym h))
no-fetch _ h = refl

worth-Fetch : (env : List Datum) (t : Term) → worth env (Fetch t) ≡ if_some (worth env t) (λ d. given (fetched [] d))
unfolding worth reduce
worth-Fetch env t =
    settled-then (reduce no_facts no_frame [] env t) Fetch (λ d. at_once (fetched [] d))
    ∙ same-some (settled (reduce no_facts no_frame [] env t)) (λ d. settled (at_once (fetched [] d))) (λ d. given (fetched [] d)) (λ d. settled-once Term (fetched [] d))

worth-At : (env : List Datum) (x : Bytes) → worth env (At x) ≡ None
unfolding worth reduce settled at_once whole named_as no_facts no_program bare
worth-At env x = refl

worth-Element : (env : List Datum) (x : Bytes) (ts : Terms) → worth env (Element x ts) ≡ None
unfolding worth reduce settled at_once element given_that whole named_as no_facts no_program bare
worth-Element env x ts =
    settled-then (reduce_all no_facts no_frame [] env ts) (Element x) (λ ds. at_once (element no_facts no_frame x ds))
    ∙ never-some (settled (reduce_all no_facts no_frame [] env ts)) (λ ds. settled (at_once {A = Datum} {T = Term} (element no_facts no_frame x ds))) (λ ds. refl)

worth-Refer : (env : List Datum) (callee : Rattle.f_tree.specs.Terms.Callee) (ts : Terms) → worth env (Refer callee ts) ≡ None
unfolding worth reduce settled
worth-Refer env callee ts =
    settled-then (reduce_all no_facts no_frame [] env ts) (Refer callee) (λ ds. Asks callee ds Val)
    ∙ never-some (settled (reduce_all no_facts no_frame [] env ts)) (λ ds. settled (call ds)) (λ ds. refl)
  where
    call : List Datum → Red Datum Term
    call ds = Asks callee ds Val

no-part : (x : Bytes) (d from to : Datum) → plain d ≡ true → given (part x d from to) ≡ None
unfolding plain part given
no-part x (IsSpot p) from to h = absurd (Rattle.std.proofs.Common.true≢false (sym h))
no-part x _ from to h = refl

part-by : (o a b : Option Datum) (x : Bytes) → plain_option o ≡ true → if_some o (λ p. if_some a (λ from. if_some b (λ to. given (part x p from to)))) ≡ None
unfolding if_some plain_option
part-by None a b x h = refl
part-by (Some p) None b x h = refl
part-by (Some p) (Some from) None x h = refl
part-by (Some p) (Some from) (Some to) x h = no-part x p from to h

worth-Part : (env : List Datum) (x : Bytes) (t from to : Term) →
    worth env (Part x t from to) ≡ if_some (worth env t) (λ p. if_some (worth env from) (λ a. if_some (worth env to) (λ b. given (part x p a b))))
unfolding worth reduce
worth-Part env x t from to =
    let red = reduce no_facts no_frame [] env in
    let last : Datum → Datum → Red Datum Term = λ p a. then_by (red to) (Part x (Val p) (Val a)) (λ b. at_once (part x p a b)) in
    let middle : Datum → Red Datum Term = λ p. then_by (red from) (λ r. Part x (Val p) r to) (λ a. last p a) in
    settled-then (red t) (λ r. Part x r from to) middle
    ∙ same-some (settled (red t)) (λ p. settled (middle p)) (λ p. if_some (settled (red from)) (λ a. if_some (settled (red to)) (λ b. given (part x p a b)))) (λ p.
    settled-then (red from) (λ r. Part x (Val p) r to) (last p)
    ∙ same-some (settled (red from)) (λ a. settled (last p a)) (λ a. if_some (settled (red to)) (λ b. given (part x p a b))) (λ a.
    settled-then (red to) (Part x (Val p) (Val a)) (λ b. at_once (part x p a b))
    ∙ same-some (settled (red to)) (λ b. settled (at_once (part x p a b))) (λ b. given (part x p a b)) (λ b. settled-once Term (part x p a b))))

worth-Before : (env : List Datum) (o : Prefix) (t : Term) → worth env (Before o t) ≡ prefixed_folded o (worth env t)
unfolding worth reduce prefixed_folded
worth-Before env o t =
    settled-then (reduce no_facts no_frame [] env t) (Before o) (λ d. at_once (prefixed o d))
    ∙ same-some (settled (reduce no_facts no_frame [] env t)) (λ d. settled (at_once (prefixed o d))) (λ d. given (prefixed o d)) (λ d. settled-once Term (prefixed o d))

right-by : (o : Operator) (a : Datum) (l : Left) (u : Term) (env : List Datum) →
    settled (right_after l (then_by (reduce no_facts no_frame [] env u) (Between o (Val a)) (λ b. at_once (operated o a b)))) ≡ right_folded o a l (worth env u)
unfolding right_after right_folded settled worth
right-by o a (Decided d) u env = refl
right-by o a Wants u env =
    settled-then (reduce no_facts no_frame [] env u) (Between o (Val a)) (λ b. at_once (operated o a b))
    ∙ same-some (settled (reduce no_facts no_frame [] env u)) (λ b. settled (at_once (operated o a b))) (λ b. given (operated o a b)) (λ b. settled-once Term (operated o a b))
right-by o a Wrong u env = refl

worth-Between : (env : List Datum) (o : Operator) (t u : Term) → worth env (Between o t u) ≡ between_folded o (worth env t) (worth env u)
unfolding worth reduce between_folded
worth-Between env o t u =
    let red = reduce no_facts no_frame [] env in
    let go : Datum → Red Datum Term = λ a. right_after (left_of o a) (then_by (red u) (Between o (Val a)) (λ b. at_once (operated o a b))) in
    settled-then (red t) (λ r. Between o r u) go
    ∙ same-some (settled (red t)) (λ a. settled (go a)) (λ a. right_folded o a (left_of o a) (settled (red u))) (λ a. right-by o a (left_of o a) u env)

all-worth : (env : List Datum) (ts : List Term) → all_worth env (terms ts) ≡ all_some (worths env ts)
unfolding all_worth reduce_all terms worths all_some settled worth
all-worth env [] = refl
all-worth env (t ∷ ts) =
    let red = reduce no_facts no_frame [] env in
    let rest = reduce_all no_facts no_frame [] env (terms ts) in
    settled-then (red t) (λ r. More r (terms ts)) (λ d. then_by rest (More (Val d)) (λ ds. Valued (d ∷ ds)))
    ∙ same-some (settled (red t)) (λ d. settled (then_by rest (More (Val d)) (λ ds. Valued (d ∷ ds)))) (λ d. if_some (all_some (worths env ts)) (λ ds. Some (d ∷ ds))) (λ d.
    settled-then rest (More (Val d)) (λ ds. Valued (d ∷ ds))
    ∙ ap (λ o. if_some o (λ ds. Some (d ∷ ds))) (all-worth env ts))

worth-Intrinsically : (env : List Datum) (f : Function) (ts : List Term) → worth env (Intrinsically f (terms ts)) ≡ function_folded f (worths env ts)
unfolding worth reduce function_folded all_worth
worth-Intrinsically env f ts =
    let rest = reduce_all no_facts no_frame [] env (terms ts) in
    settled-then rest (Intrinsically f) (λ ds. at_once (applied f ds))
    ∙ same-some (settled rest) (λ ds. settled (at_once (applied f ds))) (λ ds. given (applied f ds)) (λ ds. settled-once Term (applied f ds))
    ∙ ap (λ o. if_some o (λ ds. given (applied f ds))) (all-worth env ts)

worth-Joined : (env : List Datum) (ts : List Term) → worth env (Joined (terms ts)) ≡ if_some (all_some (worths env ts)) (λ ds. given (joined (pieces [] ds)))
unfolding worth reduce all_worth
worth-Joined env ts =
    let rest = reduce_all no_facts no_frame [] env (terms ts) in
    settled-then rest Joined (λ ds. at_once (joined (pieces [] ds)))
    ∙ same-some (settled rest) (λ ds. settled (at_once (joined (pieces [] ds)))) (λ ds. given (joined (pieces [] ds))) (λ ds. settled-once Term (joined (pieces [] ds)))
    ∙ ap (λ o. if_some o (λ ds. given (joined (pieces [] ds)))) (all-worth env ts)

worth-Bind : (env : List Datum) (ts : List Term) (t : Term) → worth env (Bind (terms ts) t) ≡ if_some (all_some (worths env ts)) (λ ds. worth ds t)
unfolding worth reduce all_worth settled
worth-Bind env ts t =
    let rest = reduce_all no_facts no_frame [] env (terms ts) in
    let go : List Datum → Red Datum Term = λ ds. then_by (reduce no_facts no_frame [] ds t) (Bind (Rattle.f_tree.specs.Terms.valued_then ds NoMore)) Valued in
    settled-then rest (λ rs. Bind rs t) go
    ∙ same-some (settled rest) (λ ds. settled (go ds)) (λ ds. settled (reduce no_facts no_frame [] ds t)) (λ ds.
    settled-then (reduce no_facts no_frame [] ds t) (Bind (Rattle.f_tree.specs.Terms.valued_then ds NoMore)) Valued
    ∙ some-itself (settled (reduce no_facts no_frame [] ds t)))
    ∙ ap (λ o. if_some o (λ ds. settled (reduce no_facts no_frame [] ds t))) (all-worth env ts)

worth-Bound : (env : List Datum) (k : ℕ) → worth env (Bound k) ≡ given (bound_to env k)
unfolding worth reduce
worth-Bound env k = settled-once Term (bound_to env k)

-- PIECES OF TEXT
unfoldable pub joined_pieces : List (Option Datum) → Option Bytes
joined_pieces [] = Some []
joined_pieces (v ∷ vs) = both_texts (text_in v) (joined_pieces vs)

both-none : (o : Option Bytes) → both_texts None o ≡ None
unfolding both_texts
both-none None = refl
both-none (Some b) = refl

both-empty : (o : Option Bytes) → both_texts (Some []) o ≡ o
unfolding both_texts
both-empty None = refl
both-empty (Some b) = refl

empty-both : (o : Option Bytes) → both_texts o (Some []) ≡ o
unfolding both_texts
empty-both None = refl
empty-both (Some b) = ap Some (append-nil b)

both-along : (a b c : Option Bytes) → both_texts a (both_texts b c) ≡ both_texts (both_texts a b) c
unfolding both_texts
both-along None None None = refl
both-along None None (Some c) = refl
both-along None (Some b) None = refl
both-along None (Some b) (Some c) = refl
both-along (Some a) None None = refl
both-along (Some a) None (Some c) = refl
both-along (Some a) (Some b) None = refl
both-along (Some a) (Some b) (Some c) = ap Some (sym (append_assoc a b c))

joined-both : (vs ws : List (Option Datum)) → joined_pieces (vs ++ ws) ≡ both_texts (joined_pieces vs) (joined_pieces ws)
unfolding joined_pieces
joined-both [] ws = sym (both-empty (joined_pieces ws))
joined-both (v ∷ vs) ws = ap (both_texts (text_in v)) (joined-both vs ws) ∙ both-along (text_in v) (joined_pieces vs) (joined_pieces ws)

worths-both : (env : List Datum) (ts us : List Term) → worths env (ts ++ us) ≡ worths env ts ++ worths env us
unfolding worths
worths-both env [] us = refl
worths-both env (t ∷ ts) us = ap (λ vs. worth env t ∷ vs) (worths-both env ts us)

pub joined-one : (v : Option Datum) → joined_pieces (v ∷ []) ≡ text_in v
unfolding joined_pieces
joined-one v = empty-both (text_in v)

text-piece : (cs : Bytes) (o : Option (List Datum)) (found : Option Bytes) → if_some o (λ ds. given (pieces [] ds)) ≡ found →
    if_some o (λ ds. given (given_that (Gives cs) (λ a. given_that (pieces [] ds) (λ b. Gives (a ++ b))))) ≡ both_texts (Some cs) found
unfolding if_some given_that given both_texts
text-piece cs None found h = ap (both_texts (Some cs)) h
text-piece cs (Some ds) found h = text-rest cs (pieces [] ds) ∙ ap (both_texts (Some cs)) h
  where
    text-rest : (cs : Bytes) (c : Checked Bytes) → given (given_that c (λ b. Gives (cs ++ b))) ≡ both_texts (Some cs) (given c)
    text-rest cs (Gives b) = refl
    text-rest cs (Fails act) = refl

fails-always : (o : Option (List Datum)) (act : Rattle.f_tree.specs.Values.Act) (go : Bytes → List Datum → Checked Bytes) →
    if_some o (λ ds. given (given_that (Fails act) (λ a. go a ds))) ≡ None
unfolding if_some given_that given
fails-always None act go = refl
fails-always (Some ds) act go = refl

-- the pieces of a list of values that are no places, and their lengths
unfoldable pub pieced : Option (List Datum) → Option Bytes
pieced o = if_some o (λ ds. given (pieces [] ds))

pieced-more : (v : Option Datum) (o : Option (List Datum)) (found : Option Bytes) → plain_option v ≡ true → pieced o ≡ found →
    pieced (if_some v (λ d. if_some o (λ ds. Some (d ∷ ds)))) ≡ both_texts (text_in v) found
unfolding pieced if_some plain_option plain text_in pieces piece given given_that
pieced-more None o found h k = sym (both-none found)
pieced-more (Some (IsText cs)) o found h k = pushed o ∙ text-piece cs o found k
  where
    pushed : (o : Option (List Datum)) → pieced (if_some o (λ ds. Some (IsText cs ∷ ds))) ≡ if_some o (λ ds. given (given_that (Gives cs) (λ a. given_that (pieces [] ds) (λ b. Gives (a ++ b)))))
    pushed None = refl
    pushed (Some ds) = refl
pieced-more (Some (IsSpot p)) o found h k = absurd (Rattle.std.proofs.Common.true≢false (sym h))
pieced-more (Some _) None found h k = sym (both-none found)
pieced-more (Some (IsInt z)) (Some ds) found h k = sym (both-none found)
pieced-more (Some (IsLog b)) (Some ds) found h k = sym (both-none found)
pieced-more (Some (IsProc x)) (Some ds) found h k = sym (both-none found)
pieced-more (Some (IsLabel l)) (Some ds) found h k = sym (both-none found)
pieced-more (Some Nothing) (Some ds) found h k = sym (both-none found)

pub pieced-all : (vs : List (Option Datum)) → plain_options vs ≡ true → pieced (all_some vs) ≡ joined_pieces vs
unfolding all_some joined_pieces pieced if_some pieces given
pieced-all [] h = refl
pieced-all (v ∷ vs) h = pieced-more v (all_some vs) (joined_pieces vs) (plain-first v vs h) (pieced-all vs (plain-rest v vs h))

joined-datum : (c : Checked Bytes) → given (joined c) ≡ as_text (given c)
unfolding joined given as_text
joined-datum (Gives cs) = refl
joined-datum (Fails act) = refl

joined-some : (o : Option (List Datum)) → if_some o (λ ds. given (joined (pieces [] ds))) ≡ as_text (pieced o)
unfolding pieced if_some as_text
joined-some None = refl
joined-some (Some ds) = joined-datum (pieces [] ds)

unfoldable pub length_in : Option Bytes → Option ℕ
length_in None = None
length_in (Some cs) = Some (length cs)

unfoldable pub totalled : Option (List Datum) → Option ℕ
totalled o = if_some o (λ ds. given (total_length ds))

sum_in : Option ℕ → Option ℕ → Option ℕ
sum_in (Some m) (Some n) = Some (m + n)
sum_in _ _ = None

sum-none : (o : Option ℕ) → sum_in None o ≡ None
unfolding sum_in
sum-none None = refl
sum-none (Some n) = refl

given-sum : (m : ℕ) (c : Checked ℕ) → given (given_that c (λ n. Gives (m + n))) ≡ sum_in (Some m) (given c)
unfolding given given_that sum_in
given-sum m (Gives n) = refl
given-sum m (Fails act) = refl

length-both : (a b : Option Bytes) → length_in (both_texts a b) ≡ sum_in (length_in a) (length_in b)
unfolding length_in both_texts sum_in
length-both None None = refl
length-both None (Some b) = refl
length-both (Some a) None = refl
length-both (Some a) (Some b) = ap Some (length-append a b)

total-more : (v : Option Datum) (o : Option (List Datum)) (found : Option ℕ) → plain_option v ≡ true → totalled o ≡ found →
    totalled (if_some v (λ d. if_some o (λ ds. Some (d ∷ ds)))) ≡ sum_in (length_in (text_in v)) found
unfolding totalled if_some plain_option plain text_in total_length length_of_piece length_in given given_that sum_in
total-more None o found h k = sym (sum-none found)
total-more (Some (IsText cs)) None found h k = ap (sum_in (Some (length cs))) k
total-more (Some (IsText cs)) (Some ds) found h k = given-sum (length cs) (total_length ds) ∙ ap (sum_in (Some (length cs))) k
total-more (Some (IsSpot p)) o found h k = absurd (Rattle.std.proofs.Common.true≢false (sym h))
total-more (Some _) None found h k = sym (sum-none found)
total-more (Some (IsInt z)) (Some ds) found h k = sym (sum-none found)
total-more (Some (IsLog b)) (Some ds) found h k = sym (sum-none found)
total-more (Some (IsProc x)) (Some ds) found h k = sym (sum-none found)
total-more (Some (IsLabel l)) (Some ds) found h k = sym (sum-none found)
total-more (Some Nothing) (Some ds) found h k = sym (sum-none found)

total-all : (vs : List (Option Datum)) → plain_options vs ≡ true → totalled (all_some vs) ≡ length_in (joined_pieces vs)
unfolding all_some joined_pieces totalled if_some total_length given length_in
total-all [] h = refl
total-all (v ∷ vs) h =
    total-more v (all_some vs) (length_in (joined_pieces vs)) (plain-first v vs h) (total-all vs (plain-rest v vs h))
    ∙ sym (length-both (text_in v) (joined_pieces vs))

unfoldable pub has_some : {A : Type 0} → List A → Bool
has_some [] = false
has_some (a ∷ as') = true

length-checked : (c : Checked ℕ) → given (given_that c (λ n. checked (pos n))) ≡ if_some (given c) (λ n. given (checked (pos n)))
unfolding given given_that if_some
length-checked (Gives n) = refl
length-checked (Fails act) = refl

-- LEN of some pieces is the length of the text that they make
length-of-more : (d : Datum) (o : Option (List Datum)) →
    if_some (if_some o (λ ds. Some (d ∷ ds))) (λ ds. given (applied TextLength ds)) ≡ if_some (totalled (if_some o (λ ds. Some (d ∷ ds)))) (λ n. given (checked (pos n)))
unfolding if_some totalled applied
length-of-more d None = refl
length-of-more d (Some ds) = length-checked (total_length (d ∷ ds))

length-asked : (vs : List (Option Datum)) → has_some vs ≡ true → plain_options vs ≡ true →
    function_folded TextLength vs ≡ if_some (length_in (joined_pieces vs)) (λ n. given (checked (pos n)))
unfolding function_folded has_some all_some if_some totalled
length-asked vs h k = asked-by vs h ∙ ap (λ o. if_some o (λ n. given (checked (pos n)))) (total-all vs k)
  where
    asked-by : (vs : List (Option Datum)) → has_some vs ≡ true → if_some (all_some vs) (λ ds. given (applied TextLength ds)) ≡ if_some (totalled (all_some vs)) (λ n. given (checked (pos n)))
    asked-by [] h = absurd (Rattle.std.proofs.Common.true≢false (sym h))
    asked-by (None ∷ vs) h = refl
    asked-by (Some d ∷ vs) h = length-of-more d (all_some vs)

-- WHAT IS READ AND WHAT IS FOLDED
pub record Alike (r : Read) (m : Folded) : Type 0 where
  pub value : (env : List Datum) → plains env ≡ true → worth env r.value ≡ m env
  pub actual : (env : List Datum) → plains env ≡ true → plain_option (worth env r.actual) ≡ true
  pub plain : (env : List Datum) → plains env ≡ true → plain_option (m env) ≡ true
  pub pieces : (env : List Datum) → plains env ≡ true → joined_pieces (worths env r.pieces) ≡ text_in (m env)
  pub plain_pieces : (env : List Datum) → plains env ≡ true → plain_options (worths env r.pieces) ≡ true
  pub has_pieces : has_some r.pieces ≡ true

pub alike-valued : (t : Term) (m : Folded) → ((env : List Datum) → plains env ≡ true → worth env t ≡ m env) → ((env : List Datum) → plains env ≡ true → plain_option (m env) ≡ true) →
    Alike (valued_only t) m
unfolding valued_only worths has_some plain_options
alike-valued t m h k = record {
  value = h;
  actual = λ env p. ap plain_option (h env p) ∙ k env p;
  plain = k;
  pieces = λ env p. joined-one (worth env t) ∙ ap text_in (h env p);
  plain_pieces = λ env p. ap (λ b. b && true) (ap plain_option (h env p) ∙ k env p);
  has_pieces = refl;
}

if-none : {A B : Type 0} (o : Option A) (go : A → Option B) → o ≡ None → if_some o go ≡ None
unfolding if_some
if-none o go h = ap (λ p. if_some p go) h

pub alike-placed : (t : Term) (m : Folded) → ((env : List Datum) → plains env ≡ true → worth env t ≡ None) → ((env : List Datum) → m env ≡ None) → Alike (placed t) m
unfolding placed worths has_some plain_options plain_option text_in
alike-placed t m h k = record {
  value = λ env p. worth-Fetch env t ∙ if-none (worth env t) (λ d. given (fetched [] d)) (h env p) ∙ sym (k env);
  actual = λ env p. ap plain_option (h env p);
  plain = λ env p. ap plain_option (k env);
  pieces = λ env p. joined-one (worth env t) ∙ ap text_in (h env p) ∙ sym (ap text_in (k env));
  plain_pieces = λ env p. ap (λ b. b && true) (ap plain_option (h env p));
  has_pieces = refl;
}

-- only what is read of it counts
pub alike-read : (r s : Read) (m n : Folded) → Alike r m → r.value ≡ s.value → r.actual ≡ s.actual → r.pieces ≡ s.pieces → ((env : List Datum) → m env ≡ n env) → Alike s n
alike-read r s m n a v w p q = record {
  value = λ env h. sym (ap (worth env) v) ∙ a.value env h ∙ q env;
  actual = λ env h. sym (ap (λ t. plain_option (worth env t)) w) ∙ a.actual env h;
  plain = λ env h. sym (ap plain_option (q env)) ∙ a.plain env h;
  pieces = λ env h. sym (ap (λ ts. joined_pieces (worths env ts)) p) ∙ a.pieces env h ∙ ap text_in (q env);
  plain_pieces = λ env h. sym (ap (λ ts. plain_options (worths env ts)) p) ∙ a.plain_pieces env h;
  has_pieces = sym (ap has_some p) ∙ a.has_pieces;
}

-- LISTS OF OPERANDS
pub data AllAlike : List Read → List Folded → Type 0 where
  none : AllAlike [] []
  more : {r : Read} {m : Folded} {rs : List Read} {ms : List Folded} → Alike r m → AllAlike rs ms → AllAlike (r ∷ rs) (m ∷ ms)

values-alike : {rs : List Read} {ms : List Folded} → AllAlike rs ms → (env : List Datum) → plains env ≡ true → worths env (map (λ (r : Read). r.value) rs) ≡ worth_of_each env ms
unfolding worths worth_of_each
values-alike none env h = refl
values-alike (more {r = r} {m = m} {rs = rs} {ms = ms} a as') env h =
    ap (λ v. v ∷ worths env (map (λ (r : Read). r.value) rs)) (a.value env h) ∙ ap (λ vs. m env ∷ vs) (values-alike as' env h)

plain-each : {rs : List Read} {ms : List Folded} → AllAlike rs ms → (env : List Datum) → plains env ≡ true → plain_options (worth_of_each env ms) ≡ true
unfolding worth_of_each plain_options
plain-each none env h = refl
plain-each (more {r = r} {m = m} {rs = rs} {ms = ms} a as') env h = plain-one (m env) (worth_of_each env ms) (a.plain env h) (plain-each as' env h)

plain-none : plain_option None ≡ true
unfolding plain_option
plain-none = refl

plain-function : (f : Function) (vs : List (Option Datum)) → plain_option (function_folded f vs) ≡ true
unfolding function_folded if_some
plain-function f vs = by_list (all_some vs)
  where
    by_list : (o : Option (List Datum)) → plain_option (if_some o (λ ds. given (applied f ds))) ≡ true
    by_list None = plain-none
    by_list (Some ds) = plain-given (applied f ds) (plain-applied f ds)

-- FUNCTIONS
length-alike : (r : Read) (m : Folded) → Alike r m → (env : List Datum) → plains env ≡ true → function_folded TextLength (worths env r.pieces) ≡ function_folded TextLength (m env ∷ [])
unfolding has_some plain_options worths
length-alike r m a env h =
    length-asked (worths env r.pieces) (has_worths env r.pieces a.has_pieces) (a.plain_pieces env h)
    ∙ ap (λ o. if_some (length_in o) (λ n. given (checked (pos n)))) (a.pieces env h ∙ sym (joined-one (m env)))
    ∙ sym (length-asked (m env ∷ []) refl (ap (λ b. b && true) (a.plain env h)))
  where
    has_worths : (env : List Datum) (ts : List Term) → has_some ts ≡ true → has_some (worths env ts) ≡ true
    has_worths env [] h = h
    has_worths env (t ∷ ts) h = refl

operands-alike : (f : Function) {rs : List Read} {ms : List Folded} → AllAlike rs ms → (env : List Datum) → plains env ≡ true →
    function_folded f (worths env (operands_of f rs)) ≡ function_folded f (asked f (worth_of_each env ms))
unfolding operands_of pieces_asked asked worths worth_of_each
operands-alike TextLength none env h = refl
operands-alike TextLength (more {r = r} {m = m} a none) env h = length-alike r m a env h
operands-alike TextLength (more a (more b as')) env h = refl
operands-alike f as' env h = ap (function_folded f) (values-alike as' env h)

never-alike : (t : Term) (m : Folded) → ((env : List Datum) → plains env ≡ true → worth env t ≡ None) → ((env : List Datum) → m env ≡ None) → Alike (valued_only t) m
never-alike t m h k = alike-valued t m (λ env p. h env p ∙ sym (k env)) (λ env p. ap plain_option (k env) ∙ plain-none)

refer-alike : (x : Bytes) (a : Attribute) (rs : List Read) (m : Folded) → ((env : List Datum) → m env ≡ None) → Alike (function_read x a rs) m
unfolding function_read
refer-alike x a rs m k =
    let callee : Rattle.f_tree.specs.Terms.Callee = record { name = x; want = AsFunction a.basic (Rattle.f_tree.specs.Reading.width_or_zero a.width) } in
    never-alike (Refer callee (terms (map (λ (r : Read). r.actual) rs))) m (λ env p. worth-Refer env callee (terms (map (λ (r : Read). r.actual) rs))) k

element-alike : (x : Bytes) (ts : Terms) (m : Folded) → ((env : List Datum) → m env ≡ None) → Alike (record (placed (Element x ts)) { base = Some x }) m
unfolding placed
element-alike x ts m k =
    alike-read (placed (Element x ts)) (record (placed (Element x ts)) { base = Some x }) m m (alike-placed (Element x ts) m (λ env p. worth-Element env x ts) k) refl refl refl (λ env. refl)

intrinsic-alike : (x : Bytes) (a : Attribute) (o : Option Function) {rs : List Read} {ms : List Folded} → AllAlike rs ms →
    Alike (intrinsic_read x a rs o) (λ env. applied_folded o (worth_of_each env ms))
unfolding intrinsic_read applied_folded
intrinsic-alike x a None {rs = rs} as' = refer-alike x a rs (λ env. None) (λ env. refl)
intrinsic-alike x a (Some f) {rs = rs} {ms = ms} as' =
    alike-valued (Intrinsically f (terms (operands_of f rs))) (λ env. function_folded f (asked f (worth_of_each env ms)))
    (λ env p. worth-Intrinsically env f (operands_of f rs) ∙ operands-alike f as' env p)
    (λ env p. plain-function f (asked f (worth_of_each env ms)))

attribute : Rattle.f_tree.specs.declared.names.Basic.Basic → Rattle.f_tree.specs.declared.names.Class.Class → Option ℕ → List Rattle.f_tree.specs.Facts.Dimension → List Rattle.f_tree.specs.Facts.Bounds → Option Datum → Option Term → Attribute
attribute b c w ds bs v e = record { basic = b; class = c; width = w; dimensions = ds; bounds = bs; constant = v; expansion = e }

applied-by : (x : Bytes) (b : Rattle.f_tree.specs.declared.names.Basic.Basic) (c : Rattle.f_tree.specs.declared.names.Class.Class) (w : Option ℕ) (ds : List Rattle.f_tree.specs.Facts.Dimension) (bs : List Rattle.f_tree.specs.Facts.Bounds)
    (v : Option Datum) (e : Option Term) → e ≡ None → {rs : List Read} {ms : List Folded} → AllAlike rs ms →
    Alike (applied_read x (attribute b c w ds bs v e) rs) (λ env. applied_folded (function_given x (attribute b c w ds bs v e)) (worth_of_each env ms))
unfolding attribute applied_read function_given expanded_read applied_folded
applied-by x b class.Intrinsic w ds bs v e h as' = intrinsic-alike x (attribute b class.Intrinsic w ds bs v e) (function_named x) as'
applied-by x b class.StatementFunction w ds bs v None h {rs = rs} as' = refer-alike x (attribute b class.StatementFunction w ds bs v None) rs (λ env. None) (λ env. refl)
applied-by x b class.StatementFunction w ds bs v (Some t) h as' = absurd (cc)
applied-by x b class.Procedure w ds bs v e h {rs = rs} as' = refer-alike x (attribute b class.Procedure w ds bs v e) rs (λ env. None) (λ env. refl)
applied-by x b class.DummyProcedure w ds bs v e h {rs = rs} as' = refer-alike x (attribute b class.DummyProcedure w ds bs v e) rs (λ env. None) (λ env. refl)
applied-by x b class.Result w ds bs v e h {rs = rs} as' = refer-alike x (attribute b class.Result w ds bs v e) rs (λ env. None) (λ env. refl)
applied-by x b class.Constant w ds bs v e h {rs = rs} as' = element-alike x (terms (map (λ (r : Read). r.value) rs)) (λ env. None) (λ env. refl)
applied-by x b class.Stored w ds bs v e h {rs = rs} as' = element-alike x (terms (map (λ (r : Read). r.value) rs)) (λ env. None) (λ env. refl)
applied-by x b class.Dummy w ds bs v e h {rs = rs} as' = element-alike x (terms (map (λ (r : Read). r.value) rs)) (λ env. None) (λ env. refl)
applied-by x b class.Unit w ds bs v e h {rs = rs} as' = element-alike x (terms (map (λ (r : Read). r.value) rs)) (λ env. None) (λ env. refl)

pub applied-alike : (x : Bytes) (a : Attribute) (known : KnownNames) → IsKnownAs x a known → {rs : List Read} {ms : List Folded} → AllAlike rs ms →
    Alike (applied_read x a rs) (λ env. applied_folded (known.function x) (worth_of_each env ms))
unfolding attribute
applied-alike x a known is {rs = rs} {ms = ms} as' =
    alike-read (applied_read x a rs) (applied_read x a rs) (λ env. applied_folded (function_given x a) (worth_of_each env ms)) (λ env. applied_folded (known.function x) (worth_of_each env ms))
    (applied-by x a.basic a.class a.width a.dimensions a.bounds a.constant a.expansion is.expansion as') refl refl refl (λ env. ap (λ f. applied_folded f (worth_of_each env ms)) (sym is.function))

-- NAMES ALONE
named-alike : (t : Term) (x : Bytes) (m : Folded) → Alike (valued_only t) m → Alike (record (valued_only t) { named = Some x }) m
unfolding valued_only
named-alike t x m a = alike-read (valued_only t) (record (valued_only t) { named = Some x }) m m a refl refl refl (λ env. refl)

at-alike : (x : Bytes) → Alike (valued_only (At x)) (λ env. None)
at-alike x = never-alike (At x) (λ env. None) (λ env p. worth-At env x) (λ env. refl)

variable-alike : (x : Bytes) → Alike (record (placed (At x)) { named = Some x; base = Some x }) (λ env. None)
unfolding placed
variable-alike x =
    alike-read (placed (At x)) (record (placed (At x)) { named = Some x; base = Some x }) (λ env. None) (λ env. None)
    (alike-placed (At x) (λ env. None) (λ env p. worth-At env x) (λ env. refl)) refl refl refl (λ env. refl)

name-by : (x : Bytes) (b : Rattle.f_tree.specs.declared.names.Basic.Basic) (c : Rattle.f_tree.specs.declared.names.Class.Class) (w : Option ℕ) (ds : List Rattle.f_tree.specs.Facts.Dimension) (bs : List Rattle.f_tree.specs.Facts.Bounds)
    (v : Option Datum) (e : Option Term) → e ≡ None → plain_option (value_given (attribute b c w ds bs v e)) ≡ true →
    Alike (name_read x (attribute b c w ds bs v e)) (λ env. value_given (attribute b c w ds bs v e))
unfolding attribute name_read value_given
name-by x b class.Constant w ds bs None e h k = named-alike (At x) x (λ env. None) (at-alike x)
name-by x b class.Constant w ds bs (Some d) e h k = named-alike (Val d) x (λ env. Some d) (alike-valued (Val d) (λ env. Some d) (λ env p. worth-Val env d) (λ env p. k))
name-by x b class.Procedure w ds bs v e h k = named-alike (At x) x (λ env. None) (at-alike x)
name-by x b class.DummyProcedure w ds bs v e h k = named-alike (At x) x (λ env. None) (at-alike x)
name-by x b class.Intrinsic w ds bs v e h k = named-alike (At x) x (λ env. None) (at-alike x)
name-by x b class.StatementFunction w ds bs v None h k = at-alike x
name-by x b class.StatementFunction w ds bs v (Some t) h k = absurd (cc)
name-by x b class.Stored w ds bs v e h k = variable-alike x
name-by x b class.Dummy w ds bs v e h k = variable-alike x
name-by x b class.Result w ds bs v e h k = variable-alike x
name-by x b class.Unit w ds bs v e h k = variable-alike x

pub name-alike : (x : Bytes) (a : Attribute) (known : KnownNames) → IsKnownAs x a known → plain_option (known.value x) ≡ true → Alike (name_read x a) (λ env. known.value x)
unfolding attribute
name-alike x a known is p =
    alike-read (name_read x a) (name_read x a) (λ env. value_given a) (λ env. known.value x)
    (name-by x a.basic a.class a.width a.dimensions a.bounds a.constant a.expansion is.expansion (sym (ap plain_option is.value) ∙ p)) refl refl refl (λ env. sym is.value)

-- OPERATORS
plain-prefixed-folded : (o : Prefix) (v : Option Datum) → plain_option (prefixed_folded o v) ≡ true
unfolding prefixed_folded if_some
plain-prefixed-folded o None = plain-none
plain-prefixed-folded o (Some d) = plain-given (prefixed o d) (plain-prefixed o d)

prefixed-alike : (o : Prefix) (r : Read) (m : Folded) → Alike r m → Alike (valued_only (Before o r.value)) (λ env. prefixed_folded o (m env))
prefixed-alike o r m a =
    alike-valued (Before o r.value) (λ env. prefixed_folded o (m env)) (λ env p. worth-Before env o r.value ∙ ap (prefixed_folded o) (a.value env p)) (λ env p. plain-prefixed-folded o (m env))

plain-right : (o : Operator) (d : Datum) (l : Left) (w : Option Datum) → plain_left l ≡ true → plain_option (right_folded o d l w) ≡ true
unfolding right_folded plain_left plain_option if_some
plain-right o d (Decided e) w h = h
plain-right o d Wants None h = refl
plain-right o d Wants (Some e) h = plain-given (operated o d e) (plain-operated o d e)
plain-right o d Wrong w h = refl

plain-between : (o : Operator) (v w : Option Datum) → plain_option (between_folded o v w) ≡ true
unfolding between_folded if_some
plain-between o None w = plain-none
plain-between o (Some d) w = plain-right o d (left_of o d) w (plain-left o d)

between-alike : (o : Operator) (r s : Read) (m n : Folded) → Alike r m → Alike s n → Alike (valued_only (Between o r.value s.value)) (λ env. between_folded o (m env) (n env))
between-alike o r s m n a b =
    alike-valued (Between o r.value s.value) (λ env. between_folded o (m env) (n env))
    (λ env p. worth-Between env o r.value s.value ∙ ap (λ v. between_folded o v (worth env s.value)) (a.value env p) ∙ ap (between_folded o (m env)) (b.value env p))
    (λ env p. plain-between o (m env) (n env))

power-alike : (r s : Read) (m n : Folded) → Alike r m → Alike s n → Alike (valued_only (Intrinsically Power (More r.value (More s.value NoMore)))) (λ env. function_folded Power (m env ∷ n env ∷ []))
unfolding terms worths
power-alike r s m n a b =
    alike-valued (Intrinsically Power (More r.value (More s.value NoMore))) (λ env. function_folded Power (m env ∷ n env ∷ []))
    (λ env p. worth-Intrinsically env Power (r.value ∷ s.value ∷ []) ∙ ap (λ v. function_folded Power (v ∷ worth env s.value ∷ [])) (a.value env p) ∙ ap (λ v. function_folded Power (m env ∷ v ∷ [])) (b.value env p))
    (λ env p. plain-function Power (m env ∷ n env ∷ []))

plain-text : (o : Option Bytes) → plain_option (as_text o) ≡ true
unfolding as_text plain_option plain
plain-text None = refl
plain-text (Some cs) = refl

text-of-text : (o : Option Bytes) → text_in (as_text o) ≡ o
unfolding as_text text_in
text-of-text None = refl
text-of-text (Some cs) = refl

plain-both : (vs ws : List (Option Datum)) → plain_options vs ≡ true → plain_options ws ≡ true → plain_options (vs ++ ws) ≡ true
unfolding plain_options
plain-both [] ws h k = k
plain-both (v ∷ vs) ws h k = plain-one v (vs ++ ws) (plain-first v vs h) (plain-both vs ws (plain-rest v vs h) k)

has-both : (ts us : List Term) → has_some ts ≡ true → has_some (ts ++ us) ≡ true
unfolding has_some
has-both [] us h = absurd (Rattle.std.proofs.Common.true≢false (sym h))
has-both (t ∷ ts) us h = refl

joined-alike : (r s : Read) (m n : Folded) → Alike r m → Alike s n → Alike (joined_read (r.pieces ++ s.pieces)) (λ env. as_text (both_texts (text_in (m env)) (text_in (n env))))
unfolding joined_read
joined-alike r s m n a b = record {
  value = λ env p. worth-Joined env ts ∙ joined-some (all_some (worths env ts)) ∙ ap as_text (pieced-all (worths env ts) (plain-these env p) ∙ text-these env p);
  actual = λ env p. ap plain_option (worth-Joined env ts ∙ joined-some (all_some (worths env ts))) ∙ plain-text (pieced (all_some (worths env ts)));
  plain = λ env p. plain-text (both_texts (text_in (m env)) (text_in (n env)));
  pieces = λ env p. text-these env p ∙ sym (text-of-text (both_texts (text_in (m env)) (text_in (n env))));
  plain_pieces = plain-these;
  has_pieces = has-both r.pieces s.pieces a.has_pieces;
}
  where
    ts : List Term
    ts = r.pieces ++ s.pieces

    text-these : (env : List Datum) → plains env ≡ true → joined_pieces (worths env ts) ≡ both_texts (text_in (m env)) (text_in (n env))
    text-these env p =
        ap joined_pieces (worths-both env r.pieces s.pieces) ∙ joined-both (worths env r.pieces) (worths env s.pieces)
        ∙ ap (λ c. both_texts c (joined_pieces (worths env s.pieces))) (a.pieces env p) ∙ ap (both_texts (text_in (m env))) (b.pieces env p)

    plain-these : (env : List Datum) → plains env ≡ true → plain_options (worths env ts) ≡ true
    plain-these env p = ap plain_options (worths-both env r.pieces s.pieces) ∙ plain-both (worths env r.pieces) (worths env s.pieces) (a.plain_pieces env p) (b.plain_pieces env p)

pub binary-alike : (o : BinaryOp) (r s : Read) (m n : Folded) → Alike r m → Alike s n → Alike (binary_read o r s) (λ env. binary_folded o (m env) (n env))
unfolding binary_read binary_folded
binary-alike op.Power r s m n a b = power-alike r s m n a b
binary-alike op.Times r s m n a b = between-alike Rattle.f_tree.specs.Terms.Multiply r s m n a b
binary-alike op.Divide r s m n a b = between-alike Rattle.f_tree.specs.Terms.Divide r s m n a b
binary-alike op.Plus r s m n a b = between-alike Rattle.f_tree.specs.Terms.Add r s m n a b
binary-alike op.Minus r s m n a b = between-alike Rattle.f_tree.specs.Terms.Subtract r s m n a b
binary-alike op.Concatenate r s m n a b = joined-alike r s m n a b
binary-alike op.Less r s m n a b = between-alike Rattle.f_tree.specs.Terms.IsLess r s m n a b
binary-alike op.LessOrEqual r s m n a b = between-alike Rattle.f_tree.specs.Terms.IsLessOrEqual r s m n a b
binary-alike op.Equal r s m n a b = between-alike Rattle.f_tree.specs.Terms.IsEqual r s m n a b
binary-alike op.NotEqual r s m n a b = between-alike Rattle.f_tree.specs.Terms.IsNotEqual r s m n a b
binary-alike op.Greater r s m n a b = between-alike Rattle.f_tree.specs.Terms.IsGreater r s m n a b
binary-alike op.GreaterOrEqual r s m n a b = between-alike Rattle.f_tree.specs.Terms.IsGreaterOrEqual r s m n a b
binary-alike op.And r s m n a b = between-alike Rattle.f_tree.specs.Terms.Both r s m n a b
binary-alike op.Or r s m n a b = between-alike Rattle.f_tree.specs.Terms.Either r s m n a b
binary-alike op.Equivalent r s m n a b = between-alike Rattle.f_tree.specs.Terms.Same r s m n a b
binary-alike op.NotEquivalent r s m n a b = between-alike Rattle.f_tree.specs.Terms.Different r s m n a b

paren-alike : (r : Read) (m : Folded) → Alike r m → Alike (record (valued_only r.value) { pieces = r.pieces }) m
unfolding valued_only
paren-alike r m a = record {
  value = a.value;
  actual = λ env p. ap plain_option (a.value env p) ∙ a.plain env p;
  plain = a.plain;
  pieces = a.pieces;
  plain_pieces = a.plain_pieces;
  has_pieces = a.has_pieces;
}

part-alike : (r : Read) (m : Folded) (x : Bytes) (from to : Term) → Alike r m → Alike (record (placed (Part x r.actual from to)) { base = r.base }) (λ env. None)
unfolding placed
part-alike r m x from to a =
    alike-read (placed (Part x r.actual from to)) (record (placed (Part x r.actual from to)) { base = r.base }) (λ env. None) (λ env. None)
    (alike-placed (Part x r.actual from to) (λ env. None) (λ env p. worth-Part env x r.actual from to ∙ part-by (worth env r.actual) (worth env from) (worth env to) x (a.actual env p)) (λ env. refl))
    refl refl refl (λ env. refl)

bind-same : (t : Term) (m : Folded) → ((env : List Datum) → plains env ≡ true → worth env t ≡ m env) → (o : Option (List Datum)) → plains_option o ≡ true → if_some o (λ ds. worth ds t) ≡ if_some o m
unfolding if_some plains_option
bind-same t m h None k = refl
bind-same t m h (Some ds) k = h ds k

plain-bind : (m : Folded) → ((env : List Datum) → plains env ≡ true → plain_option (m env) ≡ true) → (o : Option (List Datum)) → plains_option o ≡ true → plain_option (if_some o m) ≡ true
unfolding if_some plains_option
plain-bind m h None k = plain-none
plain-bind m h (Some ds) k = h ds k

bind-alike : {rs : List Read} {ms : List Folded} (r : Read) (m : Folded) → AllAlike rs ms → Alike r m →
    Alike (valued_only (Bind (terms (map (λ (q : Read). q.value) rs)) r.value)) (λ env. if_some (all_some (worth_of_each env ms)) m)
bind-alike {rs = rs} {ms = ms} r m as' a =
    alike-valued (Bind (terms (map (λ (q : Read). q.value) rs)) r.value) (λ env. if_some (all_some (worth_of_each env ms)) m)
    (λ env p. worth-Bind env (map (λ (q : Read). q.value) rs) r.value
    ∙ ap (λ vs. if_some (all_some vs) (λ ds. worth ds r.value)) (values-alike as' env p)
    ∙ bind-same r.value m a.value (all_some (worth_of_each env ms)) (plain-all (worth_of_each env ms) (plain-each as' env p)))
    (λ env p. plain-bind m a.plain (all_some (worth_of_each env ms)) (plain-all (worth_of_each env ms) (plain-each as' env p)))

constant-alike : (d : Datum) → plain d ≡ true → Alike (valued_only (Val d)) (λ env. Some d)
unfolding plain_option
constant-alike d h = alike-valued (Val d) (λ env. Some d) (λ env p. worth-Val env d) (λ env p. h)

bound-alike : (k : ℕ) → Alike (valued_only (Bound k)) (λ env. given (bound_to env k))
bound-alike k = alike-valued (Bound k) (λ env. given (bound_to env k)) (λ env p. worth-Bound env k) (λ env p. plain-given (bound_to env k) (plain-bound env k p))

-- THE WHOLE EXPRESSION
module _ (names : Bytes → Attribute) (known : KnownNames) (are : (x : Bytes) → IsKnownAs x (names x) known) (plain_values : (x : Bytes) → plain_option (known.value x) ≡ true) where
  mutual
    unfolding fold_expr fold_exprs fold_held layer_read layer_folded plain

    pub tree-alike : (e : Expr) → Alike (fold_expr (layer_read names) e) (fold_expr (layer_folded known) e)
    tree-alike (Int z) = constant-alike (IsInt z) refl
    tree-alike (TruthValue b) = constant-alike (IsLog b) refl
    tree-alike (Text cs) = constant-alike (IsText cs) refl
    tree-alike (Name x) = name-alike x (names x) known (are x) (plain_values x)
    tree-alike (Apply' x s row) = applied-alike x (names x) known (are x) (row-alike row)
    tree-alike (Part' s (more_of-Expr e r) from to) = part-alike (fold_expr (layer_read names) e) (fold_expr (layer_folded known) e) _ _ _ (tree-alike e)
    tree-alike (Minus' s (more_of-Expr e r)) = prefixed-alike Negate (fold_expr (layer_read names) e) (fold_expr (layer_folded known) e) (tree-alike e)
    tree-alike (Plus' s (more_of-Expr e r)) = alike-valued _ _ (tree-alike e).value (tree-alike e).plain
    tree-alike (Not' s (more_of-Expr e r)) = prefixed-alike Complement (fold_expr (layer_read names) e) (fold_expr (layer_folded known) e) (tree-alike e)
    tree-alike (Paren' s (more_of-Expr e r)) = paren-alike (fold_expr (layer_read names) e) (fold_expr (layer_folded known) e) (tree-alike e)
    tree-alike (Binary' o s (more_of-Expr a r) t (more_of-Expr b q)) =
        binary-alike o (fold_expr (layer_read names) a) (fold_expr (layer_read names) b) (fold_expr (layer_folded known) a) (fold_expr (layer_folded known) b) (tree-alike a) (tree-alike b)
    tree-alike (AltReturn l) = constant-alike (IsLabel l) refl
    tree-alike (Bind' s row t (more_of-Expr e q)) = bind-alike (fold_expr (layer_read names) e) (fold_expr (layer_folded known) e) (row-alike row) (tree-alike e)
    tree-alike (BoundValue k) = bound-alike k

    pub row-alike : {n : _} (row : Row_of-Expr n) → AllAlike (fold_exprs (layer_read names) row) (fold_exprs (layer_folded known) row)
    row-alike end_of-Expr = none
    row-alike (more_of-Expr e row) = more (tree-alike e) (row-alike row)

-- What an expression comes to without a store and without arguments is its value by the fold.
pub value-folded : (names : Bytes → Attribute) (known : KnownNames) → ((x : Bytes) → IsKnownAs x (names x) known) → ((x : Bytes) → plain_option (known.value x) ≡ true) →
    (e : Expr) → value_if_valued (reduce no_facts no_frame [] [] (read names e).value) ≡ folded known e []
unfolding read folded plains worth
value-folded names known are plain_values e =
    settled-value (reduce no_facts no_frame [] [] (read names e).value) ∙ (tree-alike names known are plain_values e).value [] refl
