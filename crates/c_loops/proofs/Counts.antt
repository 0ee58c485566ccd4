-- How many loops begin at positions, and what is known of items before a position and from one on.
use Rattle.std.specs.Prelude.{◌≡◌, ℕ, zero, suc, ◌+◌, ◌≤◌, Bool, true, false, ◌&&◌, List, [], ◌∷◌, ◌++◌, length, take, drop, Option, Some, None, slice_get}
use Rattle.std.proofs.Common.{refl, sym, ap, ◌∙◌, arith}
use Rattle.std.proofs.lemmas.Bool.{and_from, and_parts}
use Rattle.named_items.specs.declared.item.Item.{Item}
use Rattle.named_items.specs.Layouts.{Layout}
use Rattle.c_loops.specs.Loops.{no_loops, both_loops, within_for, within_do, loops_by}
use Rattle.c_loops.specs.KeptLayouts.{is_set, tests_first, ends_turn, begins_well, begin_well, one_if, loops_from, AreLabels, no_name, one_name}

-- ## Loops

pub loops_split : (loop : ℕ → Option ℕ) (n m a b c : ℕ) → m ≡ n + a → c ≡ a + b → loops_from loop n c ≡ loops_from loop n a + loops_from loop m b
unfolding loops_from
loops_split loop n m zero b c from sum =
    let at : n ≡ m = omega arith in
    let size : c ≡ b = omega arith in
    let same : loops_from loop n c ≡ loops_from loop m b = (λ i. loops_from loop (at i) (size i)) in
    omega (arith, same)
loops_split loop n m (suc a) b zero from sum = absurd (omega arith)
loops_split loop n m (suc a) b (suc c) from sum =
    let more = loops_split loop (suc n) m a b c (omega arith) (omega arith) in
    omega (arith, more)

pub loops_one : (loop : ℕ → Option ℕ) (n : ℕ) (x : Option ℕ) → loop n ≡ x → loops_from loop n 1 ≡ one_if x
unfolding loops_from
loops_one loop n x is = let e : one_if (loop n) + 0 ≡ one_if x = (let same : one_if (loop n) ≡ one_if x = ap one_if is in omega (arith, same)) in e

-- loops of one kind
pub none_by : (once : Bool) → no_loops ≡ loops_by once 0
none_by true = refl
none_by false = refl

pub by_both : (once : Bool) (m n : ℕ) → both_loops (loops_by once m) (loops_by once n) ≡ loops_by once (m + n)
by_both true m n = refl
by_both false m n = refl

pub by_for : (once : Bool) (n : ℕ) → once ≡ false → within_for (loops_by once n) ≡ loops_by once (suc n)
by_for true n is = absurd (cc)
by_for false n is = refl

pub by_do : (once : Bool) (n : ℕ) → once ≡ true → within_do (loops_by once n) ≡ loops_by once (suc n)
by_do true n is = refl
by_do false n is = absurd (cc)

-- ## Where they begin

ends_take : (l : Layout) (n size m k : ℕ) (later : List Item) → ends_turn l n size (slice_get later k) ≡ true → ends_turn l n size (slice_get (take m later) k) ≡ true
unfolding ends_turn
ends_take l n size zero k later h = refl
ends_take l n size (suc m) k [] h = h
ends_take l n size (suc m) zero (item ∷ later) h = h
ends_take l n size (suc m) (suc k) (item ∷ later) h = ends_take l n size m k later h

first_take : (n size m : ℕ) (later : List Item) → tests_first n size later ≡ true → tests_first n size (take m later) ≡ true
unfolding tests_first
first_take n size zero later h = refl
first_take n size (suc m) [] h = h
first_take n size (suc m) (item ∷ later) h = h

take_by : (l : Layout) (once : Bool) (n : ℕ) (x : Option ℕ) (item : Item) (m : ℕ) (later : List Item) → begins_well l once n x item later ≡ true → begins_well l once n x item (take m later) ≡ true
unfolding begins_well
take_by l once n None item m later h = refl
take_by l true n (Some size) item m later h =
    let parts = and_parts (is_set item) (ends_turn l n size (slice_get later size)) h in
    and_from (is_set item) (ends_turn l n size (slice_get (take m later) size)) parts.0 (ends_take l n size m size later parts.1)
take_by l false n (Some size) item m later h =
    let parts = and_parts (is_set item) (tests_first (suc n) size later) h in
    and_from (is_set item) (tests_first (suc n) size (take m later)) parts.0 (first_take (suc n) size m later parts.1)

pub well_take : (l : Layout) (once : Bool) (m n : ℕ) (items : List Item) → begin_well l once n items ≡ true → begin_well l once n (take m items) ≡ true
unfolding begin_well
well_take l once zero n items h = refl
well_take l once (suc m) n [] h = refl
well_take l once (suc m) n (item ∷ later) h =
    let parts = and_parts (begins_well l once n (l.loop n) item later) (begin_well l once (suc n) later) h in
    and_from (begins_well l once n (l.loop n) item (take m later)) (begin_well l once (suc n) (take m later)) (take_by l once n (l.loop n) item m later parts.0) (well_take l once m (suc n) later parts.1)

pub well_drop : (l : Layout) (once : Bool) (m n at : ℕ) (items : List Item) → at ≡ n + m → begin_well l once n items ≡ true → begin_well l once at (drop m items) ≡ true
unfolding begin_well
well_drop l once zero n at items from h = let same : n ≡ at = omega arith in ap (λ k. begin_well l once k items) (sym same) ∙ h
well_drop l once (suc m) n at [] from h = refl
well_drop l once (suc m) n at (item ∷ later) from h =
    let parts = and_parts (begins_well l once n (l.loop n) item later) (begin_well l once (suc n) later) h in
    well_drop l once m (suc n) at later (omega arith) parts.1

-- what is known where a loop begins
pub begins_first : (l : Layout) (once : Bool) (n : ℕ) (found : Option ℕ) (item : Item) (later : List Item) → l.loop n ≡ found → begin_well l once n (item ∷ later) ≡ true → begins_well l once n found item later ≡ true
unfolding begin_well
begins_first l once n found item later is h =
    ap (λ x. begins_well l once n x item later) (sym is) ∙ (and_parts (begins_well l once n (l.loop n) item later) (begin_well l once (suc n) later) h).0

pub begin_later : (l : Layout) (once : Bool) (n : ℕ) (item : Item) (later : List Item) → begin_well l once n (item ∷ later) ≡ true → begin_well l once (suc n) later ≡ true
unfolding begin_well
begin_later l once n item later h = (and_parts (begins_well l once n (l.loop n) item later) (begin_well l once (suc n) later) h).1

-- where a loop is tested behind its turn, no test is missing but where the items end
pub ends_well : (l : Layout) (once : Bool) (n size : ℕ) (item : Item) (later : List Item) → once ≡ true → begins_well l once n (Some size) item later ≡ true → ends_turn l n size (slice_get later size) ≡ true
unfolding begins_well
ends_well l true n size item later is h = (and_parts (is_set item) (ends_turn l n size (slice_get later size)) h).1
ends_well l false n size item later is h = absurd (cc)

-- nor where it is tested before each
pub goes_well : (l : Layout) (once : Bool) (n size : ℕ) (item : Item) (later : List Item) → once ≡ false → begins_well l once n (Some size) item later ≡ true → tests_first (suc n) size later ≡ true
unfolding begins_well
goes_well l true n size item later is h = absurd (cc)
goes_well l false n size item later is h = (and_parts (is_set item) (tests_first (suc n) size later) h).1

set_by : (l : Layout) (once : Bool) (n : ℕ) (x : Option ℕ) (item : Item) (later : List Item) → begins_well l once n x item later ≡ true → is_set item ≡ false → x ≡ None
unfolding begins_well
set_by l once n None item later h other = refl
set_by l true n (Some size) item later h other = absurd (let clash : true ≡ false = sym (and_parts (is_set item) (ends_turn l n size (slice_get later size)) h).0 ∙ other in cc)
set_by l false n (Some size) item later h other = absurd (let clash : true ≡ false = sym (and_parts (is_set item) (tests_first (suc n) size later) h).0 ∙ other in cc)

-- no loop begins at an item that sets no place
pub no_loop_first : (l : Layout) (once : Bool) (n : ℕ) (item : Item) (later : List Item) → begin_well l once n (item ∷ later) ≡ true → is_set item ≡ false → l.loop n ≡ None
no_loop_first l once n item later h other = set_by l once n (l.loop n) item later (begins_first l once n (l.loop n) item later refl h) other

pub no_loop_at : (l : Layout) (once : Bool) (m n at : ℕ) (items : List Item) (item : Item) (later : List Item) → begin_well l once n items ≡ true → at ≡ n + m → drop m items ≡ item ∷ later → is_set item ≡ false → l.loop at ≡ None
no_loop_at l once m n at items item later h from is other = no_loop_first l once at item later (ap (begin_well l once at) (sym is) ∙ well_drop l once m n at items from h) other

-- nor with another item than a test behind it, where loops are tested before each turn
test_by : (l : Layout) (once : Bool) (n : ℕ) (x : Option ℕ) (item : Item) (later : List Item) → once ≡ false → begins_well l once n x item later ≡ true → ((size : ℕ) → tests_first (suc n) size later ≡ false) → x ≡ None
test_by l once n None item later is h other = refl
test_by l once n (Some size) item later is h other = absurd (let clash : true ≡ false = sym (goes_well l once n size item later is h) ∙ other size in cc)

pub no_loop_alone : (l : Layout) (once : Bool) (m n at : ℕ) (items : List Item) (item : Item) (later : List Item) → once ≡ false → begin_well l once n items ≡ true → at ≡ n + m → drop m items ≡ item ∷ later
    → ((size : ℕ) → tests_first (suc at) size later ≡ false) → l.loop at ≡ None
no_loop_alone l once m n at items item later before h from is other =
    test_by l once at (l.loop at) item later before (begins_first l once at (l.loop at) item later refl (ap (begin_well l once at) (sym is) ∙ well_drop l once m n at items from h)) other

-- ## Items

pub dropped_at : {A : Type 0} → (k : ℕ) (xs : List A) (x : A) → slice_get xs k ≡ Some x → drop k xs ≡ x ∷ drop (suc k) xs
dropped_at k [] x h = absurd (cc)
dropped_at zero (y ∷ ys) x h = let same : y ≡ x = cc in ap (λ z. z ∷ ys) same
dropped_at (suc k) (y ∷ ys) x h = dropped_at k ys x h

pub get_inside : {A : Type 0} → (k : ℕ) (xs : List A) (x : A) → slice_get xs k ≡ Some x → suc k ≤ length xs
get_inside k [] x h = absurd (cc)
get_inside zero (y ∷ ys) x h = omega arith
get_inside (suc k) (y ∷ ys) x h = let more = get_inside k ys x h in omega (arith, more)

-- ## Labels

pub names_both : (l : Layout) (xs ys : List (List ℕ)) → AreLabels l xs → AreLabels l ys → AreLabels l (xs ++ ys)
names_both l _ ys no_name other = other
names_both l _ ys (one_name position name names is later) other = one_name position name (names ++ ys) is (names_both l names ys later other)
