-- Names are put into a table, one after the other.
use Rattle.std.specs.Borrow.{Bor}
use Rattle.std.specs.List.{list_any}
use Rattle.std.specs.Map.{keys_of, lookup}
use Rattle.std.proofs.lemmas.Map.Made.{is_some-lookup}
use Rattle.item_emitter.specs.declared.known.Routine.{Routine}
use Rattle.std.proofs.Common.{◌≡◌, ℕ, Bool, true, false, true≢false, ◌||◌, ◌+◌, ◌<◌, ◌≤◌, List, [], ◌∷◌, is_some, map, drop, get_or, length, bytes_eq, Option, Some, None, option_map, refl, sym, ap, ◌∙◌, if◌then◌else◌}
use Rattle.std.proofs.lemmas.List.{drop_all}
use Rattle.std.proofs.lemmas.Slice.Eq.{bytes_eq-Decides}
use Rattle.f_tree.specs.Values.{Bytes}
use Rattle.name_facts.specs.declared.table.NameFacts.{NameFacts}
use Rattle.name_facts.specs.GivenFacts.{fact_in}
use Rattle.unit_writer.specs.declared.heading.KeptBound.{KeptBound}
use Rattle.unit_writer.specs.Told.{Seen, put_over, seen_among, seen_by}
use Rattle.unit_writer.proofs.Walks.{rest_is}

abbrev pub no_name : Bor (List ℕ)
no_name = record { ref_ptr = (0, 0); now = [] }

abbrev pub texts : List (Bor (List ℕ)) → List Bytes
texts names = map (λ (name : Bor (List ℕ)). name.now) names

same_tests : (a b : Bool) → (a ≡ true → b ≡ true) → (b ≡ true → a ≡ true) → a ≡ b
same_tests true b one other = sym (one refl)
same_tests false true one other = absurd (true≢false (sym (other refl)))
same_tests false false one other = refl

flipped : (xs ys : List ℕ) → bytes_eq xs ys ≡ true → bytes_eq ys xs ≡ true
flipped xs ys h = (bytes_eq-Decides ys xs).1 (sym ((bytes_eq-Decides xs ys).0 h))

bytes_eq_flip : (xs ys : List ℕ) → bytes_eq xs ys ≡ bytes_eq ys xs
bytes_eq_flip xs ys = same_tests (bytes_eq xs ys) (bytes_eq ys xs) (flipped xs ys) (flipped ys xs)

chosen_by : {A : Type 0} (b r : Bool) (s t old : A) → (b ≡ true → t ≡ s) → (if b || r then s else old) ≡ (if r then s else (if b then t else old))
chosen_by true true s t old is = refl
chosen_by true false s t old is = sym (is refl)
chosen_by false r s t old is = refl

-- what is seen at a name, where a table has a name more
pub seen_if : {V S : Type 0} (see : V → S) (b : Bool) (v : V) (old : Option V) → option_map see (if b then Some v else old) ≡ (if b then Some (see v) else option_map see old)
seen_if see true v old = refl
seen_if see false v old = refl

-- what a table has at a name, a name more being put into it with its value
pub put_more : {A : Type 0} (value : Bytes → A) (ds : List (Bor (List ℕ))) (i : ℕ) (d : Bor (List ℕ)) (x : Bytes) (whole old new : Option A) → i < length ds → d ≡ get_or ds i no_name
    → whole ≡ (if list_any (bytes_eq x) (texts (drop i ds)) then Some (value x) else old) → new ≡ (if bytes_eq d.now x then Some (value d.now) else old)
    → whole ≡ (if list_any (bytes_eq x) (texts (drop (i + 1) ds)) then Some (value x) else new)
put_more value ds i d x whole old new h is so_far put =
    so_far ∙ ap (λ (rs : List (Bor (List ℕ))). if list_any (bytes_eq x) (texts rs) then Some (value x) else old) (rest_is ds i d no_name h is)
    ∙ chosen_by (bytes_eq x d.now) (list_any (bytes_eq x) (texts (drop (i + 1) ds))) (Some (value x)) (Some (value d.now)) old
    (λ same. ap (λ y. Some (value y)) (sym ((bytes_eq-Decides x d.now).0 same)))
    ∙ ap (λ o. if list_any (bytes_eq x) (texts (drop (i + 1) ds)) then Some (value x) else o) (ap (λ b. if b then Some (value d.now) else old) (bytes_eq_flip x d.now) ∙ sym put)

pub put_end : {A : Type 0} (value : Bytes → A) (ds : List (Bor (List ℕ))) (i : ℕ) (x : Bytes) (whole old : Option A) → length ds ≤ i
    → whole ≡ (if list_any (bytes_eq x) (texts (drop i ds)) then Some (value x) else old) → old ≡ whole
put_end value ds i x whole old h so_far =
    sym (so_far ∙ ap (λ (rs : List (Bor (List ℕ))). if list_any (bytes_eq x) (texts rs) then Some (value x) else old) (drop_all i ds h))

-- a table without entries
pub none_in : {K V : Type 0} (test : K → Bool) (es : List (K × V)) → es ≡ [] → lookup test es ≡ None
none_in test es none = ap (lookup test) none

-- before the first name is put
pub seen_start : (table : NameFacts) (kept : List KeptBound) (names : List Bytes) (x : Bytes) (old : Option Seen) → old ≡ None
    → seen_among table kept names x ≡ (if list_any (bytes_eq x) names then Some (seen_by kept x (fact_in table x)) else old)
unfolding seen_among
seen_start table kept names x old none = ap (λ o. if list_any (bytes_eq x) names then Some (seen_by kept x (fact_in table x)) else o) (sym none)

-- ## What is put over what was there

over_by : (b r : Bool) (f g old : Option Routine) → (b ≡ true → g ≡ f) → put_over (b || r) f old ≡ put_over r f (put_over b g old)
unfolding put_over
over_by true true (Some f) g old is = refl
over_by true true None g old is = sym (ap (λ o. put_over true o old) (is refl))
over_by true false f g old is = ap (λ o. put_over true o old) (sym (is refl))
over_by false true f g old is = refl
over_by false false f g old is = refl

pub over_more : (value : Bytes → Option Routine) (ds : List (Bor (List ℕ))) (i : ℕ) (d : Bor (List ℕ)) (x : Bytes) (whole old new : Option Routine) → i < length ds → d ≡ get_or ds i no_name
    → whole ≡ put_over (list_any (bytes_eq x) (texts (drop i ds))) (value x) old → new ≡ put_over (bytes_eq d.now x) (value d.now) old
    → whole ≡ put_over (list_any (bytes_eq x) (texts (drop (i + 1) ds))) (value x) new
over_more value ds i d x whole old new h is so_far put =
    so_far ∙ ap (λ (rs : List (Bor (List ℕ))). put_over (list_any (bytes_eq x) (texts rs)) (value x) old) (rest_is ds i d no_name h is)
    ∙ over_by (bytes_eq x d.now) (list_any (bytes_eq x) (texts (drop (i + 1) ds))) (value x) (value d.now) old (λ same. ap value (sym ((bytes_eq-Decides x d.now).0 same)))
    ∙ ap (λ o. put_over (list_any (bytes_eq x) (texts (drop (i + 1) ds))) (value x) o) (ap (λ b. put_over b (value d.now) old) (bytes_eq_flip x d.now) ∙ sym put)

over_none : (f old : Option Routine) → put_over false f old ≡ old
unfolding put_over
over_none f old = refl

pub over_end : (value : Bytes → Option Routine) (ds : List (Bor (List ℕ))) (i : ℕ) (x : Bytes) (whole old : Option Routine) → length ds ≤ i
    → whole ≡ put_over (list_any (bytes_eq x) (texts (drop i ds))) (value x) old → old ≡ whole
over_end value ds i x whole old h so_far =
    sym (so_far ∙ ap (λ (rs : List (Bor (List ℕ))). put_over (list_any (bytes_eq x) (texts rs)) (value x) old) (drop_all i ds h) ∙ over_none (value x) old)

-- a name is put where there is anything to put
pub over_if : (b : Bool) (r : Routine) (old : Option Routine) → (if b then Some r else old) ≡ put_over b (Some r) old
unfolding put_over
over_if true r old = refl
over_if false r old = refl

pub over_nothing : (b : Bool) (old : Option Routine) → old ≡ put_over b None old
unfolding put_over
over_nothing true old = refl
over_nothing false old = refl

-- a name is a key where a table has something at it
any_text : (x : Bytes) (ds : List (Bor (List ℕ))) → list_any (bytes_eq x) (texts ds) ≡ list_any (λ (k : Bor (List ℕ)). bytes_eq x k.now) ds
any_text x [] = refl
any_text x (d ∷ ds) = ap (λ b. bytes_eq x d.now || b) (any_text x ds)

pub any_key : {V : Type 0} (x : Bytes) (es : List (Bor (List ℕ) × V)) → list_any (bytes_eq x) (texts (keys_of es)) ≡ is_some (lookup (λ (k : Bor (List ℕ)). bytes_eq x k.now) es)
any_key x es = any_text x (keys_of es) ∙ sym (is_some-lookup (λ (k : Bor (List ℕ)). bytes_eq x k.now) es)
