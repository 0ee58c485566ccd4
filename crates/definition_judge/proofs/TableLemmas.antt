-- Names are put into a table, one after the other.
use Rattle.std.specs.Prelude.{◌≡◌, ℕ, suc, Bool, true, false, ◌||◌, List, [], ◌∷◌, bytes_eq, Option, Some, None, if◌then◌else◌}
use Rattle.std.specs.Borrow.{Bor}
use Rattle.std.specs.Map.{lookup}
use Rattle.std.proofs.Common.{◌+◌, ◌<◌, ◌≤◌, drop, drop-cons, get_or, length, refl, sym, ap, ◌∙◌, arith}
use Rattle.std.proofs.lemmas.List.{drop_all}
use Rattle.std.proofs.lemmas.Slice.Eq.{bytes_eq-Decides}
use Rattle.f_tree.specs.Values.{Bytes}
use Rattle.f_tree.specs.Uses.{is_among}
use Rattle.name_table.specs.Named.{texts}
use Rattle.name_table.proofs.Texts.{bytes_eq_flip}

abbrev pub no_name : Bor (List ℕ)
no_name = record { ref_ptr = (0, 0); now = [] }

pub among_step : (q x : Bytes) (xs : List Bytes) → is_among q (x ∷ xs) ≡ (bytes_eq q x || is_among q xs)
unfolding is_among
among_step q x xs = refl

pub among_none : (q : Bytes) → is_among q [] ≡ false
unfolding is_among
among_none q = refl

chosen_by : {A : Type 0} (b r : Bool) (s t old : A) → (b ≡ true → t ≡ s) → (if b || r then s else old) ≡ (if r then s else (if b then t else old))
chosen_by true true s t old is = refl
chosen_by true false s t old is = sym (is refl)
chosen_by false r s t old is = refl

pub rest_is : {X : Type 0} (xs : List X) (i : ℕ) (x d : X) → i < length xs → x ≡ get_or xs i d → drop i xs ≡ x ∷ drop (i + 1) xs
rest_is xs i x d h is = drop-cons xs i d h ∙ ap (λ y. y ∷ drop (suc i) xs) (sym is) ∙ ap (λ n. x ∷ drop n xs) (let e : suc i ≡ i + 1 = omega arith in e)

-- what a table has at a name, a name more being put into it with its value
pub put_more : {A : Type 0} (value : Bytes → A) (ds : List (Bor (List ℕ))) (i : ℕ) (d : Bor (List ℕ)) (x : Bytes) (whole old new : Option A) → i < length ds → d ≡ get_or ds i no_name
    → whole ≡ (if is_among x (texts (drop i ds)) then Some (value x) else old) → new ≡ (if bytes_eq d.now x then Some (value d.now) else old)
    → whole ≡ (if is_among x (texts (drop (i + 1) ds)) then Some (value x) else new)
put_more value ds i d x whole old new h is so_far put =
    so_far ∙ ap (λ (rs : List (Bor (List ℕ))). if is_among x (texts rs) then Some (value x) else old) (rest_is ds i d no_name h is)
    ∙ ap (λ b. if b then Some (value x) else old) (among_step x d.now (texts (drop (i + 1) ds)))
    ∙ chosen_by (bytes_eq x d.now) (is_among x (texts (drop (i + 1) ds))) (Some (value x)) (Some (value d.now)) old
    (λ same. ap (λ y. Some (value y)) (sym ((bytes_eq-Decides x d.now).0 same)))
    ∙ ap (λ o. if is_among x (texts (drop (i + 1) ds)) then Some (value x) else o) (ap (λ b. if b then Some (value d.now) else old) (bytes_eq_flip x d.now) ∙ sym put)

pub put_end : {A : Type 0} (value : Bytes → A) (ds : List (Bor (List ℕ))) (i : ℕ) (x : Bytes) (whole old : Option A) → length ds ≤ i
    → whole ≡ (if is_among x (texts (drop i ds)) then Some (value x) else old) → old ≡ whole
put_end value ds i x whole old h so_far =
    sym (so_far ∙ ap (λ (rs : List (Bor (List ℕ))). if is_among x (texts rs) then Some (value x) else old) (drop_all i ds h) ∙ ap (λ b. if b then Some (value x) else old) (among_none x))

-- a table without entries
pub none_in : {K V : Type 0} (test : K → Bool) (es : List (K × V)) → es ≡ [] → lookup test es ≡ None
none_in test es none = ap (lookup test) none
