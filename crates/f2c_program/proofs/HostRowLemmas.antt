-- The rows of the units of the host: those of the streams, and of its files, which are offered one by one.
use Rattle.std.proofs.Common.{◌≡◌, ℕ, suc, pos, ◌+◌, ◌<◌, ◌≤◌, List, [], ◌∷◌, ◌++◌, length, get_or, drop, map, ap, sym, ◌∙◌, subst, append_assoc, add-one, drop-cons, false}
use Rattle.std.proofs.lemmas.List.{drop_all, append-nil}
use Rattle.std.specs.Prelude.{Result, Ok, Err, IfOk, OnOk, is_err}
use Rattle.f2c_outside.specs.Device.{DeviceState}
use Rattle.f2c_outside.specs.Table.{Row, Offers}
use Rattle.f2c_outside.specs.Shelf.{ShelfState}
use Rattle.f2c_program.specs.HostRows.{fresh_device, offered, preconnected, rows_over}
use Rattle.f2c_program.specs.Program.{Called}

-- what is so where there was no error
pub without_error : {T E P : Type 0} (r : Result T E) → false ≡ is_err r → OnOk r P → P
without_error (Ok x) is holds = holds
without_error (Err e) is holds = absurd (cc)

-- the rows so far with the files that are to come stay the same where one more is offered
pub one_more :
    (before after all : List Row) (device : DeviceState) (names : List (List ℕ)) (i : ℕ) (own name : List ℕ)
    → before ++ map offered (drop i names) ≡ all
    → i < length names
    → name ≡ get_or names i name
    → after ≡ before ++ Offers own device ∷ []
    → own ≡ name
    → device ≡ fresh_device
    → after ++ map offered (drop (i + 1) names) ≡ all
one_more before after all device names i own name so_far within item now same fresh =
    let rest : drop i names ≡ name ∷ drop (i + 1) names =
    rw (add-one, drop-cons names i name) (ap (λ (n : List ℕ). n ∷ drop (suc i) names) (sym item))
    in ap (λ (r : List Row). r ++ map offered (drop (i + 1) names)) now
    ∙ append_assoc before (Offers own device ∷ []) (map offered (drop (i + 1) names))
    ∙ ap (λ (n : List ℕ). before ++ Offers n device ∷ map offered (drop (i + 1) names)) same
    ∙ ap (λ (d : DeviceState). before ++ Offers name d ∷ map offered (drop (i + 1) names)) fresh
    ∙ ap (λ (n : List (List ℕ)). before ++ map offered n) (sym rest)
    ∙ so_far

-- where all are offered behind the streams, these are all rows
pub all_offered :
    (rows none first both : List Row) (input output own_input own_output : DeviceState) (names named : List (List ℕ)) (i : ℕ)
    → rows ++ map offered (drop i names) ≡ both ++ map offered names
    → length names ≤ i
    → none ≡ []
    → first ≡ none ++ preconnected (pos 5) own_input ∷ []
    → both ≡ first ++ preconnected (pos 6) own_output ∷ []
    → own_input ≡ input
    → own_output ≡ output
    → names ≡ named
    → rows ≡ rows_over input output named
all_offered rows none first both input output own_input own_output names named i all done empty one two input_is output_is same =
    let over : rows ≡ both ++ map offered names =
    sym (append-nil rows) ∙ ap (λ (n : List (List ℕ)). rows ++ map offered n) (sym (drop_all i names done)) ∙ all
    in over
    ∙ ap (λ (r : List Row). r ++ map offered names) (two ∙ ap (λ (r : List Row). r ++ preconnected (pos 6) own_output ∷ [])
    (one ∙ ap (λ (r : List Row). r ++ preconnected (pos 5) own_input ∷ []) empty))
    ∙ ap (λ (d : DeviceState). preconnected (pos 5) d ∷ preconnected (pos 6) own_output ∷ map offered names) input_is
    ∙ ap (λ (d : DeviceState). preconnected (pos 5) input ∷ preconnected (pos 6) d ∷ map offered names) output_is
    ∙ ap (λ (n : List (List ℕ)). rows_over input output n) same

-- a call is one on what its shelf and its streams are equal to
pub called_on : (words : List (List ℕ)) (rows : List Row) (b b' : ShelfState) (status : ℕ) → b ≡ b' → Called words rows b status → Called words rows b' status
called_on words rows b b' status same = subst (λ (s : ShelfState). Called words rows s status) same

pub called_over :
    {E : Type 0} (r : Result ℕ E) (words names : List (List ℕ)) (b : ShelfState) (input output input' output' : DeviceState)
    → input ≡ input'
    → output ≡ output'
    → IfOk r (Called words (rows_over input output names) b)
    → IfOk r (Called words (rows_over input' output' names) b)
called_over r words names b input output input' output' same_input same_output called =
    subst (λ (o : DeviceState). IfOk r (Called words (rows_over input' o names) b)) same_output
    (subst (λ (i : DeviceState). IfOk r (Called words (rows_over i output names) b)) same_input called)
