-- A text that is stored in two parts, one behind the other.
use Rattle.std.proofs.Common.{◌≡◌, ℕ, zero, suc, ◌+◌, ◌≤◌, Bool, true, false, if◌then◌else◌, List, [], ◌∷◌, ◌++◌, length, map, take, drop, Option, Some, None, refl, ap, sym, ◌∙◌, arith, append_assoc, append-nil, length-append}
use Rattle.std.specs.Prelude.{nat_le, slice_set, slice_get, Ok, Err}
use Rattle.std.proofs.lemmas.Bool.Decides.{nat_tests}
use Rattle.std.proofs.Math.Seq.{take-append_seam, drop-append-add}
use Rattle.std.proofs.lemmas.List.{length-take-le, length-map, length-drop, map-append, drop-drop}
use Rattle.c_tree.specs.declared.outcome.CValue.TheVariants.{Pointer}
use Rattle.c_tree.specs.declared.outcome.CFault.TheVariants.{Outside}
use Rattle.c_tree.specs.Faults.{Or, after, failing}
use Rattle.c_tree.specs.Objects.{Object, Bytes, Values, overlaid, with_bytes}
use Rattle.c_tree.specs.LibraryArguments.{with_text, text_stored}

pub length-overlaid : (offset : ℕ) (new : List ℕ) (bytes : List (Option ℕ)) → offset + length new ≤ length bytes → length (overlaid offset new bytes) ≡ length bytes
length-overlaid offset new bytes within =
    omega (
      arith,
      length-append (take offset bytes ++ map Some new) (drop (offset + length new) bytes),
      length-append (take offset bytes) (map Some new),
      length-take-le offset bytes (omega arith),
      length-map new Some,
      length-drop (offset + length new) bytes,
    )

front-length : (offset : ℕ) (a : List ℕ) (bytes : List (Option ℕ)) → offset + length a ≤ length bytes → length (take offset bytes ++ map Some a) ≡ offset + length a
front-length offset a bytes within =
    omega (arith, length-append (take offset bytes) (map Some a), length-take-le offset bytes (omega arith), length-map a Some)

-- a front and a rest, by the length of the front
front-of : (front rest : List (Option ℕ)) (n : ℕ) → length front ≡ n → take n (front ++ rest) ≡ front
front-of front rest n is = ap (λ (m : ℕ). take m (front ++ rest)) (sym is) ∙ take-append_seam front rest

rest-of : (front rest : List (Option ℕ)) (n more : ℕ) → length front ≡ n → drop (n + more) (front ++ rest) ≡ drop more rest
rest-of front rest n more is = ap (λ (m : ℕ). drop (m + more) (front ++ rest)) (sym is) ∙ drop-append-add front rest more

overlaid-both : (offset : ℕ) (a b : List ℕ) (bytes : List (Option ℕ)) → offset + length a ≤ length bytes →
    overlaid offset (a ++ b) bytes ≡ overlaid (offset + length a) b (overlaid offset a bytes)
overlaid-both offset a b bytes within =
    let front : List (Option ℕ) = take offset bytes ++ map Some a in
    let rest : List (Option ℕ) = drop (offset + length a) bytes in
    let size : length front ≡ offset + length a = front-length offset a bytes within in
    let ends : offset + length (a ++ b) ≡ (offset + length a) + length b = omega (arith, length-append a b) in
    ap (λ (n : ℕ). take offset bytes ++ map Some (a ++ b) ++ drop n bytes) ends
    ∙ ap (λ (cells : List (Option ℕ)). take offset bytes ++ cells ++ drop ((offset + length a) + length b) bytes) (map-append Some a b)
    ∙ ap (λ (cells : List (Option ℕ)). cells ++ drop ((offset + length a) + length b) bytes) (sym (append_assoc (take offset bytes) (map Some a) (map Some b)))
    ∙ ap (λ (cells : List (Option ℕ)). front ++ map Some b ++ cells) (sym (drop-drop (length b) (offset + length a) bytes))
    ∙ ap (λ (cells : List (Option ℕ)). front ++ map Some b ++ cells) (sym (rest-of front rest (offset + length a) (length b) size))
    ∙ ap (λ (cells : List (Option ℕ)). cells ++ map Some b ++ drop ((offset + length a) + length b) (front ++ rest)) (sym (front-of front rest (offset + length a) size))

first-outside : (offset : ℕ) (a b : List ℕ) (bytes : List (Option ℕ)) (test : Bool) → nat_le (offset + length a) (length bytes) ≡ false →
    nat_le (offset + length (a ++ b)) (length bytes) ≡ test → (if test then Ok (Bytes (overlaid offset (a ++ b) bytes)) else failing Outside) ≡ failing Outside
first-outside offset a b bytes true small big =
    let within : offset + length (a ++ b) ≤ length bytes = grind (arith, nat_tests) in
    let clash : nat_le (offset + length a) (length bytes) ≡ true =
    (let fits : offset + length a ≤ length bytes = omega (arith, length-append a b) in grind (arith, nat_tests)) in absurd (cc)
first-outside offset a b bytes false small big = refl

within-both : (offset : ℕ) (a b : List ℕ) (bytes : List (Option ℕ)) (test : Bool) → nat_le (offset + length a) (length bytes) ≡ test →
    with_bytes offset (a ++ b) bytes ≡ after (if test then Ok (Bytes (overlaid offset a bytes)) else failing Outside) (λ one. with_text (offset + length a) b (Some one))
within-both offset a b bytes true fits =
    let within : offset + length a ≤ length bytes = grind (arith, nat_tests) in
    let ends : offset + length (a ++ b) ≡ (offset + length a) + length b = omega (arith, length-append a b) in
    ap (λ (n : ℕ). if nat_le n (length bytes) then Ok (Bytes (overlaid offset (a ++ b) bytes)) else failing Outside) ends
    ∙ ap (λ (n : ℕ). if nat_le ((offset + length a) + length b) n then Ok (Bytes (overlaid offset (a ++ b) bytes)) else failing Outside) (sym (length-overlaid offset a bytes within))
    ∙ ap (λ (cells : List (Option ℕ)). if nat_le ((offset + length a) + length b) (length (overlaid offset a bytes)) then Ok (Bytes cells) else failing Outside) (overlaid-both offset a b bytes within)
within-both offset a b bytes false small = first-outside offset a b bytes (nat_le (offset + length (a ++ b)) (length bytes)) small refl

with-both : (offset : ℕ) (a b : List ℕ) (known : Option Object) → with_text offset (a ++ b) known ≡ after (with_text offset a known) (λ one. with_text (offset + length a) b (Some one))
with-both offset a b None = refl
with-both offset a b (Some (Bytes bytes)) = within-both offset a b bytes (nat_le (offset + length a) (length bytes)) refl
with-both offset a b (Some (Values held)) = refl

-- an object that is changed twice
get-set : (objects : List Object) (i : ℕ) (new old : Object) → slice_get objects i ≡ Some old → slice_get (slice_set objects i new) i ≡ Some new
get-set [] i new old is = absurd (cc)
get-set (first ∷ later) zero new old is = refl
get-set (first ∷ later) (suc i) new old is = get-set later i new old is

set-set : (objects : List Object) (i : ℕ) (one two : Object) → slice_set (slice_set objects i one) i two ≡ slice_set objects i two
set-set [] i one two = refl
set-set (first ∷ later) zero one two = refl
set-set (first ∷ later) (suc i) one two = ap (λ (rest : List Object). first ∷ rest) (set-set later i one two)

abbrev store_in : List Object → ℕ → Or Object → Or (List Object)
store_in objects i made = after made λ changed. Ok (slice_set objects i changed)

twice : (objects : List Object) (i further : ℕ) (b : List ℕ) (known : Option Object) (made : Or Object) → slice_get objects i ≡ known → (known ≡ None → (let one : Or Object = made in one) ≡ failing Outside) →
    store_in objects i (after made (λ one. with_text further b (Some one)))
    ≡ after (store_in objects i made) (λ changed. store_in changed i (with_text further b (slice_get changed i)))
twice objects i further b known (Err reason) is none = refl
twice objects i further b None (Ok one) is none = let wrong : (let r : Or Object = Ok one in r) ≡ failing Outside = none refl in absurd (cc)
twice objects i further b (Some old) (Ok one) is none =
    by (with_text further b (Some one))
    ∙ ap (λ (found : Option Object). store_in (slice_set objects i one) i (with_text further b found)) (sym (get-set objects i one old is))
  where
    by : (made : Or Object) → store_in objects i made ≡ store_in (slice_set objects i one) i made
    by (Ok two) = ap Ok (sym (set-set objects i one two))
    by (Err reason) = refl

nothing-more : (found : Or (List Object)) → found ≡ after found (λ changed. Ok changed)
nothing-more (Ok objects) = refl
nothing-more (Err reason) = refl

-- a text behind another, each stored where it stands
pub store-both : (objects : List Object) (object offset : ℕ) (a b : List ℕ) →
    text_stored objects (Pointer object offset) (a ++ b)
    ≡ after (text_stored objects (Pointer object offset) a) (λ changed. text_stored changed (Pointer object (offset + length a)) b)
store-both objects object offset [] b =
    let same : offset ≡ offset + length (let none : List ℕ = [] in none) = omega arith in ap (λ (n : ℕ). text_stored objects (Pointer object n) b) same
store-both objects object offset (x ∷ a) [] =
    ap (text_stored objects (Pointer object offset)) (append-nil (x ∷ a)) ∙ nothing-more (text_stored objects (Pointer object offset) (x ∷ a))
store-both objects object offset (x ∷ a) (y ∷ b) =
    ap (store_in objects object) (with-both offset (x ∷ a) (y ∷ b) (slice_get objects object))
    ∙ twice objects object (offset + length (x ∷ a)) (y ∷ b) (slice_get objects object) (with_text offset (x ∷ a) (slice_get objects object)) refl
    (λ none. ap (with_text offset (x ∷ a)) none)
