-- What the stores at the start of a run make of objects (C89, 3.1.2.4 and 3.5.7).
use Rattle.std.proofs.Common.{◌≡◌, ℕ, zero, suc, ◌+◌, ◌-◌, ◌≤◌, max, true, List, [], ◌∷◌, ◌++◌, map, length, drop, replicate, Option, Some, ap, sym, ◌∙◌, if◌then◌else◌, arith}
use Rattle.std.specs.Prelude.{slice_get, slice_set, nat_le, Ok}
use Rattle.std.proofs.lemmas.Bool.Decides.{nat_tests}
use Rattle.std.proofs.lemmas.List.{length-map, length-replicate, map-append}
use Rattle.c_tree.specs.declared.outcome.CValue.TheVariants.{Pointer}
use Rattle.c_tree.specs.declared.outcome.CFault.TheVariants.{Outside}
use Rattle.c_tree.specs.Faults.{after, failing}
use Rattle.c_tree.specs.Objects.{Object, Bytes, overlaid, with_bytes}
use Rattle.c_tree.specs.Declarations.{filled}
use Rattle.c_tree.specs.LibraryArguments.{with_text, text_stored}
use Rattle.run_bytes.specs.declared.access.ObjectKind.{ObjectKind}
use Rattle.linked_programs.specs.declared.objects.LinkedObject.{LinkedObject}
use Rattle.linked_programs.specs.declared.objects.LinkedObject.TheVariants as object
use Rattle.linked_programs.specs.LinkedPrograms.{object_of}
use Rattle.started_objects.specs.FirstObjects.{first_object}
use Rattle.started_objects.proofs.LateLists.{put-same}

-- ## Bytes

bytes-put : (text : List ℕ) (cells : List (Option ℕ)) → length text ≤ length cells → with_bytes 0 text cells ≡ Ok (Bytes (overlaid 0 text cells))
bytes-put text cells enough =
    let is : nat_le (0 + length text) (length cells) ≡ true = grind (arith, nat_tests) in
    ap (λ test. if test then Ok (Bytes (overlaid 0 text cells)) else failing Outside) is

text-put : (objects : List Object) (number : ℕ) (text : List ℕ) (cells : List (Option ℕ)) → slice_get objects number ≡ Some (Bytes cells) → length text ≤ length cells →
    text_stored objects (Pointer number 0) text ≡ Ok (slice_set objects number (Bytes (overlaid 0 text cells)))
text-put objects number [] cells there enough = ap Ok (sym (put-same objects number (Bytes cells) there))
text-put objects number (first ∷ rest) cells there enough =
    ap (λ known. after (with_text 0 (first ∷ rest) known) λ changed. Ok (slice_set objects number changed)) there
    ∙ ap (λ made. after made λ changed. Ok (slice_set objects number changed)) (bytes-put (first ∷ rest) cells enough)

-- ## Images

so-many : (n m : ℕ) → n ≡ m → map {A = ℕ} Some (replicate n 0) ≡ map {A = ℕ} Some (replicate m 0)
so-many n m same = ap (λ k. map {A = ℕ} Some (replicate k 0)) same

zeros-behind : (n count : ℕ) → drop n (map {A = ℕ} Some (replicate count 0)) ≡ map {A = ℕ} Some (replicate (count - n) 0)
zeros-behind zero count = so-many count (count - 0) (omega arith)
zeros-behind (suc n) zero = so-many 0 (0 - suc n) (omega arith)
zeros-behind (suc n) (suc count) = zeros-behind n count ∙ so-many (count - n) (suc count - suc n) (omega arith)

-- the zero bytes in the place of an image
abbrev image-cells : ℕ → List ℕ → List (Option ℕ)
image-cells size bytes = map {A = ℕ} Some (replicate (max size (length bytes) - 0) 0)

image-over : (size : ℕ) (bytes : List ℕ) → overlaid 0 bytes (image-cells size bytes) ≡ map Some (bytes ++ replicate (size - length bytes) 0)
image-over size bytes =
    ap (λ cells. map Some bytes ++ cells)
    (zeros-behind (0 + length bytes) (max size (length bytes) - 0) ∙ so-many (max size (length bytes) - 0 - (0 + length bytes)) (size - length bytes) (omega arith))
    ∙ sym (map-append Some bytes (replicate (size - length bytes) 0))

image-enough : (size : ℕ) (bytes : List ℕ) → length bytes ≤ length (image-cells size bytes)
image-enough size bytes =
    let count = max size (length bytes) - 0 in
    let all : length (image-cells size bytes) ≡ count = length-map {A = ℕ} (replicate count 0) Some ∙ length-replicate {A = ℕ} count 0 in
    omega (arith, all)

image-put : (old new : List Object) (number size : ℕ) (bytes : List ℕ) → slice_get old number ≡ Some (filled (max size (length bytes)) []) →
    text_stored old (Pointer number 0) bytes ≡ Ok new → new ≡ slice_set old number (filled size bytes)
image-put old new number size bytes there stores =
    let made : Ok (slice_set old number (Bytes (overlaid 0 bytes (image-cells size bytes)))) ≡ Ok new = sym (text-put old number bytes (image-cells size bytes) there (image-enough size bytes)) ∙ stores in
    let same : slice_set old number (Bytes (overlaid 0 bytes (image-cells size bytes))) ≡ new = cc in
    sym same ∙ ap (λ cells. slice_set old number (Bytes cells)) (image-over size bytes)

-- ## Objects

pub plain-start : (old : List Object) (number : ℕ) (of : LinkedObject) (kind : ObjectKind) → of ≡ object.Plain kind → slice_get old number ≡ Some (first_object of) → old ≡ slice_set old number (object_of of)
plain-start old number of kind is there =
    sym (put-same old number (object_of of) (there ∙ ap (λ z. Some (first_object z)) is ∙ ap (λ z. Some (object_of z)) (sym is)))

pub image-start : (old new : List Object) (number : ℕ) (of : LinkedObject) (size : ℕ) (bytes given : List ℕ) → of ≡ object.Image size bytes → slice_get old number ≡ Some (first_object of) →
    given ≡ bytes → text_stored old (Pointer number 0) given ≡ Ok new → new ≡ slice_set old number (object_of of)
image-start old new number of size bytes given is there same stores =
    image-put old new number size bytes (there ∙ ap (λ z. Some (first_object z)) is) (ap (text_stored old (Pointer number 0)) (sym same) ∙ stores)
    ∙ ap (λ z. slice_set old number (object_of z)) (sym is)
