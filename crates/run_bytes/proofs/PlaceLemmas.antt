-- What is read and stored at the place of one object.
use Rattle.std.proofs.Common.{◌≡◌, ℕ, ℤ, ◌+◌, ◌<◌, ◌≤◌, Bool, true, false, if◌then◌else◌, List, length, take, drop, replicate, Option, Some, None, refl, ap, sym, ◌∙◌, subst, arith, length-drop}
use Rattle.std.specs.Prelude.{nat_le, slice_set, slice_get, Result, Ok, Err, OnOk, IfErr}
use Rattle.std.proofs.lemmas.Bool.Decides.{nat_tests}
use Rattle.std.proofs.lemmas.List.{length-take-le, length-replicate}
use borrow.Rule.Slice.PartMut.{put_mid, put_same}
use Rattle.c_tree.specs.declared.outcome.CValue.{CValue}
use Rattle.c_tree.specs.declared.outcome.CValue.TheVariants.{Number}
use Rattle.c_tree.specs.declared.outcome.CFault.{CFault}
use Rattle.c_tree.specs.declared.outcome.CFault.TheVariants.{Outside, Kind}
use Rattle.c_tree.specs.Faults.{Or, after, failing}
use Rattle.c_tree.specs.Access.{Access, ToNumber, ToChar, ToByte, ToList, ToField, ToPointer, ToFunction, ToNothing}
use Rattle.c_tree.specs.Objects.{Object, Bytes, Values, Held, holds, read_held, read_bytes, read_object, with_value, bytes_at, number_at, plain, put_object, extent}
use Rattle.c_tree.specs.LibraryArguments.{text_in}
use Rattle.c_tree.specs.Declarations.{unset, unset_values}
use Rattle.run_bytes.specs.declared.access.AccessType.{AccessType}
use Rattle.run_bytes.specs.declared.places.StoredObject.{StoredObject}
use Rattle.run_bytes.specs.declared.places.StoredObject.TheVariants as stored
use Rattle.run_bytes.specs.Answers.{answered}
use Rattle.run_bytes.specs.Accesses.{access_of}
use Rattle.run_bytes.specs.Cells.{marked, Changes}
use Rattle.run_bytes.specs.Layout.{part, object_in, IsInside, IsWithinBytes, IsWithinValues, Writes, unset_object}
use Rattle.run_bytes.proofs.CellLemmas.{marked-part, part-lengths, length-marked, marked-unset}
use Rattle.run_bytes.proofs.PartLemmas.{part-put_mid, around-put_mid}

pub bytes-inside : (place : StoredObject) (start count : ℕ) (bytes : List ℕ) (values : List (Option CValue)) → place ≡ stored.Bytes start count →
    IsInside place bytes values → start + count ≤ length bytes
bytes-inside place start count bytes values is inside = subst (λ place. IsInside place bytes values) is inside

pub values-inside : (place : StoredObject) (start count : ℕ) (type : AccessType) (bytes : List ℕ) (values : List (Option CValue)) → place ≡ stored.Values start count type →
    IsInside place bytes values → start + count ≤ length values
values-inside place start count type bytes values is inside = subst (λ place. IsInside place bytes values) is inside

-- the bytes of an object, as the code cuts them out
pub cut-cells : (bytes : List ℕ) (marks : List Bool) (start count n : ℕ) → n ≡ count → length marks ≡ length bytes →
    marked (take n (drop start bytes)) (take n (drop start marks)) ≡ part start count (marked bytes marks)
cut-cells bytes marks start count n size same =
    marked-part bytes marks start n same ∙ ap (λ k. take k (drop start (marked bytes marks))) size

-- STORING IN BYTES
put-cells : (bytes new : List ℕ) (marks set : List Bool) (start count n : ℕ) → n ≡ count → length marks ≡ length bytes → start + count ≤ length bytes →
    length new ≡ length (take n (drop start bytes)) → length set ≡ length (take n (drop start marks)) →
    part start count (marked (put_mid start n bytes new) (put_mid start n marks set)) ≡ marked new set
put-cells bytes new marks set start count n size same inside sizes lengths =
    let all : length (take n (drop start bytes)) ≡ n = length-take-le n (drop start bytes) (omega (arith, length-drop start bytes)) in
    let marks_all : length (take n (drop start marks)) ≡ n = length-take-le n (drop start marks) (omega (arith, length-drop start marks)) in
    let bytes_around = around-put_mid bytes new start count n size inside sizes in
    let marks_around = around-put_mid marks set start count n size (omega arith) lengths in
    sym (cut-cells (put_mid start n bytes new) (put_mid start n marks set) start count n size (marks_around.size ∙ same ∙ sym bytes_around.size))
    ∙ ap (λ bytes. marked bytes (take n (drop start (put_mid start n marks set)))) (part-put_mid bytes new start n (omega arith) (sizes ∙ all))
    ∙ ap (marked new) (part-put_mid marks set start n (omega arith) (lengths ∙ marks_all))

written : (store : Object → Or Object) (store_in : List (Option ℕ) → Or Object) → ((cells : List (Option ℕ)) → store (Bytes cells) ≡ store_in cells) →
    (start count n : ℕ) (bytes new : List ℕ) (marks set : List Bool) (values : List (Option CValue)) (result : Result (Unit {0}) CFault) →
    n ≡ count → length marks ≡ length bytes → start + count ≤ length bytes →
    length new ≡ length (take n (drop start bytes)) → length set ≡ length (take n (drop start marks)) →
    Changes store_in (take n (drop start bytes)) (take n (drop start marks)) new set result →
    Writes store (stored.Bytes start count) bytes marks values (put_mid start n bytes new) (put_mid start n marks set) values result
written store store_in alike start count n bytes new marks set values (Ok done) size same inside sizes lengths changed = (
  alike (part start count (marked bytes marks)) ∙ ap store_in (sym (cut-cells bytes marks start count n size same)) ∙ changed
      ∙ ap (λ cells. Ok (Bytes cells)) (sym (put-cells bytes new marks set start count n size same inside sizes lengths)),
  (around-put_mid bytes new start count n size inside sizes, around-put_mid marks set start count n size (omega arith) lengths, refl),
)
written store store_in alike start count n bytes new marks set values (Err fault) size same inside sizes lengths changed = (
  alike (part start count (marked bytes marks)) ∙ ap store_in (sym (cut-cells bytes marks start count n size same)) ∙ changed.0,
  ap (put_mid start n bytes) changed.1 ∙ put_same start n bytes,
  ap (put_mid start n marks) changed.2 ∙ put_same start n marks,
  refl,
)

pub written-bytes : (place : StoredObject) (store : Object → Or Object) (store_in : List (Option ℕ) → Or Object) → ((cells : List (Option ℕ)) → store (Bytes cells) ≡ store_in cells) →
    (start count n : ℕ) (bytes new : List ℕ) (marks set : List Bool) (values : List (Option CValue)) (result : Result (Unit {0}) CFault) →
    place ≡ stored.Bytes start count → n ≡ count → length marks ≡ length bytes → IsInside place bytes values →
    length new ≡ length (take n (drop start bytes)) → length set ≡ length (take n (drop start marks)) →
    Changes store_in (take n (drop start bytes)) (take n (drop start marks)) new set result →
    Writes store place bytes marks values (put_mid start n bytes new) (put_mid start n marks set) values result
written-bytes place store store_in alike start count n bytes new marks set values result is size same inside sizes lengths changed =
    subst (λ place. Writes store place bytes marks values (put_mid start n bytes new) (put_mid start n marks set) values result) (sym is)
    (written store store_in alike start count n bytes new marks set values result size same (bytes-inside place start count bytes values is inside) sizes lengths changed)

-- VALUES
value-written : (store : Object → Or Object) (type : AccessType) (start count n offset : ℕ) (value : CValue) (bytes : List ℕ) (marks : List Bool) (values new : List (Option CValue))
    (result : Result (Unit {0}) CFault) → ((held : Held) → held.type ≡ access_of type → store (Values held) ≡ with_value offset value held) →
    n ≡ count → start + count ≤ length values → length new ≡ length (take n (drop start values)) →
    OnOk result ((offset < length (take n (drop start values))) × (new ≡ slice_set (take n (drop start values)) offset (Some value))) →
    IfErr result (λ fault. (fault ≡ Outside) × (length (take n (drop start values)) ≤ offset) × (new ≡ take n (drop start values))) →
    Writes store (stored.Values start count type) bytes marks values bytes marks (put_mid start n values new) result
value-written store type start count n offset value bytes marks values new (Ok done) alike size inside sizes ok outside =
    let here : part start count values ≡ take n (drop start values) = ap (λ k. take k (drop start values)) (sym size) in
    let all : length (take n (drop start values)) ≡ n = length-take-le n (drop start values) (omega (arith, length-drop start values)) in
    let found : length (part start count values) ≡ length (take n (drop start values)) = ap length here in
    let is : nat_le (offset + 1) (length (part start count values)) ≡ true = grind (arith, nat_tests, ok.0) in
    let there : part start count (put_mid start n values new) ≡ new =
    ap (λ k. take k (drop start (put_mid start n values new))) (sym size) ∙ part-put_mid values new start n (omega arith) (sizes ∙ all) in (
      alike (record { type = access_of type; values = part start count values }) refl
          ∙ ap (λ test. if test then Ok (Values (record { type = access_of type; values = slice_set (part start count values) offset (Some value) })) else failing Outside) is
          ∙ ap (λ held. Ok (Values (record { type = access_of type; values = held }))) (ap (λ held. slice_set held offset (Some value)) here ∙ sym ok.1 ∙ sym there),
      (refl, refl, around-put_mid values new start count n size inside sizes),
    )
value-written store type start count n offset value bytes marks values new (Err fault) alike size inside sizes ok outside =
    let here : part start count values ≡ take n (drop start values) = ap (λ k. take k (drop start values)) (sym size) in
    let found : length (part start count values) ≡ length (take n (drop start values)) = ap length here in
    let is : nat_le (offset + 1) (length (part start count values)) ≡ false = grind (arith, nat_tests, outside.1) in (
      alike (record { type = access_of type; values = part start count values }) refl
          ∙ ap (λ test. if test then Ok (Values (record { type = access_of type; values = slice_set (part start count values) offset (Some value) })) else failing Outside) is
          ∙ ap failing (sym outside.0),
      refl,
      refl,
      ap (put_mid start n values) outside.2 ∙ put_same start n values,
    )

pub written-value : (place : StoredObject) (store : Object → Or Object) (type : AccessType) (start count n offset : ℕ) (value : CValue) (bytes : List ℕ) (marks : List Bool) (values new : List (Option CValue))
    (result : Result (Unit {0}) CFault) → ((held : Held) → held.type ≡ access_of type → store (Values held) ≡ with_value offset value held) →
    place ≡ stored.Values start count type → n ≡ count → IsInside place bytes values → length new ≡ length (take n (drop start values)) →
    OnOk result ((offset < length (take n (drop start values))) × (new ≡ slice_set (take n (drop start values)) offset (Some value))) →
    IfErr result (λ fault. (fault ≡ Outside) × (length (take n (drop start values)) ≤ offset) × (new ≡ take n (drop start values))) →
    Writes store place bytes marks values bytes marks (put_mid start n values new) result
written-value place store type start count n offset value bytes marks values new result alike is size inside sizes ok outside =
    subst (λ place. Writes store place bytes marks values bytes marks (put_mid start n values new) result) (sym is)
    (value-written store type start count n offset value bytes marks values new result alike size (values-inside place start count type bytes values is inside) sizes ok outside)

-- READING
pub bytes-read : (place : StoredObject) (access : Access) (offset start count n : ℕ) (bytes : List ℕ) (marks : List Bool) (values : List (Option CValue)) →
    place ≡ stored.Bytes start count → n ≡ count → length marks ≡ length bytes →
    read_bytes access offset (marked (take n (drop start bytes)) (take n (drop start marks))) ≡ read_object access offset (Some (object_in (marked bytes marks) values place))
bytes-read place access offset start count n bytes marks values is size same =
    ap (read_bytes access offset) (cut-cells bytes marks start count n size same)
    ∙ ap (λ place. read_object access offset (Some (object_in (marked bytes marks) values place))) (sym is)

pub value-read : (place : StoredObject) (access : Access) (type : AccessType) (offset start count n : ℕ) (bytes : List ℕ) (marks : List Bool) (values : List (Option CValue)) →
    place ≡ stored.Values start count type → n ≡ count → holds (access_of type) access ≡ true →
    read_held access (slice_get (take n (drop start values)) offset) ≡ read_object access offset (Some (object_in (marked bytes marks) values place))
value-read place access type offset start count n bytes marks values is size held =
    ap (λ k. read_held access (slice_get (take k (drop start values)) offset)) size
    ∙ sym (ap (λ test. if test then read_held access (slice_get (part start count values) offset) else failing Kind) held)
    ∙ ap (λ place. read_object access offset (Some (object_in (marked bytes marks) values place))) (sym is)

-- the number that was read, as a value
number-in : (result : Result ℤ CFault) (read : Or ℤ) → answered (λ number. number) result ≡ read →
    answered (λ number. plain (Number number)) result ≡ after read (λ number. Ok (plain (Number number)))
number-in (Ok number) read is = ap (λ read. after read (λ number. Ok (plain (Number number)))) is
number-in (Err fault) read is = ap (λ read. after read (λ number. Ok (plain (Number number)))) is

pub number-read : (place : StoredObject) (offset start count n : ℕ) (bytes : List ℕ) (marks : List Bool) (values : List (Option CValue)) (result : Result ℤ CFault) →
    place ≡ stored.Bytes start count → n ≡ count → length marks ≡ length bytes →
    answered (λ number. number) result ≡ number_at offset (marked (take n (drop start bytes)) (take n (drop start marks))) →
    answered (λ number. plain (Number number)) result ≡ read_object ToNumber offset (Some (object_in (marked bytes marks) values place))
number-read place offset start count n bytes marks values result is size same found =
    number-in result (number_at offset (marked (take n (drop start bytes)) (take n (drop start marks)))) found
    ∙ bytes-read place ToNumber offset start count n bytes marks values is size same

-- no object of values holds numbers for an access to numbers
no_numbers : (type : Access) → holds type ToNumber ≡ false
no_numbers ToNumber = refl
no_numbers ToChar = refl
no_numbers ToByte = refl
no_numbers (ToList l) = refl
no_numbers (ToField k) = refl
no_numbers (ToPointer ToNumber) = refl
no_numbers (ToPointer ToChar) = refl
no_numbers (ToPointer ToByte) = refl
no_numbers (ToPointer (ToList l)) = refl
no_numbers (ToPointer (ToField k)) = refl
no_numbers (ToPointer (ToPointer t)) = refl
no_numbers (ToPointer ToFunction) = refl
no_numbers (ToPointer ToNothing) = refl
no_numbers ToFunction = refl
no_numbers ToNothing = refl

pub number-held : (place : StoredObject) (offset start count : ℕ) (type : AccessType) (cells : List (Option ℕ)) (values : List (Option CValue)) →
    place ≡ stored.Values start count type → failing Kind ≡ read_object ToNumber offset (Some (object_in cells values place))
number-held place offset start count type cells values is =
    sym (ap (λ place. read_object ToNumber offset (Some (object_in cells values place))) is
    ∙ ap (λ test. if test then read_held ToNumber (slice_get (part start count values) offset) else failing Kind) (no_numbers (access_of type)))

pub number-unstored : (place : StoredObject) (offset start count : ℕ) (value : CValue) (type : AccessType) (cells : List (Option ℕ)) (values : List (Option CValue)) →
    place ≡ stored.Values start count type → put_object ToNumber offset value (Some (object_in cells values place)) ≡ failing Kind
number-unstored place offset start count value type cells values is =
    ap (λ place. put_object ToNumber offset value (Some (object_in cells values place))) is
    ∙ ap (λ test. if test then with_value offset value (record { type = access_of type; values = part start count values }) else failing Kind) (no_numbers (access_of type))

pub ruleset number_laws = (number-held, number-unstored)

pub text-read : (place : StoredObject) (offset size start count n : ℕ) (bytes : List ℕ) (marks : List Bool) (values : List (Option CValue)) →
    place ≡ stored.Bytes start count → n ≡ count → length marks ≡ length bytes →
    bytes_at offset size (marked (take n (drop start bytes)) (take n (drop start marks))) ≡ text_in (Some (object_in (marked bytes marks) values place)) offset size
text-read place offset size start count n bytes marks values is long same =
    ap (bytes_at offset size) (cut-cells bytes marks start count n long same)
    ∙ ap (λ place. text_in (Some (object_in (marked bytes marks) values place)) offset size) (sym is)

pub within-bytes : (place : StoredObject) (bytes : List ℕ) (values : List (Option CValue)) → IsInside place bytes values → IsWithinBytes place (length bytes)
within-bytes (stored.Bytes start count) bytes values inside = inside
within-bytes (stored.Values start count type) bytes values inside = tt

pub within-values : (place : StoredObject) (bytes : List ℕ) (values : List (Option CValue)) → IsInside place bytes values → IsWithinValues place (length values)
within-values (stored.Bytes start count) bytes values inside = tt
within-values (stored.Values start count type) bytes values inside = inside

pub inside-bytes : (place : StoredObject) (start count : ℕ) (bytes : List ℕ) (values : List (Option CValue)) → place ≡ stored.Bytes start count →
    IsWithinBytes place (length bytes) → IsInside place bytes values
inside-bytes place start count bytes values is within =
    let fits : start + count ≤ length bytes = subst (λ place. IsWithinBytes place (length bytes)) is within in subst (λ place. IsInside place bytes values) (sym is) fits

pub inside-values : (place : StoredObject) (start count : ℕ) (type : AccessType) (bytes : List ℕ) (values : List (Option CValue)) → place ≡ stored.Values start count type →
    IsWithinValues place (length values) → IsInside place bytes values
inside-values place start count type bytes values is within =
    let fits : start + count ≤ length values = subst (λ place. IsWithinValues place (length values)) is within in subst (λ place. IsInside place bytes values) (sym is) fits

-- NOTHING SET
pub unset-bytes : (place : StoredObject) (start count n : ℕ) (bytes : List ℕ) (marks set : List Bool) (values : List (Option CValue)) →
    place ≡ stored.Bytes start count → n ≡ count → length marks ≡ length bytes → IsWithinBytes place (length marks) →
    set ≡ replicate (length (take n (drop start marks))) false →
    Writes (λ object. Ok (unset_object object)) place bytes marks values bytes (put_mid start n marks set) values (Ok tt)
unset-bytes place start count n bytes marks set values is long same within unset_is =
    let inside : IsInside place bytes values = inside-bytes place start count bytes values is (subst (IsWithinBytes place) same within) in
    let cut : length (take n (drop start marks)) ≡ length (take n (drop start bytes)) = part-lengths bytes marks start n same in
    let size : length set ≡ length (take n (drop start marks)) = ap length unset_is ∙ length-replicate (length (take n (drop start marks))) false in
    subst (λ all. Writes (λ object. Ok (unset_object object)) place bytes marks values all (put_mid start n marks set) values (Ok tt)) (put_same start n bytes)
    (written-bytes place (λ object. Ok (unset_object object)) (λ cells. Ok (unset (length cells))) (λ cells. refl) start count n bytes (take n (drop start bytes)) marks set values (Ok tt)
    is long same inside refl size
    (ap (λ k. Ok (unset k)) (length-marked (take n (drop start bytes)) (take n (drop start marks)) cut ∙ sym cut)
    ∙ ap (λ cells. Ok (Bytes cells)) (sym (ap (marked (take n (drop start bytes))) unset_is ∙ marked-unset (take n (drop start bytes)) (length (take n (drop start marks))) cut))))

unset-part : (start count n : ℕ) (type : AccessType) (bytes : List ℕ) (marks : List Bool) (values none : List (Option CValue)) →
    n ≡ count → start + count ≤ length values → none ≡ replicate (length (take n (drop start values))) None →
    Writes (λ object. Ok (unset_object object)) (stored.Values start count type) bytes marks values bytes marks (put_mid start n values none) (Ok tt)
unset-part start count n type bytes marks values none long inside none_is =
    let here : length (part start count values) ≡ length (take n (drop start values)) = ap (λ k. length (take k (drop start values))) (sym long) in
    let all : length (take n (drop start values)) ≡ n = length-take-le n (drop start values) (omega (arith, length-drop start values)) in
    let size : length none ≡ length (take n (drop start values)) = ap length none_is ∙ length-replicate (length (take n (drop start values))) None in
    let there : part start count (put_mid start n values none) ≡ none =
    ap (λ k. take k (drop start (put_mid start n values none))) (sym long) ∙ part-put_mid values none start n (omega arith) (size ∙ all) in (
      ap (λ k. Ok (unset_values (access_of type) k)) here
          ∙ ap (λ held. Ok (Values (record { type = access_of type; values = held }))) (sym none_is ∙ sym there),
      (refl, refl, around-put_mid values none start count n long inside size),
    )

pub unset-values : (place : StoredObject) (start count n : ℕ) (type : AccessType) (bytes : List ℕ) (marks : List Bool) (values none : List (Option CValue)) →
    place ≡ stored.Values start count type → n ≡ count → IsWithinValues place (length values) → none ≡ replicate (length (take n (drop start values))) None →
    Writes (λ object. Ok (unset_object object)) place bytes marks values bytes marks (put_mid start n values none) (Ok tt)
unset-values place start count n type bytes marks values none is long within none_is =
    let fits : start + count ≤ length values = subst (λ place. IsWithinValues place (length values)) is within in
    subst (λ place. Writes (λ object. Ok (unset_object object)) place bytes marks values bytes marks (put_mid start n values none) (Ok tt)) (sym is)
    (unset-part start count n type bytes marks values none long fits none_is)

-- SIZES
pub extent-bytes : (place : StoredObject) (start count : ℕ) (bytes : List ℕ) (marks : List Bool) (values : List (Option CValue)) → place ≡ stored.Bytes start count →
    length marks ≡ length bytes → IsInside place bytes values → count ≡ extent (object_in (marked bytes marks) values place)
extent-bytes place start count bytes marks values is same inside =
    let fits : start + count ≤ length bytes = bytes-inside place start count bytes values is inside in
    sym (ap (λ place. extent (object_in (marked bytes marks) values place)) is
    ∙ length-take-le count (drop start (marked bytes marks)) (omega (arith, length-drop start (marked bytes marks), length-marked bytes marks same)))

pub extent-values : (place : StoredObject) (start count : ℕ) (type : AccessType) (bytes : List ℕ) (marks : List Bool) (values : List (Option CValue)) →
    place ≡ stored.Values start count type → IsInside place bytes values → count ≡ extent (object_in (marked bytes marks) values place)
extent-values place start count type bytes marks values is inside =
    let fits : start + count ≤ length values = values-inside place start count type bytes values is inside in
    sym (ap (λ place. extent (object_in (marked bytes marks) values place)) is
    ∙ length-take-le count (drop start values) (omega (arith, length-drop start values)))
