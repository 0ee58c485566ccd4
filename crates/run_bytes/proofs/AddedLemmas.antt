-- An object behind the others.
use Rattle.std.proofs.Common.{◌≡◌, ℕ, ◌+◌, ◌-◌, ◌≤◌, Bool, true, false, List, [], ◌∷◌, ◌++◌, length, map, take, replicate, Option, Some, None, refl, ap, sym, ◌∙◌, subst, arith, length-append}
use Rattle.std.proofs.lemmas.List.{take_all, take-append-le, drop_at, length-replicate}
use Rattle.std.specs.Prelude.{Result, Ok, Err, OnOk}
use Rattle.std.specs.declared.alloc.AllocError.{AllocError}
use Rattle.c_tree.specs.declared.outcome.CValue.{CValue}
use Rattle.c_tree.specs.Objects.{Bytes, Values}
use Rattle.run_bytes.specs.declared.access.AccessType.{AccessType}
use Rattle.run_bytes.specs.declared.access.ObjectKind.{ObjectKind}
use Rattle.run_bytes.specs.declared.access.ObjectKind.TheVariants as kind
use Rattle.run_bytes.specs.declared.places.StoredObject.{StoredObject}
use Rattle.run_bytes.specs.declared.places.StoredObject.TheVariants as stored
use Rattle.run_bytes.specs.Accesses.{access_of, bytes_at_first, object_at_first}
use Rattle.run_bytes.specs.Cells.{marked}
use Rattle.run_bytes.specs.Layout.{part, object_in, objects_in, Stand, IsLaidOut, Adds}
use Rattle.run_bytes.proofs.CellLemmas.{marked-append, marked-set, marked-unset, length-marked}
use Rattle.run_bytes.proofs.PartLemmas.{part-before}
use Rattle.run_bytes.proofs.LayoutLemmas.{within}

one-more : (places : List StoredObject) (cells : List (Option ℕ)) (values : List (Option CValue)) (place : StoredObject) →
    objects_in (places ++ place ∷ []) cells values ≡ objects_in places cells values ++ object_in cells values place ∷ []
one-more [] cells values place = refl
one-more (first ∷ later) cells values place = ap (λ rest. object_in cells values first ∷ rest) (one-more later cells values place)

kept : {A : Type 0} (xs more : List A) (start count : ℕ) → start + count ≤ length xs → part start count (xs ++ more) ≡ part start count xs
kept xs more start count h = part-before xs (xs ++ more) start count (length xs) h (take-append-le (length xs) xs more (omega arith))

at-end : {A : Type 0} (xs more : List A) (start count : ℕ) → start ≡ length xs → count ≡ length more → part start count (xs ++ more) ≡ more
at-end xs more start count h k = ap (take count) (drop_at xs more start (sym h)) ∙ take_all count more (omega arith)

-- BYTES
stand-bytes : (places : List StoredObject) (byte value bytes values start count : ℕ) → Stand places byte value bytes values → start ≡ bytes →
    Stand (places ++ stored.Bytes start count ∷ []) byte value (bytes + count) values
stand-bytes [] byte value bytes values start count stand is = (omega (arith, stand.0), (omega arith, stand.1))
stand-bytes (stored.Bytes first size ∷ later) byte value bytes values start count stand is =
    (stand.0, stand-bytes later (first + size) value bytes values start count stand.1 is)
stand-bytes (stored.Values first size type ∷ later) byte value bytes values start count stand is =
    (stand.0, stand-bytes later byte (first + size) bytes values start count stand.1 is)

bytes-kept : (places : List StoredObject) (byte value ends : ℕ) (cells more : List (Option ℕ)) (values : List (Option CValue)) → Stand places byte value (length cells) ends →
    objects_in places (cells ++ more) values ≡ objects_in places cells values
bytes-kept [] byte value ends cells more values stand = refl
bytes-kept (stored.Bytes start count ∷ later) byte value ends cells more values stand =
    ap (λ first. Bytes first ∷ objects_in later (cells ++ more) values) (kept cells more start count (within later (start + count) value (length cells) ends stand.1).0)
    ∙ ap (λ rest. Bytes (part start count cells) ∷ rest) (bytes-kept later (start + count) value ends cells more values stand.1)
bytes-kept (stored.Values start count type ∷ later) byte value ends cells more values stand =
    ap (λ rest. object_in cells values (stored.Values start count type) ∷ rest) (bytes-kept later byte (start + count) ends cells more values stand.1)

first-bytes : (count : ℕ) (set : Bool) → Bytes (marked (replicate count 0) (replicate count set)) ≡ bytes_at_first count set
first-bytes count true =
    let size : count ≡ length {A = ℕ} (replicate count 0) = sym (length-replicate {A = ℕ} count 0) in
    let all : count ≡ count - length {A = ℕ} [] = omega arith in
    ap Bytes (marked-set (replicate count 0) count size ∙ ap (λ n. map Some (replicate n 0)) all)
first-bytes count false = ap Bytes (marked-unset (replicate count 0) count (sym (length-replicate {A = ℕ} count 0)))

pub bytes-added : (places : List StoredObject) (bytes : List ℕ) (marks : List Bool) (values : List (Option CValue)) (start count : ℕ) (set : Bool)
    (places' : List StoredObject) (bytes' : List ℕ) (marks' : List Bool) → IsLaidOut places bytes marks values → start ≡ length bytes →
    places' ≡ places ++ stored.Bytes start count ∷ [] → bytes' ≡ bytes ++ replicate count 0 → marks' ≡ marks ++ replicate count set →
    Adds (kind.Bytes count set) places bytes marks values places' bytes' marks' values
bytes-added places bytes marks values start count set places' bytes' marks' laid is p b m =
    subst (λ places'. Adds (kind.Bytes count set) places bytes marks values places' bytes' marks' values) (sym p)
    (subst (λ bytes'. Adds (kind.Bytes count set) places bytes marks values (places ++ stored.Bytes start count ∷ []) bytes' marks' values) (sym b)
    (subst (λ marks'. Adds (kind.Bytes count set) places bytes marks values (places ++ stored.Bytes start count ∷ []) (bytes ++ replicate count 0) marks' values) (sym m)
    (record { laid = laid_out; shown = shown })))
  where
    long : length (bytes ++ replicate count 0) ≡ length bytes + count
    long = omega (arith, length-append bytes (replicate count 0), length-replicate {A = ℕ} count 0)

    laid_out : IsLaidOut (places ++ stored.Bytes start count ∷ []) (bytes ++ replicate count 0) (marks ++ replicate count set) values
    laid_out = record {
      same = omega (arith, length-append marks (replicate count set), length-replicate {A = Bool} count set, long, laid.same);
      stand = subst (λ n. Stand (places ++ stored.Bytes start count ∷ []) 0 0 n (length values)) (sym long)
          (stand-bytes places 0 0 (length bytes) (length values) start count laid.stand is);
    }

    size : length (marked bytes marks) ≡ length bytes
    size = length-marked bytes marks laid.same

    ends : length (marked (replicate count 0) (replicate count set)) ≡ count
    ends = length-marked (replicate count 0) (replicate count set) (length-replicate {A = Bool} count set ∙ sym (length-replicate {A = ℕ} count 0)) ∙ length-replicate {A = ℕ} count 0

    shown : objects_in (places ++ stored.Bytes start count ∷ []) (marked (bytes ++ replicate count 0) (marks ++ replicate count set)) values
        ≡ objects_in places (marked bytes marks) values ++ bytes_at_first count set ∷ []
    shown =
        ap (λ cells. objects_in (places ++ stored.Bytes start count ∷ []) cells values) (marked-append bytes (replicate count 0) marks (replicate count set) laid.same)
        ∙ one-more places (marked bytes marks ++ marked (replicate count 0) (replicate count set)) values (stored.Bytes start count)
        ∙ ap (λ front. front ++ object_in (marked bytes marks ++ marked (replicate count 0) (replicate count set)) values (stored.Bytes start count) ∷ [])
        (bytes-kept places 0 0 (length values) (marked bytes marks) (marked (replicate count 0) (replicate count set)) values
        (subst (λ n. Stand places 0 0 n (length values)) (sym size) laid.stand))
        ∙ ap (λ last. objects_in places (marked bytes marks) values ++ last ∷ [])
        (ap Bytes (at-end (marked bytes marks) (marked (replicate count 0) (replicate count set)) start count (is ∙ sym size) (sym ends)) ∙ first-bytes count set)

-- VALUES
stand-values : (places : List StoredObject) (byte value bytes values start count : ℕ) (type : AccessType) → Stand places byte value bytes values → start ≡ values →
    Stand (places ++ stored.Values start count type ∷ []) byte value bytes (values + count)
stand-values [] byte value bytes values start count type stand is = (omega (arith, stand.1), (stand.0, omega arith))
stand-values (stored.Bytes first size ∷ later) byte value bytes values start count type stand is =
    (stand.0, stand-values later (first + size) value bytes values start count type stand.1 is)
stand-values (stored.Values first size held ∷ later) byte value bytes values start count type stand is =
    (stand.0, stand-values later byte (first + size) bytes values start count type stand.1 is)

values-kept : (places : List StoredObject) (byte value ends : ℕ) (cells : List (Option ℕ)) (values more : List (Option CValue)) → Stand places byte value ends (length values) →
    objects_in places cells (values ++ more) ≡ objects_in places cells values
values-kept [] byte value ends cells values more stand = refl
values-kept (stored.Bytes start count ∷ later) byte value ends cells values more stand =
    ap (λ rest. Bytes (part start count cells) ∷ rest) (values-kept later (start + count) value ends cells values more stand.1)
values-kept (stored.Values start count type ∷ later) byte value ends cells values more stand =
    ap (λ held. Values (record { type = access_of type; values = held }) ∷ objects_in later cells (values ++ more))
    (kept values more start count (within later byte (start + count) ends (length values) stand.1).1)
    ∙ ap (λ rest. Values (record { type = access_of type; values = part start count values }) ∷ rest) (values-kept later byte (start + count) ends cells values more stand.1)

pub values-added : (places : List StoredObject) (bytes : List ℕ) (marks : List Bool) (values : List (Option CValue)) (start count : ℕ) (type : AccessType)
    (places' : List StoredObject) (values' : List (Option CValue)) → IsLaidOut places bytes marks values → start ≡ length values →
    places' ≡ places ++ stored.Values start count type ∷ [] → values' ≡ values ++ replicate count None →
    Adds (kind.Values count type) places bytes marks values places' bytes marks values'
values-added places bytes marks values start count type places' values' laid is p v =
    subst (λ places'. Adds (kind.Values count type) places bytes marks values places' bytes marks values') (sym p)
    (subst (λ values'. Adds (kind.Values count type) places bytes marks values (places ++ stored.Values start count type ∷ []) bytes marks values') (sym v)
    (record { laid = laid_out; shown = shown }))
  where
    long : length (values ++ replicate count None) ≡ length values + count
    long = omega (arith, length-append values (replicate count None), length-replicate {A = Option CValue} count None)

    laid_out : IsLaidOut (places ++ stored.Values start count type ∷ []) bytes marks (values ++ replicate count None)
    laid_out = record {
      same = laid.same;
      stand = subst (λ n. Stand (places ++ stored.Values start count type ∷ []) 0 0 (length bytes) n) (sym long)
          (stand-values places 0 0 (length bytes) (length values) start count type laid.stand is);
    }

    shown : objects_in (places ++ stored.Values start count type ∷ []) (marked bytes marks) (values ++ replicate count None)
        ≡ objects_in places (marked bytes marks) values ++ object_at_first (kind.Values count type) ∷ []
    shown =
        one-more places (marked bytes marks) (values ++ replicate count None) (stored.Values start count type)
        ∙ ap (λ front. front ++ object_in (marked bytes marks) (values ++ replicate count None) (stored.Values start count type) ∷ [])
        (values-kept places 0 0 (length bytes) (marked bytes marks) values (replicate count None) laid.stand)
        ∙ ap (λ held. objects_in places (marked bytes marks) values ++ Values (record { type = access_of type; values = held }) ∷ [])
        (at-end values (replicate count None) start count is (sym (length-replicate {A = Option CValue} count None)))

-- WHAT A CALL MAKES
pub bytes-made : (result : Result (Unit {0}) AllocError) (object : ObjectKind) (places : List StoredObject) (bytes : List ℕ) (marks : List Bool) (values : List (Option CValue)) (count : ℕ) (set : Bool)
    (places' : List StoredObject) (bytes' : List ℕ) (marks' : List Bool) → object ≡ kind.Bytes count set → IsLaidOut places bytes marks values →
    OnOk result (bytes' ≡ bytes ++ replicate count 0) → OnOk result (marks' ≡ marks ++ replicate count set) →
    OnOk result (places' ≡ places ++ stored.Bytes (length bytes) count ∷ []) → OnOk result (Adds object places bytes marks values places' bytes' marks' values)
bytes-made (Ok done) object places bytes marks values count set places' bytes' marks' is laid b m p =
    subst (λ object. Adds object places bytes marks values places' bytes' marks' values) (sym is)
    (bytes-added places bytes marks values (length bytes) count set places' bytes' marks' laid refl p b m)
bytes-made (Err reason) object places bytes marks values count set places' bytes' marks' is laid b m p = b

pub values-made : (result : Result (Unit {0}) AllocError) (object : ObjectKind) (places : List StoredObject) (bytes : List ℕ) (marks : List Bool) (values : List (Option CValue)) (count : ℕ) (type : AccessType)
    (places' : List StoredObject) (values' : List (Option CValue)) → object ≡ kind.Values count type → IsLaidOut places bytes marks values →
    OnOk result (values' ≡ values ++ replicate count None) →
    OnOk result (places' ≡ places ++ stored.Values (length values) count type ∷ []) → OnOk result (Adds object places bytes marks values places' bytes marks values')
values-made (Ok done) object places bytes marks values count type places' values' is laid v p =
    subst (λ object. Adds object places bytes marks values places' bytes marks values') (sym is)
    (values-added places bytes marks values (length values) count type places' values' laid refl p v)
values-made (Err reason) object places bytes marks values count type places' values' is laid v p = v
