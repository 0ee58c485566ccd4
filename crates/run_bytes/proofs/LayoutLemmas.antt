-- Objects one behind the other: where each stands, and that a change of one leaves the others.
use Rattle.std.proofs.Common.{◌≡◌, ℕ, zero, suc, ◌+◌, ◌≤◌, Bool, List, [], ◌∷◌, length, take, drop, Option, Some, None, refl, ap, sym, ◌∙◌, subst, arith}
use Rattle.std.specs.Prelude.{slice_set, slice_get, option_map, Result, Ok, Err}
use Rattle.std.proofs.lemmas.List.{drop-drop}
use Rattle.std.proofs.lemmas.Option.{slice_get-map}
use Rattle.c_tree.specs.declared.outcome.CValue.{CValue}
use Rattle.c_tree.specs.declared.outcome.CFault.{CFault}
use Rattle.c_tree.specs.Faults.{Or, after}
use Rattle.c_tree.specs.Objects.{Object, Bytes, Values}
use Rattle.run_bytes.specs.declared.access.AccessType.{AccessType}
use Rattle.run_bytes.specs.declared.places.StoredObject.{StoredObject}
use Rattle.run_bytes.specs.declared.places.StoredObject.TheVariants as stored
use Rattle.run_bytes.specs.Accesses.{access_of}
use Rattle.run_bytes.specs.Cells.{marked}
use Rattle.run_bytes.specs.Layout.{part, object_in, objects_in, IsInside, SameAround, ChangesOnly, Writes, Stand, IsLaidOut, Stores}
use Rattle.run_bytes.proofs.CellLemmas.{marked-take, marked-drop}
use Rattle.run_bytes.proofs.PartLemmas.{part-behind, part-before}

-- objects stand before the ends of all bytes and all values
pub within : (places : List StoredObject) (byte value bytes values : ℕ) → Stand places byte value bytes values → (byte ≤ bytes) × (value ≤ values)
within [] byte value bytes values stand = (omega (arith, stand.0), omega (arith, stand.1))
within (stored.Bytes start count ∷ later) byte value bytes values stand =
    let rest = within later (start + count) value bytes values stand.1 in (omega (arith, stand.0, rest.0), rest.1)
within (stored.Values start count type ∷ later) byte value bytes values stand =
    let rest = within later byte (start + count) bytes values stand.1 in (rest.0, omega (arith, stand.0, rest.1))

same-some : {A : Type 0} (x y : A) → Some x ≡ Some y → x ≡ y
same-some x y h = cc

pub inside-at : (places : List StoredObject) (i byte value : ℕ) (place : StoredObject) (bytes : List ℕ) (values : List (Option CValue)) →
    Stand places byte value (length bytes) (length values) → slice_get places i ≡ Some place → IsInside place bytes values
inside-at [] i byte value place bytes values stand is = absurd (cc)
inside-at (stored.Bytes start count ∷ later) zero byte value place bytes values stand is =
    subst (λ place. IsInside place bytes values) (same-some (stored.Bytes start count) place is) (within later (start + count) value (length bytes) (length values) stand.1).0
inside-at (stored.Values start count type ∷ later) zero byte value place bytes values stand is =
    subst (λ place. IsInside place bytes values) (same-some (stored.Values start count type) place is) (within later byte (start + count) (length bytes) (length values) stand.1).1
inside-at (stored.Bytes start count ∷ later) (suc i) byte value place bytes values stand is =
    inside-at later i (start + count) value place bytes values stand.1 is
inside-at (stored.Values start count type ∷ later) (suc i) byte value place bytes values stand is =
    inside-at later i byte (start + count) place bytes values stand.1 is

-- A CHANGE IN BYTES
-- an object of bytes begins where the objects do or behind
bytes-from : (places : List StoredObject) (i byte value bytes values start count : ℕ) → Stand places byte value bytes values → slice_get places i ≡ Some (stored.Bytes start count) → byte ≤ start
bytes-from [] i byte value bytes values start count stand is = absurd (cc)
bytes-from (stored.Bytes first size ∷ later) zero byte value bytes values start count stand is =
    let same : first ≡ start = cc in omega (arith, stand.0)
bytes-from (stored.Values first size type ∷ later) zero byte value bytes values start count stand is = absurd (cc)
bytes-from (stored.Bytes first size ∷ later) (suc i) byte value bytes values start count stand is =
    omega (arith, stand.0, bytes-from later i (first + size) value bytes values start count stand.1 is)
bytes-from (stored.Values first size type ∷ later) (suc i) byte value bytes values start count stand is =
    bytes-from later i byte (first + size) bytes values start count stand.1 is

bytes-behind : (places : List StoredObject) (byte value bytes ends : ℕ) (cells changed : List (Option ℕ)) (values : List (Option CValue)) →
    Stand places byte value bytes ends → drop byte changed ≡ drop byte cells → objects_in places changed values ≡ objects_in places cells values
bytes-behind [] byte value bytes ends cells changed values stand same = refl
bytes-behind (stored.Bytes start count ∷ later) byte value bytes ends cells changed values stand same =
    let further : drop (start + count) changed ≡ drop (start + count) cells =
    ap (λ n. drop (n + count) changed) stand.0 ∙ sym (drop-drop count byte changed) ∙ ap (drop count) same ∙ drop-drop count byte cells ∙ ap (λ n. drop (n + count) cells) (sym stand.0) in
    ap (λ first. Bytes first ∷ objects_in later changed values) (part-behind cells changed start count byte (omega (arith, stand.0)) same)
    ∙ ap (λ rest. Bytes (part start count cells) ∷ rest) (bytes-behind later (start + count) value bytes ends cells changed values stand.1 further)
bytes-behind (stored.Values start count type ∷ later) byte value bytes ends cells changed values stand same =
    ap (λ rest. object_in cells values (stored.Values start count type) ∷ rest) (bytes-behind later byte (start + count) bytes ends cells changed values stand.1 same)

bytes-changed : (places : List StoredObject) (i byte value bytes ends start count : ℕ) (cells changed : List (Option ℕ)) (values : List (Option CValue)) →
    Stand places byte value bytes ends → slice_get places i ≡ Some (stored.Bytes start count) →
    take start changed ≡ take start cells → drop (start + count) changed ≡ drop (start + count) cells →
    objects_in places changed values ≡ slice_set (objects_in places cells values) i (Bytes (part start count changed))
bytes-changed [] i byte value bytes ends start count cells changed values stand is before behind = absurd (cc)
bytes-changed (stored.Values first size type ∷ later) zero byte value bytes ends start count cells changed values stand is before behind = absurd (cc)
bytes-changed (stored.Bytes first size ∷ later) zero byte value bytes ends start count cells changed values stand is before behind =
    let begins : first ≡ start = cc in
    let long : size ≡ count = cc in
    let end : start + count ≡ first + size = omega arith in
    ap (λ n. Bytes (part n size changed) ∷ objects_in later changed values) begins ∙ ap (λ n. Bytes (part start n changed) ∷ objects_in later changed values) long
    ∙ ap (λ rest. Bytes (part start count changed) ∷ rest)
    (bytes-behind later (first + size) value bytes ends cells changed values stand.1 (ap (λ n. drop n changed) (sym end) ∙ behind ∙ ap (λ n. drop n cells) end))
bytes-changed (stored.Bytes first size ∷ later) (suc i) byte value bytes ends start count cells changed values stand is before behind =
    ap (λ cells. Bytes cells ∷ objects_in later changed values)
    (part-before cells changed first size start (bytes-from later i (first + size) value bytes ends start count stand.1 is) before)
    ∙ ap (λ rest. Bytes (part first size cells) ∷ rest) (bytes-changed later i (first + size) value bytes ends start count cells changed values stand.1 is before behind)
bytes-changed (stored.Values first size type ∷ later) (suc i) byte value bytes ends start count cells changed values stand is before behind =
    ap (λ rest. object_in cells values (stored.Values first size type) ∷ rest) (bytes-changed later i byte (first + size) bytes ends start count cells changed values stand.1 is before behind)

-- A CHANGE IN VALUES
values-from : (places : List StoredObject) (i byte value bytes values start count : ℕ) (type : AccessType) → Stand places byte value bytes values →
    slice_get places i ≡ Some (stored.Values start count type) → value ≤ start
values-from [] i byte value bytes values start count type stand is = absurd (cc)
values-from (stored.Values first size held ∷ later) zero byte value bytes values start count type stand is =
    let same : first ≡ start = cc in omega (arith, stand.0)
values-from (stored.Bytes first size ∷ later) zero byte value bytes values start count type stand is = absurd (cc)
values-from (stored.Values first size held ∷ later) (suc i) byte value bytes values start count type stand is =
    omega (arith, stand.0, values-from later i byte (first + size) bytes values start count type stand.1 is)
values-from (stored.Bytes first size ∷ later) (suc i) byte value bytes values start count type stand is =
    values-from later i (first + size) value bytes values start count type stand.1 is

values-behind : (places : List StoredObject) (byte value bytes ends : ℕ) (cells : List (Option ℕ)) (values changed : List (Option CValue)) →
    Stand places byte value bytes ends → drop value changed ≡ drop value values → objects_in places cells changed ≡ objects_in places cells values
values-behind [] byte value bytes ends cells values changed stand same = refl
values-behind (stored.Values start count type ∷ later) byte value bytes ends cells values changed stand same =
    let further : drop (start + count) changed ≡ drop (start + count) values =
    ap (λ n. drop (n + count) changed) stand.0 ∙ sym (drop-drop count value changed) ∙ ap (drop count) same ∙ drop-drop count value values ∙ ap (λ n. drop (n + count) values) (sym stand.0) in
    ap (λ held. Values (record { type = access_of type; values = held }) ∷ objects_in later cells changed) (part-behind values changed start count value (omega (arith, stand.0)) same)
    ∙ ap (λ rest. Values (record { type = access_of type; values = part start count values }) ∷ rest) (values-behind later byte (start + count) bytes ends cells values changed stand.1 further)
values-behind (stored.Bytes start count ∷ later) byte value bytes ends cells values changed stand same =
    ap (λ rest. Bytes (part start count cells) ∷ rest) (values-behind later (start + count) value bytes ends cells values changed stand.1 same)

values-changed : (places : List StoredObject) (i byte value bytes ends start count : ℕ) (type : AccessType) (cells : List (Option ℕ)) (values changed : List (Option CValue)) →
    Stand places byte value bytes ends → slice_get places i ≡ Some (stored.Values start count type) →
    take start changed ≡ take start values → drop (start + count) changed ≡ drop (start + count) values →
    objects_in places cells changed ≡ slice_set (objects_in places cells values) i (object_in cells changed (stored.Values start count type))
values-changed [] i byte value bytes ends start count type cells values changed stand is before behind = absurd (cc)
values-changed (stored.Bytes first size ∷ later) zero byte value bytes ends start count type cells values changed stand is before behind = absurd (cc)
values-changed (stored.Values first size held ∷ later) zero byte value bytes ends start count type cells values changed stand is before behind =
    let begins : first ≡ start = cc in
    let long : size ≡ count = cc in
    let end : start + count ≡ first + size = omega arith in
    ap (λ place. object_in cells changed place ∷ objects_in later cells changed) (same-some (stored.Values first size held) (stored.Values start count type) is)
    ∙ ap (λ rest. object_in cells changed (stored.Values start count type) ∷ rest)
    (values-behind later byte (first + size) bytes ends cells values changed stand.1 (ap (λ n. drop n changed) (sym end) ∙ behind ∙ ap (λ n. drop n values) end))
values-changed (stored.Values first size held ∷ later) (suc i) byte value bytes ends start count type cells values changed stand is before behind =
    ap (λ part. Values (record { type = access_of held; values = part }) ∷ objects_in later cells changed)
    (part-before values changed first size start (values-from later i byte (first + size) bytes ends start count type stand.1 is) before)
    ∙ ap (λ rest. Values (record { type = access_of held; values = part first size values }) ∷ rest) (values-changed later i byte (first + size) bytes ends start count type cells values changed stand.1 is before behind)
values-changed (stored.Bytes first size ∷ later) (suc i) byte value bytes ends start count type cells values changed stand is before behind =
    ap (λ rest. Bytes (part first size cells) ∷ rest) (values-changed later i (first + size) value bytes ends start count type cells values changed stand.1 is before behind)

-- A CHANGE OF ONE OBJECT
cells-before : (start count : ℕ) (bytes new : List ℕ) (marks set : List Bool) → length marks ≡ length bytes → SameAround start count bytes new → SameAround start count marks set →
    take start (marked new set) ≡ take start (marked bytes marks)
cells-before start count bytes new marks set same bytes_around marks_around =
    sym (marked-take start new set (marks_around.size ∙ same ∙ sym bytes_around.size))
    ∙ ap (λ front. marked front (take start set)) bytes_around.before ∙ ap (marked (take start bytes)) marks_around.before
    ∙ marked-take start bytes marks same

cells-behind : (start count : ℕ) (bytes new : List ℕ) (marks set : List Bool) → length marks ≡ length bytes → SameAround start count bytes new → SameAround start count marks set →
    drop (start + count) (marked new set) ≡ drop (start + count) (marked bytes marks)
cells-behind start count bytes new marks set same bytes_around marks_around =
    sym (marked-drop (start + count) new set (marks_around.size ∙ same ∙ sym bytes_around.size))
    ∙ ap (λ rest. marked rest (drop (start + count) set)) bytes_around.behind ∙ ap (marked (drop (start + count) bytes)) marks_around.behind
    ∙ marked-drop (start + count) bytes marks same

pub laid-after : (places : List StoredObject) (place : StoredObject) (bytes new : List ℕ) (marks set : List Bool) (values changed : List (Option CValue)) →
    IsLaidOut places bytes marks values → ChangesOnly place bytes marks values new set changed → IsLaidOut places new set changed
laid-after places (stored.Bytes start count) bytes new marks set values changed laid only = record {
  same = only.1.size ∙ laid.same ∙ sym only.0.size;
  stand = subst (λ n. Stand places 0 0 n (length changed)) (sym only.0.size) (subst (λ v. Stand places 0 0 (length bytes) (length v)) (sym only.2) laid.stand);
}
laid-after places (stored.Values start count type) bytes new marks set values changed laid only = record {
  same = ap length only.1 ∙ laid.same ∙ sym (ap length only.0);
  stand = subst (λ b. Stand places 0 0 (length b) (length changed)) (sym only.0) (subst (λ n. Stand places 0 0 (length bytes) n) (sym only.2.size) laid.stand);
}

pub one-changed : (places : List StoredObject) (i : ℕ) (place : StoredObject) (bytes new : List ℕ) (marks set : List Bool) (values changed : List (Option CValue)) →
    IsLaidOut places bytes marks values → slice_get places i ≡ Some place → ChangesOnly place bytes marks values new set changed →
    objects_in places (marked new set) changed ≡ slice_set (objects_in places (marked bytes marks) values) i (object_in (marked new set) changed place)
one-changed places i (stored.Bytes start count) bytes new marks set values changed laid is only =
    ap (objects_in places (marked new set)) only.2
    ∙ bytes-changed places i 0 0 (length bytes) (length values) start count (marked bytes marks) (marked new set) values laid.stand is
    (cells-before start count bytes new marks set laid.same only.0 only.1) (cells-behind start count bytes new marks set laid.same only.0 only.1)
one-changed places i (stored.Values start count type) bytes new marks set values changed laid is only =
    ap (λ bytes. objects_in places (marked bytes set) changed) only.0 ∙ ap (λ marks. objects_in places (marked bytes marks) changed) only.1
    ∙ values-changed places i 0 0 (length bytes) (length values) start count type (marked bytes marks) values changed laid.stand is only.2.before only.2.behind

pub found : (places : List StoredObject) (i : ℕ) (place : StoredObject) (cells : List (Option ℕ)) (values : List (Option CValue)) → slice_get places i ≡ Some place →
    slice_get (objects_in places cells values) i ≡ Some (object_in cells values place)
found places i place cells values is = slice_get-map (object_in cells values) places i ∙ ap (option_map (object_in cells values)) is

pub missing : (places : List StoredObject) (i : ℕ) (cells : List (Option ℕ)) (values : List (Option CValue)) → slice_get places i ≡ None →
    slice_get (objects_in places cells values) i ≡ None
missing places i cells values is = slice_get-map (object_in cells values) places i ∙ ap (option_map (object_in cells values)) is

-- the objects once one of them has changed as a store says
pub stored-at : (store : Option Object → Or Object) (places : List StoredObject) (i : ℕ) (place : StoredObject) (bytes new : List ℕ) (marks set : List Bool)
    (values changed : List (Option CValue)) (result : Result (Unit {0}) CFault) → IsLaidOut places bytes marks values → slice_get places i ≡ Some place →
    Writes (λ object. store (Some object)) place bytes marks values new set changed result →
    Stores (λ objects. after (store (slice_get objects i)) λ object. Ok (slice_set objects i object)) (objects_in places (marked bytes marks) values) (objects_in places (marked new set) changed) result
stored-at store places i place bytes new marks set values changed (Ok done) laid is writes =
    ap (λ known. after (store known) λ object. Ok (slice_set (objects_in places (marked bytes marks) values) i object)) (found places i place (marked bytes marks) values is)
    ∙ ap (λ made. after made λ object. Ok (slice_set (objects_in places (marked bytes marks) values) i object)) writes.0
    ∙ ap Ok (sym (one-changed places i place bytes new marks set values changed laid is writes.1))
stored-at store places i place bytes new marks set values changed (Err fault) laid is writes = (
  ap (λ known. after (store known) λ object. Ok (slice_set (objects_in places (marked bytes marks) values) i object)) (found places i place (marked bytes marks) values is)
      ∙ ap (λ made. after made λ object. Ok (slice_set (objects_in places (marked bytes marks) values) i object)) writes.0,
  ap (λ bytes. objects_in places (marked bytes set) changed) writes.1 ∙ ap (λ marks. objects_in places (marked bytes marks) changed) writes.2 ∙ ap (objects_in places (marked bytes marks)) writes.3,
)

pub laid-written : (store : Object → Or Object) (places : List StoredObject) (place : StoredObject) (bytes new : List ℕ) (marks set : List Bool)
    (values changed : List (Option CValue)) (result : Result (Unit {0}) CFault) → IsLaidOut places bytes marks values →
    Writes store place bytes marks values new set changed result → IsLaidOut places new set changed
laid-written store places place bytes new marks set values changed (Ok done) laid writes = laid-after places place bytes new marks set values changed laid writes.1
laid-written store places place bytes new marks set values changed (Err fault) laid writes =
    subst (λ b. IsLaidOut places b set changed) (sym writes.1) (subst (λ m. IsLaidOut places bytes m changed) (sym writes.2) (subst (IsLaidOut places bytes marks) (sym writes.3) laid))
