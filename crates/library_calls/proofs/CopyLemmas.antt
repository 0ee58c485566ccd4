-- A text at the start of a buffer, and where it is stored.
use Rattle.std.proofs.Common.{◌≡◌, ℕ, ◌+◌, ◌-◌, ◌≤◌, ◌<◌, List, [], ◌∷◌, ◌++◌, length, take, replicate, Option, Some, None, false, refl, ap, ◌∙◌, arith, length-append}
use Rattle.std.specs.Prelude.{Ok, slice_get, slice_set, nat_le, if◌then◌else◌}
use Rattle.std.proofs.lemmas.Bool.Decides.{nat_tests}
use Rattle.std.proofs.lemmas.List.{length-take, length-replicate}
use Rattle.std.proofs.lemmas.Slice.{take-put_mid}
use borrow.Rule.Slice.PartMut.{put_mid}
use Rattle.c_tree.specs.declared.outcome.CValue.{CValue}
use Rattle.c_tree.specs.declared.outcome.CValue.TheVariants.{Number, Pointer, Null, Function}
use Rattle.c_tree.specs.declared.outcome.CFault.TheVariants.{Kind, Outside}
use Rattle.c_tree.specs.Faults.{Or, after, failing}
use Rattle.c_tree.specs.Objects.{Object, Bytes, Values, Held, with_bytes, overlaid}
use Rattle.c_tree.specs.LibraryArguments.{fitted, with_text, store_text, text_stored}
use Rattle.run_bytes.specs.Layout.{held_type}
use Rattle.c_tree.specs.Access.{Access}
use Rattle.library_calls.specs.Room.{HasRoom}

length-fitted : (size : ℕ) (text : List ℕ) → length (fitted size text) ≡ size
length-fitted size text =
    length-take size (text ++ replicate (size - length text) 32)
    ∙ (let blanks : length (text ++ replicate (size - length text) 32) ≡ length text + (size - length text) =
    length-append text (replicate (size - length text) 32) ∙ ap (λ n. length text + n) (length-replicate (size - length text) 32) in omega arith)

pub overlong : (limit size : ℕ) (text : List ℕ) → limit < size → limit < length (fitted size text)
overlong limit size text h = omega (arith, length-fitted size text)

-- a text that is copied into the start of a buffer
pub front-fitted : (buffer new text : List ℕ) (size : ℕ) → size ≤ length buffer → new ≡ fitted (length (take size buffer)) text →
    take size (put_mid 0 size buffer new) ≡ fitted size text
front-fitted buffer new text size fits is =
    let wide : length (take size buffer) ≡ size = omega (arith, length-take size buffer) in
    let same : new ≡ fitted size text = is ∙ ap (λ n. fitted n text) wide in
    take-put_mid 0 size buffer new size (omega (arith, ap length same, length-fitted size text)) (omega arith) ∙ same

-- where a text is longer than each object
too-long : (bytes : List (Option ℕ)) (offset : ℕ) (text : List ℕ) → length bytes < length text → with_bytes offset text bytes ≡ failing Outside
too-long bytes offset text longer =
    let test : nat_le (offset + length text) (length bytes) ≡ false = grind (arith, nat_tests) in
    ap (λ fits. if fits then Ok (Bytes (overlaid offset text bytes)) else failing Outside) test

not-stored : (objects : List Object) (object offset : ℕ) (text : List ℕ) (fault : Or Object) → with_text offset text (slice_get objects object) ≡ fault →
    store_text objects (Pointer object offset) text ≡ after fault (λ changed. Ok (slice_set objects object changed))
not-stored objects object offset text fault is = ap (λ changed. after changed (λ changed. Ok (slice_set objects object changed))) is

-- a text with a byte is stored where its pointer points to
is-access : (objects : List Object) (pointer : CValue) (text : List ℕ) → 0 < length text → text_stored objects pointer text ≡ store_text objects pointer text
is-access objects pointer [] some = absurd (omega arith)
is-access objects pointer (first ∷ rest) some = refl

pub outside-bytes : (objects : List Object) (object offset size : ℕ) (text : List ℕ) (bytes : List (Option ℕ)) → HasRoom size objects → size < length text →
    slice_get objects object ≡ Some (Bytes bytes) → text_stored objects (Pointer object offset) text ≡ failing Outside
outside-bytes objects object offset size text bytes room longer is =
    let fits : length bytes ≤ size = room object (Bytes bytes) is in
    is-access objects (Pointer object offset) text (omega arith)
    ∙ not-stored objects object offset text (failing Outside) (ap (with_text offset text) is ∙ too-long bytes offset text (omega arith))

pub outside-all : (objects : List Object) (object offset size : ℕ) (text : List ℕ) → size < length text →
    slice_get objects object ≡ None → text_stored objects (Pointer object offset) text ≡ failing Outside
outside-all objects object offset size text longer is =
    is-access objects (Pointer object offset) text (omega arith)
    ∙ not-stored objects object offset text (failing Outside) (ap (with_text offset text) is)

pub in-values : (objects : List Object) (object offset size : ℕ) (text : List ℕ) (held : Held) → size < length text →
    slice_get objects object ≡ Some (Values held) → text_stored objects (Pointer object offset) text ≡ failing Kind
in-values objects object offset size text held longer is =
    is-access objects (Pointer object offset) text (omega arith)
    ∙ not-stored objects object offset text (failing Kind) (ap (with_text offset text) is)

long-in : (objects : List Object) (object offset size : ℕ) (text : List ℕ) (found : Option Object) → slice_get objects object ≡ found → None ≡ held_type found →
    HasRoom size objects → size < length text → text_stored objects (Pointer object offset) text ≡ failing Outside
long-in objects object offset size text None is bytes room longer = outside-all objects object offset size text longer is
long-in objects object offset size text (Some (Bytes cells)) is bytes room longer = outside-bytes objects object offset size text cells room longer is
long-in objects object offset size text (Some (Values held)) is bytes room longer = absurd (cc)

pub long-in-bytes : (objects : List Object) (target : CValue) (object offset size : ℕ) (text : List ℕ) → target ≡ Pointer object offset → None ≡ held_type (slice_get objects object) →
    HasRoom size objects → size < length text → text_stored objects target text ≡ failing Outside
long-in-bytes objects target object offset size text at bytes room longer =
    ap (λ target. text_stored objects target text) at ∙ long-in objects object offset size text (slice_get objects object) refl bytes room longer

long-into : (objects : List Object) (object offset size : ℕ) (text : List ℕ) (found : Option Object) (type : Access) → slice_get objects object ≡ found → Some type ≡ held_type found →
    size < length text → text_stored objects (Pointer object offset) text ≡ failing Kind
long-into objects object offset size text None type is values longer = absurd (cc)
long-into objects object offset size text (Some (Bytes cells)) type is values longer = absurd (cc)
long-into objects object offset size text (Some (Values held)) type is values longer = in-values objects object offset size text held longer is

pub long-in-values : (objects : List Object) (target : CValue) (object offset size : ℕ) (text : List ℕ) (type : Access) → target ≡ Pointer object offset →
    Some type ≡ held_type (slice_get objects object) → size < length text → text_stored objects target text ≡ failing Kind
long-in-values objects target object offset size text type at values longer =
    ap (λ target. text_stored objects target text) at ∙ long-into objects object offset size text (slice_get objects object) type refl values longer

pub long-at-null : (objects : List Object) (target : CValue) (size : ℕ) (text : List ℕ) → target ≡ Null → size < length text → text_stored objects target text ≡ failing Outside
long-at-null objects target size text at longer =
    ap (λ target. text_stored objects target text) at ∙ is-access objects Null text (omega arith)

pub long-elsewhere : (objects : List Object) (target : CValue) (size : ℕ) (text : List ℕ) → ((object offset : ℕ) → target ≡ Pointer object offset → ⊥) → (target ≡ Null → ⊥) → size < length text →
    text_stored objects target text ≡ failing Kind
long-elsewhere objects (Pointer object offset) size text pointer null longer = absurd (pointer object offset refl)
long-elsewhere objects Null size text pointer null longer = absurd (null refl)
long-elsewhere objects (Number number) size text pointer null longer = is-access objects (Number number) text (omega arith)
long-elsewhere objects (Function number) size text pointer null longer = is-access objects (Function number) text (omega arith)
