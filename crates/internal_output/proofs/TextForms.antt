-- A text that is stored keeps the forms of objects (C89, 3.1.2.5).
use Rattle.std.proofs.Common.{◌≡◌, ℕ, ◌+◌, ◌≤◌, Bool, true, false, if◌then◌else◌, List, [], ◌∷◌, length, Option, Some, None, refl, ap, sym, ◌∙◌, arith}
use Rattle.std.specs.Prelude.{nat_le, slice_set, slice_get, Result, Ok, Err}
use Rattle.std.proofs.lemmas.Bool.Decides.{nat_tests}
use Rattle.c_tree.specs.declared.outcome.CValue.{CValue}
use Rattle.c_tree.specs.declared.outcome.CValue.TheVariants.{Number, Pointer, Null, Function}
use Rattle.c_tree.specs.declared.outcome.CFault.{CFault}
use Rattle.c_tree.specs.declared.outcome.CFault.TheVariants.{Outside}
use Rattle.c_tree.specs.Faults.{Or, after, failing}
use Rattle.c_tree.specs.Objects.{Object, Bytes, Values, overlaid}
use Rattle.c_tree.specs.Declarations.{unset}
use Rattle.c_tree.specs.LibraryArguments.{with_text, store_text, text_stored}
use Rattle.run_bytes.specs.Layout.{Stores, unset_object}
use Rattle.item_deeds.specs.Forms.{forms, SameForms}
use Rattle.item_deeds.proofs.FormLaws.{one-replaced, unchanged-forms}
use Rattle.internal_output.proofs.TextParts.{length-overlaid}

bytes-tested : (test : Bool) (offset : ℕ) (new : List ℕ) (bytes : List (Option ℕ)) (changed : Object) → nat_le (offset + length new) (length bytes) ≡ test →
    (if test then Ok (Bytes (overlaid offset new bytes)) else failing Outside) ≡ Ok changed → unset_object changed ≡ unset (length bytes)
bytes-tested true offset new bytes changed tested is =
    let made : Bytes (overlaid offset new bytes) ≡ changed = cc in
    let within : offset + length new ≤ length bytes = grind (arith, nat_tests) in
    ap unset_object (sym made) ∙ ap unset (length-overlaid offset new bytes within)
bytes-tested false offset new bytes changed tested is = absurd (cc)

object-kept : (offset : ℕ) (text : List ℕ) (object changed : Object) → with_text offset text (Some object) ≡ Ok changed → unset_object changed ≡ unset_object object
object-kept offset text (Bytes bytes) changed is = bytes-tested (nat_le (offset + length text) (length bytes)) offset text bytes changed refl is
object-kept offset text (Values held) changed is = absurd (cc)

object-set : (objects new : List Object) (i offset : ℕ) (text : List ℕ) (known : Option Object) (made : Or Object) → slice_get objects i ≡ known →
    with_text offset text known ≡ made → after made (λ changed. Ok (slice_set objects i changed)) ≡ Ok new → forms new ≡ forms objects
object-set objects new i offset text None made found is sets = absurd (cc)
object-set objects new i offset text (Some object) (Ok changed) found is sets =
    let set_there : slice_set objects i changed ≡ new = cc in
    ap forms (sym set_there) ∙ one-replaced objects i changed object found (object-kept offset text object changed is)
object-set objects new i offset text (Some object) (Err reason) found is sets = absurd (cc)

store-kept : (objects new : List Object) (at : CValue) (text : List ℕ) → store_text objects at text ≡ Ok new → forms new ≡ forms objects
store-kept objects new (Pointer object offset) text is = object-set objects new object offset text (slice_get objects object) _ refl refl is
store-kept objects new Null text is = absurd (cc)
store-kept objects new (Number number) text is = absurd (cc)
store-kept objects new (Function number) text is = absurd (cc)

text-kept : (objects new : List Object) (at : CValue) (text : List ℕ) → text_stored objects at text ≡ Ok new → forms new ≡ forms objects
text-kept objects new at [] is =
    let same : objects ≡ new = cc in ap forms (sym same)
text-kept objects new at (first ∷ rest) is = store-kept objects new at (first ∷ rest) is

pub text-forms : (old new : List Object) (at : CValue) (text : List ℕ) (result : Result (Unit {0}) CFault) → Stores (λ all. text_stored all at text) old new result → SameForms old new
text-forms old new at text (Ok done) stores = record { same = text-kept old new at text stores }
text-forms old new at text (Err fault) stores = unchanged-forms old new stores.1
