-- An assignment of a text keeps the forms of objects (ANSI X3.9-1978, 10.4).
use Rattle.std.proofs.Common.{◌≡◌, ℕ, ℤ, ◌+◌, ◌≤◌, Bool, true, false, if◌then◌else◌, List, [], ◌∷◌, ◌++◌, length, map, take, drop, Option, Some, None, refl, ap, sym, ◌∙◌, arith, length-append, length-drop}
use Rattle.std.specs.Prelude.{nat_le, slice_set, slice_get, Result, Ok, Err}
use Rattle.std.proofs.lemmas.Bool.Decides.{nat_tests}
use Rattle.std.proofs.lemmas.List.{length-take-le, length-map}
use Rattle.c_tree.specs.declared.outcome.CValue.{CValue}
use Rattle.c_tree.specs.declared.outcome.CValue.TheVariants.{Number, Pointer, Null, Function}
use Rattle.c_tree.specs.declared.outcome.CFault.{CFault}
use Rattle.c_tree.specs.declared.outcome.CFault.TheVariants.{Outside}
use Rattle.c_tree.specs.Faults.{Or, after, failing}
use Rattle.c_tree.specs.Objects.{Object, Bytes, Values, overlaid}
use Rattle.c_tree.specs.Declarations.{unset}
use Rattle.c_tree.specs.World.{World, Reply, Void}
use Rattle.c_tree.specs.Builtins.{s_copy, s_cat}
use Rattle.c_tree.specs.Library.{library}
use Rattle.c_tree.specs.LibraryArguments.{number_through, count_from, length_from, text_at, with_text, store_text, text_stored, fitted}
use Rattle.c_tree.specs.LibraryTexts.{put_text, copied, concatenated, pieces}
use Rattle.run_bytes.specs.Layout.{unset_object}
use Rattle.item_deeds.specs.Forms.{forms, SameForms}
use Rattle.item_deeds.proofs.FormLaws.{one-replaced, unchanged-forms}
use Rattle.f2c_outside.specs.Meaning.{units_of}
use Rattle.library_calls.specs.Answers.{Answers, world_of}

length-overlaid : (offset : ℕ) (new : List ℕ) (bytes : List (Option ℕ)) → offset + length new ≤ length bytes → length (overlaid offset new bytes) ≡ length bytes
length-overlaid offset new bytes within =
    omega (
      arith,
      length-append (take offset bytes ++ map Some new) (drop (offset + length new) bytes),
      length-append (take offset bytes) (map Some new),
      length-take-le offset bytes (omega arith),
      length-map new Some,
      length-drop (offset + length new) bytes,
    )

bytes-tested : (test : Bool) (offset : ℕ) (new : List ℕ) (bytes : List (Option ℕ)) (changed : Object) → nat_le (offset + length new) (length bytes) ≡ test →
    (if test then Ok (Bytes (overlaid offset new bytes)) else failing Outside) ≡ Ok changed → unset_object changed ≡ unset (length bytes)
bytes-tested true offset new bytes changed tested is =
    let made : Bytes (overlaid offset new bytes) ≡ changed = cc in
    let within : offset + length new ≤ length bytes = grind (arith, nat_tests) in
    ap unset_object (sym made) ∙ ap unset (length-overlaid offset new bytes within)
bytes-tested false offset new bytes changed tested is = absurd (cc)

object-kept : (offset : ℕ) (text : List ℕ) (object changed : Object) → with_text offset text (Some object) ≡ Ok changed → unset_object changed ≡ unset_object object
object-kept offset text (Bytes bytes) changed is = bytes-tested (nat_le (offset + length text) (length bytes)) offset text bytes changed refl is
object-kept offset text (Values held) changed is = absurd (cc)

object-set : (objects new : List Object) (i offset : ℕ) (text : List ℕ) (known : Option Object) (made : Or Object) → slice_get objects i ≡ known →
    with_text offset text known ≡ made → after made (λ changed. Ok (slice_set objects i changed)) ≡ Ok new → forms new ≡ forms objects
object-set objects new i offset text None made found is sets = absurd (cc)
object-set objects new i offset text (Some object) (Ok changed) found is sets =
    let set_there : slice_set objects i changed ≡ new = cc in
    ap forms (sym set_there) ∙ one-replaced objects i changed object found (object-kept offset text object changed is)
object-set objects new i offset text (Some object) (Err reason) found is sets = absurd (cc)

store-kept : (objects new : List Object) (at : CValue) (text : List ℕ) → store_text objects at text ≡ Ok new → forms new ≡ forms objects
store-kept objects new (Pointer object offset) text is = object-set objects new object offset text (slice_get objects object) _ refl refl is
store-kept objects new Null text is = absurd (cc)
store-kept objects new (Number number) text is = absurd (cc)
store-kept objects new (Function number) text is = absurd (cc)

text-kept : (objects new : List Object) (at : CValue) (text : List ℕ) → text_stored objects at text ≡ Ok new → forms new ≡ forms objects
text-kept objects new at [] is =
    let same : objects ≡ new = cc in ap forms (sym same)
text-kept objects new at (first ∷ rest) is = store-kept objects new at (first ∷ rest) is

-- the objects of a reply that gives nothing
abbrev objects_in : List Object → Or Reply → List Object
objects_in other (Ok (Void world)) = world.objects
objects_in other reply = other

put-kept : (world : World) (new : List Object) (made : Or (List Object)) → after made (λ objects. Ok (Void (record world { objects = objects }))) ≡ Ok (Void (record world { objects = new })) →
    made ≡ Ok new
put-kept world new (Ok changed) is = ap (λ (reply : Or Reply). Ok (objects_in new reply)) is
put-kept world new (Err reason) is = absurd (cc)

put-forms : (world : World) (new : List Object) (target : CValue) (size : ℕ) (text : List ℕ) → put_text world target size text ≡ Ok (Void (record world { objects = new })) →
    forms new ≡ forms world.objects
put-forms world new target size text is =
    text-kept world.objects new target (fitted size text) (put-kept world new (text_stored world.objects target (fitted size text)) is)

copied-forms : (world : World) (new : List Object) (target : CValue) (size : Or ℕ) (count : Or ℕ) (texts : ℕ → Or (List ℕ)) →
    after size (λ s. after count (λ n. after (texts n) (λ text. put_text world target s text))) ≡ Ok (Void (record world { objects = new })) → forms new ≡ forms world.objects
copied-forms world new target (Err reason) count texts is = absurd (cc)
copied-forms world new target (Ok size) (Err reason) texts is = absurd (cc)
copied-forms world new target (Ok size) (Ok count) texts is = found (texts count) is
  where
    found : (text : Or (List ℕ)) → after text (λ text. put_text world target size text) ≡ Ok (Void (record world { objects = new })) → forms new ≡ forms world.objects
    found (Ok text) is = put-forms world new target size text is
    found (Err reason) is = absurd (cc)

joined-forms : (world : World) (new : List Object) (target : CValue) (number : Or ℤ) (many : ℤ → Or ℕ) (size : Or ℕ) (texts : ℕ → Or (List ℕ)) →
    after number (λ z. after (many z) (λ n. after size (λ s. after (texts n) (λ text. put_text world target s text)))) ≡ Ok (Void (record world { objects = new })) →
    forms new ≡ forms world.objects
joined-forms world new target (Err reason) many size texts is = absurd (cc)
joined-forms world new target (Ok number) many (Err reason) texts is = counted (many number) is
  where
    counted : (count : Or ℕ) → after count (λ n. Err reason) ≡ Ok (Void (record world { objects = new })) → forms new ≡ forms world.objects
    counted (Ok count) is = absurd (cc)
    counted (Err other) is = absurd (cc)
joined-forms world new target (Ok number) many (Ok size) texts is = counted (many number) is
  where
    found : (text : Or (List ℕ)) → after text (λ text. put_text world target size text) ≡ Ok (Void (record world { objects = new })) → forms new ≡ forms world.objects
    found (Ok text) is = put-forms world new target size text is
    found (Err reason) is = absurd (cc)

    counted : (count : Or ℕ) → after count (λ n. after (texts n) (λ text. put_text world target size text)) ≡ Ok (Void (record world { objects = new })) → forms new ≡ forms world.objects
    counted (Ok count) is = found (texts count) is
    counted (Err reason) is = absurd (cc)

pub assign-forms : (old new : List Object) (target source target_length source_length : CValue) (answer : Result (Unit {0}) CFault) →
    Answers (λ done. Void) s_copy (target ∷ source ∷ target_length ∷ source_length ∷ []) old new answer → SameForms old new
unfolding library copied
assign-forms old new target source target_length source_length (Ok done) answers = record {
  same = copied-forms (world_of old (units_of []) None) new target (length_from target_length) (length_from source_length) (λ count. text_at old source count) (answers (units_of []) None);
}
assign-forms old new target source target_length source_length (Err fault) answers = unchanged-forms old new answers.1

pub join-forms : (old new : List Object) (target addresses lengths count target_length : CValue) (answer : Result (Unit {0}) CFault) →
    Answers (λ done. Void) s_cat (target ∷ addresses ∷ lengths ∷ count ∷ target_length ∷ []) old new answer → SameForms old new
unfolding library concatenated
join-forms old new target addresses lengths count target_length (Ok done) answers = record {
  same =
      joined-forms (world_of old (units_of []) None) new target (number_through old count) count_from (length_from target_length) (λ many. pieces old addresses lengths many)
      (answers (units_of []) None);
}
join-forms old new target addresses lengths count target_length (Err fault) answers = unchanged-forms old new answers.1
