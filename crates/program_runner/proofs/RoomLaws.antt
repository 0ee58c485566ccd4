-- Room for the texts that the library puts together, from step to step.
use Rattle.std.proofs.Common.{◌≡◌, ℕ, ◌≤◌, List, Option, Some, None, refl, ap, sym, ◌∙◌, subst}
use Rattle.std.specs.Prelude.{slice_get, option_map}
use Rattle.std.proofs.lemmas.List.{length-replicate}
use Rattle.std.proofs.lemmas.Option.{slice_get-map}
use Rattle.c_tree.specs.Objects.{Object, Bytes, Values, extent}
use Rattle.run_bytes.specs.Layout.{unset_object}
use Rattle.item_deeds.specs.Forms.{SameForms}
use Rattle.run_library.specs.Room.{HasRoom}

unset-extent : (object : Object) → extent (unset_object object) ≡ extent object
unset-extent (Bytes bytes) = length-replicate _ _
unset-extent (Values held) = length-replicate _ _

same-extent : (new old : Object) → unset_object new ≡ unset_object old → extent old ≡ extent new
same-extent new old same = sym (unset-extent old) ∙ ap extent (sym same) ∙ unset-extent new

found-room : (size number : ℕ) (old : List Object) (object : Object) (found : Option Object) → slice_get old number ≡ found → option_map unset_object found ≡ Some (unset_object object) → HasRoom size old → extent object ≤ size
found-room size number old object None is same room = absurd (cc)
found-room size number old object (Some before) is same room =
    let alike : unset_object object ≡ unset_object before = cc in
    subst (λ count. count ≤ size) (same-extent object before alike) (room number before is)

-- the objects keep their numbers of bytes or values
pub room-kept : (size : ℕ) (old new : List Object) → HasRoom size old → SameForms old new → HasRoom size new
room-kept size old new room same = λ number object is.
    found-room size number old object (slice_get old number) refl
    (sym (slice_get-map unset_object old number) ∙ ap (λ all. slice_get all number) (sym same.same) ∙ slice_get-map unset_object new number ∙ ap (option_map unset_object) is)
    room

pub room-further : (size first : ℕ) (old new : List Object) → HasRoom first old → SameForms old new → size ≡ first → HasRoom size new
room-further size first old new room same is = subst (λ size. HasRoom size new) (sym is) (room-kept first old new room same)
