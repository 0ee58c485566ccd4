-- The C expressions that are passed for places, and those for parts of texts, point where the places stand.
use Rattle.std.specs.Prelude.{◌≡◌, ◌+◌, ◌*◌, Some}
use Rattle.std.proofs.Common.{refl, sym, ◌∙◌, subst, arith}
use Rattle.c_laws.specs.c_tree.declared.outcome.CValue.TheVariants.{Pointer}
use Rattle.c_laws.specs.c_tree.Access.{ToChar, ToPointer}
use Rattle.c_laws.specs.c_tree.Objects.{Bytes}
use Rattle.c_laws.specs.c_tree.Terms.{Variable}
use Rattle.c_image.specs.Addresses.{access_to, pointer_object, text_term}
use Rattle.c_image.specs.Elements.{sum_term}
use Rattle.c_image_laws.specs.Meanings.{Points}
use Rattle.c_image_laws.specs.Statements.{ParametersArePassedOn, TextPartsPoint}
use Rattle.c_image_laws.proofs.AddressValues.{Parameter-points}
use Rattle.c_image_laws.proofs.PlaceValues.{has_object, text_points}
use Rattle.c_image_laws.proofs.TermValues.{sum_points}

pub parameters_are_passed_on : ParametersArePassedOn
parameters_are_passed_on μ s objects p parameter object stands reaches at =
    let same : reaches.0 ≡ object = (let both : Some reaches.0 ≡ Some object = sym reaches.1 ∙ at in cc) in
    subst (λ k. Points objects (Variable parameter (ToPointer (access_to p.basic))) k p.first (access_to p.basic)) same
    (Parameter-points objects parameter reaches.0 p.first p.basic (stands.held parameter (pointer_object (access_to p.basic) (Pointer reaches.0 p.first)) reaches.2))

pub text_parts_point : TextPartsPoint
text_parts_point μ s objects p address object count distance stands sound basic reaches at fits counts =
    let has = has_object μ s objects p.sequence object stands sound.there at in
    let room = has.room in
    let same : p.first + count * 1 ≡ p.first + count = omega arith in
    subst (λ place. Points objects (sum_term (text_term address) distance) object place ToChar) same
    (sum_points objects (text_term address) distance object p.first count 1 ToChar (Bytes has.bytes) (text_points μ s objects p address object stands sound basic reaches at) counts refl has.is
    (omega (arith, fits, room)))
