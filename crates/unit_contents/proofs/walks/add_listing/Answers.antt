use Rattle.std.proofs.Common.{◌++◌, [], ◌∷◌, map, refl, sym, rules, ap, ◌∙◌}
use mir.Syntax.{w32}
use mir.Val.{SFits}
use Rattle.std.proofs.lemmas.Int.{to_z-of_z}
use Rattle.main_translation.specs.Contents.{listing_by}
use Rattle.unit_contents.specs.ContentsOf.{listing_of}
use Rattle.unit_contents.proofs.WalkLaws.{listing_put, listing_kept}
use Rattle.unit_contents.proofs.walks.add_listing.Goals as goal

pub returns-in_ok-push : goal.returns-in_ok-push
returns-in_ok-push c =
    let fits : SFits w32 c.in-Some.unit = search rules in
    let lists = c.args.lists.now.items in
    listing_put c.args.step c.in-Some.unit lists _
    (c.in_ok-push.ensures.items ∙ ap (λ z. lists ++ record { step = c.args.step; unit = z } ∷ []) (to_z-of_z w32 c.in-Some.unit fits))
    ∙ ap (λ u. map listing_of lists ++ listing_by c.args.step u) (sym c.in-Some.is)

pub returns-in_default : goal.returns-in_default
returns-in_default c =
    listing_kept c.args.step c.args.lists.now.items _ refl ∙ ap (λ u. map listing_of c.args.lists.now.items ++ listing_by c.args.step u) (sym c.in_default.is)
