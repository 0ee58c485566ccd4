use Rattle.std.proofs.Common.{ap, ◌∙◌, ◌+◌, ◌<◌, map, sym, subst}
use Rattle.std.proofs.lemmas.List.{length-map}
use Rattle.small_instance.specs.SourceLanguage.{text_of}
use Rattle.small_instance.specs.TargetLanguage.{code_of}
use Rattle.small_instance.specs.Translation.{longest}
use Rattle.small_instance.proofs.Whole.{translates_as}
use Rattle.small_instance.proofs.translate.translate.Goals as goal

pub returns : goal.returns
returns c =
    translates_as (map text_of c.args.units.now) (map code_of c.in_ok-functions.functions.items) (c.longest-factor.result + 2)
    (subst (λ n. 0 < n) (sym (length-map c.args.units.now text_of)) c.requires.main)
    c.in_ok-functions.ensures
    (ap (λ n. n + 2) (c.longest-factor.ensures.same ∙ ap (λ fs. longest (map code_of fs)) c.deref.ensures.value))
