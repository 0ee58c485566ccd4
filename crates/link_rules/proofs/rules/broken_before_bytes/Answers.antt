use Rattle.std.proofs.Common.{◌≡◌, sym, ap, ◌∙◌, ℕ, Bool, ◌||◌, List, Option}
use Rattle.c_tree.specs.declared.file.CFile.{CFile}
use Rattle.c_tree.specs.Linking.{all_functions, function_names, routines, lacks_main, defined_again, repeats, all_imaged, any_of, misses, broken_rule, first_broken_rule}
use Rattle.expression_linker.specs.StringsSeen.{texts}
use Rattle.first_names.specs.FirstNames.{first_of}
use Rattle.link_rules.specs.Rules.{or_bytes, has_too_many_bytes}
use Rattle.link_rules.specs.declared.rules.LinkRule.{LinkRule}
use Rattle.link_rules.proofs.rules.broken_before_bytes.Goals as goal

-- the first rule that is broken, by what was found of each
by_parts : (files : List CFile) (names defined : List (List ℕ)) (numbers : List ℕ → Option ℕ) (main again missing : Bool) (broken : Option LinkRule) → names ≡ function_names (all_functions files) →
    defined ≡ function_names (all_functions files) → ((q : List ℕ) → numbers q ≡ routines names q) → main ≡ lacks_main (all_functions files) → again ≡ (defined_again defined || repeats (all_imaged files)) →
    missing ≡ any_of (misses numbers) (all_functions files) → ((many : Bool) → broken_rule main again missing many ≡ or_bytes broken many) → first_broken_rule files ≡ or_bytes broken (has_too_many_bytes files)
unfolding first_broken_rule
by_parts files names defined numbers main again missing broken are these numbered is_main is_again is_missing is_broken =
    let functions = all_functions files in
    let second : again ≡ (defined_again (function_names functions) || repeats (all_imaged files)) = is_again ∙ ap (λ z. defined_again z || repeats (all_imaged files)) these in
    let third : missing ≡ any_of (misses (routines (function_names functions))) functions =
    is_missing ∙ ap (λ t. any_of (misses t) functions) (λ i q. numbered q i) ∙ ap (λ z. any_of (misses (routines z)) functions) are in
    (λ i. broken_rule (sym is_main i) (sym second i) (sym third i) (has_too_many_bytes files)) ∙ is_broken (has_too_many_bytes files)

pub returns : goal.returns
returns c =
    by_parts c.args.files.now (texts c.as_slice.result.now) (texts c.as_slice-2.result.now) (first_of c.in_ok-numbers.numbers) c.lacks_main-main.result c.in_ok-again.again c.in_ok-missing.missing
    c.first_broken.result (ap (λ z. texts z) c.as_slice.ensures.value ∙ c.in_ok-defined.ensures) (ap (λ z. texts z) c.as_slice-2.ensures.value ∙ c.in_ok-defined.ensures) c.in_ok-numbers.ensures
    c.lacks_main-main.ensures c.in_ok-again.ensures c.in_ok-missing.ensures c.first_broken.ensures
