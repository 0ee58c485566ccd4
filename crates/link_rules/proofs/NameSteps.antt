-- Names that stand twice, as a loop over them finds them.
use Rattle.std.proofs.Common.{◌≡◌, ◌∙◌, ℕ, ◌+◌, ◌<◌, ◌≤◌, Bool, true, false, ◌||◌, List, [], length, drop, get_or, bytes_eq}
use Rattle.std.specs.Borrow.{Bor}
use Rattle.expression_linker.specs.StringsSeen.{texts}
use Rattle.link_rules.specs.Definitions.{repeats_from}
use Rattle.link_rules.proofs.AnyLaws.{at-drop, at-end}
use Rattle.link_rules.proofs.RuleLaws.{repeats-here, repeats-step}

-- what a place behind the last name is taken to have
abbrev pub no_name : Bor (List ℕ)
no_name = record { ref_ptr = (0, 0); now = [] }

pub repeats-found : (seen : List ℕ → Bool) (names : List (Bor (List ℕ))) (i : ℕ) → i < length names → seen (get_or names i no_name).now ≡ true →
    repeats_from seen (texts (drop i names)) ≡ true
repeats-found seen names i h is =
    at-drop (λ zs. repeats_from seen (texts zs)) names i no_name h ∙ repeats-here seen (get_or names i no_name).now (texts (drop (i + 1) names)) is

pub repeats-next : (seen now : List ℕ → Bool) (names : List (Bor (List ℕ))) (i : ℕ) → i < length names → seen (get_or names i no_name).now ≡ false →
    ((q : List ℕ) → now q ≡ (seen q || bytes_eq q (get_or names i no_name).now)) →
    repeats_from seen (texts (drop i names)) ≡ repeats_from now (texts (drop (i + 1) names))
repeats-next seen now names i h is after =
    at-drop (λ zs. repeats_from seen (texts zs)) names i no_name h ∙ repeats-step seen now (get_or names i no_name).now (texts (drop (i + 1) names)) is after

pub repeats-last : (seen : List ℕ → Bool) (names : List (Bor (List ℕ))) (i : ℕ) → length names ≤ i → repeats_from seen (texts (drop i names)) ≡ false
repeats-last seen names i h = at-end (λ zs. repeats_from seen (texts zs)) names i h
