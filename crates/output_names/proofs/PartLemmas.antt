-- Where the last part of a name begins, byte by byte.
use Rattle.std.proofs.Common.{◌≡◌, ℕ, suc, ◌+◌, ◌<◌, ◌≤◌, Bool, true, false, List, drop, length, get_or, refl, ap, ◌∙◌, arith}
use Rattle.std.specs.Prelude.{nat_eq, if◌then◌else◌}
use Rattle.std.proofs.Math.Seq.{drop-cons}
use Rattle.std.proofs.lemmas.List.{drop_all}
use Rattle.std.proofs.lemmas.Bool.Decides.{Decides-eqb}
use Rattle.output_names.specs.OutputNames.{last_part_from}

other_false : (a b : ℕ) (same : Bool) → nat_eq a b ≡ same → (a ≡ b → ⊥) → same ≡ false
other_false a b true is other = absurd (other ((Decides-eqb a b).0 is))
other_false a b false is other = refl

chosen : (b c : Bool) (begin place : ℕ) (more : List ℕ) → b ≡ c →
    last_part_from (if b then suc place else begin) (suc place) more ≡ last_part_from (if c then suc place else begin) (suc place) more
chosen b c begin place more is = ap (λ t. last_part_from (if t then suc place else begin) (suc place) more) is

plus_one : (n : ℕ) → suc n ≡ n + 1
plus_one n = omega arith

step : (begin place : ℕ) (bytes : List ℕ) (c : Bool) → place < length bytes → nat_eq (get_or bytes place 0) 47 ≡ c →
    last_part_from begin place (drop place bytes) ≡ last_part_from (if c then suc place else begin) (suc place) (drop (suc place) bytes)
unfolding last_part_from
step begin place bytes c within is =
    ap (last_part_from begin place) (drop-cons bytes place 0 within) ∙ chosen (nat_eq (get_or bytes place 0) 47) c begin place (drop (suc place) bytes) is

next : (begin place : ℕ) (bytes : List ℕ) → last_part_from begin (suc place) (drop (suc place) bytes) ≡ last_part_from begin (place + 1) (drop (place + 1) bytes)
next begin place bytes = ap (λ n. last_part_from begin n (drop n bytes)) (plus_one place)

-- at a slash, and at another byte
pub behind_slash : (begin place : ℕ) (bytes : List ℕ) → place < length bytes → get_or bytes place 0 ≡ 47 →
    last_part_from begin place (drop place bytes) ≡ last_part_from (place + 1) (place + 1) (drop (place + 1) bytes)
behind_slash begin place bytes within slash =
    step begin place bytes true within ((Decides-eqb (get_or bytes place 0) 47).1 slash) ∙ next (suc place) place bytes
    ∙ ap (λ n. last_part_from n (place + 1) (drop (place + 1) bytes)) (plus_one place)

pub behind_other : (begin place : ℕ) (bytes : List ℕ) → place < length bytes → (get_or bytes place 0 ≡ 47 → ⊥) →
    last_part_from begin place (drop place bytes) ≡ last_part_from begin (place + 1) (drop (place + 1) bytes)
behind_other begin place bytes within other =
    step begin place bytes false within (other_false (get_or bytes place 0) 47 (nat_eq (get_or bytes place 0) 47) refl other) ∙ next begin place bytes

pub behind_all : (begin place : ℕ) (bytes : List ℕ) → length bytes ≤ place → last_part_from begin place (drop place bytes) ≡ begin
unfolding last_part_from
behind_all begin place bytes past = ap (last_part_from begin place) (drop_all place bytes past)
