-- Bytes that are taken from those that a program may have.
use Rattle.std.proofs.Common.{◌≡◌, refl, ap, sym, ◌∙◌, ℕ, ◌+◌, ◌-◌, ◌<◌, ◌≤◌, Bool, true, false, true≢false, List, map, length, drop, get_or, nat_lt, arith}
use Rattle.std.proofs.lemmas.Bool.{ltb-true, lt-ltb}
use Rattle.c_tree.specs.Linking.{bytes_of_object, bytes_of_objects}
use Rattle.linked_programs.specs.declared.objects.LinkedObject.{LinkedObject}
use Rattle.linked_programs.specs.LinkedPrograms.{object_of}
use Rattle.link_rules.proofs.AnyLaws.{at-drop, at-end}

same_tests : (a b : Bool) → (a ≡ true → b ≡ true) → (b ≡ true → a ≡ true) → a ≡ b
same_tests true b one other = sym (one refl)
same_tests false true one other = absurd (true≢false (sym (other refl)))
same_tests false false one other = refl

same_less : (a b m n : ℕ) → (a < b → m < n) → (m < n → a < b) → nat_lt a b ≡ nat_lt m n
same_less a b m n one other =
    same_tests (nat_lt a b) (nat_lt m n) (λ h. lt-ltb m n (one (ltb-true a b h))) (λ h. lt-ltb a b (other (ltb-true m n h)))

taken : (left bytes rest : ℕ) → bytes ≤ left → nat_lt left (bytes + rest) ≡ nat_lt (left - bytes) rest
taken left bytes rest h = same_less left (bytes + rest) (left - bytes) rest (λ g. omega (arith, g, h)) (λ g. omega (arith, g, h))

too_large : (left bytes rest : ℕ) → left < bytes → nat_lt left (bytes + rest) ≡ true
too_large left bytes rest h = lt-ltb left (bytes + rest) (omega (arith, h))

none : (left : ℕ) → nat_lt left 0 ≡ false
none left = same_tests (nat_lt left 0) false (λ h. absurd (let g = ltb-true left 0 h in omega (arith, g))) (λ h. absurd (true≢false (sym h)))

-- the next object takes its bytes
pub bytes-step : (objects : List LinkedObject) (i left bytes : ℕ) (d : LinkedObject) → i < length objects → bytes ≡ bytes_of_object (object_of (get_or objects i d)) → bytes ≤ left →
    nat_lt left (bytes_of_objects (map object_of (drop i objects))) ≡ nat_lt (left - bytes) (bytes_of_objects (map object_of (drop (i + 1) objects)))
bytes-step objects i left bytes d h is within =
    at-drop (λ zs. nat_lt left (bytes_of_objects (map object_of zs))) objects i d h
    ∙ ap (λ n. nat_lt left (n + bytes_of_objects (map object_of (drop (i + 1) objects)))) (sym is)
    ∙ taken left bytes (bytes_of_objects (map object_of (drop (i + 1) objects))) within

pub bytes-end : (objects : List LinkedObject) (i left : ℕ) → length objects ≤ i → nat_lt left (bytes_of_objects (map object_of (drop i objects))) ≡ false
bytes-end objects i left h = at-end (λ zs. nat_lt left (bytes_of_objects (map object_of zs))) objects i h ∙ none left

pub bytes-over : (objects : List LinkedObject) (i left bytes : ℕ) (d : LinkedObject) → i < length objects → bytes ≡ bytes_of_object (object_of (get_or objects i d)) → left < bytes →
    nat_lt left (bytes_of_objects (map object_of (drop i objects))) ≡ true
bytes-over objects i left bytes d h is over =
    at-drop (λ zs. nat_lt left (bytes_of_objects (map object_of zs))) objects i d h
    ∙ ap (λ n. nat_lt left (n + bytes_of_objects (map object_of (drop (i + 1) objects)))) (sym is)
    ∙ too_large left bytes (bytes_of_objects (map object_of (drop (i + 1) objects))) over

pub ruleset byte_laws = (bytes-step, bytes-end, bytes-over)
