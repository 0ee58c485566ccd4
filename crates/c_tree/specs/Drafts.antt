-- What a part of a text becomes when it is linked: a function of the names in scope and of the number of its
-- first string's object. Its strings, from the left, have the numbers that follow.
use Rattle.std.specs.Prelude.{ℕ, ◌+◌, List, [], ◌++◌, length}
use Rattle.c_tree.specs.Terms.{Term}

-- what each name stands for; one that is not declared is `Unknown`
abbrev pub Scope : Type 0
Scope = List ℕ → Term

pub record Draft (A : Type 0) : Type 0 where
  -- the bytes of its strings
  pub strings : List (List ℕ)
  -- the names that it mentions
  pub names : List (List ℕ)
  pub drawn : Scope → ℕ → A

-- what has no strings and no names
abbrev pub bare : {A : Type 0} → A → Draft A
bare result = record { strings = []; names = []; drawn = λ scope first. result }

abbrev pub drafted : {A B : Type 0} → (A → B) → Draft A → Draft B
drafted make part = record {
  strings = part.strings;
  names = part.names;
  drawn = λ scope first. make (part.drawn scope first);
}

-- two parts, the first on the left
abbrev pub joined : {A B C : Type 0} → (A → B → C) → Draft A → Draft B → Draft C
joined make left right = record {
  strings = left.strings ++ right.strings;
  names = left.names ++ right.names;
  drawn = λ scope first. make (left.drawn scope first) (right.drawn scope (first + length left.strings));
}

-- three parts, from the left
abbrev pub joined_three : {A B C D : Type 0} → (A → B → C → D) → Draft A → Draft B → Draft C → Draft D
joined_three {A} {B} {C} {D} make left middle right =
    joined {A = C → D} (λ rest last. rest last) (joined (λ first second third. make first second third) left middle) right
