-- The frames of the functions of linked data (C89, 3.1.2.4 and 3.7.1).
use Rattle.std.proofs.Common.{◌≡◌, ap, sym, ◌∙◌, subst, ℕ, zero, suc, ◌+◌, ◌<◌, ◌≤◌, ◌^◌, List, [], ◌∷◌, map, length, take, drop, Some, arith}
use Rattle.std.specs.Prelude.{slice_get}
use Rattle.std.proofs.lemmas.List.{length-map}
use Rattle.c_tree.specs.declared.file.CFile.{CFile}
use Rattle.c_tree.specs.Objects.{Object}
use Rattle.c_tree.specs.Linking.{Program, program}
use Rattle.run_bytes.specs.Accesses.{object_at_first}
use Rattle.linked_programs.specs.LinkedPrograms.{object_of, function_of, program_of}
use Rattle.linked_programs.specs.declared.functions.LinkedFunction.{LinkedFunction}
use Rattle.linked_programs.specs.declared.programs.LinkedProgram.{LinkedProgram}
use Rattle.item_deeds.specs.Forms.{forms}
use Rattle.call_frames.specs.Frames.{HasFrame}
use Rattle.program_runner.specs.Outcomes.{FramesStand}
use Rattle.runnable_programs.specs.FunctionFrames.{FrameIn}
use Rattle.runnable_programs.proofs.FrameLaws.{program-frames}

some_same : {A : Type 0} (a b : A) → Some a ≡ Some b → a ≡ b
some_same a b h = cc

map_at : {A B : Type 0} (f : A → B) (xs : List A) (i : ℕ) (x : A) → slice_get xs i ≡ Some x → slice_get (map f xs) i ≡ Some (f x)
map_at f [] i x at = absurd (cc)
map_at f (y ∷ xs) zero x at = ap Some (ap f (some_same y x at))
map_at f (y ∷ xs) (suc i) x at = map_at f xs i x at

data-frame : (own : ℕ) (function : LinkedFunction) (objects : List Object) → length objects < 2 ^ 64 → FrameIn objects (function_of own function) → HasFrame function objects
data-frame own function objects bound h =
    let count : length (map object_at_first function.fresh) ≡ length function.fresh = length-map function.fresh object_at_first in
    let inside : function.frame + length (map object_at_first function.fresh) ≤ length objects = h.within in
    let reaches : function.frame + length function.fresh ≤ length objects = omega (arith, inside, count) in
    record {
      within = reaches;
      few = omega (arith, reaches, bound);
      formed = ap (λ n. forms (take n (drop function.frame objects))) (sym count) ∙ ap forms h.stands ∙ h.unset;
      parameters = h.parameters;
    }

pub data-frames : (files : List CFile) (linked : LinkedProgram) → program_of linked ≡ program files → length linked.objects < 2 ^ 64 → FramesStand linked (program_of linked).objects
data-frames files linked is few number function at =
    let own = length linked.functions in
    let count : length (map object_of linked.objects) ≡ length linked.objects = length-map linked.objects object_of in
    data-frame own function (program_of linked).objects (omega (arith, count, few))
    (subst (λ zs. FrameIn zs (function_of own function)) (ap (λ (p : Program). p.objects) (sym is))
    (program-frames files number (function_of own function)
    (ap (λ (p : Program). slice_get p.functions number) (sym is) ∙ map_at (function_of own) linked.functions number function at)))
