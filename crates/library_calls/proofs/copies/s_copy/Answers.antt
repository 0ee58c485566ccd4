use Rattle.std.proofs.Common.{length, refl, subst}
use Rattle.std.specs.Prelude.{Err}
use Rattle.run_bytes.specs.Layout.{Stores}
use Rattle.c_tree.specs.LibraryArguments as arguments
use Rattle.library_calls.proofs.CallLemmas.{assigned, not-assigned}
use Rattle.library_calls.proofs.CopyLemmas.{overlong, front-fitted}
use Rattle.library_calls.proofs.copies.s_copy.Goals as goal

pub returns-then-buffer-size : goal.returns-then-buffer-size
returns-then-buffer-size c =
    assigned c.args.run.now c.args.run.now c.args.target c.args.source c.args.target_length c.args.source_length c.in-Ok.size c.in-Ok.text.now (Err c.too_long.result) c.in-Ok.ensures (
      c.too_long.ensures (length c.args.buffer.now) (arguments.fitted c.in-Ok.size c.in-Ok.text.now) c.requires
          (overlong (length c.args.buffer.now) c.in-Ok.size c.in-Ok.text.now c.if-buffer-size.true),
      refl,
    )

pub returns-else-buffer-size : goal.returns-else-buffer-size
returns-else-buffer-size c =
    assigned c.args.run.now c.put_text.new.self c.args.target c.args.source c.args.target_length c.args.source_length c.in-Ok.size c.in-Ok.text.now c.put_text.result c.in-Ok.ensures
    (subst (λ stored. Stores (λ all. arguments.text_stored all c.args.target stored) c.args.run.now c.put_text.new.self c.put_text.result)
    (front-fitted c.args.buffer.now c.copy_text.new.target c.in-Ok.text.now c.in-Ok.size c.if-buffer-size.false c.copy_text.ensures) c.put_text.ensures)

pub returns-in-Err : goal.returns-in-Err
returns-in-Err c =
    (not-assigned c.args.run.now c.args.target c.args.source c.args.target_length c.args.source_length c.in-Err.fault c.in-Err.ensures, refl)
