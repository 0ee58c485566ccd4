use Rattle.std.proofs.Common.{length, refl, subst}
use Rattle.run_bytes.specs.Layout.{Stores}
use Rattle.c_tree.specs.LibraryArguments as arguments
use Rattle.library_calls.proofs.CopyLemmas.{overlong}
use Rattle.library_calls.proofs.copies.put_gathered.Goals as goal

pub returns-then-buffer-size : goal.returns-then-buffer-size
returns-then-buffer-size c text holds = (
  c.too_long.ensures (length c.args.buffer.now) (arguments.fitted c.args.size text) c.requires.room (overlong (length c.args.buffer.now) c.args.size text c.if-buffer-size.true),
  refl,
)

pub returns : goal.returns
returns c text holds =
    subst (λ stored. Stores (λ all. arguments.text_stored all c.args.target stored) c.args.run.now c.put_text.new.self c.put_text.result) (c.pad_gathered.ensures text holds.gathered) c.put_text.ensures
