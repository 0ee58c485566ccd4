use Rattle.c_linker.proofs.PartLaws.{function-linked, function-lost}
use Rattle.c_linker.proofs.functions.link_next.Goals as goal

pub returns-in_err-made-clause-made : goal.returns-in_err-made-clause-made
returns-in_err-made-clause-made c = λ own.
    function-lost own c.from_residual.result _ _ c.args.functions.now c.args.functions.now c.args.objects.now c.link_function.new.objects c.args.objects.now c.link_function.new.objects c.from_residual.ensures.1 (c.in_err-made.ensures.made own)

pub returns-clause-made : goal.returns-clause-made
returns-clause-made c = λ own.
    function-linked own c.in_ok-made.made _ c.args.functions.now c.push.new.self c.args.objects.now c.link_function.new.objects c.in_ok-push.ensures.ok (c.in_ok-made.ensures.made own)
