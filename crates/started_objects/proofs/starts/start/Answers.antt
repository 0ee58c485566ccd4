use Rattle.started_objects.proofs.StartLaws.{plain-start, image-start}
use Rattle.started_objects.proofs.starts.start.Goals as goal

pub returns-in-Plain : goal.returns-in-Plain
returns-in-Plain c = plain-start c.args.run.now c.args.number c.args.object.now c.in-Plain.field-0 c.in-Plain.is c.requires

pub returns-in-Image : goal.returns-in-Image
returns-in-Image c =
    image-start c.args.run.now c.put_bytes.new.run c.args.number c.args.object.now c.in-Image.size c.in-Image.bytes c.as_slice.result.now c.in-Image.is c.requires c.as_slice.ensures c.put_bytes.ensures
