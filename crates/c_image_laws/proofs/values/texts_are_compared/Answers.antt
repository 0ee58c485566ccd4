use Rattle.c_image_laws.proofs.TextValues.{relation_meant, comparison_given, texts_meant}
use Rattle.c_image_laws.proofs.values.texts_are_compared.Goals as goal

pub returns : goal.returns
returns c = record { relations = relation_meant; comparison = comparison_given; functions = texts_meant }
