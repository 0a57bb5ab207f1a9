use Rattle.std.proofs.Common.{refl}
use Rattle.passive_store.specs.Log.{log_map}
use Rattle.passive_blocks.specs.Conversion.{old_log}
use Rattle.passive_blocks.proofs.Converted.{keeps_as_log}
use Rattle.passive_blocks.proofs.law.a_log_to_be_converted_keeps_its_bodies.Goals as goal

pub returns : goal.returns
returns c = λ node image sized old. keeps_as_log node image (log_map node (old_log image)) sized old refl
