use Rattle.epl_syntax.proofs.KeptTypes.{native_kept}
use Rattle.epl_syntax.proofs.types.Types.native.Goals as goal

pub invariant_of-result : goal.invariant_of-result
invariant_of-result c =
    native_kept c.in_ok-native.native.items c.new.result.items c.in_ok-native.ensures.items c.new.ensures.items
