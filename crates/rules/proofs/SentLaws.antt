-- The code of a sent fence leaves room for the received one.
use Prim.Native.Nat.{◌<◌}
use native.Mathlib.Omega.{arith}
use Rattle.rules.specs.Names.{last_code}
use Rattle.rules.specs.Fences.{sent_code, function_of}
use Rattle.rules.specs.declared.actions.Fence.{Fence}
use Rattle.rules.specs.declared.actions.Fence.TheVariants.{FenceI, SfenceVma, SfenceVmaAsid}
use Rattle.rules.specs.declared.actions.Fence.TheVariants.{HfenceGvmaVmid, HfenceGvma}
use Rattle.rules.specs.declared.actions.Fence.TheVariants.{HfenceVvmaAsid, HfenceVvma}

pub sent_small : (f : Fence) → sent_code (function_of f) < last_code
unfolding sent_code
sent_small FenceI = omega arith
sent_small SfenceVma = omega arith
sent_small SfenceVmaAsid = omega arith
sent_small HfenceGvmaVmid = omega arith
sent_small HfenceGvma = omega arith
sent_small HfenceVvmaAsid = omega arith
sent_small HfenceVvma = omega arith
