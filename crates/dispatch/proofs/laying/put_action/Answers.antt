-- `put_action`: five stores are one action.
use Rattle.dispatch.proofs.LayingLaws.{stores}
use Rattle.dispatch.proofs.laying.put_action.Goals as goal

pub returns : goal.returns
returns c = stores c.args.out.now c.args.at _ _ _ _ _ c.requires
