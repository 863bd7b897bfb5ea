-- `probe`: one of the five extensions.
use mathlib.Core.Path.{sym, ap, ◌∙◌}
use Rattle.rules.specs.Base.{probed}
use Rattle.dispatch.proofs.ExtensionLaws.{probe_finds}
use Rattle.dispatch.proofs.base.probe.Goals as goal

pub returns-in-Ok : goal.returns-in-Ok
returns-in-Ok c = sym (ap probed (sym c.in-Ok.ensures) ∙ probe_finds c.in-Ok.field-0)
