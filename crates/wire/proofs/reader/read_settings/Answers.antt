use Rattle.wire_theory.specs.Messages.{FitsSettings, settings_bytes}
use Rattle.wire_theory.specs.Shapes.{SettingsShape}
use Rattle.wire_theory.proofs.Shaped.{settings_shaped, not_shaped}
use Rattle.wire.proofs.Unknown.{answered}
use Rattle.wire.proofs.reader.read_settings.Goals as goal

pub returns : goal.returns
returns c = answered _ _ _ _ _ c.ok_or.ensures.value c.settings.ensures (not_shaped settings_bytes FitsSettings SettingsShape settings_shaped _)
