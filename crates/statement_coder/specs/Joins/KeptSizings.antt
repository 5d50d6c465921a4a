-- Sizings that are kept in few bytes, and what they are.
use Rattle.std.specs.Prelude.{◌≡◌, None}
use Rattle.definitions.specs.Forms.{absolute}
use Rattle.statement_coder.specs.{declared.kept_sizing.Held.Held, declared.usual_sizing.UsualSizing.UsualSizing, declared.sizing.Sizing.Sizing}
use Rattle.statement_coder.specs.declared.kept_sizing.Held.TheVariants as held
use Rattle.use_blocks.specs.declared.effects.BlockChange.TheVariants as change
use Rattle.use_blocks.specs.declared.effects.LocationSetting.TheVariants as setting

-- a usual sizing
abbrev pub usual_as : UsualSizing → Sizing
usual_as usual = record { usual = usual; change = change.Nothing; setting = setting.Unchanged; location = None; value = absolute usual.number }

-- the sizing that is held
abbrev pub held_as : Held → Sizing
held_as (held.Usual usual) = usual_as usual
held_as (held.Rare sizing) = sizing.value

-- a statement that changes neither block nor location counter, whose counters are one and whose value is a number
pub record IsUsual (sizing : Sizing) : Type 0 where
  pub change : sizing.change ≡ change.Nothing
  pub setting : sizing.setting ≡ setting.Unchanged
  pub location : sizing.location ≡ None
  pub value : sizing.value ≡ absolute sizing.usual.number
