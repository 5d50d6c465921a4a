-- Effects of the code, in the words of the definitions.
use Rattle.definitions.specs.{Settled.{BlockChange, NoChange, Opens, Closes, LocationSetting, Unchanged, Counts, Ended}, Laws.States.Effect}
use Rattle.use_blocks.specs.declared.effects.BlockChange as changes
use Rattle.use_blocks.specs.declared.effects.BlockChange.TheVariants as change
use Rattle.use_blocks.specs.declared.effects.LocationSetting as settings
use Rattle.use_blocks.specs.declared.effects.LocationSetting.TheVariants as setting
use Rattle.use_blocks.specs.declared.effects.Effect as effects

-- the change of the stack
abbrev pub change_as : changes.BlockChange → BlockChange
change_as change.Nothing = NoChange
change_as (change.Opens name) = Opens name
change_as change.Closes = Closes

-- the setting of the location counter
abbrev pub setting_as : settings.LocationSetting → LocationSetting
setting_as setting.Unchanged = Unchanged
setting_as (setting.Counts counting) = Counts counting
setting_as setting.Ended = Ended

-- the effect
abbrev pub effect_as : effects.Effect → Effect
effect_as effect = record {
  change = change_as effect.change;
  position = effect.position;
  setting = setting_as effect.setting;
  number_base = effect.number_base;
  neutral = effect.neutral;
  reached = effect.reached;
}
