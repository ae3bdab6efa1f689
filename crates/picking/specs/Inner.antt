-- What picking answers, computed: the configuration's own refusals, then the setting with the fewest bytes that holds the payload size p, or 74. Nothing here needs
-- to be believed: configuration_words/specs/Picked says it in words. `s` is the configuration.
use Rattle.rules.specs.Verdicts.{accept, refuse}
use Rattle.std.specs.Prelude.{ℕ, ◌≡◌, List, [], get_or, eqb, None, Option, Some}
use Rattle.rules.specs.IfElse.{if_else}
use Rattle.interfaces.specs.Limits.{no_stream}
use Rattle.interfaces.specs.Inner.{streams_of, place_of}
use Rattle.interfaces.specs.declared.Stream.{Stream}
use Rattle.alternate_settings.specs.Inner.{settings_of, fewest_of}
use Rattle.alternate_settings.specs.Holding.{no_setting}
use Rattle.alternate_settings.specs.declared.Setting.{Setting}
use Rattle.configuration.specs.Inner.{ConfigurationIs}
use Rattle.configuration.specs.declared.Configuration.{Configuration}
use Rattle.picking.specs.declared.Picked.{Picked}

-- the settings of the first of n streams whose number is i, with their bytes at its header's endpoint; none where there is no such stream
unfoldable pub settings_in : List ℕ → List Stream → ℕ → ℕ → List Setting
settings_in s l n i = if_else (eqb (place_of l n i) n) [] (settings_of s i (get_or l (place_of l n i) no_stream).endpoint)

-- of the listed ones
abbrev pub settings_for : List ℕ → ℕ → List Setting
settings_for s i = settings_in s (streams_of s).streams (streams_of s).count i

unfoldable pub refused_by : ℕ → ℕ → Picked
refused_by k o = record { verdict = refuse k o; setting = no_setting }

-- 74: no setting is large enough
unfoldable pub answer_of : Option Setting → Picked
answer_of None = refused_by 74 0
answer_of (Some x) = record { verdict = accept; setting = x }

pub data PickIs (s : List ℕ) (i p : ℕ) : Picked → Type 0 where
  own : (c : Configuration) (k o : ℕ) → ConfigurationIs s c → c.verdict ≡ refuse k o → PickIs s i p (refused_by k o)
  picks : (c : Configuration) → ConfigurationIs s c → c.verdict ≡ accept → PickIs s i p (answer_of (fewest_of p (settings_for s i)))
