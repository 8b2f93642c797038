-- Settings, of the program's values.
use Rattle.wa_types.specs.Pausing.{Choice as PlainChoice, every, nobody, of_list, Policy as PlainPolicy, save_all, save_live, Settings as PlainSettings}
use Rattle.call_graph.specs.declared.settings.Choice.{Choice}
use Rattle.call_graph.specs.declared.settings.Choice.TheVariants.{Every, Nobody, Listed}
use Rattle.call_graph.specs.declared.settings.Policy.{Policy}
use Rattle.call_graph.specs.declared.settings.Policy.TheVariants.{All, Live}
use Rattle.call_graph.specs.declared.settings.Settings.{Settings}

-- which imports are listed
abbrev pub choice_of : Choice → PlainChoice
choice_of Every = every
choice_of Nobody = nobody
choice_of (Listed entries) = of_list entries

-- which locals frames save
abbrev pub policy_of : Policy → PlainPolicy
policy_of All = save_all
policy_of Live = save_live

-- settings; what may pause doesn't depend on asserts, so they have no part in it
abbrev pub settings_of : Settings → PlainSettings
settings_of s = record { choice = choice_of s.choice; ignore_indirect = s.ignore_indirect; policy = policy_of s.policy }
