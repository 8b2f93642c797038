-- Words of small commands that the definitions compute, wrong readings beside right ones.
use Rattle.std.proofs.Common.{◌≡◌, [], ◌∷◌, Some, None, Bool, false, true, refl}
use Rattle.std.specs.Prelude.{codes}
use Rattle.std.specs.Str.{is_utf8, chars}
use Rattle.std.proofs.Math.Utf8.{encode}
use Rattle.std.specs.Fmt.{digits}
use Rattle.wa_types.specs.Pausing.{Policy, every, save_all, save_live}
use Rattle.script_model.specs.Command.{transform}
use Rattle.script_model.specs.Spelled.{Spelled, spelled, rewrites, hosts, runs, generates, saves, continues}

-- ---- a script alone

hosts_script : spelled (codes "host" ∷ codes "s" ∷ []) ≡ Some (hosts (codes "s"))
unfolding is_utf8 chars encode digits
hosts_script = refl

runs_script : spelled (codes "run" ∷ codes "s" ∷ []) ≡ Some (runs (codes "s"))
unfolding is_utf8 chars encode digits
runs_script = refl

-- behind `--` a name may begin with `-`
hyphened_script : (spelled (codes "host" ∷ codes "--" ∷ codes "-s" ∷ []) ≡ Some (hosts (codes "-s"))) × (spelled (codes "host" ∷ codes "-s" ∷ []) ≡ None)
unfolding is_utf8 chars encode digits
hyphened_script = (refl, refl)

-- the script is one
no_script : spelled (codes "run" ∷ []) ≡ None
unfolding is_utf8 chars encode digits
no_script = refl

two_scripts : spelled (codes "run" ∷ codes "a" ∷ codes "b" ∷ []) ≡ None
unfolding is_utf8 chars encode digits
two_scripts = refl

-- the options of `transform` are none of these commands
no_options : (spelled (codes "host" ∷ codes "--imports" ∷ codes "env.a" ∷ codes "s" ∷ []) ≡ None) × (spelled (codes "host" ∷ codes "--ignore-indirect" ∷ codes "s" ∷ []) ≡ None)
unfolding is_utf8 chars encode digits
no_options = (refl, refl)

-- ---- a number and a file

generates_four : spelled (codes "gen" ∷ codes "4" ∷ codes "out" ∷ []) ≡ Some (generates 4 (codes "out"))
unfolding is_utf8 chars encode digits
generates_four = refl

generates_most : spelled (codes "gen" ∷ codes "4000" ∷ codes "out" ∷ []) ≡ Some (generates 4000 (codes "out"))
unfolding is_utf8 chars encode digits
generates_most = refl

-- from 1 to 4,000, without a leading zero or a sign
no_number :
    (spelled (codes "gen" ∷ codes "04" ∷ codes "out" ∷ []) ≡ None) × (spelled (codes "gen" ∷ codes "+4" ∷ codes "out" ∷ []) ≡ None)
    × (spelled (codes "gen" ∷ codes "0" ∷ codes "out" ∷ []) ≡ None) × (spelled (codes "gen" ∷ codes "4001" ∷ codes "out" ∷ []) ≡ None)
unfolding is_utf8 chars encode digits
no_number = (refl, refl, refl, refl)

no_output : spelled (codes "gen" ∷ codes "4" ∷ []) ≡ None
unfolding is_utf8 chars encode digits
no_output = refl

-- ---- snapshots

saves_script : (spelled (codes "save" ∷ codes "s" ∷ codes "1" ∷ codes "snap" ∷ []) ≡ Some (saves (codes "s") 1 (codes "snap")))
    × (spelled (codes "save" ∷ codes "s" ∷ codes "1000000000" ∷ codes "snap" ∷ []) ≡ Some (saves (codes "s") 1000000000 (codes "snap")))
unfolding is_utf8 chars encode digits
saves_script = (refl, refl)

-- from 1 to 1,000,000,000, without a leading zero
no_events :
    (spelled (codes "save" ∷ codes "s" ∷ codes "0" ∷ codes "snap" ∷ []) ≡ None) × (spelled (codes "save" ∷ codes "s" ∷ codes "1000000001" ∷ codes "snap" ∷ []) ≡ None)
    × (spelled (codes "save" ∷ codes "s" ∷ codes "01" ∷ codes "snap" ∷ []) ≡ None)
unfolding is_utf8 chars encode digits
no_events = (refl, refl, refl)

continues_script : spelled (codes "continue" ∷ codes "s" ∷ codes "snap" ∷ []) ≡ Some (continues (codes "s") (codes "snap"))
unfolding is_utf8 chars encode digits
continues_script = refl

-- the files are three and two
no_snap :
    (spelled (codes "save" ∷ codes "s" ∷ codes "1" ∷ []) ≡ None) × (spelled (codes "save" ∷ codes "s" ∷ codes "1" ∷ codes "snap" ∷ codes "more" ∷ []) ≡ None)
    × (spelled (codes "continue" ∷ codes "s" ∷ []) ≡ None) × (spelled (codes "continue" ∷ codes "s" ∷ codes "snap" ∷ codes "more" ∷ []) ≡ None)
unfolding is_utf8 chars encode digits
no_snap = (refl, refl, refl, refl)

-- they have no option, and `--` ends the options
no_snap_options :
    (spelled (codes "save" ∷ codes "--save=live" ∷ codes "s" ∷ codes "1" ∷ codes "snap" ∷ []) ≡ None) × (spelled (codes "continue" ∷ codes "s" ∷ codes "-t" ∷ []) ≡ None)
    × (spelled (codes "continue" ∷ codes "s" ∷ codes "--" ∷ codes "-t" ∷ []) ≡ Some (continues (codes "s") (codes "-t")))
unfolding is_utf8 chars encode digits
no_snap_options = (refl, refl, refl)

-- no other command has a third file
no_third : (spelled (codes "transform" ∷ codes "a" ∷ codes "b" ∷ codes "c" ∷ []) ≡ None) × (spelled (codes "gen" ∷ codes "4" ∷ codes "a" ∷ codes "b" ∷ []) ≡ None)
    × (spelled (codes "run" ∷ codes "a" ∷ codes "b" ∷ codes "c" ∷ []) ≡ None)
unfolding is_utf8 chars encode digits
no_third = (refl, refl, refl)

-- the first word is a command's name
no_command : (spelled [] ≡ None) × (spelled (codes "hosts" ∷ codes "s" ∷ []) ≡ None) × (spelled (codes "--" ∷ codes "host" ∷ codes "s" ∷ []) ≡ None)
unfolding is_utf8 chars encode digits
no_command = (refl, refl, refl)

-- ---- what frames save

abbrev a_to_b : Policy → Spelled
a_to_b policy = rewrites (transform (record { settings = record { choice = every; ignore_indirect = false; policy = policy }; asserts = false }) (codes "a") (codes "b"))

saves_live :
    (spelled (codes "transform" ∷ codes "--save" ∷ codes "live" ∷ codes "a" ∷ codes "b" ∷ []) ≡ Some (a_to_b save_live))
    × (spelled (codes "transform" ∷ codes "a" ∷ codes "--save=live" ∷ codes "b" ∷ []) ≡ Some (a_to_b save_live))
unfolding is_utf8 chars encode digits
saves_live = (refl, refl)

saves_all :
    (spelled (codes "transform" ∷ codes "a" ∷ codes "b" ∷ []) ≡ Some (a_to_b save_all))
    × (spelled (codes "transform" ∷ codes "a" ∷ codes "b" ∷ codes "--save" ∷ codes "all" ∷ []) ≡ Some (a_to_b save_all))
unfolding is_utf8 chars encode digits
saves_all = (refl, refl)

-- the option has one of the two values, and stands once
no_policy :
    (spelled (codes "transform" ∷ codes "--save" ∷ codes "some" ∷ codes "a" ∷ codes "b" ∷ []) ≡ None)
    × (spelled (codes "transform" ∷ codes "--save=" ∷ codes "a" ∷ codes "b" ∷ []) ≡ None)
    × (spelled (codes "transform" ∷ codes "a" ∷ codes "b" ∷ codes "--save" ∷ []) ≡ None)
    × (spelled (codes "transform" ∷ codes "--save" ∷ codes "-" ∷ codes "a" ∷ codes "b" ∷ []) ≡ None)
    × (spelled (codes "transform" ∷ codes "--save=all" ∷ codes "--save=all" ∷ codes "a" ∷ codes "b" ∷ []) ≡ None)
    × (spelled (codes "run" ∷ codes "--save=live" ∷ codes "s" ∷ []) ≡ None)
unfolding is_utf8 chars encode digits
no_policy = (refl, refl, refl, refl, refl, refl)

-- ---- asserts

abbrev with_asserts : (ignore : Bool) → Spelled
with_asserts ignore = rewrites (transform (record { settings = record { choice = every; ignore_indirect = ignore; policy = save_all }; asserts = true }) (codes "a") (codes "b"))

wants_asserts :
    (spelled (codes "transform" ∷ codes "--asserts" ∷ codes "a" ∷ codes "b" ∷ []) ≡ Some (with_asserts false))
    × (spelled (codes "transform" ∷ codes "a" ∷ codes "--ignore-indirect" ∷ codes "b" ∷ codes "--asserts" ∷ []) ≡ Some (with_asserts true))
unfolding is_utf8 chars encode digits
wants_asserts = (refl, refl)

-- the flag stands once, takes no value, and is one of `transform` alone
no_asserts :
    (spelled (codes "transform" ∷ codes "--asserts" ∷ codes "--asserts" ∷ codes "a" ∷ codes "b" ∷ []) ≡ None)
    × (spelled (codes "transform" ∷ codes "--asserts=true" ∷ codes "a" ∷ codes "b" ∷ []) ≡ None)
    × (spelled (codes "transform" ∷ codes "--assert" ∷ codes "a" ∷ codes "b" ∷ []) ≡ None)
    × (spelled (codes "host" ∷ codes "--asserts" ∷ codes "s" ∷ []) ≡ None) × (spelled (codes "run" ∷ codes "s" ∷ codes "--asserts" ∷ []) ≡ None)
    × (spelled (codes "gen" ∷ codes "--asserts" ∷ codes "4" ∷ codes "out" ∷ []) ≡ None)
unfolding is_utf8 chars encode digits
no_asserts = (refl, refl, refl, refl, refl, refl)
