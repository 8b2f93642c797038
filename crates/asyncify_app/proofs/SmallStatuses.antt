-- Scripts that aren't played are refused by small statuses.
use Rattle.std.proofs.Common.{◌≤◌, ℕ, List, Option, arith}
use Rattle.vault_port.specs.Files.{Files}
use Rattle.script_model.specs.Transcript.{Refusal, usage, malformed, float, invalid, limit, nesting, reserved, script, out_of_memory, read_fault, write_fault, snapshot_limit, snapshot_refused}
use Rattle.transcript.specs.Refused.{status_of}
use Rattle.script_setup.specs.Prepared.{IsOfContent}
use Rattle.script_command.specs.declared.way.Way.{Way}
use Rattle.script_command.specs.declared.way.Way.TheVariants.{Run}
use Rattle.script_command.specs.Playing as P
use Rattle.script_command.specs.Playing.{bad_line, bad_module, bad_script, refusal_of_cause}
use Rattle.script_command.proofs.Statuses.{module_content, script_content}
use Rattle.script_command.specs.PlainScripts as K
use Rattle.script_command.specs.PlainScripts.{IsUnplayed, has_unsaved, not_run, refusal_for}

content_small : (r : Refusal) → IsOfContent r → status_of r ≤ 8
content_small (malformed at) h = omega arith
content_small (float at) h = omega arith
content_small (nesting at) h = omega arith
content_small (limit what found) h = omega arith
content_small (invalid func rule at) h = omega arith
content_small (reserved name) h = omega arith
content_small (script line rule) h = omega arith
content_small usage h = absurd h
content_small out_of_memory h = absurd h
content_small (read_fault name) h = absurd h
content_small (write_fault name) h = absurd h
content_small (snapshot_limit found) h = absurd h
content_small snapshot_refused h = absurd h

-- a script that is refused is so by a status up to 8
pub refused_small : (way : Way) (files : Option Files) (name : List ℕ) (cause : P.Cause) → P.IsRefused way files name cause → status_of (refusal_of_cause cause) ≤ 8
refused_small way files name (bad_script r) h = content_small r (script_content h.0 r h.2)
refused_small way files name (bad_module number r) h = content_small r (module_content way files h.0 r h.2)
refused_small way files name (bad_line line rule) h = omega arith

-- so is one that isn't saved or gone on with
pub unplayed_small : (files : Option Files) (name : List ℕ) (cause : K.Cause) → IsUnplayed files name cause → status_of (refusal_for cause) ≤ 8
unplayed_small files name (has_unsaved line) h = omega arith
unplayed_small files name (not_run (bad_script r)) h = refused_small Run files name (bad_script r) h
unplayed_small files name (not_run (bad_module number r)) h = refused_small Run files name (bad_module number r) h.0
unplayed_small files name (not_run (bad_line line rule)) h = refused_small Run files name (bad_line line rule) h.0
