use Rattle.std.proofs.Common.{List, subst, ℕ}
use Rattle.std.proofs.lemmas.Result.{IfOk-weaker}
use Rattle.script_reader.specs.Views.{script_of}
use Rattle.module_files.specs.Faults.{IsFaultOf}
use Rattle.script_setup.specs.Scripts.{IsNoScript, IsScript}
use Rattle.script_setup.proofs.Fronts.{if_err_weaker, no_script_of, script_of_file}
use Rattle.script_setup.proofs.scripts.fetch_script.Goals as goal

pub returns-clause-script : goal.returns-clause-script
returns-clause-script g c =
    IfOk-weaker c.script_in.result _ _
    (λ s h. script_of_file c.args.name.now c.in-Ok.bytes.items (g.V.Vault.files c.args.vault.now) (script_of s) c.in-Ok.ensures.whole c.in-Ok.ensures.there
    (subst (λ (b : List ℕ). IsScript b (script_of s)) c.deref.ensures.value h)) c.script_in.ensures.script

pub returns-clause-refused : goal.returns-clause-refused
returns-clause-refused g c =
    if_err_weaker c.script_in.result _ _
    (λ fault h. no_script_of c.args.name.now c.in-Ok.bytes.items (g.V.Vault.files c.args.vault.now) fault c.in-Ok.ensures.whole c.in-Ok.ensures.there
    (subst (λ (b : List ℕ). IsFaultOf (IsNoScript b) fault) c.deref.ensures.value h)) c.script_in.ensures.refused
