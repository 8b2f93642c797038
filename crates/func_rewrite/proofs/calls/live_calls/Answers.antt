use Rattle.std.proofs.Common.{All, ap, arith, length, subst, sym, ◌<◌, ◌+◌, ◌∙◌, ◌≡◌}
use Rattle.wa_types.specs.Pausing.{places_from}
use Rattle.wa_types.specs.View.{func_of, module_of}
use Rattle.run_theory.specs.FlatView.{flat_func_of}
use Rattle.call_graph.specs.Settings.{settings_of}
use Rattle.flow_rewrite.specs.Numbering.{callees, gets_number}
use Rattle.flow_rewrite.proofs.NumberingLemmas.{callees_count}
use Rattle.flow_rewrite.specs.Emitting.{Rises}
use Rattle.guard_form.specs.Pieces.{call_total}
use Rattle.func_rewrite.proofs.CallNumbers.{places_rise}
use Rattle.func_rewrite.proofs.WrittenFuncs.{few_calls, fits, numbers}
use Rattle.live_locals.specs.LiveAt.{LiveRows}
use Rattle.func_rewrite.proofs.SetFields.{places_below}
use Rattle.func_rewrite.proofs.calls.live_calls.Goals as goal

pub number_calls-requires : goal.number_calls-requires
number_calls-requires c =
    few_calls (module_of c.args.pass.now.valid.now) (settings_of c.args.pass.now.settings.now) c.args.pass.now.which.now (func_of c.args._source.now) c.args.flat.now c.requires.valid c.requires.sizes c.requires.flat

pub live_rows-requires-clause-fits : goal.live_rows-requires-clause-fits
live_rows-requires-clause-fits c =
    fits (module_of c.args.pass.now.valid.now) (settings_of c.args.pass.now.settings.now) c.args.pass.now.which.now (func_of c.args._source.now) c.args.flat.now c.requires.valid c.requires.sizes c.requires.flat

pub live_rows-requires-clause-rises : goal.live_rows-requires-clause-rises
live_rows-requires-clause-rises c =
    subst Rises (sym (c.deref.ensures.value ∙ c.in_ok-numbers.ensures))
    (places_rise (gets_number c.args.pass.now.which.now c.args.pass.now.listed.now c.args.pass.now.settings.now.ignore_indirect) 0 (callees (flat_func_of c.args.flat.now.func).body))

pub live_rows-requires-clause-calls : goal.live_rows-requires-clause-calls
live_rows-requires-clause-calls c =
    let body = (flat_func_of c.args.flat.now.func).body in
    let z : 0 + length (callees body) ≡ call_total body = let k = callees_count body in omega (arith, k) in
    subst (All (λ n. n < call_total body)) (sym (c.deref.ensures.value ∙ c.in_ok-numbers.ensures))
    (subst (λ b. All (λ n. n < b) (places_from (gets_number c.args.pass.now.which.now c.args.pass.now.listed.now c.args.pass.now.settings.now.ignore_indirect) 0 (callees body))) z
    (places_below (gets_number c.args.pass.now.which.now c.args.pass.now.listed.now c.args.pass.now.settings.now.ignore_indirect) 0 (callees body)))

pub live_rows-requires-clause-few : goal.live_rows-requires-clause-few
live_rows-requires-clause-few c =
    few_calls (module_of c.args.pass.now.valid.now) (settings_of c.args.pass.now.settings.now) c.args.pass.now.which.now (func_of c.args._source.now) c.args.flat.now c.requires.valid c.requires.sizes c.requires.flat

pub returns : goal.returns
returns c = record {
  numbers =
      c.in_ok-numbers.ensures ∙ ap (λ l. places_from (gets_number c.args.pass.now.which.now l c.args.pass.now.settings.now.ignore_indirect) 0 (callees (flat_func_of c.args.flat.now.func).body)) c.requires.listed
      ∙ numbers (module_of c.args.pass.now.valid.now) (settings_of c.args.pass.now.settings.now) c.args.pass.now.which.now (func_of c.args._source.now) c.args.flat.now c.requires.valid c.requires.sizes c.requires.flat;
  rows = subst (λ ns. LiveRows (flat_func_of c.args.flat.now.func) ns c.in_ok-rows.rows.items) c.deref.ensures.value c.in_ok-rows.ensures;
}
