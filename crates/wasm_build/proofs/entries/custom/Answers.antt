use Rattle.std.proofs.Common.{refl, sym, ◌∙◌}
use Rattle.std.proofs.lemmas.Result.{err_from_is_err_and}
use Rattle.wa_types.specs.Spells.{Exactly, Text}
use Rattle.wa_types.specs.View.{custom_of}
use Rattle.wasm_build.proofs.Betweens.{parts, from_here, behind_first, fails, built_alone}
use Rattle.wasm_build.proofs.SectionParts.{content, cut_content, left_is}
use Rattle.wasm_build.proofs.Steps.{never}
use Rattle.wasm_build.proofs.entries.custom.Goals as goal

pub returns-in_err-name-clause-built : goal.returns-in_err-name-clause-built
returns-in_err-name-clause-built c = record {
  built = λ more x end b.
      let p = err_from_is_err_and c.from_residual-in_err-name.result c.from_residual-in_err-name.ensures.1 in
      let k = content x _ _ _ _ _ _ more end c.in_ok-size.ensures.read c.in_ok-take.ensures.ok c.in_ok-take.ensures.len c.in_ok-take.ensures.at b in
      let w = parts (Text x.name) (Exactly x.bytes) _ _ (from_here _ _ _ _ c.new-content.ensures k.between) in
      fails custom_of more _ x _ end _ _ p.1 p.2 (λ none. built_alone x.name w.middle c.in_err-name.ensures.built w.first refl);
}

pub returns-clause-built : goal.returns-clause-built
returns-clause-built c = record {
  built = λ more x end b.
      let k = content x _ _ _ _ _ _ more end c.in_ok-size.ensures.read c.in_ok-take.ensures.ok c.in_ok-take.ensures.len c.in_ok-take.ensures.at b in
      let w = parts (Text x.name) (Exactly x.bytes) _ _ (from_here _ _ _ _ c.new-content.ensures k.between) in
      let g = built_alone x.name w.middle c.in_ok-name.ensures.built w.first in
      let r = left_is x.bytes _ _ (behind_first _ _ _ _ _ w g.1) in
      let bytes = c.in_ok-bytes.ensures.items ∙ c.rest.ensures ∙ r in
      (λ i. record { after = sym k.behind i; name = g.0 i; bytes = bytes i }, k.ends);
}

pub returns-in_err-take-clause-built : goal.returns-in_err-take-clause-built
returns-in_err-take-clause-built c =
    let p = err_from_is_err_and c.from_residual-in_err-take.result c.from_residual-in_err-take.ensures.1 in
    never p.1 (λ more x end b none. cut_content x _ _ _ _ more end c.in_ok-size.ensures.read c.in_err-take.ensures.err b none)
