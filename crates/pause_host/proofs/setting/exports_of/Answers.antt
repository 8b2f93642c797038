use Rattle.std.proofs.Common.{List, ℕ, sym, ap, ◌∙◌}
use Rattle.std.specs.List.{find}
use Rattle.wa_types.specs.declared.syntax.Export.{Export}
use Rattle.wa_types.specs.Validity.{same_name}
use Rattle.wa_model.specs.Protocol.{index_of}
use Rattle.pause_host.proofs.Parts.{five}
use Rattle.pause_host.proofs.setting.exports_of.Goals as goal

pub returns : goal.returns
returns c = λ p e.
    let f = λ (name : List ℕ) (es : List Export). index_of (find (λ (y : Export). same_name y.name name) es) in
    five _ _ _ _ _ _ _ _ _ _ (c.exported_as-start_unwind.ensures ∙ ap (f _) (sym e)) (c.exported_as-stop_unwind.ensures ∙ ap (f _) (sym e)) (c.exported_as-start_rewind.ensures
    ∙ ap (f _) (sym e)) (c.exported_as-stop_rewind.ensures ∙ ap (f _) (sym e))
    (c.exported_as-get_state.ensures ∙ ap (f _) (sym e))
