use Rattle.std.proofs.Common.{◌≡◌, ◌++◌, [], ◌∷◌, refl, ap, sym, ◌∙◌}
use Rattle.std.proofs.lemmas.Result.{on_ok_weaker}
use Rattle.wa_types.specs.View.{code, in_front}
use Rattle.wa_types.proofs.ViewLemmas.{in_block, in_loop, in_if}
use Rattle.wa_types.specs.Levels.{closed}
use Rattle.wa_types.proofs.LevelLemmas.{turning, closing}
use Rattle.wa_types.proofs.levels.close.Goals as goal
use Rattle.wa_types.proofs.levels.close.Goals.{in-Block, in-Loop, in-Else}

pub returns-in-Then : goal.returns-in-Then
returns-in-Then c =
    on_ok_weaker c.enter.result
    (turning c.args.copying.now.levels.items c.args.level c.replace-inner.new.dest c.replace-inner.result c.args.copying.now.made c.in-Then.else_arm c.enter.new.copying c.replace-inner.ensures.after
    c.replace-inner.ensures.value c.in-Then.is) c.enter.ensures

pub returns : goal.returns
returns c =
    let level = c.args.level in
    let rest = code level.behind.now in
    let is : in_front c.match-opened.construct rest ≡ closed level.opened level.ty (code c.replace-inner.result.items) rest = elim c.match-opened.branch [
      | in-Block w ↦ ap (λ y. in_front y rest) w.construct-is ∙ in_block level.ty c.replace-inner.result rest ∙ ap (λ o. closed o level.ty (code c.replace-inner.result.items) rest) (sym w.in-Block.is)
      | in-Loop w ↦ ap (λ y. in_front y rest) w.construct-is ∙ in_loop level.ty c.replace-inner.result rest ∙ ap (λ o. closed o level.ty (code c.replace-inner.result.items) rest) (sym w.in-Loop.is)
      | in-Else w ↦ ap (λ y. in_front y rest) w.construct-is ∙ in_if level.ty w.in-Else.then_arm c.replace-inner.result rest
          ∙ ap (λ o. closed o level.ty (code c.replace-inner.result.items) rest) (sym w.in-Else.is)
    ] in
    closing c.args.copying.now.levels.items level c.match-opened.construct (closed level.opened level.ty (code c.args.copying.now.made.items) rest) _ refl
    (c.in_ok-push.ensures.items ∙ ap (λ (v : _). v.items ++ c.match-opened.construct ∷ []) c.replace-inner.ensures.after) refl
    (is ∙ ap (λ (v : _). closed level.opened level.ty (code v.items) rest) c.replace-inner.ensures.value)
