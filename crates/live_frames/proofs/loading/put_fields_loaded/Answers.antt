use Rattle.std.proofs.Common.{◌+◌, arith}
use Rattle.wa_types.specs.Syntax.{local_get, local_set, plain}
use Rattle.local_spill.specs.Spilling.{loaded_value}
use Rattle.local_spill.specs.declared.frames.Place.{Place}
use Rattle.live_frames.proofs.FieldSteps.{part_most, size_step}
use Rattle.live_frames.proofs.PutSteps.{put_same, loaded_step, loaded_end}
use Rattle.live_frames.proofs.loading.put_fields_loaded.Goals as goal

pub overflow_add-place : goal.overflow_add-place
overflow_add-place c =
    let e = size_step c.args.fields.now c.loop-field.field-index _ c.args.offset c.loop-field.place c.width-place.result
    (omega (arith, c.loop-field-test.true)) c.loop-field.invariant.0 c.width-place.ensures in
    let m = part_most c.args.fields.now (c.loop-field.field-index + 1) in
    omega (arith, c.requires.few, c.requires.offset)

pub loop-field-preserved : goal.loop-field-preserved
loop-field-preserved c = (
  size_step c.args.fields.now c.loop-field.field-index _ c.args.offset c.loop-field.place c.width-place.result (omega (arith, c.loop-field-test.true)) c.loop-field.invariant.0 c.width-place.ensures,
  loaded_step _ _ _ _ _ _ c.args.fields.now c.loop-field.field-index _ (omega (arith, c.loop-field-test.true)) c.loop-field.invariant.0 c.loop-field.invariant.1
      (put_same _ _ (λ (p : Place) k. plain (local_get c.args.scratch) (loaded_value p.ty p.offset (plain (local_set p.local) k))) _ _ c.field_at.ensures c.in_ok-put_loaded.ensures),
)

pub returns : goal.returns
returns c = loaded_end _ _ _ _ c.args.fields.now c.loop-field.field-index (omega (arith, c.loop-field-test.false)) c.loop-field.invariant.1
