use Rattle.std.proofs.Common.{◌++◌, ◌∷◌, [], ap, arith, sym, subst, ◌∙◌}
use Rattle.std.proofs.lemmas.Result.{on_ok_weaker}
use Rattle.call_frames.specs.PlainFrames.{at_these}
use Rattle.call_frames.specs.declared.frames.CallClass.{CallClass}
use Rattle.call_frames.specs.Classes.{Finds, KeepByClasses, with_call}
use Rattle.call_frames.specs.Views.{class_parts, fields_of}
use Rattle.call_frames.proofs.ClassLemmas.{classes_only, keep_new, keep_none, keep_with}
use Rattle.call_frames.proofs.FoundClasses.{class_with, finds_new, finds_with, has_within, no_fields, parts_count, some_fields}
use Rattle.call_frames.proofs.finding.put_call.Goals as goal

pub index_mut-requires : goal.index_mut-requires
index_mut-requires c =
    let has = c.requires.index c.args.set c.in-Some.number.now (sym c.in-Some.ensures.value) in
    let lt = has_within c.in-Some.number.now c.args.classes.now.items _ has in
    omega (arith, lt, c.args.classes.now.ok.0)

pub returns-then-is_empty-clause-more : goal.returns-then-is_empty-clause-more
returns-then-is_empty-clause-more c =
    let none = no_fields c.in_ok-fields-in-None.fields c.args.set.now c.args.types.now c.is_empty.result c.is_empty.ensures c.if-is_empty.true c.in_ok-fields-in-None.ensures.fields in
    record {
      index = c.requires.index;
      keeps = λ sets e h. keep_none c.args.types.now sets c.args.set.now (class_parts c.args.classes.now.items) (classes_only c.args.classes.now.items) none h;
    }

pub returns-in-Some-clause-more : goal.returns-in-Some-clause-more
returns-in-Some-clause-more c =
    let cs = c.args.classes.now.items in
    let n = c.in-Some.number.now in
    let types = c.args.types.now in
    let set = c.args.set.now in
    let new = c.put_number.new.class in
    let has = c.requires.index c.args.set n (sym c.in-Some.ensures.value) in
    let lt = has_within n cs _ has in
    on_ok_weaker c.put_number.result
    (λ e.
    let is = class_with cs n c.args.call _ new lt (e ∙ ap (λ (y : CallClass). y.calls ++ c.args.call ∷ []) c.index_mut.ensures.value)
    (c.put_number.ensures.fields ∙ ap (λ (y : CallClass). y.fields) c.index_mut.ensures.value) in
    record {
      index = subst (Finds types c.args.found.now) (sym is) (finds_with types c.args.found.now (class_parts cs) n c.args.call c.requires.index);
      keeps = λ sets at h. subst (KeepByClasses types (sets ++ set ∷ [])) (sym is)
          (subst (λ m. KeepByClasses types (sets ++ set ∷ []) (with_call n m (class_parts cs))) at (keep_with types sets set n (class_parts cs) (classes_only cs) has h));
    })
    c.put_number.ensures.calls

pub returns-in_ok-insert-in-None-clause-more : goal.returns-in_ok-insert-in-None-clause-more
returns-in_ok-insert-in-None-clause-more c =
    let cs = c.args.classes.now.items in
    let types = c.args.types.now in
    let set = c.args.set.now in
    let fs = fields_of c.in_ok-fields-in-None.fields.items in
    let keeps_it = c.in_ok-fields-in-None.ensures.fields in
    let some = some_fields c.in_ok-fields-in-None.fields c.is_empty.result c.is_empty.ensures c.if-is_empty.false in
    on_ok_weaker c.put_class.result
    (λ is. record {
      index = subst (Finds types c.insert.new.self) (sym is)
          (finds_new types c.args.found.now c.insert.new.self c.args.set (class_parts cs) (c.args.call ∷ []) fs c.len.result (parts_count c.args.classes.now c.len.result c.len.ensures) keeps_it some
          c.in_ok-insert-in-None.ensures.updates c.requires.index);
      keeps = λ sets at h. subst (KeepByClasses types (sets ++ set ∷ [])) (sym is)
          (subst (λ m. KeepByClasses types (sets ++ set ∷ []) (class_parts cs ++ at_these (m ∷ []) fs ∷ [])) at (keep_new types sets set fs (class_parts cs) (classes_only cs) keeps_it some h));
    })
    c.put_class.ensures.part

pub returns-in_ok-insert-in-None-clause-small : goal.returns-in_ok-insert-in-None-clause-small
returns-in_ok-insert-in-None-clause-small c = on_ok_weaker c.put_class.result (λ h. h c.in_ok-fields-in-None.ensures.few c.requires.small) c.put_class.ensures.small
