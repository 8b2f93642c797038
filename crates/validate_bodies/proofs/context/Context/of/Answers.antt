use Rattle.std.proofs.Common.{rules, arith, ap, sym, ◌∙◌}
use Rattle.std.proofs.lemmas.List.{length-map}
use Rattle.wa_types.specs.View.{module_of, func_type_of}
use Rattle.validate_bodies.specs.Spaces.{ends_of}
use Rattle.validate_bodies.proofs.ContextLemmas.{sort_there, sorts_in, ends_are, around_is}
use Rattle.validate_bodies.proofs.context.Context.of.Goals as goal

pub index-ty-requires : goal.index-ty-requires
index-ty-requires c = let h = sort_there c.args.module.now c.args.index c.index-func.result.now c.requires.sorts c.requires.index c.index-func.ensures in search rules

pub invariant_of-result : goal.invariant_of-result
invariant_of-result c =
    let e = ends_are c.args.module.now.funcs.items c.args.spaces.now.ends.items c.args.index c.index-func.result.now c.index.result.now c.requires.spaces.ends c.requires.index
    c.index-func.ensures c.index.ensures in (
      c.deref-6.ensures.value ∙ e ∙ ap ends_of (sym c.deref-5.ensures.value),
      λ k d lt. rw (c.deref.ensures.value) (omega (
        arith,
        sorts_in (module_of c.args.module.now) c.deref-2.result.now (c.deref-2.ensures.value
            ∙ c.requires.spaces.sorts) c.requires.sorts k d lt,
        length-map c.args.module.now.types.items func_type_of,
      )),
    )

pub returns : goal.returns
returns c =
    let small = sort_there c.args.module.now c.args.index c.index-func.result.now c.requires.sorts c.requires.index c.index-func.ensures in
    λ f e. around_is c.args.module.now c.args.spaces.now c.requires.spaces c.args.index f c.index-func.result.now c.index-ty.result.now e c.requires.index c.index-func.ensures small
    c.index-ty.ensures _ _ _ _ _ _
    c.deref.ensures.value c.deref-2.ensures.value c.deref-3.ensures.value c.deref-4.ensures.value c.deref-5.ensures.value c.first_result.ensures
