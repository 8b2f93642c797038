use Rattle.std.proofs.Common.{◌<◌, ◌^◌, ◌++◌, ◌∙◌, ap, length, map, arith, subst, sym}
use Rattle.wa_types.specs.Encoding.{customs_behind}
use Rattle.wa_types.specs.View.{module_of, custom_of}
use Rattle.wasm_encode.specs.Around.{section_around}
use Rattle.wasm_encode.proofs.AroundLemmas.{section_is, customs_same, place_fits, customs_fit}
use Rattle.wasm_encode.proofs.ModuleLemmas.{put_first, put_more, put_no_more, first_length, more_length}
use Rattle.wasm_encode.proofs.around.put_around.Goals as goal

pub loop-id-init : goal.loop-id-init
loop-id-init c = record {
  put = λ p a e. put_first p c.args.out.now.items c.extend_from_slice.new.self.items c.in_ok-extend_from_slice.ensures.ok;
  left = λ p a. let l = first_length p in omega (arith, l);
}

pub put_place-requires-clause-locals : goal.put_place-requires-clause-locals
put_place-requires-clause-locals c = c.requires.1.locals

pub put_place-requires-clause-fits : goal.put_place-requires-clause-fits
put_place-requires-clause-fits c =
    subst (λ es. length (section_around c.loop-id.id (module_of c.args.module.now) es) < 2 ^ 64) (sym c.requires.2)
    (place_fits (module_of c.args.module.now) c.requires.0 c.requires.1 c.loop-id.id (omega arith) (c.loop-id.invariant.left c.requires.0 c.requires.1))

pub put_customs-requires : goal.put_customs-requires
put_customs-requires c =
    subst (λ cs. length (customs_behind c.loop-id.id (map custom_of cs)) < 2 ^ 64) (sym c.deref.ensures.value)
    (customs_fit (module_of c.args.module.now) c.requires.0 c.requires.1 c.loop-id.id (omega arith) (c.loop-id.invariant.left c.requires.0 c.requires.1))

pub loop-id-preserved : goal.loop-id-preserved
loop-id-preserved c =
    let m = module_of c.args.module.now in
    let id = c.loop-id.id in
    let old = c.loop-id.out.items in
    let middle = c.put_place.new.out.items in
    record {
      put = λ p a e.
          let section = c.in_ok-put_place.ensures ∙ ap (λ es. old ++ section_around id m es) e ∙ ap (λ bs. old ++ bs) (sym (section_is m p a id)) in
          let customs = c.in_ok-put_customs.ensures ∙ ap (λ cs. middle ++ customs_behind id (map custom_of cs)) c.deref.ensures.value
          ∙ ap (λ cs. middle ++ customs_behind id cs) (sym (customs_same m p a)) in
          put_more p id old middle c.put_customs.new.out.items _ (omega arith) section customs (c.loop-id.invariant.put p a e);
      left = λ p a. let l = more_length p id (omega arith) in let h = c.loop-id.invariant.left p a in omega (arith, l, h);
    }

pub returns : goal.returns
returns c = λ p a e. put_no_more p c.loop-id.id c.loop-id.out.items _ (omega arith) (c.loop-id.invariant.put p a e)
