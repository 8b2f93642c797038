use Rattle.std.proofs.Common.{ap, sym, ◌∙◌, map, Vec, Global, List, ℕ, subst}
use Rattle.wa_model.specs.declared.answers.Poke.{Poke}
use Rattle.script_model.specs.ScriptLines.{all_pokes, u32_in, hex_in}
use Rattle.wa_model.specs.View.{poke_of}
use Rattle.script_reader.specs.Reading.{Blames, or_breaks}
use Rattle.script_reader.specs.ReadingParts.{triples}
use Rattle.script_reader.proofs.Pieces.{handed_on}
use Rattle.script_reader.proofs.Lists.{poke_step, poke_fails, pokes_pushed}
use Rattle.script_reader.proofs.answers.all_pokes.Goals as goal

pub returns-in_err-bytes : goal.returns-in_err-bytes
returns-in_err-bytes c =
    handed_on (λ (pokes : Vec Poke Global). map poke_of pokes.items) c.from_residual-in_err-bytes.result c.in_err-bytes.field-0.0
    (or_breaks 4 (all_pokes (triples c.args.words.now))) c.from_residual-in_err-bytes.ensures.1
    (poke_fails c.at-item.result c.bytes-item.result (map poke_of c.loop-rest.pokes.items)
    (all_pokes (triples c.args.words.now)) c.loop-rest.rest.now c.in-len3-up.len_at_least c.at-item.is c.bytes-item.is c.loop-rest.invariant
    c.in_err-bytes.field-0.0 (subst (λ (w : List ℕ). Blames c.in_err-bytes.field-0.0 (or_breaks 4 (hex_in w))) c.as_str-in-len3-up.ensures c.in_err-bytes.ensures))

pub loop-rest-preserved : goal.loop-rest-preserved
loop-rest-preserved c =
    poke_step c.at-item.result c.bytes-item.result (map poke_of c.loop-rest.pokes.items)
    (all_pokes (triples c.args.words.now)) c.loop-rest.rest.now c.in-len3-up.len_at_least c.at-item.is c.bytes-item.is c.loop-rest.invariant
    c.in_ok-at.at c.in_ok-bytes.bytes.items (map poke_of c.put_poke.new.pokes.items)
    (ap (λ (w : List ℕ). or_breaks 4 (u32_in w)) (sym c.as_str.ensures) ∙ ap (or_breaks 4) (sym c.u32_in.ensures) ∙ c.in_ok-at.ensures)
    (ap (λ (w : List ℕ). or_breaks 4 (hex_in w)) (sym c.as_str-in-len3-up.ensures) ∙ c.in_ok-bytes.ensures)
    (pokes_pushed c.loop-rest.pokes.items c.put_poke.new.pokes.items _ c.in_ok-put_poke.ensures)
