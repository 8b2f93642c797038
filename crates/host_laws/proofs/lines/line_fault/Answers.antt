use Rattle.std.proofs.Common.{true, false, sym, length, arith, ap, ◌∙◌, ◌<◌, Some}
use Rattle.std.specs.Str.{bytes_eq}
use Rattle.wa_model.specs.declared.events.End.TheVariants.{OtherImport}
use Rattle.host_laws.proofs.MetLines.{same_line}
use Rattle.host_laws.proofs.lines.line_fault.Goals as goal

pub returns-then-eq : goal.returns-then-eq
returns-then-eq c =
    let there : 0 < length c.args.lines.now.items = grind (arith, c.in-Some.ensures.item) in
    sym
    (same_line c.args.import c.args.name.now c.args.lines.now.items c.in-Some.line.now true there c.in-Some.ensures.lookup
    (sym (ap (λ n. bytes_eq n c.args.name.now) c.as_str.ensures) ∙ sym c.eq.ensures ∙ c.if-eq.true))

pub returns : goal.returns
returns c =
    let there : 0 < length c.args.lines.now.items = grind (arith, c.in-Some.ensures.item) in
    ap (λ n. Some (OtherImport c.args.import n)) (c.in_ok-named.ensures ∙ c.as_str-2.ensures)
    ∙ sym
    (same_line c.args.import c.args.name.now c.args.lines.now.items c.in-Some.line.now false there c.in-Some.ensures.lookup
    (sym (ap (λ n. bytes_eq n c.args.name.now) c.as_str.ensures) ∙ sym c.eq.ensures ∙ c.if-eq.false))
