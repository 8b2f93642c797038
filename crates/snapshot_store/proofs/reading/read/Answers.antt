use Rattle.std.proofs.Common.{◌≡◌, ◌∙◌, ◌++◌, Err, arith, drop, map, ap, codes, length-drop}
use Rattle.std.proofs.lemmas.List.{drop_all}
use Rattle.wa_types.specs.Memory.{bytes_of}
use Rattle.snapshot_store.specs.declared.fault.SnapFault.TheVariants.{Refused}
use Rattle.snapshot_store.specs.Views.{record_of}
use Rattle.snapshot_store.proofs.Nothing.{no_beginning, no_count, no_programs, no_more, snapshot_stands}
use Rattle.snapshot_store.proofs.reading.read.Goals as goal

pub returns-in_default-clause-refused : goal.returns-in_default-clause-refused
returns-in_default-clause-refused c = λ u. no_beginning c.args.bytes.now c.in_default.ensures.none

pub returns-in_default-u32_at-clause-refused : goal.returns-in_default-u32_at-clause-refused
returns-in_default-u32_at-clause-refused c = λ u.
    no_count c.args.bytes.now (drop c.events_at.new.at c.args.bytes.now) c.in-Some.events c.in-Some.ensures.is c.in-Some.ensures.fits
    (omega (arith, length-drop c.events_at.new.at c.args.bytes.now, c.in_default-u32_at.ensures.short))

pub returns-in-Err-clause-refused : goal.returns-in-Err-clause-refused
returns-in-Err-clause-refused c = λ u.
    let e : c.in-Err.fault ≡ Refused = cc in
    no_programs c.args.bytes.now (drop c.u32_at.new.at c.args.bytes.now) c.in-Some.events c.in-Some-u32_at.count
    (c.in-Some.ensures.is ∙ ap (λ xs. codes "ASYNCS01" ++ (bytes_of 8 c.in-Some.events ++ xs)) c.in-Some-u32_at.ensures.is) c.in-Some.ensures.fits c.in-Some-u32_at.ensures.fits
    (c.in-Err.ensures.refused (ap Err e))

pub returns-then-at-bytes-clause-refused : goal.returns-then-at-bytes-clause-refused
returns-then-at-bytes-clause-refused c = λ u.
    no_more c.args.bytes.now (drop c.records_at.new.at c.args.bytes.now) c.in-Some.events c.in-Some-u32_at.count (map record_of c.in-Ok.programs.items)
    (c.in-Some.ensures.is
    ∙ ap (λ xs. codes "ASYNCS01" ++ (bytes_of 8 c.in-Some.events ++ xs)) (c.in-Some-u32_at.ensures.is ∙ ap (λ xs. bytes_of 4 c.in-Some-u32_at.count ++ xs) c.in-Ok.ensures.ok.1))
    c.in-Some.ensures.fits c.in-Some-u32_at.ensures.fits c.in-Ok.ensures.ok.0 (omega (arith, length-drop c.records_at.new.at c.args.bytes.now, c.if-at-bytes.true))

pub returns-clause-ok : goal.returns-clause-ok
returns-clause-ok c =
    snapshot_stands c.args.bytes.now (drop c.records_at.new.at c.args.bytes.now) c.in-Some.events c.in-Some-u32_at.count (map record_of c.in-Ok.programs.items)
    (c.in-Some.ensures.is
    ∙ ap (λ xs. codes "ASYNCS01" ++ (bytes_of 8 c.in-Some.events ++ xs)) (c.in-Some-u32_at.ensures.is ∙ ap (λ xs. bytes_of 4 c.in-Some-u32_at.count ++ xs) c.in-Ok.ensures.ok.1))
    c.in-Some.ensures.fits c.in-Some-u32_at.ensures.fits c.in-Ok.ensures.ok.0 (drop_all c.records_at.new.at c.args.bytes.now (omega (arith, c.if-at-bytes.false)))
