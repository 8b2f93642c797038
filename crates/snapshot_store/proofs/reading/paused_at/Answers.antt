use Rattle.std.proofs.Common.{◌≡◌, ◌∙◌, ◌++◌, Err, arith, drop, ap, length-drop}
use Rattle.snapshot_store.specs.declared.fault.SnapFault.TheVariants.{Refused}
use Rattle.std.specs.List.{flat_map}
use Rattle.snapshot_store.specs.Snapshots.{global_bytes}
use Rattle.snapshot_store.specs.Parts.{head_bytes}
use Rattle.snapshot_store.specs.Views.{head_of}
use Rattle.snapshot_store.proofs.Nothing.{no_head, no_globals_behind, no_pages, no_memory}
use Rattle.snapshot_store.proofs.reading.paused_at.Goals as goal

pub returns-in_default-clause-refused : goal.returns-in_default-clause-refused
returns-in_default-clause-refused c = λ u. no_head (drop c.args.at.now c.args.bytes.now) (omega (arith, length-drop c.args.at.now c.args.bytes.now, c.in_default.ensures.short))

pub returns-in-Err-clause-refused : goal.returns-in-Err-clause-refused
returns-in-Err-clause-refused c = λ u.
    let e : c.in-Err.fault ≡ Refused = cc in
    no_globals_behind (drop c.args.at.now c.args.bytes.now) (head_of c.in-Some.head) (drop c.head_at.new.at c.args.bytes.now) c.in-Some.ensures.fits c.in-Some.ensures.is
    (c.in-Err.ensures.refused (ap Err e))

pub returns-in_default-u32_at-clause-refused : goal.returns-in_default-u32_at-clause-refused
returns-in_default-u32_at-clause-refused c = λ u.
    no_pages (drop c.args.at.now c.args.bytes.now) (head_of c.in-Some.head) c.in-Ok.globals.items (drop c.globals_at.new.at c.args.bytes.now) c.in-Some.ensures.fits
    (c.in-Some.ensures.is ∙ ap (λ xs. head_bytes (head_of c.in-Some.head) ++ xs) c.in-Ok.ensures.ok.1) c.in-Ok.ensures.ok.0
    (omega (arith, length-drop c.globals_at.new.at c.args.bytes.now, c.in_default-u32_at.ensures.short))

pub returns-in-Err-memory_at-clause-refused : goal.returns-in-Err-memory_at-clause-refused
returns-in-Err-memory_at-clause-refused c = λ u.
    let e : c.in-Err-memory_at.fault ≡ Refused = cc in
    no_memory (drop c.args.at.now c.args.bytes.now) (head_of c.in-Some.head) c.in-Ok.globals.items c.in-Some-u32_at.pages (drop c.u32_at.new.at c.args.bytes.now)
    c.in-Some.ensures.fits
    (c.in-Some.ensures.is ∙ ap (λ xs. head_bytes (head_of c.in-Some.head) ++ xs) (c.in-Ok.ensures.ok.1 ∙ ap (λ xs. flat_map global_bytes c.in-Ok.globals.items ++ xs) c.in-Some-u32_at.ensures.is))
    c.in-Ok.ensures.ok.0 c.in-Some-u32_at.ensures.fits (omega (arith, length-drop c.u32_at.new.at c.args.bytes.now, c.in-Err-memory_at.ensures.refused (ap Err e)))
